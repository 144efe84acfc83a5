-- Pasts of which one has bytes where the other doesn't tell them, and how notes keep that.
use Rattle.std.proofs.Common.{◌≡◌, ◌+◌, ◌<◌, ℕ, Bool, true, false, List, [], ◌∷◌, length, map, get_or, Option, Some, None, refl, ap, sym, ◌∙◌, subst, arith}
use Rattle.std.specs.Prelude.{⊤, ◌==◌, if◌then◌else◌, nat_lt, slice_index}
use Rattle.std.specs.List.{AllZip, range_with_len}
use Rattle.std.proofs.lemmas.List.Elements.{AllZip-push}
use Rattle.std.proofs.lemmas.Slice.Zip.{AllZip-long}
use Rattle.std.proofs.lemmas.List.FromFn.{get_or-map-range_with_len, length-map-range_with_len}
use Rattle.fam_base.specs.declared.cmd.Cmd.{Cmd}
use Rattle.fam_base.specs.declared.entry.Entry.{Entry}
use Rattle.fam_base.specs.Image.{Image, line_at}
use Rattle.fam_format.specs.Layout.{least_lines}
use Rattle.fam_format.specs.Reading as read
use Rattle.fam_format.specs.Reading.{Lines, Reading, reading}
use Rattle.fam_machine.specs.Mkfs.{first_sent}
use Rattle.fam_rules.specs.Asks.{File, entries_of}
use Rattle.fam_rules.specs.Content.{content_byte, fill}
use Rattle.fam_rules.specs.Solo.{content_of, held_file}
use Rattle.fam_journal.specs.Notes.{Answer, Note, Host, Made, Cut, Start, Mark, Found, Writes, Answered}
use Rattle.fam_journal.specs.Past.{Bad, HostPast, Past, Sound, State, acknowledges, cmd_of, ended_state, filled_bytes, finds, first_past}
use Rattle.fam_journal.specs.Past.{past_after, past_behind, past_of, pends, settled_length, shows, shows_count, state_read, with_pending}
use Rattle.fam_judge.specs.Untold.{untold_cmd, untold_note, untold_notes}
use Rattle.fam_judge.proofs.Pairs.{Pairs, pairs_changed, pairs_get, pairs_map}
use Rattle.fam_judge.proofs.Sizes.{acknowledged, effect, ended_is}

-- this holds of each command that begins
abbrev pub StartSuits : (Cmd → Type 0) → Note → Type 0
StartSuits Suits (Start h cmd) = Suits cmd
StartSuits Suits note = ⊤

-- in these notes
abbrev pub StartsSuit : (Cmd → Type 0) → List Note → Type 0
StartsSuit Suits [] = ⊤
StartsSuit Suits (note ∷ notes) = StartSuits Suits note × StartsSuit Suits notes

-- `Stands i told byte`: this byte may stand at offset i, where this is told
module _ (Stands : ℕ → ℕ → ℕ → Type 0) where
  -- as many bytes, each of which may stand at its place
  pub record FillBytes (told bytes : List ℕ) : Type 0 where
    pub count : length bytes ≡ length told
    pub each : (i : ℕ) → i < length told → Stands i (slice_index told i) (slice_index bytes i)

  -- the same entry, with such bytes
  pub record FillsFile (told file : File) : Type 0 where
    pub entry : told.entry ≡ file.entry
    pub bytes : FillBytes told.bytes file.bytes

  -- the same entries, so
  abbrev pub FillFiles : List File → List File → Type 0
  FillFiles told files = AllZip FillsFile told files

  -- the same state, so
  abbrev pub FillsState : State → State → Type 0
  FillsState (Sound p history pending) (Sound q files waits) = (p ≡ q) × FillFiles history files × Pairs FillsFile pending waits
  FillsState (Sound p history pending) (Bad origin damage gate) = ⊥
  FillsState (Bad origin damage gate) (Sound q files waits) = ⊥
  FillsState (Bad origin damage gate) (Bad from why count) = (origin ≡ from) × (damage ≡ why) × (gate ≡ count)

  -- States.

  -- by a test
  pub filled_if : (b c : Bool) → b ≡ c → (s t x y : State) → FillsState s x → FillsState t y
      → FillsState (if b then s else t) (if c then x else y)
  filled_if true true same s t x y one other = one
  filled_if false false same s t x y one other = other
  filled_if true false same s t x y one other = absurd (cc)
  filled_if false true same s t x y one other = absurd (cc)

  -- there are as many entries
  pub filled_length : (a b : List File) → FillFiles a b → length a ≡ length b
  filled_length a b files = sym (AllZip-long FillsFile a b files)

  -- and they are the same
  pub filled_entries : (a b : List File) → FillFiles a b → entries_of a ≡ entries_of b
  filled_entries a b files = pairs_map FillsFile (λ (f : File). f.entry) (λ (f : File). f.entry) (λ x y one. one.entry) a b files

  -- with what pends
  pub filled_all : (a b : List File) (x y : Option File) → FillFiles a b → Pairs FillsFile x y → FillFiles (with_pending a x) (with_pending b y)
  filled_all a b None None files more = files
  filled_all a b None (Some y) files more = absurd more
  filled_all a b (Some x) None files more = absurd more
  filled_all a b (Some x) (Some y) files more = AllZip-push FillsFile a b x y files more

  -- behind what is shown
  pub shows_filled : (m : ℕ) (s t : State) → FillsState s t → FillsState (shows m s) (shows m t)
  shows_filled m (Sound p a x) (Sound q b y) is =
      filled_if (m == length a + 1) (m == length b + 1) (ap (λ (n : ℕ). m == n + 1) (filled_length a b is.1)) _ _ _ _
      (is.0, filled_all a b x y is.1 is.2, tt) is
  shows_filled m (Sound p a x) (Bad from why count) is = absurd is
  shows_filled m (Bad origin damage gate) (Sound q b y) is = absurd is
  shows_filled m (Bad origin damage gate) (Bad from why count) is = is

  count_filled : (o : Option ℕ) (s t : State) → FillsState s t → FillsState (shows_count o s) (shows_count o t)
  count_filled None s t is = is
  count_filled (Some m) s t is = shows_filled m s t is

  finds_filled : (n : ℕ) (s t : State) → FillsState s t → FillsState (finds n s) (finds n t)
  finds_filled n (Sound p a x) (Sound q b y) is =
      filled_if (n == length a) (n == length b) (ap (λ (m : ℕ). n == m) (filled_length a b is.1)) _ _ _ _
      (is.0, is.1, tt) (shows_filled n (Sound p a x) (Sound q b y) is)
  finds_filled n (Sound p a x) (Bad from why count) is = absurd is
  finds_filled n (Bad origin damage gate) (Sound q b y) is = absurd is
  finds_filled n (Bad origin damage gate) (Bad from why count) is = is

  pends_filled : (f g : File) (s t : State) → FillsFile f g → FillsState s t → FillsState (pends f s) (pends g t)
  pends_filled f g (Sound p a x) (Sound q b y) one is = (is.0, is.1, one)
  pends_filled f g (Sound p a x) (Bad from why count) one is = absurd is
  pends_filled f g (Bad origin damage gate) (Sound q b y) one is = absurd is
  pends_filled f g (Bad origin damage gate) (Bad from why count) one is = is

  ended_filled : (answer : Answer) (s t : State) → FillsState s t → FillsState (ended_state answer s) (ended_state answer t)
  ended_filled answer s t is =
      subst (λ (x : State). FillsState x (ended_state answer t)) (sym (ended_is answer s))
      (subst (λ (x : State). FillsState (shows_count (effect answer) s) x) (sym (ended_is answer t)) (count_filled (effect answer) s t is))

  -- an entry that is acknowledged
  pub acknowledged_filled : (seq : ℕ) (s t : State) → FillsState s t → FillsState (acknowledges seq s) (acknowledges seq t)
  acknowledged_filled seq s t is =
      subst (λ (x : State). FillsState x (acknowledges seq t)) (sym (acknowledged seq s))
      (subst (λ (x : State). FillsState (shows (seq + 1) s) x) (sym (acknowledged seq t)) (shows_filled (seq + 1) s t is))

  settled_filled : (s t : State) → FillsState s t → settled_length s ≡ settled_length t
  settled_filled (Sound p a x) (Sound q b y) is = filled_length a b is.1
  settled_filled (Sound p a x) (Bad from why count) is = absurd is
  settled_filled (Bad origin damage gate) (Sound q b y) is = absurd is
  settled_filled (Bad origin damage gate) (Bad from why count) is = refl

  -- Pasts.

  module _ (Suits : Cmd → Type 0) where
    -- the command without what isn't told, and the command
    pub record FillsCmd (told cmd : Cmd) : Type 0 where
      pub is : told ≡ untold_cmd cmd
      pub suits : Suits cmd

    -- the same host, but for its command's bytes
    pub record FillsHost (told host : HostPast) : Type 0 where
      pub uuid : told.uuid ≡ host.uuid
      pub cmd : Pairs FillsCmd told.cmd host.cmd
      pub floor : told.floor ≡ host.floor
      pub wrote : told.wrote ≡ host.wrote

    -- the same past, but for bytes
    pub record FillsPast (told past : Past) : Type 0 where
      pub state : FillsState told.state past.state
      pub hosts : AllZip FillsHost told.hosts past.hosts

  -- Each byte may stand where it is told, and what a command fills in where its bytes aren't.
  module _ (Suits : Cmd → Type 0) (itself : (i b : ℕ) → b < 256 → Stands i b b)
      (fills : (c : Cmd) → Suits c → (i : ℕ) → Stands i (content_byte (content_of (untold_cmd c)) i) (content_byte (content_of c) i)) where
    of_known : (f : ℕ → ℕ) (n : ℕ) → ((i : ℕ) → f i < 256) → FillBytes (map f (range_with_len 0 n)) (map f (range_with_len 0 n))
    of_known f n known = record {
      count = refl;
      each = λ i below.
          let short : i < n = subst (λ (k : ℕ). i < k) (length-map-range_with_len f 0 n) below in
          let same : get_or (map f (range_with_len 0 n)) i 0 ≡ f i = get_or-map-range_with_len f 0 n i i 0 short (omega arith) in
          itself i _ (subst (λ (b : ℕ). b < 256) (sym same) (known i));
    }

    of_filled : (f g : ℕ → ℕ) (n : ℕ) → ((i : ℕ) → Stands i (f i) (g i)) → FillBytes (map f (range_with_len 0 n)) (map g (range_with_len 0 n))
    of_filled f g n stands = record {
      count = length-map-range_with_len g 0 n ∙ sym (length-map-range_with_len f 0 n);
      each = λ i below.
          let short : i < n = subst (λ (k : ℕ). i < k) (length-map-range_with_len f 0 n) below in
          let one : get_or (map f (range_with_len 0 n)) i 0 ≡ f i = get_or-map-range_with_len f 0 n i i 0 short (omega arith) in
          let other : get_or (map g (range_with_len 0 n)) i 0 ≡ g i = get_or-map-range_with_len g 0 n i i 0 short (omega arith) in
          subst (λ (b : ℕ). Stands i b (get_or (map g (range_with_len 0 n)) i 0)) (sym one)
          (subst (λ (b : ℕ). Stands i (f i) b) (sym other) (stands i));
    }

    filled_files : (memory : Lines) (entries : List Entry) → FillFiles (map (held_file memory) entries) (map (held_file memory) entries)
    filled_files memory [] = tt
    filled_files memory (e ∷ entries) = (record { entry = refl; bytes = of_known _ e.size (λ i. omega arith) }, filled_files memory entries)

    read_filled : (image : Image) (r : Reading) → FillsState (state_read image r) (state_read image r)
    read_filled image (read.Sound p entries) = (refl, filled_files (line_at image) entries, tt)
    read_filled image (read.NoSuperblock fault) = (refl, refl, refl)
    read_filled image (read.BadHeader fault) = (refl, refl, refl)
    read_filled image (read.BadSlot i reason) = (refl, refl, refl)

    -- what an image holds is told
    pub first_filled : (image : Image) → FillsPast Suits (first_past image) (first_past image)
    first_filled image = record {
      state = filled_if (nat_lt (length image) least_lines) (nat_lt (length image) least_lines) refl _ _ _ _
          (refl, refl, refl) (read_filled image (reading image));
      hosts = tt;
    }

    filled_new : (told cmd : Option Cmd) (n : ℕ) → Pairs (FillsCmd Suits) told cmd → FillBytes (filled_bytes told n) (filled_bytes cmd n)
    unfolding fill
    filled_new None None n is = record { count = refl; each = λ i below. absurd (omega (arith, below)) }
    filled_new None (Some c) n is = absurd is
    filled_new (Some t) None n is = absurd is
    filled_new (Some t) (Some c) n is =
        subst (λ (k : Cmd). FillBytes (filled_bytes (Some k) n) (filled_bytes (Some c) n)) (sym is.is) (of_filled _ _ n (fills c is.suits))

    filled_cmd : (told host : Option HostPast) → Pairs (FillsHost Suits) told host → Pairs (FillsCmd Suits) (cmd_of told) (cmd_of host)
    filled_cmd None None is = tt
    filled_cmd None (Some y) is = absurd is
    filled_cmd (Some x) None is = absurd is
    filled_cmd (Some x) (Some y) is = is.cmd

    -- a note keeps it
    pub filled_after : (a b : Past) (note : Note) → StartSuits Suits note → FillsPast Suits a b
        → FillsPast Suits (past_after a (untold_note note)) (past_after b note)
    filled_after a b (Host name uuid) suits is = record {
      state = is.state;
      hosts = AllZip-push (FillsHost Suits) a.hosts b.hosts _ _ is.hosts (record { uuid = refl; cmd = tt; floor = refl; wrote = refl });
    }
    filled_after a b (Made h p) suits is = record { state = (refl, tt, tt); hosts = is.hosts }
    filled_after a b (Cut h k) suits is = record {
      state = filled_if (nat_lt k first_sent) (nat_lt k first_sent) refl _ _ _ _ is.state (refl, refl, refl);
      hosts = is.hosts;
    }
    filled_after a b (Start h cmd) suits is = record {
      state = is.state;
      hosts = pairs_changed (FillsHost Suits) h _ _
          (λ x y one. record { uuid = one.uuid; cmd = record { is = refl; suits = suits }; floor = refl; wrote = refl })
          a.hosts b.hosts is.hosts;
    }
    filled_after a b (Mark h) suits is = record {
      state = is.state;
      hosts = pairs_changed (FillsHost Suits) h _ _
          (λ x y one. record { uuid = one.uuid; cmd = one.cmd; floor = ap Some (settled_filled a.state b.state is.state); wrote = one.wrote })
          a.hosts b.hosts is.hosts;
    }
    filled_after a b (Found h n) suits is = record { state = finds_filled n a.state b.state is.state; hosts = is.hosts }
    filled_after a b (Writes h seq e) suits is = record {
      state = pends_filled _ _ a.state b.state
          (record { entry = refl; bytes = filled_new _ _ e.size (filled_cmd _ _ (pairs_get (FillsHost Suits) a.hosts b.hosts h is.hosts)) })
          is.state;
      hosts = pairs_changed (FillsHost Suits) h _ _
          (λ x y one. record { uuid = one.uuid; cmd = one.cmd; floor = one.floor; wrote = refl }) a.hosts b.hosts is.hosts;
    }
    filled_after a b (Answered h answer) suits is = record { state = ended_filled answer a.state b.state is.state; hosts = is.hosts }
    filled_after a b note suits is = record { state = is.state; hosts = is.hosts }

    -- so do some
    pub filled_behind : (a b : Past) (notes : List Note) → StartsSuit Suits notes → FillsPast Suits a b
        → FillsPast Suits (past_behind a (untold_notes notes)) (past_behind b notes)
    filled_behind a b [] suits is = is
    filled_behind a b (note ∷ notes) suits is =
        filled_behind (past_after a (untold_note note)) (past_after b note) notes suits.1 (filled_after a b note suits.0 is)

    -- the past of a journal fills that of what is told of it
    pub filled_of : (start : Image) (notes : List Note) → StartsSuit Suits notes
        → FillsPast Suits (past_of start (untold_notes notes)) (past_of start notes)
    filled_of start notes suits = filled_behind (first_past start) (first_past start) notes suits (first_filled start)
