-- The history only grows until the next note that ends it: of two answers the first one's entries are a prefix of the second one's.
use Rattle.std.proofs.Common.{◌≡◌, ℕ, zero, suc, ◌+◌, ◌≤◌, Bool, true, false, List, [], ◌∷◌, ◌++◌, length, take, drop, Option, Some, None, refl, ap, sym, ◌∙◌, subst, arith}
use Rattle.std.specs.Prelude.{◌==◌, nat_lt, not, if◌then◌else◌, slice_get}
use Rattle.std.proofs.lemmas.Bool.Decides.{nat_tests}
use Rattle.std.proofs.lemmas.List.{take-append-drop, take-take, take-append-le}
use Rattle.fam_base.specs.declared.entry.Entry.{Entry}
use Rattle.fam_base.specs.declared.entry.Params.{Params}
use Rattle.fam_base.specs.Image.{Image}
use Rattle.fam_format.specs.declared.faults.SuperFault.TheVariants as super
use Rattle.fam_machine.specs.Mkfs.{first_sent}
use Rattle.fam_rules.specs.Asks.{File, entries_of}
use Rattle.fam_protocol.proofs.Settled.Lists.{entries_count}
use Rattle.fam_rules.specs.Reply.{Reply, Played, Mounted, Same, Differs, Length, Bytes, NotFound, IsDirectory, Checks, Reports, NoSuperblock}
use Rattle.fam_journal.proofs.Settled.DamagedTurns.{replied_bad}
use Rattle.fam_journal.proofs.Settled.ReplyCases.{replied_by}
use Rattle.fam_journal.specs.Laws.{NonePending, IsPrefix, NoneEnds, TwoAnswers, answerable_entries, first_entries, history_at, second_entries}
use Rattle.fam_journal.specs.Ends.{ends_history}
use Rattle.fam_journal.specs.Legal.{Legal, OfHost, ReplyAllowed, WritesAllowed}
use Rattle.fam_journal.specs.Notes.{Answer, Replied, MediaFault, Note, Made, Cut, Found, Writes, Answered}
use Rattle.fam_journal.specs.Past as past
use Rattle.fam_journal.specs.Past.{Halted, HostPast, Origin, Past, State, Bad, Sound, acknowledges, reply_count, ended_state, finds, first_past, past_after, past_behind, past_of, pends, replied, reported_count, shows, shows_count, state_after, with_pending}
use Rattle.fam_journal.proofs.Settled.Journals.{legal_rest, past_both}
use Rattle.fam_journal.proofs.Settled.Settles.{length-pending, shows_less, shows_more, take_whole}

-- the first m entries are settled, and stay what they are
record Keeps (m : ℕ) (old new : State) : Type 0 where
  within : m ≤ length (history_at new)
  same : take m (history_at new) ≡ take m (history_at old)

keeps_same : (m : ℕ) (s : State) → m ≤ length (history_at s) → Keeps m s s
keeps_same m s within = record { within = within; same = refl }

-- a prefix of the history is one of the history with the pending entry
prefix_pending : (m : ℕ) (history : List File) (pending : Option File) → m ≤ length history → take m (with_pending history pending) ≡ take m history
prefix_pending m history None within = refl
prefix_pending m history (Some f) within = take-append-le m history (f ∷ []) within

longer : (m : ℕ) (history : List File) (pending : Option File) → m ≤ length history → m ≤ length (with_pending history pending)
longer m history None within = within
longer m history (Some f) within = omega (arith, within, length-pending history f)

keeps_joined : (m : ℕ) (p : Params) (history : List File) (pending after : Option File) → m ≤ length history → Keeps m (Sound p history pending) (Sound p (with_pending history pending) after)
keeps_joined m p history pending after within = record { within = longer m history pending within; same = prefix_pending m history pending within }

keeps_either : (t : Bool) (m : ℕ) (old a b : State) → Keeps m old a → Keeps m old b → Keeps m old (if t then a else b)
keeps_either true m old a b ka kb = ka
keeps_either false m old a b ka kb = kb

module _ (m : ℕ) where
  shows_keeps : (n : ℕ) (s : State) → m ≤ length (history_at s) → Keeps m s (shows n s)
  shows_keeps n (Bad origin damage gate) within = keeps_same m (Bad origin damage gate) within
  shows_keeps n (Sound p history pending) within =
      keeps_either (n == length history + 1) m (Sound p history pending) (Sound p (with_pending history pending) None) (Sound p history pending)
      (keeps_joined m p history pending None within) (keeps_same m (Sound p history pending) within)

  finds_keeps : (n : ℕ) (s : State) → m ≤ length (history_at s) → Keeps m s (finds n s)
  finds_keeps n (Bad origin damage gate) within = keeps_same m (Bad origin damage gate) within
  finds_keeps n (Sound p history pending) within =
      keeps_either (n == length history) m (Sound p history pending) (Sound p history None) (shows n (Sound p history pending))
      (record { within = within; same = refl }) (shows_keeps n (Sound p history pending) within)

  acknowledges_keeps : (seq : ℕ) (s : State) → m ≤ length (history_at s) → Keeps m s (acknowledges seq s)
  acknowledges_keeps seq (Bad origin damage gate) within = keeps_same m (Bad origin damage gate) within
  acknowledges_keeps seq (Sound p history pending) within =
      keeps_either (seq == length history) m (Sound p history pending) (Sound p (with_pending history pending) None) (Sound p history pending)
      (keeps_joined m p history pending None within) (keeps_same m (Sound p history pending) within)

  pends_keeps : (f : File) (s : State) → m ≤ length (history_at s) → Keeps m s (pends f s)
  pends_keeps f (Bad origin damage gate) within = keeps_same m (Bad origin damage gate) within
  pends_keeps f (Sound p history pending) within = record { within = within; same = refl }

  reply_keeps : (given : Reply) (s : State) → m ≤ length (history_at s) → Keeps m s (replied given s)
  reply_keeps = replied_by (λ f. (s : State) → m ≤ length (history_at s) → Keeps m s (f s)) (λ s within. keeps_same m s within) shows_keeps acknowledges_keeps

  answer_keeps : (answer : Answer) (s : State) → m ≤ length (history_at s) → Keeps m s (ended_state answer s)
  answer_keeps (Replied given) s within = reply_keeps given s within
  answer_keeps (MediaFault at) s within = keeps_same m s within

  cut_keeps : (early : Bool) (s : State) → not early ≡ false → m ≤ length (history_at s) → Keeps m s (if early then s else Bad Halted (past.NoSuperblock (super.NoSuper 0)) 0)
  cut_keeps true s other within = keeps_same m s within
  cut_keeps false s other within = absurd cc

  note_keeps : (x : Past) (note : Note) → ends_history note ≡ false → m ≤ length (history_at x.state) → Keeps m x.state (state_after x note)
  note_keeps x (Made h p) other within = absurd cc
  note_keeps x (Cut h k) other within = cut_keeps (nat_lt k first_sent) x.state other within
  note_keeps x (Found h n) other within = finds_keeps n x.state within
  note_keeps x (Writes h seq e) other within = pends_keeps _ x.state within
  note_keeps x (Answered h answer) other within = answer_keeps answer x.state within
  note_keeps x e other within = keeps_same m x.state within

  notes_keep : (notes : List Note) (x : Past) → NoneEnds notes → m ≤ length (history_at x.state) → Keeps m x.state (past_behind x notes).state
  notes_keep [] x none within = keeps_same m x.state within
  notes_keep (note ∷ notes) x none within =
      let first = note_keeps x note none.0 within in
      let rest = notes_keep notes (past_after x note) none.1 first.within in
      record { within = rest.within; same = rest.same ∙ first.same }

-- A bad state stays without entries.

module _ where
  note_bad : (x : Past) (i : Origin) (d : Rattle.fam_journal.specs.Past.Damage) (g : ℕ) (note : Note) → ends_history note ≡ false → x.state ≡ Bad i d g → state_after x note ≡ Bad i d g
  note_bad x i d g (Made h p) other is = absurd cc
  note_bad x i d g (Cut h k) other is = cut_bad (nat_lt k first_sent) x.state other is
    where
      cut_bad : (early : Bool) (s : State) → not early ≡ false → s ≡ Bad i d g → (if early then s else Bad Halted (past.NoSuperblock (super.NoSuper 0)) 0) ≡ Bad i d g
      cut_bad true s other is = is
      cut_bad false s other is = absurd cc
  note_bad x i d g (Found h n) other is = ap (finds n) is
  note_bad x i d g (Writes h seq e) other is = ap (pends _) is
  note_bad x i d g (Answered h (Replied given)) other is = ap (replied given) is ∙ replied_bad i d g given
  note_bad x i d g e other is = is

  pub notes_bad : (notes : List Note) (x : Past) (i : Origin) (d : Rattle.fam_journal.specs.Past.Damage) (g : ℕ) → NoneEnds notes → x.state ≡ Bad i d g → (past_behind x notes).state ≡ Bad i d g
  notes_bad [] x i d g none is = is
  notes_bad (note ∷ notes) x i d g none is = notes_bad notes (past_after x note) i d g none.1 (note_bad x i d g note none.0 is)

-- The first answer settles what it is of.

module _ (p : Params) (history : List File) (pending : Option File) where
  -- of a legal answer in a sound state
  bound : (told : HostPast) (given : Reply) (m : ℕ) → ReplyAllowed given told (Sound p history pending) → reply_count given ≡ Some m → m ≤ length (with_pending history pending)
  bound told (Played n tree) m a is = subst (λ k. k ≤ length (with_pending history pending)) (Rattle.std.proofs.lemmas.Option.same_Some n m is) a.bounds.high
  bound told (Mounted n) m a is = subst (λ k. k ≤ length (with_pending history pending)) (Rattle.std.proofs.lemmas.Option.same_Some n m is) a.bounds.high
  bound told (Same n) m a is = subst (λ k. k ≤ length (with_pending history pending)) (Rattle.std.proofs.lemmas.Option.same_Some n m is) a.bounds.high
  bound told (Differs n offset found wanted) m a is = subst (λ k. k ≤ length (with_pending history pending)) (Rattle.std.proofs.lemmas.Option.same_Some n m is) a.bounds.high
  bound told (Length n size wanted) m a is = subst (λ k. k ≤ length (with_pending history pending)) (Rattle.std.proofs.lemmas.Option.same_Some n m is) a.bounds.high
  bound told (Bytes n bytes) m a is = subst (λ k. k ≤ length (with_pending history pending)) (Rattle.std.proofs.lemmas.Option.same_Some n m is) a.bounds.high
  bound told (NotFound n) m a is = subst (λ k. k ≤ length (with_pending history pending)) (Rattle.std.proofs.lemmas.Option.same_Some n m is) a.bounds.high
  bound told (IsDirectory n) m a is = subst (λ k. k ≤ length (with_pending history pending)) (Rattle.std.proofs.lemmas.Option.same_Some n m is) a.bounds.high
  bound told (Checks n checked) m a is = subst (λ k. k ≤ length (with_pending history pending)) (Rattle.std.proofs.lemmas.Option.same_Some n m is) a.bounds.high
  bound told (Reports report) m a is =
      let count : length (entries_of (take a.m (with_pending history pending))) ≡ a.m = entries_count a.m (with_pending history pending) a.bounds.high in
      let read : length (entries_of (take a.m (with_pending history pending))) ≡ m = Rattle.std.proofs.lemmas.Option.same_Some _ m (sym (ap reported_count a.is.log) ∙ is) in
      omega (arith, count, read, a.bounds.high)
  bound told e m a is = absurd cc

  -- behind it these entries are in the history
  record Settled (m : ℕ) (s : State) : Type 0 where
    within : m ≤ length (history_at s)
    same : take m (history_at s) ≡ take m (with_pending history pending)

  shown : (m : ℕ) → m ≤ length (with_pending history pending) → Settled m (shows m (Sound p history pending))
  shown m high = go (m == length history + 1) refl
    where
      go : (t : Bool) → (m == length history + 1) ≡ t → Settled m (shows m (Sound p history pending))
      go true is =
          subst (Settled m) (sym (shows_more p history m pending (grind (arith, nat_tests)))) record { within = high; same = refl }
      go false is =
          let less : m ≤ length history = less_of pending high is in
          subst (Settled m) (sym (shows_less p history m pending less)) record { within = less; same = sym (prefix_pending m history pending less) }
        where
          less_of : (o : Option File) → m ≤ length (with_pending history o) → (m == length history + 1) ≡ false → m ≤ length history
          less_of None high is = high
          less_of (Some f) high is = grind (arith, nat_tests, high, length-pending history f)

-- every counted reply shows its count
counted : (given : Reply) (m : ℕ) (s : State) → reply_count given ≡ Some m → replied given s ≡ shows m s
counted (Played n tree) m s is = ap (λ k. shows k s) (Rattle.std.proofs.lemmas.Option.same_Some n m is)
counted (Mounted n) m s is = ap (λ k. shows k s) (Rattle.std.proofs.lemmas.Option.same_Some n m is)
counted (Same n) m s is = ap (λ k. shows k s) (Rattle.std.proofs.lemmas.Option.same_Some n m is)
counted (Differs n offset found wanted) m s is = ap (λ k. shows k s) (Rattle.std.proofs.lemmas.Option.same_Some n m is)
counted (Length n size wanted) m s is = ap (λ k. shows k s) (Rattle.std.proofs.lemmas.Option.same_Some n m is)
counted (Bytes n bytes) m s is = ap (λ k. shows k s) (Rattle.std.proofs.lemmas.Option.same_Some n m is)
counted (NotFound n) m s is = ap (λ k. shows k s) (Rattle.std.proofs.lemmas.Option.same_Some n m is)
counted (IsDirectory n) m s is = ap (λ k. shows k s) (Rattle.std.proofs.lemmas.Option.same_Some n m is)
counted (Checks n checked) m s is = ap (λ k. shows k s) (Rattle.std.proofs.lemmas.Option.same_Some n m is)
counted (Reports report) m s is = ap (λ (o : Option ℕ). shows_count o s) is
counted e m s is = absurd cc

-- with the pending entry behind
entries_prefix : (m : ℕ) (s : State) → m ≤ length (history_at s) → take m (answerable_entries s) ≡ take m (history_at s)
entries_prefix m (Bad origin damage gate) within = refl
entries_prefix m (Sound p history pending) within = prefix_pending m history pending within

abbrev no_files : List File
no_files = []

take_nothing : (n : ℕ) → take n no_files ≡ no_files
take_nothing zero = refl
take_nothing (suc n) = refl

module _ (start : Image) (two : TwoAnswers start) where
  abbrev note : Note
  note = Answered two.first_host (Replied two.first)

  abbrev x : Past
  x = past_of start two.before

  abbrev y : Past
  y = past_behind (past_after x note) two.between

  y_is : past_of start (two.before ++ note ∷ two.between) ≡ y
  y_is = past_both (first_past start) two.before (note ∷ two.between)

  -- the first answer is legal
  first_legal : OfHost (slice_get x.hosts two.first_host) (λ host. ReplyAllowed two.first host x.state)
  first_legal = (legal_rest (first_past start) two.before (note ∷ (two.between ++ Answered two.second_host (Replied two.second) ∷ [])) two.legal).0

  by_host : (o : Option HostPast) (s : State) → OfHost o (λ host. ReplyAllowed two.first host s) → (told : HostPast) × ReplyAllowed two.first told s
  by_host None s a = absurd a
  by_host (Some told) s a = (told, a)

  -- the first answer's entries are those that stand first behind it
  at_state : (s : State) → x.state ≡ s → take two.m (answerable_entries s) ≡ take two.m (answerable_entries y.state)
  at_state (Bad i d g) is =
      let bad : y.state ≡ Bad i d g = notes_bad two.between (past_after x note) i d g two.none (note_bad x i d g note refl is) in
      take_nothing two.m ∙ sym (ap (λ (s : State). take two.m (answerable_entries s)) bad ∙ take_nothing two.m)
  at_state (Sound p history pending) is =
      let legal = by_host (slice_get x.hosts two.first_host) (Sound p history pending)
      (subst (λ (s : State). OfHost (slice_get x.hosts two.first_host) (λ host. ReplyAllowed two.first host s)) is first_legal) in
      let high : two.m ≤ length (with_pending history pending) = bound p history pending legal.0 two.first two.m legal.1 two.first_count in
      let after : (past_after x note).state ≡ shows two.m (Sound p history pending) = counted two.first two.m x.state two.first_count ∙ ap (shows two.m) is in
      let settled : Settled p history pending two.m (past_after x note).state = subst (Settled p history pending two.m) (sym after) (shown p history pending two.m high) in
      let keeps = notes_keep two.m two.between (past_after x note) two.none settled.within in
      sym (entries_prefix two.m y.state keeps.within ∙ keeps.same ∙ settled.same)

  same_prefix : first_entries two ≡ take two.m (answerable_entries (past_of start (two.before ++ note ∷ two.between)).state)
  same_prefix = at_state x.state refl ∙ ap (λ (z : Past). take two.m (answerable_entries z.state)) (sym y_is)

  -- the shorter one is a prefix of the longer one
  pub prefixes : two.m ≤ two.n → first_entries two ≡ take two.m (second_entries two)
  prefixes order = same_prefix ∙ sym (take-take two.m two.n (answerable_entries (past_of start (two.before ++ note ∷ two.between)).state) order)

  pub prefixes_back : two.n ≤ two.m → second_entries two ≡ take two.n (first_entries two)
  prefixes_back order = sym (ap (take two.n) same_prefix ∙ take-take two.n two.m (answerable_entries (past_of start (two.before ++ note ∷ two.between)).state) order)

-- What is settled stays in front until the next note that ends the history.

module _ (start : Image) (before : List Note) where
  pub grows : (behind : List Note) → NoneEnds behind → IsPrefix (history_at (past_of start before).state) (history_at (past_of start (before ++ behind)).state)
  grows behind none =
      let x : Past = past_of start before in
      let y : Past = past_behind x behind in
      let m : ℕ = length (history_at x.state) in
      let k = notes_keep m behind x none (omega arith) in
      record {
        rest = drop m (history_at y.state);
        is = ap (λ (z : Past). history_at z.state) (past_both (first_past start) before behind)
            ∙ sym (take-append-drop m (history_at y.state))
            ∙ ap (λ (l : List File). l ++ drop m (history_at y.state)) (k.same ∙ take_whole (history_at x.state));
      }

  -- an entry is written where nothing is pending
  pub writes_free : (rest : List Note) (h seq : ℕ) (e : Entry) → Legal start (before ++ Writes h seq e ∷ rest) → NonePending seq (past_of start before).state
  writes_free rest h seq e legal = by_host (slice_get (past_of start before).hosts h) (past_of start before).state (legal_rest (first_past start) before (Writes h seq e ∷ rest) legal).0
    where
      by_state : (host : HostPast) (s : State) → WritesAllowed seq e host s → NonePending seq s
      by_state host (Bad origin damage gate) allowed = allowed
      by_state host (Sound p history pending) allowed = (allowed.1.none, allowed.0)

      by_host : (o : Option HostPast) (s : State) → OfHost o (λ host. WritesAllowed seq e host s) → NonePending seq s
      by_host None s allowed = absurd allowed
      by_host (Some host) s allowed = by_state host s allowed
