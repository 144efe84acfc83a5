-- The scenes of the protocols that are refused: what holds in each, and that there are some.
use Rattle.std.proofs.Common.{ℕ, zero, suc, ◌≡◌, ◌≢◌, inl, inr, ◌-◌, ◌*◌, ◌/◌, ◌%◌, ◌^◌, ◌<◌, ◌≤◌, false, List, [], ◌∷◌, length, Option, Some, None, Ok, refl, sym, ap, subst, ◌∙◌, arith}
use Rattle.std.specs.Prelude.{nat_lt, nat_le, option_map, replicate, slice_index, slice_index_or}
use Rattle.std.specs.FinMap as finmap
use Rattle.std.specs.Int.{div_ceil}
use Rattle.std.proofs.Math.Nat.{mod-eq_of_lt}
use Rattle.std.proofs.lemmas.Bool.{cases_lt}
use Rattle.std.proofs.lemmas.Bool.Decides.{nat_tests}
use Rattle.std.proofs.lemmas.List.{get_or_past, length-replicate}
use Rattle.std.proofs.lemmas.List.FromFn.{get_or-map-range_with_len, length-map-range_with_len}
use Rattle.fam_base.specs.declared.cmd.Attr.{Attr}
use Rattle.fam_base.specs.declared.cmd.Cmd.TheVariants.{Mkdir}
use Rattle.fam_base.specs.declared.entry.Params.{Params}
use Rattle.fam_base.specs.declared.entry.Entry.{Entry}
use Rattle.fam_base.specs.Image.{Image, line_at}
use Rattle.fam_base.specs.Paths.{is_path}
use Rattle.fam_base.specs.PathOrder.{path_cmp}
use Rattle.fam_format.specs.Layout.{Geometry, device_limit, geometry, least_lines, slot_line}
use Rattle.fam_format.specs.Params.{SoundParams}
use Rattle.fam_format.specs.Reading.{slot_in, slot_word, slot_words}
use Rattle.fam_format.specs.ReadingLaws.{HasWords}
use Rattle.fam_format.specs.Slot.{entry_of, spelling, crc_fault, seq_fault, kind_fault}
use Rattle.fam_format.specs.Tree.{join_fault, replay}
use Rattle.fam_format.proofs.EntryLawsProofs.{read_spelled}
use Rattle.fam_format.proofs.SuperLawsProofs.{no_stop}
use Rattle.fam_format.proofs.UnitPowers.{unit_told}
use Rattle.fam_format.proofs.Formats.{shape, either, slot_allows}
use Rattle.fam_commands.specs.Table.{Answer, append_rows, rows}
use Rattle.fam_commands.specs.Task.{content_of}
use Rattle.fam_rules.specs.Reply.{Appended}
use Rattle.fam_base.specs.declared.entry.Kind.TheVariants as kind
use Rattle.fam_base.specs.Units.{least_unit}
use Rattle.fam_rules.specs.Content.{fill}
use Rattle.fam_rules.specs.Decide.{Wish, decide, decide_wish, early_refusal, entry_for, no_room_needed, room_for, wish_of}
use Rattle.fam_rules.specs.DecideLaws.{IsSoundWish, MayAppend}
use Rattle.fam_rules.specs.Place.{line_bytes}
use Rattle.fam_rules.specs.Written.{formatted, zero_line}
use Rattle.fam_rules.proofs.DecideProofs.{may_append}
use Rattle.fam_rules.proofs.FormattedProofs.{formatted_reads, lines_formatted}
use Rattle.fam_rules.proofs.RefusalTests.{none_early}
use Rattle.fam_protocol.specs.Core.{IsHistory}
use Rattle.fam_protocol.specs.Tasks.{IsCommand}
use Rattle.fam_protocol.specs.Invariant.{Known, Invariant, solo, no_hosts, settled_at_first}
use Rattle.fam_refuted.specs.Refused.{Begins, Scene, SceneOf, appends, history, next, old_history}
use Rattle.fam_protocol.proofs.Lines.Apart.{history_more}
use Rattle.fam_protocol.proofs.Hosts.Begins.{begins, held_back}
use Rattle.fam_protocol.proofs.Hosts.SoundReads.{ReadsSound, sound_reads, super_is_sound}

-- What holds in each.

module _ (c : Scene) (scene : Begins c) where
  -- the image reads as sound
  pub read : ReadsSound (line_at c.image) (line_bytes * length c.image) c.params c.entries
  read = sound_reads (line_at c.image) (line_bytes * length c.image) c.params c.entries scene.reads

  -- and so do its parameters
  pub sound : SoundParams c.params
  sound = (super_is_sound _ _ (line_bytes * length c.image) c.params scene.limit read.super).sound

  -- by the wish of its command
  may_by : (o : Option Wish) → wish_of c.cmd ≡ o → option_map (decide_wish c.params c.params.master c.entries) o ≡ Some (Ok c.entry) → MayAppend c.params c.params.master c.entries c.entry
  may_by None is decided = absurd (cc)
  may_by (Some w) is decided = may_append c.params c.params.master c.entries w c.entry sound (scene.command.wish w is) (cc)

  -- the new entry may be appended
  pub may : MayAppend c.params c.params.master c.entries c.entry
  may = may_by (wish_of c.cmd) refl scene.decided

  -- what the image settles
  enough : nat_lt (length c.image) least_lines ≡ false
  enough = grind (arith, nat_tests, scene.enough)

  settled_is : settled_at_first c.image ≡ Known c.params (old_history c) (next c)
  settled_is = rw (enough, scene.reads) refl

  -- it begins a run of the protocol
  pub scene_invariant : Invariant (Known c.params (old_history c) (next c)) (length c.image) no_hosts (solo c.image)
  scene_invariant = subst (λ settled. Invariant settled (length c.image) no_hosts (solo c.image)) settled_is (begins c.image scene.limit)

  -- the new file has as many bytes as it says
  file_long : length (fill (content_of c.cmd) c.entry.size) ≡ c.entry.size
  unfolding fill
  file_long = length-map-range_with_len _ 0 c.entry.size

  -- with the new entry it is a history
  pub scene_history : IsHistory c.params (history c)
  scene_history =
      history_more c.params (old_history c) _ scene_invariant.stage.core.history
      record { proper = may.proper; joins = subst (λ (es : List Entry). join_fault c.params es c.entry ≡ None) (sym (held_back (line_at c.image) c.entries)) may.joins; count = file_long }

  -- the table has the master's append, and its answer
  pub scene_table : append_rows c.cmd c.params (next c) (decide c.params c.params.master c.entries c.cmd) ≡ rows (appends c) (Answer (Appended (next c)))
  scene_table = ap (append_rows c.cmd c.params (next c)) scene.decided

-- The next slot.

module _ (image : Image) (p : Params) (i : ℕ) where
  -- its words
  slot_long : length (slot_words (line_at image) p i) ≡ (geometry p).words
  unfolding slot_words
  slot_long = length-map-range_with_len (slot_word (line_at image) p i) 0 (geometry p).words

  -- words of 64 bits
  slot_fits : HasWords (line_at image) → (k : ℕ) → slice_index (slot_words (line_at image) p i) k < 2 ^ 64
  unfolding slot_words
  slot_fits fits k =
      elim (cases_lt k (geometry p).words) [
        | inl below ↦ subst (λ (n : ℕ). n < 2 ^ 64)
            (sym (get_or-map-range_with_len (slot_word (line_at image) p i) 0 (geometry p).words k k 0 below (omega arith)))
            (fits (slot_line p i (k / 8)) (k % 8))
        | inr past ↦ subst (λ (n : ℕ). n < 2 ^ 64) (sym (get_or_past (slot_words (line_at image) p i) k 0 (omega (arith, slot_long, past)))) (omega arith)
      ]

  -- that aren't an entry's spelling don't read as it
  pub no_spelling : (e : Entry) → HasWords (line_at image) → slot_words (line_at image) p i ≢ spelling (geometry p) e i → slot_in (line_at image) p i ≢ Ok e
  no_spelling e fits other = λ reads. other (read_spelled p (slot_words (line_at image) p i) i e slot_long (slot_fits fits) reads)

-- a slot whose kind is zero doesn't read
no_kind : (p : Params) (words : List ℕ) (seq : ℕ) (e : Entry) → slice_index words 1 ≡ 0 → entry_of p words seq ≢ Ok e
unfolding entry_of
no_kind p words seq e blank = λ reads.
    let crc = no_stop (crc_fault (geometry p) words) _ _ reads in
    let seq = no_stop (seq_fault words seq) _ _ crc.1 in
    let kind = no_stop (kind_fault words) _ _ seq.1 in
    absurd (let none : kind_fault words ≡ None = kind.0 in grind (arith, nat_tests))

-- An empty file system, and the directory `a`.

-- a device of zeros
pub zeros : Params → Image
zeros p = replicate (div_ceil p.device line_bytes) zero_line

-- each word of it is zero
zero_word : (k l : ℕ) → slice_index (slice_index_or (replicate k zero_line) l []) 1 ≡ 0
zero_word zero l = refl
zero_word (suc k) zero = refl
zero_word (suc k) (suc l) = zero_word k l

-- mode 755 of user and group 0
abbrev attr : Attr
attr = record { mode = 493; uid = 0; gid = 0 }

-- the directory `a`
abbrev wish : Wish
wish = record { kind = kind.Directory; path = 97 ∷ []; size = 0; attr = attr; stripe = None }

module _ (p : Params) (sound : SoundParams p) (master reader : ℕ) (hosts : master ≢ reader) where
  abbrev scene : Scene
  scene = record { image = formatted (zeros p) p; params = p; entries = []; cmd = Mkdir (97 ∷ []) attr; entry = entry_for wish no_room_needed; master = master; reader = reader }

  -- Sizes.

  unit_is : least_unit ≤ p.unit
  unit_is = (unit_told p.unit sound.unit).least

  log_some : 0 < p.log_length
  log_some = grind (arith, nat_tests, sound.log_length)

  log_whole : p.log_length % p.unit ≡ 0
  log_whole = grind (arith, nat_tests, sound.log_length)

  log_is : p.unit ≤ p.log_length
  log_is = elim (cases_lt p.log_length p.unit) [ inl below ↦ absurd (omega (arith, mod-eq_of_lt below, log_whole, log_some)) | inr past ↦ past ]

  some_slots : 0 < p.slots
  some_slots =
      let some : 0 < p.log_length / (geometry p).bytes - 1 = either (λ (g : Geometry). 0 < p.log_length / g.bytes - 1) (omega (arith, log_is, unit_is)) (omega (arith, log_is, unit_is)) p in
      omega (arith, sound.slots, some)

  lines : length (zeros p) ≡ div_ceil p.device line_bytes
  unfolding zeros
  lines = length-replicate (div_ceil p.device line_bytes) zero_line

  enough_lines : least_lines ≤ length (zeros p)
  enough_lines = omega (arith, lines, sound.need, log_is, unit_is)

  holds_device : p.device ≤ line_bytes * length (zeros p)
  holds_device = omega (arith, lines)

  in_limit : line_bytes * length (zeros p) ≤ device_limit
  in_limit = omega (arith, lines, sound.device)

  same_count : length (formatted (zeros p) p) ≡ length (zeros p)
  same_count = (lines_formatted (zeros p) p enough_lines).count

  -- the rules decide it
  decided : decide p p.master [] (Mkdir (97 ∷ []) attr) ≡ Some (Ok (entry_for wish no_room_needed))
  unfolding decide_wish room_for
  decided =
      let early : early_refusal p p.master (97 ∷ []) ≡ None = none_early p p.master (97 ∷ []) refl (omega (arith, slot_allows p)) in
      let left : nat_le p.slots 0 ≡ false = grind (arith, nat_tests, some_slots) in
      let absent : finmap.get (replay []) (97 ∷ []) ≡ None = finmap.get-empty path_cmp (97 ∷ []) in
      rw (early, left, absent) refl

  -- the command is within its limits
  command : IsCommand (Mkdir (97 ∷ []) attr)
  unfolding is_path
  command = record {
    wish = λ w is. subst IsSoundWish (some_same is)
        (record {
          path = refl;
          size = omega arith;
          bare = λ k. refl;
          attr = record { mode = omega arith; uid = omega arith; gid = omega arith };
          stripe = tt;
        });
    content = tt;
  }
    where
      some_same : {w : Wish} → wish_of (Mkdir (97 ∷ []) attr) ≡ Some w → wish ≡ w
      some_same is = cc

  -- slot 0 has no kind yet
  no_kind_yet : slice_index (slot_words (line_at scene.image) p 0) 1 ≡ 0
  unfolding slot_words zeros
  no_kind_yet =
      let least : 8 ≤ (geometry p).lines = (shape p).lines in
      get_or-map-range_with_len (slot_word (line_at scene.image) p 0) 0 (geometry p).words 1 1 0 (omega (arith, least, (shape p).words)) refl
      ∙ ap (λ (words : List ℕ). slice_index words 1)
      ((lines_formatted (zeros p) p enough_lines).others (slot_line p 0 0) (omega (arith, least)) (omega (arith, least)) (omega (arith, least))
      (omega (arith, least)) (omega (arith, least)))
      ∙ zero_word (div_ceil p.device line_bytes) (slot_line p 0 0)

  -- so it is a scene
  pub begins_scene : Begins scene
  begins_scene = record {
    enough = omega (arith, same_count, enough_lines);
    limit = omega (arith, same_count, in_limit);
    reads = formatted_reads (zeros p) p sound enough_lines holds_device;
    command = command;
    decided = decided;
    other = no_kind p (slot_words (line_at scene.image) p 0) 0 (entry_for wish no_room_needed) no_kind_yet;
    hosts = hosts;
  }

-- for any sound parameters and any two hosts there is a scene
pub some_scene : (p : Params) (master reader : ℕ) → SoundParams p → master ≢ reader → SceneOf p master reader
some_scene p master reader sound hosts =
    record { scene = scene p sound master reader hosts; params = refl; master_is = refl; reader_is = refl; begins = begins_scene p sound master reader hosts }
