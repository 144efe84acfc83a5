-- A command that runs alone is given the image's words, whatever its cache held at first.
use Rattle.std.proofs.Common.{ℕ, zero, suc, ◌≡◌, ◌⊎◌, ◌+◌, ◌-◌, ◌*◌, ◌<◌, Bool, true, false, List, [], ◌∷◌, ◌++◌, length, map, Option, Some, None, Ok, Err, inl, inr, refl, sym, ◌∙◌, ap, subst, arith}
use Rattle.std.specs.Prelude.{⊤, ◌==◌, nat_lt, nat_le, if◌then◌else◌, option_map, slice_index, Result}
use Rattle.std.specs.FinMap as finmap
use Rattle.std.proofs.lemmas.Bool.{cases_order}
use Rattle.std.proofs.lemmas.Option.{same_Some}
use Rattle.fam_base.specs.declared.cmd.Cmd.{Cmd}
use Rattle.fam_base.specs.declared.cmd.Cmd.TheVariants.{Mkdir, Creat, Cp, Verify, Read, Check, Fsck}
use Rattle.fam_base.specs.declared.cmd.Content.{Content}
use Rattle.fam_base.specs.declared.cmd.Content.TheVariants as content
use Rattle.fam_base.specs.declared.entry.Params.{Params}
use Rattle.fam_base.specs.declared.entry.Entry.{Entry}
use Rattle.fam_base.specs.declared.entry.Kind.{Kind}
use Rattle.fam_base.specs.declared.entry.Kind.TheVariants as kind
use Rattle.fam_base.specs.Image.{Image, eight, line_at}
use Rattle.fam_format.specs.declared.faults.SuperFault.{SuperFault}
use Rattle.fam_format.specs.declared.faults.LogFault.{LogFault}
use Rattle.fam_format.specs.declared.faults.Reason.{Reason}
use Rattle.fam_format.specs.Layout.{gate_line}
use Rattle.fam_format.specs.Log.{gate_fault, log_fault}
use Rattle.fam_format.specs.Slot.{entry_of}
use Rattle.fam_format.specs.Super.{magic_fault, super_body_of}
use Rattle.fam_format.specs.Tree.{join_fault, replay}
use Rattle.fam_commands.specs.declared.phase.Part.{Part}
use Rattle.fam_commands.specs.declared.phase.Part.TheVariants.{Superblock, Header, Slot, File}
use Rattle.fam_commands.specs.declared.phase.Phase.{Phase}
use Rattle.fam_commands.specs.declared.phase.Phase.TheVariants as at
use Rattle.fam_machine.specs.Caches.{Cache, IsClean, cell_at}
use Rattle.fam_machine.specs.OneLine.{current}
use Rattle.fam_machine.specs.Operations.{Machine, given, operated}
use Rattle.fam_commands.specs.Solo.{SoloRun, Stand, starts, goes, image_turn, image_word, notes_up_to, noted, stand_after, stand_next, turn_on}
use Rattle.fam_commands.specs.Stands.{note_of, task_after, with_given}
use Rattle.fam_commands.specs.Table.{RowNote}
use Rattle.fam_commands.specs.Kept.{Kept, first_slot}
use Rattle.fam_commands.specs.Task.{Task, op_at, op_of, part_count, part_line, wanted_end}
use Rattle.fam_commands.specs.Turns.{Turn, Goes, Marks, Finds, Writes, Ends, magic_turn, host_refusal, host_turn, super_turn, header_turn, slot_or_decide, slots_read, finds_or_goes, gate_loaded, gate_turn, join_turn, slot_turn, check_turn, append_turn, verify_lines, verify_turn, bytes_turn, kind_turn, found_turn, wish_turn, decide_turn, line_or, line_difference, compare_turn, file_turn, line_turn, with_word, turn_at, turn_of}
use Rattle.fam_rules.specs.declared.answers.Refused.{Refused}
use Rattle.fam_rules.specs.Decide.{Wish, decide_wish, wish_of}
use Rattle.fam_rules.specs.Place.{line_bytes}
use Rattle.fam_rules.specs.Reply.{Reply}
use Rattle.fam_commands.specs.Appends.{IsBeforeWrites}
use Rattle.fam_protocol.specs.Lines.{Fresh}
use Rattle.fam_solo.proofs.Machine.{Looks, ran_looks, ran_normal, dropped_fresh, quiet_fresh, stays_past, word_of}
use Rattle.fam_protocol.proofs.Lines.Moves.{fresh_current}

-- The line that a task loads from, and the one that it dropped or loads from.

abbrev pub loads_from : Phase → Task → Option ℕ
loads_from at.Magic t = Some 0
loads_from (at.Word part j k) t = Some (part_line t part j)
loads_from at.Gate t = Some gate_line
loads_from e t = None

abbrev pub reads_at : Phase → Task → Option ℕ
reads_at at.DropMagic t = Some 0
reads_at at.Magic t = Some 0
reads_at (at.Drop part j) t = Some (part_line t part j)
reads_at (at.Word part j k) t = Some (part_line t part j)
reads_at at.DropGate t = Some gate_line
reads_at at.Gate t = Some gate_line
reads_at e t = None

-- the next load, if it is one, is of the line at hand
abbrev pub LoadsNext : Option ℕ → Task → Type 0
LoadsNext o next = (loads_from next.phase next ≡ None) ⊎ (loads_from next.phase next ≡ o)

abbrev pub Loads : Option ℕ → Turn → Type 0
Loads o (Goes next) = LoadsNext o next
Loads o (Marks next) = LoadsNext o next
Loads o (Finds n next) = LoadsNext o next
Loads o (Writes seq e next) = LoadsNext o next
Loads o (Ends reply) = ⊤

loads_then : (o : Option ℕ) (turn : Turn) (next : Task) → Loads o turn → task_after turn ≡ Some next → LoadsNext o next
loads_then o (Goes t) next loads is = subst (LoadsNext o) (same_Some t next is) loads
loads_then o (Marks t) next loads is = subst (LoadsNext o) (same_Some t next is) loads
loads_then o (Finds n t) next loads is = subst (LoadsNext o) (same_Some t next is) loads
loads_then o (Writes seq e t) next loads is = subst (LoadsNext o) (same_Some t next is) loads
loads_then o (Ends reply) next loads is = absurd (cc)

module _ (o : Option ℕ) where
  either : (b : Bool) (one other : Turn) → Loads o one → Loads o other → Loads o (if b then one else other)
  either true one other first second = first
  either false one other first second = second

  magic_loads : (t : Task) (f : Option SuperFault) → Loads o (magic_turn t f)
  magic_loads t (Some fault) = tt
  magic_loads t None = inl refl

  host_loads : (t : Task) (p : Params) (r : Option Refused) → Loads o (host_turn t p r)
  host_loads t p (Some refused) = tt
  host_loads t p None = inl refl

  super_loads : (t : Task) (r : Result Params SuperFault) → Loads o (super_turn t r)
  super_loads t (Err fault) = tt
  super_loads t (Ok p) = host_loads t p (host_refusal (wish_of t.cmd) p t.me)

  header_loads : (t : Task) (f : Option LogFault) → Loads o (header_turn t f)
  header_loads t (Some fault) = tt
  header_loads t None = inl refl

  slot_next : (t next : Task) (i : ℕ) → next.phase ≡ slot_or_decide t i → LoadsNext o next
  slot_next t next i is = inl (ap (λ (p : Phase). loads_from p next) is ∙ by_test (nat_lt i (slots_read t)))
    where
      by_test : (b : Bool) → loads_from (if b then at.Drop (Slot i) 0 else at.Decide) next ≡ None
      by_test true = refl
      by_test false = refl

  gate_loads : (t : Task) (n : ℕ) (f : Option LogFault) → Loads o (gate_turn t n f)
  gate_loads t n (Some fault) = tt
  gate_loads t n None = by_wish (wish_of t.cmd)
    where
      by_wish : (w : Option Wish) → Loads o (finds_or_goes w n (gate_loaded t n))
      by_wish None = slot_next (record t { gate = n }) (gate_loaded t n) (first_slot t.kept t.cmd t.params n) refl
      by_wish (Some w) = slot_next (record t { gate = n }) (gate_loaded t n) (first_slot t.kept t.cmd t.params n) refl

  join_loads : (t : Task) (i : ℕ) (e : Entry) (f : Option Reason) → Loads o (join_turn t i e f)
  join_loads t i e (Some reason) = tt
  join_loads t i e None = slot_next t (record t { entries = t.entries ++ e ∷ []; words = []; phase = slot_or_decide t (i + 1) }) (i + 1) refl

  slot_loads : (t : Task) (i : ℕ) (r : Result Entry Reason) → Loads o (slot_turn t i r)
  slot_loads t i (Err reason) = tt
  slot_loads t i (Ok e) = join_loads t i e (join_fault t.params t.entries e)

  check_loads : (t : Task) (i : ℕ) (c : Cmd) → Loads o (check_turn c t i)
  check_loads t i Fsck = slot_next t _ (i + 1) refl
  check_loads t i other = slot_loads t i (entry_of t.params t.words i)

  append_loads : (t : Task) (r : Result Entry Refused) → Loads o (append_turn t r)
  append_loads t (Err refused) = tt
  append_loads t (Ok e) = inl (by_test (e.size == 0) _)
    where
      by_test : (b : Bool) (next : Task) → loads_from (if b then at.StoreSlot 0 0 else at.StoreData 0 0) next ≡ None
      by_test true next = refl
      by_test false next = refl

  lines_load : (t : Task) (e : Entry) → Loads o (verify_lines t e)
  lines_load t e = either (e.size == 0) _ _ tt (inl refl)

  verify_loads : (t : Task) (e : Entry) (against : Content) → Loads o (verify_turn t e against)
  verify_loads t e (content.Bytes given) = either (length given == e.size) _ _ (lines_load t e) tt
  verify_loads t e (content.Seed seed) = lines_load t e
  verify_loads t e content.Zero = lines_load t e

  bytes_load : (t : Task) (e : Entry) (offset : ℕ) → Loads o (bytes_turn t e offset)
  bytes_load t e offset = either (nat_le (wanted_end t.cmd e.size) offset) _ _ tt (inl refl)

  kind_loads : (t : Task) (k : Kind) (turn : Turn) → Loads o turn → Loads o (kind_turn t k turn)
  kind_loads t kind.Directory turn loads = tt
  kind_loads t kind.File turn loads = loads

  found_loads : (t : Task) (e : Option Entry) (turn : Entry → Turn) → ((e : Entry) → Loads o (turn e)) → Loads o (found_turn t e turn)
  found_loads t None turn loads = tt
  found_loads t (Some e) turn loads = kind_loads t e.kind (turn e) (loads e)

  -- a task that stays at its decision
  wish_loads : (t : Task) → t.phase ≡ at.Decide → (w : Option Wish) → Loads o (wish_turn t w)
  wish_loads t is None = inl (ap (λ (p : Phase). loads_from p t) is)
  wish_loads t is (Some w) = append_loads t (decide_wish t.params t.me t.entries w)

  decide_loads : (t : Task) → t.phase ≡ at.Decide → (c : Cmd) → Loads o (decide_turn c t)
  decide_loads t is (Verify path against) = found_loads t (finmap.get (replay t.entries) path) (λ e. verify_turn t e against) (λ e. verify_loads t e against)
  decide_loads t is (Read path offset count) = found_loads t (finmap.get (replay t.entries) path) (λ e. bytes_turn t e offset) (λ e. bytes_load t e offset)
  decide_loads t is (Mkdir path attr) = wish_loads t is (wish_of t.cmd)
  decide_loads t is (Creat path size attr stripe fill) = wish_loads t is (wish_of t.cmd)
  decide_loads t is (Cp path attr stripe bytes) = wish_loads t is (wish_of t.cmd)
  decide_loads t is e = tt

  line_loads : (t : Task) (part : Part) (j : ℕ) (turn : Turn) → Loads o turn → Loads o (line_or t part j turn)
  line_loads t part j turn loads = either (nat_lt (j + 1) (part_count t part)) _ _ (inl refl) loads

  compare_loads : (t : Task) (against : Content) (j : ℕ) (b : Option ℕ) → Loads o (compare_turn t against j b)
  compare_loads t against j (Some b) = tt
  compare_loads t against j None = line_loads (record t { words = [] }) File j _ tt

  file_loads : (t : Task) (j : ℕ) → LoadsNext o t → (c : Cmd) → Loads o (file_turn c t j)
  file_loads t j stays (Verify path against) = compare_loads t against j (line_difference t against j)
  file_loads t j stays (Read path offset count) = line_loads t File j _ tt
  file_loads t j stays other = stays

  part_loads : (t : Task) (part : Part) (j : ℕ) → LoadsNext o t → Loads o (line_turn t part j)
  part_loads t Superblock j stays = line_loads t Superblock j _ (super_loads t (super_body_of t.words (line_bytes * t.lines)))
  part_loads t Header j stays = header_loads t (log_fault t.words t.params)
  part_loads t (Slot i) j stays = line_loads t (Slot i) j _ (inl refl)
  part_loads t File j stays = file_loads t j stays t.cmd

-- another word of the line
same_line : (t : Task) (word : ℕ) (p : Phase) (part : Part) (j : ℕ) → part_line (record (with_word t word) { phase = p }) part j ≡ part_line t part j
same_line t word p Superblock j = refl
same_line t word p e j = refl

turn_loads : (p : Phase) (t : Task) (word : ℕ) → IsBeforeWrites p → t.phase ≡ p → Loads (reads_at p t) (turn_at p t word)
turn_loads at.DropMagic t word before is = inr refl
turn_loads at.Magic t word before is = magic_loads (Some 0) t (magic_fault word)
turn_loads (at.Drop Superblock j) t word before is = inr refl
turn_loads (at.Drop Header j) t word before is = inr refl
turn_loads (at.Drop (Slot i) j) t word before is = inr refl
turn_loads (at.Drop File j) t word before is = inr refl
turn_loads (at.Word part j k) t word before is =
    either (Some (part_line t part j)) (nat_lt k 7) _ _ (inr (ap Some (same_line t word (at.Word part j (k + 1)) part j)))
    (part_loads (Some (part_line t part j)) (with_word t word) part j
    (inr (ap (λ (p : Phase). loads_from p (with_word t word)) is ∙ ap Some (same_line t word t.phase part j))))
turn_loads at.DropGate t word before is = inr refl
turn_loads at.Gate t word before is = gate_loads (Some gate_line) t word (gate_fault word t.params)
turn_loads (at.Check i) t word before is = check_loads None t i t.cmd
turn_loads at.Decide t word before is = decide_loads None t is t.cmd
turn_loads e t word before is = absurd before

-- What is loaded isn't stale.

abbrev pub FreshAt : Option ℕ → Machine → Type 0
FreshAt None m = ⊤
FreshAt (Some l) m = Fresh (line_at m.image l) (cell_at m.cache l)

-- the line at hand isn't stale after the operation
module _ (m : Machine) (normal : map eight m.image ≡ m.image) (clean : IsClean m.cache) where
  fresh_then : (p : Phase) (t : Task) → IsBeforeWrites p → FreshAt (loads_from p t) m → FreshAt (reads_at p t) (operated (op_at t p) m)
  fresh_then at.DropMagic t before f = dropped_fresh _ 0 m.cache
  fresh_then at.Magic t before f = quiet_fresh m normal clean (op_at t at.Magic) tt 0 f
  fresh_then (at.Drop part j) t before f = dropped_fresh _ (part_line t part j) m.cache
  fresh_then (at.Word part j k) t before f = quiet_fresh m normal clean (op_at t (at.Word part j k)) tt (part_line t part j) f
  fresh_then at.DropGate t before f = dropped_fresh _ gate_line m.cache
  fresh_then at.Gate t before f = quiet_fresh m normal clean (op_at t at.Gate) tt gate_line f
  fresh_then (at.Check i) t before f = tt
  fresh_then at.Decide t before f = tt
  fresh_then e t before f = absurd before

-- the word of a load is the image's
word_given : (image : Image) (m : Machine) (p : Phase) (t : Task) → (IsBeforeWrites p → m.image ≡ image)
    → (IsBeforeWrites p → FreshAt (loads_from p t) m) → given (op_at t p) m ≡ image_word image (op_at t p)
word_given image m p t same fresh = by_phase p same fresh
  where
    loaded : (l k : ℕ) → m.image ≡ image → Fresh (line_at m.image l) (cell_at m.cache l)
        → Some (slice_index (current (line_at m.image l) (cell_at m.cache l)) k) ≡ Some (slice_index (line_at image l) k)
    loaded l k is f = ap (λ (w : List ℕ). Some (slice_index w k)) (fresh_current (line_at m.image l) (cell_at m.cache l) f ∙ ap (λ (i : Image). line_at i l) is)

    by_phase : (p : Phase) → (IsBeforeWrites p → m.image ≡ image) → (IsBeforeWrites p → FreshAt (loads_from p t) m) → given (op_at t p) m ≡ image_word image (op_at t p)
    by_phase at.Magic is f = loaded 0 0 (is tt) (f tt)
    by_phase (at.Word part j k) is f = loaded (part_line t part j) k (is tt) (f tt)
    by_phase at.Gate is f = loaded gate_line 0 (is tt) (f tt)
    by_phase e is f = refl

module _ (kept : Option Kept) (cmd : Cmd) (me : List ℕ) (image : Image) (cache : Cache) (normal : map eight image ≡ image) (clean : IsClean cache) where
  pub ran_fresh : (t : Task) (words : List ℕ) (made : ℕ) (m : Machine) → SoloRun kept cmd me image cache t words made m → IsBeforeWrites t.phase → FreshAt (loads_from t.phase t) m
  ran_fresh t words made m starts before = tt
  ran_fresh next _ _ _ (goes {t = t} {words = words} {made = made} {m = m} ran inside is) at_phase =
      let was : IsBeforeWrites t.phase = stays_past t.phase t next (word_of t m) is at_phase in
      let looks : Looks image t.phase m = ran_looks kept cmd me image cache normal clean t words made m ran was in
      let formed : map eight m.image ≡ m.image = ran_normal kept cmd me image cache normal t words made m ran in
      let fresh : FreshAt (reads_at t.phase t) (operated (op_of t) m) = fresh_then m formed looks.clean t.phase t was (ran_fresh t words made m ran was) in
      elim (loads_then (reads_at t.phase t) (turn_on t m) next (turn_loads t.phase t (word_of t m) was refl) is) [
        | inl none ↦ subst (λ (o : Option ℕ). FreshAt o (operated (op_of t) m)) (sym none) tt
        | inr same ↦ subst (λ (o : Option ℕ). FreshAt o (operated (op_of t) m)) (sym same) fresh
      ]

  -- each load gives the image's word
  pub given_told : (t : Task) (words : List ℕ) (made : ℕ) (m : Machine) → SoloRun kept cmd me image cache t words made m → given (op_of t) m ≡ image_word image (op_of t)
  given_told t words made m ran =
      word_given image m t.phase t (λ before. (ran_looks kept cmd me image cache normal clean t words made m ran before).image_is) (λ before. ran_fresh t words made m ran before)

  -- so the image tells where the command stands
  pub ran_told : (t : Task) (words : List ℕ) (made : ℕ) (m : Machine) → (ran : SoloRun kept cmd me image cache t words made m)
      → stand_after kept cmd me image made ≡ Some (record { task = t; words = words; notes = notes_up_to kept cmd me image cache t words made m ran })
  ran_told t words made m starts = refl
  ran_told next _ _ _ (goes {t = t} {words = words} {made = made} {m = m} ran inside is) =
      let word : given (op_of t) m ≡ image_word image (op_of t) = given_told t words made m ran in
      let notes : List RowNote = notes_up_to kept cmd me image cache t words made m ran in
      let stand : Stand = record { task = t; words = words; notes = notes } in
      let next : made + 1 ≡ suc made = omega arith in
      ap (stand_after kept cmd me image) next
      ∙ ap (stand_next image) (ran_told t words made m ran)
      ∙ ap (λ (w : Option ℕ). option_map (λ (x : Task). record { task = x; words = with_given words w; notes = notes ++ noted (note_of (turn_of t w)) }) (task_after (turn_of t w))) (sym word)
      ∙ ap (option_map (λ (x : Task). record { task = x; words = with_given words (given (op_of t) m); notes = notes ++ noted (note_of (turn_on t m)) })) is

  -- and so its turn
  pub turn_told : (t : Task) (words : List ℕ) (made : ℕ) (m : Machine) → (ran : SoloRun kept cmd me image cache t words made m)
      → image_turn image (record { task = t; words = words; notes = notes_up_to kept cmd me image cache t words made m ran }) ≡ turn_on t m
  turn_told t words made m ran = ap (turn_of t) (sym (given_told t words made m ran))

-- By the image alone.

none_after : (kept : Option Kept) (cmd : Cmd) (me : List ℕ) (image : Image) (n more : ℕ) → stand_after kept cmd me image n ≡ None → stand_after kept cmd me image (n + more) ≡ None
none_after kept cmd me image n zero none = let same : n + 0 ≡ n = omega arith in ap (stand_after kept cmd me image) same ∙ none
none_after kept cmd me image n (suc more) none = let same : n + suc more ≡ suc (n + more) = omega arith in ap (stand_after kept cmd me image) same
    ∙ ap (stand_next image) (none_after kept cmd me image n more none)

module _ (kept : Option Kept) (cmd : Cmd) (me : List ℕ) (image : Image) where
  -- where a command ends it goes no further
  ends_there : (n : ℕ) (s : Stand) (reply : Reply) → stand_after kept cmd me image n ≡ Some s → image_turn image s ≡ Ends reply → stand_after kept cmd me image (n + 1) ≡ None
  ends_there n s reply stands ends =
      let next : n + 1 ≡ suc n = omega arith in
      ap (stand_after kept cmd me image) next ∙ ap (stand_next image) stands
      ∙ ap (λ (turn : Turn). option_map
      (λ (x : Task). record {
        task = x;
        words = with_given s.words (image_word image (op_of s.task));
        notes =
            s.notes ++ noted (note_of (image_turn image s));
      }) (task_after turn)) ends

  not_later : (n : ℕ) (s : Stand) (k : ℕ) → stand_after kept cmd me image (k + 1) ≡ None → stand_after kept cmd me image n ≡ Some s → k < n → ⊥
  not_later n s k none some less =
      let gone : stand_after kept cmd me image (k + 1 + (n - (k + 1))) ≡ None = none_after kept cmd me image (k + 1) (n - (k + 1)) none in
      let same : k + 1 + (n - (k + 1)) ≡ n = omega (arith, less) in
      absurd (let both = sym (ap (stand_after kept cmd me image) same) ∙ gone in cc)

  -- so it ends at one place, with the same words and the same notes
  module _ (n k : ℕ) (s r : Stand) (reply answer : Reply) (stands : stand_after kept cmd me image n ≡ Some s) (ends : image_turn image s ≡ Ends reply)
      (stands' : stand_after kept cmd me image k ≡ Some r) (ends' : image_turn image r ≡ Ends answer) where
    pub same_count : n ≡ k
    same_count = elim (cases_order n k) [
      | inl same ↦ same
      | inr apart ↦ elim apart [
        | inl less ↦ absurd (not_later k r n (ends_there n s reply stands ends) stands' less)
        | inr more ↦ absurd (not_later n s k (ends_there k r answer stands' ends') stands more)
      ]
    ]

    pub same_stand : s ≡ r
    same_stand = same_Some s r (sym stands ∙ ap (stand_after kept cmd me image) same_count ∙ stands')
