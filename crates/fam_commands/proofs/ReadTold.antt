-- What a task has read when it decides: the words that its loads gave tell it, and each entry joins those before it. So
-- what a host keeps behind an answer is told by the words, and is a history.
use Rattle.std.proofs.Common.{ℕ, ◌≡◌, ◌+◌, ◌-◌, zero, suc, Bool, true, false, inl, inr, List, [], ◌∷◌, ◌++◌, length, take, get_or, Option, Some, None, Result, Ok, Err, refl, sym, ◌∙◌, ap, arith, subst}
use Rattle.std.specs.Prelude.{◌&&◌, ◌==◌, nat_le, slice_get, unwrap_or, if◌then◌else◌}
use Rattle.std.specs.Cmp.Lexicographic.{pointwise_decides}
use Rattle.std.proofs.lemmas.Bool.{and_parts, cases_lt, eqb-true}
use Rattle.std.proofs.lemmas.Bool.Decides.{Decides-eqb}
use Rattle.std.proofs.lemmas.List.{get_or_append_left, length-append, take-append-le}
use Rattle.std.proofs.lemmas.Option.{get_or_from_slice_get, slice_get-get_or, slice_get_within}
use Rattle.std.proofs.Math.Seq.{get_or-append_seam, take-append_seam}
use Rattle.fam_base.specs.declared.cmd.Cmd.{Cmd}
use Rattle.fam_base.specs.declared.cmd.Cmd.TheVariants.{Fsck}
use Rattle.fam_base.specs.declared.entry.Params.{Params}
use Rattle.fam_base.specs.declared.entry.Entry.{Entry}
use Rattle.fam_base.specs.PathOrder.{path_eq}
use Rattle.fam_format.specs.declared.faults.Reason.{Reason}
use Rattle.fam_format.specs.Reading.{Lines, BadSlot, Sound, joined_or, read_slots, slot_in, slot_or}
use Rattle.fam_format.specs.Tree.{join_fault}
use Rattle.fam_machine.specs.Operations.{given_by}
use Rattle.fam_rules.specs.Reply.{Reply, Mounted, Played}
use Rattle.fam_commands.specs.declared.phase.Phase.{Phase}
use Rattle.fam_commands.specs.declared.phase.Phase.TheVariants as at
use Rattle.fam_commands.specs.Classes.{Replays, class_of}
use Rattle.fam_commands.specs.Counts.{told_entries, used_told}
use Rattle.fam_commands.specs.Keeping.{kept_after, kept_behind, kept_by, read_by, read_told}
use Rattle.fam_commands.specs.Kept.{AllJoin, IsKept, Kept, is_same_params, used, used_by, class_used}
use Rattle.fam_commands.specs.Stands.{StandsFor, note_of, turn_given, with_given}
use Rattle.fam_commands.specs.Table.{entries_read, fed, fed_super, params_or}
use Rattle.fam_commands.specs.Task.{Task, no_params, op_at, op_of, used_in}
use Rattle.fam_commands.specs.Turns.{Turn, Ends}
use Rattle.fam_commands.proofs.Counted.Files.{told_are}
use Rattle.fam_commands.proofs.Rows.Slots.{ReadsLog, below_gate, read_of}
use Rattle.fam_commands.proofs.Steps.Standing.{standing_tied}
use Rattle.fam_commands.proofs.Steps.Ties.{TaskSlots, TieAt, Tied}
use Rattle.fam_commands.proofs.TurnTells.{ReplyTells, Tells, turn_tells}

-- Parameters that are the same by every part.

same_parts : (a b : Params) → a.format ≡ b.format → a.log_length ≡ b.log_length → a.slots ≡ b.slots → a.unit ≡ b.unit → a.device ≡ b.device → a.fs ≡ b.fs → a.master ≡ b.master → a ≡ b
same_parts a b format log slots unit device fs master =
    ap (λ (n : ℕ). record { format = n; log_length = a.log_length; slots = a.slots; unit = a.unit; device = a.device; fs = a.fs; master = a.master }) format
    ∙ ap (λ (n : ℕ). record { format = b.format; log_length = n; slots = a.slots; unit = a.unit; device = a.device; fs = a.fs; master = a.master }) log
    ∙ ap (λ (n : ℕ). record { format = b.format; log_length = b.log_length; slots = n; unit = a.unit; device = a.device; fs = a.fs; master = a.master }) slots
    ∙ ap (λ (n : ℕ). record { format = b.format; log_length = b.log_length; slots = b.slots; unit = n; device = a.device; fs = a.fs; master = a.master }) unit
    ∙ ap (λ (n : ℕ). record { format = b.format; log_length = b.log_length; slots = b.slots; unit = b.unit; device = n; fs = a.fs; master = a.master }) device
    ∙ ap (λ (id : List ℕ). record { format = b.format; log_length = b.log_length; slots = b.slots; unit = b.unit; device = b.device; fs = id; master = a.master }) fs
    ∙ ap (λ (id : List ℕ). record { format = b.format; log_length = b.log_length; slots = b.slots; unit = b.unit; device = b.device; fs = b.fs; master = id }) master

same_params : (a b : Params) → is_same_params a b ≡ true → a ≡ b
same_params a b same =
    let format = and_parts (a.format == b.format) _ same in
    let log = and_parts (a.log_length == b.log_length) _ format.1 in
    let slots = and_parts (a.slots == b.slots) _ log.1 in
    let unit = and_parts (a.unit == b.unit) _ slots.1 in
    let device = and_parts (a.device == b.device) _ unit.1 in
    let ids = and_parts (path_eq a.fs b.fs) (path_eq a.master b.master) device.1 in
    same_parts a b (eqb-true a.format b.format format.0) (eqb-true a.log_length b.log_length log.0) (eqb-true a.slots b.slots slots.0)
    (eqb-true a.unit b.unit unit.0) (eqb-true a.device b.device device.0)
    ((pointwise_decides Decides-eqb a.fs b.fs).0 ids.0) ((pointwise_decides Decides-eqb a.master b.master).0 ids.1)

-- Entries that join.

none_join : (p : Params) → AllJoin p []
none_join p i e is = absurd cc

by_test : (k : Kept) (p : Params) (same fits : Bool) → (same ≡ true → k.params ≡ p) → AllJoin k.params k.entries → AllJoin p (if same && fits then k.entries else [])
by_test k p true true is joined = subst (λ (q : Params). AllJoin q k.entries) (is refl) joined
by_test k p true false is joined = none_join p
by_test k p false fits is joined = none_join p

used_by_joins : (kept : Option Kept) (p : Params) (gate : ℕ) → IsKept kept → AllJoin p (used_by kept p gate)
unfolding used_by
used_by_joins None p gate joined = none_join p
used_by_joins (Some k) p gate joined = by_test k p (is_same_params k.params p) (nat_le (length k.entries) gate) (same_params k.params p) joined

-- the entries with which a command begins
used_joins : (kept : Option Kept) (cmd : Cmd) (p : Params) (gate : ℕ) → IsKept kept → AllJoin p (used kept cmd p gate)
unfolding class_used
used_joins kept Fsck p gate joined = none_join p
used_joins kept cmd p gate joined = used_by_joins kept p gate joined

-- an entry of the longer list is one of the shorter, or the last
joins_more : (p : Params) (list : List Entry) (e : Entry) → AllJoin p list → join_fault p list e ≡ None → AllJoin p (list ++ e ∷ [])
joins_more p list e joined is i x at =
    let longer : List Entry = list ++ e ∷ [] in
    elim (cases_lt i (length list)) [
      | inl below ↦
          let before : slice_get list i ≡ Some x =
          slice_get-get_or list i x below
          ∙ ap (λ (y : Entry). Some y) (sym (get_or_append_left list (e ∷ []) x i below) ∙ get_or_from_slice_get longer i x x at) in
          subst (λ (front : List Entry). join_fault p front x ≡ None) (sym (take-append-le i list (e ∷ []) (omega arith))) (joined i x before)
      | inr past ↦
          let last : i ≡ length list = omega (arith, past, slice_get_within longer i x at, length-append list (e ∷ [])) in
          let same : e ≡ x =
          sym (get_or-append_seam list e [] e) ∙ ap (λ (k : ℕ). get_or longer k e) (sym last) ∙ get_or_from_slice_get longer i x e at in
          let front : list ≡ take i longer = sym (take-append_seam list (e ∷ [])) ∙ ap (λ (k : ℕ). take k longer) (sym last) in
          subst (λ (before : List Entry). join_fault p before x ≡ None) front (subst (λ (y : Entry). join_fault p list y ≡ None) same is)
    ]

-- A sound reading.

sound_entries : (p q : Params) (a b : List Entry) → Sound p a ≡ Sound q b → a ≡ b
sound_entries p q a b is = ap entries_read is

not_sound : (i : ℕ) (reason : Reason) (p : Params) (entries : List Entry) → BadSlot i reason ≡ Sound p entries → ⊥
not_sound i reason p entries is = absurd cc

-- the entries of a sound reading join, where those with which it begins do
reading_joins : (line : Lines) (p q : Params) (n from : ℕ) (list entries : List Entry) → AllJoin p list → read_slots line p from n list ≡ Sound q entries → AllJoin p entries
reading_joins line p q zero from list entries joined is = subst (AllJoin p) (sound_entries p q list entries is) joined
reading_joins line p q (suc n) from list entries joined is =
    by_slot (slot_in line p from) (λ e fault is'. reading_joins line p q n (from + 1) (list ++ e ∷ []) entries (joins_more p list e joined fault) is')
    is
  where
    by_join : (e : Entry) (f : Option Reason) → join_fault p list e ≡ f
        → ((e : Entry) → join_fault p list e ≡ None → read_slots line p (from + 1) n (list ++ e ∷ []) ≡ Sound q entries → AllJoin p entries)
        → joined_or from f (read_slots line p (from + 1) n (list ++ e ∷ [])) ≡ Sound q entries → AllJoin p entries
    by_join e (Some reason) fault rest is' = absurd (not_sound from reason q entries is')
    by_join e None fault rest is' = rest e fault is'

    by_slot : (r : Result Entry Reason)
        → ((e : Entry) → join_fault p list e ≡ None → read_slots line p (from + 1) n (list ++ e ∷ []) ≡ Sound q entries → AllJoin p entries)
        → slot_or p list from r (λ e. read_slots line p (from + 1) n (list ++ e ∷ [])) ≡ Sound q entries → AllJoin p entries
    by_slot (Err reason) rest is' = absurd (not_sound from reason q entries is')
    by_slot (Ok e) rest is' = by_join e (join_fault p list e) refl rest is'

-- A task that decides.

module _ (kept : Option Kept) (cmd : Cmd) (me : List ℕ) (lines : ℕ) (t : Task) (words : List ℕ) (made : ℕ) (joined : IsKept kept) (stands : StandsFor kept cmd me lines t words made) where
  tied : Tied cmd me lines kept t words made
  tied = standing_tied kept cmd me lines t words made joined stands

  module _ (is : t.phase ≡ at.Decide) (reads : ReadsLog t.cmd) where
    slots : TaskSlots t words t.gate
    slots =
        let here : TieAt at.Decide t words made = subst (λ (p : Phase). TieAt p t words made) is tied.tie in
        subst (λ (n : ℕ). TaskSlots t words n) (below_gate t reads) here.0

    -- it has read what its words tell
    decided_told : read_told kept cmd words lines ≡ read_by t
    decided_told =
        let params : params_or no_params (fed_super words t.lines) ≡ t.params = ap (params_or no_params) slots.gated.log.head.super in
        let entries : told_entries (used_told t.kept t.cmd words t.lines) words t.lines ≡ t.entries = told_are t.kept t.cmd t.me t.lines t.params t.gate t.entries t.survey words reads slots in
        sym (ap (λ (k : Option Kept). read_told k t.cmd words t.lines) tied.kept_is ∙ ap (λ (c : Cmd). read_told kept c words t.lines) tied.cmd_is ∙ ap (read_told kept cmd words) tied.lines_is)
        ∙ ap (λ (p : Params). record { params = p; entries = told_entries (used_told t.kept t.cmd words t.lines) words t.lines }) params
        ∙ ap (λ (list : List Entry). record { params = t.params; entries = list }) entries

    -- and that is a history
    decided_joins : AllJoin t.params t.entries
    decided_joins =
        let used_join : AllJoin t.params (used_in t) = used_joins t.kept t.cmd t.params t.gate (subst IsKept (sym tied.kept_is) joined) in
        reading_joins (fed t.params (length (used_in t)) words) t.params t.params (t.gate - length (used_in t)) (length (used_in t)) (used_in t) t.entries used_join
        (read_of t.kept t.cmd t.params t.gate t.entries t.survey words t.gate reads slots.known).sound

  -- What is kept behind an operation.

  replay_reads : (c : Cmd) → class_of c ≡ Replays → ReadsLog c
  replay_reads Fsck is = absurd cc
  replay_reads c is = tt

  -- the decision loads no word
  decide_words : (word : ℕ) → t.phase ≡ at.Decide → with_given words (given_by (op_of t) word) ≡ words
  decide_words word is = ap (λ (p : Phase). with_given words (given_by (op_at t p) word)) is

  module _ (word : ℕ) (before : Option Kept) where
    abbrev now : List ℕ
    now = with_given words (given_by (op_of t) word)

    told_by : (turn : Turn) → Tells t t.phase turn → kept_behind (note_of turn) (read_told kept cmd now lines) before ≡ kept_after turn t before
    told_by (Ends reply) tells = by_reply reply tells
      where
        by_reply : (r : Reply) → ReplyTells t t.phase r → kept_by r (read_told kept cmd now lines) before ≡ kept_by r (read_by t) before
        by_reply (Played m tree) lists =
            ap (λ (w : List ℕ). kept_by (Played m tree) (read_told kept cmd w lines) before) (decide_words word lists.phase)
            ∙ ap (λ (k : Kept). kept_by (Played m tree) k before) (decided_told lists.phase (replay_reads t.cmd lists.class))
        by_reply (Mounted m) lists =
            ap (λ (w : List ℕ). kept_by (Mounted m) (read_told kept cmd w lines) before) (decide_words word lists.phase)
            ∙ ap (λ (k : Kept). kept_by (Mounted m) k before) (decided_told lists.phase (replay_reads t.cmd lists.class))
        by_reply other tells' = refl
    told_by other tells = refl

    pub kept_told : kept_behind (note_of (turn_given t word)) (read_told kept cmd (with_given words (given_by (op_of t) word)) lines) before ≡ kept_after (turn_given t word) t before
    kept_told = told_by (turn_given t word) (turn_tells t.phase t (unwrap_or (given_by (op_of t) word) 0))

    joins_by : (turn : Turn) → Tells t t.phase turn → IsKept before → IsKept (kept_after turn t before)
    joins_by (Ends reply) tells is = by_reply reply before tells is
      where
        by_reply : (r : Reply) (b : Option Kept) → ReplyTells t t.phase r → IsKept b → IsKept (kept_by r (read_by t) b)
        by_reply (Played m tree) None lists is' = tt
        by_reply (Played m tree) (Some k) lists is' = decided_joins lists.phase (replay_reads t.cmd lists.class)
        by_reply (Mounted m) b lists is' = decided_joins lists.phase (replay_reads t.cmd lists.class)
        by_reply other b tells' is' = is'
    joins_by other tells is = is

    pub kept_joins : IsKept before → IsKept (kept_after (turn_given t word) t before)
    kept_joins is = joins_by (turn_given t word) (turn_tells t.phase t (unwrap_or (given_by (op_of t) word) 0)) is
