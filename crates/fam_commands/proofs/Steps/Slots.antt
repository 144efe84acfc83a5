-- What comes of the operations of the slots.
use Rattle.std.proofs.Common.{ℕ, ◌≡◌, ◌<◌, ◌+◌, ◌⊎◌, inl, inr, Bool, true, false, cond, List, [], ◌∷◌, ◌++◌, length, drop, Option, Some, None, Result, Ok, Err, refl, sym, ◌∙◌, ap, subst, arith, length-append}
use Rattle.std.specs.Prelude.{find}
use Rattle.std.specs.Option.{option_or}
use Rattle.std.specs.FinMap as finmap
use Rattle.std.proofs.lemmas.Bool.{cases_Bool, cases_lt}
use Rattle.std.proofs.lemmas.List.Folds.{find-append}
use Rattle.std.proofs.lemmas.Slice.Eq.{bytes_eq-Decides}
use Rattle.fam_base.specs.declared.cmd.Cmd.{Cmd}
use Rattle.fam_base.specs.declared.cmd.Cmd.TheVariants.{Fsck}
use Rattle.fam_base.specs.declared.entry.Entry.{Entry}
use Rattle.fam_base.specs.PathOrder.{path_eq}
use Rattle.fam_format.specs.declared.faults.Reason.{Reason}
use Rattle.fam_format.specs.Slot.{entry_of}
use Rattle.fam_format.specs.Tree.{replay, join_fault}
use Rattle.fam_format.specs.Reading.{Sound, slot_in, slot_words, slot_or, joined_or}
use Rattle.fam_format.proofs.Formats.{piece_more, shape}
use Rattle.fam_format.proofs.JoinLaws.{joins_from, tree_more}
use Rattle.fam_rules.specs.Reply as reply
use Rattle.fam_rules.specs.Reports.{survey_slot}
use Rattle.fam_commands.specs.declared.phase.Part.TheVariants.{Slot}
use Rattle.fam_commands.specs.declared.phase.Phase.TheVariants as at
use Rattle.fam_commands.specs.Counts.{slot_steps}
use Rattle.fam_commands.specs.Kept.{used}
use Rattle.fam_commands.proofs.UsedCounts.{used_fsck_count}
use Rattle.fam_commands.proofs.Steps.UsedTold.{slot_steps_told}
use Rattle.fam_commands.specs.Task.{used_in, first_in, Task}
use Rattle.fam_commands.specs.Turns.{Goes, slots_read, slot_or_decide, join_turn, slot_turn, check_turn, line_turn}
use Rattle.fam_commands.specs.Table.{Quiet, fed, fed_slots, reading_note, slot_note}
use Rattle.fam_commands.proofs.FedLemmas.{slot_held, slots_more, survey_more}
use Rattle.fam_commands.proofs.Rows.Numbered.{if_below, if_past}
use Rattle.fam_commands.proofs.Steps.Outcomes.{Outcome, outcome_as, goes_on, ends, next_line, slot_or_decide_tie}
use Rattle.fam_commands.proofs.Steps.Ties.{AreRead, SlotsKnown, TaskSlots, InPart, TieAt, line_end, words_to, steps_to}
use Rattle.fam_format.specs.Layout.{geometry}

-- What stands at a path, in the tree and in the list.

or_none : {A : Type 0} (o : Option A) → option_or o None ≡ o
or_none None = refl
or_none (Some x) = refl

-- with an entry more, a path is found where it was or is new
pub lookups_more : (list : List Entry) (e : Entry) → ((path : List ℕ) → finmap.get (replay list) path ≡ find (λ x. path_eq x.path path) list)
    → finmap.get (replay list) e.path ≡ None → (path : List ℕ) → finmap.get (replay (list ++ e ∷ [])) path ≡ find (λ x. path_eq x.path path)
    (list ++ e ∷ [])
lookups_more list e same absent path =
    tree_more list e path ∙ by_path (cases_Bool (path_eq e.path path)) ∙ sym (find-append (λ x. path_eq x.path path) list (e ∷ []))
  where
    by_path : (path_eq e.path path ≡ true) ⊎ (path_eq e.path path ≡ false) → cond (path_eq e.path path) (Some e) (finmap.get (replay list) path)
        ≡ option_or (find (λ x. path_eq x.path path) list) (cond (path_eq e.path path) (Some e) None)
    by_path (inl is) =
        let here : e.path ≡ path = (bytes_eq-Decides e.path path).0 is in
        let none : find (λ x. path_eq x.path path) list ≡ None = sym (same path) ∙ ap (finmap.get (replay list)) (sym here) ∙ absent in
        ap (λ (b : Bool). cond b (Some e) (finmap.get (replay list) path)) is
        ∙ sym (ap (λ (b : Bool). option_or (find (λ x. path_eq x.path path) list) (cond b (Some e) None)) is ∙ ap (λ (o : Option Entry). option_or o (Some e)) none)
    by_path (inr other) =
        ap (λ (b : Bool). cond b (Some e) (finmap.get (replay list) path)) other
        ∙ same path
        ∙ sym (ap (λ (b : Bool). option_or (find (λ x. path_eq x.path path) list) (cond b (Some e) None)) other ∙ or_none (find (λ x. path_eq x.path path) list))

-- The lines of a slot.

-- a line of a slot is loaded whole
pub slot_line_step : (t : Task) (words : List ℕ) (i j made : ℕ) → InPart (Slot i) t words j 8 9 made → Outcome t (line_turn t (Slot i) j) (line_end (Slot i) t words j) words made
slot_line_step t words i j made h =
    let long = h.long in
    let within = h.within in
    let at_made = h.made_is in
    elim (cases_lt (j + 1) (geometry t.params).lines) [
      | inl below ↦
          outcome_as t _ (Goes (record t { phase = at.Drop (Slot i) (j + 1) })) Quiet Quiet words made
          (if_below (j + 1) (geometry t.params).lines _ (Goes (record t { phase = at.Check i })) below) refl
          (next_line (Slot i) t words j made h.known below h.long h.held h.made_is)
      | inr past ↦
          outcome_as t _ (Goes (record t { phase = at.Check i })) Quiet Quiet words made (if_past (j + 1) (geometry t.params).lines (Goes (record t { phase = at.Drop (Slot i) (j + 1) })) _ past) refl
          (goes_on t (record t { phase = at.Check i }) words made refl refl refl refl (
            h.known.0,
            h.known.1,
            omega (arith, (shape t.params).words),
            h.held ∙ ap (λ (n : ℕ). drop n words)
                (let z : words_to t.params (first_in t) i + 0 ≡ words_to t.params (first_in t) i = omega arith in z),
            omega arith,
          ))
    ]

-- The Digest behind them.

-- where the command reads the slots below the gate alone
module _ (t : Task) (words : List ℕ) (i made : ℕ) (h : TaskSlots t words i) (below : i < slots_read t)
    (long : length words ≡ words_to t.params (first_in t) i + (geometry t.params).words) (at_made : made ≡ steps_to t.params (first_in t) (i + 1))
    (read : AreRead t.params (used_in t) t.entries words i) (again : (list : List Entry) → AreRead t.params (used_in t) list words (i + 1)
    → SlotsKnown t.cmd t.params t.gate (used_in t) list t.survey words (i + 1)) where
  join_by : (e : Entry) (f : Option Reason) → join_fault t.params t.entries e ≡ f
      → fed_slots words t.params (used_in t) (i + 1) ≡ joined_or i f (Sound t.params (t.entries ++ e ∷ []))
      → Outcome t (join_turn t i e f) (reading_note (joined_or i f (Sound t.params (t.entries ++ e ∷ [])))) words made
  join_by e (Some reason) is told = ends t (reply.BadSlot i reason) _ words made refl (at_made ∙ slot_steps_told t words i h)
  join_by e None is told =
      goes_on t (record t { entries = t.entries ++ e ∷ []; words = []; phase = slot_or_decide t (i + 1) }) words made refl refl refl refl
      (slot_or_decide_tie (record t { entries = t.entries ++ e ∷ []; words = [] }) (slot_or_decide t (i + 1)) words (i + 1) made
      (record {
        gated = h.gated;
        behind = let b = h.behind in omega arith;
        known = again (t.entries ++ e ∷ []) (record {
          sound = told;
          count = length-append t.entries (e ∷ []) ∙ ap (λ (n : ℕ). n + 1) read.count;
          lookups = lookups_more t.entries e read.lookups (joins_from t.params t.entries e is).absent;
        });
        long = let b = h.behind in omega (arith, piece_more (geometry t.params).words (first_in t) i h.behind);
      }) (omega arith) refl (let b = h.behind in omega (arith, piece_more (geometry t.params).words (first_in t) i h.behind)) at_made)

  slot_by : (r : Result Entry Reason) → fed_slots words t.params (used_in t) (i + 1) ≡ slot_or t.params t.entries i r
      (λ e. Sound t.params (t.entries ++ e ∷ []))
      → Outcome t (slot_turn t i r) (reading_note (slot_or t.params t.entries i r (λ e. Sound t.params (t.entries ++ e ∷ [])))) words made
  slot_by (Err reason) told = ends t (reply.BadSlot i reason) _ words made refl (at_made ∙ slot_steps_told t words i h)
  slot_by (Ok e) told = join_by e (join_fault t.params t.entries e) refl told

  -- the words of a slot are looked at
  pub slot_outcome : t.words ≡ drop (words_to t.params (first_in t) i) words
      → Outcome t (slot_turn t i (entry_of t.params t.words i)) (reading_note (fed_slots words t.params (used_in t) (i + 1))) words made
  slot_outcome held =
      let told = slots_more words t.params (used_in t) i t.entries h.behind read.sound in
      let same : t.words ≡ slot_words (fed t.params (first_in t) words) t.params i = held ∙ sym (slot_held words t.params (first_in t) i h.behind long) in
      outcome_as t _ (slot_turn t i (slot_in (fed t.params (first_in t) words) t.params i)) _ _ words made (ap (λ (w : List ℕ). slot_turn t i (entry_of t.params w i)) same) (ap reading_note told)
      (slot_by (slot_in (fed t.params (first_in t) words) t.params i) told)

check_as : (cmd : Cmd) (t : Task) (words : List ℕ) (i made : ℕ) → TieAt (at.Check i) (record t { cmd = cmd }) words made
    → Outcome (record t { cmd = cmd }) (check_turn cmd (record t { cmd = cmd }) i) (slot_note cmd words t.params (used t.kept cmd t.params t.gate) i)
    words (made + 1)
check_as Fsck t words i made (h, below, long, held, is) =
    let none : length (used t.kept Fsck t.params t.gate) ≡ 0 = used_fsck_count t.kept t.params t.gate in
    let same : t.words ≡ slot_words (fed t.params 0 words) t.params i = held ∙ ap (λ (n : ℕ). drop (words_to t.params n i) words) none
    ∙ sym (slot_held words t.params 0 i (omega arith)
    (subst (λ (n : ℕ). length words ≡ words_to t.params n i + (geometry t.params).words) none long)) in
    let more_words = piece_more (geometry t.params).words (length (used t.kept Fsck t.params t.gate)) i h.behind in
    let more_steps = piece_more (slot_steps (geometry t.params)) (length (used t.kept Fsck t.params t.gate)) i h.behind in
    goes_on (record t { cmd = Fsck })
    (record t {
      cmd = Fsck;
      survey = survey_slot t.params t.gate i t.words t.survey;
      words = [];
      phase = slot_or_decide (record t { cmd = Fsck })
          (i + 1);
    }) words (made + 1) refl refl refl refl
    (slot_or_decide_tie (record t { cmd = Fsck; survey = survey_slot t.params t.gate i t.words t.survey; words = [] }) (slot_or_decide (record t { cmd = Fsck }) (i + 1)) words (i + 1) (made + 1)
    (record {
      gated = h.gated;
      behind = omega arith;
      known = ap (λ (w : List ℕ). survey_slot t.params t.gate i w t.survey) same
          ∙ ap (survey_slot t.params t.gate i (slot_words (fed t.params 0 words) t.params i)) h.known ∙ sym (survey_more words t.params t.gate i);
      long = omega arith;
    }) (omega arith) refl (omega arith) (omega arith))
check_as cmd t words i made (h, below, long, held, is) = slot_outcome (record t { cmd = cmd }) words i (made + 1) h below long
    (omega (arith, piece_more (slot_steps (geometry t.params)) (length (used t.kept cmd t.params t.gate)) i h.behind)) h.known
    (λ list read. read) held

-- so for every command
pub check_step : (t : Task) (words : List ℕ) (i made : ℕ) → TieAt (at.Check i) t words made → Outcome t (check_turn t.cmd t i) (slot_note t.cmd words t.params (used_in t) i) words (made + 1)
check_step t words i made h = check_as t.cmd t words i made h
