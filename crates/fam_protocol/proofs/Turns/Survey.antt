-- The turns of a check of the whole file system.
use Rattle.std.proofs.Common.{ℕ, suc, refl, [], ◌∷◌, ◌++◌, ◌+◌, ◌-◌, ◌≤◌, ◌<◌, ◌≡◌, List, length, map, take, Bool, true, false, cond, sym, ◌∙◌, ap, ap₂, subst, arith, min, nat_lt}
use Rattle.std.specs.Prelude.{slice_get, Option, Some, None, Result, Ok, Err, count_by}
use Rattle.std.specs.List.{enumerate_from}
use Rattle.std.proofs.lemmas.Bool.Decides.{nat_tests}
use Rattle.fam_base.specs.declared.cmd.Cmd.TheVariants.{Fsck}
use Rattle.fam_base.specs.declared.entry.Params.{Params}
use Rattle.fam_base.specs.declared.entry.Entry.{Entry}
use Rattle.fam_format.specs.declared.faults.Reason.{Reason}
use Rattle.fam_format.specs.Layout.{device_units}
use Rattle.fam_format.specs.Slot.{entry_of}
use Rattle.fam_format.specs.Stop.{or_else}
use Rattle.fam_format.specs.Tree.{replay, tree_fault, join_fault}
use Rattle.fam_commands.specs.declared.phase.Phase.TheVariants as at
use Rattle.fam_commands.specs.Task.{Task}
use Rattle.fam_commands.specs.Turns.{check_turn, decide_turn, slot_or_decide}
use Rattle.fam_rules.specs.declared.answers.LogState.TheVariants as log
use Rattle.fam_rules.specs.Asks.{File, entries_of}
use Rattle.fam_rules.specs.Reply.{Reports}
use Rattle.fam_rules.specs.Reports.{Survey, applied_or, below_gate, past_gate, survey_slot, is_file, is_directory, used_count, overlap_of, found_entries, report_by}
use Rattle.fam_protocol.specs.SharedState.{SharedState}
use Rattle.fam_protocol.specs.Core.{System, Core, IsHistory}
use Rattle.fam_protocol.specs.Tasks.{HasSurveyed, AtPhase}
use Rattle.fam_protocol.specs.After.{After, ReportsPrefix, Named}
use Rattle.fam_protocol.proofs.Turns.PartWords.{slot_words_are}
use Rattle.fam_protocol.proofs.Turns.Moved.{IsTask}
use Rattle.fam_protocol.proofs.Turns.Tell.{goes, ends}
use Rattle.fam_protocol.proofs.Settled.Lists.{some_at, entries_more, entries_count, history_prefix}
use Rattle.fam_rules.proofs.ListPlaces.{laid_apart}
use Rattle.fam_rules.proofs.NoOverlap.{numbered, map-numbered, no_overlap}
use Rattle.fam_protocol.proofs.Lines.Apart.{history_laid}
use Rattle.fam_protocol.proofs.Turns.Gate.{at_next}
use Rattle.fam_protocol.proofs.Turns.Slots.{commanded, slot_reads}

-- entries with their numbers
numbered_is : (i : ℕ) (list : List Entry) → numbered i list ≡ enumerate_from i list
numbered_is i [] = refl
numbered_is i (e ∷ more) = ap (λ (l : List (ℕ × Entry)). (i, e) ∷ l) (numbered_is (i + 1) more)

-- one entry more
enumerate_more : (n : ℕ) (list : List Entry) (e : Entry) → enumerate_from n (list ++ e ∷ []) ≡ enumerate_from n list ++ (n + length list, e) ∷ []
enumerate_more n [] e = let same : n ≡ n + 0 = omega arith in ap (λ (k : ℕ). (k, e) ∷ []) same
enumerate_more n (x ∷ more) e =
    let same : (n + 1) + length more ≡ n + suc (length more) = omega arith in
    ap (λ (l : List (ℕ × Entry)). (n, x) ∷ l) (enumerate_more (n + 1) more e ∙ ap (λ (k : ℕ). enumerate_from (n + 1) more ++ (k, e) ∷ []) same)

-- an entry that joins a list joins its tree
first_passes : (a b : Option Reason) → or_else a b ≡ None → a ≡ None
first_passes (Some r) b h = absurd (cc)
first_passes None b h = refl

tree_passes : (p : Params) (list : List Entry) (e : Entry) → join_fault p list e ≡ None → tree_fault (replay list) e ≡ None
unfolding join_fault
tree_passes p list e h = first_passes (tree_fault (replay list) e) _ h

-- a slot below the gate is surveyed
below_next : (i gate : ℕ) (survey : Survey) (all : List File) (f : File) → HasSurveyed i gate survey all → i < gate → gate ≤ length all
    → slice_get all i ≡ Some f → HasSurveyed (i + 1) gate (applied_or survey i f.entry None) all
below_next i gate survey all f h lt fits is =
    let here : min i gate ≡ i = omega arith in
    let there : min (i + 1) gate ≡ i + 1 = omega arith in
    let long : 0 + length (entries_of (take i all)) ≡ i = omega (arith, entries_count i all) in
    let more : entries_of (take (min (i + 1) gate) all) ≡ entries_of (take i all) ++ f.entry ∷ [] = ap (λ (n : ℕ). entries_of (take n all)) there ∙ entries_more all i f is in
    record {
      found =
          ap (λ (l : List (ℕ × Entry)). l ++ (i, f.entry) ∷ []) (h.found ∙ ap (λ (n : ℕ). enumerate_from 0 (entries_of (take n all))) here)
          ∙ ap (λ (n : ℕ). enumerate_from 0 (entries_of (take i all)) ++ (n, f.entry) ∷ []) (sym long)
          ∙ sym (enumerate_more 0 (entries_of (take i all)) f.entry)
          ∙ ap (enumerate_from 0) (sym more);
      applied = ap (λ (l : List Entry). l ++ f.entry ∷ []) (h.applied ∙ ap (λ (n : ℕ). entries_of (take n all)) here) ∙ sym more;
      bad = h.bad;
      past = omega (arith, h.past);
    }

-- a slot past the gate
past_next : (i gate : ℕ) (survey : Survey) (all : List File) (r : Result Entry Reason) → HasSurveyed i gate survey all → gate ≤ i → HasSurveyed (i + 1) gate (past_gate survey r) all
past_next i gate survey all (Ok e) h le =
    let same : min i gate ≡ min (i + 1) gate = omega arith in
    record {
      found = h.found ∙ ap (λ (n : ℕ). enumerate_from 0 (entries_of (take n all))) same;
      applied =
          h.applied ∙ ap (λ (n : ℕ). entries_of (take n all)) same;
      bad = h.bad;
      past = omega (arith, h.past);
    }
past_next i gate survey all (Err reason) h le =
    let same : min i gate ≡ min (i + 1) gate = omega arith in
    record {
      found = h.found ∙ ap (λ (n : ℕ). enumerate_from 0 (entries_of (take n all))) same;
      applied =
          h.applied ∙ ap (λ (n : ℕ). entries_of (take n all)) same;
      bad = h.bad;
      past = omega (arith, h.past);
    }

-- no unit of a history stands twice
history_apart : (p : Params) (all : List File) → IsHistory p all → overlap_of p.unit (enumerate_from 0 (entries_of all)) ≡ None
history_apart p all history =
    ap (overlap_of p.unit) (sym (numbered_is 0 (entries_of all))) ∙ no_overlap p.unit (entries_of all) (laid_apart p (entries_of all) (history_laid p all history)).once

module _ (sys : System) (host : ℕ) (floor : Option ℕ) (named : Option Named) (s : SharedState) (all : List File) (settled : ℕ) (core : Core sys s all settled) (t : Task) where
  surveyed : (i : ℕ) (b : Bool) → nat_lt i t.gate ≡ b → AtPhase (at.Check i) sys host floor (commanded t Fsck) s all settled
      → HasSurveyed (i + 1) t.gate (cond b (below_gate t.survey i (entry_of t.params t.words i)) (past_gate t.survey (entry_of t.params t.words i)))
      all
  surveyed i false e g = past_next i t.gate t.survey all (entry_of t.params t.words i) g.1.read (grind (arith, nat_tests))
  surveyed i true e g =
      let below : i < t.gate = grind (arith, nat_tests) in
      let fits : t.gate ≤ length all = omega (arith, g.1.gate.high, core.order, core.high) in
      let there = some_at all i (omega arith) in
      let f : File = there.0 in
      let reads : entry_of t.params t.words i ≡ Ok f.entry = slot_reads sys host floor s all settled core i t f g.0.params g.1.gate.high below there.1
      (g.2 below ∙ slot_words_are s.memory (commanded t Fsck) i) in
      let before : t.survey.applied ≡ entries_of (take i all) = g.1.read.applied ∙ (let here : min i t.gate ≡ i = omega arith in ap (λ (n : ℕ). entries_of (take n all)) here) in
      let none : tree_fault (replay t.survey.applied) f.entry ≡ None =
      ap (λ (l : List Entry). tree_fault (replay l) f.entry) before ∙ tree_passes sys.params (entries_of (take i all)) f.entry (core.history i f there.1).joins in
      subst (λ (r : Result Entry Reason). HasSurveyed (i + 1) t.gate (below_gate t.survey i r) all) (sym reads)
      (subst (λ (o : Option Reason). HasSurveyed (i + 1) t.gate (applied_or t.survey i f.entry o) all) (sym none) (below_next i t.gate t.survey all f g.1.read below fits there.1))

  surveyed_slot : (i : ℕ) → AtPhase (at.Check i) sys host floor (commanded t Fsck) s all settled → HasSurveyed (i + 1) t.gate (survey_slot t.params t.gate i t.words t.survey) all
  unfolding survey_slot
  surveyed_slot i g = surveyed i (nat_lt i t.gate) refl g

  -- the turn of a slot that is surveyed
  pub survey_checked : (i : ℕ) → IsTask sys host (commanded t Fsck) → AtPhase (at.Check i) sys host floor (commanded t Fsck) s all settled
      → After (check_turn Fsck (commanded t Fsck) i) sys host floor named (commanded t Fsck) s all settled
  survey_checked i is g =
      let u : Task = commanded t Fsck in
      let t' : Task = record u { survey = survey_slot t.params t.gate i t.words t.survey; words = []; phase = slot_or_decide u (i + 1) } in
      goes sys host floor named s all settled core u t' (record { command = is.command; me = is.me; lines = is.lines })
      (at_next sys host floor s all settled t' (i + 1) t.params.slots refl (record { params = g.0.params; master = g.0.master })
      (record { low = g.1.gate.low; high = g.1.gate.high; writer = g.1.gate.writer }) (let below : i < t.params.slots = g.1.below in omega arith) (surveyed_slot i g) refl)

  reported : AtPhase at.Decide sys host floor (commanded t Fsck) s all settled → ReportsPrefix sys.params floor all (report_by t.params t.gate t.survey)
  unfolding report_by
  reported g =
      let fits : t.gate ≤ length all = omega (arith, g.1.gate.high, core.order, core.high) in
      let slots : t.params.slots ≡ sys.params.slots = ap (λ (p : Params). p.slots) g.0.params in
      let read : HasSurveyed t.params.slots t.gate t.survey all = g.1.read in
      let least : min t.params.slots t.gate ≡ t.gate = omega (arith, core.room) in
      let found : t.survey.found ≡ enumerate_from 0 (entries_of (take t.gate all)) = read.found ∙ ap (λ (n : ℕ). enumerate_from 0 (entries_of (take n all))) least in
      let entries : found_entries t.survey ≡ entries_of (take t.gate all) = ap (map (λ (f : ℕ × Entry). f.1)) found
      ∙ ap (map (λ (f : ℕ × Entry). f.1)) (sym (numbered_is 0 (entries_of (take t.gate all)))) ∙ map-numbered 0 (entries_of (take t.gate all)) in
      let used : used_count t.params (found_entries t.survey) ≡ used_count sys.params (entries_of (take t.gate all)) =
      ap (λ (p : Params). used_count p (found_entries t.survey)) g.0.params ∙ ap (used_count sys.params) entries in
      let count : length (entries_of (take t.gate all)) ≡ t.gate = entries_count t.gate all fits in
      record {
        m = t.gate;
        low = g.1.gate.low;
        high = fits;
        is = record {
          superblock = refl;
          log = ap₂ log.Sound (sym count) slots;
          files = ap (count_by (λ (e : Entry). is_file e.kind)) entries;
          directories = ap (count_by (λ (e : Entry). is_directory e.kind)) entries;
          used = used;
          free = ap (λ (n : ℕ). device_units t.params - n) used ∙ ap (λ (p : Params). device_units p - used_count sys.params (entries_of (take t.gate all))) g.0.params;
          overlap =
              ap (overlap_of t.params.unit) found
              ∙ ap (λ (p : Params). overlap_of p.unit (enumerate_from 0 (entries_of (take t.gate all)))) g.0.params
              ∙ history_apart sys.params (take t.gate all) (history_prefix sys.params t.gate all core.history);
          bad = read.bad;
          past = omega (arith, read.past, count, slots);
        };
      }

  -- the turn of the report
  pub survey_told : AtPhase at.Decide sys host floor (commanded t Fsck) s all settled → After (decide_turn Fsck (commanded t Fsck)) sys host floor named (commanded t Fsck) s all settled
  unfolding report_by
  survey_told g = ends sys host floor named s all settled core (commanded t Fsck) (Reports (report_by t.params t.gate t.survey)) (reported g) g.1.gate.high
