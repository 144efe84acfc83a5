-- The replies on a damaged image, as tasks and table spell them.
use Rattle.std.proofs.Common.{ℕ, ◌≡◌, ◌*◌, List, ◌++◌, length, take, drop, Option, Some, None, Ok, Err, refl, sym, ◌∙◌, ap, ap₂, arith, ◌≤◌}
use Rattle.std.specs.Prelude.{slice_index, slice_range}
use Rattle.std.proofs.lemmas.List.{get_or-take, get_or-drop, drop-drop, take_all, length-drop, take-append-drop}
use Rattle.fam_base.specs.declared.cmd.Cmd.{Cmd}
use Rattle.fam_base.specs.declared.cmd.Cmd.TheVariants.{Fsck}
use Rattle.fam_base.specs.declared.entry.Params.{Params}
use Rattle.fam_format.specs.declared.faults.SuperFault.{SuperFault}
use Rattle.fam_format.specs.declared.faults.LogFault.{LogFault}
use Rattle.fam_format.specs.Layout.{geometry, gate_line, log_line}
use Rattle.fam_format.specs.Stop.{stop}
use Rattle.fam_format.specs.Super.{magic_fault, super_of, super_body_of}
use Rattle.fam_format.specs.Log.{log_fault, gate_fault}
use Rattle.fam_format.specs.Reading.{super_in, gate_in}
use Rattle.fam_format.proofs.Formats.{shape}
use Rattle.fam_rules.specs.Place.{line_bytes}
use Rattle.fam_rules.specs.Reply as reply
use Rattle.fam_rules.specs.Reply.{Reply}
use Rattle.fam_rules.specs.Reports.{no_survey, survey_slots, super_report, log_report, report_by, report_below, report_log, report_super, report_of}
use Rattle.fam_commands.specs.Turns.{super_fault_reply, log_fault_reply}
use Rattle.fam_commands.specs.Table.{fed, fed_super, fed_gate, fault_reply, fed_head}
use Rattle.fam_commands.proofs.FedLemmas.{head_line}

-- The words of the head.

-- the first word is the magic
pub first_fed : (words : List ℕ) → slice_index (slice_range words 0 1) 0 ≡ slice_index words 0
first_fed words = get_or-take 1 (drop 0 words) 0 0 (omega arith) ∙ get_or-drop 0 words 0 0

-- the gate is word 25
pub gate_fed : (words : List ℕ) → fed_gate words ≡ slice_index words 25
gate_fed words = get_or-take 1 (drop 25 words) 0 0 (omega arith) ∙ get_or-drop 25 words 0 0

-- where the superblock's lines were loaded last
pub super_lines_fed : (words : List ℕ) → length words ≡ 17 → slice_range words 1 9 ++ slice_range words 9 17 ≡ drop 1 words
super_lines_fed words long =
    ap (λ (l : List ℕ). take 8 (drop 1 words) ++ take 8 l) (sym (drop-drop 8 1 words))
    ∙ ap (λ (l : List ℕ). take 8 (drop 1 words) ++ l) (take_all 8 (drop 8 (drop 1 words)) (omega (arith, length-drop 8 (drop 1 words), length-drop 1 words)))
    ∙ take-append-drop 8 (drop 1 words)

-- where the header was loaded last
pub header_fed : (words : List ℕ) → length words ≡ 25 → fed_head words log_line ≡ drop 17 words
header_fed words long = take_all 8 (drop 17 words) (omega (arith, length-drop 17 words))

-- the superblock, by its magic and its body
pub super_by_magic : (words : List ℕ) (lines : ℕ) (fault : SuperFault) → magic_fault (slice_index words 0) ≡ Some fault → fed_super words lines ≡ Err fault
unfolding super_of
super_by_magic words lines fault is =
    ap (λ (f : Option SuperFault). stop f (super_body_of (slice_range words 1 9 ++ slice_range words 9 17) (line_bytes * lines))) (ap magic_fault (first_fed words) ∙ is)

-- with a good magic the next sixteen words decide
pub super_by_body : (words : List ℕ) (lines : ℕ) → magic_fault (slice_index words 0) ≡ None → length words ≡ 17 → fed_super words lines ≡ super_body_of (drop 1 words) (line_bytes * lines)
unfolding super_of
super_by_body words lines is long =
    ap (λ (f : Option SuperFault). stop f (super_body_of (slice_range words 1 9 ++ slice_range words 9 17) (line_bytes * lines))) (ap magic_fault (first_fed words) ∙ is)
    ∙ ap (λ (l : List ℕ). super_body_of l (line_bytes * lines)) (super_lines_fed words long)

-- What a check of the whole file system reports.

module _ (words : List ℕ) (lines : ℕ) where
  report_on_super : (fault : SuperFault) → fed_super words lines ≡ Err fault → report_of (fed_head words) (line_bytes * lines) ≡ super_report fault
  unfolding report_of
  report_on_super fault is = ap (report_super (fed_head words)) is

  report_on_header : (p : Params) (fault : LogFault) → fed_super words lines ≡ Ok p → log_fault (fed_head words log_line) p ≡ Some fault
      → report_of (fed_head words) (line_bytes * lines) ≡ log_report fault
  unfolding report_of
  report_on_header p fault super is = ap (report_super (fed_head words)) super ∙ ap (report_log (fed_head words) p) is

  report_on_gate : (p : Params) (fault : LogFault) → fed_super words lines ≡ Ok p → log_fault (fed_head words log_line) p ≡ None
      → gate_fault (fed_gate words) p ≡ Some fault → report_of (fed_head words) (line_bytes * lines) ≡ log_report fault
  unfolding report_of
  report_on_gate p fault super header is = ap (report_super (fed_head words)) super ∙ ap (report_log (fed_head words) p) header ∙ ap (report_below (fed_head words) p) is

  -- the superblock is read from the head
  super_fed : (p : Params) → super_in (fed p 0 words) (line_bytes * lines) ≡ fed_super words lines
  super_fed p =
      let least : 8 ≤ (geometry p).lines = (shape p).lines in
      ap₂ (λ (word : ℕ) (body : List ℕ). super_of word body (line_bytes * lines)) (ap (λ (l : List ℕ). slice_index l 0) (head_line p words 0 0 (omega arith)))
      (ap₂ (λ (xs ys : List ℕ). xs ++ ys) (head_line p words 0 1 (omega arith)) (head_line p words 0 2 (omega arith)))

  -- a sound head leaves the report to the slots
  pub report_on_slots : (p : Params) → fed_super words lines ≡ Ok p → log_fault (fed_head words log_line) p ≡ None
      → gate_fault (fed_gate words) p ≡ None → report_of (fed p 0 words) (line_bytes * lines) ≡ report_by p (fed_gate words)
      (survey_slots (fed p 0 words) p (fed_gate words) 0 p.slots no_survey)
  unfolding report_of
  report_on_slots p super header within =
      let least : 8 ≤ (geometry p).lines = (shape p).lines in
      let gate : gate_in (fed p 0 words) ≡ fed_gate words = ap (λ (l : List ℕ). slice_index l 0) (head_line p words 0 gate_line (omega arith)) in
      ap (report_super (fed p 0 words)) (super_fed p ∙ super)
      ∙ ap (report_log (fed p 0 words) p) (ap (λ (l : List ℕ). log_fault l p) (head_line p words 0 log_line (omega arith)) ∙ header)
      ∙ ap (report_below (fed p 0 words) p) (ap (λ (n : ℕ). gate_fault n p) gate ∙ within)
      ∙ ap (λ (n : ℕ). report_by p n (survey_slots (fed p 0 words) p n 0 p.slots no_survey)) gate

  -- the answer where the superblock is bad
  pub super_reply : (cmd : Cmd) (fault : SuperFault) → fed_super words lines ≡ Err fault → fault_reply cmd words lines (reply.NoSuperblock fault) ≡ super_fault_reply cmd fault
  super_reply Fsck fault is = ap reply.Reports (report_on_super fault is)
  super_reply cmd fault is = refl

  -- where the header is
  pub header_reply : (cmd : Cmd) (p : Params) (fault : LogFault) → fed_super words lines ≡ Ok p → log_fault (fed_head words log_line) p ≡ Some fault
      → fault_reply cmd words lines (reply.BadHeader fault) ≡ log_fault_reply cmd fault
  header_reply Fsck p fault super is = ap reply.Reports (report_on_header p fault super is)
  header_reply cmd p fault super is = refl

  -- where the gate is
  pub gate_reply : (cmd : Cmd) (p : Params) (fault : LogFault) → fed_super words lines ≡ Ok p → log_fault (fed_head words log_line) p ≡ None
      → gate_fault (fed_gate words) p ≡ Some fault → fault_reply cmd words lines (reply.BadHeader fault) ≡ log_fault_reply cmd fault
  gate_reply Fsck p fault super header is = ap reply.Reports (report_on_gate p fault super header is)
  gate_reply cmd p fault super header is = refl
