-- What a record reads as.
use Rattle.std.proofs.Common.{◌≡◌, List, Option, Some, None}
use Rattle.std.specs.Prelude.{IfSome, MatchOption}
use Rattle.fam_history.specs.ToldNotes.{AreDistinctNames}
use Rattle.fam_journal.specs.Notes.{Note}
use Rattle.fam_judge.specs.Alike.{told_note}
use Rattle.fam_judge.specs.Untold.{untold_note}
use Rattle.fam_lines.specs.Behind.{IsEntireAnswer, IsEntireNote}
use Rattle.fam_lines.specs.declared.answer.HostAnswer.{HostAnswer}
use Rattle.fam_lines.specs.declared.answer.HostAnswer.TheVariants as given
use Rattle.fam_lines.specs.declared.host.SeenHost.{SeenHost}
use Rattle.fam_lines.specs.declared.line.Line.{Line}
use Rattle.fam_lines.specs.declared.line.Line.TheVariants as line
use Rattle.fam_lines.specs.Hosts.{seen_names}
use Rattle.fam_lines.specs.Lines.{answer_of, note_of_line}
use Rattle.fam_lines.specs.Rising.{ListsRising, RisesIn}
use Rattle.fam_records.specs.Records.{Recorded}
use Rattle.fam_judging.specs.StepLines.{IsStepAnswer, IsStepLine}
use Rattle.fam_judging.specs.Texts.{RecordTells}
use Rattle.fam_verdict.specs.Fills.{HasToldFillIn}
use Rattle.fam_verdict.specs.Judged.{IsReadAs, IsReadyIf}
use Rattle.fam_verdict.proofs.Fills.{begins_filled}

-- a whole answer whose entries rise
step_answer : (a : HostAnswer) → RisesIn a → IsEntireAnswer (answer_of a) → IsStepAnswer a
step_answer (given.Played m entries) rises whole = rises
step_answer (given.Checks m checked) rises whole = whole
step_answer a rises whole = tt

step_line : (hosts : List SeenHost) (l : Line) → ListsRising l → IsEntireNote hosts (note_of_line l) → IsStepLine l
step_line hosts (line.Answered h a) rises whole = step_answer a rises whole
step_line hosts l rises whole = tt

module _ (hosts : List SeenHost) (r : Recorded) (result : Option Line) where
  -- it is a line by which states can go on
  pub ready_of : HasToldFillIn r.told.note → IfSome result (λ l. RecordTells (seen_names hosts) r (note_of_line l)) → IfSome result (λ l. IsEntireNote hosts (note_of_line l))
      → IfSome result (λ l. untold_note (note_of_line l) ≡ note_of_line l) → IfSome result ListsRising → IsReadyIf result
  ready_of filled = by result
    where
      by : (o : Option Line) → IfSome o (λ l. RecordTells (seen_names hosts) r (note_of_line l)) → IfSome o (λ l. IsEntireNote hosts (note_of_line l))
          → IfSome o (λ l. untold_note (note_of_line l) ≡ note_of_line l) → IfSome o ListsRising → IsReadyIf o
      by None tells whole untold rises = tt
      by (Some l) tells whole untold rises = record {
        step = step_line hosts l rises whole;
        filled = begins_filled (seen_names hosts) l r.told tells.first filled;
        untold = untold;
      }

  -- the record tells the line's note, and no other
  pub read_as : AreDistinctNames (seen_names hosts) → IfSome result (λ l. RecordTells (seen_names hosts) r (note_of_line l))
      → IfSome result (λ l. untold_note (note_of_line l) ≡ note_of_line l)
      → (AreDistinctNames (seen_names hosts) → (n : Note) → IsEntireNote hosts n → RecordTells (seen_names hosts) r n → MatchOption result ⊥ (λ l. told_note (note_of_line l) ≡ told_note n))
      → IsReadAs hosts r result
  read_as distinct = by result
    where
      by : (o : Option Line) → IfSome o (λ l. RecordTells (seen_names hosts) r (note_of_line l)) → IfSome o (λ l. untold_note (note_of_line l) ≡ note_of_line l)
          → (AreDistinctNames (seen_names hosts) → (n : Note) → IsEntireNote hosts n → RecordTells (seen_names hosts) r n → MatchOption o ⊥ (λ l. told_note (note_of_line l) ≡ told_note n))
          → IsReadAs hosts r o
      by None tells untold only = only distinct
      by (Some l) tells untold only = record { told = tells; untold = untold; only = only distinct }
