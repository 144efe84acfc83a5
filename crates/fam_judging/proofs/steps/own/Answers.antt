use Rattle.std.proofs.Common.{◌≡◌, ◌↔◌, Bool, IsTrue, Option, sym, refl, ap, subst, ◌∙◌}
use Rattle.std.specs.Prelude.{⊤, is_some}
use Rattle.std.specs.Result.{IfOk}
use Rattle.fam_journal.specs.Notes.{Found}
use Rattle.fam_judge.specs.Possible.{StageIs, StepsTo}
use Rattle.fam_lines.specs.declared.line.Line.{Line}
use Rattle.fam_lines.specs.Lines.{answer_of, note_of_line}
use Rattle.fam_judging.specs.declared.candidate.Stage.{Stage}
use Rattle.fam_judging.specs.After.{possible_after}
use Rattle.fam_judging.specs.Candidates.{possible_of}
use Rattle.fam_judging.specs.Going.{FindsEntries, Goes, stage_of_host}
use Rattle.fam_judging.specs.Plain.{TellsNoReply}
use Rattle.fam_judging.proofs.Goings.{found_goes, if_ok}
use Rattle.fam_judging.proofs.Owns.{fault_goes, rest_goes, runs_tests}
use Rattle.fam_judging.proofs.steps.own.Goals as goal

pub returns-in-Mark-clause-goes : goal.returns-in-Mark-clause-goes
returns-in-Mark-clause-goes c start has =
    let x = possible_of start c.args.hosts.now c.args.candidate.now in
    subst (λ (l : Line). Goes (StepsTo start x (note_of_line l)) (possible_after start c.args.hosts.now l c.mark.new.candidate) c.mark.result) (sym c.in-Mark.is)
    (c.mark.ensures.goes start c.args.given.now has)

pub returns-in-Mark-clause-given : goal.returns-in-Mark-clause-given
returns-in-Mark-clause-given c start has = c.mark.ensures.given start c.args.given.now has

pub returns-in-Found-clause-goes : goal.returns-in-Found-clause-goes
returns-in-Found-clause-goes c start has =
    let x = possible_of start c.args.hosts.now c.args.candidate.now in
    let y = possible_of start c.args.hosts.now c.found.new.candidate in
    subst (λ (l : Line). IfOk c.found.result (Goes (StepsTo start x (note_of_line l)) (possible_after start c.args.hosts.now l c.found.new.candidate))) (sym c.in-Found.is)
    (if_ok c.found.result (Goes (FindsEntries start c.in-Found.host c.in-Found.n x) y) (Goes (StepsTo start x (Found c.in-Found.host c.in-Found.n)) y)
    (λ b goes. found_goes start c.in-Found.host c.in-Found.n x y b goes) (c.found.ensures.goes start has))

pub returns-in_default : goal.returns-in_default
returns-in_default c = record {
  goes = λ start has. rest_goes start (possible_of start c.args.hosts.now c.args.candidate.now) _ c.args.line.now c.requires.own
      c.in_default.not-Mark c.in_default.not-Found c.in_default.not-Writes c.in_default.not-Answered;
  given = λ start has. has;
  placed = refl;
}

pub returns-in-Answered-clause-goes : goal.returns-in-Answered-clause-goes
returns-in-Answered-clause-goes c start has =
    let hosts = c.args.hosts.now in
    let old = c.args.candidate.now in
    let fault = subst (λ (l : Line). TellsNoReply l) c.in-Answered.is c.requires.fault in
    let is : c.is_some.result ≡ is_some (stage_of_host hosts old c.in-Answered.host) = c.is_some.ensures ∙ ap (λ (o : Option Stage). is_some o) c.stage_at.ensures in
    subst (λ (l : Line). Goes (StepsTo start (possible_of start hosts old) (note_of_line l)) (possible_after start hosts l old) c.is_some.result) (sym c.in-Answered.is)
    (fault_goes start hosts old c.in-Answered.host c.in-Answered.field-1 (answer_of c.in-Answered.field-1) c.is_some.result refl fault
    (subst (λ (b : Bool). IsTrue b ↔ StageIs (λ s. ⊤) c.in-Answered.host (possible_of start hosts old)) (sym is) (runs_tests start hosts old c.in-Answered.host)))
