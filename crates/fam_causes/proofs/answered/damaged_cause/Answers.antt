use Rattle.std.proofs.Common.{refl, sym, ap, ◌∙◌}
use Rattle.fam_causes.specs.Asking.{asks_survey}
use Rattle.fam_causes.specs.Differing.{other_damaged}
use Rattle.fam_causes.proofs.answered.damaged_cause.Goals as goal

pub returns-in-Some : goal.returns-in-Some
returns-in-Some c marks name answers =
    let found = c.in-Some.ensures in
    other_damaged (record {
      host = c.args.at;
      answer = c.args.answer.now;
      cmd = c.args.cmd.now;
      answers = record { line_is = refl; runs = c.requires.runs };
      no_survey = ap asks_survey (sym c.asking_of.ensures) ∙ sym c.if-is_survey.ensures;
      silent = c.if-tells_damage.ensures.none refl;
      one = found.0;
      first = found.1;
      damaged = found.2;
    })
