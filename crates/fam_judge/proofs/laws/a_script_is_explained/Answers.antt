use Rattle.fam_grammar.proofs.UuidLaw.{script_uuids}
use Rattle.fam_judge.proofs.Ending.{run_explained}
use Rattle.fam_judge.proofs.Scripting.{script_asks}
use Rattle.fam_judge.proofs.laws.a_script_is_explained.Goals as goal

pub returns : goal.returns
returns c = record {
  asks = script_asks;
  explained = λ start files bytes events journal last ending image reads done.
      run_explained start files events journal last (script_asks bytes events reads) ending done (script_uuids bytes events reads) image;
}
