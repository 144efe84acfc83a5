use Rattle.std.proofs.Common.{ap, sym, ◌∙◌}
use Rattle.std.specs.Prelude.{option_map}
use Rattle.clap.specs.Words.{found_of, rows_of}
use Rattle.fam_words.proofs.Makings.{mkfs_by, mkfs_of}
use Rattle.fam_words.proofs.shots.mkfs.Goals as goal

pub returns-in-Some-clause-value : goal.returns-in-Some-clause-value
returns-in-Some-clause-value c =
    ap (option_map mkfs_of) (sym c.in-Some.is ∙ c.making_in.ensures.value) ∙ mkfs_by (rows_of (found_of c.args.found.now))

pub returns-in-None-clause-value : goal.returns-in-None-clause-value
returns-in-None-clause-value c =
    ap (option_map mkfs_of) (sym c.in-None.is ∙ c.making_in.ensures.value) ∙ mkfs_by (rows_of (found_of c.args.found.now))
