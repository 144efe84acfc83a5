use Rattle.std.proofs.Common.{◌≡◌, Option, subst}
use Rattle.std.specs.Prelude.{IfOk}
use Rattle.clap.specs.Words.{found_of, rows_of}
use Rattle.fam_words.specs.declared.wanted.DupCall.{DupCall}
use Rattle.fam_words.proofs.Makings.{dup_by}
use Rattle.fam_words.proofs.dups.named.Goals as goal

pub returns-clause-value : goal.returns-clause-value
returns-clause-value c =
    subst (λ (wanted : Option DupCall). IfOk c.copy_in.result (λ call. call ≡ wanted)) (dup_by (rows_of (found_of c.args.found.now))) c.copy_in.ensures.value
