use Rattle.std.proofs.Common.{◌≡◌, Option, subst}
use Rattle.std.specs.Prelude.{IfOk}
use Rattle.clap.specs.Words.{found_of, rows_of}
use Rattle.fam_words.specs.declared.wanted.Invocation.{Invocation}
use Rattle.fam_words.proofs.Singles.{single_of}
use Rattle.fam_words.proofs.invocations.invocation_in.Goals as goal

pub returns-in_default-clause-value : goal.returns-in_default-clause-value
returns-in_default-clause-value c =
    subst (λ (wanted : Option Invocation). IfOk c.single.result (λ asked. asked ≡ wanted))
    (single_of c.args.name (rows_of (found_of c.args.found.now)) c.in_default.not-Script c.in_default.not-Storm) c.single.ensures.value
