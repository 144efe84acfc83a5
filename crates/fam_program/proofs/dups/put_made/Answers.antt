use Rattle.std.proofs.Common.{◌≡◌, ◌∙◌, List, ℕ, inl, inr, subst}
use Rattle.std.specs.Prelude.{IfOk}
use Rattle.fam_media.specs.States.{change}
use Rattle.fam_program.specs.Puts.{Put}
use Rattle.fam_program.proofs.dups.put_made.Goals as goal

pub returns-in-Ok-clause-put : goal.returns-in-Ok-clause-put
returns-in-Ok-clause-put g c = λ want is.
    inl (subst (λ (t : List ℕ). Put c.args.own t (change g.K.Sink.state c.args.out.now c.put_line.new.out) c.put_line.result)
    (c.as_slice.ensures.value ∙ subst (λ m. IfOk m (λ bytes. bytes.items ≡ want)) c.in-Ok.is is) c.put_line.ensures.put)

pub returns-in-Err-clause-put : goal.returns-in-Err-clause-put
returns-in-Err-clause-put g c = λ want is. inr c.put_memory.ensures.put
