use Rattle.std.proofs.Common.{ℕ, List, inl, subst, ◌∙◌}
use Rattle.fam_media.specs.States.{change}
use Rattle.fam_program.specs.Puts.{Put}
use Rattle.fam_program.proofs.storms.put_summary.Goals as goal

pub returns-in-Ok-clause-put : goal.returns-in-Ok-clause-put
returns-in-Ok-clause-put g c = λ all is.
    inl (subst (λ (t : List ℕ). Put c.args.own t (change g.K.Sink.state c.args.out.now c.put_line.new.out) c.put_line.result)
    (c.as_slice.ensures.value ∙ c.in-Ok.ensures all is) c.put_line.ensures.put)
