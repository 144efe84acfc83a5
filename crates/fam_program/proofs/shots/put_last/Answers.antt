use Rattle.std.proofs.Common.{ℕ, List, inl, inr, refl, ap, subst, sym, ◌∙◌}
use Rattle.fam_media.specs.States.{change, SinkChange}
use Rattle.fam_outcomes.specs.Programs.{last_passes}
use Rattle.fam_outcomes.specs.Texts.{shown}
use Rattle.fam_program.specs.Puts.{Put}
use Rattle.fam_program.specs.Shots.{is_short}
use Rattle.fam_program.proofs.shots.put_last.Goals as goal

pub returns-in-Some-clause-put : goal.returns-in-Some-clause-put
returns-in-Some-clause-put g c =
    let sink : SinkChange = change g.K.Sink.state c.args.out.now c.put_number.new.out in
    let text = sym c.in-Some.ensures.text ∙ ap shown c.journal-notes.ensures in
    inl (subst (λ (t : List ℕ). Put c.args.own t sink c.put_number.result) text c.put_number.ensures.put)

pub returns-in-Ok-clause-put : goal.returns-in-Ok-clause-put
returns-in-Ok-clause-put g c =
    let sink : SinkChange = change g.K.Sink.state c.args.out.now c.put_line.new.out in
    let text = c.as_slice.ensures.value ∙ c.in-Ok.ensures ∙ ap shown c.journal-notes.ensures in
    inl (subst (λ (t : List ℕ). Put c.args.own t sink c.put_line.result) text c.put_line.ensures.put)

pub returns-in-Err-clause-put : goal.returns-in-Err-clause-put
returns-in-Err-clause-put g c = inr (c.put_memory.ensures.put, sym (ap (last_passes is_short) c.journal-notes.ensures) ∙ c.in_default.ensures.none refl)
