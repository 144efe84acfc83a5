use Rattle.std.proofs.Common.{◌≡◌, ◌++◌, codes, subst, sym}
use Rattle.std.specs.Prelude.{IfOk}
use Rattle.fam_outcomes.specs.Texts.{number}
use Rattle.fam_sources.specs.declared.whole.WholeFault.{WholeFault}
use Rattle.fam_judge_call.specs.Texts.{unread_text}
use Rattle.fam_judge_call.proofs.texts.unread_text.Goals as goal

pub returns-in-TooLong : goal.returns-in-TooLong
returns-in-TooLong c =
    subst (λ (f : WholeFault). IfOk c.line_of.result (λ bytes. bytes.items ≡ unread_text c.args.name.now f)) (sym c.in-TooLong.is)
    (c.line_of.ensures (codes "history too long" ++ number c.in-TooLong.size) c.format.ensures.ok)

pub returns-in-Short : goal.returns-in-Short
returns-in-Short c =
    subst (λ (f : WholeFault). IfOk c.line_of-in-Short.result (λ bytes. bytes.items ≡ unread_text c.args.name.now f)) (sym c.in-Short.is)
    (c.line_of-in-Short.ensures (codes "short source" ++ number c.in-Short.size ++ number c.in-Short.got) c.format-in-Short.ensures.ok)

pub returns-in-Faulted : goal.returns-in-Faulted
returns-in-Faulted c =
    subst (λ (f : WholeFault). IfOk c.line_of-in-Faulted.result (λ bytes. bytes.items ≡ unread_text c.args.name.now f)) (sym c.in-Faulted.is)
    (c.line_of-in-Faulted.ensures (codes "source fault") c.format-in-Faulted.ensures.ok)
