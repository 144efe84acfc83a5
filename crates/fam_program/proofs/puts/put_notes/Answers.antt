use Rattle.std.proofs.Common.{◌≡◌, List, ℕ, length, ap, subst, sym, ◌∙◌}
use Rattle.std.specs.Prelude.{OnOk}
use Rattle.fam_media.specs.States.{change}
use Rattle.fam_journal.specs.Names.{NameDeclared}
use Rattle.fam_journal.specs.Notes.{Note}
use Rattle.fam_outcomes.specs.Texts.{names_behind, render_behind}
use Rattle.fam_program.specs.Puts.{PutPart, PutSome, PutWhole}
use Rattle.fam_program.proofs.Texts.Names.{named_from, names_all, notes_from}
use Rattle.fam_program.proofs.puts.put_notes.Goals as goal

pub put_each-requires : goal.put_each-requires
put_each-requires g c =
    let rest = notes_from c.journal.result.now c.args.from c.args.world.now.journal c.journal.ensures in
    subst (λ (ns : List Note). NameDeclared (length c.args.names.now.items) ns) (sym rest) (named_from c.args.world.now.journal c.args.from c.args.names.now.items c.requires.names c.requires.named)

pub returns-clause-put : goal.returns-clause-put
returns-clause-put g c =
    let rest = notes_from c.journal.result.now c.args.from c.args.world.now.journal c.journal.ensures in
    subst (λ (ns : List Note). OnOk c.put_each.result (PutWhole (render_behind c.args.names.now.items ns) (change g.K.Sink.state c.args.out.now c.put_each.new.out))) rest c.put_each.ensures.put

pub returns-clause-names : goal.returns-clause-names
returns-clause-names g c =
    let rest = notes_from c.journal.result.now c.args.from c.args.world.now.journal c.journal.ensures in
    subst (λ (ns : List (List ℕ)). OnOk c.put_each.result (c.put_each.new.names.items ≡ ns))
    (ap (names_behind c.args.names.now.items) rest ∙ names_all c.args.world.now.journal c.args.from c.args.names.now.items c.requires.names)
    c.put_each.ensures.names

pub returns-clause-part : goal.returns-clause-part
returns-clause-part g c = λ e.
    let rest = notes_from c.journal.result.now c.args.from c.args.world.now.journal c.journal.ensures in
    subst (λ (ns : List Note). PutPart (render_behind c.args.names.now.items ns) (change g.K.Sink.state c.args.out.now c.put_each.new.out)) rest (c.put_each.ensures.part e)

pub returns-clause-some : goal.returns-clause-some
returns-clause-some g c = λ e.
    let rest = notes_from c.journal.result.now c.args.from c.args.world.now.journal c.journal.ensures in
    subst (λ (ns : List Note). PutSome c.args.names.now.items ns (change g.K.Sink.state c.args.out.now c.put_each.new.out)) rest (c.put_each.ensures.some e)
