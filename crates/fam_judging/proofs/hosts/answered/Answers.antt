use Rattle.std.proofs.Common.{length, refl, arith, false, ap, Bool}
use Rattle.std.proofs.lemmas.Option.{slice_get_read}
use Rattle.fam_journal.specs.Shapes.{keeps_behind}
use Rattle.fam_lines.specs.Lines.{answer_of}
use Rattle.fam_lines.specs.declared.host.SeenHost.{SeenHost}
use Rattle.fam_judging.proofs.Keeping.{no_place, put}
use Rattle.fam_judging.proofs.hosts.answered.Goals as goal

pub returns-then-at-len : goal.returns-then-at-len
returns-then-at-len c =
    let items = c.args.seen.now.items in
    let at_is = slice_get_read items (length items) c.args.at c.index_mut-host.result.now refl (omega (arith, c.if-at-len.true, c.len.ensures)) c.index_mut-host.ensures.value in
    put c.args.at (λ (s : SeenHost). record s { runs = false; keeps = keeps_behind (answer_of c.args.answer.now) s.keeps }) items _ _ at_is
    (ap (λ (b : Bool). record c.index_mut-host.result.now { runs = false; keeps = b }) c.keeps_behind-host.ensures)

pub returns-else-at-len : goal.returns-else-at-len
returns-else-at-len c = no_place c.args.at _ c.args.seen.now.items (omega (arith, c.if-at-len.false, c.len.ensures))
