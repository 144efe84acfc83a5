use Rattle.std.proofs.Common.{rules, ◌≡◌, ◌*◌, length, length-append, ap, ◌∙◌, arith}
use Rattle.fam_format.specs.Layout.{geometry}
use Rattle.fam_format.proofs.Formats.{IsShape, shape}
use Rattle.fam_tasks.specs.SlotLines.{words_in}
use Rattle.fam_tasks.proofs.SlotRun.{words_count}
use Rattle.fam_tasks.proofs.task.Task.take_lines_of_slot.Goals as goal

pub push_lines-requires-clause-room : goal.push_lines-requires-clause-room
push_lines-requires-clause-room c = search (rules, shape c.self.inside.params)

pub invariant_of-self : goal.invariant_of-self
invariant_of-self c =
    let none : length c.self.inside.buffer ≡ 0 = search rules in
    let held : length c.push_lines.new.self ≡ 8 * c.args.count =
    ap length c.push_lines.ensures ∙ length-append c.self.inside.buffer (words_in c.args.lines.now c.args.count) ∙ omega (arith, none, words_count c.args.lines.now c.args.count) in
    search (rules, shape c.self.inside.params, held)

pub invariant_of-self-else-line-most : goal.invariant_of-self-else-line-most
invariant_of-self-else-line-most c =
    let is_shape : IsShape (geometry c.self.inside.params) = shape c.self.inside.params in
    let none : length c.self.inside.buffer ≡ 0 = search rules in
    let held : length c.push_lines.new.self ≡ 8 * c.args.count =
    ap length c.push_lines.ensures ∙ length-append c.self.inside.buffer (words_in c.args.lines.now c.args.count) ∙ omega (arith, none, words_count c.args.lines.now c.args.count) in
    search (rules, is_shape, held)
