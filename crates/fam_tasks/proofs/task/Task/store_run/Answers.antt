use Rattle.std.proofs.Common.{ℕ, ◌≡◌, ◌+◌, ◌-◌, length, ap, subst, ◌∙◌, arith}
use Rattle.fam_commands.specs.declared.phase.Phase.{Phase}
use Rattle.fam_commands.specs.declared.phase.Phase.TheVariants as at
use Rattle.fam_commands.specs.Task.{Task, content_of, data_words}
use Rattle.fam_tasks.specs.declared.task.Task.TheInside.{Inside}
use Rattle.fam_tasks.specs.Invariant.{HoldsLine, IsInvariantAt}
use Rattle.fam_tasks.proofs.FileRun.{next_line, no_line, run_stored, slot_comes, words_handed}
use Rattle.fam_tasks.proofs.task.Task.store_run.Goals as goal

pub hand_out-requires-clause-left : goal.hand_out-requires-clause-left
hand_out-requires-clause-left c =
    let t : Inside = c.self.inside in
    let n : ℕ = length c.args.lines.now in
    let phase : t.phase ≡ at.StoreData c.args.number 0 = ap (λ (u : Task). u.phase) c.self.view_is ∙ c.requires.due in
    let held : HoldsLine c.args.number t = subst (λ (p : Phase). IsInvariantAt p t) phase c.self.invariant.held in
    let last = c.requires.row.below (n - 1) (omega (arith, c.requires.some)) in
    omega (arith, held.taken, last, c.file_size-size.ensures, c.requires.some)

pub invariant_of-self-else-line-lines_of : goal.invariant_of-self-else-line-lines_of
invariant_of-self-else-line-lines_of c =
    let phase : c.self.inside.phase ≡ at.StoreData c.args.number 0 = ap (λ (u : Task). u.phase) c.self.view_is ∙ c.requires.due in
    slot_comes c.self.inside c.args.number 0 c.hand_out.new.self c.self.invariant phase

pub returns-then-line-lines_of : goal.returns-then-line-lines_of
returns-then-line-lines_of c =
    let t : Inside = c.self.inside in
    let n : ℕ = length c.args.lines.now in
    let line : ℕ = c.args.number + length c.hand_out.new.lines in
    let at_line : line ≡ c.args.number + n = omega (arith, c.hand_out.auto.lines) in
    let phase : t.phase ≡ at.StoreData c.args.number 0 = ap (λ (u : Task). u.phase) c.self.view_is ∙ c.requires.due in
    let held : HoldsLine c.args.number t = subst (λ (p : Phase). IsInvariantAt p t) phase c.self.invariant.held in
    run_stored c.args.self.now c.args.number c.args.first.0 n c.hand_out.new.lines c.is_sound.ensures c.requires.due c.requires.row c.requires.some
    (words_handed c.args.self.now c.args.number c.file_size-size.result n t.contents.taken t.contents.content t.contents.line c.hand_out.new.lines
    (subst (λ (u : Task). t.contents.content ≡ content_of u.cmd) c.self.view_is held.content) held.taken c.file_size-size.ensures
    (subst (λ (u : Task). t.contents.line ≡ data_words u c.args.number) c.self.view_is held.line)
    c.hand_out.ensures.first c.hand_out.ensures.others)
    n (omega arith) _
    (ap (λ (u : Task). record u { phase = at.StoreData line 0 }) c.self.view_is
    ∙ ap (λ (p : Phase). record c.args.self.now { phase = p })
    (next_line c.args.self.now c.args.number n line c.lines_of.result c.file_size-size.result at_line c.lines_of.ensures.value
    c.file_size-size.ensures c.if-line-lines_of.true))

pub returns-else-line-lines_of : goal.returns-else-line-lines_of
returns-else-line-lines_of c =
    let t : Inside = c.self.inside in
    let n : ℕ = length c.args.lines.now in
    let line : ℕ = c.args.number + length c.hand_out.new.lines in
    let at_line : line ≡ c.args.number + n = omega (arith, c.hand_out.auto.lines) in
    let phase : t.phase ≡ at.StoreData c.args.number 0 = ap (λ (u : Task). u.phase) c.self.view_is ∙ c.requires.due in
    let held : HoldsLine c.args.number t = subst (λ (p : Phase). IsInvariantAt p t) phase c.self.invariant.held in
    run_stored c.args.self.now c.args.number c.args.first.0 n c.hand_out.new.lines c.is_sound.ensures c.requires.due c.requires.row c.requires.some
    (words_handed c.args.self.now c.args.number c.file_size-size.result n t.contents.taken t.contents.content t.contents.line c.hand_out.new.lines
    (subst (λ (u : Task). t.contents.content ≡ content_of u.cmd) c.self.view_is held.content) held.taken c.file_size-size.ensures
    (subst (λ (u : Task). t.contents.line ≡ data_words u c.args.number) c.self.view_is held.line)
    c.hand_out.ensures.first c.hand_out.ensures.others)
    n (omega arith) _
    (ap (λ (u : Task). record u { phase = at.StoreSlot 0 0 }) c.self.view_is
    ∙ ap (λ (p : Phase). record c.args.self.now { phase = p })
    (no_line c.args.self.now c.args.number n line c.lines_of.result c.file_size-size.result at_line c.lines_of.ensures.value
    c.file_size-size.ensures c.if-line-lines_of.false))
