use Rattle.std.proofs.Common.{◌≡◌, ◌+◌, ◌*◌, ◌≤◌, ℕ, rules, length, ap, sym, subst, ◌∙◌, arith}
use Rattle.fam_base.specs.declared.cmd.Content.{Content}
use Rattle.fam_rules.specs.Content.{content_line, HoldsBytes}
use Rattle.fam_commands.specs.declared.phase.Part.TheVariants.{File}
use Rattle.fam_commands.specs.declared.phase.Phase.TheVariants as at
use Rattle.fam_commands.specs.Task.{Task}
use Rattle.fam_content.specs.Difference.{HaveNone, IsFirst}
use Rattle.fam_content.specs.Stream.{line_in}
use Rattle.fam_machine.specs.Operations.{line_no}
use Rattle.fam_tasks.specs.Commands.{content_used}
use Rattle.fam_tasks.specs.Rest.{IsComparedLine}
use Rattle.fam_tasks.proofs.CompareRun.{here, holds_row, number_is, run_ends, run_went}
use Rattle.fam_tasks.proofs.task.Task.compare_run.Goals as goal

pub returns-in-Some-clause-ends : goal.returns-in-Some-clause-ends
returns-in-Some-clause-ends c =
    let t : Task = c.args.self.now in
    let row = c.requires.row in
    let found = c.args.found.now in
    let wanted = c.take_lines.new.lines in
    let size : ℕ = c.file_size-size.result in
    let number : row.j ≡ c.in-Drop.line = number_is t row.j c.in-Drop.line c.in-Drop.part row.phase (ap (λ (u : Task). u.phase) (sym c.self.view_is) ∙ c.in-Drop.is) in
    let holds = holds_row c.self.inside t c.args.first.0 (length found) c.self.invariant c.self.view_is row in
    run_ends t c.args.first.0 (length found) c.is_sound.ensures row found wanted c.args.count size c.requires.has c.file_size-size.ensures
    (λ k below. c.told-found k (omega (arith, below, c.requires.has)))
    (λ k below. c.take_lines.ensures.lines k (search rules)
    ∙ ap (λ (x : Content). content_line x size (c.self.inside.contents.taken + k)) holds.0
    ∙ ap (λ (i : ℕ). content_line (content_used t.cmd) size (i + k)) holds.1)
    (subst HoldsBytes holds.0 c.take_lines.ensures.bytes)
    c.in-Some.k c.in-Some.offset c.in-Some.found c.in-Some.wanted c.count-m.result (search rules)
    (subst (λ (i : ℕ). HaveNone found wanted (64 * i) size c.in-Some.k) (sym number) c.in-Some.ensures.1)
    (subst (λ (i : ℕ). IsFirst (line_in found c.in-Some.k) (line_in wanted c.in-Some.k) (64 * i + 64 * c.in-Some.k) size c.in-Some.offset c.in-Some.found c.in-Some.wanted)
    (sym number) c.in-Some.ensures.2)
    (c.count-m.ensures ∙ ap (λ (u : Task). length u.entries) c.self.view_is) _ c.end.new.turn (ap (λ (u : Task). u.kept) c.self.view_is) c.end.ensures.turn

pub returns-in-None-clause-goes : goal.returns-in-None-clause-goes
returns-in-None-clause-goes c = λ _.
    let t : Task = c.args.self.now in
    let row = c.requires.row in
    let found = c.args.found.now in
    let wanted = c.take_lines.new.lines in
    let size : ℕ = c.file_size-size.result in
    let number : row.j ≡ c.in-Drop.line = number_is t row.j c.in-Drop.line c.in-Drop.part row.phase (ap (λ (u : Task). u.phase) (sym c.self.view_is) ∙ c.in-Drop.is) in
    let holds = holds_row c.self.inside t c.args.first.0 (length found) c.self.invariant c.self.view_is row in
    let all : c.args.count ≤ length wanted = search rules in
    run_went t c.args.first.0 (length found) c.is_sound.ensures row found wanted c.args.count size c.requires.has c.file_size-size.ensures
    (λ k below. c.told-found k (omega (arith, below, c.requires.has)))
    (λ k below. c.take_lines.ensures.lines k (search rules)
    ∙ ap (λ (x : Content). content_line x size (c.self.inside.contents.taken + k)) holds.0
    ∙ ap (λ (i : ℕ). content_line (content_used t.cmd) size (i + k)) holds.1)
    (subst HoldsBytes holds.0 c.take_lines.ensures.bytes)
    c.args.turn.now c.requires.go
    (subst (λ (i : ℕ). HaveNone found wanted (64 * i) size c.args.count) (sym number) (λ k below. c.in-None.ensures k (omega (arith, below, all)))) _
    (ap (λ (u : Task). record u { phase = at.Drop File (c.in-Drop.line + c.args.count) }) c.self.view_is
    ∙ ap (λ (i : ℕ). record t { phase = at.Drop File (i + c.args.count) }) (sym number))

pub returns-in-None-clause-next : goal.returns-in-None-clause-next
returns-in-None-clause-next c = λ _ below.
    let t : Task = c.args.self.now in
    let row = c.requires.row in
    let number : row.j ≡ c.in-Drop.line = number_is t row.j c.in-Drop.line c.in-Drop.part row.phase (ap (λ (u : Task). u.phase) (sym c.self.view_is) ∙ c.in-Drop.is) in
    subst (IsComparedLine (line_no (c.args.first.0 + c.args.count)))
    (ap (λ (i : ℕ). record t { phase = at.Drop File (i + c.args.count) }) number
    ∙ ap (λ (u : Task). record u { phase = at.Drop File (c.in-Drop.line + c.args.count) }) (sym c.self.view_is))
    (here t c.args.first.0 (length c.args.found.now) c.is_sound.ensures row c.args.count below)
