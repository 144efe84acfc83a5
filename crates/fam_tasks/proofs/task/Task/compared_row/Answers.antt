use Rattle.std.proofs.Common.{◌≡◌, ◌+◌, ℕ, Option, Some, ap, sym, subst, ◌∙◌, arith}
use Rattle.fam_base.specs.declared.entry.Entry.{Entry}
use Rattle.fam_commands.specs.declared.phase.Part.TheVariants.{File}
use Rattle.fam_commands.specs.declared.phase.Phase.{Phase}
use Rattle.fam_commands.specs.declared.phase.Phase.TheVariants as at
use Rattle.fam_commands.specs.Task.{Task, first_line, line_of, part_line, size_of, wanted_lines}
use Rattle.fam_tasks.specs.Sound.{IsSoundAt}
use Rattle.fam_tasks.proofs.CompareRun.{number_is}
use Rattle.fam_tasks.proofs.FileLines.{verify_first}
use Rattle.fam_tasks.proofs.task.Task.compared_row.Goals as goal

pub returns-clause-row : goal.returns-clause-row
returns-clause-row c =
    let t : Task = c.args.self.now in
    let j : ℕ = c.requires.j in
    let e : Entry = c.in-Some.entry in
    let number : j ≡ c.in-Drop.number = number_is t j c.in-Drop.number c.in-Drop.part c.requires.phase (ap (λ (u : Task). u.phase) (sym c.self.view_is) ∙ c.in-Drop.is) in
    let entry : t.entry ≡ Some e = ap (λ (u : Task). u.entry) (sym c.self.view_is) ∙ c.in-Some.is in
    let lines : c.wanted_lines-left.result ≡ wanted_lines t.cmd (size_of t.entry) =
    c.wanted_lines-left.ensures ∙ ap (λ (u : Task). wanted_lines u.cmd c.file_size.result) c.self.view_is ∙ ap (wanted_lines t.cmd) c.file_size.ensures in
    let stands : IsSoundAt (at.Drop File j) t = subst (λ (p : Phase). IsSoundAt p t) c.requires.phase c.is_sound.ensures.stands in
    let at_line : (i : ℕ) → part_line t File i ≡ line_of (Some e) i = λ i.
    ap (λ (o : Option Entry). line_of o (first_line t.cmd + i)) entry ∙ ap (λ (f : ℕ). line_of (Some e) (f + i)) (verify_first t.cmd c.requires.verify)
    ∙ ap (line_of (Some e)) (let none_more : 0 + i ≡ i = omega arith in none_more) in
    record {
      j = j;
      phase = c.requires.phase;
      verify = c.requires.verify;
      more = omega (arith, number, lines, stands.0.line.wanted, c.lines_in_row.ensures.most, c.min.ensures);
      each = λ k below.
          at_line (j + k) ∙ ap (λ (i : ℕ). line_of (Some e) (i + k)) number ∙ c.lines_in_row.ensures.each k below
          ∙ ap (λ (l : ℕ). l + k) (sym (c.requires.is ∙ at_line j ∙ ap (line_of (Some e)) number));
    }
