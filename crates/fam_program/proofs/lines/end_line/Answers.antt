use Rattle.std.proofs.Common.{◌≡◌, ◌++◌, codes, subst, sym}
use Rattle.std.specs.Prelude.{IfOk}
use Rattle.fam_outcomes.specs.Programs.{source_line}
use Rattle.fam_outcomes.specs.Texts.{number}
use Rattle.fam_sources.specs.declared.sourced.SourceEnd.{SourceEnd}
use Rattle.fam_sources.specs.Sourced.{end_of}
use Rattle.fam_program.proofs.lines.end_line.Goals as goal

pub returns-in-Short : goal.returns-in-Short
returns-in-Short c =
    subst (λ (e : SourceEnd). IfOk c.line_of.result (λ bytes. bytes.items ≡ source_line (end_of e))) (sym c.in-Short.is)
    (c.line_of.ensures (codes "short source" ++ number c.in-Short.size ++ number c.in-Short.got) c.format.ensures.ok)
