use Rattle.std.proofs.Common.{◌≡◌, ◌++◌, codes, subst, sym}
use Rattle.std.specs.Prelude.{IfOk}
use Rattle.fam_outcomes.specs.Programs.{early_text}
use Rattle.fam_outcomes.specs.Texts.{number}
use Rattle.fam_program.specs.declared.fault.ScriptFault.{ScriptFault}
use Rattle.fam_program.specs.Files.{early_of}
use Rattle.fam_program.proofs.script_file.fault_line.Goals as goal

pub returns-in-TooLong : goal.returns-in-TooLong
returns-in-TooLong c =
    subst (λ (f : ScriptFault). IfOk c.line_of.result (λ bytes. bytes.items ≡ early_text (early_of c.args.name.now f))) (sym c.in-TooLong.is)
    (c.line_of.ensures (codes "script too long" ++ number c.in-TooLong.size) c.format.ensures.ok)

pub returns-in-BadLine : goal.returns-in-BadLine
returns-in-BadLine c =
    subst (λ (f : ScriptFault). IfOk c.line_of-in-BadLine.result (λ bytes. bytes.items ≡ early_text (early_of c.args.name.now f))) (sym c.in-BadLine.is)
    (c.line_of-in-BadLine.ensures (codes "bad line" ++ number c.in-BadLine.line ++ number c.in-BadLine.column) c.format-in-BadLine.ensures.ok)
