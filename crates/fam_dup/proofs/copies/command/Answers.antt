use Rattle.std.proofs.Common.{ℕ, Some, sym, ap₂}
use Rattle.std.specs.Prelude.{None, Option}
use Rattle.fam_base.specs.declared.entry.Kind.{Kind}
use Rattle.fam_rules.specs.Decide.{Wish}
use Rattle.fam_dup.proofs.Following.{bare}
use Rattle.fam_dup.proofs.copies.command.Goals as goal

pub returns-in-Directory-clause-wish : goal.returns-in-Directory-clause-wish
returns-in-Directory-clause-wish c =
    let e = c.args.entry.now in
    let wished : Kind → ℕ → Option Wish = λ k n. Some (record { kind = k; path = e.path; size = n; attr = record { mode = e.mode; uid = e.uid; gid = e.gid }; stripe = None }) in
    ap₂ wished (sym c.in-Directory.is) (sym (bare c.requires.proper.0 e c.requires.proper.1 c.in-Directory.is))
