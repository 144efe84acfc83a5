use Rattle.std.proofs.Common.{◌≤◌, ℕ, List, Option, length, arith, inl, subst, sym}
use Rattle.std.specs.FinMap.{get-empty}
use Rattle.fam_media.specs.Files.{bytes_or_none, name_cmp}
use Rattle.fam_program.proofs.no_files.NoFilesShelf.read_at.Goals as goal

pub returns-clause-none : goal.returns-clause-none
returns-clause-none c = λ none.
    inl (subst (λ (o : Option (List ℕ)). length (bytes_or_none o) ≤ c.args._offset) (sym (get-empty {X = List ℕ} name_cmp c.args._name.now)) (omega arith))
