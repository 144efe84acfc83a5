use Rattle.std.proofs.Common.{◌≡◌, ℕ, List, None, length, ap, sym}
use Rattle.std.specs.FinMap as map
use Rattle.std.specs.FinMap.{get-empty}
use Rattle.std.specs.Option.{option_map}
use Rattle.fam_media.specs.Files.{Files, name_cmp}
use Rattle.fam_media.specs.Modelled.{modelled}
use Rattle.fam_program.proofs.no_files.NoFilesShelf.size.Goals as goal

pub returns-clause-value : goal.returns-clause-value
returns-clause-value c =
    modelled map.empty (λ (files : Files). None ≡ option_map (λ (l : List ℕ). length l) (map.get files c.args._name.now))
    (ap (option_map (λ (l : List ℕ). length l)) (sym (get-empty {X = List ℕ} name_cmp c.args._name.now)))
