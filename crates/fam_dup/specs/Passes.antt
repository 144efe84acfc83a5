-- A pass of writes that is under way.
use Rattle.std.specs.Prelude.{◌≡◌, List, ◌++◌, Option}
use Rattle.fam_base.specs.Image.{Image}
use Rattle.fam_rules.specs.Written.{Put}
use Rattle.fam_dup.specs.Lines.{ArePut}

-- of these lines all were put but the rest
pub record ArePassed (puts rest : List Put) (old new : Option Image) : Type 0 where
  pub done : List Put
  pub parts : puts ≡ done ++ rest
  pub put : ArePut done old new
