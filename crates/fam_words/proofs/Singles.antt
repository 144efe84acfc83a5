-- The commands that are neither a script nor a storm are commands of their own.
use Rattle.std.proofs.Common.{◌≡◌, List, refl}
use Rattle.clap.specs.Walk.{Row}
use Rattle.fam_words.specs.declared.invocations.Name.{Name}
use Rattle.fam_words.specs.declared.invocations.Name.TheVariants as name
use Rattle.fam_words.specs.Calls.{invocation_in, single_invocation}
use Rattle.fam_words.specs.Singles.{shot_in}

pub single_of : (which : Name) (rows : List Row) → (which ≡ name.Script → ⊥) → (which ≡ name.Storm → ⊥) → single_invocation rows (shot_in which rows) ≡ invocation_in which rows
single_of name.Mkfs rows script storm = refl
single_of name.Logplay rows script storm = refl
single_of name.Mkdir rows script storm = refl
single_of name.Creat rows script storm = refl
single_of name.Cp rows script storm = refl
single_of name.Verify rows script storm = refl
single_of name.Read rows script storm = refl
single_of name.Check rows script storm = refl
single_of name.Fsck rows script storm = refl
single_of name.Script rows script storm = absurd (script refl)
single_of name.Storm rows script storm = absurd (storm refl)
