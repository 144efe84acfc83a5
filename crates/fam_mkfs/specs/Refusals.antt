-- What is refused before any operation, as an end of making a file system.
use Rattle.std.specs.Prelude.{ℕ, Option, option_map}
use Rattle.fam_machine.specs.Mkfs.{EarlyRefusal, early_refusal}
use Rattle.fam_machine.specs.Mkfs as early
use Rattle.fam_mkfs.specs.declared.make.MkfsEnd.{MkfsEnd}
use Rattle.fam_mkfs.specs.declared.make.MkfsEnd.TheVariants.{BadGeometry, TooSmall}

-- the end that says it
abbrev pub refusal_end : EarlyRefusal → MkfsEnd
refusal_end (early.BadGeometry unit log) = BadGeometry unit log
refusal_end (early.TooSmall needed have) = TooSmall needed have

-- what is refused at once, on a device of so many bytes. None: nothing
abbrev pub refusal : ℕ → ℕ → ℕ → Option MkfsEnd
refusal unit log have = option_map refusal_end (early_refusal unit log have)
