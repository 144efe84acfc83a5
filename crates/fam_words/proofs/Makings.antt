-- A mkfs and a copy, by what a new file system is to have.
use Rattle.std.proofs.Common.{◌≡◌, ℕ, Bool, List, Option, Some, None, refl}
use Rattle.std.specs.Prelude.{codes, option_map}
use Rattle.clap.specs.Walk.{Row, Text}
use Rattle.fam_words.specs.declared.shots.Making.{Making}
use Rattle.fam_words.specs.declared.wanted.Shot.{Shot}
use Rattle.fam_words.specs.declared.wanted.Shot.TheVariants as shot
use Rattle.uuid.specs.Text.{parsed}
use Rattle.fam_format.specs.Params.{first_number}
use Rattle.fam_grammar.specs.Lines.{default_log, default_unit}
use Rattle.fam_grammar.specs.Numbers.{size_of_text}
use Rattle.fam_grammar.specs.Spellings.{format_of}
use Rattle.fam_words.specs.Calls.{mkfs_shot, mkfs_with, system_of}
use Rattle.fam_words.specs.Dups.{dup_in, dup_with}
use Rattle.fam_words.specs.Makings.{copy_in, dup_making, making_in, making_with}
use Rattle.fam_words.specs.Simple.{flag_in, value_in}
use Rattle.fam_words.specs.Values.{if_given, or_default}

-- the mkfs of such a file system
abbrev pub mkfs_of : Making → Shot
mkfs_of making = shot.Mkfs making.fs making.unit making.log making.format making.force

mkfs_cases : (unit log format : Option ℕ) (fs : Option (Option (List ℕ))) (force : Bool) → option_map mkfs_of (making_with unit log format fs force) ≡ mkfs_with unit log format fs force
mkfs_cases None log format fs force = refl
mkfs_cases (Some unit) None format fs force = refl
mkfs_cases (Some unit) (Some log) None fs force = refl
mkfs_cases (Some unit) (Some log) (Some format) None force = refl
mkfs_cases (Some unit) (Some log) (Some format) (Some fs) force = refl

pub mkfs_by : (rows : List Row) → option_map mkfs_of (making_in rows) ≡ mkfs_shot rows
unfolding making_in mkfs_shot
mkfs_by rows = mkfs_cases _ _ _ _ _

dup_cases : (from to : Option Text) (unit log format : Option ℕ) (fs system : Option (Option (List ℕ))) (force : Bool)
    → dup_making from to (making_with unit log format fs force) system ≡ dup_with from to unit log format fs system force
dup_cases None to unit log format fs system force = refl
dup_cases (Some from) None unit log format fs system force = refl
dup_cases (Some from) (Some to) None log format fs system force = refl
dup_cases (Some from) (Some to) (Some unit) None format fs system force = refl
dup_cases (Some from) (Some to) (Some unit) (Some log) None fs system force = refl
dup_cases (Some from) (Some to) (Some unit) (Some log) (Some format) None system force = refl
dup_cases (Some from) (Some to) (Some unit) (Some log) (Some format) (Some fs) None force = refl
dup_cases (Some from) (Some to) (Some unit) (Some log) (Some format) (Some fs) (Some system) force = refl

pub dup_by : (rows : List Row) → copy_in rows ≡ dup_in rows
unfolding copy_in dup_in making_in
dup_by rows =
    dup_cases (value_in (codes "from") rows) (value_in (codes "to") rows)
    (or_default default_unit size_of_text (value_in (codes "unit") rows))
    (or_default default_log size_of_text (value_in (codes "loglen") rows))
    (or_default first_number format_of (value_in (codes "format") rows))
    (if_given parsed (value_in (codes "uuid") rows))
    (system_of (value_in (codes "system") rows))
    (flag_in (codes "force") rows)
