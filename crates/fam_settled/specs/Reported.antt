-- The parts of the report of a sound file system.
use Rattle.std.specs.Prelude.{◌≡◌, ◌-◌, ◌≤◌, List, length, count_by, None}
use Rattle.fam_base.specs.declared.entry.Entry.{Entry}
use Rattle.fam_base.specs.declared.entry.Params.{Params}
use Rattle.fam_format.specs.Layout.{device_units}
use Rattle.fam_rules.specs.declared.answers.LogState.TheVariants as log
use Rattle.fam_rules.specs.declared.answers.Report.{Report}
use Rattle.fam_rules.specs.declared.answers.SuperState.TheVariants as superblock
use Rattle.fam_rules.specs.Reports.{is_directory, is_file, used_count}

-- superblock and log are sound, and no entry is bad
pub record HasSoundStates (p : Params) (list : List Entry) (report : Report) : Type 0 where
  pub superblock : report.superblock ≡ superblock.Sound
  pub log : report.log ≡ log.Sound (length list) p.slots
  pub overlap : report.overlap ≡ None
  pub bad : report.bad ≡ None
  pub past : report.past ≤ p.slots - length list

-- the entries of each kind are counted
pub record HasKinds (list : List Entry) (report : Report) : Type 0 where
  pub files : report.files ≡ count_by (λ e. is_file e.kind) list
  pub directories : report.directories ≡ count_by (λ e. is_directory e.kind) list

-- units are counted
pub record HasUnits (p : Params) (list : List Entry) (report : Report) : Type 0 where
  pub used : report.used ≡ used_count p list
  pub free : report.free ≡ device_units p - used_count p list
