-- What the report of a sound image says.
use Rattle.std.specs.Prelude.{◌≡◌, ◌-◌, ◌≤◌, List, length, count_by, None}
use Rattle.fam_base.specs.declared.entry.Params.{Params}
use Rattle.fam_base.specs.declared.entry.Entry.{Entry}
use Rattle.fam_format.specs.Layout.{device_units}
use Rattle.fam_rules.specs.declared.answers.Report.{Report}
use Rattle.fam_rules.specs.declared.answers.SuperState.TheVariants as superblock
use Rattle.fam_rules.specs.declared.answers.LogState.TheVariants as log
use Rattle.fam_rules.specs.Reports.{is_file, is_directory, used_count}

-- superblock and log are sound, the numbers are those of the entries, and no entry is bad or overlaps another.
-- Past the gate any slot may read
pub record IsSoundReport (p : Params) (list : List Entry) (report : Report) : Type 0 where
  pub superblock : report.superblock ≡ superblock.Sound
  pub log : report.log ≡ log.Sound (length list) p.slots
  pub files : report.files ≡ count_by (λ e. is_file e.kind) list
  pub directories : report.directories ≡ count_by (λ e. is_directory e.kind) list
  pub used : report.used ≡ used_count p list
  pub free : report.free ≡ device_units p - used_count p list
  pub overlap : report.overlap ≡ None
  pub bad : report.bad ≡ None
  pub past : report.past ≤ p.slots - length list
