-- Commands of their own, by their names.
use Rattle.std.specs.Prelude.{List, Option, Some, None}
use Rattle.clap.specs.Walk.{Row}
use Rattle.fam_base.specs.declared.cmd.Cmd.TheVariants as cmd
use Rattle.fam_journal.specs.declared.event.Ask.TheVariants as ask
use Rattle.fam_words.specs.declared.wanted.Shot.{Shot}
use Rattle.fam_words.specs.declared.wanted.Shot.TheVariants as shot
use Rattle.fam_words.specs.declared.invocations.Name.{Name}
use Rattle.fam_words.specs.declared.invocations.Name.TheVariants as name
use Rattle.fam_words.specs.Calls.{check_shot, cp_shot, creat_shot, mkdir_shot, mkfs_shot, read_shot, verify_shot}

-- what the values of a command's words ask for, where it is a command of its own
abbrev pub shot_in : Name → List Row → Option Shot
shot_in name.Mkfs rows = mkfs_shot rows
shot_in name.Logplay rows = Some (shot.Run (ask.Plain cmd.Logplay))
shot_in name.Mkdir rows = mkdir_shot rows
shot_in name.Creat rows = creat_shot rows
shot_in name.Cp rows = cp_shot rows
shot_in name.Verify rows = verify_shot rows
shot_in name.Read rows = read_shot rows
shot_in name.Check rows = check_shot rows
shot_in name.Fsck rows = Some (shot.Run (ask.Plain cmd.Fsck))
shot_in name.Script rows = None
shot_in name.Storm rows = None
