-- Commands of which a line tells all that is told of any, and what a command of them names.
use Rattle.std.specs.Prelude.{ℕ, ◌≡◌, Option, Some, slice_get}
use Rattle.fam_base.specs.declared.entry.Entry.{Entry}
use Rattle.fam_base.specs.Image.{Image}
use Rattle.fam_history.specs.declared.command.ToldCommand.{ToldCommand}
use Rattle.fam_journal.specs.Legal.{WritesAllowed}
use Rattle.fam_journal.specs.Notes.{Writes}
use Rattle.fam_journal.specs.Past.{HostPast, State, filled_bytes, pends}
use Rattle.fam_journal.specs.Shapes.{EntryShape}
use Rattle.fam_judge.specs.Possible.{Possible, after_note}
use Rattle.fam_lines.specs.Lines.{untold_of}
use Rattle.fam_rules.specs.Decide.{Wish, wish_of}
use Rattle.fam_rules.specs.DecideLaws.{IsSoundWish}
use Rattle.fam_settled.specs.Told.{HasToldFill, bare_cmd}
use Rattle.fam_judging.specs.declared.hosts.Hosts.{Hosts}
use Rattle.fam_judging.specs.Going.{MayName, NamesByNow}

-- what a line tells of the command is all that is told of it, and what it wants is within its limits
pub record IsToldCommand (c : ToldCommand) : Type 0 where
  pub same : bare_cmd c ≡ untold_of c
  pub filled : HasToldFill c
  pub sound : (w : Wish) → wish_of (bare_cmd c) ≡ Some w → IsSoundWish w

-- so it is of each host's last command
abbrev pub AreToldCommands : Hosts → Type 0
AreToldCommands hosts = (k : ℕ) (c : ToldCommand) → slice_get hosts.commands.items k ≡ Some (Some c) → IsToldCommand c

-- a host's command names this entry, numbered n, and the state comes to be t; or none
pub record NamesIn (n : ℕ) (host : HostPast) (c : ToldCommand) (s t : State) (named : Option Entry) : Type 0 where
  pub allowed : (e : Entry) → named ≡ Some e → WritesAllowed n e host s
  pub shape : (e : Entry) → named ≡ Some e → EntryShape (untold_of c) e
  pub state : (e : Entry) → named ≡ Some e → t ≡ pends (record { entry = e; bytes = filled_bytes host.cmd e.size }) s
  pub complete : (e : Entry) → WritesAllowed n e host s → named ≡ Some e

-- host h's command names this entry, numbered n, and leads from x to y; or none
pub record NamesNext (start : Image) (h n : ℕ) (x y : Possible) (named : Option Entry) : Type 0 where
  pub may : (e : Entry) → named ≡ Some e → MayName start h n e x
  pub is : (e : Entry) → named ≡ Some e → y ≡ after_note start x (Writes h n e)
  pub complete : (e : Entry) → MayName start h n e x → named ≡ Some e

-- host h's command, which has found n entries by now, names this entry and leads from x to y; or none
pub record NamesFrom (start : Image) (h n : ℕ) (x y : Possible) (named : Option Entry) : Type 0 where
  pub sound : (e : Entry) → named ≡ Some e → NamesByNow start h n e x y
  pub complete : (e : Entry) (z : Possible) → NamesByNow start h n e x z → (named ≡ Some e) × (z ≡ y)
