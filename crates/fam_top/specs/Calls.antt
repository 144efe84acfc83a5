-- What comes of a call: the one clause of the top call.
use Rattle.std.specs.Prelude.{ℕ, ⊤, List, Option, Some, None, option_map, IfSome}
use Rattle.fam_format.specs.Params.{IsUuid}
use Rattle.fam_machine.specs.MkfsRequest.{mkfs_request}
use Rattle.fam_grammar.specs.Scripts.{script_events}
use Rattle.fam_journal.specs.Calls.{IsSoundRequest}
use Rattle.fam_journal.specs.Laws.{IsImage}
use Rattle.fam_media.specs.Outside.{IfModelled}
use Rattle.fam_outcomes.specs.declared.status.Status.{Status}
use Rattle.fam_outcomes.specs.Programs.{Command, Makes, MakesParents, OneShot, Runs, Script, Single, Storm, TopEnds}
use Rattle.fam_outcomes.specs.Runs.{Outside}
use Rattle.fam_storm.specs.Storm.{storm}
use Rattle.fam_words.specs.declared.wanted.Invocation.{Invocation}
use Rattle.fam_words.specs.declared.wanted.Invocation.TheVariants as invocation
use Rattle.fam_words.specs.declared.wanted.Shot.{Shot}
use Rattle.fam_words.specs.declared.wanted.Shot.TheVariants as shot
use Rattle.fam_top.specs.Fresh.{version4_of}

-- the UUID of the host: that of the words, or this host's
abbrev pub host_or : List ℕ → Option (List ℕ) → List ℕ
host_or me None = me
host_or me (Some system) = system

-- the UUID of a new file system: that of the words, or one of the random bytes
abbrev pub fs_or : List ℕ → Option (List ℕ) → List ℕ
fs_or random None = version4_of random
fs_or random (Some fs) = fs

-- a command of its own, as the journal's definitions speak of it
abbrev pub shot_of : List ℕ → Shot → OneShot
shot_of random (shot.Mkfs fs unit log format force) = Makes (mkfs_request (fs_or random fs) unit log format force None)
shot_of random (shot.Run what) = Runs what
shot_of random (shot.Parents path attr) = MakesParents path attr

-- the command that an invocation is: on the host that it names, or this one
abbrev pub invoked_command : List ℕ → List ℕ → Invocation → Command
invoked_command me random (invocation.Single system what) = Single (host_or me system) (shot_of random what)
invoked_command me random (invocation.Script file) = Script file
invoked_command me random (invocation.Storm seed size prints) = Storm seed size prints

-- the UUIDs of a command of its own are UUIDs: the host's, and that of a new file system, whose format is one that there is
abbrev pub HasOneShotUuids : OneShot → Type 0
HasOneShotUuids (Makes request) = IsSoundRequest request
HasOneShotUuids (Runs what) = ⊤
HasOneShotUuids (MakesParents path attr) = ⊤

-- so of a command. Those of a script and of a storm stand in its lines
abbrev pub HasCommandUuids : Command → Type 0
HasCommandUuids (Single me shot) = IsUuid me × HasOneShotUuids shot
HasCommandUuids (Script file) = ⊤
HasCommandUuids (Storm seed size prints) = ⊤

-- what the words ask for is done, for a host of the UUID `me` where they name no other, and with these random bytes; or they are no
-- command. Each command runs on hosts with caches and keeps a journal: the text is that of one journal, and the image that is
-- left is where that journal leads
pub record CallEnds (asked : Option Invocation) (me random : List ℕ) (out : Outside) (status : Status) : Type 0 where
  pub ends : TopEnds script_events storm (option_map (invoked_command me random) asked) out status
  -- what the laws of runs ask for: an image that is modelled is one, the command's UUIDs are UUIDs, and its format is one
  pub image : IfModelled out.media.old.image IsImage
  pub uuids : IfSome (option_map (invoked_command me random) asked) HasCommandUuids
