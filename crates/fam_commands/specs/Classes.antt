-- Classes of commands. Where commands of a class are alike a table speaks of the class, so a new command chooses its class
-- here, once, and has no rows of its own but where it differs.
use Rattle.std.specs.Prelude.{ℕ, ⊤, Bool, true, false, List}
use Rattle.fam_base.specs.declared.cmd.Cmd.{Cmd}
use Rattle.fam_base.specs.declared.cmd.Cmd.TheVariants.{Logplay, Mount, Mkdir, Creat, Cp, Verify, Read, Check, Fsck}
use Rattle.fam_base.specs.declared.cmd.Content.{Content}

-- what a command does once it has read superblock and header
pub data Class : Type 0 where
  -- it replays the log, and answers by the entries
  Replays : Class
  -- it replays the log, and appends an entry to it
  Appends : Class
  -- it replays the log, and compares the bytes of a file with a content
  Compares : (path : List ℕ) (against : Content) → Class
  -- it replays the log, and gives bytes of a file
  Reads : (path : List ℕ) (offset count : ℕ) → Class
  -- it surveys all slots, and reports
  Surveys : Class

-- the class of a command
abbrev pub class_of : Cmd → Class
class_of Logplay = Replays
class_of Mount = Replays
class_of (Mkdir path attr) = Appends
class_of (Creat path size attr stripe fill) = Appends
class_of (Cp path attr stripe bytes) = Appends
class_of (Verify path against) = Compares path against
class_of (Read path offset count) = Reads path offset count
class_of (Check listing) = Replays
class_of Fsck = Surveys

-- it surveys all slots
abbrev pub surveys : Class → Bool
surveys Replays = false
surveys Appends = false
surveys (Compares path against) = false
surveys (Reads path offset count) = false
surveys Surveys = true

-- a command that surveys all slots
abbrev pub is_fsck : Cmd → Bool
is_fsck cmd = surveys (class_of cmd)

-- it compares a file
abbrev pub AreComparing : Class → Type 0
AreComparing Replays = ⊥
AreComparing Appends = ⊥
AreComparing (Compares path against) = ⊤
AreComparing (Reads path offset count) = ⊥
AreComparing Surveys = ⊥

-- a command that compares a file's bytes
abbrev pub IsVerify : Cmd → Type 0
IsVerify cmd = AreComparing (class_of cmd)

-- it gives bytes of a file
abbrev pub AreReading : Class → Type 0
AreReading Replays = ⊥
AreReading Appends = ⊥
AreReading (Compares path against) = ⊥
AreReading (Reads path offset count) = ⊤
AreReading Surveys = ⊥

-- a command that reads a file's bytes
abbrev pub IsRead : Cmd → Type 0
IsRead cmd = AreReading (class_of cmd)

-- it looks at lines of a file
abbrev pub AreLooking : Class → Type 0
AreLooking Replays = ⊥
AreLooking Appends = ⊥
AreLooking (Compares path against) = ⊤
AreLooking (Reads path offset count) = ⊤
AreLooking Surveys = ⊥

-- a command that looks at a file's lines
abbrev pub LooksAtFile : Cmd → Type 0
LooksAtFile cmd = AreLooking (class_of cmd)

-- a command behind whose answer its host keeps what it read
abbrev pub is_mount : Cmd → Bool
is_mount Logplay = false
is_mount Mount = true
is_mount (Mkdir path attr) = false
is_mount (Creat path size attr stripe fill) = false
is_mount (Cp path attr stripe bytes) = false
is_mount (Verify path against) = false
is_mount (Read path offset count) = false
is_mount (Check listing) = false
is_mount Fsck = false

-- a command that compares the tree with a listing
abbrev pub IsCheck : Cmd → Type 0
IsCheck Logplay = ⊥
IsCheck Mount = ⊥
IsCheck (Mkdir path attr) = ⊥
IsCheck (Creat path size attr stripe fill) = ⊥
IsCheck (Cp path attr stripe bytes) = ⊥
IsCheck (Verify path against) = ⊥
IsCheck (Read path offset count) = ⊥
IsCheck (Check listing) = ⊤
IsCheck Fsck = ⊥
