-- What a task asks of its command.
use Rattle.std.specs.Prelude.{ℕ, ◌*◌, if◌then◌else◌, Bool, true, false}
use Rattle.fam_base.specs.declared.cmd.Cmd.{Cmd}
use Rattle.fam_base.specs.declared.cmd.Cmd.TheVariants.{Logplay, Mount, Mkdir, Creat, Cp, Verify, Read, Check, Fsck}
use Rattle.fam_base.specs.declared.cmd.Content.{Content}
use Rattle.fam_base.specs.declared.cmd.Content.TheVariants as content
use Rattle.fam_base.specs.declared.entry.Params.{Params}
use Rattle.fam_commands.specs.Classes.{Class, class_of, Replays, Appends, Compares, Reads, Surveys, is_fsck}

-- how many slots it reads: all of them, or those below the gate
abbrev pub slots_told : Cmd → Params → ℕ → ℕ
slots_told cmd p gate = if is_fsck cmd then p.slots else gate

-- a command that lists the tree
abbrev pub is_logplay : Cmd → Bool
is_logplay Logplay = true
is_logplay Mount = false
is_logplay (Mkdir path attr) = false
is_logplay (Creat path size attr stripe fill) = false
is_logplay (Cp path attr stripe bytes) = false
is_logplay (Verify path against) = false
is_logplay (Read path offset count) = false
is_logplay (Check listing) = false
is_logplay Fsck = false

-- the content that a command writes or compares with, zeros where it does neither
abbrev pub content_used : Cmd → Content
content_used (Creat path size attr stripe fill) = fill
content_used (Cp path attr stripe bytes) = content.Bytes bytes
content_used (Verify path against) = against
content_used Logplay = content.Zero
content_used Mount = content.Zero
content_used (Mkdir path attr) = content.Zero
content_used (Read path offset count) = content.Zero
content_used (Check listing) = content.Zero
content_used Fsck = content.Zero

-- how many words of a file's lines before line j are kept: a file that is compared is looked at line by line; by the class of the command
abbrev pub kept_of_file_in : Class → ℕ → ℕ
kept_of_file_in (Reads path offset count) j = 8 * j
kept_of_file_in (Compares path against) j = 0
kept_of_file_in Replays j = 0
kept_of_file_in Appends j = 0
kept_of_file_in Surveys j = 0

-- so of a command, by its class
abbrev pub kept_of_file : Cmd → ℕ → ℕ
kept_of_file cmd j = kept_of_file_in (class_of cmd) j
