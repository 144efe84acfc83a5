-- The first words of events and of commands, in lower case exactly.
use Rattle.std.specs.Prelude.{ℕ, if◌then◌else◌, List, codes, Option, Some, None}
use Rattle.std.specs.Str.{bytes_eq}
use Rattle.fam_grammar.specs.declared.keywords.EventWord.{EventWord}
use Rattle.fam_grammar.specs.declared.keywords.EventWord.TheVariants as event
use Rattle.fam_grammar.specs.declared.keywords.CommandWord.{CommandWord}
use Rattle.fam_grammar.specs.declared.keywords.CommandWord.TheVariants as command

-- the event that a word begins
unfoldable pub event_word : List ℕ → Option EventWord
event_word word =
    if bytes_eq word (codes "host") then Some event.Host
    else if bytes_eq word (codes "mkfs") then Some event.Mkfs
    else if bytes_eq word (codes "begin") then Some event.Begin
    else if bytes_eq word (codes "run") then Some event.Run
    else if bytes_eq word (codes "step") then Some event.Step
    else if bytes_eq word (codes "finish") then Some event.Finish
    else if bytes_eq word (codes "stop") then Some event.Stop
    else if bytes_eq word (codes "halt") then Some event.Halt
    else if bytes_eq word (codes "umount") then Some event.Umount
    else if bytes_eq word (codes "evict") then Some event.Evict
    else if bytes_eq word (codes "leak") then Some event.Leak
    else if bytes_eq word (codes "fetch") then Some event.Fetch
    else None

-- the command that a word begins
unfoldable pub command_word : List ℕ → Option CommandWord
command_word word =
    if bytes_eq word (codes "logplay") then Some command.Logplay
    else if bytes_eq word (codes "mount") then Some command.Mount
    else if bytes_eq word (codes "fsck") then Some command.Fsck
    else if bytes_eq word (codes "mkdir") then Some command.Mkdir
    else if bytes_eq word (codes "creat") then Some command.Creat
    else if bytes_eq word (codes "cp") then Some command.Cp
    else if bytes_eq word (codes "verify") then Some command.Verify
    else if bytes_eq word (codes "read") then Some command.Read
    else if bytes_eq word (codes "check") then Some command.Check
    else None
