-- The first words of a mailbox's events, and of what a host is asked for, in lower case exactly.
use Rattle.std.specs.Prelude.{ℕ, if◌then◌else◌, List, codes, Option, Some, None}
use Rattle.std.specs.Str.{bytes_eq}
use Rattle.fam_mail_script.specs.declared.keywords.EventWord.{EventWord}
use Rattle.fam_mail_script.specs.declared.keywords.EventWord.TheVariants as event
use Rattle.fam_mail_script.specs.declared.keywords.AskWord.{AskWord}
use Rattle.fam_mail_script.specs.declared.keywords.AskWord.TheVariants as ask

-- the event that a word begins
unfoldable pub mail_word : List ℕ → Option EventWord
mail_word word =
    if bytes_eq word (codes "writer") then Some event.Writer
    else if bytes_eq word (codes "reader") then Some event.Reader
    else if bytes_eq word (codes "begin") then Some event.Begin
    else if bytes_eq word (codes "run") then Some event.Run
    else if bytes_eq word (codes "step") then Some event.Step
    else if bytes_eq word (codes "finish") then Some event.Finish
    else if bytes_eq word (codes "stop") then Some event.Stop
    else if bytes_eq word (codes "halt") then Some event.Halt
    else if bytes_eq word (codes "evict") then Some event.Evict
    else if bytes_eq word (codes "leak") then Some event.Leak
    else if bytes_eq word (codes "fetch") then Some event.Fetch
    else None

-- what a word asks for
unfoldable pub mail_ask_word : List ℕ → Option AskWord
mail_ask_word word =
    if bytes_eq word (codes "take") then Some ask.Take
    else if bytes_eq word (codes "post") then Some ask.Post
    else None
