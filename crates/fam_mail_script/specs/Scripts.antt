-- A line of a mailbox's script as an event, and the script as its events. docs/MANUAL.md, "Mailboxes".
use Rattle.std.specs.Prelude.{ℕ, List, Result}
use Rattle.fam_grammar.specs.Scripts.{LineReading, end_of_line, events_in, line_of_words, words_in}
use Rattle.fam_mail.specs.declared.event.MailEvent.{MailEvent}
use Rattle.fam_mail_script.specs.Lines.{mail_line}

-- a line, without its line feed: cut into words as the lines of every script
unfoldable pub mail_line_reads : List ℕ → LineReading MailEvent
mail_line_reads line = line_of_words mail_line (end_of_line line) (words_in line)

-- the events of a script, or the number and column of its first bad line
unfoldable pub mail_events : List ℕ → Result (List MailEvent) (ℕ × ℕ)
mail_events bytes = events_in mail_line_reads bytes
