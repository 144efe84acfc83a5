-- The grammar of scripts over a mailbox: what each event has for words, from left to right. docs/MANUAL.md, "Mailboxes".
use Rattle.std.specs.Prelude.{ℕ, nat_lt, if◌then◌else◌, List, [], ◌∷◌, ◌++◌, length, Option, Some, None}
use Rattle.fam_grammar.specs.Numbers.{number_of_text}
use Rattle.fam_grammar.specs.Reading.{Reading, Reads, Misfit, ends_with, then_reads, word_of}
use Rattle.fam_grammar.specs.Spellings.{mask_of, name_of, steps_of}
use Rattle.fam_grammar.specs.Words.{Word}
use Rattle.fam_mail.specs.Records.{most_numbers}
use Rattle.fam_mail.specs.declared.ask.Ask.{Ask}
use Rattle.fam_mail.specs.declared.ask.Ask.TheVariants as ask
use Rattle.fam_mail.specs.declared.event.MailEvent.{MailEvent}
use Rattle.fam_mail.specs.declared.event.MailEvent.TheVariants as event
use Rattle.fam_mail_script.specs.declared.keywords.AskWord.{AskWord}
use Rattle.fam_mail_script.specs.declared.keywords.AskWord.TheVariants as asked
use Rattle.fam_mail_script.specs.declared.keywords.EventWord.{EventWord}
use Rattle.fam_mail_script.specs.declared.keywords.EventWord.TheVariants as word
use Rattle.fam_mail_script.specs.Keywords.{mail_ask_word, mail_word}

-- Asks.

-- one number more of a record that has so many: there are at most seven
abbrev pub next_number : ℕ → List ℕ → Option ℕ
next_number count text = if nat_lt count most_numbers then number_of_text text else None

-- the numbers of a record behind those that were read: all words that are left
abbrev pub numbers_behind : List ℕ → List Word → Reading (List ℕ)
numbers_behind numbers [] = Reads numbers []
numbers_behind numbers (word ∷ words) =
    elim (next_number (length numbers) word.text) as (λ _. Reading (List ℕ)) [
      | None ↦ Misfit word.column
      | Some n ↦ numbers_behind (numbers ++ n ∷ []) words
    ]

-- the numbers of a record: 1 to 7
abbrev pub numbers_line : ℕ → List Word → Reading (List ℕ)
numbers_line end words = then_reads (word_of number_of_text end words) (λ n. numbers_behind (n ∷ []))

-- the words behind an ask's name
abbrev pub mail_ask_behind : ℕ → AskWord → List Word → Reading Ask
mail_ask_behind end asked.Take words = ends_with ask.Take words
mail_ask_behind end asked.Post words = then_reads (numbers_line end words) (λ numbers rest. Reads (ask.Post numbers) rest)

-- an ask: `take`, or `post` and its numbers
unfoldable pub mail_ask_line : ℕ → List Word → Reading Ask
mail_ask_line end words = then_reads (word_of mail_ask_word end words) (mail_ask_behind end)

-- Events.

-- writer, reader, finish, stop and halt: NAME
abbrev pub mail_name_line : (List ℕ → MailEvent) → ℕ → List Word → Reading MailEvent
mail_name_line made end words =
    then_reads (word_of name_of end words) (λ name rest.
    then_reads (ends_with name rest) (λ named none. Reads (made named) none))

-- begin and run: NAME, and an ask
abbrev pub mail_asked_line : (List ℕ → Ask → MailEvent) → ℕ → List Word → Reading MailEvent
mail_asked_line made end words =
    then_reads (word_of name_of end words) (λ name rest.
    then_reads (mail_ask_line end rest) (λ what none. Reads (made name what) none))

-- the COUNT of step; 1 where it is missing
abbrev pub mail_steps_line : ℕ → List ℕ → List Word → Reading MailEvent
mail_steps_line end name [] = Reads (event.Step name 1) []
mail_steps_line end name (word ∷ words) =
    then_reads (word_of steps_of end (word ∷ words)) (λ count rest.
    then_reads (ends_with count rest) (λ most none. Reads (event.Step name most) none))

-- step: NAME, and COUNT or nothing
abbrev pub mail_step_line : ℕ → List Word → Reading MailEvent
mail_step_line end words = then_reads (word_of name_of end words) (mail_steps_line end)

-- evict: NAME, and a line of the file
abbrev pub mail_evict_line : ℕ → List Word → Reading MailEvent
mail_evict_line end words =
    then_reads (word_of name_of end words) (λ name rest.
    then_reads (word_of number_of_text end rest) (λ at rest.
    then_reads (ends_with at rest) (λ line none. Reads (event.Evict name line) none)))

-- leak: NAME, a line of the file, MASK
abbrev pub mail_leak_line : ℕ → List Word → Reading MailEvent
mail_leak_line end words =
    then_reads (word_of name_of end words) (λ name rest.
    then_reads (word_of number_of_text end rest) (λ at rest.
    then_reads (word_of mask_of end rest) (λ mask rest.
    then_reads (ends_with mask rest) (λ words none. Reads (event.Leak name at (record { 0 = words })) none))))

-- fetch: the same
abbrev pub mail_fetch_line : ℕ → List Word → Reading MailEvent
mail_fetch_line end words =
    then_reads (word_of name_of end words) (λ name rest.
    then_reads (word_of number_of_text end rest) (λ at rest.
    then_reads (word_of mask_of end rest) (λ mask rest.
    then_reads (ends_with mask rest) (λ words none. Reads (event.Fetch name at (record { 0 = words })) none))))

-- the words behind an event's name
abbrev pub mail_words_behind : ℕ → EventWord → List Word → Reading MailEvent
mail_words_behind end word.Writer words = mail_name_line event.Writer end words
mail_words_behind end word.Reader words = mail_name_line event.Reader end words
mail_words_behind end word.Begin words = mail_asked_line event.Begin end words
mail_words_behind end word.Run words = mail_asked_line event.Run end words
mail_words_behind end word.Step words = mail_step_line end words
mail_words_behind end word.Finish words = mail_name_line event.Finish end words
mail_words_behind end word.Stop words = mail_name_line event.Stop end words
mail_words_behind end word.Halt words = mail_name_line event.Halt end words
mail_words_behind end word.Evict words = mail_evict_line end words
mail_words_behind end word.Leak words = mail_leak_line end words
mail_words_behind end word.Fetch words = mail_fetch_line end words

-- an event: its name, and its words
unfoldable pub mail_line : ℕ → List Word → Reading MailEvent
mail_line end words = then_reads (word_of mail_word end words) (mail_words_behind end)
