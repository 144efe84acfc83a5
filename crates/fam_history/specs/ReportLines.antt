-- The grammar of a report's lines behind the first, from left to right.
use Rattle.std.specs.Prelude.{ℕ, if◌then◌else◌, List, codes, Option, Some, None}
use Rattle.fam_format.specs.declared.faults.LogFault.{LogFault}
use Rattle.fam_format.specs.declared.faults.LogFault.TheVariants.{BadLog}
use Rattle.fam_format.specs.declared.faults.Reason.{Reason}
use Rattle.fam_format.specs.declared.faults.SuperFault.{SuperFault}
use Rattle.fam_format.specs.declared.faults.SuperFault.TheVariants.{NoSuper, BadSuper}
use Rattle.fam_rules.specs.declared.answers.LogState.{LogState}
use Rattle.fam_rules.specs.declared.answers.LogState.TheVariants as log
use Rattle.fam_rules.specs.declared.answers.SuperState.{SuperState}
use Rattle.fam_rules.specs.declared.answers.SuperState.TheVariants as superblock
use Rattle.fam_grammar.specs.Numbers.{number_of_text}
use Rattle.fam_grammar.specs.Reading.{Reading, Reads, ends_with, then_reads, word_of}
use Rattle.fam_grammar.specs.Words.{Word}
use Rattle.fam_history.specs.Answers.{counted_word}
use Rattle.fam_history.specs.Faults.{log_fault_line, numbered, reason_line, super_line}
use Rattle.fam_history.specs.Literals.{begins_with, behind_first, last_two, the_word}

-- what a fault says of the superblock
abbrev pub bad_super_state : SuperFault → SuperState
bad_super_state (NoSuper word) = superblock.NoSuper word
bad_super_state (BadSuper f found wanted) = superblock.BadSuper f found wanted

-- what a fault says of the log
abbrev pub bad_log_state : LogFault → LogState
bad_log_state (BadLog f found wanted) = log.BadLog f found wanted

-- `superblock sound`, or its fault
abbrev pub superblock_line : ℕ → List Word → Reading SuperState
superblock_line end words =
    if begins_with (codes "superblock") words then then_reads (word_of (the_word (codes "sound")) end (behind_first words)) (λ it. ends_with superblock.Sound)
    else if begins_with (codes "no") words then then_reads (numbered end (codes "superblock") (behind_first words)) (λ n none. Reads (superblock.NoSuper n) none)
    else
    then_reads (word_of (the_word (codes "bad")) end words) (λ it rest.
    then_reads (word_of (the_word (codes "superblock")) end rest) (λ it rest.
    then_reads (super_line end rest) (λ fault none. Reads (bad_super_state fault) none)))

-- a number, `of` and another
abbrev pub one_of : ℕ → List Word → Reading LogState
one_of end words =
    then_reads (word_of number_of_text end words) (λ entries rest.
    then_reads (numbered end (codes "of") rest) (λ slots none. Reads (log.Sound entries slots) none))

-- behind `log`
abbrev pub log_behind : ℕ → List Word → Reading LogState
log_behind end words =
    if begins_with (codes "unread") words then ends_with log.Unread (behind_first words)
    else then_reads (word_of (the_word (codes "sound")) end words) (λ it. one_of end)

-- `log`: `sound` with entries and slots, or `unread`; or its fault
abbrev pub log_state_line : ℕ → List Word → Reading LogState
log_state_line end words =
    if begins_with (codes "bad") words then
    then_reads (word_of (the_word (codes "log")) end (behind_first words)) (λ it rest.
    then_reads (log_fault_line end rest) (λ fault none. Reads (bad_log_state fault) none))
    else then_reads (word_of (the_word (codes "log")) end words) (λ it. log_behind end)

-- files and directories
abbrev pub files_line : ℕ → List Word → Reading (ℕ × ℕ)
files_line end words =
    then_reads (counted_word end (codes "files") words) (λ files rest.
    then_reads (numbered end (codes "directories") rest) (λ directories none. Reads (files, directories) none))

-- units that are used, and that are free
abbrev pub units_line : ℕ → List Word → Reading (ℕ × ℕ)
units_line end words =
    then_reads (word_of (the_word (codes "units")) end words) (λ it rest.
    then_reads (counted_word end (codes "used") rest) (λ used rest.
    then_reads (numbered end (codes "free") rest) (λ free none. Reads (used, free) none)))

-- two numbers, or `none`
abbrev pub pair_or_none : ℕ → List Word → Reading (Option (ℕ × ℕ))
pair_or_none end words =
    if begins_with (codes "none") words then ends_with None (behind_first words)
    else then_reads (last_two end words) (λ p none. Reads (Some p) none)

-- two entries that overlap
abbrev pub overlap_line : ℕ → List Word → Reading (Option (ℕ × ℕ))
overlap_line end words = then_reads (word_of (the_word (codes "overlap")) end words) (λ it. pair_or_none end)

-- an entry's number and why it is bad, or `none`
abbrev pub slot_or_none : ℕ → List Word → Reading (Option (ℕ × Reason))
slot_or_none end words =
    if begins_with (codes "none") words then ends_with None (behind_first words)
    else
    then_reads (word_of number_of_text end words) (λ seq rest.
    then_reads (reason_line end rest) (λ why none. Reads (Some (seq, why)) none))

-- the first bad entry
abbrev pub bad_entry_line : ℕ → List Word → Reading (Option (ℕ × Reason))
bad_entry_line end words =
    then_reads (word_of (the_word (codes "bad")) end words) (λ it rest.
    then_reads (word_of (the_word (codes "entry")) end rest) (λ it. slot_or_none end))

-- slots past the gate
abbrev pub past_line : ℕ → List Word → Reading ℕ
past_line end words = then_reads (word_of (the_word (codes "past")) end words) (λ it. numbered end (codes "gate"))
