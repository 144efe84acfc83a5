-- The grammar of a command as it starts: what each has for words, from left to right. docs/MANUAL.md, "Scripts"; a cp, a verify
-- of a source and a check have a number in place of a source's name.
use Rattle.std.specs.Prelude.{ℕ, List, [], ◌∷◌, codes, Option, None, option_map}
use Rattle.fam_base.specs.declared.cmd.Cmd.TheVariants as cmd
use Rattle.fam_base.specs.declared.cmd.Content.TheVariants as content
use Rattle.fam_grammar.specs.declared.keywords.CommandWord.{CommandWord}
use Rattle.fam_grammar.specs.declared.keywords.CommandWord.TheVariants as command
use Rattle.fam_grammar.specs.Keywords.{command_word}
use Rattle.fam_grammar.specs.Lines.{attr_of, cp_takes, creat_takes, directory_mode, file_mode, fill_of, mkdir_takes}
use Rattle.fam_grammar.specs.Numbers.{number_of_text, size_of_text}
use Rattle.fam_grammar.specs.Options.{file_options, keyed, no_file_options}
use Rattle.fam_grammar.specs.Reading.{Reading, Reads, ends_with, then_reads, word_of}
use Rattle.fam_grammar.specs.Spellings.{count_of, path_of, value_behind}
use Rattle.fam_grammar.specs.Words.{Word}
use Rattle.fam_history.specs.declared.command.ToldCommand.{ToldCommand}
use Rattle.fam_history.specs.declared.command.ToldCommand.TheVariants as told

-- mkdir: PATH, options
abbrev pub told_mkdir : ℕ → List Word → Reading ToldCommand
told_mkdir end words =
    then_reads (word_of path_of end words) (λ path rest.
    then_reads (file_options mkdir_takes no_file_options rest) (λ o none.
    Reads (told.Plain (cmd.Mkdir path (attr_of directory_mode o))) none))

-- creat: PATH, SIZE, options
abbrev pub told_creat : ℕ → List Word → Reading ToldCommand
told_creat end words =
    then_reads (word_of path_of end words) (λ path rest.
    then_reads (word_of size_of_text end rest) (λ size rest.
    then_reads (file_options creat_takes no_file_options rest) (λ o none.
    Reads (told.Plain (cmd.Creat path size (attr_of file_mode o) o.stripe (fill_of o.seed))) none)))

-- cp: PATH, SIZE, options
abbrev pub told_cp : ℕ → List Word → Reading ToldCommand
told_cp end words =
    then_reads (word_of path_of end words) (λ path rest.
    then_reads (word_of size_of_text end rest) (λ size rest.
    then_reads (file_options cp_takes no_file_options rest) (λ o none.
    Reads (told.Cp path size (attr_of file_mode o) o.stripe) none)))

-- what a verify compares with: `seed=N`, or `bytes=N`, so many of a source
abbrev pub told_against : List ℕ → List ℕ → Option ToldCommand
told_against path word =
    keyed (value_behind (codes "seed=") word) (λ v. option_map (λ seed. told.Plain (cmd.Verify path (content.Seed seed))) (number_of_text v))
    (keyed (value_behind (codes "bytes=") word) (λ v. option_map (λ count. told.VerifySource path count) (number_of_text v)) None)

-- at most one of them; zeros without one
abbrev pub told_compared : ℕ → List ℕ → List Word → Reading ToldCommand
told_compared end path [] = Reads (told.Plain (cmd.Verify path content.Zero)) []
told_compared end path (word ∷ words) = then_reads (word_of (told_against path) end (word ∷ words)) ends_with

-- verify: PATH, and at most one of these
abbrev pub told_verify : ℕ → List Word → Reading ToldCommand
told_verify end words = then_reads (word_of path_of end words) (told_compared end)

-- read: PATH, OFFSET, COUNT
abbrev pub told_read : ℕ → List Word → Reading ToldCommand
told_read end words =
    then_reads (word_of path_of end words) (λ path rest.
    then_reads (word_of number_of_text end rest) (λ offset rest.
    then_reads (word_of count_of end rest) (λ count rest.
    ends_with (told.Plain (cmd.Read path offset count)) rest)))

-- check: how many entries the listing has
abbrev pub told_check : ℕ → List Word → Reading ToldCommand
told_check end words = then_reads (word_of number_of_text end words) (λ count. ends_with (told.Check count))

-- the words behind a command's name
abbrev pub told_behind : ℕ → CommandWord → List Word → Reading ToldCommand
told_behind end command.Logplay words = ends_with (told.Plain cmd.Logplay) words
told_behind end command.Mount words = ends_with (told.Plain cmd.Mount) words
told_behind end command.Fsck words = ends_with (told.Plain cmd.Fsck) words
told_behind end command.Mkdir words = told_mkdir end words
told_behind end command.Creat words = told_creat end words
told_behind end command.Cp words = told_cp end words
told_behind end command.Verify words = told_verify end words
told_behind end command.Read words = told_read end words
told_behind end command.Check words = told_check end words

-- a command: its name, and its words
unfoldable pub told_line : ℕ → List Word → Reading ToldCommand
told_line end words = then_reads (word_of command_word end words) (told_behind end)
