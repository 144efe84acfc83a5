-- The grammar: what each event and each command has for words, from left to right. docs/MANUAL.md, "Scripts".
use Rattle.std.specs.Prelude.{ℕ, true, false, List, [], ◌∷◌, codes, Option, Some, None, option_map, unwrap_or}
use Rattle.fam_base.specs.declared.cmd.Attr.{Attr}
use Rattle.fam_base.specs.declared.cmd.Cmd.TheVariants as cmd
use Rattle.fam_base.specs.declared.cmd.Content.{Content}
use Rattle.fam_base.specs.declared.cmd.Content.TheVariants as content
use Rattle.fam_format.specs.Params.{first_number}
use Rattle.fam_journal.specs.declared.event.Ask.{Ask}
use Rattle.fam_journal.specs.declared.event.Ask.TheVariants as ask
use Rattle.fam_journal.specs.declared.event.Event.{Event}
use Rattle.fam_journal.specs.declared.event.Event.TheVariants as event
use Rattle.fam_grammar.specs.declared.keywords.EventWord.{EventWord}
use Rattle.fam_grammar.specs.declared.keywords.EventWord.TheVariants as word
use Rattle.fam_grammar.specs.declared.keywords.CommandWord.{CommandWord}
use Rattle.fam_grammar.specs.declared.keywords.CommandWord.TheVariants as command
use Rattle.fam_grammar.specs.declared.options.FileOptions.{FileOptions}
use Rattle.fam_grammar.specs.declared.options.Takes.{Takes}
use Rattle.fam_grammar.specs.Keywords.{command_word, event_word}
use Rattle.fam_grammar.specs.Numbers.{number_of_text, size_of_text}
use Rattle.fam_grammar.specs.Options.{file_options, keyed, mkfs_options, no_file_options, no_mkfs_options}
use Rattle.fam_grammar.specs.Reading.{Reading, Reads, word_of, then_reads, ends_with}
use Rattle.fam_grammar.specs.Spellings.{count_of, file_of, mask_of, name_of, path_of, steps_of, uuid_of, value_behind}
use Rattle.fam_grammar.specs.Words.{Word}
use Rattle.fam_machine.specs.MkfsRequest.{mkfs_request}

-- Commands.

-- mode, user and group, where they are given; or the mode of its kind, and 0
abbrev pub attr_of : ℕ → FileOptions → Attr
attr_of mode o = record { mode = unwrap_or o.mode mode; uid = unwrap_or o.uid 0; gid = unwrap_or o.gid 0 }

-- the mode of a directory where none is given: 0755
abbrev pub directory_mode : ℕ
directory_mode = 0x1ed

-- the mode of a file where none is given: 0644
abbrev pub file_mode : ℕ
file_mode = 0x1a4

-- the bytes of a new file: of a seed, or zeros
abbrev pub fill_of : Option ℕ → Content
fill_of None = content.Zero
fill_of (Some seed) = content.Seed seed

-- which options they take besides mode=, uid= and gid=
abbrev pub mkdir_takes : Takes
mkdir_takes = record { seed = false; stripe = false }

-- a creat takes every option
abbrev pub creat_takes : Takes
creat_takes = record { seed = true; stripe = true }

-- a cp takes every option but a seed
abbrev pub cp_takes : Takes
cp_takes = record { seed = false; stripe = true }

-- mkdir: PATH, options
abbrev pub mkdir_line : ℕ → List Word → Reading Ask
mkdir_line end words =
    then_reads (word_of path_of end words) (λ path rest.
    then_reads (file_options mkdir_takes no_file_options rest) (λ o none.
    Reads (ask.Plain (cmd.Mkdir path (attr_of directory_mode o))) none))

-- creat: PATH, SIZE, options
abbrev pub creat_line : ℕ → List Word → Reading Ask
creat_line end words =
    then_reads (word_of path_of end words) (λ path rest.
    then_reads (word_of size_of_text end rest) (λ size rest.
    then_reads (file_options creat_takes no_file_options rest) (λ o none.
    Reads (ask.Plain (cmd.Creat path size (attr_of file_mode o) o.stripe (fill_of o.seed))) none)))

-- cp: FILE, PATH, options
abbrev pub cp_line : ℕ → List Word → Reading Ask
cp_line end words =
    then_reads (word_of file_of end words) (λ source rest.
    then_reads (word_of path_of end rest) (λ path rest.
    then_reads (file_options cp_takes no_file_options rest) (λ o none.
    Reads (ask.Cp source path (attr_of file_mode o) o.stripe) none)))

-- what verify compares with: `seed=N`, or `source=FILE`
abbrev pub against_of : List ℕ → List ℕ → Option Ask
against_of path word =
    keyed (value_behind (codes "seed=") word) (λ v. option_map (λ seed. ask.Plain (cmd.Verify path (content.Seed seed))) (number_of_text v))
    (keyed (value_behind (codes "source=") word) (λ v. option_map (λ source. ask.VerifySource path source) (file_of v)) None)

-- at most one of them; zeros without one
abbrev pub against_line : ℕ → List ℕ → List Word → Reading Ask
against_line end path [] = Reads (ask.Plain (cmd.Verify path content.Zero)) []
against_line end path (word ∷ words) = then_reads (word_of (against_of path) end (word ∷ words)) ends_with

-- verify: PATH, and at most one of these
abbrev pub verify_line : ℕ → List Word → Reading Ask
verify_line end words = then_reads (word_of path_of end words) (against_line end)

-- read: PATH, OFFSET, COUNT
abbrev pub read_cmd_line : ℕ → List Word → Reading Ask
read_cmd_line end words =
    then_reads (word_of path_of end words) (λ path rest.
    then_reads (word_of number_of_text end rest) (λ offset rest.
    then_reads (word_of count_of end rest) (λ count rest.
    ends_with (ask.Plain (cmd.Read path offset count)) rest)))

-- check: FILE
abbrev pub check_line : ℕ → List Word → Reading Ask
check_line end words = then_reads (word_of file_of end words) (λ source. ends_with (ask.Check source))

-- the words behind a command's name
abbrev pub ask_behind : ℕ → CommandWord → List Word → Reading Ask
ask_behind end command.Logplay words = ends_with (ask.Plain cmd.Logplay) words
ask_behind end command.Mount words = ends_with (ask.Plain cmd.Mount) words
ask_behind end command.Fsck words = ends_with (ask.Plain cmd.Fsck) words
ask_behind end command.Mkdir words = mkdir_line end words
ask_behind end command.Creat words = creat_line end words
ask_behind end command.Cp words = cp_line end words
ask_behind end command.Verify words = verify_line end words
ask_behind end command.Read words = read_cmd_line end words
ask_behind end command.Check words = check_line end words

-- a command: its name, and its words
unfoldable pub ask_line : ℕ → List Word → Reading Ask
ask_line end words = then_reads (word_of command_word end words) (ask_behind end)

-- Events.

-- the sizes that mkfs takes where none are given, in bytes
abbrev pub default_unit : ℕ
default_unit = 2097152

-- the bytes of a log where none are given
abbrev pub default_log : ℕ
default_log = 8388608

-- host: NAME, UUID
abbrev pub host_line : ℕ → List Word → Reading Event
host_line end words =
    then_reads (word_of name_of end words) (λ name rest.
    then_reads (word_of uuid_of end rest) (λ uuid rest.
    ends_with (event.Host name uuid) rest))

-- mkfs: NAME, UUID, options
abbrev pub mkfs_line : ℕ → List Word → Reading Event
mkfs_line end words =
    then_reads (word_of name_of end words) (λ name rest.
    then_reads (word_of uuid_of end rest) (λ fs rest.
    then_reads (mkfs_options no_mkfs_options rest) (λ o none.
    Reads (event.Mkfs name (mkfs_request fs (unwrap_or o.unit default_unit) (unwrap_or o.log default_log) (unwrap_or o.format first_number) o.force o.halt)) none)))

-- begin and run: NAME, a command
abbrev pub begin_line : ℕ → List Word → Reading Event
begin_line end words =
    then_reads (word_of name_of end words) (λ name rest.
    then_reads (ask_line end rest) (λ asked none. Reads (event.Begin name asked) none))

-- an ask that a host begins and runs to its answer
abbrev pub run_line : ℕ → List Word → Reading Event
run_line end words =
    then_reads (word_of name_of end words) (λ name rest.
    then_reads (ask_line end rest) (λ asked none. Reads (event.Run name asked) none))

-- the COUNT of step; 1 where it is missing
abbrev pub steps_line : ℕ → List ℕ → List Word → Reading Event
steps_line end name [] = Reads (event.Step name 1) []
steps_line end name (word ∷ words) =
    then_reads (word_of steps_of end (word ∷ words)) (λ count. ends_with (event.Step name count))

-- step: NAME, and COUNT or nothing
abbrev pub step_line : ℕ → List Word → Reading Event
step_line end words = then_reads (word_of name_of end words) (steps_line end)

-- finish, stop, halt and umount: NAME
abbrev pub name_line : (List ℕ → Event) → ℕ → List Word → Reading Event
name_line made end words = then_reads (word_of name_of end words) (λ name. ends_with (made name))

-- evict: NAME, LINE
abbrev pub evict_line : ℕ → List Word → Reading Event
evict_line end words =
    then_reads (word_of name_of end words) (λ name rest.
    then_reads (word_of number_of_text end rest) (λ at.
    ends_with (event.Evict name (record { 0 = at }))))

-- leak and fetch: NAME, LINE, MASK
abbrev pub leak_line : ℕ → List Word → Reading Event
leak_line end words =
    then_reads (word_of name_of end words) (λ name rest.
    then_reads (word_of number_of_text end rest) (λ at rest.
    then_reads (word_of mask_of end rest) (λ mask.
    ends_with (event.Leak name (record { 0 = at }) (record { 0 = mask })))))

-- a line of memory, and a mask: all eight words where none is given
abbrev pub fetch_line : ℕ → List Word → Reading Event
fetch_line end words =
    then_reads (word_of name_of end words) (λ name rest.
    then_reads (word_of number_of_text end rest) (λ at rest.
    then_reads (word_of mask_of end rest) (λ mask.
    ends_with (event.Fetch name (record { 0 = at }) (record { 0 = mask })))))

-- the words behind an event's name
abbrev pub event_behind : ℕ → EventWord → List Word → Reading Event
event_behind end word.Host words = host_line end words
event_behind end word.Mkfs words = mkfs_line end words
event_behind end word.Begin words = begin_line end words
event_behind end word.Run words = run_line end words
event_behind end word.Step words = step_line end words
event_behind end word.Finish words = name_line event.Finish end words
event_behind end word.Stop words = name_line event.Stop end words
event_behind end word.Halt words = name_line event.Halt end words
event_behind end word.Umount words = name_line event.Umount end words
event_behind end word.Evict words = evict_line end words
event_behind end word.Leak words = leak_line end words
event_behind end word.Fetch words = fetch_line end words

-- an event: its name, and its words
unfoldable pub event_line : ℕ → List Word → Reading Event
event_line end words = then_reads (word_of event_word end words) (event_behind end)
