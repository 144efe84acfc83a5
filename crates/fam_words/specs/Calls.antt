-- Which words are a command, and which one. docs/MANUAL.md.
use Rattle.std.specs.Prelude.{ℕ, ◌≤◌, ⊤, Bool, true, false, if◌then◌else◌, List, [], ◌∷◌, codes, Option, Some, None, option_map, option_and_then, IfSome}
use Rattle.std.specs.Str.{bytes_eq}
use Rattle.clap.specs.Simple.{App}
use Rattle.clap.specs.Walk.{Row, Text}
use Rattle.uuid.specs.Text.{parsed}
use Rattle.fam_base.specs.declared.cmd.Attr.{Attr}
use Rattle.fam_base.specs.declared.cmd.Cmd.TheVariants as cmd
use Rattle.fam_base.specs.declared.cmd.Content.TheVariants as content
use Rattle.fam_base.specs.declared.cmd.Stripe.{Stripe}
use Rattle.fam_base.specs.Commands.{IsSoundAttr}
use Rattle.fam_format.specs.Params.{IsUuid, first_number}
use Rattle.fam_grammar.specs.Lines.{default_log, default_unit, directory_mode, file_mode, fill_of}
use Rattle.fam_grammar.specs.Numbers.{number_of_text, size_of_text}
use Rattle.fam_grammar.specs.Spellings.{count_of, format_of}
use Rattle.fam_journal.specs.declared.event.Ask.{Ask}
use Rattle.fam_journal.specs.declared.event.Ask.TheVariants as ask
use Rattle.fam_grammar.specs.Sound.{IsSoundAsk}
use Rattle.fam_words.specs.declared.wanted.Call.{Call}
use Rattle.fam_words.specs.declared.wanted.Invocation.{Invocation}
use Rattle.fam_words.specs.declared.wanted.Invocation.TheVariants as invocation
use Rattle.fam_words.specs.declared.wanted.Shot.{Shot}
use Rattle.fam_words.specs.declared.wanted.Shot.TheVariants as shot
use Rattle.fam_words.specs.declared.invocations.Name.{Name}
use Rattle.fam_words.specs.declared.invocations.Name.TheVariants as name
use Rattle.fam_words.specs.Apps.{mkfs_app, logplay_app, mkdir_app, creat_app, cp_app, verify_app, read_app, check_app, fsck_app, script_app, storm_app}
use Rattle.fam_words.specs.Simple.{flag_in, rows_given, value_in}
use Rattle.fam_words.specs.Values.{IsFormat, attr_of_texts, if_given, most_storm, name_of_text, needed, or_default, path_of_text, storm_size_of, stripe_of_texts}

-- What each command makes of its values: None where one of them isn't spelled as it should be.

-- a mkfs with these values, where each is good
abbrev pub mkfs_with : Option ℕ → Option ℕ → Option ℕ → Option (Option (List ℕ)) → Bool → Option Shot
mkfs_with None log format fs force = None
mkfs_with (Some unit) None format fs force = None
mkfs_with (Some unit) (Some log) None fs force = None
mkfs_with (Some unit) (Some log) (Some format) None force = None
mkfs_with (Some unit) (Some log) (Some format) (Some fs) force = Some (shot.Mkfs fs unit log format force)

-- the mkfs that its words ask for
unfoldable pub mkfs_shot : List Row → Option Shot
mkfs_shot rows =
    mkfs_with (or_default default_unit size_of_text (value_in (codes "unit") rows))
    (or_default default_log size_of_text (value_in (codes "loglen") rows))
    (or_default first_number format_of (value_in (codes "format") rows))
    (if_given parsed (value_in (codes "uuid") rows))
    (flag_in (codes "force") rows)

-- -m, -u and -g among the words
unfoldable pub attr_in : ℕ → List Row → Option Attr
attr_in default rows =
    attr_of_texts default (value_in (codes "mode") rows) (value_in (codes "uid") rows) (value_in (codes "gid") rows)

-- -N, -B and -C among the words
unfoldable pub stripe_in : List Row → Option (Option Stripe)
stripe_in rows =
    stripe_of_texts (value_in (codes "nstrips") rows) (value_in (codes "nbuckets") rows) (value_in (codes "chunksize") rows)

-- PATH among the words
unfoldable pub path_in : List Row → Option (List ℕ)
path_in rows = needed path_of_text (value_in (codes "path") rows)

-- with -p all directories along the path are made
abbrev pub mkdir_by : Bool → List ℕ → Attr → Shot
mkdir_by true path attr = shot.Parents path attr
mkdir_by false path attr = shot.Run (ask.Plain (cmd.Mkdir path attr))

-- a mkdir with these values, where each is good: along the path, or of its last name alone
abbrev pub mkdir_with : Bool → Option (List ℕ) → Option Attr → Option Shot
mkdir_with parents None attr = None
mkdir_with parents (Some path) None = None
mkdir_with parents (Some path) (Some attr) = Some (mkdir_by parents path attr)

-- the mkdir that its words ask for
unfoldable pub mkdir_shot : List Row → Option Shot
mkdir_shot rows = mkdir_with (flag_in (codes "parents") rows) (path_in rows) (attr_in directory_mode rows)

-- a creat with these values, where each is good
abbrev pub creat_with : Option (List ℕ) → Option ℕ → Option Attr → Option (Option Stripe) → Option (Option ℕ) → Option Shot
creat_with None size attr stripe seed = None
creat_with (Some path) None attr stripe seed = None
creat_with (Some path) (Some size) None stripe seed = None
creat_with (Some path) (Some size) (Some attr) None seed = None
creat_with (Some path) (Some size) (Some attr) (Some stripe) None = None
creat_with (Some path) (Some size) (Some attr) (Some stripe) (Some seed) =
    Some (shot.Run (ask.Plain (cmd.Creat path size attr stripe (fill_of seed))))

-- the creat that its words ask for
unfoldable pub creat_shot : List Row → Option Shot
creat_shot rows =
    creat_with (path_in rows) (needed size_of_text (value_in (codes "size") rows)) (attr_in file_mode rows) (stripe_in rows)
    (if_given number_of_text (value_in (codes "seed") rows))

-- a cp with these values, where each is good
abbrev pub cp_with : Option (List ℕ) → Option (List ℕ) → Option Attr → Option (Option Stripe) → Option Shot
cp_with None path attr stripe = None
cp_with (Some source) None attr stripe = None
cp_with (Some source) (Some path) None stripe = None
cp_with (Some source) (Some path) (Some attr) None = None
cp_with (Some source) (Some path) (Some attr) (Some stripe) = Some (shot.Run (ask.Cp source path attr stripe))

-- the cp that its words ask for
unfoldable pub cp_shot : List Row → Option Shot
cp_shot rows =
    cp_with (needed name_of_text (value_in (codes "source") rows)) (path_in rows) (attr_in file_mode rows) (stripe_in rows)

-- what a file is compared with: the bytes of a seed, or those of a file, but not both; zeros without either
abbrev pub against_texts : List ℕ → Option Text → Option Text → Option Ask
against_texts path None None = Some (ask.Plain (cmd.Verify path content.Zero))
against_texts path (Some seed) None = option_map (λ n. ask.Plain (cmd.Verify path (content.Seed n))) (number_of_text seed)
against_texts path None (Some source) = option_map (λ file. ask.VerifySource path file) (name_of_text source)
against_texts path (Some seed) (Some source) = None

-- the verify that its words ask for
unfoldable pub verify_shot : List Row → Option Shot
verify_shot rows =
    option_and_then
    (λ path. option_map (λ asked. shot.Run asked) (against_texts path (value_in (codes "seed") rows) (value_in (codes "source") rows)))
    (path_in rows)

-- a read with these values, where each is good
abbrev pub read_with : Option (List ℕ) → Option ℕ → Option ℕ → Option Shot
read_with None offset count = None
read_with (Some path) None count = None
read_with (Some path) (Some offset) None = None
read_with (Some path) (Some offset) (Some count) = Some (shot.Run (ask.Plain (cmd.Read path offset count)))

-- the read that its words ask for
unfoldable pub read_shot : List Row → Option Shot
read_shot rows =
    read_with (path_in rows) (needed number_of_text (value_in (codes "offset") rows)) (needed count_of (value_in (codes "count") rows))

-- the check that its words ask for
unfoldable pub check_shot : List Row → Option Shot
check_shot rows = option_map (λ source. shot.Run (ask.Check source)) (needed name_of_text (value_in (codes "listing") rows))

-- a storm with these values, where each is good
abbrev pub storm_with : Option ℕ → Option ℕ → Bool → Option Invocation
storm_with None size prints = None
storm_with (Some seed) None prints = None
storm_with (Some seed) (Some size) prints = Some (invocation.Storm seed size prints)

-- the storm that its words ask for
unfoldable pub storm_invocation : List Row → Option Invocation
storm_invocation rows =
    storm_with (needed number_of_text (value_in (codes "seed") rows)) (needed storm_size_of (value_in (codes "size") rows))
    (flag_in (codes "print") rows)

-- the script that its words ask for
unfoldable pub script_invocation : List Row → Option Invocation
script_invocation rows = option_map (λ file. invocation.Script file) (needed name_of_text (value_in (codes "file") rows))

-- Calls.

-- an invocation for the image of this name
abbrev pub call_with : Option Text → Option Invocation → Option Call
call_with None what = None
call_with (Some image) None = None
call_with (Some image) (Some what) = Some (record { image = image; invocation = what })

-- an invocation on IMAGE
abbrev pub invocation_call : List Row → Option Invocation → Option Call
invocation_call rows what = call_with (value_in (codes "image") rows) what

-- --system
abbrev pub system_of : Option Text → Option (Option (List ℕ))
system_of text = if_given parsed text

-- a command of its own, where its host and what it does are good
abbrev pub single_with : Option (Option (List ℕ)) → Option Shot → Option Invocation
single_with None what = None
single_with (Some system) None = None
single_with (Some system) (Some what) = Some (invocation.Single system what)

-- a command of its own, on the host of --system
abbrev pub single_invocation : List Row → Option Shot → Option Invocation
single_invocation rows what = single_with (system_of (value_in (codes "system") rows)) what

-- the words of a command, as clap reads them
abbrev pub app_named : Name → App
app_named name.Mkfs = mkfs_app
app_named name.Logplay = logplay_app
app_named name.Mkdir = mkdir_app
app_named name.Creat = creat_app
app_named name.Cp = cp_app
app_named name.Verify = verify_app
app_named name.Read = read_app
app_named name.Check = check_app
app_named name.Fsck = fsck_app
app_named name.Script = script_app
app_named name.Storm = storm_app

-- what the values of a command's words ask for
abbrev pub invocation_in : Name → List Row → Option Invocation
invocation_in name.Mkfs rows = single_invocation rows (mkfs_shot rows)
invocation_in name.Logplay rows = single_invocation rows (Some (shot.Run (ask.Plain cmd.Logplay)))
invocation_in name.Mkdir rows = single_invocation rows (mkdir_shot rows)
invocation_in name.Creat rows = single_invocation rows (creat_shot rows)
invocation_in name.Cp rows = single_invocation rows (cp_shot rows)
invocation_in name.Verify rows = single_invocation rows (verify_shot rows)
invocation_in name.Read rows = single_invocation rows (read_shot rows)
invocation_in name.Check rows = single_invocation rows (check_shot rows)
invocation_in name.Fsck rows = single_invocation rows (Some (shot.Run (ask.Plain cmd.Fsck)))
invocation_in name.Script rows = script_invocation rows
invocation_in name.Storm rows = storm_invocation rows

-- the words behind a command's name: none where clap names a fault
abbrev pub call_behind : Name → List Text → Option Call
call_behind which words = option_and_then (λ rows. invocation_call rows (invocation_in which rows)) (rows_given (app_named which) words)

-- the commands' names
unfoldable pub name_of : Text → Option Name
name_of word =
    if bytes_eq word (codes "mkfs") then Some name.Mkfs
    else if bytes_eq word (codes "logplay") then Some name.Logplay
    else if bytes_eq word (codes "mkdir") then Some name.Mkdir
    else if bytes_eq word (codes "creat") then Some name.Creat
    else if bytes_eq word (codes "cp") then Some name.Cp
    else if bytes_eq word (codes "verify") then Some name.Verify
    else if bytes_eq word (codes "read") then Some name.Read
    else if bytes_eq word (codes "check") then Some name.Check
    else if bytes_eq word (codes "fsck") then Some name.Fsck
    else if bytes_eq word (codes "script") then Some name.Script
    else if bytes_eq word (codes "storm") then Some name.Storm
    else None

-- a command's name, and the words that belong to it
unfoldable pub call_of : List Text → Option Call
call_of [] = None
call_of (first ∷ words) = option_and_then (λ which. call_behind which words) (name_of first)

-- What the words give is within its limits.

-- its ask is within its limits, and a file system is made in a format that there is
abbrev pub IsSoundShot : Shot → Type 0
IsSoundShot (shot.Mkfs fs unit log format force) = IsFormat format
IsSoundShot (shot.Run what) = IsSoundAsk what
IsSoundShot (shot.Parents path attr) = IsSoundAttr attr

-- the command on its own that is invoked is within its limits
abbrev pub IsSoundInvocation : Invocation → Type 0
IsSoundInvocation (invocation.Single system what) = IsSoundShot what
IsSoundInvocation (invocation.Script file) = ⊤
IsSoundInvocation (invocation.Storm seed size prints) = (1 ≤ size) × (size ≤ most_storm)

-- The UUIDs that the words give are UUIDs, and formats are such.

-- those of a new file system: its UUID, where one is given, and its format
abbrev pub HasShotUuids : Shot → Type 0
HasShotUuids (shot.Mkfs fs unit log format force) = IfSome fs IsUuid × IsFormat format
HasShotUuids (shot.Run what) = ⊤
HasShotUuids (shot.Parents path attr) = ⊤

-- and the host's, where one is given
abbrev pub HasUuids : Invocation → Type 0
HasUuids (invocation.Single system what) = IfSome system IsUuid × HasShotUuids what
HasUuids (invocation.Script file) = ⊤
HasUuids (invocation.Storm seed size prints) = ⊤
