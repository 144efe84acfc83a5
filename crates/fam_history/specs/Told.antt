-- What a journal's text tells of a command: all of it, but of bytes that come from a source, and of a listing, how many there
-- are. Commands that tell the same are the same but for bytes.
use Rattle.std.specs.Prelude.{ℕ, ⊤, ◌≡◌, ◌^◌, ◌<◌, ◌≤◌, IsTrue, List, ◌++◌, codes, length, Option, Some, None}
use Rattle.std.specs.Fmt.{decimal}
use Rattle.fam_base.specs.declared.cmd.Attr.{Attr}
use Rattle.fam_base.specs.declared.cmd.Cmd.{Cmd}
use Rattle.fam_base.specs.declared.cmd.Cmd.TheVariants.{Logplay, Mount, Mkdir, Creat, Cp, Verify, Read, Check, Fsck}
use Rattle.fam_base.specs.declared.cmd.Content.{Content}
use Rattle.fam_base.specs.declared.cmd.Content.TheVariants as content
use Rattle.fam_base.specs.declared.cmd.Stripe.{Stripe}
use Rattle.fam_base.specs.Commands.{mode_limit, read_limit}
use Rattle.fam_base.specs.Paths.{is_path}
use Rattle.fam_outcomes.specs.Texts.{attr_text, cmd_text, name_text, number, stripe_text}
use Rattle.fam_history.specs.declared.command.ToldCommand.{ToldCommand}
use Rattle.fam_history.specs.declared.command.ToldCommand.TheVariants as told

-- what is told of a verify
abbrev pub verify_of : List ℕ → Content → ToldCommand
verify_of path content.Zero = told.Plain (Verify path content.Zero)
verify_of path (content.Seed seed) = told.Plain (Verify path (content.Seed seed))
verify_of path (content.Bytes bytes) = told.VerifySource path (length bytes)

-- what is told of a command
abbrev pub told_of_command : Cmd → ToldCommand
told_of_command Logplay = told.Plain Logplay
told_of_command Mount = told.Plain Mount
told_of_command Fsck = told.Plain Fsck
told_of_command (Mkdir path attr) = told.Plain (Mkdir path attr)
told_of_command (Creat path size attr stripe fill) = told.Plain (Creat path size attr stripe fill)
told_of_command (Cp path attr stripe bytes) = told.Cp path (length bytes) attr stripe
told_of_command (Verify path against) = verify_of path against
told_of_command (Read path offset count) = told.Plain (Read path offset count)
told_of_command (Check entries) = told.Check (length entries)

-- two commands are the same but for bytes
abbrev pub AreAlikeCommands : Cmd → Cmd → Type 0
AreAlikeCommands a b = told_of_command a ≡ told_of_command b

-- the text of what is told
abbrev pub told_text : ToldCommand → List ℕ
told_text (told.Plain cmd) = cmd_text cmd
told_text (told.Cp path size attr stripe) = codes "cp" ++ name_text path ++ number size ++ attr_text attr ++ stripe_text stripe
told_text (told.VerifySource path count) = codes "verify" ++ name_text path ++ (codes " bytes=" ++ decimal count)
told_text (told.Check count) = codes "check" ++ number count

-- Commands whose numbers are those of the code's types.

-- mode, user and group
pub record IsTellingAttr (attr : Attr) : Type 0 where
  pub mode : attr.mode ≤ mode_limit
  pub uid : attr.uid < 2 ^ 32
  pub gid : attr.gid < 2 ^ 32

-- a stripe of such numbers
pub record IsTellingStripe (s : Stripe) : Type 0 where
  pub nstrips : s.nstrips < 2 ^ 64
  pub nbuckets : s.nbuckets < 2 ^ 64
  pub chunk : s.chunk < 2 ^ 64

-- so it is where there is one
abbrev pub IfTellingStripe : Option Stripe → Type 0
IfTellingStripe None = ⊤
IfTellingStripe (Some s) = IsTellingStripe s

-- a seed of 64 bits, or so many bytes
abbrev pub IsTellingContent : Content → Type 0
IsTellingContent content.Zero = ⊤
IsTellingContent (content.Seed seed) = seed < 2 ^ 64
IsTellingContent (content.Bytes bytes) = length bytes < 2 ^ 64

-- zeros, or a seed of 64 bits: a creat has no bytes of a source
abbrev pub IsTellingFill : Content → Type 0
IsTellingFill content.Zero = ⊤
IsTellingFill (content.Seed seed) = seed < 2 ^ 64
IsTellingFill (content.Bytes bytes) = ⊥

-- a command of such numbers, whose path is one
abbrev pub IsTelling : Cmd → Type 0
IsTelling Logplay = ⊤
IsTelling Mount = ⊤
IsTelling Fsck = ⊤
IsTelling (Mkdir path attr) = IsTrue (is_path path) × IsTellingAttr attr
IsTelling (Creat path size attr stripe fill) = IsTrue (is_path path) × (size < 2 ^ 64) × IsTellingAttr attr × IfTellingStripe stripe × IsTellingFill fill
IsTelling (Cp path attr stripe bytes) = IsTrue (is_path path) × (length bytes < 2 ^ 64) × IsTellingAttr attr × IfTellingStripe stripe
IsTelling (Verify path against) = IsTrue (is_path path) × IsTellingContent against
IsTelling (Read path offset count) = IsTrue (is_path path) × (offset < 2 ^ 64) × (count ≤ read_limit)
IsTelling (Check entries) = length entries < 2 ^ 64
