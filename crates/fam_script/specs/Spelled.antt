-- Commands that a line of a script can spell: those without given bytes or a listing, whose numbers fit their words. No
-- line spells a mount.
use Rattle.std.specs.Prelude.{ℕ, ⊤, ◌^◌, ◌<◌, ◌≤◌, Option, Some, None, IsTrue}
use Rattle.fam_base.specs.declared.cmd.Attr.{Attr}
use Rattle.fam_base.specs.declared.cmd.Cmd.{Cmd}
use Rattle.fam_base.specs.declared.cmd.Cmd.TheVariants.{Logplay, Mount, Mkdir, Creat, Cp, Verify, Read, Check, Fsck}
use Rattle.fam_base.specs.declared.cmd.Content.{Content}
use Rattle.fam_base.specs.declared.cmd.Content.TheVariants.{Zero, Seed, Bytes}
use Rattle.fam_base.specs.declared.cmd.Stripe.{Stripe}
use Rattle.fam_base.specs.Commands.{mode_limit, read_limit}
use Rattle.fam_base.specs.Paths.{is_path}

-- a number of 64 bits
abbrev pub IsWord64 : ℕ → Type 0
IsWord64 n = n < 2 ^ 64

-- a mode of four octal digits, and ids of 32 bits
pub record IsSpelledAttr (attr : Attr) : Type 0 where
  pub mode : attr.mode ≤ mode_limit
  pub uid : attr.uid < 2 ^ 32
  pub gid : attr.gid < 2 ^ 32

-- three numbers of 64 bits, or none
abbrev pub IsSpelledStripe : Option Stripe → Type 0
IsSpelledStripe None = ⊤
IsSpelledStripe (Some s) = IsWord64 s.nstrips × IsWord64 s.nbuckets × IsWord64 s.chunk

-- zeros, or a seed
abbrev pub IsSpelledContent : Content → Type 0
IsSpelledContent Zero = ⊤
IsSpelledContent (Seed seed) = IsWord64 seed
IsSpelledContent (Bytes bytes) = ⊥

-- a line of a script can spell the command
abbrev pub HasSpelling : Cmd → Type 0
HasSpelling Logplay = ⊤
HasSpelling Mount = ⊥
HasSpelling Fsck = ⊤
HasSpelling (Mkdir path attr) = IsTrue (is_path path) × IsSpelledAttr attr
HasSpelling (Creat path size attr stripe fill) =
    IsTrue (is_path path) × IsWord64 size × IsSpelledAttr attr × IsSpelledStripe stripe × IsSpelledContent fill
HasSpelling (Cp path attr stripe bytes) = ⊥
HasSpelling (Verify path against) = IsTrue (is_path path) × IsSpelledContent against
HasSpelling (Read path offset count) = IsTrue (is_path path) × IsWord64 offset × (count ≤ read_limit)
HasSpelling (Check listing) = ⊥
