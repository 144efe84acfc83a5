-- Which commands a host may be told.
use Rattle.std.specs.Prelude.{ℕ, ◌≤◌, ⊤, List, map}
use Rattle.std.specs.List.Sorted.{IsStrictlySortedBy}
use Rattle.fam_base.specs.declared.cmd.Attr.{Attr}
use Rattle.fam_base.specs.declared.cmd.Cmd.{Cmd}
use Rattle.fam_base.specs.declared.cmd.Cmd.TheVariants.{Logplay, Mount, Mkdir, Creat, Cp, Verify, Read, Check, Fsck}
use Rattle.fam_base.specs.declared.entry.Entry.{Entry}
use Rattle.fam_base.specs.PathOrder.{path_cmp}

-- the greatest mode: four octal digits
abbrev pub mode_limit : ℕ
mode_limit = 4095

-- the most bytes that one `Read` asks for
abbrev pub read_limit : ℕ
read_limit = 4096

-- entries whose paths are distinct and in byte order
abbrev pub IsListing : List Entry → Type 0
IsListing entries = IsStrictlySortedBy path_cmp (map (λ (e : Entry). e.path) entries)

-- a mode of at most four octal digits
abbrev pub IsSoundAttr : Attr → Type 0
IsSoundAttr attr = attr.mode ≤ mode_limit

-- a command whose mode, count and listing are within these limits
abbrev pub IsSoundCmd : Cmd → Type 0
IsSoundCmd Logplay = ⊤
IsSoundCmd Mount = ⊤
IsSoundCmd (Mkdir path attr) = IsSoundAttr attr
IsSoundCmd (Creat path size attr stripe fill) = IsSoundAttr attr
IsSoundCmd (Cp path attr stripe bytes) = IsSoundAttr attr
IsSoundCmd (Verify path against) = ⊤
IsSoundCmd (Read path offset count) = count ≤ read_limit
IsSoundCmd (Check listing) = IsListing listing
IsSoundCmd Fsck = ⊤
