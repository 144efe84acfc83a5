-- The bytes of a file, by where they are from.
use Rattle.std.specs.Prelude.{ℕ, ◌≡◌, ◌⊎◌, ◌+◌, ◌<◌, List, length, replicate, slice_index, Option, Some, None}
use Rattle.fam_base.specs.declared.cmd.Content.{Content}
use Rattle.fam_base.specs.declared.cmd.Content.TheVariants as content
use Rattle.fam_base.specs.declared.entry.Entry.{Entry}
use Rattle.fam_rules.specs.Asks.{File}
use Rattle.fam_rules.specs.Content.{content_byte, fill}
use Rattle.fam_judge.specs.Untold.{untold}
use Rattle.fam_settled.specs.declared.bytes.Bytes.{Bytes}
use Rattle.fam_settled.specs.declared.bytes.Bytes.TheVariants.{Zero, Seed, Held, Untold}

-- byte i, whatever the size
abbrev pub byte_told : Bytes → ℕ → ℕ
byte_told Zero i = content_byte content.Zero i
byte_told (Seed seed) i = content_byte (content.Seed seed) i
byte_told (Held bytes) i = content_byte (content.Bytes bytes) i
byte_told Untold i = untold

-- all bytes of a file of this size; where fewer are held, zeros stand behind them
abbrev pub file_bytes_told : Bytes → ℕ → List ℕ
file_bytes_told Zero size = fill content.Zero size
file_bytes_told (Seed seed) size = fill (content.Seed seed) size
file_bytes_told (Held bytes) size = fill (content.Bytes bytes) size
file_bytes_told Untold size = replicate size untold

-- an entry with these bytes
abbrev pub file_with : Entry → Bytes → File
file_with e bytes = record { entry = e; bytes = file_bytes_told bytes e.size }

-- at offset i bytes of the two may be the same
abbrev pub MayAgreeAt : Bytes → Bytes → ℕ → Type 0
MayAgreeAt a b i = (byte_told a i ≡ byte_told b i) ⊎ (byte_told a i ≡ untold) ⊎ (byte_told b i ≡ untold)

-- so it is below this offset
abbrev pub MayAgreeTo : Bytes → Bytes → ℕ → Type 0
MayAgreeTo a b end = (i : ℕ) → i < end → MayAgreeAt a b i

-- these may be bytes from an offset on
abbrev pub MayHave : Bytes → ℕ → List ℕ → Type 0
MayHave b offset given =
    (i : ℕ) → i < length given → (byte_told b (offset + i) ≡ slice_index given i) ⊎ (byte_told b (offset + i) ≡ untold)

-- the content that they are, where they are told
abbrev pub content_told : Bytes → Option Content
content_told Zero = Some content.Zero
content_told (Seed seed) = Some (content.Seed seed)
content_told (Held bytes) = Some (content.Bytes bytes)
content_told Untold = None
