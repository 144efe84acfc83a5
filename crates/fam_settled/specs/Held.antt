-- A content of given bytes.
use Rattle.std.specs.Prelude.{ℕ, ◌≡◌, List, []}
use Rattle.fam_base.specs.declared.cmd.Content.{Content}
use Rattle.fam_base.specs.declared.cmd.Content.TheVariants.{Zero, Seed, Bytes}

-- the bytes that are given, none of another content
abbrev pub given_bytes : Content → List ℕ
given_bytes Zero = []
given_bytes (Seed seed) = []
given_bytes (Bytes bytes) = bytes

-- all are given, as far as there are any
abbrev pub AreGiven : Content → Type 0
AreGiven content = content ≡ Bytes (given_bytes content)
