-- Texts cut at a byte, and the words of a line.
use Rattle.std.specs.Prelude.{ℕ, ◌≡◌, ◌==◌, if◌then◌else◌, List, [], ◌∷◌}
use Rattle.std.specs.Fmt.{decimal}
use Rattle.fam_base.specs.declared.entry.Entry.{Entry}
use Rattle.fam_base.specs.Escapes.{escaped}
use Rattle.fam_tree.specs.Lines.{kind_letter, mode_text, map_text}
use Rattle.fam_tree.specs.declared.line_words.Words.{Words}

-- what stands in front of the first such byte; all of a text without one
abbrev pub front : ℕ → List ℕ → List ℕ
front c [] = []
front c (b ∷ bytes) = if b == c then [] else b ∷ front c bytes

-- what stands behind it; nothing of a text without one
abbrev pub back : ℕ → List ℕ → List ℕ
back c [] = []
back c (b ∷ bytes) = if b == c then bytes else back c bytes

-- words of a line that are an entry's, as they are printed
pub record AreOf (e : Entry) (words : Words) : Type 0 where
  pub kind : words.kind.now ≡ kind_letter e.kind
  pub mode : words.mode.now ≡ mode_text e.mode
  pub uid : words.uid.now ≡ decimal e.uid
  pub gid : words.gid.now ≡ decimal e.gid
  pub size : words.size.now ≡ decimal e.size
  pub map : words.map.now ≡ map_text e.map e.extents
  pub path : words.path.now ≡ escaped e.path
