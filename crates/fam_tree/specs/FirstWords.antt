-- The words of a line in front of its path.
use Rattle.std.specs.Prelude.{ℕ, ◌≡◌, ⊤, List, [], ◌∷◌, ◌++◌, Option, Some, None}
use Rattle.std.specs.Fmt.{decimal}
use Rattle.fam_base.specs.declared.entry.Entry.{Entry}
use Rattle.fam_base.specs.declared.entry.MapKind.TheVariants.{Empty}
use Rattle.fam_tree.specs.Lines.{kind_letter, map_text, mode_text, space}
use Rattle.fam_tree.specs.declared.lines.Told.{Told}

-- all words of a line but the last one, each with a space behind it
unfoldable pub first_words : Entry → List ℕ
first_words e =
    kind_letter e.kind ++ space ∷ (mode_text e.mode ++ space ∷ (decimal e.uid ++ space ∷ (decimal e.gid ++ space ∷ (decimal e.size
    ++ space ∷ (map_text e.map e.extents ++ space ∷ [])))))

-- an entry without a map of which the words tell this
pub record IsToldBy (e : Entry) (told : Told) : Type 0 where
  pub kind : told.kind ≡ e.kind
  pub size : told.size ≡ e.size
  pub mode : told.mode ≡ e.mode
  pub uid : told.uid ≡ e.uid
  pub gid : told.gid ≡ e.gid
  pub map : e.map ≡ Empty

-- the bytes of the words that tell this, where anything is told
abbrev pub AreTold : Option Told → List ℕ → Type 0
AreTold None bytes = ⊤
AreTold (Some told) bytes = (e : Entry) → IsToldBy e told → bytes ≡ first_words e
