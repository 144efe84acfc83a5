-- Files whose size is told, and places that are filled with their bytes.
use Rattle.std.proofs.Common.{◌≡◌, ℕ, ◌+◌, ◌≤◌, List, ◌++◌, length, take, drop, Option, Some, None, option_map, refl, sym, ap, ap₂, ◌∙◌, le_refl, drop_at, length-take-le}
use Rattle.std.proofs.lemmas.Slice.{take-put_mid_below}
use borrow.Rule.Slice.PartMut.{put_mid, post_of}
use lib.Seq.{take-add, take-append-le}

-- a file whose size is told is there
pub holds_of : (held : Option (List ℕ)) (size : ℕ) → Some size ≡ option_map length held → (bytes : List ℕ) × (held ≡ Some bytes) × (size ≡ length bytes)
holds_of None size is = absurd cc
holds_of (Some bytes) size is = (bytes, refl, cc)

-- behind the file's first bytes its next ones are read
pub next_filled : (got room count : ℕ) (into part file : List ℕ) → got ≤ length into → count ≤ length part → take got into ≡ take got file → take count part ≡ take count (drop got file)
    → take (got + count) (put_mid got room into part) ≡ take (got + count) file
next_filled got room count into part file within fits front next =
    let rest : take count (drop got (put_mid got room into part)) ≡ take count (drop got file) =
    ap (take count) (drop_at (take got into) (part ++ post_of got room into) got (length-take-le got into within)) ∙ take-append-le count part (post_of got room into) fits ∙ next in
    take-add got count (put_mid got room into part)
    ∙ ap₂ (λ (x y : List ℕ). x ++ y) (take-put_mid_below got room into part got (le_refl got) within ∙ front) rest
    ∙ sym (take-add got count file)
