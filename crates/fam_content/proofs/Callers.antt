-- What the calls of `place` have to show, and what they may say.
use Rattle.std.proofs.Common.{◌≡◌, ℕ, ◌+◌, ◌*◌, ◌/◌, ◌^◌, ◌<◌, length, sym, ap, subst, ◌∙◌, arith}
use Rattle.std.proofs.Math.Nat.{div-mul-le_self}
use Rattle.fam_base.specs.declared.entry.Params.{Params}
use Rattle.fam_base.specs.declared.entry.Entry.{Entry}
use Rattle.fam_base.specs.declared.entry.MapKind.{MapKind}
use Rattle.fam_base.specs.declared.entry.MapKind.TheVariants.{Striped}
use Rattle.fam_format.specs.Params.{SoundParams}
use Rattle.fam_format.specs.Slot.{Proper}
use Rattle.fam_format.specs.Units.{units_in}
use Rattle.fam_format.proofs.EntryLawsProofs.{proper_fits}
use Rattle.fam_rules.specs.Place.{line_bytes, place_by, place, IsProperEntry, IsIn, IsOnce}
use Rattle.fam_rules.proofs.FilePlaces.{HasMap, is_simple, is_dealt, has_map, place_in, place_before, place_once, line_place}

-- the place of a byte is below the limit of a device
place_fits : (e : Entry) (o : ℕ) → IsProperEntry e → o < e.size → place e o < 2 ^ 64
place_fits e o file below = omega (arith, place_before file.params e o file.sound file.proper below, div-mul-le_self file.params.device file.params.unit, file.sound.device)

-- the place by the map that a match found
pub by_kind : (e : Entry) (m : MapKind) (o : ℕ) → e.map ≡ m → place_by e.extents m o ≡ place e o
unfolding place
by_kind e m o is = ap (λ (k : MapKind). place_by e.extents k o) (sym is)

-- it fits
pub by_kind_fits : (e : Entry) (m : MapKind) (o : ℕ) → e.map ≡ m → IsProperEntry e → o < e.size → place_by e.extents m o < 2 ^ 64
by_kind_fits e m o is file below = omega (arith, by_kind e m o is, place_fits e o file below)

-- a striped file has strips, and its chunks have bytes
dealt_by : (e : Entry) (chunk : ℕ) (file : IsProperEntry e) → e.map ≡ Striped chunk → HasMap file.params e → (0 < length e.extents) × (0 < chunk)
dealt_by e chunk file is (is_simple simple) = absurd (let map = simple.map in cc)
dealt_by e chunk file is (is_dealt other dealt) =
    let same : other ≡ chunk = let map = dealt.map in cc in
    (dealt.some, subst (λ (n : ℕ). 0 < n) same dealt.chunk_some)

-- so it is for a file with bytes
pub dealt_some : (e : Entry) (chunk o : ℕ) → e.map ≡ Striped chunk → IsProperEntry e → o < e.size → (0 < length e.extents) × (0 < chunk)
dealt_some e chunk o is file below = dealt_by e chunk file is (has_map file.params e file.sound file.proper (omega arith))

-- What a call of `place` may say.

-- the byte lies in one of the extents
pub lies_in : (e : Entry) (o b : ℕ) → b ≡ place e o → IsProperEntry e → o < e.size → IsIn e.extents b
lies_in e o b is file below = subst (IsIn e.extents) (sym is) (place_in file.params e o file.sound file.proper below)

-- and is no other byte of the file
pub no_other : (e : Entry) (o b : ℕ) → b ≡ place e o → o < e.size → (p : Params) (other : ℕ) → SoundParams p → Proper p e
    → IsOnce (units_in p.unit e.extents) → other < e.size → place e other ≡ b → other ≡ o
no_other e o b is below p other sound proper once other_below same = place_once p e other o sound proper once other_below below (same ∙ is)

-- the byte of a place is a line's first, and the line's others follow it
pub line_follows : (e : Entry) (j at : ℕ) → at ≡ place e (line_bytes * j) → IsProperEntry e → line_bytes * j < e.size → (b : ℕ) → b < line_bytes
    → place e (line_bytes * j + b) ≡ line_bytes * (at / line_bytes) + b
line_follows e j at is file below b within =
    line_place file.params e j b file.sound file.proper below within ∙ ap (λ (n : ℕ). line_bytes * (n / line_bytes) + b) (sym is)

-- the numbers of a proper entry fit words
pub size_fits : (e : Entry) → IsProperEntry e → e.size < 2 ^ 64
size_fits e file = (proper_fits file.params e file.sound file.proper).size
