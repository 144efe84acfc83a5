-- A media of which some lines are poisoned: each access to such a line fails.
use Rattle.std.specs.Prelude.{ℕ, ◌≡◌, ◌==◌, not, Bool, true, false, List, [], filter, is_err, Result}
use Rattle.std.specs.List.{list_any}
use Rattle.fam_media.specs.Plans.{count_if}

-- the media within, the lines that are poisoned, and how often a call failed
pub record FrailState (M : Type 0) : Type 0 where
  pub media : M
  pub poisoned : List ℕ
  pub faults : ℕ

-- no line of it is poisoned, and no call failed
abbrev pub unharmed : {M : Type 0} → M → FrailState M
unharmed media = record { media = media; poisoned = []; faults = 0 }

-- a line is poisoned
abbrev pub is_poisoned : {M : Type 0} → FrailState M → ℕ → Bool
is_poisoned frail line = list_any (λ l. l == line) frail.poisoned

-- the lines without this one
abbrev pub healed : ℕ → List ℕ → List ℕ
healed line lines = filter (λ l. not (l == line)) lines

-- after a call that gave this: the media within may be another one, and where the call failed that counts
abbrev pub after_result : {M T E : Type 0} → FrailState M → M → Result T E → FrailState M
after_result frail media result = record frail { media = media; faults = count_if (is_err result) frail.faults }

-- what a call of a line does, by what that of the media within does: a poisoned line fails, and the media within isn't asked; any
-- other call is the one call of the media within. The count rises at each failure of either kind
pub record IsFrail {M : Type 0} (within : M → Bool → M → Type 0) (frail : FrailState M) (line : ℕ) (failed : Bool) (new : FrailState M) : Type 0 where
  pub poisoned : is_poisoned frail line ≡ true → (failed ≡ true) × (new.media ≡ frail.media)
  pub inner : is_poisoned frail line ≡ false → within frail.media failed new.media
  pub stays : new.poisoned ≡ frail.poisoned
  pub count : new.faults ≡ count_if failed frail.faults

-- of a read
abbrev pub frail_reads : {M : Type 0} → (M → ℕ → Bool → M → Type 0) → FrailState M → ℕ → Bool → FrailState M → Type 0
frail_reads reads frail line failed new = IsFrail (λ old. λ ended. λ now. reads old line ended now) frail line failed new

-- and of a write of such words
abbrev pub frail_writes : {M : Type 0} → (M → ℕ → List ℕ → Bool → M → Type 0) → FrailState M → ℕ → List ℕ → Bool → FrailState M → Type 0
frail_writes writes frail line words failed new = IsFrail (λ old. λ ended. λ now. writes old line words ended now) frail line failed new
