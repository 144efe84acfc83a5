-- Lines that are read or written one behind another.
use Rattle.std.specs.Prelude.{ℕ, zero, suc, ◌≡◌, ◌+◌, ◌<◌, Bool, true, false, List, [], Option, Result, Ok, Err, slice_index_or}
use Rattle.std.specs.Option.{option_map}
use Rattle.fam_base.specs.Image.{Image, eight, line_at, with_line}
use Rattle.fam_media.specs.Outside.{IsTorn}
use Rattle.fam_media.specs.declared.media.RunFailed.{RunFailed}

-- line k of a run
abbrev pub line_in : List (List ℕ) → ℕ → List ℕ
line_in lines k = slice_index_or lines k []

-- the first k lines are those that the image has from line `first` on
abbrev pub AreRead : Image → ℕ → List (List ℕ) → ℕ → Type 0
AreRead image first lines k = (i : ℕ) → i < k → eight (line_in lines i) ≡ line_at image (first + i)

-- the image with the first k of these lines from line `first` on
abbrev pub with_run : ℕ → List (List ℕ) → ℕ → Image → Image
with_run first lines zero image = image
with_run first lines (suc k) image = with_line (first + k) (line_in lines k) (with_run first lines k image)

-- after the first k of them were written
abbrev pub run_written : ℕ → List (List ℕ) → ℕ → Option Image → Option Image
run_written first lines k modelled = option_map (with_run first lines k) modelled

-- after the write of line k failed: those before it were written, each word of it is old or new, and those behind it are as
-- before
abbrev pub IsRunTorn : Option Image → Option Image → ℕ → List (List ℕ) → ℕ → Type 0
IsRunTorn old new first lines k = IsTorn (run_written first lines k old) new (first + k) (line_in lines k)

-- k calls one behind another, each of which is done. What call i does is told by its number and by whether it fails
abbrev pub AreDone : {M : Type 0} → (M → ℕ → Bool → M → Type 0) → ℕ → M → M → Type 0
AreDone call zero old new = new ≡ old
AreDone {M} call (suc k) old new = (before : M) × AreDone call k old before × call before k false new

-- k calls are done, and the one behind them fails
abbrev pub IsFailedBehind : {M : Type 0} → (M → ℕ → Bool → M → Type 0) → ℕ → M → M → Type 0
IsFailedBehind {M} call k old new = (before : M) × AreDone call k old before × call before k true new

-- how a run of so many calls ends: each is done, or one fails behind as many as the answer names, and none is made behind it
abbrev pub RunEnds : {M : Type 0} → (M → ℕ → Bool → M → Type 0) → ℕ → Result Unit RunFailed → M → M → Type 0
RunEnds call count (Ok u) old new = AreDone call count old new
RunEnds call count (Err failed) old new = IsFailedBehind call failed.done old new

-- call k of a run of reads from a line on
abbrev pub read_of : {M : Type 0} → (M → ℕ → Bool → M → Type 0) → ℕ → M → ℕ → Bool → M → Type 0
read_of reads first old k failed new = reads old (first + k) failed new

-- and of a run of writes of these lines
abbrev pub write_of : {M : Type 0} → (M → ℕ → List ℕ → Bool → M → Type 0) → ℕ → List (List ℕ) → M → ℕ → Bool → M → Type 0
write_of writes first lines old k failed new = writes old (first + k) (line_in lines k) failed new
