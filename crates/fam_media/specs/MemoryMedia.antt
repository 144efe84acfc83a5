-- A media in memory, and what each call makes of it.
use Rattle.std.specs.Prelude.{ℕ, ◌≡◌, Bool, List, [], replicate, map, Option, Some, None, is_some}
use Rattle.fam_base.specs.Image.{Image, eight, with_line, with_masked}
use Rattle.fam_base.specs.declared.line.Mask.{Mask}
use Rattle.fam_media.specs.Plans.{one_more, planned, count_if}

-- the lines, how many calls were made, which ones are to fail and let which words through, and the count of faults
pub record MemMediaState : Type 0 where
  pub image : Image
  pub calls : ℕ
  pub plan : List (ℕ × Mask)
  pub faults : ℕ

-- so many lines, all words zero
abbrev pub blank : ℕ → Image
blank lines = replicate lines (eight [])

-- no call was made and none is to fail
abbrev pub fresh : ℕ → MemMediaState
fresh lines = record { image = blank lines; calls = 0; plan = []; faults = 0 }

-- what is planned for the next call
abbrev pub next_mask : MemMediaState → Option Mask
next_mask m = planned m.plan m.calls

-- the image as the media tells it, eight words in each line
abbrev pub modelled_image : MemMediaState → Option Image
modelled_image m = Some (map eight m.image)

-- after a read: a call was counted, and where it failed a fault
abbrev pub after_call : MemMediaState → MemMediaState
after_call m = record m { calls = one_more m.calls; faults = count_if (is_some (next_mask m)) m.faults }

-- the image after a write: the whole line, or where it was to fail the words of the mask
abbrev pub after_words : Option Mask → ℕ → List ℕ → Image → Image
after_words None line words image = with_line line words image
after_words (Some mask) line words image = with_masked line words mask.0 image

-- after a write
abbrev pub after_write : ℕ → List ℕ → MemMediaState → MemMediaState
after_write line words m =
    record (after_call m) { image = after_words (next_mask m) line words m.image }

-- a read of a line fails exactly where that was planned
pub record IsRead (m : MemMediaState) (line : ℕ) (failed : Bool) (new : MemMediaState) : Type 0 where
  pub fails : failed ≡ is_some (next_mask m)
  pub after : new ≡ after_call m

-- so does a write of such words
pub record IsWritten (m : MemMediaState) (line : ℕ) (words : List ℕ) (failed : Bool) (new : MemMediaState) : Type 0 where
  pub fails : failed ≡ is_some (next_mask m)
  pub after : new ≡ after_write line words m
