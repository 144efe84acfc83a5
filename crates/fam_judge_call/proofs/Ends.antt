-- How a call ends, by what it was asked for.
use Rattle.std.proofs.Common.{◌≡◌, ◌<◌, ℕ, List, Option, Some, None, sym, subst}
use Rattle.fam_media.specs.Causes.{Rose}
use Rattle.fam_opening.specs.declared.fault.OpenFault.{OpenFault}
use Rattle.fam_opening.specs.declared.fault.OpenFault.TheVariants.{MediaFault}
use Rattle.fam_opening.specs.Opening.{IsOpenCaused}
use Rattle.fam_outcomes.specs.declared.status.Status.{Status}
use Rattle.fam_outcomes.specs.Runs.{Outside}
use Rattle.fam_judge_call.specs.Endings.{HistoryEnds, ImageEnds, OnImageEnds}

-- without an image
pub none_ends : (name : List ℕ) (image : Option (List ℕ)) (out : Outside) (given : Status) → image ≡ None
    → HistoryEnds name out.shelf out.sink given → ImageEnds name image out given
none_ends name image out given none ends = subst (λ (o : Option (List ℕ)). ImageEnds name o out given) (sym none) ends

-- with one
pub some_ends : (name : List ℕ) (image : Option (List ℕ)) (image_name : List ℕ) (out : Outside) (given : Status) → image ≡ Some image_name
    → OnImageEnds name image_name out given → ImageEnds name image out given
some_ends name image image_name out given some ends = subst (λ (o : Option (List ℕ)). ImageEnds name o out given) (sym some) ends

-- the media failed at a line
pub media_caused : (lines before now line : ℕ) (fault : OpenFault) → fault ≡ MediaFault line → IsOpenCaused lines before now fault → (line < lines) × Rose before now
media_caused lines before now line fault is caused = subst (IsOpenCaused lines before now) is caused
