-- What is read of an image, and why it isn't read.
use Rattle.std.specs.Prelude.{ℕ, ⊤, ◌<◌}
use Rattle.fam_media.specs.Causes.{Rose}
use Rattle.fam_opening.specs.declared.fault.OpenFault.{OpenFault}
use Rattle.fam_opening.specs.declared.fault.OpenFault.TheVariants.{MediaFault, OutOfMemory}

-- a media failed only where its count of faults rose, and at one of its lines
abbrev pub IsOpenCaused : ℕ → ℕ → ℕ → OpenFault → Type 0
IsOpenCaused lines before now (MediaFault line) = (line < lines) × Rose before now
IsOpenCaused lines before now OutOfMemory = ⊤
