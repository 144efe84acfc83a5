use Rattle.std.proofs.Common.{◌-◌, ◌≡◌, ◌≤◌, length, take}
use Rattle.fam_media.specs.Files.{bytes_of}
use Rattle.fam_media.specs.Outside.{IfModelled}
use Rattle.fam_media.specs.Causes.{IsShelfSteady}
use Rattle.fam_sources.proofs.whole.fill.Given as goal

-- what was read is what the file begins with
abbrev pub invariant-reads : goal.invariant-reads
invariant-reads g l =
    IsShelfSteady (g.S.Shelf.state l.initial.shelf) (g.S.Shelf.state l.shelf)
    × (l.got ≤ l.size) × (length l.into ≡ l.size) × (l.size ≡ length l.initial.into)
    × IfModelled (g.S.Shelf.state l.initial.shelf).files (λ files. take l.got l.into ≡ take l.got (bytes_of files l.name))

abbrev pub decreases-reads : goal.decreases-reads
decreases-reads g l = l.size - l.got
