use Rattle.std.proofs.Common.{◌≡◌, List, length}
use Rattle.fam_base.specs.declared.extents.Extent.{Extent}
use Rattle.fam_tree.specs.Lines.{extents_text}
use Rattle.fam_tree.specs.Listings.{AreWordExtents}
use Rattle.fam_tree.proofs.WordsRead.{SoFar}
use Rattle.fam_tree.proofs.line_words.extents_of.Given as goal

abbrev pub invariant-loop-rest : goal.invariant-loop-rest
invariant-loop-rest l = record {
  read : (xs : List Extent) → AreWordExtents xs → l.word ≡ extents_text xs → SoFar xs l.extents l.rest;
  fits : AreWordExtents l.extents;
}

abbrev pub decreases-loop-rest : goal.decreases-loop-rest
decreases-loop-rest l = length l.rest
