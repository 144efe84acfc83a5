-- The two lines of a superblock.
use Rattle.std.proofs.Common.{◌≡◌, ℕ, List, ◌++◌, length, ap, ap₂}
use Rattle.fam_base.specs.Image.{eight}
use Rattle.fam_format.specs.Super.{magic, super_of, super_body_of}
use Rattle.fam_super.proofs.Lines.{eight_is}

-- where the magic was seen, lines 1 and 2 tell the superblock
pub body_tells : (first second : List ℕ) (have : ℕ) → length first ≡ 8 → length second ≡ 8 → super_of magic (eight first ++ eight second) have ≡ super_body_of (first ++ second) have
unfolding super_of
body_tells first second have a b =
    ap (λ (w : List ℕ). super_body_of w have) (ap₂ (λ (x y : List ℕ). x ++ y) (eight_is first a) (eight_is second b))
