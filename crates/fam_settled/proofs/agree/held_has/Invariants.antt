use Rattle.std.proofs.Common.{◌≡◌, ℕ, ◌+◌, ◌<◌, get_or}
use Rattle.fam_settled.proofs.agree.held_has.Given as goal

abbrev pub invariant-given : goal.invariant-given
invariant-given l = (k : ℕ) → k < l.i → get_or l.held-2 (l.offset + k) 0 ≡ get_or l.given k 0
