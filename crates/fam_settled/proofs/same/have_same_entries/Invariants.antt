use Rattle.std.proofs.Common.{◌≡◌, ℕ, ◌<◌}
use Rattle.std.specs.List.{slice_get}
use Rattle.fam_settled.proofs.same.have_same_entries.Given as goal

abbrev pub invariant-entries : goal.invariant-entries
invariant-entries l = (k : ℕ) → k < l.i → slice_get l.a.entries k ≡ slice_get l.b.entries k
