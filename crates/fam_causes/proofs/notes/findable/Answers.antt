use Rattle.std.proofs.Common.{◌≡◌, ◌↔◌, ◌⊎◌, ℕ, length, sym, subst}
use Rattle.fam_judging.specs.declared.candidate.Settled.{Settled}
use Rattle.fam_judging.specs.declared.candidate.Settled.TheVariants as settled
use Rattle.fam_causes.specs.Differing.{MayFind}
use Rattle.fam_causes.proofs.Finding.{found_two}
use Rattle.fam_causes.proofs.notes.findable.Goals as goal

pub returns-in-Log : goal.returns-in-Log
returns-in-Log c n =
    let log = c.in-Log.log in
    subst (λ (s : Settled). MayFind c.args.given.now s n ↔ ((n ≡ c.count.result) ⊎ (n ≡ c.all.result))) (sym c.in-Log.is)
    (subst (λ (k : ℕ). MayFind c.args.given.now (settled.Log log) n ↔ ((n ≡ k) ⊎ (n ≡ c.all.result))) (sym c.count.ensures)
    (subst (λ (k : ℕ). MayFind c.args.given.now (settled.Log log) n ↔ ((n ≡ length log.entries) ⊎ (n ≡ k))) (sym c.all.ensures) (found_two n log)))
