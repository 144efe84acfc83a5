use Rattle.std.proofs.Common.{ℕ, List, sym, subst, ◌∙◌}
use Rattle.fam_replay.specs.Replica.{AreKeptAt}
use Rattle.fam_replay.proofs.replica.is_kept.Goals as goal

pub returns-in-Some : goal.returns-in-Some
returns-in-Some c = λ yes.
    subst (λ (l : List ℕ). AreKeptAt c.args.first c.args.slots.now c.args.slot l) (sym c.words.ensures ∙ c.same_slot.ensures yes) c.in-Some.ensures
