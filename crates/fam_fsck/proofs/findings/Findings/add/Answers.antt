use Rattle.std.proofs.Common.{ℕ, Bool, ◌||◌, List, [], ◌∷◌, ◌++◌, length, refl, sym, ap, subst, ◌∙◌}
use Rattle.std.specs.List.{All}
use Rattle.fam_format.specs.Tree.{Tree, replay}
use Rattle.fam_format.specs.Units.{units_in, is_used}
use Rattle.fam_alloc.specs.Taken.{holds}
use Rattle.fam_fsck.specs.declared.found.Found.{Found}
use Rattle.fam_fsck.specs.Found.{Finds, applied_of, found_entries, found_as, tree_after, LiesWithin}
use Rattle.fam_fsck.proofs.Surveys.{lies_within, placed_more, tree_more, used_more}
use Rattle.fam_fsck.proofs.findings.Findings.add.Goals as goal

pub cover-requires-clause-within : goal.cover-requires-clause-within
cover-requires-clause-within c =
    let own = c.self.inside in
    lies_within own.params c.args.self.now.params c.args.entry.now (length own.used) (ap (λ (s : Finds). s.params) c.self.view_is) c.requires c.self.invariant.units

pub least_overlap-self-inside-requires-clause-second : goal.least_overlap-self-inside-requires-clause-second
least_overlap-self-inside-requires-clause-second c =
    let own = c.self.inside in
    lies_within own.params c.args.self.now.params c.args.entry.now (length own.used) (ap (λ (s : Finds). s.params) c.self.view_is) c.requires c.self.invariant.units

pub least_overlap-self-inside-requires-clause-first : goal.least_overlap-self-inside-requires-clause-first
least_overlap-self-inside-requires-clause-first c =
    let own = c.self.inside in
    subst (All (LiesWithin own.params.unit (length own.used))) (sym c.in_ok-fault.ensures.found)
    (placed_more own.params.unit (length own.used) own.found (found_as c.args.number c.args.entry.now c.in_ok-fault.fault) c.self.invariant.placed
    (lies_within own.params c.args.self.now.params c.args.entry.now (length own.used) (ap (λ (s : Finds). s.params) c.self.view_is) c.requires c.self.invariant.units))

pub invariant_of-self-2 : goal.invariant_of-self-2
invariant_of-self-2 c =
    let own = c.self.inside in
    let p = own.params in
    let e = c.args.entry.now in
    let fault = c.in_ok-fault.fault in
    let f : Found = found_as c.args.number e fault in
    let all : All (LiesWithin p.unit (length own.used)) (own.found ++ f ∷ []) =
    placed_more p.unit (length own.used) own.found f c.self.invariant.placed
    (lies_within p c.args.self.now.params e (length own.used) (ap (λ (s : Finds). s.params) c.self.view_is) c.requires c.self.invariant.units) in
    record {
      sound = c.self.invariant.sound;
      tree = c.in_ok-fault.ensures.after
          ∙ ap (λ (t : Tree). tree_after fault t e) c.self.invariant.tree
          ∙ tree_more own.found c.args.number e fault
          ∙ ap (λ (fs : List Found). replay (applied_of fs)) (sym c.in_ok-fault.ensures.found);
      placed = subst (λ (n : ℕ). All (LiesWithin p.unit n) c.join.new.self) (sym c.cover.ensures.units)
          (subst (All (LiesWithin p.unit (length own.used))) (sym c.in_ok-fault.ensures.found) all);
      units = c.cover.ensures.units ∙ c.self.invariant.units;
      used = λ u. c.cover.ensures.value u
          ∙ ap (λ (b : Bool). b || holds (units_in p.unit e.extents) u) (c.self.invariant.used u)
          ∙ used_more p own.found c.args.number e fault u
          ∙ ap (λ (fs : List Found). is_used p (found_entries fs) u) (sym c.in_ok-fault.ensures.found);
      overlap = c.least_overlap-self-inside.ensures p own.found fault refl c.in_ok-fault.ensures.found c.self.invariant.used c.self.invariant.overlap;
    }
