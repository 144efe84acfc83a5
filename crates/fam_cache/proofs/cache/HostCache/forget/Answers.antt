use Rattle.std.proofs.Common.{◌≡◌, Bool, true, false, refl, sym, ap, subst, ◌∙◌}
use Rattle.std.proofs.lemmas.Bool.{eqb-true}
use Rattle.fam_machine.specs.Caches.{Cache, dirty_count}
use Rattle.fam_cache.specs.Blocks.{AskedWithin, lines_of}
use Rattle.fam_cache.specs.Shed.{IsShed}
use Rattle.fam_cache.specs.States.{CacheState}
use Rattle.fam_cache.specs.declared.blocks.Blocks.{Blocks}
use Rattle.fam_cache.proofs.AskedRange.{within_empty}
use Rattle.fam_cache.proofs.Shedding.{shed_all, shed_none}
use Rattle.fam_cache.proofs.cache.HostCache.forget.Goals as goal

either : (P : Type 0) (b : Bool) → (b ≡ true → P) → (b ≡ false → P) → P
either P true first second = first refl
either P false first second = second refl

pub invariant_of-self : goal.invariant_of-self
invariant_of-self c =
    let first = c.self.inside.first_asked in
    let last = c.self.inside.last_asked in
    let after = c.lose_clean.ensures in (
      after.kept,
      either (AskedWithin first last (lines_of c.lose_clean.new.places)) c.lose_clean.result
          (λ all. subst (AskedWithin first last) (sym (after.lines all)) (within_empty first last))
          (λ none. subst (λ (b : Blocks). AskedWithin first last (lines_of b)) (sym (after.other none)) c.self.invariant.1),
    )

pub returns-clause-shed : goal.returns-clause-shed
returns-clause-shed c =
    let after = c.lose_clean.ensures in
    let old : Cache = lines_of c.self.inside.places in
    let new : Cache = lines_of c.lose_clean.new.places in
    subst (λ (s : CacheState). IsShed new s.lines) c.self.view_is
    (either (IsShed new old) c.lose_clean.result
    (λ all. subst (λ (x : Cache). IsShed x old) (sym (after.lines all)) (shed_all old (eqb-true (dirty_count old) 0 (sym after.clean ∙ all))))
    (λ none. subst (λ (x : Cache). IsShed x old) (sym (ap lines_of (after.other none))) (shed_none old)))
