-- What a run answers, from what its passes left.
use Rattle.std.proofs.Common.{◌≡◌, ℕ, List, Option, Some, None, inl, inr, refl, sym, ap, subst, ◌∙◌}
use Rattle.std.specs.Prelude.{IfErr, OnErr, OnOk, Result, Ok, Err}
use Rattle.std.specs.FinMap as map
use Rattle.std.specs.Option.{option_map, option_or}
use Rattle.fam_base.specs.declared.entry.Entry.{Entry}
use Rattle.fam_format.specs.Tree.{Tree}
use Rattle.fam_media.specs.Outside.{IfModelled}
use Rattle.fam_shadow.specs.declared.fault.ShadowFault.{ShadowFault}
use Rattle.fam_shadow.specs.declared.fault.ShadowFault.TheVariants as fault
use Rattle.fam_shadow.specs.declared.node.Node.{Node}
use Rattle.fam_shadow.specs.Nodes.{Nodes}
use Rattle.fam_shadow.specs.Shadows.{NodesBecome, IsLeftInPart, MayHold, ShadowEnds, clash_of, shadow}
use Rattle.fam_shadow.specs.Passes.{EntriesPartlyPut, AreDistinct, PassFault, first_met, with_entries}
use Rattle.fam_shadow.proofs.Looks.{met_is}
use Rattle.fam_shadow.proofs.Maps.{at_entries, shadow_at}
use Rattle.fam_shadow.proofs.Puts.{cut_left, unchanged}

module _ (tree : Tree) (before now : ℕ) where
  abbrev entries : List Entry
  entries = map.values tree

  left_by : (old new : Nodes) (f : ShadowFault) → PassFault entries before now f → IsLeftInPart tree old new → ShadowEnds tree (Err f) old new
  left_by old new (fault.Clash name) is left = absurd is
  left_by old new (fault.ShadeFault name) is left = left
  left_by old new fault.OutOfMemory is left = left

  -- a fault of the looks
  pub looks_end : (old new : Option Nodes) (f : ShadowFault) → PassFault entries before now f → new ≡ old → NodesBecome old new (ShadowEnds tree (Err f))
  looks_end old new f is same held told =
      (held, (same ∙ told, left_by held held f is (record { looked = inl refl; each = λ name. unchanged (map.get (shadow tree) name) (map.get held name) })))

  module _ (distinct : AreDistinct entries) where
    -- a clash
    pub clash_ends : (old new : Option Nodes) (name : List ℕ) → new ≡ old → IfModelled old (λ held. Some name ≡ first_met entries held) → NodesBecome old new (ShadowEnds tree (Err (fault.Clash name)))
    clash_ends old new name same met held told = (held, (same ∙ told, (sym (met held told ∙ met_is entries distinct held), refl)))

    module _ (old new : Option Nodes) (clear : IfModelled old (λ held. first_met entries held ≡ None)) where
      no_clash : (held : Nodes) → old ≡ Some held → clash_of tree held ≡ None
      no_clash held told = sym (met_is entries distinct held) ∙ clear held told

      -- the puts, done or cut
      pub puts_end : (result : Result (Unit {0}) ShadowFault) → OnOk result (new ≡ option_map (with_entries entries) old)
          → OnErr result (EntriesPartlyPut entries old new) → IfErr result (PassFault entries before now)
          → NodesBecome old new (ShadowEnds tree result)
      puts_end (Ok done) put cut is held told = (
        with_entries entries held,
        (
          put ∙ ap (option_map (with_entries entries)) told,
          (
            no_clash held told,
            λ name.
                at_entries entries held name distinct ∙ ap (λ (o : Option Node). option_or o (map.get held name)) (sym (shadow_at entries name)),
          ),
        ),
      )
      puts_end (Err f) put cut is held told =
          let some = cut_left entries held new distinct (subst (λ (o : Option Nodes). EntriesPartlyPut entries o new) told cut) in (
            some.left,
            (
              some.told,
              left_by held some.left f is (record {
                looked = inr (no_clash held told);
                each = λ name. subst (λ (own : Option Node). MayHold own (map.get held name) (map.get some.left name)) (sym (shadow_at entries name)) (some.each name);
              }),
            ),
          )
