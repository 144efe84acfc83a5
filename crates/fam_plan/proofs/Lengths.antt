-- What a plan decides, and what the rules decide with the length of the path.
use Rattle.std.proofs.Common.{◌≡◌, ℕ, true, List, Option, Some, None, Result, Err, refl, sym, ap, subst, ◌∙◌}
use Rattle.std.specs.FinMap as finmap
use Rattle.std.specs.Option.{IfSome}
use Rattle.std.specs.Result.{IfOk}
use Rattle.fam_base.specs.declared.entry.Entry.{Entry}
use Rattle.fam_base.specs.declared.entry.Params.{Params}
use Rattle.fam_base.specs.Paths.{parent_of}
use Rattle.fam_format.specs.Stop.{stop}
use Rattle.fam_format.specs.Tree.{replay}
use Rattle.fam_rules.specs.declared.answers.Refused.{Refused}
use Rattle.fam_rules.specs.Decide.{Wish, decide_wish, early_refusal, entry_or, exists_refusal, first_refusal, full_refusal, length_refusal, master_refusal, parent_refusal, path_fits, room_for, stripe_refusal}
use Rattle.fam_rules.specs.DecideLaws.{IsFirstRefusal, IsSoundWish}
use Rattle.fam_rules.proofs.RefusalProofs.{refused_for, refused_there}
use Rattle.fam_plan.specs.Decisions.{plan_decide_wish, roomy}
use Rattle.fam_plan.specs.State.{IsHistory, MayBeAdded, PlanState}
use Rattle.fam_plan.proofs.Decisions.{may_of}

-- the first of two tests passes once the first of both did
again : {T : Type 0} (first second : Option Refused) (next : Result T Refused) → stop (first_refusal first second) next ≡ stop (first_refusal first second) (stop first next)
again (Some refused) second next = refl
again None second next = refl

-- the second one passes
alone : {T : Type 0} (first second : Option Refused) (next : Result T Refused) → second ≡ None → stop (first_refusal first second) next ≡ stop first next
alone (Some refused) second next none = refl
alone {T} None second next none = ap (λ (o : Option Refused). stop {T = T} o next) none

-- a path that fits isn't refused
no_length : (p : Params) (path : List ℕ) → path_fits p path ≡ true → length_refusal p path ≡ None
no_length p path fits = rw fits refl

module _ (p : Params) (me : List ℕ) (list : List Entry) (w : Wish) where
  -- what comes behind the tests of master and length
  rest : Result Entry Refused
  rest = stop (stripe_refusal p w.stripe)
      (stop (exists_refusal (finmap.get (replay list) w.path))
      (stop (parent_refusal (replay list) (parent_of w.path)) (stop (full_refusal p list) (entry_or w (room_for p list w)))))

  pub behind_length : decide_wish p me list w ≡ stop (early_refusal p me w.path) (plan_decide_wish p me list w)
  unfolding decide_wish plan_decide_wish rest
  behind_length = again (master_refusal p me) (length_refusal p w.path) rest

  pub fits_length : path_fits p w.path ≡ true → decide_wish p me list w ≡ plan_decide_wish p me list w
  unfolding decide_wish plan_decide_wish rest
  fits_length fits = alone (master_refusal p me) (length_refusal p w.path) rest (no_length p w.path fits)

  -- by what the tests of master and length say
  pub early_ends : (refused : Refused) → early_refusal p me w.path ≡ Some refused → decide_wish p me list w ≡ Err refused
  early_ends refused is = behind_length ∙ ap (λ (o : Option Refused). stop o (plan_decide_wish p me list w)) is

  pub early_goes : early_refusal p me w.path ≡ None → decide_wish p me list w ≡ plan_decide_wish p me list w
  early_goes is = behind_length ∙ ap (λ (o : Option Refused). stop o (plan_decide_wish p me list w)) is

  -- the format is asked for the length alone
  any_format : plan_decide_wish (roomy p) me list w ≡ plan_decide_wish p me list w
  unfolding plan_decide_wish room_for
  any_format = refl

-- as the rules decide for a slot that has room for every path
in_roomy : (p : Params) (me : List ℕ) (list : List Entry) (w : Wish) → decide_wish (roomy p) me list w ≡ plan_decide_wish p me list w
in_roomy p me list w = fits_length (roomy p) me list w refl ∙ any_format p me list w

module _ (p : Params) (me : List ℕ) (list : List Entry) (w : Wish) (refused : Refused) where
  pub first_for : plan_decide_wish p me list w ≡ Err refused → IsFirstRefusal (roomy p) me list w refused
  first_for is = refused_for (roomy p) me list w refused (in_roomy p me list w ∙ is)

  pub first_there : IsFirstRefusal (roomy p) me list w refused → plan_decide_wish p me list w ≡ Err refused
  first_there cause = sym (in_roomy p me list w) ∙ refused_there (roomy p) me list w refused cause

-- what a plan decides for a sound wish whose path fits may be added
pub plan_may : (s : PlanState) (me : List ℕ) (w : Wish) (r : Result Entry Refused) → IsHistory s → IsSoundWish w → path_fits s.params w.path ≡ true
    → r ≡ plan_decide_wish s.params me s.entries w → IfOk r (λ e. MayBeAdded s e)
plan_may s me w r h sound fits is = may_of s me w r h sound (is ∙ sym (fits_length s.params me s.entries w fits))

-- a wish that is wanted is the one for which it was tested
pub wished_fits : (p : Params) (w : Wish) (wanted : Option Wish) → Some w ≡ wanted → IfSome wanted (λ v. path_fits p v.path ≡ true) → path_fits p w.path ≡ true
wished_fits p w wanted is fits = subst (λ (v : Option Wish). IfSome v (λ u. path_fits p u.path ≡ true)) (sym is) fits
