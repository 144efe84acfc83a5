-- One entry more is copied, or not.
use Rattle.std.proofs.Common.{◌≡◌, ℕ, ◌+◌, ◌<◌, List, [], ◌∷◌, ◌++◌, length, take, drop, Option, Some, Result, Ok, Err, sym, ap, ap₂, subst, ◌∙◌, add-one}
use Rattle.std.specs.Prelude.{slice_get}
use Rattle.std.specs.Option.{option_map}
use Rattle.std.proofs.Math.Seq.{take-suc}
use Rattle.std.proofs.lemmas.List.{length-append}
use Rattle.std.proofs.lemmas.Option.{get_or_from_slice_get, slice_get_within}
use Rattle.fam_base.specs.declared.entry.Params.{Params}
use Rattle.fam_base.specs.declared.entry.Entry.{Entry}
use Rattle.fam_rules.specs.declared.answers.Refused.{Refused}
use Rattle.fam_rules.specs.Decide.{Wish, decide_wish}
use Rattle.fam_dup.specs.Copies.{AreAlike, IsCopy, copied_or, copy_of, copying_from, wish_again}
use Rattle.fam_dup.specs.Findings.{Stops, copies_or}
use Rattle.fam_dup.proofs.Alike.{alike_more}
use Rattle.fam_dup.proofs.Rows.{drop_at}

-- what is decided for the command that makes an entry anew
pub decided : (q : Params) (me : List ℕ) (copies : List Entry) (e : Entry) (wish : Option Wish) (r : Result Entry Refused) → me ≡ q.master → wish ≡ Some (wish_again e)
    → option_map (decide_wish q me copies) wish ≡ Some r → copy_of q copies e ≡ r
decided q me copies e wish r master is h =
    let some : option_map (decide_wish q me copies) (Some (wish_again e)) ≡ Some r = ap (option_map (decide_wish q me copies)) (sym is) ∙ h in
    let found : decide_wish q me copies (wish_again e) ≡ r = cc in
    ap (λ (m : List ℕ). decide_wish q m copies (wish_again e)) (sym master) ∙ found

module _ (q : Params) (list copies : List Entry) (seq : ℕ) (e : Entry) (next : seq ≡ length copies) (at : slice_get list seq ≡ Some e) where
  here : slice_get list (length copies) ≡ Some e
  here = ap (slice_get list) (sym next) ∙ at

  step : (r : Result Entry Refused) → copy_of q copies e ≡ r
      → copying_from q (drop (length copies) list) copies ≡ copied_or copies r (λ c. copying_from q (drop (length copies + 1) list) (copies ++ c ∷ []))
  step r is =
      ap (λ (l : List Entry). copying_from q l copies) (drop_at list (length copies) e here)
      ∙ ap (λ (s : Result Entry Refused). copied_or copies s (λ c. copying_from q (drop (length copies + 1) list) (copies ++ c ∷ []))) is

  -- an entry that has no copy
  pub stops_here : (all : List Entry) (refused : Refused) → copy_of q copies e ≡ Err refused → copies_or all (copying_from q (drop (length copies) list) copies) ≡ Stops seq refused
  stops_here all refused is = ap (copies_or all) (step (Err refused) is) ∙ ap (λ (n : ℕ). Stops n refused) (sym next)

  module _ (c : Entry) (new : List Entry) (added : new ≡ copies ++ c ∷ []) where
    count : length new ≡ length copies + 1
    count = ap (λ (l : List Entry). length l) added ∙ length-append copies (c ∷ [])

    -- one that has one
    pub goes_on : copy_of q copies e ≡ Ok c → copying_from q (drop (length copies) list) copies ≡ copying_from q (drop (length new) list) new
    goes_on is =
        step (Ok c) is ∙ ap₂ (λ (n : ℕ) (l : List Entry). copying_from q (drop n list) l) (sym count) (sym added)

    -- and the entries so far stay alike
    pub alike_on : AreAlike (take (length copies) list) copies → IsCopy e c → AreAlike (take (length new) list) new
    alike_on alike is =
        let below : length copies < length list = slice_get_within list (length copies) e here in
        let prefix : take (length new) list ≡ take (length copies) list ++ e ∷ [] =
        ap (λ (n : ℕ). take n list) (count ∙ add-one (length copies))
        ∙ take-suc list (length copies) e below
        ∙ ap (λ (x : Entry). take (length copies) list ++ x ∷ []) (get_or_from_slice_get list (length copies) e e here) in
        subst (λ (l : List Entry). AreAlike l new) (sym prefix)
        (subst (λ (l : List Entry). AreAlike (take (length copies) list ++ e ∷ []) l) (sym added)
        (alike_more (take (length copies) list) copies e c alike is.path is.kind))
