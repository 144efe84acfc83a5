-- Five passes of writes, one behind another.
use Rattle.std.proofs.Common.{◌≡◌, List, [], ◌∷◌, ◌++◌, Option, Result, Ok, Err, sym, ap, subst, ◌∙◌, append_assoc}
use Rattle.std.proofs.lemmas.List.{append-nil}
use Rattle.fam_base.specs.Image.{Image}
use Rattle.fam_rules.specs.Written.{Put, zero_line}
use Rattle.fam_base.specs.declared.entry.Params.{Params}
use Rattle.fam_base.specs.declared.entry.Entry.{Entry}
use Rattle.fam_format.specs.Reading.{Lines}
use Rattle.fam_format.specs.Super.{magic_line}
use Rattle.std.specs.Prelude.{length}
use Rattle.fam_dup.specs.Lines.{AreCutAt, ArePut, PutsEnd, copy_puts, files_puts, head_puts, slots_puts}
use Rattle.fam_dup.specs.Passes.{ArePassed}
use Rattle.fam_dup.proofs.Passing.{pass_all, pass_cut, pass_part, put_none}

-- the parts of a copy
pub copy_parts : (memory : Lines) (p : Params) (entries copies : List Entry)
    → copy_puts memory p entries copies ≡ ((0, zero_line) ∷ []) ++ (files_puts memory entries copies ++ (slots_puts p 0 copies ++ (head_puts p (length copies) ++ ((0, magic_line) ∷ []))))
copy_parts memory p entries copies =
    ap (λ (l : List Put). (0, zero_line) ∷ l)
    (append_assoc (files_puts memory entries copies) (slots_puts p 0 copies ++ head_puts p (length copies)) ((0, magic_line) ∷ [])
    ∙ ap (λ (l : List Put). files_puts memory entries copies ++ l) (append_assoc (slots_puts p 0 copies) (head_puts p (length copies)) ((0, magic_line) ∷ [])))

module _ (all a b c d e : List Put) (parts : all ≡ a ++ (b ++ (c ++ (d ++ e)))) (t0 t1 t2 t3 t4 t5 : Option Image) where
  start : ArePassed all (a ++ (b ++ (c ++ (d ++ e)))) t0 t0
  start = record { done = []; parts = parts; put = put_none t0 }

  behind_1 : ArePut a t0 t1 → ArePassed all (b ++ (c ++ (d ++ e))) t0 t1
  behind_1 first = pass_part all a (b ++ (c ++ (d ++ e))) t0 t0 t1 start first

  behind_2 : ArePut a t0 t1 → ArePut b t1 t2 → ArePassed all (c ++ (d ++ e)) t0 t2
  behind_2 first second = pass_part all b (c ++ (d ++ e)) t0 t1 t2 (behind_1 first) second

  behind_3 : ArePut a t0 t1 → ArePut b t1 t2 → ArePut c t2 t3 → ArePassed all (d ++ e) t0 t3
  behind_3 first second third = pass_part all c (d ++ e) t0 t2 t3 (behind_2 first second) third

  behind_4 : ArePut a t0 t1 → ArePut b t1 t2 → ArePut c t2 t3 → ArePut d t3 t4 → ArePassed all e t0 t4
  behind_4 first second third fourth = pass_part all d e t0 t3 t4 (behind_3 first second third) fourth

  -- the first one was cut, or another one
  pub cut_1 : {At : Put → Type 0} → AreCutAt At a t0 t1 → AreCutAt At all t0 t1
  cut_1 cut = pass_cut all a (b ++ (c ++ (d ++ e))) t0 t0 t1 start cut

  pub cut_2 : {At : Put → Type 0} → ArePut a t0 t1 → AreCutAt At b t1 t2 → AreCutAt At all t0 t2
  cut_2 first cut = pass_cut all b (c ++ (d ++ e)) t0 t1 t2 (behind_1 first) cut

  pub cut_3 : {At : Put → Type 0} → ArePut a t0 t1 → ArePut b t1 t2 → AreCutAt At c t2 t3 → AreCutAt At all t0 t3
  cut_3 first second cut = pass_cut all c (d ++ e) t0 t2 t3 (behind_2 first second) cut

  pub cut_4 : {At : Put → Type 0} → ArePut a t0 t1 → ArePut b t1 t2 → ArePut c t2 t3 → AreCutAt At d t3 t4 → AreCutAt At all t0 t4
  cut_4 first second third cut = pass_cut all d e t0 t3 t4 (behind_3 first second third) cut

  -- the last one ends as it does
  pub ends_5 : {T E : Type 0} (At : E → Put → Type 0) (result : Result T E) → ArePut a t0 t1 → ArePut b t1 t2 → ArePut c t2 t3 → ArePut d t3 t4
      → PutsEnd At e t4 t5 result → PutsEnd At all t0 t5 result
  ends_5 At (Ok u) first second third fourth put =
      let last : ArePassed all (e ++ []) t0 t4 = subst (λ (l : List Put). ArePassed all l t0 t4) (sym (append-nil e)) (behind_4 first second third fourth) in
      pass_all all t0 t5 (pass_part all e [] t0 t4 t5 last put)
  ends_5 At (Err fault) first second third fourth cut =
      let last : ArePassed all (e ++ []) t0 t4 = subst (λ (l : List Put). ArePassed all l t0 t4) (sym (append-nil e)) (behind_4 first second third fourth) in
      pass_cut all e [] t0 t4 t5 last cut
