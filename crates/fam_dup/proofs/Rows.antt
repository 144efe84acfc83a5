-- The parts of a pass in a row: the lines of a file or of a slot, the files, and the slots.
use Rattle.std.proofs.Common.{◌≡◌, ℕ, suc, ◌+◌, ◌-◌, ◌<◌, ◌≤◌, List, [], ◌∷◌, ◌++◌, length, drop, Option, Some, sym, ap, ap₂, subst, ◌∙◌, arith, add-one, drop-cons}
use Rattle.std.specs.Prelude.{slice_get}
use Rattle.std.proofs.lemmas.List.{drop_all}
use Rattle.std.proofs.lemmas.Option.{get_or_from_slice_get, slice_get_within}
use Rattle.fam_base.specs.declared.entry.Params.{Params}
use Rattle.fam_base.specs.declared.entry.Entry.{Entry}
use Rattle.fam_base.specs.Image.{Image}
use Rattle.fam_format.specs.Reading.{Lines}
use Rattle.fam_rules.specs.Written.{Put, file_puts, slot_puts}
use Rattle.fam_rules.proofs.Puts.{puts_from}
use Rattle.fam_dup.specs.Lines.{AreCutAt, ArePut, bytes_in, files_puts, slots_puts}
use Rattle.fam_dup.specs.Passes.{ArePassed}
use Rattle.fam_dup.proofs.Passing.{pass_all, pass_cut, pass_part}

-- Lines f j with words g j.

module _ (f : ℕ → ℕ) (g : ℕ → List ℕ) (all : List Put) (j end : ℕ) (old mid new : Option Image) (below : j < end) (passed : ArePassed all (puts_from f g j (end - j)) old mid) where
  next_row : ArePassed all (((f j, g j) ∷ []) ++ puts_from f g (j + 1) (end - (j + 1))) old mid
  next_row =
      let more : end - j ≡ suc (end - (j + 1)) = omega arith in
      subst (λ (n : ℕ). ArePassed all (puts_from f g j n) old mid) more passed

  -- one more was put
  pub row_part : ArePut ((f j, g j) ∷ []) mid new → ArePassed all (puts_from f g (j + 1) (end - (j + 1))) old new
  row_part put = pass_part all ((f j, g j) ∷ []) (puts_from f g (j + 1) (end - (j + 1))) old mid new next_row put

  -- or cut
  pub row_cut : {At : Put → Type 0} → AreCutAt At ((f j, g j) ∷ []) mid new → AreCutAt At all old new
  row_cut cut = pass_cut all ((f j, g j) ∷ []) (puts_from f g (j + 1) (end - (j + 1))) old mid new next_row cut

-- behind the last one
pub row_end : (f : ℕ → ℕ) (g : ℕ → List ℕ) (all : List Put) (j end : ℕ) (old new : Option Image) → end ≤ j → ArePassed all (puts_from f g j (end - j)) old new → ArePut all old new
row_end f g all j end old new past passed =
    let none : end - j ≡ 0 = omega arith in
    pass_all all old new (subst (λ (n : ℕ). ArePassed all (puts_from f g j n) old new) none passed)

-- Entries.

-- a list from one of its places on
pub drop_at : (list : List Entry) (i : ℕ) (e : Entry) → slice_get list i ≡ Some e → drop i list ≡ e ∷ drop (i + 1) list
drop_at list i e at =
    let below : i < length list = slice_get_within list i e at in
    drop-cons list i e below ∙ ap₂ (λ (x : Entry) (n : ℕ). x ∷ drop n list) (get_or_from_slice_get list i e e at) (sym (add-one i))

-- the files from one on
pub files_at : (memory : Lines) (es cs : List Entry) (i : ℕ) (e c : Entry) → slice_get es i ≡ Some e → slice_get cs i ≡ Some c
    → files_puts memory (drop i es) (drop i cs) ≡ file_puts c (bytes_in memory e) ++ files_puts memory (drop (i + 1) es) (drop (i + 1) cs)
files_at memory es cs i e c at_e at_c = ap₂ (λ (xs ys : List Entry). files_puts memory xs ys) (drop_at es i e at_e) (drop_at cs i c at_c)

-- and the slots
pub slots_at : (p : Params) (cs : List Entry) (i : ℕ) (c : Entry) → slice_get cs i ≡ Some c → slots_puts p i (drop i cs) ≡ slot_puts p i c ++ slots_puts p (i + 1) (drop (i + 1) cs)
slots_at p cs i c at = ap (slots_puts p i) (drop_at cs i c at)

-- behind the last one there are none
drop_past : (list : List Entry) (i : ℕ) → length list ≤ i → drop i list ≡ []
drop_past list i past = drop_all i list past

pub files_end : (memory : Lines) (es cs : List Entry) (i : ℕ) → length es ≤ i → files_puts memory (drop i es) (drop i cs) ≡ []
files_end memory es cs i past = ap (λ (l : List Entry). files_puts memory l (drop i cs)) (drop_past es i past)

pub slots_end : (p : Params) (cs : List Entry) (i : ℕ) → length cs ≤ i → slots_puts p i (drop i cs) ≡ []
slots_end p cs i past = ap (slots_puts p i) (drop_past cs i past)
