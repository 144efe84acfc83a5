-- What an image reads as of which line 0 is cleared first and has the magic last, where the puts were cut at any of them.
use Rattle.std.proofs.Common.{◌≡◌, ℕ, ◌<◌, Bool, List, [], ◌∷◌, ◌++◌, length, if◌then◌else◌, refl, sym, ap, ap₂, subst, ◌∙◌, inl, inr, arith}
use Rattle.std.specs.Prelude.{◌≢◌, ◌⊎◌, slice_index}
use Rattle.std.proofs.lemmas.Bool.{cases_Bool}
use Rattle.fam_base.specs.Image.{Image, line_at, masked, with_line, with_masked}
use Rattle.fam_base.proofs.ImageLemmas.{line_at-with_line, line_at-with_line_other, length-with_line, with_masked-with_line}
use Rattle.fam_format.specs.declared.faults.SuperFault.TheVariants as super
use Rattle.fam_format.specs.Reading.{NoSuperblock, reading}
use Rattle.fam_format.specs.Super.{magic_line}
use Rattle.fam_rules.specs.Written.{Put, put_line, put_lines, zero_line}
use Rattle.fam_rules.proofs.Puts.{AreElsewhere, elsewhere-left, elsewhere-right, length-put_lines, put_elsewhere, put_lines-append}
use Rattle.fam_rules.proofs.TornHead.{bit, magic_whole, none_there, torn_clear, torn_word}

-- nothing of a line was put, or some of its words
abbrev pub IsPutInPart : Put → Image → Image → Type 0
IsPutInPart put before new = (new ≡ before) ⊎ ((mask : ℕ) × (new ≡ with_masked put.0 put.1 mask before))

-- Where a list that ends with one put is cut.

-- at its last put, or before it
pub data IsSplit (body done : List Put) (put : Put) (rest : List Put) (last : Put) : Type 0 where
  at_last : done ≡ body → put ≡ last → IsSplit body done put rest last
  before_last : (more : List Put) → body ≡ done ++ put ∷ more → IsSplit body done put rest last

-- a list with a put in it isn't empty
no_list : (done : List Put) (put : Put) (rest : List Put) → [] ≡ done ++ put ∷ rest → ⊥
no_list [] put rest same = cc
no_list (x ∷ done) put rest same = cc

-- with one more in front
split_more : (x y : Put) (body done : List Put) (put : Put) (rest : List Put) (last : Put) → x ≡ y → IsSplit body done put rest last → IsSplit (x ∷ body) (y ∷ done) put rest last
split_more x y body done put rest last same (at_last whole is) = at_last (ap₂ (λ (p : Put) (l : List Put). p ∷ l) (sym same) whole) is
split_more x y body done put rest last same (before_last more parts) = before_last more (ap₂ (λ (p : Put) (l : List Put). p ∷ l) same parts)

split : (body done : List Put) (put : Put) (rest : List Put) (last : Put) → body ++ last ∷ [] ≡ done ++ put ∷ rest → IsSplit body done put rest last
split [] [] put rest last same = at_last refl (cc)
split (x ∷ body) [] put rest last same = before_last body (let first : x ≡ put = cc in ap (λ (p : Put). p ∷ body) first)
split [] (y ∷ done) put rest last same = absurd (no_list done put rest (cc))
split (x ∷ body) (y ∷ done) put rest last same = split_more x y body done put rest last (cc) (split body done put rest last (cc))

module _ (body : List Put) (to : Image) (some : 0 < length to) (off : AreElsewhere 0 body) where
  -- all puts: line 0 is cleared first and has the magic last
  abbrev pub head_last : List Put
  head_last = (0, zero_line) ∷ (body ++ (0, magic_line) ∷ [])

  -- line 0 was cleared
  cleared : Image
  cleared = with_line 0 zero_line to

  count_cleared : length cleared ≡ length to
  unfolding cleared
  count_cleared = length-with_line to 0 zero_line

  -- behind lines elsewhere it still is
  still_clear : (done : List Put) → AreElsewhere 0 done → line_at (put_lines done cleared) 0 ≡ zero_line
  unfolding cleared
  still_clear done away = put_elsewhere done (with_line 0 zero_line to) 0 away ∙ line_at-with_line to 0 zero_line some

  -- so there is no superblock
  none_behind : (done : List Put) → AreElsewhere 0 done → (new : Image) → line_at new 0 ≡ line_at (put_lines done cleared) 0 → reading new ≡ NoSuperblock (super.NoSuper 0)
  none_behind done away new same = none_there new (ap (λ (w : List ℕ). slice_index w 0) (same ∙ still_clear done away))

  -- it reads as before, or as no superblock; or all was put
  abbrev pub Left : Image → Type 0
  Left new = (reading new ≡ reading to) ⊎ ((reading new ≡ NoSuperblock (super.NoSuper 0)) ⊎ (new ≡ put_lines head_last to))

  old_or_none : (new : Image) → (reading new ≡ reading to) ⊎ (reading new ≡ NoSuperblock (super.NoSuper 0)) → Left new
  old_or_none new (inl same) = inl same
  old_or_none new (inr none) = inr (inl none)

  -- cut at the first put
  at_first : (put : Put) (new : Image) → put ≡ (0, zero_line) → IsPutInPart put to new → Left new
  at_first put new is (inl same) = inl (ap reading same)
  at_first put new is (inr torn) =
      let left : new ≡ with_masked 0 zero_line torn.0 to = torn.1 ∙ ap (λ (p : Put). with_masked p.0 p.1 torn.0 to) is in
      subst Left (sym left) (old_or_none (with_masked 0 zero_line torn.0 to) (torn_clear to torn.0 zero_line some refl))

  -- cut at a line between
  at_middle : (done : List Put) (put : Put) (new : Image) → AreElsewhere 0 done → 0 ≢ put.0 → IsPutInPart put (put_lines done cleared) new → Left new
  at_middle done put new away other (inl same) = inr (inl (none_behind done away new (ap (λ (i : Image). line_at i 0) same)))
  at_middle done put new away other (inr torn) =
      let before : Image = put_lines done cleared in
      inr (inl (none_behind done away new
      (ap (λ (i : Image). line_at i 0) (torn.1 ∙ with_masked-with_line before put.0 put.1 torn.0)
      ∙ line_at-with_line_other before put.0 (masked torn.0 put.1 (line_at before put.0)) 0 other)))

  -- with the magic all is put
  whole_is : with_line 0 magic_line (put_lines body cleared) ≡ put_lines head_last to
  unfolding cleared
  whole_is = sym (put_lines-append body ((0, magic_line) ∷ []) (with_line 0 zero_line to))

  -- cut at the last put
  at_end : (put : Put) (new : Image) → put ≡ (0, magic_line) → IsPutInPart put (put_lines body cleared) new → Left new
  at_end put new is (inl same) = inr (inl (none_behind body off new (ap (λ (i : Image). line_at i 0) same)))
  at_end put new is (inr torn) =
      let before : Image = put_lines body cleared in
      let left : new ≡ with_masked 0 magic_line torn.0 before = torn.1 ∙ ap (λ (p : Put). with_masked p.0 p.1 torn.0 before) is in
      elim (cases_Bool (bit torn.0)) [
        | inl set ↦
            let words : masked torn.0 magic_line (line_at before 0) ≡ magic_line =
            ap (masked torn.0 magic_line) (still_clear body off) ∙ magic_whole torn.0 set in
            inr (inr (left ∙ with_masked-with_line before 0 magic_line torn.0 ∙ ap (λ (w : List ℕ). with_line 0 w before) words ∙ whole_is))
        | inr kept ↦
            let count : 0 < length before = omega (arith, length-put_lines body cleared, count_cleared, some) in
            inr (inl (none_there new
            (ap (λ (i : Image). slice_index (line_at i 0) 0) left
            ∙ torn_word before torn.0 magic_line count
            ∙ ap (λ (b : Bool). if b then slice_index magic_line 0 else slice_index (line_at before 0) 0) kept
            ∙ ap (λ (w : List ℕ). slice_index w 0) (still_clear body off))))
      ]

  -- behind the first put
  by_split : (done : List Put) (put : Put) (rest : List Put) (new : Image) → IsSplit body done put rest (0, magic_line) → IsPutInPart put (put_lines done cleared) new → Left new
  by_split done put rest new (at_last whole is) cut =
      at_end put new is (subst (λ (l : List Put). IsPutInPart put (put_lines l cleared) new) whole cut)
  by_split done put rest new (before_last more parts) cut =
      let all : AreElsewhere 0 (done ++ put ∷ more) = subst (AreElsewhere 0) parts off in
      at_middle done put new (elsewhere-left 0 done (put ∷ more) all) (elsewhere-right 0 done (put ∷ more) all).0 cut

  -- cut at any put
  pub cut_left : (done : List Put) (put : Put) (rest : List Put) (new : Image) → head_last ≡ done ++ put ∷ rest → IsPutInPart put (put_lines done to) new → Left new
  unfolding cleared
  cut_left [] put rest new parts cut = at_first put new (let is : ◌≡◌ {A = Put} (0, zero_line) put = cc in sym is) cut
  cut_left (x ∷ done) put rest new parts cut =
      let first : ◌≡◌ {A = Put} (0, zero_line) x = cc in
      let tail : body ++ (0, magic_line) ∷ [] ≡ done ++ put ∷ rest = cc in
      by_split done put rest new (split body done put rest (0, magic_line) tail)
      (subst (λ (p : Put). IsPutInPart put (put_lines done (put_line to p)) new) (sym first) cut)
