-- Texts cut at a byte, and the lines of a text.
use Rattle.std.proofs.Common.{◌≡◌, ℕ, suc, ◌<◌, Bool, true, false, cond, List, [], ◌∷◌, ◌++◌, length, take, drop, inl, inr, refl, ap, ap₂, sym, ◌∙◌, arith}
use Rattle.std.specs.Prelude.{◌==◌, ◌⊎◌}
use Rattle.std.specs.List.{join_with_byte, slice_split, onto_first}
use Rattle.std.proofs.lemmas.Bool.{eq-eqb, ne_eqb}
use Rattle.fam_tree.specs.Cuts.{front, back}
use Rattle.fam_tree.specs.Lines.{line_feed}
use Rattle.fam_tree.specs.Listings.{text_lines, without_end}
use Rattle.fam_tree.proofs.Printed.{No}

-- A text with the byte, and one without it.

module _ (c : ℕ) where
  pub front_found : (x y : List ℕ) → No c x → front c (x ++ c ∷ y) ≡ x
  unfolding No
  front_found [] y none = ap (λ (t : Bool). cond t [] (c ∷ front c y)) (eq-eqb c c refl)
  front_found (b ∷ x) y none =
      ap (λ (t : Bool). cond t [] (b ∷ front c (x ++ c ∷ y))) (ne_eqb b c none.0) ∙ ap (λ (l : List ℕ). b ∷ l) (front_found x y none.1)

  pub back_found : (x y : List ℕ) → No c x → back c (x ++ c ∷ y) ≡ y
  unfolding No
  back_found [] y none = ap (λ (t : Bool). cond t y (back c y)) (eq-eqb c c refl)
  back_found (b ∷ x) y none =
      ap (λ (t : Bool). cond t (x ++ c ∷ y) (back c (x ++ c ∷ y))) (ne_eqb b c none.0) ∙ back_found x y none.1

  pub front_none : (x : List ℕ) → No c x → front c x ≡ x
  unfolding No
  front_none [] none = refl
  front_none (b ∷ x) none =
      ap (λ (t : Bool). cond t [] (b ∷ front c x)) (ne_eqb b c none.0) ∙ ap (λ (l : List ℕ). b ∷ l) (front_none x none.1)

  pub back_none : (x : List ℕ) → No c x → back c x ≡ []
  unfolding No
  back_none [] none = refl
  back_none (b ∷ x) none = ap (λ (t : Bool). cond t x (back c x)) (ne_eqb b c none.0) ∙ back_none x none.1

  -- the first of words
  pub front_joined : (x y : List ℕ) (words : List (List ℕ)) → No c x → front c (join_with_byte c (x ∷ y ∷ words)) ≡ x
  front_joined x y words none = front_found x (join_with_byte c (y ∷ words)) none

  pub back_joined : (x y : List ℕ) (words : List (List ℕ)) → No c x → back c (join_with_byte c (x ∷ y ∷ words)) ≡ join_with_byte c (y ∷ words)
  back_joined x y words none = back_found x (join_with_byte c (y ∷ words)) none

  -- what stands behind is shorter
  pub back_shorter : (x : List ℕ) → 0 < length x → length (back c x) < length x
  back_shorter [] some = some
  back_shorter (b ∷ x) some =
      let all : length x < suc (length x) = omega arith in
      let later : length (back c x) < suc (length x) = shorter_than x in
      elim (b == c) as (λ t. length (cond t x (back c x)) < suc (length x)) [ true ↦ all | false ↦ later ]
    where
      shorter_than : (y : List ℕ) → length (back c y) < suc (length y)
      shorter_than [] = omega arith
      shorter_than (d ∷ y) =
          let all : length y < suc (suc (length y)) = omega arith in
          let rest = shorter_than y in
          let later : length (back c y) < suc (suc (length y)) = omega (arith, rest) in
          elim (d == c) as (λ t. length (cond t y (back c y)) < suc (suc (length y))) [ true ↦ all | false ↦ later ]

-- A loop over the bytes, at the byte i.

-- what the bytes from some place on say of the whole
pub record CutFrom (c : ℕ) (bytes : List ℕ) (i : ℕ) : Type 0 where
  pub front : front c bytes ≡ take i bytes ++ front c (drop i bytes)
  pub back : back c bytes ≡ back c (drop i bytes)

-- The lines of a text.

abbrev parts : List ℕ → List (List ℕ)
parts bytes = slice_split (λ (byte : ℕ). byte == line_feed) bytes

-- the first part, and the others
record Parts (all : List (List ℕ)) : Type 0 where
  first : List ℕ
  rest : List (List ℕ)
  is : all ≡ first ∷ rest

some_parts : (bytes : List ℕ) → Parts (parts bytes)
some_parts [] = record { first = []; rest = []; is = refl }
some_parts (b ∷ bytes) =
    let later = some_parts bytes in
    elim (b == line_feed) as (λ t. Parts (cond t ([] ∷ parts bytes) (onto_first b (parts bytes)))) [
      | true ↦ record { first = []; rest = parts bytes; is = refl }
      | false ↦ record { first = b ∷ later.first; rest = later.rest; is = ap (onto_first b) later.is }
    ]

ends_later : (line next : List ℕ) (more : List (List ℕ)) → without_end (line ∷ next ∷ more) ≡ line ∷ without_end (next ∷ more)
ends_later [] next more = refl
ends_later (b ∷ line) next more = refl

lines_behind : (line bytes : List ℕ) → without_end (line ∷ parts bytes) ≡ line ∷ without_end (parts bytes)
lines_behind line bytes =
    let p = some_parts bytes in
    ap (λ (l : List (List ℕ)). without_end (line ∷ l)) p.is ∙ ends_later line p.first p.rest
    ∙ ap (λ (l : List (List ℕ)). line ∷ without_end l) (sym p.is)

-- no line feed stands in the text
record IsSolo (bytes : List ℕ) : Type 0 where
  whole : parts bytes ≡ bytes ∷ []
  front : front line_feed bytes ≡ bytes
  back : back line_feed bytes ≡ []

cases : (bytes : List ℕ) → IsSolo bytes ⊎ (parts bytes ≡ front line_feed bytes ∷ parts (back line_feed bytes))
cases [] = inl (record { whole = refl; front = refl; back = refl })
cases (b ∷ bytes) = at (cases bytes) (b == line_feed) refl
  where
    at : IsSolo bytes ⊎ (parts bytes ≡ front line_feed bytes ∷ parts (back line_feed bytes)) → (t : Bool) → (b == line_feed) ≡ t
        → IsSolo (b ∷ bytes) ⊎ (parts (b ∷ bytes) ≡ front line_feed (b ∷ bytes) ∷ parts (back line_feed (b ∷ bytes)))
    at later true is = inr (
        ap (λ (t : Bool). cond t ([] ∷ parts bytes) (onto_first b (parts bytes))) is
        ∙ sym (ap₂ (λ (l : List ℕ) (m : List ℕ). l ∷ parts m) (ap (λ (t : Bool). cond t [] (b ∷ front line_feed bytes)) is) (ap (λ (t : Bool). cond t bytes (back line_feed bytes)) is)))
    at later false is =
        let here = ap (λ (t : Bool). cond t ([] ∷ parts bytes) (onto_first b (parts bytes))) is in
        let before = ap (λ (t : Bool). cond t [] (b ∷ front line_feed bytes)) is in
        let behind = ap (λ (t : Bool). cond t bytes (back line_feed bytes)) is in
        elim later [
          | inl solo ↦ inl (record {
            whole = here ∙ ap (onto_first b) solo.whole;
            front = before ∙ ap (λ (l : List ℕ). b ∷ l) solo.front;
            back = behind ∙ solo.back;
          })
          | inr many ↦ inr (here ∙ ap (onto_first b) many ∙ sym (ap₂ (λ (l : List ℕ) (m : List ℕ). l ∷ parts m) before behind))
        ]

-- no bytes are no lines
pub no_lines : text_lines [] ≡ []
unfolding text_lines
no_lines = refl

-- the first line, and those behind it
pub lines_more : (bytes : List ℕ) → 0 < length bytes → text_lines bytes ≡ front line_feed bytes ∷ text_lines (back line_feed bytes)
unfolding text_lines
lines_more [] some = absurd (omega (arith, some))
lines_more (b ∷ bytes) some = elim (cases (b ∷ bytes)) [
  | inl solo ↦ ap without_end solo.whole ∙ sym (ap₂ (λ (l : List ℕ) (m : List ℕ). l ∷ without_end (parts m)) solo.front solo.back)
  | inr many ↦ ap without_end many ∙ lines_behind (front line_feed (b ∷ bytes)) (back line_feed (b ∷ bytes))
]

-- nothing is no line
pub none_left : (bytes : List ℕ) → length bytes ≡ 0 → length (text_lines bytes) ≡ 0
none_left [] none = ap length no_lines
none_left (b ∷ bytes) none = absurd (omega (arith, none))
