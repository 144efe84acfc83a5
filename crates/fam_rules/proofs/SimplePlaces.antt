-- Extents laid end to end.
use Rattle.std.proofs.Common.{◌≡◌, ℕ, suc, ◌+◌, ◌-◌, ◌%◌, ◌<◌, ◌≤◌, ltb, List, [], ◌∷◌, length, get_or, refl, sym, ap, subst, ◌∙◌, inl, inr, arith}
use Rattle.std.specs.List.{range_with_len, All}
use Rattle.std.proofs.lemmas.Bool.{cases_lt, cond-true, cond-false, lt-ltb, le-ltb}
use Rattle.std.proofs.lemmas.List.{get_or_append_left, get_or-append_right}
use Rattle.std.proofs.lemmas.List.Elements.{All-head, All-tail}
use Rattle.std.proofs.lemmas.List.FromFn.{length-range_with_len, get_or-range_with_len}
use Rattle.std.proofs.lemmas.List.Sums.{sum_by-cons}
use Rattle.fam_base.specs.declared.extents.Extent.{Extent}
use Rattle.fam_rules.specs.Place.{line_bytes, bytes_of_extents, total_length, simple_place, HasByte, IsIn}

-- within the first extent
pub simple_here : (x : Extent) (xs : List Extent) (o : ℕ) → o < x.length → simple_place (x ∷ xs) o ≡ x.offset + o
simple_here x xs o below = cond-true (ltb o x.length) (x.offset + o) (simple_place xs (o - x.length)) (lt-ltb o x.length below)

-- and past it
pub simple_further : (x : Extent) (xs : List Extent) (o : ℕ) → x.length ≤ o → simple_place (x ∷ xs) o ≡ simple_place xs (o - x.length)
simple_further x xs o past = cond-false (ltb o x.length) (x.offset + o) (simple_place xs (o - x.length)) (le-ltb o x.length past)

-- how many bytes are left behind the first extent
pub left_over : (x : Extent) (xs : List Extent) (o : ℕ) → x.length ≤ o → o < total_length (x ∷ xs) → o - x.length < total_length xs
left_over x xs o past below = omega (arith, sum_by-cons (λ (y : Extent). y.length) x xs)

-- a simple place is a byte of the extents laid end to end
pub simple_is_byte : (extents : List Extent) (o : ℕ) → o < total_length extents → simple_place extents o ≡ get_or (bytes_of_extents extents) o 0
simple_is_byte [] o below = absurd (omega arith)
simple_is_byte (x ∷ xs) o below =
    let bytes : List ℕ = range_with_len x.offset x.length in
    let count : length bytes ≡ x.length = length-range_with_len x.offset x.length in
    elim (cases_lt o x.length) [
      | inl here ↦
          simple_here x xs o here
          ∙ sym (get_or_append_left bytes (bytes_of_extents xs) 0 o (omega (arith, count)) ∙ get_or-range_with_len x.offset x.length o 0 here)
      | inr past ↦
          simple_further x xs o past
          ∙ simple_is_byte xs (o - x.length) (left_over x xs o past below)
          ∙ sym (get_or-append_right bytes (bytes_of_extents xs) x.length o 0 count past)
    ]

-- and lies in one of the extents
pub simple_in : (extents : List Extent) (o : ℕ) → o < total_length extents → IsIn extents (simple_place extents o)
simple_in [] o below = absurd (omega arith)
simple_in (x ∷ xs) o below =
    elim (cases_lt o x.length) [
      | inl here ↦ (0, x, omega arith, refl, record { from = omega (arith, simple_here x xs o here); to = omega (arith, simple_here x xs o here) })
      | inr past ↦
          let rest : IsIn xs (simple_place xs (o - x.length)) = simple_in xs (o - x.length) (left_over x xs o past below) in
          (suc rest.0, rest.1, omega (arith, rest.2), rest.3, subst (λ (b : ℕ). HasByte b rest.1) (sym (simple_further x xs o past)) rest.4)
    ]

-- an extent of whole lines
pub record IsLined (x : Extent) : Type 0 where
  pub offset : x.offset % line_bytes ≡ 0
  pub length : x.length % line_bytes ≡ 0

-- bytes that lie side by side, from the front of a line on
pub record OneLine (xs : List Extent) (o b : ℕ) : Type 0 where
  pub place : simple_place xs (o + b) ≡ simple_place xs o + b
  pub start : simple_place xs o % line_bytes ≡ 0

-- in extents of whole lines the bytes of a line do
pub simple_line : (xs : List Extent) (o b : ℕ) → All IsLined xs → o % line_bytes ≡ 0 → o < total_length xs → b < line_bytes → OneLine xs o b
simple_line [] o b lined offset below within = absurd (omega arith)
simple_line (x ∷ xs) o b lined offset below within =
    let head : IsLined x = All-head IsLined x xs lined in
    elim (cases_lt o x.length) [
      | inl here ↦
          let both : o + b < x.length = omega (arith, head.length) in
          record {
            place = omega (arith, simple_here x xs o here, simple_here x xs (o + b) both);
            start = omega (arith, simple_here x xs o here, head.offset);
          }
      | inr past ↦
          let left : o + b - x.length ≡ o - x.length + b = omega arith in
          let rest : OneLine xs (o - x.length) b = simple_line xs (o - x.length) b (All-tail IsLined x xs lined) (omega (arith, head.length)) (left_over x xs o past below) within in
          record {
            place = simple_further x xs (o + b) (omega arith)
                ∙ ap (λ (n : ℕ). simple_place xs n) left
                ∙ rest.place
                ∙ ap (λ (n : ℕ). n + b) (sym (simple_further x xs o past));
            start = ap (λ (n : ℕ). n % line_bytes) (simple_further x xs o past) ∙ rest.start;
          }
    ]
