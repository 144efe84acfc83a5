-- A line of a file beside a line of a content.
use Rattle.std.proofs.Common.{◌≡◌, ℕ, ◌+◌, ◌-◌, ◌*◌, ◌/◌, ◌%◌, ◌<◌, Bool, false, List, Option, Some, None, sym, ap, ◌∙◌, inl, inr, arith, eq-eqb}
use Rattle.std.specs.Prelude.{find, not, ◌==◌, min}
use Rattle.std.specs.List.{range_with_len}
use Rattle.std.proofs.lemmas.Bool.{cases_eq, ne_eqb, not_from_true, not_from_false}
use Rattle.fam_base.specs.declared.cmd.Content.{Content}
use Rattle.fam_rules.specs.Content.{byte_in, content_byte, content_line, fill, HoldsBytes}
use Rattle.fam_rules.proofs.ContentLines.{byte_of_fill, byte_of_line, fill_fits}
use Rattle.fam_content.specs.Difference.{DiffersAt, IsFirst}
use Rattle.fam_commands.proofs.Finds.{first_is, none_is, searched}

-- byte b of line j of a content
pub byte_of_content : (against : Content) (size j b : ℕ) → HoldsBytes against → b < 64 → 64 * j + b < size → byte_in (content_line against size j) b ≡ content_byte against (64 * j + b)
byte_of_content against size j b holds small below =
    let line : (64 * j + b) / 64 ≡ j = omega arith in
    let place : (64 * j + b) % 64 ≡ b = omega arith in
    ap (λ (l : ℕ). byte_in (content_line against size l) b) (sym line)
    ∙ ap (byte_in (content_line against size ((64 * j + b) / 64))) (sym place)
    ∙ byte_of_line (fill against size) (64 * j + b) (λ i. fill_fits against size i holds)
    ∙ byte_of_fill against size (64 * j + b) below

module _ (words wanted : List ℕ) (against : Content) (size j : ℕ) (holds : HoldsBytes against) (line : wanted ≡ content_line against size j) where
  -- byte b of the line isn't the content's
  abbrev pub differs : ℕ → Bool
  differs b = not (byte_in words b == content_byte against (64 * j + b))

  -- the first such byte below the size
  abbrev pub first_found : Option ℕ
  first_found = find differs (range_with_len 0 (min 64 (size - 64 * j)))

  wanted_byte : (b : ℕ) → b < 64 → 64 * j + b < size → byte_in wanted b ≡ content_byte against (64 * j + b)
  wanted_byte b small below = ap (λ (w : List ℕ). byte_in w b) line ∙ byte_of_content against size j b holds small below

  -- a byte at which the lines don't differ
  agrees : (b : ℕ) → b < 64 → 64 * j + b < size → (DiffersAt words wanted (64 * j) size (64 * j + b) → ⊥) → differs b ≡ false
  agrees b small below none =
      elim (cases_eq (byte_in words b) (content_byte against (64 * j + b))) [
        | inl same ↦ not_from_true _ (eq-eqb (byte_in words b) (content_byte against (64 * j + b)) same)
        | inr other ↦ absurd (none (record {
          from = omega arith;
          inside = omega arith;
          below = below;
          unlike = λ same.
              let place : (64 * j + b) % 64 ≡ b = omega arith in
              other (sym (ap (byte_in words) place) ∙ same ∙ ap (byte_in wanted) place ∙ wanted_byte b small below);
        }))
      ]

  -- no difference is found
  pub nothing_differs : ((o : ℕ) → DiffersAt words wanted (64 * j) size o → ⊥) → first_found ≡ None
  nothing_differs none =
      none_is differs (min 64 (size - 64 * j)) (λ b small. agrees b (omega arith) (omega arith) (none (64 * j + b))) first_found
      (searched differs (min 64 (size - 64 * j)) 0)

  -- the first difference, by its place in the line
  pub record Differing (o is should_be : ℕ) : Type 0 where
    pub at : ℕ
    pub place : o ≡ 64 * j + at
    pub found : first_found ≡ Some at
    pub byte_found : is ≡ byte_in words at
    pub byte_wanted : should_be ≡ content_byte against (64 * j + at)

  pub something_differs : (o is should_be : ℕ) → IsFirst words wanted (64 * j) size o is should_be → Differing o is should_be
  something_differs o is should_be first =
      let d : DiffersAt words wanted (64 * j) size o = first.differs in
      let from = d.from in
      let inside = d.inside in
      let below = d.below in
      let b : ℕ = o - 64 * j in
      let at : o ≡ 64 * j + b = omega arith in
      let small : b < 64 = omega arith in
      let place : o % 64 ≡ b = omega arith in
      let wanted_is : byte_in wanted b ≡ content_byte against (64 * j + b) = wanted_byte b small (omega arith) in
      record {
        at = b;
        place = at;
        found = first_is differs (min 64 (size - 64 * j)) b (omega arith)
            (not_from_false _ (ne_eqb (byte_in words b) (content_byte against (64 * j + b)) (λ same.
            d.unlike (ap (byte_in words) place ∙ same ∙ sym (ap (byte_in wanted) place ∙ wanted_is)))))
            (λ c less. agrees c (omega arith) (omega arith) (λ other. let least = first.least (64 * j + c) other in absurd (omega arith)))
            first_found (searched differs (min 64 (size - 64 * j)) 0);
        byte_found = first.byte_found ∙ ap (byte_in words) place;
        byte_wanted = first.byte_wanted ∙ ap (byte_in wanted) place ∙ wanted_is;
      }
