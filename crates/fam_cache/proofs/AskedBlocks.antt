-- Which lines of blocks are asked, in the order of their numbers.
use Rattle.std.proofs.Common.{◌≡◌, ◌≢◌, ℕ, ◌+◌, ◌*◌, ◌/◌, ◌%◌, ◌<◌, ◌≤◌, inl, inr, sym, ap, ◌∙◌, arith}
use Rattle.std.proofs.lemmas.Bool.{cases_eq, cases_order, false≢true}
use Rattle.fam_machine.specs.Caches.{cell_at}
use Rattle.fam_machine.specs.OneLine.{IsAsked, is_asked}
use Rattle.fam_cache.specs.declared.blocks.Blocks.{Blocks}
use Rattle.fam_cache.specs.Blocks.{HasNone, IsBlockOf, IsFirstAsked, IsKept, NoneAsked, block_at, cell_in, lines_of}
use Rattle.fam_cache.proofs.BlockLemmas.{cell_none, cell_read}

module _ (c : Blocks) (kept : IsKept c) (first number next : ℕ) (none : NoneAsked first (16 * number) (lines_of c)) where
  -- a line whose block isn't there isn't asked
  absent_unasked : (q : ℕ) → HasNone c.blocks.items (q / 16) → IsAsked (cell_at (lines_of c) q) → ⊥
  absent_unasked q lacks asked = false≢true (sym (ap is_asked (cell_none c.blocks.items q lacks)) ∙ asked)

  -- none is asked up to the next block
  pub none_skipped : ((n : ℕ) → number ≤ n → n < next → HasNone c.blocks.items n) → NoneAsked first (16 * next) (lines_of c)
  none_skipped skipped q from below =
      elim (cases_order (q / 16) number) [
        | inl e ↦ absent_unasked q (skipped (q / 16) (omega (arith, e)) (omega (arith, below)))
        | inr d ↦ elim d [
          | inl up ↦ none q from (omega (arith, up))
          | inr down ↦ absent_unasked q (skipped (q / 16) (omega (arith, down)) (omega (arith, below)))
        ]
      ]

  -- none at all from there on
  pub none_behind : ((n : ℕ) → number ≤ n → HasNone c.blocks.items n) → (to : ℕ) → NoneAsked first to (lines_of c)
  none_behind lacks to q from below =
      elim (cases_order (q / 16) number) [
        | inl e ↦ absent_unasked q (lacks (q / 16) (omega (arith, e)))
        | inr d ↦ elim d [
          | inl up ↦ none q from (omega (arith, up))
          | inr down ↦ absent_unasked q (lacks (q / 16) (omega (arith, down)))
        ]
      ]

  module _ (skipped : (n : ℕ) → number ≤ n → n < next → HasNone c.blocks.items n) where
    -- none up to the last line
    pub none_to : (last : ℕ) → last / 16 < next → NoneAsked first (last + 1) (lines_of c)
    none_to last past q from below = none_skipped skipped q from (omega (arith, past, below))

    -- the next block isn't there
    pub none_there : HasNone c.blocks.items next → NoneAsked first (16 * (next + 1)) (lines_of c)
    none_there lacks q from below =
        elim (cases_eq (q / 16) next) [
          | inl e ↦ absent_unasked q (λ j within is. lacks j within (is ∙ e))
          | inr other ↦ none_skipped skipped q from (omega (arith, below, other))
        ]

    -- the next block is there
    module _ (at start : ℕ) (stands : IsBlockOf c.blocks.items at next) (here : next ≡ first / 16 → start ≡ first % 16) (later : next ≢ first / 16 → start ≡ 0) where
      read : (q : ℕ) → q / 16 ≡ next → cell_at (lines_of c) q ≡ cell_in (block_at c.blocks.items at) (q % 16)
      read q e = cell_read c kept at q (record { within = stands.within; is = stands.is ∙ sym e })

      unasked_below : (o : ℕ) → ((i : ℕ) → start ≤ i → i < o → IsAsked (cell_in (block_at c.blocks.items at) i) → ⊥) → (q : ℕ) → first ≤ q
          → q / 16 ≡ next → q % 16 < o → IsAsked (cell_at (lines_of c) q) → ⊥
      unasked_below o before q from e below asked =
          let least : start ≤ q % 16 = elim (cases_eq next (first / 16)) [
            | inl same ↦ omega (arith, here same, same, e, from)
            | inr other ↦ omega (arith, later other)
          ] in
          before (q % 16) least below (sym (ap is_asked (read q e)) ∙ asked)

      pub none_in_block : ((i : ℕ) → start ≤ i → i < 16 → IsAsked (cell_in (block_at c.blocks.items at) i) → ⊥) → NoneAsked first (16 * (next + 1)) (lines_of c)
      none_in_block before q from below =
          elim (cases_eq (q / 16) next) [
            | inl e ↦ unasked_below 16 before q from e (omega arith)
            | inr other ↦ none_skipped skipped q from (omega (arith, below, other))
          ]

      pub first_here : first / 16 ≤ next → (o : ℕ) → o < 16 → start ≤ o → IsAsked (cell_in (block_at c.blocks.items at) o)
          → ((i : ℕ) → start ≤ i → i < o → IsAsked (cell_in (block_at c.blocks.items at) i) → ⊥) →
          IsFirstAsked (lines_of c) first (next * 16 + o)
      first_here up o small from_there asked before =
          let number_is : (next * 16 + o) / 16 ≡ next = omega (arith, small) in
          let offset_is : (next * 16 + o) % 16 ≡ o = omega (arith, small) in
          record {
            from_there = elim (cases_eq next (first / 16)) [
              | inl same ↦ omega (arith, here same, same, from_there)
              | inr other ↦ omega (arith, up, other)
            ];
            asked = ap is_asked (read (next * 16 + o) number_is ∙ ap (cell_in (block_at c.blocks.items at)) offset_is) ∙ asked;
            none = λ q from below.
                elim (cases_eq (q / 16) next) [
                  | inl e ↦ unasked_below o before q from e (omega (arith, below, e, small))
                  | inr other ↦ none_skipped skipped q from (omega (arith, below, other, small))
                ];
          }
