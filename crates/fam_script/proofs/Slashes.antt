-- The directories along a path, byte by byte.
use Rattle.std.proofs.Common.{◌≡◌, ℕ, ◌+◌, ◌<◌, Bool, true, cond, List, [], ◌∷◌, ◌++◌, length, get_or, take, drop, sym, ap, ◌∙◌, arith, append_assoc}
use Rattle.std.specs.Prelude.{◌==◌}
use Rattle.std.proofs.lemmas.Bool.{ne_eqb}
use Rattle.std.proofs.lemmas.List.{at_drop_more, at_drop_all, take_more, take_all}
use Rattle.fam_base.specs.Paths.{slash}
use Rattle.fam_outcomes.specs.Programs.{prefixes_behind}

module _ (bytes : List ℕ) (i : ℕ) (below : i < length bytes) where
  -- what is left from a byte on
  here : prefixes_behind (take i bytes) (drop i bytes) ≡ prefixes_behind (take i bytes) (get_or bytes i 0 ∷ drop (i + 1) bytes)
  here = at_drop_more (prefixes_behind (take i bytes)) bytes i 0 below

  -- and behind it
  more : prefixes_behind (take i bytes ++ get_or bytes i 0 ∷ []) (drop (i + 1) bytes) ≡ prefixes_behind (take (i + 1) bytes) (drop (i + 1) bytes)
  more = ap (λ (l : List ℕ). prefixes_behind l (drop (i + 1) bytes)) (sym (take_more bytes i 0 below))

  -- a slash ends a component
  pub at_slash : get_or bytes i 0 ≡ 47 → prefixes_behind (take i bytes) (drop i bytes) ≡ take i bytes ∷ prefixes_behind (take (i + 1) bytes) (drop (i + 1) bytes)
  at_slash is =
      here
      ∙ ap (λ (b : Bool). cond b (take i bytes ∷ prefixes_behind (take i bytes ++ get_or bytes i 0 ∷ []) (drop (i + 1) bytes))
      (prefixes_behind (take i bytes ++ get_or bytes i 0 ∷ []) (drop (i + 1) bytes)))
      (let e : (get_or bytes i 0 == slash) ≡ true = ap (λ (b : ℕ). b == slash) is in e)
      ∙ ap (λ (l : List (List ℕ)). take i bytes ∷ l) more

  -- and no other byte does
  pub at_other : (get_or bytes i 0 ≡ 47 → ⊥) → prefixes_behind (take i bytes) (drop i bytes) ≡ prefixes_behind (take (i + 1) bytes) (drop (i + 1) bytes)
  at_other is =
      here
      ∙ ap (λ (b : Bool). cond b (take i bytes ∷ prefixes_behind (take i bytes ++ get_or bytes i 0 ∷ []) (drop (i + 1) bytes))
      (prefixes_behind (take i bytes ++ get_or bytes i 0 ∷ []) (drop (i + 1) bytes))) (ne_eqb (get_or bytes i 0) slash is)
      ∙ more

  -- a slash adds the path before it
  pub slash_put : (old new all : List (List ℕ)) → get_or bytes i 0 ≡ 47 → new ≡ old ++ take i bytes ∷ [] → old ++ prefixes_behind (take i bytes) (drop i bytes) ≡ all
      → new ++ prefixes_behind (take (i + 1) bytes) (drop (i + 1) bytes) ≡ all
  slash_put old new all is put so_far =
      ap (λ (l : List (List ℕ)). l ++ prefixes_behind (take (i + 1) bytes) (drop (i + 1) bytes)) put
      ∙ append_assoc old (take i bytes ∷ []) (prefixes_behind (take (i + 1) bytes) (drop (i + 1) bytes))
      ∙ ap (λ (l : List (List ℕ)). old ++ l) (sym (at_slash is))
      ∙ so_far

  -- any other byte adds nothing
  pub other_put : (old all : List (List ℕ)) → (get_or bytes i 0 ≡ 47 → ⊥) → old ++ prefixes_behind (take i bytes) (drop i bytes) ≡ all
      → old ++ prefixes_behind (take (i + 1) bytes) (drop (i + 1) bytes) ≡ all
  other_put old all is so_far = ap (λ (l : List (List ℕ)). old ++ l) (sym (at_other is)) ∙ so_far

-- behind the last byte the path itself is left
pub at_end : (bytes : List ℕ) (i : ℕ) → i ≡ length bytes → prefixes_behind (take i bytes) (drop i bytes) ≡ bytes ∷ []
at_end bytes i is =
    at_drop_all (prefixes_behind (take i bytes)) bytes i (omega (arith, is)) ∙ ap (λ (l : List ℕ). l ∷ []) (take_all i bytes (omega (arith, is)))
