-- Bytes cut into paths, with one path more or less.
use Rattle.std.proofs.Common.{◌≡◌, ℕ, zero, suc, ◌<◌, ◌≤◌, List, [], ◌∷◌, ◌++◌, length, get_or, drop, Some, None, refl, sym, ap, subst, ◌∙◌, arith, length-append}
use Rattle.std.specs.Prelude.{IsTrue}
use Rattle.std.specs.List.{between, slice_get}
use Rattle.std.proofs.lemmas.List.{take-append-le, drop_at}
use Rattle.std.proofs.lemmas.Option.{slice_get_past}
use Rattle.std.proofs.lemmas.Slice.{between_is, between_to_end}
use Rattle.fam_base.specs.Paths.{is_path}
use Rattle.fam_plan.specs.Pieces.{pieces, IsPathAt, ArePaths}

-- Bytes with others behind them, and bytes that are cut back.

-- a part of those in front
between_front : (front behind : List ℕ) (i j : ℕ) → j ≤ length front → between i j (front ++ behind) ≡ between i j front
between_front front behind i j within =
    between_is (front ++ behind) i j ∙ ap (drop i) (take-append-le j front behind within) ∙ sym (between_is front i j)

-- those behind
between_behind : (front behind : List ℕ) → between (length front) (length (front ++ behind)) (front ++ behind) ≡ behind
between_behind front behind =
    between_to_end (front ++ behind) (length front) (length (front ++ behind)) (omega arith) ∙ drop_at front behind (length front) refl

-- a path in front stays
path_front : (front behind : List ℕ) (i j : ℕ) → IsPathAt front i j → IsPathAt (front ++ behind) i j
path_front front behind i j at = record {
  rises = at.rises;
  within = omega (arith, at.within, length-append front behind);
  path = subst (λ (l : List ℕ). IsTrue (is_path l)) (sym (between_front front behind i j at.within)) at.path;
}

-- a path that comes is behind
path_behind : (front path : List ℕ) → IsTrue (is_path path) → IsPathAt (front ++ path) (length front) (length (front ++ path))
path_behind front path is = record {
  rises = omega (arith, length-append front path);
  within = omega arith;
  path = subst (λ (l : List ℕ). IsTrue (is_path l)) (sym (between_behind front path)) is;
}

-- One path more.

module _ (front path : List ℕ) where
  -- it is a piece behind the others
  pieces_behind : (start : ℕ) (ends : List ℕ) → ArePaths front start ends → pieces (front ++ path) start (ends ++ length (front ++ path) ∷ []) ≡ pieces front start ends ++ path ∷ []
  pieces_behind start [] are =
      ap (λ (i : ℕ). between i (length (front ++ path)) (front ++ path) ∷ []) are ∙ ap (λ (l : List ℕ). l ∷ []) (between_behind front path)
  pieces_behind start (end ∷ ends) are =
      ap (λ (l : List ℕ). l ∷ pieces (front ++ path) end (ends ++ length (front ++ path) ∷ [])) (between_front front path start end are.0.within)
      ∙ ap (λ (l : List (List ℕ)). between start end front ∷ l) (pieces_behind end ends are.1)

  -- and all of them are paths
  paths_behind : (start : ℕ) (ends : List ℕ) → IsTrue (is_path path) → ArePaths front start ends → ArePaths (front ++ path) start (ends ++ length (front ++ path) ∷ [])
  paths_behind start [] is are =
      (subst (λ (i : ℕ). IsPathAt (front ++ path) i (length (front ++ path))) (sym are) (path_behind front path is), refl)
  paths_behind start (end ∷ ends) is are = (path_front front path start end are.0, paths_behind end ends is are.1)

-- its bytes are put behind those of the others, and its end behind their ends
module _ (bytes ends path longer more : List ℕ) (end : ℕ) (are : ArePaths bytes 0 ends) (is_longer : longer ≡ bytes ++ path) (is_more : more ≡ ends ++ end ∷ []) (is_end : end ≡ length longer) where
  -- it ends with the bytes
  more_is : more ≡ ends ++ length (bytes ++ path) ∷ []
  more_is = is_more ∙ ap (λ (i : ℕ). ends ++ i ∷ []) (is_end ∙ ap (λ (l : List ℕ). length l) is_longer)

  pub paths_more : IsTrue (is_path path) → ArePaths longer 0 more
  paths_more is =
      subst (λ (l : List ℕ). ArePaths l 0 more) (sym is_longer)
      (subst (ArePaths (bytes ++ path) 0) (sym more_is) (paths_behind bytes path 0 ends is are))

  pub pieces_more : pieces longer 0 more ≡ pieces bytes 0 ends ++ path ∷ []
  pieces_more =
      ap (λ (l : List ℕ). pieces l 0 more) is_longer ∙ ap (pieces (bytes ++ path) 0) more_is ∙ pieces_behind bytes path 0 ends are

-- The path at a place.

-- a piece for each end
pub length-pieces : (bytes : List ℕ) (start : ℕ) (ends : List ℕ) → length (pieces bytes start ends) ≡ length ends
length-pieces bytes start [] = refl
length-pieces bytes start (end ∷ ends) = ap suc (length-pieces bytes end ends)

-- the piece at a place: from the end of the one before it up to its own
pub piece_at : (bytes : List ℕ) (start : ℕ) (ends : List ℕ) (i : ℕ) → i < length ends → slice_get (pieces bytes start ends) i ≡ Some (between (get_or (start ∷ ends) i 0) (get_or ends i 0) bytes)
piece_at bytes start [] i below = absurd (omega arith)
piece_at bytes start (end ∷ ends) zero below = refl
piece_at bytes start (end ∷ ends) (suc i) below = piece_at bytes end ends i (omega (arith, below))

-- there is none past the last end
pub no_piece : (bytes : List ℕ) (ends : List ℕ) (i : ℕ) → length ends ≤ i → slice_get (pieces bytes 0 ends) i ≡ None
no_piece bytes ends i past = slice_get_past (pieces bytes 0 ends) i (omega (arith, past, length-pieces bytes 0 ends))

-- it is a path
pub path_at : (bytes : List ℕ) (start : ℕ) (ends : List ℕ) (i : ℕ) → i < length ends → ArePaths bytes start ends → IsPathAt bytes (get_or (start ∷ ends) i 0) (get_or ends i 0)
path_at bytes start [] i below are = absurd (omega arith)
path_at bytes start (end ∷ ends) zero below are = are.0
path_at bytes start (end ∷ ends) (suc i) below are = path_at bytes end ends i (omega (arith, below)) are.1
