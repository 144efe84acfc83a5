-- Words of a line, and the lines of a tree.
use Rattle.std.proofs.Common.{◌≡◌, Bool, false, cond, ℕ, suc, zero, ◌+◌, ◌^◌, ◌/◌, ◌%◌, ◌<◌, ◌≤◌, List, [], ◌∷◌, ◌++◌, take, refl, sym, ap, ◌∙◌, arith, append-nil, append_assoc, add-one}
use Rattle.std.specs.Prelude.{◌==◌, Option, Some, None, slice_get}
use Rattle.std.specs.FinMap as finmap
use Rattle.std.proofs.lemmas.Bool.Decides.{nat_tests}
use Rattle.fam_format.specs.Tree.{Tree}
use Rattle.std.specs.Fmt.{decimal}
use Rattle.std.specs.List.{flat_map}
use Rattle.std.proofs.lemmas.Fmt.{decimal_digit, decimal_step}
use Rattle.fam_base.specs.declared.extents.Extent.{Extent}
use Rattle.fam_base.specs.declared.entry.Entry.{Entry}
use Rattle.fam_base.specs.declared.entry.MapKind.{MapKind}
use Rattle.fam_base.specs.Escapes.{escaped}
use Rattle.fam_tree.specs.declared.lines.Told.{Told}
use Rattle.fam_tree.specs.FirstWords.{IsToldBy, first_words}
use Rattle.fam_tree.specs.Lines.{space, comma, line_feed, kind_letter, mode_text, map_text, extent_text, extents_text, entry_line, listing_line, listing}
use Rattle.fam_tree.specs.NextExtent.{next_form, next_text}

-- a number of one digit
pub decimal_small : (n : ℕ) → n < 10 → decimal n ≡ (48 + n % 10) ∷ []
decimal_small n small = let e : n ≡ n % 10 = omega arith in decimal_digit n small ∙ ap (λ (d : ℕ). (48 + d) ∷ []) e

-- what is put behind something
pub behind : (old a mid b new : List ℕ) → mid ≡ old ++ a → new ≡ mid ++ b → new ≡ old ++ (a ++ b)
behind old a mid b new first next = next ∙ ap (λ (l : List ℕ). l ++ b) first ∙ append_assoc old a b

-- the last digit behind the others
pub decimal_more : (n : ℕ) (old mid : List ℕ) → 10 ≤ n → n < 2 ^ 64 → mid ≡ old ++ decimal (n / 10) → mid ++ (48 + n % 10) ∷ [] ≡ old ++ decimal n
decimal_more n old mid large fits first =
    behind old (decimal (n / 10)) mid _ _ first refl ∙ ap (λ (l : List ℕ). old ++ l) (sym (decimal_step n large fits))

-- only the first extent has no comma
no_first : (i : ℕ) → (suc i == 0) ≡ false
no_first i = grind (arith, nat_tests)

same_later : (i : ℕ) (held : Option Extent) → next_form (suc i) held ≡ next_form (suc (suc i)) held
same_later i None = refl
same_later i (Some x) = ap (λ (b : Bool). cond b (extent_text x) (comma ∷ extent_text x)) (no_first i ∙ sym (no_first (suc i)))

-- one more extent
extents_suc : (extents : List Extent) (i : ℕ) → extents_text (take (suc i) extents) ≡ extents_text (take i extents) ++ next_text extents i
extents_suc [] zero = refl
extents_suc [] (suc i) = refl
extents_suc (x ∷ []) zero = refl
extents_suc (x ∷ []) (suc zero) = sym (append-nil _)
extents_suc (x ∷ []) (suc (suc i)) = sym (append-nil _)
extents_suc (x ∷ y ∷ rest) zero = refl
extents_suc (x ∷ y ∷ rest) (suc zero) = refl
extents_suc (x ∷ y ∷ rest) (suc (suc i)) =
    ap (λ (l : List ℕ). extent_text x ++ comma ∷ l)
    (extents_suc (y ∷ rest) (suc i) ∙ ap (λ (l : List ℕ). extents_text (take (suc i) (y ∷ rest)) ++ l) (same_later i (slice_get rest i)))
    ∙ sym (append_assoc (extent_text x) (comma ∷ extents_text (take (suc i) (y ∷ rest))) (next_text (x ∷ y ∷ rest) (suc (suc i))))

pub extents_more : (extents : List Extent) (i : ℕ) → extents_text (take (i + 1) extents) ≡ extents_text (take i extents) ++ next_text extents i
extents_more extents i = ap (λ (n : ℕ). extents_text (take n extents)) (add-one i) ∙ extents_suc extents i

module _ (old k m u g s t i1 i2 i3 i4 i5 i6 i7 i8 : List ℕ) where
  -- six words, the first two put at once and the others one behind another, each with a space behind it
  pub six_words : i1 ≡ old ++ (k ++ space ∷ (m ++ space ∷ [])) → i2 ≡ i1 ++ u → i3 ≡ i2 ++ space ∷ []
      → i4 ≡ i3 ++ g → i5 ≡ i4 ++ space ∷ [] → i6 ≡ i5 ++ s → i7 ≡ i6 ++ space ∷ [] → i8 ≡ i7 ++ t
      → i8 ++ space ∷ [] ≡ old ++ (k ++ space ∷ (m ++ space ∷ (u ++ space ∷ (g ++ space ∷ (s ++ space ∷ (t ++ space ∷ []))))))
  six_words h1 h2 h3 h4 h5 h6 h7 h8 =
      let e2 = behind old _ _ _ _ h1 h2 in
      let e3 = behind old _ _ _ _ e2 h3 in
      let e4 = behind old _ _ _ _ e3 h4 in
      let e5 = behind old _ _ _ _ e4 h5 in
      let e6 = behind old _ _ _ _ e5 h6 in
      let e7 = behind old _ _ _ _ e6 h7 in
      let e8 = behind old _ _ _ _ e7 h8 in
      behind old _ i8 _ _ e8 refl ∙ ap (λ (l : List ℕ). old ++ l) (simp append_assoc)

-- they are an entry's, where its parts are these
pub words_are : (e : Entry) → kind_letter e.kind
    ++ space ∷ (mode_text e.mode ++ space ∷
    (decimal e.uid ++ space ∷ (decimal e.gid ++ space ∷ (decimal e.size ++ space ∷ (map_text e.map e.extents ++ space ∷ []))))) ≡ first_words e
unfolding first_words
words_are e = refl

-- a line is these words and the path
line_of_words : (e : Entry) → first_words e ++ escaped e.path ≡ entry_line e
unfolding first_words entry_line
line_of_words e = simp append_assoc

pub entry_put : (old mid bytes : List ℕ) (e : Entry) → mid ≡ old ++ first_words e → bytes ≡ e.path → mid ++ escaped bytes ≡ old ++ entry_line e
entry_put old mid bytes e first path =
    behind old (first_words e) mid (escaped bytes) _ first refl
    ∙ ap (λ (l : List ℕ). old ++ (first_words e ++ escaped l)) path ∙ ap (λ (l : List ℕ). old ++ l) (line_of_words e)

-- and a line feed behind it
pub line_put : (old mid text bytes : List ℕ) (e : Entry) → mid ≡ old ++ first_words e → bytes ≡ e.path → text ≡ mid ++ escaped bytes
    → text ++ line_feed ∷ [] ≡ old ++ listing_line e
line_put old mid text bytes e first path put = behind old (entry_line e) text _ _ (put ∙ entry_put old mid bytes e first path) refl

-- two entries of which the same is told have the same words
pub told_alike : (a e : Entry) (told : Told) → IsToldBy a told → IsToldBy e told → first_words a ≡ first_words e
unfolding first_words
told_alike a e told ta te =
    let map : map_text a.map a.extents ≡ map_text e.map e.extents =
    ap (λ (m : MapKind). map_text m a.extents) ta.map ∙ sym (ap (λ (m : MapKind). map_text m e.extents) te.map) in
    rw (← ta.kind, ← ta.mode, ← ta.uid, ← ta.gid, ← ta.size, te.kind, te.mode, te.uid, te.gid, te.size, map) refl

-- a listing is its lines
pub listing_whole : (tree : Tree) → flat_map listing_line (finmap.values tree) ≡ listing tree
unfolding listing
listing_whole tree = refl
