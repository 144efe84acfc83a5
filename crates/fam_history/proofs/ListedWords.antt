-- The words of an entry in print spell its parts.
use Rattle.std.proofs.Common.{◌≡◌, ℕ, zero, suc, ◌≤◌, Bool, true, false, cond, List, [], ◌∷◌, ◌++◌, length, Option, Some, None, codes, refl, ap, ap₂, sym, ◌∙◌, arith, length-append, decimal}
use Rattle.std.specs.Prelude.{◌==◌, option_map}
use Rattle.std.specs.Str.{bytes_eq}
use Rattle.std.proofs.lemmas.Bool.{eq-eqb, ne_eqb}
use Rattle.std.proofs.lemmas.List.Elements.{All-head, All-tail}
use Rattle.std.proofs.lemmas.Slice.Eq.{bytes_eq-Decides}
use Rattle.fam_base.specs.declared.entry.Kind.{Kind}
use Rattle.fam_base.specs.declared.entry.Kind.TheVariants.{File, Directory}
use Rattle.fam_base.specs.declared.entry.MapKind.{MapKind}
use Rattle.fam_base.specs.declared.entry.MapKind.TheVariants.{Empty, Simple, Striped}
use Rattle.fam_base.specs.declared.extents.Extent.{Extent}
use Rattle.fam_base.specs.ExtentLists.{extent_limit}
use Rattle.fam_tree.specs.Cuts.{back, front}
use Rattle.fam_tree.specs.Lines.{colon, comma, plus, extent_text, extents_text, kind_letter, map_text}
use Rattle.fam_tree.specs.Listings.{AreWordExtents, IsWord, IsWordExtent, MapListed}
use Rattle.fam_tree.proofs.Cutting.{back_found, front_found, front_none}
use Rattle.fam_tree.proofs.Printed.{No, decimal_first, decimal_no, extent_no, extents_first, extents_no, out_colon, out_comma, out_plus}
use Rattle.fam_tree.proofs.WordsRead.{fit_of}
use Rattle.fam_grammar.specs.Numbers.{number_of_text}
use Rattle.fam_grammar.proofs.Joined.{HasNoBlank, IsOneWord, no_blank-append}
use Rattle.fam_grammar.proofs.Respelled.{decimal_no_blank, decimal_word, number-decimal}
use Rattle.fam_history.specs.ListedEntries.{and_extents, behind_comma, extent_with, extents_up_to, listed_extent, listed_extents, listed_kind, listed_map, striped_with}

-- Kinds.

pub kind_back : (kind : Kind) → listed_kind (kind_letter kind) ≡ Some kind
kind_back File = refl
kind_back Directory = refl

pub kind_is : (kind : Kind) → IsOneWord (kind_letter kind)
kind_is File = (refl, tt)
kind_is Directory = (refl, tt)

-- Extents.

pub extent_back : (x : Extent) → IsWordExtent x → listed_extent (extent_text x) ≡ Some x
extent_back x fits =
    ap₂ (λ (a b : Option ℕ). extent_with a b)
    (ap number_of_text (front_found plus (decimal x.offset) (decimal x.length) (decimal_no plus out_plus x.offset fits.0)) ∙ number-decimal x.offset fits.0)
    (ap number_of_text (back_found plus (decimal x.offset) (decimal x.length) (decimal_no plus out_plus x.offset fits.0)) ∙ number-decimal x.length fits.1)

head_fits : (x : Extent) (xs : List Extent) → AreWordExtents (x ∷ xs) → IsWordExtent x
head_fits x xs all = All-head (λ (y : Extent). IsWordExtent y) x xs all

tail_fits : (x : Extent) (xs : List Extent) → AreWordExtents (x ∷ xs) → AreWordExtents xs
tail_fits x xs all = All-tail (λ (y : Extent). IsWordExtent y) x xs all

-- an extent has no comma
no_comma : (x : Extent) → IsWordExtent x → No comma (extent_text x)
no_comma x fits = extent_no comma out_comma (λ e. omega (arith, e)) x fits

-- a text is all that stands in front of a byte that it lacks
all_of_it : (mark : ℕ) (text : List ℕ) → No mark text → (length (front mark text) == length text) ≡ true
all_of_it mark text none = eq-eqb (length (front mark text)) (length text) (ap length (front_none mark text none))

-- and less than all where the byte follows
not_all : (mark : ℕ) (text more : List ℕ) → No mark text → (length (front mark (text ++ mark ∷ more)) == length (text ++ mark ∷ more)) ≡ false
not_all mark text more none =
    ne_eqb (length (front mark (text ++ mark ∷ more))) (length (text ++ mark ∷ more))
    (λ e. omega (arith, e, ap length (front_found mark text more none), length-append text (mark ∷ more)))

-- one extent, and those behind it
one_extent : (n : ℕ) (text : List ℕ) (x : Extent) (rest : Option (List ℕ)) → listed_extent (front comma text) ≡ Some x → behind_comma text ≡ rest
    → extents_up_to (suc n) (Some text) ≡ and_extents (Some x) (extents_up_to n rest)
one_extent n text x rest first behind = ap₂ (λ (o : Option Extent) (r : Option (List ℕ)). and_extents o (extents_up_to n r)) first behind

none_behind : (text : List ℕ) → No comma text → behind_comma text ≡ None
none_behind text none = ap (λ (t : Bool). cond t None (Some (back comma text))) (all_of_it comma text none)

more_behind : (text more : List ℕ) → No comma text → behind_comma (text ++ comma ∷ more) ≡ Some more
more_behind text more none =
    ap (λ (t : Bool). cond t None (Some (back comma (text ++ comma ∷ more)))) (not_all comma text more none)
    ∙ ap (λ (l : List ℕ). Some l) (back_found comma text more none)

row_back : (n : ℕ) (x : Extent) (xs : List Extent) → length (x ∷ xs) ≤ n → AreWordExtents (x ∷ xs) → extents_up_to n (Some (extents_text (x ∷ xs))) ≡ Some (x ∷ xs)
row_back zero x xs few fits = absurd (omega (arith, few))
row_back (suc n) x [] few fits =
    let fit : IsWordExtent x = head_fits x [] fits in
    one_extent n (extent_text x) x None (ap listed_extent (front_none comma (extent_text x) (no_comma x fit)) ∙ extent_back x fit) (none_behind (extent_text x) (no_comma x fit))
row_back (suc n) x (y ∷ xs) few fits =
    let fit : IsWordExtent x = head_fits x (y ∷ xs) fits in
    one_extent n (extent_text x ++ comma ∷ extents_text (y ∷ xs)) x (Some (extents_text (y ∷ xs)))
    (ap listed_extent (front_found comma (extent_text x) (extents_text (y ∷ xs)) (no_comma x fit)) ∙ extent_back x fit)
    (more_behind (extent_text x) (extents_text (y ∷ xs)) (no_comma x fit))
    ∙ ap (λ (o : Option (List Extent)). and_extents (Some x) o) (row_back n y xs (omega (arith, few)) (tail_fits x (y ∷ xs) fits))

pub extents_back : (xs : List Extent) → 1 ≤ length xs → length xs ≤ extent_limit → AreWordExtents xs → listed_extents (extents_text xs) ≡ Some xs
extents_back [] some few fits = absurd (omega (arith, some))
extents_back (x ∷ xs) some few fits = row_back extent_limit x xs few fits

-- Maps.

-- texts that differ aren't equal as bytes
other_bytes : (a b : List ℕ) → (a ≡ b → ⊥) → bytes_eq a b ≡ false
other_bytes a b other = cases (bytes_eq a b) refl
  where
    cases : (t : Bool) → bytes_eq a b ≡ t → bytes_eq a b ≡ false
    cases false e = e
    cases true e = absurd (other ((bytes_eq-Decides a b).0 e))

-- a map and its extents
abbrev mapped : MapKind → List Extent → Option (MapKind × List Extent)
mapped m xs = Some (m, xs)

-- extents of a map that isn't striped
abbrev simple_of : Option (List Extent) → Option (MapKind × List Extent)
simple_of extents = option_map (λ xs. (Simple, xs)) extents

-- a map by whether its text is `-`, and whether a colon is missing
abbrev map_by : Bool → Bool → List ℕ → Option (MapKind × List Extent)
map_by none whole text = cond none (Some (Empty, [])) (cond whole (simple_of (listed_extents text)) (striped_with (number_of_text (front colon text)) (listed_extents (back colon text))))

-- no colon stands in extents
no_colon : (xs : List Extent) → AreWordExtents xs → No colon (extents_text xs)
no_colon xs fits = extents_no colon out_colon (λ e. omega (arith, e)) (λ e. omega (arith, e)) xs (fit_of xs fits)

simple_back : (xs : List Extent) → 1 ≤ length xs → length xs ≤ extent_limit → AreWordExtents xs → listed_map (extents_text xs) ≡ mapped Simple xs
simple_back xs some few fits =
    let text : List ℕ = extents_text xs in
    ap (λ (t : Bool). map_by t (length (front colon text) == length text) text) (other_bytes text (codes "-") (λ e. extents_first xs [] some (fit_of xs fits) e))
    ∙ ap (λ (t : Bool). map_by false t text) (all_of_it colon text (no_colon xs fits))
    ∙ ap simple_of (extents_back xs some few fits)

striped_back : (chunk : ℕ) (xs : List Extent) → IsWord chunk → 1 ≤ length xs → length xs ≤ extent_limit → AreWordExtents xs
    → listed_map (decimal chunk ++ colon ∷ extents_text xs) ≡ mapped (Striped chunk) xs
striped_back chunk xs small some few fits =
    let text : List ℕ = decimal chunk ++ colon ∷ extents_text xs in
    let none : No colon (decimal chunk) = decimal_no colon out_colon chunk small in
    ap (λ (t : Bool). map_by t (length (front colon text) == length text) text) (other_bytes text (codes "-") (λ e. decimal_first chunk (colon ∷ extents_text xs) [] small e))
    ∙ ap (λ (t : Bool). map_by false t text) (not_all colon (decimal chunk) (extents_text xs) none)
    ∙ ap₂ striped_with (ap number_of_text (front_found colon (decimal chunk) (extents_text xs) none) ∙ number-decimal chunk small)
    (ap listed_extents (back_found colon (decimal chunk) (extents_text xs) none) ∙ extents_back xs some few fits)

-- a map's word is read as the map
pub map_back : (m : MapKind) (xs : List Extent) → MapListed m xs → AreWordExtents xs → listed_map (map_text m xs) ≡ Some (m, xs)
map_back Empty xs listed fits = ap (mapped Empty) (sym listed)
map_back Simple xs listed fits = simple_back xs listed.0 listed.1 fits
map_back (Striped chunk) xs listed fits = striped_back chunk xs listed.0 listed.1 listed.2 fits

-- A map's word as the code reads it.

pub dash_read : (text : List ℕ) (xs : List Extent) → bytes_eq text (codes "-") ≡ true → xs ≡ [] → mapped Empty xs ≡ listed_map text
dash_read text xs is none = ap (mapped Empty) none ∙ sym (ap (λ (t : Bool). map_by t (length (front colon text) == length text) text) is)

pub simple_read : (text first : List ℕ) (extents : Option (List Extent)) → bytes_eq text (codes "-") ≡ false → first ≡ front colon text → length first ≡ length text
    → extents ≡ listed_extents text → simple_of extents ≡ listed_map text
simple_read text first extents none cut whole read =
    ap simple_of read
    ∙ sym (ap (λ (t : Bool). map_by t (length (front colon text) == length text) text) none
    ∙ ap (λ (t : Bool). map_by false t text) (eq-eqb (length (front colon text)) (length text) (sym (ap length cut) ∙ whole)))

pub striped_read : (text first behind : List ℕ) (chunk : Option ℕ) (extents : Option (List Extent)) → bytes_eq text (codes "-") ≡ false → first ≡ front colon text
    → behind ≡ back colon text → (length first ≡ length text → ⊥) → chunk ≡ number_of_text first → extents ≡ listed_extents behind
    → striped_with chunk extents ≡ listed_map text
striped_read text first behind chunk extents none cut rest part number read =
    ap₂ striped_with (number ∙ ap number_of_text cut) (read ∙ ap listed_extents rest)
    ∙ sym (ap (λ (t : Bool). map_by t (length (front colon text) == length text) text) none
    ∙ ap (λ (t : Bool). map_by false t text) (ne_eqb (length (front colon text)) (length text) (λ e. part (ap length cut ∙ e))))

-- Each is a word.

-- bytes without a blank behind a word
word_and : (word bytes : List ℕ) → IsOneWord word → HasNoBlank bytes → IsOneWord (word ++ bytes)
word_and [] bytes is none = absurd is
word_and (b ∷ word) bytes is none = (is.0, no_blank-append word bytes is.1 none)

extent_word : (x : Extent) → IsWordExtent x → IsOneWord (extent_text x)
extent_word x fits = word_and (decimal x.offset) (plus ∷ decimal x.length) (decimal_word x.offset fits.0) (refl, decimal_no_blank x.length fits.1)

extent_free : (x : Extent) → IsWordExtent x → HasNoBlank (extent_text x)
extent_free x fits = no_blank-append (decimal x.offset) (plus ∷ decimal x.length) (decimal_no_blank x.offset fits.0) (refl, decimal_no_blank x.length fits.1)

extents_free : (xs : List Extent) → AreWordExtents xs → HasNoBlank (extents_text xs)
extents_free [] fits = tt
extents_free (x ∷ []) fits = extent_free x (head_fits x [] fits)
extents_free (x ∷ y ∷ xs) fits =
    no_blank-append (extent_text x) (comma ∷ extents_text (y ∷ xs)) (extent_free x (head_fits x (y ∷ xs) fits)) (refl, extents_free (y ∷ xs) (tail_fits x (y ∷ xs) fits))

extents_word : (xs : List Extent) → 1 ≤ length xs → AreWordExtents xs → IsOneWord (extents_text xs)
extents_word [] some fits = absurd (omega (arith, some))
extents_word (x ∷ []) some fits = extent_word x (head_fits x [] fits)
extents_word (x ∷ y ∷ xs) some fits =
    word_and (extent_text x) (comma ∷ extents_text (y ∷ xs)) (extent_word x (head_fits x (y ∷ xs) fits)) (refl, extents_free (y ∷ xs) (tail_fits x (y ∷ xs) fits))

pub map_is : (m : MapKind) (xs : List Extent) → MapListed m xs → AreWordExtents xs → IsOneWord (map_text m xs)
map_is Empty xs listed fits = (refl, tt)
map_is Simple xs listed fits = extents_word xs listed.0 fits
map_is (Striped chunk) xs listed fits = word_and (decimal chunk) (colon ∷ extents_text xs) (decimal_word chunk listed.0) (refl, extents_free xs fits)
