-- The words of a line are read back.
use Rattle.std.proofs.Common.{◌≡◌, ◌≢◌, ℕ, ◌<◌, ◌≤◌, true, false, List, [], ◌∷◌, ◌++◌, length, inl, inr, refl, ap, sym, subst, ◌∙◌, arith, append-nil, append_assoc, length-append}
use Rattle.std.specs.Prelude.{◌==◌, Option, None, Some, slice_index}
use Rattle.std.specs.Fmt.{decimal}
use Rattle.std.specs.List.{join_with_byte}
use Rattle.std.specs.Str.{IsUtf8}
use Rattle.std.proofs.lemmas.Bool.{cases_Bool, eqb-true}
use Rattle.std.proofs.lemmas.Fmt.{IsAscii-decimal, decimal_nonempty}
use Rattle.std.proofs.lemmas.List.{get_or_at}
use Rattle.std.proofs.lemmas.List.Elements.{All-tail}
use Rattle.std.proofs.lemmas.Str.{IsUtf8-from_ascii}
use Rattle.fam_base.specs.declared.entry.Entry.{Entry}
use Rattle.fam_base.specs.declared.entry.MapKind.{MapKind}
use Rattle.fam_base.specs.declared.entry.MapKind.TheVariants.{Empty, Simple, Striped}
use Rattle.fam_base.specs.declared.extents.Extent.{Extent}
use Rattle.fam_base.specs.Escapes.{AreBytes, escaped, escaped_byte, is_plain}
use Rattle.fam_base.specs.ExtentLists.{extent_limit}
use Rattle.fam_base.specs.Paths.{is_path}
use Rattle.fam_base.proofs.PathLemmas.{parts_of_path}
use Rattle.fam_tree.specs.Cuts.{front, back}
use Rattle.fam_tree.specs.Lines.{colon, comma, plus, space, extent_text, extents_text, kind_letter, mode_text, map_text, entry_words, entry_line}
use Rattle.fam_tree.specs.Listings.{AreWordExtents, IsListed, IsWord, IsWordExtent, MapListed}
use Rattle.fam_tree.proofs.Cutting.{back_found, back_joined, back_none, front_found, front_joined, front_none}
use Rattle.fam_tree.proofs.Printed.{No, Fit, Words, decimal_first, decimal_no, extent_no, extents_first, extents_no, fit_head, out_colon, out_comma, out_plus, path_fits, words_no}

-- What is read is no guess.

pub none_some : {A : Type 0} (x : A) → None ≡ Some x → ⊥
none_some x is = cc

pub some_same : {A : Type 0} (x y : A) → Some x ≡ Some y → x ≡ y
some_same x y is = cc

-- Numbers.

-- a number in print is text
pub decimal_is_text : (word : List ℕ) (n : ℕ) → IsWord n → word ≡ decimal n → IsUtf8 word
decimal_is_text word n fits is = subst IsUtf8 (sym is) (IsUtf8-from_ascii (decimal n) (IsAscii-decimal n fits))

-- Extents.

pub fit_of : (xs : List Extent) → AreWordExtents xs → Fit xs
unfolding Fit
fit_of xs h = h

pub offset_read : (x : Extent) (word : List ℕ) → IsWordExtent x → word ≡ extent_text x → front plus word ≡ decimal x.offset
offset_read x word fits is = ap (front plus) is ∙ front_found plus (decimal x.offset) (decimal x.length) (decimal_no plus out_plus x.offset fits.0)

pub length_read : (x : Extent) (word : List ℕ) → IsWordExtent x → word ≡ extent_text x → back plus word ≡ decimal x.length
length_read x word fits is = ap (back plus) is ∙ back_found plus (decimal x.offset) (decimal x.length) (decimal_no plus out_plus x.offset fits.0)

-- an extent has no comma
lacks_comma : (x : Extent) → IsWordExtent x → No comma (extent_text x)
lacks_comma x fits = extent_no comma out_comma (λ e. omega (arith, e)) x fits

first_front : (x : Extent) (tail : List Extent) → IsWordExtent x → front comma (extents_text (x ∷ tail)) ≡ extent_text x
first_front x [] fits = front_none comma (extent_text x) (lacks_comma x fits)
first_front x (y ∷ tail) fits = front_found comma (extent_text x) (extents_text (y ∷ tail)) (lacks_comma x fits)

first_back : (x : Extent) (tail : List Extent) → IsWordExtent x → back comma (extents_text (x ∷ tail)) ≡ extents_text tail
first_back x [] fits = back_none comma (extent_text x) (lacks_comma x fits)
first_back x (y ∷ tail) fits = back_found comma (extent_text x) (extents_text (y ∷ tail)) (lacks_comma x fits)

-- the extents that are read so far, of those that a word has
pub record SoFar (xs done : List Extent) (rest : List ℕ) : Type 0 where
  pub more : List Extent
  pub all : xs ≡ done ++ more
  pub fits : AreWordExtents more
  pub left : rest ≡ extents_text more

-- the next of them
pub record Next (xs done : List Extent) (rest : List ℕ) : Type 0 where
  pub x : Extent
  pub tail : List Extent
  pub all : xs ≡ done ++ x ∷ tail
  pub fits : IsWordExtent x
  pub later : AreWordExtents tail
  pub first : front comma rest ≡ extent_text x
  pub left : back comma rest ≡ extents_text tail

module _ (xs done : List Extent) (rest : List ℕ) (so_far : SoFar xs done rest) where
  next_of : (more : List Extent) → xs ≡ done ++ more → AreWordExtents more → rest ≡ extents_text more → 0 < length rest → Next xs done rest
  next_of [] all fits left some = absurd (omega (arith, some, ap length left))
  next_of (x ∷ tail) all fits left some =
      let fit : IsWordExtent x = fit_head x tail (fit_of (x ∷ tail) fits) in
      record {
        x = x;
        tail = tail;
        all = all;
        fits = fit;
        later = All-tail (λ (y : Extent). IsWordExtent y) x tail fits;
        first = ap (front comma) left ∙ first_front x tail fit;
        left = ap (back comma) left ∙ first_back x tail fit;
      }

  -- where something is left
  pub next : 0 < length rest → Next xs done rest
  next some = next_of so_far.more so_far.all so_far.fits so_far.left some

  some_text : (x : Extent) (tail : List Extent) → IsWordExtent x → 0 < length (extents_text (x ∷ tail))
  some_text x [] fits = omega (arith, length-append (decimal x.offset) (plus ∷ decimal x.length), decimal_nonempty x.offset fits.0)
  some_text x (y ∷ tail) fits = omega (arith, length-append (extent_text x) (comma ∷ extents_text (y ∷ tail)))

  whole_of : (more : List Extent) → xs ≡ done ++ more → AreWordExtents more → rest ≡ extents_text more → length rest ≡ 0 → xs ≡ done
  whole_of [] all fits left none = all ∙ append-nil done
  whole_of (x ∷ tail) all fits left none = absurd (omega (arith, none, ap length left, some_text x tail (fit_head x tail (fit_of (x ∷ tail) fits))))

  -- where nothing is
  pub whole : length rest ≡ 0 → xs ≡ done
  whole none = whole_of so_far.more so_far.all so_far.fits so_far.left none

-- one extent more
pub so_far_more : (xs done longer : List Extent) (rest more : List ℕ) (x : Extent) (n : Next xs done rest) → x ≡ n.x → longer ≡ done ++ x ∷ [] → more ≡ back comma rest → SoFar xs longer more
so_far_more xs done longer rest more x n same pushed behind = record {
  more = n.tail;
  all = n.all ∙ sym (append_assoc done (n.x ∷ []) n.tail) ∙ ap (λ (l : List Extent). l ++ n.tail) (ap (λ (y : Extent). done ++ y ∷ []) (sym same) ∙ sym pushed);
  fits = n.later;
  left = behind ∙ n.left;
}

-- there is no seventeenth
pub too_many : (xs done : List Extent) (rest : List ℕ) → Next xs done rest → length xs ≤ extent_limit → extent_limit ≤ length done → ⊥
too_many xs done rest n few full = omega (arith, few, full, ap length n.all, length-append done (n.x ∷ n.tail))

-- Maps.

not_dash : (word : List ℕ) → ((v : List ℕ) → word ≡ 0x2d ∷ v → ⊥) → (slice_index word 0 == 0x2d) ≡ true → ⊥
not_dash [] none is = absurd (cc)
not_dash (b ∷ v) none is = none v (ap (λ (d : ℕ). d ∷ v) (eqb-true b 0x2d is))

dash_is : (word : List ℕ) → word ≡ 0x2d ∷ [] → (slice_index word 0 == 0x2d) ≡ true
dash_is word is = ap (λ (w : List ℕ). slice_index w 0 == 0x2d) is

-- the word of a map, by its first byte and its colon
pub record IsEmptyMap (m : MapKind) (xs : List Extent) : Type 0 where
  pub map : m ≡ Empty
  pub extents : xs ≡ []

pub record IsSimpleMap (word : List ℕ) (m : MapKind) (xs : List Extent) : Type 0 where
  pub map : m ≡ Simple
  pub text : word ≡ extents_text xs
  pub some : 1 ≤ length xs
  pub few : length xs ≤ extent_limit

pub record IsStripedMap (word : List ℕ) (m : MapKind) (xs : List Extent) : Type 0 where
  pub chunk : ℕ
  pub map : m ≡ Striped chunk
  pub fits : IsWord chunk
  pub first : front colon word ≡ decimal chunk
  pub text : back colon word ≡ extents_text xs
  pub some : 1 ≤ length xs
  pub few : length xs ≤ extent_limit

module _ (xs : List Extent) (word : List ℕ) (fits : AreWordExtents xs) where
  simple_first : 1 ≤ length xs → word ≡ extents_text xs → (slice_index word 0 == 0x2d) ≡ true → ⊥
  simple_first some is dash = not_dash word (λ v e. extents_first xs v some (fit_of xs fits) (sym is ∙ e)) dash

  striped_first : (chunk : ℕ) → IsWord chunk → word ≡ decimal chunk ++ colon ∷ extents_text xs → (slice_index word 0 == 0x2d) ≡ true → ⊥
  striped_first chunk fit is dash = not_dash word (λ v e. decimal_first chunk (colon ∷ extents_text xs) v fit (sym is ∙ e)) dash

  lacks_colon : No colon (extents_text xs)
  lacks_colon = extents_no colon out_colon (λ e. omega (arith, e)) (λ e. omega (arith, e)) xs (fit_of xs fits)

  striped_front : (chunk : ℕ) → IsWord chunk → word ≡ decimal chunk ++ colon ∷ extents_text xs → front colon word ≡ decimal chunk
  striped_front chunk fit is = ap (front colon) is ∙ front_found colon (decimal chunk) (extents_text xs) (decimal_no colon out_colon chunk fit)

  striped_back : (chunk : ℕ) → IsWord chunk → word ≡ decimal chunk ++ colon ∷ extents_text xs → back colon word ≡ extents_text xs
  striped_back chunk fit is = ap (back colon) is ∙ back_found colon (decimal chunk) (extents_text xs) (decimal_no colon out_colon chunk fit)

  pub empty_read : (m : MapKind) → MapListed m xs → word ≡ map_text m xs → (slice_index word 0 == 0x2d) ≡ true → IsEmptyMap m xs
  empty_read Empty listed is dash = record { map = refl; extents = listed }
  empty_read Simple listed is dash = absurd (simple_first listed.0 is dash)
  empty_read (Striped chunk) listed is dash = absurd (striped_first chunk listed.0 is dash)

  pub simple_read : (m : MapKind) → MapListed m xs → word ≡ map_text m xs → (slice_index word 0 == 0x2d) ≡ false → length (front colon word) ≡ length word → IsSimpleMap word m xs
  simple_read Empty listed is dash same = absurd (let e : true ≡ false = sym (dash_is word is) ∙ dash in cc)
  simple_read Simple listed is dash same = record { map = refl; text = is; some = listed.0; few = listed.1 }
  simple_read (Striped chunk) listed is dash same =
      absurd (omega (arith, same, ap length (striped_front chunk listed.0 is), ap length is, length-append (decimal chunk) (colon ∷ extents_text xs)))

  pub striped_read : (m : MapKind) → MapListed m xs → word ≡ map_text m xs → (slice_index word 0 == 0x2d) ≡ false → length (front colon word) ≢ length word → IsStripedMap word m xs
  striped_read Empty listed is dash other = absurd (let e : true ≡ false = sym (dash_is word is) ∙ dash in cc)
  striped_read Simple listed is dash other = absurd (other (ap length (ap (front colon) is ∙ front_none colon (extents_text xs) lacks_colon ∙ sym is)))
  striped_read (Striped chunk) listed is dash other = record {
    chunk = chunk;
    map = refl;
    fits = listed.0;
    first = striped_front chunk listed.0 is;
    text = striped_back chunk listed.0 is;
    some = listed.1;
    few = listed.2;
  }

-- Paths.

-- the bytes that are read so far, of those that a word stands for
pub record BytesSoFar (path done : List ℕ) (rest : List ℕ) : Type 0 where
  pub more : List ℕ
  pub all : path ≡ done ++ more
  pub left : rest ≡ escaped more

pub record NextByte (path done : List ℕ) (rest : List ℕ) : Type 0 where
  pub byte : ℕ
  pub tail : List ℕ
  pub all : path ≡ done ++ byte ∷ tail
  pub small : byte < 256
  pub first : rest ≡ escaped_byte byte ++ escaped tail

byte_inside : (done : List ℕ) (b : ℕ) (tail path : List ℕ) → AreBytes path → path ≡ done ++ b ∷ tail → b < 256
byte_inside done b tail path all is =
    subst (λ (n : ℕ). n < 256) (get_or_at done b tail 0 (length done) refl)
    (subst (λ (l : List ℕ). AreBytes l) is all (length done) 0 (omega (arith, length-append done (b ∷ tail))))

module _ (path done rest : List ℕ) (proper : is_path path ≡ true) (so_far : BytesSoFar path done rest) where
  next_byte_of : (more : List ℕ) → path ≡ done ++ more → rest ≡ escaped more → 0 < length rest → NextByte path done rest
  unfolding escaped
  next_byte_of [] all left some = absurd (omega (arith, some, ap length left))
  next_byte_of (b ∷ tail) all left some = record { byte = b; tail = tail; all = all; small = byte_inside done b tail path (path_fits path proper) all; first = left }

  pub next_byte : 0 < length rest → NextByte path done rest
  next_byte some = next_byte_of so_far.more so_far.all so_far.left some

  some_byte : (b : ℕ) (tail : List ℕ) → 0 < length (escaped (b ∷ tail))
  unfolding escaped
  some_byte b tail = elim (cases_Bool (is_plain b)) [
    | inl plain ↦ rw plain (omega arith)
    | inr code ↦ rw code (omega arith)
  ]

  whole_path_of : (more : List ℕ) → path ≡ done ++ more → rest ≡ escaped more → length rest ≡ 0 → path ≡ done
  whole_path_of [] all left none = all ∙ append-nil done
  whole_path_of (b ∷ tail) all left none = absurd (omega (arith, none, ap length left, some_byte b tail))

  pub whole_path : length rest ≡ 0 → path ≡ done
  whole_path none = whole_path_of so_far.more so_far.all so_far.left none

pub bytes_more : (path done longer rest more : List ℕ) (b : ℕ) (n : NextByte path done rest) → b ≡ n.byte → longer ≡ done ++ b ∷ [] → more ≡ escaped n.tail → BytesSoFar path longer more
bytes_more path done longer rest more b n same pushed behind = record {
  more = n.tail;
  all = n.all ∙ sym (append_assoc done (n.byte ∷ []) n.tail) ∙ ap (λ (l : List ℕ). l ++ n.tail) (ap (λ (d : ℕ). done ++ d ∷ []) (sym same) ∙ sym pushed);
  left = behind;
}

-- Values that are read.

pub extent_made : (x : Extent) (offset len : ℕ) → offset ≡ x.offset → len ≡ x.length → ◌≡◌ {A = Option Extent} (Some (record { offset = offset; length = len })) (Some x)
extent_made x offset len a b = λ i. Some (record { offset = a i; length = b i })

pub map_made : (m n : MapKind) (xs ys : List Extent) → m ≡ n → xs ≡ ys → ◌≡◌ {A = Option (MapKind × List Extent)} (Some (m, xs)) (Some (n, ys))
map_made m n xs ys a b = λ i. Some (a i, b i)

-- Lines.

-- the words of a line, cut off one by one
pub record WordsFound (e : Entry) (k m u g s t p : List ℕ) : Type 0 where
  pub kind : k ≡ kind_letter e.kind
  pub mode : m ≡ mode_text e.mode
  pub uid : u ≡ decimal e.uid
  pub gid : g ≡ decimal e.gid
  pub size : s ≡ decimal e.size
  pub map : t ≡ map_text e.map e.extents
  pub path : p ≡ escaped e.path

words_joined : (e : Entry) → entry_line e ≡ join_with_byte space (entry_words e)
unfolding entry_line
words_joined e = refl

module _ (text w x : List ℕ) (more : List (List ℕ)) (is : text ≡ join_with_byte space (w ∷ x ∷ more)) (none : No space w) where
  word_read : front space text ≡ w
  word_read = ap (front space) is ∙ front_joined space w x more none

  rest_read : back space text ≡ join_with_byte space (x ∷ more)
  rest_read = ap (back space) is ∙ back_joined space w x more none

pub words_found : (e : Entry) → IsListed e → (line r1 r2 r3 r4 r5 k m u g s t p : List ℕ) → line ≡ entry_line e → k ≡ front space line
    → r1 ≡ back space line → m ≡ front space r1 → r2 ≡ back space r1 → u ≡ front space r2 → r3 ≡ back space r2 → g ≡ front space r3
    → r4 ≡ back space r3 → s ≡ front space r4 → r5 ≡ back space r4 → t ≡ front space r5 → p ≡ back space r5 → WordsFound e k m u g s t p
unfolding Words
words_found e listed line r1 r2 r3 r4 r5 k m u g s t p is ka k1 ma m2 ua u3 ga g4 sa s5 ta pa =
    let w = words_no e listed in
    let w0 : List ℕ = kind_letter e.kind in
    let w1 : List ℕ = mode_text e.mode in
    let w2 : List ℕ = decimal e.uid in
    let w3 : List ℕ = decimal e.gid in
    let w4 : List ℕ = decimal e.size in
    let w5 : List ℕ = map_text e.map e.extents in
    let w6 : List ℕ = escaped e.path in
    let e0 : line ≡ join_with_byte space (w0 ∷ w1 ∷ w2 ∷ w3 ∷ w4 ∷ w5 ∷ w6 ∷ []) = is ∙ words_joined e in
    let e1 : r1 ≡ join_with_byte space (w1 ∷ w2 ∷ w3 ∷ w4 ∷ w5 ∷ w6 ∷ []) = k1 ∙ rest_read line w0 w1 (w2 ∷ w3 ∷ w4 ∷ w5 ∷ w6 ∷ []) e0 w.0 in
    let e2 : r2 ≡ join_with_byte space (w2 ∷ w3 ∷ w4 ∷ w5 ∷ w6 ∷ []) = m2 ∙ rest_read r1 w1 w2 (w3 ∷ w4 ∷ w5 ∷ w6 ∷ []) e1 w.1.0 in
    let e3 : r3 ≡ join_with_byte space (w3 ∷ w4 ∷ w5 ∷ w6 ∷ []) = u3 ∙ rest_read r2 w2 w3 (w4 ∷ w5 ∷ w6 ∷ []) e2 w.1.1.0 in
    let e4 : r4 ≡ join_with_byte space (w4 ∷ w5 ∷ w6 ∷ []) = g4 ∙ rest_read r3 w3 w4 (w5 ∷ w6 ∷ []) e3 w.1.1.1.0 in
    let e5 : r5 ≡ join_with_byte space (w5 ∷ w6 ∷ []) = s5 ∙ rest_read r4 w4 w5 (w6 ∷ []) e4 w.1.1.1.1.0 in
    record {
      kind = ka ∙ word_read line w0 w1 (w2 ∷ w3 ∷ w4 ∷ w5 ∷ w6 ∷ []) e0 w.0;
      mode = ma ∙ word_read r1 w1 w2 (w3 ∷ w4 ∷ w5 ∷ w6 ∷ []) e1 w.1.0;
      uid = ua ∙ word_read r2 w2 w3 (w4 ∷ w5 ∷ w6 ∷ []) e2 w.1.1.0;
      gid = ga ∙ word_read r3 w3 w4 (w5 ∷ w6 ∷ []) e3 w.1.1.1.0;
      size = sa ∙ word_read r4 w4 w5 (w6 ∷ []) e4 w.1.1.1.1.0;
      map = ta ∙ word_read r5 w5 w6 [] e5 w.1.1.1.1.1.0;
      path = pa ∙ rest_read r5 w5 w6 [] e5 w.1.1.1.1.1.0;
    }

-- a path of more than 512 bytes is none
pub too_long : (path done : List ℕ) (rest : List ℕ) → is_path path ≡ true → NextByte path done rest → length done ≡ 512 → ⊥
too_long path done rest proper n full =
    omega (arith, (parts_of_path path proper).fits, full, ap length n.all, length-append done (n.byte ∷ n.tail))
