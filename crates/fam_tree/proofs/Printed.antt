-- No two entries have one line.
use Prim.Native.Nat.{zero, suc}
use Rattle.std.proofs.Common.{◌≡◌, ◌≢◌, ℕ, ◌+◌, ◌/◌, ◌^◌, ◌<◌, ◌≤◌, true, List, [], ◌∷◌, ◌++◌, length, map, refl, ap, ap₂, sym, ◌∙◌, subst, arith}
use Rattle.std.specs.Prelude.{⊤, All}
use Rattle.std.specs.Fmt.{decimal}
use Rattle.std.specs.List.{join_with_byte, AllByRecursion}
use Rattle.std.specs.Int.Digits.{digits_of}
use Rattle.std.proofs.lemmas.Fmt.{decimal-digits_of, decimal_digit, decimal_injective, decimal_nonempty}
use Rattle.std.proofs.lemmas.Int.Digits.{all_below_base_digits_of}
use Rattle.std.proofs.lemmas.List.{append_assoc}
use Rattle.std.proofs.lemmas.List.Elements.{All-from_get_or, All-head, All-tail}
use Rattle.fam_base.specs.declared.entry.Entry.{Entry}
use Rattle.fam_base.specs.declared.entry.Kind.{Kind}
use Rattle.fam_base.specs.declared.entry.Kind.TheVariants.{File, Directory}
use Rattle.fam_base.specs.declared.entry.MapKind.{MapKind}
use Rattle.fam_base.specs.declared.entry.MapKind.TheVariants.{Empty, Simple, Striped}
use Rattle.fam_base.specs.declared.extents.Extent.{Extent}
use Rattle.fam_base.specs.Escapes.{AreBytes, IsVisible, escaped}
use Rattle.fam_base.proofs.EscapeLemmas.{escaped_once, escaped_visible}
use Rattle.fam_base.proofs.PathLemmas.{path_bytes_fit}
use Rattle.fam_tree.specs.Lines.{colon, comma, entry_line, entry_words, extent_text, extents_text, kind_letter, map_text, mode_text, octal_digit, plus, space}
use Rattle.fam_tree.specs.Listings.{IsListed, IsWord, MapListed}

-- a byte that doesn't stand in a text
unfoldable pub No : ℕ → List ℕ → Type 0
No c [] = ⊤
No c (b ∷ x) = (b ≢ c) × No c x

pub no_both : (c : ℕ) (x y : List ℕ) → No c x → No c y → No c (x ++ y)
unfolding No
no_both c [] y nx ny = ny
no_both c (b ∷ x) y nx ny = (nx.0, no_both c x y nx.1 ny)

-- two texts are cut at the first such byte
pub cut : (c : ℕ) (x y u v : List ℕ) → No c x → No c y → x ++ c ∷ u ≡ y ++ c ∷ v → (x ≡ y) × (u ≡ v)
unfolding No
cut c [] [] u v nx ny e = (refl, cc)
cut c [] (b ∷ y) u v nx ny e = absurd (ny.0 (sym cc))
cut c (a ∷ x) [] u v nx ny e = absurd (nx.0 cc)
cut c (a ∷ x) (b ∷ y) u v nx ny e =
    let tails : x ++ c ∷ u ≡ y ++ c ∷ v = cc in
    let heads : a ≡ b = cc in
    let rest = cut c x y u v nx.1 ny.1 tails in
    (ap₂ (λ (h : ℕ) (t : List ℕ). h ∷ t) heads rest.0, rest.1)

-- a text without it is no such text
pub uncut : (c : ℕ) (x y u : List ℕ) → No c y → x ++ c ∷ u ≡ y → ⊥
unfolding No
uncut c [] [] u ny e = absurd cc
uncut c [] (b ∷ y) u ny e = ny.0 (sym cc)
uncut c (a ∷ x) [] u ny e = absurd cc
uncut c (a ∷ x) (b ∷ y) u ny e = uncut c x y u ny.1 cc

-- words without the byte between them
unfoldable pub Words : ℕ → List (List ℕ) → Type 0
Words c [] = ⊤
Words c (x ∷ xs) = No c x × Words c xs

join_once : (c : ℕ) (x y : List ℕ) (xs ys : List (List ℕ)) → Words c (x ∷ xs) → Words c (y ∷ ys) → join_with_byte c (x ∷ xs) ≡ join_with_byte c (y ∷ ys) → (x ∷ xs) ≡ (y ∷ ys)
unfolding Words
join_once c x y [] [] nx ny e = ap (λ z. z ∷ []) e
join_once c x y [] (b ∷ ys) nx ny e = absurd (uncut c y x (join_with_byte c (b ∷ ys)) nx.0 (sym e))
join_once c x y (a ∷ xs) [] nx ny e = absurd (uncut c x y (join_with_byte c (a ∷ xs)) ny.0 e)
join_once c x y (a ∷ xs) (b ∷ ys) nx ny e =
    let parts = cut c x y (join_with_byte c (a ∷ xs)) (join_with_byte c (b ∷ ys)) nx.0 ny.0 e in
    let rest = join_once c a b xs ys nx.1 ny.1 parts.1 in
    ap₂ (λ (h : List ℕ) (t : List (List ℕ)). h ∷ t) parts.0 rest

-- Numbers.

unfoldable pub IsOut : ℕ → Type 0
IsOut c = (d : ℕ) → d < 10 → 48 + d ≢ c

digits_no : (c : ℕ) → IsOut c → (ds : List ℕ) → AllByRecursion (λ d. d < 10) ds → No c (map (λ d. 48 + d) ds)
unfolding No IsOut
digits_no c out [] all = tt
digits_no c out (d ∷ ds) all = (out d all.0, digits_no c out ds all.1)

pub decimal_no : (c : ℕ) → IsOut c → (n : ℕ) → n < 2 ^ 64 → No c (decimal n)
unfolding No IsOut
decimal_no c out zero fits = subst (No c) (sym (decimal_digit 0 (omega arith))) (out 0 (omega arith), tt)
decimal_no c out (suc n) fits =
    subst (No c) (sym (decimal-digits_of (suc n) (omega arith) fits)) (digits_no c out (digits_of 10 (suc n)) (all_below_base_digits_of 10 (suc n) (omega arith)))

-- the bytes between numbers and words
pub out_space : IsOut space
unfolding IsOut
out_space d below e = omega (arith, e)

pub out_plus : IsOut plus
unfolding IsOut
out_plus d below e = omega (arith, e)

pub out_comma : IsOut comma
unfolding IsOut
out_comma d below e = omega (arith, e)

pub out_colon : IsOut colon
unfolding IsOut
out_colon d below e = omega (arith, e)

-- a number's text doesn't begin with the sign of no map
pub decimal_first : (n : ℕ) (u v : List ℕ) → n < 2 ^ 64 → decimal n ++ u ≡ 0x2d ∷ v → ⊥
unfolding No IsOut
decimal_first n u v fits e = go (decimal n) (decimal_no 0x2d (λ d below e. omega (arith, e)) n fits) (decimal_nonempty n fits) e
  where
    go : (x : List ℕ) → No 0x2d x → 0 < length x → x ++ u ≡ 0x2d ∷ v → ⊥
    go [] none some e = omega (arith, some)
    go (b ∷ x) none some e = none.0 cc

-- Extents.

extent_once : (a b : Extent) → IsWord a.offset × IsWord a.length → IsWord b.offset × IsWord b.length → extent_text a ≡ extent_text b → a ≡ b
extent_once a b fits_a fits_b e =
    let parts = cut plus (decimal a.offset) (decimal b.offset) (decimal a.length) (decimal b.length) (decimal_no plus out_plus a.offset fits_a.0) (decimal_no plus out_plus b.offset fits_b.0) e in
    ap₂ (λ (x y : ℕ). record { offset = x; length = y }) (decimal_injective a.offset b.offset fits_a.0 fits_b.0 parts.0) (decimal_injective a.length b.length fits_a.1 fits_b.1 parts.1)

pub extent_no : (c : ℕ) → IsOut c → plus ≢ c → (x : Extent) → IsWord x.offset × IsWord x.length → No c (extent_text x)
unfolding No
extent_no c out other x fits = no_both c (decimal x.offset) (plus ∷ decimal x.length) (decimal_no c out x.offset fits.0) (other, decimal_no c out x.length fits.1)

unfoldable pub Fit : List Extent → Type 0
Fit xs = All (λ (x : Extent). IsWord x.offset × IsWord x.length) xs

pub fit_head : (x : Extent) (xs : List Extent) → Fit (x ∷ xs) → IsWord x.offset × IsWord x.length
unfolding Fit
fit_head x xs all = All-head (λ (x : Extent). IsWord x.offset × IsWord x.length) x xs all

pub fit_tail : (x : Extent) (xs : List Extent) → Fit (x ∷ xs) → Fit xs
unfolding Fit
fit_tail x xs all = All-tail (λ (x : Extent). IsWord x.offset × IsWord x.length) x xs all

extents_words : (xs : List Extent) → Fit xs → Words comma (map extent_text xs)
unfolding Words
extents_words [] fits = tt
extents_words (x ∷ xs) fits = (extent_no comma out_comma (λ e. omega (arith, e)) x (fit_head x xs fits), extents_words xs (fit_tail x xs fits))

texts_once : (xs ys : List Extent) → Fit xs → Fit ys → map extent_text xs ≡ map extent_text ys → xs ≡ ys
texts_once [] [] fx fy e = refl
texts_once [] (y ∷ ys) fx fy e = absurd cc
texts_once (x ∷ xs) [] fx fy e = absurd cc
texts_once (x ∷ xs) (y ∷ ys) fx fy e =
    let heads : extent_text x ≡ extent_text y = cc in
    let tails : map extent_text xs ≡ map extent_text ys = cc in
    ap₂ (λ (h : Extent) (t : List Extent). h ∷ t) (extent_once x y (fit_head x xs fx) (fit_head y ys fy) heads) (texts_once xs ys (fit_tail x xs fx) (fit_tail y ys fy) tails)

extents_once : (xs ys : List Extent) → 1 ≤ length xs → 1 ≤ length ys → Fit xs → Fit ys → extents_text xs ≡ extents_text ys → xs ≡ ys
extents_once [] ys some_x some_y fx fy e = absurd (omega (arith, some_x))
extents_once (x ∷ xs) [] some_x some_y fx fy e = absurd (omega (arith, some_y))
extents_once (x ∷ xs) (y ∷ ys) some_x some_y fx fy e =
    texts_once (x ∷ xs) (y ∷ ys) fx fy (join_once comma (extent_text x) (extent_text y) (map extent_text xs) (map extent_text ys) (extents_words (x ∷ xs) fx) (extents_words (y ∷ ys) fy) e)

-- no such byte in a row of extents
pub extents_no : (c : ℕ) → IsOut c → plus ≢ c → comma ≢ c → (xs : List Extent) → Fit xs → No c (extents_text xs)
unfolding No
extents_no c out no_plus no_comma [] fits = tt
extents_no c out no_plus no_comma (x ∷ []) fits = extent_no c out no_plus x (fit_head x [] fits)
extents_no c out no_plus no_comma (x ∷ y ∷ xs) fits =
    no_both c (extent_text x) (comma ∷ extents_text (y ∷ xs)) (extent_no c out no_plus x (fit_head x (y ∷ xs) fits))
    (no_comma, extents_no c out no_plus no_comma (y ∷ xs) (fit_tail x (y ∷ xs) fits))

-- the first extent's number comes first
pub extents_first : (xs : List Extent) (v : List ℕ) → 1 ≤ length xs → Fit xs → extents_text xs ≡ 0x2d ∷ v → ⊥
extents_first [] v some fits e = omega (arith, some)
extents_first (x ∷ []) v some fits e = decimal_first x.offset (plus ∷ decimal x.length) v (fit_head x [] fits).0 e
extents_first (x ∷ y ∷ xs) v some fits e =
    decimal_first x.offset (plus ∷ decimal x.length ++ comma ∷ extents_text (y ∷ xs)) v (fit_head x (y ∷ xs) fits).0
    (sym (append_assoc (decimal x.offset) (plus ∷ decimal x.length) (comma ∷ extents_text (y ∷ xs))) ∙ e)

-- Maps.

record SameMap (a b : MapKind) (xs ys : List Extent) : Type 0 where
  maps : a ≡ b
  extents : xs ≡ ys

map_once : (a b : MapKind) (xs ys : List Extent) → MapListed a xs → MapListed b ys → Fit xs → Fit ys → map_text a xs ≡ map_text b ys → SameMap a b xs ys
map_once Empty Empty xs ys la lb fx fy e = record { maps = refl; extents = la ∙ sym lb }
map_once Empty Simple xs ys la lb fx fy e = absurd (extents_first ys [] lb.0 fy (sym e))
map_once Empty (Striped chunk) xs ys la lb fx fy e = absurd (decimal_first chunk (colon ∷ extents_text ys) [] lb.0 (sym e))
map_once Simple Empty xs ys la lb fx fy e = absurd (extents_first xs [] la.0 fx e)
map_once Simple Simple xs ys la lb fx fy e = record { maps = refl; extents = extents_once xs ys la.0 lb.0 fx fy e }
map_once Simple (Striped chunk) xs ys la lb fx fy e =
    absurd (uncut colon (decimal chunk) (extents_text xs) (extents_text ys) (extents_no colon out_colon (λ e. omega (arith, e)) (λ e. omega (arith, e)) xs fx) (sym e))
map_once (Striped chunk) Empty xs ys la lb fx fy e = absurd (decimal_first chunk (colon ∷ extents_text xs) [] la.0 e)
map_once (Striped chunk) Simple xs ys la lb fx fy e =
    absurd (uncut colon (decimal chunk) (extents_text ys) (extents_text xs) (extents_no colon out_colon (λ e. omega (arith, e)) (λ e. omega (arith, e)) ys fy) e)
map_once (Striped chunk) (Striped other) xs ys la lb fx fy e =
    let parts = cut colon (decimal chunk) (decimal other) (extents_text xs) (extents_text ys) (decimal_no colon out_colon chunk la.0) (decimal_no colon out_colon other lb.0) e in
    record { maps = ap Striped (decimal_injective chunk other la.0 lb.0 parts.0); extents = extents_once xs ys la.1 lb.1 fx fy parts.1 }

pub map_no_space : (a : MapKind) (xs : List Extent) → MapListed a xs → Fit xs → No space (map_text a xs)
unfolding No
map_no_space Empty xs la fx = (λ e. omega (arith, e), tt)
map_no_space Simple xs la fx = extents_no space out_space (λ e. omega (arith, e)) (λ e. omega (arith, e)) xs fx
map_no_space (Striped chunk) xs la fx =
    no_both space (decimal chunk) (colon ∷ extents_text xs) (decimal_no space out_space chunk la.0)
    (λ e. omega (arith, e), extents_no space out_space (λ e. omega (arith, e)) (λ e. omega (arith, e)) xs fx)

-- Entries.

kind_once : (a b : Kind) → kind_letter a ≡ kind_letter b → a ≡ b
kind_once Directory Directory e = refl
kind_once Directory File e = absurd (let x : ◌≡◌ {A = ℕ} 0x64 0x66 = cc in omega (arith, x))
kind_once File Directory e = absurd (let x : ◌≡◌ {A = ℕ} 0x66 0x64 = cc in omega (arith, x))
kind_once File File e = refl

pub kind_no : (a : Kind) → No space (kind_letter a)
unfolding No
kind_no Directory = (λ e. omega (arith, e), tt)
kind_no File = (λ e. omega (arith, e), tt)

pub mode_no : (m : ℕ) → No space (mode_text m)
unfolding No
mode_no m = (λ e. omega (arith, e), (λ e. omega (arith, e), (λ e. omega (arith, e), (λ e. omega (arith, e), tt))))

mode_once : (m n : ℕ) → m ≤ 4095 → n ≤ 4095 → mode_text m ≡ mode_text n → m ≡ n
mode_once m n fm fn e =
    let a : octal_digit (m / 512) ≡ octal_digit (n / 512) = cc in
    let b : octal_digit (m / 64) ≡ octal_digit (n / 64) = cc in
    let c : octal_digit (m / 8) ≡ octal_digit (n / 8) = cc in
    let d : octal_digit m ≡ octal_digit n = cc in
    omega (arith, fm, fn, a, b, c, d)

pub path_fits : (path : List ℕ) → Rattle.fam_base.specs.Paths.is_path path ≡ true → AreBytes path
path_fits path is = All-from_get_or (λ byte. byte < 256) path 0 (λ i below. path_bytes_fit path is i)

pub fits_of : (e : Entry) → IsListed e → Fit e.extents
unfolding Fit
fits_of e is = is.extents

pub same_entry : (a b : Entry) → a.kind ≡ b.kind → a.path ≡ b.path → a.size ≡ b.size → a.mode ≡ b.mode → a.uid ≡ b.uid → a.gid ≡ b.gid → a.map ≡ b.map → a.extents ≡ b.extents → a ≡ b
same_entry a b k p s m u g t x =
    ap (λ (z : Kind). record { kind = z; path = a.path; size = a.size; mode = a.mode; uid = a.uid; gid = a.gid; map = a.map; extents = a.extents }) k
    ∙ ap (λ (z : List ℕ). record { kind = b.kind; path = z; size = a.size; mode = a.mode; uid = a.uid; gid = a.gid; map = a.map; extents = a.extents }) p
    ∙ ap (λ (z : ℕ). record { kind = b.kind; path = b.path; size = z; mode = a.mode; uid = a.uid; gid = a.gid; map = a.map; extents = a.extents }) s
    ∙ ap (λ (z : ℕ). record { kind = b.kind; path = b.path; size = b.size; mode = z; uid = a.uid; gid = a.gid; map = a.map; extents = a.extents }) m
    ∙ ap (λ (z : ℕ). record { kind = b.kind; path = b.path; size = b.size; mode = b.mode; uid = z; gid = a.gid; map = a.map; extents = a.extents }) u
    ∙ ap (λ (z : ℕ). record { kind = b.kind; path = b.path; size = b.size; mode = b.mode; uid = b.uid; gid = z; map = a.map; extents = a.extents }) g
    ∙ ap (λ (z : MapKind). record { kind = b.kind; path = b.path; size = b.size; mode = b.mode; uid = b.uid; gid = b.gid; map = z; extents = a.extents }) t
    ∙ ap (λ (z : List Extent). record { kind = b.kind; path = b.path; size = b.size; mode = b.mode; uid = b.uid; gid = b.gid; map = b.map; extents = z }) x

visible_no : (x : List ℕ) → All IsVisible x → No space x
unfolding No
visible_no [] all = tt
visible_no (b ∷ x) all = (λ e. omega (arith, (All-head IsVisible b x all).0, e), visible_no x (All-tail IsVisible b x all))

pub word_fits : (n : ℕ) → n < 2 ^ 32 → n < 2 ^ 64
word_fits n fits = omega (arith, fits)

pub words_no : (e : Entry) → IsListed e → Words space (entry_words e)
unfolding Words
words_no e is = (
  kind_no e.kind,
  (
    mode_no e.mode,
    (
      decimal_no space out_space e.uid (word_fits e.uid is.uid),
      (
        decimal_no space out_space e.gid (word_fits e.gid is.gid),
        (
          decimal_no space out_space e.size is.size,
          (
            map_no_space e.map e.extents is.map (fits_of e is),
            (visible_no (escaped e.path) (escaped_visible e.path (path_fits e.path is.path)), tt),
          ),
        ),
      ),
    ),
  ),
)

-- two entries of one line are one
pub printed_once : (a b : Entry) → IsListed a → IsListed b → entry_line a ≡ entry_line b → a ≡ b
unfolding entry_line
printed_once a b la lb e =
    let words = join_once space (kind_letter a.kind) (kind_letter b.kind) _ _ (words_no a la) (words_no b lb) e in
    let kinds : kind_letter a.kind ≡ kind_letter b.kind = cc in
    let modes : mode_text a.mode ≡ mode_text b.mode = cc in
    let uids : decimal a.uid ≡ decimal b.uid = cc in
    let gids : decimal a.gid ≡ decimal b.gid = cc in
    let sizes : decimal a.size ≡ decimal b.size = cc in
    let maps : map_text a.map a.extents ≡ map_text b.map b.extents = cc in
    let paths : escaped a.path ≡ escaped b.path = cc in
    let m = map_once a.map b.map a.extents b.extents la.map lb.map (fits_of a la) (fits_of b lb) maps in
    same_entry a b (kind_once a.kind b.kind kinds) (escaped_once a.path b.path (path_fits a.path la.path) (path_fits b.path lb.path) paths)
    (decimal_injective a.size b.size la.size lb.size sizes) (mode_once a.mode b.mode la.mode lb.mode modes)
    (decimal_injective a.uid b.uid (word_fits a.uid la.uid) (word_fits b.uid lb.uid) uids) (decimal_injective a.gid b.gid (word_fits a.gid la.gid) (word_fits b.gid lb.gid) gids) m.maps m.extents
