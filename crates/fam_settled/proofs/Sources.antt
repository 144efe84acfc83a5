-- Bytes that are told, and bytes of files.
use Rattle.std.proofs.Common.{◌≡◌, ◌≢◌, ◌⊎◌, ◌↔◌, ℕ, ◌+◌, ◌-◌, ◌<◌, Bool, IsTrue, List, length, get_or, drop, min, Option, Some, refl, sym, ap, subst, ◌∙◌, inl, arith}
use Rattle.std.proofs.lemmas.List.{length-replicate, get_or-replicate, get_or-take, get_or-drop, length-take, length-drop}
use Rattle.fam_base.specs.declared.cmd.Content.{Content}
use Rattle.fam_base.specs.declared.cmd.Content.TheVariants as content
use Rattle.fam_rules.specs.Content.{HoldsBytes, content_byte}
use Rattle.fam_rules.specs.Asks.{file_bytes_from}
use Rattle.fam_rules.proofs.ContentLines.{byte_of_fill, content_byte_fits, length_of_fill}
use Rattle.fam_judge.specs.Untold.{untold}
use Rattle.fam_judge.specs.Fitting.{FitBytes, FitsWanted, AllowsSize, MayAgree, given_count}
use Rattle.fam_settled.specs.declared.against.Against.{Against}
use Rattle.fam_settled.specs.declared.against.Against.TheVariants as against
use Rattle.fam_settled.specs.declared.bytes.Bytes.{Bytes}
use Rattle.fam_settled.specs.declared.bytes.Bytes.TheVariants.{Zero, Seed, Held, Untold}
use Rattle.fam_settled.specs.Bytes.{MayAgreeTo, MayHave, byte_told, file_bytes_told, content_told}
use Rattle.fam_history.specs.declared.answer.ToldAnswer.{ToldAnswer}
use Rattle.fam_history.specs.declared.answer.ToldAnswer.TheVariants as told
use Rattle.fam_settled.proofs.Choices.{both}
use Rattle.fam_settled.specs.Fits.{FirstDiffers, IsSame, MayDifferAt, VerifiedTold, content_in, count_in, bytes_against}

-- a byte of a fill
told_byte : (b : Bytes) (x : Content) → content_told b ≡ Some x → (i : ℕ) → byte_told b i ≡ content_byte x i
told_byte Zero x is i = let e : content.Zero ≡ x = cc in ap (λ (y : Content). content_byte y i) e
told_byte (Seed seed) x is i = let e : content.Seed seed ≡ x = cc in ap (λ (y : Content). content_byte y i) e
told_byte (Held bytes) x is i = let e : content.Bytes bytes ≡ x = cc in ap (λ (y : Content). content_byte y i) e
told_byte Untold x is i = absurd (let e = is in cc)

-- is a byte
told_small : (b : Bytes) (x : Content) → content_told b ≡ Some x → HoldsBytes x → (i : ℕ) → byte_told b i < 256
told_small b x is holds i = let same = told_byte b x is i in omega (arith, same, content_byte_fits x i holds)

-- fills may agree where they have the same bytes
pub agree_told : (a b : Bytes) (x y : Content) → content_told a ≡ Some x → content_told b ≡ Some y → HoldsBytes x → HoldsBytes y → (end : ℕ) (r : Bool)
    → (IsTrue r ↔ ((i : ℕ) → i < end → content_byte x i ≡ content_byte y i)) → IsTrue r ↔ MayAgreeTo a b end
agree_told a b x y a_is b_is a_holds b_holds end r same = (
  λ h i below. inl (told_byte a x a_is i ∙ same.0 h i below ∙ sym (told_byte b y b_is i)),
  λ may. same.1 (λ i below. sym (told_byte a x a_is i) ∙ by_case i (may i below) ∙ told_byte b y b_is i),
)
  where
    by_case : (i : ℕ) → (byte_told a i ≡ byte_told b i) ⊎ (byte_told a i ≡ untold) ⊎ (byte_told b i ≡ untold) → byte_told a i ≡ byte_told b i
    by_case i may = grind (arith, may, told_small a x a_is a_holds i, told_small b y b_is b_holds i)

-- Bytes of files.

-- there are as many as the size says
pub length-bytes_of : (b : Bytes) (size : ℕ) → length (file_bytes_told b size) ≡ size
length-bytes_of Zero size = length_of_fill content.Zero size
length-bytes_of (Seed seed) size = length_of_fill (content.Seed seed) size
length-bytes_of (Held bytes) size = length_of_fill (content.Bytes bytes) size
length-bytes_of Untold size = length-replicate size untold

-- byte i
pub get_or-bytes_of : (b : Bytes) (size i : ℕ) → i < size → get_or (file_bytes_told b size) i 0 ≡ byte_told b i
get_or-bytes_of Zero size i below = byte_of_fill content.Zero size i below
get_or-bytes_of (Seed seed) size i below = byte_of_fill (content.Seed seed) size i below
get_or-bytes_of (Held bytes) size i below = byte_of_fill (content.Bytes bytes) size i below
get_or-bytes_of Untold size i below = get_or-replicate size i untold 0 below

-- What a file is compared with.

-- how many bytes are given
pub given_in : (a : Against) → given_count (content_in a) ≡ count_in a
given_in against.Zero = refl
given_in (against.Seed seed) = refl
given_in (against.Untold count) = ap Some (length-replicate count untold)

-- its bytes, where there are as many as the file has
source_byte : (a : Against) (size i : ℕ) → AllowsSize (count_in a) size → i < size → content_byte (content_in a) i ≡ byte_told (bytes_against a) i
source_byte against.Zero size i long below = refl
source_byte (against.Seed seed) size i long below = refl
source_byte (against.Untold count) size i long below = get_or-replicate count i untold 0 (omega (arith, long, below))

-- bytes that are others' may agree with the same
alike : (m n o p : ℕ) → m ≡ n → o ≡ p → (m ≡ o) ⊎ (m ≡ untold) ⊎ (o ≡ untold) → (n ≡ p) ⊎ (n ≡ untold) ⊎ (p ≡ untold)
alike m n o p mine other h = grind (arith, h)

-- a test of the counts
pub long_told : (b : Bytes) (size : ℕ) (a : Against) → AllowsSize (given_count (content_in a)) (length (file_bytes_told b size)) ↔ AllowsSize (count_in a) size
long_told b size a = (
  λ long. subst (λ (n : ℕ). AllowsSize (count_in a) n) (length-bytes_of b size) (subst (λ (o : Option ℕ). AllowsSize o (length (file_bytes_told b size))) (given_in a) long),
  λ long. subst (λ (o : Option ℕ). AllowsSize o (length (file_bytes_told b size))) (sym (given_in a)) (subst (λ (n : ℕ). AllowsSize (count_in a) n) (sym (length-bytes_of b size)) long),
)

module _ (b : Bytes) (size : ℕ) (a : Against) where
  -- where bytes may agree
  agree_in : AllowsSize (count_in a) size → (i : ℕ) → i < size
      → MayAgree (file_bytes_told b size) (content_in a) i ↔ ((byte_told b i ≡ byte_told (bytes_against a) i) ⊎ (byte_told b i ≡ untold) ⊎ (byte_told (bytes_against a) i ≡ untold))
  agree_in long i below =
      let mine = get_or-bytes_of b size i below in
      let other = source_byte a size i long below in
      (λ h. alike _ _ _ _ mine other h, λ h. alike _ _ _ _ (sym mine) (sym other) h)

  -- a verify that finds them the same
  pub same_told : (r : Bool) → AllowsSize (count_in a) size → (IsTrue r ↔ MayAgreeTo b (bytes_against a) size) → IsTrue r ↔ IsSame (file_bytes_told b size) (content_in a)
  same_told r long same =
      let count = length-bytes_of b size in (
        λ h. record { long = (long_told b size a).1 long; same = λ i below. (agree_in long i (omega (arith, below, count))).1 (same.0 h i (omega (arith, below, count))) },
        λ may. same.1 (λ i below. (agree_in long i below).0 (may.same i (omega (arith, below, count)))),
      )

  -- a verify that finds a difference
  pub differs_told : (r : Bool) (offset found wanted : ℕ) → AllowsSize (count_in a) size → offset < size → found ≢ wanted → found < 256
      → (IsTrue r ↔ MayDifferAt b (bytes_against a) offset found wanted) → IsTrue r ↔ FirstDiffers (file_bytes_told b size) (content_in a) offset found wanted
  differs_told r offset found wanted long below other small same =
      let mine = get_or-bytes_of b size offset below in
      let others = source_byte a size offset long below in (
        λ h. record {
          long = (long_told b size a).1 long;
          differ = record {
            within = omega (arith, below, length-bytes_of b size);
            before = λ i inside. (agree_in long i (omega (arith, inside, below))).1 ((same.0 h).before i inside);
            found_fits = (small, subst (λ (n : ℕ). FitsWanted n found) (sym mine) (same.0 h).found_fits);
            wanted_fits = subst (λ (n : ℕ). FitsWanted n wanted) (sym others) (same.0 h).wanted_fits;
            other = other;
          };
        },
        λ o. same.1 (record {
          before = λ i inside. (agree_in long i (omega (arith, inside, below))).0 (o.differ.before i inside);
          found_fits = subst (λ (n : ℕ). FitsWanted n found) mine o.differ.found_fits.1;
          wanted_fits = subst (λ (n : ℕ). FitsWanted n wanted) others o.differ.wanted_fits;
        }),
      )

  -- a verify of another count
  pub length_told : (m n found wanted : ℕ) (answer : ToldAnswer) (r : Bool) → answer ≡ told.Length n found wanted → n ≡ m
      → (IsTrue r ↔ ((found ≡ size) × (count_in a ≡ Some wanted) × (wanted ≢ found))) → IsTrue r ↔ VerifiedTold m (file_bytes_told b size) (content_in a) answer
  length_told m n found wanted answer r is same test =
      subst (λ (x : ToldAnswer). IsTrue r ↔ VerifiedTold m (file_bytes_told b size) (content_in a) x) (sym is)
      (both r test (
        λ x. (same, x.0 ∙ sym (length-bytes_of b size), given_in a ∙ x.1, x.2),
        λ y. (y.1 ∙ length-bytes_of b size, sym (given_in a) ∙ y.2, y.3),
      ))

-- Bytes that were read.

module _ (b : Bytes) (size offset count : ℕ) where
  -- how many they are
  pub read_count : length (file_bytes_from offset count (file_bytes_told b size)) ≡ min count (size - offset)
  read_count =
      length-take count (drop offset (file_bytes_told b size)) ∙ ap (min count) (length-drop offset (file_bytes_told b size) ∙ ap (λ (n : ℕ). n - offset) (length-bytes_of b size))

  read_byte : (i : ℕ) → i < count → offset + i < size → get_or (file_bytes_from offset count (file_bytes_told b size)) i 0 ≡ byte_told b (offset + i)
  read_byte i inside below =
      get_or-take count (drop offset (file_bytes_told b size)) i 0 inside ∙ get_or-drop offset (file_bytes_told b size) i 0 ∙ get_or-bytes_of b size (offset + i) below

  -- and whether they may be these
  pub read_told : (given : List ℕ) → ((i : ℕ) → get_or given i 0 < 256) → length given ≡ min count (size - offset)
      → MayHave b offset given ↔ FitBytes (file_bytes_from offset count (file_bytes_told b size)) given
  read_told given small same = (
    λ have. record {
      count = same ∙ sym read_count;
      each = λ i below.
          let inside : i < min count (size - offset) = omega (arith, below, read_count) in
          (small i, subst (λ (n : ℕ). FitsWanted n (get_or given i 0)) (sym (read_byte i (omega (arith, inside)) (omega (arith, inside)))) (have i (omega (arith, inside, same))));
    },
    λ fits i below.
        let inside : i < min count (size - offset) = omega (arith, below, same) in
        subst (λ (n : ℕ). FitsWanted n (get_or given i 0)) (read_byte i (omega (arith, inside)) (omega (arith, inside))) (fits.each i (omega (arith, inside, read_count))).1,
  )
