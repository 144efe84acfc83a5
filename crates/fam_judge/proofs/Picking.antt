-- Bytes and a listing that are chosen for what an answer shows of a file.
use Rattle.std.proofs.Common.{◌≡◌, ◌≢◌, ◌+◌, ◌-◌, ◌<◌, ◌⊎◌, inl, inr, ℕ, Bool, true, false, List, length, get_or, Option, Some, None, refl, ap, ap₂, sym, ◌∙◌, subst, arith}
use Rattle.std.specs.Prelude.{◌==◌, if◌then◌else◌, nat_lt, not, slice_index}
use Rattle.std.proofs.lemmas.Bool.Decides.{nat_tests}
use Rattle.std.proofs.lemmas.List.{ext_get_or, get_or-replicate, length-replicate}
use Rattle.std.proofs.lemmas.Option.{same_Some}
use Rattle.fam_base.specs.declared.cmd.Content.{Content}
use Rattle.fam_base.specs.declared.cmd.Content.TheVariants as content
use Rattle.fam_base.specs.declared.entry.Entry.{Entry}
use Rattle.fam_base.specs.declared.entry.Kind.{Kind}
use Rattle.fam_base.specs.declared.entry.Kind.TheVariants as kind
use Rattle.fam_commands.proofs.Finds.{first_is, none_is, searched}
use Rattle.fam_rules.specs.Asks.{File, compared, compared_at, file_bytes_from, first_difference, of_file, of_kind, verified}
use Rattle.fam_rules.specs.Content.{content_byte}
use Rattle.fam_rules.specs.Reply as reply
use Rattle.fam_rules.specs.Reply.{Reply}
use Rattle.fam_judge.specs.Fitting.{FileFits, FitBytes, FitsByte, FitsWanted, AllowsSize, KindFits, MayBeSame, MayDiffer, ReadFits, VerifiedFits, given_count}
use Rattle.fam_judge.specs.Untold.{untold, untold_content}
use Rattle.fam_judge.proofs.Choosing.{ChosenBytes, ChosenFile, Choice, IsChosenContent, any}
use Rattle.fam_judge.proofs.Fitted.{read_at, read_inside, read_length}
use Rattle.fam_judge.proofs.Pairs.{Pairs}

-- something is chosen so that this holds
pub record Picks (Holds : Choice → Type 0) : Type 0 where
  pub choice : Choice
  pub holds : Holds choice

-- One byte.

-- the byte that one of two tells, 0 where none does
abbrev pub pick : ℕ → ℕ → ℕ
pick u a = if nat_lt u 256 then u else if nat_lt a 256 then a else 0

pick_below : (u a : ℕ) → pick u a < 256
pick_below u a = by (nat_lt u 256) refl (nat_lt a 256) refl
  where
    by : (b : Bool) → nat_lt u 256 ≡ b → (c : Bool) → nat_lt a 256 ≡ c → (if b then u else if c then a else 0) < 256
    by true e c f = grind (arith, nat_tests)
    by false e true f = grind (arith, nat_tests)
    by false e false f = omega arith

pick_first : (u a : ℕ) → u < 256 → pick u a ≡ u
pick_first u a low = by (nat_lt u 256) refl
  where
    by : (b : Bool) → nat_lt u 256 ≡ b → (if b then u else if nat_lt a 256 then a else 0) ≡ u
    by true e = refl
    by false e = absurd (grind (arith, nat_tests))

pick_second : (a : ℕ) → a < 256 → pick untold a ≡ a
pick_second a low = by (nat_lt a 256) refl
  where
    by : (c : Bool) → nat_lt a 256 ≡ c → (if c then a else 0) ≡ a
    by true e = refl
    by false e = absurd (grind (arith, nat_tests))

-- a wanted byte is told, or is the one that is chosen
abbrev pub IsWanted : ℕ → ℕ → ℕ → Type 0
IsWanted x told byte = ((told ≡ byte) × (byte < 256)) ⊎ ((told ≡ untold) × (byte ≡ x))

-- so is a file's
abbrev pub IsSource : ℕ → ℕ → ℕ → Type 0
IsSource x told byte = (byte < 256) × ((told ≡ byte) ⊎ ((told ≡ untold) × (byte ≡ x)))

no_byte : (b : ℕ) → b < 256 → (t : ℕ) → t ≡ b → t ≡ untold → ⊥
no_byte b low t same none = omega (arith, low, same, none)

-- where they may agree they do
same_picked : (u b a c : ℕ) → IsSource (pick u a) u b → IsWanted (pick u a) a c → (u ≡ a) ⊎ (u ≡ untold) ⊎ (a ≡ untold) → b ≡ c
same_picked u b a c (low, inl told) (inl (known, small)) (inl same) = sym told ∙ same ∙ known
same_picked u b a c (low, inl told) (inl (known, small)) (inr (inl none)) = absurd (no_byte b low u told none)
same_picked u b a c (low, inl told) (inl (known, small)) (inr (inr none)) = absurd (no_byte c small a known none)
same_picked u b a c (low, inl told) (inr (none, is)) may = sym told ∙ sym (pick_first u a (subst (λ (n : ℕ). n < 256) (sym told) low)) ∙ sym is
same_picked u b a c (low, inr (none, is)) (inl (known, small)) may =
    is ∙ ap (λ (n : ℕ). pick n a) none ∙ pick_second a (subst (λ (n : ℕ). n < 256) (sym known) small) ∙ known
same_picked u b a c (low, inr (none, is)) (inr (nothing, wants)) may = is ∙ sym wants

-- the byte that is found
found_is : (f u b : ℕ) → IsSource f u b → FitsByte u f → b ≡ f
found_is f u b (low, inl told) (small, inl same) = sym told ∙ same
found_is f u b (low, inl told) (small, inr none) = absurd (no_byte b low u told none)
found_is f u b (low, inr (none, is)) fits = is

-- and the one that is wanted
wanted_is : (w a c : ℕ) → IsWanted w a c → FitsWanted a w → c ≡ w
wanted_is w a c (inl (known, small)) (inl same) = sym known ∙ same
wanted_is w a c (inl (known, small)) (inr none) = absurd (no_byte c small a known none)
wanted_is w a c (inr (none, is)) fits = is

-- Contents.

-- a content's bytes are told, or chosen
content_is : (wanted : ℕ → ℕ) (against : Content) → IsChosenContent wanted against → (n i : ℕ)
    → AllowsSize (given_count (untold_content against)) n → i < n
    → IsWanted (wanted i) (content_byte (untold_content against) i) (content_byte against i)
content_is wanted content.Zero is n i long below = inl (refl, omega arith)
content_is wanted (content.Seed seed) is n i long below = inl (refl, omega arith)
content_is wanted (content.Bytes bytes) is n i long below =
    let short : i < length bytes = subst (λ (k : ℕ). i < k) (sym (sym (length-replicate (length bytes) untold) ∙ long)) below in
    inr (get_or-replicate (length bytes) i untold 0 short, is i short)

-- given bytes that are as many are compared
verified_compared : (m : ℕ) (bytes : List ℕ) (against : Content) → AllowsSize (given_count (untold_content against)) (length bytes)
    → verified m bytes against ≡ compared m bytes against
verified_compared m bytes content.Zero long = refl
verified_compared m bytes (content.Seed seed) long = refl
verified_compared m bytes (content.Bytes given) long = by (length given == length bytes) refl
  where
    by : (b : Bool) → (length given == length bytes) ≡ b
        → (if b then compared m bytes (content.Bytes given) else reply.Length m (length bytes) (length given))
        ≡ compared m bytes (content.Bytes given)
    by true e = refl
    by false e =
        let count : length given ≡ length bytes = sym (length-replicate (length given) untold) ∙ long in absurd (grind (arith, nat_tests))

-- given bytes that aren't as many are told so
verified_length : (m : ℕ) (bytes : List ℕ) (against : Content) (wanted : ℕ) → given_count (untold_content against) ≡ Some wanted
    → wanted ≢ length bytes
    → verified m bytes against ≡ reply.Length m (length bytes) wanted
verified_length m bytes content.Zero wanted given other = absurd (cc)
verified_length m bytes (content.Seed seed) wanted given other = absurd (cc)
verified_length m bytes (content.Bytes own) wanted given other = by (length own == length bytes) refl
  where
    count : length own ≡ wanted
    count = sym (length-replicate (length own) untold) ∙ same_Some _ wanted given

    by : (b : Bool) → (length own == length bytes) ≡ b
        → (if b then compared m bytes (content.Bytes own) else reply.Length m (length bytes) (length own)) ≡ reply.Length m (length bytes) wanted
    by true e = absurd (other (let same : length own ≡ length bytes = grind (arith, nat_tests) in sym count ∙ same))
    by false e = ap (reply.Length m (length bytes)) count

-- Verifies.

-- what is chosen gives this reply, for whatever content is told so
abbrev pub GivesVerified : ℕ → List ℕ → Content → Reply → Choice → Type 0
GivesVerified m told content given ch = (bytes : List ℕ) (against : Content) → ChosenBytes ch told bytes → content ≡ untold_content against
    → IsChosenContent ch.wanted against → verified m bytes against ≡ given

same_passes : (a b : ℕ) → a ≡ b → not (a == b) ≡ false
same_passes a b same = grind (arith, nat_tests)

other_passes : (a b : ℕ) → a ≢ b → not (a == b) ≡ true
other_passes a b other = grind (arith, nat_tests)

module _ (m : ℕ) (told : List ℕ) (content : Content) where
  -- the byte that is told of the file, or of the content
  abbrev both : ℕ → ℕ
  both i = pick (slice_index told i) (content_byte content i)

  -- one byte that differs
  abbrev except : ℕ → ℕ → ℕ → ℕ
  except o x i = if i == o then x else both i

  except_here : (o x : ℕ) → except o x o ≡ x
  except_here o x = by (o == o) refl
    where
      by : (b : Bool) → (o == o) ≡ b → (if b then x else both o) ≡ x
      by true e = refl
      by false e = absurd (grind (arith, nat_tests))

  except_other : (o x i : ℕ) → i < o → except o x i ≡ both i
  except_other o x i below = by (i == o) refl
    where
      by : (b : Bool) → (i == o) ≡ b → (if b then x else both i) ≡ both i
      by true e = absurd (grind (arith, nat_tests))
      by false e = refl

  except_below : (o x i : ℕ) → x < 256 → except o x i < 256
  except_below o x i low = by (i == o)
    where
      by : (b : Bool) → (if b then x else both i) < 256
      by true = low
      by false = pick_below (slice_index told i) (content_byte content i)

  abbrev same_choice : Choice
  same_choice = record any { source = both; wanted = both; bytes = λ i. pick_below (slice_index told i) (content_byte content i) }

  abbrev differs_choice : (o f w : ℕ) → f < 256 → Choice
  differs_choice o f w low = record any { source = except o f; wanted = except o w; bytes = λ i. except_below o f i low }

  module _ (bytes : List ℕ) (against : Content) (is : content ≡ untold_content against) (long : AllowsSize (given_count content) (length told)) where
    long_own : (n : ℕ) → length told ≡ n → AllowsSize (given_count (untold_content against)) n
    long_own n same =
        subst (λ (k : ℕ). AllowsSize (given_count (untold_content against)) k) same (subst (λ (c : Content). AllowsSize (given_count c) (length told)) is long)

    compares : length bytes ≡ length told → verified m bytes against ≡ compared m bytes against
    compares count = verified_compared m bytes against (long_own (length bytes) (sym count))

    wants : (wanted : ℕ → ℕ) → IsChosenContent wanted against → (i : ℕ) → i < length told
        → IsWanted (wanted i) (content_byte content i) (content_byte against i)
    wants wanted chosen i below =
        subst (λ (c : Content). IsWanted (wanted i) (content_byte c i) (content_byte against i)) (sym is)
        (content_is wanted against chosen (length told) i (long_own (length told) refl) below)

    all_same : ChosenBytes same_choice told bytes → IsChosenContent both against → MayBeSame told content
        → verified m bytes against ≡ reply.Same m
    all_same fill chosen may =
        compares fill.count
        ∙ ap (compared_at m bytes against) (none_is _ (length bytes) same (first_difference bytes against) (searched _ (length bytes) 0))
      where
        same : (o : ℕ) → o < length bytes → not (slice_index bytes o == content_byte against o) ≡ false
        same o below =
            let inside : o < length told = omega (arith, below, fill.count) in
            same_passes _ _ (same_picked (slice_index told o) (slice_index bytes o) (content_byte content o) (content_byte against o)
            (fill.each o inside) (wants both chosen o inside) (may o inside))

    one_differs : (o f w : ℕ) (may : MayDiffer told content o f w) → ChosenBytes (differs_choice o f w may.found_fits.0) told bytes
        → IsChosenContent (except o w) against → verified m bytes against ≡ reply.Differs m o f w
    one_differs o f w may fill chosen =
        compares fill.count
        ∙ ap (compared_at m bytes against) (first_is _ (length bytes) o (omega (arith, may.within, fill.count)) passes before
        (first_difference bytes against) (searched _ (length bytes) 0))
        ∙ ap₂ (λ (x y : ℕ). reply.Differs m o x y) found wanted
      where
        found : slice_index bytes o ≡ f
        found = found_is f (slice_index told o) (slice_index bytes o)
            (subst (λ (x : ℕ). IsSource x (slice_index told o) (slice_index bytes o)) (except_here o f) (fill.each o may.within)) may.found_fits

        wanted : content_byte against o ≡ w
        wanted = wanted_is w (content_byte content o) (content_byte against o)
            (subst (λ (x : ℕ). IsWanted x (content_byte content o) (content_byte against o)) (except_here o w)
            (wants (except o w) chosen o may.within)) may.wanted_fits

        passes : not (slice_index bytes o == content_byte against o) ≡ true
        passes = other_passes _ _ (λ same. may.other (sym found ∙ same ∙ wanted))

        before : (i : ℕ) → i < o → not (slice_index bytes i == content_byte against i) ≡ false
        before i below =
            let inside : i < length told = omega (arith, below, may.within) in
            same_passes _ _ (same_picked (slice_index told i) (slice_index bytes i) (content_byte content i) (content_byte against i)
            (subst (λ (x : ℕ). IsSource x (slice_index told i) (slice_index bytes i)) (except_other o f i below) (fill.each i inside))
            (subst (λ (x : ℕ). IsWanted x (content_byte content i) (content_byte against i)) (except_other o w i below)
            (wants (except o w) chosen i inside))
            (may.before i below))

  -- a verify's reply is given by some bytes where it fits
  pub verify_pick : (given : Reply) → VerifiedFits m told content given → Picks (GivesVerified m told content given)
  verify_pick (reply.Same n) fits = record {
    choice = same_choice;
    holds = λ bytes against fill is chosen. all_same bytes against is fits.1 fill chosen fits.2 ∙ ap reply.Same (sym fits.0);
  }
  verify_pick (reply.Differs n o f w) fits = record {
    choice = differs_choice o f w fits.2.found_fits.0;
    holds = λ bytes against fill is chosen.
        one_differs bytes against is fits.1 o f w fits.2 fill chosen ∙ ap (λ (k : ℕ). reply.Differs k o f w) (sym fits.0);
  }
  verify_pick (reply.Length n size wanted) fits = record {
    choice = any;
    holds = λ bytes against fill is chosen.
        let count : length bytes ≡ size = fill.count ∙ sym fits.1 in
        verified_length m bytes against wanted (ap given_count (sym is) ∙ fits.2) (λ same. fits.3 (same ∙ count))
        ∙ ap₂ (λ (k l : ℕ). reply.Length k l wanted) (sym fits.0) count;
  }
  verify_pick given fits = absurd fits

-- Reads.

read_same : (told bytes found : List ℕ) (offset count : ℕ) (ch : Choice) → ((i : ℕ) → ch.source i ≡ pick (slice_index found (i - offset)) 0)
    → FitBytes (file_bytes_from offset count told) found → ChosenBytes ch told bytes → file_bytes_from offset count bytes ≡ found
read_same told bytes found offset count ch is fit fill = ext_get_or 0 (file_bytes_from offset count bytes) found (same ∙ sym fit.count) each
  where
    same : length (file_bytes_from offset count bytes) ≡ length (file_bytes_from offset count told)
    same = read_length told bytes offset count fill.count

    each : (i : ℕ) → i < length (file_bytes_from offset count bytes) → get_or (file_bytes_from offset count bytes) i 0 ≡ get_or found i 0
    each i below =
        let inside : i < length (file_bytes_from offset count told) = subst (λ (n : ℕ). i < n) same below in
        let fits : FitsByte (get_or told (offset + i) 0) (get_or found i 0) =
        subst (λ (t : ℕ). FitsByte t (get_or found i 0)) (read_at told offset count i inside) (fit.each i inside) in
        let place : offset + i - offset ≡ i = omega arith in
        let chosen : ch.source (offset + i) ≡ get_or found i 0 =
        is (offset + i) ∙ ap (λ (k : ℕ). pick (get_or found k 0) 0) place ∙ pick_first (get_or found i 0) 0 fits.0 in
        read_at bytes offset count i below
        ∙ found_is (get_or found i 0) (get_or told (offset + i) 0) (get_or bytes (offset + i) 0)
        (subst (λ (x : ℕ). IsSource x (get_or told (offset + i) 0) (get_or bytes (offset + i) 0)) chosen
        (fill.each (offset + i) (read_inside told offset count i inside))) fits

-- a read's reply is given by some bytes where it fits
pub read_pick : (m : ℕ) (told : List ℕ) (offset count : ℕ) (given : Reply) → ReadFits m told offset count given
    → Picks (λ ch. (bytes : List ℕ) → ChosenBytes ch told bytes → reply.Bytes m (file_bytes_from offset count bytes) ≡ given)
read_pick m told offset count given fits =
    let ch : Choice = record any {
      source = λ i. pick (slice_index fits.0 (i - offset)) 0;
      bytes = λ i. pick_below (slice_index fits.0 (i - offset)) 0;
    } in record {
      choice = ch;
      holds = λ bytes fill. ap (reply.Bytes m) (read_same told bytes fits.0 offset count ch (λ i. refl) fits.2 fill) ∙ sym fits.1;
    }

-- Files.

module _ {D : Type 0} (Good : Choice → D → Type 0) (question : D → List ℕ → Reply) (m : ℕ) (given : Reply) (Fits : List ℕ → Type 0)
    (picks : (told : List ℕ) → Fits told
    → Picks (λ ch. (d : D) (bytes : List ℕ) → Good ch d → ChosenBytes ch told bytes → question d bytes ≡ given)) where
  kind_pick : (k : Kind) (told : List ℕ) → KindFits m k given (Fits told)
      → Picks (λ ch. (d : D) (bytes : List ℕ) → Good ch d → ChosenBytes ch told bytes → of_kind m k (question d bytes) ≡ given)
  kind_pick kind.Directory told fits = record { choice = any; holds = λ d bytes good fill. sym fits }
  kind_pick kind.File told fits = picks told fits

  none_pick : given ≡ reply.NotFound m → (ch : Choice) (d : D) (y : Option File) → Pairs (ChosenFile ch) None y
      → of_file m y (question d) ≡ given
  none_pick fits ch d None both = sym fits
  none_pick fits ch d (Some y) both = absurd both

  some_pick : (x : File) (ch : Choice)
      → ((d : D) (bytes : List ℕ) → Good ch d → ChosenBytes ch x.bytes bytes → of_kind m x.entry.kind (question d bytes) ≡ given)
      → (d : D) (y : Option File) → Good ch d → Pairs (ChosenFile ch) (Some x) y → of_file m y (question d) ≡ given
  some_pick x ch holds d None good both = absurd both
  some_pick x ch holds d (Some y) good both =
      ap (λ (e : Entry). of_kind m e.kind (question d y.bytes)) (sym both.entry) ∙ holds d y.bytes good both.bytes

  -- by what stands at a path
  pub file_pick : (x : Option File) → FileFits m x given Fits
      → Picks (λ ch. (d : D) (y : Option File) → Good ch d → Pairs (ChosenFile ch) x y → of_file m y (question d) ≡ given)
  file_pick None fits = record { choice = any; holds = λ d y good both. none_pick fits any d y both }
  file_pick (Some x) fits =
      let some = kind_pick x.entry.kind x.bytes fits in
      record { choice = some.choice; holds = some_pick x some.choice some.holds }
