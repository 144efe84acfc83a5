-- What is allowed for some bytes fits what is told before it.
use Rattle.std.proofs.Common.{◌≡◌, ◌≢◌, ◌+◌, ◌<◌, ◌⊎◌, inl, inr, ℕ, Bool, true, false, List, length, get_or, take, drop, Option, Some, None, refl, ap, ap₂, sym, ◌∙◌, subst, arith}
use Rattle.std.specs.Prelude.{◌==◌, if◌then◌else◌, min, not, slice_index}
use Rattle.std.proofs.lemmas.Bool.Decides.{nat_tests}
use Rattle.std.proofs.lemmas.List.{get_or-drop, get_or-replicate, get_or-take, length-drop, length-replicate, length-take}
use Rattle.std.proofs.lemmas.Option.{same_Some}
use Rattle.fam_base.specs.declared.cmd.Cmd.{Cmd}
use Rattle.fam_base.specs.declared.cmd.Cmd.TheVariants as cmd
use Rattle.fam_base.specs.declared.cmd.Content.{Content}
use Rattle.fam_base.specs.declared.cmd.Content.TheVariants as content
use Rattle.fam_base.specs.declared.entry.Entry.{Entry}
use Rattle.fam_base.specs.declared.entry.Kind.{Kind}
use Rattle.fam_base.specs.declared.entry.Kind.TheVariants as kind
use Rattle.fam_base.specs.PathOrder.{path_eq}
use Rattle.fam_format.specs.Tree.{replay}
use Rattle.fam_commands.proofs.Finds.{IsSearched, searched}
use Rattle.fam_rules.specs.Asks.{File, ask, compared, compared_at, entries_of, file_at, file_bytes_from, first_difference, of_file, of_kind, verified}
use Rattle.fam_rules.specs.Checks.{checked}
use Rattle.fam_rules.specs.Content.{content_byte}
use Rattle.fam_rules.specs.Reply as reply
use Rattle.fam_rules.specs.Reply.{Reply}
use Rattle.fam_judge.specs.Fitting.{AskFits, FileFits, FitBytes, FitsByte, FitsWanted, AllowsSize, KindFits, MayAgree, VerifiedFits, given_count}
use Rattle.fam_judge.specs.Formed.{IsSoundCommand}
use Rattle.fam_judge.specs.Untold.{untold, untold_bytes, untold_cmd, untold_content}
use Rattle.fam_judge.proofs.Filling.{FillBytes, FillFiles, FillsFile, filled_entries, filled_length}
use Rattle.fam_judge.proofs.Pairs.{Pairs, pairs_find}

-- a byte that may stand at any offset where this is told
abbrev pub AnyFits : ℕ → ℕ → ℕ → Type 0
AnyFits i told byte = FitsByte told byte

-- the file at a path, in both
pub at_path : (Stands : ℕ → ℕ → ℕ → Type 0) (a b : List File) (path : List ℕ) → FillFiles Stands a b
    → Pairs (FillsFile Stands) (file_at a path) (file_at b path)
at_path Stands a b path files =
    pairs_find (FillsFile Stands) _ _ (λ x y one. ap (λ (e : Entry). path_eq e.path path) one.entry) a b files

-- Contents.

-- what is told of a byte that is wanted
pub told_wanted : (against : Content) (n i : ℕ) → AllowsSize (given_count (untold_content against)) n → i < n
    → FitsWanted (content_byte (untold_content against) i) (content_byte against i)
told_wanted content.Zero n i long below = inl refl
told_wanted (content.Seed seed) n i long below = inl refl
told_wanted (content.Bytes bytes) n i long below =
    let short : i < length bytes = subst (λ (k : ℕ). i < k) (sym (sym (length-replicate (length bytes) untold) ∙ long)) below in
    inr (get_or-replicate (length bytes) i untold 0 short)

agrees : (t b u w : ℕ) → FitsByte t b → FitsWanted u w → b ≡ w → (t ≡ u) ⊎ (t ≡ untold) ⊎ (u ≡ untold)
agrees t b u w one other same = by one.1 other
  where
    by : (t ≡ b) ⊎ (t ≡ untold) → (u ≡ w) ⊎ (u ≡ untold) → (t ≡ u) ⊎ (t ≡ untold) ⊎ (u ≡ untold)
    by (inr none) wanted = inr (inl none)
    by (inl told) (inr none) = inr (inr none)
    by (inl told) (inl wanted) = inl (told ∙ same ∙ sym wanted)

test_same : (a b : ℕ) → not (a == b) ≡ false → a ≡ b
test_same a b e = grind (arith, nat_tests)

test_other : (a b : ℕ) → not (a == b) ≡ true → a ≢ b
test_other a b e same = grind (arith, nat_tests)

module _ (m : ℕ) (told bytes : List ℕ) (fill : FillBytes AnyFits told bytes) (against : Content) where
  compared_told : AllowsSize (given_count (untold_content against)) (length told) → (given : Reply) → compared m bytes against ≡ given
      → VerifiedFits m told (untold_content against) given
  compared_told long given e =
      subst (λ (r : Reply). VerifiedFits m told (untold_content against) r) e (by (first_difference bytes against) (searched _ (length bytes) 0))
    where
      differs : ℕ → Bool
      differs o = not (slice_index bytes o == content_byte against o)

      agree : (i : ℕ) → i < length told → differs i ≡ false → MayAgree told (untold_content against) i
      agree i below same =
          agrees _ _ _ _ (fill.each i below) (told_wanted against (length told) i long below)
          (test_same (slice_index bytes i) (content_byte against i) same)

      by : (o : Option ℕ) → IsSearched differs 0 (length bytes) o → VerifiedFits m told (untold_content against) (compared_at m bytes against o)
      by None none = (refl, long, λ i below. agree i below (none i (omega arith) (omega (arith, fill.count))))
      by (Some o) first =
          let within : o < length told = omega (arith, first.below, fill.count) in (
            refl,
            long,
            record {
              within = within;
              before = λ i below. agree i (omega (arith, below, within)) (first.before i (omega arith) below);
              found_fits = fill.each o within;
              wanted_fits = told_wanted against (length told) o long within;
              other = test_other _ _ first.passes;
            },
          )

-- given bytes are as many as the file's, or not
given_told : (m : ℕ) (told bytes given : List ℕ) → FillBytes AnyFits told bytes → (b : Bool) → (length given == length bytes) ≡ b → (r : Reply)
    → (if b then compared m bytes (content.Bytes given) else reply.Length m (length bytes) (length given)) ≡ r
    → VerifiedFits m told (content.Bytes (untold_bytes given)) r
given_told m told bytes given fill true same r e =
    let count : length given ≡ length bytes = grind (arith, nat_tests) in
    compared_told m told bytes fill (content.Bytes given) (length-replicate (length given) untold ∙ count ∙ fill.count) r e
given_told m told bytes given fill false other r e = subst (λ (x : Reply). VerifiedFits m told (content.Bytes (untold_bytes given)) x) e (
  refl,
  fill.count,
  ap Some (length-replicate (length given) untold),
  λ (same : length given ≡ length bytes). grind (arith, nat_tests),
)

-- a verify's reply
pub verified_told : (m : ℕ) (told bytes : List ℕ) → FillBytes AnyFits told bytes → (against : Content) (given : Reply)
    → verified m bytes against ≡ given
    → VerifiedFits m told (untold_content against) given
verified_told m told bytes fill content.Zero given e = compared_told m told bytes fill content.Zero tt given e
verified_told m told bytes fill (content.Seed seed) given e = compared_told m told bytes fill (content.Seed seed) tt given e
verified_told m told bytes fill (content.Bytes wanted) given e = given_told m told bytes wanted fill (length wanted == length bytes) refl given e

-- Files.

kind_told : (m : ℕ) (k : Kind) (r given : Reply) (F : Type 0) → (r ≡ given → F) → of_kind m k r ≡ given → KindFits m k given F
kind_told m kind.Directory r given F fits e = sym e
kind_told m kind.File r given F fits e = fits e

-- a reply on a file
file_told : (m : ℕ) (x y : Option File) (given : Reply) (Fits : List ℕ → Type 0) (question : List ℕ → Reply) → Pairs (FillsFile AnyFits) x y
    → ((told bytes : List ℕ) → FillBytes AnyFits told bytes → question bytes ≡ given → Fits told) → of_file m y question ≡ given
    → FileFits m x given Fits
file_told m None None given Fits question both fits e = sym e
file_told m None (Some y) given Fits question both fits e = absurd both
file_told m (Some x) None given Fits question both fits e = absurd both
file_told m (Some x) (Some y) given Fits question both fits e =
    kind_told m x.entry.kind (question y.bytes) given (Fits x.bytes) (fits x.bytes y.bytes both.bytes)
    (ap (λ (f : Entry). of_kind m f.kind (question y.bytes)) both.entry ∙ e)

-- as many bytes are read of as many
pub read_length : (told bytes : List ℕ) (offset count : ℕ) → length bytes ≡ length told
    → length (file_bytes_from offset count bytes) ≡ length (file_bytes_from offset count told)
read_length told bytes offset count same =
    let one : length (take count (drop offset bytes)) ≡ min count (length (drop offset bytes)) = length-take count (drop offset bytes) in
    let other : length (take count (drop offset told)) ≡ min count (length (drop offset told)) = length-take count (drop offset told) in
    let long = length-drop offset bytes in
    let short = length-drop offset told in
    omega (arith, one, other, long, short, same)

-- those of a file from the offset on
pub read_inside : (bytes : List ℕ) (offset count i : ℕ) → i < length (file_bytes_from offset count bytes) → offset + i < length bytes
read_inside bytes offset count i below =
    let one : length (take count (drop offset bytes)) ≡ min count (length (drop offset bytes)) = length-take count (drop offset bytes) in
    let long = length-drop offset bytes in
    omega (arith, below, one, long)

-- each of them
pub read_at : (bytes : List ℕ) (offset count i : ℕ) → i < length (file_bytes_from offset count bytes)
    → get_or (file_bytes_from offset count bytes) i 0 ≡ get_or bytes (offset + i) 0
read_at bytes offset count i below =
    let one : length (take count (drop offset bytes)) ≡ min count (length (drop offset bytes)) = length-take count (drop offset bytes) in
    let short : i < count = omega (arith, below, one) in
    get_or-take count (drop offset bytes) i 0 short ∙ get_or-drop offset bytes i 0

-- the same bytes of both
read_told : (told bytes : List ℕ) (offset count : ℕ) → FillBytes AnyFits told bytes
    → FitBytes (file_bytes_from offset count told) (file_bytes_from offset count bytes)
read_told told bytes offset count fill = record {
  count = read_length told bytes offset count fill.count;
  each = λ i below.
      let own : i < length (file_bytes_from offset count bytes) =
      subst (λ (n : ℕ). i < n) (sym (read_length told bytes offset count fill.count)) below in
      subst (λ (t : ℕ). FitsByte t (get_or (file_bytes_from offset count bytes) i 0)) (sym (read_at told offset count i below))
      (subst (λ (b : ℕ). FitsByte (get_or told (offset + i) 0) b) (sym (read_at bytes offset count i own))
      (fill.each (offset + i) (read_inside told offset count i below)));
}

-- Questions.

-- what is asked of entries is asked of those that are told
pub ask_told : (told files : List File) (c : Cmd) (given : Reply) → FillFiles AnyFits told files → IsSoundCommand c
    → ask files c ≡ Some given → AskFits told (untold_cmd c) given
ask_told told files cmd.Logplay given both sound e =
    ap₂ (λ (n : ℕ) (l : List Entry). Some (reply.Played n (replay l))) (filled_length AnyFits told files both)
    (filled_entries AnyFits told files both) ∙ e
ask_told told files cmd.Mount given both sound e = ap (λ (n : ℕ). Some (reply.Mounted n)) (filled_length AnyFits told files both) ∙ e
ask_told told files (cmd.Verify path against) given both sound e =
    let n = filled_length AnyFits told files both in
    file_told (length told) (file_at told path) (file_at files path) given _ (λ bytes. verified (length told) bytes against)
    (at_path AnyFits told files path both)
    (λ x bytes fill is. verified_told (length told) x bytes fill against given is)
    (ap (λ (m : ℕ). of_file m (file_at files path) (λ bytes. verified m bytes against)) n ∙ same_Some _ given e)
ask_told told files (cmd.Read path offset count) given both sound e =
    let n = filled_length AnyFits told files both in
    file_told (length told) (file_at told path) (file_at files path) given _ (λ bytes. reply.Bytes (length told) (file_bytes_from offset count bytes))
    (at_path AnyFits told files path both)
    (λ x bytes fill is. (file_bytes_from offset count bytes, sym is, read_told x bytes offset count fill))
    (ap (λ (m : ℕ). of_file m (file_at files path) (λ bytes. reply.Bytes m (file_bytes_from offset count bytes))) n ∙ same_Some _ given e)
ask_told told files (cmd.Check listing) given both sound e =
    let n = filled_length AnyFits told files both in
    let l = filled_entries AnyFits told files both in (
      checked (replay (entries_of told)) listing,
      sym (ap₂ (λ (m : ℕ) (x : List Entry). reply.Checks m (checked (replay x) listing)) n l ∙ same_Some _ given e),
      record { listing = listing; alike = refl; sound = sound; is = refl },
    )
ask_told told files c given both sound e = absurd (cc)
