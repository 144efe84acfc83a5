-- Entries with their bytes.
use Rattle.std.proofs.Common.{◌≡◌, ℕ, zero, suc, ◌+◌, ◌≤◌, List, [], ◌∷◌, ◌++◌, length, take, Option, Some, None, refl, sym, ap, ap₂, ◌∙◌, arith}
use Rattle.std.specs.List.{slice_get}
use Rattle.std.proofs.lemmas.List.{length-append, map-append, take-append-le, take-map}
use Rattle.std.proofs.lemmas.Option.{slice_get-get_or}
use Rattle.std.proofs.Math.Seq.{get_or-append_seam, take-length}
use Rattle.fam_base.specs.declared.entry.Entry.{Entry}
use Rattle.fam_rules.specs.Asks.{File, entries_of}
use Rattle.fam_journal.specs.Past.{with_pending}
use Rattle.fam_settled.specs.declared.bytes.Bytes.{Bytes}
use Rattle.fam_settled.specs.declared.bytes.Filed.{Filed}
use Rattle.fam_settled.specs.Bytes.{file_with}
use Rattle.fam_settled.specs.Settled.{settled_and_pending, filed, files_of, settled_files, SettledLog}

-- there are as many files as entries
pub length-files_of : (entries : List Entry) (bytes : List Bytes) → length (files_of entries bytes) ≡ length entries
length-files_of [] bytes = refl
length-files_of (e ∷ entries) [] = ap suc (length-files_of entries [])
length-files_of (e ∷ entries) (b ∷ bytes) = ap suc (length-files_of entries bytes)

-- they have these entries
pub entries_of-files_of : (entries : List Entry) (bytes : List Bytes) → entries_of (files_of entries bytes) ≡ entries
entries_of-files_of [] bytes = refl
entries_of-files_of (e ∷ entries) [] = ap (λ (es : List Entry). e ∷ es) (entries_of-files_of entries [])
entries_of-files_of (e ∷ entries) (b ∷ bytes) = ap (λ (es : List Entry). e ∷ es) (entries_of-files_of entries bytes)

-- one more file
pub files_of-push : (entries : List Entry) (bytes : List Bytes) (e : Entry) (b : Bytes) → length bytes ≡ length entries
    → files_of (entries ++ e ∷ []) (bytes ++ b ∷ []) ≡ files_of entries bytes ++ file_with e b ∷ []
files_of-push [] [] e b same = refl
files_of-push [] (x ∷ bytes) e b same = absurd (omega arith)
files_of-push (y ∷ entries) [] e b same = absurd (omega arith)
files_of-push (y ∷ entries) (x ∷ bytes) e b same =
    ap (λ (fs : List File). file_with y x ∷ fs) (files_of-push entries bytes e b (omega arith))

-- the file at a place
pub slice_get-files_of : (entries : List Entry) (bytes : List Bytes) (i : ℕ) (e : Entry) (b : Bytes)
    → slice_get entries i ≡ Some e → slice_get bytes i ≡ Some b → slice_get (files_of entries bytes) i ≡ Some (file_with e b)
slice_get-files_of [] bytes i e b at in_bytes = absurd (grind (arith, at))
slice_get-files_of (y ∷ entries) [] i e b at in_bytes = absurd (grind (arith, in_bytes))
slice_get-files_of (y ∷ entries) (x ∷ bytes) zero e b at in_bytes =
    let same : y ≡ e = cc in
    let same_bytes : x ≡ b = cc in
    ap₂ (λ (z : Entry) (w : Bytes). Some (file_with z w)) same same_bytes
slice_get-files_of (y ∷ entries) (x ∷ bytes) (suc i) e b at in_bytes = slice_get-files_of entries bytes i e b at in_bytes

-- The history, and the pending entry behind it.

-- one entry more, where there is one
abbrev pub entries_behind : List Entry → Option Filed → List Entry
entries_behind entries None = entries
entries_behind entries (Some f) = entries ++ f.entry ∷ []

abbrev pub one_if : Option Filed → ℕ
one_if None = 0
one_if (Some f) = 1

-- the entries
pub entries-with_pending : (entries : List Entry) (bytes : List Bytes) (f : Option Filed) → entries_of (with_pending (files_of entries bytes) (filed f)) ≡ entries_behind entries f
entries-with_pending entries bytes None = entries_of-files_of entries bytes
entries-with_pending entries bytes (Some f) =
    map-append (λ (x : File). x.entry) (files_of entries bytes) (file_with f.entry f.bytes ∷ []) ∙ ap (λ (es : List Entry). es ++ f.entry ∷ []) (entries_of-files_of entries bytes)

-- how many there are
pub length-with_pending : (entries : List Entry) (bytes : List Bytes) (f : Option Filed) → length (with_pending (files_of entries bytes) (filed f)) ≡ length entries + one_if f
length-with_pending entries bytes None = let same = length-files_of entries bytes in omega (arith, same)
length-with_pending entries bytes (Some f) =
    let same = length-files_of entries bytes in
    omega (arith, same, length-append (files_of entries bytes) (file_with f.entry f.bytes ∷ []))

-- The files of a log.

module _ (s : SettledLog) where
  -- an entry pends
  pub all_some : (f : Filed) → s.pending ≡ Some f → length (settled_and_pending s) ≡ length s.entries + 1
  all_some f is = length-with_pending s.entries s.bytes s.pending ∙ ap (λ (o : Option Filed). length s.entries + one_if o) is

  -- none does
  pub all_none : s.pending ≡ None → length (settled_and_pending s) ≡ length s.entries
  all_none is =
      length-with_pending s.entries s.bytes s.pending ∙ ap (λ (o : Option Filed). length s.entries + one_if o) is ∙ (let same : length s.entries + 0 ≡ length s.entries = omega arith in same)

  -- at most one does
  pub all_few : length (settled_and_pending s) ≤ length s.entries + 1
  all_few = omega (arith, length-with_pending s.entries s.bytes s.pending, at_most s.pending)
    where
      at_most : (o : Option Filed) → one_if o ≤ 1
      at_most None = omega arith
      at_most (Some f) = omega arith

  -- it stands behind the others
  pub all_last : (f : Filed) (i : ℕ) → s.pending ≡ Some f → i ≡ length s.entries → slice_get (settled_and_pending s) i ≡ Some (file_with f.entry f.bytes)
  all_last f i is last =
      let h = settled_files s in
      let x : File = file_with f.entry f.bytes in
      let at : i ≡ length h = last ∙ sym (length-files_of s.entries s.bytes) in
      ap₂ (λ (o : Option Filed) (n : ℕ). slice_get (with_pending h (filed o)) n) is at
      ∙ slice_get-get_or (h ++ x ∷ []) (length h) x (omega (arith, length-append h (x ∷ [])))
      ∙ ap (λ (y : File). Some y) (get_or-append_seam h x [] x)

  -- the first entries
  take_all : (m : ℕ) → entries_of (take m (settled_and_pending s)) ≡ take m (entries_behind s.entries s.pending)
  take_all m = sym (take-map (λ (f : File). f.entry) m (settled_and_pending s)) ∙ ap (take m) (entries-with_pending s.entries s.bytes s.pending)

  pub first_within : (m : ℕ) → m ≤ length s.entries → take m s.entries ≡ entries_of (take m (settled_and_pending s))
  first_within m few = sym (take_all m ∙ by_pending s.pending)
    where
      by_pending : (o : Option Filed) → take m (entries_behind s.entries o) ≡ take m s.entries
      by_pending None = refl
      by_pending (Some f) = take-append-le m s.entries (f.entry ∷ []) few

  -- all that are settled
  pub first_settled : (m : ℕ) → m ≡ length s.entries → s.entries ≡ entries_of (take m (settled_and_pending s))
  first_settled m is =
      sym (ap (λ (n : ℕ). take n s.entries) is ∙ take-length s.entries) ∙ first_within m (omega (arith, is))

  -- all
  pub first_all : (m : ℕ) → m ≡ length (settled_and_pending s) → entries_of (settled_and_pending s) ≡ entries_of (take m (settled_and_pending s))
  first_all m is = ap entries_of (sym (ap (λ (n : ℕ). take n (settled_and_pending s)) is ∙ take-length (settled_and_pending s)))
