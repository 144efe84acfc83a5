-- Runs of lines: what stands one behind another, and what a run of a file puts.
use Rattle.std.proofs.Common.{◌≡◌, ℕ, zero, suc, ◌+◌, ◌-◌, ◌*◌, ◌/◌, ◌%◌, ◌<◌, ◌≤◌, List, [], ◌∷◌, ◌++◌, length, get_or, Option, Some, None, refl, sym, ap, ap₂, subst, ◌∙◌, inl, inr, arith}
use Rattle.std.specs.Option.{option_map}
use Rattle.std.proofs.lemmas.Nat.{div-add-mod', div-mul-add}
use Rattle.fam_base.specs.declared.entry.Entry.{Entry}
use Rattle.fam_base.specs.declared.extents.Extent.{Extent}
use Rattle.fam_base.specs.Image.{Image}
use Rattle.fam_media.specs.Outside.{IsTorn}
use Rattle.fam_media.specs.Runs.{IsRunTorn, line_in, run_written, with_run}
use Rattle.fam_rules.specs.Content.{file_words}
use Rattle.fam_base.specs.ExtentLists.{no_extent}
use Rattle.fam_rules.specs.Place.{line_bytes, place, striped_place}
use Rattle.fam_rules.specs.Written.{Put, file_line, put_lines}
use Rattle.fam_rules.proofs.Puts.{puts_from}
use Rattle.fam_rules.proofs.Puts.{put_lines-append}
use Rattle.fam_dup.specs.Lines.{AreCutAt, ArePut}
use Rattle.fam_dup.specs.Passes.{ArePassed}
use Rattle.fam_dup.specs.Runs.{HoldFileParts, AreTogether, part_puts, run_puts}
use Rattle.fam_dup.proofs.Passing.{pass_cut, pass_part, put_none}

-- Places.

-- bytes of one chunk
module _ (chunk o d : ℕ) (below : o % chunk + d < chunk) where
  pub same_chunk : (o + d) / chunk ≡ o / chunk
  same_chunk =
      let sum : o + d ≡ o / chunk * chunk + (o % chunk + d) = omega (arith, div-add-mod' o chunk) in
      ap (λ (n : ℕ). n / chunk) sum ∙ div-mul-add (o / chunk) chunk (o % chunk + d) below

  pub behind_in_chunk : (o + d) % chunk ≡ o % chunk + d
  behind_in_chunk =
      let row : (o + d) / chunk * chunk ≡ o / chunk * chunk = ap (λ (n : ℕ). n * chunk) same_chunk in
      omega (arith, row, div-add-mod' o chunk, div-add-mod' (o + d) chunk)

-- so a byte of a striped file stands behind another one of its chunk
pub dealt_behind : (strips : List Extent) (chunk o d : ℕ) → (o + d) / chunk ≡ o / chunk → (o + d) % chunk ≡ o % chunk + d → striped_place strips chunk (o + d) ≡ striped_place strips chunk o + d
dealt_behind strips chunk o d same behind =
    let k = length strips in
    let strip : (get_or strips ((o + d) / chunk % k) no_extent).offset ≡ (get_or strips (o / chunk % k) no_extent).offset = ap (λ (q : ℕ). (get_or strips (q % k) no_extent).offset) same in
    let row : (o + d) / chunk / k * chunk ≡ o / chunk / k * chunk = ap (λ (q : ℕ). q / k * chunk) same in
    omega (arith, strip, row, behind)

-- lines whose bytes stand one behind another do so
pub lines_behind : (e : Entry) (j n bytes : ℕ) → ((d : ℕ) → d < bytes → place e (line_bytes * j + d) ≡ place e (line_bytes * j) + d) → ((i : ℕ) → i < n → line_bytes * i < bytes) → AreTogether e j n
lines_behind e j n bytes behind within = λ i below.
    let sum : line_bytes * (j + i) ≡ line_bytes * j + line_bytes * i = omega arith in
    let at : place e (line_bytes * (j + i)) ≡ place e (line_bytes * j) + line_bytes * i =
    ap (λ (o : ℕ). place e o) sum ∙ behind (line_bytes * i) (within i below) in
    omega (arith, at)

-- one line does
pub one_line : (e : Entry) (j n : ℕ) → n ≤ 1 → AreTogether e j n
one_line e j n few = λ i below.
    let first : j + i ≡ j = omega arith in
    let same : file_line e (j + i) ≡ file_line e j = ap (λ (k : ℕ). file_line e k) first in
    omega (arith, same)

-- Puts.

-- those of n numbers from a on, and then those of m more
pub puts_split : (f : ℕ → ℕ) (g : ℕ → List ℕ) (a n m : ℕ) → puts_from f g a (n + m) ≡ puts_from f g a n ++ puts_from f g (a + n) m
puts_split f g a zero m =
    let none : 0 + m ≡ m = omega arith in
    let same : a ≡ a + 0 = omega arith in
    ap (λ (k : ℕ). puts_from f g a k) none ∙ ap (λ (b : ℕ). puts_from f g b m) same
puts_split f g a (suc n) m =
    let more : suc n + m ≡ suc (n + m) = omega arith in
    let next : a + 1 + n ≡ a + suc n = omega arith in
    ap (λ (k : ℕ). puts_from f g a k) more
    ∙ ap (λ (l : List Put). (f a, g a) ∷ l) (puts_split f g (a + 1) n m)
    ∙ ap (λ (b : ℕ). (f a, g a) ∷ (puts_from f g (a + 1) n ++ puts_from f g b m)) next

module _ (first : ℕ) (lines : List (List ℕ)) where
  -- the first k lines of a run are those puts
  pub with_run-puts : (k : ℕ) (image : Image) → with_run first lines k image ≡ put_lines (puts_from (λ i. first + i) (line_in lines) 0 k) image
  with_run-puts zero image = refl
  with_run-puts (suc k) image =
      let more : suc k ≡ k + 1 = omega arith in
      let front : List Put = puts_from (λ i. first + i) (line_in lines) 0 k in
      let last : List Put = (first + (0 + k), line_in lines (0 + k)) ∷ [] in
      let start : 0 + k ≡ k = omega arith in
      ap (λ (i : Image). put_lines ((first + k, line_in lines k) ∷ []) i) (with_run-puts k image)
      ∙ ap (λ (n : ℕ). put_lines ((first + n, line_in lines n) ∷ []) (put_lines front image)) (sym start)
      ∙ sym (put_lines-append front last image)
      ∙ ap (λ (l : List Put). put_lines l image) (sym (puts_split (λ i. first + i) (line_in lines) 0 k 1))
      ∙ ap (λ (n : ℕ). put_lines (puts_from (λ i. first + i) (line_in lines) 0 n) image) (sym more)

  run_some : (k : ℕ) (old : Option Image) → run_written first lines k old ≡ option_map (put_lines (puts_from (λ i. first + i) (line_in lines) 0 k)) old
  run_some k None = refl
  run_some k (Some image) = ap (λ (i : Image). Some i) (with_run-puts k image)

  -- a run was written
  pub run_put : (old new : Option Image) → new ≡ run_written first lines (length lines) old → ArePut (run_puts first lines) old new
  run_put old new written = written ∙ run_some (length lines) old

  -- or failed at line k
  pub run_cut : (old new : Option Image) (k : ℕ) → k < length lines → IsRunTorn old new first lines k → AreCutAt (λ put. put.0 ≡ first + k) (run_puts first lines) old new
  run_cut old new k below torn =
      let count : length lines ≡ k + (1 + (length lines - (k + 1))) = omega arith in
      let start : 0 + k ≡ k = omega arith in
      let one : 1 + (length lines - (k + 1)) ≡ suc (length lines - (k + 1)) = omega arith in
      let rest : List Put = puts_from (λ i. first + i) (line_in lines) (k + 1) (length lines - (k + 1)) in
      record {
        cut = record {
          done = puts_from (λ i. first + i) (line_in lines) 0 k;
          put = (first + k, line_in lines k);
          rest = rest;
          parts = ap (λ (n : ℕ). puts_from (λ i. first + i) (line_in lines) 0 n) count
              ∙ puts_split (λ i. first + i) (line_in lines) 0 k (1 + (length lines - (k + 1)))
              ∙ ap₂ (λ (a n : ℕ). puts_from (λ i. first + i) (line_in lines) 0 k ++ puts_from (λ i. first + i) (line_in lines) a n) start one;
          cut = inr (subst (λ (o : Option Image). IsTorn o new (first + k) (line_in lines k)) (run_some k old) torn);
        };
        at = refl;
      }

-- the same numbers and words, from different places on
same_puts : (f h : ℕ → ℕ) (g w : ℕ → List ℕ) (a b n : ℕ) → ((i : ℕ) → i < n → f (a + i) ≡ h (b + i)) → ((i : ℕ) → i < n → g (a + i) ≡ w (b + i)) → puts_from f g a n ≡ puts_from h w b n
same_puts f h g w a b zero numbers words = refl
same_puts f h g w a b (suc n) numbers words =
    let a_first : a + 0 ≡ a = omega arith in
    let b_first : b + 0 ≡ b = omega arith in
    let number : f a ≡ h b = ap f (sym a_first) ∙ numbers 0 (omega arith) ∙ ap h b_first in
    let word : g a ≡ w b = ap g (sym a_first) ∙ words 0 (omega arith) ∙ ap w b_first in
    ap₂ (λ (l : ℕ) (v : List ℕ). (l, v) ∷ puts_from f g (a + 1) n) number word
    ∙ ap (λ (l : List Put). (h b, w b) ∷ l)
    (same_puts f h g w (a + 1) (b + 1) n
    (λ i below. let a_next : a + 1 + i ≡ a + suc i = omega arith in let b_next : b + 1 + i ≡ b + suc i = omega arith in ap f a_next ∙ numbers (suc i) (omega arith) ∙ ap h (sym b_next))
    (λ i below. let a_next : a + 1 + i ≡ a + suc i = omega arith in let b_next : b + 1 + i ≡ b + suc i = omega arith in ap g a_next ∙ words (suc i) (omega arith) ∙ ap w (sym b_next)))

-- the lines of a run are those of the file's
pub run_parts : (c : Entry) (bytes : List ℕ) (j first : ℕ) (lines : List (List ℕ)) → first ≡ file_line c j → AreTogether c j (length lines)
    → HoldFileParts bytes j lines → run_puts first lines ≡ part_puts c bytes j (length lines)
run_parts c bytes j first lines is together parts =
    same_puts (λ i. first + i) (file_line c) (line_in lines) (file_words bytes) 0 j (length lines)
    (λ i below. let at : 0 + i ≡ i = omega arith in ap (λ (k : ℕ). first + k) at ∙ ap (λ (l : ℕ). l + i) is ∙ sym (together i below))
    (λ i below. let at : 0 + i ≡ i = omega arith in ap (line_in lines) at ∙ parts i below)

-- nothing was put yet of some lines of a file
pub parts_before : {At : Put → Type 0} (c : Entry) (bytes : List ℕ) (j n : ℕ) → 0 < n → (old : Option Image) → At (file_line c j, file_words bytes j) → AreCutAt At (part_puts c bytes j n) old old
parts_before c bytes j n some old at =
    let more : n ≡ suc (n - 1) = omega arith in
    record {
      cut = record {
        done = [];
        put = (file_line c j, file_words bytes j);
        rest = part_puts c bytes (j + 1) (n - 1);
        parts = ap (λ (k : ℕ). part_puts c bytes j k) more;
        cut = inl (put_none old);
      };
      at = at;
    }

-- A pass of lines f j with words g j, n at once.
module _ (f : ℕ → ℕ) (g : ℕ → List ℕ) (all : List Put) (j n end : ℕ) (old mid new : Option Image) (below : j + n ≤ end) (passed : ArePassed all (puts_from f g j (end - j)) old mid) where
  next_run : ArePassed all (puts_from f g j n ++ puts_from f g (j + n) (end - (j + n))) old mid
  next_run =
      let more : end - j ≡ n + (end - (j + n)) = omega arith in
      subst (λ (l : List Put). ArePassed all l old mid) (ap (λ (k : ℕ). puts_from f g j k) more ∙ puts_split f g j n (end - (j + n))) passed

  -- these were put
  pub run_part : ArePut (puts_from f g j n) mid new → ArePassed all (puts_from f g (j + n) (end - (j + n))) old new
  run_part put = pass_part all (puts_from f g j n) (puts_from f g (j + n) (end - (j + n))) old mid new next_run put

  -- or cut
  pub run_cut_short : {At : Put → Type 0} → AreCutAt At (puts_from f g j n) mid new → AreCutAt At all old new
  run_cut_short cut = pass_cut all (puts_from f g j n) (puts_from f g (j + n) (end - (j + n))) old mid new next_run cut
