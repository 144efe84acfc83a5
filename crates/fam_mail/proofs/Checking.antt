-- A box whose records are looked at one by one.
use Rattle.std.proofs.Common.{◌≡◌, ℕ, zero, suc, ◌+◌, ◌-◌, ◌<◌, ◌≤◌, inl, inr, List, [], ◌∷◌, refl, sym, ap, subst, ◌∙◌, arith, add-one}
use Rattle.std.specs.Prelude.{Bool, true, false, cond, is_some, nat_lt, Option, Some, None, Result, Ok, Err}
use Rattle.std.proofs.lemmas.Bool.Decides.{nat_tests}
use Rattle.fam_base.specs.Image.{Image, line_at}
use Rattle.fam_media.specs.Causes.{Rose}
use Rattle.fam_media.specs.Outside.{IfModelled}
use Rattle.fam_mail.specs.Checks.{IsReadLine}
use Rattle.fam_mail.specs.Boxes.{IsBox, box_by, box_of, first_wrong, box_gate, record_at, record_before, records_from, wrong_before}
use Rattle.fam_mail.specs.Records.{numbers_in, numbers_or, record_in, wrong_word}
use Rattle.fam_mail.specs.declared.check.WrongBox.TheVariants.{BadBox, BadRecord}

-- what was read of records, by the first that is none
abbrev ReadsAs : Result (List (List ℕ)) ℕ → Option ℕ → Type 0
ReadsAs r None = (records : List (List ℕ)) × (r ≡ Ok records)
ReadsAs r (Some k) = r ≡ Err k

module _ (each : ℕ → Result (List ℕ) ℕ) where
  one : (i : ℕ) (first : Result (List ℕ) ℕ) (rest : Result (List (List ℕ)) ℕ) (wrong : Option ℕ) → ReadsAs rest wrong → ReadsAs (record_before i first rest) (wrong_before i first wrong)
  one i (Err word) rest wrong reads = refl
  one i (Ok numbers) rest None reads = (numbers ∷ reads.0, ap (record_before i (Ok numbers)) reads.1)
  one i (Ok numbers) rest (Some k) reads = ap (record_before i (Ok numbers)) reads

  pub reads_as : (i n : ℕ) → ReadsAs (records_from each i n) (first_wrong each i n)
  reads_as i zero = ([], refl)
  reads_as i (suc n) = one i (each i) (records_from each (suc i) n) (first_wrong each (suc i) n) (reads_as (suc i) n)

  -- where none of so many records is wrong, nor is the one behind them, none of one more is
  behind_right : (i : ℕ) (first : Result (List ℕ) ℕ) (rest more : Option ℕ) → wrong_before i first rest ≡ None → (rest ≡ None → more ≡ None) → wrong_before i first more ≡ None
  behind_right i (Err word) rest more none next = absurd cc
  behind_right i (Ok numbers) rest more none next = next none

  pub still_right : (i n last : ℕ) (numbers : List ℕ) → last ≡ i + n → each last ≡ Ok numbers → first_wrong each i n ≡ None → first_wrong each i (suc n) ≡ None
  still_right i zero last numbers at is none =
      let here : i ≡ last = omega (arith, at) in
      ap (λ (r : Result (List ℕ) ℕ). wrong_before i r None) (ap each here ∙ is)
  still_right i (suc n) last numbers at is none =
      behind_right i (each i) (first_wrong each (suc i) n) (first_wrong each (suc i) (suc n)) none (λ rest. still_right (suc i) n last numbers (omega (arith, at)) is rest)

  -- one record that is one, and those behind it
  pub next_right : (i end : ℕ) (numbers : List ℕ) → i < end → each i ≡ Ok numbers → first_wrong each i (end - i) ≡ first_wrong each (i + 1) (end - (i + 1))
  next_right i end numbers lt is =
      let left : end - i ≡ suc (end - (i + 1)) = omega arith in
      ap (λ (n : ℕ). first_wrong each i n) left ∙ ap (λ (r : Result (List ℕ) ℕ). wrong_before i r (first_wrong each (suc i) (end - (i + 1)))) is
      ∙ ap (λ (k : ℕ). first_wrong each k (end - (i + 1))) (sym (add-one i))

  -- or none
  pub here_wrong : (i end word : ℕ) → i < end → each i ≡ Err word → first_wrong each i (end - i) ≡ Some i
  here_wrong i end word lt is =
      let left : end - i ≡ suc (end - (i + 1)) = omega arith in
      ap (λ (n : ℕ). first_wrong each i n) left ∙ ap (λ (r : Result (List ℕ) ℕ). wrong_before i r (first_wrong each (suc i) (end - (i + 1)))) is

-- a line is read as a record, or not, by its wrong word
pub right_record : (words : List ℕ) → wrong_word words ≡ None → record_in words ≡ Ok (numbers_in words)
right_record words is = ap (numbers_or (numbers_in words)) is

pub wrong_record : (words : List ℕ) (word : ℕ) → wrong_word words ≡ Some word → record_in words ≡ Err word
wrong_record words word is = ap (numbers_or (numbers_in words)) is

module _ (place : ℕ → ℕ) (capacity : ℕ) (memory : ℕ → List ℕ) where
  pub bad_box : capacity < box_gate place memory → box_of place capacity memory ≡ Err (BadBox (box_gate place memory) capacity)
  bad_box above =
      let t : nat_lt capacity (box_gate place memory) ≡ true = grind (arith, nat_tests) in
      ap (λ (b : Bool). cond b (Err (BadBox (box_gate place memory) capacity)) (box_by (records_from (record_at place memory) 0 (box_gate place memory)))) t

  module _ (below : box_gate place memory ≤ capacity) where
    opened : box_of place capacity memory ≡ box_by (records_from (record_at place memory) 0 (box_gate place memory))
    opened =
        let t : nat_lt capacity (box_gate place memory) ≡ false = grind (arith, nat_tests) in
        ap (λ (b : Bool). cond b (Err (BadBox (box_gate place memory) capacity)) (box_by (records_from (record_at place memory) 0 (box_gate place memory)))) t

    pub bad_record : (i : ℕ) → first_wrong (record_at place memory) 0 (box_gate place memory) ≡ Some i → box_of place capacity memory ≡ Err (BadRecord i)
    bad_record i is =
        let reads = subst (ReadsAs (records_from (record_at place memory) 0 (box_gate place memory))) is (reads_as (record_at place memory) 0 (box_gate place memory)) in
        opened ∙ ap box_by reads

    pub right_box : first_wrong (record_at place memory) 0 (box_gate place memory) ≡ None → IsBox place capacity memory
    right_box is =
        let reads = subst (ReadsAs (records_from (record_at place memory) 0 (box_gate place memory))) is (reads_as (record_at place memory) 0 (box_gate place memory)) in
        (reads.0, opened ∙ ap box_by reads.1)

-- a word that makes a line no record, or none
pub some_word : (o : Option ℕ) → is_some o ≡ true → (k : ℕ) × (o ≡ Some k)
some_word None is = absurd cc
some_word (Some k) is = (k, refl)

-- a test that finds no word has found none
pub no_word : (o : Option ℕ) → is_some o ≡ false → o ≡ None
no_word None is = refl
no_word (Some k) is = absurd cc

-- A record is looked at, in a memory whose gate was read.
module _ (place : ℕ → ℕ) (capacity : ℕ) (memory : ℕ → List ℕ) (gate i : ℕ) (lt : i < gate) (room : gate ≤ capacity) (gate_is : gate ≡ box_gate place memory) (words : List ℕ)
    (line_is : words ≡ memory (place (1 + i)))
    (front : first_wrong (record_at place memory) 0 gate ≡ first_wrong (record_at place memory) i (gate - i)) where
  -- a record that is one is left out of the search for the first that is none
  pub one_right : wrong_word words ≡ None → first_wrong (record_at place memory) 0 gate ≡ first_wrong (record_at place memory) (i + 1) (gate - (i + 1))
  one_right none = front ∙ next_right (record_at place memory) i gate (numbers_in words) lt (ap record_in (sym line_is) ∙ right_record words none)

  -- and those up to it are records
  pub one_more : wrong_word words ≡ None → first_wrong (record_at place memory) 0 i ≡ None → first_wrong (record_at place memory) 0 (i + 1) ≡ None
  one_more none right =
      ap (λ (n : ℕ). first_wrong (record_at place memory) 0 n) (add-one i)
      ∙ still_right (record_at place memory) 0 i i (numbers_in words) (omega arith) (ap record_in (sym line_is) ∙ right_record words none) right

  -- one that is none is the first of them
  pub one_wrong : (word : ℕ) → wrong_word words ≡ Some word → box_of place capacity memory ≡ Err (BadRecord i)
  one_wrong word is =
      let here : first_wrong (record_at place memory) 0 gate ≡ Some i = front ∙ here_wrong (record_at place memory) i gate word lt (ap record_in (sym line_is) ∙ wrong_record words word is) in
      bad_record place capacity memory (omega (arith, room, gate_is)) i (subst (λ (n : ℕ). first_wrong (record_at place memory) 0 n ≡ Some i) gate_is here)

-- a count that rose in a call rose since an earlier one
pub rose_later : (first before now : ℕ) → first ≤ before → Rose before now → Rose first now
rose_later first before now le (inl lt) = inl (omega arith)
rose_later first before now le (inr last) = inr last

-- the media failed at its line
pub failed_record : (place : ℕ → ℕ) (capacity : ℕ) (told : Option Image) (gate i line : ℕ) → i < gate → gate ≤ capacity → line ≡ place (1 + i)
    → IfModelled told (λ image. gate ≡ box_gate place (line_at image))
    → IfModelled told (λ image. first_wrong (record_at place (line_at image)) 0 i ≡ None) → IsReadLine place capacity told line
failed_record place capacity told gate i line below room line_is gate_is front =
    inr (record { number = i; gate = gate; below = below; room = room; line_is = line_is; gate_is = gate_is; front = front })

-- all were looked at
pub all_right : (place : ℕ → ℕ) (capacity : ℕ) (memory : ℕ → List ℕ) (gate i : ℕ) → gate ≤ i → gate ≤ capacity → gate ≡ box_gate place memory
    → first_wrong (record_at place memory) 0 gate ≡ first_wrong (record_at place memory) i (gate - i) → IsBox place capacity memory
all_right place capacity memory gate i past room gate_is front =
    let none : gate - i ≡ 0 = omega arith in
    let clear : first_wrong (record_at place memory) 0 gate ≡ None = front ∙ ap (λ (n : ℕ). first_wrong (record_at place memory) i n) none in
    right_box place capacity memory (omega (arith, room, gate_is)) (subst (λ (n : ℕ). first_wrong (record_at place memory) 0 n ≡ None) gate_is clear)
