-- Six lines are put, one after another.
use Prim.Native.Nat.{zero, suc}
use Rattle.std.proofs.Common.{ℕ, ◌≡◌, ◌-◌, List, [], ◌∷◌, ◌++◌, length, take, get_or, refl, sym, ap, ◌∙◌, arith}
use Rattle.std.specs.Prelude.{slice_range}
use Rattle.std.specs.List.{flat_map}
use Rattle.fam_base.specs.declared.entry.Params.{Params}
use Rattle.fam_base.specs.Image.{line_at}
use Rattle.fam_format.specs.Layout.{log_line, gate_line}
use Rattle.fam_format.specs.Log.{log_words}
use Rattle.fam_format.specs.Super.{magic_line, super_words}
use Rattle.fam_rules.specs.Written.{Put, zero_line}
use Rattle.fam_machine.specs.declared.op.Op.{Op}
use Rattle.fam_machine.specs.Mkfs.{put_ops, write_ops}
use Rattle.fam_mkfs.specs.Parts.{header_puts, word_puts}

-- lines 0, 1 and 2 and the header are those of these parameters
pub record Spelled (p : Params) (lines : List (List ℕ)) (header : List ℕ) : Type 0 where
  pub magic : line_at lines 0 ≡ magic_line
  pub words : line_at lines 1 ++ line_at lines 2 ≡ super_words p
  pub log : header ≡ log_words p

-- a line of a list
abbrev pub element : List (List ℕ) → ℕ → List ℕ
element lines k = get_or lines k []

abbrev pub puts_of : List ℕ → List ℕ → List ℕ → List Put
puts_of header words magic =
    (0, zero_line) ∷ (gate_line, zero_line) ∷ (log_line, header) ∷ (1, slice_range words 0 8) ∷ (2, slice_range words 8 16) ∷ (0, magic) ∷ []

-- the operations of these six puts
abbrev pub puts : List (List ℕ) → List ℕ → List Op
puts lines header = put_ops (0, zero_line) ++ (header_puts header ++ word_puts (element lines 0) (element lines 1) (element lines 2))

-- only the eight words of each line count
as_puts : (lines : List (List ℕ)) (header : List ℕ) → flat_map put_ops (puts_of header (line_at lines 1 ++ line_at lines 2) (line_at lines 0)) ≡ puts lines header
unfolding put_ops
as_puts lines header = refl

as_written : (p : Params) (lines : List (List ℕ)) (header : List ℕ) → Spelled p lines header → puts lines header ≡ write_ops p
unfolding write_ops
as_written p lines header s =
    sym (as_puts lines header)
    ∙ ap (λ (ws : List ℕ). flat_map put_ops (puts_of ws (line_at lines 1 ++ line_at lines 2) (line_at lines 0))) s.log
    ∙ ap (λ (ws : List ℕ). flat_map put_ops (puts_of (log_words p) ws (line_at lines 0))) s.words
    ∙ ap (λ (ws : List ℕ). flat_map put_ops (puts_of (log_words p) (super_words p) ws)) s.magic

-- The first so many of the operations that write.

-- of two rows: of the first, and what is left of the second
front_both : (n : ℕ) (a b : List Op) → take n (a ++ b) ≡ take n a ++ take (n - length a) b
front_both zero [] b = refl
front_both (suc n) [] b = ap (λ (k : ℕ). take k b) (let e : suc n ≡ suc n - 0 = omega arith in e)
front_both zero (x ∷ a) b = ap (λ (k : ℕ). take k b) (let e : 0 ≡ 0 - suc (length a) = omega arith in e)
front_both (suc n) (x ∷ a) b =
    ap (λ (ops : List Op). x ∷ ops) (front_both n a b ∙ ap (λ (k : ℕ). take n a ++ take k b) (let e : n - length a ≡ suc n - suc (length a) = omega arith in e))

-- of a row of so many operations, and what is left of the rows behind it
front_row : (n m k : ℕ) (a b : List Op) → length a ≡ k → m ≡ n - k → take n a ++ take m b ≡ take n (a ++ b)
front_row n m k a b size is = ap (λ (j : ℕ). take n a ++ take j b) (is ∙ ap (λ (j : ℕ). n - j) (sym size)) ∙ sym (front_both n a b)

put_size : (put : Put) → length (put_ops put) ≡ 9
unfolding put_ops
put_size put = refl

header_size : (header : List ℕ) → length (header_puts header) ≡ 18
unfolding put_ops
header_size header = refl

pub header_front : (header : List ℕ) (n m : ℕ) → m ≡ n - 9 → take n (put_ops (gate_line, zero_line)) ++ take m (put_ops (log_line, header)) ≡ take n (header_puts header)
header_front header n m is = front_row n m 9 (put_ops (gate_line, zero_line)) (put_ops (log_line, header)) (put_size (gate_line, zero_line)) is

pub words_front : (magic first second : List ℕ) (n m k : ℕ) → m ≡ n - 9 → k ≡ m - 9
    → take n (put_ops (1, first)) ++ (take m (put_ops (2, second)) ++ take k (put_ops (0, magic))) ≡ take n (word_puts magic first second)
words_front magic first second n m k is next =
    ap (λ (ops : List Op). take n (put_ops (1, first)) ++ ops) (front_row m k 9 (put_ops (2, second)) (put_ops (0, magic)) (put_size (2, second)) next)
    ∙ front_row n m 9 (put_ops (1, first)) (put_ops (2, second) ++ put_ops (0, magic)) (put_size (1, first)) is

pub all_front : (p : Params) (lines : List (List ℕ)) (header : List ℕ) (n m k : ℕ) → m ≡ n - 9 → k ≡ m - 18 → Spelled p lines header
    → take n (put_ops (0, zero_line)) ++ (take m (header_puts header) ++ take k (word_puts (element lines 0) (element lines 1) (element lines 2))) ≡ take n (write_ops p)
all_front p lines header n m k is next spelled =
    let words = word_puts (element lines 0) (element lines 1) (element lines 2) in
    ap (λ (ops : List Op). take n (put_ops (0, zero_line)) ++ ops) (front_row m k 18 (header_puts header) words (header_size header) next)
    ∙ front_row n m 9 (put_ops (0, zero_line)) (header_puts header ++ words) (put_size (0, zero_line)) is
    ∙ ap (λ (ops : List Op). take n ops) (as_written p lines header spelled)

-- 54 operations are all of them
pub all_written : (p : Params) → write_ops p ≡ take 54 (write_ops p)
unfolding write_ops put_ops
all_written p = refl
