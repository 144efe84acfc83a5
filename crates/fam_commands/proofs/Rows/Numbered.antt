-- Rows of the table by their number: the operation, and the note, which the last row of a piece has.
use Rattle.std.proofs.Common.{ℕ, zero, suc, ◌≡◌, ◌<◌, ◌≤◌, ◌+◌, ◌*◌, List, [], ◌∷◌, ◌++◌, length, Some, refl, sym, ◌∙◌, ap, arith}
use Rattle.std.specs.Prelude.{slice_get, slice_index, nat_lt, if◌then◌else◌}
use Rattle.std.specs.List.{flat_map, range_with_len}
use Rattle.std.proofs.lemmas.Bool.{cond_below, cond_above}
use Rattle.fam_machine.specs.declared.op.Op.{Op}
use Rattle.fam_machine.specs.declared.op.Op.TheVariants.{Load, Store, Invalidate}
use Rattle.fam_machine.specs.Operations.{line_no, load_ops, store_ops}
use Rattle.fam_commands.specs.Table.{RowNote, Quiet, Row, rows}
use Rattle.fam_commands.proofs.ListPlaces.{get-append_left, get-map_range, length-pieces, piece_at, after_pieces}

-- a row by its operation and note
abbrev pub row : Op → RowNote → Row
row op note = record { op = op; note = note }

-- as many rows as operations
pub length-rows : (ops : List Op) (note : RowNote) → length (rows ops note) ≡ length ops
length-rows [] note = refl
length-rows (op ∷ []) note = refl
length-rows (op ∷ next ∷ more) note = ap suc (length-rows (next ∷ more) note)

-- an operation before the last has no note
pub row_before : (ops : List Op) (note : RowNote) (k : ℕ) (op : Op) → k + 1 < length ops → slice_get ops k ≡ Some op → slice_get (rows ops note) k ≡ Some (row op Quiet)
row_before [] note k op below is = absurd (omega arith)
row_before (first ∷ []) note k op below is = absurd (omega arith)
row_before (first ∷ next ∷ more) note zero op below is = ap (λ (o : Op). Some (row o Quiet)) (cc)
row_before (first ∷ next ∷ more) note (suc k) op below is = row_before (next ∷ more) note k op (omega arith) is

-- the last operation has the note
pub row_last : (ops : List Op) (note : RowNote) (k : ℕ) (op : Op) → k + 1 ≡ length ops → slice_get ops k ≡ Some op → slice_get (rows ops note) k ≡ Some (row op note)
row_last [] note k op last is = absurd (omega arith)
row_last (first ∷ []) note zero op last is = ap (λ (o : Op). Some (row o note)) (cc)
row_last (first ∷ []) note (suc k) op last is = absurd (omega arith)
row_last (first ∷ next ∷ more) note zero op last is = absurd (omega arith)
row_last (first ∷ next ∷ more) note (suc k) op last is = row_last (next ∷ more) note k op (omega arith) is

-- a test of two numbers, by what holds of them
pub if_below : {A : Type 0} (a b : ℕ) (x y : A) → a < b → (if nat_lt a b then x else y) ≡ x
if_below a b x y less = sym (cond_below a b x y less)

-- a test that fails
pub if_past : {A : Type 0} (a b : ℕ) (x y : A) → b ≤ a → (if nat_lt a b then x else y) ≡ y
if_past a b x y past = sym (cond_above a b x y y past refl)

-- Lines that are loaded.

-- n lines: each is invalidated and its eight words are loaded
abbrev pub loads : (ℕ → ℕ) → ℕ → List Op
loads line n = flat_map (λ j. load_ops (line j) 8) (range_with_len 0 n)

load_width : (line : ℕ → ℕ) (j : ℕ) → length (load_ops (line j) 8) ≡ 9
load_width line j = refl

-- nine operations a line that is loaded
pub length-loads : (line : ℕ → ℕ) (n : ℕ) → length (loads line n) ≡ 9 * n
length-loads line n = length-pieces (λ j. load_ops (line j) 8) 9 (load_width line) 0 n

-- a load in the operations of a line
pub load_word : (line k : ℕ) → k < 8 → slice_get (load_ops line 8) (1 + k) ≡ Some (Load (line_no line) k)
load_word line k below =
    ap (λ (i : ℕ). slice_get (load_ops line 8) i) (let z : 1 + k ≡ suc k = omega arith in z) ∙ get-map_range (λ (i : ℕ). Load (line_no line) i) 8 k below

-- the drop of a line among loads
pub drop_at : (line : ℕ → ℕ) (n j m : ℕ) (rest : List Op) → j < n → m ≡ 9 * j → slice_get (loads line n ++ rest) m ≡ Some (Invalidate (line_no (line j)))
drop_at line n j m rest below is = piece_at (λ j. load_ops (line j) 8) 9 (load_width line) n j 0 m rest below (omega arith) (omega arith)

-- the load of a word among loads
pub word_at : (line : ℕ → ℕ) (n j k m : ℕ) (rest : List Op) → j < n → k < 8 → m ≡ 9 * j + (1 + k) → slice_get (loads line n ++ rest) m ≡ Some (Load (line_no (line j)) k)
word_at line n j k m rest below small is =
    piece_at (λ j. load_ops (line j) 8) 9 (load_width line) n j (1 + k) m rest below (omega arith) is ∙ load_word (line j) k small

-- what stands behind them
pub behind_loads : (line : ℕ → ℕ) (n r m : ℕ) (rest : List Op) → m ≡ 9 * n + r → slice_get (loads line n ++ rest) m ≡ slice_get rest r
behind_loads line n r m rest is = after_pieces (λ j. load_ops (line j) 8) 9 (load_width line) n r m rest is

-- Lines that are written.

-- n lines: the eight words of each are stored, and it is sent
abbrev pub sends : (ℕ → ℕ) → (ℕ → List ℕ) → (ℕ → Op) → ℕ → List Op
sends line words send n = flat_map (λ j. store_ops (line j) (words j) ++ send j ∷ []) (range_with_len 0 n)

send_width : (line : ℕ → ℕ) (words : ℕ → List ℕ) (send : ℕ → Op) (j : ℕ) → length (store_ops (line j) (words j) ++ send j ∷ []) ≡ 9
send_width line words send j = refl

-- nine operations a line that is stored and sent
pub length-sends : (line : ℕ → ℕ) (words : ℕ → List ℕ) (send : ℕ → Op) (n : ℕ) → length (sends line words send n) ≡ 9 * n
length-sends line words send n = length-pieces (λ j. store_ops (line j) (words j) ++ send j ∷ []) 9 (send_width line words send) 0 n

-- a store among them
pub store_at : (line : ℕ → ℕ) (words : ℕ → List ℕ) (send : ℕ → Op) (n j k m : ℕ) (rest : List Op) → j < n → k < 8 → m ≡ 9 * j + k
    → slice_get (sends line words send n ++ rest) m ≡ Some (Store (line_no (line j)) k (slice_index (words j) k))
store_at line words send n j k m rest below small is =
    piece_at (λ j. store_ops (line j) (words j) ++ send j ∷ []) 9 (send_width line words send) n j k m rest below (omega arith) is
    ∙ get-append_left (store_ops (line j) (words j)) (send j ∷ []) k small
    ∙ get-map_range (λ (i : ℕ). Store (line_no (line j)) i (slice_index (words j) i)) 8 k small

-- a sending among them
pub send_at : (line : ℕ → ℕ) (words : ℕ → List ℕ) (send : ℕ → Op) (n j m : ℕ) (rest : List Op) → j < n → m ≡ 9 * j + 8 → slice_get (sends line words send n ++ rest) m ≡ Some (send j)
send_at line words send n j m rest below is = piece_at (λ j. store_ops (line j) (words j) ++ send j ∷ []) 9 (send_width line words send) n j 8 m rest below (omega arith) is

-- what comes behind them
pub behind_sends : (line : ℕ → ℕ) (words : ℕ → List ℕ) (send : ℕ → Op) (n r m : ℕ) (rest : List Op) → m ≡ 9 * n + r → slice_get (sends line words send n ++ rest) m ≡ slice_get rest r
behind_sends line words send n r m rest is = after_pieces (λ j. store_ops (line j) (words j) ++ send j ∷ []) 9 (send_width line words send) n r m rest is
