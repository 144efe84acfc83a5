-- A box: a gate that counts the records behind it. docs/MODEL.md, "The mailbox".
use Rattle.std.specs.Prelude.{ℕ, zero, suc, ◌+◌, ◌-◌, ◌/◌, ◌≡◌, ◌≤◌, nat_lt, if◌then◌else◌, List, [], ◌∷◌, slice_index, Option, Some, None, Result, Ok, Err}
use Rattle.fam_rules.specs.Place.{line_bytes}
use Rattle.fam_mail.specs.declared.check.WrongBox.{WrongBox}
use Rattle.fam_mail.specs.declared.check.WrongBox.TheVariants.{BadBox, BadRecord}
use Rattle.fam_mail.specs.Records.{record_in}

-- how many records a file of so many bytes has room for: one a line, behind the gate's line
abbrev pub capacity_of : ℕ → ℕ
capacity_of size = size / line_bytes - 1

-- A box lies in a file, line by line: line j of the file is line `at j` of the image.

-- the gate: word 0 of the file's line 0. Its other words aren't looked at
abbrev pub box_gate : (ℕ → ℕ) → (ℕ → List ℕ) → ℕ
box_gate at memory = slice_index (memory (at 0)) 0

-- record i is line 1 + i
abbrev pub record_at : (ℕ → ℕ) → (ℕ → List ℕ) → ℕ → Result (List ℕ) ℕ
record_at at memory i = record_in (memory (at (1 + i)))

-- record i before records that were read behind it, or the first that is none
abbrev pub record_before : ℕ → Result (List ℕ) ℕ → Result (List (List ℕ)) ℕ → Result (List (List ℕ)) ℕ
record_before i (Err word) rest = Err i
record_before i (Ok numbers) (Ok rest) = Ok (numbers ∷ rest)
record_before i (Ok numbers) (Err k) = Err k

-- so many records from record i on, or the first of them that is none
abbrev pub records_from : (ℕ → Result (List ℕ) ℕ) → ℕ → ℕ → Result (List (List ℕ)) ℕ
records_from each i zero = Ok []
records_from each i (suc count) = record_before i (each i) (records_from each (suc i) count)

-- the records, or that one of them is none
abbrev pub box_by : Result (List (List ℕ)) ℕ → Result (List (List ℕ)) WrongBox
box_by (Ok records) = Ok records
box_by (Err i) = Err (BadRecord i)

-- the list of the records below the gate; or that the gate is above the capacity, or that a record below it is none
abbrev pub box_of : (ℕ → ℕ) → ℕ → (ℕ → List ℕ) → Result (List (List ℕ)) WrongBox
box_of at capacity memory =
    if nat_lt capacity (box_gate at memory) then Err (BadBox (box_gate at memory) capacity) else box_by (records_from (record_at at memory) 0 (box_gate at memory))

-- no two lines of the file, the gate's and those of the records, are one line of the image
abbrev pub IsOneToOne : (ℕ → ℕ) → ℕ → Type 0
IsOneToOne at capacity = (i j : ℕ) → i ≤ capacity → j ≤ capacity → at i ≡ at j → i ≡ j

-- the first of so many records from record i on that is none
abbrev pub wrong_before : ℕ → Result (List ℕ) ℕ → Option ℕ → Option ℕ
wrong_before i (Err word) rest = Some i
wrong_before i (Ok numbers) rest = rest

-- if there is one
abbrev pub first_wrong : (ℕ → Result (List ℕ) ℕ) → ℕ → ℕ → Option ℕ
first_wrong each i zero = None
first_wrong each i (suc count) = wrong_before i (each i) (first_wrong each (suc i) count)

-- the box is read as some list
abbrev pub IsBox : (ℕ → ℕ) → ℕ → (ℕ → List ℕ) → Type 0
IsBox at capacity memory = (records : List (List ℕ)) × (box_of at capacity memory ≡ Ok records)
