-- A box that is read as a list begins a run, and a box in a run is read as the list that is settled, or with the pending record.
use Rattle.std.proofs.Common.{◌≡◌, ℕ, zero, suc, ◌+◌, ◌<◌, ◌≤◌, ◌⊎◌, inl, inr, List, [], ◌∷◌, ◌++◌, length, refl, sym, ap, subst, ◌∙◌, arith}
use Rattle.std.specs.Prelude.{Bool, true, false, cond, nat_lt, slice_get, Some, None, Result, Ok, Err}
use Rattle.std.proofs.lemmas.Bool.{cases_eq}
use Rattle.std.proofs.lemmas.Bool.Decides.{nat_tests}
use Rattle.std.proofs.lemmas.List.{append-nil}
use Rattle.std.proofs.lemmas.Option.{same_Some, slice_get_within}
use Rattle.fam_machine.specs.declared.cell.Cell.TheVariants.{Absent}
use Rattle.fam_machine.specs.OneLine.{IsDirty}
use Rattle.fam_protocol.specs.SharedState.{SharedState}
use Rattle.fam_protocol.proofs.Lines.Moves.{never}
use Rattle.fam_mail.specs.declared.check.WrongBox.TheVariants.{BadBox}
use Rattle.fam_mail.specs.Boxes.{IsOneToOne, box_by, box_of, box_gate, record_at, record_before, records_from}
use Rattle.fam_mail.specs.Mail.{Mail, pending_list, whole}
use Rattle.fam_mail.specs.Protocol.{Box, BoxCore, BoxInvariant, gate_at}
use Rattle.fam_mail.proofs.Lists.{front_member}
use Rattle.fam_mail.proofs.Settling.{few_pending}

-- Records that are read one behind another.

-- what was read: as many as were wanted, and each is the one of its place
pub record AreRead (each : ℕ → Result (List ℕ) ℕ) (i n : ℕ) (records : List (List ℕ)) : Type 0 where
  pub count : length records ≡ n
  pub member : (k : ℕ) (numbers : List ℕ) → slice_get records k ≡ Some numbers → each (i + k) ≡ Ok numbers

module _ (each : ℕ → Result (List ℕ) ℕ) where
  -- one before those that were read
  one_before : (i n : ℕ) (numbers : List ℕ) (rest : List (List ℕ)) → each i ≡ Ok numbers → AreRead each (suc i) n rest → AreRead each i (suc n) (numbers ∷ rest)
  one_before i n numbers rest here read = record { count = ap suc read.count; member = member }
    where
      member : (k : ℕ) (own : List ℕ) → slice_get (numbers ∷ rest) k ≡ Some own → each (i + k) ≡ Ok own
      member zero own is = ap each (omega arith) ∙ here ∙ ap (λ (ns : List ℕ). Ok ns) (same_Some numbers own is)
      member (suc k) own is = ap each (omega arith) ∙ read.member k own is

  read_before : (i n : ℕ) (first : Result (List ℕ) ℕ) (rest : Result (List (List ℕ)) ℕ) (records : List (List ℕ)) → each i ≡ first
      → ((own : List (List ℕ)) → rest ≡ Ok own → AreRead each (suc i) n own)
      → record_before i first rest ≡ Ok records → AreRead each i (suc n) records
  read_before i n (Err word) rest records here behind is = absurd cc
  read_before i n (Ok numbers) (Err k) records here behind is = absurd cc
  read_before i n (Ok numbers) (Ok rest) records here behind is =
      let same : numbers ∷ rest ≡ records = cc in subst (λ (rs : List (List ℕ)). AreRead each i (suc n) rs) same (one_before i n numbers rest here (behind rest refl))

  pub are_read : (i n : ℕ) (records : List (List ℕ)) → records_from each i n ≡ Ok records → AreRead each i n records
  are_read i zero records is = let same : [] ≡ records = cc in subst (λ (rs : List (List ℕ)). AreRead each i zero rs) same (record { count = refl; member = λ k numbers none. absurd cc })
  are_read i (suc n) records is = read_before i n (each i) (records_from each (suc i) n) records refl (λ own. are_read (suc i) n own) is

  -- and records that stand there are read
  pub read_back : (i : ℕ) (records : List (List ℕ)) → ((k : ℕ) (numbers : List ℕ) → slice_get records k ≡ Some numbers → each (i + k) ≡ Ok numbers) → records_from each i (length records) ≡ Ok records
  read_back i [] member = refl
  read_back i (numbers ∷ rest) member =
      let here : each i ≡ Ok numbers = ap each (omega arith) ∙ member zero numbers refl in
      ap (λ (first : Result (List ℕ) ℕ). record_before i first (records_from each (suc i) (length rest))) here
      ∙ ap (λ (r : Result (List (List ℕ)) ℕ). record_before i (Ok numbers) r) (read_back (suc i) rest (λ k own is. ap each (omega arith) ∙ member (suc k) own is))

-- A box that is read as a list: its gate is the list's length.
pub record IsBoxOf (place : ℕ → ℕ) (capacity : ℕ) (memory : ℕ → List ℕ) (records : List (List ℕ)) : Type 0 where
  pub within : box_gate place memory ≤ capacity
  pub read : AreRead (record_at place memory) 0 (box_gate place memory) records

module _ (place : ℕ → ℕ) (capacity : ℕ) (memory : ℕ → List ℕ) where
  all_read : (r : Result (List (List ℕ)) ℕ) (records : List (List ℕ)) → box_by r ≡ Ok records → r ≡ Ok records
  all_read (Ok own) records is = ap (λ (rs : List (List ℕ)). Ok rs) cc
  all_read (Err i) records is = absurd cc

  -- a box that is read as a list is one of these records
  pub is_box : (records : List (List ℕ)) → box_of place capacity memory ≡ Ok records → IsBoxOf place capacity memory records
  is_box records is = go (nat_lt capacity (box_gate place memory)) refl is
    where
      go : (t : Bool) → nat_lt capacity (box_gate place memory) ≡ t
          → cond t (Err (BadBox (box_gate place memory) capacity)) (box_by (records_from (record_at place memory) 0 (box_gate place memory))) ≡ Ok records → IsBoxOf place capacity memory records
      go true above e = absurd cc
      go false above e =
          record {
            within = grind (arith, nat_tests);
            read = are_read (record_at place memory) 0 (box_gate place memory) records
                (all_read (records_from (record_at place memory) 0 (box_gate place memory)) records e);
          }

  pub box_is : (records : List (List ℕ)) → box_gate place memory ≤ capacity → length records ≡ box_gate place memory
      → ((k : ℕ) (numbers : List ℕ) → slice_get records k ≡ Some numbers → record_at place memory k ≡ Ok numbers) → box_of place capacity memory ≡ Ok records
  box_is records le count member =
      let below : nat_lt capacity (box_gate place memory) ≡ false = grind (arith, nat_tests) in
      ap (λ (t : Bool). cond t (Err (BadBox (box_gate place memory) capacity)) (box_by (records_from (record_at place memory) 0 (box_gate place memory)))) below
      ∙ ap (λ (n : ℕ). box_by (records_from (record_at place memory) 0 n)) (sym count)
      ∙ ap box_by (read_back (record_at place memory) 0 records (λ k numbers is. ap (record_at place memory) (omega arith) ∙ member k numbers is))

-- It begins a run: before any host is declared and while every cache is empty.
pub box_begins : (place : ℕ → ℕ) (capacity : ℕ) (s : SharedState) (records : List (List ℕ)) → IsOneToOne place capacity → ((l : ℕ) → length (s.memory l) ≡ 8) → ((h l : ℕ) → s.copy h l ≡ Absent)
    → box_of place capacity s.memory ≡ Ok records
    → BoxInvariant (record { place = place; capacity = capacity; writer = None; rest = s.memory }) (λ h. None) s (record { list = records; pending = None })
box_begins place capacity s records apart wide empty is =
    let box = is_box place capacity s.memory records is in
    let all : records ++ [] ≡ records = append-nil records in
    record {
      core = record {
        apart = apart;
        wide = record { memory = wide; copies = λ h l. rw (empty h l) (wide l) };
        only_writer = λ h l d. absurd (never (subst IsDirty (empty h l) d));
        inside = λ h l d. absurd (never (subst IsDirty (empty h l) d));
        outside = λ l not. refl;
        low = omega (arith, box.read.count);
        order = omega arith;
        high = omega (arith, box.read.count, ap (λ (rs : List (List ℕ)). length rs) all);
        room = omega (arith, box.read.count, box.within, ap (λ (rs : List (List ℕ)). length rs) all);
        stands = λ i numbers at lt. ap (record_at place s.memory) (omega arith) ∙ box.read.member i numbers (sym (ap (λ (rs : List (List ℕ)). slice_get rs i) all) ∙ at);
        clean = λ i h lt d. never (subst IsDirty (empty h (place (1 + i))) d);
      };
      tasks = λ h r none. absurd cc;
    }

-- Whatever happened, the box reads as what is settled, or with the pending record.
pub box_reads : (b : Box) (s : SharedState) (m : Mail) → BoxCore b s m → (box_of b.place b.capacity s.memory ≡ Ok m.list) ⊎ (box_of b.place b.capacity s.memory ≡ Ok (whole m))
box_reads b s m core =
    elim (cases_eq (gate_at b s) (length m.list)) [
      | inl e ↦
          inl (box_is b.place b.capacity s.memory m.list (omega (arith, core.order, core.high, core.room)) (sym e)
          (λ k numbers is. core.stands k numbers (front_member m.list (pending_list m.pending) k (within m.list k numbers is) ∙ is) (omega (arith, within m.list k numbers is, e, core.order))))
      | inr ne ↦
          let few = few_pending m in
          let counted : length (whole m) ≡ gate_at b s = omega (arith, ne, few.0, few.1, core.low, core.order, core.high) in
          inr (box_is b.place b.capacity s.memory (whole m) (omega (arith, core.order, core.high, core.room)) counted
          (λ k numbers is. core.stands k numbers is (omega (arith, within (whole m) k numbers is, counted, core.order))))
    ]
  where
    within : (xs : List (List ℕ)) (k : ℕ) (numbers : List ℕ) → slice_get xs k ≡ Some numbers → k < length xs
    within xs k numbers is = slice_get_within xs k numbers is
