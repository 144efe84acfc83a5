-- The turns of an append: what comes behind a store and a sending.
use Rattle.std.proofs.Common.{ℕ, refl, ◌+◌, ◌*◌, ◌≤◌, ◌<◌, ◌≡◌, ◌⊎◌, List, Bool, true, false, cond, sym, ap, subst, arith, inl, inr, nat_lt, ltb-true, ltb-false}
use Rattle.std.proofs.lemmas.Bool.{cases_eq}
use Rattle.std.proofs.lemmas.Bool.Decides.{nat_tests}
use Rattle.fam_base.specs.declared.entry.Entry.{Entry}
use Rattle.std.specs.Prelude.{Option, Some}
use Rattle.fam_format.specs.Layout.{geometry, slot_line}
use Rattle.fam_format.proofs.Formats.{shape}
use Rattle.fam_base.specs.declared.entry.Params.{Params}
use Rattle.fam_commands.specs.declared.phase.Phase.{Phase}
use Rattle.fam_commands.specs.declared.phase.Phase.TheVariants as at
use Rattle.fam_commands.specs.Task.{Task, data_words, line_of, size_of}
use Rattle.fam_commands.specs.Turns.{Goes, turn_at}
use Rattle.fam_rules.specs.Asks.{File}
use Rattle.fam_rules.specs.Place.{line_bytes}
use Rattle.fam_rules.specs.Reply.{Appended}
use Rattle.fam_rules.specs.Written.{lines_of, slot_part}
use Rattle.fam_protocol.specs.SharedState.{SharedState}
use Rattle.fam_protocol.specs.Lines.{Asked, Finished}
use Rattle.fam_protocol.specs.Core.{System, Core}
use Rattle.fam_protocol.specs.Tasks.{IsWriting, StoresData, StoresSlot, HasData, HasAllData, HasAskedLines}
use Rattle.fam_protocol.specs.After.{After, Named, HoldsNamed}
use Rattle.fam_protocol.proofs.Hosts.Given.{Given}
use Rattle.fam_protocol.proofs.Turns.Moved.{IsTask, moved, task_moved}
use Rattle.fam_protocol.proofs.Turns.Tell.{goes, ends, holds_last}

-- the size of the file that is written
pub size_is : (entry : Option Entry) (e : Entry) → entry ≡ Some e → size_of entry ≡ e.size
size_is entry e is = ap size_of is

-- a line holds a byte exactly below the count of lines
pub line_below : (j size : ℕ) → j < lines_of size → line_bytes * j < size
line_below j size lt = omega arith

-- a line that holds a byte is one of the file's
pub below_line : (j size : ℕ) → line_bytes * j < size → j < lines_of size
below_line j size lt = omega arith

module _ (sys : System) (host : ℕ) (s : SharedState) (all : List File) (settled : ℕ) (t : Task) (p : Phase) where
  -- what a writer knows doesn't look at its place
  pub writing_moved : IsWriting sys host t s all settled → IsWriting sys host (moved t p t.words) s all settled
  writing_moved w = record {
    master = w.master;
    params = w.params;
    settled_is = w.settled_is;
    pending = w.pending;
    unpublished = w.unpublished;
    file =
        w.file;
    last = w.last;
    entry = w.entry;
    bytes = w.bytes;
    content = w.content;
    words = w.words;
  }

  -- nor what it knows of the file's lines
  pub data_moved : (j k : ℕ) → StoresData j k sys host t s all settled → StoresData j k sys host (moved t p t.words) s all settled
  unfolding writing_moved
  data_moved j k h = record { writing = writing_moved h.writing; line = h.line; before = h.before; here = h.here }

  -- nor of the slot's
  pub slot_moved : (j k : ℕ) → StoresSlot j k sys host t s all settled → StoresSlot j k sys host (moved t p t.words) s all settled
  slot_moved j k h = record { writing = writing_moved h.writing; line = h.line; contents = h.contents; before = h.before; here = h.here }

-- one line more is finished
data_more : (j host : ℕ) (t : Task) (s : SharedState) → HasData j host t s → Finished (data_words t j) (s.memory (line_of t.entry j)) (s.copy host (line_of t.entry j)) → HasData (j + 1) host t s
data_more j host t s before here b lt within = go (cases_eq b j)
  where
    go : (b ≡ j) ⊎ (b ≡ j → ⊥) → Finished (data_words t b) (s.memory (line_of t.entry b)) (s.copy host (line_of t.entry b))
    go (inl e) = subst (λ (b : ℕ). Finished (data_words t b) (s.memory (line_of t.entry b)) (s.copy host (line_of t.entry b))) (sym e) here
    go (inr ne) = before b (omega arith) within

slot_more : (j host : ℕ) (t : Task) (s : SharedState) → HasAskedLines j host t s
    → Asked (slot_part t.words j) (s.memory (slot_line t.params t.gate j)) (s.copy host (slot_line t.params t.gate j))
    → HasAskedLines (j + 1) host t s
slot_more j host t s before here b lt = go (cases_eq b j)
  where
    go : (b ≡ j) ⊎ (b ≡ j → ⊥) → Asked (slot_part t.words b) (s.memory (slot_line t.params t.gate b)) (s.copy host (slot_line t.params t.gate b))
    go (inl e) = subst (λ (b : ℕ). Asked (slot_part t.words b) (s.memory (slot_line t.params t.gate b)) (s.copy host (slot_line t.params t.gate b))) (sym e) here
    go (inr ne) = before b (omega arith)

-- behind the last line all are finished
data_all : (j host : ℕ) (t : Task) (s : SharedState) → lines_of (size_of t.entry) ≤ j → HasData j host t s → HasAllData host t s
data_all j host t s last before count b lt within = before b (let below : b < lines_of (size_of t.entry) = below_line b (size_of t.entry) within in omega arith) within

module _ (sys : System) (host : ℕ) (floor : Option ℕ) (named : Option Named) (s : SharedState) (all : List File) (settled : ℕ) (core : Core sys s all settled) where
  -- the turn behind a store into the file
  pub store_data : (j k : ℕ) (t : Task) (word : ℕ) → IsTask sys host t → Given (at.StoreData j k) sys host floor word t s all settled
      → After (turn_at (at.StoreData j k) t word) sys host floor named t s all settled
  store_data j k t word is g = go (nat_lt k 7) refl
    where
      go : (b : Bool) → nat_lt k 7 ≡ b → After (Goes (record t { phase = cond b (at.StoreData j (k + 1)) (at.SendData j) })) sys host floor named t s all settled
      go true e =
          let p : Phase = at.StoreData j (k + 1) in
          goes sys host floor named s all settled core t (moved t p t.words) (task_moved t p t.words sys host is)
          (grind (arith, nat_tests), data_moved sys host s all settled t p j (k + 1) g.1)
      go false e =
          let p : Phase = at.SendData j in
          let last : k + 1 ≡ 8 = let lt = g.0 in grind (arith, nat_tests) in
          goes sys host floor named s all settled core t (moved t p t.words) (task_moved t p t.words sys host is)
          (data_moved sys host s all settled t p j 8 (subst (λ (n : ℕ). StoresData j n sys host t s all settled) last g.1))

  -- the turn behind a line of the file that is sent
  pub send_data : (j : ℕ) (t : Task) (word : ℕ) → IsTask sys host t → Given (at.SendData j) sys host floor word t s all settled
      → After (turn_at (at.SendData j) t word) sys host floor named t s all settled
  unfolding writing_moved
  send_data j t word is g = go (nat_lt (j + 1) (lines_of (size_of t.entry))) refl
    where
      size : size_of t.entry ≡ g.0.writing.file.entry.size
      size = size_is t.entry g.0.writing.file.entry g.0.writing.entry

      go : (b : Bool) → nat_lt (j + 1) (lines_of (size_of t.entry)) ≡ b → After (Goes (record t { phase = cond b (at.StoreData (j + 1) 0) (at.StoreSlot 0 0) })) sys host floor named t s all settled
      go true e =
          let p : Phase = at.StoreData (j + 1) 0 in
          let below : j + 1 < lines_of (size_of t.entry) = grind (arith, nat_tests) in
          let within : line_bytes * (j + 1) < size_of t.entry = line_below (j + 1) (size_of t.entry) below in
          goes sys host floor named s all settled core t (moved t p t.words) (task_moved t p t.words sys host is) (
            omega arith,
            record {
              writing = writing_moved sys host s all settled t p g.0.writing;
              line =
                  subst (λ (n : ℕ). line_bytes * (j + 1) < n) size within;
              before = data_more j host t s g.0.before g.1;
              here = tt;
            },
          )
      go false e =
          let p : Phase = at.StoreSlot 0 0 in
          let last : lines_of (size_of t.entry) ≤ j + 1 = grind (arith, nat_tests) in
          goes sys host floor named s all settled core t (moved t p t.words) (task_moved t p t.words sys host is) (
            omega arith,
            record {
              writing = writing_moved sys host s all settled t p g.0.writing;
              line = omega (arith, (shape sys.params).lines);
              contents = data_all (j + 1) host t s last (data_more j host t s g.0.before g.1);
              before = λ b lt. absurd (omega arith);
              here = tt;
            },
          )

  -- the turn behind a store into the slot
  pub store_slot : (j k : ℕ) (t : Task) (word : ℕ) → IsTask sys host t → Given (at.StoreSlot j k) sys host floor word t s all settled
      → After (turn_at (at.StoreSlot j k) t word) sys host floor named t s all settled
  store_slot j k t word is g = go (nat_lt k 7) refl
    where
      go : (b : Bool) → nat_lt k 7 ≡ b → After (Goes (record t { phase = cond b (at.StoreSlot j (k + 1)) (at.SendSlot j) })) sys host floor named t s all settled
      go true e =
          let p : Phase = at.StoreSlot j (k + 1) in
          goes sys host floor named s all settled core t (moved t p t.words) (task_moved t p t.words sys host is)
          (grind (arith, nat_tests), slot_moved sys host s all settled t p j (k + 1) g.1)
      go false e =
          let p : Phase = at.SendSlot j in
          let last : k + 1 ≡ 8 = let lt = g.0 in grind (arith, nat_tests) in
          goes sys host floor named s all settled core t (moved t p t.words) (task_moved t p t.words sys host is)
          (slot_moved sys host s all settled t p j 8 (subst (λ (n : ℕ). StoresSlot j n sys host t s all settled) last g.1))

  -- the turn behind a line of the slot that is sent
  pub send_slot : (j : ℕ) (t : Task) (word : ℕ) → IsTask sys host t → Given (at.SendSlot j) sys host floor word t s all settled
      → After (turn_at (at.SendSlot j) t word) sys host floor named t s all settled
  send_slot j t word is g = go (nat_lt (j + 1) (geometry t.params).lines) refl
    where
      go : (b : Bool) → nat_lt (j + 1) (geometry t.params).lines ≡ b → After (Goes (record t { phase = cond b (at.StoreSlot (j + 1) 0) at.FenceSlot })) sys host floor named t s all settled
      go true e =
          let p : Phase = at.StoreSlot (j + 1) 0 in
          goes sys host floor named s all settled core t (moved t p t.words) (task_moved t p t.words sys host is) (
            omega arith,
            record {
              writing = writing_moved sys host s all settled t p g.0.writing;
              line = subst (λ (p : Params). j + 1 < (geometry p).lines) g.0.writing.params (ltb-true (j + 1) (geometry t.params).lines e);
              contents = g.0.contents;
              before = slot_more j host t s g.0.before g.1;
              here = tt;
            },
          )
      go false e =
          let p : Phase = at.FenceSlot in
          let past : (geometry sys.params).lines ≤ j + 1 = subst (λ (p : Params). (geometry p).lines ≤ j + 1) g.0.writing.params (ltb-false (j + 1) (geometry t.params).lines e) in
          let last : j + 1 ≡ (geometry sys.params).lines = let lt = g.0.line in omega arith in
          goes sys host floor named s all settled core t (moved t p t.words) (task_moved t p t.words sys host is)
          (record {
            writing = writing_moved sys host s all settled t p g.0.writing;
            contents = g.0.contents;
            slot = subst (λ (n : ℕ). HasAskedLines n host t s) last (slot_more j host t s g.0.before g.1);
          })

  -- the turn behind the slot that is sent
  pub fence_slot : (t : Task) (word : ℕ) → IsTask sys host t → Given at.FenceSlot sys host floor word t s all settled → After (turn_at at.FenceSlot t word) sys host floor named t s all settled
  fence_slot t word is g =
      goes sys host floor named s all settled core t (moved t at.StoreGate t.words) (task_moved t at.StoreGate t.words sys host is)
      (record { writing = writing_moved sys host s all settled t at.StoreGate g.writing; contents = g.contents; slot = g.slot })

  -- the turn behind the store of the gate
  pub store_gate : (t : Task) (word : ℕ) → IsTask sys host t → Given at.StoreGate sys host floor word t s all settled → After (turn_at at.StoreGate t word) sys host floor named t s all settled
  store_gate t word is g =
      goes sys host floor named s all settled core t (moved t at.SendGate t.words) (task_moved t at.SendGate t.words sys host is)
      (record { master = g.master; published = g.published; pending = g.pending; file = g.file; last = g.last; entry = g.entry })

  -- the turn behind the gate that is asked for
  pub send_gate : (t : Task) (word : ℕ) → IsTask sys host t → Given at.SendGate sys host floor word t s all settled → After (turn_at at.SendGate t word) sys host floor named t s all settled
  send_gate t word is g =
      goes sys host floor named s all settled core t (moved t at.FenceGate t.words) (task_moved t at.FenceGate t.words sys host is)
      (record { master = g.0.master; published = g.0.published; pending = g.0.pending; file = g.0.file; last = g.0.last; entry = g.0.entry }, g.1)

  -- the turn behind the gate that is sent: the answer
  pub fence_gate : (t : Task) (word : ℕ) → IsTask sys host t → HoldsNamed t named → Given at.FenceGate sys host floor word t s all settled
      → After (turn_at at.FenceGate t word) sys host floor named t s all settled
  fence_gate t word is holds g =
      ends sys host floor named s all settled core t (Appended t.gate)
      (holds_last floor named t all holds g.0.pending g.0.file g.0.last g.0.entry)
      (omega (arith, g.1))
