-- The note of a mkfs that a media fault cut has the form of the tables: the line at which the media failed is one of those that a
-- mkfs reads or writes, so the image has it.
use Rattle.std.proofs.Common.{◌≡◌, inr, ℕ, ◌*◌, ◌<◌, ◌≤◌, Bool, true, false, List, [], ◌∷◌, ◌++◌, length, map, take, Option, Some, None, refl, ap, sym, ◌∙◌, subst, arith}
use Prim.Native.Nat.{zero, suc}
use Rattle.std.specs.Prelude.{⊤, min, nat_le, slice_get, slice_index, option_map, ◌-◌}
use Rattle.std.specs.List.{flat_map, range_with_len}
use Rattle.std.proofs.lemmas.Bool.Decides.{nat_tests}
use Rattle.std.proofs.lemmas.List.{length-replicate}
use Rattle.std.proofs.lemmas.Option.{same_Some}
use Rattle.fam_base.specs.declared.entry.Params.{Params}
use Rattle.fam_base.specs.declared.line.LineNo.{LineNo}
use Rattle.fam_base.specs.Image.{line_at}
use Rattle.fam_format.proofs.UnitPowers.{unit_told}
use Rattle.fam_format.specs.Layout.{least_lines}
use Rattle.fam_format.specs.Params.{is_log_length, is_unit}
use Rattle.fam_machine.proofs.MkfsOps.{early_free}
use Rattle.fam_machine.specs.declared.cell.Cell.{Cell}
use Rattle.fam_machine.specs.declared.cell.Cell.TheVariants.{Absent, Clean, Dirty}
use Rattle.fam_machine.specs.declared.op.Op.{Op}
use Rattle.fam_machine.specs.declared.op.Op.TheVariants.{Load, Store, WriteBack, Fence, Invalidate, Digest}
use Rattle.fam_machine.specs.declared.request.MkfsRequest.{MkfsRequest}
use Rattle.fam_machine.specs.Caches.{cell_at}
use Rattle.fam_machine.specs.Cuts.{Cuts}
use Rattle.fam_machine.specs.HostMoves.{Evict}
use Rattle.fam_machine.specs.Mkfs.{asked, early_refusal, expected_by, expected_ops, goes_on, put_ops, read_ops, superblock_found, write_ops}
use Rattle.fam_machine.specs.OneLine.{failed_send}
use Rattle.fam_machine.specs.Operations.{Breaking, Failure, Machine, failed, line_no, load_ops, not_brought, operated_all, store_ops, torn_at}
use Rattle.fam_rules.specs.Place.{line_bytes}
use Rattle.fam_rules.specs.Written.{Put, format_puts}
use Rattle.fam_journal.proofs.Calls.Tests.{both_first, no_cause, or_first}
use Rattle.fam_journal.proofs.Shapes.Pairs.{pairs_at}
use Rattle.fam_journal.proofs.Shapes.Rows.{number_told}
use Rattle.fam_journal.specs.declared.event.Event.TheVariants as event
use Rattle.fam_journal.specs.declared.refusal.Refusal.{Refusal}
use Rattle.fam_journal.specs.declared.refusal.Refusal.TheVariants as why
use Rattle.fam_journal.specs.Calls as call
use Rattle.fam_journal.specs.Calls.{AtNumber, CutCall, MakesCut, OnHost, cause_of, line_refusal, makes_refusal, number_of, on_host, refusal_of, when}
use Rattle.fam_journal.specs.Machines.{HostState, Machines, machine_of}
use Rattle.fam_journal.specs.Notes.{Note, Refused}
use Rattle.fam_journal.specs.Shapes.{ActsShape, AreShaped, AtShape, FreeShape, HostShape, OfHostShape, ShapeByRefusal, StateShaped, refusal_told, shown_shapes}
use Rattle.fam_judge.specs.Formed.{AreFormed}

-- Operations at lines that every image has in which a file system is made.

-- an operation at one of these lines, or one that can't fail
abbrev IsWithin : Op → Type 0
IsWithin (Load l k) = l.0 < least_lines
IsWithin (Store l k value) = l.0 < least_lines
IsWithin (WriteBack l) = ⊤
IsWithin Fence = ⊥
IsWithin (Invalidate l) = l.0 < least_lines
IsWithin Digest = ⊤

-- so is each of these
abbrev AreWithin : List Op → Type 0
AreWithin [] = ⊤
AreWithin (op ∷ ops) = IsWithin op × AreWithin ops

within_both : (a b : List Op) → AreWithin a → AreWithin b → AreWithin (a ++ b)
within_both [] b first rest = rest
within_both (op ∷ a) b first rest = (first.0, within_both a b first.1 rest)

within_take : (count : ℕ) (ops : List Op) → AreWithin ops → AreWithin (take count ops)
within_take zero ops each = tt
within_take (suc count) [] each = tt
within_take (suc count) (op ∷ ops) each = (each.0, within_take count ops each.1)

within_map : (f : ℕ → Op) → ((k : ℕ) → IsWithin (f k)) → (ks : List ℕ) → AreWithin (map f ks)
within_map f each [] = tt
within_map f each (k ∷ ks) = (each k, within_map f each ks)

within_at : (done : List Op) (op : Op) (rest : List Op) → AreWithin (done ++ op ∷ rest) → IsWithin op
within_at [] op rest each = each.0
within_at (first ∷ done) op rest each = within_at done op rest each.1

load_within : (line count : ℕ) → line < least_lines → AreWithin (load_ops line count)
load_within line count below = (below, within_map (λ k. Load (line_no line) k) (λ k. below) (range_with_len 0 count))

put_within : (put : Put) → put.0 < least_lines → AreWithin (put_ops put)
unfolding put_ops
put_within put below =
    within_both (store_ops put.0 put.1) (Invalidate (line_no put.0) ∷ [])
    (within_map (λ k. Store (line_no put.0) k (slice_index put.1 k)) (λ k. below) (range_with_len 0 8)) (below, tt)

-- puts of these lines
abbrev PutWithin : List Put → Type 0
PutWithin [] = ⊤
PutWithin (put ∷ puts) = (put.0 < least_lines) × PutWithin puts

puts_within : (puts : List Put) → PutWithin puts → AreWithin (flat_map put_ops puts)
puts_within [] each = tt
puts_within (put ∷ puts) each = within_both (put_ops put) (flat_map put_ops puts) (put_within put each.0) (puts_within puts each.1)

read_within : AreWithin read_ops
unfolding read_ops
read_within =
    within_both (load_ops 0 8) (load_ops 1 8 ++ load_ops 2 8) (load_within 0 8 (omega arith))
    (within_both (load_ops 1 8) (load_ops 2 8) (load_within 1 8 (omega arith)) (load_within 2 8 (omega arith)))

write_within : (p : Params) → AreWithin (write_ops p)
unfolding write_ops
write_within p = puts_within (format_puts p) (omega arith, (omega arith, (omega arith, (omega arith, (omega arith, (omega arith, tt))))))

expected_within : (b : Bool) (halt : Option ℕ) (p : Params) → AreWithin (expected_by b halt p)
expected_within true None p = within_both read_ops (write_ops p) read_within (write_within p)
expected_within true (Some k) p =
    within_both read_ops (take (min k 80 - 27) (write_ops p)) read_within (within_take (min k 80 - 27) (write_ops p) (write_within p))
expected_within false halt p = read_within

-- The line at which the media fails.

brought_within : (l : LineNo) (m : Machine) (c : Cell) (x : Failure) → l.0 < least_lines → not_brought l m c ≡ Some x → x.line.0 < least_lines
brought_within l m Absent x below is = subst (λ (z : Failure). z.line.0 < least_lines) (same_Some _ x is) below
brought_within l m (Clean words) x below is = absurd cc
brought_within l m (Dirty a words) x below is = absurd cc

torn_within : (l : LineNo) (m : Machine) (o : Option (List ℕ)) (x : Failure) → l.0 < least_lines → option_map (torn_at l m) o ≡ Some x → x.line.0 < least_lines
torn_within l m None x below is = absurd cc
torn_within l m (Some words) x below is = subst (λ (z : Failure). z.line.0 < least_lines) (same_Some (torn_at l m words) x is) below

failed_within : (through : Breaking) (op : Op) (m : Machine) (x : Failure) → IsWithin op → failed through op m ≡ Some x → x.line.0 < least_lines
failed_within through (Load l k) m x below is = brought_within l m (cell_at m.cache l.0) x below is
failed_within through (Store l k value) m x below is = brought_within l m (cell_at m.cache l.0) x below is
failed_within through (WriteBack l) m x below is = absurd cc
failed_within through Fence m x below is = absurd below
failed_within through (Invalidate l) m x below is = torn_within l m (failed_send through.mask (line_at m.image l.0) (cell_at m.cache l.0)) x below is
failed_within through Digest m x below is = absurd cc

cut_within : (ops : List Op) (m : Machine) (line : LineNo) (left : Machine) → AreWithin ops → Cuts ops m line left → line.0 < least_lines
cut_within ops m line left each x =
    failed_within x.fails.through x.op (operated_all x.done m) (record { line = line; left = left }) (within_at x.done x.op x.rest (subst AreWithin x.split each)) x.fails.is

-- the image has them
enough : (unit log h : ℕ) (m : Machines) → makes_refusal unit log h m ≡ None → least_lines ≤ length m.memory
enough unit log h m free =
    let early = early_free unit log (line_bytes * length m.memory)
    (no_cause (early_refusal unit log (line_bytes * length m.memory)) (or_first (option_map cause_of (early_refusal unit log (line_bytes * length m.memory))) _ free)) in
    let room = early.1 in
    let least = (unit_told unit (both_first (is_unit unit) (is_log_length unit log) early.0)).least in
    omega (arith, room, least)

-- The note.

module _ (lines : ℕ) (m : Machines) (hosts : List HostShape) (shaped : AreShaped lines m hosts) (name : List ℕ) (h : ℕ) (number : number_of name m ≡ Some h)
    (f : HostShape) (f_is : slice_get hosts h ≡ Some f) (line : LineNo) (below : line.0 < lines) where
  abbrev noted : List Note
  noted = Refused name (why.MediaFault line) ∷ []

  told_is : number_of name (shown_shapes lines hosts) ≡ Some h
  told_is = sym (number_told lines m hosts shaped name) ∙ number

  no_line : (b : Bool) → nat_le (length (shown_shapes lines hosts).memory) line.0 ≡ b → when b (why.NoLine line.0 (length (shown_shapes lines hosts).memory)) ≡ None
  no_line true is = absurd (let same : length (shown_shapes lines hosts).memory ≡ lines = length-replicate lines [] in grind (arith, nat_tests, is, below, same))
  no_line false is = refl

  told_free : refusal_told (call.Moves name line.0 Evict) lines hosts ≡ None
  unfolding refusal_of
  told_free =
      ap (λ (o : Option ℕ). on_host o (λ k. line_refusal line.0 (shown_shapes lines hosts))) told_is
      ∙ no_line (nat_le (length (shown_shapes lines hosts).memory) line.0) refl

  acts : FreeShape (call.Moves name line.0 Evict) lines hosts noted
  acts =
      subst (λ (o : Option ℕ). AtShape o hosts (λ k host. ActsShape (call.Moves name line.0 Evict) k host lines hosts noted)) (sym told_is)
      (subst (λ (o : Option HostShape). OfHostShape o (λ host. ActsShape (call.Moves name line.0 Evict) h host lines hosts noted)) (sym f_is) (inr refl))

  -- a cache's move notes the same
  fault_formed : AreFormed lines hosts noted
  fault_formed = (
    record {
      event = event.Evict name line;
      valid = tt;
      shape = subst (λ (o : Option Refusal). ShapeByRefusal name o noted (FreeShape (call.Moves name line.0 Evict) lines hosts noted)) (sym told_free) acts;
      sound = tt;
      placed = tt;
    },
    tt,
  )

module _ (lines : ℕ) (m : Machines) (hosts : List HostShape) (shaped : AreShaped lines m hosts) (name : List ℕ) (request : MkfsRequest) (notes : List Note) (new : Machines) where
  by_host : (h : ℕ) → number_of name m ≡ Some h → makes_refusal request.unit request.log h m ≡ None → (o : Option HostState) → slice_get m.hosts h ≡ o
      → OnHost o (λ host. MakesCut h (asked request host.uuid (length m.memory)) request.force request.halt name host m notes new) → AreFormed lines hosts notes
  by_host h number free None is x = absurd x
  by_host h number free (Some host) is x =
      let p = pairs_at (StateShaped lines) m.hosts hosts h host shaped.shaped is in
      let params = asked request host.uuid (length m.memory) in
      let below = cut_within (expected_ops request.force request.halt params (machine_of m host)) (machine_of m host) x.line x.left
      (expected_within (goes_on request.force (superblock_found params (machine_of m host))) request.halt params) x.cuts in
      let room = enough request.unit request.log h m free in
      let same = shaped.lines_are in
      subst (λ (l : List Note). AreFormed lines hosts l) (sym x.notes_are)
      (fault_formed lines m hosts shaped name h number p.0 p.1 x.line (omega (arith, below, room, same)))

  by_number : (o : Option ℕ) → number_of name m ≡ o → on_host o (λ h. makes_refusal request.unit request.log h m) ≡ None
      → AtNumber o m (λ h host. MakesCut h (asked request host.uuid (length m.memory)) request.force request.halt name host m notes new)
      → AreFormed lines hosts notes
  by_number None number free x = absurd x
  by_number (Some h) number free x = by_host h number free (slice_get m.hosts h) refl x

  -- a mkfs that was cut
  pub cut_formed : CutCall (call.Makes name request) m notes new → AreFormed lines hosts notes
  unfolding refusal_of
  cut_formed x = by_number (number_of name m) refl x.0 x.1
