-- Where the media fails in an operation, and what it leaves.
use Rattle.std.proofs.Common.{ℕ, ◌≡◌, ◌≢◌, List, Option, Some, None, refl, sym, ap}
use Rattle.std.specs.Prelude.{option_map}
use Rattle.std.proofs.lemmas.Option.{same_Some}
use Rattle.fam_base.specs.Image.{line_at}
use Rattle.fam_base.specs.declared.line.LineNo.{LineNo}
use Rattle.fam_machine.specs.declared.cell.Cell.{Cell}
use Rattle.fam_machine.specs.declared.cell.Cell.TheVariants.{Absent, Clean, Dirty}
use Rattle.fam_machine.specs.declared.op.Op.{Op}
use Rattle.fam_machine.specs.declared.op.Op.TheVariants.{Load, Store, WriteBack, Fence, Invalidate, Digest}
use Rattle.fam_machine.specs.Caches.{cell_at}
use Rattle.fam_machine.specs.OneLine.{failed_send}
use Rattle.fam_machine.specs.Operations.{Breaking, Failure, Machine, failed, not_brought, op_line, torn_at}

-- a line that can't be brought
pub brought_fails : (l : LineNo) (m : Machine) (c : Cell) (failure : Failure) → not_brought l m c ≡ Some failure → failure ≡ record { line = l; left = m }
brought_fails l m Absent failure is = sym (same_Some (record { line = l; left = m }) failure is)
brought_fails l m (Clean words) failure is = absurd cc
brought_fails l m (Dirty a words) failure is = absurd cc

-- a send that fails
pub send_fails : (l : LineNo) (m : Machine) (o : Option (List ℕ)) (failure : Failure) → option_map (torn_at l m) o ≡ Some failure → (words : List ℕ) × (o ≡ Some words) × (failure ≡ torn_at l m words)
send_fails l m None failure is = absurd cc
send_fails l m (Some words) failure is = (words, refl, sym (same_Some (torn_at l m words) failure is))

pub failed_line : (through : Breaking) (op : Op) (m : Machine) (failure : Failure) → op ≢ Fence → failed through op m ≡ Some failure → op_line op ≡ Some failure.line
failed_line through (Load l k) m failure none is = ap (λ (f : Failure). Some f.line) (sym (brought_fails l m (cell_at m.cache l.0) failure is))
failed_line through (Store l k value) m failure none is = ap (λ (f : Failure). Some f.line) (sym (brought_fails l m (cell_at m.cache l.0) failure is))
failed_line through (WriteBack l) m failure none is = absurd cc
failed_line through Fence m failure none is = absurd (none refl)
failed_line through (Invalidate l) m failure none is = ap (λ (f : Failure). Some f.line) (sym (send_fails l m (failed_send through.mask (line_at m.image l.0) (cell_at m.cache l.0)) failure is).2)
failed_line through Digest m failure none is = absurd cc

pub failed_cache : (through : Breaking) (op : Op) (m : Machine) (failure : Failure) → op ≢ Fence → failed through op m ≡ Some failure → failure.left.cache ≡ m.cache
failed_cache through (Load l k) m failure none is = ap (λ (f : Failure). f.left.cache) (brought_fails l m (cell_at m.cache l.0) failure is)
failed_cache through (Store l k value) m failure none is = ap (λ (f : Failure). f.left.cache) (brought_fails l m (cell_at m.cache l.0) failure is)
failed_cache through (WriteBack l) m failure none is = absurd cc
failed_cache through Fence m failure none is = absurd (none refl)
failed_cache through (Invalidate l) m failure none is = ap (λ (f : Failure). f.left.cache) (send_fails l m (failed_send through.mask (line_at m.image l.0) (cell_at m.cache l.0)) failure is).2
failed_cache through Digest m failure none is = absurd cc
