-- The lines of an operation, and those that a cache holds behind it.
use Rattle.std.proofs.Common.{◌≢◌, ℕ, ◌+◌, ◌<◌, ◌≤◌, inl, inr, Option, Some, ap, sym, subst, arith}
use Rattle.std.specs.Prelude.{unwrap_or, option_map}
use Rattle.std.proofs.lemmas.Bool.{cases_eq}
use Rattle.fam_base.specs.declared.line.LineNo.{LineNo}
use Rattle.fam_base.specs.Image.{Image}
use Rattle.fam_machine.specs.declared.op.Op.{Op}
use Rattle.fam_machine.specs.declared.op.Op.TheVariants.{Load, Store, WriteBack, Fence, Invalidate, Digest}
use Rattle.fam_machine.specs.Caches.{Cache, asked_lines, cell_at}
use Rattle.fam_machine.specs.OneLine.{IsHeld}
use Rattle.fam_machine.specs.Operations.{IsWithin}
use Rattle.fam_cache.specs.Operations.{LeavesCache, LeavesFailed}
use Rattle.fam_cache.proofs.Performed.{cleaned_held, left_held, others_left}
use Rattle.fam_mail.specs.Running.{LinesFit}
use Rattle.fam_mail.specs.Tasks.{PhaseFits, MailTask, phase_op}
use Rattle.fam_mail.specs.declared.phase.Phase.{Phase}
use Rattle.fam_mail.specs.declared.phase.Phase.TheVariants as at

-- a task asks for lines of the file
module _ (place : ℕ → ℕ) (lines : ℕ) (t : MailTask) (inside : (j : ℕ) → j ≤ t.capacity → place j < lines) where
  -- the operation of a phase is on a line of the media
  pub op_within : (p : Phase) → PhaseFits p t → IsWithin lines (phase_op p place t)
  op_within at.DropGate fits = inside 0 (omega arith)
  op_within at.LoadGate fits = (inside 0 (omega arith), omega arith)
  op_within (at.StoreRecord k) fits = (inside (1 + t.gate) (omega (arith, fits.1.1)), fits.0)
  op_within at.SendRecord fits = inside (1 + t.gate) (omega (arith, fits.1))
  op_within at.FenceRecord fits = tt
  op_within at.StoreGate fits = (inside 0 (omega arith), omega arith)
  op_within at.SendGate fits = inside 0 (omega arith)
  op_within at.FenceGate fits = tt
  op_within at.Count fits = tt
  op_within (at.DropRecord i) fits = inside (1 + i) (omega (arith, fits.0, fits.1))
  op_within (at.LoadRecord i k) fits = (inside (1 + i) (omega (arith, fits.0, fits.1)), fits.2)

at_line : (line : LineNo) (lines l : ℕ) → line.0 < lines → (l ≢ line.0 → l < lines) → l < lines
at_line line lines l below other =
    elim (cases_eq l line.0) [
      | inl e ↦ subst (λ (n : ℕ). n < lines) (sym e) below
      | inr ne ↦ other ne
    ]

not_same : (line : LineNo) (l : ℕ) → l ≢ line.0 → Some line ≢ Some (record { 0 = l })
not_same line l ne e = ne (sym (ap (λ (o : Option LineNo). unwrap_or (option_map (λ (x : LineNo). x.0) o) 0) e))

-- an operation brings its own line at most
pub lines_fit : (op : Op) (lines : ℕ) (told : Option Image) (old new : Cache) → IsWithin lines op → LeavesCache op told old new → LinesFit lines old → LinesFit lines new
lines_fit (Load line k) lines told old new within leaves fits l held =
    at_line line lines l within.0 (λ ne. fits l (subst IsHeld (others_left (Load line k) told old new leaves tt l (not_same line l ne)) held))
lines_fit (Store line k value) lines told old new within leaves fits l held =
    at_line line lines l within.0 (λ ne. fits l (subst IsHeld (others_left (Store line k value) told old new leaves tt l (not_same line l ne)) held))
lines_fit (WriteBack line) lines told old new within leaves fits l held =
    at_line line lines l within (λ ne. fits l (subst IsHeld (others_left (WriteBack line) told old new leaves tt l (not_same line l ne)) held))
lines_fit Fence lines told old new within leaves fits l held =
    fits l (cleaned_held (asked_lines old) old l (subst (λ (c : Cache). IsHeld (cell_at c l)) leaves held))
lines_fit (Invalidate line) lines told old new within leaves fits l held =
    at_line line lines l within (λ ne. fits l (subst IsHeld (others_left (Invalidate line) told old new leaves tt l (not_same line l ne)) held))
lines_fit Digest lines told old new within leaves fits l held = fits l (subst (λ (c : Cache). IsHeld (cell_at c l)) leaves held)

-- nor does one in which the media fails
pub failed_fit : (op : Op) (lines : ℕ) (old new : Cache) → LeavesFailed op old new → LinesFit lines old → LinesFit lines new
failed_fit op lines old new left fits l held = fits l (left_held op old new left l held)
