-- What is told and kept by a turn that only goes on, or answers.
use Rattle.std.proofs.Common.{ℕ, ◌+◌, ◌≤◌, ◌≡◌, List, length, inr, refl, sym, ◌∙◌, ap, arith}
use Rattle.std.specs.Prelude.{Option, Some, slice_get}
use Rattle.std.proofs.lemmas.Option.{same_Some}
use Rattle.fam_base.specs.declared.entry.Entry.{Entry}
use Rattle.fam_format.specs.Layout.{gate_line}
use Rattle.fam_commands.specs.Task.{Task}
use Rattle.fam_commands.specs.Turns.{Goes, Marks, Ends}
use Rattle.fam_rules.specs.Asks.{File}
use Rattle.fam_rules.specs.Reply.{Reply}
use Rattle.fam_protocol.specs.SharedState.{SharedState}
use Rattle.fam_protocol.specs.Lines.{gate_of}
use Rattle.fam_protocol.specs.Core.{System, Core}
use Rattle.fam_protocol.specs.Tasks.{AtPhase, TaskHolds}
use Rattle.fam_protocol.specs.After.{After, HoldsNamed, AppendsNamed, MayReply, Named, shown_by}
use Rattle.fam_protocol.proofs.Settled.Settle.{core_raised}
use Rattle.fam_protocol.proofs.Turns.Moved.{IsTask}

-- a task that is its host's, at its place
pub holds : (sys : System) (host : ℕ) (floor : Option ℕ) (t : Task) (s : SharedState) (all : List File) (settled : ℕ) → IsTask sys host t
    → AtPhase t.phase sys host floor t s all settled → TaskHolds sys host floor t s all settled
holds sys host floor t s all settled is at = record { command = is.command; me = is.me; lines = is.lines; phase = at }

-- a task that holds what it named has appended it, where its entry is the last of all
pub holds_last : (floor : Option ℕ) (named : Option Named) (t : Task) (all : List File) → HoldsNamed t named → length all ≡ t.gate + 1 → (file : File)
    → slice_get all t.gate ≡ Some file → t.entry ≡ Some file.entry
    → AppendsNamed (record { task = t; floor = floor; named = named }) all t.gate
holds_last floor named t all holds count file last entry = record {
  count = count;
  file = file;
  last = last;
  named = holds.is ∙ ap (λ (e : Entry). Some (record { seq = t.gate; entry = e })) (same_Some holds.entry file.entry (sym holds.held ∙ entry));
  entry = entry;
}

module _ (sys : System) (host : ℕ) (floor : Option ℕ) (named : Option Named) (s : SharedState) (all : List File) (settled : ℕ) (core : Core sys s all settled) where
  -- a turn that goes on
  pub goes : (t t' : Task) → IsTask sys host t' → AtPhase t'.phase sys host floor t' s all settled → After (Goes t') sys host floor named t s all settled
  goes t t' is at = record {
    may = tt;
    core = core;
    task = holds sys host floor t' s all settled is at;
    change = inr (record { same = refl; m = 0; shared = omega arith; is = omega arith });
  }

  -- a turn behind which the mark stands
  pub marks : (t t' : Task) → IsTask sys host t' → AtPhase t'.phase sys host (Some settled) t' s all settled → After (Marks t') sys host floor named t s all settled
  marks t t' is at = record {
    may = tt;
    core = core;
    task = holds sys host (Some settled) t' s all settled is at;
    change = inr (record { same = refl; m = 0; shared = omega arith; is = omega arith });
  }

  -- an answer on entries that memory's gate counts
  pub ends : (t : Task) (reply : Reply) → MayReply reply sys (record { task = t; floor = floor; named = named }) all settled
      → shown_by reply ≤ gate_of (s.memory gate_line) → After (Ends reply) sys host floor named t s all settled
  ends t reply may shared = record {
    may = may;
    core = core_raised sys s all settled core (shown_by reply) shared;
    task = tt;
    change = inr (record { same = refl; m = shown_by reply; shared = shared; is = refl });
  }
