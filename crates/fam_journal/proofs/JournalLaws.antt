-- The laws, from what stands below.
use Rattle.std.proofs.Common.{◌≡◌, inl, inr, List, ◌∷◌, [], ◌++◌, length, refl, sym, subst}
use Rattle.fam_base.specs.Image.{Image}
use Rattle.fam_journal.specs.Calls as call
use Rattle.fam_journal.specs.Calls.{CutCall, Call, Does}
use Rattle.fam_journal.specs.Ends.{CutCallReads, ReadsAs}
use Rattle.fam_journal.specs.View.{WorldStands, WorldView, empty_world}
use Rattle.fam_journal.specs.Kept.{Held, Reached}
use Rattle.fam_journal.specs.CallRecords.{DoesPart, IsSoundCall}
use Rattle.fam_journal.specs.Laws.{IsImage, MaySayNext, TaskAt, task_turn}
use Rattle.fam_journal.specs.Legal.{Legal}
use Rattle.fam_journal.specs.Machines.{Machines, unused}
use Rattle.fam_journal.specs.Notes.{Note, Refused}
use Rattle.fam_journal.specs.Past.{first_past, past_of}
use Rattle.fam_journal.proofs.Calls.Begin.{held_first}
use Rattle.fam_journal.proofs.Runs.Following.{cut_notes, does_kept, kept_quiet, operates_kept}
use Rattle.fam_journal.proofs.Settled.Journals.{legal_both}
use Rattle.fam_journal.proofs.Runs.CutReads.{call_cut}
use Rattle.fam_journal.proofs.Runs.Left.{held_reads}
use Rattle.fam_journal.proofs.Calls.Stepped.{Bridged, bridged}

pub begun : (image : Image) → IsImage image → Held image (unused image) empty_world image
begun image is = record {
  memory = refl;
  stands = λ h. tt;
  kept = record { views = []; held = held_first image is.limit is.normal; uuids = λ k host none. absurd cc };
}

pub said : (at : TaskAt) (says : MaySayNext at) → Bridged at.past says.now at.host (task_turn at)
said at says =
    bridged at.past.start at.past.hosts at.host at.told at.is at.kept at.task.cmd at.task.me at.task at.words at.made at.word at.joined at.standing
    (task_turn at) refl at.was at.me says.hosts says.shared says.now at.past.state says.bad says.halted says.stage says.says

pub kept_on : (start : Image) (state left : Machines) (old new : WorldView) (call : Call) (notes : List Note) → Held start state old state.memory → IsSoundCall call → Does call state notes left
    → WorldStands (length start) left new → new.journal ≡ old.journal ++ notes → Held start left new left.memory
kept_on start state left old new call notes held sound does stands journal = record {
  memory = refl;
  stands = stands;
  kept = subst (λ (z : List Note). Reached start left z) (sym journal) (does_kept start state old.journal held.kept notes left call sound does);
}

part_does : (start : Image) (state left : Machines) (journal notes : List Note) (call : Call) → Reached start state journal → DoesPart call state notes left → Reached start left (journal ++ notes)
part_does start state left journal notes (call.Finishes name) kept (inl x) = operates_kept start x.host x.does.count state journal kept notes left x.does.does
part_does start state left journal notes (call.Finishes name) kept (inr x) = kept_quiet start journal notes left state x.0 x.1 kept
part_does start state left journal notes e kept x = kept_quiet start journal notes left state x.0 x.1 kept

pub part_on : (start : Image) (state left : Machines) (old new : WorldView) (call : Call) (notes : List Note) → Held start state old state.memory → DoesPart call state notes left
    → WorldStands (length start) left new → new.journal ≡ old.journal ++ notes → Held start left new left.memory
part_on start state left old new call notes held does stands journal = record {
  memory = refl;
  stands = stands;
  kept = subst (λ (z : List Note). Reached start left z) (sym journal) (part_does start state left old.journal notes call held.kept does);
}

pub cut_legal : (start : Image) (state left : Machines) (old : WorldView) (call : Call) (notes : List Note) → Held start state old state.memory
    → CutCall call state notes left → Legal start (old.journal ++ notes)
cut_legal start state left old call notes held breaks =
    let b = cut_notes call state left notes breaks in
    subst (λ (z : List Note). Legal start (old.journal ++ z)) (sym b.2) (legal_both (first_past start) old.journal (Refused b.0 b.1 ∷ []) held.kept.held.legal (tt, tt))

pub cut_reads_as : (start : Image) (state left : Machines) (old : WorldView) (call : Call) (notes : List Note) → Held start state old state.memory → IsSoundCall call → CutCall call state notes left
    → CutCallReads call state (past_of start old.journal).state left.memory
cut_reads_as start state left old call notes held sound breaks = call_cut start state old.journal held.kept call sound notes left breaks

pub held_reads_as : (start : Image) (state : Machines) (world : WorldView) (image : Image) → Held start state world image → ReadsAs (past_of start world.journal).state image
held_reads_as start state world image held =
    subst (λ (z : Image). ReadsAs (past_of start world.journal).state z) held.memory
    (held_reads start state (record { hosts = held.kept.views; journal = world.journal }) state.memory held.kept.held)
