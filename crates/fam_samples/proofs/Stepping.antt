-- A body that drops line 0, of which the cache has no copy, meets what a step promises.
use Rattle.std.proofs.Common.{◌≡◌, inl, inr, ℕ, false, List, [], length, Some, None, refl, ap, sym, ◌∙◌, subst, arith}
use Rattle.fam_media.specs.States.{media_change}
use Prim.Native.Nat.{zero, suc}
use Rattle.std.specs.Prelude.{codes}
use Rattle.std.specs.FinMap as finmap
use Rattle.std.proofs.lemmas.Bool.{cases_eq}
use Rattle.std.proofs.lemmas.List.{append-nil}
use Rattle.std.proofs.lemmas.Option.{same_Some}
use Rattle.fam_base.specs.declared.cmd.Cmd.TheVariants.{Logplay}
use Rattle.fam_base.specs.Image.{Image, line_at, with_line}
use Rattle.fam_base.proofs.ImageLemmas.{with_line-line_at}
use Rattle.fam_machine.specs.declared.cell.Cell.{Cell}
use Rattle.fam_machine.specs.declared.cell.Cell.TheVariants.{Absent}
use Rattle.fam_machine.specs.Caches.{cell_at, with_cell}
use Rattle.fam_machine.specs.OneLine.{IsHeld, sent}
use Rattle.fam_commands.specs.Task.{Task, starting}
use Rattle.fam_machine.proofs.CacheLemmas.{cell_at-empty, cell_at-with_cell_other, cell_at-with_cell_same}
use Rattle.fam_journal.specs.Calls.{Steps, refusal_of}
use Rattle.fam_journal.specs.CallRecords.{AnswersStep, CallKeeps, FitsMedia, HostFits, StepCall}
use Rattle.fam_journal.specs.Shapes.{IsShaped}
use Rattle.fam_journal.specs.Notes.{Note}
use Rattle.fam_journal.specs.View.{WorldStands, WorldView}
use Rattle.fam_journal.specs.ByWorld.{number_in, refusal_in}
use Rattle.fam_journal.proofs.Shapes.Views.{step_shaped, world_shaped}
use Rattle.fam_journal.proofs.JournalLaws.{kept_on}
use Rattle.fam_journal.proofs.Calls.OwnSteps.{own_step}
use Rattle.fam_samples.specs.Bodies.{after_step, before_step, world_host}

-- no line is held
pub none_held : (l : ℕ) → cell_at (with_cell 0 Absent finmap.empty) l ≡ Absent
none_held l =
    elim (cases_eq l 0) [
      | inl e ↦ subst (λ (n : ℕ). cell_at (with_cell 0 Absent finmap.empty) n ≡ Absent) (sym e) (cell_at-with_cell_same 0 Absent finmap.empty)
      | inr ne ↦ cell_at-with_cell_other 0 Absent finmap.empty l ne ∙ cell_at-empty l
    ]

module _ (me : List ℕ) (lines : ℕ) (journal : List Note) where
  abbrev old : WorldView
  old = before_step me lines journal

  abbrev new : WorldView
  new = after_step me lines journal

  abbrev t : Task
  t = starting Logplay me lines

  number : number_in (codes "m") old ≡ Some 0
  number = refl

  free : refusal_in (Steps (codes "m")) old lines ≡ None
  unfolding refusal_of
  free = refl

  fits : FitsMedia lines new.hosts
  fits zero view is = subst (HostFits lines) (same_Some _ view is) record { task = refl; cache = λ l held. absurd (let is_none : IsHeld Absent = subst IsHeld (none_held l) held in cc) }
  fits (suc h) view is = absurd cc

  answers : (faults : ℕ) → AnswersStep (codes "m") lines None false faults faults old new
  answers faults = record {
    answers = record {
      adds = record {
        notes = [];
        joined = sym (append-nil journal);
        counted = omega arith;
        later = omega arith;
        named = tt;
        hosts = refl;
        fits = λ was. fits;
        shaped = λ is. subst (λ (z : List Note). IsShaped (record { hosts = new.hosts; journal = z })) (append-nil journal)
            (world_shaped old is 0 (world_host me finmap.empty (Some t)) refl t refl 0 (with_cell 0 Absent finmap.empty));
      };
      said = refl;
      refused = λ cause is. absurd (let none = free in cc);
      free = λ cause none answered. absurd cc;
      shape = λ is. inl (step_shaped old is 0 (world_host me finmap.empty (Some t)) refl t refl 0 (with_cell 0 Absent finmap.empty) lines (codes "m") number free);
    };
    over_is = refl;
  }

  keeps : (image : Image) (start : Image) → CallKeeps (Steps (codes "m")) start (Some image) (Some image) old new
  keeps image start state told held =
      let same : image ≡ state.memory = same_Some image state.memory told in
      let lines_are : length state.memory ≡ length start = held.kept.held.lines in
      let x = own_step state old (subst (λ (n : ℕ). WorldStands n state old) (sym lines_are) held.stands) (codes "m") 0 number (world_host me finmap.empty (Some t)) refl t refl in
      let stands : WorldStands (length start) x.left new = subst (λ (n : ℕ). WorldStands n x.left new) lines_are x.stands in
      record {
        state = x.left;
        notes = [];
        row = x.row;
        told_is = ap Some (same ∙ sym (x.memory ∙ ap (λ (c : Cell). with_line 0 (sent (line_at state.memory 0) c) state.memory) (cell_at-empty 0)
            ∙ with_line-line_at state.memory held.kept.held.normal 0));
        joined = sym (append-nil journal);
        held = kept_on start state x.left old new (Steps (codes "m")) [] held tt x.row stands (sym (append-nil journal));
      }

  pub meets : (image : Image) (faults : ℕ) → StepCall (codes "m") lines None false (media_change (Some image) faults (Some image) faults) old new
  meets image faults = record { answers = answers faults; keeps = keeps image }

  -- so it is on a media whose content isn't modelled
  pub meets_untold : (faults : ℕ) → StepCall (codes "m") lines None false (media_change None faults None faults) old new
  meets_untold faults = record { answers = answers faults; keeps = λ start state told held. absurd cc }
