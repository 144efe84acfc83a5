use Rattle.std.proofs.Common.{ℕ, ◌≡◌, ◌*◌, ◌+◌, ◌<◌, ◌≤◌, List, length, ap, subst, ◌∙◌, arith}
use Rattle.std.specs.Prelude.{slice_index}
use Rattle.fam_format.specs.Layout.{slot_line}
use Rattle.fam_commands.specs.declared.phase.Phase.{Phase}
use Rattle.fam_commands.specs.declared.phase.Phase.TheVariants as at
use Rattle.fam_commands.specs.Task.{Task}
use Rattle.fam_tasks.specs.Model.{task_of}
use Rattle.fam_tasks.specs.Sound.{IsSoundAt}
use Rattle.fam_tasks.proofs.Lines.{word_of_eight}
use Rattle.fam_tasks.proofs.Slots.{slot_small, slot_within, word_within}
use Rattle.fam_tasks.proofs.task.Task.slot_rest.Goals as goal

pub line-words-requires : goal.line-words-requires
line-words-requires c =
    let t : Task = task_of c.self.inside in
    let phase : t.phase ≡ at.StoreSlot c.args.line 1 = ap (λ (u : Task). u.phase) c.self.view_is ∙ c.requires in
    let stands : IsSoundAt (at.StoreSlot c.args.line 1) t = subst (λ (p : Phase). IsSoundAt p t) phase c.self.invariant.sound.stands in
    omega (arith, word_within t.params c.args.line 7 stands.1 (omega arith), stands.0.words)

pub line_of_slot-requires : goal.line_of_slot-requires
line_of_slot-requires c =
    let t : Task = task_of c.self.inside in
    let phase : t.phase ≡ at.StoreSlot c.args.line 1 = ap (λ (u : Task). u.phase) c.self.view_is ∙ c.requires in
    let stands : IsSoundAt (at.StoreSlot c.args.line 1) t = subst (λ (p : Phase). IsSoundAt p t) phase c.self.invariant.sound.stands in
    slot_small t.params t.gate c.args.line stands.0.found.super.sound stands.0.room stands.1

pub returns : goal.returns
returns c =
    let t : Task = task_of c.self.inside in
    let phase : t.phase ≡ at.StoreSlot c.args.line 1 = ap (λ (u : Task). u.phase) c.self.view_is ∙ c.requires in
    let stands : IsSoundAt (at.StoreSlot c.args.line 1) t = subst (λ (p : Phase). IsSoundAt p t) phase c.self.invariant.sound.stands in
    let within : slot_line t.params t.gate c.args.line < t.lines = slot_within t t.gate c.args.line stands.0.found.super stands.0.room stands.1 in
    let long : 8 * c.args.line + 8 ≤ length t.words = omega (arith, word_within t.params c.args.line 7 stands.1 (omega arith), stands.0.words) in
    record {
      j = c.args.line;
      phase = c.requires;
      is = c.line_of_slot.ensures ∙ ap (λ (u : Task). slot_line u.params u.gate c.args.line) c.self.view_is;
      words_are = λ k below. ap (λ (w : List ℕ). slice_index w k) c.line-words.ensures ∙ word_of_eight t.words (8 * c.args.line) k below long
          ∙ ap (λ (u : Task). slice_index u.words (8 * c.args.line + k)) c.self.view_is;
      within = omega (arith, c.line_of_slot.ensures, within, ap (λ (u : Task). u.lines) c.self.view_is);
    }
