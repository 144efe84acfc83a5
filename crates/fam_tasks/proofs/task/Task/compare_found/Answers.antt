use Rattle.std.proofs.Common.{◌≡◌, ℕ, ◌+◌, ◌*◌, List, [], Some, length, ap, sym, subst, refl, ◌∙◌, arith}
use Rattle.fam_base.specs.declared.cmd.Content.{Content}
use Rattle.fam_rules.specs.Content.{content_line, HoldsBytes}
use Rattle.fam_rules.specs.Reply.{Same}
use Rattle.fam_commands.specs.declared.phase.Part.TheVariants.{File}
use Rattle.fam_commands.specs.declared.phase.Phase.{Phase}
use Rattle.fam_commands.specs.declared.phase.Phase.TheVariants as at
use Rattle.fam_commands.specs.Task.{Task, size_of, wanted_lines}
use Rattle.fam_commands.specs.Turns.{Ends, file_turn, line_or}
use Rattle.fam_commands.specs.Classes.{IsVerify}
use Rattle.fam_content.specs.Difference.{DiffersAt, IsFirst}
use Rattle.fam_tasks.specs.declared.answer.Answer.TheVariants as answer
use Rattle.fam_tasks.specs.declared.answer.Turn.{Turn}
use Rattle.fam_tasks.specs.Tells.{Tells}
use Rattle.fam_tasks.specs.Commands.{content_used}
use Rattle.fam_tasks.specs.Contents.{ContentsState}
use Rattle.fam_tasks.specs.Invariant.{IsInvariantAt}
use Rattle.fam_tasks.specs.Model.{task_of}
use Rattle.fam_tasks.specs.Sound.{IsSoundAt}
use Rattle.fam_tasks.proofs.FileLines.{same_proper, verify_below, verify_held, verify_holds, verify_kept, wanted_line}
use Rattle.fam_tasks.proofs.FileTurns.{differs_told, goes, last_line, next_line, no_words, replies, same_told}
use Rattle.fam_tasks.proofs.Phases.{same_gate}
use Rattle.fam_tasks.proofs.Keeping.{ended_task}
use Rattle.fam_tasks.proofs.task.Task.compare_found.Goals as goal

pub invariant_of-self-then-line-lines : goal.invariant_of-self-then-line-lines
invariant_of-self-then-line-lines c =
    let t : Task = task_of c.self.inside in
    let sound = c.self.invariant.sound in
    let phase : c.self.inside.phase ≡ at.Drop File c.args.line = ap (λ (u : Task). u.phase) c.self.view_is ∙ c.requires.phase in
    let stands : IsSoundAt (at.Drop File c.args.line) t = subst (λ (p : Phase). IsSoundAt p t) phase sound.stands in
    let held : IsInvariantAt (at.Drop File c.args.line) c.self.inside = subst (λ (p : Phase). IsInvariantAt p c.self.inside) phase c.self.invariant.held in
    let is : IsVerify c.self.inside.cmd = subst (λ (u : Task). IsVerify u.cmd) (sym c.self.view_is) c.requires.verify in
    let holds = verify_holds c.self.inside.cmd c.self.inside c.args.line is held in
    let size : c.file_size-size.result ≡ size_of c.self.inside.entry = c.file_size-size.ensures ∙ ap (λ (u : Task). size_of u.entry) (sym c.self.view_is) in
    let lines = c.wanted_lines-lines.ensures in
    let line = stands.0.line in
    let u : Task = record t { phase = at.Drop File (c.args.line + 1) } in
    record {
      sound = record {
        command = sound.command;
        least = sound.least;
        most = sound.most;
        stands = (
          wanted_line u (c.args.line + 1) sound.command (same_gate t u refl refl refl line.found) line.looks
              (same_proper c.self.inside.entry t u refl line.file.proper) (omega (arith, lines, ap (wanted_lines c.self.inside.cmd) size)),
          stands.1 ∙ verify_kept c.self.inside.cmd c.args.line is ∙ sym (verify_kept c.self.inside.cmd (c.args.line + 1) is),
        );
        kept = sound.kept;
      };
      held = verify_held c.self.inside.cmd _ (c.args.line + 1) is (ap (λ (s : ContentsState). s.content) c.take.ensures.new ∙ holds.0)
          (ap (λ (s : ContentsState). s.taken) c.take.ensures.new ∙ ap (λ (n : ℕ). n + 1) holds.1);
    }

pub returns-in-Some-clause-turn : goal.returns-in-Some-clause-turn
returns-in-Some-clause-turn c phase =
    let t : Task = task_of c.self.inside in
    let at_phase : c.self.inside.phase ≡ at.Drop File c.args.line = ap (λ (u : Task). u.phase) c.self.view_is ∙ c.requires.phase in
    let held : IsInvariantAt (at.Drop File c.args.line) c.self.inside = subst (λ (p : Phase). IsInvariantAt p c.self.inside) at_phase c.self.invariant.held in
    let is : IsVerify c.self.inside.cmd = subst (λ (u : Task). IsVerify u.cmd) (sym c.self.view_is) c.requires.verify in
    let holds = verify_holds c.self.inside.cmd c.self.inside c.args.line is held in
    let size : c.file_size-size.result ≡ size_of c.args.self.now.entry = c.file_size-size.ensures in
    let used : c.self.inside.contents.content ≡ content_used c.args.self.now.cmd = holds.0 ∙ ap (λ (u : Task). content_used u.cmd) c.self.view_is in
    let bytes : HoldsBytes (content_used c.args.self.now.cmd) = subst HoldsBytes used c.take.ensures.bytes in
    let wanted : c.line.result.now ≡ content_line (content_used c.args.self.now.cmd) c.file_size-size.result c.args.line =
    c.line.ensures ∙ ap (λ (s : ContentsState). s.line) c.take.ensures.new
    ∙ ap (λ (x : Content). content_line x c.file_size-size.result c.self.inside.contents.taken) used
    ∙ ap (content_line (content_used c.args.self.now.cmd) c.file_size-size.result) holds.1 in
    let count : c.count-m.result ≡ length c.args.self.now.entries = c.count-m.ensures ∙ ap (λ (u : Task). length u.entries) c.self.view_is in
    let loaded : Task = record c.args.self.now { phase = phase; words = c.args.found.now } in
    let first : IsFirst c.args.found.now c.line.result.now (64 * c.args.line) c.file_size-size.result c.in-Some.offset c.in-Some.found c.in-Some.wanted = c.in-Some.ensures in
    differs_told loaded c.args.self.now.cmd c.args.line c.file_size-size.result c.args.found.now c.line.result.now c.requires.verify refl size wanted bytes
    c.in-Some.offset c.in-Some.found c.in-Some.wanted c.count-m.result c.end.new.turn _ first count c.end.ensures.turn

pub returns-then-line-lines-clause-turn : goal.returns-then-line-lines-clause-turn
returns-then-line-lines-clause-turn c phase =
    let t : Task = task_of c.self.inside in
    let at_phase : c.self.inside.phase ≡ at.Drop File c.args.line = ap (λ (u : Task). u.phase) c.self.view_is ∙ c.requires.phase in
    let held : IsInvariantAt (at.Drop File c.args.line) c.self.inside = subst (λ (p : Phase). IsInvariantAt p c.self.inside) at_phase c.self.invariant.held in
    let is : IsVerify c.self.inside.cmd = subst (λ (u : Task). IsVerify u.cmd) (sym c.self.view_is) c.requires.verify in
    let holds = verify_holds c.self.inside.cmd c.self.inside c.args.line is held in
    let size : c.file_size-size.result ≡ size_of c.args.self.now.entry = c.file_size-size.ensures in
    let used : c.self.inside.contents.content ≡ content_used c.args.self.now.cmd = holds.0 ∙ ap (λ (u : Task). content_used u.cmd) c.self.view_is in
    let bytes : HoldsBytes (content_used c.args.self.now.cmd) = subst HoldsBytes used c.take.ensures.bytes in
    let wanted : c.line.result.now ≡ content_line (content_used c.args.self.now.cmd) c.file_size-size.result c.args.line =
    c.line.ensures ∙ ap (λ (s : ContentsState). s.line) c.take.ensures.new
    ∙ ap (λ (x : Content). content_line x c.file_size-size.result c.self.inside.contents.taken) used
    ∙ ap (content_line (content_used c.args.self.now.cmd) c.file_size-size.result) holds.1 in
    let count : c.count-m.result ≡ length c.args.self.now.entries = c.count-m.ensures ∙ ap (λ (u : Task). length u.entries) c.self.view_is in
    let loaded : Task = record c.args.self.now { phase = phase; words = c.args.found.now } in
    let lines : c.wanted_lines-lines.result ≡ wanted_lines c.args.self.now.cmd (size_of c.args.self.now.entry) =
    c.wanted_lines-lines.ensures ∙ ap (λ (u : Task). wanted_lines u.cmd c.file_size-size.result) c.self.view_is ∙ ap (wanted_lines c.args.self.now.cmd) size in
    let none : (o : ℕ) → DiffersAt c.args.found.now c.line.result.now (64 * c.args.line) c.file_size-size.result o → ⊥ = c.in-None.ensures in
    let told : file_turn c.args.self.now.cmd loaded c.args.line ≡ line_or (record loaded { words = [] }) File c.args.line (Ends (Same (length c.args.self.now.entries))) =
    same_told loaded c.args.self.now.cmd c.args.line c.file_size-size.result c.args.found.now c.line.result.now c.requires.verify refl size wanted bytes none in
    let stands : IsSoundAt (at.Drop File c.args.line) t = subst (λ (p : Phase). IsSoundAt p t) at_phase c.self.invariant.sound.stands in
    let empty : t.words ≡ [] = no_words t.words (stands.1 ∙ verify_kept c.self.inside.cmd c.args.line is) in
    subst (λ (said : Turn). Tells (file_turn c.args.self.now.cmd loaded c.args.line) said (record t { phase = at.Drop File (c.args.line + 1) })) (sym c.requires.go)
    (goes _ _ _
    (told ∙ next_line (record loaded { words = [] }) c.args.line c.wanted_lines-lines.result _ lines c.if-line-lines.true)
    (ap (λ (w : List ℕ). record t { phase = at.Drop File (c.args.line + 1); words = w }) empty ∙ ap (λ (u : Task). record u { phase = at.Drop File (c.args.line + 1); words = [] }) c.self.view_is))

pub returns-else-line-lines-clause-turn : goal.returns-else-line-lines-clause-turn
returns-else-line-lines-clause-turn c phase =
    let t : Task = task_of c.self.inside in
    let at_phase : c.self.inside.phase ≡ at.Drop File c.args.line = ap (λ (u : Task). u.phase) c.self.view_is ∙ c.requires.phase in
    let held : IsInvariantAt (at.Drop File c.args.line) c.self.inside = subst (λ (p : Phase). IsInvariantAt p c.self.inside) at_phase c.self.invariant.held in
    let is : IsVerify c.self.inside.cmd = subst (λ (u : Task). IsVerify u.cmd) (sym c.self.view_is) c.requires.verify in
    let holds = verify_holds c.self.inside.cmd c.self.inside c.args.line is held in
    let size : c.file_size-size.result ≡ size_of c.args.self.now.entry = c.file_size-size.ensures in
    let used : c.self.inside.contents.content ≡ content_used c.args.self.now.cmd = holds.0 ∙ ap (λ (u : Task). content_used u.cmd) c.self.view_is in
    let bytes : HoldsBytes (content_used c.args.self.now.cmd) = subst HoldsBytes used c.take.ensures.bytes in
    let wanted : c.line.result.now ≡ content_line (content_used c.args.self.now.cmd) c.file_size-size.result c.args.line =
    c.line.ensures ∙ ap (λ (s : ContentsState). s.line) c.take.ensures.new
    ∙ ap (λ (x : Content). content_line x c.file_size-size.result c.self.inside.contents.taken) used
    ∙ ap (content_line (content_used c.args.self.now.cmd) c.file_size-size.result) holds.1 in
    let count : c.count-m.result ≡ length c.args.self.now.entries = c.count-m.ensures ∙ ap (λ (u : Task). length u.entries) c.self.view_is in
    let loaded : Task = record c.args.self.now { phase = phase; words = c.args.found.now } in
    let lines : c.wanted_lines-lines.result ≡ wanted_lines c.args.self.now.cmd (size_of c.args.self.now.entry) =
    c.wanted_lines-lines.ensures ∙ ap (λ (u : Task). wanted_lines u.cmd c.file_size-size.result) c.self.view_is ∙ ap (wanted_lines c.args.self.now.cmd) size in
    let none : (o : ℕ) → DiffersAt c.args.found.now c.line.result.now (64 * c.args.line) c.file_size-size.result o → ⊥ = c.in-None.ensures in
    let told : file_turn c.args.self.now.cmd loaded c.args.line ≡ line_or (record loaded { words = [] }) File c.args.line (Ends (Same (length c.args.self.now.entries))) =
    same_told loaded c.args.self.now.cmd c.args.line c.file_size-size.result c.args.found.now c.line.result.now c.requires.verify refl size wanted bytes none in
    replies _ c.end-else-line-lines.new.turn _ (Same (length c.args.self.now.entries)) (answer.Same c.count-m.result)
    (told ∙ last_line (record loaded { words = [] }) c.args.line c.wanted_lines-lines.result _ lines c.if-line-lines.false)
    c.end-else-line-lines.ensures.turn (ap (λ (n : ℕ). Some (Same n)) count)

pub invariant_of-self : goal.invariant_of-self
invariant_of-self c =
    let sound = c.self.invariant.sound in
    ended_task _ c.end.ensures.last sound.command sound.least sound.most sound.kept

pub invariant_of-self-else-line-lines : goal.invariant_of-self-else-line-lines
invariant_of-self-else-line-lines c =
    let sound = c.self.invariant.sound in
    ended_task _ c.end-else-line-lines.ensures.last sound.command sound.least sound.most sound.kept

pub take-requires : goal.take-requires
take-requires c =
    let t : Task = task_of c.self.inside in
    let phase : c.self.inside.phase ≡ at.Drop File c.args.line = ap (λ (u : Task). u.phase) c.self.view_is ∙ c.requires.phase in
    let stands : IsSoundAt (at.Drop File c.args.line) t = subst (λ (p : Phase). IsSoundAt p t) phase c.self.invariant.sound.stands in
    let held : IsInvariantAt (at.Drop File c.args.line) c.self.inside = subst (λ (p : Phase). IsInvariantAt p c.self.inside) phase c.self.invariant.held in
    let is : IsVerify c.self.inside.cmd = subst (λ (u : Task). IsVerify u.cmd) (sym c.self.view_is) c.requires.verify in
    let holds = verify_holds c.self.inside.cmd c.self.inside c.args.line is held in
    let size : c.file_size-size.result ≡ size_of c.self.inside.entry = c.file_size-size.ensures ∙ ap (λ (u : Task). size_of u.entry) (sym c.self.view_is) in
    verify_below c.self.inside.cmd c.args.line c.self.inside.contents.taken (size_of c.self.inside.entry) c.file_size-size.result is stands.0.line.file.below holds.1 size

pub returns-then-line-lines-clause-kept : goal.returns-then-line-lines-clause-kept
returns-then-line-lines-clause-kept c = ap (λ (u : Task). u.kept) c.self.view_is
