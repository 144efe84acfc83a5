use Rattle.std.proofs.Common.{◌≡◌, ℕ, ◌+◌, ◌-◌, ◌%◌, List, ◌∷◌, ◌++◌, [], Some, length, ap, sym, subst, refl, ◌∙◌, arith, length-append}
use Rattle.std.proofs.lemmas.List.{take_all, take-append-le}
use Rattle.fam_rules.specs.Content.{byte_in}
use Rattle.fam_rules.specs.Reply.{Bytes}
use Rattle.fam_commands.specs.declared.phase.Part.TheVariants.{File}
use Rattle.fam_commands.specs.declared.phase.Phase.{Phase}
use Rattle.fam_commands.specs.declared.phase.Phase.TheVariants as at
use Rattle.fam_commands.specs.Task.{Task, size_of, wanted_end, wanted_lines, wanted_start}
use Rattle.fam_commands.specs.Turns.{loaded_bytes, with_word}
use Rattle.fam_commands.specs.Classes.{IsRead}
use Rattle.fam_tasks.specs.declared.answer.Answer.TheVariants as answer
use Rattle.fam_tasks.specs.Invariant.{IsInvariantAt}
use Rattle.fam_tasks.specs.Model.{task_of}
use Rattle.fam_tasks.specs.Sound.{IsSoundAt}
use Rattle.fam_tasks.proofs.FileLines.{read_held, read_holds, read_kept, read_turn, same_proper, wanted_line}
use Rattle.fam_tasks.proofs.FileTurns.{bytes_told, last_line, replies}
use Rattle.fam_tasks.proofs.Phases.{same_gate}
use Rattle.fam_tasks.proofs.task.Task.read_line.Goals as goal

pub invariant_of-self : goal.invariant_of-self
invariant_of-self c =
    let t : Task = task_of c.self.inside in
    let sound = c.self.invariant.sound in
    let phase : c.self.inside.phase ≡ at.Word File c.args.line 7 = ap (λ (u : Task). u.phase) c.self.view_is ∙ c.requires.phase in
    let stands : IsSoundAt (at.Word File c.args.line 7) t = subst (λ (p : Phase). IsSoundAt p t) phase sound.stands in
    let held : IsInvariantAt (at.Word File c.args.line 7) c.self.inside = subst (λ (p : Phase). IsInvariantAt p c.self.inside) phase c.self.invariant.held in
    let is : IsRead c.self.inside.cmd = subst (λ (u : Task). IsRead u.cmd) (sym c.self.view_is) c.requires.read in
    let lines : c.wanted_lines-lines.result ≡ wanted_lines c.self.inside.cmd (size_of c.self.inside.entry) =
    c.wanted_lines-lines.ensures ∙ ap (wanted_lines c.self.inside.cmd) (c.file_size.ensures ∙ ap (λ (u : Task). size_of u.entry) (sym c.self.view_is)) in
    let line = stands.0.line in
    let u : Task = record t { phase = at.Drop File (c.args.line + 1); words = c.push.new.self } in
    record {
      sound = record {
        command = sound.command;
        least = sound.least;
        most = sound.most;
        stands = (
          wanted_line u (c.args.line + 1) sound.command (same_gate t u refl refl refl line.found) line.looks (same_proper c.self.inside.entry t u refl line.file.proper) (omega (arith, lines)),
          omega (
            arith,
            ap length c.push.ensures,
            length-append c.self.inside.buffer (c.args.word ∷ []),
            stands.2,
            read_kept c.self.inside.cmd c.args.line is,
            read_kept c.self.inside.cmd (c.args.line + 1) is,
          ),
        );
        kept = sound.kept;
      };
      held = read_held c.self.inside.cmd _ (c.args.line + 1) is (read_holds c.self.inside.cmd c.self.inside c.args.line is held);
    }

pub returns-clause-turn : goal.returns-clause-turn
returns-clause-turn c =
    let phase : c.self.inside.phase ≡ at.Word File c.args.line 7 = ap (λ (u : Task). u.phase) c.self.view_is ∙ c.requires.phase in
    let held : IsInvariantAt (at.Word File c.args.line 7) c.self.inside = subst (λ (p : Phase). IsInvariantAt p c.self.inside) phase c.self.invariant.held in
    let is : IsRead c.self.inside.cmd = subst (λ (u : Task). IsRead u.cmd) (sym c.self.view_is) c.requires.read in
    let u : Task = with_word c.args.self.now c.args.word in
    let lines : c.wanted_lines-lines.result ≡ wanted_lines u.cmd (size_of u.entry) =
    c.wanted_lines-lines.ensures ∙ ap (λ (x : Task). wanted_lines x.cmd c.file_size.result) c.self.view_is ∙ ap (wanted_lines u.cmd) c.file_size.ensures in
    let count : c.count-m.result ≡ length c.args.self.now.entries = c.count-m.ensures ∙ ap (λ (x : Task). length x.entries) c.self.view_is in
    let bytes : List ℕ = c.copy_bytes.new.bytes in
    let room : length c.replace-bytes.result.items ≡ wanted_end u.cmd (size_of u.entry) - wanted_start u.cmd =
    ap (λ v. length v.items) c.replace-bytes.ensures.value ∙ read_holds c.self.inside.cmd c.self.inside c.args.line is held
    ∙ ap (λ (x : Task). wanted_end x.cmd (size_of x.entry) - wanted_start x.cmd) c.self.view_is in
    let long : length bytes ≡ length c.replace-bytes.result.items = c.copy_bytes.ensures.count ∙ ap length c.as_mut_slice.ensures.value in
    let taken : c.new-2.result ≡ bytes =
    c.new-2.ensures ∙ take-append-le c.replace-bytes.result.len bytes _ (omega (arith, c.copy_bytes.ensures.count, c.as_mut_slice.ensures.len))
    ∙ take_all c.replace-bytes.result.len bytes (omega (arith, c.copy_bytes.ensures.count, c.as_mut_slice.ensures.len)) in
    let words : c.push.new.self ≡ u.words = c.push.ensures ∙ ap (λ (x : Task). x.words ++ c.args.word ∷ []) c.self.view_is in
    let first : c.wanted_start-first.result % 64 ≡ wanted_start u.cmd % 64 = ap (λ (n : ℕ). n % 64) (c.wanted_start-first.ensures ∙ ap (λ (x : Task). wanted_start x.cmd) c.self.view_is) in
    let told : bytes ≡ loaded_bytes u (wanted_start u.cmd) =
    bytes_told u bytes (c.wanted_start-first.result % 64) (long ∙ room) first
    (λ i below. c.copy_bytes.ensures.each i (omega (arith, c.copy_bytes.ensures.count))
    ∙ ap (λ (w : List ℕ). byte_in w (c.wanted_start-first.result % 64 + i)) words) in
    replies _ c.done.result _ (Bytes (length c.args.self.now.entries) (loaded_bytes u (wanted_start u.cmd))) (answer.Bytes c.count-m.result c.new-2.result)
    (read_turn u.cmd u c.args.line c.requires.read ∙ last_line u c.args.line c.wanted_lines-lines.result _ lines c.if-line-lines.false)
    c.done.ensures.turn (ap (λ (n : ℕ). Some (Bytes n c.new-2.result)) count ∙ ap (λ (x : List ℕ). Some (Bytes (length c.args.self.now.entries) x)) (taken ∙ told))
