-- Lines of a file that is compared, one behind another: each is dropped and loaded, and has the content's bytes, up to one that differs.
use Rattle.std.proofs.Common.{ℕ, zero, suc, ◌≡◌, ◌+◌, ◌*◌, ◌<◌, ◌≤◌, List, [], length, refl, sym, ap, ap₂, subst, ◌∙◌, arith}
use Rattle.fam_base.specs.Image.{eight}
use Rattle.fam_machine.specs.Operations.{line_no}
use Rattle.fam_machine.proofs.WideLines.{eight_whole}
use Rattle.fam_rules.specs.Content.{content_line, HoldsBytes}
use Rattle.fam_rules.specs.Reply.{Same}
use Rattle.fam_commands.specs.declared.phase.Part.{Part}
use Rattle.fam_commands.specs.declared.phase.Part.TheVariants.{File}
use Rattle.fam_commands.specs.declared.phase.Phase.{Phase}
use Rattle.fam_commands.specs.declared.phase.Phase.TheVariants as at
use Rattle.fam_commands.specs.Classes.{IsVerify}
use Rattle.fam_commands.specs.Task.{Task, first_line, size_of, wanted_lines}
use Rattle.fam_commands.specs.Turns.{Ends, file_turn}
use Rattle.fam_content.specs.Difference.{DiffersAt, HaveNone, IsFirst}
use Rattle.fam_content.specs.Stream.{line_in}
use Rattle.fam_tasks.specs.declared.answer.Answer.TheVariants as answer
use Rattle.fam_tasks.specs.declared.answer.Turn.{Turn}
use Rattle.fam_tasks.specs.declared.answer.Turn.TheVariants.{Done, Go}
use Rattle.fam_tasks.specs.declared.task.Task.TheInside.{Inside}
use Rattle.fam_tasks.specs.Commands.{content_used}
use Rattle.fam_tasks.specs.CompareRuns.{ComparesRun, IsComparedRow, none, more}
use Rattle.fam_tasks.specs.Invariant.{IsInvariantAt, IsTask}
use Rattle.fam_tasks.specs.Model.{task_of}
use Rattle.fam_tasks.specs.Rest.{ComparesLine, IsComparedLine}
use Rattle.fam_tasks.specs.Sound.{IsAtLine, IsSound, IsSoundAt}
use Rattle.fam_tasks.specs.Tells.{Tells}
use Rattle.fam_tasks.proofs.FileLines.{same_proper, verify_holds, verify_kept, wanted_line}
use Rattle.fam_tasks.proofs.FileRun.{line_within_image}
use Rattle.fam_tasks.proofs.FileTurns.{differs_told, goes, next_line, no_words, same_told}
use Rattle.fam_tasks.proofs.Phases.{same_gate}
use Rattle.fam_tasks.proofs.WholeLine.{line_compared}

module _ (t : Task) (first n : ℕ) (sound : IsSound t) (row : IsComparedRow first n t) where
  abbrev j : ℕ
  j = row.j

  stands : IsSoundAt (at.Drop File j) t
  stands = subst (λ (p : Phase). IsSoundAt p t) row.phase sound.stands

  -- behind the first k lines
  abbrev mid : ℕ → Task
  mid k = record t { phase = at.Drop File (j + k) }

  mid_sound : (k : ℕ) → k ≤ n → IsSound (mid k)
  mid_sound k few = record {
    command = sound.command;
    least = sound.least;
    most = sound.most;
    stands = (
      wanted_line (mid k) (j + k) sound.command (same_gate t (mid k) refl refl refl stands.0.line.found) stands.0.line.looks
          (same_proper t.entry t (mid k) refl stands.0.line.file.proper) (omega (arith, few, row.more)),
      stands.1 ∙ verify_kept t.cmd j row.verify ∙ sym (verify_kept t.cmd (j + k) row.verify),
    );
    kept = sound.kept;
  }

  -- the line that comes next then
  pub here : (k : ℕ) → k < n → IsComparedLine (line_no (first + k)) (mid k)
  here k below =
      let at_line : IsAtLine File (j + k) (mid k) = (mid_sound k (omega (arith, below))).stands.0 in
      record {
        j = j + k;
        phase = refl;
        verify = row.verify;
        is = sym (row.each k below);
        within = line_within_image t.entry (mid k) (first_line t.cmd + (j + k)) (first + k) refl at_line.line.found.super at_line.line.file (sym (row.each k below));
      }

  module _ (found wanted : List (List ℕ)) (count size : ℕ) (few : count ≤ n) (sized : size ≡ size_of t.entry)
      (whole : (k : ℕ) → k < count → length (line_in found k) ≡ 8)
      (lines : (k : ℕ) → k < count → line_in wanted k ≡ content_line (content_used t.cmd) size (j + k)) (holds : HoldsBytes (content_used t.cmd)) where
    -- what the task says of line k
    line_told : (k : ℕ) → k < count → (next : Task) (said : Turn) → next.kept ≡ t.kept
        → ((p : Phase) → Tells (file_turn t.cmd (record (mid k) { phase = p; words = line_in found k }) (j + k)) said next)
        → ComparesLine (line_no (first + k)) (eight (line_in found k)) (mid k) next said
    line_told k below next said kept tells =
        line_compared (line_no (first + k)) (eight (line_in found k)) (j + k) (mid k) (mid_sound k (omega (arith, below, few))) refl (here k (omega (arith, below, few)))
        (line_in found k) next said (sym (eight_whole (line_in found k) (whole k below))) tells kept

    -- it has the content's bytes: the task goes on behind it
    line_goes : (k : ℕ) → k < count → ((o : ℕ) → DiffersAt (line_in found k) (line_in wanted k) (64 * j + 64 * k) size o → ⊥)
        → ComparesLine (line_no (first + k)) (eight (line_in found k)) (mid k) (mid (suc k)) Go
    line_goes k below none_differs =
        let at_line : 64 * j + 64 * k ≡ 64 * (j + k) = omega arith in
        let up : j + k + 1 ≡ j + suc k = omega arith in
        let empty : [] ≡ t.words = sym (no_words t.words (stands.1 ∙ verify_kept t.cmd j row.verify)) in
        line_told k below (mid (suc k)) Go refl (λ p.
        let loaded : Task = record (mid k) { phase = p; words = line_in found k } in
        goes _ _ _
        (same_told loaded t.cmd (j + k) size (line_in found k) (line_in wanted k) row.verify refl sized (lines k below) holds
        (subst (λ (s : ℕ). (o : ℕ) → DiffersAt (line_in found k) (line_in wanted k) s size o → ⊥) at_line none_differs)
        ∙ next_line (record loaded { words = [] }) (j + k) (wanted_lines t.cmd (size_of t.entry)) (Ends (Same (length t.entries))) refl (omega (arith, below, few, row.more)))
        (ap₂ (λ (i : ℕ) (w : List ℕ). record t { phase = at.Drop File i; words = w }) (sym up) (sym empty)))

    -- so have all of some
    run_goes : (m : ℕ) → m ≤ count → HaveNone found wanted (64 * j) size m → (next : Task) → next ≡ mid m → ComparesRun first found t next m Go
    run_goes zero within none_differ next is =
        let none_more : j + 0 ≡ j = omega arith in
        let back : next ≡ t = is ∙ ap (λ (p : Phase). record t { phase = p }) (ap (at.Drop File) none_more ∙ sym row.phase) in
        subst (λ (u : Task). ComparesRun first found t u 0 Go) (sym back) none
    run_goes (suc m) within none_differ next is =
        subst (λ (u : Task). ComparesRun first found t u (suc m) Go) (sym is)
        (more (run_goes m (omega (arith, within)) (λ k below. none_differ k (omega (arith, below))) (mid m) refl) (mid_sound m (omega (arith, within, few)))
        (line_goes m (omega (arith, within)) (none_differ m (omega arith))))

    -- so have all: the task goes on
    pub run_went : (said : Turn) → said ≡ Go → HaveNone found wanted (64 * j) size count → (next : Task) → next ≡ mid count → ComparesRun first found t next count said
    run_went said goes_on none_differ next is = subst (ComparesRun first found t next count) (sym goes_on) (run_goes count (omega arith) none_differ next is)

    -- and then one differs: the task is done
    pub run_ends : (k o x y m : ℕ) → k < count → HaveNone found wanted (64 * j) size k → IsFirst (line_in found k) (line_in wanted k) (64 * j + 64 * k) size o x y
        → m ≡ length t.entries → (next : Task) (said : Turn) → next.kept ≡ t.kept → said ≡ Done (answer.Differs m o x y) → ComparesRun first found t next (k + 1) said
    run_ends k o x y m below none_differ differs entries next said kept gives =
        let at_line : 64 * j + 64 * k ≡ 64 * (j + k) = omega arith in
        let one_more : suc k ≡ k + 1 = omega arith in
        subst (λ (i : ℕ). ComparesRun first found t next i said) one_more
        (more (run_goes k (omega (arith, below)) none_differ (mid k) refl) (mid_sound k (omega (arith, below, few)))
        (line_told k below next said kept (λ p.
        differs_told (record (mid k) { phase = p; words = line_in found k }) t.cmd (j + k) size (line_in found k) (line_in wanted k) row.verify refl sized (lines k below) holds
        o x y m said next (subst (λ (s : ℕ). IsFirst (line_in found k) (line_in wanted k) s size o x y) at_line differs) entries gives)))

-- The line that a task drops next, by its phase.
pub number_is : (t : Task) (j line : ℕ) (part : Part) → t.phase ≡ at.Drop File j → t.phase ≡ at.Drop part line → j ≡ line
number_is t j line part first second = (let both : at.Drop File j ≡ at.Drop part line = sym first ∙ second in cc)

-- What a task holds before lines that are compared.
pub holds_row : (i : Inside) (t : Task) (first n : ℕ) → IsTask i → task_of i ≡ t → (row : IsComparedRow first n t)
    → (i.contents.content ≡ content_used t.cmd) × (i.contents.taken ≡ row.j)
holds_row i t first n task is row =
    let phase : i.phase ≡ at.Drop File row.j = ap (λ (u : Task). u.phase) is ∙ row.phase in
    let verify : IsVerify i.cmd = subst (λ (u : Task). IsVerify u.cmd) (sym is) row.verify in
    let held = verify_holds i.cmd i row.j verify (subst (λ (p : Phase). IsInvariantAt p i) phase task.held) in
    (held.0 ∙ ap (λ (u : Task). content_used u.cmd) is, held.1)
