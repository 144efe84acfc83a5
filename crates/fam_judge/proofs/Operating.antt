-- Operations of a host's task on the machine add notes that stand at their places, and begin no command.
use Prim.Native.Nat.{zero, suc}
use Rattle.std.proofs.Common.{◌≡◌, ℕ, inl, inr, List, [], ◌∷◌, ◌++◌, length, Option, Some, None, refl, ap, sym, ◌∙◌, subst}
use Rattle.std.specs.Prelude.{⊤, slice_get, unwrap_or}
use Rattle.std.proofs.lemmas.Option.{same_Some}
use Rattle.fam_base.specs.declared.cmd.Cmd.{Cmd}
use Rattle.fam_commands.proofs.Steps.Standing.{next_note, next_operation}
use Rattle.fam_commands.specs.Stands.{note_of, turn_given}
use Rattle.fam_commands.specs.Task.{Task, op_of}
use Rattle.fam_commands.specs.Turns.{Turn, Goes, Marks, Finds, Writes, Ends}
use Rattle.fam_machine.proofs.OneOperation.{same_given}
use Rattle.fam_machine.specs.declared.op.Op.{Op}
use Rattle.fam_machine.specs.Operations.{Failure, Machine, failed, given}
use Rattle.fam_rules.specs.Reply.{Reply}
use Rattle.fam_journal.proofs.Shapes.Operations.{operation_shape}
use Rattle.fam_journal.proofs.Shapes.Pairs.{pairs_at}
use Rattle.fam_journal.specs.Calls.{DoesOperations}
use Rattle.fam_journal.specs.Machines as machine
use Rattle.fam_journal.specs.Machines.{Done, Fails, HostState, Machines, Operation, Outcome, Passes, TaskState, cut_task, host_done, machine_of, next_op, notes_of, op_done, operation, served, task_done}
use Rattle.fam_journal.specs.Notes as note
use Rattle.fam_journal.specs.Notes.{Answer, Note}
use Rattle.fam_journal.specs.Shapes.{AreShaped, CommandStage, HostShape, IsTaskShape, OfRunning, OfTask, StateShaped, StateTaskShaped, TaskShape, shapes_after, shapes_behind, stage_of}
use Rattle.fam_journal.specs.View.{StandsAs}
use Rattle.fam_judge.specs.Formed.{AnswerPlace, HasPlace, HavePlaces, ReplyPlace}
use Rattle.fam_judge.proofs.Placing.{TurnPlace, standing_place}

-- Notes that stand at their places, and commands that begin of which this holds.

-- this holds of the command that a note begins, if it begins one
abbrev pub StartsAs : (Cmd → Type 0) → Note → Type 0
StartsAs S (note.Host name uuid) = ⊤
StartsAs S (note.Made h p) = ⊤
StartsAs S (note.Cut h k) = ⊤
StartsAs S (note.Start h cmd) = S cmd
StartsAs S (note.Mark h) = ⊤
StartsAs S (note.Found h n) = ⊤
StartsAs S (note.Writes h seq entry) = ⊤
StartsAs S (note.Answered h answer) = ⊤
StartsAs S (note.Stop h) = ⊤
StartsAs S (note.Halt h) = ⊤
StartsAs S (note.Umount h) = ⊤
StartsAs S (note.Refused name why) = ⊤

-- so of each of these notes
abbrev pub AllStartAs : (Cmd → Type 0) → List Note → Type 0
AllStartAs S [] = ⊤
AllStartAs S (note ∷ notes) = StartsAs S note × AllStartAs S notes

-- answers stand at their places, and this holds of the commands that begin
abbrev pub AreFit : (Cmd → Type 0) → List HostShape → List Note → Type 0
AreFit S hosts notes = HavePlaces hosts notes × AllStartAs S notes

places_both : (hosts : List HostShape) (a b : List Note) → HavePlaces hosts a → HavePlaces (shapes_behind hosts a) b → HavePlaces hosts (a ++ b)
places_both hosts [] b first rest = rest
places_both hosts (note ∷ a) b first rest = (first.0, places_both (shapes_after hosts note) a b first.1 rest)

starts_both : (S : Cmd → Type 0) (a b : List Note) → AllStartAs S a → AllStartAs S b → AllStartAs S (a ++ b)
starts_both S [] b first rest = rest
starts_both S (note ∷ a) b first rest = (first.0, starts_both S a b first.1 rest)

-- notes behind others
pub fit_both : (S : Cmd → Type 0) (hosts : List HostShape) (a b : List Note) → AreFit S hosts a → AreFit S (shapes_behind hosts a) b → AreFit S hosts (a ++ b)
fit_both S hosts a b first rest = (places_both hosts a b first.0 rest.0, starts_both S a b first.1 rest.1)

-- One operation.

module _ (S : Cmd → Type 0) (lines h : ℕ) (m : Machines) (hosts : List HostShape) (shaped : AreShaped lines m hosts) (host : HostState) (f : HostShape)
    (f_is : slice_get hosts h ≡ Some f) where
  module _ (s : TaskState) (g : TaskShape) (g_is : f.task ≡ Some g) (t : Task) (stands : StandsAs lines s t) (is : IsTaskShape host.uuid t g) where
    answers : (answer : Answer) → AnswerPlace g.cmd g.stage answer → HasPlace hosts (note.Answered h answer)
    answers answer here =
        subst (λ (o : Option HostShape). OfRunning o (λ me t. AnswerPlace t.cmd t.stage answer)) (sym f_is)
        (subst (λ (o : Option TaskShape). OfTask o (λ t. AnswerPlace t.cmd t.stage answer)) (sym g_is) here)

    replies : (given : Reply) → ReplyPlace t.cmd (stage_of t) given → ReplyPlace g.cmd g.stage given
    replies given here =
        subst (λ (c : Cmd). ReplyPlace c g.stage given) (sym is.cmd)
        (subst (λ (at : CommandStage). ReplyPlace t.cmd at given) (sym is.stage) here)

    noted : (z : Turn) → TurnPlace t.cmd (stage_of t) z → AreFit S hosts (notes_of h (note_of z))
    noted (Goes n) here = (tt, tt)
    noted (Marks n) here = ((tt, tt), (tt, tt))
    noted (Finds k n) here = ((tt, tt), (tt, tt))
    noted (Writes seq e n) here = ((tt, tt), (tt, tt))
    noted (Ends given) here = ((answers (note.Replied given) (replies given here), tt), (tt, tt))

    -- memory, and the host's cache
    abbrev own : Machine
    own = machine_of m host

    -- the word that the operation gives, if it gives one
    abbrev word : ℕ
    word = unwrap_or (given (op_of t) own) 0

    op_is : next_op s (length m.memory) ≡ Some (op_of t)
    op_is = ap (next_op s) shaped.lines_are ∙ next_operation s.kept s.cmd s.me lines t s.words s.made stands.joined stands.stands

    note_is : machine.next_note s (length m.memory) (given (op_of t) own) ≡ Some (note_of (turn_given t word))
    note_is =
        ap (λ (n : ℕ). machine.next_note s n (given (op_of t) own)) shaped.lines_are
        ∙ ap (machine.next_note s lines) (sym (same_given (op_of t) own))
        ∙ next_note s.kept s.cmd s.me lines t s.words s.made stands.joined stands.stands word

    served_fit : (d : Done) → served h m host s (op_of t) (Some (note_of (turn_given t word))) ≡ Some d → AreFit S hosts d.notes
    served_fit d done =
        subst (λ (z : Done). AreFit S hosts z.notes) (same_Some _ d done)
        (noted (turn_given t word) (standing_place s.kept s.cmd s.me lines t s.words s.made stands.joined stands.stands word))

    -- the media may fail at any stage
    cut_fit : (o : Option Failure) (d : Done) → cut_task h m o ≡ Some d → AreFit S hosts d.notes
    cut_fit None d done = absurd cc
    cut_fit (Some x) d done = subst (λ (z : Done). AreFit S hosts z.notes) (same_Some _ d done) ((answers (note.MediaFault x.line.0) tt, tt), (tt, tt))

    op_fit : (outcome : Outcome) (d : Done) → op_done outcome h m host s (Some (op_of t)) ≡ Some d → AreFit S hosts d.notes
    op_fit Passes d done = served_fit d (subst (λ (o : Option _). served h m host s (op_of t) o ≡ Some d) note_is done)
    op_fit (Fails through) d done = cut_fit (failed through (op_of t) own) d done

    task_fit : (outcome : Outcome) (d : Done) → task_done outcome h m host (Some s) ≡ Some d → AreFit S hosts d.notes
    task_fit outcome d done = op_fit outcome d (subst (λ (o : Option Op). op_done outcome h m host s o ≡ Some d) op_is done)

  -- by the host's task
  by_task : (outcome : Outcome) (d : Done) (o : Option TaskState) (p : Option TaskShape) → f.task ≡ p → StateTaskShaped lines host.uuid o p
      → task_done outcome h m host o ≡ Some d → AreFit S hosts d.notes
  by_task outcome d None p e at done = absurd cc
  by_task outcome d (Some s) None e at done = absurd at
  by_task outcome d (Some s) (Some g) e at done = task_fit s g e at.task at.stands at.is outcome d done

module _ (S : Cmd → Type 0) (lines h : ℕ) where
  -- one operation, however it comes out
  pub operation_fit : (m : Machines) (hosts : List HostShape) → AreShaped lines m hosts → (notes : List Note) (new : Machines) → Operation h m notes new → AreFit S hosts notes
  unfolding operation
  operation_fit m hosts shaped notes new op = by_host (slice_get m.hosts h) refl op.is
    where
      by_host : (o : Option HostState) → slice_get m.hosts h ≡ o → host_done op.outcome h m o ≡ Some (record { notes = notes; left = new }) → AreFit S hosts notes
      by_host None e done = absurd cc
      by_host (Some host) e done =
          let p = pairs_at (StateShaped lines) m.hosts hosts h host shaped.shaped e in
          by_task S lines h m hosts shaped host p.0 p.1 op.outcome (record { notes = notes; left = new }) host.task p.0.task refl p.2.task done

  -- so many operations, or fewer
  pub operates_fit : (count : ℕ) (m : Machines) (hosts : List HostShape) → AreShaped lines m hosts → (notes : List Note) (new : Machines)
      → DoesOperations h count m notes new → AreFit S hosts notes
  operates_fit zero m hosts shaped notes new o = subst (AreFit S hosts) (sym o.0) (tt, tt)
  operates_fit (suc count) m hosts shaped notes new (inl o) = subst (AreFit S hosts) (sym o.1) (tt, tt)
  operates_fit (suc count) m hosts shaped notes new (inr o) =
      subst (AreFit S hosts) (sym o.6)
      (fit_both S hosts o.2 o.3 (operation_fit m hosts shaped o.2 o.1 o.4)
      (operates_fit count o.1 (shapes_behind hosts o.2) (operation_shape lines h m hosts shaped o.2 o.1 o.4).next o.3 new o.5))
