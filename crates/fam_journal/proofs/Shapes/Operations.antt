-- Operations of a task on the machine add notes of its shape, and leave hosts that are what notes tell.
use Prim.Native.Nat.{zero, suc}
use Rattle.std.proofs.Common.{◌≡◌, ℕ, ◌+◌, ◌≤◌, inl, inr, Bool, true, false, List, [], ◌∷◌, ◌++◌, length, map, Option, Some, None, refl, ap, ap₂, sym, ◌∙◌, subst, arith, take, drop}
use Rattle.std.specs.Prelude.{slice_get, unwrap_or, is_some, option_map}
use Rattle.std.proofs.lemmas.List.{length-append}
use Rattle.std.proofs.lemmas.Option.{same_Some}
use Rattle.fam_base.specs.Image.{Image, line_at, with_line}
use Rattle.fam_base.proofs.ImageLemmas.{length-with_line}
use Rattle.fam_base.specs.declared.line.LineNo.{LineNo}
use Rattle.fam_machine.specs.declared.cell.Cell.{Cell}
use Rattle.fam_machine.specs.declared.cell.Cell.TheVariants.{Absent, Clean, Dirty}
use Rattle.fam_machine.specs.declared.op.Op.{Op}
use Rattle.fam_machine.specs.declared.op.Op.TheVariants.{Load, Store, WriteBack, Fence, Invalidate, Digest}
use Rattle.fam_machine.specs.Caches.{asked_lines, cell_at}
use Rattle.fam_machine.specs.HostMoves.{Move, move_failed}
use Rattle.fam_machine.specs.OneLine.{failed_send}
use Rattle.fam_machine.specs.Operations.{Breaking, first_not_sent, line_no, send_lines, Failure, Machine, failed, given, not_brought, operated, operated_all, torn_at, given_by}
use Rattle.fam_commands.specs.Keeping.{kept_after, kept_by, read_by}
use Rattle.fam_commands.specs.Kept.{IsKept, Kept}
use Rattle.fam_commands.specs.Stands.{StandsFor, note_of, task_after, turn_given, with_given}
use Rattle.fam_commands.specs.Task.{Task, op_of}
use Rattle.fam_commands.specs.Turns.{Turn, Goes, Marks, Finds, Writes, Ends}
use Rattle.fam_machine.proofs.FenceLemmas.{send_lines_length}
use Rattle.fam_machine.proofs.OneOperation.{operated_length, same_given}
use Rattle.fam_commands.proofs.Steps.Standing.{next_note, next_operation}
use Rattle.fam_commands.proofs.ReadTold.{kept_joins, kept_told}
use Rattle.fam_commands.specs.Appends.{HasWish}
use Rattle.fam_rules.specs.Reply as reply
use Rattle.fam_rules.specs.Reply.{Reply}
use Rattle.fam_base.specs.declared.cmd.Cmd.{Cmd}
use Rattle.fam_journal.specs.Calls.{DoesOperations, is_busy_host}
use Rattle.fam_journal.specs.Shapes.{AreShaped, EntryShape, HostShape, IsStateTask, IsTaskShape, Marked, Met, Named, OfRunning, OfTask, OperationsShape, Pairs, ReplyShape, CommandStage, StateShaped, StateTaskShaped, TaskShape, TaskNote, shapes_after, shapes_behind, keeps_behind, runs_shape, shown_shape, shown_keeping, shown_running, stage_of, with_stage}
use Rattle.fam_journal.specs.Machines as machine
use Rattle.fam_journal.specs.Machines.{Done, Fails, HostState, Machines, Operation, Outcome, Passes, TaskState, cut_task, host_done, host_keeps, machine_of, next_op, notes_of, op_done, operation, served, task_done, task_on, with_parts, with_machine}
use Rattle.fam_journal.specs.Members.{changed_at}
use Rattle.fam_journal.specs.View.{StandsAs}
use Rattle.fam_journal.specs.Notes as note
use Rattle.fam_journal.specs.Notes.{Note}
use Rattle.fam_journal.proofs.Faces.{face}
use Rattle.fam_journal.proofs.Shapes.Pairs.{pairs_at, pairs_changed, pairs_moved}
use Rattle.fam_journal.proofs.Shapes.Tasks.{IsNext, TurnShape, turn_shape}
use Rattle.fam_journal.proofs.Settled.TaskTurns.{next_stands}

-- An image keeps its length.

brought_length : (l : LineNo) (m : Machine) (c : Cell) (x : Failure) → not_brought l m c ≡ Some x → length x.left.image ≡ length m.image
brought_length l m Absent x is = ap (λ (z : Failure). length z.left.image) (sym (same_Some _ x is))
brought_length l m (Clean words) x is = absurd cc
brought_length l m (Dirty a words) x is = absurd cc

torn_length : (l : LineNo) (m : Machine) (o : Option (List ℕ)) (x : Failure) → option_map (torn_at l m) o ≡ Some x → length x.left.image ≡ length m.image
torn_length l m None x is = absurd cc
torn_length l m (Some words) x is = ap (λ (z : Failure). length z.left.image) (sym (same_Some (torn_at l m words) x is)) ∙ length-with_line m.image l.0 words

fence_length : (mask : ℕ) (lines : List ℕ) (m : Machine) (x : Failure) → first_not_sent mask lines m ≡ Some x → length x.left.image ≡ length m.image
fence_length mask [] m x is = absurd cc
fence_length mask (l ∷ lines) m x is = torn_length (line_no l) m (failed_send mask (line_at m.image l) (cell_at m.cache l)) x is

pub failed_length : (through : Breaking) (op : Op) (m : Machine) (x : Failure) → failed through op m ≡ Some x → length x.left.image ≡ length m.image
failed_length through (Load l k) m x is = brought_length l m (cell_at m.cache l.0) x is
failed_length through (Store l k value) m x is = brought_length l m (cell_at m.cache l.0) x is
failed_length through (WriteBack l) m x is = absurd cc
failed_length through Fence m x is = fence_length through.mask (drop through.sent (asked_lines m.cache))
    (send_lines (take through.sent (asked_lines m.cache)) m) x is ∙ send_lines_length (take through.sent (asked_lines m.cache)) m
failed_length through (Invalidate l) m x is = torn_length l m (failed_send through.mask (line_at m.image l.0) (cell_at m.cache l.0)) x is
failed_length through Digest m x is = absurd cc

pub all_length : (ops : List Op) (m : Machine) → length (operated_all ops m).image ≡ length m.image
all_length [] m = refl
all_length (op ∷ ops) m = all_length ops (operated op m) ∙ operated_length op m

sent_length : (line : ℕ) (image left : Image) (o : Option (List ℕ)) → option_map (λ words. with_line line words image) o ≡ Some left → length left ≡ length image
sent_length line image left None is = absurd cc
sent_length line image left (Some words) is = ap (λ (z : Image). length z) (sym (same_Some (with_line line words image) left is)) ∙ length-with_line image line words

pub move_length : (move : Move) (line through : ℕ) (m : Machine) (left : Image) → move_failed move line through m ≡ Some left → length left ≡ length m.image
move_length move line through m left is = sent_length line m.image left _ is

-- Hosts that are what notes tell.

pub shapes_both : (hosts : List HostShape) (a b : List Note) → shapes_behind hosts (a ++ b) ≡ shapes_behind (shapes_behind hosts a) b
shapes_both hosts [] b = refl
shapes_both hosts (n ∷ a) b = shapes_both (shapes_after hosts n) a b

-- whether a host keeps something behind a turn: where it did before, and where a mount has its reply
abbrev pub keeps_turned : Turn → Bool → Bool
keeps_turned (Ends given) keeps = keeps_behind (note.Replied given) keeps
keeps_turned e keeps = keeps

pub keeps_some : (z : Turn) (t : Task) (k : Option Kept) → is_some (kept_after z t k) ≡ keeps_turned z (is_some k)
keeps_some (Ends given) t k = by_reply given k
  where
    by_reply : (r : Reply) (o : Option Kept) → is_some (kept_by r (read_by t) o) ≡ keeps_behind (note.Replied r) (is_some o)
    by_reply (reply.Played m tree) None = refl
    by_reply (reply.Played m tree) (Some x) = refl
    by_reply (reply.Mounted m) o = refl
    by_reply other o = refl
keeps_some e t k = refl

pub shown_keeps : (b : Bool) → is_some (shown_keeping b) ≡ b
shown_keeps true = refl
shown_keeps false = refl

task_looks : (lines : ℕ) (me : List ℕ) (s : Option TaskState) (f : Option TaskShape) → StateTaskShaped lines me s f → is_some s ≡ is_some (shown_running f)
task_looks lines me None None is = refl
task_looks lines me None (Some f) is = absurd is
task_looks lines me (Some s) None is = absurd is
task_looks lines me (Some s) (Some f) is = refl

task_runs : (lines : ℕ) (me : List ℕ) (s : Option TaskState) (f : Option TaskShape) → StateTaskShaped lines me s f → is_some s ≡ is_some f
task_runs lines me None None is = refl
task_runs lines me None (Some f) is = absurd is
task_runs lines me (Some s) None is = absurd is
task_runs lines me (Some s) (Some f) is = refl

face_looks : (lines : ℕ) (x : HostState) (y : HostShape) → StateShaped lines x y → face x ≡ face (shown_shape y)
face_looks lines x y is = let busy = task_looks lines x.uuid x.task y.task is.task in let keeps = shown_keeps y.keeps in cc

pub all_look : (lines : ℕ) (xs : List HostState) (ys : List HostShape) → Pairs (StateShaped lines) xs ys → map face xs ≡ map face (map shown_shape ys)
all_look lines [] [] all = refl
all_look lines [] (y ∷ ys) all = absurd all
all_look lines (x ∷ xs) [] all = absurd all
all_look lines (x ∷ xs) (y ∷ ys) all = ap₂ (λ f fs. f ∷ fs) (face_looks lines x y all.0) (all_look lines xs ys all.1)

pub runs_same : (lines h : ℕ) (xs : List HostState) (ys : List HostShape) → Pairs (StateShaped lines) xs ys → is_busy_host (slice_get xs h) ≡ runs_shape (slice_get ys h)
runs_same lines h [] [] all = refl
runs_same lines h [] (y ∷ ys) all = absurd all
runs_same lines h (x ∷ xs) [] all = absurd all
runs_same lines zero (x ∷ xs) (y ∷ ys) all = task_runs lines x.uuid x.task y.task all.0.task
runs_same lines (suc h) (x ∷ xs) (y ∷ ys) all = runs_same lines h xs ys all.1

-- notes of operations, and the machine behind them
pub record Operated (lines h count : ℕ) (hosts : List HostShape) (notes : List Note) (new : Machines) : Type 0 where
  pub shape : OperationsShape h hosts notes
  pub within : length notes ≤ count
  pub next : AreShaped lines new (shapes_behind hosts notes)

module _ (lines : ℕ) (m : Machines) (hosts : List HostShape) (shaped : AreShaped lines m hosts) (h : ℕ) (host : HostState)
    (host_is : slice_get m.hosts h ≡ Some host) (f : HostShape) (f_is : slice_get hosts h ≡ Some f) (is : StateShaped lines host f) where
  -- one host changes
  pub shape_changed : (x : Machine) (task : Option TaskState) (kept : Option Kept) (k : HostShape → HostShape) → length x.image ≡ length m.memory
      → StateShaped lines (record host { cache = x.cache; task = task; kept = kept }) (k f)
      → AreShaped lines (with_parts h x task kept m) (changed_at h k hosts)
  shape_changed x task kept k same here = record {
    lines_are = same ∙ shaped.lines_are;
    shaped = pairs_changed (StateShaped lines) m.hosts hosts h host f (λ z. record z { cache = x.cache; task = task; kept = kept }) k shaped.shaped host_is f_is here;
  }

  pub shape_went : (x : Machine) (task : Option TaskState) (kept : Option Kept) → length x.image ≡ length m.memory
      → StateShaped lines (record host { cache = x.cache; task = task; kept = kept }) f → AreShaped lines (with_parts h x task kept m) hosts
  shape_went x task kept same here = record {
    lines_are = same ∙ shaped.lines_are;
    shaped = pairs_moved (StateShaped lines) m.hosts hosts h host f (λ z. record z { cache = x.cache; task = task; kept = kept }) shaped.shaped host_is f_is here;
  }

  pub shape_moved : (x : Machine) (task : Option TaskState) → length x.image ≡ length m.memory
      → StateShaped lines (record host { cache = x.cache; task = task }) f → AreShaped lines (with_machine h x task m) hosts
  shape_moved x task same here = record {
    lines_are = same ∙ shaped.lines_are;
    shaped = pairs_moved (StateShaped lines) m.hosts hosts h host f (λ z. record z { cache = x.cache; task = task }) shaped.shaped host_is f_is here;
  }

  -- its task was cut
  pub shape_ended : (x : Machine) → length x.image ≡ length m.memory → AreShaped lines (with_machine h x None m) (changed_at h (λ z. record z { task = None }) hosts)
  shape_ended x same = record {
    lines_are = same ∙ shaped.lines_are;
    shaped = pairs_changed (StateShaped lines) m.hosts hosts h host f (λ z. record z { cache = x.cache; task = None }) (λ z. record z { task = None }) shaped.shaped host_is f_is
        record { name = is.name; uuid = is.uuid; task = tt; keeps = is.keeps; joined = is.joined };
  }

  -- it halted
  pub shape_halted : (x : Machine) → length x.image ≡ length m.memory → AreShaped lines (with_parts h x None None m) (changed_at h (λ z. record z { task = None; keeps = false }) hosts)
  shape_halted x same = shape_changed x None None (λ z. record z { task = None; keeps = false }) same record { name = is.name; uuid = is.uuid; task = tt; keeps = refl; joined = tt }

  module _ (s : TaskState) (s_is : host.task ≡ Some s) (g : TaskShape) (g_is : f.task ≡ Some g) (t : Task) (stands : StandsAs lines s t) (where_it_is : IsTaskShape host.uuid t g) where
    running : (note : Note) → TaskNote h f.uuid g note → OfRunning (slice_get hosts h) (λ me t. TaskNote h me t note)
    running note p =
        subst (λ (o : Option HostShape). OfRunning o (λ me t. TaskNote h me t note)) (sym f_is)
        (subst (λ (o : Option TaskShape). OfTask o (λ t. TaskNote h f.uuid t note)) (sym g_is) p)

    me_is : t.me ≡ f.uuid
    me_is = where_it_is.me_is ∙ sym is.uuid

    reply_shape : (given : Reply) → ReplyShape t.me t.cmd (stage_of t) given → ReplyShape f.uuid g.cmd g.stage given
    reply_shape given shape =
        subst (λ (me : List ℕ). ReplyShape me g.cmd g.stage given) me_is
        (subst (λ (c : Cmd). ReplyShape t.me c g.stage given) (sym where_it_is.cmd)
        (subst (λ (at : CommandStage). ReplyShape t.me t.cmd at given) (sym where_it_is.stage) shape))

    module _ (word : ℕ) (got : Option ℕ) (got_is : given_by (op_of t) word ≡ got) (x : Machine) (same : length x.image ≡ length m.memory) where
      abbrev keeps : Turn → Option Kept
      keeps z = kept_after z t host.kept

      keeps_told : (z : Turn) → keeps_turned z f.keeps ≡ is_some (keeps z)
      keeps_told z = ap (keeps_turned z) is.keeps ∙ sym (keeps_some z t host.kept)

      keeps_joined : (z : Turn) → turn_given t word ≡ z → IsKept (keeps z)
      keeps_joined z e = subst (λ (y : Turn). IsKept (keeps y)) e (kept_joins s.kept s.cmd s.me lines t s.words s.made stands.joined stands.stands word host.kept is.joined)

      goes_on : (z : Turn) (n : Task) (stage : CommandStage) → turn_given t word ≡ z → task_after z ≡ Some n → IsNext t.me t.cmd stage n
          → IsStateTask lines host.uuid (task_on s got) (record { cmd = g.cmd; stage = stage })
      goes_on z n stage e goes next = record {
        task = n;
        stands = record {
          joined = stands.joined;
          stands = subst (λ (o : Option ℕ). StandsFor s.kept s.cmd s.me lines n (with_given s.words o) (s.made + 1)) got_is
              (next_stands s.kept s.cmd s.me lines t s.words s.made word stands.joined stands.stands (turn_given t word) refl n (ap task_after e ∙ goes));
        };
        is = record { cmd = where_it_is.cmd ∙ sym next.cmd_is; me_is = next.me_is ∙ where_it_is.me_is; stage = sym next.stage_is };
      }

      staged : (z : Turn) (n : Task) (stage : CommandStage) → turn_given t word ≡ z → task_after z ≡ Some n → IsNext t.me t.cmd stage n
          → f.keeps ≡ is_some (keeps z) → AreShaped lines (with_parts h x (Some (task_on s got)) (keeps z) m) (changed_at h (with_stage stage) hosts)
      staged z n stage e goes next told =
          shape_changed x (Some (task_on s got)) (keeps z) (with_stage stage) same
          record {
            name = is.name;
            uuid = is.uuid;
            task = subst (λ (o : Option TaskShape). StateTaskShaped lines host.uuid (Some (task_on s got))
                (option_map (λ (y : TaskShape). record y { stage = stage }) o)) (sym g_is) (goes_on z n stage e goes next);
            keeps = told;
            joined = keeps_joined z e;
          }

      turned : (z : Turn) → turn_given t word ≡ z → TurnShape t.me t.cmd (stage_of t) z
          → Operated lines h 1 hosts (notes_of h (note_of z)) (with_parts h x (machine.task_behind (note_of z) (task_on s got)) (keeps z) m)
      turned (Goes n) e next = record {
        shape = tt;
        within = omega arith;
        next = shape_went x (Some (task_on s got)) (keeps (Goes n)) same
            record {
              name = is.name;
              uuid = is.uuid;
              task = subst (λ (o : Option TaskShape). StateTaskShaped lines host.uuid (Some (task_on s got)) o)
                  (sym (g_is ∙ ap (λ (at : CommandStage). Some (record { cmd = g.cmd; stage = at })) where_it_is.stage))
                  (goes_on (Goes n) n (stage_of t) e refl next);
              keeps = keeps_told (Goes n);
              joined = keeps_joined (Goes n) e;
            };
      }
      turned (Marks n) e next = record {
        shape = (running (note.Mark h) (refl, where_it_is.stage ∙ next.0), tt);
        within = omega arith;
        next = staged (Marks n) n Marked e refl next.1 (keeps_told (Marks n));
      }
      turned (Finds k n) e next = record {
        shape = (running (note.Found h k) (refl, subst HasWish (sym where_it_is.cmd) next.0, where_it_is.stage ∙ next.1), tt);
        within = omega arith;
        next = staged (Finds k n) n (Met k) e refl next.2 (keeps_told (Finds k n));
      }
      turned (Writes seq entry n) e next = record {
        shape = (running (note.Writes h seq entry) (refl, subst (λ (c : Cmd). EntryShape c entry) (sym where_it_is.cmd) next.0, where_it_is.stage ∙ next.1), tt);
        within = omega arith;
        next = staged (Writes seq entry n) n (Named seq) e refl next.2 (keeps_told (Writes seq entry n));
      }
      turned (Ends given) e next = record {
        shape = (running (note.Answered h (note.Replied given)) (refl, reply_shape given next), tt);
        within = omega arith;
        next = shape_changed x None (keeps (Ends given)) (λ z. record z { task = None; keeps = keeps_behind (note.Replied given) z.keeps }) same
            record { name = is.name; uuid = is.uuid; task = tt; keeps = keeps_told (Ends given); joined = keeps_joined (Ends given) e };
      }

    abbrev own : Machine
    own = machine_of m host

    abbrev word : ℕ
    word = unwrap_or (given (op_of t) own) 0

    op_is : next_op s (length m.memory) ≡ Some (op_of t)
    op_is = ap (next_op s) shaped.lines_are ∙ next_operation s.kept s.cmd s.me lines t s.words s.made stands.joined stands.stands

    note_is : machine.next_note s (length m.memory) (given (op_of t) own) ≡ Some (note_of (turn_given t word))
    note_is =
        ap (λ (n : ℕ). machine.next_note s n (given (op_of t) own)) shaped.lines_are
        ∙ ap (machine.next_note s lines) (sym (same_given (op_of t) own))
        ∙ next_note s.kept s.cmd s.me lines t s.words s.made stands.joined stands.stands word

    -- what the host keeps is told by the words
    keeps_is : host_keeps (note_of (turn_given t word)) (task_on s (given (op_of t) own)) (length m.memory) host.kept ≡ kept_after (turn_given t word) t host.kept
    keeps_is =
        ap (λ (n : ℕ). host_keeps (note_of (turn_given t word)) (task_on s (given (op_of t) own)) n host.kept) shaped.lines_are
        ∙ ap (λ (o : Option ℕ). host_keeps (note_of (turn_given t word)) (task_on s o) lines host.kept) (sym (same_given (op_of t) own))
        ∙ kept_told s.kept s.cmd s.me lines t s.words s.made stands.joined stands.stands word host.kept

    served_shape : (d : Done) → served h m host s (op_of t) (Some (note_of (turn_given t word))) ≡ Some d → Operated lines h 1 hosts d.notes d.left
    served_shape d done =
        subst (λ (z : Done). Operated lines h 1 hosts z.notes z.left)
        (ap (λ (k : Option Kept). record {
          notes = notes_of h (note_of (turn_given t word));
          left = with_parts h (operated (op_of t) own)
              (machine.task_behind (note_of (turn_given t word)) (task_on s (given (op_of t) own))) k m;
        }) (sym keeps_is) ∙ same_Some _ d done)
        (turned word (given (op_of t) own) (same_given (op_of t) own) (operated (op_of t) own) (operated_length (op_of t) own) (turn_given t word) refl (turn_shape t word))

    cut_shape : (o : Option Failure) → ((x : Failure) → o ≡ Some x → length x.left.image ≡ length m.memory) → (d : Done) → cut_task h m o ≡ Some d → Operated lines h 1 hosts d.notes d.left
    cut_shape None same d done = absurd cc
    cut_shape (Some x) same d done =
        subst (λ (z : Done). Operated lines h 1 hosts z.notes z.left) (same_Some _ d done)
        record {
          shape = (running (note.Answered h (note.MediaFault x.line.0)) (refl, tt), tt);
          within = omega arith;
          next = shape_ended x.left (same x refl);
        }

    op_shape : (outcome : Outcome) (d : Done) → op_done outcome h m host s (Some (op_of t)) ≡ Some d → Operated lines h 1 hosts d.notes d.left
    op_shape Passes d done = served_shape d (subst (λ (o : Option _). served h m host s (op_of t) o ≡ Some d) note_is done)
    op_shape (Fails through) d done = cut_shape (failed through (op_of t) own) (λ x e. failed_length through (op_of t) own x e) d done

    pub task_shape : (outcome : Outcome) (d : Done) → task_done outcome h m host (Some s) ≡ Some d → Operated lines h 1 hosts d.notes d.left
    task_shape outcome d done = op_shape outcome d (subst (λ (o : Option Op). op_done outcome h m host s o ≡ Some d) op_is done)

  -- by the host's task
  by_task : (outcome : Outcome) (d : Done) (o : Option TaskState) → host.task ≡ o → (p : Option TaskShape) → f.task ≡ p
      → StateTaskShaped lines host.uuid o p → task_done outcome h m host o ≡ Some d → Operated lines h 1 hosts d.notes d.left
  by_task outcome d None e p e2 at done = absurd cc
  by_task outcome d (Some s) e None e2 at done = absurd at
  by_task outcome d (Some s) e (Some g) e2 at done = task_shape s e g e2 at.task at.stands at.is outcome d done

-- notes of operations behind others
pub operations_both : (h : ℕ) (hosts : List HostShape) (notes more : List Note) → OperationsShape h hosts notes
    → OperationsShape h (shapes_behind hosts notes) more → OperationsShape h hosts (notes ++ more)
operations_both h hosts [] more first rest = rest
operations_both h hosts (note ∷ notes) more first rest = (first.0, operations_both h (shapes_after hosts note) notes more first.1 rest)

module _ (lines h : ℕ) where
  pub operation_shape : (m : Machines) (hosts : List HostShape) → AreShaped lines m hosts → (notes : List Note) (new : Machines) → Operation h m notes new → Operated lines h 1 hosts notes new
  unfolding operation
  operation_shape m hosts shaped notes new op = by_host (slice_get m.hosts h) refl op.is
    where
      by_host : (o : Option HostState) → slice_get m.hosts h ≡ o → host_done op.outcome h m o ≡ Some (record { notes = notes; left = new }) → Operated lines h 1 hosts notes new
      by_host None e done = absurd cc
      by_host (Some host) e done =
          let p = pairs_at (StateShaped lines) m.hosts hosts h host shaped.shaped e in
          by_task lines m hosts shaped h host e p.0 p.1 p.2 op.outcome (record { notes = notes; left = new }) host.task refl p.0.task refl p.2.task done

  quiet_shape : (m : Machines) (hosts : List HostShape) (count : ℕ) → AreShaped lines m hosts → (notes : List Note) (new : Machines) → notes ≡ [] → new ≡ m → Operated lines h count hosts notes new
  quiet_shape m hosts count shaped notes new e same =
      subst (λ (z : List Note). Operated lines h count hosts z new) (sym e)
      record { shape = tt; within = omega arith; next = subst (λ (z : Machines). AreShaped lines z hosts) (sym same) shaped }

  pub operates_shape : (count : ℕ) (m : Machines) (hosts : List HostShape) → AreShaped lines m hosts → (notes : List Note) (new : Machines)
      → DoesOperations h count m notes new → Operated lines h count hosts notes new
  operates_shape zero m hosts shaped notes new o = quiet_shape m hosts 0 shaped notes new o.0 o.1
  operates_shape (suc count) m hosts shaped notes new (inl o) = quiet_shape m hosts (suc count) shaped notes new o.1 o.2
  operates_shape (suc count) m hosts shaped notes new (inr o) =
      let first = operation_shape m hosts shaped o.2 o.1 o.4 in
      let rest = operates_shape count o.1 (shapes_behind hosts o.2) first.next o.3 new o.5 in
      let one = first.within in
      let more = rest.within in
      subst (λ (z : List Note). Operated lines h (suc count) hosts z new) (sym o.6)
      record {
        shape = operations_both h hosts o.2 o.3 first.shape rest.shape;
        within = omega (arith, one, more, length-append o.2 o.3);
        next = subst (λ (z : List HostShape). AreShaped lines new z) (sym (shapes_both hosts o.2 o.3)) rest.next;
      }
