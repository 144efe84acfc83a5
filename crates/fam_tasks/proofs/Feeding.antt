-- What is told of a task's turn, by its phase.
use Rattle.std.proofs.Common.{ℕ, ◌≡◌, Bool, true, false, Option, None, Some, Result, Ok, Err, unwrap_or, refl, sym, ap, subst, ◌∙◌}
use Rattle.std.specs.Prelude.{IfOk, OnErr}
use Rattle.fam_base.specs.declared.line.LineNo.{LineNo}
use Rattle.fam_format.specs.Slot.{entry_of}
use Rattle.fam_format.specs.declared.faults.Reason.{Reason}
use Rattle.fam_rules.specs.Reply.{Reply}
use Rattle.fam_commands.specs.Classes.{Class, class_of, surveys, is_fsck, Replays, Appends, Compares, Reads, Surveys}
use Rattle.fam_commands.specs.Task.{Task}
use Rattle.fam_commands.specs.Turns as turns
use Rattle.fam_commands.specs.Turns.{check_turn_in, slot_turn, survey_turn, turn_at, turn_of}
use Rattle.fam_commands.specs.declared.phase.Phase.{Phase}
use Rattle.fam_commands.specs.declared.phase.Phase.TheVariants as at
use Rattle.fam_tasks.specs.declared.answer.Answer.{Answer}
use Rattle.fam_tasks.specs.declared.answer.Answer.TheVariants.{MediaFault}
use Rattle.fam_tasks.specs.declared.answer.Turn.{Turn}
use Rattle.fam_tasks.specs.declared.answer.Turn.TheVariants.{Go, Note, Done}
use Rattle.fam_tasks.specs.Answers.{reply_of}
use Rattle.fam_tasks.specs.Tells.{Keeps, Tells, WantsMemory, slot_turn_by}
use Rattle.fam_tasks.proofs.Keeping.{keeps_same}

-- the turn is that of the phase
phase_turn : (t : Task) (word : Option ℕ) (p : Phase) → t.phase ≡ p → turn_of t word ≡ turn_at p t (unwrap_or word 0)
phase_turn t word p is = ap (λ (q : Phase). turn_at q t (unwrap_or word 0)) is

-- so what is told of that turn is told of this one
pub fed_told : (t new : Task) (word : Option ℕ) (p : Phase) (said : Turn) (w : ℕ) → t.phase ≡ p → w ≡ unwrap_or word 0 → Tells (turn_at p t w) said new → Tells (turn_of t word) said new
fed_told t new word p said w is same tells =
    subst (λ (x : turns.Turn). Tells x said new) (sym (phase_turn t word p is)) (subst (λ (v : ℕ). Tells (turn_at p t v) said new) same tells)

-- a turn that no word changes
pub alike_told : (t new : Task) (word : Option ℕ) (p : Phase) (said : Turn) → t.phase ≡ p → ((w : ℕ) → turn_at p t w ≡ turn_at p t 0)
    → Tells (turn_of t None) said new → Tells (turn_of t word) said new
alike_told t new word p said is alike =
    subst (λ (x : turns.Turn). Tells x said new) (phase_turn t None p is ∙ sym (alike (unwrap_or word 0)) ∙ sym (phase_turn t word p is))

-- a task that goes on to another phase keeps what it kept
pub goes_kept : (t new : Task) (p q : Phase) (said : Turn) → t.phase ≡ p → turn_at p t 0 ≡ turns.Goes (record t { phase = q }) → Tells (turn_of t None) said new → new.kept ≡ t.kept
goes_kept t new p q said is goes tells =
    let gone : Tells (turns.Goes (record t { phase = q })) said new = subst (λ (x : turns.Turn). Tells x said new) (phase_turn t None p is ∙ goes) tells in
    ap (λ (u : Task). u.kept) gone.1

-- A task never says itself that the media failed.

no_fault : (answer : Answer) (line : LineNo) (reply : Reply) → reply_of answer ≡ Some reply → answer ≡ MediaFault line → ⊥
no_fault answer line reply told is =
    let none : reply_of answer ≡ None = ap reply_of is in
    cc

pub told_own : (turn : turns.Turn) (said : Turn) (new : Task) (line : LineNo) → Tells turn said new → said ≡ Done (MediaFault line) → ⊥
told_own (turns.Goes next) said new line tells is = let e : said ≡ Go = tells.0 in cc
told_own (turns.Marks next) said new line tells is = let e = tells.0 in cc
told_own (turns.Finds n next) said new line tells is = let e = tells.0 in cc
told_own (turns.Writes seq entry next) said new line tells is = let e = tells.0 in cc
told_own (turns.Ends reply) Go new line tells is = absurd tells
told_own (turns.Ends reply) (Note note) new line tells is = absurd tells
told_own (turns.Ends reply) (Done answer) new line tells is = no_fault answer line reply tells cc

-- The words of a slot are looked at.

surveyed_in : (k : Class) (t : Task) (i : ℕ) → surveys k ≡ true → check_turn_in k t i ≡ survey_turn t i
surveyed_in Surveys t i is = refl
surveyed_in Replays t i is = absurd cc
surveyed_in Appends t i is = absurd cc
surveyed_in (Compares path against) t i is = absurd cc
surveyed_in (Reads path offset count) t i is = absurd cc

replayed_in : (k : Class) (t : Task) (i : ℕ) → surveys k ≡ false → check_turn_in k t i ≡ slot_turn t i (entry_of t.params t.words i)
replayed_in Surveys t i is = absurd cc
replayed_in Replays t i is = refl
replayed_in Appends t i is = refl
replayed_in (Compares path against) t i is = refl
replayed_in (Reads path offset count) t i is = refl

-- of a check of the whole file system the turn is that of the survey
pub survey_checked : (t : Task) (i : ℕ) → t.phase ≡ at.Check i → is_fsck t.cmd ≡ true → turn_of t None ≡ survey_turn t i
survey_checked t i is fsck = phase_turn t None (at.Check i) is ∙ surveyed_in (class_of t.cmd) t i fsck

-- and of another command that of the entry
pub slot_checked : (t : Task) (i : ℕ) → t.phase ≡ at.Check i → is_fsck t.cmd ≡ false → turn_of t None ≡ slot_turn t i (entry_of t.params t.words i)
slot_checked t i is other = phase_turn t None (at.Check i) is ∙ replayed_in (class_of t.cmd) t i other

pub check_told : {E : Type 0} (r : Result (Option Reason) E) (t new : Task) (i : ℕ) (turn : turns.Turn) → turn_of t None ≡ turn
    → IfOk r (λ reason. Tells turn (slot_turn_by i reason) new) → IfOk r (λ reason. Tells (turn_of t None) (slot_turn_by i reason) new)
check_told r t new i turn is = subst (λ (x : turns.Turn). IfOk r (λ reason. Tells x (slot_turn_by i reason) new)) (sym is)

pub check_wants : {T E : Type 0} (r : Result T E) (t : Task) (turn : turns.Turn) → turn_of t None ≡ turn → OnErr r (WantsMemory t turn) → OnErr r (WantsMemory t (turn_of t None))
check_wants r t turn is = subst (λ (x : turns.Turn). OnErr r (WantsMemory t x)) (sym is)

other_phase : (i : ℕ) → at.Check i ≡ at.Decide → ⊥
other_phase i is = cc

-- and the other way
pub checked_keeps : (t new : Task) (i : ℕ) → t.phase ≡ at.Check i → Keeps t (turn_of t None) new → new.kept ≡ t.kept
checked_keeps t new i is kept = kept ∙ keeps_same t None (λ decides. other_phase i (sym is ∙ decides))

pub check_keeps : (t new : Task) (i : ℕ) → t.phase ≡ at.Check i → new.kept ≡ t.kept → Keeps t (turn_of t None) new
check_keeps t new i is kept = kept ∙ sym (keeps_same t None (λ decides. other_phase i (sym is ∙ decides)))
