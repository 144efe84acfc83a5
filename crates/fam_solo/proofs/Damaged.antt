-- A command that runs alone on a damaged image.
use Rattle.std.proofs.Common.{ℕ, ◌≡◌, ◌≢◌, ◌*◌, ◌≤◌, List, length, map, Some, None, refl, sym, ◌∙◌, ap, subst, Option}
use Rattle.std.proofs.lemmas.Option.{same_Some}
use Rattle.fam_base.specs.declared.cmd.Cmd.{Cmd}
use Rattle.fam_base.specs.declared.entry.Params.{Params}
use Rattle.fam_base.specs.declared.entry.Entry.{Entry}
use Rattle.fam_base.specs.Image.{Image, eight, line_at}
use Rattle.fam_format.specs.Layout.{device_limit, least_lines}
use Rattle.fam_format.specs.Reading.{Lines, Reading, NoSuperblock, BadHeader, BadSlot, Sound, reading_of, super_in}
use Rattle.fam_commands.specs.declared.phase.Part.TheVariants.{Superblock, Header, Slot, File}
use Rattle.fam_commands.specs.declared.phase.Phase.{Phase}
use Rattle.fam_commands.specs.declared.phase.Phase.TheVariants as at
use Rattle.fam_machine.specs.Caches.{Cache, IsClean}
use Rattle.fam_machine.specs.Operations.{Machine, operated, IsInImage}
use Rattle.fam_commands.specs.Kept.{IsKept, Kept}
use Rattle.fam_commands.specs.Solo.{SoloRun, starts, goes, turn_on}
use Rattle.fam_commands.specs.Stands.{task_after}
use Rattle.fam_commands.specs.Task.{Task, op_of}
use Rattle.fam_commands.specs.Turns.{Turn, Goes, Marks, Finds, Writes, Ends, host_refusal}
use Rattle.fam_rules.specs.declared.answers.Refused.TheVariants as refused
use Rattle.fam_rules.specs.Solo.{head_refusal}
use Rattle.fam_rules.specs.Decide.{wish_of}
use Rattle.fam_rules.specs.DecideLaws.{IsTooLong}
use Rattle.fam_rules.specs.Place.{line_bytes}
use Rattle.fam_rules.specs.Reply.{Reply, NotAppended, Reports}
use Rattle.fam_rules.specs.Reply as reply
use Rattle.fam_commands.specs.Appends.{IsBeforeWrites}
use Rattle.fam_solo.specs.Solo.{settles_up_to}
use Rattle.fam_protocol.specs.Bad.{AtDamagedPhase, MayReplyBad, MaySayBad, ReadsSuper}
use Rattle.fam_protocol.specs.SharedState.{SharedState}
use Rattle.fam_protocol.specs.Tasks.{IsCommand}
use Rattle.fam_protocol.specs.Steps.{turn_settles}
use Rattle.fam_protocol.specs.Invariant.{Damaged, KeepsFront, Settled, Invariant, settled_at_first, settled_by}
use Rattle.fam_solo.proofs.Machine.{ran_behind, ran_cmd, ran_me, looks_end, word_of}
use Rattle.fam_solo.proofs.Replies.{Answers, bad_client, bad_long, faults_header, faults_slot, faults_super, not_refused, reports_bad}
use Rattle.fam_commands.proofs.BeforeWrites.{EndsAt, IsBehindSuper, SaysAt, turn_says}
use Rattle.fam_solo.proofs.OneHost.{Stepped, first_settled, hosts_of, run_of, shared, stepped, invariant_first}

-- behind the superblock a host that appends is the one that it names
behind_known : (p : Phase) (image : Lines) (have : ℕ) (t : Task) (s : SharedState) → IsBehindSuper p → AtDamagedPhase p image have 0 t s → ReadsSuper image have t
behind_known at.DropMagic image have t s behind a = absurd behind
behind_known at.Magic image have t s behind a = absurd behind
behind_known (at.Drop Superblock j) image have t s behind a = absurd behind
behind_known (at.Drop Header j) image have t s behind a = a.0.1
behind_known (at.Drop (Slot i) j) image have t s behind a = a.0.0.header.super
behind_known (at.Drop File j) image have t s behind a = absurd a.0
behind_known (at.Word Superblock j k) image have t s behind a = absurd behind
behind_known (at.Word Header j k) image have t s behind a = a.0.1
behind_known (at.Word (Slot i) j k) image have t s behind a = a.0.0.header.super
behind_known (at.Word File j k) image have t s behind a = absurd a.0
behind_known at.DropGate image have t s behind a = a.2.super
behind_known at.Gate image have t s behind a = a.2.super
behind_known (at.Check i) image have t s behind a = a.0.header.super
behind_known at.Decide image have t s behind a = a.header.super
behind_known e image have t s behind a = absurd a

damaged_by : (image : Lines) (r : Reading) → ((p : Params) (entries : List Entry) → r ≢ Sound p entries) → settled_by image r ≡ Damaged image
damaged_by image (NoSuperblock fault) bad = refl
damaged_by image (BadHeader fault) bad = refl
damaged_by image (BadSlot i reason) bad = refl
damaged_by image (Sound p entries) bad = absurd (bad p entries refl)

module _ (kept : Option Kept) (cmd : Cmd) (me : List ℕ) (image : Image) (cache : Cache) (enough : least_lines ≤ length image)
    (limit : line_bytes * length image ≤ device_limit) (normal : map eight image ≡ image) (clean : IsClean cache) (command : IsCommand cmd)
    (joined : IsKept kept) (front : KeepsFront (settled_at_first image) kept)
    (bad : (p : Params) (entries : List Entry) → reading_of (line_at image) (line_bytes * length image) ≢ Sound p entries) where
  -- the image is damaged throughout
  pub record OnBad (t : Task) (m : Machine) : Type 0 where
    pub floor : Option ℕ
    pub invariant : Invariant (Damaged (line_at image)) (length image) (hosts_of kept me (Some (run_of t floor None))) (shared m)
    pub before : IsBeforeWrites t.phase

  moved : {t next : Task} {m : Machine} → Some t ≡ Some next → OnBad t m → OnBad next m
  moved {t} {next} {m} is on = subst (λ (x : Task). OnBad x m) (same_Some t next is) on

  by_turn : (floor : Option ℕ) (turn : Turn) (t next : Task) (m : Machine)
      → Stepped kept (Damaged (line_at image)) (length image) me (run_of t floor None) turn m → SaysAt t.phase t.cmd turn
      → task_after turn ≡ Some next → OnBad next m
  by_turn floor (Goes x) t next m step says is = moved is record { floor = floor; invariant = step.invariant; before = says }
  by_turn floor (Marks x) t next m step says is = moved is record { floor = Some 0; invariant = step.invariant; before = says }
  by_turn floor (Finds n x) t next m step says is = moved is record { floor = floor; invariant = step.invariant; before = says }
  by_turn floor (Writes seq e x) t next m step says is = absurd step.says
  by_turn floor (Ends given) t next m step says is = absurd (cc)

  pub on_bad : (t : Task) (words : List ℕ) (made : ℕ) (m : Machine) → SoloRun kept cmd me image cache t words made m → OnBad t m
  on_bad t words made m starts = record {
    floor = None;
    invariant = subst (λ (x : Settled). Invariant x (length image) (hosts_of kept me (Some (run_of t None None))) (shared m))
        (damaged_by (line_at image) (reading_of (line_at image) (line_bytes * length image)) bad)
        (invariant_first kept cmd me image cache enough limit clean command front);
    before = tt;
  }
  on_bad next _ _ _ (goes {t = t} {words = words} {made = made} {m = m} before inside is) =
      let on : OnBad t m = on_bad t words made m before in
      by_turn on.floor (turn_on t m) t next (operated (op_of t) m)
      (stepped kept (Damaged (line_at image)) (length image) me (run_of t on.floor None) m on.invariant inside)
      (turn_says t.phase t (word_of t m) on.before refl) is

  -- what it answers
  module _ (t : Task) (cmd_is : t.cmd ≡ cmd) (me_is : t.me ≡ me) (p : Phase) (s : SharedState) (phase : AtDamagedPhase p (line_at image) (line_bytes * length image) 0 t s)
      (through : IsBehindSuper p → host_refusal (wish_of cmd) t.params me ≡ None) where
    known : IsBehindSuper p → head_refusal (wish_of cmd) (super_in (line_at image) (line_bytes * length image)) me ≡ None
    known behind =
        let reads : ReadsSuper (line_at image) (line_bytes * length image) t = behind_known p (line_at image) (line_bytes * length image) t s behind phase in
        not_refused image me cmd t.params reads.super (through behind)

    answers : (given : Reply) → MayReplyBad given (line_at image) (line_bytes * length image) t → EndsAt p cmd given → Answers image me cmd given image
    answers (NotAppended (refused.NotMaster host master)) may ends =
        let host_is : host ≡ me = may.me_is ∙ me_is in
        let master_is : may.params.master ≡ master = sym may.master_is in
        subst (λ (h : List ℕ). Answers image me cmd (NotAppended (refused.NotMaster h master)) image) (sym host_is)
        (subst (λ (x : List ℕ). Answers image me cmd (NotAppended (refused.NotMaster me x)) image) master_is
        (bad_client image me cmd bad ends may.params may.super (λ same. may.other (host_is ∙ same ∙ master_is))))
    answers (NotAppended (refused.LongPath limit)) may ends =
        bad_long image me cmd bad may.is.wish (ap wish_of (sym cmd_is) ∙ may.is.wished) may.params may.super limit (subst (λ (h : List ℕ). IsTooLong may.params h may.is.wish limit) me_is may.is.is)
    answers (NotAppended refused.BadStripe) may ends = absurd may
    answers (NotAppended (refused.Exists kind)) may ends = absurd may
    answers (NotAppended refused.NoParent) may ends = absurd may
    answers (NotAppended refused.ParentIsFile) may ends = absurd may
    answers (NotAppended (refused.LogFull slots)) may ends = absurd may
    answers (NotAppended (refused.NoSpace units)) may ends = absurd may
    answers (Reports report) may ends = subst (λ (r : Reply). Answers image me cmd r image) (sym (ap Reports may)) (reports_bad image me cmd bad ends)
    answers (reply.NoSuperblock fault) may ends = faults_super image me cmd bad ends fault (reading_of (line_at image) (line_bytes * length image)) refl may
    answers (reply.BadHeader fault) may ends = faults_header image me cmd bad ends.1 (known ends.0) fault (reading_of (line_at image) (line_bytes * length image)) refl may
    answers (reply.BadSlot i reason) may ends = faults_slot image me cmd bad ends.1 (known ends.0) i reason (reading_of (line_at image) (line_bytes * length image)) refl may
    answers other may ends = absurd may

  -- nothing is settled of it
  damaged_first : settled_at_first image ≡ Damaged (line_at image)
  damaged_first = first_settled image enough ∙ damaged_by (line_at image) (reading_of (line_at image) (line_bytes * length image)) bad

  still_damaged : (t : Task) (words : List ℕ) (made : ℕ) (m : Machine) → (ran : SoloRun kept cmd me image cache t words made m)
      → settles_up_to kept cmd me image cache t words made m ran (Damaged (line_at image)) ≡ Damaged (line_at image)
  still_damaged t words made m starts = refl
  still_damaged next _ _ _ (goes {t = t} {words = words} {made = made} {m = m} ran inside is) = ap (turn_settles (turn_on t m)) (still_damaged t words made m ran)

  pub bad_ends : (t : Task) (words : List ℕ) (made : ℕ) (m : Machine) (given : Reply) → (ran : SoloRun kept cmd me image cache t words made m)
      → IsInImage (op_of t) m → turn_on t m ≡ Ends given → Answers image me cmd given (operated (op_of t) m).image
      × IsClean (operated (op_of t) m).cache
      × (turn_settles (Ends given) (settles_up_to kept cmd me image cache t words made m ran (settled_at_first image)) ≡ settled_at_first (operated (op_of t) m).image)
  bad_ends t words made m given ran inside is =
      let on : OnBad t m = on_bad t words made m ran in
      let cmd_is : t.cmd ≡ cmd = ran_cmd kept cmd me image cache joined t words made m ran in
      let me_is : t.me ≡ me = ran_me kept cmd me image cache joined t words made m ran in
      let step = stepped kept (Damaged (line_at image)) (length image) me (run_of t on.floor None) m on.invariant inside in
      let end = looks_end kept cmd me image cache normal clean t words made m ran on.before in (
        subst (λ (x : Image). Answers image me cmd given x) (sym end.0)
            (answers t cmd_is me_is t.phase (shared m) (on.invariant.stage.tasks 0 (run_of t on.floor None) refl).phase (ran_behind kept cmd me image cache joined t words made m ran) given
            (subst (λ (x : Turn). MaySayBad x (line_at image) (line_bytes * length image) t) is step.says)
            (subst (λ (c : Cmd). EndsAt t.phase c given) cmd_is (subst (SaysAt t.phase t.cmd) is (turn_says t.phase t (word_of t m) on.before refl)))),
        end.1,
        ap (λ (x : Settled). turn_settles (Ends given) (settles_up_to kept cmd me image cache t words made m ran x)) damaged_first
            ∙ ap (turn_settles (Ends given)) (still_damaged t words made m ran) ∙ sym damaged_first ∙ ap settled_at_first (sym end.0),
      )
