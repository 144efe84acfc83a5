-- What a host does on its machine, as the protocol of all hosts has it; and that a world stands behind it.
use Rattle.std.proofs.Common.{◌≡◌, ◌≢◌, ℕ, ◌+◌, ◌<◌, ◌≤◌, inl, inr, List, [], ◌∷◌, length, map, refl, sym, ap, ap₂, subst, ◌∙◌, arith}
use Prim.Native.Nat.{zero, suc}
use Rattle.std.specs.Prelude.{cond, if◌then◌else◌, Bool, true, false, slice_get, Option, Some, None, option_map, unwrap_or}
use Rattle.std.proofs.lemmas.Bool.{cases_eq, eq-eqb, ne_eqb}
use Rattle.std.proofs.lemmas.Option.{same_Some}
use Rattle.fam_base.specs.Image.{Image, eight, line_at}
use Rattle.fam_machine.specs.declared.op.Op.{Op}
use Rattle.fam_machine.specs.declared.op.Op.TheVariants as op
use Rattle.fam_machine.specs.Caches.{Cache, cell_at}
use Rattle.fam_machine.specs.Cuts.{HasFailed, IsMachine}
use Rattle.fam_machine.specs.OneLine.{IsAsked, IsDirty}
use Rattle.fam_machine.specs.Operations.{IsInImage, IsWithin, Machine, given, machine, operated}
use Rattle.fam_protocol.specs.Hosted.{ActsAs}
use Rattle.fam_protocol.specs.SharedState.{SharedState}
use Rattle.fam_protocol.proofs.Hosts.Acts.{failure_breaks, operates_by}
use Rattle.fam_protocol.proofs.Lines.Moves.{asked_dirty}
use Rattle.fam_rules.specs.Written.{file_line}
use Rattle.fam_mail.specs.Calls.{capacity_in, kept_task}
use Rattle.fam_mail.specs.Mail.{Mail, TaskRun, floor_behind_turn, run_behind_turn, settles}
use Rattle.fam_base.specs.declared.line.LineNo.{LineNo}
use Rattle.fam_mail.specs.declared.note.MailNote.{MailNote}
use Rattle.fam_mail.specs.declared.phase.Phase.{Phase}
use Rattle.fam_mail.specs.declared.phase.Phase.TheVariants as at
use Rattle.fam_mail.specs.Protocol.{AtMailPhase, Box, BoxCore, BoxInvariant, TurnHolds}
use Rattle.fam_mail.specs.Standing.{MailPast, SaysSo, MailStands, StandsStill, box_in, held_by, mail_past_after, run_by, runs_of_hosts, shared}
use Rattle.fam_mail.specs.Tasks.{MailTask, ends_mail_task, phase_op, task_op, next_task, mail_turn}
use Rattle.fam_mail.specs.declared.turn.Turn.{Turn}
use Rattle.fam_mail.specs.World.{MailHost, MailView, changed_member, member_place_from, is_writer}
use Rattle.fam_mail.proofs.Events.{breaks_hold, fewer_hold}
use Rattle.fam_mail.proofs.Members.{changed_here, changed_other}
use Rattle.fam_mail.proofs.Stepping.{step_holds}

-- a test that a new member passes as the old one did finds the same place
pub index_put : {A : Type 0} (test : A → Bool) (n i : ℕ) (x y : A) (xs : List A) → slice_get xs i ≡ Some x → test y ≡ test x
    → member_place_from n test (changed_member i (λ (z : A). y) xs) ≡ member_place_from n test xs
index_put test n i x y [] is same = absurd cc
index_put test n zero x y (z ∷ xs) is same = ap (λ (b : Bool). if b then Some n else member_place_from (n + 1) test xs) (same ∙ ap test (sym (same_Some z x is)))
index_put test n (suc i) x y (z ∷ xs) is same = ap (λ (r : Option ℕ). if test z then Some n else r) (index_put test (n + 1) i x y xs is same)

-- The host of a number, which becomes another one, over an image that becomes another one.
module _ (rest : ℕ → List ℕ) (v : MailView) (at : ℕ) (host next : MailHost) (host_is : slice_get v.hosts at ≡ Some host) (image image' : Image) (m' : Machine) (image_is : image' ≡ m'.image)
    (cache_is : next.cache ≡ m'.cache) (writer : next.writer ≡ host.writer) where
  after : List MailHost
  after = changed_member at (λ (x : MailHost). next) v.hosts

  -- a world with another host in a host's place is that machine, where the host has its cache
  pub acts : ActsAs at (machine image host.cache) m' (shared image v.hosts) (shared image' (changed_member at (λ (x : MailHost). next) v.hosts))
  acts = record {
    before = record { memory = λ l. refl; copies = λ l. ap (λ (o : Option MailHost). held_by o l) host_is };
    after = record {
      memory = λ l. ap (λ (i : Image). line_at i l) image_is;
      copies = λ l. ap (λ (o : Option MailHost). held_by o l) (changed_here at (λ (x : MailHost). next) v.hosts host host_is) ∙ ap (λ (k : Cache). cell_at k l) cache_is;
    };
    others = λ h l ne. ap (λ (o : Option MailHost). held_by o l) (changed_other at h (λ (x : MailHost). next) v.hosts ne);
  }

  -- the box stays
  pub same_box : (journal : List MailNote)
      → box_in (record { entry = v.entry; hosts = changed_member at (λ (x : MailHost). next) v.hosts; journal = journal }) rest ≡ box_in v rest
  same_box journal = ap (λ (w : Option ℕ). record { place = file_line v.entry; capacity = capacity_in v; writer = w; rest = rest }) (index_put is_writer 0 at host next v.hosts host_is writer)

-- an operation of a task asks for lines of the image
module _ (rest : ℕ → List ℕ) (v : MailView) (past : MailPast) (image : Image) (stands : MailStands rest v past image) (at : ℕ) (host : MailHost) (host_is : slice_get v.hosts at ≡ Some host)
    (inside : (j : ℕ) → j ≤ capacity_in v → file_line v.entry j < length image) where
  asked_inside : (l : ℕ) → IsAsked (cell_at host.cache l) → l < length image
  asked_inside l asked =
      let d : IsDirty (held_by (slice_get v.hosts at) l) = subst (λ (o : Option MailHost). IsDirty (held_by o l)) (sym host_is) (asked_dirty (cell_at host.cache l) asked) in
      let line = stands.core.inside at l d in
      subst (λ (n : ℕ). n < length image) (sym line.is) (inside line.number line.below)

  pub in_image : (o : Op) → IsWithin (length image) o → IsInImage o (machine image host.cache)
  in_image (op.Load l k) w = w.0
  in_image (op.Store l k value) w = w.0
  in_image (op.WriteBack l) w = w
  in_image op.Fence w = asked_inside
  in_image (op.Invalidate l) w = w
  in_image op.Digest w = tt

-- what a task asks for, by what is known of it
module _ (b : Box) (h : ℕ) (s : SharedState) (m : Mail) (core : BoxCore b s m) (n : ℕ) (inside : (j : ℕ) → j ≤ b.capacity → b.place j < n) where
  op_inside : (p : Phase) (floor : Option ℕ) (t : MailTask) → AtMailPhase p b h floor t s m → IsWithin n (phase_op p b.place t)
  op_inside at.DropGate floor t known = inside 0 (omega arith)
  op_inside at.LoadGate floor t known = (inside 0 (omega arith), omega arith)
  op_inside (at.StoreRecord k) floor t known = (inside (1 + t.gate) (omega (arith, known.1.room)), known.0)
  op_inside at.SendRecord floor t known = inside (1 + t.gate) (omega (arith, known.0.room))
  op_inside at.FenceRecord floor t known = tt
  op_inside at.StoreGate floor t known = (inside 0 (omega arith), omega arith)
  op_inside at.SendGate floor t known = inside 0 (omega arith)
  op_inside at.FenceGate floor t known = tt
  op_inside at.Count floor t known = tt
  op_inside (at.DropRecord i) floor t known = inside (1 + i) (omega (arith, known.below, known.has.high, core.order, core.high, core.room))
  op_inside (at.LoadRecord i k) floor t known = (inside (1 + i) (omega (arith, known.1.has.below, known.1.has.has.high, core.order, core.high, core.room)), known.0)

-- A host's task does its operation.
module _ (rest : ℕ → List ℕ) (v : MailView) (past : MailPast) (image : Image) (stands : MailStands rest v past image) (host_no : ℕ) (host next : MailHost)
    (host_is : slice_get v.hosts host_no ≡ Some host) (t : MailTask) (task_is : host.task ≡ Some t)
    (inside : (j : ℕ) → j ≤ capacity_in v → file_line v.entry j < length image) where
  run : TaskRun
  run = record { task = t; floor = past.floors host_no }

  run_is : runs_of_hosts v.hosts past.floors host_no ≡ Some (record { task = t; floor = past.floors host_no })
  run_is = ap (λ (o : Option MailHost). run_by o (past.floors host_no)) host_is ∙ ap (option_map (λ (x : MailTask). record { task = x; floor = past.floors host_no })) task_is

  -- the operation of a task is on a line of the image
  pub asks_inside : IsInImage (task_op (file_line v.entry) t) (machine image host.cache)
  asks_inside = in_image rest v past image stands host_no host host_is inside (task_op (file_line v.entry) t)
      (op_inside (box_in v rest) host_no (shared image v.hosts) past.mail stands.core (length image) inside t.phase (past.floors host_no) t
      (stands.tasks host_no (record { task = t; floor = past.floors host_no }) run_is).phase)

  -- the task that a turn leaves
  run_left : (over : Bool) (turn : Turn) (word : ℕ) (floor : Option ℕ) → ends_mail_task turn ≡ over
      → option_map {U = TaskRun} (λ (x : MailTask). record { task = x; floor = floor }) (cond over None (Some (next_task word t)))
      ≡ cond over None (Some (record { task = next_task word t; floor = floor }))
  run_left true turn word floor is = refl
  run_left false turn word floor is = refl

  module _ (word : ℕ) (next_is : next ≡ record host { cache = next.cache; task = kept_task (mail_turn word t) (next_task word t) }) (now : Option Image)
      (done : IsMachine (operated (task_op (file_line v.entry) t) (machine image host.cache)) now next.cache)
      (word_is : word ≡ unwrap_or (given (task_op (file_line v.entry) t) (machine image host.cache)) 0) where
    image' : Image
    image' = (operated (task_op (file_line v.entry) t) (machine image host.cache)).image

    hosts' : List MailHost
    hosts' = changed_member host_no (λ (x : MailHost). next) v.hosts

    floor' : Option ℕ
    floor' = floor_behind_turn (mail_turn word t) (length past.mail.list) (past.floors host_no)

    left_run : runs_of_hosts (changed_member host_no (λ (x : MailHost). next) v.hosts) (mail_past_after host_no (mail_turn word t) t.ask past).floors
        host_no ≡ run_behind_turn (mail_turn word t) (length past.mail.list) word (record { task = t; floor = past.floors host_no })
    left_run =
        ap₂ run_by (changed_here host_no (λ (x : MailHost). next) v.hosts host host_is)
        (ap (λ (b : Bool). if b then floor_behind_turn (mail_turn word t) (length past.mail.list) (past.floors host_no) else past.floors host_no) (eq-eqb host_no host_no refl))
        ∙ ap (λ (x : MailHost). option_map (λ (y : MailTask). record { task = y; floor = floor_behind_turn (mail_turn word t) (length past.mail.list) (past.floors host_no) }) x.task) next_is
        ∙ run_left (ends_mail_task (mail_turn word t)) (mail_turn word t) word (floor_behind_turn (mail_turn word t) (length past.mail.list) (past.floors host_no)) refl

    other_runs : (h : ℕ) → h ≢ host_no
        → runs_of_hosts (changed_member host_no (λ (x : MailHost). next) v.hosts) (mail_past_after host_no (mail_turn word t) t.ask past).floors h ≡ runs_of_hosts v.hosts past.floors h
    other_runs h ne =
        ap₂ run_by (changed_other host_no h (λ (x : MailHost). next) v.hosts ne)
        (ap (λ (b : Bool). if b then floor_behind_turn (mail_turn word t) (length past.mail.list) (past.floors host_no) else past.floors h) (ne_eqb h host_no ne))

    step_stands : TurnHolds (box_in v rest) word past.mail (record { task = t; floor = past.floors host_no })
        (runs_of_hosts (changed_member host_no (λ (x : MailHost). next) v.hosts) (mail_past_after host_no (mail_turn word t) t.ask past).floors)
        (shared (operated (task_op (file_line v.entry) t) (machine image host.cache)).image (changed_member host_no (λ (x : MailHost). next) v.hosts))
    step_stands =
        let o = task_op (file_line v.entry) t in
        let m = machine image host.cache in
        let s' = shared (operated o m).image (changed_member host_no (λ (x : MailHost). next) v.hosts) in
        let act = acts rest v host_no host next host_is image (operated o m).image (operated o m) refl done.cache (ap (λ (x : MailHost). x.writer) next_is) in
        step_holds (box_in v rest) host_no word past.mail (record { task = t; floor = past.floors host_no }) (runs_of_hosts v.hosts past.floors)
        (runs_of_hosts (changed_member host_no (λ (x : MailHost). next) v.hosts) (mail_past_after host_no (mail_turn word t) t.ask past).floors) (shared image v.hosts) s' stands
        (record {
          is = run_is;
          operates = subst (λ (w : ℕ). Rattle.fam_protocol.specs.SharedState.Operates o host_no (shared image v.hosts) s' w) (sym word_is)
              (operates_by host_no m (shared image v.hosts) s' o act stands.core.wide asks_inside);
          mine = left_run;
          others = other_runs;
        })

    -- it says what it may, and the world stands again
    pub says_so : (journal : List MailNote) → SaysSo rest host_no word t past now (record { entry = v.entry; hosts = changed_member host_no (λ (x : MailHost). next) v.hosts; journal = journal })
    says_so journal = record {
      says = step_stands.says;
      image = (operated (task_op (file_line v.entry) t) (machine image host.cache)).image;
      told = done.image;
      stands = subst (λ (b : Box). BoxInvariant b (runs_of_hosts (changed_member host_no (λ (x : MailHost). next) v.hosts) (mail_past_after host_no (mail_turn word t) t.ask past).floors)
          (shared (operated (task_op (file_line v.entry) t) (machine image host.cache)).image (changed_member host_no (λ (x : MailHost). next) v.hosts)) (settles (mail_turn word t) t.ask past.mail))
          (sym (same_box rest v host_no host next host_is image (operated (task_op (file_line v.entry) t) (machine image host.cache)).image
          (operated (task_op (file_line v.entry) t) (machine image host.cache)) refl done.cache
          (ap (λ (x : MailHost). x.writer) next_is) journal))
          step_stands.invariant;
    }

  -- the media failed in it
  module _ (normal : map eight image ≡ image) (line : LineNo) (next_is : next ≡ record host { cache = next.cache; task = None }) (now : Option Image)
      (failed : HasFailed (task_op (file_line v.entry) t) (machine image host.cache) line now next.cache) where
    fewer : (h : ℕ) (r : TaskRun) → runs_of_hosts (changed_member host_no (λ (x : MailHost). next) v.hosts) past.floors h ≡ Some r → runs_of_hosts v.hosts past.floors h ≡ Some r
    fewer h r is =
        elim (cases_eq h host_no) [
          | inl e ↦ absurd (none h r e is)
          | inr ne ↦ sym (ap (λ (o : Option MailHost). run_by o (past.floors h)) (changed_other host_no h (λ (x : MailHost). next) v.hosts ne)) ∙ is
        ]
      where
        none : (h : ℕ) (r : TaskRun) → h ≡ host_no → runs_of_hosts (changed_member host_no (λ (x : MailHost). next) v.hosts) past.floors h ≡ Some r → ⊥
        none h r e is =
            let gone : runs_of_hosts (changed_member host_no (λ (x : MailHost). next) v.hosts) past.floors host_no ≡ None =
            ap (λ (o : Option MailHost). run_by o (past.floors host_no)) (changed_here host_no (λ (x : MailHost). next) v.hosts host host_is)
            ∙ ap (λ (x : MailHost). option_map (λ (y : MailTask). record { task = y; floor = past.floors host_no }) x.task) next_is in
            absurd (cc (gone, ap (runs_of_hosts (changed_member host_no (λ (x : MailHost). next) v.hosts) past.floors) e, is))

    -- the world stands where the media failed in an operation
    pub stands_still : (journal : List MailNote) → StandsStill rest past now (record { entry = v.entry; hosts = changed_member host_no (λ (x : MailHost). next) v.hosts; journal = journal })
    stands_still journal =
        let m = machine image host.cache in
        let left = failed.left in
        let hosts' = changed_member host_no (λ (x : MailHost). next) v.hosts in
        let s' = shared left.image hosts' in
        let writer : next.writer ≡ host.writer = ap (λ (x : MailHost). x.writer) next_is in
        let act = acts rest v host_no host next host_is image left.image left refl failed.is.cache writer in
        let broke = failure_breaks host_no m (shared image v.hosts) s' (task_op (file_line v.entry) t) failed.fails.through (record { line = line; left = left }) act stands.core.wide normal
        asks_inside failed.fails.is in
        let again = breaks_hold (box_in v rest) (runs_of_hosts v.hosts past.floors) (shared image v.hosts) s' past.mail stands host_no line.0 broke in
        let here = fewer_hold (box_in v rest) (runs_of_hosts v.hosts past.floors) (runs_of_hosts hosts' past.floors) s' past.mail again fewer in
        record {
          image = left.image;
          told = failed.is.image;
          stands = subst (λ (b : Box). BoxInvariant b (runs_of_hosts hosts' past.floors) s' past.mail)
              (sym (same_box rest v host_no host next host_is image left.image left refl failed.is.cache writer journal)) here;
        }
