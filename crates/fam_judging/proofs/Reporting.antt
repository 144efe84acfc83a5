-- Replies that report.
use Rattle.std.proofs.Common.{◌≡◌, ◌⊎◌, ◌↔◌, inl, inr, ℕ, length, IsTrue, Bool, Option, Some, None, refl, ap, sym, ◌∙◌, subst}
use Rattle.std.specs.Prelude.{option_map}
use Rattle.fam_base.specs.declared.cmd.Cmd.TheVariants.{Fsck}
use Rattle.fam_base.specs.Image.{Image}
use Rattle.fam_format.specs.declared.faults.LogField.{LogField}
use Rattle.fam_format.specs.declared.faults.LogField.TheVariants as field
use Rattle.fam_history.specs.declared.command.ToldCommand.{ToldCommand}
use Rattle.fam_journal.specs.Legal.{ReportAllowed, damaged_report}
use Rattle.fam_journal.specs.Past as past
use Rattle.fam_journal.specs.Past.{HostPast, State, reported_count, shows, shows_count}
use Rattle.fam_journal.specs.Shapes.{Begun, CommandStage, CountShape, Marked}
use Rattle.fam_judge.specs.Formed.{FieldPlace, LogPlace}
use Rattle.fam_lines.specs.declared.host.SeenHost.{SeenHost}
use Rattle.fam_lines.specs.Lines.{untold_of}
use Rattle.fam_rules.specs.declared.answers.LogState.{LogState}
use Rattle.fam_rules.specs.declared.answers.LogState.TheVariants as log
use Rattle.fam_rules.specs.declared.answers.Report.{Report}
use Rattle.fam_rules.specs.Reply as reply
use Rattle.fam_settled.specs.Settled.{SettledLog as Log, settled_log_state}
use Rattle.fam_judging.specs.Candidates.{named_of, settled_state, stage_shape}
use Rattle.fam_judging.specs.declared.candidate.Settled.{Settled}
use Rattle.fam_judging.specs.declared.candidate.Settled.TheVariants as settled
use Rattle.fam_judging.specs.declared.candidate.Track.{Track}
use Rattle.fam_judging.specs.declared.given.GivenImage.{GivenImage}
use Rattle.fam_judging.specs.declared.lefts.Lefts.{Lefts}
use Rattle.fam_judging.specs.FoundLefts.{host_of}
use Rattle.fam_judging.specs.Lefts.{LeavesEndings, first, only}
use Rattle.fam_judging.specs.Replies.{Asker, EndingState, MayEnd, Point, ending_at, told_at, unmarked}
use Rattle.fam_judging.specs.Going.{HasGiven}
use Rattle.fam_judging.specs.ReplyKinds.{MayMark, asker_of, ending_left, point_of}
use Rattle.fam_judging.specs.Reporting.{DamagedReport, ReportPlace, ReportsBegun, ReportsMarked, reported_ending}
use Rattle.fam_judging.specs.Showing.{IsShown}
use Rattle.fam_judging.proofs.Appended.{no_left, one, the_left}
use Rattle.fam_judging.proofs.Leaves.{only_leaves}
use Rattle.fam_judging.proofs.ReplyPlaces.{begun_marked, begun_of, comes_marked, marked_begun, marked_of}

-- Places.

field_stage : (f : LogField) (stage : CommandStage) → FieldPlace f stage → ((stage ≡ Begun) × FieldPlace f Begun) ⊎ ((stage ≡ Marked) × FieldPlace f Marked)
field_stage field.Gate stage is = inr (is, refl)
field_stage field.Magic stage is = inl (is, refl)
field_stage field.Crc stage is = inl (is, refl)
field_stage field.Length stage is = inl (is, refl)
field_stage field.Slots stage is = inl (is, refl)
field_stage field.Uuid stage is = inl (is, refl)
field_stage field.Rest stage is = inl (is, refl)

place_of : (l : LogState) (stage : CommandStage) → CountShape (reported_count l) stage → LogPlace l stage → ((stage ≡ Begun) × ReportPlace l Begun) ⊎ ((stage ≡ Marked) × ReportPlace l Marked)
place_of (log.Sound entries slots) stage shape place = inr (shape, refl)
place_of (log.BadLog f found wanted) stage shape place = field_stage f stage place
place_of log.Unread stage shape place = inl (place, refl)

log_place : (l : LogState) (stage : CommandStage) → ReportPlace l stage → LogPlace l stage
log_place (log.Sound entries slots) stage is = tt
log_place (log.BadLog f found wanted) stage is = is
log_place log.Unread stage is = is

count_place : (l : LogState) (stage : CommandStage) → ReportPlace l stage → CountShape (reported_count l) stage
count_place (log.Sound entries slots) stage is = is
count_place (log.BadLog f found wanted) stage is = tt
count_place log.Unread stage is = tt

field_apart : (f : LogField) → FieldPlace f Begun → FieldPlace f Marked → ⊥
field_apart field.Gate begun mark = begun_marked begun
field_apart field.Magic begun mark = marked_begun mark
field_apart field.Crc begun mark = marked_begun mark
field_apart field.Length begun mark = marked_begun mark
field_apart field.Slots begun mark = marked_begun mark
field_apart field.Uuid begun mark = marked_begun mark
field_apart field.Rest begun mark = marked_begun mark

apart : (l : LogState) → ReportPlace l Begun → ReportPlace l Marked → ⊥
apart (log.Sound entries slots) begun mark = begun_marked begun
apart (log.BadLog f found wanted) begun mark = field_apart f begun mark
apart log.Unread begun mark = marked_begun mark

module _ (who : Asker) (at : Point) (e : EndingState) (report : Report) where
  -- a report stands right behind the start, or behind the mark
  pub reports : MayEnd who at (reply.Reports report) e
      → (ReportsBegun who at report × (e ≡ reported_ending report (record at { floor = None }))) ⊎ (ReportsMarked who at report × (e ≡ reported_ending report at))
  reports ends = by (place_of report.log ends.now.stage ends.answered.shape.1 ends.answered.place)
    where
      by : ((ends.now.stage ≡ Begun) × ReportPlace report.log Begun) ⊎ ((ends.now.stage ≡ Marked) × ReportPlace report.log Marked)
          → (ReportsBegun who at report × (e ≡ reported_ending report (record at { floor = None }))) ⊎ (ReportsMarked who at report × (e ≡ reported_ending report at))
      by (inl is) =
          let begun = begun_of who at ends.now ends.reached is.0 in
          inl (
            record {
              begun = begun.0;
              place = is.1;
              cmd = ends.answered.shape.0;
              fits = subst (λ (p : Point). ReportAllowed report (told_at who p) p.state) begun.1 ends.answered.fits;
            },
            ends.is ∙ ap (ending_at (reply.Reports report)) begun.1,
          )
      by (inr is) =
          let here = marked_of who at ends.now ends.reached is.0 in
          inr (
            record {
              marks = here.0;
              place = is.1;
              cmd = ends.answered.shape.0;
              fits = subst (λ (p : Point). ReportAllowed report (told_at who p) p.state) here.1 ends.answered.fits;
            },
            ends.is ∙ ap (ending_at (reply.Reports report)) here.1,
          )

  -- and where it may be given right behind the start it is
  pub begun_ends : ReportsBegun who at report → e ≡ reported_ending report (record at { floor = None }) → MayEnd who at (reply.Reports report) e
  begun_ends is same = record {
    now = record at { floor = None };
    reached = unmarked is.begun refl;
    answered = record {
      shape = (is.cmd, count_place report.log at.stage (subst (ReportPlace report.log) (sym is.begun) is.place));
      place = log_place report.log at.stage (subst (ReportPlace report.log) (sym is.begun) is.place);
      fits = is.fits;
    };
    is = same;
  }

  -- so it is behind the mark
  pub marked_ends : ReportsMarked who at report → e ≡ reported_ending report at → MayEnd who at (reply.Reports report) e
  marked_ends is same = record {
    now = record at { stage = Marked };
    reached = comes_marked who at _ is.marks refl;
    answered = record {
      shape = (is.cmd, count_place report.log Marked is.place);
      place = log_place report.log Marked is.place;
      fits = is.fits;
    };
    is = same;
  }

-- Damaged images.

bad_counts : (o : Option ℕ) (origin : past.Origin) (damage : past.Damage) (gate : ℕ) → shows_count o (past.Bad origin damage gate) ≡ past.Bad origin damage gate
bad_counts None origin damage gate = refl
bad_counts (Some m) origin damage gate = refl

module _ (start : Image) (given : GivenImage) where
  -- the report of a damaged image leaves it as it is
  damaged_kept : (s : Settled) (report : Report) (o : Option ℕ) → HasGiven start given s → DamagedReport given s report → shows_count o (settled_state start s) ≡ settled_state start s
  damaged_kept (settled.Log l) report o own is = absurd is
  damaged_kept settled.Given report o own is = ap (shows_count o) own.state ∙ bad_counts o _ _ _ ∙ sym own.state
  damaged_kept settled.Halted report o own is = bad_counts o _ _ _

  damaged_allowed : (s : Settled) (report : Report) (host : HostPast) → HasGiven start given s → DamagedReport given s report → ReportAllowed report host (settled_state start s)
  damaged_allowed (settled.Log l) report host own is = absurd is
  damaged_allowed settled.Given report host own is = subst (ReportAllowed report host) (sym own.state) (is ∙ own.report)
  damaged_allowed settled.Halted report host own is = is

  -- one that stands right behind the start is such one
  allowed_begun : (s : Settled) (report : Report) (host : HostPast) → host.floor ≡ None → HasGiven start given s → ReportAllowed report host (settled_state start s) → DamagedReport given s report
  allowed_begun (settled.Log l) report host none own is = let no : None ≡ Some is.bounds.floor = sym none ∙ is.bounds.marked in absurd cc
  allowed_begun settled.Given report host none own is = let same : report ≡ damaged_report (past.Given start) = subst (ReportAllowed report host) own.state is in same ∙ sym own.report
  allowed_begun settled.Halted report host none own is = is

  -- where there is no log
  allowed_damaged : (s : Settled) (d : past.Damage) (report : Report) (host : HostPast) → Rattle.fam_judging.specs.ReplyKinds.damage_in given s ≡ Some d → HasGiven start given s
      → ReportAllowed report host (settled_state start s) → DamagedReport given s report
  allowed_damaged (settled.Log l) d report host is_bad own is = absurd cc
  allowed_damaged settled.Given d report host is_bad own is = let same : report ≡ damaged_report (past.Given start) = subst (ReportAllowed report host) own.state is in same ∙ sym own.report
  allowed_damaged settled.Halted d report host is_bad own is = is

module _ (given : GivenImage) (seen : SeenHost) (c : ToldCommand) (s : Settled) (t : Track) (report : Report) where
  -- what is left of a report that stands right behind the start
  pub begun_leaves : (b : Bool) → (IsTrue b ↔ ((stage_shape t.stage ≡ Begun) × (untold_of c ≡ Fsck) × DamagedReport given s report)) → ReportPlace report.log Begun
      → LeavesEndings given seen c s t (reply.Reports report) (only b s (record t { floor = None }))
  begun_leaves b is place = only_leaves given seen c s t (reply.Reports report) b (record t { floor = None }) _ is (λ start own e. (
    λ ends. out start own e (reports (asker_of seen c) (point_of start s t) e report ends),
    λ both. begun_ends (asker_of seen c) (point_of start s t) e report (record {
      begun = both.0.0;
      place = place;
      cmd = both.0.1;
      fits = damaged_allowed start given s report _ own both.0.2;
    }) (both.1 ∙ state start own both.0.2),
  ))
    where
      state : (start : Image) → HasGiven start given s → DamagedReport given s report → ending_left start s (record t { floor = None }) ≡ reported_ending report
          (record (point_of start s t) { floor = None })
      state start own is = ap (λ (k : State). let e : EndingState = record { state = k; floor = None; wrote = option_map named_of t.wrote } in e) (sym (damaged_kept start given s report
          (reported_count report.log) own is))

      out : (start : Image) → HasGiven start given s → (e : EndingState)
          → (ReportsBegun (asker_of seen c) (point_of start s t) report × (e ≡ reported_ending report (record (point_of start s t) { floor = None })))
          ⊎ (ReportsMarked (asker_of seen c) (point_of start s t) report × (e ≡ reported_ending report (point_of start s t)))
          → ((stage_shape t.stage ≡ Begun) × (untold_of c ≡ Fsck) × DamagedReport given s report) × (e ≡ ending_left start s (record t { floor = None }))
      out start own e (inl is) =
          let damaged = allowed_begun start given s report (told_at (asker_of seen c) (record (point_of start s t) { floor = None })) refl own is.0.fits in
          ((is.0.begun, is.0.cmd, damaged), is.1 ∙ sym (state start own damaged))
      out start own e (inr is) = absurd (apart report.log place is.0.place)

  -- what is left of a damaged image of one behind the mark
  pub damaged_leaves : (d : past.Damage) → Rattle.fam_judging.specs.ReplyKinds.damage_in given s ≡ Some d → (b : Bool)
      → (IsTrue b ↔ (MayMark (stage_shape t.stage) × (untold_of c ≡ Fsck) × DamagedReport given s report)) → ReportPlace report.log Marked → LeavesEndings given seen c s t
      (reply.Reports report) (only b s t)
  damaged_leaves d is_bad b is place = only_leaves given seen c s t (reply.Reports report) b t _ is (λ start own e. (
    λ ends. out start own e (reports (asker_of seen c) (point_of start s t) e report ends),
    λ both. marked_ends (asker_of seen c) (point_of start s t) e report (record {
      marks = both.0.0;
      place = place;
      cmd = both.0.1;
      fits = damaged_allowed start given s report _ own both.0.2;
    }) (both.1 ∙ state start own both.0.2),
  ))
    where
      state : (start : Image) → HasGiven start given s → DamagedReport given s report → ending_left start s t ≡ reported_ending report (point_of start s t)
      state start own is = ap (λ (k : State). let e : EndingState = record { state = k; floor = t.floor; wrote = option_map named_of t.wrote } in e) (sym (damaged_kept start given s report
          (reported_count report.log) own is))

      out : (start : Image) → HasGiven start given s → (e : EndingState)
          → (ReportsBegun (asker_of seen c) (point_of start s t) report × (e ≡ reported_ending report (record (point_of start s t) { floor = None })))
          ⊎ (ReportsMarked (asker_of seen c) (point_of start s t) report × (e ≡ reported_ending report (point_of start s t)))
          → (MayMark (stage_shape t.stage) × (untold_of c ≡ Fsck) × DamagedReport given s report) × (e ≡ ending_left start s t)
      out start own e (inl is) = absurd (apart report.log is.0.place place)
      out start own e (inr is) =
          let damaged = allowed_damaged start given s d report (told_at (asker_of seen c) (point_of start s t)) is_bad own is.0.fits in
          ((is.0.marks, is.0.cmd, damaged), is.1 ∙ sym (state start own damaged))

-- Logs.

module _ (given : GivenImage) (seen : SeenHost) (c : ToldCommand) (log : Log) (t : Track) (report : Report) (place : ReportPlace report.log Marked) where
  marked_of_log : (start : Image) (e : EndingState) → MayEnd (asker_of seen c) (point_of start (settled.Log log) t) (reply.Reports report) e
      → ReportsMarked (asker_of seen c) (point_of start (settled.Log log) t) report × (e ≡ reported_ending report (point_of start (settled.Log log) t))
  marked_of_log start e ends = by (reports (asker_of seen c) (point_of start (settled.Log log) t) e report ends)
    where
      by : (ReportsBegun (asker_of seen c) (point_of start (settled.Log log) t) report × (e ≡ reported_ending report (record (point_of start (settled.Log log) t) { floor = None })))
          ⊎ (ReportsMarked (asker_of seen c) (point_of start (settled.Log log) t) report × (e ≡ reported_ending report (point_of start (settled.Log log) t)))
          → ReportsMarked (asker_of seen c) (point_of start (settled.Log log) t) report × (e ≡ reported_ending report (point_of start (settled.Log log) t))
      by (inl is) = absurd (apart report.log is.0.place place)
      by (inr is) = is

  -- nothing is left of a log that isn't reported so
  pub other_leaves : ((MayMark (stage_shape t.stage) × (untold_of c ≡ Fsck) × ReportAllowed report (host_of seen c t) (settled_log_state log)) → ⊥)
      → LeavesEndings given seen c (settled.Log log) t (reply.Reports report) (one None)
  other_leaves none start own e =
      (λ l. absurd (no_left start e l), λ ends. let is = (marked_of_log start e ends).0 in absurd (none (is.marks, is.cmd, is.fits)))

  -- what is left of one that is
  pub log_leaves : (m : ℕ) → reported_count report.log ≡ Some m → (MayMark (stage_shape t.stage) × (untold_of c ≡ Fsck) × ReportAllowed report (host_of seen c t) (settled_log_state log))
      → (lefts : Lefts) → IsShown log m t lefts → LeavesEndings given seen c (settled.Log log) t (reply.Reports report) lefts
  log_leaves m count is lefts shown = subst (LeavesEndings given seen c (settled.Log log) t (reply.Reports report)) (sym shown.is) (λ start own e. (
    λ l. marked_ends (asker_of seen c) (point_of start (settled.Log log) t) e report (record { marks = is.0; place = place; cmd = is.1; fits = is.2 }) (the_left start e _ l ∙ state start),
    λ ends. first (record { settled = settled.Log shown.shown; track = t }) refl ((marked_of_log start e ends).1 ∙ sym (state start)),
  ))
    where
      state : (start : Image) → ending_left start (settled.Log shown.shown) t ≡ reported_ending report (point_of start (settled.Log log) t)
      state start = ap (λ (s : State). let k : EndingState = record { state = s; floor = t.floor; wrote = option_map named_of t.wrote } in k)
          (shown.state ∙ ap (λ (o : Option ℕ). shows_count o (settled_log_state log)) (sym count))

-- Tests.

-- a place that isn't behind the mark
pub place_begun : (P : Type 0) (b : Bool) → P ⊎ IsTrue b → b ≡ Rattle.std.proofs.Common.false → P
place_begun P b (inl is) no_mark = is
place_begun P b (inr is) no_mark = absurd (Rattle.std.proofs.lemmas.Bool.true≢false (sym is ∙ no_mark))

-- the damage of what is no log
pub no_log : (given : GivenImage) (s : Settled) → (s ≡ settled.Given) ⊎ (s ≡ settled.Halted) → (d : past.Damage) × (Rattle.fam_judging.specs.ReplyKinds.damage_in given s ≡ Some d)
no_log given s (inl is) = (_, ap (Rattle.fam_judging.specs.ReplyKinds.damage_in given) is)
no_log given s (inr is) = (_, ap (Rattle.fam_judging.specs.ReplyKinds.damage_in given) is)

-- reports whose fields are the same
pub same_report : (a b : Report) → (a.superblock ≡ b.superblock) × (a.log ≡ b.log)
    → (a.files ≡ b.files) × (a.directories ≡ b.directories) × (a.used ≡ b.used) × (a.free ≡ b.free) × (a.past ≡ b.past) → (a.overlap ≡ b.overlap) × (a.bad ≡ b.bad) → a ≡ b
same_report a b states counts found =
    ap (λ x. let r : Report = record a { superblock = x } in r) states.0
    ∙ ap (λ x. let r : Report = record a { superblock = b.superblock; log = x } in r) states.1
    ∙ ap (λ x. let r : Report = record b { files = x; directories = a.directories; used = a.used; free = a.free; past = a.past; overlap = a.overlap; bad = a.bad } in r) counts.0
    ∙ ap (λ x. let r : Report = record b { directories = x; used = a.used; free = a.free; past = a.past; overlap = a.overlap; bad = a.bad } in r) counts.1
    ∙ ap (λ x. let r : Report = record b { used = x; free = a.free; past = a.past; overlap = a.overlap; bad = a.bad } in r) counts.2
    ∙ ap (λ x. let r : Report = record b { free = x; past = a.past; overlap = a.overlap; bad = a.bad } in r) counts.3
    ∙ ap (λ x. let r : Report = record b { past = x; overlap = a.overlap; bad = a.bad } in r) counts.4
    ∙ ap (λ x. let r : Report = record b { overlap = x; bad = a.bad } in r) found.0
    ∙ ap (λ x. let r : Report = record b { bad = x } in r) found.1
