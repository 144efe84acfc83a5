use Rattle.std.proofs.Common.{◌≡◌, ◌<◌, false, true, Result, ℕ, [], List, length, Some, None, Ok, Err, inl, refl, ap, sym, subst, ◌∙◌, arith, vec_len}
use Rattle.std.specs.Prelude.{OnErr, OnOk, vec_capacity}
use Rattle.std.specs.Result.{is_err}
use Rattle.fam_cache.specs.Operations.{SendsWithin}
use Rattle.fam_cache.specs.States.{CacheState}
use Rattle.fam_commands.specs.Task.{op_of}
use Rattle.fam_media.specs.Outside.{IfModelled}
use Rattle.fam_media.specs.States.{MediaChange, change}
use Rattle.fam_run.specs.Led.{HasDone}
use Rattle.fam_run.specs.Runs.{HasAdvanced, HasRun, later}
use Rattle.fam_run.specs.Operation.{IsUndone, said_of}
use Rattle.fam_run.specs.Places.{HasPlaces, PlacesMade}
use Rattle.fam_run.specs.TaskChange.{TaskChange, task_change}
use Rattle.fam_run.proofs.Cached.{cached_left, cached_lines}
use Rattle.fam_run.proofs.Led.{led_left, led_lines}
use Rattle.fam_run.proofs.SentLeft.{sent_left, sent_lines}
use Rattle.fam_run.proofs.Running.{kept_on, lines_kept}
use Rattle.fam_run.proofs.Shown.{over}
use Rattle.fam_journal.specs.Notes.{Note}
use Rattle.fam_journal.specs.View.{HostView}
use Rattle.fam_world.specs.Counted.{HostStanding, HostStep, Iterated, SomeSteps, none, task_standing}
use Rattle.fam_world.specs.Turns.{IsNoted}
use Rattle.fam_world.specs.View.{notes_view}
use Rattle.fam_world.proofs.Counting.{ends_behind, held_steps, runs_all, runs_both}
use Rattle.fam_world.proofs.Following.{Followed, FollowedOn, Follows, followed, followed_on, follows_own, follows_shed, own_shown, runs_still, sends_within}
use Rattle.fam_world.proofs.TaskSteps.{all_end, all_go, lacked, runs_below, went}
use Rattle.fam_world.proofs.UpToOn.{full_same, held_safe, lacks_same, run_safe}
use Rattle.fam_world.proofs.run.run_up.Goals as goal

ok_then : {T E P : Type 0} (r : Result T E) → is_err r ≡ false → OnOk r P → P
ok_then (Ok x) is p = p
ok_then (Err e) is p = absurd cc

err_then : {T E P : Type 0} (r : Result T E) → is_err r ≡ true → OnErr r P → P
err_then (Ok x) is p = absurd cc
err_then (Err e) is p = p

pub operations-init : goal.operations-init
operations-init g c = record {
  over = record {
    shown = c.args.cache.now;
    far = λ view. record { count = 0; goes = none };
    follows = follows_own c.args.forgets c.args.task.now c.args.cache.now c.requires.reads;
    cached = c.requires.cached;
    safe = λ start. inl (start.0, λ image is. (is, start.1));
  };
  tries = λ is. is;
  turn = refl;
  size = refl;
  fits = c.requires.fits;
}

pub advance-requires : goal.advance-requires
advance-requires g c =
    let inv = c.operations.invariant in
    let real : CacheState = c.shed-tries.new.cache in
    let on : Follows c.args.forgets c.operations.task real inv.over.shown =
    follows_shed c.args.forgets c.operations.tries c.operations.task c.operations.cache real inv.over.shown inv.tries c.shed-tries.ensures.shows
    (λ is. (c.shed-tries.ensures.still is).1) inv.over.follows in
    record {
      go = inv.turn;
      lines = inv.fits ∙ sym inv.size;
      asked = subst (λ (n : ℕ). SendsWithin (op_of c.operations.task) n real.lines) (sym inv.size)
          (sends_within c.args.forgets c.operations.task (g.M.Media.size c.args.media.now) real inv.over.shown on inv.over.cached);
    }

pub operations-smaller : goal.operations-smaller
operations-smaller g c =
    let m = g.M.Media in
    let b : TaskChange = task_change m.size m.state c.operations.task c.advance.new.task c.shed-tries.new.cache c.advance.new.cache c.operations.media c.advance.new.media in
    let w = went c.args.host.0 (said_of c.advance.result c.advance.new.turn) _ _ c.note_turn.result c.note_turn.ensures.noted (c.in-Ok-Going.is ∙ ap Ok c.in-Ok-Going.field-0-is) in
    let ran : HasRun b w.said = subst (HasAdvanced b) w.is c.advance.ensures.advanced in
    let done : HasDone (later b ran.mid ran.task ran.held) w.said = ran.done in
    let fell = (kept_on b.new done.task b.next w.said w.on done.sound done.goes).falls c.is_sound.ensures.stands in
    let up_to = led_left ran.mid ran.task done.task ran.held done.held done.led done.sound in
    let sent = sent_left b.media.old.image ran.mid b.task ran.task b.old ran.held ran.sent in
    let near = cached_left c.advance.new.task c.operate_cached.new.task c.advance.new.cache.lines c.operate_cached.new.cache.lines c.operate_cached.ensures.run c.is_sound-in-Ok-Going.ensures in
    omega (arith, fell, up_to, sent, near)

pub operations-preserved : goal.operations-preserved
operations-preserved g c =
    let m = g.M.Media in
    let inv = c.operations.invariant in
    let size = m.size c.args.media.now in
    let at = c.args.host.0 in
    let forgets = c.args.forgets in
    let task = c.operations.task in
    let real : CacheState = c.shed-tries.new.cache in
    let shown : CacheState = inv.over.shown in
    let next = c.advance.new in
    let z = c.operate_cached.new in
    let media : MediaChange = change m.state c.operations.media next.media in
    let r = said_of c.advance.result c.advance.new.turn in
    let b : TaskChange = task_change m.size m.state task next.task real next.cache c.operations.media next.media in
    let is = c.in-Ok-Going.is ∙ ap Ok c.in-Ok-Going.field-0-is in
    let notes : List Note = notes_view c.operations.journal.items in
    let notes_now : List Note = notes_view c.note_turn.new.journal.items in
    let noted : IsNoted at r notes notes_now c.note_turn.result =
    subst (λ (j : List Note). IsNoted at r j notes_now c.note_turn.result) (ap notes_view c.make_room.ensures.same) c.note_turn.ensures.noted in
    let same_size : m.size next.media ≡ size = c.advance.ensures.steady.size ∙ inv.size in
    let modelled : IfModelled (m.state c.operations.media).image (λ image. length image ≡ size) = λ i told. g.met.M.Media.modelled c.operations.media i told ∙ inv.size in
    let w = went at r notes notes_now c.note_turn.result noted is in
    let own : HasRun b w.said = subst (HasAdvanced b) w.is c.advance.ensures.advanced in
    let done : HasDone (later b own.mid own.task own.held) w.said = own.done in
    let fits : next.task.lines ≡ size =
    lines_kept b.new done.task b.next w.said done.sound done.goes w.on ∙ led_lines own.mid own.task done.task own.held done.held done.led
    ∙ sent_lines b.media.old.image own.mid b.task own.task b.old own.held own.sent ∙ inv.fits in
    let on : Follows forgets task real shown =
    follows_shed forgets c.operations.tries task c.operations.cache real shown inv.tries c.shed-tries.ensures.shows (λ is. (c.shed-tries.ensures.still is).1) inv.over.follows in
    let x : Followed task next.task real next.cache shown (m.size c.operations.media) media forgets r =
    followed task next.task real next.cache shown (m.size c.operations.media) media forgets r c.advance.ensures.advanced c.advance.ensures.places on in
    let told : TaskChange = over b shown.lines x.after.lines in
    let ran : HasRun told w.said = subst (HasAdvanced told) w.is x.advanced in
    let y : FollowedOn forgets next.task z.task z.cache x.after c.operate_cached.result =
    followed_on forgets next.task z.task next.cache z.cache x.after c.operate_cached.ensures.run c.operate_cached.ensures.places (x.follows w.said w.is w.on) in
    let here : HostView → HostStanding = λ view. task_standing m.state c.operations.media view (Some task) task.kept shown notes in
    let mid : HostView → HostStanding = λ view. task_standing m.state next.media view (Some next.task) next.task.kept x.after notes_now in
    let end : HostView → HostStanding = λ view. task_standing m.state next.media view (Some z.task) z.task.kept y.after notes_now in
    let all : (view : HostView) → SomeSteps at size (here view) (mid view) = λ view.
    all_go at size view told r notes notes_now c.note_turn.result noted modelled inv.fits c.advance.ensures.steady.later x.advanced is in
    let held : (view : HostView) → Iterated (HostStep at size false) (mid view) (end view) c.operate_cached.result = λ view.
    held_steps at size view notes_now (m.state next.media) (g.met.M.Media.normal next.media) (λ i told_is. g.met.M.Media.modelled next.media i told_is ∙ same_size)
    next.task z.task x.after.lines y.after.lines y.ran fits in
    let nobody : HostView = record { name = []; uuid = []; cache = shown.lines; task = None; kept = None } in
    let places : PlacesMade task shown next.task x.after (Ok w.said) = subst (PlacesMade task shown next.task x.after) w.is x.places in
    record {
      over = record {
        shown = y.after;
        far = λ view. runs_all at size _ (here view) (end view) (inv.over.far view) (runs_both at size (here view) (mid view) (end view) (all view) (held view));
        follows = y.follows;
        cached = record { below = runs_below at size (here nobody) (end nobody) (runs_both at size (here nobody) (mid nobody) (end nobody) (all nobody) (held nobody)) inv.over.cached.below };
        safe = λ start.
            held_safe next.task z.task x.after y.after (m.state c.args.media.now).image (m.state next.media).image (vec_len c.note_turn.new.journal) (vec_capacity c.note_turn.new.journal)
            y.ran y.places c.operate_cached.ensures.idle
            (run_safe told w.said (m.state c.args.media.now).image shown x.after _ _ (vec_len c.note_turn.new.journal) (vec_capacity c.note_turn.new.journal)
            w.on ran (g.met.M.Media.normal c.operations.media) refl refl (places w.on)
            (λ go. subst (λ j. vec_len j < vec_capacity j) (sym (c.note_turn.ensures.quiet (w.is ∙ ap Ok go))) (ok_then c.make_room.result (sym c.if-is_err.ensures.value) c.make_room.ensures.room))
            (inv.over.safe start));
      };
      tries = λ is. (c.shed-tries.ensures.still (inv.tries is)).0;
      turn = c.note_turn.ensures.go is;
      size = same_size;
      fits = cached_lines next.task z.task next.cache.lines z.cache.lines c.operate_cached.ensures.run ∙ fits;
    }

pub returns-then-is_err-clause-runs : goal.returns-then-is_err-clause-runs
returns-then-is_err-clause-runs g c = λ view.
    let m = g.M.Media in
    let inv = c.operations.invariant in
    record {
      up = record {
        shown = inv.over.shown;
        runs = subst (λ (j : List Note). SomeSteps c.args.host.0 (m.size c.args.media.now)
            (task_standing m.state c.args.media.now view (Some c.args.task.now) c.args.task.now.kept c.args.cache.now (notes_view c.args.journal.now.items))
            (task_standing m.state c.operations.media view (Some c.operations.task) c.operations.task.kept inv.over.shown j)) (sym (ap notes_view c.make_room.ensures.same)) (inv.over.far view);
      };
      same = own_shown c.args.forgets c.operations.task c.operations.cache inv.over.shown inv.over.follows;
    }

pub returns-then-is_err-clause-same : goal.returns-then-is_err-clause-same
returns-then-is_err-clause-same g c = λ start.
    let inv = c.operations.invariant in
    full_same (g.M.Media.state c.args.media.now).image (g.M.Media.state c.operations.media).image c.operations.task inv.over.shown
    (vec_len c.operations.journal) (vec_capacity c.operations.journal)
    (err_then c.make_room.result (sym c.if-is_err.ensures.value) c.make_room.ensures.full) (inv.over.safe start)

pub returns-in-Ok-Answered-clause-runs : goal.returns-in-Ok-Answered-clause-runs
returns-in-Ok-Answered-clause-runs g c = λ view.
    let m = g.M.Media in
    let inv = c.operations.invariant in
    let size = m.size c.args.media.now in
    let at = c.args.host.0 in
    let forgets = c.args.forgets in
    let task = c.operations.task in
    let real : CacheState = c.shed-tries.new.cache in
    let shown : CacheState = inv.over.shown in
    let next = c.advance.new in
    let media : MediaChange = change m.state c.operations.media next.media in
    let r = said_of c.advance.result c.advance.new.turn in
    let b : TaskChange = task_change m.size m.state task next.task real next.cache c.operations.media next.media in
    let notes : List Note = notes_view c.operations.journal.items in
    let notes_now : List Note = notes_view c.note_turn.new.journal.items in
    let noted : IsNoted at r notes notes_now c.note_turn.result =
    subst (λ (j : List Note). IsNoted at r j notes_now c.note_turn.result) (ap notes_view c.make_room.ensures.same) c.note_turn.ensures.noted in
    let modelled : IfModelled (m.state c.operations.media).image (λ image. length image ≡ size) = λ i told. g.met.M.Media.modelled c.operations.media i told ∙ inv.size in
    let on : Follows forgets task real shown =
    follows_shed forgets c.operations.tries task c.operations.cache real shown inv.tries c.shed-tries.ensures.shows (λ is. (c.shed-tries.ensures.still is).1) inv.over.follows in
    let x : Followed task next.task real next.cache shown (m.size c.operations.media) media forgets r =
    followed task next.task real next.cache shown (m.size c.operations.media) media forgets r c.advance.ensures.advanced c.advance.ensures.places on in
    record {
      up = record {
        shown = x.after;
        runs = ends_behind at size view _ (task_standing m.state c.operations.media view (Some task) task.kept shown notes) _ (inv.over.far view)
            (all_end at size view (over b shown.lines x.after.lines) r notes notes_now c.note_turn.result noted modelled inv.fits
            c.advance.ensures.steady.later x.advanced (c.in-Ok-Answered.is ∙ ap Ok c.in-Ok-Answered.field-0-is));
      };
      same = x.same;
    }

pub returns-in-Err-clause-runs : goal.returns-in-Err-clause-runs
returns-in-Err-clause-runs g c = λ view.
    let m = g.M.Media in
    let inv = c.operations.invariant in
    let size = m.size c.args.media.now in
    let at = c.args.host.0 in
    let forgets = c.args.forgets in
    let task = c.operations.task in
    let real : CacheState = c.shed-tries.new.cache in
    let shown : CacheState = inv.over.shown in
    let next = c.advance.new in
    let media : MediaChange = change m.state c.operations.media next.media in
    let r = said_of c.advance.result c.advance.new.turn in
    let b : TaskChange = task_change m.size m.state task next.task real next.cache c.operations.media next.media in
    let full = lacked at r (notes_view c.make_room.new.journal.items) (notes_view c.note_turn.new.journal.items) c.note_turn.result c.in-Err.field-0 c.note_turn.ensures.noted c.in-Err.is in
    let on : Follows forgets task real shown =
    follows_shed forgets c.operations.tries task c.operations.cache real shown inv.tries c.shed-tries.ensures.shows (λ is. (c.shed-tries.ensures.still is).1) inv.over.follows in
    let x : Followed task next.task real next.cache shown (m.size c.operations.media) media forgets r =
    followed task next.task real next.cache shown (m.size c.operations.media) media forgets r c.advance.ensures.advanced c.advance.ensures.places on in
    let told : TaskChange = over b shown.lines x.after.lines in
    let undone : IsUndone told = subst (HasAdvanced told) full.0 x.advanced in
    let start : HostStanding = task_standing m.state c.args.media.now view (Some c.args.task.now) c.args.task.now.kept c.args.cache.now (notes_view c.args.journal.now.items) in
    record {
      up = record {
        shown = x.after;
        runs = runs_still at size start view told (notes_view c.operations.journal.items) (notes_view c.note_turn.new.journal.items) undone
            (full.1 ∙ ap notes_view c.make_room.ensures.same) (inv.over.far view);
      };
      same = x.same;
    }

pub returns-in-Err-clause-same : goal.returns-in-Err-clause-same
returns-in-Err-clause-same g c = λ start.
    let m = g.M.Media in
    let inv = c.operations.invariant in
    let forgets = c.args.forgets in
    let task = c.operations.task in
    let real : CacheState = c.shed-tries.new.cache in
    let shown : CacheState = inv.over.shown in
    let next = c.advance.new in
    let media : MediaChange = change m.state c.operations.media next.media in
    let r = said_of c.advance.result c.advance.new.turn in
    let b : TaskChange = task_change m.size m.state task next.task real next.cache c.operations.media next.media in
    let full = lacked c.args.host.0 r (notes_view c.make_room.new.journal.items) (notes_view c.note_turn.new.journal.items) c.note_turn.result c.in-Err.field-0 c.note_turn.ensures.noted c.in-Err.is in
    let undone : IsUndone b = subst (HasAdvanced b) full.0 c.advance.ensures.advanced in
    let on : Follows forgets task real shown =
    follows_shed forgets c.operations.tries task c.operations.cache real shown inv.tries c.shed-tries.ensures.shows (λ is. (c.shed-tries.ensures.still is).1) inv.over.follows in
    let x : Followed task next.task real next.cache shown (m.size c.operations.media) media forgets r =
    followed task next.task real next.cache shown (m.size c.operations.media) media forgets r c.advance.ensures.advanced c.advance.ensures.places on in
    let lacks : ¬ (HasPlaces task shown) = subst (PlacesMade task shown next.task x.after) full.0 x.places in
    λ image told. ap (λ s. s.image) undone.media ∙ lacks_same (m.state c.args.media.now).image (m.state c.operations.media).image task shown
    (vec_len c.operations.journal) (vec_capacity c.operations.journal) lacks (inv.over.safe start) image told
