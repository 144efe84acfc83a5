use Rattle.std.proofs.Common.{◌≡◌, ◌+◌, ◌<◌, false, suc, ℕ, [], List, length, Some, None, Ok, refl, ap, sym, subst, ◌∙◌, arith, ◌-◌, ◌≤◌, le_antisymm}
use Rattle.fam_world.proofs.Sends.{held_sends}
use Rattle.fam_commands.specs.Task.{op_of}
use Rattle.fam_media.specs.Outside.{IfModelled}
use Rattle.fam_run.specs.Operation.{IsDone, IsUndone, Operated, said_of}
use Rattle.fam_run.proofs.Operated.{said_full}
use Rattle.fam_run.specs.TaskChange.{TaskChange, task_change}
use Rattle.fam_run.proofs.Cached.{cached_lines}
use Rattle.fam_journal.specs.Notes.{Note}
use Rattle.fam_journal.specs.View.{HostView}
use Rattle.fam_world.specs.Counted.{HostStanding, HostStep, Iterated, more, none, task_standing}
use Rattle.fam_world.specs.Turns.{IsNoted}
use Rattle.fam_world.specs.View.{notes_view}
use Rattle.fam_world.proofs.Counting.{held_steps}
use Rattle.fam_world.proofs.TaskSteps.{iterated_both, lacked, one_ends, one_goes, stands_still, steps_below, went}
use Rattle.fam_world.proofs.run.run_most.Goals as goal

-- counts of operations
one_more : (done k : ℕ) → suc done + k ≡ done + 1 + k
one_more done k = omega arith

all_within : (done k most : ℕ) → done < most → k ≤ most - (done + 1) → done + 1 + k ≤ most
all_within done k most less left = omega arith

some_done : (done k : ℕ) → done + 1 + k ≡ 0 → ⊥
some_done done k zero = omega arith

none_done : (done most : ℕ) → done < most → most ≡ 1 → done ≡ 0
none_done done most less one = omega arith

pub operations-init : goal.operations-init
operations-init g c = record {
  far = λ view. none;
  turn = refl;
  size = refl;
  within = omega arith;
  fits = c.requires.fits;
  cached = c.requires.cached;
  first = λ start. refl;
}

pub operate-requires : goal.operate-requires
operate-requires g c =
    let inv = c.operations.invariant in
    record {
      go = inv.turn;
      lines = inv.fits ∙ sym inv.size;
      asked = held_sends (op_of c.operations.task) (g.M.Media.size c.operations.media) c.operations.cache.lines (λ l is. subst (λ (n : ℕ). l < n) (sym inv.size) (inv.cached.below l is));
    }

pub operations-preserved : goal.operations-preserved
operations-preserved g c =
    let m = g.M.Media in
    let inv = c.operations.invariant in
    let size = m.size c.args.media.now in
    let at = c.args.host.0 in
    let b : TaskChange = task_change m.size m.state c.operations.task c.operate.new.task c.operations.cache c.operate.new.cache c.operations.media c.operate.new.media in
    let is = c.in-Ok-Going.is ∙ ap Ok c.in-Ok-Going.field-0-is in
    let notes : List Note = notes_view c.operations.journal.items in
    let notes_now : List Note = notes_view c.note_turn.new.journal.items in
    let noted : IsNoted at (said_of c.operate.result c.operate.new.turn) notes notes_now c.note_turn.result =
    subst (λ (j : List Note). IsNoted at (said_of c.operate.result c.operate.new.turn) j notes_now c.note_turn.result) (ap notes_view c.make_room.ensures.same) c.note_turn.ensures.noted in
    let same_size : m.size c.operate.new.media ≡ size = c.operate.ensures.steady.size ∙ inv.size in
    let modelled : IfModelled (m.state c.operations.media).image (λ image. length image ≡ size) = λ i told. g.met.M.Media.modelled c.operations.media i told ∙ inv.size in
    let w = went at (said_of c.operate.result c.operate.new.turn) notes notes_now c.note_turn.result noted is in
    let done : IsDone b w.said = subst (Operated b) w.is c.operate.ensures.operated in
    let fits : c.operate.new.task.lines ≡ size = done.keeps w.on ∙ inv.fits in
    let z = c.operate_cached-done.new in
    let k = c.operate_cached-done.result in
    let here : HostView → HostStanding = λ view. task_standing m.state c.operations.media view (Some c.operations.task) c.operations.task.kept c.operations.cache notes in
    let mid : HostView → HostStanding = λ view. task_standing m.state c.operate.new.media view (Some c.operate.new.task) c.operate.new.task.kept c.operate.new.cache notes_now in
    let end : HostView → HostStanding = λ view. task_standing m.state c.operate.new.media view (Some z.task) z.task.kept z.cache notes_now in
    let one : (view : HostView) → HostStep at size false (here view) (mid view) = λ view.
    one_goes at size view b (said_of c.operate.result c.operate.new.turn) notes notes_now c.note_turn.result noted modelled inv.fits c.operate.ensures.steady.later c.operate.ensures.operated is in
    let held : (view : HostView) → Iterated (HostStep at size false) (mid view) (end view) k = λ view.
    held_steps at size view notes_now (m.state c.operate.new.media) (g.met.M.Media.normal c.operate.new.media) (λ i told. g.met.M.Media.modelled c.operate.new.media i told ∙ same_size)
    c.operate.new.task z.task c.operate.new.cache.lines z.cache.lines c.operate_cached-done.ensures.run fits in
    let nobody : HostView = record { name = []; uuid = []; cache = c.operations.cache.lines; task = None; kept = None } in
    let most_left = c.operate_cached-done.ensures.most in
    let less = c.operations-test.true in
    let count : suc c.operations.done + k ≡ c.operations.done + 1 + k = one_more c.operations.done k in
    record {
      far = λ view. (
          let start : HostStanding = task_standing m.state c.args.media.now view (Some c.args.task.now) c.args.task.now.kept c.args.cache.now (notes_view c.args.journal.now.items) in
          subst (Iterated (HostStep at size false) start (end view)) count
          (iterated_both (HostStep at size false) start (mid view) (end view) (suc c.operations.done) k (more (inv.far view) (one view)) (held view))
          );
      turn = c.note_turn.ensures.go is;
      size = same_size;
      within = all_within c.operations.done k c.args.most less most_left;
      fits = cached_lines c.operate.new.task z.task c.operate.new.cache.lines z.cache.lines c.operate_cached-done.ensures.run ∙ fits;
      cached = record {
        below = steps_below at size (here nobody) (end nobody)
            (iterated_both (HostStep at size false) (here nobody) (mid nobody) (end nobody) 1 k (more none (one nobody)) (held nobody)) inv.cached.below;
      };
      first = λ zero. absurd (some_done c.operations.done k zero);
    }

pub returns-then-is_err-clause-says : goal.returns-then-is_err-clause-says
returns-then-is_err-clause-says g c = λ view.
    let m = g.M.Media in
    let less = c.operations-test.true in
    record {
      count = c.operations.done;
      within = less;
      goes = subst (λ (j : List Note). Iterated (HostStep c.args.host.0 (m.size c.args.media.now) false)
          (task_standing m.state c.args.media.now view (Some c.args.task.now) c.args.task.now.kept c.args.cache.now (notes_view c.args.journal.now.items))
          (task_standing m.state c.operations.media view (Some c.operations.task) c.operations.task.kept c.operations.cache j) c.operations.done)
          (sym (ap notes_view c.make_room.ensures.same)) (c.operations.invariant.far view);
    }

pub returns-then-is_err-clause-undone : goal.returns-then-is_err-clause-undone
returns-then-is_err-clause-undone g c = λ one.
    let less = c.operations-test.true in
    c.operations.invariant.first (none_done c.operations.done c.args.most less one)

pub returns-in-Ok-Answered-clause-says : goal.returns-in-Ok-Answered-clause-says
returns-in-Ok-Answered-clause-says g c = λ view.
    let m = g.M.Media in
    let inv = c.operations.invariant in
    let size = m.size c.args.media.now in
    let at = c.args.host.0 in
    let b : TaskChange = task_change m.size m.state c.operations.task c.operate.new.task c.operations.cache c.operate.new.cache c.operations.media c.operate.new.media in
    let notes : List Note = notes_view c.operations.journal.items in
    let notes_now : List Note = notes_view c.note_turn.new.journal.items in
    let noted : IsNoted at (said_of c.operate.result c.operate.new.turn) notes notes_now c.note_turn.result =
    subst (λ (j : List Note). IsNoted at (said_of c.operate.result c.operate.new.turn) j notes_now c.note_turn.result) (ap notes_view c.make_room.ensures.same) c.note_turn.ensures.noted in
    let modelled : IfModelled (m.state c.operations.media).image (λ image. length image ≡ size) = λ i told. g.met.M.Media.modelled c.operations.media i told ∙ inv.size in
    let less = c.operations-test.true in
    record {
      before = task_standing m.state c.operations.media view (Some c.operations.task) c.operations.task.kept c.operations.cache notes;
      count = c.operations.done;
      within = less;
      goes = inv.far view;
      ends = one_ends at size view b (said_of c.operate.result c.operate.new.turn) notes notes_now c.note_turn.result noted modelled inv.fits
          c.operate.ensures.steady.later c.operate.ensures.operated (c.in-Ok-Answered.is ∙ ap Ok c.in-Ok-Answered.field-0-is);
    }

pub returns-in-Err-clause-says : goal.returns-in-Err-clause-says
returns-in-Err-clause-says g c = λ view.
    let m = g.M.Media in
    let inv = c.operations.invariant in
    let less = c.operations-test.true in
    let size = m.size c.args.media.now in
    let at = c.args.host.0 in
    let b : TaskChange = task_change m.size m.state c.operations.task c.operate.new.task c.operations.cache c.operate.new.cache c.operations.media c.operate.new.media in
    let full = lacked at (said_of c.operate.result c.operate.new.turn) (notes_view c.make_room.new.journal.items)
    (notes_view c.note_turn.new.journal.items) c.note_turn.result c.in-Err.field-0 c.note_turn.ensures.noted c.in-Err.is in
    let undone : IsUndone b = subst (Operated b) full.0 c.operate.ensures.operated in
    let start : HostStanding = task_standing m.state c.args.media.now view (Some c.args.task.now) c.args.task.now.kept c.args.cache.now (notes_view c.args.journal.now.items) in
    let here : HostStanding = task_standing m.state c.operations.media view (Some c.operations.task) c.operations.task.kept c.operations.cache (notes_view c.operations.journal.items) in
    let same : here ≡ task_standing m.state c.operate.new.media view (Some c.operate.new.task) c.operate.new.task.kept c.operate.new.cache (notes_view c.note_turn.new.journal.items) =
    sym (stands_still view b (notes_view c.operations.journal.items) (notes_view c.note_turn.new.journal.items) undone (full.1 ∙ ap notes_view c.make_room.ensures.same)) in
    record {
      count = c.operations.done;
      within = less;
      goes = subst (λ (s : HostStanding). Iterated (HostStep at size false) start s c.operations.done) same (inv.far view);
    }

pub returns-in-Err-clause-undone : goal.returns-in-Err-clause-undone
returns-in-Err-clause-undone g c = λ one.
    let less = c.operations-test.true in
    let full = lacked c.args.host.0 (said_of c.operate.result c.operate.new.turn) (notes_view c.make_room.new.journal.items)
    (notes_view c.note_turn.new.journal.items) c.note_turn.result c.in-Err.field-0 c.note_turn.ensures.noted c.in-Err.is in
    c.operate.ensures.undone (said_full c.operate.result c.operate.new.turn full.0) ∙ c.operations.invariant.first (none_done c.operations.done c.args.most less one)

pub returns-clause-says : goal.returns-clause-says
returns-clause-says g c = λ view.
    let m = g.M.Media in
    let done = c.operations-test.false in
    let within = c.operations.invariant.within in
    let all : c.operations.done ≡ c.args.most = le_antisymm within done in
    subst (Iterated (HostStep c.args.host.0 (m.size c.args.media.now) false)
    (task_standing m.state c.args.media.now view (Some c.args.task.now) c.args.task.now.kept c.args.cache.now (notes_view c.args.journal.now.items))
    (task_standing m.state c.operations.media view (Some c.operations.task) c.operations.task.kept c.operations.cache (notes_view c.operations.journal.items))) all (c.operations.invariant.far view)
