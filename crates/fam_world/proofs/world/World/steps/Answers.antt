use Rattle.std.specs.Prelude.{IsErrOf, OnErr}
use Rattle.std.proofs.Common.{◌≡◌, Result, ◌++◌, ◌∷◌, [], List, Ok, Err, false, refl, ap, sym, subst, ◌∙◌, set, lt_of_lt_of_le}
use Rattle.std.proofs.lemmas.Option.{slice_get_read}
use Rattle.fam_media.specs.States.{change}
use Rattle.fam_journal.specs.Calls as call
use Rattle.fam_journal.specs.CallRecords.{FitsMedia}
use Rattle.fam_journal.specs.Notes.{Note, Refused}
use Rattle.fam_journal.specs.View.{WorldView}
use Rattle.fam_notes.specs.declared.note.Note.{Note as Kept}
use Rattle.fam_world.specs.Counted.{HostStepsSay, Iterated, StepsSay, WorldStep, host_standing, none, standing, told_of}
use Rattle.fam_world.specs.View.{host_view, notes_view, views, world_view}
use Rattle.fam_world.specs.declared.fault.WorldFault.{WorldFault}
use Rattle.fam_world.specs.declared.fault.WorldFault.TheVariants as fault
use Rattle.fam_world.proofs.Counting.{steps_said, told_full}
use Rattle.fam_world.proofs.Members.{map_at, map_set}
use Rattle.fam_world.proofs.Moving.{media_refused}
use Rattle.fam_world.proofs.Stepping.{step_refused}
use Rattle.fam_world.proofs.Untouched.{free_untouched}
use Rattle.fam_world.proofs.world.World.steps.Goals as goal

err_then : {T E P : Type 0} (r : Result T E) {e : E} → r ≡ Err e → OnErr r P → P
err_then (Ok x) is p = absurd cc
err_then (Err e) is p = p

pub returns-then-is_err-clause-says : goal.returns-then-is_err-clause-says
returns-then-is_err-clause-says g c = record {
  count = 0;
  within = c.requires.some;
  goes = subst (λ (w : WorldView). Iterated (WorldStep c.args.name.now (g.M.Media.size c.args.media.now) false)
      (standing g.M.Media.state c.args.media.now c.args.self.now) (standing g.M.Media.state c.args.media.now w) 0)
      (sym (ap (λ (j : List Note). record { hosts = views c.self.inside.hosts.items; journal = j }) (ap notes_view c.make_room.ensures.same) ∙ c.self.view_is)) none;
}

pub returns-in-Err-clause-says : goal.returns-in-Err-clause-says
returns-in-Err-clause-says g c =
    let old : WorldView = world_view c.self.inside.hosts.items c.self.inside.journal.items in
    let new : WorldView = world_view c.self.inside.hosts.items c.refused.new.journal.items in
    let size = g.M.Media.size c.args.media.now in
    let refused = c.in-Err.ensures.placed size old.journal in
    subst (λ (w : WorldView). StepsSay c.args.name.now size c.args.most (standing g.M.Media.state c.args.media.now w)
    (standing g.M.Media.state c.args.media.now new) (Err c.refused.result)) c.self.view_is
    (subst (λ (f : WorldFault). StepsSay c.args.name.now size c.args.most (standing g.M.Media.state c.args.media.now old)
    (standing g.M.Media.state c.args.media.now new) (Err f)) (sym c.refused.ensures.given)
    (step_refused c.args.name.now size old new c.in-Err.cause (g.M.Media.state c.args.media.now).image (g.M.Media.state c.args.media.now).faults refused.first
    (media_refused (call.Steps c.args.name.now) tt tt size (g.M.Media.state c.args.media.now).image (g.M.Media.state c.args.media.now).faults old new
    c.in-Err.cause (g.met.M.Media.modelled c.args.media.now) refused refl
    (c.refused.ensures.noted ∙ ap (λ (xs : List Kept). notes_view xs ++ Refused c.args.name.now c.in-Err.cause ∷ []) c.make_room.ensures.same))))

pub returns-clause-says : goal.returns-clause-says
returns-clause-says g c =
    let items = c.self.inside.hosts.items in
    let old : WorldView = world_view items c.self.inside.journal.items in
    let size = g.M.Media.size c.args.media.now in
    let at = c.in-Ok.at in
    let x = c.index_mut.result.now in
    let y = c.steps_of.new.host in
    let at_is = slice_get_read items c.self.inside.hosts.len at x c.self.inside.hosts.ok.0 c.in-Ok.ensures.within c.index_mut.ensures.value in
    let free = c.in-Ok.ensures.placed size old.journal in
    let new : WorldView = world_view (set items at y) c.steps_of.new.journal.items in
    let said : StepsSay c.args.name.now size c.args.most (standing g.M.Media.state c.args.media.now old) (standing g.M.Media.state c.steps_of.new.media new) (told_of c.steps_of.result) =
    steps_said c.args.name.now at size old (host_view x) free.number (map_at host_view items at x at_is) free.within c.args.most
    (change g.M.Media.state c.args.media.now c.steps_of.new.media) new (host_view y)
    c.steps_of.result (map_set host_view (λ v. host_view y) items at y x at_is refl)
    (subst (λ (j : List Note). HostStepsSay at size c.args.most (host_standing g.M.Media.state c.args.media.now (host_view x) j)
    (host_standing g.M.Media.state c.steps_of.new.media (host_view y) (notes_view c.steps_of.new.journal.items)) c.steps_of.result) (ap notes_view c.make_room.ensures.same) c.steps_of.ensures.says) in
    let told : StepsSay c.args.name.now size c.args.most (standing g.M.Media.state c.args.media.now old)
    (standing g.M.Media.state c.steps_of.new.media new) c.or_fault.result =
    subst (StepsSay c.args.name.now size c.args.most (standing g.M.Media.state c.args.media.now old)
    (standing g.M.Media.state c.steps_of.new.media new)) (sym c.or_fault.ensures) said in
    subst (λ (w : WorldView). StepsSay c.args.name.now size c.args.most (standing g.M.Media.state c.args.media.now w)
    (standing g.M.Media.state c.steps_of.new.media new) c.or_fault.result) c.self.view_is told

pub returns-clause-undone : goal.returns-clause-undone
returns-clause-undone g c = λ one full.
    err_then c.steps_of.result (told_full c.steps_of.result (subst (λ r. IsErrOf r fault.OutOfMemory) c.or_fault.ensures full)) (c.steps_of.ensures.undone one)

pub steps_of-requires : goal.steps_of-requires
steps_of-requires g c =
    let items = c.self.inside.hosts.items in
    let x = c.index_mut.result.now in
    let at_is = slice_get_read items c.self.inside.hosts.len c.in-Ok.at x c.self.inside.hosts.ok.0 c.in-Ok.ensures.within c.index_mut.ensures.value in
    let view_is = map_at host_view items c.in-Ok.at x at_is in
    let fits = subst (λ (w : WorldView). FitsMedia (g.M.Media.size c.args.media.now) w.hosts) (sym c.self.view_is) c.requires.fits c.in-Ok.at (host_view x) view_is in
    record {
      runs = c.in-Ok.ensures.runs (host_view x) view_is;
      fits = fits.task;
      cached = record { below = fits.cache };
      few = lt_of_lt_of_le c.in-Ok.ensures.within c.self.invariant;
    }

pub returns-clause-untouched : goal.returns-clause-untouched
returns-clause-untouched g c =
    let old : WorldView = world_view c.self.inside.hosts.items c.self.inside.journal.items in
    let size = g.M.Media.size c.args.media.now in
    free_untouched (call.Steps c.args.name.now) size c.in-Ok.at old c.args.self.now c.args.media.now c.steps_of.new.media (c.in-Ok.ensures.placed size old.journal) c.self.view_is

pub returns-then-is_err-clause-untouched : goal.returns-then-is_err-clause-untouched
returns-then-is_err-clause-untouched g c = λ cause is. refl

pub returns-in-Err-clause-untouched : goal.returns-in-Err-clause-untouched
returns-in-Err-clause-untouched g c = λ cause is. refl

pub returns-then-is_err-clause-size : goal.returns-then-is_err-clause-size
returns-then-is_err-clause-size g c = refl

pub returns-in-Err-clause-size : goal.returns-in-Err-clause-size
returns-in-Err-clause-size g c = refl

pub returns-then-is_err-clause-undone : goal.returns-then-is_err-clause-undone
returns-then-is_err-clause-undone g c = λ one full. refl

pub returns-in-Err-clause-undone : goal.returns-in-Err-clause-undone
returns-in-Err-clause-undone g c = λ one full. refl

pub returns-clause-size : goal.returns-clause-size
returns-clause-size g c = c.steps_of.ensures.size
