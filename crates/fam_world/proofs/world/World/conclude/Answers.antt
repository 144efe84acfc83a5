use Rattle.std.proofs.Common.{◌≡◌, ◌++◌, ◌∷◌, [], List, Option, None, Some, Result, Ok, Err, set, refl, ap, sym, subst, ◌∙◌, true, lt_of_lt_of_le}
use Rattle.fam_media.specs.States.{MediaChange, change}
use Rattle.std.specs.Prelude.{IfSome, OnErr, is_some}
use Rattle.fam_world.specs.declared.fault.WorldFault.{WorldFault}
use Rattle.std.proofs.lemmas.Option.{slice_get_read}
use Rattle.fam_commands.specs.FirstStore.{IsUnstored}
use Rattle.fam_commands.specs.Task.{Task}
use Rattle.fam_machine.specs.Caches.{Cache}
use Rattle.fam_cache.specs.States.{CacheState}
use Rattle.fam_journal.specs.Calls as call
use Rattle.fam_journal.specs.CallRecords.{FinishOutOfMemory, FitsMedia, IsUnstoredAt, MediaCall}
use Rattle.fam_journal.specs.Notes.{Note, Refused}
use Rattle.fam_journal.specs.View.{WorldView}
use Rattle.fam_notes.specs.declared.note.Note.{Note as Kept}
use Rattle.fam_world.specs.Answers.{IfAnswered, IsRefused}
use Rattle.fam_world.specs.Concluded.{HasConcluded, ReadsOf, ShownUp, with_cache}
use Rattle.fam_world.specs.Counted.{host_standing, told_of}
use Rattle.fam_world.specs.View.{host_view, notes_view, world_view}
use Rattle.fam_world.proofs.Forgotten.{concluded}
use Rattle.fam_world.proofs.Finishing.{finish_nothing, finishes_as_steps}
use Rattle.fam_world.proofs.Members.{map_at}
use Rattle.fam_world.proofs.Moving.{media_refused}
use Rattle.fam_world.proofs.WithoutMedia.{refused_told}
use Rattle.fam_world.proofs.Untouched.{none_refused}
use Rattle.fam_world.proofs.world.World.conclude.Goals as goal

-- of a task that is there
unstored_then : (o : Option Task) (held : Cache) (Q : Type 0) → is_some o ≡ true → IfSome o (λ t. IsUnstored t held) → IfSome o (λ t. IsUnstored t held → Q) → Q
unstored_then None held Q runs unstored then = absurd cc
unstored_then (Some t) held Q runs unstored then = then unstored

err_after : {T E : Type 0} (r : Result T E) (P Q : Type 0) → (P → Q) → OnErr r P → OnErr r Q
err_after (Ok x) P Q f p = tt
err_after (Err e) P Q f p = f p

pub returns-in-Err-clause-concluded : goal.returns-in-Err-clause-concluded
returns-in-Err-clause-concluded g c =
    let m = g.M.Media in
    let media = c.args.media.now in
    let old : WorldView = world_view c.self.inside.hosts.items c.self.inside.journal.items in
    let new : WorldView = world_view c.self.inside.hosts.items c.refused.new.journal.items in
    let size = m.size media in
    let placed = c.in-Err.ensures.placed size old.journal in
    let refused : IsRefused (call.Finishes c.args.name.now) size old c.in-Err.cause = record {
      first = finishes_as_steps c.args.name.now old size _ placed.first;
      plain = placed.plain;
      named = placed.named;
      faultless = placed.faultless;
    } in
    record {
      shown = new;
      journal = refl;
      answered = subst (λ (w : WorldView). IfAnswered {T = Unit {0}} (Err c.refused.result)
          (λ answered. MediaCall (call.Finishes c.args.name.now) size answered (change m.state media media) w new)) c.self.view_is
          (refused_told c.refused.result c.in-Err.cause _ c.refused.ensures.given
          (media_refused (call.Finishes c.args.name.now) tt tt size (m.state media).image (m.state media).faults old new c.in-Err.cause (g.met.M.Media.modelled media) refused refl
          (c.refused.ensures.noted ∙ ap (λ (xs : List Kept). notes_view xs ++ Refused c.args.name.now c.in-Err.cause ∷ []) c.make_room.ensures.same)));
      want = λ full. absurd (let said = full in let given = c.refused.ensures.given in cc);
    }

pub returns-then-is_err-clause-concluded : goal.returns-then-is_err-clause-concluded
returns-then-is_err-clause-concluded g c =
    let m = g.M.Media in
    let media = c.args.media.now in
    let old : WorldView = world_view c.self.inside.hosts.items c.self.inside.journal.items in
    let size = m.size media in
    let new : WorldView = world_view c.self.inside.hosts.items c.make_room.new.journal.items in
    record {
      shown = new;
      journal = refl;
      answered = tt;
      want = λ _.
          subst (λ (w : WorldView). FinishOutOfMemory c.args.name.now size (change m.state media media) w new) c.self.view_is
          (subst (λ (j : List Note). FinishOutOfMemory c.args.name.now size (change m.state media media) old (record { hosts = old.hosts; journal = j })) (sym (ap notes_view c.make_room.ensures.same))
          (finish_nothing c.args.name.now size (m.state media).image (m.state media).faults old));
    }

pub returns-clause-concluded : goal.returns-clause-concluded
returns-clause-concluded g c =
    let m = g.M.Media in
    let media = c.args.media.now in
    let media_now = c.conclude_of.new.media in
    let items = c.self.inside.hosts.items in
    let old : WorldView = world_view items c.self.inside.journal.items in
    let size = m.size media in
    let at = c.in-Ok.at in
    let x = c.index_mut.result.now in
    let y = c.conclude_of.new.host in
    let name = c.args.name.now in
    let at_is = slice_get_read items c.self.inside.hosts.len at x c.self.inside.hosts.ok.0 c.in-Ok.ensures.within c.index_mut.ensures.value in
    let view_is = map_at host_view items at x at_is in
    let free = c.in-Ok.ensures.placed size old.journal in
    let notes : List Note = notes_view c.conclude_of.new.journal.items in
    let told : MediaChange = change m.state media media_now in
    let new : WorldView = world_view (set items at y) c.conclude_of.new.journal.items in
    let ran = subst (λ (j : List Note). ShownUp at size (host_standing m.state media (host_view x) j)
    (λ (shown : CacheState). host_standing m.state media_now (with_cache (host_view y) shown) notes) c.conclude_of.result)
    (ap notes_view c.make_room.ensures.same) c.conclude_of.ensures.runs in
    subst (λ (r : Result (Unit {0}) WorldFault). HasConcluded name size told c.args.self.now new r) (sym c.or_fault.ensures)
    (subst (λ (w : WorldView). HasConcluded name size told w new (told_of {T = Unit {0}} c.conclude_of.result)) c.self.view_is
    (concluded name at size old (host_view x) free.number free.free free.within view_is told (g.met.M.Media.modelled media) (host_view y) notes
    c.conclude_of.result ran c.conclude_of.ensures.over c.conclude_of.ensures.on
    (err_after c.conclude_of.result _ (IsUnstoredAt at old → _)
    (λ same unstored. unstored_then x.task x.cache.lines _ (c.in-Ok.ensures.runs (host_view x) view_is) (unstored (host_view x) view_is) same) c.conclude_of.ensures.same)
    new refl))

pub conclude_of-requires : goal.conclude_of-requires
conclude_of-requires g c =
    let items = c.self.inside.hosts.items in
    let old : WorldView = world_view items c.self.inside.journal.items in
    let x = c.index_mut.result.now in
    let at_is = slice_get_read items c.self.inside.hosts.len c.in-Ok.at x c.self.inside.hosts.ok.0 c.in-Ok.ensures.within c.index_mut.ensures.value in
    let view_is = map_at host_view items c.in-Ok.at x at_is in
    let size = g.M.Media.size c.args.media.now in
    let fits = subst (λ (w : WorldView). FitsMedia size w.hosts) (sym c.self.view_is) c.requires.fits c.in-Ok.at (host_view x) view_is in
    record {
      runs = c.in-Ok.ensures.runs (host_view x) view_is;
      fits = fits.task;
      cached = record { below = fits.cache };
      reads = subst (λ (w : WorldView). ReadsOf c.args.name.now w w) (sym c.self.view_is) c.requires.reads c.in-Ok.at (host_view x) (c.in-Ok.ensures.placed size old.journal).number view_is;
      few = lt_of_lt_of_le c.in-Ok.ensures.within c.self.invariant;
    }

pub returns-clause-untouched : goal.returns-clause-untouched
returns-clause-untouched g c =
    let old : WorldView = world_view c.self.inside.hosts.items c.self.inside.journal.items in
    let size = g.M.Media.size c.args.media.now in
    none_refused (call.Finishes c.args.name.now) size old c.args.self.now c.args.media.now c.conclude_of.new.media
    (finishes_as_steps c.args.name.now old size _ (c.in-Ok.ensures.placed size old.journal).free) c.self.view_is

pub returns-then-is_err-clause-untouched : goal.returns-then-is_err-clause-untouched
returns-then-is_err-clause-untouched g c = λ cause is. refl

pub returns-in-Err-clause-untouched : goal.returns-in-Err-clause-untouched
returns-in-Err-clause-untouched g c = λ cause is. refl

pub returns-then-is_err-clause-size : goal.returns-then-is_err-clause-size
returns-then-is_err-clause-size g c = refl

pub returns-in-Err-clause-size : goal.returns-in-Err-clause-size
returns-in-Err-clause-size g c = refl

pub returns-clause-size : goal.returns-clause-size
returns-clause-size g c = c.conclude_of.ensures.size
