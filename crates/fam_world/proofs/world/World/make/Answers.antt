use Rattle.std.proofs.Common.{set, ◌≡◌, ◌*◌, ◌++◌, ◌∷◌, [], List, Err, refl, ap, ◌∙◌, subst, None}
use Rattle.fam_media.specs.States.{change}
use Rattle.std.proofs.lemmas.Option.{slice_get_read}
use Rattle.fam_rules.specs.Place.{line_bytes}
use Rattle.fam_mkfs.specs.Refusals.{refusal}
use Rattle.fam_journal.specs.Calls as call
use Rattle.fam_journal.specs.Notes.{Refused}
use Rattle.fam_journal.specs.View.{WorldView}
use Rattle.fam_notes.specs.declared.note.Note.{Note as Kept}
use Rattle.fam_journal.specs.CallRecords.{MakeCall}
use Rattle.fam_world.specs.Answers.{IfAnswered, IsFree, IsRefused}
use Rattle.fam_world.specs.Makes.{end_note}
use Rattle.fam_world.specs.View.{host_view, notes_view, world_view}
use Rattle.fam_world.proofs.Making.{make_ended, make_refused, wide_of}
use Rattle.fam_world.proofs.Members.{map_at, map_set}
use Rattle.fam_world.proofs.Moving.{with_cache}
use Rattle.fam_world.proofs.WithoutMedia.{refused_told, not_full}
use Rattle.fam_world.proofs.Untouched.{free_untouched}
use Rattle.fam_world.proofs.world.World.make.Goals as goal

pub returns-in-Err-clause-answered : goal.returns-in-Err-clause-answered
returns-in-Err-clause-answered g c =
    let old : WorldView = world_view c.self.inside.hosts.items c.self.inside.journal.items in
    let new : WorldView = world_view c.self.inside.hosts.items c.refused.new.journal.items in
    let asked : call.Call = call.Makes c.args.name.now c.args.request.now in
    let refused : IsRefused asked (g.M.Media.size c.args.media.now) old c.in-Err.cause =
    subst (λ n. IsRefused asked n old c.in-Err.cause) c.lines.ensures.count (c.in-Err.ensures.placed old.journal) in
    subst (λ (w : WorldView). IfAnswered {T = Unit {0}} (Err c.refused.result)
    (λ answered. MakeCall asked (g.M.Media.size c.args.media.now) answered (change g.M.Media.state c.args.media.now c.args.media.now) w new))
    c.self.view_is
    (refused_told c.refused.result c.in-Err.cause _ c.refused.ensures.given
    (make_refused c.args.name.now c.args.request.now (record { fs = c.is_uuid.ensures; format = c.requires }) (g.M.Media.size c.args.media.now) old
    (g.M.Media.state c.args.media.now).image (g.M.Media.state c.args.media.now).faults new c.in-Err.cause
    (g.met.M.Media.modelled c.args.media.now) refused refl
    (c.refused.ensures.noted ∙ ap (λ (xs : List Kept). notes_view xs ++ Refused c.args.name.now c.in-Err.cause ∷ []) c.make_room.ensures.same)))

pub returns-in-Ok-make_host-clause-answered : goal.returns-in-Ok-make_host-clause-answered
returns-in-Ok-make_host-clause-answered g c =
    let items = c.self.inside.hosts.items in
    let old : WorldView = world_view items c.self.inside.journal.items in
    let at = c.in-Ok.at in
    let x = c.index_mut.result.now in
    let at_is = slice_get_read items c.self.inside.hosts.len at x c.self.inside.hosts.ok.0 c.in-Ok.ensures.within c.index_mut.ensures.value in
    let asked : call.Call = call.Makes c.args.name.now c.args.request.now in
    let size = g.M.Media.size c.args.media.now in
    let free : IsFree asked size old at = subst (λ n. IsFree asked n old at) c.lines.ensures.count (c.in-Ok.ensures.placed old.journal) in
    let wide = wide_of c.args.request.now.unit c.args.request.now.log size
    (subst (λ n. refusal c.args.request.now.unit c.args.request.now.log (line_bytes * n) ≡ None) c.lines.ensures.count c.in-Ok.ensures.free) in
    let new : WorldView = world_view (set items at c.make_host.new.host) c.note_end.new.journal.items in
    subst (λ (w : WorldView). IfAnswered c.note_end.result (λ answered. MakeCall asked size answered (change g.M.Media.state c.args.media.now c.make_host.new.media) w new)) c.self.view_is
    (make_ended c.args.name.now c.args.request.now (record { fs = c.is_uuid.ensures; format = c.requires }) size old at
    (host_view x) free.number free.free free.within (map_at host_view items at x at_is)
    (g.M.Media.state c.args.media.now).image (g.M.Media.state c.make_host.new.media).image (g.M.Media.state c.args.media.now).faults
    (g.M.Media.state c.make_host.new.media).faults _ (g.met.M.Media.modelled c.args.media.now) wide
    c.make_host.new.host.cache.lines c.make_host.ensures.others
    (map_set host_view (with_cache c.make_host.new.host.cache.lines) items at _ x at_is (ap host_view c.make_host.ensures.host)) c.make_host.ensures.steady.later
    c.in-Ok-make_host.end c.note_end.result c.note_end.ensures.given
    (c.note_end.ensures.noted ∙ ap (λ (xs : List Kept). notes_view xs ++ end_note at c.args.name.now c.in-Ok-make_host.end ∷ []) c.make_room.ensures.same)
    c.in-Ok-make_host.ensures.ends)

pub returns-in-Ok-make_host-clause-untouched : goal.returns-in-Ok-make_host-clause-untouched
returns-in-Ok-make_host-clause-untouched g c =
    let old : WorldView = world_view c.self.inside.hosts.items c.self.inside.journal.items in
    let asked : call.Call = call.Makes c.args.name.now c.args.request.now in
    let size = g.M.Media.size c.args.media.now in
    free_untouched asked size c.in-Ok.at old c.args.self.now c.args.media.now c.make_host.new.media
    (subst (λ n. IsFree asked n old c.in-Ok.at) c.lines.ensures.count (c.in-Ok.ensures.placed old.journal)) c.self.view_is

pub returns-then-is_err-clause-untouched : goal.returns-then-is_err-clause-untouched
returns-then-is_err-clause-untouched g c = λ cause is. refl

pub returns-in-Err-clause-untouched : goal.returns-in-Err-clause-untouched
returns-in-Err-clause-untouched g c = λ cause is. refl

pub returns-then-is_err-clause-size : goal.returns-then-is_err-clause-size
returns-then-is_err-clause-size g c = refl

pub returns-in-Err-clause-size : goal.returns-in-Err-clause-size
returns-in-Err-clause-size g c = refl

pub returns-then-is_err-clause-undone : goal.returns-then-is_err-clause-undone
returns-then-is_err-clause-undone g c = λ full. refl

pub returns-then-is_err-clause-err : goal.returns-then-is_err-clause-err
returns-then-is_err-clause-err g c = λ full. ap (λ (xs : List Kept). world_view c.self.inside.hosts.items xs) c.make_room.ensures.same ∙ c.self.view_is

pub returns-in-Err-clause-undone : goal.returns-in-Err-clause-undone
returns-in-Err-clause-undone g c = λ full. refl

pub returns-in-Err-clause-err : goal.returns-in-Err-clause-err
returns-in-Err-clause-err g c = λ full. not_full c.refused.result _ c.refused.ensures.given full

pub returns-in-Ok-make_host-clause-size : goal.returns-in-Ok-make_host-clause-size
returns-in-Ok-make_host-clause-size g c = c.make_host.ensures.steady.size

pub returns-in-Err-make_host-clause-size : goal.returns-in-Err-make_host-clause-size
returns-in-Err-make_host-clause-size g c = c.make_host.ensures.steady.size
