use Rattle.std.proofs.Common.{◌++◌, ◌∷◌, [], List, None, ap, ap₂, sym, ◌∙◌, Err, subst}
use Rattle.fam_journal.specs.Calls as call
use Rattle.fam_journal.specs.Notes.{Host, Refused}
use Rattle.std.specs.FinMap as finmap
use Rattle.fam_machine.specs.Caches.{Cache}
use Rattle.fam_journal.specs.View.{HostView, WorldView}
use Rattle.fam_world.specs.declared.hosts.Host.{Host as OwnHost}
use Rattle.fam_notes.specs.declared.note.Note.{Note as Kept}
use Rattle.fam_journal.specs.CallRecords.{WorldCall}
use Rattle.fam_world.specs.Answers.{IfAnswered}
use Rattle.fam_world.specs.View.{notes_view, views, world_view}
use Rattle.fam_world.proofs.WithoutMedia.{quiet_done, quiet_refused, refused_told, world_is, not_full}
use Rattle.fam_world.proofs.world.World.host.Goals as goal

pub returns-in-Some-clause-answered : goal.returns-in-Some-clause-answered
returns-in-Some-clause-answered c = λ lines.
    let old : WorldView = world_view c.self.inside.hosts.items c.self.inside.journal.items in
    let new : WorldView = world_view c.host_room.new.hosts.items c.refused.new.journal.items in
    let same = ap (λ (xs : List OwnHost). views xs) c.host_room.ensures.same in
    let first = sym (c.declared_before.ensures.first lines old.journal) ∙ c.in-Some.is in
    subst (λ (w : WorldView). IfAnswered {T = Unit {0}} (Err c.refused.result) (λ answered. WorldCall (call.Declares c.args.name.now c.args.uuid) lines answered w new)) c.self.view_is
    (refused_told c.refused.result c.in-Some.cause _ c.refused.ensures.given
    (quiet_refused (call.Declares c.args.name.now c.args.uuid) lines old new c.in-Some.cause
    (ap (λ (hs : List HostView). Rattle.fam_journal.specs.ByWorld.refusal_in (call.Declares c.args.name.now c.args.uuid) (record { hosts = hs; journal = old.journal }) lines) (sym same) ∙ first) same
    (c.refused.ensures.noted ∙ ap (λ (xs : List Kept). notes_view xs ++ Refused c.args.name.now c.in-Some.cause ∷ []) c.make_room.ensures.same)))

pub returns-clause-answered : goal.returns-clause-answered
returns-clause-answered c = λ lines.
    let old : WorldView = world_view c.self.inside.hosts.items c.self.inside.journal.items in
    let new : WorldView = world_view c.add_host.new.hosts.items c.add.new.journal.items in
    let same = ap (λ (xs : List OwnHost). views xs) c.host_room.ensures.same in
    let first = sym (c.declared_before.ensures.first lines old.journal) ∙ c.in_default.is in
    subst (λ (w : WorldView). WorldCall (call.Declares c.args.name.now c.args.uuid) lines None w new) c.self.view_is
    (quiet_done (call.Declares c.args.name.now c.args.uuid) lines old new
    (ap (λ (hs : List HostView). Rattle.fam_journal.specs.ByWorld.refusal_in (call.Declares c.args.name.now c.args.uuid) (record { hosts = hs; journal = old.journal }) lines) (sym same) ∙ first)
    (world_is new (old.hosts ++ record { name = c.args.name.now; uuid = c.args.uuid; cache = finmap.empty; task = None; kept = None } ∷ []) (old.journal ++ Host c.args.name.now c.args.uuid ∷ [])
    (c.add_host.ensures.views ∙ ap₂
    (λ (hs : List HostView) (k : Cache). hs ++ record { name = c.args.name.now; uuid = c.args.uuid; cache = k; task = None; kept = None } ∷ [])
    same c.new.ensures.lines)
    (c.add.ensures ∙ ap (λ (xs : List Kept). notes_view xs ++ Host c.args.name.now c.args.uuid ∷ []) c.make_room.ensures.same)))

pub returns-in-Some-clause-err : goal.returns-in-Some-clause-err
returns-in-Some-clause-err c = λ full. not_full c.refused.result _ c.refused.ensures.given full
