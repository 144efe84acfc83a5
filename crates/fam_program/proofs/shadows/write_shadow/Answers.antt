use Rattle.std.proofs.Common.{◌≡◌, List, None, Some, arith, ap, refl, subst, sym, ◌∙◌}
use Rattle.std.specs.Prelude.{OnOk}
use Rattle.fam_base.specs.declared.cmd.Cmd.TheVariants as cmd
use Rattle.fam_media.specs.States.{change, SinkChange}
use Rattle.fam_journal.specs.declared.event.Ask.TheVariants as ask
use Rattle.fam_journal.specs.declared.event.Event.{Event}
use Rattle.fam_outcomes.specs.declared.status.Status.{Status}
use Rattle.fam_journal.specs.Notes.{Note}
use Rattle.fam_outcomes.specs.Runs.{NoneFalls, Outside}
use Rattle.fam_outcomes.specs.Statuses.{last_status}
use Rattle.fam_program.specs.Far.{AreSoundEvents}
use Rattle.fam_program.specs.Unprinted.{AreShotEvents, ShotEnded}
use Rattle.fam_program.specs.Runs.{outside_of}
use Rattle.fam_shadow.specs.Nodes.{ShadeChange}
use Rattle.fam_program.specs.Shadows.{no_files, shown_tree}
use Rattle.fam_program.specs.Shots.{ShotSays}
use Rattle.fam_program.proofs.Commands.TopEnds.{shot_named}
use Rattle.fam_program.proofs.Commands.Shadows.{logplayed_top, shadow_wants, shadowed_top}
use Rattle.fam_program.proofs.shadows.write_shadow.Goals as goal

pub returns-in_default-clause-ends : goal.returns-in_default-clause-ends
returns-in_default-clause-ends g c =
    let out : Outside = outside_of g.M.Media.size g.M.Media.state c.args.media.now c.args.media.now no_files (change g.K.Sink.state c.args.out.now c.put_memory.new.out) in
    let shade : ShadeChange = change g.D.Shade.state c.args.shade.now c.args.shade.now in
    let later : NoneFalls out = record { media = omega arith; shelf = omega arith; shorts = omega arith; sink = c.put_memory.ensures.later } in
    shadow_wants out shade c.put_memory.result later (Some c.args.me) refl refl c.put_memory.ensures.put

pub run_until_stop-ended-requires-clause-fresh : goal.run_until_stop-ended-requires-clause-fresh
run_until_stop-ended-requires-clause-fresh g c = c.new-world.ensures

pub run_until_stop-ended-requires-clause-sound : goal.run_until_stop-ended-requires-clause-sound
run_until_stop-ended-requires-clause-sound g c = subst AreSoundEvents (sym c.in-Ok.ensures) (tt, (tt, tt))

pub run_until_stop-ended-requires-clause-shot : goal.run_until_stop-ended-requires-clause-shot
run_until_stop-ended-requires-clause-shot g c = subst AreShotEvents (sym c.in-Ok.ensures) (tt, (tt, tt))

pub returns-in-Some-clause-ends : goal.returns-in-Some-clause-ends
returns-in-Some-clause-ends g c =
    let sink : SinkChange = change g.K.Sink.state c.args.out.now c.put_shadow.new.out in
    let out : Outside = outside_of g.M.Media.size g.M.Media.state c.args.media.now c.run_until_stop-ended.new.media no_files sink in
    let shade : ShadeChange = change g.D.Shade.state c.args.shade.now c.shadow-written.new.shade in
    let later : NoneFalls out = record { media = c.run_until_stop-ended.ensures.steady.later; shelf = omega arith; shorts = omega arith; sink = c.put_shadow.ensures.later } in
    let journal : List Note = c.run_until_stop-ended.new.world.journal in
    shadowed_top out shade c.put_shadow.result later c.own_name-name.result c.args.me journal c.run_until_stop-ended.result
    (subst (λ (es : List Event). ShotEnded c.run_until_stop-ended.result out es journal) c.in-Ok.ensures (c.run_until_stop-ended.ensures.ended sink))
    c.in-Some.ensures.done c.in-Some.m c.in-Some.tree.now (ap shown_tree (sym c.journal.ensures) ∙ c.in-Some.ensures.shown)
    c.shadow-written.result c.shadow-written.ensures.ends c.shadow-written.ensures.cause c.shadow-written.ensures.calls c.put_shadow.ensures.put

pub put_end-requires : goal.put_end-requires
put_end-requires g c =
    let sink : SinkChange = change g.K.Sink.state c.args.out.now c.args.out.now in
    let out : Outside = outside_of g.M.Media.size g.M.Media.state c.args.media.now c.run_until_stop-ended.new.media no_files sink in
    record { named = shot_named c.run_until_stop-ended.result out c.in-Ok.events.items c.run_until_stop-ended.new.world.journal (c.run_until_stop-ended.ensures.ended sink) }

pub returns-clause-ends : goal.returns-clause-ends
returns-clause-ends g c =
    let sink : SinkChange = change g.K.Sink.state c.args.out.now c.put_end.new.out in
    let out : Outside = outside_of g.M.Media.size g.M.Media.state c.args.media.now c.run_until_stop-ended.new.media no_files sink in
    let shade : ShadeChange = change g.D.Shade.state c.args.shade.now c.args.shade.now in
    let later : NoneFalls out = record { media = c.run_until_stop-ended.ensures.steady.later; shelf = omega arith; shorts = omega arith; sink = c.put_end.ensures.later } in
    let journal : List Note = c.run_until_stop-ended.new.world.journal in
    let done : c.last_status-done.result ≡ last_status journal = c.last_status-done.ensures ∙ ap last_status c.journal-2.ensures in
    logplayed_top out shade c.put_end.result later c.own_name-name.result c.args.me journal c.run_until_stop-ended.result
    (c.run_until_stop-ended.ensures.same record { name = c.own_name-name.result; me = c.args.me; what = ask.Plain cmd.Logplay; events_are = c.in-Ok.ensures })
    (subst (λ (es : List Event). ShotEnded c.run_until_stop-ended.result out es journal) c.in-Ok.ensures (c.run_until_stop-ended.ensures.ended sink))
    (subst (λ (s : Status). ShotSays c.run_until_stop-ended.result s journal sink c.put_end.result) done c.put_end.ensures.says)
    (subst (λ (j : List Note). OnOk c.run_until_stop-ended.result (shown_tree j ≡ None)) c.journal.ensures (c.in_default-done_tree.ensures.none refl)) refl
