use Rattle.std.proofs.Common.{◌≡◌, List, Some, arith, ap, refl, subst, sym, ◌∙◌}
use Rattle.fam_media.specs.States.{change, SinkChange}
use Rattle.fam_journal.specs.declared.event.Event.{Event}
use Rattle.fam_outcomes.specs.declared.status.Status.{Status}
use Rattle.fam_journal.specs.Notes.{Note}
use Rattle.fam_outcomes.specs.Programs.{Makes, OneShot, Single}
use Rattle.fam_outcomes.specs.Runs.{NoneFalls, Outside}
use Rattle.fam_outcomes.specs.Statuses.{last_status}
use Rattle.fam_program.specs.Far.{AreSoundEvents}
use Rattle.fam_program.specs.Unprinted.{AreShotEvents, ShotEnded}
use Rattle.fam_program.specs.Runs.{outside_of}
use Rattle.fam_program.specs.Shots.{ShotSays}
use Rattle.fam_program.proofs.Commands.TopEnds.{shot_named, shot_top}
use Rattle.fam_program.proofs.Runs.OneText.{early_wants}
use Rattle.fam_program.proofs.shots.make_file_system.Goals as goal

pub returns-in_default-clause-ends : goal.returns-in_default-clause-ends
returns-in_default-clause-ends g c =
    let sink : SinkChange = change g.K.Sink.state c.args.out.now c.put_memory.new.out in
    let out : Outside = outside_of g.M.Media.size g.M.Media.state c.args.media.now c.args.media.now (change g.S.Shelf.state c.args.shelf.now c.args.shelf.now) sink in
    let later : NoneFalls out = record { media = omega arith; shelf = omega arith; shorts = omega arith; sink = c.put_memory.ensures.later } in
    early_wants (Some (Single c.args.me (Makes c.args.request))) out c.put_memory.result refl later c.put_memory.ensures.put

pub run_until_stop-ended-requires-clause-fresh : goal.run_until_stop-ended-requires-clause-fresh
run_until_stop-ended-requires-clause-fresh g c = c.new-world.ensures

pub run_until_stop-ended-requires-clause-sound : goal.run_until_stop-ended-requires-clause-sound
run_until_stop-ended-requires-clause-sound g c = subst AreSoundEvents (sym c.in-Ok.ensures) (tt, (c.requires.format, tt))

pub run_until_stop-ended-requires-clause-shot : goal.run_until_stop-ended-requires-clause-shot
run_until_stop-ended-requires-clause-shot g c = subst AreShotEvents (sym c.in-Ok.ensures) (tt, (tt, tt))

pub put_end-requires : goal.put_end-requires
put_end-requires g c =
    let sink : SinkChange = change g.K.Sink.state c.args.out.now c.args.out.now in
    let out : Outside = outside_of g.M.Media.size g.M.Media.state c.args.media.now c.run_until_stop-ended.new.media (change g.S.Shelf.state c.args.shelf.now c.run_until_stop-ended.new.shelf) sink in
    record { named = shot_named c.run_until_stop-ended.result out c.in-Ok.events.items c.run_until_stop-ended.new.world.journal (c.run_until_stop-ended.ensures.ended sink) }

pub returns-clause-ends : goal.returns-clause-ends
returns-clause-ends g c =
    let sink : SinkChange = change g.K.Sink.state c.args.out.now c.put_end.new.out in
    let out : Outside = outside_of g.M.Media.size g.M.Media.state c.args.media.now c.run_until_stop-ended.new.media (change g.S.Shelf.state c.args.shelf.now c.run_until_stop-ended.new.shelf) sink in
    let later : NoneFalls out = record {
      media = c.run_until_stop-ended.ensures.steady.later;
      shelf =
          c.run_until_stop-ended.ensures.shelf.faults_later;
      shorts = c.run_until_stop-ended.ensures.shelf.shorts_later;
      sink =
          c.put_end.ensures.later;
    } in
    let journal : List Note = c.run_until_stop-ended.new.world.journal in
    let shot : OneShot = Makes c.args.request in
    let done : c.last_status-done.result ≡ last_status journal = c.last_status-done.ensures ∙ ap last_status c.journal.ensures in
    shot_top c.own_name-name.result c.args.me out journal c.put_end.result later shot c.requires.whole c.run_until_stop-ended.result tt
    (subst (λ (es : List Event). ShotEnded c.run_until_stop-ended.result out es journal) c.in-Ok.ensures (c.run_until_stop-ended.ensures.ended sink))
    (subst (λ (s : Status). ShotSays c.run_until_stop-ended.result s journal sink c.put_end.result) done c.put_end.ensures.says)
