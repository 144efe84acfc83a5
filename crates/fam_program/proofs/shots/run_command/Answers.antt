use Rattle.std.proofs.Common.{◌≡◌, List, ap, subst, ◌∙◌}
use Rattle.fam_media.specs.States.{change, SinkChange}
use Rattle.fam_outcomes.specs.declared.status.Status.{Status}
use Rattle.fam_journal.specs.Notes.{Note}
use Rattle.fam_outcomes.specs.Programs.{Runs, OneShot}
use Rattle.fam_outcomes.specs.Runs.{NoneFalls, Outside}
use Rattle.fam_outcomes.specs.Statuses.{last_status}
use Rattle.fam_program.specs.Runs.{outside_of}
use Rattle.fam_program.specs.Shots.{ShotSays}
use Rattle.fam_program.proofs.Commands.MemoryLeft.{one_run}
use Rattle.fam_program.proofs.Commands.TopEnds.{shot_named, shot_top}
use Rattle.fam_program.proofs.shots.run_command.Goals as goal

pub run_alone-ended-requires-clause-fresh : goal.run_alone-ended-requires-clause-fresh
run_alone-ended-requires-clause-fresh g c = c.new-world.ensures

pub put_end-requires : goal.put_end-requires
put_end-requires g c =
    let sink : SinkChange = change g.K.Sink.state c.args.out.now c.args.out.now in
    let out : Outside = outside_of g.M.Media.size g.M.Media.state c.args.media.now c.run_alone-ended.new.media (change g.S.Shelf.state c.args.shelf.now c.run_alone-ended.new.shelf) sink in
    record { named = shot_named c.run_alone-ended.result out (one_run c.own_name.result c.args.me c.args.ask) c.run_alone-ended.new.world.journal (c.run_alone-ended.ensures.ended sink) }

pub returns-clause-ends : goal.returns-clause-ends
returns-clause-ends g c =
    let sink : SinkChange = change g.K.Sink.state c.args.out.now c.put_end.new.out in
    let out : Outside = outside_of g.M.Media.size g.M.Media.state c.args.media.now c.run_alone-ended.new.media (change g.S.Shelf.state c.args.shelf.now c.run_alone-ended.new.shelf) sink in
    let later : NoneFalls out = record {
      media = c.run_alone-ended.ensures.steady.later;
      shelf = c.run_alone-ended.ensures.shelf.faults_later;
      shorts = c.run_alone-ended.ensures.shelf.shorts_later;
      sink = c.put_end.ensures.later;
    } in
    let journal : List Note = c.run_alone-ended.new.world.journal in
    let shot : OneShot = Runs c.args.ask in
    let done : c.last_status-done.result ≡ last_status journal = c.last_status-done.ensures ∙ ap last_status c.journal.ensures in
    shot_top c.own_name.result c.args.me out journal c.put_end.result later shot tt c.run_alone-ended.result c.run_alone-ended.ensures.same
    (c.run_alone-ended.ensures.ended sink)
    (subst (λ (s : Status). ShotSays c.run_alone-ended.result s journal sink c.put_end.result) done c.put_end.ensures.says)
