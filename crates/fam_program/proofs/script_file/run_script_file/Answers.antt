use Rattle.std.proofs.Common.{Option, arith, refl, subst}
use Rattle.fam_media.specs.Files.{Files}
use Rattle.fam_media.specs.States.{change, ShelfChange, SinkChange}
use Rattle.fam_outcomes.specs.Runs.{NoneFalls, Outside}
use Rattle.fam_program.specs.Runs.{outside_of}
use Rattle.fam_program.specs.Scripts.{ScriptRan}
use Rattle.fam_program.proofs.Scripts.Files.{early_ends, ran_before, script_ends}
use Rattle.fam_program.proofs.script_file.run_script_file.Goals as goal

pub returns-in-Ok-clause-ends : goal.returns-in-Ok-clause-ends
returns-in-Ok-clause-ends g c =
    let read = c.events_of.ensures.steady in
    let ran = c.run_script.ensures.shelf in
    let shelf : ShelfChange = change g.S.Shelf.state c.args.shelf.now c.events_of.new.shelf in
    let rest : ShelfChange = change g.S.Shelf.state c.events_of.new.shelf c.run_script.new.shelf in
    let all : ShelfChange = change g.S.Shelf.state c.args.shelf.now c.run_script.new.shelf in
    let s : SinkChange = change g.K.Sink.state c.args.out.now c.run_script.new.out in
    let behind : Outside = outside_of g.M.Media.size g.M.Media.state c.args.media.now c.run_script.new.media rest s in
    let out : Outside = outside_of g.M.Media.size g.M.Media.state c.args.media.now c.run_script.new.media all s in
    let falls : NoneFalls out = record {
      media = c.run_script.ensures.steady.later;
      shelf = let x = read.faults_later in let y = ran.faults_later in omega (arith, x, y);
      shorts = let x = read.shorts_later in let y = ran.shorts_later in omega (arith, x, y);
      sink = c.run_script.ensures.later;
    } in
    script_ends shelf c.args.name.now out c.in-Ok.events.items c.run_script.result refl c.in-Ok.ensures.read falls
    (subst (λ (f : Option Files). ScriptRan c.in-Ok.events.items (record out { shelf = record { old = record all.old { files = f }; new = all.new } }) c.run_script.result) read.same
    (ran_before behind shelf.old.faults shelf.old.shorts read.faults_later read.shorts_later c.in-Ok.events.items c.run_script.result c.run_script.ensures.ran))

pub returns-in-Err-clause-ends : goal.returns-in-Err-clause-ends
returns-in-Err-clause-ends g c =
    let read = c.events_of.ensures.steady in
    let shelf : ShelfChange = change g.S.Shelf.state c.args.shelf.now c.events_of.new.shelf in
    let s : SinkChange = change g.K.Sink.state c.args.out.now c.put_unread.new.out in
    early_ends shelf s c.args.name.now (g.M.Media.size c.args.media.now) (g.M.Media.state c.args.media.now).faults
    (g.M.Media.state c.args.media.now).image
    (record { media = omega arith; shelf = read.faults_later; shorts = read.shorts_later; sink = c.put_unread.ensures.later }) c.put_unread.result
    c.in-Err.fault c.in-Err.ensures.fault
    c.put_unread.ensures.put
