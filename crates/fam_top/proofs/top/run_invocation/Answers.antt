use Rattle.std.proofs.Common.{List, ℕ, Some, subst, sym}
use Rattle.fam_media.specs.States.{change}
use Rattle.fam_grammar.specs.Scripts.{script_events}
use Rattle.fam_outcomes.specs.Programs.{Script, Single, TopEnds}
use Rattle.fam_outcomes.specs.Runs.{Outside}
use Rattle.fam_program.specs.Runs.{outside_of}
use Rattle.fam_storm.specs.Storm.{storm}
use Rattle.fam_words.specs.declared.wanted.Invocation.{Invocation}
use Rattle.fam_top.specs.Calls.{invoked_command, shot_of}
use Rattle.fam_top.proofs.top.run_invocation.Goals as goal

-- a command of its own, on its host
pub returns-in-Single-clause-ends : goal.returns-in-Single-clause-ends
returns-in-Single-clause-ends g c =
    let out : Outside = outside_of g.M.Media.size g.M.Media.state c.args.media.now c.run_shot.new.media
    (change g.S.Shelf.state c.args.shelf.now c.run_shot.new.shelf) (change g.K.Sink.state c.args.out.now c.run_shot.new.out) in
    subst (λ (o : Invocation). TopEnds script_events storm (Some (invoked_command c.args.me c.args.random o)) out c.run_shot.result) (sym c.in-Single.is)
    (subst (λ (host : List ℕ). TopEnds script_events storm (Some (Single host (shot_of c.args.random c.in-Single.shot))) out c.run_shot.result) c.host_or.ensures c.run_shot.ensures.ends)

pub returns-in-Script-clause-ends : goal.returns-in-Script-clause-ends
returns-in-Script-clause-ends g c =
    let out : Outside = outside_of g.M.Media.size g.M.Media.state c.args.media.now c.run_script_file.new.media
    (change g.S.Shelf.state c.args.shelf.now c.run_script_file.new.shelf) (change g.K.Sink.state c.args.out.now c.run_script_file.new.out) in
    subst (λ (o : Invocation). TopEnds script_events storm (Some (invoked_command c.args.me c.args.random o)) out c.run_script_file.result) (sym c.in-Script.is)
    (subst (λ (name : List ℕ). TopEnds script_events storm (Some (Script name)) out c.run_script_file.result) c.text.ensures c.run_script_file.ensures.ends)

pub returns-in-Storm-clause-ends : goal.returns-in-Storm-clause-ends
returns-in-Storm-clause-ends g c =
    let out : Outside = outside_of g.M.Media.size g.M.Media.state c.args.media.now c.run_storm.new.media
    (change g.S.Shelf.state c.args.shelf.now c.run_storm.new.shelf) (change g.K.Sink.state c.args.out.now c.run_storm.new.out) in
    subst (λ (o : Invocation). TopEnds script_events storm (Some (invoked_command c.args.me c.args.random o)) out c.run_storm.result) (sym c.in-Storm.is) c.run_storm.ensures.ends
