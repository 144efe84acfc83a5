use Rattle.std.proofs.Common.{List, None, ℕ, Some, subst, sym}
use Rattle.fam_machine.specs.MkfsRequest.{mkfs_request}
use Rattle.fam_media.specs.States.{change}
use Rattle.fam_grammar.specs.Scripts.{script_events}
use Rattle.fam_outcomes.specs.Programs.{Makes, Single, TopEnds}
use Rattle.fam_outcomes.specs.Runs.{Outside}
use Rattle.fam_program.specs.Runs.{outside_of}
use Rattle.fam_storm.specs.Storm.{storm}
use Rattle.fam_words.specs.declared.wanted.Shot.{Shot}
use Rattle.fam_top.specs.Calls.{shot_of}
use Rattle.fam_top.proofs.top.run_shot.Goals as goal

-- a command on the log
pub returns-in-Run-clause-ends : goal.returns-in-Run-clause-ends
returns-in-Run-clause-ends g c =
    let out : Outside = outside_of g.M.Media.size g.M.Media.state c.args.media.now c.run_command.new.media
    (change g.S.Shelf.state c.args.shelf.now c.run_command.new.shelf) (change g.K.Sink.state c.args.out.now c.run_command.new.out) in
    subst (λ (s : Shot). TopEnds script_events storm (Some (Single c.args.me (shot_of c.args.random s))) out c.run_command.result) (sym c.in-Run.is) c.run_command.ensures.ends

-- a file system is made
pub returns-in-Mkfs-clause-ends : goal.returns-in-Mkfs-clause-ends
returns-in-Mkfs-clause-ends g c =
    let out : Outside = outside_of g.M.Media.size g.M.Media.state c.args.media.now c.make_file_system.new.media
    (change g.S.Shelf.state c.args.shelf.now c.make_file_system.new.shelf) (change g.K.Sink.state c.args.out.now c.make_file_system.new.out) in
    subst (λ (s : Shot). TopEnds script_events storm (Some (Single c.args.me (shot_of c.args.random s))) out c.make_file_system.result) (sym c.in-Mkfs.is)
    (subst (λ (fs : List ℕ). TopEnds script_events storm
    (Some (Single c.args.me (Makes (mkfs_request fs c.in-Mkfs.unit c.in-Mkfs.log c.in-Mkfs.format c.in-Mkfs.force None)))) out
    c.make_file_system.result) c.fs_or.ensures c.make_file_system.ensures.ends)

-- directories along a path
pub returns-in-Parents-clause-ends : goal.returns-in-Parents-clause-ends
returns-in-Parents-clause-ends g c =
    let out : Outside = outside_of g.M.Media.size g.M.Media.state c.args.media.now c.make_parents.new.media
    (change g.S.Shelf.state c.args.shelf.now c.make_parents.new.shelf) (change g.K.Sink.state c.args.out.now c.make_parents.new.out) in
    subst (λ (s : Shot). TopEnds script_events storm (Some (Single c.args.me (shot_of c.args.random s))) out c.make_parents.result) (sym c.in-Parents.is) c.make_parents.ensures.ends
