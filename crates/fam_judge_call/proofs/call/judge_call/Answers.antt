use Rattle.std.proofs.Common.{ℕ, List, subst}
use Rattle.fam_media.specs.States.{change}
use Rattle.fam_judge_call.specs.Endings.{HistoryEnds, OnImageEnds, around}
use Rattle.fam_judge_call.proofs.Ends.{none_ends, some_ends}
use Rattle.fam_judge_call.proofs.call.judge_call.Goals as goal

pub returns-in-None-clause-ends : goal.returns-in-None-clause-ends
returns-in-None-clause-ends g c =
    let shelf = change g.S.Shelf.state c.args.shelf.now c.judge_file.new.shelf in
    let out = change g.K.Sink.state c.args.out.now c.judge_file.new.out in
    none_ends c.args.call.now.history c.args.call.now.image
    (around (g.M.Media.size c.args.media.now) (change g.M.Media.state c.args.media.now c.args.media.now) shelf out) c.judge_file.result c.in-None.is
    (subst (λ (name : List ℕ). HistoryEnds name shelf out c.judge_file.result) c.text-in-None.ensures c.judge_file.ensures.ends)

pub returns-in-Some-clause-ends : goal.returns-in-Some-clause-ends
returns-in-Some-clause-ends g c =
    let name = c.args.call.now.history in
    let out =
    around (g.M.Media.size c.args.media.now) (change g.M.Media.state c.args.media.now c.judge_file_on.new.media) (change g.S.Shelf.state c.args.shelf.now c.judge_file_on.new.shelf)
    (change g.K.Sink.state c.args.out.now c.judge_file_on.new.out) in
    let given = c.judge_file_on.result in
    some_ends name c.args.call.now.image c.in-Some.image out given c.in-Some.is
    (subst (λ (n : List ℕ). OnImageEnds n c.in-Some.image out given) c.text.ensures
    (subst (λ (n : List ℕ). OnImageEnds c.text.result.now n out given) c.text-in-Some.ensures c.judge_file_on.ensures.ends))
