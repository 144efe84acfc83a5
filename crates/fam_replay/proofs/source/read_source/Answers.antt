use Rattle.std.proofs.Common.{◌*◌, ◌∙◌, inr}
use Rattle.std.proofs.lemmas.Result.{IfErr-weaker, IfOk-weaker, err_from_is_err_and}
use Rattle.fam_base.specs.Image.{line_at}
use Rattle.fam_replay.specs.Sources.{IsAskedFor, IsOfLog}
use Rattle.fam_rules.specs.Place.{line_bytes}
use Rattle.fam_replay.proofs.Sources.{by_header, by_superblock, fails_among, tells_as}
use Rattle.fam_replay.proofs.source.read_source.Goals as goal

pub returns-in_err-params-clause-fault : goal.returns-in_err-params-clause-fault
returns-in_err-params-clause-fault g c =
    let p = err_from_is_err_and c.from_residual.result c.from_residual.ensures.1 in
    rw (p.1, p.2) (λ image told.
    tells_as c.in_err-params.field-0.0 _ _
    (by_superblock image (g.M.Media.size c.args.media.now) (g.met.M.Media.modelled c.args.media.now image told))
    (c.in_err-params.ensures.fault image told))

pub returns-clause-told : goal.returns-clause-told
returns-clause-told g c =
    let params = c.in_ok-params.ensures in
    IfOk-weaker c.read_behind.result _ _
    (λ plan is image told.
    by_header image (g.M.Media.size c.args.media.now) c.in_ok-params.params (g.met.M.Media.modelled c.args.media.now image told) (params.told image told)
    ∙ is image (params.same ∙ told))
    c.read_behind.ensures.told

pub returns-clause-fault : goal.returns-clause-fault
returns-clause-fault g c =
    let params = c.in_ok-params.ensures in
    IfErr-weaker c.read_behind.result _ _
    (λ fault is image told.
    tells_as fault _ _
    (by_header image (g.M.Media.size c.args.media.now) c.in_ok-params.params (g.met.M.Media.modelled c.args.media.now image told) (params.told image told))
    (is image (params.same ∙ told)))
    c.read_behind.ensures.fault

pub returns-clause-asked : goal.returns-clause-asked
returns-clause-asked g c =
    let params = c.in_ok-params.ensures in
    IfErr-weaker c.read_behind.result _ _
    (λ fault is image told.
    fails_among (IsOfLog (line_at image) c.in_ok-params.params) (IsAskedFor (line_at image) (line_bytes * g.M.Media.size c.args.media.now))
    (λ at behind. inr (c.in_ok-params.params, params.told image told, behind)) fault
    (is image (params.same ∙ told)))
    c.read_behind.ensures.asked
