use Rattle.std.proofs.Common.{◌≡◌, ℕ, ◌*◌, ◌≤◌, ◌∙◌, Ok, length, ap, sym, subst, inl, inr, arith}
use Rattle.std.proofs.lemmas.Result.{err_from_is_err_and}
use Rattle.fam_base.specs.Image.{line_at}
use Rattle.fam_format.specs.Layout.{least_lines}
use Rattle.fam_format.specs.Reading.{Reading, reading, super_in}
use Rattle.fam_replay.specs.Sources.{IsOfLog}
use Rattle.fam_replay.proofs.Sources.{by_header, by_superblock}
use Rattle.fam_rules.specs.Place.{line_bytes}
use Rattle.fam_dup.specs.declared.fault.DupFault.{DupFault}
use Rattle.fam_dup.specs.Ends.{FailsFromAt, IsCausedByFrom, IsReadAt, NamesLine, from_counted, of_read}
use Rattle.fam_dup.specs.Findings.{Names, fault_class, from_or}
use Rattle.fam_dup.proofs.Failing.{from_later}
use Rattle.fam_dup.proofs.Finding.{names_found}
use Rattle.fam_dup.proofs.Naming.{from_among, read_among, read_caused, read_counts, read_names, read_within}
use Rattle.fam_dup.proofs.source.read_source.Goals as goal

pub returns-in_err-params-clause-fault : goal.returns-in_err-params-clause-fault
returns-in_err-params-clause-fault g c =
    let p = err_from_is_err_and c.from_residual.result c.from_residual.ensures.1 in
    rw (p.1, p.2) (λ image told rest.
    names_found (fault_class c.in_err-params.field-0.0) _ _
    (ap (λ (r : Reading). from_or r rest) (by_superblock image (g.M.Media.size c.args.from.now) (g.met.M.Media.modelled c.args.from.now image told)))
    (c.in_err-params.ensures.fault image told rest))

pub returns-in_err-params-clause-asked : goal.returns-in_err-params-clause-asked
returns-in_err-params-clause-asked g c =
    let p = err_from_is_err_and c.from_residual.result c.from_residual.ensures.1 in
    rw (p.1, p.2) (λ image told.
    let enough : least_lines ≤ length image = omega (arith, c.requires.within, g.met.M.Media.modelled c.args.from.now image told) in
    from_among _ (IsReadAt image) (λ at early. (enough, inl early)) c.in_err-params.field-0.0 c.in_err-params.ensures.asked)

pub returns-in-Ok-clause-told : goal.returns-in-Ok-clause-told
returns-in-Ok-clause-told g c = λ image told.
    let params = c.in_ok-params.ensures in
    by_header image (g.M.Media.size c.args.from.now) c.in_ok-params.params (g.met.M.Media.modelled c.args.from.now image told) (params.told image told)
    ∙ c.in-Ok.ensures.told image (params.same ∙ told)

pub returns-in-Err-clause-fault : goal.returns-in-Err-clause-fault
returns-in-Err-clause-fault g c = λ image told rest.
    let params = c.in_ok-params.ensures in
    subst (λ (f : DupFault). Names (fault_class f) (from_or (reading image) rest)) (sym c.fault_of_read.ensures)
    (names_found (fault_class (of_read c.in-Err.fault)) _ _
    (ap (λ (r : Reading). from_or r rest) (by_header image (g.M.Media.size c.args.from.now) c.in_ok-params.params (g.met.M.Media.modelled c.args.from.now image told) (params.told image told)))
    (read_names c.in-Err.fault _ rest (c.in-Err.ensures.fault image (params.same ∙ told))))

pub returns-in-Err-clause-asked : goal.returns-in-Err-clause-asked
returns-in-Err-clause-asked g c = λ image told.
    let params = c.in_ok-params.ensures in
    let p = c.in_ok-params.params in
    let enough : least_lines ≤ length image = omega (arith, c.requires.within, g.met.M.Media.modelled c.args.from.now image told) in
    let reads = subst (λ (n : ℕ). super_in (line_at image) (line_bytes * n) ≡ Ok p) (sym (g.met.M.Media.modelled c.args.from.now image told)) (params.told image told) in
    subst (FailsFromAt (IsReadAt image)) (sym c.fault_of_read.ensures)
    (read_among (IsOfLog (line_at image) p) (IsReadAt image) (λ at behind. (enough, inr (p, reads, behind))) c.in-Err.fault (c.in-Err.ensures.asked image (params.same ∙ told)))

pub returns-in-Err-clause-cause : goal.returns-in-Err-clause-cause
returns-in-Err-clause-cause g c =
    let params = c.in_ok-params.ensures in
    subst (λ (f : DupFault). IsCausedByFrom (g.M.Media.state c.args.from.now).faults (g.M.Media.state c.read_behind.new.media).faults (fault_class f)) (sym c.fault_of_read.ensures)
    (from_later _ _ _ (fault_class (of_read c.in-Err.fault)) params.steady.later (read_caused _ _ c.in-Err.fault c.in-Err.ensures.cause))

pub returns-in-Err-clause-counted : goal.returns-in-Err-clause-counted
returns-in-Err-clause-counted g c = λ exact.
    let params = c.in_ok-params.ensures in
    subst (λ (f : DupFault). (g.M.Media.state c.read_behind.new.media).faults ≡ from_counted (fault_class f) (g.M.Media.state c.args.from.now).faults) (sym c.fault_of_read.ensures)
    (read_counts _ _ c.in-Err.fault (c.in-Err.ensures.counted exact) ∙ ap (from_counted (fault_class (of_read c.in-Err.fault))) (params.quiet exact))

pub returns-in-Err-clause-line : goal.returns-in-Err-clause-line
returns-in-Err-clause-line g c =
    let params = c.in_ok-params.ensures in
    subst (λ (f : DupFault). NamesLine (g.M.Media.size c.args.from.now) 0 f) (sym c.fault_of_read.ensures)
    (subst (λ (n : ℕ). NamesLine n 0 (of_read c.in-Err.fault)) params.steady.size (read_within _ c.in-Err.fault c.in-Err.ensures.line))
