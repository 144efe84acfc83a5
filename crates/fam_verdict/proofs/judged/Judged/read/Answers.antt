use Rattle.std.proofs.Common.{◌≡◌, List, sym, subst}
use Rattle.fam_history.specs.ToldNotes.{AreDistinctNames}
use Rattle.fam_lines.specs.declared.host.SeenHost.{SeenHost}
use Rattle.fam_lines.specs.Hosts.{seen_names}
use Rattle.fam_records.specs.Histories.{record_seen}
use Rattle.fam_verdict.specs.Judged.{IsReadAs}
use Rattle.fam_verdict.proofs.Resolved.{read_as}
use Rattle.fam_verdict.proofs.judged.Judged.read.Goals as goal

pub returns-clause-goes : goal.returns-clause-goes
returns-clause-goes c start records long judged =
    let seen : c.deref.result.now ≡ c.args.self.now.hosts.seen.items = c.deref.ensures.value in
    let r = record_seen c.args.next in
    c.go.ensures.goes start records r long judged
    (subst (λ (s : List SeenHost). IsReadAs s r c.resolve-line.result) seen (read_as c.deref.result.now r c.resolve-line.result
    (subst (λ (s : List SeenHost). AreDistinctNames (seen_names s)) (sym seen) c.requires.kept.distinct) c.resolve-line.ensures.tells c.resolve-line.ensures.untold c.resolve-line.ensures.only))

pub returns-clause-stops : goal.returns-clause-stops
returns-clause-stops c start records long judged =
    let seen : c.deref.result.now ≡ c.args.self.now.hosts.seen.items = c.deref.ensures.value in
    let r = record_seen c.args.next in
    c.go.ensures.stops start records r long judged
    (subst (λ (s : List SeenHost). IsReadAs s r c.resolve-line.result) seen (read_as c.deref.result.now r c.resolve-line.result
    (subst (λ (s : List SeenHost). AreDistinctNames (seen_names s)) (sym seen) c.requires.kept.distinct) c.resolve-line.ensures.tells c.resolve-line.ensures.untold c.resolve-line.ensures.only))
    c.head-name.ensures.name c.head-name.ensures.answers
