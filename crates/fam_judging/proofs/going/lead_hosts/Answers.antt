use Rattle.std.proofs.Common.{◌≡◌, ℕ, length, subst, sym, arith}
use Rattle.fam_judge.specs.Possible.{Possible}
use Rattle.fam_lines.specs.Lines.{note_of_line}
use Rattle.fam_judging.specs.declared.candidate.Candidate.{Candidate}
use Rattle.fam_judging.specs.declared.candidate.Settled.{Settled}
use Rattle.fam_judging.specs.After.{possible_after, seen_after}
use Rattle.fam_judging.specs.Among.{LeadsAmong, StepsAmong}
use Rattle.fam_judging.specs.Candidates.{possible_of}
use Rattle.fam_judging.specs.Going.{HasGiven}
use Rattle.fam_judging.specs.Pushing.{IsFine}
use Rattle.fam_judging.proofs.Onward.{among_first, among_next}
use Rattle.fam_judging.proofs.Writtens.{copied}
use Rattle.fam_judging.proofs.going.lead_hosts.Goals as goal

pub hosts-init : goal.hosts-init
hosts-init c start long has =
    let hosts = c.args.hosts.now in
    let old = c.args.candidate.now in
    let own = c.in-Ok.own in
    let line = note_of_line c.args.line.now in
    let Fine : Candidate → Type 0 = IsFine start c.args.given.now (seen_after hosts.seen.items c.args.line.now) in
    let see = possible_after start hosts c.args.line.now in
    let out = c.args.out.now.items in
    let new = c.step_among.new.out.items in
    let same = copied start hosts old own c.in-Ok.ensures.settled c.in-Ok.ensures.tracks in
    let said = subst (λ (s : Settled). HasGiven start c.args.given.now s) (sym c.in-Ok.ensures.settled) has in
    among_first start line (possible_of start hosts old) Fine see out new
    (subst (λ (x : Possible). StepsAmong start line x Fine see out new) same (c.in_ok-step_among.ensures start long said))

pub hosts-preserved : goal.hosts-preserved
hosts-preserved c start long has =
    let hosts = c.args.hosts.now in
    among_next start (note_of_line c.args.line.now) (possible_of start hosts c.args.candidate.now)
    (IsFine start c.args.given.now (seen_after hosts.seen.items c.args.line.now)) (possible_after start hosts c.args.line.now)
    c.hosts.at c.args.out.now.items c.hosts.out.items c.lead_host.new.out.items (c.hosts.invariant start long has) (c.in_ok-lead_host.ensures start long has)

pub returns : goal.returns
returns c start long has =
    let hosts = c.args.hosts.now in
    let Fine : Candidate → Type 0 = IsFine start c.args.given.now (seen_after hosts.seen.items c.args.line.now) in
    let end : c.hosts.at ≡ length hosts.seen.items = omega (arith, c.hosts-test.false, c.len-at-end.ensures, c.hosts.auto.at-end) in
    subst (λ (n : ℕ). LeadsAmong start (note_of_line c.args.line.now) n (possible_of start hosts c.args.candidate.now) Fine (possible_after start hosts c.args.line.now)
    c.args.out.now.items c.hosts.out.items) end
    (c.hosts.invariant start long has)
