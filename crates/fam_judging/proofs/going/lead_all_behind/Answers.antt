use Rattle.std.proofs.Common.{◌≡◌, ℕ, length, refl, sym, subst, arith}
use Rattle.std.proofs.lemmas.Option.{slice_get_read}
use Rattle.fam_judge.specs.Possible.{Possible, Wrote}
use Rattle.fam_lines.specs.Lines.{note_of_line}
use Rattle.fam_judging.specs.declared.candidate.Candidate.{Candidate}
use Rattle.fam_judging.specs.After.{possible_after, seen_after}
use Rattle.fam_judging.specs.Among.{LeadsBehind, LeadsBehindAll}
use Rattle.fam_judging.specs.Candidates.{possible_of}
use Rattle.fam_judging.specs.Pushing.{IsFine}
use Rattle.fam_judging.proofs.Among.{behind_next}
use Rattle.fam_judging.proofs.Onward.{copy_fine}
use Rattle.fam_judging.proofs.Writtens.{copied}
use Rattle.fam_judging.proofs.going.lead_all_behind.Goals as goal

pub named-preserved : goal.named-preserved
named-preserved c start x long fine names =
    let hosts = c.args.hosts.now in
    let line = note_of_line c.args.line.now in
    let Fine : Candidate → Type 0 = IsFine start c.args.given.now (seen_after hosts.seen.items c.args.line.now) in
    let see = possible_after start hosts c.args.line.now in
    let ws = c.args.written.now.items in
    let d = c.index.result.now in
    let one = c.in-Ok.one in
    let at_is = slice_get_read ws (length ws) c.named.i d refl (omega (arith, c.named-test.true, c.len-i-end.ensures)) c.index.ensures in
    let same = copied start hosts d one c.in-Ok.ensures.settled c.in-Ok.ensures.tracks in
    let mid = c.named.out.items in
    let new = c.lead_behind.new.out.items in
    behind_next start line c.args.at x (possible_of start hosts) ws Fine see c.named.i d c.args.out.now.items mid new at_is
    (c.named.invariant start x long fine names)
    (subst (λ (w : Possible). LeadsBehind start line c.args.at x w Fine see mid new) same
    (c.in_ok-lead_behind.ensures start x long
    (copy_fine start c.args.given.now hosts.seen.items d one c.in-Ok.ensures.settled c.in-Ok.ensures.tracks (fine c.named.i d at_is))
    (subst (λ (w : Possible). Wrote start c.args.at x w) (sym same) (names c.named.i d at_is))))

pub returns : goal.returns
returns c start x long fine names =
    let hosts = c.args.hosts.now in
    let Fine : Candidate → Type 0 = IsFine start c.args.given.now (seen_after hosts.seen.items c.args.line.now) in
    let ws = c.args.written.now.items in
    let end : c.named.i ≡ length ws = omega (arith, c.named-test.false, c.len-i-end.ensures, c.named.auto.i-end) in
    subst (λ (n : ℕ). LeadsBehindAll start (note_of_line c.args.line.now) c.args.at x (possible_of start hosts) ws n Fine (possible_after start hosts c.args.line.now)
    c.args.out.now.items c.named.out.items) end
    (c.named.invariant start x long fine names)
