use Rattle.std.proofs.Common.{◌↔◌, ℕ, false, true, IsTrue, List, length, map, refl, sym, ap, subst, ◌∙◌}
use Rattle.std.proofs.lemmas.Bool.{true≢false}
use Rattle.fam_judge.specs.Possible.{shapes_in, past_in}
use Rattle.fam_judge.specs.Standing.{MayStand}
use Rattle.fam_judge.proofs.Folding.{shape_in}
use Rattle.fam_lines.specs.declared.host.SeenHost.{SeenHost}
use Rattle.fam_lines.specs.Hosts.{faces_of}
use Rattle.fam_lines.specs.Lines.{note_of_line}
use Rattle.fam_judging.specs.declared.candidate.Track.{Track}
use Rattle.fam_judging.specs.After.{tracks_after}
use Rattle.fam_judging.specs.Candidates.{possible_of, progress_list}
use Rattle.fam_judging.proofs.Keeping.{placed_after}
use Rattle.fam_judging.proofs.Plains.{faces_seen, line_sound, plain_goes, plain_next}
use Rattle.fam_judging.proofs.plain.plain.Goals as goal

pub returns-then-not-stands-clause-goes : goal.returns-then-not-stands-clause-goes
returns-then-not-stands-clause-goes c start given long has =
    let hosts = c.args.hosts.now in
    let old = c.args.candidate.now in
    let x = possible_of start hosts old in
    let seen = faces_seen hosts.seen.items hosts.commands.items old.tracks.items c.requires.hosts c.requires.candidate ∙ ap (λ (s : List SeenHost). faces_of s) (sym c.deref.ensures.value) in
    plain_goes start x _ (note_of_line c.args.line.now) false c.requires.plain
    (subst (λ (n : ℕ). IsTrue false ↔ MayStand n (shapes_in x) (note_of_line c.args.line.now)) (sym long) (c.if-not-stands.ensures.is (shapes_in x) seen c.requires.plain))
    (λ h. absurd (true≢false (sym h)))

pub settle-requires-clause-made : goal.settle-requires-clause-made
settle-requires-clause-made c =
    let hosts = c.args.hosts.now in
    let old = c.args.candidate.now in
    let shapes = map shape_in (progress_list hosts.seen.items hosts.commands.items old.tracks.items) in
    let seen = faces_seen hosts.seen.items hosts.commands.items old.tracks.items c.requires.hosts c.requires.candidate ∙ ap (λ (s : List SeenHost). faces_of s) (sym c.deref.ensures.value) in
    line_sound c.args.lines shapes c.args.line.now ((c.if-not-stands.ensures.is shapes seen c.requires.plain).0 refl) c.master_is.ensures c.requires.few

pub returns-in_err-settle-clause-given : goal.returns-in_err-settle-clause-given
returns-in_err-settle-clause-given c start given has = c.settle.ensures.given start given has

pub returns-in_err-keep-clause-given : goal.returns-in_err-keep-clause-given
returns-in_err-keep-clause-given c start given has = c.settle.ensures.given start given has

pub returns-clause-given : goal.returns-clause-given
returns-clause-given c start given has = c.settle.ensures.given start given has

pub returns-clause-goes : goal.returns-clause-goes
returns-clause-goes c start given long has =
    let hosts = c.args.hosts.now in
    let old = c.args.candidate.now in
    let x = possible_of start hosts old in
    let seen = faces_seen hosts.seen.items hosts.commands.items old.tracks.items c.requires.hosts c.requires.candidate ∙ ap (λ (s : List SeenHost). faces_of s) (sym c.deref.ensures.value) in
    let next = plain_next start hosts old (record { settled = c.settle.new.settled; tracks = c.keep.new.tracks }) c.args.line.now c.requires.plain c.requires.hosts c.requires.candidate
    (c.in_ok-settle.ensures.settled start (past_in start x) refl)
    (c.in_ok-keep.ensures ∙ ap (λ (n : ℕ). tracks_after n old.tracks.items c.args.line.now) (c.settled_count-count.ensures start given has)) in
    plain_goes start x _ (note_of_line c.args.line.now) true c.requires.plain
    (subst (λ (n : ℕ). IsTrue true ↔ MayStand n (shapes_in x) (note_of_line c.args.line.now)) (sym long) (c.if-not-stands.ensures.is (shapes_in x) seen c.requires.plain))
    (λ h. next)

pub returns-clause-candidate : goal.returns-clause-candidate
returns-clause-candidate c h =
    ap (λ (ts : List Track). length ts) c.in_ok-keep.ensures ∙ placed_after _ c.args.hosts.now.seen.items c.args.candidate.now.tracks.items c.args.line.now c.requires.candidate
