use Rattle.std.proofs.Common.{◌≡◌, List, length, refl, sym, ap, ◌∙◌}
use Rattle.std.proofs.lemmas.Option.{same_Some, slice_get_read}
use Rattle.fam_base.specs.declared.entry.Entry.{Entry}
use Rattle.fam_journal.specs.Members.{changed_at}
use Rattle.fam_judge.proofs.Members.{changed_count}
use Rattle.fam_lines.specs.declared.host.SeenHost.{SeenHost}
use Rattle.fam_judging.specs.declared.candidate.Track.{Track}
use Rattle.fam_judging.specs.After.{named_track}
use Rattle.fam_judging.proofs.Tests.{met_at}
use Rattle.fam_judging.proofs.Writing.{names_next, names_unmet, told_host}
use Rattle.fam_judging.proofs.naming.name.Goals as goal

pub returns-then-not-has_met-clause-names : goal.returns-then-not-has_met-clause-names
returns-then-not-has_met-clause-names c start given has =
    names_unmet start c.args.hosts.now c.args.candidate.now c.args.at c.args.n _ c.if-not-has_met.ensures

pub name_in-requires : goal.name_in-requires
name_in-requires c =
    let m = met_at c.args.hosts.now c.args.candidate.now c.args.at c.args.n c.in_ok-cmd.cmd.now (sym c.in_ok-cmd.ensures.is) (sym c.if-not-has_met.ensures) in
    record { told = c.requires.told c.args.at c.in_ok-cmd.cmd.now m.owns.told }

pub returns-in-None-clause-names : goal.returns-in-None-clause-names
returns-in-None-clause-names c start given has =
    let m = met_at c.args.hosts.now c.args.candidate.now c.args.at c.args.n c.in_ok-cmd.cmd.now (sym c.in_ok-cmd.ensures.is) (sym c.if-not-has_met.ensures) in
    let items = c.args.hosts.now.seen.items in
    let x = c.index.result.now in
    let at_is = slice_get_read items (length items) c.args.at x refl c.in_ok-cmd.ensures.within c.index.ensures in
    let one : m.owns.host ≡ x = same_Some m.owns.host x (sym m.owns.is ∙ at_is) in
    names_next start c.args.hosts.now c.args.candidate.now c.args.at c.args.n c.in_ok-cmd.cmd.now m
    (record { settled = c.name_in.new.settled; tracks = c.args.candidate.now.tracks }) _
    (c.in-None.ensures.names start given (told_host start c.args.hosts.now c.args.candidate.now c.args.at c.args.n c.in_ok-cmd.cmd.now m) has refl (ap (λ (s : SeenHost). s.uuid) one))
    (λ e is. absurd cc)

pub returns-in-Some-clause-names : goal.returns-in-Some-clause-names
returns-in-Some-clause-names c start given has =
    let m = met_at c.args.hosts.now c.args.candidate.now c.args.at c.args.n c.in_ok-cmd.cmd.now (sym c.in_ok-cmd.ensures.is) (sym c.if-not-has_met.ensures) in
    let items = c.args.hosts.now.seen.items in
    let x = c.index.result.now in
    let at_is = slice_get_read items (length items) c.args.at x refl c.in_ok-cmd.ensures.within c.index.ensures in
    let one : m.owns.host ≡ x = same_Some m.owns.host x (sym m.owns.is ∙ at_is) in
    names_next start c.args.hosts.now c.args.candidate.now c.args.at c.args.n c.in_ok-cmd.cmd.now m
    (record { settled = c.name_in.new.settled; tracks = c.put_named.new.tracks }) _
    (c.in-Some.ensures.names start given (told_host start c.args.hosts.now c.args.candidate.now c.args.at c.args.n c.in_ok-cmd.cmd.now m) has refl (ap (λ (s : SeenHost). s.uuid) one))
    (λ e is. c.put_named.ensures
    ∙ ap (λ (z : Entry). changed_at c.args.at (named_track c.args.n z) c.args.candidate.now.tracks.items) (same_Some c.in-Some.entry e is))

pub returns-in-Some-clause-placed : goal.returns-in-Some-clause-placed
returns-in-Some-clause-placed c = ap (λ (ts : List Track). length ts) c.put_named.ensures ∙ changed_count c.args.at _ c.args.candidate.now.tracks.items
