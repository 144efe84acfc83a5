use Rattle.std.proofs.Common.{◌≡◌, ℕ, List, ap, sym, subst, ◌∙◌}
use Rattle.std.specs.Prelude.{◌==◌}
use Rattle.fam_lines.specs.declared.host.SeenHost.{SeenHost}
use Rattle.fam_verdict.specs.Begins.{MayBegin}
use Rattle.fam_verdict.specs.declared.judged.Judged.{Judged}
use Rattle.fam_verdict.proofs.Beginnings.{begins_told}
use Rattle.fam_verdict.proofs.Onward.{judged_next, kept_next, none_of, some_of, stops_begin, stops_none}
use Rattle.fam_verdict.proofs.judged.Judged.follow.Goals as goal

pub returns-then-not-may_begin-clause-stops : goal.returns-then-not-may_begin-clause-stops
returns-then-not-may_begin-clause-stops c start records r long judged is e =
    let seen : c.deref.result.now ≡ c.args.self.now.hosts.seen.items = c.deref.ensures.value in
    stops_begin start c.args.given.now records c.args.self.now judged c.requires.kept r c.args.line.now is
    (λ may. let t = c.may_begin.ensures.1 (subst (λ (s : List SeenHost). MayBegin c.args.lines s c.args.line.now) (sym seen)
    (subst (λ (n : ℕ). MayBegin n c.args.self.now.hosts.seen.items c.args.line.now) long may)) in let f = c.if-not-may_begin.true in absurd cc)

pub returns-then-is_empty-clause-stops : goal.returns-then-is_empty-clause-stops
returns-then-is_empty-clause-stops c start records r long judged is e =
    stops_none start c.args.given.now records c.args.self.now judged c.requires.kept r c.args.line.now is c.in_ok-next.next.items
    (none_of c.in_ok-next.next.items (sym (ap (λ (n : ℕ). n == 0) c.in_ok-next.next.ok.0) ∙ sym c.is_empty.ensures ∙ c.if-is_empty.true)) (c.in_ok-next.ensures.leads start long judged.fine)

pub returns-clause-kept : goal.returns-clause-kept
returns-clause-kept c e =
    let seen : c.deref.result.now ≡ c.args.self.now.hosts.seen.items = c.deref.ensures.value in
    let may : MayBegin c.args.lines c.args.self.now.hosts.seen.items c.args.line.now =
    subst (λ (s : List SeenHost). MayBegin c.args.lines s c.args.line.now) seen (c.may_begin.ensures.0 c.if-not-may_begin.false) in
    let new : Judged = record { hosts = c.follow.new.self; candidates = c.in_ok-next.next; marks = c.args.self.now.marks } in
    kept_next c.args.lines c.args.self.now new c.args.line.now c.requires.kept may
    (begins_told c.args.lines c.args.self.now.hosts.seen.items c.args.line.now may c.requires.ready) c.in_ok-follow.ensures.seen c.in_ok-follow.ensures.commands
    (some_of c.in_ok-next.next.items (sym (ap (λ (n : ℕ). n == 0) c.in_ok-next.next.ok.0) ∙ sym c.is_empty.ensures ∙ c.if-is_empty.false))

pub returns-clause-goes : goal.returns-clause-goes
returns-clause-goes c start records r long judged is e =
    let new : Judged = record { hosts = c.follow.new.self; candidates = c.in_ok-next.next; marks = c.args.self.now.marks } in
    judged_next start c.args.given.now records c.args.self.now judged c.requires.kept r c.args.line.now is new c.in_ok-follow.ensures.seen c.in_ok-follow.ensures.commands
    (c.in_ok-next.ensures.leads start long judged.fine) (c.in_ok-next.ensures.fine start long judged.fine)
