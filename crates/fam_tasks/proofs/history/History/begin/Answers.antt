use Rattle.std.proofs.Common.{◌≡◌, Bool, None, Some, [], cond, length, sym, ap, ◌∙◌}
use Rattle.fam_replay.specs.Replay.{entries_in}
use Rattle.fam_tasks.specs.History.{HistoryState, read_by}
use Rattle.fam_tasks.specs.declared.history.History.TheInside.{Inside}
use Rattle.fam_tasks.proofs.Begun.{begun, serves_by, serves_none, unread}
use Rattle.fam_tasks.proofs.history.History.begin.Goals as goal
use Rattle.fam_tasks.proofs.history.History.begin.Goals.{then-self, else-self}

pub returns-after-self-clause-count : goal.returns-after-self-clause-count
returns-after-self-clause-count c =
    let k = c.in-Some.kept in
    let kept : c.args.self.now.kept ≡ Some k = ap (λ (s : HistoryState). s.kept) (sym c.self.view_is) ∙ c.in-Some.is in
    let used = serves_by c.args.self.now.kept k c.args.params.now c.args.gate c.serves-self-inside.result kept c.serves-self-inside.ensures in
    elim c.if-self.branch [
      | then-self w ↦ w.result-is ∙ w.count.ensures ∙ sym (ap length (used ∙ ap (λ (b : Bool). cond b k.entries []) w.if-self.true))
      | else-self w ↦ w.result-is ∙ sym (ap length (used ∙ ap (λ (b : Bool). cond b k.entries []) w.if-self.false))
    ]

pub returns-after-self-clause-entries : goal.returns-after-self-clause-entries
returns-after-self-clause-entries c =
    let k = c.in-Some.kept in
    let kept : c.args.self.now.kept ≡ Some k = ap (λ (s : HistoryState). s.kept) (sym c.self.view_is) ∙ c.in-Some.is in
    let used = serves_by c.args.self.now.kept k c.args.params.now c.args.gate c.serves-self-inside.result kept c.serves-self-inside.ensures in
    let none : c.self.inside.replay ≡ None = unread c.self.inside.serves c.self.inside.kept c.self.inside.replay (ap (λ (s : HistoryState). s.replay) c.self.view_is ∙ c.requires) in
    let found = begun c.serves-self-inside.result k c.self.inside.kept c.self.inside.replay c.in-Some.is none ∙ sym used in
    elim c.if-self.branch [
      | then-self w ↦ ap (λ (h : Inside). entries_in (read_by h.serves h.kept h.replay)) w.self-inside-is ∙ found
      | else-self w ↦ ap (λ (h : Inside). entries_in (read_by h.serves h.kept h.replay)) w.self-inside-is ∙ found
    ]

pub returns-in-None-clause-count : goal.returns-in-None-clause-count
returns-in-None-clause-count c =
    sym (ap length (serves_none c.args.self.now.kept c.args.params.now c.args.gate (ap (λ (s : HistoryState). s.kept) (sym c.self.view_is) ∙ c.in-None.is)))

pub returns-in-None-clause-entries : goal.returns-in-None-clause-entries
returns-in-None-clause-entries c =
    ap entries_in c.requires ∙ sym (serves_none c.args.self.now.kept c.args.params.now c.args.gate (ap (λ (s : HistoryState). s.kept) (sym c.self.view_is) ∙ c.in-None.is))
