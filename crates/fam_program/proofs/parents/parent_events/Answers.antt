use Rattle.std.proofs.Common.{ℕ, List, [], ◌∷◌, ◌++◌, map, arith, ap, ap₂, sym, ◌∙◌}
use Rattle.std.proofs.lemmas.List.{append-nil, append_assoc, nil_from_length}
use Rattle.fam_journal.specs.declared.event.Ask.{Ask}
use Rattle.fam_journal.specs.declared.event.Event.{Event}
use Rattle.fam_journal.specs.declared.event.Event.TheVariants as event
use Rattle.fam_program.proofs.Commands.Events.{makes}
use Rattle.fam_program.proofs.parents.parent_events.Goals as goal

pub paths-init : goal.paths-init
paths-init c =
    ap₂ (λ (es : List Event) (ps : List (List ℕ)). es ++ map (makes c.args.name c.args.attr) ps)
    (c.in_ok-add.ensures ∙ ap (λ (es : List Event). es ++ event.Host c.args.name c.args.me ∷ []) c.new-events.ensures.items)
    (c.into_iter-directory-iterator.ensures.into_iter_gives.0 ∙ c.in_ok-paths.ensures)

pub paths-preserved : goal.paths-preserved
paths-preserved c =
    let event_is : Event = makes c.args.name c.args.attr c.in-Some.directory in
    let rest : List (List ℕ) = c.next.new.self.rest.items in
    ap (λ (es : List Event). es ++ map (makes c.args.name c.args.attr) rest)
    (c.in_ok-add-2.ensures ∙ ap (λ (what : Ask). c.paths.events.items ++ event.Run c.args.name what ∷ []) c.in_ok-asked.ensures)
    ∙ append_assoc c.paths.events.items (event_is ∷ []) (map (makes c.args.name c.args.attr) rest)
    ∙ ap (λ (ps : List (List ℕ)). c.paths.events.items ++ map (makes c.args.name c.args.attr) ps) (sym c.in-Some.ensures.steps.0)
    ∙ c.paths.invariant

pub returns : goal.returns
returns c =
    let none = nil_from_length c.paths.directory-iterator.rest.items (let ok = c.paths.directory-iterator.rest.ok in let done = c.in-None.ensures.steps.0 in omega (arith, ok, done)) in
    sym (append-nil c.paths.events.items)
    ∙ ap (λ (ps : List (List ℕ)). c.paths.events.items ++ map (makes c.args.name c.args.attr) ps) (sym none)
    ∙ c.paths.invariant
