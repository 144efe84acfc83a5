use Rattle.std.proofs.Common.{◌∙◌, ◌+◌, sym, subst, arith, refl}
use Rattle.std.proofs.lemmas.List.{get_or_default}
use Rattle.fam_machine.specs.OneLine.{IsAsked}
use Rattle.fam_cache.specs.declared.blocks.Block.{Block}
use Rattle.fam_cache.specs.Blocks.{cell_in, no_block}
use Rattle.fam_cache.proofs.AskedBlocks.{first_here, none_behind, none_in_block, none_there, none_to}
use Rattle.fam_cache.proofs.blocks.next_asked.Goals as goal
use Rattle.fam_cache.proofs.blocks.next_asked.Goals.{in-Some-find+in_default-asked_in, in_default-find}

pub loop-next-init : goal.loop-next-init
loop-next-init c = record { from_there = omega arith; none = λ q from below. absurd (omega (arith, from, below)) }

pub loop-next-preserved : goal.loop-next-preserved
loop-next-preserved c =
    let now = c.args.cache.now in
    let v = c.loop-next.invariant in
    record {
      from_there = omega (arith, v.from_there, c.in-Some.ensures.from_there);
      none = elim c.match-find.branch [
        | in-Some-find+in_default-asked_in w ↦
            let stands = w.in-Some-find.ensures in
            let is = w.index.ensures ∙ get_or_default now.blocks.items w.in-Some-find.at w.index.result.now no_block stands.within in
            none_in_block now c.requires c.args.first c.loop-next.number c.in-Some.next v.none c.in-Some.ensures.skipped w.in-Some-find.at
            w.start_in.result stands w.start_in.ensures.here w.start_in.ensures.later
            (λ i from below asked. w.in_default-asked_in.ensures.none refl i from below (subst (λ (b : Block). IsAsked (cell_in b i)) (sym is) asked))
        | in_default-find w ↦ none_there now c.requires c.args.first c.loop-next.number c.in-Some.next v.none c.in-Some.ensures.skipped w.in_default-find.ensures
      ];
    }

pub returns-then-last-next-clause-none : goal.returns-then-last-next-clause-none
returns-then-last-next-clause-none c = λ is. none_to c.args.cache.now c.requires c.args.first c.loop-next.number c.in-Some.next
    c.loop-next.invariant.none c.in-Some.ensures.skipped c.args.last c.if-last-next.true

pub returns-in-Some-asked_in-clause-asked : goal.returns-in-Some-asked_in-clause-asked
returns-in-Some-asked_in-clause-asked c =
    let now = c.args.cache.now in
    let v = c.loop-next.invariant in
    let e = c.in-Some-asked_in.ensures in
    let stands = c.in-Some-find.ensures in
    let is = c.index.ensures ∙ get_or_default now.blocks.items c.in-Some-find.at c.index.result.now no_block stands.within in
    first_here now c.requires c.args.first c.loop-next.number c.in-Some.next v.none c.in-Some.ensures.skipped c.in-Some-find.at c.start_in.result
    stands c.start_in.ensures.here c.start_in.ensures.later
    (omega (arith, v.from_there, c.in-Some.ensures.from_there)) c.in-Some-asked_in.offset e.within e.from_there (subst (λ (b : Block). IsAsked (cell_in b c.in-Some-asked_in.offset)) is e.asked)
    (λ i from below asked. e.before i from below (subst (λ (b : Block). IsAsked (cell_in b i)) (sym is) asked))

pub returns-clause-none : goal.returns-clause-none
returns-clause-none c = λ is. none_behind c.args.cache.now c.requires c.args.first c.loop-next.number 0 c.loop-next.invariant.none (c.in_default.ensures.none refl) (c.args.last + 1)
