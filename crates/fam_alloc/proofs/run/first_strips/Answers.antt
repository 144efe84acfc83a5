use Rattle.std.proofs.Common.{◌≡◌, ℕ, ◌+◌, ◌/◌, ◌∙◌, sym, ap, arith}
use Rattle.fam_rules.specs.Room.{given, offers_of}
use Rattle.fam_alloc.specs.Runs.{outside}
use Rattle.fam_alloc.proofs.StripLemmas.{given_more, enough, too_few, fewer_more}
use Rattle.fam_alloc.proofs.run.first_strips.Goals as goal

pub returns-then-len-nstrips : goal.returns-then-len-nstrips
returns-then-len-nstrips c =
    let used = outside c.args.runs.now.entries in
    enough used c.args.units c.args.count c.args.nstrips c.args.nbuckets c.args.seq (c.loop-turn.turn + 1) c.add.new.self (omega arith)
    (given_more used (c.args.units / c.args.nbuckets) c.args.count c.args.nbuckets c.args.seq c.loop-turn.turn c.loop-turn.starts c.add.new.self c.offer.result
    c.loop-turn.invariant.given c.offer.ensures c.add.ensures)
    (sym c.len.ensures.count ∙ c.if-len-nstrips.true)

pub loop-turn-preserved : goal.loop-turn-preserved
loop-turn-preserved c =
    let used = outside c.args.runs.now.entries in
    record {
      given =
          given_more used (c.args.units / c.args.nbuckets) c.args.count c.args.nbuckets c.args.seq c.loop-turn.turn c.loop-turn.starts c.add.new.self c.offer.result
          c.loop-turn.invariant.given c.offer.ensures c.add.ensures;
      fewer =
          fewer_more c.loop-turn.starts c.add.new.self c.offer.result c.args.nstrips c.add.ensures c.loop-turn.invariant.fewer
          (λ e. c.if-len-nstrips.false (c.len.ensures.count ∙ e));
    }

pub returns : goal.returns
returns c =
    let used = outside c.args.runs.now.entries in
    let all : c.loop-turn.turn ≡ c.args.nbuckets = omega arith in
    too_few used c.args.units c.args.count c.args.nstrips c.args.nbuckets c.args.seq c.loop-turn.starts
    (c.loop-turn.invariant.given
    ∙ ap (λ (t : ℕ). given (offers_of used (c.args.units / c.args.nbuckets) c.args.count c.args.nbuckets c.args.seq t)) all)
    c.loop-turn.invariant.fewer
