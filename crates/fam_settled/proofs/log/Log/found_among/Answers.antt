use Rattle.std.proofs.Common.{◌≡◌, get_or, sym, arith}
use Rattle.std.proofs.lemmas.Option.{get_or_from_slice_get}
use Rattle.fam_base.specs.PathOrder.{path_eq}
use Rattle.fam_rules.specs.Asks.{File}
use Rattle.fam_settled.specs.Bytes.{file_with}
use Rattle.fam_settled.specs.Settled.{settled_and_pending}
use Rattle.fam_settled.proofs.Finding.{found_next, none_more}
use Rattle.fam_settled.proofs.log.Log.found_among.Goals as goal

pub returns-then-eq : goal.returns-then-eq
returns-then-eq c =
    let all = settled_and_pending c.args.self.now in
    let x : File = file_with c.entry_at-entry.result.0 c.entry_at-entry.result.1.now in
    let at : get_or all c.loop-i.i x ≡ x = get_or_from_slice_get all c.loop-i.i x x c.entry_at-entry.ensures in
    found_next (λ f. path_eq f.entry.path c.args.path.now) all c.args.m c.loop-i.i x c.loop-i-test.true
    (omega (arith, c.loop-i-test.true, c.requires)) at (sym c.if-eq.ensures.value) c.loop-i.invariant

pub loop-i-preserved : goal.loop-i-preserved
loop-i-preserved c =
    let all = settled_and_pending c.args.self.now in
    let x : File = file_with c.entry_at-entry.result.0 c.entry_at-entry.result.1.now in
    let at : get_or all c.loop-i.i x ≡ x = get_or_from_slice_get all c.loop-i.i x x c.entry_at-entry.ensures in
    none_more (λ f. path_eq f.entry.path c.args.path.now) all c.loop-i.i x (omega (arith, c.loop-i-test.true, c.requires)) at (sym c.if-eq.ensures.value) c.loop-i.invariant
