use Rattle.std.proofs.Common.{◌≡◌, ◌<◌, ◌++◌, ◌∷◌, [], ℕ, List, length, ap, sym, subst, arith, rules}
use Rattle.fam_tree.specs.Lines.{line_feed}
use Rattle.fam_tree.specs.Said.{IsRead}
use Rattle.fam_tree.proofs.Cutting.{back_shorter}
use Rattle.fam_tree.proofs.LinesSaid.{tells_all, tells_bad, tells_more}
use Rattle.fam_tree.proofs.listings.read_lines.Goals as goal

pub returns-in_default-clause-bad : goal.returns-in_default-clause-bad
returns-in_default-clause-bad c =
    let left : 0 < length c.loop-rest.rest.now = search rules in
    let none = subst (IsRead c.loop-rest.before c.cut.result.0.now) c.in_default.is c.in_ok-entry.ensures in
    tells_bad c.args.first c.args.bytes.now c.loop-rest.entries.items c.loop-rest.number c.loop-rest.before c.loop-rest.rest.now c.cut.result.0.now
    c.loop-rest.invariant.told left c.cut.ensures.front none

pub loop-rest-smaller : goal.loop-rest-smaller
loop-rest-smaller c =
    let left : 0 < length c.loop-rest.rest.now = search rules in
    subst (λ (l : List ℕ). length l < length c.loop-rest.rest.now) (sym c.cut.ensures.back) (back_shorter line_feed c.loop-rest.rest.now left)

pub loop-rest-preserved : goal.loop-rest-preserved
loop-rest-preserved c =
    let left : 0 < length c.loop-rest.rest.now = search rules in
    let own = subst (IsRead c.loop-rest.before c.cut.result.0.now) c.in-Some.is c.in_ok-entry.ensures in
    let pushed : c.push.new.self.items ≡ c.loop-rest.entries.items ++ c.in-Some.entry ∷ [] = search rules in
    record {
      told = λ said h. tells_more c.args.first c.args.bytes.now c.loop-rest.entries.items c.loop-rest.number c.loop-rest.before c.loop-rest.rest.now
          c.cut.result.0.now c.loop-rest.invariant.told left c.cut.ensures.front c.in-Some.entry c.cut.result.1.now c.push.new.self.items
          c.cut.ensures.back pushed own said h;
      room = omega (arith, c.loop-rest.invariant.room, ap (λ (l : List ℕ). length l) c.cut.ensures.back, back_shorter line_feed c.loop-rest.rest.now left);
    }

pub returns-clause-read : goal.returns-clause-read
returns-clause-read c =
    let none : length c.loop-rest.rest.now ≡ 0 = search rules in
    tells_all c.args.first c.args.bytes.now c.loop-rest.entries.items c.loop-rest.number c.loop-rest.before c.loop-rest.rest.now [] c.loop-rest.invariant.told none
