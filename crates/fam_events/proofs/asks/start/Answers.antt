use Rattle.std.proofs.Common.{◌≡◌, None, Result, subst, sym}
use Rattle.std.specs.Prelude.{OnOk}
use Rattle.fam_rules.specs.Decide.{wish_of}
use Rattle.fam_world.specs.Concluded.{ReadsOf}
use Rattle.fam_events.specs.Rested.{IsRested, IsUnstoredOf}
use Rattle.fam_events.specs.declared.asks.Asked.{Asked}
use Rattle.fam_events.specs.declared.fault.EventFault.{EventFault}
use Rattle.fam_events.proofs.Resting.{begun_reads, begun_unstored}
use Rattle.fam_events.proofs.asks.start.Goals.{in-Ok, in-Err-OutOfMemory}
use Rattle.fam_events.proofs.asks.start.Goals as goal

pub returns-clause-unstored : goal.returns-clause-unstored
returns-clause-unstored c = elim c.match-begin.branch [
  | in-Ok w ↦
      subst (λ (r : Result Asked EventFault). OnOk r (IsRested c.args.world.now → IsUnstoredOf c.args.name.now c.args.world.now c.begin.new.self)) (sym w.result-is)
      (λ rested. begun_unstored c.args.name.now c.args.cmd.now c.args.lines c.args.world.now c.begin.new.self w.in-Ok.ensures.answered rested)
  | in-Err-OutOfMemory w ↦ subst (λ (r : Result Asked EventFault). OnOk r (IsRested c.args.world.now → IsUnstoredOf c.args.name.now c.args.world.now c.begin.new.self)) (sym w.result-is) tt
]

pub returns-clause-reads : goal.returns-clause-reads
returns-clause-reads c = elim c.match-begin.branch [
  | in-Ok w ↦
      subst (λ (r : Result Asked EventFault). OnOk r (wish_of c.args.cmd.now ≡ None → ReadsOf c.args.name.now c.args.world.now c.begin.new.self)) (sym w.result-is)
      (begun_reads c.args.name.now c.args.cmd.now c.args.lines c.args.world.now c.begin.new.self w.in-Ok.ensures.answered)
  | in-Err-OutOfMemory w ↦ subst (λ (r : Result Asked EventFault). OnOk r (wish_of c.args.cmd.now ≡ None → ReadsOf c.args.name.now c.args.world.now c.begin.new.self)) (sym w.result-is) tt
]
