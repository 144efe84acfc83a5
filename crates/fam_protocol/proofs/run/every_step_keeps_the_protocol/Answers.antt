use Rattle.fam_protocol.proofs.Hosts.Events.{invariant_declared, invariant_begun, invariant_stopped, invariant_halted}
use Rattle.fam_protocol.proofs.Hosts.Clears.{invariant_cleared}
use Rattle.fam_protocol.proofs.Hosts.Formats.{invariant_formatted}
use Rattle.fam_protocol.proofs.Hosts.Steps.{invariant_broken, invariant_transferred, invariant_stepped}
use Rattle.fam_protocol.proofs.run.every_step_keeps_the_protocol.Goals as goal

pub returns : goal.returns
returns c = record {
  transfer = λ settled lines host line hosts s s2 invariant transfer declared. invariant_transferred lines hosts host line s s2 transfer declared settled invariant;
  broken = λ settled lines host line hosts s s2 invariant breaks declared. invariant_broken lines hosts host line s s2 breaks declared settled invariant;
  step = λ settled lines host word r old new s s2 invariant steps. invariant_stepped lines host word settled r old new s s2 invariant steps;
  host = λ settled lines host id old new s invariant declares. invariant_declared settled lines host id old new s invariant declares;
  task = λ settled lines host cmd old new s invariant enough starts. invariant_begun settled lines host old new s cmd enough invariant starts;
  stop = λ settled lines host old new s invariant stops. invariant_stopped settled lines host old new s invariant stops;
  halt = λ settled lines host old new s s2 invariant stops loses. invariant_halted settled lines host old new s s2 invariant stops loses;
  made = λ p lines maker hosts s s2 are may formats wide. invariant_formatted maker p lines hosts s s2 may formats are wide;
  cleared = λ p lines maker hosts s s2 are may clears wide. invariant_cleared maker p lines hosts s s2 may clears are wide;
}
