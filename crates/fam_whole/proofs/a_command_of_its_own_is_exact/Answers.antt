use Rattle.std.proofs.Common.{inl, inr, None, refl}
use Rattle.fam_grammar.specs.Scripts.{script_events}
use Rattle.fam_journal.specs.declared.event.Ask.TheVariants as ask
use Rattle.fam_machine.specs.MkfsRequest.{mkfs_request}
use Rattle.fam_outcomes.specs.Programs.{Makes, MakesParents, Runs}
use Rattle.fam_storm.specs.Storm.{storm}
use Rattle.fam_top.specs.Calls.{fs_or, host_or, shot_of}
use Rattle.fam_whole.proofs.Alone.{ask_ends, command_ends}
use Rattle.fam_whole.proofs.Called.{shot_sound}
use Rattle.fam_whole.proofs.Fronts.{shot_front}
use Rattle.fam_whole.proofs.Makes.{mkfs_ends}
use Rattle.fam_whole.proofs.Shots.{parents_end, shot_run}
use Rattle.fam_whole.proofs.a_command_of_its_own_is_exact.Goals as goal

pub returns : goal.returns
returns c = record {
  command = λ me random out given system cmd files start none top told_start told.
      let host = host_or me system in
      elim (shot_run out none host (Runs (ask.Plain cmd)) start files told_start told (top.image start told_start) top.uuids.0 tt script_events storm given top.ends) [
        | inl memory ↦ inl memory
        | inr x ↦ inr (command_ends start host cmd files out given (ask_ends start host (ask.Plain cmd) files out given (top.image start told_start) top.uuids.0 x))
      ];
  asks = λ me random out given system what files start none top told_start told.
      let host = host_or me system in
      elim (shot_run out none host (Runs what) start files told_start told (top.image start told_start) top.uuids.0 tt script_events storm given top.ends) [
        | inl memory ↦ inl memory
        | inr x ↦ inr (ask_ends start host what files out given (top.image start told_start) top.uuids.0 x)
      ];
  mkfs = λ me random out given system fs unit log format force files start none top told_start told.
      let host = host_or me system in
      let request = mkfs_request (fs_or random fs) unit log format force None in
      elim (shot_run out none host (Makes request) start files told_start told (top.image start told_start) top.uuids.0 top.uuids.1 script_events storm given top.ends) [
        | inl memory ↦ inl memory
        | inr x ↦ inr (mkfs_ends start host request files out given (top.image start told_start) top.uuids.0 refl x)
      ];
  parents = λ me random out given system path attr files start none top told_start told.
      let host = host_or me system in
      elim (shot_run out none host (MakesParents path attr) start files told_start told (top.image start told_start) top.uuids.0 tt script_events storm given top.ends) [
        | inl memory ↦ inl memory
        | inr x ↦ inr (parents_end files start host path attr out given (top.image start told_start) x)
      ];
  front = λ me random out given system what files start media top told_start told.
      shot_front out media script_events storm (host_or me system) (shot_of random what) files told start told_start
      (top.image start told_start) top.uuids.0 (shot_sound random what top.uuids.1) given top.ends;
}
