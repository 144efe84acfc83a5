-- Samples: endings of runs, and what calls may and may not promise.
use Rattle.std.proofs.Common.{◌≡◌, ℕ, inr, false, List, [], ◌∷◌, Some, None, refl}
use Rattle.std.specs.Prelude.{codes}
use Rattle.std.specs.FinMap as finmap
use Rattle.fam_media.specs.Files.{Files}
use Rattle.fam_journal.specs.declared.event.Event.TheVariants as event
use Rattle.fam_journal.specs.declared.refusal.Refusal.TheVariants as why
use Rattle.fam_outcomes.specs.declared.status.Status.TheVariants as status
use Rattle.fam_outcomes.specs.Programs.{script_status}
use Rattle.fam_journal.specs.Calls as call
use Rattle.fam_journal.specs.Calls.{refusal_of}
use Rattle.fam_journal.specs.Ends.{AllDone, EventsDone, SinkFails}
use Rattle.fam_journal.specs.Events.{Session, first_session}
use Rattle.fam_journal.specs.View.{WorldView, empty_world}
use Rattle.fam_journal.specs.ByWorld.{refusal_in, world_after}
use Rattle.fam_journal.specs.CallRecords.{Answers, DoesPart}
use Rattle.fam_journal.specs.Machines.{HostState, unused}
use Rattle.fam_journal.specs.Notes.{Host, Refused}
use Rattle.fam_machine.specs.MkfsRequest.{mkfs_request}

abbrev id : List ℕ
id = 0 ∷ 0 ∷ 0 ∷ 0 ∷ 0 ∷ 0 ∷ 0 ∷ 0 ∷ 0 ∷ 0 ∷ 0 ∷ 0 ∷ 0 ∷ 0 ∷ 0 ∷ 1 ∷ []

abbrev host_m : HostState
host_m = record { name = codes "m"; uuid = id; cache = finmap.empty; task = None; kept = None }

abbrev with_m : Session
with_m = record { machines = record { memory = []; hosts = host_m ∷ [] }; copied = 0 }

-- a finish of a host that isn't declared may lack memory, and then did nothing
part_of_none : DoesPart (call.Finishes (codes "x")) (unused []) [] (unused [])
part_of_none = inr (refl, refl)

-- a refusal makes a script's status Refused
not_good : (files : Files) → EventsDone AllDone files (event.Finish (codes "m") ∷ []) with_m (Refused (codes "m") why.Idle ∷ []) with_m
unfolding refusal_of
not_good files = (with_m, Refused (codes "m") why.Idle ∷ [], [], ((refl, refl), refl), (refl, refl), refl)

refused : script_status AllDone (Refused (codes "m") why.Idle ∷ []) ≡ status.Refused
refused = refl

-- the sink fails at the first note: the mkfs behind it isn't run
sink_fails : (files : Files) → EventsDone SinkFails files (event.Host (codes "m") id ∷ event.Mkfs (codes "m") (mkfs_request id 4096 65536 1 false None) ∷ [])
    (first_session []) (Host (codes "m") id ∷ []) with_m
unfolding refusal_of
sink_fails files = record {
  count = 0;
  event = event.Host (codes "m") id;
  is = refl;
  mid = first_session [];
  whole_notes = [];
  part_notes = Host (codes "m") id ∷ [];
  whole = (refl, refl);
  part = ((refl, refl), refl);
  joined = refl;
}

-- a host is declared, once
declares : world_after (call.Declares (codes "m") id) 0 empty_world
    ≡ record {
      hosts = record { name = codes "m"; uuid = id; cache = finmap.empty; task = None; kept = None } ∷ [];
      journal =
          Host (codes "m") id ∷ [];
    }
unfolding refusal_of
declares = refl

-- where the world has no cause to refuse, no step answers that there is no such host, whatever the media tells
no_false_refusal : (name : List ℕ) (lines before now : ℕ) (old new : WorldView) → refusal_in (call.Steps name) old lines ≡ None
    → Answers (call.Steps name) lines (Some why.NoHost) before now old new → ⊥
no_false_refusal name lines before now old new free answers = answers.free why.NoHost free refl
