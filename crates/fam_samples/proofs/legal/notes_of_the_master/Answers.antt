use Rattle.std.proofs.Common.{◌≡◌, ℕ, List, [], Option, Some, None, Result, Ok, Err, refl, codes, sym, ap, ◌∙◌}
use Rattle.fam_base.specs.declared.entry.Entry.{Entry}
use Rattle.fam_rules.specs.declared.answers.Refused.{Refused}
use Rattle.fam_rules.specs.declared.answers.Refused.TheVariants as cause
use Rattle.fam_rules.specs.Content.{fill}
use Rattle.fam_journal.specs.Past.{new_host}
use Rattle.fam_samples.specs.Scene.{client_uuid, folder, master, mkdir, params, x, y}
use Rattle.fam_samples.proofs.Decided.{decides, first, of_client, other_name}
use Rattle.fam_samples.proofs.legal.notes_of_the_master.Goals as goal

pub returns-clause-decided : goal.returns-clause-decided
returns-clause-decided c = (refl, record { cmd = mkdir x; told = refl; none = refl; is = first })

abbrev path_of : Option (Result Entry Refused) → List ℕ
path_of None = []
path_of (Some (Err why)) = []
path_of (Some (Ok e)) = e.path

pub returns-clause-other_entry : goal.returns-clause-other_entry
returns-clause-other_entry c = λ a.
    other_name (ap path_of (sym first ∙ decides params (record (new_host (codes "m") master) { cmd = Some (mkdir x); floor = Some 0 }) [] (Ok (folder y)) (mkdir x) refl a.1))

pub returns-clause-client : goal.returns-clause-client
unfolding fill
returns-clause-client c = λ a.
    absurd (let e : Some (Err (cause.NotMaster client_uuid master)) ≡ Some (Ok (folder x)) = sym of_client
    ∙ decides params (record (new_host (codes "c") client_uuid) { cmd = Some (mkdir x); floor = Some 0 }) [] (Ok (folder x))
    (mkdir x) refl a.1 in cc)
