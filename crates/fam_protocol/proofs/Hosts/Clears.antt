-- A maker that halts behind its first send leaves an image without a superblock, whatever was there.
use Rattle.std.proofs.Common.{◌≡◌, ◌≢◌, ℕ, ◌*◌, List, Some, inl, inr, refl, ap, subst, ◌∙◌}
use Rattle.std.proofs.lemmas.Bool.{cases_eq, false≢true}
use Rattle.fam_base.specs.declared.entry.Params.{Params}
use Rattle.fam_base.specs.declared.entry.Entry.{Entry}
use Rattle.fam_format.specs.Reading.{Sound, reading_of}
use Rattle.fam_machine.specs.OneLine.{IsDirty}
use Rattle.fam_rules.specs.Place.{line_bytes}
use Rattle.fam_rules.proofs.TornHead.{none_read}
use Rattle.fam_protocol.specs.SharedState.{SharedState}
use Rattle.fam_protocol.specs.Core.{IsWide}
use Rattle.fam_protocol.specs.Invariant.{Hosts, AreHosts, Damaged, Invariant}
use Rattle.fam_protocol.specs.Events.{Clears, MayFormat}
use Rattle.fam_protocol.proofs.Hosts.Formats.{enough_there}

module _ (maker : ℕ) (p : Params) (lines : ℕ) (hosts : Hosts) (old new : SharedState) (may : MayFormat maker p lines hosts old) (clears : Clears maker old new) where
  -- nobody has anything to send
  none_dirty : (h l : ℕ) → IsDirty (new.copy h l) → ⊥
  none_dirty h l d =
      elim (cases_eq h maker) [
        | inl same ↦ false≢true (subst IsDirty (ap (λ (k : ℕ). new.copy k l) same ∙ clears.lost l) d)
        | inr other ↦ may.clean h l other (subst IsDirty (clears.hosts h l other) d)
      ]

  -- there is no superblock
  unsound : (q : Params) (entries : List Entry) → reading_of new.memory (line_bytes * lines) ≢ Sound q entries
  unsound q entries is = let none = none_read new.memory (line_bytes * lines) clears.magic in cc

  hosts_cleared : AreHosts hosts old → AreHosts hosts new
  hosts_cleared are = record {
    apart = are.apart;
    absent = λ h l none.
        clears.hosts h l (λ same. let some : hosts.uuid h ≡ Some p.master = ap hosts.uuid same ∙ may.maker_is in cc) ∙ are.absent h l none;
    idle = are.idle;
    bare = are.bare;
  }

  -- the image is damaged, and nobody has a task on it
  pub invariant_cleared : AreHosts hosts old → IsWide new → Invariant (Damaged new.memory) lines hosts new
  invariant_cleared are wide = record {
    declared = hosts_cleared are;
    marked = λ h r run. absurd (let none = may.idle h in cc);
    named = λ h r run. absurd (let none = may.idle h in cc);
    keeps = λ h r run. absurd (let none = may.idle h in cc);
    wide = wide;
    stage = record {
      enough = enough_there maker p lines hosts old may;
      still = record { wide = wide; memory = λ l. refl; clean = none_dirty; bad = unsound };
      bare = may.bare;
      tasks = λ h r run. absurd (let none = may.idle h in cc);
    };
  }
