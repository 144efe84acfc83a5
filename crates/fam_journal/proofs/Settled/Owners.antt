-- On a damaged image: a task that appends comes to a fault behind the superblock only where its host is the one that the
-- superblock names, and its path fits.
use Rattle.std.proofs.Common.{◌≡◌, ℕ, ◌*◌, ◌⊎◌, List, length, Option, Some, None, inl, inr, refl, ap, sym, ◌∙◌, subst}
use Rattle.std.specs.Prelude.{⊤, unwrap_or, Ok}
use Rattle.std.proofs.lemmas.Option.{same_Some}
use Rattle.fam_base.specs.declared.cmd.Cmd.{Cmd}
use Rattle.fam_base.specs.declared.entry.Params.{Params}
use Rattle.fam_base.specs.Image.{Image, line_at}
use Rattle.fam_format.specs.declared.faults.LogFault.{LogFault}
use Rattle.fam_format.specs.declared.faults.Reason.{Reason}
use Rattle.fam_format.specs.Reading.{Lines, super_in}
use Rattle.fam_commands.specs.declared.phase.Part.TheVariants.{Superblock, Header, Slot, File}
use Rattle.fam_commands.specs.declared.phase.Phase.{Phase}
use Rattle.fam_commands.specs.declared.phase.Phase.TheVariants as at
use Rattle.fam_machine.specs.Operations.{given_by}
use Rattle.fam_commands.specs.Stands.{turn_given}
use Rattle.fam_commands.specs.Task.{Task, op_of}
use Rattle.fam_commands.specs.Turns.{Ends, host_refusal}
use Rattle.fam_commands.specs.Kept.{Kept}
use Rattle.fam_rules.specs.Decide.{wish_of}
use Rattle.fam_rules.specs.Place.{line_bytes}
use Rattle.fam_rules.specs.Reply as reply
use Rattle.fam_rules.specs.Reply.{Reply}
use Rattle.fam_protocol.specs.After.{Run}
use Rattle.fam_commands.specs.Appends.{HasWish, IsBeforeWrites}
use Rattle.fam_protocol.specs.Bad.{AtDamagedPhase, ReadsSuper}
use Rattle.fam_protocol.specs.SharedState.{SharedState}
use Rattle.fam_protocol.specs.Invariant.{Hosts, IsDamaged, InvariantBy}
use Rattle.fam_commands.proofs.BeforeWrites.{EndsAt, IsBehindSuper, SaysAt, turn_says}
use Rattle.fam_commands.proofs.Steps.Ties.{Tied}
use Rattle.fam_journal.specs.Kept.{settled_bad, settled_of}
use Rattle.fam_journal.specs.Laws.{IsOwnDamage}
use Rattle.fam_journal.specs.Legal.{DamagedSuper, GivenSuper, NamesLong, damaged_master, given_master, master_read}
use Rattle.fam_journal.specs.Past as past
use Rattle.fam_journal.specs.Past.{Damage, FewLines, Given, Halted, Origin, State, Bad, Sound, HostPast}
use Rattle.fam_journal.proofs.Settled.LongPaths.{behind_free, none_long}

-- where the command appends, its host is the one that a damaged image's superblock names, and its path fits
pub record OwnsDamaged (cmd : Cmd) (host : HostPast) (origin : Origin) (damage : Damage) : Type 0 where
  pub own : HasWish cmd → (master : List ℕ) → damaged_master origin damage ≡ Some master → host.uuid ≡ master
  pub fits : (p : Params) (limit : ℕ) → DamagedSuper p origin damage → NamesLong p host limit → ⊥

abbrev pub Owns : Cmd → HostPast → State → Type 0
Owns cmd host (Sound p history pending) = ⊤
Owns cmd host (Bad origin damage gate) = OwnsDamaged cmd host origin damage

-- so it is where a fault behind the superblock is answered
pub record OwnsFault (cmd : Cmd) (host : HostPast) (state : State) (given : Reply) : Type 0 where
  pub header : (fault : LogFault) → given ≡ reply.BadHeader fault → Owns cmd host state
  pub slot : (i : ℕ) (reason : Reason) → given ≡ reply.BadSlot i reason → Owns cmd host state

-- Such an answer is given behind the superblock.

behind_or : (p : Phase) → IsBeforeWrites p ⊎ IsBehindSuper p
behind_or (at.StoreData j k) = inr tt
behind_or (at.SendData j) = inr tt
behind_or (at.StoreSlot j k) = inr tt
behind_or (at.SendSlot j) = inr tt
behind_or at.StoreGate = inr tt
behind_or at.FenceSlot = inr tt
behind_or at.SendGate = inr tt
behind_or at.FenceGate = inr tt
behind_or e = inl tt

module _ (t : Task) (word : ℕ) (given : Reply) (is : turn_given t word ≡ Ends given) where
  says_end : IsBeforeWrites t.phase → EndsAt t.phase t.cmd given
  says_end reads = subst (SaysAt t.phase t.cmd) is (turn_says t.phase t (unwrap_or (given_by (op_of t) word) 0) reads refl)

  header_behind : (fault : LogFault) → given ≡ reply.BadHeader fault → IsBehindSuper t.phase
  header_behind fault e = elim (behind_or t.phase) [
    | inl reads ↦ (subst (EndsAt t.phase t.cmd) e (says_end reads)).0
    | inr behind ↦ behind
  ]

  slot_behind : (i : ℕ) (reason : Reason) → given ≡ reply.BadSlot i reason → IsBehindSuper t.phase
  slot_behind i reason e = elim (behind_or t.phase) [
    | inl reads ↦ (subst (EndsAt t.phase t.cmd) e (says_end reads)).0
    | inr behind ↦ behind
  ]

-- Behind the superblock a host that appends is the one that it names.

behind_known : (p : Phase) (image : Lines) (have h : ℕ) (t : Task) (s : SharedState) → IsBehindSuper p → AtDamagedPhase p image have h t s → ReadsSuper image have t
behind_known at.DropMagic image have h t s behind a = absurd behind
behind_known at.Magic image have h t s behind a = absurd behind
behind_known (at.Drop Superblock j) image have h t s behind a = absurd behind
behind_known (at.Drop Header j) image have h t s behind a = a.0.1
behind_known (at.Drop (Slot i) j) image have h t s behind a = a.0.0.header.super
behind_known (at.Drop File j) image have h t s behind a = absurd a.0
behind_known (at.Word Superblock j k) image have h t s behind a = absurd behind
behind_known (at.Word Header j k) image have h t s behind a = a.0.1
behind_known (at.Word (Slot i) j k) image have h t s behind a = a.0.0.header.super
behind_known (at.Word File j k) image have h t s behind a = absurd a.0
behind_known at.DropGate image have h t s behind a = a.2.super
behind_known at.Gate image have h t s behind a = a.2.super
behind_known (at.Check i) image have h t s behind a = a.0.header.super
behind_known at.Decide image have h t s behind a = a.header.super
behind_known e image have h t s behind a = absurd a

module _ (lines : ℕ) (hosts : Hosts) (shared : SharedState) (h : ℕ) (r : Run) (run : hosts.run h ≡ Some r) (behind : IsBehindSuper r.task.phase) where
  known : (image : Image) → IsDamaged (line_at image) lines hosts shared → ReadsSuper (line_at image) (line_bytes * lines) r.task
  known image stage = behind_known r.task.phase (line_at image) (line_bytes * lines) h r.task shared behind (stage.tasks h r run).phase

  -- the superblock of the image has the task's parameters
  super_known : (image : Image) → length image ≡ lines → IsDamaged (line_at image) lines hosts shared → super_in (line_at image) (line_bytes * length image) ≡ Ok r.task.params
  super_known image same stage = ap (λ (n : ℕ). super_in (line_at image) (line_bytes * n)) same ∙ (known image stage).super

  by_super : (image : Image) → length image ≡ lines → IsDamaged (line_at image) lines hosts shared → HasWish r.task.cmd → (master : List ℕ)
      → master_read (super_in (line_at image) (line_bytes * length image)) ≡ Some master → r.task.me ≡ master
  by_super image same stage wish master is =
      (known image stage).master wish.0 wish.1 ∙ same_Some r.task.params.master master (sym (ap master_read (super_known image same stage)) ∙ is)

  owned : (image : Image) (damage : Damage) → length image ≡ lines → InvariantBy (settled_bad (line_at image) damage) lines hosts shared
      → HasWish r.task.cmd → (master : List ℕ) → given_master image damage ≡ Some master → r.task.me ≡ master
  owned image (FewLines n) same stage wish master is = absurd cc
  owned image (past.NoSuperblock fault) same stage wish master is = absurd cc
  owned image (past.BadHeader fault) same stage wish master is = by_super image same stage wish master is
  owned image (past.BadSlot i reason) same stage wish master is = by_super image same stage wish master is

  module _ {kept : Option Kept} {cmd : Cmd} {me : List ℕ} {words : List ℕ} {made : ℕ} (tied : Tied cmd me lines kept r.task words made)
      (told : HostPast) (cmd_is : told.cmd ≡ Some cmd) (uuid_is : told.uuid ≡ r.task.me) where
    short_by : (image : Image) → length image ≡ lines → IsDamaged (line_at image) lines hosts shared → (p : Params) (limit : ℕ)
        → super_in (line_at image) (line_bytes * length image) ≡ Ok p → NamesLong p told limit → ⊥
    short_by image same stage p limit super names =
        let read : Ok r.task.params ≡ Ok p = sym (super_known image same stage) ∙ super in
        let params : r.task.params ≡ p = cc in
        none_long p r.task.cmd r.task.me told limit (cmd_is ∙ ap Some (sym tied.cmd_is))
        (subst (λ (q : Params). host_refusal (wish_of r.task.cmd) q r.task.me ≡ None) params (behind_free r.task.phase r.task words made behind tied.tie)) names

    short : (image : Image) (damage : Damage) → length image ≡ lines → InvariantBy (settled_bad (line_at image) damage) lines hosts shared
        → (p : Params) (limit : ℕ) → GivenSuper p image damage → NamesLong p told limit → ⊥
    short image (FewLines n) same stage p limit super names = super
    short image (past.NoSuperblock fault) same stage p limit super names = super
    short image (past.BadHeader fault) same stage p limit super names = short_by image same stage p limit super names
    short image (past.BadSlot i reason) same stage p limit super names = short_by image same stage p limit super names

    owns : (state : State) → ((i : Image) (d : Damage) (g : ℕ) → state ≡ Bad (Given i) d g → IsOwnDamage lines i d g) → (now : Lines)
        → InvariantBy (settled_of state now) lines hosts shared → Owns cmd told state
    owns (Sound p history pending) own now stage = tt
    owns (Bad Halted damage gate) own now stage = record { own = λ wish master is. absurd cc; fits = λ p limit super names. super }
    owns (Bad (Given image) damage gate) own now stage =
        let lines_are : length image ≡ lines = (own image damage gate refl).lines_are in
        record {
          own = λ wish master is. uuid_is ∙ owned image damage lines_are stage (subst HasWish (sym tied.cmd_is) wish) master is;
          fits = short image damage lines_are stage;
        }

pub owns_fault : (lines : ℕ) (hosts : Hosts) (shared : SharedState) (h : ℕ) (r : Run) → hosts.run h ≡ Some r
    → {kept : Option Kept} {cmd : Cmd} {me : List ℕ} {words : List ℕ} {made : ℕ} → Tied cmd me lines kept r.task words made
    → (told : HostPast) → told.cmd ≡ Some cmd → told.uuid ≡ r.task.me
    → (state : State) → ((i : Image) (d : Damage) (g : ℕ) → state ≡ Bad (Given i) d g → IsOwnDamage lines i d g) → (now : Lines) → InvariantBy (settled_of state now) lines hosts shared
    → (word : ℕ) (given : Reply) → turn_given r.task word ≡ Ends given → OwnsFault cmd told state given
owns_fault lines hosts shared h r run tied told cmd_is uuid_is state own now stage word given is = record {
  header = λ fault e. owns lines hosts shared h r run (header_behind r.task word given is fault e) tied told cmd_is uuid_is state own now stage;
  slot = λ i reason e. owns lines hosts shared h r run (slot_behind r.task word given is i reason e) tied told cmd_is uuid_is state own now stage;
}
