-- Every answer is one of the rules, to its host's last command.
use Rattle.std.proofs.Common.{◌≡◌, ℕ, ◌⊎◌, inl, inr, List, [], ◌∷◌, ◌++◌, take, Option, Some, None, refl, ap, ap₂, sym, ◌∙◌, subst}
use Rattle.std.specs.Prelude.{⊤, slice_get, unwrap_or, Err}
use Rattle.std.proofs.lemmas.Option.{same_Some}
use Rattle.fam_base.specs.declared.cmd.Cmd.{Cmd}
use Rattle.fam_base.specs.declared.cmd.Cmd.TheVariants.{Mkdir, Creat, Cp, Fsck}
use Rattle.fam_base.specs.declared.entry.Params.{Params}
use Rattle.fam_commands.specs.declared.phase.Phase.{Phase}
use Rattle.fam_commands.specs.declared.phase.Phase.TheVariants as at
use Rattle.fam_commands.specs.Stands.{StandsFor, goes, note_of, starts, task_after, turn_given}
use Rattle.fam_machine.specs.Operations.{given_by}
use Rattle.fam_commands.specs.Task.{Task, op_of}
use Rattle.fam_commands.specs.Turns.{Turn, Goes, Marks, Finds, Writes, Ends, turn_at}
use Rattle.fam_commands.proofs.Steps.Standing.{standing_tied}
use Rattle.fam_commands.specs.Kept.{IsKept, Kept}
use Rattle.fam_commands.specs.Appends.{HasWish, IsBeforeWrites}
use Rattle.fam_commands.proofs.BeforeWrites.{EndsAt, SaysAt, turn_says}
use Rattle.fam_rules.specs.declared.answers.Refused.{Refused as Cause}
use Rattle.fam_rules.specs.declared.answers.Refused.TheVariants as cause
use Rattle.fam_rules.specs.Asks.{File, ask, entries_of}
use Rattle.fam_rules.specs.Decide.{decide}
use Rattle.fam_rules.specs.Reply as reply
use Rattle.fam_rules.specs.Reply.{Reply}
use Rattle.fam_journal.specs.Complete.{AreRuled, HasRuled, IsAppendAnswer, AsksPrefix, IsDamagedAnswer, IsDamagedClient, IsDamagedLong, IsFaultAnswer, IsRuled, IsSoundAnswer}
use Rattle.fam_journal.specs.Legal.{AnswerAllowed, CauseAllowed, DamagedSuper, IsAskedOf, IsDecided, LegalBehind, NamesLong, OfHost, ReplyAllowed, damaged_master}
use Rattle.fam_journal.specs.Machines.{notes_of}
use Rattle.fam_journal.specs.Notes.{Replied, Note}
use Rattle.fam_journal.specs.Past as past
use Rattle.fam_journal.proofs.Settled.Owners.{OwnsDamaged, OwnsFault}
use Rattle.fam_format.specs.declared.faults.SuperFault.{SuperFault}
use Rattle.fam_journal.specs.Past.{Given, Halted, Origin, Damage, State, Bad, Sound, HostPast, Past, past_after, past_behind, with_pending}

-- which command gives such an answer; of the others the journal's rules say it
abbrev pub Fits : Cmd → Reply → Type 0
Fits cmd (reply.Appended seq) = HasWish cmd
Fits cmd (reply.NotAppended why) = HasWish cmd
Fits cmd (reply.Reports report) = cmd ≡ Fsck
Fits cmd (reply.NoSuperblock fault) = cmd ≡ Fsck → ⊥
Fits cmd (reply.BadHeader fault) = cmd ≡ Fsck → ⊥
Fits cmd (reply.BadSlot i reason) = cmd ≡ Fsck → ⊥
Fits cmd (reply.Played m tree) = ⊤
Fits cmd (reply.Mounted m) = ⊤
Fits cmd (reply.Same m) = ⊤
Fits cmd (reply.Differs m offset found wanted) = ⊤
Fits cmd (reply.Length m size wanted) = ⊤
Fits cmd (reply.Bytes m bytes) = ⊤
Fits cmd (reply.NotFound m) = ⊤
Fits cmd (reply.IsDirectory m) = ⊤
Fits cmd (reply.Checks m checked) = ⊤

abbrev pub FitsTurn : Cmd → Turn → Type 0
FitsTurn cmd (Goes t) = ⊤
FitsTurn cmd (Marks t) = ⊤
FitsTurn cmd (Finds n t) = ⊤
FitsTurn cmd (Writes seq e t) = ⊤
FitsTurn cmd (Ends given) = Fits cmd given

ends_fit : (p : Phase) (cmd : Cmd) (given : Reply) → EndsAt p cmd given → Fits cmd given
ends_fit p cmd (reply.Appended seq) ends = absurd ends
ends_fit p cmd (reply.NotAppended why) ends = ends
ends_fit p cmd (reply.Reports report) ends = ends
ends_fit p cmd (reply.NoSuperblock fault) ends = ends
ends_fit p cmd (reply.BadHeader fault) ends = ends.1
ends_fit p cmd (reply.BadSlot i reason) ends = ends.1
ends_fit p cmd e ends = tt

says_fit : (p : Phase) (cmd : Cmd) (turn : Turn) → SaysAt p cmd turn → FitsTurn cmd turn
says_fit p cmd (Ends given) says = ends_fit p cmd given says
says_fit p cmd e says = tt

-- a place is before the first store, or the command appends
before_or : (p : Phase) → IsBeforeWrites p ⊎ (IsBeforeWrites p → ⊥)
before_or (at.StoreData j k) = inr (λ h. h)
before_or (at.SendData j) = inr (λ h. h)
before_or (at.StoreSlot j k) = inr (λ h. h)
before_or (at.SendSlot j) = inr (λ h. h)
before_or at.StoreGate = inr (λ h. h)
before_or at.FenceSlot = inr (λ h. h)
before_or at.SendGate = inr (λ h. h)
before_or at.FenceGate = inr (λ h. h)
before_or e = inl tt

-- behind it a task goes on, or answers that it is done
late_fits : (p : Phase) (t : Task) (word : ℕ) → (IsBeforeWrites p → ⊥) → HasWish t.cmd → FitsTurn t.cmd (turn_at p t word)
late_fits (at.StoreData j k) t word late wish = tt
late_fits (at.SendData j) t word late wish = tt
late_fits (at.StoreSlot j k) t word late wish = tt
late_fits (at.SendSlot j) t word late wish = tt
late_fits at.StoreGate t word late wish = tt
late_fits at.FenceSlot t word late wish = tt
late_fits at.SendGate t word late wish = tt
late_fits at.FenceGate t word late wish = wish
late_fits e t word late wish = absurd (late tt)

-- a task that stores is of a command that appends
late_wish : (kept : Option Kept) (cmd : Cmd) (me : List ℕ) (lines : ℕ) (t : Task) (words : List ℕ) (made : ℕ) → IsKept kept
    → StandsFor kept cmd me lines t words made → (IsBeforeWrites t.phase → ⊥) → HasWish cmd
late_wish kept cmd me lines t words made joined starts late = absurd (late tt)
late_wish kept cmd me lines next _ _ joined (goes {t = t} {words = words} {made = made} word before is) late = elim (before_or t.phase) [
  | inr stores ↦ late_wish kept cmd me lines t words made joined before stores
  | inl reads ↦ by_turn (turn_given t word) (turn_says t.phase t (unwrap_or (given_by (op_of t) word) 0) reads refl) is
]
  where
    by_turn : (z : Turn) → SaysAt t.phase t.cmd z → task_after z ≡ Some next → HasWish cmd
    by_turn (Goes n) says goes_is = absurd (late (subst (λ (x : Task). IsBeforeWrites x.phase) (same_Some n next goes_is) says))
    by_turn (Marks n) says goes_is = absurd (late (subst (λ (x : Task). IsBeforeWrites x.phase) (same_Some n next goes_is) says))
    by_turn (Finds k n) says goes_is = absurd (late (subst (λ (x : Task). IsBeforeWrites x.phase) (same_Some n next goes_is) says))
    by_turn (Writes seq e n) says goes_is = subst HasWish (standing_tied kept cmd me lines t words made joined before).cmd_is says.wish
    by_turn (Ends given) says goes_is = absurd cc

pub turn_fits : (kept : Option Kept) (cmd : Cmd) (me : List ℕ) (lines : ℕ) (t : Task) (words : List ℕ) (made word : ℕ) → IsKept kept
    → StandsFor kept cmd me lines t words made → FitsTurn cmd (turn_given t word)
turn_fits kept cmd me lines t words made word joined standing =
    let cmds : t.cmd ≡ cmd = (standing_tied kept cmd me lines t words made joined standing).cmd_is in
    subst (λ (c : Cmd). FitsTurn c (turn_given t word)) cmds
    (elim (before_or t.phase) [
      | inl reads ↦ says_fit t.phase t.cmd (turn_given t word) (turn_says t.phase t (unwrap_or (given_by (op_of t) word) 0) reads refl)
      | inr stores ↦ late_fits t.phase t (unwrap_or (given_by (op_of t) word) 0) stores (subst HasWish (sym cmds) (late_wish kept cmd me lines t words made joined standing stores))
    ])

-- What fits and is allowed is of the rules.

module _ (p : Params) (history : List File) (pending : Option File) (host : HostPast) where
  append_case : (cmd : Cmd) (given : Reply) → HasWish cmd → IsAppendAnswer p history pending host cmd given → IsSoundAnswer p history pending host cmd given
  append_case (Mkdir path attr) given wish is = is
  append_case (Creat path size attr stripe fill) given wish is = is
  append_case (Cp path attr stripe bytes) given wish is = is
  append_case e given wish is = absurd (let none = wish.1 in cc)

  asked : (m : ℕ) (cmd : Cmd) (given : Reply) → host.cmd ≡ Some cmd → IsAskedOf host m (with_pending history pending) given → AsksPrefix host (with_pending history pending) cmd given
  asked m cmd given told says = record {
    m = m;
    bounds = says.bounds;
    is = subst (λ (c : Cmd). ask (take m (with_pending history pending)) c ≡ Some given) (same_Some says.cmd cmd (sym says.told ∙ told)) says.is;
  }

  ask_case : (cmd : Cmd) (given : Reply) → AsksPrefix host (with_pending history pending) cmd given → IsSoundAnswer p history pending host cmd given
  ask_case (Mkdir path attr) given is = absurd (let none = is.is in cc)
  ask_case (Creat path size attr stripe fill) given is = absurd (let none = is.is in cc)
  ask_case (Cp path attr stripe bytes) given is = absurd (let none = is.is in cc)
  ask_case Fsck given is = absurd (let none = is.is in cc)
  ask_case e given is = is

  decided : (why : Cause) (cmd : Cmd) → host.cmd ≡ Some cmd → IsDecided p host history pending (Err why) → IsAppendAnswer p history pending host cmd (reply.NotAppended why)
  decided why cmd told says =
      inr (inr (says.none, subst (λ (c : Cmd). decide p host.uuid (entries_of history) c ≡ Some (Err why)) (same_Some says.cmd cmd (sym says.told ∙ told)) says.is))

  refused : (why : Cause) (cmd : Cmd) → host.cmd ≡ Some cmd → CauseAllowed why host (Sound p history pending) → IsAppendAnswer p history pending host cmd (reply.NotAppended why)
  refused (cause.NotMaster me master) cmd told says =
      let owner : p.master ≡ master = same_Some p.master master says.master_is in
      inl record {
        other = λ e. says.other (says.me_is ∙ e ∙ owner);
        is = ap₂ cause.NotMaster says.me_is (sym owner);
      }
  refused (cause.LongPath limit) cmd told says =
      inr (inl record { limit = limit; names = subst (λ (q : Params). NamesLong q host limit) says.super says.names; is = refl })
  refused e cmd told says = decided e cmd told says

  sound_ruled : (cmd : Cmd) (given : Reply) → host.cmd ≡ Some cmd → Fits cmd given → ReplyAllowed given host (Sound p history pending) → IsSoundAnswer p history pending host cmd given
  sound_ruled cmd (reply.Appended seq) told fits says = append_case cmd (reply.Appended seq) fits tt
  sound_ruled cmd (reply.NotAppended why) told fits says = append_case cmd (reply.NotAppended why) fits (refused why cmd told says)
  sound_ruled cmd (reply.Played m tree) told fits says = ask_case cmd (reply.Played m tree) (asked m cmd (reply.Played m tree) told says)
  sound_ruled cmd (reply.Mounted m) told fits says = ask_case cmd (reply.Mounted m) (asked m cmd (reply.Mounted m) told says)
  sound_ruled cmd (reply.Same m) told fits says = ask_case cmd (reply.Same m) (asked m cmd (reply.Same m) told says)
  sound_ruled cmd (reply.Differs m offset found wanted) told fits says = ask_case cmd (reply.Differs m offset found wanted) (asked m cmd (reply.Differs m offset found wanted) told says)
  sound_ruled cmd (reply.Length m size wanted) told fits says = ask_case cmd (reply.Length m size wanted) (asked m cmd (reply.Length m size wanted) told says)
  sound_ruled cmd (reply.Bytes m bytes) told fits says = ask_case cmd (reply.Bytes m bytes) (asked m cmd (reply.Bytes m bytes) told says)
  sound_ruled cmd (reply.NotFound m) told fits says = ask_case cmd (reply.NotFound m) (asked m cmd (reply.NotFound m) told says)
  sound_ruled cmd (reply.IsDirectory m) told fits says = ask_case cmd (reply.IsDirectory m) (asked m cmd (reply.IsDirectory m) told says)
  sound_ruled cmd (reply.Checks m checked) told fits says = ask_case cmd (reply.Checks m checked) (asked m cmd (reply.Checks m checked) told says)
  sound_ruled cmd (reply.Reports report) told fits says =
      subst (λ (c : Cmd). IsSoundAnswer p history pending host c (reply.Reports report)) (sym fits) record { report = report; is = refl; says = says }
  sound_ruled cmd (reply.NoSuperblock fault) told fits says = absurd says
  sound_ruled cmd (reply.BadHeader fault) told fits says = absurd says
  sound_ruled cmd (reply.BadSlot i reason) told fits says = absurd says

-- without a superblock there is no master
no_master : (origin : Origin) (fault : SuperFault) → damaged_master origin (past.NoSuperblock fault) ≡ None
no_master (Given image) fault = refl
no_master Halted fault = refl

-- nor parameters
no_super : (p : Params) (origin : Origin) (fault : SuperFault) → DamagedSuper p origin (past.NoSuperblock fault) → ⊥
no_super p (Given image) fault super = super
no_super p Halted fault super = super

module _ (origin : Origin) (damage : Damage) (host : HostPast) where
  fault_case : (cmd : Cmd) (given : Reply) → (cmd ≡ Fsck → ⊥) → IsFaultAnswer damage given → OwnsDamaged cmd host origin damage → IsDamagedAnswer origin damage host cmd given
  fault_case (Mkdir path attr) given other is owns = inl record { is = is; own = owns.own (_, refl); fits = owns.fits }
  fault_case (Creat path size attr stripe fill) given other is owns = inl record { is = is; own = owns.own (_, refl); fits = owns.fits }
  fault_case (Cp path attr stripe bytes) given other is owns = inl record { is = is; own = owns.own (_, refl); fits = owns.fits }
  fault_case Fsck given other is owns = absurd (other refl)
  fault_case e given other is owns = is

  -- a refusal
  refused_case : (cmd : Cmd) (given : Reply) → HasWish cmd → IsDamagedClient origin damage host given ⊎ IsDamagedLong origin damage host given → IsDamagedAnswer origin damage host cmd given
  refused_case (Mkdir path attr) given wish is = inr is
  refused_case (Creat path size attr stripe fill) given wish is = inr is
  refused_case (Cp path attr stripe bytes) given wish is = inr is
  refused_case e given wish is = absurd (let none = wish.1 in cc)

  own_fault : (own : Damage) (given : Reply) → own ≡ damage → IsFaultAnswer own given → IsFaultAnswer damage given
  own_fault own given e is = subst (λ (d : Damage). IsFaultAnswer d given) e is

  damaged_ruled : (gate : ℕ) (cmd : Cmd) (given : Reply) → Fits cmd given → OwnsFault cmd host (Bad origin damage gate) given
      → ReplyAllowed given host (Bad origin damage gate) → IsDamagedAnswer origin damage host cmd given
  damaged_ruled gate cmd (reply.NotAppended (cause.NotMaster me master)) fits owns says =
      refused_case cmd _ fits (inl record {
        master = master;
        master_is = says.master_is;
        other = λ e. says.other (says.me_is ∙ e);
        is = ap (λ (u : List ℕ). reply.NotAppended (cause.NotMaster u master)) says.me_is;
      })
  damaged_ruled gate cmd (reply.NotAppended (cause.LongPath limit)) fits owns says =
      refused_case cmd _ fits (inr record { params = says.params; super = says.super; limit = limit; names = says.names; is = refl })
  damaged_ruled gate cmd (reply.Reports report) fits owns says = subst (λ (c : Cmd). IsDamagedAnswer origin damage host c (reply.Reports report)) (sym fits) (ap reply.Reports says)
  damaged_ruled gate cmd (reply.NoSuperblock fault) fits owns says =
      fault_case cmd _ fits (own_fault (past.NoSuperblock fault) (reply.NoSuperblock fault) says refl)
      record {
        own = λ wish master is. absurd (let none : damaged_master origin damage ≡ None = sym (ap (damaged_master origin) says) ∙ no_master origin fault in cc);
        fits = λ p limit super names. no_super p origin fault (subst (DamagedSuper p origin) (sym says) super);
      }
  damaged_ruled gate cmd (reply.BadHeader fault) fits owns says = fault_case cmd _ fits (own_fault (past.BadHeader fault) (reply.BadHeader fault) says refl) (owns.header fault refl)
  damaged_ruled gate cmd (reply.BadSlot i reason) fits owns says = fault_case cmd _ fits (own_fault (past.BadSlot i reason) (reply.BadSlot i reason) says refl) (owns.slot i reason refl)
  damaged_ruled gate cmd e fits owns says = absurd says

pub ruled : (state : State) (host : HostPast) (cmd : Cmd) (given : Reply) → host.cmd ≡ Some cmd → Fits cmd given → OwnsFault cmd host state given
    → ReplyAllowed given host state → IsRuled state host cmd given
ruled (Sound p history pending) host cmd given told fits owns says = sound_ruled p history pending host cmd given told fits says
ruled (Bad origin damage gate) host cmd given told fits owns says = damaged_ruled origin damage host gate cmd given fits owns says

-- journals, one behind another
pub ruled_both : (x : Past) (a b : List Note) → AreRuled x a → AreRuled (past_behind x a) b → AreRuled x (a ++ b)
ruled_both x [] b first rest = rest
ruled_both x (note ∷ a) b first rest = (first.0, ruled_both (past_after x note) a b first.1 rest)

-- the notes of a turn
pub turn_ruled : (x : Past) (h : ℕ) (turn : Turn) (told : HostPast) (cmd : Cmd) → slice_get x.hosts h ≡ Some told → told.cmd ≡ Some cmd
    → FitsTurn cmd turn → ((given : Reply) → turn ≡ Ends given → OwnsFault cmd told x.state given) → LegalBehind x (notes_of h (note_of turn))
    → AreRuled x (notes_of h (note_of turn))
turn_ruled x h (Goes t) told cmd is cmd_is fits owns legal = tt
turn_ruled x h (Marks t) told cmd is cmd_is fits owns legal = (tt, tt)
turn_ruled x h (Finds n t) told cmd is cmd_is fits owns legal = (tt, tt)
turn_ruled x h (Writes seq e t) told cmd is cmd_is fits owns legal = (tt, tt)
turn_ruled x h (Ends given) told cmd is cmd_is fits owns legal = (
  subst (λ (o : Option HostPast). OfHost o (HasRuled x given)) (sym is)
      record {
        cmd = cmd;
        told = cmd_is;
        is = ruled x.state told cmd given cmd_is fits (owns given refl) (subst (λ (o : Option HostPast). OfHost o (λ host. AnswerAllowed (Replied given) host x.state)) is legal.0);
      },
  tt,
)
