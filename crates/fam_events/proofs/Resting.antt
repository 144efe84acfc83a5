-- A command that begins has stored nothing, and one that finds no memory leaves the image.
use Rattle.std.proofs.Common.{◌≡◌, ℕ, inl, List, Option, Some, None, Result, Ok, Err, refl, ap, sym, ◌∙◌, subst}
use Rattle.std.specs.Prelude.{IfOk, IfSome, IsErrOf, OnErr, OnOk, option_map, slice_get}
use Rattle.std.proofs.lemmas.Option.{same_Some}
use Rattle.fam_base.specs.declared.cmd.Cmd.{Cmd}
use Rattle.fam_commands.specs.FirstStore.{IsUnstored}
use Rattle.fam_commands.specs.Task.{mounted}
use Rattle.fam_rules.specs.Decide.{wish_of}
use Rattle.fam_journal.specs.declared.event.Ask.{Ask}
use Rattle.fam_journal.specs.declared.event.Ask.TheVariants as ask
use Rattle.fam_journal.specs.EventShapes.{AskShape}
use Rattle.fam_journal.specs.declared.refusal.Refusal.{Refusal}
use Rattle.fam_journal.specs.Calls as call
use Rattle.fam_journal.specs.CallRecords.{IsUnstoredAt, WorldCall}
use Rattle.fam_journal.specs.Members.{changed_at}
use Rattle.fam_journal.specs.Notes.{Start}
use Rattle.fam_journal.specs.View.{HostView, WorldView}
use Rattle.fam_journal.specs.ByWorld.{acted_by, number_in, with_host}
use Rattle.fam_journal.proofs.Calls.Members.{changed_here}
use Rattle.fam_world.specs.Concluded.{IsReader, ReadsOf}
use Rattle.fam_world.specs.declared.fault.WorldFault.{WorldFault}
use Rattle.fam_world.specs.declared.fault.WorldFault.TheVariants as world
use Rattle.fam_world.proofs.Forgotten.{mounted_reads}
use Rattle.fam_events.specs.Calls.{outcome}
use Rattle.fam_events.specs.Last.{AsksToRead}
use Rattle.fam_events.specs.Rested.{IsRested, IsUnstoredOf}
use Rattle.fam_events.specs.declared.asks.Asked.{Asked}
use Rattle.fam_events.specs.declared.asks.Asked.TheVariants.{Begun, Refused}
use Rattle.fam_events.specs.declared.fault.EventFault.{EventFault}

-- a command that begins
module _ (name : List ℕ) (cmd : Cmd) (lines : ℕ) (old new : WorldView) (begins : WorldCall (call.Begins name cmd) lines None old new) where
  abbrev with_task : HostView → HostView
  with_task v = record v { task = Some (mounted v.kept cmd v.uuid lines) }

  hosts_are : (h : ℕ) → number_in name old ≡ Some h → new.hosts ≡ changed_at h with_task old.hosts
  hosts_are h number =
      ap (λ (z : WorldView). z.hosts) begins.after
      ∙ ap (λ (o : Option Refusal). (acted_by o (call.Begins name cmd) lines old).hosts) (sym begins.said)
      ∙ ap (λ (o : Option ℕ). (with_host o with_task (λ k. Start k cmd) old).hosts) number

  pub begun_unstored : IsRested old → IsUnstoredOf name old new
  begun_unstored rested h number view is =
      by_old (slice_get old.hosts h) refl (sym (ap (λ (hs : List HostView). slice_get hs h) (hosts_are h number) ∙ changed_here h with_task old.hosts) ∙ is)
    where
      by_old : (o : Option HostView) → slice_get old.hosts h ≡ o → option_map with_task o ≡ Some view → IfSome view.task (λ t. IsUnstored t view.cache)
      by_old None at is = absurd cc
      by_old (Some v) at is =
          subst (λ (z : HostView). IfSome z.task (λ t. IsUnstored t z.cache)) (same_Some (with_task v) view is) (inl tt, λ before. rested h v at)

  -- and only reads, where it appends nothing
  pub begun_reads : wish_of cmd ≡ None → ReadsOf name old new
  begun_reads none h view number is =
      by_old (slice_get old.hosts h) (sym (ap (λ (hs : List HostView). slice_get hs h) (hosts_are h number) ∙ changed_here h with_task old.hosts) ∙ is)
    where
      by_old : (o : Option HostView) → option_map with_task o ≡ Some view → IsReader view
      by_old None is = absurd cc
      by_old (Some v) is = subst IsReader (same_Some (with_task v) view is) (mounted_reads v.kept cmd v.uuid lines none)

-- the command of an ask that only reads appends nothing
pub asked_reads : (what : Ask) (cmd : Cmd) → AskShape what cmd → AsksToRead what → wish_of cmd ≡ None
asked_reads (ask.Plain own) cmd shape none = ap wish_of shape ∙ none
asked_reads (ask.Cp source path attr stripe) cmd shape none = absurd none
asked_reads (ask.VerifySource path source) cmd shape none = ap wish_of shape.1
asked_reads (ask.Check source) cmd shape none = ap wish_of shape.1

pub begun_reading : (r : Result Asked EventFault) (W R P : Type 0) → OnOk r (W → P) → (R → W) → IfOk r (λ asked. asked ≡ Begun → R → P)
begun_reading (Ok x) W R P so from = λ begun reads. so (from reads)
begun_reading (Err f) W R P so from = tt

-- by what came of it
pub not_begun : (r : Result Asked EventFault) (P : Type 0) → IfOk r (λ asked. asked ≡ Refused) → IfOk r (λ asked. asked ≡ Begun → P)
not_begun (Ok x) P refused = λ begun. absurd (let e : Refused ≡ Begun = sym refused ∙ begun in cc)
not_begun (Err f) P refused = tt

pub begun_so : (r : Result Asked EventFault) (P : Type 0) → OnOk r P → IfOk r (λ asked. asked ≡ Begun → P)
begun_so (Ok x) P so = λ begun. so
begun_so (Err f) P so = tt

-- a call that found no memory
pub outcome_same : (r : Result (Unit {0}) WorldFault) (P : Type 0) → (IsErrOf r world.OutOfMemory → P) → OnErr (outcome r) P
outcome_same (Ok x) P same = tt
outcome_same (Err (world.Refused cause)) P same = tt
outcome_same (Err world.OutOfMemory) P same = same refl

-- a run whose finish found no memory
pub run_same : (r : Result (Unit {0}) EventFault) (world : WorldView) (name : List ℕ) (h : ℕ) (R P : Type 0) → number_in name world ≡ Some h
    → (R → IsUnstoredAt h world) → OnErr r ((k : ℕ) → number_in name world ≡ Some k → IsUnstoredAt k world → P) → OnErr r (R → P)
run_same (Ok x) world name h R P number unstored same = tt
run_same (Err f) world name h R P number unstored same = λ rested. same h number (unstored rested)
