-- What hosts keep stays the history's front.
use Rattle.std.proofs.Common.{ℕ, ◌≡◌, List, length, take, Option, Some, None, inl, inr, ◌∙◌, sym, ap, subst, arith}
use Rattle.std.specs.Prelude.{max}
use Rattle.std.proofs.lemmas.List.{length-map, length-take, take_min}
use Rattle.fam_base.specs.declared.entry.Entry.{Entry}
use Rattle.fam_commands.specs.declared.phase.Phase.{Phase}
use Rattle.fam_commands.specs.declared.phase.Phase.TheVariants as at
use Rattle.fam_commands.specs.Classes.{Class}
use Rattle.fam_commands.specs.Task.{Task}
use Rattle.fam_commands.specs.Turns.{slots_read}
use Rattle.fam_commands.proofs.TurnTells.{Lists}
use Rattle.fam_commands.specs.Kept.{Kept}
use Rattle.fam_rules.specs.Asks.{File, entries_of}
use Rattle.fam_protocol.specs.SharedState.{SharedState}
use Rattle.fam_protocol.specs.Core.{System, Core}
use Rattle.fam_protocol.specs.Tasks.{AtPhase, HasReadIn, IsKeptPrefix, KeepsPrefix}
use Rattle.fam_protocol.specs.After.{Changes, Relists}

module _ (sys : System) (s : SharedState) (all : List File) (settled : ℕ) (core : Core sys s all settled) where
  -- the master drops, settles or names an entry
  pub keeps_relisted : (all' : List File) (settled' : ℕ) → Relists sys s all settled all' settled' → (kept : Option Kept)
      → KeepsPrefix sys.params all settled kept → KeepsPrefix sys.params all' settled' kept
  keeps_relisted all' settled' r None keeps = tt
  keeps_relisted all' settled' r (Some k) keeps =
      record {
        params = keeps.params;
        few = omega (arith, keeps.few, r.up);
        entries = keeps.entries ∙ ap entries_of (sym (r.alike (length k.entries) (omega (arith, keeps.few, core.low, core.order))));
      }

  -- an answer shows entries
  pub keeps_raised : (m : ℕ) (kept : Option Kept) → KeepsPrefix sys.params all settled kept → KeepsPrefix sys.params all (max settled m) kept
  keeps_raised m None keeps = tt
  keeps_raised m (Some k) keeps = record { params = keeps.params; few = omega (arith, keeps.few); entries = keeps.entries }

  -- either
  pub keeps_changed : (host : ℕ) (all' : List File) (settled' : ℕ) (kept : Option Kept) → Changes sys host s all settled all' settled'
      → KeepsPrefix sys.params all settled kept → KeepsPrefix sys.params all' settled' kept
  keeps_changed host all' settled' kept (inl c) keeps = keeps_relisted all' settled' c.1 kept keeps
  keeps_changed host all' settled' kept (inr c) keeps = rw (c.same, c.is) (keeps_raised c.m kept keeps)

-- what a logplay or a mount has read, where it decides
pub played_keeps : (sys : System) (host : ℕ) (floor : Option ℕ) (t : Task) (s : SharedState) (all : List File) (settled m : ℕ) → Lists t t.phase m
    → AtPhase t.phase sys host floor t s all settled → IsKeptPrefix sys.params all (max settled m) (record { params = t.params; entries = t.entries })
played_keeps sys host floor t s all settled m lists holds =
    let here : AtPhase at.Decide sys host floor t s all settled = subst (λ (p : Phase). AtPhase p sys host floor t s all settled) lists.phase holds in
    let read : t.entries ≡ entries_of (take (slots_read t) all) = subst (λ (c : Class). HasReadIn c (slots_read t) t all) lists.class here.1.read in
    record {
      params = here.0.params;
      few = omega (arith, lists.count);
      entries = read_whole t.entries all (slots_read t) read;
    }
  where
    read_whole : (entries : List Entry) (files : List File) (n : ℕ) → entries ≡ entries_of (take n files) → entries ≡ entries_of (take (length entries) files)
    read_whole entries files n is = is ∙ ap entries_of (sym (ap (λ (k : ℕ). take k files) (length-take n files) ∙ take_min n files))
        ∙ ap (λ (k : ℕ). entries_of (take k files)) (sym (length-map (take n files) (λ (f : File). f.entry)) ∙ sym (ap length is))
