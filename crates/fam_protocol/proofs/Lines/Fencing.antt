-- What a fence keeps, which sends lines of a host one after another, and what it finishes.
use Rattle.std.proofs.Common.{ℕ, ◌≡◌, ◌≢◌, List, [], ◌∷◌, length, refl, sym, ◌∙◌, arith}
use Rattle.std.proofs.lemmas.List.{take_all}
use Rattle.fam_machine.specs.declared.cell.Cell.{Cell}
use Rattle.fam_machine.specs.declared.cell.Cell.TheVariants.{Absent, Clean, Dirty}
use Rattle.fam_machine.specs.OneLine.{IsAsked, IsDirty, cleaned, sent}
use Rattle.fam_machine.proofs.Transferring.{cleaned_transfers}
use Rattle.fam_rules.specs.Asks.{File}
use Rattle.fam_protocol.specs.SharedState.{SharedState, LeavesAt, TransfersAt, Sends, all_sent, sends_one}
use Rattle.fam_protocol.specs.Lines.{Finished, Holding, IsHandedOver, gate_of, top}
use Rattle.fam_protocol.specs.Core.{System, Core, IsWide}
use Rattle.fam_protocol.proofs.Lines.Free.{core_kept, dirty_was, transfers_at, wide_now}
use Rattle.fam_protocol.proofs.Lines.Keeping.{Keeps}
use Rattle.fam_protocol.proofs.Lines.Clean.{NobodyDirty}
use Rattle.fam_protocol.proofs.Lines.Transferring.{transfer_keeps}

-- a line that is sent is a transfer there
pub sends_at : (host line : ℕ) (s s' : SharedState) → LeavesAt host line s s' (sent (s.memory line) (s.copy host line)) (cleaned (s.copy host line)) → TransfersAt host line s s'
sends_at host line s s' left = transfers_at host line s s' _ _ left (cleaned_transfers (s.memory line) (s.copy host line))

-- what stays where nothing changes
pub same_keeps : (sys : System) (h settled : ℕ) (s : SharedState) → Keeps sys h settled s s
same_keeps sys h settled s = record {
  quiet = λ l q. refl;
  fresh = λ l q f. f;
  gate = omega arith;
  at_gate = λ fl g. g;
  writing = λ is. record { top = refl; finished = λ wanted l f. f; holding = λ k wanted l f. f; handed = λ l f. f };
}

-- what stays in two steps, of which the first makes nothing dirty
pub keeps_then : (sys : System) (h settled : ℕ) (s next s' : SharedState) → ((l : ℕ) → NobodyDirty s l → NobodyDirty next l)
    → Keeps sys h settled s next → Keeps sys h settled next s' → Keeps sys h settled s s'
keeps_then sys h settled s next s' still first second = record {
  quiet = λ l q. second.quiet l (still l q) ∙ first.quiet l q;
  fresh = λ l q f. second.fresh l (still l q) (first.fresh l q f);
  gate = omega (arith, first.gate, second.gate);
  at_gate = λ floor g. second.at_gate floor (first.at_gate floor g);
  writing = λ is.
      let a = first.writing is in
      let b = second.writing is in
      record {
        top = b.top ∙ a.top;
        finished = λ wanted l f. b.finished wanted l (a.finished wanted l f);
        holding = λ k wanted l f. b.holding k wanted l (a.holding k wanted l f);
        handed = λ l f. b.handed l (a.handed l f);
      };
}

-- What lines that are sent leave.

pub record Sent (sys : System) (all : List File) (settled : ℕ) (s s' : SharedState) : Type 0 where
  pub core : Core sys s' all settled
  pub keeps : (h : ℕ) → Keeps sys h settled s s'

pub sends_keep : (sys : System) (all : List File) (settled host : ℕ) (lines : List ℕ) (s s' : SharedState) → Sends host lines s s' → Core sys s all settled → Sent sys all settled s s'
sends_keep sys all settled host [] s _ all_sent core = record { core = core; keeps = λ h. same_keeps sys h settled s }
sends_keep sys all settled host (line ∷ lines) s s' (sends_one {next = next} left rest) core =
    let moves = sends_at host line s next left in
    let then = sends_keep sys all settled host lines next s' rest (core_kept host line s next moves core.wide sys all settled core) in
    record {
      core = then.core;
      keeps = λ h. keeps_then sys h settled s next s' (λ l q k d. q k (dirty_was host line s next moves core.wide k l d)) (transfer_keeps sys s next all settled core host line moves h) (then.keeps h);
    }

-- nothing becomes dirty, other caches stay, and lines stay wide
pub sends_dirty : (host : ℕ) (lines : List ℕ) (s s' : SharedState) → Sends host lines s s' → IsWide s → (h l : ℕ) → IsDirty (s'.copy h l) → IsDirty (s.copy h l)
sends_dirty host [] s _ all_sent wide h l d = d
sends_dirty host (line ∷ lines) s s' (sends_one {next = next} left rest) wide h l d =
    let moves = sends_at host line s next left in
    dirty_was host line s next moves wide h l (sends_dirty host lines next s' rest (wide_now host line s next moves wide) h l d)

pub sends_others : (host : ℕ) (lines : List ℕ) (s s' : SharedState) → Sends host lines s s' → (h l : ℕ) → h ≢ host → s'.copy h l ≡ s.copy h l
sends_others host [] s _ all_sent h l ne = refl
sends_others host (line ∷ lines) s s' (sends_one {next = next} left rest) h l ne = sends_others host lines next s' rest h l ne ∙ left.only.hosts h l ne

-- What a fence finishes.

-- behind it a copy that was handed over isn't dirty
pub not_dirty_then : (c : Cell) → IsHandedOver c → (IsAsked c → ⊥) → IsDirty c → ⊥
not_dirty_then c handed none d = none (handed d)

-- the words of a line that was stored whole stand in memory
pub finished_then : (wanted m : List ℕ) (c : Cell) → length wanted ≡ 8 → length m ≡ 8 → Holding 8 wanted m c → (IsDirty c → ⊥) → Finished wanted m c
finished_then wanted m Absent long wide held none = (sym (take_all 8 m (omega (arith, wide))) ∙ held ∙ take_all 8 wanted (omega (arith, long)), tt)
finished_then wanted m (Clean w) long wide held none = (sym (take_all 8 m (omega (arith, wide))) ∙ held.1 ∙ take_all 8 wanted (omega (arith, long)), held.0)
finished_then wanted m (Dirty a w) long wide held none = absurd (none refl)

-- and memory's gate is the top
pub top_then : (m : List ℕ) (c : Cell) → (IsDirty c → ⊥) → top m c ≡ gate_of m
top_then m Absent none = refl
top_then m (Clean w) none = refl
top_then m (Dirty a w) none = absurd (none refl)
