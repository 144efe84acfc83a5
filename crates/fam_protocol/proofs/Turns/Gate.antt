-- The turn of a task that loaded the gate.
use Rattle.std.proofs.Common.{ℕ, refl, [], ◌+◌, ◌≤◌, ◌<◌, ◌≡◌, ◌⊎◌, List, length, take, Bool, true, false, cond, sym, ◌∙◌, ap, subst, arith, inl, inr, nat_lt, min}
use Rattle.std.specs.Prelude.{Option, Some, None}
use Rattle.std.proofs.lemmas.Bool.{cases_eq, le-ltb}
use Rattle.std.proofs.lemmas.Bool.Decides.{nat_tests}
use Rattle.std.proofs.lemmas.List.{length-take-le, take-take}
use Rattle.fam_base.specs.declared.cmd.Cmd.{Cmd}
use Rattle.fam_base.specs.declared.cmd.Cmd.TheVariants.{Fsck}
use Rattle.fam_base.specs.declared.entry.Params.{Params}
use Rattle.fam_format.specs.declared.faults.LogFault.{LogFault}
use Rattle.fam_format.specs.Layout.{gate_line}
use Rattle.fam_format.specs.Log.{gate_fault}
use Rattle.fam_format.proofs.Formats.{shape}
use Rattle.fam_commands.specs.declared.phase.Part.TheVariants.{Slot}
use Rattle.fam_commands.specs.declared.phase.Phase.TheVariants as at
use Rattle.fam_commands.specs.Kept.{Kept, used}
use Rattle.fam_commands.proofs.UsedCounts.{used_cases, used_fsck_count}
use Rattle.fam_commands.proofs.Steps.Head.{within_slots}
use Rattle.fam_protocol.proofs.Settled.Keeps.{keeps_relisted}
use Rattle.fam_rules.specs.Asks.{entries_of}
use Rattle.fam_commands.specs.Task.{Task}
use Rattle.fam_commands.specs.Turns.{Goes, Finds, turn_at, gate_turn, finds_or_goes, gate_loaded, slots_read}
use Rattle.fam_rules.specs.Asks.{File}
use Rattle.fam_rules.specs.Decide.{Wish, wish_of}
use Rattle.fam_rules.specs.Reports.{Survey, no_survey}
use Rattle.fam_protocol.specs.SharedState.{SharedState}
use Rattle.fam_protocol.specs.Lines.{gate_of, top}
use Rattle.fam_protocol.specs.Core.{System, Core, masters_copy, top_of}
use Rattle.fam_protocol.specs.Tasks.{IsKeptPrefix, KeepsPrefix, NoSlot, KnowsHead, KnowsGate, HasRead, HasSurveyed, AtPhase}
use Rattle.fam_protocol.specs.After.{After, Relists, Named}
use Rattle.fam_protocol.proofs.Hosts.Given.{Given}
use Rattle.fam_protocol.proofs.Turns.PartWords.{loaded_none}
use Rattle.fam_protocol.proofs.Lines.Moves.{fresh_top}
use Rattle.fam_protocol.proofs.Turns.Moved.{IsTask, slots_moved}
use Rattle.fam_protocol.proofs.Turns.Tell.{goes, holds}
use Rattle.fam_protocol.proofs.Settled.Settle.{core_relisted}
use Rattle.fam_protocol.proofs.Settled.Lists.{history_prefix}

-- the gate is within the slots
gate_fits : (p : Params) (gate : ℕ) → gate ≤ p.slots → gate_fault gate p ≡ None
gate_fits p gate le = rw (le-ltb p.slots gate le) refl

-- no slot is read
survey_none : (gate : ℕ) (survey : Survey) (all : List File) → survey ≡ no_survey → HasSurveyed 0 gate survey all
survey_none gate survey all is =
    let e : min 0 gate ≡ 0 = omega arith in
    subst (λ (v : Survey). HasSurveyed 0 gate v all) (sym is) (record { found = rw e refl; applied = rw e refl; bad = refl; past = omega arith })

-- the kept entries that are used are the history's first
used_prefix : (p q : Params) (all : List File) (settled : ℕ) (kept : Option Kept) (cmd : Cmd) (gate : ℕ) → KeepsPrefix p all settled kept
    → used kept cmd q gate ≡ entries_of (take (length (used kept cmd q gate)) all)
used_prefix p q all settled kept cmd gate keeps =
    elim (used_cases kept cmd q gate) [
      | inl none ↦ rw none refl
      | inr (k, is, all_used) ↦
          let holds : IsKeptPrefix p all settled k = subst (KeepsPrefix p all settled) is keeps in
          rw all_used holds.entries
    ]

read_kept : (p q : Params) (cmd : Cmd) (t : Task) (all : List File) (settled : ℕ) → t.entries ≡ used t.kept cmd q t.gate → t.survey ≡ no_survey
    → KeepsPrefix p all settled t.kept → HasRead cmd (length (used t.kept cmd q t.gate)) t all
read_kept p q Fsck t all settled entries survey keeps =
    subst (λ (i : ℕ). HasSurveyed i t.gate t.survey all) (sym (used_fsck_count t.kept q t.gate)) (survey_none t.gate t.survey all survey)
read_kept p q cmd t all settled entries survey keeps = entries ∙ used_prefix p q all settled t.kept cmd t.gate keeps

-- what a command finds is the history, or the history with the pending entry
found_is : (n settled long : ℕ) → settled ≤ n → n ≤ long → long ≤ settled + 1 → (n ≡ settled) ⊎ ((n ≡ settled + 1) × (n ≡ long))
found_is n settled long low fits near = go (cases_eq n settled)
  where
    go : (n ≡ settled) ⊎ (n ≡ settled → ⊥) → (n ≡ settled) ⊎ ((n ≡ settled + 1) × (n ≡ long))
    go (inl e) = inl e
    go (inr ne) = inr (omega arith, omega arith)

-- the task at the next slot, or at the decision
pub at_next : (sys : System) (host : ℕ) (floor : Option ℕ) (s : SharedState) (all : List File) (settled : ℕ) (t : Task) (i n : ℕ) → n ≡ slots_read t
    → KnowsHead sys host t → KnowsGate host floor t s all settled → i ≤ n → HasRead t.cmd i t all → t.words ≡ []
    → AtPhase (cond (nat_lt i n) (at.Drop (Slot i) 0) at.Decide) sys host floor t s all settled
at_next sys host floor s all settled t i n count head gate le read words = go (nat_lt i n) refl
  where
    go : (b : Bool) → nat_lt i n ≡ b → AtPhase (cond b (at.Drop (Slot i) 0) at.Decide) sys host floor t s all settled
    go true e =
        let below : i < n = grind (arith, nat_tests) in
        ((head, record { gate = gate; below = omega (arith, count); read = read }), omega (arith, (shape t.params).lines), λ sure. words ∙ loaded_none s.memory t (Slot i))
    go false e =
        let last : i ≡ n = grind (arith, nat_tests) in
        (head, record { gate = gate; read = subst (λ (k : ℕ). HasRead t.cmd k t all) (last ∙ count) read })

module _ (sys : System) (host : ℕ) (floor : Option ℕ) (named : Option Named) (s : SharedState) (all : List File) (settled : ℕ) (core : Core sys s all settled) where
  -- the gate is loaded: all is set for the first slot
  at_first : (word : ℕ) (t : Task) (all' : List File) (settled' : ℕ) → NoSlot t → t.words ≡ [] → gate_fault word t.params ≡ None
      → KeepsPrefix sys.params all' settled' t.kept → KnowsHead sys host t → KnowsGate host floor (gate_loaded t word) s all' settled'
      → AtPhase (gate_loaded t word).phase sys host floor (gate_loaded t word) s all' settled'
  at_first word t all' settled' none words fits keeps head gate =
      let u : Task = record t { gate = word } in
      let t' : Task = gate_loaded t word in
      at_next sys host floor s all' settled' t' (length (used t.kept t.cmd t.params word)) (slots_read u) (sym (slots_moved u t'.phase t'.words))
      (record { params = head.params; master = head.master }) gate (within_slots t word fits)
      (read_kept sys.params t.params t'.cmd t' all' settled' refl none.survey keeps) words

  gate_goes : (t : Task) (word : ℕ) → gate_fault word t.params ≡ None → KeepsPrefix sys.params all settled t.kept → IsTask sys host t
      → wish_of t.cmd ≡ None → Given at.Gate sys host floor word t s all settled
      → After (Goes (gate_loaded t word)) sys host floor named t s all settled
  gate_goes t word fits keeps is asks g =
      goes sys host floor named s all settled core t (gate_loaded t word) (record { command = is.command; me = is.me; lines = is.lines })
      (at_first word t all settled g.0.0 g.0.1 fits keeps g.0.2 (record { low = g.1.low; high = g.1.high; writer = λ w e. absurd (let o : wish_of t.cmd ≡ Some w = e in cc) }))

  gate_finds : (t : Task) (word : ℕ) (w : Wish) → gate_fault word t.params ≡ None → KeepsPrefix sys.params all settled t.kept → IsTask sys host t
      → wish_of t.cmd ≡ Some w → Given at.Gate sys host floor word t s all settled
      → After (Finds word (gate_loaded t word)) sys host floor named t s all settled
  gate_finds t word w fits_slots keeps is asks g =
      let master : sys.master ≡ Some host = g.0.2.master w asks in
      let word_is : word ≡ gate_of (s.memory gate_line) = g.1.masters master in
      let top_is : top_of sys s ≡ word = ap (λ (h : Option ℕ). top (s.memory gate_line) (masters_copy h s gate_line)) master ∙ fresh_top _ _ (g.0.3.masters master) ∙ sym word_is in
      let fits : word ≤ length all = omega (arith, core.high) in
      let long : length (take word all) ≡ word = length-take-le word all fits in
      let low : settled ≤ word = omega (arith, core.low) in
      let r : Relists sys s all settled (take word all) word = record {
        up = low;
        low = omega arith;
        high = omega arith;
        near = omega arith;
        alike = λ i le. take-take i word all (omega arith);
      } in
      record {
        may = found_is word settled (length all) low fits core.near;
        core = core_relisted sys s all settled core (take word all) word r (history_prefix sys.params word all core.history) (omega (arith, core.room));
        task = holds sys host floor (gate_loaded t word) s (take word all) word (record { command = is.command; me = is.me; lines = is.lines })
            (at_first word t (take word all) word g.0.0 g.0.1 fits_slots (keeps_relisted sys s all settled core (take word all) word r t.kept keeps)
            g.0.2 (record { low = g.1.low; high = g.1.high; writer = λ v e. (refl, long) }));
        change = inl (master, r);
      }

  gate_told : (t : Task) (word : ℕ) (wish : Option Wish) → gate_fault word t.params ≡ None → KeepsPrefix sys.params all settled t.kept
      → IsTask sys host t → wish_of t.cmd ≡ wish → Given at.Gate sys host floor word t s all settled
      → After (finds_or_goes wish word (gate_loaded t word)) sys host floor named t s all settled
  gate_told t word None fits keeps is asks g = gate_goes t word fits keeps is asks g
  gate_told t word (Some w) fits keeps is asks g = gate_finds t word w fits keeps is asks g

  -- the turn behind the gate's load
  pub gate : (t : Task) (word : ℕ) → KeepsPrefix sys.params all settled t.kept → IsTask sys host t → Given at.Gate sys host floor word t s all settled
      → After (turn_at at.Gate t word) sys host floor named t s all settled
  gate t word keeps is g =
      let none : gate_fault word t.params ≡ None = ap (λ (p : Params). gate_fault word p) g.0.2.params ∙ gate_fits sys.params word (omega (arith, g.1.high, core.order, core.high, core.room)) in
      subst (λ (o : Option LogFault). After (gate_turn t word o) sys host floor named t s all settled) (sym none) (gate_told t word (wish_of t.cmd) none keeps is refl g)
