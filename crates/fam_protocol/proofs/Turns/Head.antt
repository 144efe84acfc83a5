-- The turns before the gate is loaded: the magic, the superblock, the header, and lines that are dropped.
use Rattle.std.proofs.Common.{ℕ, refl, [], ◌++◌, ◌+◌, ◌*◌, ◌≤◌, ◌<◌, ◌≡◌, List, Bool, true, false, cond, sym, ◌∙◌, ap, subst, arith, nat_lt}
use Rattle.std.specs.Prelude.{Option, Some, None, Result, Ok}
use Rattle.std.proofs.lemmas.Bool.Decides.{nat_tests}
use Rattle.fam_base.specs.declared.entry.Params.{Params}
use Rattle.fam_format.specs.declared.faults.SuperFault.{SuperFault}
use Rattle.fam_format.specs.declared.faults.LogFault.{LogFault}
use Rattle.fam_format.specs.Layout.{geometry, log_line, gate_line}
use Rattle.fam_format.specs.Log.{log_fault}
use Rattle.fam_format.specs.Stop.{stop}
use Rattle.fam_format.specs.Super.{magic_fault, super_body_of, super_of}
use Rattle.fam_machine.specs.declared.cell.Cell.{Cell}
use Rattle.fam_commands.specs.declared.phase.Part.{Part}
use Rattle.fam_commands.specs.declared.phase.Part.TheVariants.{Superblock, Header}
use Rattle.fam_commands.specs.declared.phase.Phase.{Phase}
use Rattle.fam_commands.specs.declared.phase.Phase.TheVariants as at
use Rattle.fam_commands.specs.Task.{Task, part_count, part_line}
use Rattle.fam_commands.specs.Turns.{Turn, Goes, turn_at, line_or, line_turn, magic_turn, super_turn, host_turn, host_refusal, header_turn}
use Rattle.fam_rules.specs.declared.answers.Refused.TheVariants.{NotMaster, LongPath}
use Rattle.fam_rules.specs.Asks.{File}
use Rattle.fam_rules.specs.Decide.{Wish, wish_of, early_refusal}
use Rattle.fam_rules.specs.Place.{line_bytes}
use Rattle.fam_rules.specs.Reply.{NotAppended}
use Rattle.fam_rules.proofs.RefusalTests.{EarlyCases, may_ask, another, too_long, early_cases}
use Rattle.fam_protocol.specs.SharedState.{SharedState}
use Rattle.fam_protocol.specs.Lines.{Fresh, FreshGate}
use Rattle.fam_protocol.specs.Core.{System, Core}
use Rattle.fam_protocol.specs.Tasks.{IsStable, HasLoaded, NoSlot, KnowsHead, OnPart}
use Rattle.fam_protocol.specs.After.{After, Named}
use Rattle.fam_protocol.proofs.Hosts.Given.{Given}
use Rattle.fam_protocol.proofs.Turns.PartWords.{loaded_none, loaded_next, loaded_whole, kept_super, kept_header, super_words_are, header_words_are}
use Rattle.fam_protocol.proofs.Turns.Moved.{IsTask, moved, task_moved, no_slot_moved, head_moved, on_moved, count_moved, loaded_moved, sure_moved, reading_moved}
use Rattle.fam_protocol.proofs.Turns.Tell.{goes, marks, ends}

-- what a superblock that reads says of its parts
passed : (fault : Option SuperFault) (next : Result Params SuperFault) (p : Params) → stop fault next ≡ Ok p → (fault ≡ None) × (next ≡ Ok p)
passed (Some fault) next p h = absurd (cc)
passed None next p h = (refl, h)

-- a superblock that reads has no fault in its magic
pub super_parts : (word : ℕ) (words : List ℕ) (have : ℕ) (p : Params) → super_of word words have ≡ Ok p → (magic_fault word ≡ None) × (super_body_of words have ≡ Ok p)
unfolding super_of
super_parts word words have p h = passed (magic_fault word) (super_body_of words have) p h

module _ (sys : System) (host : ℕ) (floor : Option ℕ) (named : Option Named) (s : SharedState) (all : List File) (settled : ℕ) (core : Core sys s all settled) where
  -- the turn behind the drop of line 0
  pub drop_magic : (t : Task) (word : ℕ) → IsTask sys host t → Given at.DropMagic sys host floor word t s all settled → After (turn_at at.DropMagic t word) sys host floor named t s all settled
  drop_magic t word is g =
      goes sys host floor named s all settled core t (moved t at.Magic t.words) (task_moved t at.Magic t.words sys host is)
      (no_slot_moved t at.Magic t.words g.0, subst (λ (c : Cell). Fresh (s.memory 0) c) (sym g.1) tt)

  -- the turn behind the load of the magic
  pub magic : (t : Task) (word : ℕ) → IsTask sys host t → Given at.Magic sys host floor word t s all settled → After (turn_at at.Magic t word) sys host floor named t s all settled
  magic t word is g =
      let p : Phase = at.Drop Superblock 0 in
      let none : magic_fault word ≡ None = ap magic_fault g.1 ∙ (super_parts _ _ _ _ core.head.super).0 in
      subst (λ (o : Option SuperFault). After (magic_turn t o) sys host floor named t s all settled) (sym none)
      (goes sys host floor named s all settled core t (moved t p []) (task_moved t p [] sys host is) (no_slot_moved t p [] g.0.0, omega arith, λ _. loaded_none s.memory (moved t p []) Superblock))

  -- a line is dropped
  pub drop : (part : Part) (j : ℕ) (t : Task) (word : ℕ) → IsTask sys host t → Given (at.Drop part j) sys host floor word t s all settled
      → After (turn_at (at.Drop part j) t word) sys host floor named t s all settled
  drop part j t word is g =
      let p : Phase = at.Word part j 0 in
      goes sys host floor named s all settled core t (moved t p t.words) (task_moved t p t.words sys host is) (
        on_moved t p t.words host floor s all settled part j sys g.0.0,
        subst (λ (n : ℕ). j < n) (sym (count_moved t p t.words part)) g.0.1,
        omega arith,
        reading_moved t p t.words part host j 0 s (λ sure. (subst (λ (c : Cell). Fresh (s.memory (part_line t part j)) c) (sym g.1) tt, g.0.2 sure)),
      )

  -- the turn behind the drop of the gate's line: the mark
  pub drop_gate : (t : Task) (word : ℕ) → IsTask sys host t → Given at.DropGate sys host floor word t s all settled → After (turn_at at.DropGate t word) sys host floor named t s all settled
  drop_gate t word is g =
      marks sys host floor named s all settled core t (moved t at.Gate t.words) (task_moved t at.Gate t.words sys host is) (
        no_slot_moved t at.Gate t.words g.0.0,
        g.0.1,
        head_moved t at.Gate t.words sys host g.0.2,
        record {
          low = omega arith;
          copy = subst (λ (c : Cell). FreshGate (Some settled) (s.memory gate_line) c) (sym g.1) tt;
          masters = λ _. subst (λ (c : Cell). Fresh (s.memory gate_line) c) (sym g.1) tt;
        },
      )

  -- the next line of a part, or what comes behind its last one
  pub next_line : (part : Part) (j : ℕ) (t : Task) (turn : Turn) → IsTask sys host t → OnPart part (j + 1) sys host floor t s all settled
      → (IsStable t part → HasLoaded s.memory t part (j + 1) 0) → (part_count t part ≤ j + 1 → After turn sys host floor named t s all settled)
      → After (line_or t part j turn) sys host floor named t s all settled
  next_line part j t turn is on has last = go (nat_lt (j + 1) (part_count t part)) refl
    where
      p : Phase
      p = at.Drop part (j + 1)

      go : (b : Bool) → nat_lt (j + 1) (part_count t part) ≡ b → After (cond b (Goes (record t { phase = at.Drop part (j + 1) })) turn) sys host floor named t s all settled
      go true e =
          let below : j + 1 < part_count t part = grind (arith, nat_tests) in
          goes sys host floor named s all settled core t (moved t (at.Drop part (j + 1)) t.words) (task_moved t (at.Drop part (j + 1)) t.words sys host is) (
            on_moved t (at.Drop part (j + 1)) t.words host floor s all settled part (j + 1) sys on,
            subst (λ (n : ℕ). j + 1 < n) (sym (count_moved t (at.Drop part (j + 1)) t.words part)) below,
            λ sure. loaded_moved t (at.Drop part (j + 1)) t.words part s.memory (j + 1) 0 (has (sure_moved t (at.Drop part (j + 1)) t.words part sure)),
          )
      go false e = last (grind (arith, nat_tests))

  -- the superblock is read: the host may go on, or isn't the master, or its path is too long
  host_goes : (t : Task) (wish : Option Wish) → IsTask sys host t → NoSlot t → wish_of t.cmd ≡ wish
      → ((w : Wish) → wish ≡ Some w → sys.master ≡ Some host) → After (host_turn t sys.params None) sys host floor named t s all settled
  host_goes t wish is none asks master =
      let t' : Task = record t { params = sys.params; phase = at.Drop Header 0; words = [] } in
      goes sys host floor named s all settled core t t' (record { command = is.command; me = is.me; lines = is.lines })
      ((record { entries = none.entries; survey = none.survey }, record { params = refl; master = λ w e. master w (sym asks ∙ e) }), omega arith, λ _. loaded_none s.memory t' Header)

  host_decides : (t : Task) (w : Wish) → IsTask sys host t → NoSlot t → wish_of t.cmd ≡ Some w → EarlyCases sys.params t.me w.path
      → After (host_turn t sys.params (early_refusal sys.params t.me w.path)) sys host floor named t s all settled
  host_decides t w is none asks (may_ask same short passed) = rw passed (host_goes t (Some w) is none asks (λ v e. core.named.only host (is.me ∙ ap Some same)))
  host_decides t w is none asks (another other refusal) =
      rw refusal (ends sys host floor named s all settled core t (NotAppended (NotMaster t.me sys.params.master)) (record { me_is = refl; master_is = refl; other = other }) (omega arith))
  host_decides t w is none asks (too_long first same long refusal) =
      let limit : ℕ = (geometry sys.params).path_limit in
      rw refusal (ends sys host floor named s all settled core t (NotAppended (LongPath limit))
      (record { wish = w; wished = asks; is = record { format = first; master = same; limit_is = refl; long = long } }) (omega arith))

  host_turned : (t : Task) (wish : Option Wish) → IsTask sys host t → NoSlot t → wish_of t.cmd ≡ wish
      → After (host_turn t sys.params (host_refusal wish sys.params t.me)) sys host floor named t s all settled
  host_turned t None is none asks = host_goes t None is none asks (λ w e. absurd (cc))
  host_turned t (Some w) is none asks = host_decides t w is none asks (early_cases sys.params t.me w.path)

  super_read : (t : Task) → IsTask sys host t → NoSlot t → t.words ≡ s.memory 1 ++ s.memory 2 → After (super_turn t (super_body_of t.words (line_bytes * t.lines))) sys host floor named t s all settled
  super_read t is none words =
      let reads : super_body_of t.words (line_bytes * t.lines) ≡ Ok sys.params =
      ap (λ (l : List ℕ). super_body_of l (line_bytes * t.lines)) words ∙ ap (λ (have : ℕ). super_body_of (s.memory 1 ++ s.memory 2) have) is.lines ∙ (super_parts _ _ _ _ core.head.super).1 in
      subst (λ (r : Result Params SuperFault). After (super_turn t r) sys host floor named t s all settled) (sym reads) (host_turned t (wish_of t.cmd) is none refl)

  -- the turn behind a line of the superblock
  pub super_line : (j : ℕ) (t : Task) → IsTask sys host t → NoSlot t → HasLoaded s.memory t Superblock j 8 → After (line_turn t Superblock j) sys host floor named t s all settled
  super_line j t is none has =
      next_line Superblock j t _ is none (λ _. has ∙ loaded_next s.memory t Superblock j (kept_super t.cmd j) (kept_super t.cmd (j + 1)))
      (λ last. super_read t is none (has ∙ loaded_whole s.memory t Superblock j (kept_super t.cmd j) last ∙ super_words_are s.memory t (core.wide.memory 1) (core.wide.memory 2)))

  -- the turn behind the header's line
  pub header_line : (j : ℕ) (t : Task) → IsTask sys host t → NoSlot t → KnowsHead sys host t → HasLoaded s.memory t Header j 8 → After (line_turn t Header j) sys host floor named t s all settled
  header_line j t is blank head has =
      let words : t.words ≡ s.memory log_line = has ∙ loaded_whole s.memory t Header j (kept_header t.cmd j) (omega arith) ∙ header_words_are s.memory t (core.wide.memory log_line) in
      let none : log_fault t.words t.params ≡ None = ap (λ (l : List ℕ). log_fault l t.params) words ∙ ap (λ (p : Params). log_fault (s.memory log_line) p) head.params ∙ core.head.header in
      subst (λ (o : Option LogFault). After (header_turn t o) sys host floor named t s all settled) (sym none)
      (goes sys host floor named s all settled core t (moved t at.DropGate []) (task_moved t at.DropGate [] sys host is)
      (no_slot_moved t at.DropGate [] blank, refl, head_moved t at.DropGate [] sys host head))
