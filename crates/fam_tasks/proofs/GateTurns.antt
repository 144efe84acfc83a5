-- The turn behind the gate.
use Rattle.std.proofs.Common.{◌≡◌, ℕ, true, List, length, Option, Some, None, sym, ap, subst, ◌∙◌}
use Rattle.std.specs.Prelude.{is_some}
use Rattle.fam_base.specs.declared.entry.Entry.{Entry}
use Rattle.fam_rules.specs.Decide.{Wish, wish_of}
use Rattle.fam_commands.specs.declared.phase.Phase.{Phase}
use Rattle.fam_commands.specs.Kept.{Kept, used}
use Rattle.fam_commands.specs.Task.{Task}
use Rattle.fam_commands.specs.Turns.{finds_or_goes, gate_loaded, gate_turn, slot_or_decide}
use Rattle.fam_tasks.specs.declared.answer.TaskNote.TheVariants.{Found}
use Rattle.fam_tasks.specs.declared.answer.Turn.{Turn}
use Rattle.fam_tasks.specs.declared.answer.Turn.TheVariants.{Go, Note}
use Rattle.fam_tasks.specs.Commands.{slots_told}
use Rattle.fam_tasks.specs.Tells.{Tells}
use Rattle.fam_tasks.proofs.Phases.{next_phase, slots_are}

-- what is loaded
loaded_is : (t : Task) (n : ℕ) (p : Phase) (kept : Option Kept) (list : List Entry) → kept ≡ t.kept → list ≡ used t.kept t.cmd t.params n
    → p ≡ next_phase (length list) (slots_told t.cmd t.params n) → record t { kept = kept; gate = n; entries = list; phase = p } ≡ gate_loaded t n
loaded_is t n p kept list same entries phase =
    ap (λ (k : Option Kept). record t { kept = k; gate = n; entries = list; phase = p }) same
    ∙ ap (λ (q : Phase). record t { gate = n; entries = list; phase = q }) (phase ∙ sym (ap (λ (m : ℕ). next_phase (length list) m) (slots_are (record t { gate = n }))))
    ∙ ap (λ (l : List Entry). record t { gate = n; entries = l; phase = slot_or_decide (record t { gate = n }) (length l) }) entries

some_finds : (o : Option Wish) (n : ℕ) (loaded new : Task) (turn : Turn) → is_some o ≡ true → turn ≡ Note (Found n) → new ≡ loaded → Tells (finds_or_goes o n loaded) turn new
some_finds None n loaded new turn some is same = absurd cc
some_finds (Some w) n loaded new turn some is same = (is, same)

none_goes : (o : Option Wish) (n : ℕ) (loaded new : Task) (turn : Turn) → o ≡ None → turn ≡ Go → new ≡ loaded → Tells (finds_or_goes o n loaded) turn new
none_goes o n loaded new turn none is same = subst (λ (o : Option Wish). Tells (finds_or_goes o n loaded) turn new) (sym none) (is, same)

module _ (t : Task) (n : ℕ) (p : Phase) (kept : Option Kept) (list : List Entry) (turn : Turn) (same : kept ≡ t.kept)
    (entries : list ≡ used t.kept t.cmd t.params n) (phase : p ≡ next_phase (length list) (slots_told t.cmd t.params n)) where
  abbrev new : Task
  new = record t { kept = kept; gate = n; entries = list; phase = p }

  pub gate_finds : is_some (wish_of t.cmd) ≡ true → turn ≡ Note (Found n) → Tells (gate_turn t n None) turn new
  gate_finds some is = some_finds (wish_of t.cmd) n (gate_loaded t n) new turn some is (loaded_is t n p kept list same entries phase)

  pub gate_goes : wish_of t.cmd ≡ None → turn ≡ Go → Tells (gate_turn t n None) turn new
  gate_goes none is = none_goes (wish_of t.cmd) n (gate_loaded t n) new turn none is (loaded_is t n p kept list same entries phase)
