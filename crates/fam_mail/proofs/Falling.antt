-- A task that goes on behind an operation is nearer to its end.
use Rattle.std.proofs.Common.{◌≡◌, ℕ, ◌+◌, ◌-◌, ◌*◌, ◌<◌, ◌≤◌, refl, arith}
use Rattle.std.specs.Prelude.{nat_lt, cond, Bool, true, false}
use Rattle.std.proofs.lemmas.Bool.Decides.{nat_tests}
use Rattle.fam_mail.specs.declared.ask.Ask.{Ask}
use Rattle.fam_mail.specs.declared.ask.Ask.TheVariants.{Post, Take}
use Rattle.fam_mail.specs.declared.phase.Phase.{Phase}
use Rattle.fam_mail.specs.declared.phase.Phase.TheVariants as at
use Rattle.fam_mail.specs.declared.turn.Turn.{Turn}
use Rattle.fam_mail.specs.declared.turn.Turn.TheVariants.{Go, BadBox}
use Rattle.fam_mail.specs.Tasks.{PhaseFits, MailTask, loaded_gate_turn, ends_mail_task, left_at, left_of, phase_task, phase_turn, words_with, records_with}
use Rattle.fam_mail.proofs.Lists.{by_equal}

-- a gate with which a task goes on is no higher than the capacity
below_capacity : (t : Bool) (capacity gate : ℕ) (turn : Turn) → nat_lt capacity gate ≡ t → ends_mail_task (cond t (BadBox gate capacity) turn) ≡ false → gate ≤ capacity
below_capacity true capacity gate turn is over = absurd cc
below_capacity false capacity gate turn is over = grind (arith, nat_tests)

gate_falls : (ask : Ask) (t : MailTask) (word : ℕ) → ends_mail_task (loaded_gate_turn ask t.capacity word) ≡ false
    → left_of (phase_task at.LoadGate word (record t { ask = ask })) < left_at at.LoadGate t
gate_falls (Post numbers) t word over = omega arith
gate_falls Take t word over =
    let le : word ≤ t.capacity = below_capacity (nat_lt t.capacity word) t.capacity word Go refl over in omega (arith, le)

-- a turn that isn't the last one brings its task nearer to its end
pub falls : (p : Phase) (t : MailTask) (word : ℕ) → PhaseFits p t → ends_mail_task (phase_turn p word t) ≡ false → left_of (phase_task p word t) < left_at p t
falls at.LoadGate t word fits over = gate_falls t.ask t word over
falls (at.StoreRecord k) t word fits over =
    by_equal (λ (p : Phase). left_at p (record t { phase = p }) < 18 - k) k 7 at.SendRecord (at.StoreRecord (k + 1)) (λ e. omega (arith, e)) (λ ne. omega (arith, fits.0))
falls at.FenceGate t word fits over = absurd cc
falls (at.LoadRecord i k) t word fits over =
    by_equal (λ (x : MailTask). left_of x < 9 * (t.gate - i) - k) k 7 (record t { phase = at.DropRecord (i + 1); words = words_with 7 word t; records = records_with word t })
    (record t { phase = at.LoadRecord i (k + 1); words = words_with k word t })
    (λ e. omega (arith, e, fits.0)) (λ ne. omega (arith, ne, fits.0, fits.2))
falls other t word fits over = omega arith
