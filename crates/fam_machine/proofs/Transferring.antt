-- The operations at one line as transfers.
use Rattle.std.proofs.Common.{ℕ, zero, suc, ◌/◌, ◌%◌, ◌^◌, ◌==◌, ◌<◌, ◌≡◌, if◌then◌else◌, min, Bool, List, ◌∷◌, Option, Some, unwrap_or, refl, ap, subst, sym, ◌∙◌, arith}
use Rattle.std.specs.Prelude.{bit_and}
use Rattle.std.proofs.lemmas.Nat.Bits.{bit_at_and, bit_at-lt}
use Rattle.fam_base.specs.Image.{masked}
use Rattle.fam_machine.specs.declared.cell.Cell.{Cell}
use Rattle.fam_machine.specs.declared.cell.Cell.TheVariants.{Absent, Clean, Dirty}
use Rattle.fam_machine.specs.Moves.{brings, refreshes, sends, sends_whole, asks, cleans, drops, Transfers, rests, goes}
use Rattle.fam_machine.specs.OneLine.{asked_for, brought, sent, cleaned, leaked, fetched, failed_send, failed_leak}

-- a load
pub brought_transfers : (m : List ℕ) (c : Cell) → Transfers m c m (brought m c)
brought_transfers m Absent = goes brings rests
brought_transfers m (Clean w) = rests
brought_transfers m (Dirty a w) = rests

-- a write-back
pub asked_for_transfers : (m : List ℕ) (c : Cell) → Transfers m c m (asked_for c)
asked_for_transfers m Absent = rests
asked_for_transfers m (Clean w) = rests
asked_for_transfers m (Dirty a w) = goes asks rests

-- a line that a fence sends
pub cleaned_transfers : (m : List ℕ) (c : Cell) → Transfers m c (sent m c) (cleaned c)
cleaned_transfers m Absent = rests
cleaned_transfers m (Clean w) = rests
cleaned_transfers m (Dirty a w) = goes sends_whole (goes cleans rests)

-- an invalidation and an eviction
pub absent_transfers : (m : List ℕ) (c : Cell) → Transfers m c (sent m c) Absent
absent_transfers m Absent = rests
absent_transfers m (Clean w) = goes drops rests
absent_transfers m (Dirty a w) = goes sends_whole (goes cleans (goes drops rests))

-- a line that is sent whole, and keeps its mark
pub asked_transfers : (m : List ℕ) (c : Cell) → Transfers m c (sent m c) c
asked_transfers m Absent = rests
asked_transfers m (Clean w) = rests
asked_transfers m (Dirty a w) = goes sends_whole rests

-- a leak
pub leaked_transfers : (mask : ℕ) (m : List ℕ) (c : Cell) → Transfers m c (leaked mask m c) c
leaked_transfers mask m Absent = rests
leaked_transfers mask m (Clean w) = rests
leaked_transfers mask m (Dirty a w) = goes (sends mask) rests

-- a fetch
pub fetched_transfers : (mask : ℕ) (m : List ℕ) (c : Cell) → Transfers m c m (fetched mask m c)
fetched_transfers mask m Absent = goes brings rests
fetched_transfers mask m (Clean w) = goes (refreshes mask) rests
fetched_transfers mask m (Dirty a w) = rests

sent_to : (a : Bool) (m w words : List ℕ) (mask : ℕ) → masked mask w m ≡ words → Transfers m (Dirty a w) words (Dirty a w)
sent_to a m w words mask is = subst (λ (v : List ℕ). Transfers m (Dirty a w) v (Dirty a w)) is (goes (sends mask) rests)

-- a send that fails
pub failed_send_transfers : (mask : ℕ) (m words : List ℕ) (c : Cell) → failed_send mask m c ≡ Some words → Transfers m c words c
failed_send_transfers mask m words Absent is = absurd cc
failed_send_transfers mask m words (Clean w) is = absurd cc
failed_send_transfers mask m words (Dirty a w) is = sent_to a m w words mask (ap (λ (o : Option (List ℕ)). unwrap_or o m) is)

two_bits : (a b x y : ℕ) → a < 2 → b < 2 → (if a == 1 then (if b == 1 then x else y) else y) ≡ (if min a b == 1 then x else y)
two_bits zero zero x y low high = refl
two_bits zero (suc zero) x y low high = refl
two_bits zero (suc (suc b)) x y low high = absurd (omega arith)
two_bits (suc zero) zero x y low high = refl
two_bits (suc zero) (suc zero) x y low high = refl
two_bits (suc zero) (suc (suc b)) x y low high = absurd (omega arith)
two_bits (suc (suc a)) b x y low high = absurd (omega arith)

-- a word comes through two masks where both have its bit
word_through : (through mask i x y : ℕ) → (if through / 2 ^ i % 2 == 1 then (if mask / 2 ^ i % 2 == 1 then x else y) else y) ≡ (if bit_and through mask / 2 ^ i % 2 == 1 then x else y)
word_through through mask i x y = rw (bit_at_and through mask i) (two_bits _ _ x y (bit_at-lt through i) (bit_at-lt mask i))

first_and_rest : {x y : ℕ} {xs ys : List ℕ} → x ≡ y → xs ≡ ys → x ∷ xs ≡ y ∷ ys
first_and_rest {x} {y} {xs} {ys} first rest = ap (λ (v : ℕ). v ∷ xs) first ∙ ap (λ (vs : List ℕ). y ∷ vs) rest

-- what comes through two masks comes through one
pub masked_twice : (through mask : ℕ) (w m : List ℕ) → masked through (masked mask w m) m ≡ masked (bit_and through mask) w m
unfolding masked
masked_twice through mask w m =
    first_and_rest (word_through through mask 0 _ _)
    (first_and_rest (word_through through mask 1 _ _)
    (first_and_rest (word_through through mask 2 _ _)
    (first_and_rest (word_through through mask 3 _ _)
    (first_and_rest (word_through through mask 4 _ _)
    (first_and_rest (word_through through mask 5 _ _)
    (first_and_rest (word_through through mask 6 _ _) (first_and_rest (word_through through mask 7 _ _) refl)))))))

-- a leak that fails
pub failed_leak_transfers : (mask through : ℕ) (m words : List ℕ) (c : Cell) → failed_leak mask through m c ≡ Some words → Transfers m c words c
failed_leak_transfers mask through m words Absent is = absurd cc
failed_leak_transfers mask through m words (Clean w) is = absurd cc
failed_leak_transfers mask through m words (Dirty a w) is =
    sent_to a m w words (bit_and through mask) (sym (masked_twice through mask w m) ∙ ap (λ (o : Option (List ℕ)). unwrap_or o m) is)
