-- Which sizes file systems have: where one fits, one of the smallest unit does.
use Rattle.std.proofs.Common.{◌≡◌, ◌+◌, ◌-◌, ◌*◌, ◌%◌, ◌<◌, ◌≤◌, inl, inr, ℕ, Bool, true, false, List, [], ◌∷◌, length, get_or, Some, None, refl, ap, sym, ◌∙◌, lit<, arith}
use Rattle.std.specs.Prelude.{⊤, ◌==◌, ◌&&◌, ◌||◌, if◌then◌else◌, nat_le, nat_lt}
use Rattle.std.specs.List.{list_any}
use Rattle.std.proofs.lemmas.Bool.{and_from, cases_lt, eqb-true, or_cases}
use Rattle.std.proofs.lemmas.Bool.Decides.{nat_tests}
use Rattle.std.proofs.lemmas.List.Folds.{list_any_at}
use Rattle.std.proofs.Math.Nat.{mod-eq_of_lt}
use Rattle.fam_base.specs.Units.{least_unit}
use Rattle.fam_format.specs.Layout.{log_limit, log_offset}
use Rattle.fam_format.specs.Params.{is_log_length, is_unit, need}
use Rattle.fam_format.proofs.UnitPowers.{unit_told}
use Rattle.fam_machine.specs.Mkfs.{BadGeometry, TooSmall, early_refusal, is_geometry}
use Rattle.fam_rules.specs.Place.{line_bytes}
use Rattle.fam_journal.proofs.Calls.Tests.{at_most, both_first, both_next}
use Rattle.fam_judge.specs.Standing.{HasSystemRoom, is_need, leaves_log, units}

-- What is refused of the numbers.

-- by what is the matter with them
pub data Numbers (unit log have : ℕ) : Type 0 where
  bad : is_geometry unit log ≡ false → early_refusal unit log have ≡ Some (BadGeometry unit log) → Numbers unit log have
  small : is_geometry unit log ≡ true → have < need log unit → early_refusal unit log have ≡ Some (TooSmall (need log unit) have) → Numbers unit log have
  pass : is_geometry unit log ≡ true → need log unit ≤ have → early_refusal unit log have ≡ None → Numbers unit log have

-- which it is
pub numbers : (unit log have : ℕ) → Numbers unit log have
numbers unit log have = by (is_geometry unit log) refl (nat_lt have (need log unit)) refl
  where
    tested : (g s : Bool) → is_geometry unit log ≡ g → nat_lt have (need log unit) ≡ s
        → early_refusal unit log have ≡ (if g then (if s then Some (TooSmall (need log unit) have) else None) else Some (BadGeometry unit log))
    tested g s is_g is_s =
        ap (λ (b : Bool). if b then (if nat_lt have (need log unit) then Some (TooSmall (need log unit) have) else None) else Some (BadGeometry unit log)) is_g
        ∙ ap (λ (b : Bool). if g then (if b then Some (TooSmall (need log unit) have) else None) else Some (BadGeometry unit log)) is_s

    by : (g : Bool) → is_geometry unit log ≡ g → (s : Bool) → nat_lt have (need log unit) ≡ s → Numbers unit log have
    by false is_g s is_s = bad is_g (tested false s is_g is_s)
    by true is_g true is_s = small is_g (below have (need log unit) is_s) (tested true true is_g is_s)
      where
        below : (a b : ℕ) → nat_lt a b ≡ true → a < b
        below a b e = grind (arith, nat_tests)
    by true is_g false is_s = pass is_g (at_most (need log unit) have is_s) (tested true false is_g is_s)

-- A log has at least a unit.

log_some : (unit log : ℕ) → is_log_length unit log ≡ true → 0 < log
log_some unit log is = by (both_first (nat_lt 0 log) (log % unit == 0) (both_first (nat_lt 0 log && (log % unit == 0)) (nat_le log log_limit) is))
  where
    by : nat_lt 0 log ≡ true → 0 < log
    by e = grind (arith, nat_tests)

log_whole : (unit log : ℕ) → is_log_length unit log ≡ true → log % unit ≡ 0
log_whole unit log is = by (both_next (nat_lt 0 log) (log % unit == 0) (both_first (nat_lt 0 log && (log % unit == 0)) (nat_le log log_limit) is))
  where
    by : (log % unit == 0) ≡ true → log % unit ≡ 0
    by e = grind (arith, nat_tests)

-- at least a unit, since it is a multiple of one
long_log : (unit log : ℕ) → 0 < unit → 0 < log → log % unit ≡ 0 → unit ≤ log
long_log unit log some more whole = elim (cases_lt log unit) [
  | inl low ↦ absurd (let same : log % unit ≡ log = mod-eq_of_lt low in omega (arith, same, whole))
  | inr high ↦ high
]

-- where one fits, the smallest does
pub room_of : (unit log lines : ℕ) → is_geometry unit log ≡ true → need log unit ≤ line_bytes * lines → HasSystemRoom lines
room_of unit log lines geometry fits =
    let unit_is = unit_told unit (both_first (is_unit unit) (is_log_length unit log) geometry) in
    let log_is = both_next (is_unit unit) (is_log_length unit log) geometry in
    let least : least_unit ≤ unit = unit_is.least in
    let long : unit ≤ log = long_log unit log (omega (arith, least)) (log_some unit log log_is) (log_whole unit log log_is) in
    omega (arith, least, long, fits)

-- the smallest is refused nothing where it fits
pub least_passes : (lines : ℕ) → HasSystemRoom lines → early_refusal least_unit least_unit (line_bytes * lines) ≡ None
least_passes lines fits = by (numbers least_unit least_unit (line_bytes * lines))
  where
    by : Numbers least_unit least_unit (line_bytes * lines) → early_refusal least_unit least_unit (line_bytes * lines) ≡ None
    by (bad odd e) = absurd cc
    by (small shaped low e) = absurd (omega (arith, low, fits))
    by (pass shaped room e) = e

-- What is needed.

-- a unit is the last of these, or one of the others
among : {A : Type 0} (u n : ℕ) (others : Bool) → (others || (u == n)) ≡ true → (u ≡ n → A) → (others ≡ true → A) → A
among u n others is here there = elim (or_cases others (u == n) is) [ inl more ↦ there more | inr e ↦ here (eqb-true u n e) ]

-- some unit and log need so many bytes
pub need_found : (unit log : ℕ) → is_geometry unit log ≡ true → is_need (need log unit) ≡ true
need_found unit log geometry = place unit (both_first (is_unit unit) (is_log_length unit log) geometry) leaves
  where
    leaves : leaves_log (need log unit) unit ≡ true
    leaves = let rest : need log unit - (log_offset + unit) ≡ log = omega arith in ap (is_log_length unit) rest ∙ both_next (is_unit unit) (is_log_length unit log) geometry

    at : (u i n : ℕ) → i < length units → get_or units i 0 ≡ n → leaves_log (need log unit) u ≡ true → u ≡ n → is_need (need log unit) ≡ true
    at u i n low is here same =
        list_any_at (leaves_log (need log unit)) units i 0 low (ap (leaves_log (need log unit)) (is ∙ sym same) ∙ here)

    place : (u : ℕ) → is_unit u ≡ true → leaves_log (need log unit) u ≡ true → is_need (need log unit) ≡ true
    place u is here =
        among u 2097152 _ is (at u 9 2097152 (lit< tt) refl here) (λ is_9.
        among u 1048576 _ is_9 (at u 8 1048576 (lit< tt) refl here) (λ is_8.
        among u 524288 _ is_8 (at u 7 524288 (lit< tt) refl here) (λ is_7.
        among u 262144 _ is_7 (at u 6 262144 (lit< tt) refl here) (λ is_6.
        among u 131072 _ is_6 (at u 5 131072 (lit< tt) refl here) (λ is_5.
        among u 65536 _ is_5 (at u 4 65536 (lit< tt) refl here) (λ is_4.
        among u 32768 _ is_4 (at u 3 32768 (lit< tt) refl here) (λ is_3.
        among u 16384 _ is_3 (at u 2 16384 (lit< tt) refl here) (λ is_2.
        among u 8192 _ is_2 (at u 1 8192 (lit< tt) refl here) (λ is_1. at u 0 4096 (lit< tt) refl here (eqb-true u 4096 is_1))))))))))

-- each of them
abbrev Each : (ℕ → Type 0) → List ℕ → Type 0
Each Q [] = ⊤
Each Q (x ∷ xs) = Q x × Each Q xs

-- one that passes
pick : (p : ℕ → Bool) (Q : ℕ → Type 0) (xs : List ℕ) → Each Q xs → list_any p xs ≡ true → (x : ℕ) × Q x × (p x ≡ true)
pick p Q [] each e = absurd cc
pick p Q (x ∷ xs) each e = by (pick p Q xs each.1) (p x) refl e
  where
    by : (list_any p xs ≡ true → (y : ℕ) × Q y × (p y ≡ true)) → (b : Bool) → p x ≡ b → (b || list_any p xs) ≡ true → (y : ℕ) × Q y × (p y ≡ true)
    by later true is e = (x, each.0, is)
    by later false is e = later e

-- a unit and a log that need so many bytes
pub record Needs (bytes : ℕ) : Type 0 where
  pub unit : ℕ
  pub log : ℕ
  pub geometry : is_geometry unit log ≡ true
  pub is : need log unit ≡ bytes

-- where there is one
pub needs_of : (bytes : ℕ) → is_need bytes ≡ true → Needs bytes
needs_of bytes is =
    let one = pick (leaves_log bytes) (λ u. is_unit u ≡ true) units (refl, (refl, (refl, (refl, (refl, (refl, (refl, (refl, (refl, (refl, tt)))))))))) is in
    let some = log_some one.0 (bytes - (log_offset + one.0)) one.2 in
    record {
      unit = one.0;
      log = bytes - (log_offset + one.0);
      geometry = and_from (is_unit one.0) (leaves_log bytes one.0) one.1 one.2;
      is = omega (arith, some);
    }
