-- What the refusals that didn't come tell.
use Rattle.std.proofs.Common.{◌≡◌, ◌≢◌, ℕ, zero, suc, ◌+◌, ◌<◌, ◌≤◌, Bool, true, false, List, [], ◌∷◌, Option, Some, None, refl, subst, arith}
use Rattle.std.specs.Prelude.{◌&&◌, ◌||◌, ◌==◌, not, nat_lt, nat_le, if◌then◌else◌, option_map, slice_get}
use Rattle.std.proofs.lemmas.Bool.Decides.{Decides-eqb, nat_tests}
use Rattle.std.proofs.lemmas.Option.{same_Some}
use Rattle.std.specs.Cmp.Lexicographic.{pointwise_decides}
use Rattle.fam_base.specs.PathOrder.{path_eq}
use Rattle.fam_format.specs.Stop.{or_else}
use Rattle.fam_machine.specs.Caches.{dirty_count}
use Rattle.fam_machine.specs.Mkfs.{EarlyRefusal}
use Rattle.fam_journal.specs.declared.refusal.Refusal.{Refusal}
use Rattle.fam_journal.specs.Calls.{busy_refusal, cause_of, dirty_from, dirty_refusal, is_same, same_refusal, when}
use Rattle.fam_journal.specs.Machines.{HostState}

pub or_first : {E : Type 0} (a b : Option E) → or_else a b ≡ None → a ≡ None
or_first None b e = refl
or_first (Some x) b e = absurd cc

pub or_next : {E : Type 0} (a b : Option E) → or_else a b ≡ None → b ≡ None
or_next None b e = e
or_next (Some x) b e = absurd cc

pub no_when : (t : Bool) (cause : Refusal) → when t cause ≡ None → t ≡ false
no_when true cause e = absurd cc
no_when false cause e = refl

pub no_same : (o : Option ℕ) → same_refusal o ≡ None → o ≡ None
no_same None e = refl
no_same (Some h) e = absurd cc

pub no_busy : (o : Option ℕ) → busy_refusal o ≡ None → o ≡ None
no_busy None e = refl
no_busy (Some h) e = absurd cc

pub no_dirty : (o : Option ℕ) → dirty_refusal o ≡ None → o ≡ None
no_dirty None e = refl
no_dirty (Some h) e = absurd cc

pub no_cause : (o : Option EarlyRefusal) → option_map cause_of o ≡ None → o ≡ None
no_cause None e = refl
no_cause (Some early) e = absurd cc

pub both_first : (a b : Bool) → (a && b) ≡ true → a ≡ true
both_first true b e = refl
both_first false b e = absurd cc

pub both_next : (a b : Bool) → (a && b) ≡ true → b ≡ true
both_next true b e = e
both_next false b e = absurd cc

either_next : (a b : Bool) → (a || b) ≡ false → b ≡ false
either_next true b e = absurd cc
either_next false b e = e

-- a host of another UUID
pub other_uuid : (name uuid : List ℕ) (host : HostState) → is_same name uuid host ≡ false → host.uuid ≢ uuid
other_uuid name uuid host e same =
    absurd (let is : path_eq host.uuid uuid ≡ true = (pointwise_decides Decides-eqb host.uuid uuid).1 same in
    let not : path_eq host.uuid uuid ≡ false = either_next (path_eq host.name name) (path_eq host.uuid uuid) e in cc)

pub at_most : (a b : ℕ) → nat_lt b a ≡ false → a ≤ b
at_most a b e = grind (arith, nat_tests)

pub below_of : (a b : ℕ) → nat_le a b ≡ false → b < a
below_of a b e = grind (arith, nat_tests)

-- no other host has a dirty line
pub none_dirty_from : (maker : ℕ) (xs : List HostState) (i : ℕ) → dirty_from maker i xs ≡ None → (k : ℕ) (host : HostState) → slice_get xs k ≡ Some host → i + k ≢ maker → dirty_count host.cache ≡ 0
none_dirty_from maker [] i none k host is ne = absurd cc
none_dirty_from maker (x ∷ xs) i none zero host is ne =
    subst (λ (y : HostState). dirty_count y.cache ≡ 0) (same_Some x host is) (first (i == maker) refl (nat_lt 0 (dirty_count x.cache)) refl none)
  where
    first : (a : Bool) → (i == maker) ≡ a → (b : Bool) → nat_lt 0 (dirty_count x.cache) ≡ b → (if not a && b then Some i else dirty_from maker (i + 1) xs) ≡ None → dirty_count x.cache ≡ 0
    first true is_a b is_b e = absurd (ne (grind (arith, nat_tests)))
    first false is_a true is_b e = absurd cc
    first false is_a false is_b e = grind (arith, nat_tests)
none_dirty_from maker (x ∷ xs) i none (suc k) host is ne =
    none_dirty_from maker xs (i + 1) (rest (not (i == maker) && nat_lt 0 (dirty_count x.cache)) none) k host is (λ e. ne (omega (arith, e)))
  where
    rest : (a : Bool) → (if a then Some i else dirty_from maker (i + 1) xs) ≡ None → dirty_from maker (i + 1) xs ≡ None
    rest true e = absurd cc
    rest false e = e
