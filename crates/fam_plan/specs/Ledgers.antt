-- What a plan has beside its tree, and how it grows by an entry.
use Rattle.std.specs.Prelude.{ℕ, ◌≡◌, ◌<◌, ◌||◌, ◌++◌, ◌∷◌, [], None, length}
use Rattle.fam_base.specs.declared.entry.Entry.{Entry}
use Rattle.fam_format.specs.Tree.{overlap_fault}
use Rattle.fam_format.specs.Units.{units_in, first_overlap}
use Rattle.fam_alloc.specs.Taken.{is_taken, holds, LieWithin}
use Rattle.fam_plan.specs.declared.used.Used.{Used}
use Rattle.fam_plan.specs.declared.ledger.Ledger.{Ledger}

-- the extents of an entry lie within the units
pub record MayTake (used : Used) (e : Entry) : Type 0 where
  pub unit : 0 < used.unit
  pub within : LieWithin used.unit (length used.map) e.extents

-- the units of an entry were free, and are used now
pub record HasTaken (old : Used) (e : Entry) (new : Used) : Type 0 where
  pub fits : overlap_fault (first_overlap (is_taken old.map) (units_in old.unit e.extents)) ≡ None
  pub taken : (u : ℕ) → is_taken new.map u ≡ (is_taken old.map u || holds (units_in old.unit e.extents) u)
  pub units : length new.map ≡ length old.map
  pub unit : new.unit ≡ old.unit

-- and its path stands behind the others
pub record HasGrown (old : Ledger) (e : Entry) (new : Ledger) : Type 0 where
  pub order : new.order ≡ old.order ++ e.path ∷ []
  pub used : HasTaken old.used e new.used
