-- A fault at one entry of a pass is one of the pass.
use Rattle.std.proofs.Common.{◌≡◌, ℕ, ◌≤◌, List, ◌∷◌, ◌++◌, inl, inr, arith}
use Rattle.fam_base.specs.declared.entry.Entry.{Entry}
use Rattle.fam_media.specs.Causes.{Rose}
use Rattle.fam_shadow.specs.declared.fault.ShadowFault.{ShadowFault}
use Rattle.fam_shadow.specs.declared.fault.ShadowFault.TheVariants as fault
use Rattle.fam_shadow.specs.Passes.{EntryFault, PassFault}

-- what rose since a later count rose since an earlier one
rose_since : (before mid now : ℕ) → before ≤ mid → Rose mid now → Rose before now
rose_since before mid now later rose = elim rose [
  | inl more ↦ inl (omega (arith, later, more))
  | inr most ↦ inr most
]

pub fault_of_pass : (entries done rest : List Entry) (e : Entry) (before mid now : ℕ) → entries ≡ done ++ e ∷ rest → before ≤ mid → (f : ShadowFault)
    → EntryFault e mid now f → PassFault entries before now f
fault_of_pass entries done rest e before mid now parts later (fault.Clash name) is = is
fault_of_pass entries done rest e before mid now parts later (fault.ShadeFault name) is =
    ((done, rest, e, (parts, is.0)), rose_since before mid now later is.1)
fault_of_pass entries done rest e before mid now parts later fault.OutOfMemory is = tt
