-- What is found, step by step, and what a fault leaves that came before the first write.
use Rattle.std.proofs.Common.{◌≡◌, ℕ, ◌<◌, ◌≤◌, Bool, true, false, nat_lt, List, length, if◌then◌else◌, refl, sym, ap, subst, ◌∙◌, inl, arith}
use Rattle.std.proofs.lemmas.Bool.Decides.{nat_tests}
use Rattle.fam_base.specs.declared.entry.Params.{Params}
use Rattle.fam_base.specs.declared.entry.Entry.{Entry}
use Rattle.fam_base.specs.Image.{Image}
use Rattle.fam_format.specs.Layout.{least_lines}
use Rattle.fam_format.specs.Reading.{Reading, Sound, reading}
use Rattle.fam_dup.specs.Copies.{Copied, copying}
use Rattle.fam_dup.specs.Ends.{ClassLeaves, IsFailure, IsLeft}
use Rattle.fam_dup.specs.Findings.{Copies, FailsFrom, FailsTo, FaultClass, Finding, Names, Refuses, SmallFrom, WantsMemory, copies_or, finding, from_or, to_or}

module _ (from to : Image) (p : Params) (force : Bool) where
  -- what comes of FROM's entries
  abbrev pub entries_or : List Entry → Finding
  entries_or entries = to_or to p force (copies_or entries (copying p entries))

  -- FROM has too few lines
  pub small_from : (lines : ℕ) → lines ≡ length from → lines < least_lines → finding from to p force ≡ SmallFrom lines
  unfolding finding
  small_from lines count few =
      let small : nat_lt (length from) least_lines ≡ true = grind (arith, nat_tests) in
      ap (λ (b : Bool). if b then SmallFrom (length from) else from_or (reading from) entries_or) small ∙ ap SmallFrom (sym count)

  -- or enough
  pub large_from : least_lines ≤ length from → finding from to p force ≡ from_or (reading from) entries_or
  unfolding finding
  large_from enough =
      let large : nat_lt (length from) least_lines ≡ false = grind (arith, nat_tests) in
      ap (λ (b : Bool). if b then SmallFrom (length from) else from_or (reading from) entries_or) large

  -- and is sound
  module _ (q : Params) (entries : List Entry) (enough : least_lines ≤ length from) (reads : reading from ≡ Sound q entries) where
    pub sound_from : finding from to p force ≡ entries_or entries
    sound_from = large_from enough ∙ ap (λ (r : Reading). from_or r entries_or) reads

    -- and nothing is against TO
    module _ (free : (rest : Finding) → to_or to p force rest ≡ rest) where
      pub free_to : finding from to p force ≡ copies_or entries (copying p entries)
      free_to = sound_from ∙ free (copies_or entries (copying p entries))

      -- and each entry has a copy
      pub copied_to : (copies : List Entry) → copying p entries ≡ Copied copies → finding from to p force ≡ Copies entries copies
      copied_to copies is = free_to ∙ ap (copies_or entries) is

-- what is found, however that is told
pub names_found : (class : FaultClass) (one other : Finding) → one ≡ other → Names class other → Names class one
names_found class one other same names = subst (Names class) (sym same) names

-- a fault before the first write leaves TO
pub left_alone : (from old new : Image) (p : Params) (force : Bool) (class : FaultClass) → new ≡ old → ClassLeaves from old new p force class
left_alone from old new p force (Refuses found) same = same
left_alone from old new p force FailsFrom same = inl same
left_alone from old new p force FailsTo same = inl same
left_alone from old new p force WantsMemory same = same

-- want of memory says nothing of what was found, and changes nothing
pub wanted_memory : (from to : Image) (p : Params) (force : Bool) (class : FaultClass) (found : Finding) → class ≡ WantsMemory → Names class found × ClassLeaves from to to p force class
wanted_memory from to p force class found is = subst (λ (k : FaultClass). Names k found × ClassLeaves from to to p force k) (sym is) (tt, refl)

-- a media that failed says nothing of what was found, and leaves a part of the copy
pub failed_ends : (from old new : Image) (p : Params) (force : Bool) (class : FaultClass) (found : Finding) (a b c d : ℕ) → IsFailure a b c d class
    → IsLeft from old new p force → Names class found × ClassLeaves from old new p force class
failed_ends from old new p force (Refuses told) found a b c d fails left = absurd fails
failed_ends from old new p force FailsFrom found a b c d fails left = (tt, left)
failed_ends from old new p force FailsTo found a b c d fails left = (tt, left)
failed_ends from old new p force WantsMemory found a b c d fails left = absurd fails
