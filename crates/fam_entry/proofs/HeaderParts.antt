-- The tests of the log's header line are those of its two parts.
use Rattle.std.proofs.Common.{◌≡◌, ℕ, List, slice_index, Option, Some, None, Result, Ok, Err, refl, ◌∙◌, ap}
use Rattle.fam_base.specs.declared.entry.Params.{Params}
use Rattle.fam_format.specs.declared.faults.LogFault.{LogFault}
use Rattle.fam_format.specs.declared.faults.LogField.TheVariants as field
use Rattle.fam_format.specs.Log.{field_fault, log_crc, log_fault, log_magic}
use Rattle.fam_format.specs.Stop.{or_else}
use Rattle.fam_entry.specs.Header.{sizes_fault, rest_fault}
use Rattle.fam_entry.specs.Tests.{NamesFault}

one_by_one : {E : Type 0} (a b c d e : Option E) → or_else a (or_else b (or_else c (or_else d e))) ≡ or_else (or_else a (or_else b (or_else c d))) e
one_by_one (Some fault) b c d e = refl
one_by_one None (Some fault) c d e = refl
one_by_one None None (Some fault) d e = refl
one_by_one None None None (Some fault) e = refl
one_by_one None None None None e = refl

in_parts : (w : List ℕ) (p : Params) → log_fault w p ≡ or_else (sizes_fault w p) (rest_fault w p)
unfolding log_fault
in_parts w p = one_by_one (field_fault field.Magic (slice_index w 0) log_magic) (field_fault field.Crc (slice_index w 7) (log_crc w))
    (field_fault field.Length (slice_index w 1) p.log_length) (field_fault field.Slots (slice_index w 2) p.slots) (rest_fault w p)

-- a fault of the first part is the header's
pub in_sizes : (w : List ℕ) (p : Params) (fault : LogFault) → sizes_fault w p ≡ Some fault → log_fault w p ≡ Some fault
in_sizes w p fault is = in_parts w p ∙ ap (λ (o : Option LogFault). or_else o (rest_fault w p)) is

-- where the first part has none, the second tells
pub in_rest : (w : List ℕ) (p : Params) (result : Result (Unit {0}) LogFault) → sizes_fault w p ≡ None → NamesFault result (rest_fault w p) → NamesFault result (log_fault w p)
in_rest w p (Ok u) none is = in_parts w p ∙ ap (λ (o : Option LogFault). or_else o (rest_fault w p)) none ∙ is
in_rest w p (Err fault) none is = in_parts w p ∙ ap (λ (o : Option LogFault). or_else o (rest_fault w p)) none ∙ is
