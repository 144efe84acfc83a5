-- Names of hosts in their field.
use Rattle.std.proofs.Common.{◌≡◌, ℕ, ◌≤◌, true, List, ◌++◌, length, drop, replicate, ap, arith}
use Rattle.std.proofs.Math.Seq.{take-append_seam}
use Rattle.std.proofs.lemmas.Bool.Decides.{nat_tests}
use Rattle.fam_base.specs.HostNames.{name_limit, is_host_name, IsNameField}
use Rattle.fam_base.proofs.PathLemmas.{zeros_behind}

-- a name has at most 16 bytes
pub name_fits : (bytes : List ℕ) → is_host_name bytes ≡ true → length bytes ≤ name_limit
unfolding is_host_name
name_fits bytes name = grind (arith, nat_tests)

-- a name and zeros behind it
pub stored_name : (bytes : List ℕ) → is_host_name bytes ≡ true → IsNameField (bytes ++ drop (length bytes) (replicate name_limit 0)) (length bytes)
stored_name bytes name =
    record {
      name = rw take-append_seam name;
      count = ap length (take-append_seam _ _);
      zeros = rw take-append_seam (zeros_behind name_limit bytes (name_fits bytes name));
    }
