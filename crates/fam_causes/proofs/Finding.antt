-- How many entries of a log may be found.
use Rattle.std.proofs.Common.{◌≡◌, ◌↔◌, ◌⊎◌, ◌+◌, ℕ, List, [], ◌∷◌, length, Option, Some, None, inl, inr, sym, ◌∙◌}
use Rattle.std.proofs.lemmas.List.{length-append}
use Rattle.fam_journal.specs.Legal.{FoundAllowed, FoundPending}
use Rattle.fam_journal.specs.Past.{with_pending}
use Rattle.fam_rules.specs.Asks.{File}
use Rattle.fam_settled.specs.Settled.{SettledLog as Log, filed, settled_and_pending, settled_files, settled_log_state}
use Rattle.fam_settled.proofs.Files.{length-files_of}

-- by the one that pends
two_by : (n count : ℕ) (files : List File) (pending : Option File) → length files ≡ count
    → FoundPending n (length files) pending ↔ ((n ≡ count) ⊎ (n ≡ length (with_pending files pending)))
two_by n count files None same = (λ h. inl (h ∙ same), λ h. elim h [ inl e ↦ e ∙ sym same | inr e ↦ e ])
two_by n count files (Some f) same =
    let more : length (with_pending files (Some f)) ≡ length files + 1 = length-append files (f ∷ []) in (
      λ h. elim h [ inl e ↦ inl (e ∙ same) | inr e ↦ inr (e ∙ sym more) ],
      λ h. elim h [ inl e ↦ inl (e ∙ sym same) | inr e ↦ inr (e ∙ more) ],
    )

-- those that are settled, or all
pub found_two : (n : ℕ) (s : Log) → FoundAllowed n (settled_log_state s) ↔ ((n ≡ length s.entries) ⊎ (n ≡ length (settled_and_pending s)))
found_two n s = two_by n (length s.entries) (settled_files s) (filed s.pending) (length-files_of s.entries s.bytes)
