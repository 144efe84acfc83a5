-- Which entry a host may be acknowledged.
use Rattle.std.proofs.Common.{◌≡◌, ◌≢◌, ◌↔◌, ℕ, ◌+◌, List, [], ◌∷◌, ◌++◌, length, Option, None, Some, option_map, sym, ap, subst, ◌∙◌, arith}
use Rattle.std.specs.List.{slice_get}
use Rattle.std.proofs.lemmas.List.{length-append}
use Rattle.std.proofs.lemmas.Option.{slice_get-get_or, slice_get-map}
use Rattle.std.proofs.Math.Seq.{get_or-append_seam}
use Rattle.fam_base.specs.declared.entry.Entry.{Entry}
use Rattle.fam_journal.specs.Legal.{AppendedAllowed, IsAcknowledged}
use Rattle.fam_journal.specs.Past.{HostPast, State, acknowledges, with_pending}
use Rattle.fam_protocol.specs.After.{Named}
use Rattle.fam_rules.specs.Asks.{File}
use Rattle.fam_settled.specs.declared.bytes.Filed.{Filed}
use Rattle.fam_settled.specs.Bytes.{file_with}
use Rattle.fam_settled.specs.Settled.{SettledLog, filed, settled_files, joined, settled_log_state}
use Rattle.fam_settled.proofs.Choices.{chosen, not_chosen}
use Rattle.fam_settled.proofs.Files.{entries_of-files_of, length-files_of}

-- the entry that a host named
entry_or : Entry → Option Named → Entry
entry_or e None = e
entry_or e (Some n) = n.entry

seq_or : ℕ → Option Named → ℕ
seq_or k None = k
seq_or k (Some n) = n.seq

module _ (host : HostPast) (seq named : ℕ) (e : Entry) (wrote : host.wrote ≡ Some (record { seq = named; entry = e })) where
  -- it has this number
  pub acknowledged_seq : (history : List File) → IsAcknowledged seq host history → named ≡ seq
  unfolding seq_or
  acknowledged_seq history is = ap (seq_or 0) (sym wrote ∙ is.named)

  -- it is the last one
  last_told : named ≡ seq → (history : List File) → length history ≡ seq + 1 → IsAcknowledged seq host history ↔ (option_map (λ (f : File). f.entry) (slice_get history seq) ≡ Some e)
  unfolding entry_or
  last_told same history count = (
    λ is. is.last ∙ ap (λ (x : Entry). Some x) (ap (entry_or e) (sym is.named ∙ wrote)),
    λ last. record { entry = e; named = wrote ∙ ap (λ (n : ℕ). Some (record { seq = n; entry = e })) same; count = count; last = last },
  )

  module _ (same : named ≡ seq) (s : SettledLog) where
    -- the pending entry is this one
    pending_told : (o : Option Filed) → seq ≡ length (settled_files s) → IsAcknowledged seq host (with_pending (settled_files s) (filed o)) ↔ (option_map (λ f. f.entry) o ≡ Some e)
    pending_told None at = (λ is. absurd (omega (arith, is.count, at)), λ is. absurd (let none = is in cc))
    pending_told (Some f) at =
        let h = settled_files s in
        let x : File = file_with f.entry f.bytes in
        let count : length (h ++ x ∷ []) ≡ seq + 1 = omega (arith, length-append h (x ∷ []), at) in
        let there : slice_get (h ++ x ∷ []) seq ≡ Some x =
        ap (slice_get (h ++ x ∷ [])) at ∙ slice_get-get_or (h ++ x ∷ []) (length h) x (omega (arith, count, at)) ∙ ap (λ (y : File). Some y) (get_or-append_seam h x [] x) in
        subst (λ (o : Option File). IsAcknowledged seq host (h ++ x ∷ []) ↔ (option_map (λ (f : File). f.entry) o ≡ Some e)) there (last_told same (h ++ x ∷ []) count)

    pub pends_told : seq ≡ length s.entries → AppendedAllowed seq host (acknowledges seq (settled_log_state s)) ↔ (option_map (λ f. f.entry) s.pending ≡ Some e)
    pends_told at =
        let there : seq ≡ length (settled_files s) = at ∙ sym (length-files_of s.entries s.bytes) in
        subst (λ (x : State). AppendedAllowed seq host x ↔ (option_map (λ f. f.entry) s.pending ≡ Some e))
        (chosen seq (length (settled_files s)) (joined (settled_log_state s)) (settled_log_state s) there)
        (pending_told s.pending there)

    -- the last settled entry is this one
    pub ends_told : seq ≢ length s.entries → AppendedAllowed seq host (acknowledges seq (settled_log_state s)) ↔ ((length s.entries ≡ seq + 1) × (slice_get s.entries seq ≡ Some e))
    ends_told other =
        let h = settled_files s in
        let many = length-files_of s.entries s.bytes in
        let entries : option_map (λ (f : File). f.entry) (slice_get h seq) ≡ slice_get s.entries seq =
        sym (slice_get-map (λ (f : File). f.entry) h seq) ∙ ap (λ (l : List Entry). slice_get l seq) (entries_of-files_of s.entries s.bytes) in
        subst (λ (x : State). AppendedAllowed seq host x ↔ ((length s.entries ≡ seq + 1) × (slice_get s.entries seq ≡ Some e)))
        (not_chosen seq (length h) (joined (settled_log_state s)) (settled_log_state s) (λ at. other (at ∙ many)))
        (λ is. (sym many ∙ is.count, sym entries ∙ (last_told same h is.count).0 is), λ is. (last_told same h (many ∙ is.0)).1 (entries ∙ is.1))
