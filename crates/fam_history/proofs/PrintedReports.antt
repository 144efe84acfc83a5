-- The lines of a report behind the first read as what they tell.
use Rattle.std.proofs.Common.{◌≡◌, ℕ, ◌^◌, ◌<◌, Bool, true, false, List, [], ◌∷◌, ◌++◌, Option, Some, None, codes, refl, ap, sym, ◌∙◌, append-nil, append_assoc, decimal}
use Rattle.std.specs.Str.{bytes_eq}
use Rattle.std.proofs.lemmas.Slice.Eq.{bytes_eq-Decides}
use Rattle.fam_format.specs.declared.faults.LogFault.TheVariants.{BadLog}
use Rattle.fam_format.specs.declared.faults.Reason.{Reason}
use Rattle.fam_format.specs.declared.faults.SuperFault.TheVariants.{NoSuper, BadSuper}
use Rattle.fam_rules.specs.declared.answers.LogState.{LogState}
use Rattle.fam_rules.specs.declared.answers.LogState.TheVariants as log
use Rattle.fam_rules.specs.declared.answers.SuperState.{SuperState}
use Rattle.fam_rules.specs.declared.answers.SuperState.TheVariants as superblock
use Rattle.fam_grammar.specs.Numbers.{number_of_text}
use Rattle.fam_grammar.specs.Reading.{Reads}
use Rattle.fam_grammar.specs.Words.{words_from}
use Rattle.fam_grammar.proofs.Joined.{IsOneWord, placed}
use Rattle.fam_grammar.proofs.Respelled.{decimal_word, number-decimal}
use Rattle.fam_outcomes.specs.Texts.{bad_text, log_state_text, number, overlap_text, super_state_text}
use Rattle.fam_history.specs.declared.answer.ToldAnswer.TheVariants as told
use Rattle.fam_history.specs.ReportLines.{bad_entry_line, files_line, log_state_line, overlap_line, past_line, superblock_line, units_line}
use Rattle.fam_history.specs.ToldAnswers.{IsTellingReason}
use Rattle.fam_history.specs.ToldReports.{IfTellingPair, IfTellingSlot, IsTellingLogState, IsTellingSuperState}
use Rattle.fam_history.proofs.PrintedAnswers.{answer_first, answer_more, answer_words, log_back, past, reason_first, reason_more, reason_reads, super_back}
use Rattle.fam_history.proofs.Spaced.{four, free, placed_words}

-- Texts of two words.
two : (column : ℕ) (a b : List ℕ) → IsOneWord a → IsOneWord b → words_from column (a ++ 32 ∷ b) ≡ placed column (a ∷ b ∷ [])
two column a b first second = placed_words column (a ++ 32 ∷ b) a (b ∷ []) (ap (λ (l : List ℕ). a ++ 32 ∷ l) (sym (append-nil b))) (first, (second, tt))

impossible : (n : ℕ) → None ≡ Some n → ⊥
impossible n e = cc

-- a number isn't `none`
not_none : (n : ℕ) → n < 2 ^ 64 → bytes_eq (decimal n) (codes "none") ≡ false
unfolding number_of_text
not_none n small = cases (bytes_eq (decimal n) (codes "none")) refl
  where
    cases : (t : Bool) → bytes_eq (decimal n) (codes "none") ≡ t → bytes_eq (decimal n) (codes "none") ≡ false
    cases false e = e
    cases true e =
        let same : decimal n ≡ codes "none" = (bytes_eq-Decides (decimal n) (codes "none")).0 e in
        absurd (impossible n (ap number_of_text (sym same) ∙ number-decimal n small))

-- Superblock.

module _ (column end : ℕ) where
  no_super : (word : ℕ) → word < 2 ^ 64 → superblock_line end (placed column (answer_first (told.NoSuperblock (NoSuper word)) ∷ answer_more (told.NoSuperblock (NoSuper word)))) ≡ Reads
      (superblock.NoSuper word) []
  no_super word is = rw (number-decimal word is) refl

  pub super_reads : (s : SuperState) → IsTellingSuperState s → superblock_line end (words_from column (super_state_text s)) ≡ Reads s []
  super_reads superblock.Sound is = ap (superblock_line end) (two column (codes "superblock") (codes "sound") (free (codes "superblock") refl) (free (codes "sound") refl))
  super_reads (superblock.NoSuper word) is = ap (superblock_line end) (answer_words (told.NoSuperblock (NoSuper word)) column is) ∙ no_super word is
  super_reads (superblock.BadSuper f found wanted) is =
      ap (superblock_line end) (answer_words (told.NoSuperblock (BadSuper f found wanted)) column is) ∙ rw (super_back f, number-decimal found is.0, number-decimal wanted is.1) refl

  -- Log.

  log_words : (entries slots : ℕ) → (entries < 2 ^ 64) × (slots < 2 ^ 64) → words_from column (codes "log sound" ++ number entries ++ codes " of" ++ number slots) ≡ placed column
      (codes "log" ∷ codes "sound" ∷ decimal entries ∷ codes "of" ∷ decimal slots ∷ [])
  log_words entries slots is =
      placed_words column (codes "log sound" ++ number entries ++ codes " of" ++ number slots) (codes "log") (codes "sound" ∷ decimal entries ∷ codes "of" ∷ decimal slots ∷ [])
      (four (codes "log sound") (number entries) (codes " of") (number slots) ∙ ap (λ (l : List ℕ). codes "log sound" ++ (number entries ++ (codes " of" ++ (32 ∷ l))))
      (sym (append-nil (decimal slots))))
      (free (codes "log") refl, (free (codes "sound") refl, (decimal_word entries is.0, (free (codes "of") refl, (decimal_word slots is.1, tt)))))

  pub log_reads : (s : LogState) → IsTellingLogState s → log_state_line end (words_from column (log_state_text s)) ≡ Reads s []
  log_reads (log.Sound entries slots) is = ap (log_state_line end) (log_words entries slots is) ∙ rw (number-decimal entries is.0, number-decimal slots is.1) refl
  log_reads (log.BadLog f found wanted) is =
      ap (log_state_line end) (answer_words (told.BadHeader (BadLog f found wanted)) column is) ∙ rw (log_back f, number-decimal found is.0, number-decimal wanted is.1) refl
  log_reads log.Unread is = ap (log_state_line end) (two column (codes "log") (codes "unread") (free (codes "log") refl) (free (codes "unread") refl))

  -- Counts.

  pub files_read : (files directories : ℕ) → files < 2 ^ 64 → directories < 2 ^ 64
      → files_line end (words_from column (codes "files" ++ number files ++ codes " directories" ++ number directories)) ≡ Reads (files, directories) []
  files_read files directories first second =
      ap (files_line end) (placed_words column (codes "files" ++ number files ++ codes " directories" ++ number directories) (codes "files")
      (decimal files ∷ codes "directories" ∷ decimal directories ∷ [])
      (four (codes "files") (number files) (codes " directories") (number directories) ∙ ap (λ (l : List ℕ). codes "files" ++ (number files ++ (codes " directories" ++ (32 ∷ l))))
      (sym (append-nil (decimal directories))))
      (free (codes "files") refl, (decimal_word files first, (free (codes "directories") refl, (decimal_word directories second, tt)))))
      ∙ rw (number-decimal files first, number-decimal directories second) refl

  pub units_read : (used unused : ℕ) → used < 2 ^ 64 → unused < 2 ^ 64
      → units_line end (words_from column (codes "units used" ++ number used ++ codes " free" ++ number unused)) ≡ Reads (used, unused) []
  units_read used unused first second =
      ap (units_line end) (placed_words column (codes "units used" ++ number used ++ codes " free" ++ number unused) (codes "units") (codes "used" ∷ decimal used ∷ codes "free" ∷ decimal unused ∷ [])
      (four (codes "units used") (number used) (codes " free") (number unused) ∙ ap (λ (l : List ℕ). codes "units used" ++ (number used ++ (codes " free" ++ (32 ∷ l))))
      (sym (append-nil (decimal unused))))
      (free (codes "units") refl, (free (codes "used") refl, (decimal_word used first, (free (codes "free") refl, (decimal_word unused second, tt))))))
      ∙ rw (number-decimal used first, number-decimal unused second) refl

  -- Entries.

  pub overlap_reads : (pair : Option (ℕ × ℕ)) → IfTellingPair pair → overlap_line end (words_from column (overlap_text pair)) ≡ Reads pair []
  overlap_reads None is = ap (overlap_line end) (two column (codes "overlap") (codes "none") (free (codes "overlap") refl) (free (codes "none") refl))
  overlap_reads (Some pair) is =
      ap (overlap_line end) (placed_words column (overlap_text (Some pair)) (codes "overlap") (decimal pair.0 ∷ decimal pair.1 ∷ []) (simp (append_assoc, append-nil) refl)
      (free (codes "overlap") refl, (decimal_word pair.0 is.0, (decimal_word pair.1 is.1, tt))))
      ∙ rw (not_none pair.0 is.0, number-decimal pair.0 is.0, number-decimal pair.1 is.1) refl

  bad_words : (seq : ℕ) (why : Reason) → (seq < 2 ^ 64) × IsTellingReason why
      → bad_entry_line end (placed column (codes "bad" ∷ codes "entry" ∷ decimal seq ∷ reason_first why ∷ reason_more why)) ≡ Reads (Some (seq, why)) []
  bad_words seq why is = rw (not_none seq is.0, number-decimal seq is.0, reason_reads why (past (past (past column (codes "bad")) (codes "entry")) (decimal seq)) end is.1) refl

  pub bad_reads : (bad : Option (ℕ × Reason)) → IfTellingSlot bad → bad_entry_line end (words_from column (bad_text bad)) ≡ Reads bad []
  bad_reads None is =
      ap (bad_entry_line end)
      (placed_words column (codes "bad entry none") (codes "bad") (codes "entry" ∷ codes "none" ∷ []) refl (free (codes "bad") refl, (free (codes "entry") refl, (free (codes "none") refl, tt))))
  bad_reads (Some bad) is = ap (bad_entry_line end) (answer_words (told.BadSlot bad.0 bad.1) column is) ∙ bad_words bad.0 bad.1 is

  pub past_reads : (n : ℕ) → n < 2 ^ 64 → past_line end (words_from column (codes "past gate" ++ number n)) ≡ Reads n []
  past_reads n small =
      ap (past_line end) (placed_words column (codes "past gate" ++ number n) (codes "past") (codes "gate" ∷ decimal n ∷ []) (simp append-nil refl)
      (free (codes "past") refl, (free (codes "gate") refl, (decimal_word n small, tt))))
      ∙ rw (number-decimal n small) refl
