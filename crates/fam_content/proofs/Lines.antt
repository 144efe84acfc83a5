-- Lines of contents, from their bytes.
use Rattle.std.proofs.Common.{◌≡◌, ℕ, ◌+◌, ◌-◌, ◌*◌, ◌/◌, ◌%◌, ◌^◌, ◌<◌, ◌≤◌, nat_lt, if◌then◌else◌, List, [], length, get_or, inl, inr, refl, sym, ap, ◌∙◌, arith}
use Rattle.std.specs.Prelude.{slice_set}
use Rattle.std.proofs.lemmas.Bool.{cases_eq, cases_lt}
use Rattle.std.proofs.lemmas.Bool.Decides.{nat_tests}
use Rattle.std.proofs.lemmas.Grind.{get_or-set_at}
use Rattle.std.proofs.lemmas.List.{get_or-set_other}
use Rattle.fam_base.specs.declared.cmd.Content.{Content}
use Rattle.fam_base.specs.declared.cmd.Content.TheVariants.{Seed}
use Rattle.fam_base.specs.Image.{byte_of}
use Rattle.fam_rules.specs.Content.{stream_word, content_byte, fill, content_line, byte_in}
use Rattle.fam_content.specs.Stream.{IsLine, line_in}
use Rattle.fam_rules.proofs.ContentLines.{line_by_bytes, byte_of_fill, no_byte_of_fill, byte_of_stream}

-- eight words of a stream have the bytes of the seeded content
pub seeded_byte : (seed start : ℕ) (words : List ℕ) → start % 64 ≡ 0 → ((w : ℕ) → w < 8 → get_or words w 0 ≡ stream_word seed (start / 8 + w))
    → (b : ℕ) → b < 64 → byte_in words b ≡ content_byte (Seed seed) (start + b)
seeded_byte seed start words aligned each b below =
    let at : 8 * (start / 8 + b / 8) + b % 8 ≡ start + b = omega arith in
    ap (λ (word : ℕ). byte_of word (b % 8)) (each (b / 8) (omega arith))
    ∙ byte_of_stream seed (start / 8 + b / 8) (b % 8) (omega arith)
    ∙ ap (content_byte (Seed seed)) at

chosen : (b n v : ℕ) → b < n → (if nat_lt b n then v else 0) ≡ v
chosen b n v below = grind (arith, nat_tests)

not_chosen : (b n v : ℕ) → n ≤ b → (if nat_lt b n then v else 0) ≡ 0
not_chosen b n v past = grind (arith, nat_tests)

-- eight words with the bytes of a content below the size, and zeros behind, are the file's line
pub line_of_content : (content : Content) (size given : ℕ) (endless words : List ℕ) → length words ≡ 8 → ((w : ℕ) → get_or words w 0 < 2 ^ 64) → 64 * given < size
    → ((b : ℕ) → b < 64 → byte_in endless b ≡ content_byte content (64 * given + b))
    → ((b : ℕ) → b < 64 → byte_in words b ≡ if nat_lt b (size - 64 * given) then byte_in endless b else 0) → words ≡ content_line content size given
line_of_content content size given endless words count fits left bytes prefix =
    line_by_bytes words (fill content size) given count fits (λ b small.
    elim (cases_lt b (size - 64 * given)) [
      | inl below ↦
          prefix b small
          ∙ chosen b (size - 64 * given) (byte_in endless b) below
          ∙ bytes b small
          ∙ sym (byte_of_fill content size (64 * given + b) (omega arith))
      | inr past ↦
          prefix b small
          ∙ not_chosen b (size - 64 * given) (byte_in endless b) past
          ∙ sym (no_byte_of_fill content size (64 * given + b) (omega arith))
    ])

-- Runs of lines.

-- a line that begins 64 bytes before the size or earlier is cut nowhere
uncut : (b n v : ℕ) → b < 64 → 64 ≤ n → v ≡ (if nat_lt b n then v else 0)
uncut b n v small whole = sym (chosen b n v (omega arith))

-- so such a line is the file's
pub whole_line_of_content : (content : Content) (size given : ℕ) (words : List ℕ) → IsLine words → 64 * given + 64 ≤ size
    → ((b : ℕ) → b < 64 → byte_in words b ≡ content_byte content (64 * given + b)) → words ≡ content_line content size given
whole_line_of_content content size given words line whole bytes =
    line_of_content content size given words words line.count line.fits (omega arith) bytes (λ b small. uncut b (size - 64 * given) (byte_in words b) small (omega arith))

-- a run of lines whose last one was cut
pub lines_of_content : (content : Content) (size given n at : ℕ) (lines : List (List ℕ)) (cut : List ℕ) → length lines ≡ n → 64 * (given + n) < size + 64
    → ((k b : ℕ) → k < n → b < 64 → byte_in (line_in lines k) b ≡ content_byte content (64 * given + 64 * k + b)) → ((k : ℕ) → k < n → IsLine (line_in lines k))
    → at + 1 ≡ n → cut ≡ content_line content size (given + at) → (k : ℕ) → k < n → line_in (slice_set lines at cut) k ≡ content_line content size (given + k)
lines_of_content content size given n at lines cut count left bytes whole last is k below =
    elim (cases_eq k at) [
      | inl same ↦
          ap (λ (i : ℕ). line_in (slice_set lines at cut) i) same
          ∙ get_or-set_at lines at at cut [] refl (omega arith)
          ∙ is
          ∙ ap (λ (i : ℕ). content_line content size (given + i)) (sym same)
      | inr other ↦
          get_or-set_other lines at k cut [] other
          ∙ whole_line_of_content content size (given + k) (line_in lines k) (whole k below) (omega arith) (λ b small.
          bytes k b below small ∙ ap (content_byte content) (omega arith))
    ]
