-- A new file system's lines, and what they read as.
use Rattle.std.proofs.Common.{◌≡◌, ℕ, ◌*◌, ◌≤◌, List, [], ◌∷◌, ◌++◌, length, refl, sym, ap, ap₂, ◌∙◌, arith}
use Rattle.std.specs.Prelude.{slice_range, slice_index}
use Rattle.fam_base.specs.declared.entry.Params.{Params}
use Rattle.fam_base.specs.Image.{Image, eight, line_at}
use Rattle.fam_format.specs.Layout.{log_line, gate_line, least_lines}
use Rattle.fam_format.specs.Log.{log_words, log_fault}
use Rattle.fam_format.specs.Params.{SoundParams}
use Rattle.fam_format.specs.Reading.{Sound, gate_in, reading}
use Rattle.fam_format.specs.ReadingLaws.{Holds}
use Rattle.fam_format.specs.Super.{magic_line, super_of, super_words}
use Rattle.fam_format.proofs.LogLawsProofs.{header_passes}
use Rattle.fam_format.proofs.ReadingLawsProofs.{holds_sound}
use Rattle.fam_format.proofs.SuperLawsProofs.{read_spelling}
use Rattle.fam_rules.specs.Written.{Put, zero_line, format_puts, formatted}
use Rattle.fam_rules.specs.WrittenLaws.{IsFormatted}
use Rattle.fam_rules.proofs.Puts.{length-put_lines, put_elsewhere, last_put}

-- the words of the superblock in two lines
super_lines : (p : Params) → slice_range (super_words p) 0 8 ++ slice_range (super_words p) 8 16 ≡ super_words p
unfolding super_words
super_lines p = refl

-- each line has eight words
eight_prefix : (p : Params) → eight (slice_range (super_words p) 0 8) ≡ slice_range (super_words p) 0 8
unfolding super_words
eight_prefix p = refl

eight_rest : (p : Params) → eight (slice_range (super_words p) 8 16) ≡ slice_range (super_words p) 8 16
unfolding super_words
eight_rest p = refl

eight_header : (p : Params) → eight (log_words p) ≡ log_words p
unfolding log_words
eight_header p = refl

-- the six puts
abbrev cleared : Put
cleared = (0, zero_line)

abbrev gate_put : Put
gate_put = (gate_line, zero_line)

abbrev header_put : Params → Put
header_put p = (log_line, log_words p)

abbrev prefix_put : Params → Put
prefix_put p = (1, slice_range (super_words p) 0 8)

abbrev rest_put : Params → Put
rest_put p = (2, slice_range (super_words p) 8 16)

abbrev magic_put : Put
magic_put = (0, magic_line)

-- the lines of a new file system
pub lines_formatted : (image : Image) (p : Params) → least_lines ≤ length image → IsFormatted p image (formatted image p)
unfolding formatted
lines_formatted image p enough = record {
  count = length-put_lines (format_puts p) image;
  magic = last_put (cleared ∷ gate_put ∷ header_put p ∷ prefix_put p ∷ rest_put p ∷ []) [] image 0 magic_line (omega arith) tt;
  super_prefix = last_put (cleared ∷ gate_put ∷ header_put p ∷ []) (rest_put p ∷ magic_put ∷ []) image 1 (slice_range (super_words p) 0 8)
      (omega arith) (λ e. omega arith, (λ e. omega arith, tt)) ∙ eight_prefix p;
  super_rest = last_put (cleared ∷ gate_put ∷ header_put p ∷ prefix_put p ∷ []) (magic_put ∷ []) image 2 (slice_range (super_words p) 8 16) (omega arith) (λ e. omega arith, tt) ∙ eight_rest p;
  header = last_put (cleared ∷ gate_put ∷ []) (prefix_put p ∷ rest_put p ∷ magic_put ∷ []) image log_line (log_words p) (omega arith)
      (λ e. omega arith, (λ e. omega arith, (λ e. omega arith, tt))) ∙ eight_header p;
  gate = last_put (cleared ∷ []) (header_put p ∷ prefix_put p ∷ rest_put p ∷ magic_put ∷ []) image gate_line zero_line (omega arith)
      (λ e. omega arith, (λ e. omega arith, (λ e. omega arith, (λ e. omega arith, tt))));
  others = λ l a b c d e. put_elsewhere (format_puts p) image l (a, (e, (d, (b, (c, (a, tt))))));
}

-- lines of a new file system hold no entries
holds_none : (p : Params) (before after : Image) (have : ℕ) → SoundParams p → p.device ≤ have → IsFormatted p before after → Holds (line_at after) have p []
holds_none p before after have sound fits is =
    let gate : gate_in (line_at after) ≡ 0 = ap (λ (words : List ℕ). slice_index words 0) is.gate in
    record {
      head = record {
        super = ap₂ (λ (word : ℕ) (words : List ℕ). super_of word words have) (ap (λ (words : List ℕ). slice_index words 0) is.magic)
            (ap₂ (λ (xs ys : List ℕ). xs ++ ys) is.super_prefix is.super_rest ∙ super_lines p)
            ∙ read_spelling p sound have fits;
        header = ap (λ (words : List ℕ). log_fault words p) is.header ∙ header_passes p;
        gate = omega arith;
      };
      count = sym gate;
      slots = λ i e at. absurd (let none = at in cc);
    }

-- a new file system reads as one without entries
pub formatted_reads : (image : Image) (p : Params) → SoundParams p → least_lines ≤ length image → p.device ≤ 64 * length image → reading (formatted image p) ≡ Sound p []
formatted_reads image p sound enough fits =
    let is = lines_formatted image p enough in
    holds_sound (line_at (formatted image p)) (64 * length (formatted image p)) p []
    (holds_none p image (formatted image p) (64 * length (formatted image p)) sound (omega (arith, is.count)) is)
