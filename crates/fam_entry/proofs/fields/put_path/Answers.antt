use Rattle.std.proofs.Common.{◌≡◌, ℕ, ◌+◌, ◌-◌, ◌*◌, ◌/◌, ◌%◌, ◌<◌, ◌≤◌, List, refl, length, get_or, inl, inr, sym, ap, ◌∙◌, arith}
use Rattle.std.proofs.lemmas.Bool.{cases_lt}
use Rattle.std.proofs.lemmas.List.{get_or-take, length-take-le}
use borrow.Rule.Slice.PartMut.{put_mid}
use Rattle.fam_base.specs.Image.{byte_of}
use Rattle.fam_format.specs.Words.{byte_from}
use Rattle.fam_entry.proofs.PathField.{put_below, put_at, put_behind, word_put}
use Rattle.fam_entry.proofs.Strays.{zero_above}
use Rattle.fam_entry.proofs.fields.put_path.Goals as goal

pub returns : goal.returns
returns c =
    let len = c.args.len in
    let at = 8 * (len / 8) in
    let tail = len - at in
    let ys = c.copy_from_slice.new.self in
    let field = c.put_words-2.new.field in
    let bytes = c.to_le_bytes-bytes.result in
    let short : tail ≤ 8 = omega arith in
    let eight : length bytes ≡ 8 = ap length c.to_le_bytes-bytes.ensures in
    let count : length ys ≡ tail = ap length c.copy_from_slice.ensures.after ∙ length-take-le tail bytes (omega (arith, eight, short)) in
    let within : at + tail ≤ 512 = omega (arith, c.requires.few) in
    let size : tail ≡ tail = refl in
    record {
      bytes = λ k below.
          elim (cases_lt k at) [
            | inl before ↦ put_below at tail tail field ys c.put_words-2.array_long within size count k before ∙ c.put_words-2.ensures.bytes k before
            | inr from ↦
                let place : at + (k - at) ≡ k = omega arith in
                let low : k - at < tail = omega arith in
                ap (λ (n : ℕ). get_or (put_mid at tail field ys) n 0) (sym place)
                ∙ put_at at tail tail field ys c.put_words-2.array_long within size count (k - at) low
                ∙ ap (λ (l : List ℕ). get_or l (k - at) 0) c.copy_from_slice.ensures.after
                ∙ get_or-take tail bytes (k - at) 0 low
                ∙ word_put c.args.words.now bytes (len / 8) (k - at) c.to_le_bytes-bytes.ensures (omega arith)
                ∙ ap (λ (n : ℕ). byte_from 42 c.args.words.now n) place
          ];
      behind = λ k behind.
          put_behind at tail tail field ys c.put_words-2.array_long within size count k (omega arith)
          ∙ c.put_words-2.ensures.behind k (omega arith) ∙ c.requires.empty k;
    }

pub returns-then-word-len-eq0-clause-behind : goal.returns-then-word-len-eq0-clause-behind
returns-then-word-len-eq0-clause-behind c = λ k from.
    let len = c.args.len in
    let words = c.args.words.now in
    elim (cases_lt k (8 * (len / 8 + 1))) [
      | inl within ↦
          let word : k / 8 ≡ len / 8 = omega (arith, from, within) in
          let behind : len - 8 * (len / 8) ≤ k % 8 = omega (arith, from, within) in
          c.put_words.ensures.bytes k within ∙ ap (λ (w : ℕ). byte_of (get_or words (42 + w) 0) (k % 8)) word
          ∙ zero_above (get_or words (42 + len / 8) 0) (len - 8 * (len / 8)) (k % 8) c.if-word-len-eq0.true behind
      | inr past ↦ c.put_words.ensures.behind k past ∙ c.requires.empty k
    ]
