use Rattle.std.proofs.Common.{◌≡◌, ℕ, ◌+◌, ◌-◌, ◌*◌, ◌<◌, ◌≤◌, length, get_or, inl, inr, sym, ap, ◌∙◌, arith}
use borrow.Rule.Slice.PartMut.{put_mid}
use Rattle.fam_format.specs.Words.{byte_from}
use Rattle.fam_entry.proofs.PathField.{put_length, put_below, put_at, word_put, at_eight}
use Rattle.fam_entry.proofs.short.short_path.Goals as goal

pub loop-i-preserved : goal.loop-i-preserved
loop-i-preserved c =
    let i = c.loop-i.i in
    let ys = c.copy_from_slice.new.self in
    let few : i < 4 = c.loop-i-test.true in
    let within : 8 * i + 8 ≤ 32 = omega (arith, few) in
    let size : 8 * i + 8 - 8 * i ≡ 8 = omega arith in
    let same = c.copy_from_slice.ensures.after ∙ c.to_le_bytes-bytes.ensures in
    let eight : length ys ≡ 8 = ap length same in
    record {
      count = put_length (8 * i) (8 * i + 8 - 8 * i) 8 c.loop-i.field ys c.loop-i.invariant.count within size eight;
      bytes = λ k below.
          elim (at_eight i k below) [
            | inl before ↦ put_below (8 * i) (8 * i + 8 - 8 * i) 8 c.loop-i.field ys c.loop-i.invariant.count within size eight k before ∙ c.loop-i.invariant.bytes k before
            | inr at ↦
                ap (λ (n : ℕ). get_or (put_mid (8 * i) (8 * i + 8 - 8 * i) c.loop-i.field ys) n 0) (sym at.0)
                ∙ put_at (8 * i) (8 * i + 8 - 8 * i) 8 c.loop-i.field ys c.loop-i.invariant.count within size eight (k - 8 * i) at.1
                ∙ word_put c.args.words.now ys i (k - 8 * i) same at.1 ∙ ap (λ (n : ℕ). byte_from 42 c.args.words.now n) at.0
          ];
    }
