use Rattle.std.proofs.Common.{rules, ◌≡◌, ℕ, ◌≤◌, ◌++◌, ◌∷◌, [], ◌-◌, List, slice_set, decimal, drop, length, ap, ◌∙◌, arith}
use Rattle.std.proofs.lemmas.Fmt.{length-decimal-le}
use Rattle.std.proofs.lemmas.List.{at_drop_all, drop-set, length-drop, length-take-le}
use borrow.Rule.Slice.PartMut.{put_mid}
use Rattle.fam_program.proofs.Texts.NumberLines.{placed}
use Rattle.fam_program.proofs.numbers.write_number.Goals as goal

pub write_digits-digits-requires : goal.write_digits-digits-requires
write_digits-digits-requires c =
    let short : length (decimal c.args.number) ≤ 20 = search (rules, length-decimal-le 20) in (omega (arith, short), search rules)

pub overflow_sub-start : goal.overflow_sub-start
overflow_sub-start c =
    let short : length (decimal c.args.number) ≤ 20 = search (rules, length-decimal-le 20) in
    let end = c.write_digits-digits.ensures.start in
    omega (arith, short, end)

pub copy_from_slice-requires : goal.copy_from_slice-requires
copy_from_slice-requires c =
    let short : length (decimal c.args.number) ≤ 20 = search (rules, length-decimal-le 20) in
    let end = c.write_digits-digits.ensures.start in
    let xs = c.write_digits-digits.new.buf in
    let start = c.write_digits-digits.result - length c.args.words.now in
    let rest = length-drop start xs in
    length-take-le (c.write_digits-digits.result - start) (drop start xs) (omega (arith, short, end, rest)) ∙ omega (arith, short, end)

pub returns-clause-written : goal.returns-clause-written
returns-clause-written c =
    let short : length (decimal c.args.number) ≤ 20 = search (rules, length-decimal-le 20) in
    let end = c.write_digits-digits.ensures.start in
    let xs = c.write_digits-digits.new.buf in
    let digits = c.write_digits-digits.result in
    let start = digits - length c.args.words.now in
    let last : drop 41 (slice_set c.args.room.now 41 10) ≡ 10 ∷ [] =
    drop-set c.args.room.now 41 10 (omega arith) ∙ at_drop_all (λ (t : List ℕ). 10 ∷ t) c.args.room.now 42 (omega arith) in
    ap (λ (ys : List ℕ). drop start (put_mid start (digits - start) xs ys)) c.copy_from_slice.ensures.after
    ∙ placed c.args.words.now (decimal c.args.number ++ 10 ∷ []) xs start digits (omega (arith, short, end)) (omega (arith, short, end))
    (c.write_digits-digits.ensures.written ∙ ap (λ (t : List ℕ). decimal c.args.number ++ t) last)
