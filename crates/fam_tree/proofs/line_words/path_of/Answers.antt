use Rattle.std.proofs.Common.{◌≡◌, ◌<◌, ℕ, List, Some, true, true≢false, length, take, sym, ap, subst, ◌∙◌, arith, rules}
use Rattle.std.proofs.lemmas.List.{take_more_set, length-set, length-take-le}
use Rattle.fam_base.specs.Escapes.{escaped}
use Rattle.fam_base.specs.Paths.{is_path}
use Rattle.fam_tree.proofs.WordsRead.{bytes_more, next_byte, too_long, whole_path}
use Rattle.fam_tree.proofs.line_words.path_of.Goals as goal

pub returns-in_err-byte-clause-read : goal.returns-in_err-byte-clause-read
returns-in_err-byte-clause-read c = λ p proper same.
    let left : 0 < length c.loop-rest.rest.now = search rules in
    let n = next_byte p (take c.loop-rest.count c.loop-rest.field) c.loop-rest.rest.now proper (c.loop-rest.invariant.read p proper same) left in
    absurd (c.in_err-byte.ensures.read n.byte (escaped n.tail) n.small n.first)

pub returns-then-count-eq-PATH_LIMIT-clause-read : goal.returns-then-count-eq-PATH_LIMIT-clause-read
returns-then-count-eq-PATH_LIMIT-clause-read c = λ p proper same.
    let left : 0 < length c.loop-rest.rest.now = search rules in
    let n = next_byte p (take c.loop-rest.count c.loop-rest.field) c.loop-rest.rest.now proper (c.loop-rest.invariant.read p proper same) left in
    absurd (too_long p (take c.loop-rest.count c.loop-rest.field) c.loop-rest.rest.now proper n
    (length-take-le c.loop-rest.count c.loop-rest.field c.loop-rest.invariant.within ∙ c.if-count-eq-PATH_LIMIT.true))

pub loop-rest-preserved : goal.loop-rest-preserved
loop-rest-preserved c =
    let left : 0 < length c.loop-rest.rest.now = search rules in
    let within : c.loop-rest.count < length c.loop-rest.field = omega (arith, c.loop-rest.invariant.within, c.loop-rest.invariant.room, c.if-count-eq-PATH_LIMIT.false) in
    record {
      read = λ p proper same.
          let n = next_byte p (take c.loop-rest.count c.loop-rest.field) c.loop-rest.rest.now proper (c.loop-rest.invariant.read p proper same) left in
          let is = c.in_ok-byte.ensures.read n.byte (escaped n.tail) n.small n.first in
          bytes_more p (take c.loop-rest.count c.loop-rest.field) _ c.loop-rest.rest.now c.in_ok-byte.more.now c.in_ok-byte.byte n is.0
          (take_more_set c.loop-rest.field c.loop-rest.count c.in_ok-byte.byte within) is.1;
      within = omega (arith, within, length-set c.loop-rest.field c.loop-rest.count c.in_ok-byte.byte);
      room = length-set c.loop-rest.field c.loop-rest.count c.in_ok-byte.byte ∙ c.loop-rest.invariant.room;
    }

pub returns-in-Ok-clause-read : goal.returns-in-Ok-clause-read
returns-in-Ok-clause-read c = λ p proper same.
    let none : length c.loop-rest.rest.now ≡ 0 = search rules in
    let all : p ≡ take c.loop-rest.count c.loop-rest.field = whole_path p (take c.loop-rest.count c.loop-rest.field) c.loop-rest.rest.now proper (c.loop-rest.invariant.read p proper same) none in
    ap (λ (l : List ℕ). Some l) (c.in-Ok.ensures.same ∙ sym all)

pub returns-in-Err-clause-read : goal.returns-in-Err-clause-read
returns-in-Err-clause-read c = λ p proper same.
    let none : length c.loop-rest.rest.now ≡ 0 = search rules in
    let all : p ≡ take c.loop-rest.count c.loop-rest.field = whole_path p (take c.loop-rest.count c.loop-rest.field) c.loop-rest.rest.now proper (c.loop-rest.invariant.read p proper same) none in
    absurd (true≢false (sym (c.in-Err.ensures.ok.1 (subst (λ (l : List ℕ). is_path l ≡ true) all proper))))
