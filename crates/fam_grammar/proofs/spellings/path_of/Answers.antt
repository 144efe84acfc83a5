use Rattle.std.proofs.Common.{◌<◌, ℕ, List, Some, true≢false, take, length, refl, sym, ap, ◌∙◌, arith, rules}
use Rattle.std.proofs.lemmas.List.{take_more_set, length-set, length-take-le}
use Rattle.fam_base.specs.Paths.{is_path}
use Rattle.fam_grammar.specs.Spellings.{unescaped}
use Rattle.fam_grammar.proofs.SpellingLemmas.{behind, false_of, no_path, is_the_path, is_no_path, too_long, read_on, read_all, read_none}
use Rattle.fam_grammar.proofs.spellings.path_of.Goals as goal

pub returns-in_err-byte : goal.returns-in_err-byte
returns-in_err-byte c =
    c.from_residual.ensures ∙ no_path c.args.word.now
    (read_none c.args.word.now (take c.loop-rest.count c.loop-rest.field) (unescaped c.loop-rest.rest.now) c.loop-rest.invariant.0
    c.in_err-byte.ensures.cases)

pub returns-then-count-eq-PATH_LIMIT : goal.returns-then-count-eq-PATH_LIMIT
returns-then-count-eq-PATH_LIMIT c =
    too_long c.args.word.now (take c.loop-rest.count c.loop-rest.field) c.in_ok-byte.byte (unescaped c.in_ok-byte.more.now)
    (omega (arith, length-take-le c.loop-rest.count c.loop-rest.field c.loop-rest.invariant.1, c.if-count-eq-PATH_LIMIT.true))
    (c.loop-rest.invariant.0 ∙ ap (behind (take c.loop-rest.count c.loop-rest.field)) c.in_ok-byte.ensures.cases)

pub loop-rest-preserved : goal.loop-rest-preserved
loop-rest-preserved c =
    let within : c.loop-rest.count < length c.loop-rest.field = omega (arith, c.loop-rest.invariant.1, c.loop-rest.invariant.2, c.if-count-eq-PATH_LIMIT.false) in (
      read_on c.args.word.now (take c.loop-rest.count c.loop-rest.field) c.in_ok-byte.byte (unescaped c.loop-rest.rest.now)
          (unescaped c.in_ok-byte.more.now) c.loop-rest.invariant.0 c.in_ok-byte.ensures.cases
          ∙ ap (λ (l : List ℕ). behind l (unescaped c.in_ok-byte.more.now)) (sym (take_more_set c.loop-rest.field c.loop-rest.count c.in_ok-byte.byte within)),
      omega (arith, within, length-set c.loop-rest.field c.loop-rest.count c.in_ok-byte.byte),
      length-set c.loop-rest.field c.loop-rest.count c.in_ok-byte.byte ∙ c.loop-rest.invariant.2,
    )

pub returns-in-Ok : goal.returns-in-Ok
returns-in-Ok c =
    let prefix : List ℕ = take c.loop-rest.count c.loop-rest.field in
    let whole = read_all c.args.word.now prefix c.loop-rest.rest.now c.loop-rest.invariant.0 (search rules) in
    ap (λ (l : List ℕ). Some l) c.in-Ok.ensures.same ∙ is_the_path c.args.word.now prefix whole (c.in-Ok.ensures.ok.0 refl)

pub returns-in-Err : goal.returns-in-Err
returns-in-Err c =
    let prefix : List ℕ = take c.loop-rest.count c.loop-rest.field in
    let whole = read_all c.args.word.now prefix c.loop-rest.rest.now c.loop-rest.invariant.0 (search rules) in
    is_no_path c.args.word.now prefix whole (false_of (is_path prefix) (λ is. true≢false (sym (c.in-Err.ensures.ok.1 is))))
