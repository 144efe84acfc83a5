use Rattle.std.proofs.Common.{sym, ap, ◌∙◌, List, ℕ}
use Rattle.std.specs.Str.{bytes_eq}
use Rattle.std.specs.String.{string_bytes}
use Rattle.fam_media.proofs.ShelfLemmas.{lookup_here, lookup_further}
use Rattle.fam_media.proofs.memory_shelf.find_cut.Goals as goal

pub returns-then-eq : goal.returns-then-eq
returns-then-eq c =
    sym (lookup_here (λ x. string_bytes x.0) (λ x. x.1) c.args.name.now c.args.cuts.now c.loop-c.c-index c.c-item.result c.loop-c-test.true c.c-item.is
    (ap (λ (k : List ℕ). bytes_eq c.args.name.now k) (sym c.as_str.ensures.value) ∙ sym c.eq.ensures ∙ c.if-eq.true))
    ∙ c.loop-c.invariant

pub loop-c-preserved : goal.loop-c-preserved
loop-c-preserved c =
    sym (lookup_further (λ x. string_bytes x.0) (λ x. x.1) c.args.name.now c.args.cuts.now c.loop-c.c-index c.c-item.result c.loop-c-test.true c.c-item.is
    (ap (λ (k : List ℕ). bytes_eq c.args.name.now k) (sym c.as_str.ensures.value) ∙ sym c.eq.ensures ∙ c.if-eq.false))
    ∙ c.loop-c.invariant
