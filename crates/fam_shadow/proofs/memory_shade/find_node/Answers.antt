use Rattle.std.proofs.Common.{sym, ap, ◌∙◌, List, ℕ}
use Rattle.std.specs.Str.{bytes_eq}
use Rattle.std.specs.String.{string_bytes}
use Rattle.fam_media.proofs.ShelfLemmas.{lookup_here, lookup_further}
use Rattle.fam_shadow.proofs.memory_shade.find_node.Goals as goal

pub returns-then-eq : goal.returns-then-eq
returns-then-eq c =
    sym (lookup_here (λ x. string_bytes x.0) (λ x. x.1) c.args.name.now c.args.nodes.now c.loop-n.n-index c.n-item.result c.loop-n-test.true c.n-item.is
    (ap (λ (k : List ℕ). bytes_eq c.args.name.now k) (sym c.as_str.ensures.value) ∙ sym c.eq.ensures ∙ c.if-eq.true))
    ∙ c.loop-n.invariant

pub loop-n-preserved : goal.loop-n-preserved
loop-n-preserved c =
    sym (lookup_further (λ x. string_bytes x.0) (λ x. x.1) c.args.name.now c.args.nodes.now c.loop-n.n-index c.n-item.result c.loop-n-test.true c.n-item.is
    (ap (λ (k : List ℕ). bytes_eq c.args.name.now k) (sym c.as_str.ensures.value) ∙ sym c.eq.ensures ∙ c.if-eq.false))
    ∙ c.loop-n.invariant
