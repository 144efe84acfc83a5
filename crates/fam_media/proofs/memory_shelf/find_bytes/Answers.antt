use Rattle.std.proofs.Common.{sym, ap, ◌∙◌, List, ℕ, Some}
use Rattle.std.specs.Str.{bytes_eq}
use Rattle.std.specs.String.{string_bytes}
use Rattle.fam_media.proofs.ShelfLemmas.{lookup_here, lookup_further}
use Rattle.fam_media.proofs.memory_shelf.find_bytes.Goals as goal

pub returns-then-eq : goal.returns-then-eq
returns-then-eq c =
    ap Some c.as_slice.ensures.value ∙ sym (lookup_here (λ x. string_bytes x.0) (λ x. x.1.items) c.args.name.now c.args.files.now c.loop-f.f-index c.f-item.result c.loop-f-test.true c.f-item.is
    (ap (λ (k : List ℕ). bytes_eq c.args.name.now k) (sym c.as_str.ensures.value) ∙ sym c.eq.ensures ∙ c.if-eq.true))
    ∙ c.loop-f.invariant

pub loop-f-preserved : goal.loop-f-preserved
loop-f-preserved c =
    sym (lookup_further (λ x. string_bytes x.0) (λ x. x.1.items) c.args.name.now c.args.files.now c.loop-f.f-index c.f-item.result c.loop-f-test.true c.f-item.is
    (ap (λ (k : List ℕ). bytes_eq c.args.name.now k) (sym c.as_str.ensures.value) ∙ sym c.eq.ensures ∙ c.if-eq.false))
    ∙ c.loop-f.invariant
