use Rattle.std.proofs.Common.{◌+◌, ◌*◌, ◌<◌, refl, sym, ◌∙◌, inl, inr, arith}
use Rattle.std.proofs.lemmas.Bool.{cases_lt, true≢false}
use Rattle.fam_settled.proofs.Fills.{own_byte}
use Rattle.fam_settled.proofs.contents.content_has.Goals as goal

pub returns-then-not-line_has : goal.returns-then-not-line_has
returns-then-not-line_has c = (
  λ h. absurd (true≢false (sym h)),
  λ all.
      c.if-not-line_has.ensures.1 (λ i below from to.
      own_byte c.args.content.now c.args.size c.lines.j (c.args.offset + i) c.line-line.result c.holds_bytes.ensures (c.line-line.ensures.line c.lines.j c.lines.invariant.stands)
      (omega (arith, below, c.requires)) from to
      ∙ all i below),
)

pub lines-preserved : goal.lines-preserved
lines-preserved c =
    record {
      stands = c.line-line.ensures.stands c.lines.j c.lines.invariant.stands;
      same = λ i below inside.
          elim (cases_lt (c.args.offset + i) (64 * c.lines.j)) [
            | inl before ↦ c.lines.invariant.same i below before
            | inr from ↦
                let to : c.args.offset + i < 64 * c.lines.j + 64 = omega (arith, inside) in
                sym (own_byte c.args.content.now c.args.size c.lines.j (c.args.offset + i) c.line-line.result c.holds_bytes.ensures (c.line-line.ensures.line c.lines.j c.lines.invariant.stands)
                (omega (arith, below, c.requires)) from to)
                ∙ c.if-not-line_has.ensures.0 refl i below from to
          ];
    }
