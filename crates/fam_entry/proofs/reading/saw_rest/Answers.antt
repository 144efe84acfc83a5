use Rattle.std.proofs.Common.{rules, IsTrue, ◌-◌, length, refl, sym, ◌∙◌, arith}
use Rattle.fam_entry.proofs.Strays.{no_strays_at}
use Rattle.fam_entry.proofs.reading.saw_rest.Goals as goal

pub returns : goal.returns
returns c =
    let words = c.args.words.now in
    let gap : IsTrue c.args.seen.now.has_gap = search rules in
    no_strays_at words (length words - 1) _ c.args.seen.now.end refl (omega (arith, c.if-seen-full-2.false))
    (c.requires.seen.gap gap) c.requires.seen.behind (sym c.has_stray_byte.ensures ∙ c.if-has_stray_byte.false)
