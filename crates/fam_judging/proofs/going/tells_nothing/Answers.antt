use Rattle.std.proofs.Common.{rules, ℕ, length, refl, subst, arith}
use Rattle.std.proofs.lemmas.Option.{slice_get_read}
use Rattle.fam_judge.specs.Possible.{Elsewhere}
use Rattle.fam_lines.specs.Lines.{note_of_line}
use Rattle.fam_judging.proofs.NamedSeqs.{named_seq}
use Rattle.fam_judging.proofs.going.tells_nothing.Goals as goal

pub returns-in-Some : goal.returns-in-Some
returns-in-Some c = λ start hosts x wrote is.
    let items = c.args.written.now.tracks.items in
    subst (λ (n : ℕ). Elsewhere c.args.at n (note_of_line c.args.line.now))
    (named_seq start c.args.at x hosts c.args.written.now c.index.result.now c.in-Some.wrote wrote
    (slice_get_read items (length items) c.args.at c.index.result.now refl (omega (arith, c.if-at-len.false, c.len.ensures)) c.index.ensures) (search rules))
    (c.is_elsewhere.ensures.0 is)
