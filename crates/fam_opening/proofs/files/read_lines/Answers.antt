use Rattle.std.proofs.Common.{ℕ, ◌+◌, ◌*◌, ◌≤◌, ◌∙◌, length, ap, rules, arith}
use Rattle.std.proofs.lemmas.List.{length-take-le}
use Rattle.fam_opening.proofs.files.read_lines.Goals as goal

pub loop-j-preserved : goal.loop-j-preserved
loop-j-preserved g c =
    let v = c.loop-j.invariant in
    let e = c.in_ok-read_part.ensures in
    let most = c.run_of-count.ensures.most in
    let few : c.run_of-count.result ≤ length c.loop-j.buffer = omega (arith, most, c.min.ensures) in
    let part = length-take-le c.run_of-count.result c.loop-j.buffer few in
    record {
      within = omega (arith, most, c.min.ensures, v.within);
      count = e.bytes ∙ ap (λ (n : ℕ). 64 * (c.loop-j.j + n)) part;
      held = λ image told. e.held image (v.same ∙ told) (v.held image told);
      buffer = search rules;
      same = e.same ∙ v.same;
      steady = record { size = e.steady.size ∙ v.steady.size; later = omega (arith, e.steady.later, v.steady.later) };
    }
