use Rattle.std.proofs.Common.{◌≡◌, None, Ok, length, sym, ◌∙◌, arith}
use Rattle.fam_settled.specs.Settled.{settled_files}
use Rattle.fam_settled.specs.Told.{bare_cmd}
use Rattle.fam_plan.proofs.FirstEntries.{none_of_false}
use Rattle.fam_settled.proofs.Appends.{decided_told}
use Rattle.fam_settled.proofs.Choices.{both, refuted}
use Rattle.fam_settled.proofs.Files.{length-files_of}
use Rattle.fam_settled.proofs.log.Log.writes_fits.Goals as goal

pub returns-then-seq-count : goal.returns-then-seq-count
returns-then-seq-count c host uuid told =
    let s = c.args.self.now in
    refuted (λ allowed. c.if-seq-count.true (allowed.0 ∙ length-files_of s.entries s.bytes ∙ sym c.count.ensures))

pub returns : goal.returns
returns c host uuid told =
    let s = c.args.self.now in
    let none : s.pending ≡ None = sym c.pending.ensures ∙ none_of_false c.pending.result.now c.if-is_some.ensures in
    let same : c.args.seq ≡ length (settled_files s) = omega (arith, c.if-seq-count.false, c.count.ensures, length-files_of s.entries s.bytes) in
    let t = decided_told s host c.args.me (bare_cmd c.args.asked.now) uuid told (Ok c.args.entry.now) none in
    both c.names_so.result c.names_so.ensures (λ is. (same, t.0 is), λ allowed. t.1 allowed.1)
