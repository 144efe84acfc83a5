use Rattle.std.proofs.Common.{length, sym, ◌∙◌}
use Rattle.fam_settled.specs.Settled.{filed, settled_files}
use Rattle.fam_settled.proofs.Appends.{found_more, found_others, found_settled}
use Rattle.fam_settled.proofs.Choices.{refuted, shown}
use Rattle.fam_settled.proofs.Files.{length-files_of}
use Rattle.fam_settled.proofs.log.Log.found_fits.Goals as goal

pub returns-then-n-count : goal.returns-then-n-count
returns-then-n-count c =
    let s = c.args.self.now in
    shown (found_settled c.args.n (length (settled_files s)) (filed s.pending) (c.if-n-count.true ∙ c.count.ensures ∙ sym (length-files_of s.entries s.bytes)))

pub returns-in-Some : goal.returns-in-Some
returns-in-Some c =
    found_more c.args.self.now c.in-Some.field-0 c.args.n c.all.result (sym c.pending.ensures ∙ c.in-Some.is) (λ same. c.if-n-count.false (same ∙ sym c.count.ensures)) c.all.ensures

pub returns-in-None : goal.returns-in-None
returns-in-None c =
    let s = c.args.self.now in
    refuted (found_others c.args.n (length (settled_files s)) s.pending (sym c.pending.ensures ∙ c.in-None.is)
    (λ same. c.if-n-count.false (same ∙ length-files_of s.entries s.bytes ∙ sym c.count.ensures)))
