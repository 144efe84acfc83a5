use Rattle.std.proofs.Common.{◌≡◌, ◌↔◌, ◌+◌, length, refl, sym, ap, subst, ◌∙◌, arith, IsTrue, Bool, Option}
use Rattle.std.specs.Prelude.{is_some}
use Rattle.fam_journal.specs.Legal.{FoundPending}
use Rattle.fam_settled.specs.declared.bytes.Filed.{Filed}
use Rattle.fam_settled.specs.Settled.{filed, settled_files}
use Rattle.fam_settled.proofs.Files.{length-files_of}
use Rattle.fam_settled.proofs.Choices.{untrue}
use Rattle.fam_judging.proofs.Counts.{found_count, found_more, found_none}
use Rattle.fam_judging.proofs.settled.log_may_find.Goals as goal

pub returns-then-n-count : goal.returns-then-n-count
returns-then-n-count c =
    let s = c.args.log.now in
    found_count c.args.n (length (settled_files s)) s.pending (omega (arith, c.if-n-count.true, c.count.ensures, length-files_of s.entries s.bytes))

pub returns-then-not-is_next : goal.returns-then-not-is_next
returns-then-not-is_next c =
    let s = c.args.log.now in
    let count = length-files_of s.entries s.bytes in
    found_none c.args.n (length (settled_files s)) s.pending
    (λ same. c.if-n-count.false (omega (arith, same, c.count.ensures, count)))
    (λ same. untrue (c.if-not-is_next.ensures.1 (omega (arith, same, c.count-2.ensures, count))))

pub returns : goal.returns
returns c =
    let s = c.args.log.now in
    let next : c.args.n ≡ length (settled_files s) + 1 =
    let more : c.args.n ≡ c.count-2.result + 1 = c.if-not-is_next.ensures.0 refl in omega (arith, more, c.count-2.ensures, length-files_of s.entries s.bytes) in
    subst (λ (b : Bool). IsTrue b ↔ FoundPending c.args.n (length (settled_files s)) (filed s.pending))
    (sym (c.is_some.ensures ∙ ap (λ (o : Option Filed). is_some o) c.pending.ensures))
    (found_more c.args.n (length (settled_files s)) s.pending next)
