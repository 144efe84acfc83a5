use Rattle.std.proofs.Common.{[], sym, subst, take, drop, length, ℕ}
use Rattle.std.proofs.lemmas.Result.{IfErr-weaker, on_ok_weaker}
use Rattle.fam_plan.specs.State.{IsAdded}
use Rattle.fam_dup.specs.Copies.{copying_from}
use Rattle.fam_dup.specs.Findings.{FaultClass, Names, copies_or}
use Rattle.fam_dup.proofs.Copying.{alike_on, goes_on, stops_here}
use Rattle.fam_dup.proofs.Following.{as_copy}
use Rattle.fam_dup.proofs.copies.copy_next.Goals as goal

pub copy_entry-requires : goal.copy_entry-requires
copy_entry-requires c =
    let source = c.args.source.now in
    let e = c.entry_at-entry.result in
    record {
      params = source.params;
      before = take (length c.args.copies.now.entries) source.entries;
      alike = c.requires.alike;
      added = subst (λ (n : ℕ). IsAdded source.params (take n source.entries) e) c.requires.next (c.each_entry_joins.ensures.added c.args.seq e c.entry_at-entry.ensures.at);
    }

pub returns-in-Ok-clause-told : goal.returns-in-Ok-clause-told
returns-in-Ok-clause-told c =
    on_ok_weaker c.add_copy.result
    (λ added. goes_on c.args.copies.now.params c.args.source.now.entries c.args.copies.now.entries c.args.seq c.entry_at-entry.result c.requires.next
    c.entry_at-entry.ensures.at c.in-Ok.copy c.add_copy.new.copies.entries added c.in-Ok.ensures.value)
    c.add_copy.ensures.added

pub returns-in-Ok-clause-alike : goal.returns-in-Ok-clause-alike
returns-in-Ok-clause-alike c =
    let source = c.args.source.now in
    let copies = c.args.copies.now in
    let e = c.entry_at-entry.result in
    let added = c.each_entry_joins.ensures.added c.args.seq e c.entry_at-entry.ensures.at in
    on_ok_weaker c.add_copy.result
    (λ is. alike_on copies.params source.entries copies.entries c.args.seq e c.requires.next c.entry_at-entry.ensures.at c.in-Ok.copy c.add_copy.new.copies.entries is c.requires.alike
    (as_copy source.params copies.params c.each_entry_joins.ensures.params c.each_entry_joins-2.ensures.params [] copies.entries e c.in-Ok.copy added.proper c.in-Ok.ensures.value))
    c.add_copy.ensures.added

pub returns-in-Ok-clause-fault : goal.returns-in-Ok-clause-fault
returns-in-Ok-clause-fault c =
    IfErr-weaker c.add_copy.result _ _
    (λ fault full all. subst (λ (k : FaultClass).
    Names k (copies_or all (copying_from c.args.copies.now.params (drop (length c.args.copies.now.entries) c.args.source.now.entries)
    c.args.copies.now.entries))) (sym full) tt)
    c.add_copy.ensures.full

pub returns-in-Err-clause-fault : goal.returns-in-Err-clause-fault
returns-in-Err-clause-fault c = λ all.
    stops_here c.args.copies.now.params c.args.source.now.entries c.args.copies.now.entries c.args.seq c.entry_at-entry.result c.requires.next c.entry_at-entry.ensures.at all _ c.in-Err.ensures.value
