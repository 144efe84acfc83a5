use Rattle.std.proofs.Common.{◌≡◌, drop, length, take}
use Rattle.fam_dup.specs.Copies.{AreAlike, copying, copying_from}
use Rattle.fam_dup.proofs.copies.plan_copies.Given as goal

-- the entries so far were copied
abbrev pub invariant-loop-seq : goal.invariant-loop-seq
invariant-loop-seq l = record {
  told : copying l.params l.source.entries ≡ copying_from l.params (drop l.seq l.source.entries) l.copies.entries;
  count : length l.copies.entries ≡ l.seq;
  alike : AreAlike (take l.seq l.source.entries) l.copies.entries;
  params : l.copies.params ≡ l.params;
}
