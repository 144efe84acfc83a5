use Rattle.std.proofs.Common.{◌≡◌, ◌+◌, drop}
use Rattle.std.specs.List.{fold}
use Rattle.fam_fsck.specs.Merge.{with_extra}
use Rattle.fam_fsck.proofs.merge.pass_all.Given as goal

abbrev pub invariant-loop-listed : goal.invariant-loop-listed
invariant-loop-listed l = record {
  counted : fold with_extra l.checked (drop l.listed-index l.listing) ≡ fold with_extra l.initial.checked l.listing;
  room : l.checked.extra ≡ l.initial.checked.extra + l.listed-index;
}
