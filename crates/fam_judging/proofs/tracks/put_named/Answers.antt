use Rattle.std.proofs.Common.{length, refl, arith}
use Rattle.std.proofs.lemmas.Option.{slice_get_read}
use Rattle.fam_judging.specs.After.{named_track}
use Rattle.fam_judging.proofs.Keeping.{no_place, put}
use Rattle.fam_judging.proofs.tracks.put_named.Goals as goal

pub returns-then-at-len : goal.returns-then-at-len
returns-then-at-len c =
    let items = c.args.tracks.now.items in
    let at_is = slice_get_read items (length items) c.args.at c.index_mut-track.result.now refl (omega (arith, c.if-at-len.true, c.len.ensures)) c.index_mut-track.ensures.value in
    put c.args.at (named_track c.args.seq c.args.entry.now) items _ _ at_is refl

pub returns-else-at-len : goal.returns-else-at-len
returns-else-at-len c = no_place c.args.at _ c.args.tracks.now.items (omega (arith, c.if-at-len.false, c.len.ensures))
