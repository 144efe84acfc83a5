use Rattle.std.proofs.Common.{length, sym, refl, arith}
use Rattle.std.proofs.lemmas.Option.{slice_get_read}
use Rattle.fam_lines.specs.Lines.{answer_of}
use Rattle.fam_judging.proofs.Goings.{on_ok}
use Rattle.fam_judging.proofs.Replying.{idle_pushed, lefts_pushed, no_fault, tells_running}
use Rattle.fam_judging.proofs.replies.reply.Goals as goal

pub returns-in_default : goal.returns-in_default
returns-in_default c start has =
    let r = no_fault (answer_of c.args.answer.now) c.requires.replies in
    idle_pushed start c.args.given.now c.args.hosts.now c.args.candidate.now c.args.at c.args.answer.now r.0 r.1 (sym c.in_default.ensures.is) c.args.out.now.items

pub answer_lefts-requires-clause-told : goal.answer_lefts-requires-clause-told
answer_lefts-requires-clause-told c = tells_running c.args.hosts.now c.args.at c.in-Some.cmd.now c.requires.told c.in-Some.ensures.is

pub returns : goal.returns
returns c start has =
    let r = no_fault (answer_of c.args.answer.now) c.requires.replies in
    let hosts = c.args.hosts.now in
    let tracks = c.args.candidate.now.tracks.items in
    let seen_is = slice_get_read hosts.seen.items (length hosts.seen.items) c.args.at c.index-seen.result.now refl c.in-Some.ensures.within c.index-seen.ensures in
    let track_is = slice_get_read tracks (length tracks) c.args.at c.index-track.result.now refl (omega (arith, c.in-Some.ensures.within, c.requires.candidate)) c.index-track.ensures in
    on_ok c.put_all.result _ _
    (lefts_pushed start c.args.given.now hosts c.args.candidate.now c.args.at c.index-seen.result.now c.in-Some.cmd.now c.index-track.result.now c.in-Some.ensures.is c.requires.candidate
    seen_is track_is has r.0 c.in_ok-lefts.lefts (c.in_ok-lefts.ensures r.0 r.1) c.args.answer.now r.1 c.args.out.now.items c.put_all.new.out.items)
    c.put_all.ensures
