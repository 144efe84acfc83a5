use Rattle.std.proofs.Common.{ap}
use Rattle.fam_lines.specs.Lines.{answer_of}
use Rattle.fam_judging.proofs.Leaves.{ok_map, replied_leaves}
use Rattle.fam_judging.proofs.replies_plain.plain_lefts.Goals as goal

pub returns-in-Appended : goal.returns-in-Appended
returns-in-Appended c =
    ok_map c.appended.result _ _ c.appended.ensures (λ lefts is given same.
    replied_leaves c.args.given.now c.args.seen.now c.args.cmd.now c.args.settled.now c.args.track.now lefts (answer_of c.args.answer.now) _ given (ap answer_of c.in-Appended.is) same is)

pub returns-in-NotAppended : goal.returns-in-NotAppended
returns-in-NotAppended c =
    ok_map c.refused.result _ _ c.refused.ensures (λ lefts is given same.
    replied_leaves c.args.given.now c.args.seen.now c.args.cmd.now c.args.settled.now c.args.track.now lefts (answer_of c.args.answer.now) _ given (ap answer_of c.in-NotAppended.is) same is)

pub returns-in-Reports : goal.returns-in-Reports
returns-in-Reports c =
    ok_map c.reported.result _ _ c.reported.ensures (λ lefts is given same.
    replied_leaves c.args.given.now c.args.seen.now c.args.cmd.now c.args.settled.now c.args.track.now lefts (answer_of c.args.answer.now) _ given (ap answer_of c.in-Reports.is) same is)

pub returns-in-NoSuperblock : goal.returns-in-NoSuperblock
returns-in-NoSuperblock c =
    ok_map c.without_super.result _ _ c.without_super.ensures (λ lefts is given same.
    replied_leaves c.args.given.now c.args.seen.now c.args.cmd.now c.args.settled.now c.args.track.now lefts (answer_of c.args.answer.now) _ given (ap answer_of c.in-NoSuperblock.is) same is)

pub returns-in-BadHeader : goal.returns-in-BadHeader
returns-in-BadHeader c =
    ok_map c.with_bad_header.result _ _ c.with_bad_header.ensures (λ lefts is given same.
    replied_leaves c.args.given.now c.args.seen.now c.args.cmd.now c.args.settled.now c.args.track.now lefts (answer_of c.args.answer.now) _ given (ap answer_of c.in-BadHeader.is) same is)

pub returns-in-BadSlot : goal.returns-in-BadSlot
returns-in-BadSlot c =
    ok_map c.with_bad_slot.result _ _ c.with_bad_slot.ensures (λ lefts is given same.
    replied_leaves c.args.given.now c.args.seen.now c.args.cmd.now c.args.settled.now c.args.track.now lefts (answer_of c.args.answer.now) _ given (ap answer_of c.in-BadSlot.is) same is)
