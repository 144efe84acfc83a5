use Rattle.std.proofs.Common.{◌≡◌, None, ap, subst, sym, ◌∙◌}
use Rattle.fam_media.specs.States.{change, ShelfChange}
use Rattle.fam_journal.specs.Calls.{Refuses}
use Rattle.fam_journal.specs.CallRecords.{WorldCall}
use Rattle.fam_journal.specs.View.{WorldView}
use Rattle.fam_world.specs.Answers.{refusal_given}
use Rattle.fam_events.specs.WorldChange.{WorldChange, asking}
use Rattle.fam_events.specs.Begins.{AskUndone}
use Rattle.fam_events.specs.declared.asks.Asked.TheVariants.{Refused}
use Rattle.fam_journal.specs.Events.{mounts}
use Rattle.fam_events.proofs.Asking.{asked_as, may_not, some_cmd, some_mounts, undone}
use Rattle.fam_events.proofs.Resting.{not_begun}
use Rattle.fam_events.proofs.asks.ask.Goals as goal

pub returns-in-Err-clause-says : goal.returns-in-Err-clause-says
returns-in-Err-clause-says g c = λ told faults modelled fits.
    let shelf : ShelfChange = change g.S.Shelf.state c.args.shelf.now c.args.shelf.now in
    let a : WorldChange = asking c.args.lines c.args.world.now c.refuse.new.world told faults (g.S.Shelf.state c.args.shelf.now).files c.args.copied.now c.args.copied.now in
    asked_as c.args.name.now c.args.what shelf a c.refuse.result
    (WorldCall (Refuses c.args.name.now c.in-Err.cause) c.args.lines None c.args.world.now c.refuse.new.world)
    (c.refuse.new.world ≡ c.args.world.now) Refused (c.refuse.ensures.done c.args.lines) c.refuse.ensures.err c.refuse.ensures.undone
    (λ w. may_not c.args.name.now c.args.what c.args.lines c.args.world.now c.requires.shaped fits told modelled faults
    (g.S.Shelf.state c.args.shelf.now).files c.args.copied.now c.refuse.new.world c.in-Err.cause
    (sym (c.may_begin.ensures.first (some_cmd (mounts c.args.what)) (some_mounts (mounts c.args.what) ∙ sym c.mounts.ensures))
    ∙ ap refusal_given c.in-Err.is) w)
    (λ same. subst (λ (w : WorldView). AskUndone (asking c.args.lines c.args.world.now w told faults (g.S.Shelf.state c.args.shelf.now).files c.args.copied.now c.args.copied.now)) (sym same)
    (undone c.args.name.now c.args.what c.args.lines c.args.world.now c.requires.shaped fits told modelled faults (g.S.Shelf.state c.args.shelf.now).files c.args.copied.now c.args.copied.now))

pub returns-in-Err-clause-unstored : goal.returns-in-Err-clause-unstored
returns-in-Err-clause-unstored g c = not_begun c.refuse.result _ c.refuse.ensures.refused

pub read-requires-clause-free : goal.read-requires-clause-free
read-requires-clause-free g c = λ cmd same. sym (c.may_begin.ensures.first cmd (same ∙ sym c.mounts.ensures)) ∙ ap refusal_given c.in-Ok.is

pub returns-in-Err-clause-reads : goal.returns-in-Err-clause-reads
returns-in-Err-clause-reads g c = not_begun c.refuse.result _ c.refuse.ensures.refused
