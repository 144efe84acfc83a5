use Rattle.std.proofs.Common.{◌≡◌, ℕ, refl, subst, sym}
use Rattle.fam_media.specs.States.{change, ShelfChange}
use Rattle.fam_journal.specs.View.{WorldView}
use Rattle.fam_sources.specs.declared.sourced.Sourced.{Sourced}
use Rattle.fam_sources.specs.Sourced.{IsSourced}
use Rattle.fam_events.specs.WorldChange.{WorldChange, asking}
use Rattle.fam_events.specs.Begins.{AskUndone}
use Rattle.fam_events.specs.Last.{AsksToRead}
use Rattle.fam_events.specs.declared.asks.Asked.TheVariants.{Begun, Refused}
use Rattle.fam_journal.specs.Events.{mounts}
use Rattle.fam_journal.proofs.Shapes.EventRows.{mounts_asked}
use Rattle.fam_events.proofs.Asking.{asked_as, begun, ended, ready_of, some_cmd, some_mounts, undone, unfit, unfit_of}
use Rattle.fam_events.proofs.Resting.{asked_reads, begun_reading, begun_so, not_begun}
use Rattle.fam_events.proofs.asks.read.Goals as goal

pub returns-in_default-clause-says : goal.returns-in_default-clause-says
returns-in_default-clause-says g c = λ told faults modelled fits.
    undone c.args.name.now c.args.what c.args.lines c.args.world.now c.requires.shaped fits told modelled faults (g.S.Shelf.state c.args.shelf.now).files c.args.copied.now c.args.copied.now

pub start-requires-clause-free : goal.start-requires-clause-free
start-requires-clause-free g c =
    let shelf : ShelfChange = change g.S.Shelf.state c.args.shelf.now c.resolve.new.shelf in
    let now : ℕ = c.in-Ok.resolved.copied in
    let ready = ready_of shelf c.args.copied.now c.args.what now c.in-Ok.resolved.sourced c.in-Ready.cmd _ c.in-Ready.is c.in-Ready.cmd-is c.in-Ok.ensures.says in
    c.requires.free _ (sym (mounts_asked c.args.what _ ready.shape))

pub returns-in-Ready-clause-says : goal.returns-in-Ready-clause-says
returns-in-Ready-clause-says g c = λ told faults modelled fits.
    let shelf : ShelfChange = change g.S.Shelf.state c.args.shelf.now c.resolve.new.shelf in
    let now : ℕ = c.in-Ok.resolved.copied in
    let a : WorldChange = asking c.args.lines c.args.world.now c.start.new.world told faults (g.S.Shelf.state c.args.shelf.now).files c.args.copied.now now in
    let ready = ready_of shelf c.args.copied.now c.args.what now c.in-Ok.resolved.sourced c.in-Ready.cmd _ c.in-Ready.is c.in-Ready.cmd-is c.in-Ok.ensures.says in
    asked_as c.args.name.now c.args.what shelf a c.start.result _ (c.start.new.world ≡ c.args.world.now) Begun c.start.ensures.done c.start.ensures.err c.start.ensures.undone
    (λ w. begun c.args.name.now c.args.what c.args.lines c.args.world.now c.requires.shaped fits told modelled faults
    (g.S.Shelf.state c.args.shelf.now).files c.args.copied.now
    (c.requires.free (some_cmd (mounts c.args.what)) (some_mounts (mounts c.args.what))) _ c.start.ensures.command c.start.new.world shelf now
    refl ready w)
    (λ same. subst (λ (w : WorldView). AskUndone (asking c.args.lines c.args.world.now w told faults (g.S.Shelf.state c.args.shelf.now).files c.args.copied.now now)) (sym same)
    (undone c.args.name.now c.args.what c.args.lines c.args.world.now c.requires.shaped fits told modelled faults (g.S.Shelf.state c.args.shelf.now).files c.args.copied.now now))

pub returns-in-Unfit-clause-says : goal.returns-in-Unfit-clause-says
returns-in-Unfit-clause-says g c = λ told faults modelled fits.
    let shelf : ShelfChange = change g.S.Shelf.state c.args.shelf.now c.resolve.new.shelf in
    let now : ℕ = c.in-Ok.resolved.copied in
    let a : WorldChange = asking c.args.lines c.args.world.now c.refuse.new.world told faults (g.S.Shelf.state c.args.shelf.now).files c.args.copied.now now in
    let none = unfit_of shelf c.args.copied.now c.args.what now c.in-Ok.resolved.sourced c.in-Unfit.cause _ c.in-Unfit.is c.in-Unfit.cause-is c.in-Ok.ensures.says in
    asked_as c.args.name.now c.args.what shelf a c.refuse.result _ (c.refuse.new.world ≡ c.args.world.now) Refused (c.refuse.ensures.done c.args.lines) c.refuse.ensures.err c.refuse.ensures.undone
    (λ w. unfit c.args.name.now c.args.what c.args.lines c.args.world.now c.requires.shaped fits told modelled faults
    (g.S.Shelf.state c.args.shelf.now).files c.args.copied.now
    (c.requires.free (some_cmd (mounts c.args.what)) (some_mounts (mounts c.args.what))) c.refuse.new.world _ shelf now refl none w)
    (λ same. subst (λ (w : WorldView). AskUndone (asking c.args.lines c.args.world.now w told faults (g.S.Shelf.state c.args.shelf.now).files c.args.copied.now now)) (sym same)
    (undone c.args.name.now c.args.what c.args.lines c.args.world.now c.requires.shaped fits told modelled faults (g.S.Shelf.state c.args.shelf.now).files c.args.copied.now now))

pub returns-in-Ended-clause-says : goal.returns-in-Ended-clause-says
returns-in-Ended-clause-says g c = λ told faults modelled fits.
    let shelf : ShelfChange = change g.S.Shelf.state c.args.shelf.now c.resolve.new.shelf in
    let over = subst (λ (z : Sourced). IsSourced shelf c.args.copied.now c.args.what c.in-Ok.resolved.copied z) c.in-Ended.is c.in-Ok.ensures.says in
    ended c.args.name.now c.args.what c.args.lines c.args.world.now c.requires.shaped fits told modelled faults
    (g.S.Shelf.state c.args.shelf.now).files c.args.copied.now
    (c.requires.free (some_cmd (mounts c.args.what)) (some_mounts (mounts c.args.what))) c.in-Ended.end shelf refl over

pub returns-in-Ready-clause-unstored : goal.returns-in-Ready-clause-unstored
returns-in-Ready-clause-unstored g c = begun_so c.start.result _ c.start.ensures.unstored

pub returns-in-Unfit-clause-unstored : goal.returns-in-Unfit-clause-unstored
returns-in-Unfit-clause-unstored g c = not_begun c.refuse.result _ c.refuse.ensures.refused

pub returns-in-Ready-clause-reads : goal.returns-in-Ready-clause-reads
returns-in-Ready-clause-reads g c =
    let shelf : ShelfChange = change g.S.Shelf.state c.args.shelf.now c.resolve.new.shelf in
    let ready = ready_of shelf c.args.copied.now c.args.what c.in-Ok.resolved.copied c.in-Ok.resolved.sourced c.in-Ready.cmd _ c.in-Ready.is c.in-Ready.cmd-is c.in-Ok.ensures.says in
    begun_reading c.start.result _ (AsksToRead c.args.what) _ c.start.ensures.reads (asked_reads c.args.what _ ready.shape)

pub returns-in-Unfit-clause-reads : goal.returns-in-Unfit-clause-reads
returns-in-Unfit-clause-reads g c = not_begun c.refuse.result _ c.refuse.ensures.refused
