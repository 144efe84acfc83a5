use Rattle.std.proofs.Common.{ap, le_refl, refl, subst, sym}
use Rattle.fam_media.specs.States.{change, ShelfChange}
use Rattle.fam_journal.specs.declared.event.Event.{Event}
use Rattle.fam_journal.specs.declared.event.Event.TheVariants as event
use Rattle.fam_journal.specs.Calls as call
use Rattle.fam_machine.specs.HostMoves as how
use Rattle.fam_events.specs.WorldChange.{WorldChange, world_change}
use Rattle.fam_events.specs.Happens.{EventSays}
use Rattle.fam_events.specs.Rested.{IsRun}
use Rattle.fam_events.specs.Untouched.{IsUntouchedBy}
use Rattle.fam_events.proofs.Events.{event_says, evict_call, fetch_call, finish_call, halt_call, host_call, leak_call, mkfs_call, stop_call, umount_call}
use Rattle.fam_events.proofs.doing.happen.Goals as goal

pub returns-in-Host-clause-says : goal.returns-in-Host-clause-says
returns-in-Host-clause-says g c =
    let shelf : ShelfChange = change g.S.Shelf.state c.args.shelf.now c.args.shelf.now in
    let a : WorldChange = world_change g.M.Media.size g.M.Media.state c.args.media.now c.args.media.now c.args.world.now c.declare.new.world
    (g.S.Shelf.state c.args.shelf.now).files c.args.copied.now c.args.copied.now in
    subst (λ (e : Event). EventSays e shelf a c.declare.result) (sym c.in-Host.is)
    (event_says (event.Host c.in-Host.name c.in-Host.uuid) (call.Declares c.in-Host.name c.in-Host.uuid) shelf a
    (host_call c.in-Host.name c.in-Host.uuid) refl c.declare.result
    (c.declare.ensures.says (g.M.Media.size c.args.media.now) (g.M.Media.state c.args.media.now).image (g.M.Media.state c.args.media.now).faults
    (g.S.Shelf.state c.args.shelf.now).files c.args.copied.now (λ image is. g.met.M.Media.modelled c.args.media.now image is) c.requires.fits))

pub returns-in-Mkfs-clause-says : goal.returns-in-Mkfs-clause-says
returns-in-Mkfs-clause-says g c =
    let shelf : ShelfChange = change g.S.Shelf.state c.args.shelf.now c.args.shelf.now in
    let a : WorldChange = world_change g.M.Media.size g.M.Media.state c.args.media.now c.make.new.media c.args.world.now c.make.new.world
    (g.S.Shelf.state c.args.shelf.now).files c.args.copied.now c.args.copied.now in
    subst (λ (e : Event). EventSays e shelf a c.make.result) (sym c.in-Mkfs.is)
    (event_says (event.Mkfs c.in-Mkfs.name c.in-Mkfs.request) (call.Makes c.in-Mkfs.name c.in-Mkfs.request) shelf a
    (mkfs_call c.in-Mkfs.name c.in-Mkfs.request) refl
    c.make.result (c.make.ensures.says (g.S.Shelf.state c.args.shelf.now).files c.args.copied.now))

pub returns-in-Step-clause-says : goal.returns-in-Step-clause-says
returns-in-Step-clause-says g c =
    let shelf : ShelfChange = change g.S.Shelf.state c.args.shelf.now c.args.shelf.now in
    let a : WorldChange = world_change g.M.Media.size g.M.Media.state c.args.media.now c.step.new.media c.args.world.now c.step.new.world
    (g.S.Shelf.state c.args.shelf.now).files c.args.copied.now c.args.copied.now in
    subst (λ (e : Event). EventSays e shelf a c.step.result) (sym c.in-Step.is)
    (c.step.ensures.says shelf (g.S.Shelf.state c.args.shelf.now).files c.args.copied.now)

pub returns-in-Finish-clause-says : goal.returns-in-Finish-clause-says
returns-in-Finish-clause-says g c =
    let shelf : ShelfChange = change g.S.Shelf.state c.args.shelf.now c.args.shelf.now in
    let a : WorldChange = world_change g.M.Media.size g.M.Media.state c.args.media.now c.finish.new.media c.args.world.now c.finish.new.world
    (g.S.Shelf.state c.args.shelf.now).files c.args.copied.now c.args.copied.now in
    subst (λ (e : Event). EventSays e shelf a c.finish.result) (sym c.in-Finish.is)
    (event_says (event.Finish c.in-Finish.name) (call.Finishes c.in-Finish.name) shelf a (finish_call c.in-Finish.name) refl c.finish.result
    (c.finish.ensures.says (g.S.Shelf.state c.args.shelf.now).files c.args.copied.now))

pub returns-in-Stop-clause-says : goal.returns-in-Stop-clause-says
returns-in-Stop-clause-says g c =
    let shelf : ShelfChange = change g.S.Shelf.state c.args.shelf.now c.args.shelf.now in
    let a : WorldChange = world_change g.M.Media.size g.M.Media.state c.args.media.now c.args.media.now c.args.world.now c.stop.new.world
    (g.S.Shelf.state c.args.shelf.now).files c.args.copied.now c.args.copied.now in
    subst (λ (e : Event). EventSays e shelf a c.stop.result) (sym c.in-Stop.is)
    (event_says (event.Stop c.in-Stop.name) (call.Stops c.in-Stop.name) shelf a (stop_call c.in-Stop.name) refl c.stop.result
    (c.stop.ensures.says (g.M.Media.size c.args.media.now) (g.M.Media.state c.args.media.now).image (g.M.Media.state c.args.media.now).faults
    (g.S.Shelf.state c.args.shelf.now).files c.args.copied.now (λ image is. g.met.M.Media.modelled c.args.media.now image is) c.requires.fits))

pub returns-in-Halt-clause-says : goal.returns-in-Halt-clause-says
returns-in-Halt-clause-says g c =
    let shelf : ShelfChange = change g.S.Shelf.state c.args.shelf.now c.args.shelf.now in
    let a : WorldChange = world_change g.M.Media.size g.M.Media.state c.args.media.now c.args.media.now c.args.world.now c.halt.new.world
    (g.S.Shelf.state c.args.shelf.now).files c.args.copied.now c.args.copied.now in
    subst (λ (e : Event). EventSays e shelf a c.halt.result) (sym c.in-Halt.is)
    (event_says (event.Halt c.in-Halt.name) (call.Halts c.in-Halt.name) shelf a (halt_call c.in-Halt.name) refl c.halt.result
    (c.halt.ensures.says (g.M.Media.size c.args.media.now) (g.M.Media.state c.args.media.now).image (g.M.Media.state c.args.media.now).faults
    (g.S.Shelf.state c.args.shelf.now).files c.args.copied.now (λ image is. g.met.M.Media.modelled c.args.media.now image is) c.requires.fits))

pub returns-in-Umount-clause-says : goal.returns-in-Umount-clause-says
returns-in-Umount-clause-says g c =
    let shelf : ShelfChange = change g.S.Shelf.state c.args.shelf.now c.args.shelf.now in
    let a : WorldChange = world_change g.M.Media.size g.M.Media.state c.args.media.now c.args.media.now c.args.world.now c.umount.new.world
    (g.S.Shelf.state c.args.shelf.now).files c.args.copied.now c.args.copied.now in
    subst (λ (e : Event). EventSays e shelf a c.umount.result) (sym c.in-Umount.is)
    (event_says (event.Umount c.in-Umount.name) (call.Umounts c.in-Umount.name) shelf a (umount_call c.in-Umount.name) refl c.umount.result
    (c.umount.ensures.says (g.M.Media.size c.args.media.now) (g.M.Media.state c.args.media.now).image (g.M.Media.state c.args.media.now).faults
    (g.S.Shelf.state c.args.shelf.now).files c.args.copied.now (λ image is. g.met.M.Media.modelled c.args.media.now image is) c.requires.fits))

pub returns-in-Evict-clause-says : goal.returns-in-Evict-clause-says
returns-in-Evict-clause-says g c =
    let shelf : ShelfChange = change g.S.Shelf.state c.args.shelf.now c.args.shelf.now in
    let a : WorldChange = world_change g.M.Media.size g.M.Media.state c.args.media.now c.evict.new.media c.args.world.now c.evict.new.world
    (g.S.Shelf.state c.args.shelf.now).files c.args.copied.now c.args.copied.now in
    subst (λ (e : Event). EventSays e shelf a c.evict.result) (sym c.in-Evict.is)
    (event_says (event.Evict c.in-Evict.name c.in-Evict.line) (call.Moves c.in-Evict.name c.in-Evict.line.0 how.Evict) shelf a
    (evict_call c.in-Evict.name c.in-Evict.line) refl c.evict.result
    (c.evict.ensures.says (g.S.Shelf.state c.args.shelf.now).files c.args.copied.now))

pub returns-in-Leak-clause-says : goal.returns-in-Leak-clause-says
returns-in-Leak-clause-says g c =
    let shelf : ShelfChange = change g.S.Shelf.state c.args.shelf.now c.args.shelf.now in
    let a : WorldChange = world_change g.M.Media.size g.M.Media.state c.args.media.now c.leak.new.media c.args.world.now c.leak.new.world
    (g.S.Shelf.state c.args.shelf.now).files c.args.copied.now c.args.copied.now in
    subst (λ (e : Event). EventSays e shelf a c.leak.result) (sym c.in-Leak.is)
    (event_says (event.Leak c.in-Leak.name c.in-Leak.line c.in-Leak.mask) (call.Moves c.in-Leak.name c.in-Leak.line.0 (how.Leak c.in-Leak.mask.0))
    shelf a (leak_call c.in-Leak.name c.in-Leak.line c.in-Leak.mask) refl c.leak.result
    (c.leak.ensures.says (g.S.Shelf.state c.args.shelf.now).files c.args.copied.now))

pub returns-in-Fetch-clause-says : goal.returns-in-Fetch-clause-says
returns-in-Fetch-clause-says g c =
    let shelf : ShelfChange = change g.S.Shelf.state c.args.shelf.now c.args.shelf.now in
    let a : WorldChange = world_change g.M.Media.size g.M.Media.state c.args.media.now c.fetch.new.media c.args.world.now c.fetch.new.world
    (g.S.Shelf.state c.args.shelf.now).files c.args.copied.now c.args.copied.now in
    subst (λ (e : Event). EventSays e shelf a c.fetch.result) (sym c.in-Fetch.is)
    (event_says (event.Fetch c.in-Fetch.name c.in-Fetch.line c.in-Fetch.mask)
    (call.Moves c.in-Fetch.name c.in-Fetch.line.0 (how.Fetch c.in-Fetch.mask.0)) shelf a
    (fetch_call c.in-Fetch.name c.in-Fetch.line c.in-Fetch.mask) refl c.fetch.result
    (c.fetch.ensures.says (g.S.Shelf.state c.args.shelf.now).files c.args.copied.now))

pub returns-in-Host-clause-same : goal.returns-in-Host-clause-same
returns-in-Host-clause-same g c = λ run. absurd (subst IsRun c.in-Host.is run)

pub returns-in-Mkfs-clause-same : goal.returns-in-Mkfs-clause-same
returns-in-Mkfs-clause-same g c = λ run. absurd (subst IsRun c.in-Mkfs.is run)

pub returns-in-Begin-clause-same : goal.returns-in-Begin-clause-same
returns-in-Begin-clause-same g c = λ run. absurd (subst IsRun c.in-Begin.is run)

pub returns-in-Step-clause-same : goal.returns-in-Step-clause-same
returns-in-Step-clause-same g c = λ run. absurd (subst IsRun c.in-Step.is run)

pub returns-in-Finish-clause-same : goal.returns-in-Finish-clause-same
returns-in-Finish-clause-same g c = λ run. absurd (subst IsRun c.in-Finish.is run)

pub returns-in-Stop-clause-same : goal.returns-in-Stop-clause-same
returns-in-Stop-clause-same g c = λ run. absurd (subst IsRun c.in-Stop.is run)

pub returns-in-Halt-clause-same : goal.returns-in-Halt-clause-same
returns-in-Halt-clause-same g c = λ run. absurd (subst IsRun c.in-Halt.is run)

pub returns-in-Umount-clause-same : goal.returns-in-Umount-clause-same
returns-in-Umount-clause-same g c = λ run. absurd (subst IsRun c.in-Umount.is run)

pub returns-in-Evict-clause-same : goal.returns-in-Evict-clause-same
returns-in-Evict-clause-same g c = λ run. absurd (subst IsRun c.in-Evict.is run)

pub returns-in-Leak-clause-same : goal.returns-in-Leak-clause-same
returns-in-Leak-clause-same g c = λ run. absurd (subst IsRun c.in-Leak.is run)

pub returns-in-Fetch-clause-same : goal.returns-in-Fetch-clause-same
returns-in-Fetch-clause-same g c = λ run. absurd (subst IsRun c.in-Fetch.is run)

pub returns-in-Run-clause-same : goal.returns-in-Run-clause-same
returns-in-Run-clause-same g c = λ run. c.run.ensures.same

pub returns-in-Host-clause-untouched : goal.returns-in-Host-clause-untouched
returns-in-Host-clause-untouched g c =
    subst (λ (e : Event). IsUntouchedBy e (g.M.Media.size c.args.media.now) c.args.world.now c.args.media.now c.args.media.now) (sym c.in-Host.is) refl

pub returns-in-Host-clause-size : goal.returns-in-Host-clause-size
returns-in-Host-clause-size g c = refl

pub returns-in-Host-clause-steady : goal.returns-in-Host-clause-steady
returns-in-Host-clause-steady g c = record { same = refl; faults_later = le_refl _; shorts_later = le_refl _ }

pub returns-in-Mkfs-clause-untouched : goal.returns-in-Mkfs-clause-untouched
returns-in-Mkfs-clause-untouched g c =
    subst (λ (e : Event). IsUntouchedBy e (g.M.Media.size c.args.media.now) c.args.world.now c.args.media.now c.make.new.media) (sym c.in-Mkfs.is) c.make.ensures.untouched

pub returns-in-Mkfs-clause-size : goal.returns-in-Mkfs-clause-size
returns-in-Mkfs-clause-size g c = c.make.ensures.size

pub returns-in-Mkfs-clause-steady : goal.returns-in-Mkfs-clause-steady
returns-in-Mkfs-clause-steady g c = record { same = refl; faults_later = le_refl _; shorts_later = le_refl _ }

pub returns-in-Begin-clause-untouched : goal.returns-in-Begin-clause-untouched
returns-in-Begin-clause-untouched g c =
    subst (λ (e : Event). IsUntouchedBy e (g.M.Media.size c.args.media.now) c.args.world.now c.args.media.now c.begin.new.media) (sym c.in-Begin.is) c.begin.ensures.same

pub returns-in-Begin-clause-size : goal.returns-in-Begin-clause-size
returns-in-Begin-clause-size g c = ap g.M.Media.size c.begin.ensures.same

pub returns-in-Begin-clause-steady : goal.returns-in-Begin-clause-steady
returns-in-Begin-clause-steady g c = c.begin.ensures.steady

pub returns-in-Run-clause-size : goal.returns-in-Run-clause-size
returns-in-Run-clause-size g c = c.run.ensures.size

pub returns-in-Run-clause-steady : goal.returns-in-Run-clause-steady
returns-in-Run-clause-steady g c = c.run.ensures.steady

pub returns-in-Step-clause-untouched : goal.returns-in-Step-clause-untouched
returns-in-Step-clause-untouched g c =
    subst (λ (e : Event). IsUntouchedBy e (g.M.Media.size c.args.media.now) c.args.world.now c.args.media.now c.step.new.media) (sym c.in-Step.is) c.step.ensures.untouched

pub returns-in-Step-clause-size : goal.returns-in-Step-clause-size
returns-in-Step-clause-size g c = c.step.ensures.size

pub returns-in-Step-clause-steady : goal.returns-in-Step-clause-steady
returns-in-Step-clause-steady g c = record { same = refl; faults_later = le_refl _; shorts_later = le_refl _ }

pub returns-in-Finish-clause-untouched : goal.returns-in-Finish-clause-untouched
returns-in-Finish-clause-untouched g c =
    subst (λ (e : Event). IsUntouchedBy e (g.M.Media.size c.args.media.now) c.args.world.now c.args.media.now c.finish.new.media) (sym c.in-Finish.is) c.finish.ensures.untouched

pub returns-in-Finish-clause-size : goal.returns-in-Finish-clause-size
returns-in-Finish-clause-size g c = c.finish.ensures.size

pub returns-in-Finish-clause-steady : goal.returns-in-Finish-clause-steady
returns-in-Finish-clause-steady g c = record { same = refl; faults_later = le_refl _; shorts_later = le_refl _ }

pub returns-in-Stop-clause-untouched : goal.returns-in-Stop-clause-untouched
returns-in-Stop-clause-untouched g c =
    subst (λ (e : Event). IsUntouchedBy e (g.M.Media.size c.args.media.now) c.args.world.now c.args.media.now c.args.media.now) (sym c.in-Stop.is) refl

pub returns-in-Stop-clause-size : goal.returns-in-Stop-clause-size
returns-in-Stop-clause-size g c = refl

pub returns-in-Stop-clause-steady : goal.returns-in-Stop-clause-steady
returns-in-Stop-clause-steady g c = record { same = refl; faults_later = le_refl _; shorts_later = le_refl _ }

pub returns-in-Halt-clause-untouched : goal.returns-in-Halt-clause-untouched
returns-in-Halt-clause-untouched g c =
    subst (λ (e : Event). IsUntouchedBy e (g.M.Media.size c.args.media.now) c.args.world.now c.args.media.now c.args.media.now) (sym c.in-Halt.is) refl

pub returns-in-Halt-clause-size : goal.returns-in-Halt-clause-size
returns-in-Halt-clause-size g c = refl

pub returns-in-Halt-clause-steady : goal.returns-in-Halt-clause-steady
returns-in-Halt-clause-steady g c = record { same = refl; faults_later = le_refl _; shorts_later = le_refl _ }

pub returns-in-Umount-clause-untouched : goal.returns-in-Umount-clause-untouched
returns-in-Umount-clause-untouched g c =
    subst (λ (e : Event). IsUntouchedBy e (g.M.Media.size c.args.media.now) c.args.world.now c.args.media.now c.args.media.now) (sym c.in-Umount.is) refl

pub returns-in-Umount-clause-size : goal.returns-in-Umount-clause-size
returns-in-Umount-clause-size g c = refl

pub returns-in-Umount-clause-steady : goal.returns-in-Umount-clause-steady
returns-in-Umount-clause-steady g c = record { same = refl; faults_later = le_refl _; shorts_later = le_refl _ }

pub returns-in-Evict-clause-untouched : goal.returns-in-Evict-clause-untouched
returns-in-Evict-clause-untouched g c =
    subst (λ (e : Event). IsUntouchedBy e (g.M.Media.size c.args.media.now) c.args.world.now c.args.media.now c.evict.new.media) (sym c.in-Evict.is) c.evict.ensures.untouched

pub returns-in-Evict-clause-size : goal.returns-in-Evict-clause-size
returns-in-Evict-clause-size g c = c.evict.ensures.size

pub returns-in-Evict-clause-steady : goal.returns-in-Evict-clause-steady
returns-in-Evict-clause-steady g c = record { same = refl; faults_later = le_refl _; shorts_later = le_refl _ }

pub returns-in-Leak-clause-untouched : goal.returns-in-Leak-clause-untouched
returns-in-Leak-clause-untouched g c =
    subst (λ (e : Event). IsUntouchedBy e (g.M.Media.size c.args.media.now) c.args.world.now c.args.media.now c.leak.new.media) (sym c.in-Leak.is) c.leak.ensures.untouched

pub returns-in-Leak-clause-size : goal.returns-in-Leak-clause-size
returns-in-Leak-clause-size g c = c.leak.ensures.size

pub returns-in-Leak-clause-steady : goal.returns-in-Leak-clause-steady
returns-in-Leak-clause-steady g c = record { same = refl; faults_later = le_refl _; shorts_later = le_refl _ }

pub returns-in-Fetch-clause-untouched : goal.returns-in-Fetch-clause-untouched
returns-in-Fetch-clause-untouched g c =
    subst (λ (e : Event). IsUntouchedBy e (g.M.Media.size c.args.media.now) c.args.world.now c.args.media.now c.fetch.new.media) (sym c.in-Fetch.is) c.fetch.ensures.untouched

pub returns-in-Fetch-clause-size : goal.returns-in-Fetch-clause-size
returns-in-Fetch-clause-size g c = c.fetch.ensures.size

pub returns-in-Fetch-clause-steady : goal.returns-in-Fetch-clause-steady
returns-in-Fetch-clause-steady g c = record { same = refl; faults_later = le_refl _; shorts_later = le_refl _ }
