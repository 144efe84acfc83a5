use Rattle.std.proofs.Common.{refl, sym, subst, ap}
use Rattle.std.specs.Prelude.{Result, true, false}
use Rattle.fam_base.specs.declared.line.OutOfMemory.{OutOfMemory}
use Rattle.fam_machine.specs.HostMoves as how
use Rattle.fam_media.specs.States.{MediaChange, change}
use Rattle.fam_mail.specs.declared.event.MailEvent.{MailEvent}
use Rattle.fam_mail.specs.declared.event.MailEvent.TheVariants as event
use Rattle.fam_mail.specs.Happens.{MailEventSays}
use Rattle.fam_mail.proofs.EventRows.{begins_says, declared_says, finish_says, halts_says, moves_says, steps_says, stops_says}
use Rattle.fam_mail.proofs.Fitting.{begins_fits, declares_fits, halts_fits, stops_fits}
use Rattle.std.specs.FinMap as finmap
use Rattle.std.specs.Prelude.{None}
use Rattle.fam_mail.specs.Calls.{no_refusal, no_task_refusal}
use Rattle.fam_mail.specs.declared.note.MailNote.TheVariants as note
use Rattle.fam_mail.proofs.Counting.{begun_counted, changed_counted, declared_counted, quiet_idle, quiet_none}
use Rattle.fam_mail.proofs.world.events.do_event.Goals as goal

pub returns-in-Writer-clause-says : goal.returns-in-Writer-clause-says
returns-in-Writer-clause-says g c =
    let told : MediaChange = change g.M.Media.state c.args.media.now c.args.media.now in
    subst (λ (e : MailEvent). MailEventSays e told c.args.world.now c.host.new.self c.noted.result) (sym c.in-Writer.is)
    (subst (λ (r : Result (Unit {0}) OutOfMemory). MailEventSays (event.Writer c.in-Writer.name) told c.args.world.now c.host.new.self r) (sym c.noted.ensures)
    (declared_says c.in-Writer.name told c.args.world.now c.host.new.self refl true c.host.result c.host.ensures.answered c.host.ensures.err))

pub returns-in-Writer-clause-fits : goal.returns-in-Writer-clause-fits
returns-in-Writer-clause-fits g c =
    declares_fits (g.M.Media.size c.args.media.now) c.in-Writer.name c.args.world.now c.host.new.self c.requires.fits true c.host.result c.host.ensures.answered c.host.ensures.err

pub returns-in-Reader-clause-says : goal.returns-in-Reader-clause-says
returns-in-Reader-clause-says g c =
    let told : MediaChange = change g.M.Media.state c.args.media.now c.args.media.now in
    subst (λ (e : MailEvent). MailEventSays e told c.args.world.now c.host-in-Reader.new.self c.noted-in-Reader.result) (sym c.in-Reader.is)
    (subst (λ (r : Result (Unit {0}) OutOfMemory). MailEventSays (event.Reader c.in-Reader.name) told c.args.world.now c.host-in-Reader.new.self r) (sym c.noted-in-Reader.ensures)
    (declared_says c.in-Reader.name told c.args.world.now c.host-in-Reader.new.self refl false c.host-in-Reader.result c.host-in-Reader.ensures.answered c.host-in-Reader.ensures.err))

pub returns-in-Reader-clause-fits : goal.returns-in-Reader-clause-fits
returns-in-Reader-clause-fits g c =
    declares_fits (g.M.Media.size c.args.media.now) c.in-Reader.name c.args.world.now c.host-in-Reader.new.self c.requires.fits false c.host-in-Reader.result c.host-in-Reader.ensures.answered
    c.host-in-Reader.ensures.err

pub returns-in-Begin-clause-says : goal.returns-in-Begin-clause-says
returns-in-Begin-clause-says g c =
    let told : MediaChange = change g.M.Media.state c.args.media.now c.args.media.now in
    subst (λ (e : MailEvent). MailEventSays e told c.args.world.now c.begin.new.self c.noted-in-Begin.result) (sym c.in-Begin.is)
    (subst (λ (r : Result (Unit {0}) OutOfMemory). MailEventSays (event.Begin c.in-Begin.name c.in-Begin.ask) told c.args.world.now c.begin.new.self r) (sym c.noted-in-Begin.ensures)
    (begins_says c.in-Begin.name told c.args.world.now c.begin.new.self refl c.in-Begin.ask c.begin.result c.begin.ensures.answered c.begin.ensures.err))

pub returns-in-Begin-clause-fits : goal.returns-in-Begin-clause-fits
returns-in-Begin-clause-fits g c =
    begins_fits (g.M.Media.size c.args.media.now) c.in-Begin.name c.args.world.now c.begin.new.self c.requires.fits c.in-Begin.ask c.begin.result c.begin.ensures.answered c.begin.ensures.err

pub returns-in-Run-clause-says : goal.returns-in-Run-clause-says
returns-in-Run-clause-says g c =
    let told : MediaChange = change g.M.Media.state c.args.media.now c.run.new.media in
    subst (λ (e : MailEvent). MailEventSays e told c.args.world.now c.run.new.world c.run.result) (sym c.in-Run.is) c.run.ensures.says

pub returns-in-Step-clause-says : goal.returns-in-Step-clause-says
returns-in-Step-clause-says g c =
    let told : MediaChange = change g.M.Media.state c.args.media.now c.steps.new.media in
    subst (λ (e : MailEvent). MailEventSays e told c.args.world.now c.steps.new.self c.noted-in-Step.result) (sym c.in-Step.is)
    (subst (λ (r : Result (Unit {0}) OutOfMemory). MailEventSays (event.Step c.in-Step.name c.in-Step.count) told c.args.world.now c.steps.new.self r) (sym c.noted-in-Step.ensures)
    (steps_says (g.M.Media.size c.args.media.now) c.in-Step.name told c.args.world.now c.steps.new.self c.in-Step.count c.steps.result c.steps.ensures.ends))

pub returns-in-Finish-clause-says : goal.returns-in-Finish-clause-says
returns-in-Finish-clause-says g c =
    let told : MediaChange = change g.M.Media.state c.args.media.now c.finish.new.media in
    subst (λ (e : MailEvent). MailEventSays e told c.args.world.now c.finish.new.self c.noted-in-Finish.result) (sym c.in-Finish.is)
    (subst (λ (r : Result (Unit {0}) OutOfMemory). MailEventSays (event.Finish c.in-Finish.name) told c.args.world.now c.finish.new.self r) (sym c.noted-in-Finish.ensures)
    (finish_says (g.M.Media.size c.args.media.now) c.in-Finish.name told c.args.world.now c.finish.new.self c.finish.result c.finish.ensures.ends))

pub returns-in-Stop-clause-says : goal.returns-in-Stop-clause-says
returns-in-Stop-clause-says g c =
    let told : MediaChange = change g.M.Media.state c.args.media.now c.args.media.now in
    subst (λ (e : MailEvent). MailEventSays e told c.args.world.now c.stop.new.self c.noted-in-Stop.result) (sym c.in-Stop.is)
    (subst (λ (r : Result (Unit {0}) OutOfMemory). MailEventSays (event.Stop c.in-Stop.name) told c.args.world.now c.stop.new.self r) (sym c.noted-in-Stop.ensures)
    (stops_says c.in-Stop.name told c.args.world.now c.stop.new.self refl c.stop.result c.stop.ensures.answered c.stop.ensures.err))

pub returns-in-Stop-clause-fits : goal.returns-in-Stop-clause-fits
returns-in-Stop-clause-fits g c = stops_fits (g.M.Media.size c.args.media.now) c.in-Stop.name c.args.world.now c.stop.new.self c.requires.fits c.stop.result c.stop.ensures.answered c.stop.ensures.err

pub returns-in-Halt-clause-says : goal.returns-in-Halt-clause-says
returns-in-Halt-clause-says g c =
    let told : MediaChange = change g.M.Media.state c.args.media.now c.args.media.now in
    subst (λ (e : MailEvent). MailEventSays e told c.args.world.now c.halt.new.self c.noted-in-Halt.result) (sym c.in-Halt.is)
    (subst (λ (r : Result (Unit {0}) OutOfMemory). MailEventSays (event.Halt c.in-Halt.name) told c.args.world.now c.halt.new.self r) (sym c.noted-in-Halt.ensures)
    (halts_says c.in-Halt.name told c.args.world.now c.halt.new.self refl c.halt.result c.halt.ensures.answered c.halt.ensures.err))

pub returns-in-Halt-clause-fits : goal.returns-in-Halt-clause-fits
returns-in-Halt-clause-fits g c = halts_fits (g.M.Media.size c.args.media.now) c.in-Halt.name c.args.world.now c.halt.new.self c.requires.fits c.halt.result c.halt.ensures.answered c.halt.ensures.err

pub returns-in-Evict-clause-says : goal.returns-in-Evict-clause-says
returns-in-Evict-clause-says g c =
    let told : MediaChange = change g.M.Media.state c.args.media.now c.evict.new.media in
    subst (λ (e : MailEvent). MailEventSays e told c.args.world.now c.evict.new.self c.noted-in-Evict.result) (sym c.in-Evict.is)
    (subst (λ (r : Result (Unit {0}) OutOfMemory). MailEventSays (event.Evict c.in-Evict.name c.in-Evict.line) told c.args.world.now c.evict.new.self r) (sym c.noted-in-Evict.ensures)
    (moves_says c.in-Evict.name c.in-Evict.line how.Evict told c.args.world.now c.evict.new.self c.evict.result c.evict.ensures.answered c.evict.ensures.err
    (λ e. ap g.M.Media.state (c.evict.ensures.undone e))))

pub returns-in-Leak-clause-says : goal.returns-in-Leak-clause-says
returns-in-Leak-clause-says g c =
    let told : MediaChange = change g.M.Media.state c.args.media.now c.leak.new.media in
    subst (λ (e : MailEvent). MailEventSays e told c.args.world.now c.leak.new.self c.noted-in-Leak.result) (sym c.in-Leak.is)
    (subst (λ (r : Result (Unit {0}) OutOfMemory). MailEventSays (event.Leak c.in-Leak.name c.in-Leak.line c.in-Leak.mask) told c.args.world.now c.leak.new.self r) (sym c.noted-in-Leak.ensures)
    (moves_says c.in-Leak.name c.in-Leak.line (how.Leak c.in-Leak.mask.0) told c.args.world.now c.leak.new.self c.leak.result c.leak.ensures.answered c.leak.ensures.err
    (λ e. ap g.M.Media.state (c.leak.ensures.undone e))))

pub returns-in-Fetch-clause-says : goal.returns-in-Fetch-clause-says
returns-in-Fetch-clause-says g c =
    let told : MediaChange = change g.M.Media.state c.args.media.now c.fetch.new.media in
    subst (λ (e : MailEvent). MailEventSays e told c.args.world.now c.fetch.new.self c.noted-in-Fetch.result) (sym c.in-Fetch.is)
    (subst (λ (r : Result (Unit {0}) OutOfMemory). MailEventSays (event.Fetch c.in-Fetch.name c.in-Fetch.line c.in-Fetch.mask) told c.args.world.now c.fetch.new.self r) (sym c.noted-in-Fetch.ensures)
    (moves_says c.in-Fetch.name c.in-Fetch.line (how.Fetch c.in-Fetch.mask.0) told c.args.world.now c.fetch.new.self c.fetch.result c.fetch.ensures.answered c.fetch.ensures.err
    (λ e. ap g.M.Media.state (c.fetch.ensures.undone e))))

pub returns-in-Writer-clause-counted : goal.returns-in-Writer-clause-counted
returns-in-Writer-clause-counted g c exact = declared_counted c.in-Writer.name c.args.world.now c.host.new.self _ true c.host.result c.host.ensures.answered c.host.ensures.err

pub returns-in-Reader-clause-counted : goal.returns-in-Reader-clause-counted
returns-in-Reader-clause-counted g c exact = declared_counted c.in-Reader.name c.args.world.now c.host-in-Reader.new.self _ false
    c.host-in-Reader.result c.host-in-Reader.ensures.answered c.host-in-Reader.ensures.err

pub returns-in-Begin-clause-counted : goal.returns-in-Begin-clause-counted
returns-in-Begin-clause-counted g c exact = begun_counted c.in-Begin.name c.args.world.now c.begin.new.self _ c.in-Begin.ask c.begin.result c.begin.ensures.answered c.begin.ensures.err

pub returns-in-Stop-clause-counted : goal.returns-in-Stop-clause-counted
returns-in-Stop-clause-counted g c exact =
    changed_counted c.in-Stop.name c.args.world.now c.stop.new.self _ no_task_refusal quiet_idle (λ h. record h { task = None }) (note.Stop c.in-Stop.name) refl c.stop.result c.stop.ensures.answered
    c.stop.ensures.err

pub returns-in-Halt-clause-counted : goal.returns-in-Halt-clause-counted
returns-in-Halt-clause-counted g c exact =
    changed_counted c.in-Halt.name c.args.world.now c.halt.new.self _ no_refusal quiet_none (λ h. record h { cache = finmap.empty; task = None }) (note.Halt c.in-Halt.name) refl c.halt.result
    c.halt.ensures.answered c.halt.ensures.err

pub returns-in-Run-clause-counted : goal.returns-in-Run-clause-counted
returns-in-Run-clause-counted g c = c.run.ensures.counted

pub returns-in-Step-clause-counted : goal.returns-in-Step-clause-counted
returns-in-Step-clause-counted g c = c.steps.ensures.counted

pub returns-in-Finish-clause-counted : goal.returns-in-Finish-clause-counted
returns-in-Finish-clause-counted g c = c.finish.ensures.counted

pub returns-in-Evict-clause-counted : goal.returns-in-Evict-clause-counted
returns-in-Evict-clause-counted g c = c.evict.ensures.counted

pub returns-in-Leak-clause-counted : goal.returns-in-Leak-clause-counted
returns-in-Leak-clause-counted g c = c.leak.ensures.counted

pub returns-in-Fetch-clause-counted : goal.returns-in-Fetch-clause-counted
returns-in-Fetch-clause-counted g c = c.fetch.ensures.counted
