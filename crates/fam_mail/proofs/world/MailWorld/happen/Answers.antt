use Rattle.fam_media.specs.States.{change}
use Rattle.fam_mail.proofs.Happening.{runs_on}
use Rattle.fam_mail.proofs.world.MailWorld.happen.Goals as goal

pub returns-clause-runs : goal.returns-clause-runs
returns-clause-runs g c = λ start records events run.
    runs_on start records events c.args.event.now c.is_sound.ensures (change g.M.Media.state c.args.media.now c.do_event.new.media) c.args.self.now c.do_event.new.world run c.do_event.result
    c.do_event.ensures.says

pub returns-clause-counted : goal.returns-clause-counted
returns-clause-counted g c = c.do_event.ensures.counted
