use Rattle.fam_replay.proofs.replay.Replay.begin.Goals as goal

pub returns-clause-fits : goal.returns-clause-fits
returns-clause-fits c = c.begin_anew.ensures.fits c.args.gate
