use Rattle.fam_media.proofs.MediaLemmas.{untouched_torn}
use Rattle.fam_media.proofs.frail.FrailMedia.write.Goals as goal

pub returns-then-is_poisoned-clause-torn : goal.returns-then-is_poisoned-clause-torn
returns-then-is_poisoned-clause-torn g c =
    rw c.counted.ensures.same (rw c.counted.ensures.after (untouched_torn (g.M.Media.state c.args.self.now.media).image (g.met.M.Media.normal c.args.self.now.media) c.args.line.0 c.args.words.now))
