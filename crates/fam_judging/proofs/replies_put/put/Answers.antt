use Rattle.std.proofs.Common.{List, refl, ap, ◌∙◌}
use Rattle.fam_journal.specs.Members.{changed_at}
use Rattle.fam_judging.specs.declared.candidate.Track.{Track}
use Rattle.fam_judging.proofs.Goings.{on_ok}
use Rattle.fam_judging.proofs.replies_put.put.Goals as goal

pub returns : goal.returns
returns c =
    on_ok c.push.result _ _ (λ added. record {
      d = record { settled = c.args.left.settled; tracks = c.put_track.new.tracks };
      behind = record {
        settled = refl;
        tracks = c.put_track.ensures ∙ ap (λ (l : List Track). changed_at c.args.at (λ t. c.args.left.track) l) c.in_ok-tracks.ensures;
      };
      added = added;
    }) c.push.ensures
