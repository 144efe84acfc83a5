-- A candidate behind the entry that a command names.
use Rattle.std.proofs.Common.{◌≡◌, ℕ, List, Option, Some, None, false, refl, sym, ap, ◌∙◌}
use Rattle.std.specs.Prelude.{slice_get}
use Rattle.std.proofs.lemmas.Bool.{true≢false}
use Rattle.fam_base.specs.declared.cmd.Cmd.{Cmd}
use Rattle.fam_base.specs.declared.entry.Entry.{Entry}
use Rattle.fam_base.specs.Image.{Image}
use Rattle.fam_history.specs.declared.command.ToldCommand.{ToldCommand}
use Rattle.fam_journal.specs.Legal.{WritesAllowed}
use Rattle.fam_journal.specs.Members.{changed_at}
use Rattle.fam_journal.specs.Notes.{Writes}
use Rattle.fam_journal.specs.Past.{HostPast, filled_bytes, pends}
use Rattle.fam_journal.specs.Shapes.{Met, TaskNote}
use Rattle.fam_judge.specs.Possible.{Possible, shapes_in}
use Rattle.fam_judge.proofs.OverWrites.{cmd_at}
use Rattle.fam_judge.proofs.Places.{of_told, told_at}
use Rattle.fam_judging.specs.declared.candidate.Candidate.{Candidate}
use Rattle.fam_judging.specs.declared.candidate.Track.{Track}
use Rattle.fam_judging.specs.declared.hosts.Hosts.{Hosts}
use Rattle.fam_judging.specs.After.{named_track}
use Rattle.fam_judging.specs.Candidates.{possible_of, progress_list, progress_of, settled_state}
use Rattle.fam_judging.specs.Going.{MayName, is_met, stage_of_host}
use Rattle.fam_judging.specs.Told.{NamesIn, NamesNext}
use Rattle.fam_judging.proofs.Goings.{same_possible}
use Rattle.fam_judging.proofs.Lists.{named_hosts}
use Rattle.fam_judging.proofs.Owning.{own_to}
use Rattle.fam_judging.proofs.Reaching.{weaker}
use Rattle.fam_judging.proofs.Tests.{MetAt, met_tests}

-- it names none
pub names_not : (start : Image) (h n : ℕ) (x y : Possible) → ((e : Entry) → MayName start h n e x → ⊥) → NamesNext start h n x y None
names_not start h n x y never = record { may = λ e is. absurd cc; is = λ e is. absurd cc; complete = λ e m. absurd (never e m) }

-- none where it hasn't found so many
pub names_unmet : (start : Image) (hosts : Hosts) (c : Candidate) (h n : ℕ) (y : Possible) → false ≡ is_met n (stage_of_host hosts c h) → NamesNext start h n (possible_of start hosts c) y None
names_unmet start hosts c h n y not =
    let x = possible_of start hosts c in
    names_not start h n x y (λ e m. true≢false (sym (not ∙ (met_tests n start hosts c h).1
    (weaker (slice_get (shapes_in x) h) (λ me t. TaskNote h me t (Writes h n e)) (λ me t. t.stage ≡ Met n) (λ me t all. all.2) m.may))))

module _ (start : Image) (hosts : Hosts) (c : Candidate) (h n : ℕ) (cmd : ToldCommand) (m : MetAt hosts c h n cmd) where
  -- what is told of the host
  abbrev pub told_host : HostPast
  told_host = (progress_of m.owns.host (Some cmd) m.track).told

  -- it names what the rules decide
  pub names_next : (d : Candidate) (o : Option Entry) → NamesIn n told_host cmd (settled_state start c.settled) (settled_state start d.settled) o
      → ((e : Entry) → o ≡ Some e → d.tracks.items ≡ changed_at h (named_track n e) c.tracks.items)
      → NamesNext start h n (possible_of start hosts c) (possible_of start hosts d) o
  names_next d o N tracks =
      let x = possible_of start hosts c in
      let p = progress_of m.owns.host (Some cmd) m.track in
      record {
        may = λ e is. record {
          may = own_to start hosts c h cmd m.track (λ me t. TaskNote h me t (Writes h n e)) m.owns (refl, N.shape e is, m.stage);
          fits = of_told start x h (λ host. WritesAllowed n e host x.state) p m.owns.there (N.allowed e is);
        };
        is = λ e is. same_possible _ _ _ _
            (N.state e is ∙ ap (λ (k : Option Cmd). pends (record { entry = e; bytes = filled_bytes k e.size }) (settled_state start c.settled)) (sym (cmd_at start x h p m.owns.there)))
            (ap (λ (ts : List Track). progress_list hosts.seen.items hosts.commands.items ts) (tracks e is) ∙ named_hosts n e h hosts.seen.items hosts.commands.items c.tracks.items);
        complete = λ e may. N.complete e (told_at start x h (λ host. WritesAllowed n e host x.state) p m.owns.there may.fits);
      }
