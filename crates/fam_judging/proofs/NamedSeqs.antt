-- The number of the entry that a host has named.
use Rattle.std.proofs.Common.{◌≡◌, ◌<◌, ℕ, zero, suc, List, [], ◌∷◌, length, Option, Some, None, refl, ap, sym, ◌∙◌, arith}
use Rattle.std.specs.Option.{option_map}
use Rattle.std.specs.List.{slice_get}
use Rattle.std.proofs.lemmas.Option.{none-some, same_Some}
use Rattle.fam_base.specs.Image.{Image}
use Rattle.fam_history.specs.declared.command.ToldCommand.{ToldCommand}
use Rattle.fam_journal.specs.Members.{changed_at}
use Rattle.fam_journal.specs.Notes.{Writes}
use Rattle.fam_journal.specs.Shapes.{Named as StageNamed, TaskNote, with_stage}
use Rattle.fam_judge.specs.Possible.{Possible, Progress, Wrote}
use Rattle.fam_lines.specs.declared.host.SeenHost.{SeenHost}
use Rattle.fam_protocol.specs.After.{Named}
use Rattle.fam_judging.specs.declared.candidate.Candidate.{Candidate}
use Rattle.fam_judging.specs.declared.candidate.Track.{Track}
use Rattle.fam_judging.specs.declared.candidate.Wrote.{Wrote as Written}
use Rattle.fam_judging.specs.declared.hosts.Hosts.{Hosts}
use Rattle.fam_judging.specs.Candidates.{named_of, possible_of, progress_list}
use Rattle.fam_judging.proofs.Into.{running_within}

-- what host h named last
abbrev wrote_in : List Progress → ℕ → Option Named
wrote_in [] h = None
wrote_in (p ∷ hosts) zero = p.told.wrote
wrote_in (p ∷ hosts) (suc h) = wrote_in hosts h

-- behind a change by which it names this one
named_in : (F : Progress → Progress) (e : Named) → ((p : Progress) → (F p).told.wrote ≡ Some e) → (hosts : List Progress) (h : ℕ) → h < length hosts
    → wrote_in (changed_at h F hosts) h ≡ Some e
named_in F e names [] h less = absurd (omega (arith, less))
named_in F e names (p ∷ hosts) zero less = names p
named_in F e names (p ∷ hosts) (suc h) less = named_in F e names hosts h (omega (arith, less))

-- a candidate keeps it
kept_in : (seen : List SeenHost) (cmds : List (Option ToldCommand)) (tracks : List Track) (h : ℕ) (t : Track) (e : Named)
    → slice_get tracks h ≡ Some t → wrote_in (progress_list seen cmds tracks) h ≡ Some e → option_map named_of t.wrote ≡ Some e
kept_in [] cmds tracks h t e at named = absurd (none-some e named)
kept_in (s ∷ seen) [] tracks h t e at named = absurd (none-some e named)
kept_in (s ∷ seen) (c ∷ cmds) [] h t e at named = absurd (none-some t at)
kept_in (s ∷ seen) (c ∷ cmds) (a ∷ tracks) zero t e at named = ap (λ (u : Track). option_map named_of u.wrote) (sym (same_Some a t at)) ∙ named
kept_in (s ∷ seen) (c ∷ cmds) (a ∷ tracks) (suc h) t e at named = kept_in seen cmds tracks h t e at named

-- the entry that a host has named in a candidate has the number that the candidate keeps
pub named_seq : (start : Image) (h : ℕ) (x : Possible) (hosts : Hosts) (c : Candidate) (t : Track) (w : Written) (wrote : Wrote start h x (possible_of start hosts c))
    → slice_get c.tracks.items h ≡ Some t → t.wrote ≡ Some w → w.seq ≡ wrote.seq
named_seq start h x hosts c t w wrote at keeps =
    ap (λ (n : Named). n.seq) (same_Some (named_of w) named (ap (option_map named_of) (sym keeps) ∙ kept_in hosts.seen.items hosts.commands.items c.tracks.items h t named at
    (ap (λ (p : Possible). wrote_in p.hosts h) wrote.is ∙ named_in change named (λ p. refl) wrote.met.hosts h within)))
  where
    named : Named
    named = record { seq = wrote.seq; entry = wrote.entry }

    change : Progress → Progress
    change p = record { told = record p.told { wrote = Some named }; shape = with_stage (StageNamed wrote.seq) p.shape }

    within : h < length wrote.met.hosts
    within = running_within wrote.met.hosts h (λ me t. TaskNote h me t (Writes h wrote.seq wrote.entry)) wrote.may
