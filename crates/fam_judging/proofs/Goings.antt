-- What a function says of the states to which a line leads.
use Rattle.std.proofs.Common.{◌≡◌, ℕ, Bool, true, false, refl, sym, ap, ap₂, subst, ◌∙◌, List, Some, Result, Ok, Err}
use Rattle.std.specs.Result.{IfOk, OnOk}
use Rattle.std.proofs.lemmas.Bool.{true≢false}
use Rattle.fam_base.specs.Image.{Image}
use Rattle.fam_journal.specs.Members.{changed_at}
use Rattle.fam_journal.specs.Notes.{Found, Mark}
use Rattle.fam_journal.specs.Past.{State, finds, settled_length}
use Rattle.fam_judge.specs.Possible.{Possible, Progress, StepsTo, after_note}
use Rattle.fam_judging.specs.declared.candidate.Candidate.{Candidate}
use Rattle.fam_judging.specs.declared.candidate.Stage.TheVariants as stage
use Rattle.fam_judging.specs.declared.candidate.Track.{Track}
use Rattle.fam_judging.specs.declared.hosts.Hosts.{Hosts}
use Rattle.fam_judging.specs.Candidates.{possible_of, progress_list, settled_state}
use Rattle.fam_judging.specs.Going.{FindsEntries, Goes, is_begun, stage_of_host}
use Rattle.fam_judging.proofs.Leading.{found_from, found_to, mark_from, mark_to}
use Rattle.fam_judging.proofs.Lists.{marked_hosts, met_hosts}
use Rattle.fam_judging.proofs.Tests.{begun_tests}

-- what follows holds too, where there was memory
pub if_ok : {A E : Type 0} (r : Result A E) (P Q : A → Type 0) → ((a : A) → P a → Q a) → IfOk r P → IfOk r Q
if_ok (Ok a) P Q f p = f a p
if_ok (Err e) P Q f p = tt

-- so it is where only that counts
pub on_ok : {A E : Type 0} (r : Result A E) (P Q : Type 0) → (P → Q) → OnOk r P → OnOk r Q
on_ok (Ok a) P Q f p = f p
on_ok (Err e) P Q f p = tt

-- what holds anyway
pub if_any : {A E : Type 0} (r : Result A E) (P : A → Type 0) → ((a : A) → P a) → IfOk r P
if_any (Ok a) P f = f a
if_any (Err e) P f = tt

-- it leads to none
pub goes_not : {P : Possible → Type 0} (next : Possible) → ((z : Possible) → P z → ⊥) → Goes P next false
goes_not next none = record { sound = λ yes. absurd (true≢false (sym yes)); complete = λ z p. absurd (none z p) }

-- it leads there
pub goes_there : {P : Possible → Type 0} (next : Possible) → P next → ((z : Possible) → P z → z ≡ next) → Goes P next true
goes_there next there one = record { sound = λ yes. there; complete = λ z p. (refl, one z p) }

-- a state by its parts
pub same_possible : (a b : State) (p q : List Progress) → a ≡ b → p ≡ q → (let x : Possible = record { state = a; hosts = p } in x) ≡ record { state = b; hosts = q }
same_possible a b p q states hosts = ap₂ (λ (s : State) (ps : List Progress). let x : Possible = record { state = s; hosts = ps } in x) states hosts

-- the candidate behind what a command found
pub found_next : (start : Image) (hosts : Hosts) (c d : Candidate) (h n : ℕ)
    → d.tracks.items ≡ changed_at h (λ (t : Track). record t { stage = stage.Met n }) c.tracks.items
    → settled_state start d.settled ≡ finds n (settled_state start c.settled)
    → possible_of start hosts d ≡ after_note start (possible_of start hosts c) (Found h n)
found_next start hosts c d h n tracks settled =
    same_possible _ _ _ _ settled
    (ap (λ (ts : List Track). progress_list hosts.seen.items hosts.commands.items ts) tracks ∙ met_hosts n h hosts.seen.items hosts.commands.items c.tracks.items)

-- the candidate behind its command's mark
pub mark_next : (start : Image) (hosts : Hosts) (c d : Candidate) (h n : ℕ)
    → d.tracks.items ≡ changed_at h (λ (t : Track). record t { stage = stage.Marked; floor = Some n }) c.tracks.items
    → settled_state start d.settled ≡ settled_state start c.settled → n ≡ settled_length (settled_state start c.settled)
    → possible_of start hosts d ≡ after_note start (possible_of start hosts c) (Mark h)
mark_next start hosts c d h n tracks settled count =
    same_possible _ _ _ _ settled
    (ap (λ (ts : List Track). progress_list hosts.seen.items hosts.commands.items ts)
    (tracks ∙ ap (λ (k : ℕ). changed_at h (λ (t : Track). record t { stage = stage.Marked; floor = Some k }) c.tracks.items) count)
    ∙ marked_hosts (settled_length (settled_state start c.settled)) h hosts.seen.items hosts.commands.items c.tracks.items)

-- a line that tells a found
pub found_goes : (start : Image) (h n : ℕ) (x y : Possible) (b : Bool) → Goes (FindsEntries start h n x) y b → Goes (StepsTo start x (Found h n)) y b
found_goes start h n x y b goes = record {
  sound = λ is. found_to start h x n y (goes.sound is);
  complete = λ z s. goes.complete z (found_from start h x n z s);
}

-- or a mark
pub mark_goes : (start : Image) (hosts : Hosts) (c : Candidate) (h : ℕ) (y : Possible) → true ≡ is_begun (stage_of_host hosts c h)
    → y ≡ after_note start (possible_of start hosts c) (Mark h) → Goes (StepsTo start (possible_of start hosts c) (Mark h)) y true
mark_goes start hosts c h y begun is =
    goes_there y (subst (λ (z : Possible). StepsTo start (possible_of start hosts c) (Mark h) z) (sym is)
    (mark_to start h (possible_of start hosts c) ((begun_tests start hosts c h).0 (sym begun))))
    (λ z s. (mark_from start h (possible_of start hosts c) z s).1 ∙ sym is)

-- no mark
pub mark_not : (start : Image) (hosts : Hosts) (c : Candidate) (h : ℕ) (y : Possible) → false ≡ is_begun (stage_of_host hosts c h)
    → Goes (StepsTo start (possible_of start hosts c) (Mark h)) y false
mark_not start hosts c h y not =
    goes_not y (λ z s. true≢false (sym (not ∙ (begun_tests start hosts c h).1 (mark_from start h (possible_of start hosts c) z s).0)))
