-- What the judge knows, one record more.
use Prim.Native.Nat.{zero, suc}
use Rattle.std.proofs.Common.{◌≡◌, ◌<◌, ◌≤◌, ℕ, true, false, List, [], ◌∷◌, ◌++◌, Option, Some, None, length, map, refl, sym, ap, ap₂, ◌∙◌, subst, arith}
use Rattle.std.specs.Prelude.{◌==◌, Result, Ok, Err, if◌then◌else◌, is_err, is_ok, option_map, slice_get}
use Rattle.std.proofs.lemmas.Bool.Decides.{nat_tests}
use Rattle.std.proofs.lemmas.Option.{same_Some, slice_get-map}
use Rattle.fam_base.specs.Image.{Image}
use Rattle.fam_history.specs.declared.command.ToldCommand.{ToldCommand}
use Rattle.fam_judge.specs.Covering.{IsOf, LeadsStates}
use Rattle.fam_judge.specs.Possible.{Possible, first_possible, shapes_in}
use Rattle.fam_judge.specs.Standing.{faces}
use Rattle.fam_history.specs.ToldNotes.{AreDistinctNames}
use Rattle.fam_journal.specs.Calls.{host_limit}
use Rattle.fam_journal.specs.Notes.{Note}
use Rattle.fam_journal.specs.Past.{State, first_state}
use Rattle.fam_lines.specs.Behind.{IsEntireNote}
use Rattle.fam_lines.specs.declared.host.SeenHost.{SeenHost}
use Rattle.fam_lines.specs.declared.line.Line.{Line}
use Rattle.fam_lines.specs.Hosts.{faces_of, seen_names}
use Rattle.fam_lines.specs.Lines.{note_of_line}
use Rattle.fam_records.specs.Records.{Recorded}
use Rattle.fam_judging.specs.After.{commands_after, possible_after, possible_in, seen_after}
use Rattle.fam_judging.specs.Among.{AllFine}
use Rattle.fam_judging.specs.Candidates.{AreCommanded, HostsFit, possible_of, settled_state}
use Rattle.fam_judging.specs.Going.{HasGiven}
use Rattle.fam_judging.specs.Pushing.{IsFine}
use Rattle.fam_judging.specs.Texts.{IsJudging, RecordTells}
use Rattle.fam_judging.specs.declared.candidate.Candidate.{Candidate}
use Rattle.fam_judging.specs.declared.given.GivenImage.{GivenImage}
use Rattle.fam_judging.proofs.Keeping.{BeginsTold, commanded_after, told_after}
use Rattle.fam_judging.proofs.Texts.{judging_first, judging_line, judging_none, judging_unresolved}
use Rattle.fam_verdict.specs.declared.judged.Judged.{Judged}
use Rattle.fam_verdict.specs.Begins.{MayBegin}
use Rattle.fam_verdict.specs.Judged.{GoesOn, IsJudged, IsKept, IsLineOf, Stops}
use Rattle.fam_verdict.proofs.Faces.{fine_faces}
use Rattle.fam_verdict.proofs.Names.{distinct_follow, few_follow, names_follow}
use Rattle.fam_verdict.proofs.Nowhere.{nowhere}

-- States of candidates.

-- a state of theirs is one candidate's
pub of_candidates : (f : Candidate → Possible) (cs : List Candidate) (z : Possible) → IsOf (map f cs) z → (k : ℕ) × (d : Candidate) × (slice_get cs k ≡ Some d) × (z ≡ f d)
of_candidates f cs z is = by (slice_get cs is.0) refl (sym (slice_get-map f cs is.0) ∙ is.1)
  where
    by : (o : Option Candidate) → slice_get cs is.0 ≡ o → option_map f o ≡ Some z → (k : ℕ) × (d : Candidate) × (slice_get cs k ≡ Some d) × (z ≡ f d)
    by None at e = absurd cc
    by (Some d) at e = (is.0, d, at, sym (same_Some (f d) z e))

-- the hosts of fine candidates look as they are seen
seen_states : (start : Image) (given : GivenImage) (seen : List SeenHost) (cmds : List (Option ToldCommand)) (cs : List Candidate) → AreCommanded seen cmds
    → AllFine (IsFine start given seen) cs → (z : Possible) → IsOf (map (possible_in start seen cmds) cs) z → faces (shapes_in z) ≡ faces_of seen
seen_states start given seen cmds cs are fine z is =
    let o = of_candidates (possible_in start seen cmds) cs z is in
    ap (λ (y : Possible). faces (shapes_in y)) o.3 ∙ fine_faces start given seen cmds o.1 are (fine o.0 o.1 o.2)

-- The first record.

-- before it, where this is settled
pub judged_first : (start : Image) (given : GivenImage) (j : Judged) (c : Candidate) → j.hosts.seen.items ≡ [] → j.hosts.commands.items ≡ []
    → j.candidates.items ≡ c ∷ [] → c.tracks.items ≡ [] → HasGiven start given c.settled → settled_state start c.settled ≡ first_state start
    → IsJudged start given [] j
judged_first start given j c seen cmds is none said state = record {
  judging = subst (λ (s : List SeenHost). IsJudging start [] s (map (possible_of start j.hosts) j.candidates.items)) (sym seen)
      (subst (λ (xs : List Possible). IsJudging start [] [] xs) (sym states) (judging_first start));
  fine = λ k d at. by k d (subst (λ (l : List Candidate). slice_get l k ≡ Some d) is at);
}
  where
    one : possible_of start j.hosts c ≡ first_possible start
    one = ap₂ (λ (s : List SeenHost) (o : List (Option ToldCommand)). possible_in start s o c) seen cmds
        ∙ ap (λ (s : State). let p : Possible = record { state = s; hosts = [] } in p) state

    states : map (possible_of start j.hosts) j.candidates.items ≡ first_possible start ∷ []
    states = ap (map (possible_of start j.hosts)) is ∙ ap (λ (x : Possible). x ∷ []) one

    by : (k : ℕ) (d : Candidate) → slice_get (c ∷ []) k ≡ Some d → IsFine start given j.hosts.seen.items d
    by zero d at = subst (IsFine start given j.hosts.seen.items) (same_Some c d at)
        (record { placed = ap length none ∙ sym (ap length seen); said = said })
    by (suc k) d at = absurd cc

-- One record more.

module _ (start : Image) (given : GivenImage) (records : List Recorded) (j : Judged) (judged : IsJudged start given records j) (kept : IsKept j) (r : Recorded) where
  abbrev seen : List SeenHost
  seen = j.hosts.seen.items

  abbrev xs : List Possible
  xs = map (possible_of start j.hosts) j.candidates.items

  -- it tells no note that could be whole
  pub stops_unresolved : ((n : Note) → IsEntireNote seen n
      → RecordTells (seen_names seen) r n → ⊥) → Stops start records r
  stops_unresolved none = judging_unresolved start records seen xs judged.judging r none

  module _ (l : Line) (is : IsLineOf seen r l) where
    -- it leads nowhere
    none_left : (more : List SeenHost) → seen_names (seen_after seen l) ≡ seen_names more
        → LeadsStates start (note_of_line l) xs [] → Stops start records r
    none_left more names on =
        judging_none start (records ++ r ∷ []) more []
        (judging_line start records seen xs judged.judging r (note_of_line l) more [] is.told is.untold is.only on (λ z at. let e = at.1 in absurd cc) (names_follow seen l ∙ names)) refl

    -- it can't begin
    pub stops_begin : (MayBegin (length start) seen l → ⊥) → Stops start records r
    stops_begin not =
        none_left (seen_after seen l) refl
        (nowhere start seen l xs (λ x at. seen_states start given seen j.hosts.commands.items j.candidates.items kept.fit judged.fine x at) not)

    -- no candidate is left
    pub stops_none : (next : List Candidate) → next ≡ [] → LeadsStates start (note_of_line l) xs (map (possible_after start j.hosts l) next) → Stops start records r
    stops_none next none on =
        none_left (seen_after seen l) refl (subst (λ (cs : List Candidate). LeadsStates start (note_of_line l) xs (map (possible_after start j.hosts l) cs)) none on)

    -- some are
    pub judged_next : (new : Judged) → new.hosts.seen.items ≡ seen_after seen l → new.hosts.commands.items ≡ commands_after j.hosts.commands.items l
        → LeadsStates start (note_of_line l) xs (map (possible_after start j.hosts l) new.candidates.items)
        → AllFine (IsFine start given (seen_after seen l)) new.candidates.items → GoesOn start given records r new
    judged_next new same_seen same_cmds on fine = record {
      judging = subst (λ (s : List SeenHost). IsJudging start (records ++ r ∷ []) s (map (possible_of start new.hosts) new.candidates.items)) (sym same_seen)
          (subst (λ (ys : List Possible). IsJudging start (records ++ r ∷ []) (seen_after seen l) ys) (sym states) judging);
      fine = subst (λ (s : List SeenHost). AllFine (IsFine start given s) new.candidates.items) (sym same_seen) fine;
    }
      where
        states : map (possible_of start new.hosts) new.candidates.items ≡ map (possible_after start j.hosts l) new.candidates.items
        states = ap₂ (λ (s : List SeenHost) (o : List (Option ToldCommand)). map (possible_in start s o) new.candidates.items) same_seen same_cmds

        judging : IsJudging start (records ++ r ∷ []) (seen_after seen l) (map (possible_after start j.hosts l) new.candidates.items)
        judging = judging_line start records seen xs judged.judging r (note_of_line l) (seen_after seen l) (map (possible_after start j.hosts l) new.candidates.items)
            is.told is.untold is.only on
            (λ z at. seen_states start given (seen_after seen l) (commands_after j.hosts.commands.items l) new.candidates.items
            (commanded_after seen j.hosts.commands.items l kept.fit) fine z at)
            (names_follow seen l)

-- what is kept behind a line that may begin
pub kept_next : (lines : ℕ) (j new : Judged) (l : Line) → IsKept j → MayBegin lines j.hosts.seen.items l → BeginsTold l
    → new.hosts.seen.items ≡ seen_after j.hosts.seen.items l → new.hosts.commands.items ≡ commands_after j.hosts.commands.items l
    → 0 < length new.candidates.items → IsKept new
kept_next lines j new l kept may begins same_seen same_cmds some = record {
  few = subst (λ (s : List SeenHost). length s ≤ host_limit) (sym same_seen) (few_follow lines j.hosts.seen.items l may kept.few);
  distinct = subst (λ (s : List SeenHost). AreDistinctNames (seen_names s)) (sym same_seen)
      (distinct_follow lines j.hosts.seen.items l may kept.distinct);
  fit = commands_fit;
  told = λ k c at. told_after j.hosts.commands.items l begins kept.told k c (subst (λ (o : List (Option ToldCommand)). slice_get o k ≡ Some (Some c)) same_cmds at);
  some = some;
}
  where
    commands_fit : HostsFit new.hosts
    commands_fit = subst (λ (s : List SeenHost). AreCommanded s new.hosts.commands.items) (sym same_seen)
        (subst (λ (o : List (Option ToldCommand)). AreCommanded (seen_after j.hosts.seen.items l) o) (sym same_cmds) (commanded_after j.hosts.seen.items j.hosts.commands.items l kept.fit))

-- Counts of candidates.

some_count : (n : ℕ) → (suc n == 0) ≡ false
some_count n = grind (arith, nat_tests)

pub none_of : (cs : List Candidate) → (length cs == 0) ≡ true → cs ≡ []
none_of [] e = refl
none_of (c ∷ cs) e = let f = some_count (length cs) in absurd cc

pub some_of : (cs : List Candidate) → (length cs == 0) ≡ false → 0 < length cs
some_of [] e = absurd cc
some_of (c ∷ cs) e = omega arith

-- what a call that hasn't failed leaves
pub not_failed : {T E A : Type 0} (r : Result T E) (x y : A) → is_err r ≡ false → (if is_ok r then x else y) ≡ x
not_failed (Ok v) x y is = refl
not_failed (Err e) x y is = absurd cc
