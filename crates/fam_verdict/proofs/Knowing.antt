-- What is known of a legal history is what its candidates agree on.
use Rattle.std.proofs.Common.{◌≡◌, ◌↔◌, ℕ, suc, Bool, List, [], ◌∷◌, Option, Some, None, length, map, refl, sym, ap, ◌∙◌, subst}
use Rattle.std.specs.Prelude.{IfSome, is_some, option_map, slice_get}
use Rattle.std.proofs.lemmas.List.{length-map}
use Rattle.std.proofs.lemmas.Option.{slice_get-map}
use Rattle.fam_base.specs.declared.entry.Entry.{Entry}
use Rattle.fam_base.specs.Image.{Image}
use Rattle.fam_journal.specs.Past.{State, settled_length}
use Rattle.fam_judge.specs.Covering.{IsOf}
use Rattle.fam_judge.specs.Possible.{Possible}
use Rattle.fam_settled.specs.declared.bytes.Bytes.{Bytes}
use Rattle.fam_settled.specs.declared.bytes.Filed.{Filed}
use Rattle.fam_settled.specs.Settled.{filed, files_of}
use Rattle.fam_records.specs.Records.{Recorded}
use Rattle.fam_judging.specs.Among.{AllFine}
use Rattle.fam_judging.specs.Candidates.{possible_of, settled_state}
use Rattle.fam_judging.specs.Going.{HasGiven}
use Rattle.fam_judging.specs.Pushing.{IsFine}
use Rattle.fam_judging.specs.declared.candidate.Candidate.{Candidate}
use Rattle.fam_judging.specs.declared.candidate.Settled.{Settled}
use Rattle.fam_judging.specs.declared.candidate.Settled.TheVariants as settled
use Rattle.fam_judging.specs.declared.given.GivenImage.{GivenImage}
use Rattle.fam_verdict.specs.Agreeing.{AllCountIn, AllPendIn}
use Rattle.fam_verdict.specs.Judged.{IsJudged}
use Rattle.fam_verdict.specs.Known.{IsKnown, count_in, pends_in, state_pends}
use Rattle.fam_verdict.specs.declared.judged.Judged.{Judged}
use Rattle.fam_verdict.specs.declared.verdict.Known.{Known}
use Rattle.fam_verdict.proofs.Onward.{of_candidates}

files_count : (entries : List Entry) (bytes : List Bytes) → length (files_of entries bytes) ≡ length entries
files_count [] bytes = refl
files_count (e ∷ entries) [] = ap suc (files_count entries [])
files_count (e ∷ entries) (b ∷ bytes) = ap suc (files_count entries bytes)

filed_some : (o : Option Filed) → is_some (filed o) ≡ is_some o
filed_some None = refl
filed_some (Some f) = refl

-- so many entries are settled in the state
count_is : (start : Image) (given : GivenImage) (s : Settled) → HasGiven start given s → settled_length (settled_state start s) ≡ count_in s
count_is start given (settled.Log log) has = files_count log.entries log.bytes
count_is start given settled.Given has = ap settled_length has.state
count_is start given settled.Halted has = refl

-- and so one pends
pends_is : (start : Image) (given : GivenImage) (s : Settled) → HasGiven start given s → state_pends (settled_state start s) ≡ pends_in s
pends_is start given (settled.Log log) has = filed_some log.pending
pends_is start given settled.Given has = ap state_pends has.state
pends_is start given settled.Halted has = refl

-- what all candidates have all states have, and the other way about
module _ {A : Type 0} (start : Image) (given : GivenImage) (j : Judged) (fine : AllFine (IsFine start given j.hosts.seen.items) j.candidates.items)
    (in_state : State → A) (in_settled : Settled → A) (same : (s : Settled) → HasGiven start given s → in_state (settled_state start s) ≡ in_settled s) where
  states_have : (a : A) → ((k : ℕ) (d : Candidate) → slice_get j.candidates.items k ≡ Some d → in_settled d.settled ≡ a)
      → (x : Possible) → IsOf (map (possible_of start j.hosts) j.candidates.items) x → in_state x.state ≡ a
  states_have a all x is =
      let o = of_candidates (possible_of start j.hosts) j.candidates.items x is in
      ap (λ (y : Possible). in_state y.state) o.3 ∙ same o.1.settled (fine o.0 o.1 o.2).said ∙ all o.0 o.1 o.2

  candidates_have : (a : A) → ((x : Possible) → IsOf (map (possible_of start j.hosts) j.candidates.items) x → in_state x.state ≡ a)
      → (k : ℕ) (d : Candidate) → slice_get j.candidates.items k ≡ Some d → in_settled d.settled ≡ a
  candidates_have a all k d at =
      sym (same d.settled (fine k d at).said)
      ∙ all (possible_of start j.hosts d) (k, slice_get-map (possible_of start j.hosts) j.candidates.items k ∙ ap (option_map (possible_of start j.hosts)) at)

  -- so of what is told where all agree
  agreed : (o : Option A) → IfSome o (λ a. (k : ℕ) (d : Candidate) → slice_get j.candidates.items k ≡ Some d → in_settled d.settled ≡ a)
      → ((a : A) → ((k : ℕ) (d : Candidate) → slice_get j.candidates.items k ≡ Some d → in_settled d.settled ≡ a) → o ≡ Some a)
      → (a : A) → (o ≡ Some a) ↔ ((x : Possible) → IsOf (map (possible_of start j.hosts) j.candidates.items) x → in_state x.state ≡ a)
  agreed o all told a = (
    λ is. states_have a (subst (λ (p : Option A). IfSome p (λ b. (k : ℕ) (d : Candidate) → slice_get j.candidates.items k ≡ Some d → in_settled d.settled ≡ b)) is all),
    λ each. told a (candidates_have a each),
  )

-- what is known
pub judged_known : (start : Image) (given : GivenImage) (records : List Recorded) (j : Judged) (known : Known) → IsJudged start given records j
    → known.states ≡ length j.candidates.items → IfSome known.settled (AllCountIn j.candidates.items) → ((n : ℕ) → AllCountIn j.candidates.items n → known.settled ≡ Some n)
    → IfSome known.pending (AllPendIn j.candidates.items) → ((b : Bool) → AllPendIn j.candidates.items b → known.pending ≡ Some b) → IsKnown start records known
judged_known start given records j known judged counted count_all count_told pend_all pend_told = record {
  hosts = j.hosts.seen.items;
  states = map (possible_of start j.hosts) j.candidates.items;
  judging = judged.judging;
  counted = counted ∙ sym (length-map j.candidates.items (possible_of start j.hosts));
  settled = agreed start given j judged.fine settled_length count_in (count_is start given) known.settled count_all count_told;
  pending = agreed start given j judged.fine state_pends pends_in (pends_is start given) known.pending pend_all pend_told;
}
