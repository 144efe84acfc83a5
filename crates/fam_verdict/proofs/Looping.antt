-- How far a loop over notes has come.
use Rattle.std.proofs.Common.{◌≡◌, ◌<◌, ◌++◌, ℕ, List, [], ◌∷◌, Option, Some, None, length, refl, sym, ap, ◌∙◌, subst, arith}
use Rattle.std.specs.Prelude.{Ok, Err, map, slice_get}
use Rattle.std.proofs.lemmas.List.{append_assoc, append-nil}
use Rattle.fam_base.specs.Image.{Image}
use Rattle.fam_causes.specs.declared.kinds.Cause.{Cause}
use Rattle.fam_grammar.specs.declared.fault.LineFault.{LineFault}
use Rattle.fam_grammar.specs.declared.fault.LineFault.TheVariants.{BadLine}
use Rattle.fam_records.specs.declared.record.Record.{Record}
use Rattle.fam_records.specs.Histories.{BeginsHistory, History, bad_history, no_history, record_seen, with_record}
use Rattle.fam_records.specs.Records.{Recorded}
use Rattle.fam_judging.specs.declared.candidate.Candidate.{Candidate}
use Rattle.fam_judging.specs.declared.candidate.Settled.{Settled}
use Rattle.fam_judging.specs.declared.given.GivenImage.{GivenImage}
use Rattle.fam_judging.specs.Candidates.{possible_of, settled_state}
use Rattle.fam_judging.specs.Going.{HasGiven}
use Rattle.fam_judging.specs.Texts.{IsLegal}
use Rattle.fam_judging.proofs.Texts.{judging_some}
use Rattle.fam_journal.specs.Past.{first_state}
use Rattle.fam_verdict.specs.declared.judged.Judged.{Judged}
use Rattle.fam_verdict.specs.Judged.{IsJudged, IsKept}
use Rattle.fam_verdict.specs.Verdicts.{IsBecause, IsIllegalAt}

-- the states judge these records, on each image of so many lines that is as is said
abbrev pub JudgedOf : ℕ → GivenImage → Settled → Judged → List Recorded → Type 0
JudgedOf lines given settled j records =
    (start : Image) → length start ≡ lines → HasGiven start given settled → settled_state start settled ≡ first_state start → IsJudged start given records j

-- some records are read of a history, and this holds of them; these are left
pub record SoFar (whole left : History) (P : List Recorded → Type 0) : Type 0 where
  pub before : List Recorded
  pub records : whole.records ≡ before ++ left.records
  pub bad : whole.bad ≡ left.bad
  pub holds : P before

pub far_first : (whole left : History) (P : List Recorded → Type 0) → left ≡ whole → P [] → SoFar whole left P
far_first whole left P same holds = record { before = []; records = sym (ap (λ (h : History). h.records) same); bad = sym (ap (λ (h : History). h.bad) same); holds = holds }

module _ (whole left behind : History) (r : Recorded) (is : left ≡ with_record r behind) where
  -- one record more
  pub far_next : (P Q : List Recorded → Type 0) → (far : SoFar whole left P) → Q (far.before ++ r ∷ []) → SoFar whole behind Q
  far_next P Q far holds = record {
    before = far.before ++ r ∷ [];
    records = far.records ∙ ap (λ (h : History). far.before ++ h.records) is ∙ sym (append_assoc far.before (r ∷ []) behind.records);
    bad = far.bad ∙ ap (λ (h : History). h.bad) is;
    holds = holds;
  }

  -- fewer are left
  pub fewer_left : length behind.records < length left.records
  fewer_left = subst (λ (h : History). length behind.records < length h.records) (sym is) (omega arith)

  -- the history ends at it
  pub illegal_at : (start : Image) (P : List Recorded → Type 0) (far : SoFar whole left P) → IsLegal start far.before → (IsLegal start (far.before ++ r ∷ []) → ⊥)
      → (cause : Cause) → IsBecause start far.before r cause → IsIllegalAt start whole.records r.line cause
  illegal_at start P far legal illegal cause because = record {
    before = far.before;
    first = r;
    behind = behind.records;
    whole = far.records ∙ ap (λ (h : History). far.before ++ h.records) is;
    number_is = refl;
    legal = legal;
    illegal = illegal;
    because = because;
  }

-- no note is left: all records are read
pub far_all : (whole left : History) (P : List Recorded → Type 0) (far : SoFar whole left P) → left.records ≡ [] → P whole.records
far_all whole left P far none = subst P (sym (far.records ∙ ap (λ (l : List Recorded). far.before ++ l) none ∙ append-nil far.before)) far.holds

-- what the states judge is legal
pub judged_legal : (start : Image) (given : GivenImage) (records : List Recorded) (j : Judged) → IsKept j → IsJudged start given records j → IsLegal start records
judged_legal start given records j kept judged = by j.candidates.items refl kept.some
  where
    by : (cs : List Candidate) → j.candidates.items ≡ cs → 0 < length cs → IsLegal start records
    by [] is some = absurd (omega (arith, some))
    by (c ∷ cs) is some =
        judging_some start records j.hosts.seen.items _ judged.judging (possible_of start j.hosts c)
        (0, ap (λ (l : List Candidate). slice_get (map (possible_of start j.hosts) l) 0) is)

-- What was read.

pub begins_some : (a b : History) (o : Option Record) (next : Record) → o ≡ Some next → BeginsHistory a b (Ok o) → a ≡ with_record (record_seen next) b
begins_some a b o next is begins = subst (λ (x : Option Record). BeginsHistory a b (Ok x)) is begins

pub begins_none : (a b : History) (o : Option Record) → o ≡ None → BeginsHistory a b (Ok o) → a ≡ no_history
begins_none a b o is begins = subst (λ (x : Option Record). BeginsHistory a b (Ok x)) is begins

pub begins_bad : (a b : History) (fault : LineFault) (number column : ℕ) → fault ≡ BadLine number column → BeginsHistory a b (Err fault) → a ≡ bad_history number column
begins_bad a b fault number column is begins = subst (λ (f : LineFault). BeginsHistory a b (Err f)) is begins
