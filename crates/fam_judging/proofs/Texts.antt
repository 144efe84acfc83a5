-- What a program knows that has read some records of a history, one record more.
use Prim.Native.Nat.{zero, suc}
use Rattle.std.proofs.Common.{◌≡◌, ℕ, List, [], ◌∷◌, ◌++◌, length, Some, refl, ap, ap₂, sym, ◌∙◌, subst}
use Rattle.std.specs.Prelude.{slice_get}
use Rattle.std.proofs.lemmas.List.{map-append}
use Rattle.fam_base.specs.Image.{Image}
use Rattle.fam_journal.specs.Notes.{Note, Host, Start}
use Rattle.fam_history.specs.declared.note.LineNote.{LineNote}
use Rattle.fam_history.specs.declared.note.LineNote.TheVariants as told
use Rattle.fam_history.specs.declared.note.ToldLine.{ToldLine}
use Rattle.fam_history.specs.ToldNotes.{line_told}
use Rattle.fam_judge.specs.Alike.{told_note}
use Rattle.fam_judge.specs.Covering.{LeadsStates, IsOf, Judges}
use Rattle.fam_judge.specs.Explained.{IsExplained}
use Rattle.fam_judge.specs.Possible.{Possible, first_possible, past_in, shapes_in}
use Rattle.fam_judge.specs.Standing.{faces}
use Rattle.fam_judge.specs.Untold.{untold_note, untold_notes}
use Rattle.fam_judge.proofs.Explaining.{first_explained}
use Rattle.fam_judge.proofs.Sets.{faces_covered, judges_first, judges_line, judges_none, judges_some, stands_last}
use Rattle.fam_judge.proofs.Untelling.{alike_untold, untold_alike}
use Rattle.fam_lines.specs.Behind.{IsEntireNote, behind_note}
use Rattle.fam_lines.proofs.Whole.{whole_note}
use Rattle.fam_lines.specs.declared.host.SeenHost.{SeenHost}
use Rattle.fam_lines.specs.Hosts.{faces_of, seen_names}
use Rattle.fam_records.specs.Records.{Recorded}
use Rattle.fam_judging.specs.Texts.{IsJudging, IsLegal, RecordTells, RecordsTell, names_after_note, names_behind_notes}

-- Records.

names_untold : (names : List (List ℕ)) (note : Note) → names_after_note names (untold_note note) ≡ names_after_note names note
names_untold names (Start h cmd) = refl
names_untold names note = refl

-- the last record and the last note
record LastTold (names : List (List ℕ)) (records : List Recorded) (r : Recorded) (notes : List Note) : Type 0 where
  front : List Note
  last : Note
  whole : notes ≡ front ++ last ∷ []
  before : RecordsTell names records front
  told : RecordTells (names_behind_notes names front) r last

last_told : (names : List (List ℕ)) (records : List Recorded) (r : Recorded) (notes : List Note) → RecordsTell names (records ++ r ∷ []) notes → LastTold names records r notes
last_told names [] r [] tells = absurd tells
last_told names [] r (note ∷ []) tells = record { front = []; last = note; whole = refl; before = tt; told = tells.0 }
last_told names [] r (note ∷ other ∷ notes) tells = absurd tells.1
last_told names (s ∷ records) r [] tells = absurd tells
last_told names (s ∷ records) r (note ∷ notes) tells =
    let more = last_told (names_after_note names note) records r notes tells.1 in
    record { front = note ∷ more.front; last = more.last; whole = ap (λ (l : List Note). note ∷ l) more.whole; before = (tells.0, more.before); told = more.told }

told_last : (names : List (List ℕ)) (records : List Recorded) (r : Recorded) (notes : List Note) (note : Note) → RecordsTell names records notes → RecordTells (names_behind_notes names notes) r note
    → RecordsTell names (records ++ r ∷ []) (notes ++ note ∷ [])
told_last names [] r [] note tells one = (one, tt)
told_last names [] r (first ∷ notes) note tells one = absurd tells
told_last names (s ∷ records) r [] note tells one = absurd tells
told_last names (s ∷ records) r (first ∷ notes) note tells one = (tells.0, told_last (names_after_note names first) records r notes note tells.1 one)

names_last : (names : List (List ℕ)) (notes : List Note) (note : Note) → names_behind_notes names (notes ++ note ∷ []) ≡ names_after_note (names_behind_notes names notes) note
names_last names [] note = refl
names_last names (first ∷ notes) note = names_last (names_after_note names first) notes note

-- what isn't told isn't in a record
untold_line : (names : List (List ℕ)) (note : Note) → line_told names (untold_note note) ≡ line_told names note
untold_line names (Start h cmd) = by (untold_alike (Start h cmd))
  where
    by : told_note (untold_note (Start h cmd)) ≡ told_note (Start h cmd) → line_told names (untold_note (Start h cmd)) ≡ line_told names (Start h cmd)
    by e = cc
untold_line names note = refl

untold_behind : (note : Note) → behind_note (untold_note note) ≡ behind_note note
untold_behind (Start h cmd) = refl
untold_behind note = refl

untold_tells : (names : List (List ℕ)) (r : Recorded) (note : Note) → RecordTells names r note → RecordTells names r (untold_note note)
untold_tells names r note is = record { first = untold_line names note ∙ is.first; behind = untold_behind note ∙ is.behind }

-- the names behind a line, by what it tells
names_by : List (List ℕ) → ToldLine → LineNote → List (List ℕ)
names_by names line (told.Host uuid) = names ++ line.name ∷ []
names_by names line note = names

names_are : (names : List (List ℕ)) (note : Note) → names_after_note names note ≡ names_by names (line_told names note) (line_told names note).note
unfolding names_by
names_are names (Host name uuid) = refl
names_are names note = refl

-- Which note it is.

-- a history that the records tell and that is explained tells the same
module _ (start : Image) (records : List Recorded) (hosts : List SeenHost) (xs : List Possible) (judging : IsJudging start records hosts xs) where
  -- its last note is whole, and the record's
  record LastIs (r : Recorded) (other : List Note) : Type 0 where
    front : List Note
    last : Note
    whole : other ≡ front ++ last ∷ []
    same : untold_notes front ≡ judging.history
    kept : IsEntireNote hosts (untold_note last)
    told : RecordTells (seen_names hosts) r (untold_note last)

  last_is : (r : Recorded) (other : List Note) → RecordsTell [] (records ++ r ∷ []) other → IsExplained start other → LastIs r other
  last_is r other tells is =
      let l = last_told [] records r other tells in
      let all = subst (IsExplained start) l.whole is in
      let same = judging.only l.front l.before (first_explained start l.front (l.last ∷ []) all) in
      let s = stands_last start judging.history l.front l.last xs judging.judges same all in
      record {
        front = l.front;
        last = l.last;
        whole = l.whole;
        same = same;
        kept = whole_note (length start) hosts (shapes_in s.covered) (past_in start s.covered) (untold_note l.last)
            (sym (faces_covered start s.state s.covered s.over) ∙ judging.seen s.state s.is) s.may s.fits;
        told = untold_tells (seen_names hosts) r l.last (subst (λ (names : List (List ℕ)). RecordTells names r l.last) (judging.names l.front l.before) l.told);
      }

  -- where no note of a record can stand and fit, no history that these records tell is explained
  pub judging_unresolved : (r : Recorded) → ((n : Note) → IsEntireNote hosts n → RecordTells (seen_names hosts) r n → ⊥) → IsLegal start (records ++ r ∷ []) → ⊥
  judging_unresolved r none legal =
      let l = last_is r legal.0 legal.1 legal.2 in none (untold_note l.last) l.kept l.told

  -- and so where no state is left
  pub judging_none : xs ≡ [] → IsLegal start records → ⊥
  judging_none empty legal =
      judges_none start legal.0
      (subst (λ (l : List Note). Judges start l []) (sym (judging.only legal.0 legal.1 legal.2)) (subst (Judges start judging.history) empty judging.judges)) legal.2

  -- where one is left some history is
  pub judging_some : (x : Possible) → IsOf xs x → IsLegal start records
  judging_some x is = (
    judging.history,
    judging.tells,
    judges_some start judging.history xs x (subst (λ (l : List Note). Judges start l xs) (sym judging.untold) judging.judges) is,
  )

  -- one record more
  module _ (r : Recorded) (note : Note) (more : List SeenHost) (zs : List Possible) (told : RecordTells (seen_names hosts) r note) (untold : untold_note note ≡ note)
      (only : (n : Note) → IsEntireNote hosts n → RecordTells (seen_names hosts) r n → told_note note ≡ told_note n) (on : LeadsStates start note xs zs)
      (seen : (z : Possible) → IsOf zs z → faces (shapes_in z) ≡ faces_of more) (names : names_after_note (seen_names hosts) note ≡ seen_names more) where
    same_more : (other : List Note) → LastIs r other → untold_notes other ≡ judging.history ++ note ∷ []
    same_more other l =
        ap untold_notes l.whole ∙ map-append untold_note l.front (l.last ∷ []) ∙ ap₂ (λ (a : List Note) (b : Note). a ++ b ∷ []) l.same one
      where
        one : untold_note l.last ≡ note
        one = sym (alike_untold (untold_note l.last) l.last (untold_alike l.last)) ∙ sym (alike_untold note (untold_note l.last) (only (untold_note l.last) l.kept l.told)) ∙ untold

    history_names : names_behind_notes [] judging.history ≡ seen_names hosts
    history_names = judging.names judging.history judging.tells

    names_more : (other : List Note) → LastTold [] records r other → names_behind_notes [] other ≡ seen_names more
    names_more other l =
        let before = judging.names l.front l.before in
        let told_last : RecordTells (seen_names hosts) r l.last = subst (λ (n : List (List ℕ)). RecordTells n r l.last) before l.told in
        let line : line_told (seen_names hosts) l.last ≡ line_told (seen_names hosts) note = told_last.first ∙ sym told.first in
        ap (names_behind_notes []) l.whole ∙ names_last [] l.front l.last ∙ ap (λ (n : List (List ℕ)). names_after_note n l.last) before
        ∙ names_are (seen_names hosts) l.last ∙ ap (λ (t : ToldLine). names_by (seen_names hosts) t t.note) line ∙ sym (names_are (seen_names hosts) note) ∙ names

    pub judging_line : IsJudging start (records ++ r ∷ []) more zs
    judging_line = record {
      history = judging.history ++ note ∷ [];
      tells = told_last [] records r judging.history note judging.tells (subst (λ (n : List (List ℕ)). RecordTells n r note) (sym history_names) told);
      untold = map-append untold_note judging.history (note ∷ []) ∙ ap₂ (λ (a : List Note) (b : Note). a ++ b ∷ []) judging.untold untold;
      only = λ other tells is. same_more other (last_is r other tells is);
      judges = judges_line start judging.history xs zs note judging.judges on untold;
      seen = seen;
      names = λ other tells. names_more other (last_told [] records r other tells);
    }

-- before the first record
pub judging_first : (start : Image) → IsJudging start [] [] (first_possible start ∷ [])
judging_first start = record {
  history = [];
  tells = tt;
  untold = refl;
  only = λ other tells is. none other tells;
  judges = judges_first start;
  seen = λ x is. first x is.0 is.1;
  names = λ other tells. no_names other tells;
}
  where
    none : (other : List Note) → RecordsTell [] [] other → untold_notes other ≡ []
    none [] tells = refl
    none (note ∷ other) tells = absurd tells

    no_names : (other : List Note) → RecordsTell [] [] other → names_behind_notes [] other ≡ []
    no_names [] tells = refl
    no_names (note ∷ other) tells = absurd tells

    first : (x : Possible) (i : ℕ) → slice_get (first_possible start ∷ []) i ≡ Some x → faces (shapes_in x) ≡ []
    first x zero e = ap (λ (z : Possible). faces (shapes_in z)) (sym (Rattle.std.proofs.lemmas.Option.same_Some (first_possible start) x e))
    first x (suc i) e = absurd cc
