-- Sets of possible states, line by line.
use Prim.Native.Nat.{zero, suc}
use Rattle.std.proofs.Common.{◌≡◌, ◌≢◌, ◌⊎◌, ◌+◌, inl, inr, ℕ, List, [], ◌∷◌, ◌++◌, length, Option, Some, None, refl, ap, ap₂, sym, ◌∙◌, subst}
use Rattle.std.specs.Prelude.{IsTrue, slice_get}
use Rattle.std.proofs.lemmas.Bool.{cases_eq}
use Rattle.std.proofs.lemmas.List.{map-append}
use Rattle.fam_base.specs.Image.{Image}
use Rattle.fam_journal.specs.Notes.{Note, Host, Made, Cut, Start, Mark, Found, Writes, Answered, Stop, Halt, Umount, Refused}
use Rattle.fam_judge.specs.Alike.{told_note}
use Rattle.fam_judge.specs.Covering.{AreFitting, LeadsStates, HasBelow, IsBelow, IsOf, Judges, Over, behind, direct, late, same, possible_behind}
use Rattle.fam_judge.specs.Explained.{IsExplained, AreAllowedForSome}
use Rattle.fam_judge.specs.Fitting.{FitsNext}
use Rattle.fam_judge.specs.Possible.{Elsewhere, IsPossible, MayLead, LeadsTo, Possible, after_note, first_possible, past_in, answer_settles, shapes_in}
use Rattle.fam_judge.specs.Shows.{ShowsJournal, is_inner}
use Rattle.fam_judge.specs.Standing.{MayStand, faces, AreStanding}
use Rattle.fam_judge.specs.Untold.{untold_note, untold_notes}
use Rattle.fam_judge.proofs.Completing.{over_apart}
use Rattle.fam_judge.proofs.Folding.{behind_both}
use Rattle.fam_judge.proofs.Goodness.{Each, Wishful, apart_after, each_wishes, wishes_after}
use Rattle.fam_judge.proofs.Judging.{fitting_from, possible_explained, untold_all_again}
use Rattle.fam_judge.proofs.OverHidden.{late_now}
use Rattle.fam_judge.proofs.OverHosts.{IsApart, direct_below}
use Rattle.fam_judge.proofs.OverLate.{inner_over}
use Rattle.fam_judge.proofs.OverLines.{line_follows}
use Rattle.fam_judge.proofs.Showing.{first_line, parts, shows_both, Parts, FirstLine}
use Rattle.fam_judge.proofs.OverPlain.{faces_over}
use Rattle.fam_judge.proofs.Staying.{faces_pre, late_stays}
use Rattle.fam_judge.proofs.Untelling.{alike_untold, untold_alike}
use Rattle.std.proofs.lemmas.Option.{same_Some}
use Rattle.fam_judge.proofs.Standing.Journals.{explained_stands}

-- Lists of notes.

pub fitting_front : (start : Image) (c : Possible) (a b : List Note) → AreFitting start c (a ++ b) → AreFitting start c a
fitting_front start c [] b fitting = tt
fitting_front start c (y ∷ a) b fitting = (fitting.0, fitting.1, fitting_front start (after_note start c y) a b fitting.2)

pub fitting_back : (start : Image) (c : Possible) (a b : List Note) → AreFitting start c (a ++ b) → AreFitting start (behind start c a) b
fitting_back start c [] b fitting = fitting
fitting_back start c (y ∷ a) b fitting = fitting_back start (after_note start c y) a b fitting.2

-- what holds behind each note
pub record IsGood (c : Possible) : Type 0 where
  pub apart : IsApart c
  pub wishes : Each Wishful c.hosts

good_first : (start : Image) → IsGood (first_possible start)
good_first start = record { apart = λ k l u a b. absurd cc; wishes = λ k p at. absurd cc }

good_behind : (start : Image) (c : Possible) (notes : List Note) → IsGood c → AreFitting start c notes → IsGood (behind start c notes)
good_behind start c [] good fitting = good
good_behind start c (y ∷ notes) good fitting =
    good_behind start (after_note start c y) notes (record {
      apart = apart_after start (length start) c y good.apart fitting.0;
      wishes = wishes_after start (length start) c y good.wishes fitting.0;
    }) fitting.2

-- notes that are left out, one behind another
inner_all : (start : Image) (x c : Possible) (notes : List Note) → Over start x c → IsGood c → ShowsJournal [] notes → AreFitting start c notes
    → Over start x (behind start c notes)
inner_all start x c [] over good shows fitting = over
inner_all start x c (y ∷ notes) over good shows fitting =
    inner_all start x (after_note start c y) notes (inner_over start x c good.apart over y shows.0 (length start) fitting.0 fitting.1)
    (record { apart = apart_after start (length start) c y good.apart fitting.0; wishes = wishes_after start (length start) c y good.wishes fitting.0 }) shows.1 fitting.2

pub untold_parts : (a b : List Note) → untold_notes (a ++ b) ≡ a ++ b → (untold_notes a ≡ a) × (untold_notes b ≡ b)
untold_parts [] b told = (refl, told)
untold_parts (y ∷ a) b told = let more = untold_parts a b (tails told) in (ap₂ (λ (z : Note) (l : List Note). z ∷ l) (heads told) more.0, more.1)
  where
    heads : untold_note y ∷ untold_notes (a ++ b) ≡ y ∷ (a ++ b) → untold_note y ≡ y
    heads e = cc

    tails : untold_note y ∷ untold_notes (a ++ b) ≡ y ∷ (a ++ b) → untold_notes (a ++ b) ≡ a ++ b
    tails e = cc

-- Lines.

leads_more : (start : Image) (x : Possible) (lines : List Note) (y : Note) (z mid : Possible) → LeadsTo start x lines mid → MayLead start mid y z
    → LeadsTo start x (lines ++ y ∷ []) z
leads_more start x [] y z mid leads one = (z, subst (λ (w : Possible). MayLead start w y z) leads one, refl)
leads_more start x (line ∷ lines) y z mid leads one = (leads.0, leads.1, leads_more start leads.0 lines y z mid leads.2 one)

-- a journal that lines show, at the last of them
pub record LineAt (lines : List Note) (y : Note) (journal : List Note) : Type 0 where
  pub before : List Note
  pub back : List Note
  pub whole : journal ≡ before ++ y ∷ back
  pub shows : ShowsJournal lines before
  pub hidden : ShowsJournal [] back
  pub told : untold_notes before ≡ before

append_is : (a b : List Note) (n : Note) (d : List Note) → a ++ (b ++ n ∷ d) ≡ (a ++ b) ++ n ∷ d
append_is [] b n d = refl
append_is (z ∷ a) b n d = ap (λ (l : List Note). z ∷ l) (append_is a b n d)

none_more : (lines : List Note) → lines ++ [] ≡ lines
none_more [] = refl
none_more (y ∷ lines) = ap (λ (l : List Note). y ∷ l) (none_more lines)

head_told : (y : Note) (notes : List Note) → untold_note y ∷ untold_notes notes ≡ y ∷ notes → untold_note y ≡ y
head_told y notes e = cc

pub split_at : (lines : List Note) (y : Note) (journal : List Note) → ShowsJournal (lines ++ y ∷ []) journal → untold_note y ≡ y → untold_notes journal ≡ journal
    → LineAt lines y journal
split_at lines y journal shows told_y told = by (parts lines (y ∷ []) journal shows)
  where
    by_line : (part : Parts lines (y ∷ []) journal) → FirstLine y [] part.back → LineAt lines y journal
    by_line part line =
        let whole : journal ≡ (part.front ++ line.out) ++ line.note ∷ line.back =
        part.whole ∙ ap (λ (l : List Note). part.front ++ l) line.whole ∙ append_is part.front line.out line.note line.back in
        let both = untold_parts (part.front ++ line.out) (line.note ∷ line.back) (subst (λ (l : List Note). untold_notes l ≡ l) whole told) in
        let one : line.note ≡ y = sym (head_told line.note line.back both.1) ∙ sym (alike_untold y line.note line.told) ∙ told_y in
        record {
          before = part.front ++ line.out;
          back = line.back;
          whole = whole ∙ ap (λ (n : Note). (part.front ++ line.out) ++ n ∷ line.back) one;
          shows = subst (λ (l : List Note). ShowsJournal l (part.front ++ line.out)) (none_more lines) (shows_both lines [] part.front line.out part.shown line.left_out);
          hidden = line.left;
          told = both.0;
        }

    by : Parts lines (y ∷ []) journal → LineAt lines y journal
    by part = by_line part (first_line y [] part.back part.left)

-- the hosts look the same in a state and in what it covers
pub faces_covered : (start : Image) (x c : Possible) → Over start x c → faces (shapes_in x) ≡ faces (shapes_in c)
faces_covered start x c (direct d) = faces_over x.state x.hosts c.hosts d.hosts
faces_covered start x c (late l) = faces_over x.state x.hosts l.pre.hosts l.direct.hosts ∙ sym (faces_pre start x c l)

-- a line tells of an entry that was named, or doesn't
pub elsewhere_or : (k seq : ℕ) (y : Note) → Elsewhere k seq y ⊎ (Elsewhere k seq y → ⊥)
elsewhere_or k seq (Host name uuid) = inl tt
elsewhere_or k seq (Made h p) = inl tt
elsewhere_or k seq (Cut h n) = inl tt
elsewhere_or k seq (Umount h) = inl tt
elsewhere_or k seq (Refused name cause) = inl tt
elsewhere_or k seq (Writes h n e) = inl tt
elsewhere_or k seq (Start h cmd) = apart_or h k
  where
    apart_or : (h k : ℕ) → (h ≢ k) ⊎ (h ≢ k → ⊥)
    apart_or h k = elim (cases_eq h k) [
      | inl e ↦ inr (λ ne. ne e)
      | inr ne ↦ inl ne
    ]
elsewhere_or k seq (Mark h) = elim (cases_eq h k) [
  | inl e ↦ inr (λ ne. ne e)
  | inr ne ↦ inl ne
]
elsewhere_or k seq (Stop h) = elim (cases_eq h k) [
  | inl e ↦ inr (λ ne. ne e)
  | inr ne ↦ inl ne
]
elsewhere_or k seq (Halt h) = elim (cases_eq h k) [
  | inl e ↦ inr (λ ne. ne e)
  | inr ne ↦ inl ne
]
elsewhere_or k seq (Found h n) = by (cases_eq h k) (cases_eq n (seq + 1))
  where
    by : (h ≡ k) ⊎ (h ≢ k) → (n ≡ seq + 1) ⊎ (n ≢ seq + 1) → ((h ≢ k) × (n ≢ seq + 1)) ⊎ ((h ≢ k) × (n ≢ seq + 1) → ⊥)
    by (inl e) second = inr (λ both. both.0 e)
    by (inr ne) (inl e) = inr (λ both. both.1 e)
    by (inr ne) (inr other) = inl (ne, other)
elsewhere_or k seq (Answered h answer) = by (cases_eq h k) (answer_settles answer) refl
  where
    at_count : (m : ℕ) → (m ≡ seq + 1) ⊎ (m ≢ seq + 1) → (Some m ≡ Some (seq + 1)) ⊎ (Some m ≢ Some (seq + 1))
    at_count m (inl e) = inl (ap Some e)
    at_count m (inr ne) = inr (λ e. ne (same_Some m (seq + 1) e))

    none_count : None ≡ Some (seq + 1) → ⊥
    none_count e = cc

    both : h ≢ k → (Some_is : (answer_settles answer ≡ Some (seq + 1)) ⊎ (answer_settles answer ≢ Some (seq + 1)))
        → Elsewhere k seq (Answered h answer) ⊎ (Elsewhere k seq (Answered h answer) → ⊥)
    both ne (inl e) = inr (λ pair. pair.1 e)
    both ne (inr other) = inl (ne, other)

    by : (h ≡ k) ⊎ (h ≢ k) → (o : Option ℕ) → answer_settles answer ≡ o → Elsewhere k seq (Answered h answer) ⊎ (Elsewhere k seq (Answered h answer) → ⊥)
    by (inl e) o is = inr (λ pair. pair.0 e)
    by (inr ne) None is = both ne (inr (λ e. none_count (sym is ∙ e)))
    by (inr ne) (Some m) is = both ne (subst (λ (o : Option ℕ). (o ≡ Some (seq + 1)) ⊎ (o ≢ Some (seq + 1))) (sym is) (at_count m (cases_eq m (seq + 1))))

module _ (start : Image) (lines : List Note) (xs zs : List Possible) (y : Note) (judges : Judges start lines xs) (on : LeadsStates start y xs zs) where
  -- a state to which the line leads, and what it covers
  pub record Next (c : Possible) : Type 0 where
    pub next : Possible
    pub is : IsOf zs next
    pub over : Over start next c

  below_over : (z w c : Possible) → (w ≡ z) ⊎ IsBelow w z → Over start z c → Over start w c
  below_over z w c (inl e) over = subst (λ (x : Possible). Over start x c) (sym e) over
  below_over z w c (inr below) (direct d) = direct (direct_below w z c below d)
  below_over z w c (inr below) (late l) = late (record {
    host = l.host;
    pre = l.pre;
    direct = direct_below w z l.pre below l.direct;
    seq = l.seq;
    entry = l.entry;
    may = l.may;
    fits = l.fits;
    hosts = l.hosts;
    state = l.state;
  })

  below_next : (c z : Possible) → HasBelow zs z → Over start z c → Next c
  below_next c z has over = record { next = has.state; is = has.is; over = below_over z has.state c has.below over }

  by_over : (x c : Possible) → IsOf xs x → IsGood c → MayStand (length start) (shapes_in c) y → FitsNext (past_in start c) y → Over start x c → Next (after_note start c y)
  by_over x c is good may fits (direct d) =
      let f = line_follows start x c d (over_apart start x c (direct d) good.apart) (each_wishes c good.wishes) y may fits in
      below_next (after_note start c y) f.next (on.own x f.next is f.leads) (direct f.over)
  by_over x c is good may fits (late l) = by (elsewhere_or l.host l.seq y)
    where
      by : Elsewhere l.host l.seq y ⊎ (Elsewhere l.host l.seq y → ⊥) → Next (after_note start c y)
      by (inl other) =
          let s = late_stays start x c l good.apart good.wishes y other may fits in
          below_next (after_note start c y) s.next (on.own x s.next is s.leads) (late s.late)
      by (inr tells) =
          let now = late_now start x c (over_apart start x c (late l) good.apart) l in
          let f = line_follows start now.now c now.direct (over_apart start now.now c (direct now.direct) good.apart) (each_wishes c good.wishes) y may fits in
          below_next (after_note start c y) f.next (on.named x now.now f.next l.host is now.wrote (λ other. tells (subst (λ (n : ℕ). Elsewhere l.host n y) now.number other)) f.leads) (direct f.over)

  at_line : (journal : List Note) → LineAt lines y journal → AreFitting start (first_possible start) journal → Next (possible_behind start journal)
  at_line journal at fitting =
      let all = subst (AreFitting start (first_possible start)) at.whole fitting in
      let front = fitting_front start (first_possible start) at.before (y ∷ at.back) all in
      let rest = fitting_back start (first_possible start) at.before (y ∷ at.back) all in
      let good = good_behind start (first_possible start) at.before (good_first start) front in
      let x = judges.complete at.before at.shows at.told front in
      let next = by_over x.0 (possible_behind start at.before) x.1 good rest.0 rest.1 x.2 in
      subst Next (sym (ap (possible_behind start) at.whole ∙ behind_both start (first_possible start) at.before (y ∷ at.back)))
      (record {
        next = next.next;
        is = next.is;
        over = inner_all start next.next (after_note start (possible_behind start at.before) y) at.back next.over
            (good_behind start (possible_behind start at.before) (y ∷ []) good (rest.0, rest.1, tt)) at.hidden rest.2;
      })

  more_sound : (z : Possible) → IsOf zs z → IsPossible start (lines ++ y ∷ []) z
  more_sound z is = let x = on.sound z is in leads_more start (first_possible start) lines y z x.0 (judges.sound x.0 x.1) x.2

  -- so the second states are those behind the line
  pub judges_line : untold_note y ≡ y → Judges start (lines ++ y ∷ []) zs
  judges_line told_y = record {
    sound = more_sound;
    complete = λ journal shows told fitting. let next = at_line journal (split_at lines y journal shows told_y told) fitting in (next.next, next.is, next.over);
  }

-- before the first line
pub judges_first : (start : Image) → Judges start [] (first_possible start ∷ [])
judges_first start = record {
  sound = λ x is. first x is.0 is.1;
  complete = λ journal shows told fitting. (
    first_possible start,
    (0, refl),
    inner_all start (first_possible start) (first_possible start) journal (direct (record { state = same refl; hosts = tt })) (good_first start) shows fitting,
  );
}
  where
    first : (x : Possible) (i : ℕ) → slice_get (first_possible start ∷ []) i ≡ Some x → IsPossible start [] x
    first x zero e = sym (same_Some (first_possible start) x e)
    first x (suc i) e = absurd cc

-- what isn't told is shown all the same
pub untold_shows : (lines notes : List Note) → ShowsJournal lines notes → ShowsJournal (untold_notes lines) (untold_notes notes)
untold_shows [] [] shows = tt
untold_shows [] (n ∷ notes) shows = (inner_told n shows.0, untold_shows [] notes shows.1)
  where
    inner_told : (n : Note) → IsTrue (is_inner n) → IsTrue (is_inner (untold_note n))
    inner_told (Start h cmd) inner = absurd cc
    inner_told n inner = inner
untold_shows (y ∷ lines) [] shows = absurd shows
untold_shows (y ∷ lines) (n ∷ notes) (inl here) =
    inl (ap told_note (alike_untold y n here.0), untold_shows lines notes here.1)
untold_shows (y ∷ lines) (n ∷ notes) (inr out) = inr (inner_told n out.0, untold_shows (y ∷ lines) notes out.1)
  where
    inner_told : (n : Note) → IsTrue (is_inner n) → IsTrue (is_inner (untold_note n))
    inner_told (Start h cmd) inner = absurd cc
    inner_told n inner = inner

-- where no state is left the history isn't explained
pub judges_none : (start : Image) (history : List Note) → Judges start (untold_notes history) [] → IsExplained start history → ⊥
judges_none start history judges explained = none (judges.complete (untold_notes j.0) shows (untold_all_again j.0) (fitting_from start [] j.0 j.2 j.3))
  where
    j : (journal : List Note) × ShowsJournal history journal × AreStanding (length start) [] journal × AreAllowedForSome start [] journal
    j = explained_stands start history explained

    shows : ShowsJournal (untold_notes history) (untold_notes j.0)
    shows = untold_shows history j.0 j.1

    none : ((x : Possible) × IsOf [] x × Over start x (possible_behind start (untold_notes j.0))) → ⊥
    none x = by x.1
      where
        by : IsOf [] x.0 → ⊥
        by is = let no = is.1 in cc

-- where one is left it is
pub judges_some : (start : Image) (history : List Note) (xs : List Possible) (x : Possible) → Judges start (untold_notes history) xs → IsOf xs x → IsExplained start history
judges_some start history xs x judges is = possible_explained start history x (judges.sound x is)

-- The last line of a history that is explained.

-- a state that covers what comes before it, and where it stands and fits
pub record StandsLast (start : Image) (xs : List Possible) (y : Note) : Type 0 where
  pub state : Possible
  pub covered : Possible
  pub is : IsOf xs state
  pub over : Over start state covered
  pub may : MayStand (length start) (shapes_in covered) y
  pub fits : FitsNext (past_in start covered) y

pub stands_last : (start : Image) (lines other : List Note) (n : Note) (xs : List Possible) → Judges start lines xs → untold_notes other ≡ lines
    → IsExplained start (other ++ n ∷ []) → StandsLast start xs (untold_note n)
stands_last start lines other n xs judges told is = by (split_at lines (untold_note n) (untold_notes j.0) shown (alike_untold (untold_note n) n (untold_alike n)) (untold_all_again j.0))
  where
    j : (journal : List Note) × ShowsJournal (other ++ n ∷ []) journal × AreStanding (length start) [] journal × AreAllowedForSome start [] journal
    j = explained_stands start (other ++ n ∷ []) is

    shown : ShowsJournal (lines ++ untold_note n ∷ []) (untold_notes j.0)
    shown =
        subst (λ (l : List Note). ShowsJournal l (untold_notes j.0)) (map-append untold_note other (n ∷ []) ∙ ap (λ (l : List Note). l ++ untold_note n ∷ []) told)
        (untold_shows (other ++ n ∷ []) j.0 j.1)

    by : LineAt lines (untold_note n) (untold_notes j.0) → StandsLast start xs (untold_note n)
    by at =
        let all = subst (AreFitting start (first_possible start)) at.whole (fitting_from start [] j.0 j.2 j.3) in
        let front = fitting_front start (first_possible start) at.before (untold_note n ∷ at.back) all in
        let rest = fitting_back start (first_possible start) at.before (untold_note n ∷ at.back) all in
        let x = judges.complete at.before at.shows at.told front in
        record { state = x.0; covered = possible_behind start at.before; is = x.1; over = x.2; may = rest.0; fits = rest.1 }
