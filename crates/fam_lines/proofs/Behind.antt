-- An answer by its first line and what follows: it tells just that, and no other does.
use Rattle.std.proofs.Common.{◌≡◌, ℕ, Bool, true, false, List, [], ◌∷◌, Option, Some, None, refl, ap, ap₂, sym, subst, ◌∙◌}
use Rattle.std.specs.Prelude.{Vec, if◌then◌else◌, is_none, is_some, not}
use Rattle.std.specs.FinMap as finmap
use Rattle.std.specs.Global.{Global}
use Rattle.std.proofs.lemmas.Option.{same_Some}
use Rattle.fam_base.specs.declared.entry.Entry.{Entry}
use Rattle.fam_format.specs.Tree.{Tree, replay}
use Rattle.fam_rules.specs.declared.answers.Checked.{Checked}
use Rattle.fam_rules.specs.declared.answers.Report.{Report}
use Rattle.fam_rules.specs.Reply as reply
use Rattle.fam_rules.specs.Reply.{Reply}
use Rattle.fam_journal.specs.Notes.{Answer, Replied, MediaFault}
use Rattle.fam_outcomes.specs.Texts.{is_sound_report}
use Rattle.fam_history.specs.Answers.{none_differs}
use Rattle.fam_history.specs.declared.answer.ToldAnswer.{ToldAnswer}
use Rattle.fam_history.specs.declared.answer.ToldAnswer.TheVariants as told
use Rattle.fam_history.specs.ToldAnswers.{answer_told, checked_told, first_told}
use Rattle.fam_lines.specs.declared.answer.HostAnswer.{HostAnswer}
use Rattle.fam_lines.specs.declared.answer.HostAnswer.TheVariants as given
use Rattle.fam_lines.specs.Behind.{Further, IsTreeOfEntries, IsEntireAnswer, NamesFirst, behind_answer, further, nothing}
use Rattle.fam_lines.specs.Lines.{answer_of}
use Rattle.fam_lines.specs.Resolved.{agrees, alone, answer_with, compared_answer, is_whole_checked, names_first, played, reported, rise_behind}
use Rattle.fam_tree.specs.Keyed.{IsKeyed}
use Rattle.fam_tree.specs.Runs.{InOrder}
use Rattle.fam_lines.proofs.Trees.{in_order, keyed_replay, replayed_values, rises, tree_in_order, values_replayed}

-- What an answer tells.

-- the answer's first line, and what follows it
pub record Answers (t : ToldAnswer) (entries : List Entry) (report : Option Report) (a : Answer) : Type 0 where
  pub first : answer_told a ≡ t
  pub behind : behind_answer a ≡ further entries report
  pub whole : IsEntireAnswer a

none_of : {A : Type 0} (o : Option A) → is_none o ≡ true → o ≡ None
none_of None e = refl
none_of (Some x) e = absurd cc

-- one that nothing follows
alone_is : (entries : List Entry) (report : Option Report) (x a : HostAnswer) → alone entries report x ≡ Some a
    → behind_answer (answer_of x) ≡ nothing → IsEntireAnswer (answer_of x) → Answers (answer_told (answer_of x)) entries report (answer_of a)
alone_is (e ∷ es) report x a is bare whole = absurd cc
alone_is [] (Some r) x a is bare whole = absurd cc
alone_is [] None x a is bare whole =
    let same : x ≡ a = same_Some x a is in
    subst (λ (y : HostAnswer). Answers (answer_told (answer_of x)) [] None (answer_of y)) same (record { first = refl; behind = bare; whole = whole })

played_is : (m : ℕ) (entries : Vec Entry Global) (report : Option Report) (a : HostAnswer) → played m entries report ≡ Some a
    → Answers (told.Played m) entries.items report (answer_of a)
played_is m entries (Some r) a is = absurd cc
played_is m entries None a is = by (rise_behind None entries.items) refl is
  where
    by : (b : Bool) → rise_behind None entries.items ≡ b → (if b then Some (given.Played m entries) else None) ≡ Some a → Answers (told.Played m) entries.items None (answer_of a)
    by false rise e = absurd cc
    by true rise e =
        subst (λ (y : HostAnswer). Answers (told.Played m) entries.items None (answer_of y)) (same_Some _ a e) (record {
          first = refl;
          behind = ap (λ (l : List Entry). further l None) (replayed_values entries.items (in_order entries.items rise));
          whole = record { entries = entries.items; is = refl };
        })

agreed : (sound : Bool) (r : Report) → agrees sound r ≡ true → is_sound_report r ≡ sound
agreed true r e = e
agreed false r e = by (is_sound_report r) e
  where
    by : (b : Bool) → not b ≡ true → b ≡ false
    by true e = absurd cc
    by false e = refl

reported_is : (sound : Bool) (entries : List Entry) (report : Option Report) (a : HostAnswer) → reported sound entries report ≡ Some a
    → Answers (told.Report sound) entries report (answer_of a)
reported_is sound entries None a is = absurd cc
reported_is sound (e ∷ es) (Some r) a is = absurd cc
reported_is sound [] (Some r) a is = by (agrees sound r) refl is
  where
    by : (b : Bool) → agrees sound r ≡ b → (if b then Some (given.Reports r) else None) ≡ Some a → Answers (told.Report sound) [] (Some r) (answer_of a)
    by false same e = absurd cc
    by true same e =
        subst (λ (y : HostAnswer). Answers (told.Report sound) [] (Some r) (answer_of y)) (same_Some _ a e)
        (record { first = ap told.Report (agreed sound r same); behind = refl; whole = tt })

first_prints : (same : Bool) (first : Option (List ℕ)) → names_first same first ≡ true → first_told same first ≡ first
first_prints true None e = refl
first_prints true (Some path) e = absurd cc
first_prints false None e = absurd cc
first_prints false (Some path) e = refl

first_named : (same : Bool) (first : Option (List ℕ)) → names_first same first ≡ true → is_some first ≡ not same
first_named true None e = refl
first_named true (Some path) e = absurd cc
first_named false None e = absurd cc
first_named false (Some path) e = refl

compared_is : (m : ℕ) (c : Checked) (entries : List Entry) (report : Option Report) (a : HostAnswer) → compared_answer m c entries report ≡ Some a
    → Answers (told.Checked m c) entries report (answer_of a)
compared_is m c entries report a is = by (is_whole_checked c) refl is
  where
    by : (b : Bool) → is_whole_checked c ≡ b → (if b then alone entries report (given.Checks m c) else None) ≡ Some a → Answers (told.Checked m c) entries report (answer_of a)
    by false whole e = absurd cc
    by true whole e =
        let same = none_differs c.missing c.extra c.changed in
        let prints : checked_told c ≡ c = ap (λ (f : Option (List ℕ)). record c { first = f }) (first_prints same c.first whole) in
        subst (λ (t : ToldAnswer). Answers t entries report (answer_of a)) (ap (told.Checked m) prints)
        (alone_is entries report (given.Checks m c) a e refl (first_named same c.first whole))

-- an answer tells its first line and what follows
pub answer_is : (t : ToldAnswer) (entries : Vec Entry Global) (report : Option Report) (a : HostAnswer) → answer_with t entries report ≡ Some a
    → Answers t entries.items report (answer_of a)
answer_is (told.Ok seq) entries report a is = alone_is entries.items report (given.Appended seq) a is refl tt
answer_is (told.NotAppended why) entries report a is = alone_is entries.items report (given.NotAppended why) a is refl tt
answer_is (told.Played m) entries report a is = played_is m entries report a is
answer_is (told.Mounted m) entries report a is = alone_is entries.items report (given.Mounted m) a is refl tt
answer_is (told.Same m) entries report a is = alone_is entries.items report (given.Same m) a is refl tt
answer_is (told.Differs m offset found wanted) entries report a is = alone_is entries.items report (given.Differs m offset found wanted) a is refl tt
answer_is (told.Length m size wanted) entries report a is = alone_is entries.items report (given.Length m size wanted) a is refl tt
answer_is (told.Bytes m bytes) entries report a is = alone_is entries.items report (given.Bytes m bytes) a is refl tt
answer_is (told.NotFound m) entries report a is = alone_is entries.items report (given.NotFound m) a is refl tt
answer_is (told.IsDirectory m) entries report a is = alone_is entries.items report (given.IsDirectory m) a is refl tt
answer_is (told.Checked m c) entries report a is = compared_is m c entries.items report a is
answer_is (told.Report sound) entries report a is = reported_is sound entries.items report a is
answer_is (told.NoSuperblock fault) entries report a is = alone_is entries.items report (given.NoSuperblock fault) a is refl tt
answer_is (told.BadHeader fault) entries report a is = alone_is entries.items report (given.BadHeader fault) a is refl tt
answer_is (told.BadSlot seq why) entries report a is = alone_is entries.items report (given.BadSlot seq why) a is refl tt
answer_is (told.MediaFault at) entries report a is = alone_is entries.items report (given.MediaFault at) a is refl tt

-- And no other does.

-- some answer is given, and it is this one
pub record Gives (o : Option HostAnswer) (a : Answer) : Type 0 where
  pub answer : HostAnswer
  pub is : o ≡ Some answer
  pub same : answer_of answer ≡ a

-- so much follows
behind_is : (entries : List Entry) (report : Option Report) (f : Further) → f ≡ further entries report → (f.entries ≡ entries) × (f.report ≡ report)
behind_is entries report f e = (ap (λ (x : Further). x.entries) e, ap (λ (x : Further). x.report) e)

gives_alone : (entries : List Entry) (report : Option Report) (x : HostAnswer) → nothing ≡ further entries report
    → Gives (alone entries report x) (answer_of x)
gives_alone entries report x e =
    let parts = behind_is entries report nothing e in
    record { answer = x; is = ap₂ (λ (l : List Entry) (r : Option Report). alone l r x) (sym parts.0) (sym parts.1); same = refl }

gives_played : (m : ℕ) (tree : Tree) (entries : Vec Entry Global) (report : Option Report)
    → further (finmap.values tree) None ≡ further entries.items report
    → IsTreeOfEntries tree → Gives (played m entries report) (Replied (reply.Played m tree))
gives_played m tree entries report e whole =
    let parts = behind_is entries.items report _ e in
    let keyed = subst IsKeyed (sym whole.is) (keyed_replay whole.entries) in
    let order : InOrder entries.items = subst InOrder parts.0 (tree_in_order tree keyed) in
    record {
      answer = given.Played m entries;
      is = ap (λ (r : Option Report). played m entries r) (sym parts.1) ∙ ap (λ (b : Bool). if b then Some (given.Played m entries) else None) (rises entries.items order);
      same = ap (λ (t : Tree). Replied (reply.Played m t)) (ap replay (sym parts.0) ∙ values_replayed tree keyed);
    }

agrees_own : (r : Report) → agrees (is_sound_report r) r ≡ true
agrees_own r = by (is_sound_report r) refl
  where
    by : (b : Bool) → is_sound_report r ≡ b → agrees b r ≡ true
    by true e = e
    by false e = ap not e

gives_report : (r : Report) (entries : List Entry) (report : Option Report) → further [] (Some r) ≡ further entries report
    → Gives (reported (is_sound_report r) entries report) (Replied (reply.Reports r))
gives_report r entries report e =
    let parts = behind_is entries report _ e in
    record {
      answer = given.Reports r;
      is = ap₂ (λ (l : List Entry) (o : Option Report). reported (is_sound_report r) l o) (sym parts.0) (sym parts.1)
          ∙ ap (λ (b : Bool). if b then Some (given.Reports r) else None) (agrees_own r);
      same = refl;
    }

named_prints : (same : Bool) (first : Option (List ℕ)) → is_some first ≡ not same → first_told same first ≡ first
named_prints true None e = refl
named_prints true (Some path) e = absurd cc
named_prints false None e = absurd cc
named_prints false (Some path) e = refl

named_first : (same : Bool) (first : Option (List ℕ)) → is_some first ≡ not same → names_first same first ≡ true
named_first true None e = refl
named_first true (Some path) e = absurd cc
named_first false None e = absurd cc
named_first false (Some path) e = refl

gives_checks : (m : ℕ) (c : Checked) (entries : List Entry) (report : Option Report) → nothing ≡ further entries report → NamesFirst c
    → Gives (compared_answer m (checked_told c) entries report) (Replied (reply.Checks m c))
gives_checks m c entries report e named =
    let same = none_differs c.missing c.extra c.changed in
    let prints : checked_told c ≡ c = ap (λ (f : Option (List ℕ)). record c { first = f }) (named_prints same c.first named) in
    let rest = gives_alone entries report (given.Checks m c) e in
    record {
      answer = rest.answer;
      is = ap (λ (x : Checked). compared_answer m x entries report) prints ∙ ap (λ (b : Bool). if b then alone entries report (given.Checks m c) else None) (named_first same c.first named) ∙ rest.is;
      same = rest.same;
    }

module _ (entries : Vec Entry Global) (report : Option Report) where
  gives_reply : (r : Reply) → behind_answer (Replied r) ≡ further entries.items report → IsEntireAnswer (Replied r)
      → Gives (answer_with (answer_told (Replied r)) entries report) (Replied r)
  gives_reply (reply.Appended seq) e whole = gives_alone entries.items report (given.Appended seq) e
  gives_reply (reply.NotAppended why) e whole = gives_alone entries.items report (given.NotAppended why) e
  gives_reply (reply.Played m tree) e whole = gives_played m tree entries report e whole
  gives_reply (reply.Mounted m) e whole = gives_alone entries.items report (given.Mounted m) e
  gives_reply (reply.Same m) e whole = gives_alone entries.items report (given.Same m) e
  gives_reply (reply.Differs m offset found wanted) e whole = gives_alone entries.items report (given.Differs m offset found wanted) e
  gives_reply (reply.Length m size wanted) e whole = gives_alone entries.items report (given.Length m size wanted) e
  gives_reply (reply.Bytes m bytes) e whole = gives_alone entries.items report (given.Bytes m bytes) e
  gives_reply (reply.NotFound m) e whole = gives_alone entries.items report (given.NotFound m) e
  gives_reply (reply.IsDirectory m) e whole = gives_alone entries.items report (given.IsDirectory m) e
  gives_reply (reply.Checks m c) e whole = gives_checks m c entries.items report e whole
  gives_reply (reply.Reports r) e whole = gives_report r entries.items report e
  gives_reply (reply.NoSuperblock fault) e whole = gives_alone entries.items report (given.NoSuperblock fault) e
  gives_reply (reply.BadHeader fault) e whole = gives_alone entries.items report (given.BadHeader fault) e
  gives_reply (reply.BadSlot seq why) e whole = gives_alone entries.items report (given.BadSlot seq why) e

  -- of its own first line and what follows it an answer is given
  pub gives_own : (a : Answer) → behind_answer a ≡ further entries.items report → IsEntireAnswer a
      → Gives (answer_with (answer_told a) entries report) a
  gives_own (Replied r) e whole = gives_reply r e whole
  gives_own (MediaFault at) e whole = gives_alone entries.items report (given.MediaFault at) e
