-- Answers that show something of the first entries.
use Rattle.std.specs.Prelude.{Vec}
use Rattle.std.specs.Global.{Global}
use Rattle.std.proofs.Common.{◌≡◌, ◌⊎◌, inl, inr, ℕ, Bool, true, false, List, [], length, Option, Some, None, refl, ap, ap₂, sym, ◌∙◌, subst}
use Rattle.std.specs.Prelude.{is_some, not}
use Rattle.std.proofs.lemmas.Option.{same_Some}
use Rattle.fam_base.specs.declared.cmd.Cmd.{Cmd}
use Rattle.fam_base.specs.declared.entry.Entry.{Entry}
use Rattle.fam_commands.specs.ReplyClasses.{Showing, reply_class}
use Rattle.fam_format.specs.Tree.{Tree, replay}
use Rattle.fam_history.specs.Answers.{none_differs}
use Rattle.fam_history.specs.declared.answer.ToldAnswer.{ToldAnswer}
use Rattle.fam_history.specs.declared.answer.ToldAnswer.TheVariants as told
use Rattle.fam_history.specs.ToldAnswers.{answer_told, checked_told, first_told, reply_told}
use Rattle.fam_journal.specs.Notes.{Answer, MediaFault, Replied}
use Rattle.fam_judge.specs.Fitting.{AskFits}
use Rattle.fam_lines.specs.Behind.{NamesFirst}
use Rattle.fam_lines.specs.declared.answer.HostAnswer.{HostAnswer}
use Rattle.fam_lines.specs.declared.answer.HostAnswer.TheVariants as given
use Rattle.fam_lines.specs.Lines.{answer_of}
use Rattle.fam_lines.specs.Resolved.{rise_behind}
use Rattle.fam_lines.proofs.Trees.{in_order, keyed_replay, replayed_values, values_replayed}
use Rattle.fam_lines.proofs.Whole.{counts_named}
use Rattle.fam_tree.specs.Keyed.{IsKeyed}
use Rattle.fam_rules.specs.declared.answers.Checked.{Checked}
use Rattle.fam_rules.specs.Asks.{File, entries_of}
use Rattle.fam_rules.specs.Reply as reply
use Rattle.fam_rules.specs.Reply.{Reply}
use Rattle.fam_settled.specs.Told.{listed_of}
use Rattle.fam_judging.specs.PlainAnswers.{IsPlainAnswer, IsShownAnswer, entries_in}
use Rattle.fam_judging.specs.Showing.{IsAnswerTold}
use Rattle.fam_judging.specs.StepLines.{IsStepAnswer}
use Rattle.fam_judging.proofs.Showing.{ask_shape}

-- the reply that alone is told so, where it shows something and lists nothing
abbrev reply_from : ToldAnswer → Option Reply
reply_from (told.Mounted m) = Some (reply.Mounted m)
reply_from (told.Same m) = Some (reply.Same m)
reply_from (told.Differs m offset found wanted) = Some (reply.Differs m offset found wanted)
reply_from (told.Length m size wanted) = Some (reply.Length m size wanted)
reply_from (told.Bytes m bytes) = Some (reply.Bytes m bytes)
reply_from (told.NotFound m) = Some (reply.NotFound m)
reply_from (told.IsDirectory m) = Some (reply.IsDirectory m)
reply_from t = None

-- each other reply is told otherwise
back : (r : Reply) → (reply_from (reply_told r) ≡ Some r) ⊎ (reply_from (reply_told r) ≡ None)
back (reply.Mounted m) = inl refl
back (reply.Same m) = inl refl
back (reply.Differs m offset found wanted) = inl refl
back (reply.Length m size wanted) = inl refl
back (reply.Bytes m bytes) = inl refl
back (reply.NotFound m) = inl refl
back (reply.IsDirectory m) = inl refl
back r = inr refl

-- what is told of such a reply is told of no other
told_alone : (r : Reply) → reply_from (reply_told r) ≡ Some r → listed_of r ≡ [] → IsAnswerTold (reply_told r) [] r
told_alone r is none = record {
  told = refl;
  lines = none;
  alone = λ files c other fits same listed. elim (back other) [
    | inl own ↦ same_Some other r (sym own ∙ ap (λ (t : ToldAnswer). reply_from t) same ∙ is)
    | inr not ↦ let e : None ≡ Some r = sym not ∙ ap (λ (t : ToldAnswer). reply_from t) same ∙ is in absurd cc
  ];
}

-- Checks.

-- a first path that is named just where some path differs is told
first_same : (b : Bool) (first : Option (List ℕ)) → is_some first ≡ not b → first_told b first ≡ first
first_same true None names = refl
first_same true (Some path) names = absurd cc
first_same false None names = absurd cc
first_same false (Some path) names = refl

-- so all of such a check is
pub named_told : (counts : Checked) → NamesFirst counts → checked_told counts ≡ counts
named_told counts names = ap (λ (o : Option (List ℕ)). record counts { first = o }) (first_same (none_differs counts.missing counts.extra counts.changed) counts.first names)

-- what is told of a check is told of no other reply
counted_told : (m : ℕ) (counts : Checked) → NamesFirst counts → IsAnswerTold (told.Checked m (checked_told counts)) [] (reply.Checks m counts)
counted_told m counts names = record { told = refl; lines = refl; alone = λ files c other fits same listed. by files c other fits same }
  where
    by : (files : List File) (c : Cmd) (other : Reply) → AskFits files c other → reply_told other ≡ told.Checked m (checked_told counts) → other ≡ reply.Checks m counts
    by files c (reply.Checks n given) fits same =
        let many : n ≡ m = cc in
        let told_same : checked_told given ≡ checked_told counts = cc in
        ap₂ (λ (k : ℕ) (x : Checked). reply.Checks k x) many (sym (named_told given (counts_named files c n given fits)) ∙ told_same ∙ named_told counts names)
    by files c other fits same = absurd cc

-- Answers.

-- what such an answer is
record IsShownReply (a : HostAnswer) (r : Reply) : Type 0 where
  told : IsAnswerTold (reply_told r) [] r
  class : reply_class r ≡ Showing (entries_in a)

-- by its kind
shown_reply : (a : HostAnswer) → IsShownAnswer a → IsStepAnswer a → (r : Reply) × (answer_of a ≡ Replied r) × IsShownReply a r
shown_reply (given.Mounted m) is all = (reply.Mounted m, refl, record { told = told_alone (reply.Mounted m) refl refl; class = refl })
shown_reply (given.Same m) is all = (reply.Same m, refl, record { told = told_alone (reply.Same m) refl refl; class = refl })
shown_reply (given.Differs m offset found wanted) is all =
    (reply.Differs m offset found wanted, refl, record { told = told_alone (reply.Differs m offset found wanted) refl refl; class = refl })
shown_reply (given.Length m size wanted) is all = (reply.Length m size wanted, refl, record { told = told_alone (reply.Length m size wanted) refl refl; class = refl })
shown_reply (given.Bytes m bytes) is all = (reply.Bytes m bytes, refl, record { told = told_alone (reply.Bytes m bytes) refl refl; class = refl })
shown_reply (given.NotFound m) is all = (reply.NotFound m, refl, record { told = told_alone (reply.NotFound m) refl refl; class = refl })
shown_reply (given.IsDirectory m) is all = (reply.IsDirectory m, refl, record { told = told_alone (reply.IsDirectory m) refl refl; class = refl })
shown_reply (given.Checks m counts) is all = (reply.Checks m counts, refl, record { told = counted_told m counts all; class = refl })
shown_reply a is all = absurd is

-- so of its reply
shown_is : (a : HostAnswer) → IsShownAnswer a → IsStepAnswer a → (r : Reply) → answer_of a ≡ Replied r → IsShownReply a r
shown_is a is all r same =
    let one = shown_reply a is all in
    let e : one.0 ≡ r = same_Some one.0 r (ap reply_in (sym one.1 ∙ same)) in
    subst (IsShownReply a) e one.2
  where
    reply_in : Answer → Option Reply
    reply_in (Replied r) = Some r
    reply_in (MediaFault at) = None

-- no other reply tells the same
pub is_told : (a : HostAnswer) → IsShownAnswer a → IsStepAnswer a → (r : Reply) → answer_of a ≡ Replied r → (t : ToldAnswer) → t ≡ answer_told (answer_of a) → IsAnswerTold t [] r
is_told a is all r same t told = subst (λ (u : ToldAnswer). IsAnswerTold u [] r) (sym (told ∙ ap (λ (k : Answer). answer_told k) same)) (shown_is a is all r same).told

-- it is of so many entries
pub is_of : (a : HostAnswer) → IsShownAnswer a → IsStepAnswer a → (r : Reply) → answer_of a ≡ Replied r → reply_class r ≡ Showing (entries_in a)
is_of a is all r same = (shown_is a is all r same).class

-- Logs that are played.

-- the tree that a log's entries make is theirs alone
pub played_told : (m : ℕ) (es : List Entry) → rise_behind None es ≡ true → IsAnswerTold (told.Played m) es (reply.Played m (replay es))
played_told m es rises = record {
  told = refl;
  lines = replayed_values es (in_order es rises);
  alone = λ files c other fits same listed. by files c other fits same listed;
}
  where
    by : (files : List File) (c : Cmd) (other : Reply) → AskFits files c other → reply_told other ≡ told.Played m → listed_of other ≡ es → other ≡ reply.Played m (replay es)
    by files c (reply.Played n tree) fits same listed =
        let count : n ≡ m = cc in
        let logplay = subst (λ (k : Cmd). AskFits files k (reply.Played n tree)) (ask_shape files [] c (reply.Played n tree) fits).0 fits in
        let all : reply.Played (length files) (replay (entries_of files)) ≡ reply.Played n tree = same_Some _ _ logplay in
        let made : replay (entries_of files) ≡ tree = cc in
        ap₂ (λ (k : ℕ) (x : Tree). reply.Played k x) count (sym (values_replayed tree (subst IsKeyed made (keyed_replay (entries_of files)))) ∙ ap replay listed)
    by files c other fits same listed = absurd cc

-- the reply of such an answer
pub played_is : (a : HostAnswer) (m : ℕ) (entries : Vec Entry Global) (r : Reply) → a ≡ given.Played m entries → answer_of a ≡ Replied r → reply.Played m (replay entries.items) ≡ r
played_is a m entries r is same =
    let e : Replied (reply.Played m (replay entries.items)) ≡ Replied r = sym (ap answer_of is) ∙ same in cc

-- Faults.

-- an answer of no other kind is a fault of the media
pub rest_fault : (a : HostAnswer) → (IsPlainAnswer a → ⊥) → (IsShownAnswer a → ⊥) → ((m : ℕ) (entries : Vec Entry Global) → a ≡ given.Played m entries → ⊥)
    → (r : Reply) → answer_of a ≡ Replied r → ⊥
rest_fault (given.Appended seq) plain shown played r is = plain tt
rest_fault (given.NotAppended why) plain shown played r is = plain tt
rest_fault (given.Played m entries) plain shown played r is = played m entries refl
rest_fault (given.Reports report) plain shown played r is = plain tt
rest_fault (given.NoSuperblock fault) plain shown played r is = plain tt
rest_fault (given.BadHeader fault) plain shown played r is = plain tt
rest_fault (given.BadSlot seq why) plain shown played r is = plain tt
rest_fault (given.MediaFault at) plain shown played r is = absurd cc
rest_fault a plain shown played r is = shown tt
