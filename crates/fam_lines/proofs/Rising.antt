-- The entries of a listing that is resolved come in the order of their paths.
use Rattle.std.proofs.Common.{◌≡◌, ℕ, Bool, true, false, List, Option, Some, None, refl, sym, subst}
use Rattle.std.specs.Prelude.{◌&&◌, ◌||◌, IfSome, Vec, if◌then◌else◌, is_none, option_map, slice_get}
use Rattle.std.specs.Global.{Global}
use Rattle.std.proofs.lemmas.Option.{same_Some}
use Rattle.fam_base.specs.declared.entry.Entry.{Entry}
use Rattle.fam_rules.specs.declared.answers.Report.{Report}
use Rattle.fam_history.specs.declared.answer.ToldAnswer.{ToldAnswer}
use Rattle.fam_history.specs.declared.answer.ToldAnswer.TheVariants as answer
use Rattle.fam_history.specs.declared.note.LineNote.{LineNote}
use Rattle.fam_history.specs.declared.note.LineNote.TheVariants as told
use Rattle.fam_history.specs.declared.note.ToldLine.{ToldLine}
use Rattle.fam_history.specs.declared.note.ToldParams.{ToldParams}
use Rattle.fam_lines.specs.declared.answer.HostAnswer.{HostAnswer}
use Rattle.fam_lines.specs.declared.answer.HostAnswer.TheVariants as given
use Rattle.fam_lines.specs.declared.host.SeenHost.{SeenHost}
use Rattle.fam_lines.specs.declared.line.Line.{Line}
use Rattle.fam_lines.specs.declared.line.Line.TheVariants as line
use Rattle.fam_lines.specs.Resolved.{agrees, alone, answer_with, answered_line, has_no_further, is_answer, is_empty, is_told}
use Rattle.fam_lines.specs.Resolved.{is_whole_checked, line_of_made, reported, resolved, resolved_refusal, rise_behind, row_line, seen_number, whole_params}
use Rattle.fam_lines.specs.Rising.{ListsRising, RisesIn}

-- what a test lets through
tested : {A : Type 0} (P : A → Type 0) (b : Bool) (o : Option A) (a : A) → (b ≡ true → o ≡ Some a → P a) → (if b then o else None) ≡ Some a → P a
tested P true o a holds e = holds refl e
tested P false o a holds e = absurd cc

-- what is made of something, if any
mapped : {A B : Type 0} (P : B → Type 0) (make : A → B) (o : Option A) (b : B) → ((a : A) → P (make a)) → option_map make o ≡ Some b → P b
mapped P make None b holds e = absurd cc
mapped P make (Some a) b holds e = subst P (same_Some (make a) b e) (holds a)

both : (a b : Bool) → (a && b) ≡ true → b ≡ true
both true b e = e
both false b e = absurd cc

-- Answers.

alone_rises : (entries : List Entry) (report : Option Report) (x a : HostAnswer) → RisesIn x → alone entries report x ≡ Some a → RisesIn a
alone_rises entries report x a rises e =
    tested RisesIn (has_no_further entries report) (Some x) a (λ none is. subst RisesIn (same_Some x a is) rises) e

reported_rises : (sound : Bool) (entries : List Entry) (report : Option Report) (a : HostAnswer) → reported sound entries report ≡ Some a → RisesIn a
reported_rises sound entries None a e = absurd cc
reported_rises sound entries (Some r) a e =
    tested RisesIn (is_empty entries && agrees sound r) (Some (given.Reports r)) a (λ own is. subst RisesIn (same_Some (given.Reports r) a is) tt) e

-- so do the entries of an answer
answer_rises : (t : ToldAnswer) (entries : Vec Entry Global) (report : Option Report) (a : HostAnswer) → answer_with t entries report ≡ Some a → RisesIn a
answer_rises (answer.Ok seq) entries report a is = alone_rises entries.items report (given.Appended seq) a tt is
answer_rises (answer.NotAppended why) entries report a is = alone_rises entries.items report (given.NotAppended why) a tt is
answer_rises (answer.Played m) entries report a is =
    tested RisesIn (is_none report && rise_behind None entries.items) (Some (given.Played m entries)) a
    (λ own e. subst RisesIn (same_Some (given.Played m entries) a e) (both (is_none report) (rise_behind None entries.items) own)) is
answer_rises (answer.Mounted m) entries report a is = alone_rises entries.items report (given.Mounted m) a tt is
answer_rises (answer.Same m) entries report a is = alone_rises entries.items report (given.Same m) a tt is
answer_rises (answer.Differs m offset found wanted) entries report a is = alone_rises entries.items report (given.Differs m offset found wanted) a tt is
answer_rises (answer.Length m size wanted) entries report a is = alone_rises entries.items report (given.Length m size wanted) a tt is
answer_rises (answer.Bytes m bytes) entries report a is = alone_rises entries.items report (given.Bytes m bytes) a tt is
answer_rises (answer.NotFound m) entries report a is = alone_rises entries.items report (given.NotFound m) a tt is
answer_rises (answer.IsDirectory m) entries report a is = alone_rises entries.items report (given.IsDirectory m) a tt is
answer_rises (answer.Checked m c) entries report a is =
    tested RisesIn (is_whole_checked c) (alone entries.items report (given.Checks m c)) a (λ own e. alone_rises entries.items report (given.Checks m c) a tt e) is
answer_rises (answer.Report sound) entries report a is = reported_rises sound entries.items report a is
answer_rises (answer.NoSuperblock fault) entries report a is = alone_rises entries.items report (given.NoSuperblock fault) a tt is
answer_rises (answer.BadHeader fault) entries report a is = alone_rises entries.items report (given.BadHeader fault) a tt is
answer_rises (answer.BadSlot seq why) entries report a is = alone_rises entries.items report (given.BadSlot seq why) a tt is
answer_rises (answer.MediaFault at) entries report a is = alone_rises entries.items report (given.MediaFault at) a tt is

-- Lines.

made_rises : (hosts : List SeenHost) (at : Option ℕ) (p : ToldParams) (l : Line) → line_of_made hosts at p ≡ Some l → ListsRising l
made_rises hosts None p l e = absurd cc
made_rises hosts (Some h) p l e = mapped ListsRising (λ host. line.Made h (whole_params host.uuid p)) (slice_get hosts h) l (λ host. tt) e

answered_rises : (at : Option ℕ) (o : Option HostAnswer) (l : Line) → ((a : HostAnswer) → o ≡ Some a → RisesIn a) → answered_line at o ≡ Some l → ListsRising l
answered_rises None o l rises e = absurd cc
answered_rises (Some h) None l rises e = absurd cc
answered_rises (Some h) (Some a) l rises e = subst ListsRising (same_Some (line.Answered h a) l e) (rises a refl)

module _ (hosts : List SeenHost) (at : Option ℕ) (name : List ℕ) (entries : Vec Entry Global) (report : Option Report) where
  row_rises : (t : LineNote) (l : Line) → row_line hosts at name t entries report ≡ Some l → ListsRising l
  row_rises (told.Host uuid) l e = subst ListsRising (same_Some (line.Host name uuid) l e) tt
  row_rises (told.Made p) l e = made_rises hosts at p l e
  row_rises (told.Cut k) l e = mapped ListsRising (λ h. line.Cut h k) at l (λ h. tt) e
  row_rises (told.Start cmd) l e =
      tested ListsRising (is_told cmd) (option_map (λ h. line.Start h cmd) at) l (λ own is. mapped ListsRising (λ h. line.Start h cmd) at l (λ h. tt) is) e
  row_rises told.Mark l e = mapped ListsRising line.Mark at l (λ h. tt) e
  row_rises (told.Found n) l e = mapped ListsRising (λ h. line.Found h n) at l (λ h. tt) e
  row_rises (told.Writes seq entry) l e = mapped ListsRising (λ h. line.Writes h seq entry) at l (λ h. tt) e
  row_rises (told.Answered t) l e = answered_rises at (answer_with t entries report) l (λ a is. answer_rises t entries report a is) e
  row_rises told.Stop l e = mapped ListsRising line.Stop at l (λ h. tt) e
  row_rises told.Halt l e = mapped ListsRising line.Halt at l (λ h. tt) e
  row_rises told.Umount l e = mapped ListsRising line.Umount at l (λ h. tt) e
  row_rises (told.Refused why) l e = mapped ListsRising (line.Refused name) (resolved_refusal hosts why) l (λ cause. tt) e

-- of a line that is resolved
line_rises : (hosts : List SeenHost) (t : ToldLine) (entries : Vec Entry Global) (report : Option Report) (l : Line) → resolved hosts t entries report ≡ Some l → ListsRising l
line_rises hosts t entries report l e =
    tested ListsRising (is_answer t.note || has_no_further entries.items report) (row_line hosts (seen_number hosts t.name) t.name t.note entries report) l
    (λ own is. row_rises hosts (seen_number hosts t.name) t.name entries report t.note l is) e

-- so it is of a result
pub result_rises : (hosts : List SeenHost) (t : ToldLine) (entries : Vec Entry Global) (report : Option Report) (o : Option Line) → o ≡ resolved hosts t entries report
    → IfSome o ListsRising
result_rises hosts t entries report None is = tt
result_rises hosts t entries report (Some l) is = line_rises hosts t entries report l (sym is)
