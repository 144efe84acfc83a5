-- The text of a journal that is explained is legal, whatever verdict says so.
use Rattle.std.proofs.Common.{◌≡◌, ℕ, ◌+◌, List, [], ◌∷◌, ◌++◌, Some, None, refl, ap, sym, subst, ◌∙◌, append_assoc}
use Rattle.fam_base.specs.Image.{Image}
use Rattle.fam_journal.specs.Notes.{Replied, MediaFault, Note, Host, Made, Cut, Start, Mark, Found, Writes, Answered, Stop, Halt, Umount, Refused}
use Rattle.fam_judge.specs.Explained.{IsExplained}
use Rattle.fam_judge.proofs.Explaining.{first_explained}
use Rattle.fam_judging.specs.Texts.{IsLegal, RecordsTell, names_after_note}
use Rattle.fam_lines.specs.Behind.{behind_note, behind_reply, further}
use Rattle.fam_outcomes.specs.Texts.{names_after, render}
use Rattle.fam_records.specs.Histories.{History, history_in}
use Rattle.fam_records.specs.Records.{Recorded}
use Rattle.fam_records.specs.ToldRecords.{AreTellingRecords, further_told, lines_of_note, records_told, reply_further}
use Rattle.fam_records.proofs.ReadRecords.{journal_read}
use Rattle.fam_rules.specs.Reply as reply
use Rattle.fam_rules.specs.Reply.{Reply}
use Rattle.fam_causes.specs.declared.kinds.Cause.{Cause}
use Rattle.fam_verdict.specs.declared.verdict.Known.{Known}
use Rattle.fam_verdict.specs.declared.verdict.Verdict.{Verdict}
use Rattle.fam_verdict.specs.declared.verdict.Verdict.TheVariants as verdict
use Rattle.fam_verdict.specs.Verdicts.{IsIllegalAt, Says}

-- Both say the same names behind a note, and the same lines behind its first one.

names_same : (names : List (List ℕ)) (note : Note) → names_after names note ≡ names_after_note names note
names_same names (Host name uuid) = refl
names_same names (Made h p) = refl
names_same names (Cut h k) = refl
names_same names (Start h cmd) = refl
names_same names (Mark h) = refl
names_same names (Found h n) = refl
names_same names (Writes h seq e) = refl
names_same names (Answered h answer) = refl
names_same names (Stop h) = refl
names_same names (Halt h) = refl
names_same names (Umount h) = refl
names_same names (Refused name cause) = refl

reply_same : (given : Reply) → behind_reply given ≡ further (reply_further given).0 (reply_further given).1
reply_same (reply.Appended seq) = refl
reply_same (reply.NotAppended why) = refl
reply_same (reply.Played m tree) = refl
reply_same (reply.Mounted m) = refl
reply_same (reply.Same m) = refl
reply_same (reply.Differs m offset found wanted) = refl
reply_same (reply.Length m size wanted) = refl
reply_same (reply.Bytes m bytes) = refl
reply_same (reply.NotFound m) = refl
reply_same (reply.IsDirectory m) = refl
reply_same (reply.Checks m checked) = refl
reply_same (reply.Reports report) = refl
reply_same (reply.NoSuperblock fault) = refl
reply_same (reply.BadHeader fault) = refl
reply_same (reply.BadSlot seq why) = refl

behind_same : (note : Note) → behind_note note ≡ further (further_told note).0 (further_told note).1
behind_same (Host name uuid) = refl
behind_same (Made h p) = refl
behind_same (Cut h k) = refl
behind_same (Start h cmd) = refl
behind_same (Mark h) = refl
behind_same (Found h n) = refl
behind_same (Writes h seq e) = refl
behind_same (Answered h (Replied given)) = reply_same given
behind_same (Answered h (MediaFault at)) = refl
behind_same (Stop h) = refl
behind_same (Halt h) = refl
behind_same (Umount h) = refl
behind_same (Refused name cause) = refl

-- what is told of notes tells them
records_tell : (names : List (List ℕ)) (notes : List Note) (n : ℕ) → RecordsTell names (records_told n names notes) notes
records_tell names [] n = tt
records_tell names (note ∷ notes) n = (
  record { first = refl; behind = behind_same note },
  subst (λ (later : List (List ℕ)). RecordsTell later (records_told (n + lines_of_note note) (names_after names note) notes) notes) (names_same names note)
      (records_tell (names_after names note) notes (n + lines_of_note note)),
)

-- notes in two parts, of which records tell the first
record Parts (names : List (List ℕ)) (records : List Recorded) (notes : List Note) : Type 0 where
  front : List Note
  back : List Note
  whole : front ++ back ≡ notes
  tells : RecordsTell names records front

-- the first records tell the first notes
cut : (names : List (List ℕ)) (front back : List Recorded) (notes : List Note) → RecordsTell names (front ++ back) notes → Parts names front notes
cut names [] back notes tell = record { front = []; back = notes; whole = refl; tells = tt }
cut names (r ∷ front) back [] tell = absurd tell
cut names (r ∷ front) back (note ∷ notes) tell =
    let later = cut (names_after_note names note) front back notes tell.1 in
    record { front = note ∷ later.front; back = later.back; whole = ap (λ (l : List Note). note ∷ l) later.whole; tells = (tell.0, later.tells) }

module _ (start : Image) (journal : List Note) (are : AreTellingRecords [] journal) (is : IsExplained start journal) where
  all_tell : RecordsTell [] (history_in (render journal)).records journal
  all_tell = subst (λ (h : History). RecordsTell [] h.records journal) (sym (journal_read journal are)) (records_tell [] journal 1)

  -- no first lines are illegal
  none_illegal : (number : ℕ) (cause : Cause) → IsIllegalAt start (history_in (render journal)).records number cause → (said : Verdict) → (known : Known) × (said ≡ verdict.Legal known)
  none_illegal number cause at said =
      let split : (history_in (render journal)).records ≡ (at.before ++ at.first ∷ []) ++ at.behind = at.whole ∙ sym (append_assoc at.before (at.first ∷ []) at.behind) in
      let part = cut [] (at.before ++ at.first ∷ []) at.behind journal (subst (λ (records : List Recorded). RecordsTell [] records journal) split all_tell) in
      let legal : IsLegal start (at.before ++ at.first ∷ []) =
      (part.front, part.tells, first_explained start part.front part.back (subst (IsExplained start) (sym part.whole) is)) in
      absurd (at.illegal legal)

  -- no line is bad
  none_bad : (number column : ℕ) → (history_in (render journal)).bad ≡ Some (number, column) → (said : Verdict) → (known : Known) × (said ≡ verdict.Legal known)
  none_bad number column bad said =
      let none : (history_in (render journal)).bad ≡ None = ap (λ (h : History). h.bad) (journal_read journal are) in
      absurd cc

-- the verdict that says what is so is that it is legal
pub is_legal : (start : Image) (journal : List Note) (said : Verdict) → AreTellingRecords [] journal → IsExplained start journal
    → Says start (render journal) said → (known : Known) × (said ≡ verdict.Legal known)
is_legal start journal (verdict.Legal known) are is says = (known, refl)
is_legal start journal (verdict.Illegal number cause) are is says = none_illegal start journal are is number cause says (verdict.Illegal number cause)
is_legal start journal (verdict.BadLine number column) are is says = none_bad start journal are is number column says.bad (verdict.BadLine number column)
