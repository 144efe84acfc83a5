-- The text of a mailbox's notes, piece by piece.
use Rattle.std.proofs.Common.{◌≡◌, ℕ, suc, ◌+◌, ◌-◌, ◌<◌, ◌≤◌, get_or, List, [], ◌∷◌, ◌++◌, length, take, drop, refl, ap, sym, ◌∙◌, subst, inr, arith}
use Rattle.std.proofs.Math.Seq.{take-suc, take-append-add}
use Rattle.std.proofs.lemmas.List.{append-nil, append_assoc, length-drop, take-append-drop, take_all}
use Rattle.std.proofs.lemmas.List.Concat.{flat_map-append}
use Rattle.fam_mail.specs.declared.note.MailNote.{MailNote}
use Rattle.fam_mail_script.specs.Texts.{mail_note_line, mail_text}
use Rattle.fam_media.specs.States.{SinkState, SinkChange}
use Rattle.fam_outcomes.specs.declared.status.Status.{Status}
use Rattle.fam_outcomes.specs.declared.status.Status.TheVariants as status
use Rattle.fam_outcomes.specs.Programs.{memory_line}
use Rattle.fam_program.specs.Puts.{Put, PutPart, PutWhole}
use Rattle.fam_program.proofs.Texts.Pieces.{part_longer, put_second}
use Rattle.fam_mailbox.specs.Puts.{PutShortMail, PutSomeMail}

-- of two lists of notes
pub text_both : (a b : List MailNote) → mail_text (a ++ b) ≡ mail_text a ++ mail_text b
text_both a b = flat_map-append mail_note_line a b

-- of one note more
pub text_taken : (notes : List MailNote) (i : ℕ) (note : MailNote) → i < length notes → note ≡ get_or notes i note → mail_text (take (i + 1) notes) ≡ mail_text (take i notes) ++ mail_note_line note
text_taken notes i note below is =
    let next : i + 1 ≡ suc i = omega arith in
    ap (λ (n : ℕ). mail_text (take n notes)) next
    ∙ ap mail_text (take-suc notes i note below ∙ ap (λ (x : MailNote). take i notes ++ x ∷ []) (sym is))
    ∙ text_both (take i notes) (note ∷ [])
    ∙ ap (λ (t : List ℕ). mail_text (take i notes) ++ t) (append-nil (mail_note_line note))

-- the text of the first ones is a front of that of all
pub text_front : (notes : List MailNote) (k : ℕ) → mail_text notes ≡ mail_text (take k notes) ++ mail_text (drop k notes)
text_front notes k = ap mail_text (sym (take-append-drop k notes)) ∙ text_both (take k notes) (drop k notes)

-- all notes from a place on
pub notes_from : (kept : List MailNote) (from : ℕ) (journal : List MailNote) → kept ≡ journal → take (length kept - from) (drop from kept) ≡ drop from journal
notes_from kept from journal is = take_all (length kept - from) (drop from kept) (let rest = length-drop from kept in omega (arith, rest)) ∙ ap (drop from) is

-- Where no memory is left, a line says so behind some first notes.
module _ (notes : List MailNote) (s : SinkChange) where
  short_text : mail_text notes ++ memory_line ≡ mail_text (take (length notes) notes) ++ memory_line
  short_text = ap (λ (ns : List MailNote). mail_text ns ++ memory_line) (sym (take_all (length notes) notes (omega arith)))

  -- all notes were put before the line that no memory is left
  pub short_whole : (given : Status) → Put status.OutOfMemory (mail_text notes ++ memory_line) s given → PutShortMail notes s given
  short_whole given put = (length notes, subst (λ (t : List ℕ). Put status.OutOfMemory t s given) short_text put)

  -- the sink failed in one of them
  pub short_part : PutPart (mail_text notes) s → PutShortMail notes s status.SinkFault
  short_part x = short_whole status.SinkFault (inr (refl, part_longer (mail_text notes) memory_line s x))

-- no memory was left for the text of the next one
pub short_some : (notes : List MailNote) (old mid new : SinkState) → old.faults ≤ mid.faults → (given : Status) → PutSomeMail notes (record { old = old; new = mid })
    → Put status.OutOfMemory memory_line (record { old = mid; new = new }) given
    → PutShortMail notes (record { old = old; new = new }) given
short_some notes old mid new later given some put =
    (some.0, put_second (mail_text (take some.0 notes)) memory_line old mid new later status.OutOfMemory given some.1 put)

-- behind other notes
pub short_behind : (a notes : List MailNote) (old mid new : SinkState) → old.faults ≤ mid.faults → (given : Status) → PutWhole (mail_text a) (record { old = old; new = mid })
    → PutShortMail notes (record { old = mid; new = new }) given
    → PutShortMail (a ++ notes) (record { old = old; new = new }) given
short_behind a notes old mid new later given whole short =
    let text : mail_text a ++ (mail_text (take short.0 notes) ++ memory_line) ≡ mail_text (take (length a + short.0) (a ++ notes)) ++ memory_line =
    sym (append_assoc (mail_text a) (mail_text (take short.0 notes)) memory_line)
    ∙ ap (λ (t : List ℕ). t ++ memory_line) (sym (text_both a (take short.0 notes)) ∙ ap mail_text (sym (take-append-add a notes short.0))) in (
      length a + short.0,
      subst (λ (t : List ℕ). Put status.OutOfMemory t (record { old = old; new = new }) given) text
          (put_second (mail_text a) (mail_text (take short.0 notes) ++ memory_line) old mid new later status.OutOfMemory given whole short.1),
    )
