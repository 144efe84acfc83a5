-- Journals of a mailbox: what notes settle one behind another, and that the notes of a turn are legal.
use Rattle.std.proofs.Common.{◌≡◌, ℕ, List, [], ◌∷◌, ◌++◌, length, refl, sym, ap, subst, ◌∙◌, arith}
use Rattle.std.specs.Prelude.{cond, Bool, true, false, Option, Some, None}
use Rattle.std.proofs.lemmas.Bool.{eq-eqb, le-ltb, lt-ltb, ne_eqb}
use Rattle.fam_base.specs.PathOrder.{path_eq}
use Rattle.fam_mail.specs.declared.ask.Ask.{Ask}
use Rattle.fam_mail.specs.declared.note.MailNote.{MailNote}
use Rattle.fam_mail.specs.declared.turn.Turn.{Turn}
use Rattle.fam_mail.specs.declared.turn.Turn.TheVariants.{Go, Mark, Found, Posted, Full, Taken, BadBox, BadRecord}
use Rattle.fam_mail.specs.Calls.{notes_of_turn}
use Rattle.fam_mail.specs.Legal.{Allows, LegalMailBehind, MayCome, MailState, asked_behind, due_behind, floor_behind, mail_settled_behind, own_record, says_full, mail_state_along, mail_state_behind}
use Rattle.fam_mail.specs.Mail.{IsPosted, TaskMaySay, floor_behind_turn, records_found, posted_by, settles}

-- what two journals tell, one behind the other
pub state_both : (capacity : ℕ) (s : MailState) (a b : List MailNote) → mail_state_along capacity s (a ++ b) ≡ mail_state_along capacity (mail_state_along capacity s a) b
state_both capacity s [] b = refl
state_both capacity s (x ∷ a) b = state_both capacity (mail_state_behind capacity s x) a b

-- two legal ones make a legal one
pub legal_both : (capacity : ℕ) (s : MailState) (a b : List MailNote) → LegalMailBehind capacity s a → LegalMailBehind capacity (mail_state_along capacity s a) b → LegalMailBehind capacity s (a ++ b)
legal_both capacity s [] b none legal = legal
legal_both capacity s (x ∷ a) b before legal = (before.0, legal_both capacity (mail_state_behind capacity s x) a b before.1 legal)

-- nothing is due at the end
pub legal_due : (capacity : ℕ) (s : MailState) (a : List MailNote) → LegalMailBehind capacity s a → (mail_state_along capacity s a).due ≡ None
legal_due capacity s [] none = none
legal_due capacity s (x ∷ a) legal = legal_due capacity (mail_state_behind capacity s x) a legal.1

-- a note within
pub legal_at : (capacity : ℕ) (s : MailState) (before : List MailNote) (x : MailNote) (behind : List MailNote) → LegalMailBehind capacity s (before ++ x ∷ behind)
    → MayCome capacity (mail_state_along capacity s before) x
legal_at capacity s [] x behind legal = legal.0
legal_at capacity s (y ∷ before) x behind legal = legal_at capacity (mail_state_behind capacity s y) before x behind legal.1

-- The notes of a turn, of a host of this name that was asked so.
module _ (capacity : ℕ) (name : List ℕ) (s : MailState) (ask : Ask) (asked : s.asked name ≡ Some ask) where
  abbrev own : own_record (s.asked name) ≡ posted_by ask
  own = ap own_record asked

  module _ (due : s.due ≡ None) where
    -- the notes of a turn that a task may take are legal
    pub turn_legal : (t : Turn) → TaskMaySay t ask (s.floor name) s.mail capacity → LegalMailBehind capacity s (notes_of_turn name t)
    turn_legal Go says = due
    turn_legal Mark says = (record { full = sym due; row = tt }, refl)
    turn_legal (Found n) says = (record { full = sym due; row = says.0 }, ap (λ (b : Bool). cond b (Some name) None) (ne_eqb n capacity (λ e. absurd (omega (arith, e, says.1)))))
    turn_legal (Posted n) says = (record { full = sym due; row = subst (λ (o : Option (List ℕ)). IsPosted n o s.mail) (sym own) says }, refl)
    turn_legal (Full n) says = (
      record { full = sym due; row = says.0 },
      (record { full = sym (ap (λ (b : Bool). cond b (Some name) None) (eq-eqb n capacity says.1)); row = says.1 }, refl),
    )
    turn_legal (Taken records) says = (record { full = sym due; row = record { count_is = refl; front = says } }, refl)
    turn_legal (BadBox gate most) says = absurd says
    turn_legal (BadRecord i word) says = absurd says

  -- they settle what the turn does
  pub turn_mail : (t : Turn) → TaskMaySay t ask (s.floor name) s.mail capacity → (mail_state_along capacity s (notes_of_turn name t)).mail ≡ settles t ask s.mail
  turn_mail (Found n) says =
      ap (λ (b : Bool). cond b (record (records_found n s.mail) { pending = own_record (s.asked name) }) (records_found n s.mail)) (lt-ltb n capacity says.1)
      ∙ ap (λ (o : Option (List ℕ)). record (records_found n s.mail) { pending = o }) own
  turn_mail (Full n) says = ap (λ (b : Bool). cond b (record (records_found n s.mail) { pending = own_record (s.asked name) }) (records_found n s.mail)) (le-ltb n capacity (omega (arith, says.1)))
  turn_mail other says = refl

-- marks
module _ (capacity : ℕ) (name : List ℕ) (s : MailState) where
  -- and tell its mark
  pub turn_floor : path_eq name name ≡ true → (t : Turn) → (mail_state_along capacity s (notes_of_turn name t)).floor name ≡ floor_behind_turn t (length s.mail.list) (s.floor name)
  turn_floor same Mark = ap (λ (b : Bool). cond b (Some (length s.mail.list)) (s.floor name)) same
  turn_floor same other = refl

  -- but no other host's
  pub others_floor : (other : List ℕ) → path_eq other name ≡ false → (t : Turn) → (mail_state_along capacity s (notes_of_turn name t)).floor other ≡ s.floor other
  others_floor other differ Mark = ap (λ (b : Bool). cond b (Some (length s.mail.list)) (s.floor other)) differ
  others_floor other differ rest = refl

  -- no turn asks for anything
  pub turn_asked : (t : Turn) → (mail_state_along capacity s (notes_of_turn name t)).asked ≡ s.asked
  turn_asked Go = refl
  turn_asked other = refl

-- Notes that change nothing that is settled, marked or asked, and may come anywhere.
pub record IsPlain (capacity : ℕ) (x : MailNote) : Type 0 where
  pub mail : (s : MailState) → mail_settled_behind capacity s x ≡ s.mail
  pub floor : (s : MailState) → floor_behind s x ≡ s.floor
  pub asked : (s : MailState) → asked_behind s x ≡ s.asked
  pub due : due_behind capacity x ≡ None
  pub full : says_full x ≡ None
  pub row : (s : MailState) → Allows capacity s x
