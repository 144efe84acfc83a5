-- A fence, as any lines of a host that are sent whole, one after another.
use Rattle.std.proofs.Common.{ℕ, ◌≡◌, ◌≢◌, ◌⊎◌, inl, inr, List, [], ◌∷◌, refl, ap, ap₂, subst, ◌∙◌}
use Rattle.std.proofs.lemmas.Bool.{false≢true}
use Rattle.fam_machine.specs.declared.cell.Cell.{Cell}
use Rattle.fam_machine.specs.declared.cell.Cell.TheVariants.{Absent, Clean, Dirty}
use Rattle.fam_machine.specs.Fences.{IsAmong}
use Rattle.fam_machine.specs.OneLine.{IsAsked, cleaned, sent}
use Rattle.fam_protocol.specs.SharedState.{SharedState, Sends, all_sent, sends_one}
use Rattle.fam_protocol.proofs.Lines.Free.{same}
use Rattle.fam_refuted.proofs.Runs.{with_line, leaves}

-- one line is sent
abbrev sent_line : ℕ → ℕ → SharedState → SharedState
sent_line h l s = with_line s h l (sent (s.memory l) (s.copy h l)) (cleaned (s.copy h l))

-- these are
pub sent_all : ℕ → List ℕ → SharedState → SharedState
sent_all h [] s = s
sent_all h (l ∷ lines) s = sent_all h lines (sent_line h l s)

pub all_sends : (h : ℕ) (lines : List ℕ) (s : SharedState) → Sends h lines s (sent_all h lines s)
unfolding sent_all
all_sends h [] s = all_sent
all_sends h (l ∷ lines) s = sends_one (leaves s h l (sent (s.memory l) (s.copy h l)) (cleaned (s.copy h l))) (all_sends h lines (sent_line h l s))

-- memory's words of a line and a host's copy are such
record Has (s : SharedState) (h l : ℕ) (w : List ℕ) (c : Cell) : Type 0 where
  words : s.memory l ≡ w
  cell : s.copy h l ≡ c

-- a line was sent
pub record SentAt (h l : ℕ) (s s' : SharedState) : Type 0 where
  pub words : s'.memory l ≡ sent (s.memory l) (s.copy h l)
  pub cell : s'.copy h l ≡ cleaned (s.copy h l)

sent_twice : (m : List ℕ) (c : Cell) → sent (sent m c) (cleaned c) ≡ sent m c
sent_twice m Absent = refl
sent_twice m (Clean w) = refl
sent_twice m (Dirty a w) = refl

cleaned_twice : (c : Cell) → cleaned (cleaned c) ≡ cleaned c
cleaned_twice Absent = refl
cleaned_twice (Clean w) = refl
cleaned_twice (Dirty a w) = refl

pub clean_unasked : (c : Cell) → IsAsked (cleaned c) → ⊥
clean_unasked Absent is = false≢true is
clean_unasked (Clean w) is = false≢true is
clean_unasked (Dirty a w) is = false≢true is

-- a line that is sent shows so
sent_once : (h l : ℕ) (s : SharedState) → SentAt h l s (sent_line h l s)
sent_once h l s =
    let done = leaves s h l (sent (s.memory l) (s.copy h l)) (cleaned (s.copy h l)) in
    record { words = done.memory_is; cell = done.copy_is }

-- a line that is sent stays sent
stays_sent : (h l : ℕ) (words : List ℕ) (cell : Cell) (lines : List ℕ) (s : SharedState) → sent words cell ≡ words → cleaned cell ≡ cell
    → Has s h l words cell → Has (sent_all h lines s) h l words cell
unfolding sent_all
stays_sent h l words cell [] s still clean has = has
stays_sent h l words cell (x ∷ lines) s still clean has =
    stays_sent h l words cell lines (sent_line h x s) still clean
    (elim (same l x) [
      | inl e ↦
          let once : SentAt h l s (sent_line h x s) = subst (λ (k : ℕ). SentAt h l s (sent_line h k s)) e (sent_once h l s) in
          record { words = once.words ∙ ap₂ sent has.words has.cell ∙ still; cell = once.cell ∙ ap cleaned has.cell ∙ clean }
      | inr ne ↦
          let done = leaves s h x (sent (s.memory x) (s.copy h x)) (cleaned (s.copy h x)) in
          record { words = done.only.memory l ne ∙ has.words; cell = done.only.lines h l ne ∙ has.cell }
    ])

-- a line among them is sent
pub sent_there : (h l : ℕ) (lines : List ℕ) (s : SharedState) → IsAmong l lines → SentAt h l s (sent_all h lines s)
unfolding sent_all
sent_there h l [] s among = absurd among
sent_there h l (x ∷ lines) s among =
    elim (same l x) [
      | inl e ↦
          let once : SentAt h l s (sent_line h x s) = subst (λ (k : ℕ). SentAt h l s (sent_line h k s)) e (sent_once h l s) in
          let stays = stays_sent h l (sent (s.memory l) (s.copy h l)) (cleaned (s.copy h l)) lines (sent_line h x s)
          (sent_twice (s.memory l) (s.copy h l)) (cleaned_twice (s.copy h l)) record { words = once.words; cell = once.cell } in
          record { words = stays.words; cell = stays.cell }
      | inr ne ↦
          let done = leaves s h x (sent (s.memory x) (s.copy h x)) (cleaned (s.copy h x)) in
          let later = sent_there h l lines (sent_line h x s) (elim among [ inl e ↦ absurd (ne e) | inr behind ↦ behind ]) in
          record {
            words = later.words ∙ ap₂ sent (done.only.memory l ne) (done.only.lines h l ne);
            cell = later.cell ∙ ap cleaned (done.only.lines h l ne);
          }
    ]

-- others are as before
pub sent_away : (h k l : ℕ) (lines : List ℕ) (s : SharedState) → (IsAmong l lines → ⊥) → ((sent_all h lines s).memory l ≡ s.memory l) × ((sent_all h lines s).copy k l ≡ s.copy k l)
unfolding sent_all
sent_away h k l [] s out = (refl, refl)
sent_away h k l (x ∷ lines) s out =
    let ne : l ≢ x = λ e. out (inl e) in
    let done = leaves s h x (sent (s.memory x) (s.copy h x)) (cleaned (s.copy h x)) in
    let later = sent_away h k l lines (sent_line h x s) (λ among. out (inr among)) in
    (later.0 ∙ done.only.memory l ne, later.1 ∙ done.only.lines k l ne)

pub sent_hosts : (h k l : ℕ) (lines : List ℕ) (s : SharedState) → k ≢ h → (sent_all h lines s).copy k l ≡ s.copy k l
unfolding sent_all
sent_hosts h k l [] s ne = refl
sent_hosts h k l (x ∷ lines) s ne =
    sent_hosts h k l lines (sent_line h x s) ne ∙ (leaves s h x (sent (s.memory x) (s.copy h x)) (cleaned (s.copy h x))).only.hosts k l ne

-- a line is one of these, or isn't
pub among_or_not : (l : ℕ) (lines : List ℕ) → IsAmong l lines ⊎ (IsAmong l lines → ⊥)
among_or_not l [] = inr (λ among. among)
among_or_not l (x ∷ lines) =
    elim (same l x) [
      | inl e ↦ inl (inl e)
      | inr ne ↦ elim (among_or_not l lines) [
        | inl among ↦ inl (inr among)
        | inr out ↦ inr (λ among. elim among [ inl e ↦ ne e | inr later ↦ out later ])
      ]
    ]
