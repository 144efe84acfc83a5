-- A bad state with an image that was handed in is that image's own: notes keep it or end it, and it never comes back.
use Rattle.std.proofs.Common.{◌≡◌, ℕ, zero, suc, ◌+◌, ◌≤◌, Bool, true, false, List, [], ◌∷◌, ◌++◌, length, Option, Some, None, refl, ap, sym, ◌∙◌, arith}
use Rattle.std.specs.Prelude.{◌==◌, nat_lt, if◌then◌else◌, Result, Ok, Err}
use Rattle.std.proofs.lemmas.Bool.Decides.{nat_tests}
use Rattle.fam_base.specs.declared.entry.Entry.{Entry}
use Rattle.fam_base.specs.declared.entry.Params.{Params}
use Rattle.fam_base.specs.Image.{Image}
use Rattle.fam_format.specs.declared.faults.LogFault.{LogFault}
use Rattle.fam_format.specs.declared.faults.Reason.{Reason}
use Rattle.fam_format.specs.declared.faults.SuperFault.{SuperFault}
use Rattle.fam_format.specs.declared.faults.SuperFault.TheVariants as super
use Rattle.fam_format.specs.Layout.{least_lines, log_line}
use Rattle.fam_format.specs.Log.{gate_fault, log_fault}
use Rattle.fam_format.specs.Reading as read
use Rattle.fam_format.specs.Reading.{Lines, Reading, gate_in, joined_or, read_below, read_log, read_slots, read_super, reading, reading_of, slot_in, slot_or, super_in}
use Rattle.fam_format.specs.Tree.{join_fault}
use Rattle.fam_machine.specs.Mkfs.{first_sent}
use Rattle.fam_rules.specs.Asks.{File}
use Rattle.fam_rules.specs.Reply.{Reply}
use Rattle.fam_journal.specs.Laws.{IsOwnDamage}
use Rattle.fam_journal.proofs.Settled.ReplyCases.{replied_by}
use Rattle.fam_journal.specs.Notes.{Answer, Replied, MediaFault, Note, Made, Cut, Found, Writes, Answered}
use Rattle.fam_journal.specs.Past.{Damage, FewLines, NoSuperblock, Given, Halted, Origin, State, Bad, Sound, Past, acknowledges, ended_state, finds, first_past, first_state, past_after, past_behind, past_of, pends, replied, shows, state_after, state_read, with_pending}

-- no sound state is bad
no_bad : {p : Params} {history : List File} {pending : Option File} {i : Origin} {d : Damage} {g : ℕ} → Sound p history pending ≡ Bad i d g → ⊥
no_bad e = absurd cc

module _ (i : Image) (d : Damage) (g : ℕ) where
  either_sound : (t : Bool) (p q : Params) (a b : List File) (x y : Option File) → (if t then Sound p a x else Sound q b y) ≡ Bad (Given i) d g → ⊥
  either_sound true p q a b x y e = no_bad e
  either_sound false p q a b x y e = no_bad e

  was_shown : (m : ℕ) (s : State) → shows m s ≡ Bad (Given i) d g → s ≡ Bad (Given i) d g
  was_shown m (Bad image own gate) e = e
  was_shown m (Sound p history pending) e = absurd (either_sound (m == length history + 1) p p (with_pending history pending) history None pending e)

  was_found : (n : ℕ) (s : State) → finds n s ≡ Bad (Given i) d g → s ≡ Bad (Given i) d g
  was_found n (Bad image own gate) e = e
  was_found n (Sound p history pending) e = go (n == length history) e
    where
      go : (t : Bool) → (if t then Sound p history None else shows n (Sound p history pending)) ≡ Bad (Given i) d g → Sound p history pending ≡ Bad (Given i) d g
      go true e = absurd (no_bad e)
      go false e = was_shown n (Sound p history pending) e

  was_acknowledged : (seq : ℕ) (s : State) → acknowledges seq s ≡ Bad (Given i) d g → s ≡ Bad (Given i) d g
  was_acknowledged seq (Bad image own gate) e = e
  was_acknowledged seq (Sound p history pending) e = absurd (either_sound (seq == length history) p p (with_pending history pending) history None pending e)

  was_pending : (f : File) (s : State) → pends f s ≡ Bad (Given i) d g → s ≡ Bad (Given i) d g
  was_pending f (Bad image own gate) e = e
  was_pending f (Sound p history pending) e = absurd (no_bad e)

  was_replied : (given : Reply) (s : State) → replied given s ≡ Bad (Given i) d g → s ≡ Bad (Given i) d g
  was_replied = replied_by (λ f. (s : State) → f s ≡ Bad (Given i) d g → s ≡ Bad (Given i) d g) (λ s e. e) was_shown was_acknowledged

  was_ended : (answer : Answer) (s : State) → ended_state answer s ≡ Bad (Given i) d g → s ≡ Bad (Given i) d g
  was_ended (Replied given) s e = was_replied given s e
  was_ended (MediaFault at) s e = e

  was_cut : (early : Bool) (s : State) → (if early then s else Bad Halted (NoSuperblock (super.NoSuper 0)) 0) ≡ Bad (Given i) d g → s ≡ Bad (Given i) d g
  was_cut true s e = e
  was_cut false s e = absurd cc

  was_before : (x : Past) (note : Note) → state_after x note ≡ Bad (Given i) d g → x.state ≡ Bad (Given i) d g
  was_before x (Made h p) e = absurd (no_bad e)
  was_before x (Cut h k) e = was_cut (nat_lt k first_sent) x.state e
  was_before x (Found h n) e = was_found n x.state e
  was_before x (Writes h seq entry) e = was_pending _ x.state e
  was_before x (Answered h answer) e = was_ended answer x.state e
  was_before x c e = e

  was_first : (notes : List Note) (x : Past) → (past_behind x notes).state ≡ Bad (Given i) d g → x.state ≡ Bad (Given i) d g
  was_first [] x e = e
  was_first (note ∷ notes) x e = was_before x note (was_first notes (past_after x note) e)

  -- a journal's bad state is the first one, where it has an image that was handed in
  pub bad_first : (start : Image) (journal : List Note) → (past_of start journal).state ≡ Bad (Given i) d g → first_state start ≡ Bad (Given i) d g
  bad_first start journal e = was_first journal (first_past start) e

-- an image's own bad state has this image
module _ (start image : Image) (damage : Damage) (gate : ℕ) where
  abbrev image_in : State → Image
  image_in (Bad (Given own) d g) = own
  image_in (Bad Halted d g) = start
  image_in (Sound p history pending) = start

  read_own : (r : Reading) → image_in (state_read start r) ≡ start
  read_own (read.NoSuperblock fault) = refl
  read_own e = refl

  first_own : (few : Bool) → image_in (if few then Bad (Given start) (FewLines (length start)) 0 else state_read start (reading start)) ≡ start
  first_own true = refl
  first_own false = read_own (reading start)

  pub first_image : first_state start ≡ Bad (Given image) damage gate → image ≡ start
  first_image e = sym (ap image_in e) ∙ first_own (nat_lt (length start) least_lines)

  -- so a journal's bad state has the image that was handed in
  pub bad_image : (journal : List Note) → (past_of start journal).state ≡ Bad (Given image) damage gate → image ≡ start
  bad_image journal e = first_image (bad_first image damage gate start journal e)

  pub bad_own : (journal : List Note) → (past_of start journal).state ≡ Bad (Given image) damage gate → IsOwnDamage (length start) image damage gate
  bad_own journal e =
      let same = bad_image journal e in
      record { reads = ap first_state same ∙ bad_first image damage gate start journal e; lines_are = ap (λ (x : Image). length x) same }

-- the start image is kept
pub start_kept : (notes : List Note) (x : Past) → (past_behind x notes).start ≡ x.start
start_kept [] x = refl
start_kept (note ∷ notes) x = start_kept notes (past_after x note)

-- the first state of an image with a gate
pub first_read : (start : Image) → least_lines ≤ length start → first_state start ≡ state_read start (reading start)
first_read start enough = go (nat_lt (length start) least_lines) refl
  where
    go : (few : Bool) → nat_lt (length start) least_lines ≡ few → (if few then Bad (Given start) (FewLines (length start)) 0 else state_read start (reading start)) ≡ state_read start (reading start)
    go true is = absurd (grind (arith, nat_tests))
    go false is = refl

-- where the superblock reads, the reading names another fault
module _ (line : Lines) (p : Params) (fault : SuperFault) where
  by_join : (i : ℕ) (o : Option Reason) (rest : Reading) → (rest ≡ read.NoSuperblock fault → ⊥) → joined_or i o rest ≡ read.NoSuperblock fault → ⊥
  by_join i (Some reason) rest never e = absurd cc
  by_join i None rest never e = never e

  by_slot : (i : ℕ) (list : List Entry) (r : Result Entry Reason) (rest : Entry → Reading)
      → ((entry : Entry) → rest entry ≡ read.NoSuperblock fault → ⊥) → slot_or p list i r rest ≡ read.NoSuperblock fault → ⊥
  by_slot i list (Ok entry) rest never e = by_join i (join_fault p list entry) (rest entry) (never entry) e
  by_slot i list (Err reason) rest never e = absurd cc

  not_slots : (k i : ℕ) (list : List Entry) → read_slots line p i k list ≡ read.NoSuperblock fault → ⊥
  not_slots zero i list e = absurd cc
  not_slots (suc k) i list e =
      by_slot i list (slot_in line p i) (λ entry. read_slots line p (i + 1) k (list ++ entry ∷ [])) (λ entry e. not_slots k (i + 1) (list ++ entry ∷ []) e) e

  not_below : (o : Option LogFault) → read_below line p o ≡ read.NoSuperblock fault → ⊥
  not_below (Some f) e = absurd cc
  not_below None e = not_slots (gate_in line) 0 [] e

  not_log : (o : Option LogFault) → read_log line p o ≡ read.NoSuperblock fault → ⊥
  not_log (Some f) e = absurd cc
  not_log None e = not_below (gate_fault (gate_in line) p) e

  pub not_super : (have : ℕ) → super_in line have ≡ Ok p → reading_of line have ≡ read.NoSuperblock fault → ⊥
  unfolding reading_of
  not_super have is e = not_log (log_fault (line log_line) p) (sym (ap (read_super line) is) ∙ e)
