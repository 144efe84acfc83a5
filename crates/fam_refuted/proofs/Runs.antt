-- Runs, computed at the lines that they touch.
use Rattle.std.proofs.Common.{ℕ, ◌≡◌, ◌==◌, if◌then◌else◌, Bool, true, false, List, [], ◌∷◌, ◌++◌, map, Option, Some, None, refl, sym, subst, ◌∙◌}
use Rattle.std.specs.Prelude.{slice_index, ◌&&◌}
use Rattle.std.proofs.lemmas.Bool.{false≢true, and_parts, eq-eqb, ne_eqb}
use Rattle.fam_machine.specs.declared.cell.Cell.{Cell}
use Rattle.fam_machine.specs.declared.cell.Cell.TheVariants.{Absent, Clean, Dirty}
use Rattle.fam_machine.specs.declared.op.Op.{Op}
use Rattle.fam_machine.specs.declared.op.Op.TheVariants.{Load, Store, WriteBack, Fence, Invalidate, Digest}
use Rattle.fam_machine.specs.OneLine.{asked_for, brought, cleaned, current, sent, stored}
use Rattle.fam_machine.specs.Operations.{given_by, line_no}
use Rattle.fam_machine.specs.Moves as machine
use Rattle.fam_machine.proofs.Transferring.{brought_transfers, cleaned_transfers}
use Rattle.fam_protocol.specs.SharedState.{SharedState, ChangesOnly, LeavesAt, Operates}
use Rattle.fam_protocol.proofs.Lines.Free.{transfers_at}
use Rattle.fam_refuted.specs.Refused.{Step, Does, Transfers, RanSteps, ends, goes, moves, with_first}

-- Runs one behind the other.

first_before : (o : Option ℕ) (us vs : List ℕ) → with_first o us ++ vs ≡ with_first o (us ++ vs)
first_before None us vs = refl
first_before (Some word) us vs = refl

-- a run goes on with another one
pub ran_on : {xs ys : List Step} {us vs : List ℕ} {s s' s'' : SharedState} → RanSteps xs us s s' → RanSteps ys vs s' s'' → RanSteps (xs ++ ys) (us ++ vs) s s''
ran_on ends more = more
ran_on {ys = ys} {vs = vs} {s = s} {s'' = s''} (goes {host = host} {op = op} {more = next} {words = words} word first rest) more =
    subst (λ (ws : List ℕ). RanSteps (Does host op ∷ next ++ ys) ws s s'') (sym (first_before (given_by op word) words vs)) (goes word first (ran_on rest more))
ran_on (moves first rest) more = moves first (ran_on rest more)

-- One line of memory and one copy of it are replaced.

abbrev pub with_line : SharedState → ℕ → ℕ → List ℕ → Cell → SharedState
with_line s host line words cell = record {
  memory = λ l. if l == line then words else s.memory l;
  copy = λ h l. if h == host then (if l == line then cell else s.copy h l) else s.copy h l;
}

pub leaves : (s : SharedState) (host line : ℕ) (words : List ℕ) (cell : Cell) → LeavesAt host line s (with_line s host line words cell) words cell
leaves s host line words cell = record {
  only = record {
    memory = λ l ne. rw (ne_eqb l line ne) refl;
    lines = λ h l ne. rw (ne_eqb l line ne) (both (h == host) (s.copy h l));
    hosts = λ h l ne. rw (ne_eqb h host ne) refl;
  };
  memory_is = rw (eq-eqb line line refl) refl;
  copy_is = rw (eq-eqb line line refl, eq-eqb host host refl) refl;
}
  where
    both : (b : Bool) (x : Cell) → (if b then x else x) ≡ x
    both true x = refl
    both false x = refl

unchanged : (host line : ℕ) (s : SharedState) → ChangesOnly host line s s
unchanged host line s = record { memory = λ l ne. refl; lines = λ h l ne. refl; hosts = λ h l ne. refl }

changes_on : (host line : ℕ) (s s' s'' : SharedState) → ChangesOnly host line s s' → ChangesOnly host line s' s'' → ChangesOnly host line s s''
changes_on host line s s' s'' a b = record {
  memory = λ l ne. b.memory l ne ∙ a.memory l ne;
  lines = λ h l ne. b.lines h l ne ∙ a.lines h l ne;
  hosts = λ h l ne. b.hosts h l ne ∙ a.hosts h l ne;
}

-- What steps of one host make of one line of memory and its copy.

pub record Here : Type 0 where
  pub words : List ℕ
  pub cell : Cell

abbrev pub here : List ℕ → Cell → Here
here words cell = record { words = words; cell = cell }

-- an operation at another line
abbrev pub at_line : ℕ → Op → Op
at_line l (Load line k) = Load (line_no l) k
at_line l (Store line k value) = Store (line_no l) k value
at_line l (WriteBack line) = WriteBack (line_no l)
at_line l (Invalidate line) = Invalidate (line_no l)
at_line l Fence = Fence
at_line l Digest = Digest

-- a step of another host, at another line
abbrev pub placed : ℕ → ℕ → Step → Step
placed h l (Does host op) = Does h (at_line l op)
placed h l (Transfers host line) = Transfers h l

-- what an operation leaves
abbrev pub made_by : Op → Here → Here
made_by (Load line k) x = here x.words (brought x.words x.cell)
made_by (Store line k value) x = here x.words (stored k value x.words x.cell)
made_by (WriteBack line) x = here x.words (asked_for x.cell)
made_by (Invalidate line) x = here (sent x.words x.cell) Absent
made_by Fence x = x
made_by Digest x = x

abbrev pub word_by : Op → Here → ℕ
word_by (Load line k) x = slice_index (current x.words x.cell) k
word_by other x = 0

-- what a step leaves: a line that moves by itself is fetched where it is absent, and sent where it is dirty
abbrev pub left : Step → Here → Here
left (Does host op) x = made_by op x
left (Transfers host line) x = here (sent x.words x.cell) (cleaned (brought x.words x.cell))

-- the word that it gives
abbrev pub gives : Step → Here → Option ℕ
gives (Does host op) x = given_by op (word_by op x)
gives (Transfers host line) x = None

abbrev pub left_all : List Step → Here → Here
left_all [] x = x
left_all (step ∷ more) x = left_all more (left step x)

abbrev pub give_all : List Step → Here → List ℕ
give_all [] x = []
give_all (step ∷ more) x = with_first (gives step x) (give_all more (left step x))

-- an operation at one line, or at none
abbrev pub is_here : Op → Bool
is_here Fence = false
is_here other = true

-- a step at one line
abbrev pub is_step_here : Step → Bool
is_step_here (Does host op) = is_here op
is_step_here (Transfers host line) = true

abbrev pub are_here : List Step → Bool
are_here [] = true
are_here (step ∷ more) = is_step_here step && are_here more

-- a line that moves by itself
settled_transfers : (m : List ℕ) (c : Cell) → machine.Transfers m c (sent m c) (cleaned (brought m c))
settled_transfers m Absent = brought_transfers m Absent
settled_transfers m (Clean w) = cleaned_transfers m (Clean w)
settled_transfers m (Dirty a w) = cleaned_transfers m (Dirty a w)

-- memory and a host's copy of this line are such
pub record Shows (s : SharedState) (h l : ℕ) (x : Here) : Type 0 where
  pub words : s.memory l ≡ x.words
  pub cell : s.copy h l ≡ x.cell

-- an operation may be done
pub record Done (h l : ℕ) (op : Op) (x : Here) (s : SharedState) : Type 0 where
  pub next : SharedState
  pub operates : Operates (at_line l op) h s next (word_by op x)
  pub only : ChangesOnly h l s next
  pub shows : Shows next h l (made_by op x)

module _ (h l : ℕ) (x : Here) (s : SharedState) (shows : Shows s h l x) where
  left_at : (op : Op) (y : Here) → Shows (with_line s h l y.words y.cell) h l y
  left_at op y = record { words = (leaves s h l y.words y.cell).memory_is; cell = (leaves s h l y.words y.cell).copy_is }

  pub does_op : (op : Op) → is_here op ≡ true → Done h l op x s
  does_op (Load line k) at =
      let y = made_by (Load line k) x in
      let done = leaves s h l y.words y.cell in
      record { next = with_line s h l y.words y.cell; operates = rw (shows.words, shows.cell) (done, refl); only = done.only; shows = left_at (Load line k) y }
  does_op (Store line k value) at =
      let y = made_by (Store line k value) x in
      let done = leaves s h l y.words y.cell in
      record { next = with_line s h l y.words y.cell; operates = rw (shows.words, shows.cell) done; only = done.only; shows = left_at (Store line k value) y }
  does_op (WriteBack line) at =
      let y = made_by (WriteBack line) x in
      let done = leaves s h l y.words y.cell in
      record { next = with_line s h l y.words y.cell; operates = rw (shows.words, shows.cell) done; only = done.only; shows = left_at (WriteBack line) y }
  does_op (Invalidate line) at =
      let y = made_by (Invalidate line) x in
      let done = leaves s h l y.words y.cell in
      record { next = with_line s h l y.words y.cell; operates = rw (shows.words, shows.cell) done; only = done.only; shows = left_at (Invalidate line) y }
  does_op Fence at = absurd (false≢true at)
  does_op Digest at = record { next = s; operates = refl; only = unchanged h l s; shows = shows }

-- an operation at another line gives a word where it does
given_there : (l : ℕ) (op : Op) (word : ℕ) → given_by (at_line l op) word ≡ given_by op word
given_there l (Load line k) word = refl
given_there l other word = refl

-- Steps at one line.

-- these steps may be taken, and leave what is computed
pub record Did (h l : ℕ) (steps : List Step) (x : Here) (s : SharedState) : Type 0 where
  pub after : SharedState
  pub ran : RanSteps (map (placed h l) steps) (give_all steps x) s after
  pub only : ChangesOnly h l s after
  pub shows : Shows after h l (left_all steps x)

pub at_one : (h l : ℕ) (steps : List Step) (x : Here) (s : SharedState) → Shows s h l x → are_here steps ≡ true → Did h l steps x s
at_one h l [] x s shows are = record { after = s; ran = ends; only = unchanged h l s; shows = shows }
at_one h l (Does host op ∷ more) x s shows are =
    let both = and_parts (is_here op) (are_here more) are in
    let first = does_op h l x s shows op both.0 in
    let rest = at_one h l more (made_by op x) first.next first.shows both.1 in
    record {
      after = rest.after;
      ran = subst (λ (o : Option ℕ). RanSteps (Does h (at_line l op) ∷ map (placed h l) more) (with_first o (give_all more (made_by op x))) s
          rest.after) (given_there l op (word_by op x)) (goes (word_by op x) first.operates rest.ran);
      only = changes_on h l s first.next rest.after first.only rest.only;
      shows = rest.shows;
    }
at_one h l (Transfers host line ∷ more) x s shows are =
    let y = left (Transfers host line) x in
    let done = leaves s h l y.words y.cell in
    let next = with_line s h l y.words y.cell in
    let rest = at_one h l more y next (record { words = done.memory_is; cell = done.copy_is }) are in
    record {
      after = rest.after;
      ran = moves (transfers_at h l s next y.words y.cell done (rw (shows.words, shows.cell) (settled_transfers x.words x.cell))) rest.ran;
      only = changes_on h l s next rest.after done.only rest.only;
      shows = rest.shows;
    }
