-- Runs of a master and a reader, computed on what memory and their caches show of a slot and of the gate.
use Rattle.std.proofs.Common.{ℕ, zero, suc, ◌≡◌, ◌≢◌, inl, inr, ◌+◌, ◌*◌, ◌<◌, ◌≤◌, Bool, true, false, cond, List, [], ◌∷◌, ◌++◌, length, map, refl, sym, ap, ap₂, subst, ◌∙◌, length-append, arith}
use Rattle.std.specs.Prelude.{⊤, filter, flat_map}
use Rattle.std.proofs.Math.Nat.{mul-suc}
use Rattle.std.specs.List.{range_with_len}
use Rattle.fam_base.specs.declared.entry.Params.{Params}
use Rattle.fam_format.specs.Layout.{geometry, gate_line, slot_line}
use Rattle.fam_format.proofs.Formats.{shape}
use Rattle.std.proofs.lemmas.Bool.{false≢true}
use Rattle.fam_machine.specs.declared.cell.Cell.{Cell}
use Rattle.fam_machine.specs.declared.cell.Cell.TheVariants.{Absent, Clean, Dirty}
use Rattle.fam_machine.specs.Fences.{IsAmong}
use Rattle.fam_machine.specs.OneLine.{IsAsked, brought, cleaned, sent}
use Rattle.fam_machine.specs.declared.op.Op.{Op}
use Rattle.fam_machine.specs.declared.op.Op.TheVariants.{Load, Store, WriteBack, Fence, Invalidate, Digest}
use Rattle.fam_protocol.specs.SharedState.{SharedState, ChangesOnly}
use Rattle.fam_refuted.specs.Refused.{Step, Does, RanSteps, ends, goes, all_by}
use Rattle.fam_protocol.proofs.Lines.Free.{same}
use Rattle.fam_refuted.proofs.Runs.{word_by, Here, here, placed, left_all, made_by, give_all, are_here, Shows, Did, at_one, does_op, ran_on}
use Rattle.fam_refuted.proofs.Fencing.{all_sends, among_or_not, clean_unasked, sent_all, sent_away, sent_hosts, sent_there}

-- The lines of a slot.

module _ (p : Params) (n : ℕ) where
  -- a host takes steps at each of these lines
  pub record DidAll (h : ℕ) (steps : ℕ → List Step) (x : ℕ → Here) (from count : ℕ) (s : SharedState) : Type 0 where
    pub after : SharedState
    pub ran : RanSteps (flat_map (λ j. map (placed h (slot_line p n j)) (steps j)) (range_with_len from count)) (flat_map (λ j. give_all (steps j) (x j)) (range_with_len from count)) s after
    pub inside : (j : ℕ) → from ≤ j → j < from + count → Shows after h (slot_line p n j) (left_all (steps j) (x j))
    pub memory : (l : ℕ) → ((j : ℕ) → from ≤ j → j < from + count → l ≢ slot_line p n j) → after.memory l ≡ s.memory l
    pub copies : (k l : ℕ) → ((j : ℕ) → from ≤ j → j < from + count → l ≢ slot_line p n j) → after.copy k l ≡ s.copy k l
    pub hosts : (k l : ℕ) → k ≢ h → after.copy k l ≡ s.copy k l

  pub at_all : (h : ℕ) (steps : ℕ → List Step) (x : ℕ → Here) (from count : ℕ) (s : SharedState) → ((j : ℕ) → are_here (steps j) ≡ true)
      → ((j : ℕ) → from ≤ j → j < from + count → Shows s h (slot_line p n j) (x j)) → DidAll h steps x from count s
  at_all h steps x from zero s are shows =
      record { after = s; ran = ends; inside = λ j low high. absurd (omega (arith, low, high)); memory = λ l out. refl; copies = λ k l out. refl; hosts = λ k l ne. refl }
  at_all h steps x from (suc count) s are shows =
      let first : Did h (slot_line p n from) (steps from) (x from) s = at_one h (slot_line p n from) (steps from) (x from) s (shows from (omega arith) (omega arith)) (are from) in
      let rest : DidAll h steps x (from + 1) count first.after =
      at_all h steps x (from + 1) count first.after are (λ j low high.
      let held = shows j (omega (arith, low)) (omega (arith, high)) in
      let other : slot_line p n j ≢ slot_line p n from = λ e. omega (arith, e, low) in
      record { words = first.only.memory (slot_line p n j) other ∙ held.words; cell = first.only.lines h (slot_line p n j) other ∙ held.cell }) in
      record {
        after = rest.after;
        ran = ran_on first.ran rest.ran;
        inside = λ j low high. elim (same j from) [
          | inl e ↦
              let out : (k : ℕ) → from + 1 ≤ k → k < from + 1 + count → slot_line p n from ≢ slot_line p n k = λ k above below e. omega (arith, e, above) in
              let is : Shows rest.after h (slot_line p n from) (left_all (steps from) (x from)) =
              record {
                words = rest.memory (slot_line p n from) out ∙ first.shows.words;
                cell = rest.copies h (slot_line p n from) out
                    ∙ first.shows.cell;
              } in
              subst (λ (i : ℕ). Shows rest.after h (slot_line p n i) (left_all (steps i) (x i))) (sym e) is
          | inr ne ↦ rest.inside j (omega (arith, low, ne)) (omega (arith, high))
        ];
        memory = λ l out. rest.memory l (λ j low high. out j (omega (arith, low)) (omega (arith, high))) ∙ first.only.memory l (out from (omega arith) (omega arith));
        copies = λ k l out. rest.copies k l (λ j low high. out j (omega (arith, low)) (omega (arith, high))) ∙ first.only.lines k l (out from (omega arith) (omega arith));
        hosts = λ k l ne. rest.hosts k l ne ∙ first.only.hosts k l ne;
      }

-- What is shown.

pub data Who : Type 0 where
  Master : Who
  Reader : Who

-- a line of the slot, or the gate's
pub data Which : Type 0 where
  Slot : (j : ℕ) → Which
  Gate : Which

-- a line of a slot
abbrev pub IsThere : Params → Which → Type 0
IsThere p (Slot j) = j < (geometry p).lines
IsThere p Gate = ⊤

-- what memory and the caches have of them
pub record View : Type 0 where
  pub words : Which → List ℕ
  pub cell : Who → Which → Cell

abbrev pub shared_by : View → Who → Which → Here
shared_by v h w = here (v.words w) (v.cell h w)

-- one of two copies, by whether two hosts are one
abbrev at_host : Who → Who → Cell → Cell → Cell
at_host Master Master new old = new
at_host Master Reader new old = old
at_host Reader Master new old = old
at_host Reader Reader new old = new

-- the slot's lines replaced
abbrev put_slot : View → Who → (ℕ → Here) → View
put_slot v h x = record { words = words; cell = cell }
  where
    words : Which → List ℕ
    words (Slot j) = (x j).words
    words Gate = v.words Gate

    cell : Who → Which → Cell
    cell k (Slot j) = at_host h k (x j).cell (v.cell k (Slot j))
    cell k Gate = v.cell k Gate

-- the gate's
abbrev put_gate : View → Who → Here → View
put_gate v h x = record { words = words; cell = cell }
  where
    words : Which → List ℕ
    words (Slot j) = v.words (Slot j)
    words Gate = x.words

    cell : Who → Which → Cell
    cell k (Slot j) = v.cell k (Slot j)
    cell k Gate = at_host h k x.cell (v.cell k Gate)

-- each of the lines is sent
abbrev put_sent : View → Who → View
put_sent v h = record { words = words; cell = cell }
  where
    words : Which → List ℕ
    words w = sent (v.words w) (v.cell h w)

    cell : Who → Which → Cell
    cell k w = at_host h k (cleaned (v.cell h w)) (v.cell k w)

-- what one of them does: at each line of the slot, at the gate's, or elsewhere; or it sends what it has asked for
pub data Phase : Type 0 where
  AtSlot : (h : Who) (steps : ℕ → List Step) → Phase
  AtGate : (h : Who) (steps : List Step) → Phase
  Elsewhere : (h : Who) (ops : List Op) → Phase
  Sending : (h : Who) → Phase

-- what is shown then
abbrev pub then : Phase → View → View
then (AtSlot h steps) v = put_slot v h (λ j. left_all (steps j) (shared_by v h (Slot j)))
then (AtGate h steps) v = put_gate v h (left_all steps (shared_by v h Gate))
then (Elsewhere h ops) v = v
then (Sending h) v = put_sent v h

abbrev pub then_all : List Phase → View → View
then_all [] v = v
then_all (phase ∷ more) v = then_all more (then phase v)

-- the words that it gives, where a slot has so many lines
abbrev pub words_of : ℕ → Phase → View → List ℕ
words_of lines (AtSlot h steps) v = flat_map (λ j. give_all (steps j) (shared_by v h (Slot j))) (range_with_len 0 lines)
words_of lines (AtGate h steps) v = give_all steps (shared_by v h Gate)
words_of lines (Elsewhere h ops) v = []
words_of lines (Sending h) v = []

abbrev pub words_of_all : ℕ → List Phase → View → List ℕ
words_of_all lines [] v = []
words_of_all lines (phase ∷ more) v = words_of lines phase v ++ words_of_all lines more (then phase v)

-- how many words operations load
abbrev pub loads_in : List Op → ℕ
loads_in [] = 0
loads_in (Load l k ∷ more) = 1 + loads_in more
loads_in (Store l k value ∷ more) = loads_in more
loads_in (WriteBack l ∷ more) = loads_in more
loads_in (Invalidate l ∷ more) = loads_in more
loads_in (Fence ∷ more) = loads_in more
loads_in (Digest ∷ more) = loads_in more

pub loads_both : (xs ys : List Op) → loads_in (xs ++ ys) ≡ loads_in xs + loads_in ys
loads_both [] ys = omega arith
loads_both (Load l k ∷ more) ys = omega (arith, loads_both more ys)
loads_both (Store l k value ∷ more) ys = loads_both more ys
loads_both (WriteBack l ∷ more) ys = loads_both more ys
loads_both (Invalidate l ∷ more) ys = loads_both more ys
loads_both (Fence ∷ more) ys = loads_both more ys
loads_both (Digest ∷ more) ys = loads_both more ys

-- at so many slots as many each
pub loads_at : (f : ℕ → List Op) (each from count : ℕ) → ((i : ℕ) → loads_in (f i) ≡ each) → loads_in (flat_map f (range_with_len from count)) ≡ each * count
loads_at f each from zero is = omega arith
loads_at f each from (suc count) is =
    omega (arith, loads_both (f from) (flat_map f (range_with_len (from + 1) count)), is from, loads_at f each (from + 1) count is, mul-suc each count)

module _ (p : Params) (n : ℕ) where
  abbrev pub line : Which → ℕ
  line (Slot j) = slot_line p n j
  line Gate = gate_line

  -- the gate's line is none of the slot
  not_slot : (j : ℕ) → gate_line ≢ slot_line p n j
  not_slot j e = absurd (omega (arith, e, (shape p).lines))

  -- an operation that loads nothing and asks for nothing to be sent, at no line of the slot and not at the gate's
  abbrev pub IsApart : ℕ → Type 0
  IsApart l = (w : Which) → IsThere p w → line w ≢ l

  abbrev pub IsElsewhere : Op → Type 0
  IsElsewhere (Load l k) = ⊥
  IsElsewhere (Store l k value) = IsApart l.0
  IsElsewhere (WriteBack l) = ⊥
  IsElsewhere Fence = ⊥
  IsElsewhere (Invalidate l) = IsApart l.0
  IsElsewhere Digest = ⊤

  abbrev pub AreElsewhere : List Op → Type 0
  AreElsewhere [] = ⊤
  AreElsewhere (op ∷ more) = IsElsewhere op × AreElsewhere more

  -- one that may load
  abbrev pub IsAway : Op → Type 0
  IsAway (Load l k) = IsApart l.0
  IsAway (Store l k value) = IsApart l.0
  IsAway (WriteBack l) = ⊥
  IsAway Fence = ⊥
  IsAway (Invalidate l) = IsApart l.0
  IsAway Digest = ⊤

  abbrev pub AreAway : List Op → Type 0
  AreAway [] = ⊤
  AreAway (op ∷ more) = IsAway op × AreAway more

  pub both_away : (xs ys : List Op) → AreAway xs → AreAway ys → AreAway (xs ++ ys)
  both_away [] ys a b = b
  both_away (op ∷ xs) ys a b = (a.0, both_away xs ys a.1 b)

  pub all_away : (f : ℕ → List Op) (from count : ℕ) → ((j : ℕ) → from ≤ j → j < from + count → AreAway (f j)) → AreAway (flat_map f (range_with_len from count))
  all_away f from zero are = tt
  all_away f from (suc count) are =
      both_away (f from) (flat_map f (range_with_len (from + 1) count)) (are from (omega arith) (omega arith))
      (all_away f (from + 1) count (λ j low high. are j (omega (arith, low)) (omega (arith, high))))

  chosen_away : (b : Bool) (op : Op) (rest : List Op) → IsAway op → AreAway rest → AreAway (cond b (op ∷ rest) rest)
  chosen_away true op rest is are = (is, are)
  chosen_away false op rest is are = are

  pub some_away : (test : Op → Bool) (ops : List Op) → AreAway ops → AreAway (filter test ops)
  some_away test [] are = tt
  some_away test (op ∷ more) are = chosen_away (test op) op (filter test more) are.0 (some_away test more are.1)

  abbrev pub IsPhase : Phase → Type 0
  IsPhase (AtSlot h steps) = (j : ℕ) → are_here (steps j) ≡ true
  IsPhase (AtGate h steps) = are_here steps ≡ true
  IsPhase (Elsewhere h ops) = AreElsewhere ops
  IsPhase (Sending h) = ⊤

  abbrev pub ArePhases : List Phase → Type 0
  ArePhases [] = ⊤
  ArePhases (phase ∷ more) = IsPhase phase × ArePhases more

  -- operations of two lists
  both_elsewhere : (xs ys : List Op) → AreElsewhere xs → AreElsewhere ys → AreElsewhere (xs ++ ys)
  both_elsewhere [] ys a b = b
  both_elsewhere (op ∷ xs) ys a b = (a.0, both_elsewhere xs ys a.1 b)

  -- operations at some lines
  pub all_elsewhere : (f : ℕ → List Op) (from count : ℕ) → ((j : ℕ) → from ≤ j → j < from + count → AreElsewhere (f j)) → AreElsewhere (flat_map f (range_with_len from count))
  all_elsewhere f from zero are = tt
  all_elsewhere f from (suc count) are =
      both_elsewhere (f from) (flat_map f (range_with_len (from + 1) count)) (are from (omega arith) (omega arith))
      (all_elsewhere f (from + 1) count (λ j low high. are j (omega (arith, low)) (omega (arith, high))))

  module _ (host : Who → ℕ) (two : host Master ≢ host Reader) where
    -- the steps of a phase, where a slot has so many lines
    abbrev pub steps_of : ℕ → Phase → List Step
    steps_of lines (AtSlot h steps) = flat_map (λ j. map (placed (host h) (slot_line p n j)) (steps j)) (range_with_len 0 lines)
    steps_of lines (AtGate h steps) = map (placed (host h) gate_line) steps
    steps_of lines (Elsewhere h ops) = all_by (host h) ops
    steps_of lines (Sending h) = Does (host h) Fence ∷ []

    abbrev pub steps_of_all : ℕ → List Phase → List Step
    steps_of_all lines [] = []
    steps_of_all lines (phase ∷ more) = steps_of lines phase ++ steps_of_all lines more

    pub record Shown (s : SharedState) (v : View) : Type 0 where
      pub words : (w : Which) → IsThere p w → s.memory (line w) ≡ v.words w
      pub cell : (h : Who) (w : Which) → IsThere p w → s.copy (host h) (line w) ≡ v.cell h w
      -- no other line is asked for
      pub unasked : (h : Who) (l : ℕ) → IsApart l → IsAsked (s.copy (host h) l) → ⊥

    -- a phase is a run, and shows what is computed
    record Passed (phase : Phase) (s : SharedState) (v : View) : Type 0 where
      after : SharedState
      ran : RanSteps (steps_of (geometry p).lines phase) (words_of (geometry p).lines phase v) s after
      shown : Shown after (then phase v)

    module _ (s : SharedState) (v : View) (shown : Shown s v) where
      here_shown : (h : Who) (w : Which) → IsThere p w → Shows s (host h) (line w) (shared_by v h w)
      here_shown h w there = record { words = shown.words w there; cell = shown.cell h w there }

      -- at the slot
      module _ (h : Who) (steps : ℕ → List Step) (did : DidAll p n (host h) steps (λ j. shared_by v h (Slot j)) 0 (geometry p).lines s) where
        slot_words : (w : Which) → IsThere p w → did.after.memory (line w) ≡ (then (AtSlot h steps) v).words w
        slot_words (Slot j) there = (did.inside j (omega arith) (omega (arith, there))).words
        slot_words Gate there = did.memory gate_line (λ j low high. not_slot j) ∙ shown.words Gate there

      slot_cells : (h k : Who) (steps : ℕ → List Step) (w : Which)
          (did : DidAll p n (host h) steps (λ j. shared_by v h (Slot j)) 0 (geometry p).lines s) → IsThere p w
          → did.after.copy (host k) (line w) ≡ (then (AtSlot h steps) v).cell k w
      slot_cells Master Master steps (Slot j) did there = (did.inside j (omega arith) (omega (arith, there))).cell
      slot_cells Reader Reader steps (Slot j) did there = (did.inside j (omega arith) (omega (arith, there))).cell
      slot_cells Master Reader steps (Slot j) did there = did.hosts (host Reader) (slot_line p n j) (λ e. two (sym e)) ∙ shown.cell Reader (Slot j) there
      slot_cells Reader Master steps (Slot j) did there = did.hosts (host Master) (slot_line p n j) two ∙ shown.cell Master (Slot j) there
      slot_cells h k steps Gate did there = did.copies (host k) gate_line (λ j low high. not_slot j) ∙ shown.cell k Gate there

      pass_slot : (h : Who) (steps : ℕ → List Step) → ((j : ℕ) → are_here (steps j) ≡ true) → Passed (AtSlot h steps) s v
      pass_slot h steps are =
          let did = at_all p n (host h) steps (λ j. shared_by v h (Slot j)) 0 (geometry p).lines s are (λ j low high. here_shown h (Slot j) (omega (arith, high))) in
          record {
            after = did.after;
            ran = did.ran;
            shown =
                record {
                  words = slot_words h steps did;
                  cell = λ k w there. slot_cells h k steps w did there;
                  unasked = λ k l apart asked.
                      shown.unasked k l apart (subst IsAsked (did.copies (host k) l (λ j low high e. apart (Slot j) (omega (arith, high)) (sym e))) asked);
                };
          }

      -- at the gate
      gate_words : (h : Who) (steps : List Step) (did : Did (host h) gate_line steps (shared_by v h Gate) s) (w : Which) → IsThere p w → did.after.memory (line w) ≡ (then (AtGate h steps) v).words w
      gate_words h steps did (Slot j) there = did.only.memory (slot_line p n j) (λ e. not_slot j (sym e)) ∙ shown.words (Slot j) there
      gate_words h steps did Gate there = did.shows.words

      gate_cells : (h k : Who) (steps : List Step) (did : Did (host h) gate_line steps (shared_by v h Gate) s) (w : Which) → IsThere p w
          → did.after.copy (host k) (line w) ≡ (then (AtGate h steps) v).cell k w
      gate_cells h k steps did (Slot j) there = did.only.lines (host k) (slot_line p n j) (λ e. not_slot j (sym e)) ∙ shown.cell k (Slot j) there
      gate_cells Master Master steps did Gate there = did.shows.cell
      gate_cells Reader Reader steps did Gate there = did.shows.cell
      gate_cells Master Reader steps did Gate there = did.only.hosts (host Reader) gate_line (λ e. two (sym e)) ∙ shown.cell Reader Gate there
      gate_cells Reader Master steps did Gate there = did.only.hosts (host Master) gate_line two ∙ shown.cell Master Gate there

      pass_gate : (h : Who) (steps : List Step) → are_here steps ≡ true → Passed (AtGate h steps) s v
      pass_gate h steps are =
          let did = at_one (host h) gate_line steps (shared_by v h Gate) s (here_shown h Gate tt) are in
          record {
            after = did.after;
            ran = did.ran;
            shown =
                record {
                  words = gate_words h steps did;
                  cell = λ k w there. gate_cells h k steps did w there;
                  unasked = λ k l apart asked.
                      shown.unasked k l apart (subst IsAsked (did.only.lines (host k) l (λ e. apart Gate tt (sym e))) asked);
                };
          }

    -- elsewhere
    elsewhere_shown : (h : Who) (l : ℕ) (s s' : SharedState) (v : View) → Shown s v → ChangesOnly (host h) l s s' → IsApart l
        → (IsAsked (s'.copy (host h) l) → IsAsked (s.copy (host h) l)) → Shown s' v
    elsewhere_shown h l s s' v shown only apart unasked = record {
      words = λ w there. only.memory (line w) (apart w there) ∙ shown.words w there;
      cell = λ k w there. only.lines (host k) (line w) (apart w there) ∙ shown.cell k w there;
      unasked = λ k m away asked. elim (same m l) [
        | inl e ↦ elim (same (host k) (host h)) [
          | inl here ↦ shown.unasked h l apart (unasked (subst (λ (i : ℕ). IsAsked (s'.copy i l)) here (subst (λ (i : ℕ). IsAsked (s'.copy (host k) i)) e asked)))
          | inr there ↦ shown.unasked k m away (subst IsAsked (only.hosts (host k) m there) asked)
        ]
        | inr ne ↦ shown.unasked k m away (subst IsAsked (only.lines (host k) m ne) asked)
      ];
    }

    -- a copy that wasn't asked for isn't so after these
    never : (cell new : Cell) → new ≡ cell → (IsAsked cell → ⊥) → IsAsked new → ⊥
    never cell new is none asked = none (subst IsAsked is asked)

    brought_asked : (memory : List ℕ) (cell : Cell) → IsAsked (brought memory cell) → IsAsked cell
    brought_asked memory Absent asked = absurd (false≢true asked)
    brought_asked memory (Clean words) asked = asked
    brought_asked memory (Dirty a words) asked = asked

    -- an operation there is done, and what is shown stays
    record Passes (h : Who) (op : Op) (s : SharedState) (v : View) : Type 0 where
      next : SharedState
      ran : RanSteps (Does (host h) op ∷ []) [] s next
      shown : Shown next v

    -- memory and a host's copy of a line show themselves
    shows_itself : (s : SharedState) (h l : ℕ) → Shows s h l (here (s.memory l) (s.copy h l))
    shows_itself s h l = record { words = refl; cell = refl }

    pass_op : (h : Who) (op : Op) (s : SharedState) (v : View) → Shown s v → IsElsewhere op → Passes h op s v
    pass_op h (Load l k) s v shown apart = absurd apart
    pass_op h (Store l k value) s v shown apart =
        let x = here (s.memory l.0) (s.copy (host h) l.0) in
        let done = does_op (host h) l.0 x s (shows_itself s (host h) l.0) (Store l k value) refl in
        record {
          next = done.next;
          ran = goes 0 done.operates ends;
          shown = elsewhere_shown h l.0 s done.next v shown done.only apart
              (λ asked. absurd (never (made_by (Store l k value) x).cell (done.next.copy (host h) l.0) done.shows.cell (λ is. false≢true is) asked));
        }
    pass_op h (WriteBack l) s v shown apart = absurd apart
    pass_op h Fence s v shown apart = absurd apart
    pass_op h (Invalidate l) s v shown apart =
        let x = here (s.memory l.0) (s.copy (host h) l.0) in
        let done = does_op (host h) l.0 x s (shows_itself s (host h) l.0) (Invalidate l) refl in
        record {
          next = done.next;
          ran = goes 0 done.operates ends;
          shown = elsewhere_shown h l.0 s done.next v shown done.only apart (λ asked. absurd (never Absent (done.next.copy (host h) l.0) done.shows.cell (λ is. false≢true is) asked));
        }
    pass_op h Digest s v shown apart = record { next = s; ran = goes 0 refl ends; shown = shown }

    pass_else : (h : Who) (ops : List Op) (s : SharedState) (v : View) → Shown s v → AreElsewhere ops → Passed (Elsewhere h ops) s v
    pass_else h [] s v shown apart = record { after = s; ran = ends; shown = shown }
    pass_else h (op ∷ more) s v shown apart =
        let first = pass_op h op s v shown apart.0 in
        let rest = pass_else h more first.next v first.shown apart.1 in
        record { after = rest.after; ran = ran_on first.ran rest.ran; shown = rest.shown }

    -- a fence: lines of the slot and the gate's are sent, and no other line is asked for
    abbrev sent_lines : ℕ → ℕ → List ℕ
    sent_lines from count = map (λ j. slot_line p n j) (range_with_len from count) ++ gate_line ∷ []

    among_slot : (from count j : ℕ) → from ≤ j → j < from + count → IsAmong (slot_line p n j) (sent_lines from count)
    among_slot from zero j low high = absurd (omega (arith, low, high))
    among_slot from (suc count) j low high =
        elim (same j from) [
          | inl e ↦ inl (ap (λ (i : ℕ). slot_line p n i) e)
          | inr ne ↦ inr (among_slot (from + 1) count j (omega (arith, low, ne)) (omega (arith, high)))
        ]

    among_gate : (from count : ℕ) → IsAmong gate_line (sent_lines from count)
    among_gate from zero = inl refl
    among_gate from (suc count) = inr (among_gate (from + 1) count)

    among_line : (w : Which) → IsThere p w → IsAmong (line w) (sent_lines 0 (geometry p).lines)
    among_line (Slot j) there = among_slot 0 (geometry p).lines j (omega arith) (omega (arith, there))
    among_line Gate there = among_gate 0 (geometry p).lines

    pass_sending : (h : Who) (s : SharedState) (v : View) → Shown s v → Passed (Sending h) s v
    pass_sending h s v shown =
        let next = sent_all (host h) (sent_lines 0 (geometry p).lines) s in
        record {
          after = next;
          ran = goes 0 record { lines = sent_lines 0 (geometry p).lines; sends = all_sends (host h) (sent_lines 0 (geometry p).lines) s; none_asked = none_asked } ends;
          shown = record { words = words; cell = λ k w there. cell h k w there refl; unasked = λ k l apart asked. shown.unasked k l apart (subst IsAsked (away k l apart) asked) };
        }
      where
        out : (l : ℕ) → IsApart l → (from count : ℕ) → from + count ≤ (geometry p).lines → IsAmong l (sent_lines from count) → ⊥
        out l apart from zero most among = elim among [ inl e ↦ apart Gate tt (sym e) | inr none ↦ absurd none ]
        out l apart from (suc count) most among =
            elim among [ inl e ↦ apart (Slot from) (omega (arith, most)) (sym e) | inr later ↦ out l apart (from + 1) count (omega (arith, most)) later ]

        away : (k : Who) (l : ℕ) → IsApart l → (sent_all (host h) (sent_lines 0 (geometry p).lines) s).copy (host k) l ≡ s.copy (host k) l
        away k l apart = (sent_away (host h) (host k) l (sent_lines 0 (geometry p).lines) s (out l apart 0 (geometry p).lines (omega arith))).1

        -- a line that is none of them is as before
        none_asked : (l : ℕ) → IsAsked ((sent_all (host h) (sent_lines 0 (geometry p).lines) s).copy (host h) l) → ⊥
        none_asked l asked =
            elim (among_or_not l (sent_lines 0 (geometry p).lines)) [
              | inl among ↦ clean_unasked (s.copy (host h) l) (subst IsAsked (sent_there (host h) l (sent_lines 0 (geometry p).lines) s among).cell asked)
              | inr other ↦
                  let apart : IsApart l = λ w there e. other (subst (λ (i : ℕ). IsAmong i (sent_lines 0 (geometry p).lines)) e (among_line w there)) in
                  shown.unasked h l apart (subst IsAsked (away h l apart) asked)
            ]

        words : (w : Which) → IsThere p w → (sent_all (host h) (sent_lines 0 (geometry p).lines) s).memory (line w) ≡ sent (v.words w) (v.cell h w)
        words w there = (sent_there (host h) (line w) (sent_lines 0 (geometry p).lines) s (among_line w there)).words ∙ ap₂ sent (shown.words w there) (shown.cell h w there)

        own : (w : Which) → IsThere p w → (sent_all (host h) (sent_lines 0 (geometry p).lines) s).copy (host h) (line w) ≡ cleaned (v.cell h w)
        own w there = (sent_there (host h) (line w) (sent_lines 0 (geometry p).lines) s (among_line w there)).cell ∙ ap cleaned (shown.cell h w there)

        other : (k : Who) (w : Which) → IsThere p w → host k ≢ host h → (sent_all (host h) (sent_lines 0 (geometry p).lines) s).copy (host k) (line w) ≡ v.cell k w
        other k w there ne = sent_hosts (host h) (host k) (line w) (sent_lines 0 (geometry p).lines) s ne ∙ shown.cell k w there

        cell : (g k : Who) (w : Which) → IsThere p w → h ≡ g → (sent_all (host h) (sent_lines 0 (geometry p).lines) s).copy (host k) (line w) ≡ at_host g k (cleaned (v.cell g w)) (v.cell k w)
        cell Master Master w there is = subst (λ (g : Who). (sent_all (host h) (sent_lines 0 (geometry p).lines) s).copy (host g) (line w) ≡ cleaned (v.cell g w)) is (own w there)
        cell Reader Reader w there is = subst (λ (g : Who). (sent_all (host h) (sent_lines 0 (geometry p).lines) s).copy (host g) (line w) ≡ cleaned (v.cell g w)) is (own w there)
        cell Master Reader w there is = other Reader w there (λ e. two (sym (e ∙ ap host is)))
        cell Reader Master w there is = other Master w there (λ e. two (e ∙ ap host is))

    pass : (phase : Phase) (s : SharedState) (v : View) → Shown s v → IsPhase phase → Passed phase s v
    pass (AtSlot h steps) s v shown is = pass_slot s v shown h steps is
    pass (AtGate h steps) s v shown is = pass_gate s v shown h steps is
    pass (Elsewhere h ops) s v shown is = pass_else h ops s v shown is
    pass (Sending h) s v shown is = pass_sending h s v shown

    -- phases are a run, and show what is computed
    pub record PassedAll (phases : List Phase) (s : SharedState) (v : View) : Type 0 where
      pub after : SharedState
      pub ran : RanSteps (steps_of_all (geometry p).lines phases) (words_of_all (geometry p).lines phases v) s after
      pub shown : Shown after (then_all phases v)

    pub pass_all : (phases : List Phase) (s : SharedState) (v : View) → Shown s v → ArePhases phases → PassedAll phases s v
    pass_all [] s v shown are = record { after = s; ran = ends; shown = shown }
    pass_all (phase ∷ more) s v shown are =
        let first = pass phase s v shown are.0 in
        let rest = pass_all more first.after (then phase v) first.shown are.1 in
        record { after = rest.after; ran = ran_on first.ran rest.ran; shown = rest.shown }

    -- Loads elsewhere, of which the words don't matter.

    -- such operations may be done. They give as many words as they load
    pub record Loaded (h : Who) (ops : List Op) (s : SharedState) (v : View) : Type 0 where
      pub words : List ℕ
      pub after : SharedState
      pub ran : RanSteps (all_by (host h) ops) words s after
      pub shown : Shown after v
      pub count : length words ≡ loads_in ops

    record LoadsOne (h : Who) (op : Op) (s : SharedState) (v : View) : Type 0 where
      words : List ℕ
      after : SharedState
      ran : RanSteps (Does (host h) op ∷ []) words s after
      shown : Shown after v
      count : length words ≡ loads_in (op ∷ [])

    load_one : (h : Who) (op : Op) (s : SharedState) (v : View) → Shown s v → IsAway op → LoadsOne h op s v
    load_one h (Load l k) s v shown apart =
        let x = here (s.memory l.0) (s.copy (host h) l.0) in
        let done = does_op (host h) l.0 x s (shows_itself s (host h) l.0) (Load l k) refl in
        record {
          words = word_by (Load l k) x ∷ [];
          after = done.next;
          ran = goes (word_by (Load l k) x) done.operates ends;
          shown = elsewhere_shown h l.0 s done.next v shown done.only apart (λ asked. brought_asked (s.memory l.0) (s.copy (host h) l.0) (subst IsAsked done.shows.cell asked));
          count = refl;
        }
    load_one h (Store l k value) s v shown apart = let did = pass_op h (Store l k value) s v shown apart in record { words = []; after = did.next; ran = did.ran; shown = did.shown; count = refl }
    load_one h (WriteBack l) s v shown apart = absurd apart
    load_one h Fence s v shown apart = absurd apart
    load_one h (Invalidate l) s v shown apart = let did = pass_op h (Invalidate l) s v shown apart in record { words = []; after = did.next; ran = did.ran; shown = did.shown; count = refl }
    load_one h Digest s v shown apart = let did = pass_op h Digest s v shown apart in record { words = []; after = did.next; ran = did.ran; shown = did.shown; count = refl }

    pub load_away : (h : Who) (ops : List Op) (s : SharedState) (v : View) → Shown s v → AreAway ops → Loaded h ops s v
    load_away h [] s v shown apart = record { words = []; after = s; ran = ends; shown = shown; count = refl }
    load_away h (op ∷ more) s v shown apart =
        let first = load_one h op s v shown apart.0 in
        let rest = load_away h more first.after v first.shown apart.1 in
        record {
          words = first.words ++ rest.words;
          after = rest.after;
          ran = ran_on first.ran rest.ran;
          shown = rest.shown;
          count = length-append first.words rest.words ∙ ap (λ (n : ℕ). n + length rest.words) first.count ∙ ap (λ (n : ℕ). loads_in (op ∷ []) + n) rest.count ∙ sym (loads_both (op ∷ []) more);
        }
