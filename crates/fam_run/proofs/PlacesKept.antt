-- An append that has its places keeps them, and never wants memory.
use Rattle.std.proofs.Common.{ℕ, ◌≡◌, ◌⊎◌, ◌+◌, ◌<◌, ◌≤◌, Bool, true, false, cond, List, Option, None, Result, Ok, Err, refl, sym, ap, subst, inl, inr, arith}
use Rattle.std.specs.Prelude.{⊤, IfSome, nat_lt, slice_set, unwrap_or}
use Rattle.std.proofs.lemmas.Bool.{cases_lt}
use Rattle.fam_base.specs.Image.{Image}
use Rattle.fam_cache.specs.Operations.{BringsNone, LeavesCache, word_of}
use Rattle.fam_cache.specs.declared.fault.OperationFault.{OperationFault}
use Rattle.fam_cache.specs.declared.fault.OperationFault.TheVariants as fault
use Rattle.fam_cache.specs.States.{CacheState}
use Rattle.fam_cache.proofs.Performed.{held_after_store}
use Rattle.fam_commands.specs.declared.phase.Phase.{Phase}
use Rattle.fam_commands.specs.declared.phase.Phase.TheVariants as at
use Rattle.fam_commands.specs.FirstStore.{IsFirstStore}
use Rattle.fam_commands.specs.Task.{Task, line_of, op_at, op_of}
use Rattle.fam_commands.specs.Stands.{task_after}
use Rattle.fam_commands.specs.Turns as turns
use Rattle.fam_commands.specs.Turns.{turn_at, turn_of}
use Rattle.fam_format.specs.Layout.{geometry, slot_line}
use Rattle.fam_machine.specs.declared.op.Op.{Op}
use Rattle.fam_machine.specs.declared.op.Op.TheVariants.{Load, Store, WriteBack, Fence, Invalidate, Digest}
use Rattle.fam_base.specs.declared.line.LineNo.{LineNo}
use Rattle.fam_machine.specs.declared.cell.Cell.{Cell}
use Rattle.fam_machine.specs.declared.cell.Cell.TheVariants.{Dirty}
use Rattle.fam_machine.specs.Caches.{Cache, cell_at, with_cell}
use Rattle.fam_machine.specs.OneLine.{IsHeld, words_of}
use Rattle.fam_machine.proofs.CacheLemmas.{cell_at-with_cell_same}
use Rattle.fam_tasks.specs.declared.answer.Turn.{Turn}
use Rattle.fam_tasks.specs.Sound.{IsSound, IsSoundAt}
use Rattle.fam_tasks.specs.declared.answer.Turn.TheVariants.{Go}
use Rattle.fam_tasks.specs.Rest as rest
use Rattle.fam_tasks.specs.Rest.{IsFileLineDue, Stores, StoresFileLine}
use Rattle.fam_tasks.specs.Tells.{Tells}
use Rattle.fam_run.specs.Places.{HasPlaces, HasPlacesAt, append_places, slot_places, IsReadyAt, PlacesKept, PlacesMade, ReadyPlacesKept}
use Rattle.fam_run.specs.Operation.{ended}
use Rattle.fam_run.specs.Cached as run
use Rattle.fam_run.specs.Cached.{CachedRun, IsCached, cached_after}
use Rattle.fam_run.proofs.Running.{goes_on, no_reply}

-- what an operation makes of the cache's places: one that brings no line takes none, and what is stored into is held
abbrev IsHeldBy : Op → Cache → Type 0
IsHeldBy (Load line k) held = ⊤
IsHeldBy (Store line k value) held = IsHeld (cell_at held line.0)
IsHeldBy (WriteBack line) held = ⊤
IsHeldBy Fence held = ⊤
IsHeldBy (Invalidate line) held = ⊤
IsHeldBy Digest held = ⊤

pub record Takes (op : Op) (cache after : CacheState) : Type 0 where
  pub one : cache.spare ≤ after.spare + 1
  pub none : BringsNone op cache.lines → cache.spare ≤ after.spare
  pub held : IsHeldBy op after.lines

held_by : (op : Op) (modelled : Option Image) (old new : Cache) → LeavesCache op modelled old new → IsHeldBy op new
held_by (Store line k value) modelled old new leaves = held_after_store modelled line.0 k value old new leaves
held_by other modelled old new leaves = tt

pub takes : (op : Op) (modelled : Option Image) (cache after : CacheState) → cache.spare ≤ after.spare + 1
    → (BringsNone op cache.lines → cache.spare ≤ after.spare) → LeavesCache op modelled cache.lines after.lines → Takes op cache after
takes op modelled cache after one none leaves = record {
  one = one;
  none = none;
  held = held_by op modelled cache.lines after.lines leaves;
}

-- the task that a turn goes on with has its places
abbrev KeptBy : turns.Turn → CacheState → Type 0
KeptBy turn after = IfSome (task_after turn) (λ next. HasPlaces next after)

-- Phase by phase.

module _ (t : Task) (cache after : CacheState) where
  data_next : (b : Bool) (j k : ℕ) → append_places t.params ≤ after.spare → IsHeld (cell_at after.lines (line_of t.entry j))
      → HasPlaces (record t { phase = cond b (at.StoreData j (k + 1)) (at.SendData j) }) after
  data_next true j k room held = (room, λ _. held)
  data_next false j k room held = room

  sent_next : (b : Bool) (j : ℕ) → append_places t.params ≤ after.spare → HasPlaces (record t { phase = cond b (at.StoreData (j + 1) 0) (at.StoreSlot 0 0) }) after
  sent_next true j room = (room, λ some. absurd (omega (arith, some)))
  sent_next false j room = record {
    begun = omega (arith, room);
    first = λ _. omega (arith, room);
    held = λ some. absurd (omega (arith, some));
  }

  slot_next : (b : Bool) (i k : ℕ) → slot_places t.params ≤ after.spare + i → IsHeld (cell_at after.lines (slot_line t.params t.gate i))
      → HasPlaces (record t { phase = cond b (at.StoreSlot i (k + 1)) (at.SendSlot i) }) after
  slot_next true i k room held = record {
    begun = room;
    first = λ none. absurd (omega (arith, none));
    held = λ _. held;
  }
  slot_next false i k room held = room

  gate_next : (b : Bool) (i : ℕ) → i < (geometry t.params).lines → slot_places t.params ≤ after.spare + i → HasPlaces (record t { phase = cond b (at.StoreSlot (i + 1) 0) at.FenceSlot }) after
  gate_next true i below room = record {
    begun = omega (arith, room);
    first = λ _. omega (arith, room);
    held = λ some. absurd (omega (arith, some));
  }
  gate_next false i below room = omega (arith, room, below)

  -- a line of the file that is stored into is held
  file_held : (j k : ℕ) → HasPlacesAt (at.StoreData j k) t cache → IsReadyAt (at.StoreData j k) t cache → IsHeld (cell_at cache.lines (line_of t.entry j))
  file_held j k has ready =
      elim (cases_lt 0 k) [
        | inl some ↦ has.1 some
        | inr none ↦ ready (omega arith)
      ]

  slot_room : (i k : ℕ) → HasPlacesAt (at.StoreSlot i k) t cache → cache.spare ≤ after.spare + 1
      → (IsHeld (cell_at cache.lines (slot_line t.params t.gate i)) → cache.spare ≤ after.spare) → slot_places t.params ≤ after.spare + i
  slot_room i k has one none =
      elim (cases_lt 0 k) [
        | inl some ↦ (let kept : cache.spare ≤ after.spare = none (has.held some) in omega (arith, has.begun, kept))
        | inr first ↦ (let enough : append_places t.params ≤ cache.spare + i = has.first (omega arith) in omega (arith, enough, one))
      ]

  kept_at : (p : Phase) (word : ℕ) → IsSoundAt p t → Takes (op_at t p) cache after → IsReadyAt p t cache → HasPlacesAt p t cache → KeptBy (turn_at p t word) after
  kept_at (at.StoreData j k) word sound place ready has =
      let kept : cache.spare ≤ after.spare = place.none (file_held j k has ready) in
      data_next (nat_lt k 7) j k (omega (arith, has.0, kept)) place.held
  kept_at (at.SendData j) word sound place ready has =
      let kept : cache.spare ≤ after.spare = place.none tt in
      sent_next _ j (omega (arith, has, kept))
  kept_at (at.StoreSlot i k) word sound place ready has =
      slot_next (nat_lt k 7) i k (slot_room i k has place.one place.none) place.held
  kept_at (at.SendSlot i) word sound place ready has =
      let kept : cache.spare ≤ after.spare = place.none tt in
      gate_next _ i sound.1 (omega (arith, has, kept))
  kept_at at.StoreGate word sound place ready has = tt
  kept_at at.FenceSlot word sound place ready has = (let kept : cache.spare ≤ after.spare = place.none tt in omega (arith, has, kept))
  kept_at at.SendGate word sound place ready has = tt
  kept_at at.FenceGate word sound place ready has = tt
  kept_at other word sound place ready has = absurd has

-- Of the operation that comes next.

pub kept : (t next : Task) (op : Op) (word : Option ℕ) (turn : Turn) (modelled : Option Image) (cache after : CacheState) → op ≡ op_of t → IsSound t
    → cache.spare ≤ after.spare + 1 → (BringsNone op cache.lines → cache.spare ≤ after.spare) → LeavesCache op modelled cache.lines after.lines
    → Tells (turn_of t word) turn next → ended turn ≡ None → IsReadyAt t.phase t cache → HasPlaces t cache → HasPlaces next after
kept t next op word turn modelled cache after is sound one none leaves tells on ready has =
    let place : Takes (op_of t) cache after = subst (λ (o : Op). Takes o cache after) is (takes op modelled cache after one none leaves) in
    subst (λ (o : Option Task). IfSome o (λ next. HasPlaces next after)) (goes_on (turn_of t word) turn next on tells)
    (kept_at t cache after t.phase (unwrap_or word 0) sound.stands place ready has)

-- one that looks at what was read is none of an append behind its first store
digest_at : (p : Phase) (t : Task) (cache : CacheState) → op_at t p ≡ Digest → HasPlacesAt p t cache → ⊥
digest_at (at.StoreData j k) t cache is has = absurd cc
digest_at (at.SendData j) t cache is has = absurd cc
digest_at (at.StoreSlot i k) t cache is has = absurd cc
digest_at (at.SendSlot i) t cache is has = absurd cc
digest_at at.StoreGate t cache is has = absurd cc
digest_at at.FenceSlot t cache is has = absurd cc
digest_at at.SendGate t cache is has = absurd cc
digest_at at.FenceGate t cache is has = absurd cc
digest_at other t cache is has = has

pub digest_none : (t : Task) (cache : CacheState) → op_of t ≡ Digest → ¬ (HasPlaces t cache)
digest_none t cache is has = digest_at t.phase t cache is has

-- so of what comes of a Digest: it is no append's with its places
pub digest_places : (t : Task) (cache : CacheState) (next : Task) (after : CacheState) (r : Result Turn OperationFault) → op_of t ≡ Digest → ReadyPlacesKept t cache next after r
digest_places t cache next after (Ok turn) is = λ on has. absurd (digest_none t cache is has)
digest_places t cache next after (Err (fault.MediaFault line)) is = tt
digest_places t cache next after (Err fault.OutOfMemory) is = digest_none t cache is

-- Operations on copies alone.

held_of : (op : Op) (now after : Cache) → IsCached op now → after ≡ cached_after op now → IsHeldBy op after
held_of (Store line k value) now after of is =
    let cell : Cell = Dirty false (slice_set (words_of (cell_at now line.0)) k value) in
    subst (λ (c : Cache). IsHeld (cell_at c line.0)) (sym is) (subst IsHeld {x = cell} (sym (cell_at-with_cell_same line.0 cell now)) refl)
held_of other now after of is = tt

ready_of : (p : Phase) (t : Task) (cache : CacheState) → IsCached (op_at t p) cache.lines → IsReadyAt p t cache
ready_of (at.StoreData j k) t cache of = λ _. of
ready_of other t cache of = tt

-- a cache of these lines, with so many places
abbrev pub with_places : Cache → ℕ → CacheState
with_places lines spare = record { lines = lines; spare = spare }

-- one operation that takes no place
held_step : (t next : Task) (now after : Cache) (spare : ℕ) (word : Option ℕ) → IsSound t → IsCached (op_of t) now → IsHeldBy (op_of t) after
    → turn_of t word ≡ turns.Goes next → HasPlaces t (with_places now spare) → HasPlaces next (with_places after spare)
held_step t next now after spare word sound of held turn has =
    let place : Takes (op_of t) (with_places now spare) (with_places after spare) = record {
      one = omega arith;
      none = λ _. omega arith;
      held = held;
    } in
    subst (λ (w : turns.Turn). KeptBy w (with_places after spare)) turn
    (kept_at t (with_places now spare) (with_places after spare) t.phase (unwrap_or word 0) sound.stands place (ready_of t.phase t (with_places now spare) of) has)

run_kept : (t next : Task) (held after : Cache) (spare : ℕ) {n : ℕ} → CachedRun t held next after n → HasPlaces t (with_places held spare) → HasPlaces next (with_places after spare)
run_kept t _ held _ spare run.none has = has
run_kept t next held after spare (run.more {mid = mid} {now = now} before sound within of is turn) has =
    held_step mid next now after spare (word_of (op_of mid) now) sound of (held_of (op_of mid) now after of is) turn (run_kept t mid held now spare before has)

-- more places are no fewer
more_places : (p : Phase) (t : Task) (lines : Cache) (spare now : ℕ) → spare ≤ now → HasPlacesAt p t (with_places lines spare) → HasPlacesAt p t (with_places lines now)
more_places (at.StoreData j k) t lines spare now le has = (omega (arith, has.0), has.1)
more_places (at.SendData j) t lines spare now le has = omega (arith, has)
more_places (at.StoreSlot i k) t lines spare now le has = record {
  begun = omega (arith, has.begun);
  first = λ zero. (let enough = has.first zero in omega (arith, enough));
  held = has.held;
}
more_places (at.SendSlot i) t lines spare now le has = omega (arith, has)
more_places at.StoreGate t lines spare now le has = omega (arith, has)
more_places at.FenceSlot t lines spare now le has = omega (arith, has)
more_places at.SendGate t lines spare now le has = tt
more_places at.FenceGate t lines spare now le has = tt
more_places other t lines spare now le has = has

pub held_kept : (t next : Task) (cache after : CacheState) {n : ℕ} → CachedRun t cache.lines next after.lines n → cache.spare ≤ after.spare → HasPlaces t cache → HasPlaces next after
held_kept t next cache after run le has =
    more_places next.phase next after.lines cache.spare after.spare le (run_kept t next cache.lines after.lines cache.spare run has)

sent_ready : (p : Phase) (t : Task) (cache : CacheState) {line : LineNo} → op_at t p ≡ Invalidate line → IsReadyAt p t cache
sent_ready (at.StoreData j k) t cache is = absurd cc
sent_ready other t cache is = tt

-- A line of the file that is stored whole. Its stores are as those into a copy, which takes no place.

stores_kept : (line : LineNo) (words : List ℕ) (t next : Task) (n : ℕ) (lines : Cache) (spare : ℕ) → IsHeld (cell_at lines line.0)
    → Stores line words t next n → HasPlaces t (with_places lines spare) → HasPlaces next (with_places lines spare)
stores_kept line words t _ _ lines spare held rest.begins has = has
stores_kept line words t next _ lines spare held (rest.stores {mid = mid} {n = n} before sound op within turn) has =
    held_step mid next lines lines spare None sound (subst (λ (o : Op). IsCached o lines) (sym op) held) (subst (λ (o : Op). IsHeldBy o lines) (sym op) held) turn
    (stores_kept line words t mid n lines spare held before has)

module _ (line : LineNo) (words : List ℕ) (t : Task) (cache : CacheState) (due : IsFileLineDue line words t) where
  enough : HasPlaces t cache → append_places t.params ≤ cache.spare
  enough has = (let at_line : HasPlacesAt (at.StoreData due.j 0) t cache = subst (λ (p : Phase). HasPlacesAt p t cache) due.phase has in at_line.0)

  pub put_kept : (sent next : Task) (after : CacheState) → IsSound t → IsSound sent → StoresFileLine line words t sent → cache.spare ≤ after.spare
      → Tells (turn_of sent None) Go next → HasPlaces t cache → HasPlaces next after
  put_kept sent next after sound sound_sent stores le tells has =
      let cell : Cell = Dirty false words in
      let lines : Cache = with_cell line.0 cell cache.lines in
      let held : IsHeld (cell_at lines line.0) = subst IsHeld {x = cell} (sym (cell_at-with_cell_same line.0 cell cache.lines)) refl in
      let first : HasPlacesAt (at.StoreData due.j 0) t (with_places lines cache.spare) = (enough has, λ some. absurd (omega (arith, some))) in
      let begun : HasPlaces stores.begun (with_places lines cache.spare) =
      held_step t stores.begun lines lines cache.spare None sound (subst (λ (o : Op). IsCached o lines) (sym stores.op) held) (subst (λ (o : Op). IsHeldBy o lines) (sym stores.op) held) stores.turn
      (subst (λ (p : Phase). HasPlacesAt p t (with_places lines cache.spare)) (sym due.phase) first) in
      let stored : HasPlaces sent (with_places lines cache.spare) = stores_kept line words stores.begun sent 7 lines cache.spare held stores.rest begun in
      let place : Takes (op_of sent) (with_places lines cache.spare) after = subst (λ (o : Op). Takes o (with_places lines cache.spare) after) (sym stores.sends) (record {
        one = omega arith;
        none = λ _. le;
        held = tt;
      }) in
      subst (λ (o : Option Task). IfSome o (λ next. HasPlaces next after)) (goes_on (turn_of sent None) Go next refl tells)
      (kept_at sent (with_places lines cache.spare) after sent.phase 0 sound_sent.stands place (sent_ready sent.phase sent (with_places lines cache.spare) stores.sends) stored)

-- What it says: it just goes on, or answers.

abbrev IsGoing : turns.Turn → Type 0
IsGoing (turns.Goes t) = ⊤
IsGoing (turns.Marks t) = ⊥
IsGoing (turns.Finds n t) = ⊥
IsGoing (turns.Writes seq e t) = ⊥
IsGoing (turns.Ends reply) = ⊤

going_at : (p : Phase) (t : Task) (word : ℕ) (cache : CacheState) → HasPlacesAt p t cache → IsGoing (turn_at p t word)
going_at (at.StoreData j k) t word cache has = tt
going_at (at.SendData j) t word cache has = tt
going_at (at.StoreSlot i k) t word cache has = tt
going_at (at.SendSlot i) t word cache has = tt
going_at at.StoreGate t word cache has = tt
going_at at.FenceSlot t word cache has = tt
going_at at.SendGate t word cache has = tt
going_at at.FenceGate t word cache has = tt
going_at other t word cache has = absurd has

says_go : (wanted : turns.Turn) (turn : Turn) (next : Task) → IsGoing wanted → ended turn ≡ None → Tells wanted turn next → turn ≡ Go
says_go (turns.Goes t) turn next going on tells = tells.0
says_go (turns.Marks t) turn next going on tells = absurd going
says_go (turns.Finds n t) turn next going on tells = absurd going
says_go (turns.Writes seq e t) turn next going on tells = absurd going
says_go (turns.Ends reply) turn next going on tells = absurd (no_reply turn reply on tells)

pub quiet : (t next : Task) (word : Option ℕ) (turn : Turn) (cache : CacheState) → Tells (turn_of t word) turn next → ended turn ≡ None → HasPlaces t cache → turn ≡ Go
quiet t next word turn cache tells on has =
    says_go (turn_of t word) turn next (going_at t.phase t (unwrap_or word 0) cache has) on tells

-- Places that are made before operations are kept by them.

pub made : (t next : Task) (cache mid after : CacheState) (r : Result Turn OperationFault) → (IsFirstStore t ⊎ HasPlaces t cache → HasPlaces t mid)
    → PlacesKept t mid next after r → PlacesMade t cache next after r
made t next cache mid after (Ok turn) ready kept = λ on has. kept on (ready has)
made t next cache mid after (Err (fault.MediaFault line)) ready kept = tt
made t next cache mid after (Err fault.OutOfMemory) ready kept = λ has. kept (ready (inr has))

-- A task that has none keeps none.

pub none_kept : (t next : Task) (cache after : CacheState) (said : Result Turn OperationFault) → (HasPlaces t cache → ⊥) → PlacesKept t cache next after said
none_kept t next cache after (Ok turn) none = λ goes has. absurd (none has)
none_kept t next cache after (Err (fault.MediaFault line)) none = tt
none_kept t next cache after (Err fault.OutOfMemory) none = none

pub no_places : (p : Phase) (t : Task) (cache : CacheState) → t.phase ≡ p → (HasPlacesAt p t cache → ⊥) → HasPlaces t cache → ⊥
no_places p t cache is none has = none (subst (λ (q : Phase). HasPlacesAt q t cache) is has)

-- Behind one operation that isn't the first store of a line of the file an append has its places.

ready_at : (p : Phase) (t : Task) (cache : CacheState) → ((j : ℕ) → p ≡ at.StoreData j 0 → ⊥) → IsReadyAt p t cache
ready_at (at.StoreData j k) t cache other = λ none. absurd (other j (ap (λ (n : ℕ). at.StoreData j n) none))
ready_at at.DropMagic t cache other = tt
ready_at at.Magic t cache other = tt
ready_at (at.Drop part j) t cache other = tt
ready_at (at.Word part j k) t cache other = tt
ready_at at.DropGate t cache other = tt
ready_at at.Gate t cache other = tt
ready_at (at.Check i) t cache other = tt
ready_at at.Decide t cache other = tt
ready_at (at.SendData j) t cache other = tt
ready_at (at.StoreSlot i k) t cache other = tt
ready_at (at.SendSlot i) t cache other = tt
ready_at at.StoreGate t cache other = tt
ready_at at.FenceSlot t cache other = tt
ready_at at.SendGate t cache other = tt
ready_at at.FenceGate t cache other = tt

ready_kept : (t next : Task) (cache after : CacheState) (said : Result Turn OperationFault) → IsReadyAt t.phase t cache → ReadyPlacesKept t cache next after said → PlacesKept t cache next after said
ready_kept t next cache after (Ok turn) ready kept = λ goes has. let k = kept goes has in (k.0, k.1 ready)
ready_kept t next cache after (Err (fault.MediaFault line)) ready kept = tt
ready_kept t next cache after (Err fault.OutOfMemory) ready kept = kept

pub other_kept : (t next : Task) (cache after : CacheState) (said : Result Turn OperationFault) → ((j : ℕ) → t.phase ≡ at.StoreData j 0 → ⊥)
    → ReadyPlacesKept t cache next after said → PlacesKept t cache next after said
other_kept t next cache after said other = ready_kept t next cache after said (ready_at t.phase t cache other)
