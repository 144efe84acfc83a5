-- What is settled becomes other by what a task says: what holds of memory, and what is known of the other tasks, stays.
use Rattle.std.proofs.Common.{◌≡◌, ℕ, ◌+◌, ◌<◌, ◌≤◌, List, length, take, refl, sym, ap, ◌∙◌, arith}
use Rattle.std.specs.Prelude.{slice_get, Option, Some, None}
use Rattle.std.proofs.lemmas.List.{append-nil, length-append, take-append-le}
use Rattle.fam_protocol.specs.SharedState.{SharedState}
use Rattle.fam_protocol.proofs.Lines.Floors.{at_least_more}
use Rattle.fam_mail.specs.declared.ask.Ask.{Ask}
use Rattle.fam_mail.specs.declared.phase.Phase.{Phase}
use Rattle.fam_mail.specs.declared.phase.Phase.TheVariants as at
use Rattle.fam_mail.specs.Mail.{Mail, TaskRun, pending_dropped, records_found, pending_joined, pending_list, whole}
use Rattle.fam_mail.specs.Protocol.{AtMailPhase, Box, BoxCore, HasStoredGate, HasReadRecords, IsPosting, RunHolds, gate_at, top_at}
use Rattle.fam_mail.specs.Tasks.{MailTask}
use Rattle.fam_mail.proofs.Lists.{by_equal, few_listed, front_member}

-- Lists.

pub whole_length : (m : Mail) → length (whole m) ≡ length m.list + length (pending_list m.pending)
whole_length m = length-append m.list (pending_list m.pending)

-- at most one record is pending
pub few_pending : (m : Mail) → (length m.list ≤ length (whole m)) × (length (whole m) ≤ length m.list + 1)
few_pending m = (omega (arith, whole_length m), omega (arith, whole_length m, few_listed m.pending))

pub whole_joined : (m : Mail) → whole (pending_joined m) ≡ whole m
whole_joined m = append-nil (whole m)

-- Memory and caches stay while other records are settled: those that the gate may count are the same.
pub core_settled : (b : Box) (s : SharedState) (m m' : Mail) → BoxCore b s m → length m'.list ≤ gate_at b s → top_at b s ≤ length (whole m') → length (whole m') ≤ b.capacity
    → ((i : ℕ) → i < top_at b s → slice_get (whole m') i ≡ slice_get (whole m) i) → BoxCore b s m'
core_settled b s m m' core low high room front = record {
  apart = core.apart;
  wide = core.wide;
  only_writer = core.only_writer;
  inside = core.inside;
  outside = core.outside;
  low = low;
  order = core.order;
  high = high;
  room = room;
  stands = λ i numbers is lt. core.stands i numbers (sym (front i lt) ∙ is) lt;
  clean = core.clean;
}

-- the pending record joins, which the gate counts
pub core_joined : (b : Box) (s : SharedState) (m : Mail) → BoxCore b s m → length (whole m) ≤ gate_at b s → BoxCore b s (pending_joined m)
core_joined b s m core le = core_settled b s m (pending_joined m) core le
    (omega (arith, core.high, ap (λ (xs : List (List ℕ)). length xs) (whole_joined m)))
    (omega (arith, core.room, ap (λ (xs : List (List ℕ)). length xs) (whole_joined m)))
    (λ i lt. ap (λ (xs : List (List ℕ)). slice_get xs i) (whole_joined m))

-- What another task rests on while other records are settled.
pub record Settles (b : Box) (h : ℕ) (s : SharedState) (m m' : Mail) : Type 0 where
  pub grows : length m.list ≤ length m'.list
  pub front : (i : ℕ) → i ≤ gate_at b s → take i (whole m') ≡ take i (whole m)
  pub writing : (ask : Ask) (gate : ℕ) → IsPosting b h ask gate s m → IsPosting b h ask gate s m'
  pub published : (ask : Ask) (gate : ℕ) → HasStoredGate b h ask gate s m → HasStoredGate b h ask gate s m'

module _ (b : Box) (h : ℕ) (s : SharedState) (m m' : Mail) (settles : Settles b h s m m') where
  read_settled : (i : ℕ) (floor : Option ℕ) (gate : ℕ) (records : List (List ℕ)) → HasReadRecords i b floor gate records s m → HasReadRecords i b floor gate records s m'
  read_settled i floor gate records r = record { has = r.has; below = r.below; read = r.read ∙ sym (settles.front i (omega (arith, r.below, r.has.high))) }

  phase_settled : (p : Phase) (floor : Option ℕ) (t : MailTask) → AtMailPhase p b h floor t s m → AtMailPhase p b h floor t s m'
  phase_settled at.DropGate floor t at = at
  phase_settled at.LoadGate floor t at = (
    record { low = at_least_more floor (length m.list) (length m'.list) settles.grows at.0.low; copy = at.0.copy; writers = at.0.writers },
    at.1,
  )
  phase_settled (at.StoreRecord k) floor t at = (at.0, settles.writing t.ask t.gate at.1, at.2)
  phase_settled at.SendRecord floor t at = (settles.writing t.ask t.gate at.0, at.1)
  phase_settled at.FenceRecord floor t at = (settles.writing t.ask t.gate at.0, at.1)
  phase_settled at.StoreGate floor t at = (settles.writing t.ask t.gate at.0, at.1)
  phase_settled at.SendGate floor t at = settles.published t.ask t.gate at
  phase_settled at.FenceGate floor t at = (settles.published t.ask t.gate at.0, at.1)
  phase_settled at.Count floor t at = at
  phase_settled (at.DropRecord i) floor t at = read_settled i floor t.gate t.records at
  phase_settled (at.LoadRecord i k) floor t at = (at.0, record { has = read_settled i floor t.gate t.records at.1.has; fresh = at.1.fresh; words = at.1.words })

  -- what is known of a task stays when more is settled
  pub task_settled : (r : TaskRun) → RunHolds b h r s m → RunHolds b h r s m'
  task_settled r holds = record { capacity = holds.capacity; long = holds.long; post = holds.post; phase = phase_settled r.task.phase r.floor r.task holds.phase }

-- the pending record joins, which memory's gate counts: nobody writes it any more
pub settles_joined : (b : Box) (h : ℕ) (s : SharedState) (m : Mail) → BoxCore b s m → gate_at b s ≡ length m.list + 1 → Settles b h s m (pending_joined m)
settles_joined b h s m core counted = record {
  grows = (few_pending m).0;
  front = λ i le. ap (λ (xs : List (List ℕ)). take i xs) (whole_joined m);
  writing = λ ask gate w. absurd (omega (arith, counted, core.order, w.unpublished, w.settled));
  published = λ ask gate p. record {
    own = p.own;
    published = p.published;
    count = ap (λ (xs : List (List ℕ)). length xs) (whole_joined m) ∙ p.count;
    last = ap (λ (xs : List (List ℕ)). slice_get xs gate) (whole_joined m) ∙ p.last;
    settled = omega (arith, p.settled, (few_pending m).0);
  };
}

-- A writer that has loaded the gate finds so many records.

-- the list is as long as the gate
pub found_length : (n : ℕ) (m : Mail) → length m.list ≤ n → n ≤ length (whole m) → length (records_found n m).list ≡ n
found_length n m low high = by_equal (λ (x : Mail). length x.list ≡ n) n (length m.list + 1) (pending_joined m) (pending_dropped m)
    (λ e. omega (arith, e, high, (few_pending m).1)) (λ ne. omega (arith, ne, low, high, (few_pending m).1))

-- and it is the front of what was settled or pending
pub found_front : (n : ℕ) (m : Mail) → length m.list ≤ n → n ≤ length (whole m) → (i : ℕ) → i ≤ n → take i (records_found n m).list ≡ take i (whole m)
found_front n m low high i le = by_equal (λ (x : Mail). take i x.list ≡ take i (whole m)) n (length m.list + 1) (pending_joined m) (pending_dropped m)
    (λ e. refl) (λ ne. sym (take-append-le i m.list (pending_list m.pending) (omega (arith, le, ne, low, high, (few_pending m).1))))

-- so its members are
pub found_member : (n : ℕ) (m : Mail) → length m.list ≤ n → n ≤ length (whole m) → (i : ℕ) → i < n → slice_get (records_found n m).list i ≡ slice_get (whole m) i
found_member n m low high i lt = by_equal (λ (x : Mail). slice_get x.list i ≡ slice_get (whole m) i) n (length m.list + 1) (pending_joined m) (pending_dropped m)
    (λ e. refl) (λ ne. sym (front_member m.list (pending_list m.pending) i (omega (arith, lt, ne, low, high, (few_pending m).1))))

-- nothing is pending
pub found_pending : (n : ℕ) (m : Mail) → (records_found n m).pending ≡ None
found_pending n m = by_equal (λ (x : Mail). x.pending ≡ None) n (length m.list + 1) (pending_joined m) (pending_dropped m) (λ e. refl) (λ ne. refl)

module _ (b : Box) (s : SharedState) (m : Mail) (core : BoxCore b s m) (n : ℕ) (top_is : top_at b s ≡ n) (gate_is : n ≤ gate_at b s) (pending : Option (List ℕ))
    (room : n + length (pending_list pending) ≤ b.capacity) where
  low : length m.list ≤ n
  low = omega (arith, core.low, core.order, top_is)

  high : n ≤ length (whole m)
  high = omega (arith, core.high, top_is)

  now_length : length (whole (record (records_found n m) { pending = pending })) ≡ n + length (pending_list pending)
  now_length = omega (arith, length-append (records_found n m).list (pending_list pending), found_length n m low high)

  -- what holds of the box stays when a post has found its place
  pub core_found : BoxCore b s (record (records_found n m) { pending = pending })
  core_found = core_settled b s m (record (records_found n m) { pending = pending }) core (omega (arith, found_length n m low high, gate_is)) (omega (arith, now_length, top_is))
      (omega (arith, now_length, room))
      (λ i lt. front_member (records_found n m).list (pending_list pending) i (omega (arith, lt, top_is, found_length n m low high)) ∙ found_member n m low high i (omega (arith, lt, top_is)))

  -- other hosts than the writer
  pub settles_found : (h : ℕ) → (b.writer ≡ Some h → ⊥) → Settles b h s m (record (records_found n m) { pending = pending })
  settles_found h other = record {
    grows = omega (arith, low, found_length n m low high);
    front = λ i le.
        take-append-le i (records_found n m).list (pending_list pending) (omega (arith, le, core.order, top_is, found_length n m low high))
        ∙ found_front n m low high i (omega (arith, le, core.order, top_is));
    writing = λ ask gate w. absurd (other w.own.writer);
    published = λ ask gate p. absurd (other p.own.writer);
  }
