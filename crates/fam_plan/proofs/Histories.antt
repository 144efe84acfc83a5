-- Histories, one entry more in them, and their tree and units.
use Rattle.std.proofs.Common.{◌≡◌, ℕ, ◌+◌, ◌*◌, ◌<◌, ◌≤◌, ◌||◌, Bool, nat_lt, List, [], ◌∷◌, ◌++◌, length, take, get_or, Option, Some, None, sym, ap, subst, ◌∙◌, inl, inr, arith}
use Rattle.std.specs.List.{slice_get}
use Rattle.std.proofs.lemmas.Bool.{cases_lt}
use Rattle.std.proofs.lemmas.List.{append-nil, get_or_append_left, take-append-le, length-append}
use Rattle.std.proofs.lemmas.List.Concat.{flat_map-append}
use Rattle.std.proofs.lemmas.List.Elements.{All-weaker}
use Rattle.std.proofs.Math.Bool.{or_assoc}
use Rattle.std.proofs.Math.Seq.{get_or-append_seam, take-append_seam}
use Rattle.std.proofs.lemmas.Option.{slice_get_within, slice_get-get_or, get_or_from_slice_get}
use Rattle.fam_base.specs.declared.entry.Params.{Params}
use Rattle.fam_base.specs.declared.entry.Entry.{Entry}
use Rattle.fam_format.specs.EntryLaws.{IsInDevice}
use Rattle.fam_format.specs.Layout.{device_units, head_units}
use Rattle.fam_format.specs.declared.faults.Reason.{Reason}
use Rattle.fam_format.specs.Slot.{Proper}
use Rattle.fam_format.specs.Stop.{or_else}
use Rattle.fam_format.specs.Tree.{Tree, replay, with_entry, join_fault, tree_fault, overlap_fault}
use Rattle.fam_format.specs.Units.{units_in, list_units, is_used, first_overlap}
use Rattle.fam_format.proofs.EntryLawsProofs.{proper_inside}
use Rattle.fam_format.proofs.JoinLaws.{joins_from, replay_more}
use Rattle.fam_rules.specs.Place.{IsOnce, IsLaidOut}
use Rattle.fam_rules.proofs.FilePlaces.{unit_some}
use Rattle.fam_rules.proofs.ListPlaces.{laid_apart}
use Rattle.fam_alloc.specs.Taken.{is_taken, holds, LieWithin}
use Rattle.fam_alloc.proofs.MapLemmas.{overlap_same_on, units_below}
use Rattle.fam_alloc.proofs.OverlapLemmas.{holds-append}
use Rattle.fam_plan.specs.State.{PlanState, IsAdded, IsHistory, IsPlan}

-- No unit stands twice.

pub once_in : (s : PlanState) → IsHistory s → IsOnce (list_units s.params.unit s.entries)
once_in s h =
    let laid : IsLaidOut s.params s.entries = λ i e at.
    let is = h.added i e at in record { proper = is.proper; units = (joins_from s.params (take i s.entries) e is.joins).units } in
    (laid_apart s.params s.entries laid).once

-- The units of an entry.

-- its extents lie within the units of the map
pub lie_within : (s : PlanState) (tree : Tree) (map : List Bool) (e : Entry) → IsPlan s tree map → Proper s.params e → LieWithin s.params.unit (length map) e.extents
lie_within s tree map e plan proper =
    All-weaker (IsInDevice s.params) (λ x. x.offset + x.length ≤ length map * s.params.unit) (λ x is.
    let same : device_units s.params * s.params.unit ≡ length map * s.params.unit = ap (λ (n : ℕ). n * s.params.unit) (sym plan.units) in
    omega (arith, is.before, same)) e.extents (proper_inside s.params e proper)

-- the map and the list have one first overlap
pub overlap_same : (s : PlanState) (tree : Tree) (map : List Bool) (e : Entry) → IsPlan s tree map → Proper s.params e
    → overlap_fault (first_overlap (is_taken map) (units_in s.params.unit e.extents))
    ≡ overlap_fault (first_overlap (is_used s.params s.entries) (units_in s.params.unit e.extents))
overlap_same s tree map e plan proper =
    ap overlap_fault (overlap_same_on (is_taken map) (is_used s.params s.entries) (units_in s.params.unit e.extents) (λ u h.
    let below : u < length map = units_below s.params.unit (length map) e.extents (unit_some s.params plan.history.params) (lie_within s tree map e plan proper) u h in
    plan.used u (omega (arith, plan.units))))

-- One entry more.

-- its units are used too
pub used_more : (p : Params) (list : List Entry) (e : Entry) (u : ℕ) → is_used p (list ++ e ∷ []) u ≡ (is_used p list u || holds (units_in p.unit e.extents) u)
used_more p list e u =
    let all : list_units p.unit (list ++ e ∷ []) ≡ list_units p.unit list ++ units_in p.unit e.extents =
    flat_map-append (λ (x : Entry). units_in p.unit x.extents) list (e ∷ [])
    ∙ ap (λ (us : List ℕ). list_units p.unit list ++ us) (append-nil (units_in p.unit e.extents)) in
    ap (λ (us : List ℕ). nat_lt u (head_units p) || holds us u) all
    ∙ ap (λ (b : Bool). nat_lt u (head_units p) || b) (holds-append (list_units p.unit list) (units_in p.unit e.extents) u)
    ∙ sym (or_assoc (nat_lt u (head_units p)) (holds (list_units p.unit list) u) (holds (units_in p.unit e.extents) u))

-- an entry of the longer list is one of the shorter, or the last
added_more : (s : PlanState) (e : Entry) → IsHistory s → IsAdded s.params s.entries e → (i : ℕ) (x : Entry)
    → slice_get (s.entries ++ e ∷ []) i ≡ Some x → IsAdded s.params (take i (s.entries ++ e ∷ [])) x
added_more s e h is i x at =
    let longer : List Entry = s.entries ++ e ∷ [] in
    elim (cases_lt i (length s.entries)) [
      | inl below ↦
          let before : slice_get s.entries i ≡ Some x =
          slice_get-get_or s.entries i x below
          ∙ ap (λ (y : Entry). Some y) (sym (get_or_append_left s.entries (e ∷ []) x i below) ∙ get_or_from_slice_get longer i x x at) in
          subst (λ (list : List Entry). IsAdded s.params list x) (sym (take-append-le i s.entries (e ∷ []) (omega arith))) (h.added i x before)
      | inr past ↦
          let last : i ≡ length s.entries = omega (arith, past, slice_get_within longer i x at, length-append s.entries (e ∷ [])) in
          let same : e ≡ x =
          sym (get_or-append_seam s.entries e [] e) ∙ ap (λ (k : ℕ). get_or longer k e) (sym last) ∙ get_or_from_slice_get longer i x e at in
          let prefix : s.entries ≡ take i longer = sym (take-append_seam s.entries (e ∷ [])) ∙ ap (λ (k : ℕ). take k longer) (sym last) in
          subst (λ (list : List Entry). IsAdded s.params list x) prefix (subst (IsAdded s.params s.entries) same is)
    ]

-- the list with one entry more
abbrev pub with_last : PlanState → Entry → PlanState
with_last s e = record { params = s.params; entries = s.entries ++ e ∷ [] }

history_more : (s : PlanState) (e : Entry) → IsHistory s → length s.entries < s.params.slots → IsAdded s.params s.entries e → IsHistory (with_last s e)
history_more s e h left is = record {
  params = h.params;
  few = omega (arith, length-append s.entries (e ∷ []));
  added = added_more s e h is;
}

pub plan_more : (s : PlanState) (held more : Tree) (map after : List Bool) (e : Entry) → IsPlan s held map → length s.entries < s.params.slots
    → IsAdded s.params s.entries e → more ≡ with_entry held e → length after ≡ length map
    → ((u : ℕ) → is_taken after u ≡ (is_taken map u || holds (units_in s.params.unit e.extents) u)) → IsPlan (with_last s e) more after
plan_more s held more map after e plan left is added count taken = record {
  history = history_more s e plan.history left is;
  tree = added ∙ ap (λ (t : Tree). with_entry t e) plan.tree ∙ sym (replay_more s.entries e);
  units = count ∙ plan.units;
  used = λ u below.
      taken u ∙ ap (λ (b : Bool). b || holds (units_in s.params.unit e.extents) u) (plan.used u below) ∙ sym (used_more s.params s.entries e u);
}

-- the faults against an entry: the tree's, then the first overlap
pub fault_by_parts : (s : PlanState) (held : Tree) (map : List Bool) (e : Entry) → IsPlan s held map → Proper s.params e
    → or_else (tree_fault held e) (overlap_fault (first_overlap (is_taken map) (units_in s.params.unit e.extents))) ≡ join_fault s.params s.entries e
unfolding join_fault
fault_by_parts s held map e plan proper =
    ap (λ (t : Tree). or_else (tree_fault t e) (overlap_fault (first_overlap (is_taken map) (units_in s.params.unit e.extents)))) plan.tree
    ∙ ap (λ (f : Option Reason). or_else (tree_fault (replay s.entries) e) f) (overlap_same s held map e plan proper)

-- an entry that fits the tree has the first overlap as its fault
pub fault_by_units : (s : PlanState) (held : Tree) (map : List Bool) (e : Entry) → IsPlan s held map → Proper s.params e → tree_fault held e ≡ None
    → overlap_fault (first_overlap (is_taken map) (units_in s.params.unit e.extents)) ≡ join_fault s.params s.entries e
fault_by_units s held map e plan proper fits =
    ap (λ (f : Option Reason). or_else f (overlap_fault (first_overlap (is_taken map) (units_in s.params.unit e.extents)))) (sym fits)
    ∙ fault_by_parts s held map e plan proper

-- No entries.

-- What `add` says, of the state that its caller sees.
module _ (s now : PlanState) (held : Tree) (map : List Bool) (e : Entry) (plan : IsPlan s held map) (view : s ≡ now) (proper : Proper now.params e) where
  proper_here : Proper s.params e
  proper_here = subst (λ (t : PlanState). Proper t.params e) (sym view) proper

  pub within_view : LieWithin s.params.unit (length map) e.extents
  within_view = lie_within s held map e plan proper_here

  pub fault_of_view : or_else (tree_fault held e) (overlap_fault (first_overlap (is_taken map) (units_in s.params.unit e.extents))) ≡ join_fault now.params now.entries e
  fault_of_view = fault_by_parts s held map e plan proper_here ∙ ap (λ (t : PlanState). join_fault t.params t.entries e) view

  pub units_of_view : tree_fault held e ≡ None → overlap_fault (first_overlap (is_taken map) (units_in s.params.unit e.extents)) ≡ join_fault now.params now.entries e
  units_of_view fits = fault_by_units s held map e plan proper_here fits ∙ ap (λ (t : PlanState). join_fault t.params t.entries e) view

  -- an entry that fits the tree and the map is added
  pub added_of_view : tree_fault held e ≡ None → overlap_fault (first_overlap (is_taken map) (units_in s.params.unit e.extents)) ≡ None → IsAdded s.params s.entries e
  added_of_view fits free = record { proper = proper_here; joins = sym (fault_by_units s held map e plan proper_here fits) ∙ free }

  -- the plan with that entry
  pub plan_added : (list : List Entry) (more : Tree) (after : List Bool) → tree_fault held e ≡ None
      → overlap_fault (first_overlap (is_taken map) (units_in s.params.unit e.extents)) ≡ None → length now.entries < now.params.slots
      → list ≡ s.entries ++ e ∷ [] → more ≡ with_entry held e → length after ≡ length map
      → ((u : ℕ) → is_taken after u ≡ (is_taken map u || holds (units_in s.params.unit e.extents) u))
      → IsPlan (record { params = s.params; entries = list }) more after
  plan_added list more after fits free left is added count taken =
      let room : length s.entries < s.params.slots = subst (λ (t : PlanState). length t.entries < t.params.slots) (sym view) left in
      subst (λ (l : List Entry). IsPlan (record { params = s.params; entries = l }) more after) (sym is)
      (plan_more s held more map after e plan room (added_of_view fits free) added count taken)
