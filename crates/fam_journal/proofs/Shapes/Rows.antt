-- What a row of a call adds has its shape.
use Rattle.std.proofs.Common.{◌≡◌, ◌⊎◌, inl, inr, ℕ, Bool, List, [], ◌∷◌, length, map, Option, Some, None, refl, ap, ap₂, sym, ◌∙◌, subst, arith}
use Rattle.std.specs.Prelude.{slice_get}
use Rattle.std.specs.FinMap as finmap
use Rattle.std.proofs.lemmas.List.{length-replicate}
use Rattle.fam_base.proofs.ImageLemmas.{length-with_line}
use Rattle.fam_format.specs.Stop.{or_else}
use Rattle.fam_machine.specs.Mkfs.{asked, halted_ops, mkfs_ops, read_ops}
use Rattle.fam_base.specs.declared.entry.Params.{Params}
use Rattle.fam_base.specs.Image.{line_at}
use Rattle.fam_machine.specs.declared.request.MkfsRequest.{MkfsRequest}
use Rattle.fam_machine.specs.Caches.{cell_at}
use Rattle.fam_machine.specs.HostMoves.{moved_words}
use Rattle.fam_machine.specs.Operations.{Machine}
use Rattle.fam_commands.specs.Stands as standing
use Rattle.fam_commands.specs.Task.{mounted}
use Rattle.fam_journal.specs.declared.refusal.Refusal.{Refusal}
use Rattle.fam_journal.specs.declared.refusal.Refusal.TheVariants as why
use Rattle.fam_journal.specs.Calls as call
use Rattle.fam_journal.specs.Calls.{Acts, ActsAt, AtNumber, CutCall, ByRefusal, Call, CutsAt, Does, MakesOrHalts, MayBeRefused, OnHost, Unfinished, dirty_from, dirty_refusal, may_begin, asked_name, number_of, on_host, refusal_of}
use Rattle.fam_journal.specs.Shapes.{ActsShape, AreShaped, AtShape, BreaksShape, DirtyShape, DoesShape, FaultShape, ShapeByRefusal, FreeShape, HostActsShape, HostShape, OfHostShape, StateShaped, SuperForm, UnfinishedShape, shapes_behind, made_note, refusal_told, shown_shapes}
use Rattle.fam_journal.specs.Machines.{HostState, Machines, machine_of, with_machine}
use Rattle.fam_journal.specs.Notes.{Note, Made, Cut, Refused}
use Rattle.fam_journal.proofs.Shapes.Operations.{all_length, all_look, shape_halted, shape_moved, move_length, operates_shape, operation_shape, runs_same}
use Rattle.fam_journal.proofs.Calls.Tests.{or_first}
use Rattle.fam_journal.proofs.Faces.{engaged_place, face, may_same, number_same, refusal_looks, step_same}
use Rattle.fam_journal.proofs.Shapes.Pairs.{dirty_other, pairs_at, pairs_changed, pairs_last, pairs_length}

or_both : {E : Type 0} (a b c : Option E) → or_else a (or_else b c) ≡ or_else (or_else a b) c
or_both None b c = refl
or_both (Some x) b c = refl

-- notes have a shape, and the hosts behind them are what notes tell
pub record Shaped (P : List Note → Type 0) (lines : ℕ) (hosts : List HostShape) (notes : List Note) (new : Machines) : Type 0 where
  pub shape : P notes
  pub next : AreShaped lines new (shapes_behind hosts notes)

pub shaped_as : (P : List Note → Type 0) (lines : ℕ) (hosts : List HostShape) (notes told : List Note) (new left : Machines) → notes ≡ told
    → new ≡ left → Shaped P lines hosts told left → Shaped P lines hosts notes new
shaped_as P lines hosts notes told new left e f is =
    subst (λ (z : Machines). Shaped P lines hosts notes z) (sym f) (subst (λ (z : List Note). Shaped P lines hosts z left) (sym e) is)

module _ (lines : ℕ) (m : Machines) (hosts : List HostShape) (shaped : AreShaped lines m hosts) where
  abbrev told : Machines
  told = shown_shapes lines hosts

  look : map face m.hosts ≡ map face told.hosts
  look = all_look lines m.hosts hosts shaped.shaped

  same_lines : length m.memory ≡ length told.memory
  same_lines = shaped.lines_are ∙ sym (length-replicate lines [])

  pub number_told : (name : List ℕ) → number_of name m ≡ number_of name told
  number_told name = number_same m told look name

  pub may_told : (name : List ℕ) (mount : Bool) → may_begin name mount m ≡ may_begin name mount told
  may_told name mount = may_same m told look same_lines name mount

  pub step_told : (name : List ℕ) → on_host (number_of name m) (λ h. call.idle_refusal h m) ≡ on_host (number_of name told) (λ h. call.idle_refusal h told)
  step_told name = step_same m told look name

  -- operations of a host's task, which has not answered
  pub unfinished_shape : (h : ℕ) (notes : List Note) (new : Machines) → Unfinished h m notes new → Shaped (UnfinishedShape h hosts) lines hosts notes new
  unfinished_shape h notes new x =
      let o = operates_shape lines h x.count m hosts shaped notes new x.does in
      record {
        shape = record { operations = o.shape; runs = sym (runs_same lines h new.hosts (shapes_behind hosts notes) o.next.shaped) ∙ x.runs };
        next = o.next;
      }

  -- Of a declared host.

  module _ (h : ℕ) (host : HostState) (host_is : slice_get m.hosts h ≡ Some host) (f : HostShape) (f_is : slice_get hosts h ≡ Some f) (is : StateShaped lines host f) where
    -- the host's task is as before
    stays : (notes : List Note) (x : Machine) → shapes_behind hosts notes ≡ hosts → length x.image ≡ length m.memory → AreShaped lines (with_machine h x host.task m) (shapes_behind hosts notes)
    stays notes x quiet same =
        subst (λ (z : List HostShape). AreShaped lines (with_machine h x host.task m) z) (sym quiet)
        (shape_moved lines m hosts shaped h host host_is f f_is is x host.task same record { name = is.name; uuid = is.uuid; task = is.task; keeps = is.keeps; joined = is.joined })

    act_shape : (c : Call) (notes : List Note) (new : Machines) → ActsAt c h host m notes new → Shaped (ActsShape c h f lines hosts) lines hosts notes new
    act_shape (call.Declares name uuid) notes new x = absurd x
    act_shape (call.Makes name request) notes new (inl x) = make_shape request.halt notes new x
      where
        params : asked request host.uuid (length m.memory) ≡ asked request f.uuid lines
        params = ap₂ (asked request) (sym is.uuid) shaped.lines_are

        make_shape : (halt : Option ℕ) (notes : List Note) (new : Machines) → MakesOrHalts halt h (asked request host.uuid (length m.memory)) request.force host m notes new
            → Shaped (λ z. (z ≡ made_note halt h (asked request f.uuid lines) ∷ []) ⊎ SuperForm request.force name z) lines hosts notes new
        make_shape None notes new x =
            shaped_as (λ z. (z ≡ made_note None h (asked request f.uuid lines) ∷ []) ⊎ SuperForm request.force name z) lines hosts notes _ new _ x.notes_are x.left
            record {
              shape = inl (ap (λ (p : Params). Made h p ∷ []) params);
              next = stays (Made h (asked request host.uuid (length m.memory)) ∷ []) _ refl (all_length (mkfs_ops (asked request host.uuid (length m.memory))) (machine_of m host));
            }
        make_shape (Some k) notes new x =
            shaped_as (λ z. (z ≡ made_note (Some k) h (asked request f.uuid lines) ∷ []) ⊎ SuperForm request.force name z) lines hosts notes _ new _ x.notes_are x.left
            record {
              shape = inl refl;
              next = stays (Cut h k ∷ []) _ refl (all_length (halted_ops k (asked request host.uuid (length m.memory))) (machine_of m host));
            }
    act_shape (call.Makes name request) notes new (inr x) =
        shaped_as (ActsShape (call.Makes name request) h f lines hosts) lines hosts notes _ new _ x.notes_are x.left
        record {
          shape = inr (record { unforced = x.unforced; fs = x.other.fs; notes_are = refl });
          next = stays (Refused name (why.HasSuper x.other.fs) ∷ []) _ refl (all_length read_ops (machine_of m host));
        }
    act_shape (call.Begins name cmd) notes new x =
        shaped_as (ActsShape (call.Begins name cmd) h f lines hosts) lines hosts notes _ new _ x.0 x.1
        record {
          shape = refl;
          next = record {
            lines_are = shaped.lines_are;
            shaped = pairs_changed (StateShaped lines) m.hosts hosts h host f _ _ shaped.shaped host_is f_is
                record {
                  name = is.name;
                  uuid = is.uuid;
                  task = record {
                    task = mounted host.kept cmd host.uuid lines;
                    stands = record { joined = is.joined; stands = standing.starts };
                    is =
                        record { cmd = refl; me_is = refl; stage = refl };
                  };
                  keeps = is.keeps;
                  joined = is.joined;
                };
          };
        }
    act_shape (call.Steps name) notes new x =
        let o = operation_shape lines h m hosts shaped notes new x in record { shape = (o.shape, o.within); next = o.next }
    act_shape (call.Finishes name) notes new x =
        let o = operates_shape lines h x.count m hosts shaped notes new x.does in
        record {
          shape = record { operations = o.shape; done = sym (runs_same lines h new.hosts (shapes_behind hosts notes) o.next.shaped) ∙ x.done };
          next = o.next;
        }
    act_shape (call.Stops name) notes new x =
        shaped_as (ActsShape (call.Stops name) h f lines hosts) lines hosts notes _ new _ x.0 x.1
        record {
          shape = refl;
          next = record {
            lines_are = shaped.lines_are;
            shaped = pairs_changed (StateShaped lines) m.hosts hosts h host f _ _ shaped.shaped host_is f_is record { name = is.name; uuid = is.uuid; task = tt; keeps = is.keeps; joined = is.joined };
          };
        }
    act_shape (call.Halts name) notes new x =
        shaped_as (ActsShape (call.Halts name) h f lines hosts) lines hosts notes _ new _ x.0 x.1
        record { shape = refl; next = shape_halted lines m hosts shaped h host host_is f f_is is (record { image = m.memory; cache = finmap.empty }) refl }
    act_shape (call.Umounts name) notes new x =
        shaped_as (ActsShape (call.Umounts name) h f lines hosts) lines hosts notes _ new _ x.0 x.1
        record {
          shape = refl;
          next = record {
            lines_are = shaped.lines_are;
            shaped = pairs_changed (StateShaped lines) m.hosts hosts h host f _ _ shaped.shaped host_is f_is record { name = is.name; uuid = is.uuid; task = is.task; keeps = refl; joined = tt };
          };
        }
    act_shape (call.Moves name line move) notes new (inl x) =
        shaped_as (ActsShape (call.Moves name line move) h f lines hosts) lines hosts notes [] new _ x.notes_are x.left
        record { shape = inl refl; next = stays [] _ refl (length-with_line m.memory line (moved_words move (line_at m.memory line) (cell_at host.cache line))) }
    act_shape (call.Moves name line move) notes new (inr x) =
        shaped_as (ActsShape (call.Moves name line move) h f lines hosts) lines hosts notes _ new _ x.notes_are x.left
        record {
          shape = inr refl;
          next = record { lines_are = move_length move line x.through (machine_of m host) x.image x.fails ∙ shaped.lines_are; shaped = shaped.shaped };
        }
    act_shape (call.Refuses name cause) notes new x = absurd x

  module _ (notes : List Note) (new : Machines) where
    at_host : (c : Call) (h : ℕ) (o : Option HostState) → slice_get m.hosts h ≡ o → OnHost o (λ host. ActsAt c h host m notes new)
        → Shaped (λ z. OfHostShape (slice_get hosts h) (λ f. ActsShape c h f lines hosts z)) lines hosts notes new
    at_host c h None e x = absurd x
    at_host c h (Some host) e x =
        let p = pairs_at (StateShaped lines) m.hosts hosts h host shaped.shaped e in
        let a = act_shape h host e p.0 p.1 p.2 c notes new x in
        record { shape = subst (λ (o : Option HostShape). OfHostShape o (λ f. ActsShape c h f lines hosts notes)) (sym p.1) a.shape; next = a.next }

    at_number : (c : Call) (o : Option ℕ) → number_of (asked_name c) told ≡ o → AtNumber o m (λ h host. ActsAt c h host m notes new) → Shaped (HostActsShape c lines hosts) lines hosts notes new
    at_number c None e x = absurd x
    at_number c (Some h) e x =
        let a = at_host c h (slice_get m.hosts h) refl x in
        record { shape = subst (λ (o : Option ℕ). AtShape o hosts (λ h f. ActsShape c h f lines hosts notes)) (sym e) a.shape; next = a.next }

    acts_of : (c : Call) → AtNumber (number_of (asked_name c) m) m (λ h host. ActsAt c h host m notes new) → Shaped (HostActsShape c lines hosts) lines hosts notes new
    acts_of c x =
        at_number c (number_of (asked_name c) told) refl (subst (λ (o : Option ℕ). AtNumber o m (λ h host. ActsAt c h host m notes new)) (number_told (asked_name c)) x)

    -- a note alone, and nothing else
    pub noted : (P : List Note → Type 0) (name : List ℕ) (cause : Refusal) → P (Refused name cause ∷ []) → notes ≡ Refused name cause ∷ [] → new ≡ m → Shaped P lines hosts notes new
    noted P name cause shape e same = shaped_as P lines hosts notes _ new m e same record { shape = shape; next = shaped }

    may_refuse : (name : List ℕ) (cause : Refusal) → MayBeRefused name cause m → call.IsOfSource cause ⊎ ((mount : Bool) × (may_begin name mount told ≡ Some cause))
    may_refuse name cause (inl x) = inl x
    may_refuse name cause (inr x) = inr (x.0, sym (may_told name x.0) ∙ x.1)

    acts_shape : (c : Call) → Acts c m notes new → Shaped (FreeShape c lines hosts) lines hosts notes new
    acts_shape (call.Declares name uuid) x =
        shaped_as (FreeShape (call.Declares name uuid) lines hosts) lines hosts notes _ new _ x.0 x.1
        record {
          shape = refl;
          next = record {
            lines_are = shaped.lines_are;
            shaped =
                pairs_last (StateShaped lines) m.hosts hosts _ _ shaped.shaped record { name = refl; uuid = refl; task = tt; keeps = refl; joined = tt };
          };
        }
    acts_shape (call.Refuses name cause) x = noted (FreeShape (call.Refuses name cause) lines hosts) name cause (refl, may_refuse name cause x.2) x.0 x.1
    acts_shape (call.Makes name request) x = let a = acts_of (call.Makes name request) x in record { shape = inl a.shape; next = a.next }
    acts_shape e x = acts_of e x

    -- by the first refusal, which is the same
    by_same : (P : List Note → Type 0) (name : List ℕ) (A : Type 0) (o r : Option Refusal) → o ≡ r → (A → Shaped P lines hosts notes new)
        → ByRefusal name o notes m new A → Shaped (λ z. ShapeByRefusal name r z (P z)) lines hosts notes new
    by_same P name A None None e acts x = let a = acts x in record { shape = a.shape; next = a.next }
    by_same P name A None (Some cause) e acts x = absurd cc
    by_same P name A (Some cause) None e acts x = absurd cc
    by_same P name A (Some cause) (Some other) e acts x =
        noted (λ z. z ≡ Refused name other ∷ []) name other refl (x.0 ∙ ap (λ (y : Refusal). Refused name y ∷ []) (Rattle.std.proofs.lemmas.Option.same_Some cause other e)) x.1

    does_by : (c : Call) → refusal_of c m ≡ refusal_told c lines hosts → Does c m notes new → Shaped (DoesShape c lines hosts) lines hosts notes new
    does_by c same x = by_same (FreeShape c lines hosts) (asked_name c) (Acts c m notes new) (refusal_of c m) (refusal_told c lines hosts) same (acts_shape c) x

    -- Making a file system.

    module _ (name : List ℕ) (request : MkfsRequest) where
      abbrev makes : Call
      makes = call.Makes name request

      abbrev Shape : List Note → Type 0
      Shape z = ShapeByRefusal name (refusal_told makes lines hosts) z (FreeShape makes lines hosts z)

      -- the one that notes tell, or that of the dirty lines, which they don't
      first_is : (h : ℕ) → number_of name told ≡ Some h → refusal_of makes m ≡ or_else (refusal_told makes lines hosts) (dirty_refusal (dirty_from h 0 m.hosts))
      unfolding refusal_of
      first_is h n = simp (number_told name, n, same_lines, engaged_place m told look, or_both)

      first_none : number_of name told ≡ None → refusal_of makes m ≡ refusal_told makes lines hosts
      unfolding refusal_of
      first_none n = simp (number_told name, n)

      abbrev A : Type 0
      A = Acts makes m notes new

      dirty_case : (h : ℕ) → number_of name told ≡ Some h → (o : Option ℕ) → dirty_from h 0 m.hosts ≡ o → refusal_of makes m ≡ dirty_refusal o
          → refusal_told makes lines hosts ≡ None → Does makes m notes new → Shaped Shape lines hosts notes new
      dirty_case h n None e is free x = does_by makes (is ∙ sym free) x
      dirty_case h n (Some k) e is free x =
          let y : ByRefusal name (Some (why.Dirty (record { 0 = k }))) notes m new A = subst (λ (o : Option Refusal). ByRefusal name o notes m new A) is x in
          noted Shape name (why.Dirty (record { 0 = k }))
          (subst (λ (o : Option Refusal). ShapeByRefusal name o (Refused name (why.Dirty (record { 0 = k })) ∷ [])
          (FreeShape makes lines hosts (Refused name (why.Dirty (record { 0 = k })) ∷ []))) (sym free)
          (inr dirty_shape))
          y.0 y.1
        where
          dirty_shape : DirtyShape name lines hosts (Refused name (why.Dirty (record { 0 = k })) ∷ [])
          dirty_shape =
              let other = dirty_other h 0 m.hosts k e in
              let below = other.1 in
              record { maker = h; number = n; dirty = k; declared = omega (arith, below, pairs_length (StateShaped lines) m.hosts hosts shaped.shaped); other = other.0; notes_are = refl }

      by_told : (h : ℕ) → number_of name told ≡ Some h → (r : Option Refusal) → refusal_told makes lines hosts ≡ r
          → refusal_of makes m ≡ or_else r (dirty_refusal (dirty_from h 0 m.hosts)) → Does makes m notes new → Shaped Shape lines hosts notes new
      by_told h n (Some cause) e first x = does_by makes (first ∙ sym e) x
      by_told h n None e first x = dirty_case h n (dirty_from h 0 m.hosts) refl first e x

      makes_shape : (o : Option ℕ) → number_of name told ≡ o → Does makes m notes new → Shaped Shape lines hosts notes new
      makes_shape None n x = does_by makes (first_none n) x
      makes_shape (Some h) n x = by_told h n (refusal_told makes lines hosts) refl (first_is h n) x

      -- where notes tell a refusal there is one
      free_told : (o : Option ℕ) → number_of name told ≡ o → refusal_of makes m ≡ None → refusal_told makes lines hosts ≡ None
      free_told None n none = sym (first_none n) ∙ none
      free_told (Some h) n none = or_first (refusal_told makes lines hosts) (dirty_refusal (dirty_from h 0 m.hosts)) (sym (first_is h n) ∙ none)

      cut_host : (h : ℕ) (o : Option HostState) → OnHost o (λ host. CutsAt makes h host m notes new) → FaultShape name notes
      cut_host h None x = absurd x
      cut_host h (Some host) x = (x.line.0, x.notes_are)

      cut_number : (o : Option ℕ) → AtNumber o m (λ h host. CutsAt makes h host m notes new) → FaultShape name notes
      cut_number None x = absurd x
      cut_number (Some h) x = cut_host h (slice_get m.hosts h) x

      pub breaks_shape : CutCall makes m notes new → BreaksShape makes lines hosts notes
      breaks_shape x = (free_told (number_of name told) refl x.0, cut_number (number_of name m) x.1)

    -- what a call does has its shape
    pub does_shape : (c : Call) → Does c m notes new → Shaped (DoesShape c lines hosts) lines hosts notes new
    does_shape (call.Makes name request) x = makes_shape name request (number_of name told) refl x
    does_shape e x = does_by e (refusal_looks m told look same_lines e tt) x
