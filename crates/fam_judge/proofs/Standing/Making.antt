-- A file system that may be made some event makes.
use Rattle.std.proofs.Common.{◌≡◌, ◌*◌, ◌≤◌, inl, ℕ, true, false, List, [], ◌∷◌, Option, Some, None, refl, ap, ap₂, sym, ◌∙◌, subst, arith}
use Rattle.std.specs.Prelude.{⊤, option_map, replicate, slice_get}
use Rattle.fam_base.specs.declared.entry.Params.{Params}
use Rattle.fam_base.specs.Units.{least_unit}
use Rattle.fam_format.specs.Params.{IsUuid, need}
use Rattle.fam_format.specs.Stop.{or_else}
use Rattle.fam_machine.specs.declared.request.MkfsRequest.{MkfsRequest}
use Rattle.fam_machine.specs.Mkfs.{EarlyRefusal, asked, early_refusal, is_geometry}
use Rattle.fam_rules.specs.Place.{line_bytes}
use Rattle.fam_journal.specs.declared.event.Event.TheVariants as event
use Rattle.fam_journal.specs.Calls as call
use Rattle.fam_journal.specs.Calls.{IsSoundRequest, busy_refusal, cause_of, number_of}
use Rattle.fam_journal.specs.EventShapes.{EventShape}
use Rattle.fam_journal.specs.Notes.{Note, Made, Cut}
use Rattle.fam_journal.specs.Shapes.{ActsShape, FreeShape, HostShape, made_note, makes_told, shown_shapes}
use Rattle.fam_judge.specs.Formed.{IsFormedNote}
use Rattle.fam_judge.specs.Standing.{AreDistinctHosts, Face, IsMadeBy, MayStand, engaged_in, faces}
use Rattle.fam_judge.proofs.Standing.Asking.{at_shape, makes_is, on_passes, own_number, shape_of}
use Rattle.fam_judge.proofs.Standing.Faces.{face_of}
use Rattle.fam_judge.proofs.Standing.Sizes.{Numbers, bad, least_passes, numbers, pass, small}
use Rattle.fam_judge.proofs.Standing.Sound.{zeros}

-- Requests.

-- zeros are a UUID
pub zero_uuid : IsUuid (replicate 16 0)
zero_uuid = record { count = refl; fits = zeros 16 }

-- a request of such numbers
abbrev pub request_of : (unit log : ℕ) → Option ℕ → MkfsRequest
request_of unit log halt = record { fs = replicate 16 0; unit = unit; log = log; format = 1; force = false; halt = halt }

-- it is within its limits
pub request_sound : (unit log : ℕ) (halt : Option ℕ) → IsSoundRequest (request_of unit log halt)
request_sound unit log halt = record { fs = zero_uuid; format = refl }

-- the one that asks for these parameters
abbrev params_request : Params → MkfsRequest
params_request p = record { fs = p.fs; unit = p.unit; log = p.log_length; format = p.format; force = false; halt = None }

asked_same : (me : List ℕ) (lines : ℕ) (p : Params) → IsMadeBy me lines p → p ≡ asked (params_request p) me lines
asked_same me lines p is =
    ap (λ (n : ℕ). let q : Params = record p { slots = n } in q) is.slots
    ∙ ap₂ (λ (n : ℕ) (u : List ℕ). let q : Params = record (asked (params_request p) me lines) { device = n; master = u } in q) is.device is.master

-- numbers that pass
pub passes : (unit log have : ℕ) → is_geometry unit log ≡ true → need log unit ≤ have → early_refusal unit log have ≡ None
passes unit log have geometry fits = by (numbers unit log have)
  where
    by : Numbers unit log have → early_refusal unit log have ≡ None
    by (bad odd e) = absurd cc
    by (small shaped low e) = absurd (omega (arith, low, fits))
    by (pass shaped room e) = e

module _ (lines : ℕ) (hosts : List HostShape) where
  -- nothing is refused that notes tell
  pub makes_passes : (unit log : ℕ) → early_refusal unit log (line_bytes * lines) ≡ None → engaged_in (faces hosts) ≡ None
      → makes_told unit log (shown_shapes lines hosts) ≡ None
  makes_passes unit log early idle =
      makes_is lines hosts unit log ∙ ap₂ (λ (o : Option EarlyRefusal) (q : Option ℕ). or_else (option_map cause_of o) (busy_refusal q)) early idle

  module _ (distinct : AreDistinctHosts (faces hosts)) where
    -- a mkfs that goes on
    making : (name : List ℕ) (h : ℕ) (host : HostShape) (request : MkfsRequest) → IsSoundRequest request → number_of name (shown_shapes lines hosts) ≡ Some h
        → slice_get hosts h ≡ Some host
        → makes_told request.unit request.log (shown_shapes lines hosts) ≡ None → (note : Note) → note ∷ [] ≡ made_note request.halt h (asked request host.uuid lines) ∷ []
        → EventShape (event.Mkfs name request) lines hosts (note ∷ [])
    making name h host request sound number is free note e =
        on_passes lines hosts name h (λ k. makes_told request.unit request.log (shown_shapes lines hosts)) (note ∷ []) (FreeShape (call.Makes name request) lines hosts (note ∷ [])) number free
        (inl (at_shape lines hosts name h host (λ k x. ActsShape (call.Makes name request) k x lines hosts (note ∷ [])) number is (inl e)))

    -- a file system
    pub made_formed : (h : ℕ) (p : Params) → MayStand lines hosts (Made h p) → IsFormedNote lines hosts (Made h p)
    made_formed h p is =
        let own = face_of (slice_get (faces hosts) h) (λ f. IsMadeBy f.uuid lines p) is.1 in
        let shape = shape_of hosts h own.host own.is in
        let by = subst (λ (f : Face). IsMadeBy f.uuid lines p) (sym shape.seen) own.holds in
        record {
          event = event.Mkfs own.host.name (params_request p);
          valid = record { fs = by.fs; format = by.format };
          shape = making own.host.name h shape.host (params_request p) (record { fs = by.fs; format = by.format }) (own_number lines hosts distinct h own.host own.is) shape.is
              (makes_passes p.unit p.log_length (passes p.unit p.log_length (line_bytes * lines) by.geometry (subst (λ (n : ℕ). need p.log_length p.unit ≤ n) by.device by.need)) is.0)
              (Made h p) (ap (λ (q : Params). Made h q ∷ []) (asked_same shape.host.uuid lines p by));
          sound = tt;
          placed = tt;
        }

    -- one whose maker halted
    pub cut_formed : (h k : ℕ) → MayStand lines hosts (Cut h k) → IsFormedNote lines hosts (Cut h k)
    cut_formed h k is =
        let own = face_of (slice_get (faces hosts) h) (λ f. ⊤) is.1 in
        let shape = shape_of hosts h own.host own.is in
        record {
          event = event.Mkfs own.host.name (request_of least_unit least_unit (Some k));
          valid = request_sound least_unit least_unit (Some k);
          shape = making own.host.name h shape.host (request_of least_unit least_unit (Some k)) (request_sound least_unit least_unit (Some k))
              (own_number lines hosts distinct h own.host own.is) shape.is
              (makes_passes least_unit least_unit (least_passes lines is.0.0) is.0.1) (Cut h k) refl;
          sound = tt;
          placed = tt;
        }
