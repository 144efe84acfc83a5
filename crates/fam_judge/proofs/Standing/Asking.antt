-- Events that are asked of a declared host.
use Rattle.std.proofs.Common.{◌≡◌, ◌*◌, ◌<◌, ◌≤◌, ℕ, Bool, true, false, List, [], ◌∷◌, length, Option, Some, None, refl, ap, ap₂, sym, ◌∙◌, subst, arith}
use Rattle.std.specs.Prelude.{◌&&◌, not, nat_le, nat_lt, option_map, slice_get}
use Rattle.std.proofs.lemmas.Bool.Decides.{nat_tests}
use Rattle.std.proofs.lemmas.Option.{same_Some, slice_get-map}
use Rattle.fam_format.specs.Layout.{least_lines}
use Rattle.fam_format.specs.Stop.{or_else}
use Rattle.fam_machine.specs.Mkfs.{early_refusal}
use Rattle.fam_rules.specs.Place.{line_bytes}
use Rattle.fam_journal.specs.declared.event.Event.{Event}
use Rattle.fam_journal.specs.declared.refusal.Refusal.{Refusal}
use Rattle.fam_journal.specs.declared.refusal.Refusal.TheVariants as why
use Rattle.fam_journal.specs.Calls.{begins_refusal, busy_at, busy_refusal, cause_of, idle_refusal, keeps_at, line_refusal, number_of, on_host, umounts_refusal, when}
use Rattle.fam_journal.specs.EventShapes.{EventShape}
use Rattle.fam_journal.specs.Laws.{IsValidEvent}
use Rattle.fam_journal.specs.Machines.{Machines}
use Rattle.fam_journal.specs.Notes.{Note, Refused}
use Rattle.fam_journal.specs.Shapes.{AtShape, HostShape, OfHostShape, ShapeByRefusal, makes_told, shown_shapes}
use Rattle.fam_judge.specs.Formed.{IsFormedNote}
use Rattle.fam_judge.specs.Standing.{AreDistinctHosts, Face, engaged_in, face, faces, host_number_in}
use Rattle.fam_judge.proofs.Standing.Faces.{engaged_faced, index_is, keeps_face, keeps_faced, lines_faced, number_faced, other_text, runs_face, runs_faced, text_same}

-- Tests.

-- a test that passes
pub lt_passes : (a b : ℕ) → a < b → nat_lt a b ≡ true
lt_passes a b low = grind (arith, nat_tests)

-- or doesn't
pub lt_fails : (a b : ℕ) → b ≤ a → nat_lt a b ≡ false
lt_fails a b high = grind (arith, nat_tests)

-- so of the other order
pub le_passes : (a b : ℕ) → a ≤ b → nat_le a b ≡ true
le_passes a b low = grind (arith, nat_tests)

-- or doesn't
pub le_fails : (a b : ℕ) → b < a → nat_le a b ≡ false
le_fails a b high = grind (arith, nat_tests)

-- By the first refusal.

-- the call is refused
pub refused_shape : (name : List ℕ) (o : Option Refusal) (w : Refusal) (free : Type 0) → o ≡ Some w → ShapeByRefusal name o (Refused name w ∷ []) free
refused_shape name o w free e = subst (λ (q : Option Refusal). ShapeByRefusal name q (Refused name w ∷ []) free) (sym e) refl

-- it is not
pub free_shape : (name : List ℕ) (o : Option Refusal) (notes : List Note) (free : Type 0) → o ≡ None → free → ShapeByRefusal name o notes free
free_shape name o notes free e is = subst (λ (q : Option Refusal). ShapeByRefusal name q notes free) (sym e) is

-- the host of a face
pub record HasShape (hosts : List HostShape) (k : ℕ) (f : Face) : Type 0 where
  pub host : HostShape
  pub is : slice_get hosts k ≡ Some host
  pub seen : face host ≡ f

-- it has one
pub shape_of : (hosts : List HostShape) (k : ℕ) (f : Face) → slice_get (faces hosts) k ≡ Some f → HasShape hosts k f
shape_of hosts k f is = by (slice_get hosts k) refl (sym (slice_get-map face hosts k) ∙ is)
  where
    by : (o : Option HostShape) → slice_get hosts k ≡ o → option_map face o ≡ Some f → HasShape hosts k f
    by None at e = absurd cc
    by (Some host) at e = record { host = host; is = at; seen = same_Some (face host) f e }

module _ (lines : ℕ) (hosts : List HostShape) where
  abbrev m : Machines
  m = shown_shapes lines hosts

  abbrev all : List Face
  all = faces hosts

  -- the number of a declared host is found by its name
  pub own_number : AreDistinctHosts all → (k : ℕ) (f : Face) → slice_get all k ≡ Some f → number_of f.name m ≡ Some k
  own_number distinct k f is =
      number_faced lines hosts f.name
      ∙ index_is (λ (g : Face). Rattle.fam_base.specs.PathOrder.path_eq g.name f.name) all k (record {
        member = f;
        is = is;
        passes = text_same f.name f.name refl;
        first = λ l g low at. other_text g.name f.name (λ e. absurd (let same : l ≡ k = distinct.names l k g f at is e in omega (arith, same, low)));
      })

  -- a name's number, as calls find it
  pub found_number : (name : List ℕ) (k : ℕ) → host_number_in name all ≡ Some k → number_of name m ≡ Some k
  found_number name k e = number_faced lines hosts name ∙ e

  -- What a declared host is refused.

  module _ (k : ℕ) (f : Face) (is : slice_get all k ≡ Some f) where
    -- whether it runs a command
    pub busy_is : busy_at k m ≡ f.runs
    busy_is = runs_faced lines hosts k ∙ ap runs_face is

    -- whether it keeps something
    pub keeps_is : keeps_at k m ≡ f.keeps
    keeps_is = keeps_faced lines hosts k ∙ ap keeps_face is

    -- why it may not begin a command
    pub begins_is : (mount : Bool) → least_lines ≤ lines → begins_refusal k mount m ≡ or_else (when f.runs (why.Busy (record { 0 = k }))) (when (mount && f.keeps) why.Mounted)
    begins_is mount fits =
        ap (λ (b : Bool). or_else (when b (why.ImageSmall (length m.memory))) (or_else (when (busy_at k m) (why.Busy (record { 0 = k }))) (when (mount && keeps_at k m) why.Mounted)))
        (ap (λ (n : ℕ). nat_lt n least_lines) (lines_faced lines hosts) ∙ lt_fails lines least_lines fits)
        ∙ ap₂ (λ (b c : Bool). or_else (when b (why.Busy (record { 0 = k }))) (when (mount && c) why.Mounted)) busy_is keeps_is

    -- where the image has no gate
    pub begins_small : (mount : Bool) → lines < least_lines → begins_refusal k mount m ≡ Some (why.ImageSmall lines)
    begins_small mount few =
        ap₂ (λ (b : Bool) (n : ℕ). or_else (when b (why.ImageSmall n)) (or_else (when (busy_at k m) (why.Busy (record { 0 = k }))) (when (mount && keeps_at k m) why.Mounted)))
        (ap (λ (n : ℕ). nat_lt n least_lines) (lines_faced lines hosts) ∙ lt_passes lines least_lines few) (lines_faced lines hosts)

    -- why it does no operations
    pub idle_is : idle_refusal k m ≡ when (not f.runs) why.Idle
    idle_is = ap (λ (b : Bool). when (not b) why.Idle) busy_is

    -- why it forgets nothing
    pub umounts_is : umounts_refusal k m ≡ or_else (when f.runs (why.Busy (record { 0 = k }))) (when (not f.keeps) why.NotMounted)
    umounts_is = ap₂ (λ (b c : Bool). or_else (when b (why.Busy (record { 0 = k }))) (when (not c) why.NotMounted)) busy_is keeps_is

  -- why a cache doesn't move
  pub line_is : (line : ℕ) → line_refusal line m ≡ when (nat_le lines line) (why.NoLine line lines)
  line_is line = ap (λ (n : ℕ). when (nat_le n line) (why.NoLine line n)) (lines_faced lines hosts)

  -- why no file system is made
  pub makes_is : (unit log : ℕ) → makes_told unit log m ≡ or_else (option_map cause_of (early_refusal unit log (line_bytes * lines))) (busy_refusal (engaged_in all))
  makes_is unit log =
      ap₂ (λ (n : ℕ) (o : Option ℕ). or_else (option_map cause_of (early_refusal unit log (line_bytes * n))) (busy_refusal o)) (lines_faced lines hosts) (engaged_faced lines hosts)

  -- Calls for it.

  -- the host of a name refuses
  pub on_refused : (name : List ℕ) (k : ℕ) (P : ℕ → Option Refusal) (w : Refusal) (free : Type 0) → number_of name m ≡ Some k → P k ≡ Some w
      → ShapeByRefusal name (on_host (number_of name m) P) (Refused name w ∷ []) free
  on_refused name k P w free number e = refused_shape name (on_host (number_of name m) P) w free (ap (λ (o : Option ℕ). on_host o P) number ∙ e)

  -- it doesn't
  pub on_passes : (name : List ℕ) (k : ℕ) (P : ℕ → Option Refusal) (notes : List Note) (free : Type 0) → number_of name m ≡ Some k → P k ≡ None → free
      → ShapeByRefusal name (on_host (number_of name m) P) notes free
  on_passes name k P notes free number e is = free_shape name (on_host (number_of name m) P) notes free (ap (λ (o : Option ℕ). on_host o P) number ∙ e) is

  -- the host of a name acts
  pub at_shape : (name : List ℕ) (k : ℕ) (host : HostShape) (R : ℕ → HostShape → Type 0) → number_of name m ≡ Some k → slice_get hosts k ≡ Some host → R k host
      → AtShape (number_of name m) hosts R
  at_shape name k host R number is acts =
      subst (λ (o : Option ℕ). AtShape o hosts R) (sym number) (subst (λ (o : Option HostShape). OfHostShape o (R k)) (sym is) acts)

  -- an event that adds a refusal
  pub refused_by : (name : List ℕ) (w : Refusal) (e : Event) → IsValidEvent e → EventShape e lines hosts (Refused name w ∷ []) → IsFormedNote lines hosts (Refused name w)
  refused_by name w e valid shape = record { event = e; valid = valid; shape = shape; sound = tt; placed = tt }
