-- What refusals see of hosts, as their faces show it.
use Rattle.std.proofs.Common.{◌≡◌, ◌+◌, ◌<◌, ℕ, zero, suc, Bool, true, false, List, [], ◌∷◌, length, map, Option, Some, None, refl, ap, ap₂, sym, ◌∙◌, subst, arith}
use Rattle.std.specs.Prelude.{◌||◌, if◌then◌else◌, is_some, option_map, slice_get}
use Rattle.std.specs.Cmp.Lexicographic.{pointwise_decides}
use Rattle.std.proofs.lemmas.Bool.Decides.{Decides-eqb}
use Rattle.std.proofs.lemmas.List.{length-map, length-replicate}
use Rattle.std.proofs.lemmas.Option.{same_Some, slice_get-map}
use Rattle.fam_base.specs.PathOrder.{path_eq}
use Rattle.fam_journal.specs.Calls.{busy_at, has_name, is_busy_host, is_engaged, is_kept_host, is_same, keeps_at, number_of}
use Rattle.fam_journal.specs.Members.{index_from, index_of}
use Rattle.fam_journal.specs.Shapes.{HostShape, TaskShape, runs_shape, shown_running, shown_shape, shown_shapes}
use Rattle.fam_judge.specs.Standing.{AtFace, AtNamed, Face, OfFace, engaged_in, face, faces, host_number_in, same_in}
use Rattle.fam_judge.proofs.Busier.{busy_runs}

-- Texts.

-- the same bytes
pub same_text : (a b : List ℕ) → path_eq a b ≡ true → a ≡ b
same_text a b e = (pointwise_decides Decides-eqb a b).0 e

-- and the other way about
pub text_same : (a b : List ℕ) → a ≡ b → path_eq a b ≡ true
text_same a b e = (pointwise_decides Decides-eqb a b).1 e

-- other bytes
pub other_text : (a b : List ℕ) → (a ≡ b → ⊥) → path_eq a b ≡ false
other_text a b ne = by (path_eq a b) refl
  where
    by : (t : Bool) → path_eq a b ≡ t → path_eq a b ≡ false
    by true e = absurd (ne (same_text a b e))
    by false e = e

-- Tests.

-- where neither passes the first doesn't
pub either_left : (a b : Bool) → (a || b) ≡ false → a ≡ false
either_left true b e = absurd cc
either_left false b e = refl

-- and the second doesn't
pub either_right : (a b : Bool) → (a || b) ≡ false → b ≡ false
either_right true b e = absurd cc
either_right false b e = e

-- Places.

-- a test looks at what is made of members
index_map : {A B : Type 0} (f : A → B) (t : B → Bool) (i : ℕ) (xs : List A) → index_from i t (map f xs) ≡ index_from i (λ x. t (f x)) xs
index_map f t i [] = refl
index_map f t i (x ∷ xs) = ap (λ (o : Option ℕ). if t (f x) then Some i else o) (index_map f t (i + 1) xs)

-- two tests that agree
index_same : {A : Type 0} (s t : A → Bool) → ((x : A) → s x ≡ t x) → (i : ℕ) (xs : List A) → index_from i s xs ≡ index_from i t xs
index_same s t e i [] = refl
index_same s t e i (x ∷ xs) = ap₂ (λ (b : Bool) (o : Option ℕ). if b then Some i else o) (e x) (index_same s t e (i + 1) xs)

-- the member of this place is the first that passes
pub record IsFirst {A : Type 0} (t : A → Bool) (xs : List A) (k : ℕ) : Type 0 where
  pub member : A
  pub is : slice_get xs k ≡ Some member
  pub passes : t member ≡ true
  pub first : (l : ℕ) (y : A) → l < k → slice_get xs l ≡ Some y → t y ≡ false

-- one place more before it
first_more : {A : Type 0} (t : A → Bool) (x : A) (xs : List A) (k : ℕ) → t x ≡ false → IsFirst t xs k → IsFirst t (x ∷ xs) (suc k)
first_more {A} t x xs k fails is = record { member = is.member; is = is.is; passes = is.passes; first = first }
  where
    first : (l : ℕ) (y : A) → l < suc k → slice_get (x ∷ xs) l ≡ Some y → t y ≡ false
    first zero y low at = ap t (sym (same_Some x y at)) ∙ fails
    first (suc l) y low at = is.first l y (omega (arith, low)) at

-- the place that is found
pub record FoundAt {A : Type 0} (t : A → Bool) (xs : List A) (i k : ℕ) : Type 0 where
  pub place : ℕ
  pub at : k ≡ i + place
  pub found : IsFirst t xs place

found_from : {A : Type 0} (t : A → Bool) (xs : List A) (i k : ℕ) → index_from i t xs ≡ Some k → FoundAt t xs i k
found_from t [] i k e = absurd cc
found_from t (x ∷ xs) i k e = by (found_from t xs (i + 1) k) (t x) refl e
  where
    by : (index_from (i + 1) t xs ≡ Some k → FoundAt t xs (i + 1) k) → (b : Bool) → t x ≡ b → (if b then Some i else index_from (i + 1) t xs) ≡ Some k → FoundAt t (x ∷ xs) i k
    by later true holds e =
        let same : i ≡ k = same_Some i k e in
        record { place = 0; at = omega (arith, same); found = record { member = x; is = refl; passes = holds; first = λ l y low at. absurd (omega (arith, low)) } }
    by later false fails e =
        let rest = later e in
        let at = rest.at in
        record { place = suc rest.place; at = omega (arith, at); found = first_more t x xs rest.place fails rest.found }

-- it is the first that passes
pub index_found : {A : Type 0} (t : A → Bool) (xs : List A) (k : ℕ) → index_of t xs ≡ Some k → IsFirst t xs k
index_found t xs k e = let found = found_from t xs 0 k e in let at = found.at in let same : found.place ≡ k = omega (arith, at) in subst (IsFirst t xs) same found.found

index_is_from : {A : Type 0} (t : A → Bool) (xs : List A) (i k : ℕ) → IsFirst t xs k → index_from i t xs ≡ Some (i + k)
index_is_from t [] i k is = let none = is.is in absurd cc
index_is_from t (x ∷ xs) i zero is =
    ap (λ (b : Bool). if b then Some i else index_from (i + 1) t xs) (ap t (same_Some x is.member is.is) ∙ is.passes) ∙ ap Some (omega arith)
index_is_from {A} t (x ∷ xs) i (suc k) is =
    ap (λ (b : Bool). if b then Some i else index_from (i + 1) t xs) (is.first 0 x (omega arith) refl)
    ∙ index_is_from t xs (i + 1) k (record { member = is.member; is = is.is; passes = is.passes; first = λ l y low at. is.first (suc l) y (omega (arith, low)) at })
    ∙ ap Some (omega arith)

-- and the other way about
pub index_is : {A : Type 0} (t : A → Bool) (xs : List A) (k : ℕ) → IsFirst t xs k → index_of t xs ≡ Some k
index_is t xs k is = index_is_from t xs 0 k is ∙ ap Some (omega arith)

-- none passes
pub index_none : {A : Type 0} (t : A → Bool) (xs : List A) (i : ℕ) → ((k : ℕ) (x : A) → slice_get xs k ≡ Some x → t x ≡ false) → index_from i t xs ≡ None
index_none t [] i none = refl
index_none t (x ∷ xs) i none =
    ap (λ (b : Bool). if b then Some i else index_from (i + 1) t xs) (none 0 x refl) ∙ index_none t xs (i + 1) (λ k y at. none (suc k) y at)

-- Hosts of which something holds.

-- the host of a number
pub of_face : (o : Option Face) (P : Face → Type 0) (f : Face) → o ≡ Some f → P f → OfFace o P
of_face o P f is holds = subst (λ (q : Option Face). OfFace q P) (sym is) holds

-- it is declared
pub record HasFace (o : Option Face) (P : Face → Type 0) : Type 0 where
  pub host : Face
  pub is : o ≡ Some host
  pub holds : P host

-- and the other way about
pub face_of : (o : Option Face) (P : Face → Type 0) → OfFace o P → HasFace o P
face_of None P holds = absurd holds
face_of (Some f) P holds = record { host = f; is = refl; holds = holds }

-- the host of a name
pub record IsNamed (name : List ℕ) (all : List Face) (P : ℕ → Face → Type 0) : Type 0 where
  pub number : ℕ
  pub host : Face
  pub named : host_number_in name all ≡ Some number
  pub is : slice_get all number ≡ Some host
  pub holds : P number host

-- it has a number
pub named_of : (name : List ℕ) (all : List Face) (P : ℕ → Face → Type 0) → AtNamed name all P → IsNamed name all P
named_of name all P holds = by (host_number_in name all) refl holds
  where
    by : (o : Option ℕ) → host_number_in name all ≡ o → AtFace o all P → IsNamed name all P
    by None e holds = absurd holds
    by (Some k) e holds = let own = face_of (slice_get all k) (P k) holds in record { number = k; host = own.host; named = e; is = own.is; holds = own.holds }

-- and the other way about
pub at_named : (name : List ℕ) (all : List Face) (P : ℕ → Face → Type 0) (k : ℕ) (f : Face) → host_number_in name all ≡ Some k → slice_get all k ≡ Some f → P k f
    → AtNamed name all P
at_named name all P k f e is holds = subst (λ (o : Option ℕ). AtFace o all P) (sym e) (of_face (slice_get all k) (P k) f is holds)

-- Hosts as refusals see them.

-- a host runs a command
abbrev pub runs_face : Option Face → Bool
runs_face None = false
runs_face (Some f) = f.runs

-- a host keeps something
abbrev pub keeps_face : Option Face → Bool
keeps_face None = false
keeps_face (Some f) = f.keeps

engaged_one : (x : HostShape) → is_engaged (shown_shape x) ≡ (is_some x.task || x.keeps)
engaged_one x = by x.task x.keeps
  where
    by : (o : Option TaskShape) (b : Bool) → (is_some (shown_running o) || is_some (Rattle.fam_journal.specs.Shapes.shown_keeping b)) ≡ (is_some o || b)
    by None true = refl
    by None false = refl
    by (Some t) true = refl
    by (Some t) false = refl

keeps_one : (o : Option HostShape) → is_kept_host (option_map shown_shape o) ≡ keeps_face (option_map face o)
keeps_one None = refl
keeps_one (Some host) = by host.keeps
  where
    by : (b : Bool) → is_some (Rattle.fam_journal.specs.Shapes.shown_keeping b) ≡ b
    by true = refl
    by false = refl

runs_one : (o : Option HostShape) → runs_shape o ≡ runs_face (option_map face o)
runs_one None = refl
runs_one (Some host) = refl

module _ (lines : ℕ) (hosts : List HostShape) where
  -- the number of a name
  pub number_faced : (name : List ℕ) → number_of name (shown_shapes lines hosts) ≡ host_number_in name (faces hosts)
  number_faced name = index_map shown_shape (has_name name) 0 hosts ∙ sym (index_map face (λ f. path_eq f.name name) 0 hosts)

  -- the first one of a name or a UUID
  pub same_faced : (name uuid : List ℕ) → index_of (is_same name uuid) (map shown_shape hosts) ≡ same_in name uuid (faces hosts)
  same_faced name uuid = index_map shown_shape (is_same name uuid) 0 hosts ∙ sym (index_map face (λ f. path_eq f.name name || path_eq f.uuid uuid) 0 hosts)

  -- the first one that is busy where a file system is made
  pub engaged_faced : index_of is_engaged (map shown_shape hosts) ≡ engaged_in (faces hosts)
  engaged_faced =
      index_map shown_shape is_engaged 0 hosts ∙ index_same (λ x. is_engaged (shown_shape x)) (λ x. is_some x.task || x.keeps) engaged_one 0 hosts
      ∙ sym (index_map face (λ f. f.runs || f.keeps) 0 hosts)

  -- which ones run a command
  pub runs_faced : (k : ℕ) → busy_at k (shown_shapes lines hosts) ≡ runs_face (slice_get (faces hosts) k)
  runs_faced k =
      ap is_busy_host (slice_get-map shown_shape hosts k) ∙ busy_runs (slice_get hosts k) ∙ runs_one (slice_get hosts k)
      ∙ ap runs_face (sym (slice_get-map face hosts k))

  -- which ones keep something
  pub keeps_faced : (k : ℕ) → keeps_at k (shown_shapes lines hosts) ≡ keeps_face (slice_get (faces hosts) k)
  keeps_faced k = ap is_kept_host (slice_get-map shown_shape hosts k) ∙ keeps_one (slice_get hosts k) ∙ ap keeps_face (sym (slice_get-map face hosts k))

  -- how many there are
  pub count_faced : length (map shown_shape hosts) ≡ length (faces hosts)
  count_faced = length-map hosts shown_shape ∙ sym (length-map hosts face)

  -- the lines of the media
  pub lines_faced : length (shown_shapes lines hosts).memory ≡ lines
  lines_faced = length-replicate lines []
