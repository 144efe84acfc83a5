-- A host's name and its number.
use Rattle.std.proofs.Common.{◌≡◌, ◌≢◌, ℕ, zero, suc, ◌+◌, ◌<◌, List, [], ◌∷◌, length, Option, Some, refl, ap, sym, subst, ◌∙◌, arith}
use Rattle.std.specs.Prelude.{IsTrue, slice_get, if◌then◌else◌}
use Rattle.std.proofs.lemmas.Option.{same_Some}
use Rattle.std.proofs.lemmas.Slice.Eq.{bytes_eq-Decides}
use Rattle.fam_base.specs.HostNames.{is_host_name}
use Rattle.fam_base.specs.PathOrder.{path_eq}
use Rattle.fam_journal.specs.Members.{index_from}
use Rattle.fam_outcomes.specs.Texts.{host_name}
use Rattle.fam_history.specs.ToldNotes.{AreDistinctNames}
use Rattle.fam_history.proofs.HostNumbers.{number_is}
use Rattle.fam_judge.specs.Standing.{AreDistinctHosts, Face}
use Rattle.fam_judge.proofs.Standing.Faces.{index_found}
use Rattle.fam_lines.specs.declared.host.SeenHost.{SeenHost}
use Rattle.fam_lines.specs.Hosts.{face_of, faces_of, seen_names}
use Rattle.fam_lines.specs.Resolved.{seen_number}

-- the name of the host of a number
name_at : (hosts : List SeenHost) (h : ℕ) (f : Face) → slice_get (faces_of hosts) h ≡ Some f → host_name (seen_names hosts) h ≡ f.name
name_at [] h f is = absurd cc
name_at (x ∷ hosts) zero f is = ap (λ (g : Face). g.name) (same_Some _ f is)
name_at (x ∷ hosts) (suc h) f is = name_at hosts h f is

-- the number of a name is that of a host of this name
pub number_names : (hosts : List SeenHost) (name : List ℕ) (h : ℕ) → seen_number hosts name ≡ Some h → host_name (seen_names hosts) h ≡ name
number_names hosts name h is =
    let found = index_found (λ (f : Face). path_eq f.name name) (faces_of hosts) h is in
    name_at hosts h found.member found.is ∙ (bytes_eq-Decides found.member.name name).0 found.passes

-- where a name is looked for among names
among : (hosts : List SeenHost) (name : List ℕ) (i : ℕ)
    → index_from i (λ (f : Face). path_eq f.name name) (faces_of hosts) ≡ index_from i (λ (declared : List ℕ). path_eq declared name) (seen_names hosts)
among [] name i = refl
among (x ∷ hosts) name i = ap (λ (o : Option ℕ). if path_eq x.name name then Some i else o) (among hosts name (i + 1))

-- a host that has a name is declared
within : (names : List (List ℕ)) (h : ℕ) → host_name names h ≢ [] → h < length names
within [] h some = absurd (some refl)
within (n ∷ names) zero some = omega arith
within (n ∷ names) (suc h) some = omega (arith, within names h some)

-- no name is empty
some_name : (name : List ℕ) → IsTrue (is_host_name name) → name ≢ []
unfolding is_host_name
some_name name is none = let h : IsTrue (is_host_name []) = subst (λ (n : List ℕ). IsTrue (is_host_name n)) none is in absurd (cc h)

-- the number of a host's own name, where no two have one name
pub own_number : (hosts : List SeenHost) (h : ℕ) → AreDistinctNames (seen_names hosts) → IsTrue (is_host_name (host_name (seen_names hosts) h))
    → seen_number hosts (host_name (seen_names hosts) h) ≡ Some h
own_number hosts h distinct is =
    let names = seen_names hosts in
    among hosts (host_name names h) 0 ∙ number_is names h (within names h (some_name (host_name names h) is)) distinct

face_at : (hosts : List SeenHost) (i : ℕ) → i < length (seen_names hosts)
    → (f : Face) × (slice_get (faces_of hosts) i ≡ Some f) × (host_name (seen_names hosts) i ≡ f.name)
face_at [] i low = absurd (omega (arith, low))
face_at (x ∷ hosts) zero low = (face_of x, refl, refl)
face_at (x ∷ hosts) (suc i) low = face_at hosts i (omega (arith, low))

-- distinct hosts have distinct names
pub distinct_names : (hosts : List SeenHost) → AreDistinctHosts (faces_of hosts) → AreDistinctNames (seen_names hosts)
distinct_names hosts is i j less low same =
    let a = face_at hosts i (omega (arith, less, low)) in
    let b = face_at hosts j low in
    let one : i ≡ j = is.names i j a.0 b.0 a.1 b.1 (sym a.2 ∙ same ∙ b.2) in
    absurd (omega (arith, one, less))
