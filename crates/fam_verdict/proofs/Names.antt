-- The hosts' names behind a line: no two hosts have one name, and they are no more than may be.
use Rattle.std.proofs.Common.{◌≡◌, ◌⊎◌, ◌+◌, ◌<◌, ◌≤◌, inl, inr, ℕ, zero, suc, false, List, [], ◌∷◌, ◌++◌, length, Some, refl, ap, sym, ◌∙◌, subst, arith}
use Rattle.std.specs.Prelude.{◌||◌, slice_get}
use Rattle.std.proofs.lemmas.List.{length-map, map-append}
use Rattle.fam_base.specs.PathOrder.{path_eq}
use Rattle.fam_journal.proofs.Calls.Declares.{none_passes}
use Rattle.fam_journal.specs.Calls.{host_limit}
use Rattle.fam_journal.specs.Members.{changed_at}
use Rattle.fam_outcomes.specs.Texts.{host_name}
use Rattle.fam_history.specs.ToldNotes.{AreDistinctNames}
use Rattle.fam_judge.specs.Standing.{Face, MayDeclare}
use Rattle.fam_judge.proofs.Members.{changed_count, count_last}
use Rattle.fam_judge.proofs.Standing.Faces.{either_left, text_same}
use Rattle.fam_lines.specs.declared.host.SeenHost.{SeenHost}
use Rattle.fam_lines.specs.declared.line.Line.{Line}
use Rattle.fam_lines.specs.declared.line.Line.TheVariants as line
use Rattle.fam_lines.specs.Hosts.{face_of, faces_of, seen_names}
use Rattle.fam_lines.specs.Lines.{note_of_line}
use Rattle.fam_judging.specs.After.{new_seen, seen_after}
use Rattle.fam_judging.specs.Texts.{names_after_note}
use Rattle.fam_verdict.specs.Begins.{MayBegin}

-- Names.

-- a host changes, but not its name
names_kept : (f : SeenHost → SeenHost) → ((s : SeenHost) → (f s).name ≡ s.name) → (h : ℕ) (seen : List SeenHost) → seen_names (changed_at h f seen) ≡ seen_names seen
names_kept f same h [] = refl
names_kept f same zero (s ∷ seen) = ap (λ (n : List ℕ). n ∷ seen_names seen) (same s)
names_kept f same (suc h) (s ∷ seen) = ap (λ (ns : List (List ℕ)). s.name ∷ ns) (names_kept f same h seen)

-- the names behind a line are those that its note tells
pub names_follow : (seen : List SeenHost) (l : Line) → names_after_note (seen_names seen) (note_of_line l) ≡ seen_names (seen_after seen l)
names_follow seen (line.Host name uuid) = sym (map-append (λ (s : SeenHost). s.name) seen (new_seen name uuid ∷ []))
names_follow seen (line.Made h p) = refl
names_follow seen (line.Cut h k) = refl
names_follow seen (line.Start h cmd) = sym (names_kept _ (λ s. refl) h seen)
names_follow seen (line.Mark h) = refl
names_follow seen (line.Found h n) = refl
names_follow seen (line.Writes h seq e) = refl
names_follow seen (line.Answered h answer) = sym (names_kept _ (λ s. refl) h seen)
names_follow seen (line.Stop h) = sym (names_kept _ (λ s. refl) h seen)
names_follow seen (line.Halt h) = sym (names_kept _ (λ s. refl) h seen)
names_follow seen (line.Umount h) = sym (names_kept _ (λ s. refl) h seen)
names_follow seen (line.Refused name why) = refl

-- How many.

faces_count : (seen : List SeenHost) → length (faces_of seen) ≡ length seen
faces_count seen = length-map seen face_of

-- no more hosts than may be
pub few_follow : (lines : ℕ) (seen : List SeenHost) (l : Line) → MayBegin lines seen l → length seen ≤ host_limit → length (seen_after seen l) ≤ host_limit
few_follow lines seen (line.Host name uuid) may few =
    let low = may.2 in omega (arith, count_last seen (new_seen name uuid), faces_count seen, low)
few_follow lines seen (line.Made h p) may few = few
few_follow lines seen (line.Cut h k) may few = few
few_follow lines seen (line.Start h cmd) may few = omega (arith, few, changed_count h (λ (s : SeenHost). record s { runs = Rattle.std.specs.Prelude.true }) seen)
few_follow lines seen (line.Mark h) may few = few
few_follow lines seen (line.Found h n) may few = few
few_follow lines seen (line.Writes h seq e) may few = few
few_follow lines seen (line.Answered h answer) may few = subst (λ (n : ℕ). n ≤ host_limit) (sym (changed_count h _ seen)) few
few_follow lines seen (line.Stop h) may few = subst (λ (n : ℕ). n ≤ host_limit) (sym (changed_count h _ seen)) few
few_follow lines seen (line.Halt h) may few = subst (λ (n : ℕ). n ≤ host_limit) (sym (changed_count h _ seen)) few
few_follow lines seen (line.Umount h) may few = subst (λ (n : ℕ). n ≤ host_limit) (sym (changed_count h _ seen)) few
few_follow lines seen (line.Refused name why) may few = few

-- No two have one name.

front_name : (names : List (List ℕ)) (name : List ℕ) (k : ℕ) → k < length names → host_name (names ++ name ∷ []) k ≡ host_name names k
front_name [] name k low = absurd (omega (arith, low))
front_name (n ∷ names) name zero low = refl
front_name (n ∷ names) name (suc k) low = front_name names name k (omega (arith, low))

last_name : (names : List (List ℕ)) (name : List ℕ) (k : ℕ) → k ≡ length names → host_name (names ++ name ∷ []) k ≡ name
last_name [] name zero is = refl
last_name [] name (suc k) is = absurd (omega (arith, is))
last_name (n ∷ names) name zero is = absurd (omega (arith, is))
last_name (n ∷ names) name (suc k) is = last_name names name k (omega (arith, is))

less_or_same : (j n : ℕ) → j < n + 1 → (j < n) ⊎ (j ≡ n)
less_or_same zero zero low = inr refl
less_or_same zero (suc n) low = inl (omega arith)
less_or_same (suc j) zero low = absurd (omega (arith, low))
less_or_same (suc j) (suc n) low = elim (less_or_same j n (omega (arith, low))) [
  | inl less ↦ inl (omega (arith, less))
  | inr same ↦ inr (ap suc same)
]

distinct_last : (names : List (List ℕ)) (name : List ℕ) → AreDistinctNames names → ((k : ℕ) → k < length names → host_name names k ≡ name → ⊥)
    → AreDistinctNames (names ++ name ∷ [])
distinct_last names name distinct new i j less low same = by (less_or_same j (length names) (omega (arith, low, count_last names name)))
  where
    by : (j < length names) ⊎ (j ≡ length names) → ⊥
    by (inl front) =
        distinct i j less front (sym (front_name names name i (omega (arith, less, front))) ∙ same ∙ front_name names name j front)
    by (inr last) =
        let low_i : i < length names = omega (arith, less, last) in
        new i low_i (sym (front_name names name i low_i) ∙ same ∙ last_name names name j last)

face_at : (seen : List SeenHost) (k : ℕ) → k < length (seen_names seen) → (f : Face) × (slice_get (faces_of seen) k ≡ Some f) × (host_name (seen_names seen) k ≡ f.name)
face_at [] k low = absurd (omega (arith, low))
face_at (s ∷ seen) zero low = (face_of s, refl, refl)
face_at (s ∷ seen) (suc k) low = face_at seen k (omega (arith, low))

new_name : (seen : List SeenHost) (name uuid : List ℕ) → MayDeclare (faces_of seen) name uuid → (k : ℕ) → k < length (seen_names seen) → host_name (seen_names seen) k ≡ name → ⊥
new_name seen name uuid may k low is =
    let f = face_at seen k low in
    let other : path_eq f.0.name name ≡ false =
    either_left _ (path_eq f.0.uuid uuid) (none_passes (λ (g : Face). path_eq g.name name || path_eq g.uuid uuid) (faces_of seen) 0 may.1 k f.0 f.1) in
    let same = text_same f.0.name name (sym f.2 ∙ is) in absurd cc

-- behind a line that may begin
pub distinct_follow : (lines : ℕ) (seen : List SeenHost) (l : Line) → MayBegin lines seen l → AreDistinctNames (seen_names seen) → AreDistinctNames (seen_names (seen_after seen l))
distinct_follow lines seen (line.Host name uuid) may distinct =
    subst AreDistinctNames (names_follow seen (line.Host name uuid)) (distinct_last (seen_names seen) name distinct (new_name seen name uuid may))
distinct_follow lines seen l may distinct = subst AreDistinctNames (names_follow seen l) distinct
