-- The hosts of a journal of this form are distinct: their UUIDs are such, and no two have the same name or UUID.
use Rattle.std.proofs.Common.{◌≡◌, ◌⊎◌, ◌≤◌, inl, inr, ℕ, zero, suc, false, List, [], ◌∷◌, ◌++◌, length, map, Option, Some, None, refl, ap, sym, ◌∙◌, subst, arith}
use Rattle.std.specs.Prelude.{◌||◌, option_map, slice_get}
use Rattle.std.proofs.lemmas.List.{length-append, length-map, map-append}
use Rattle.std.proofs.lemmas.Option.{same_Some, slice_get-map}
use Rattle.fam_base.specs.PathOrder.{path_eq}
use Rattle.fam_format.specs.Params.{IsUuid}
use Rattle.fam_journal.specs.Members.{changed_at}
use Rattle.fam_journal.specs.Notes.{Note, Host, Made, Cut, Start, Mark, Found, Writes, Answered, Stop, Halt, Umount, Refused}
use Rattle.fam_journal.specs.Shapes.{HostShape, shapes_after, shapes_behind, shapes_of}
use Rattle.fam_journal.proofs.Calls.Declares.{none_passes}
use Rattle.fam_judge.specs.Formed.{AreFormed, IsFormedNote}
use Rattle.fam_judge.specs.Standing.{AreDistinctHosts, Face, MayDeclare, face, faces}
use Rattle.fam_judge.proofs.Masters.{last_at}
use Rattle.fam_judge.proofs.Standing.Faces.{either_left, either_right, text_same}
use Rattle.fam_judge.proofs.Standing.Formed.{formed_stands}

-- Names and UUIDs.

-- of a host
record Label : Type 0 where
  name : List ℕ
  uuid : List ℕ

abbrev label : Face → Label
label f = record { name = f.name; uuid = f.uuid }

-- a host of the same name and UUID
record HasLabel (all : List Face) (k : ℕ) (f : Face) : Type 0 where
  host : Face
  is : slice_get all k ≡ Some host
  name : host.name ≡ f.name
  uuid : host.uuid ≡ f.uuid

labelled : (a b : List Face) → map label a ≡ map label b → (k : ℕ) (f : Face) → slice_get b k ≡ Some f → HasLabel a k f
labelled a b alike k f is =
    by (slice_get a k) refl
    (sym (slice_get-map label a k) ∙ ap (λ (l : List Label). slice_get l k) alike ∙ slice_get-map label b k ∙ ap (option_map label) is)
  where
    by : (o : Option Face) → slice_get a k ≡ o → option_map label o ≡ Some (label f) → HasLabel a k f
    by None at e = absurd cc
    by (Some g) at e =
        let same = same_Some (label g) (label f) e in
        record { host = g; is = at; name = ap (λ (l : Label). l.name) same; uuid = ap (λ (l : Label). l.uuid) same }

-- distinct hosts are so by their names and UUIDs
distinct_alike : (a b : List Face) → map label a ≡ map label b → AreDistinctHosts a → AreDistinctHosts b
distinct_alike a b alike is = record {
  uuids = λ k f at. let x = labelled a b alike k f at in subst IsUuid x.uuid (is.uuids k x.host x.is);
  names = λ k l f g first second e.
      let x = labelled a b alike k f first in
      let y = labelled a b alike l g second in is.names k l x.host y.host x.is y.is (x.name ∙ e ∙ sym y.name);
  apart = λ k l f g first second e.
      let x = labelled a b alike k f first in
      let y = labelled a b alike l g second in is.apart k l x.host y.host x.is y.is (x.uuid ∙ e ∙ sym y.uuid);
  few = subst (λ (n : ℕ). n ≤ 64) (sym (length-map a label) ∙ ap (λ (l : List Label). length l) alike ∙ length-map b label) is.few;
}

-- nothing else of a host is told by them
label_kept : {A : Type 0} (g : A → Label) (k : ℕ) (f : A → A) → ((x : A) → g (f x) ≡ g x) → (xs : List A) → map g (changed_at k f xs) ≡ map g xs
label_kept g k f same [] = refl
label_kept g zero f same (x ∷ xs) = ap (λ (l : Label). l ∷ map g xs) (same x)
label_kept g (suc k) f same (x ∷ xs) = ap (λ (ls : List Label). g x ∷ ls) (label_kept g k f same xs)

map_twice : (xs : List HostShape) → map label (faces xs) ≡ map (λ x. label (face x)) xs
map_twice [] = refl
map_twice (x ∷ xs) = ap (λ (ls : List Label). label (face x) ∷ ls) (map_twice xs)

-- a host changes, but not its name or UUID
distinct_changed : (hosts : List HostShape) (k : ℕ) (f : HostShape → HostShape)
    → ((x : HostShape) → label (face (f x)) ≡ label (face x)) → AreDistinctHosts (faces hosts) → AreDistinctHosts (faces (changed_at k f hosts))
distinct_changed hosts k f same is =
    distinct_alike (faces hosts) (faces (changed_at k f hosts)) (map_twice hosts ∙ sym (label_kept (λ x. label (face x)) k f same hosts) ∙ sym (map_twice (changed_at k f hosts))) is

-- One host more.

other_than : (a b : List ℕ) → path_eq a b ≡ false → a ≡ b → ⊥
other_than a b no_text e = let same = text_same a b e in absurd cc

module _ (all : List Face) (f : Face) (is : AreDistinctHosts all) (may : MayDeclare all f.name f.uuid) where
  new_name : (k : ℕ) (g : Face) → slice_get all k ≡ Some g → g.name ≡ f.name → ⊥
  new_name k g at e = other_than g.name f.name (either_left _ (path_eq g.uuid f.uuid) (none_passes (λ (h : Face). path_eq h.name f.name || path_eq h.uuid f.uuid) all 0 may.1 k g at)) e

  new_uuid : (k : ℕ) (g : Face) → slice_get all k ≡ Some g → g.uuid ≡ f.uuid → ⊥
  new_uuid k g at e = other_than g.uuid f.uuid (either_right (path_eq g.name f.name) _ (none_passes (λ (h : Face). path_eq h.name f.name || path_eq h.uuid f.uuid) all 0 may.1 k g at)) e

  -- by a name or a UUID that the new one has alone
  places : (P : Face → List ℕ) → ((k : ℕ) (g : Face) → slice_get all k ≡ Some g → P g ≡ P f → ⊥)
      → ((k l : ℕ) (g h : Face) → slice_get all k ≡ Some g → slice_get all l ≡ Some h → P g ≡ P h → k ≡ l)
      → (k l : ℕ) (g h : Face) → slice_get (all ++ f ∷ []) k ≡ Some g → slice_get (all ++ f ∷ []) l ≡ Some h → P g ≡ P h → k ≡ l
  places P new old k l g h first second e = by (last_at all f k g first) (last_at all f l h second)
    where
      by : (slice_get all k ≡ Some g) ⊎ ((k ≡ length all) × (f ≡ g)) → (slice_get all l ≡ Some h) ⊎ ((l ≡ length all) × (f ≡ h)) → k ≡ l
      by (inl a) (inl b) = old k l g h a b e
      by (inl a) (inr b) = absurd (new k g a (e ∙ ap P (sym b.1)))
      by (inr a) (inl b) = absurd (new l h b (sym e ∙ ap P (sym a.1)))
      by (inr a) (inr b) = a.0 ∙ sym b.0

  distinct_more : AreDistinctHosts (all ++ f ∷ [])
  distinct_more = record {
    uuids = λ k g at. elim (last_at all f k g at) [ inl front ↦ is.uuids k g front | inr last ↦ subst (λ (x : Face). IsUuid x.uuid) last.1 may.0 ];
    names = places (λ g. g.name) new_name is.names;
    apart = places (λ g. g.uuid) new_uuid is.apart;
    few = let low = may.2 in omega (arith, length-append all (f ∷ []), low);
  }

-- Notes.

module _ (lines : ℕ) where
  -- behind a note of this form
  pub distinct_after : (hosts : List HostShape) (y : Note) → AreDistinctHosts (faces hosts) → IsFormedNote lines hosts y → AreDistinctHosts (faces (shapes_after hosts y))
  distinct_after hosts (Host name uuid) is formed =
      subst AreDistinctHosts (sym (map-append face hosts _))
      (distinct_more (faces hosts) (record { name = name; uuid = uuid; runs = false; keeps = false }) is (formed_stands lines hosts (Host name uuid) formed))
  distinct_after hosts (Made h p) is formed = is
  distinct_after hosts (Cut h k) is formed = is
  distinct_after hosts (Start h cmd) is formed = distinct_changed hosts h _ (λ x. refl) is
  distinct_after hosts (Mark h) is formed = distinct_changed hosts h _ (λ x. refl) is
  distinct_after hosts (Found h n) is formed = distinct_changed hosts h _ (λ x. refl) is
  distinct_after hosts (Writes h seq entry) is formed = distinct_changed hosts h _ (λ x. refl) is
  distinct_after hosts (Answered h answer) is formed = distinct_changed hosts h _ (λ x. refl) is
  distinct_after hosts (Stop h) is formed = distinct_changed hosts h _ (λ x. refl) is
  distinct_after hosts (Halt h) is formed = distinct_changed hosts h _ (λ x. refl) is
  distinct_after hosts (Umount h) is formed = distinct_changed hosts h _ (λ x. refl) is
  distinct_after hosts (Refused name cause) is formed = is

  -- behind some notes
  pub distinct_behind : (journal : List Note) (hosts : List HostShape) → AreDistinctHosts (faces hosts) → AreFormed lines hosts journal
      → AreDistinctHosts (faces (shapes_behind hosts journal))
  distinct_behind [] hosts is formed = is
  distinct_behind (y ∷ journal) hosts is formed = distinct_behind journal (shapes_after hosts y) (distinct_after hosts y is formed.0) formed.1

-- of no hosts
pub distinct_none : AreDistinctHosts []
distinct_none = record { uuids = λ k f at. absurd cc; names = λ k l f g first second e. absurd cc; apart = λ k l f g first second e. absurd cc; few = omega arith }

-- behind a whole journal
pub distinct_hosts : (lines : ℕ) (journal : List Note) → AreFormed lines [] journal → AreDistinctHosts (faces (shapes_of journal))
distinct_hosts lines journal formed = distinct_behind lines journal [] distinct_none formed
