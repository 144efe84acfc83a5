-- The test of two entries passes exactly where they are one.
use Rattle.std.proofs.Common.{◌≡◌, ◌↔◌, ℕ, Bool, true, ◌==◌, refl, ap, sym, ◌∙◌}
use Rattle.std.specs.Prelude.{IsTrue}
use Rattle.std.specs.Bool.{Decides}
use Rattle.std.specs.Cmp.Lexicographic.{nat_list_eq_equiv}
use Rattle.std.proofs.lemmas.Bool.{and_parts, and_from, eq-eqb, eqb-true}
use Rattle.std.proofs.lemmas.Bool.Decides.{same_from_decides}
use Rattle.fam_base.specs.declared.entry.Entry.{Entry}
use Rattle.fam_base.specs.declared.entry.Kind.{Kind}
use Rattle.fam_base.specs.declared.entry.Kind.TheVariants.{File, Directory}
use Rattle.fam_base.specs.declared.entry.MapKind.{MapKind}
use Rattle.fam_base.specs.declared.entry.MapKind.TheVariants.{Empty, Simple, Striped}
use Rattle.fam_base.specs.ExtentLists.{extents_eq}
use Rattle.fam_base.specs.PathOrder.{path_eq}
use Rattle.fam_base.proofs.ExtentLemmas.{extents_decides}
use Rattle.fam_format.specs.Slot.{kind_word, map_word, chunk_word}
use Rattle.fam_rules.specs.Checks.{entry_eq}
use Rattle.fam_fsck.proofs.PathTests.{same_path}

kind_same : (a b : Kind) → (kind_word a == kind_word b) ≡ true → a ≡ b
kind_same File File h = refl
kind_same File Directory h = absurd (cc)
kind_same Directory File h = absurd (cc)
kind_same Directory Directory h = refl

map_same : (a b : MapKind) → (map_word a == map_word b) ≡ true → (chunk_word a == chunk_word b) ≡ true → a ≡ b
map_same Empty Empty h k = refl
map_same Empty Simple h k = absurd (cc)
map_same Empty (Striped y) h k = absurd (cc)
map_same Simple Empty h k = absurd (cc)
map_same Simple Simple h k = refl
map_same Simple (Striped y) h k = absurd (cc)
map_same (Striped x) Empty h k = absurd (cc)
map_same (Striped x) Simple h k = absurd (cc)
map_same (Striped x) (Striped y) h k = ap Striped (eqb-true x y k)

-- one in each field
same_entry : (a b : Entry) → a.kind ≡ b.kind → a.path ≡ b.path → a.size ≡ b.size → a.mode ≡ b.mode → a.uid ≡ b.uid → a.gid ≡ b.gid → a.map ≡ b.map → a.extents ≡ b.extents → a ≡ b
same_entry a b k p s m u g t x = λ i. record { kind = k i; path = p i; size = s i; mode = m i; uid = u i; gid = g i; map = t i; extents = x i }

entry_same : (a b : Entry) → entry_eq a b ≡ true → a ≡ b
entry_same a b h =
    let x = and_parts _ (extents_eq a.extents b.extents) h in
    let c = and_parts _ (chunk_word a.map == chunk_word b.map) x.0 in
    let t = and_parts _ (map_word a.map == map_word b.map) c.0 in
    let g = and_parts _ (a.gid == b.gid) t.0 in
    let u = and_parts _ (a.uid == b.uid) g.0 in
    let m = and_parts _ (a.mode == b.mode) u.0 in
    let s = and_parts _ (a.size == b.size) m.0 in
    let p = and_parts (kind_word a.kind == kind_word b.kind) (path_eq a.path b.path) s.0 in
    same_entry a b (kind_same a.kind b.kind p.0) (same_path a.path b.path p.1) (eqb-true a.size b.size s.1) (eqb-true a.mode b.mode m.1)
    (eqb-true a.uid b.uid u.1) (eqb-true a.gid b.gid g.1) (map_same a.map b.map t.1 c.1) ((extents_decides a.extents b.extents).0 x.1)

itself : (n : ℕ) → (n == n) ≡ true
itself n = eq-eqb n n refl

entry_itself : (a : Entry) → entry_eq a a ≡ true
entry_itself a =
    and_from _ _ (and_from _ _ (and_from _ _ (and_from _ _ (and_from _ _ (and_from _ _ (and_from _ _ (and_from _ _
    (itself (kind_word a.kind)) (nat_list_eq_equiv.refl a.path)) (itself a.size)) (itself a.mode)) (itself a.uid)) (itself a.gid))
    (itself (map_word a.map))) (itself (chunk_word a.map))) ((extents_decides a.extents a.extents).1 refl)

entry_decides : (a b : Entry) → Decides (entry_eq a b) (a ≡ b)
entry_decides a b = (entry_same a b, λ same. ap (λ (e : Entry). entry_eq a e) (sym same) ∙ entry_itself a)

-- what a comparison answers is the test's answer
pub same_test : (b : Bool) (t e : Entry) → (IsTrue b ↔ (t ≡ e)) → b ≡ entry_eq t e
same_test b t e h = same_from_decides b (entry_eq t e) h (entry_decides t e)
