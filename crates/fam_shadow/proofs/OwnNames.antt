-- The names of entries: text, and no two alike.
use Rattle.std.proofs.Common.{◌≡◌, ◌≢◌, ℕ, ◌<◌, true, List, [], ◌∷◌, ◌++◌, map, sym, ap, ◌∙◌, arith}
use Rattle.std.specs.Cmp.{tied_itself}
use Rattle.std.specs.Cmp.Lexicographic.{nat_list_cmp_total}
use Rattle.std.specs.declared.cmp.Ordering.TheVariants.{Less, Equal}
use Rattle.std.specs.List.{AllByRecursion}
use Rattle.std.specs.List.Sorted.{IsStrictlySortedBy}
use Rattle.std.specs.Str.{IsUtf8}
use Rattle.std.proofs.lemmas.List.Elements.{All-weaker}
use Rattle.std.proofs.lemmas.Map.Keys.{sorted_head, sorted_tail}
use Rattle.std.proofs.lemmas.Str.{IsUtf8-from_ascii}
use Rattle.std.proofs.lemmas.Str.Ascii.{IsAscii-from_all}
use Rattle.fam_base.specs.declared.entry.Entry.{Entry}
use Rattle.fam_base.specs.Escapes.{IsVisible, escaped}
use Rattle.fam_base.specs.Paths.{is_path}
use Rattle.fam_base.specs.PathOrder.{path_cmp}
use Rattle.fam_base.proofs.EscapeLemmas.{escaped_once, escaped_visible}
use Rattle.fam_tree.proofs.Printed.{path_fits}
use Rattle.fam_shadow.specs.Shadows.{name_of}
use Rattle.fam_shadow.specs.Passes.{AreDistinct, AreProper, HasNewName}

-- a printed name is text
pub name_is_text : (path : List ℕ) → is_path path ≡ true → IsUtf8 (escaped path)
name_is_text path is =
    IsUtf8-from_ascii (escaped path) (IsAscii-from_all (escaped path)
    (All-weaker IsVisible (λ byte. byte < 128) (λ byte seen. omega (arith, seen.1)) (escaped path) (escaped_visible path (path_fits path is))))

-- paths that follow one another have two names
apart : (a b : Entry) → is_path a.path ≡ true → is_path b.path ≡ true → path_cmp a.path b.path ≡ Less → name_of b ≢ name_of a
apart a b path_a path_b less same =
    let paths : a.path ≡ b.path = escaped_once a.path b.path (path_fits a.path path_a) (path_fits b.path path_b) (sym same) in
    let tied : path_cmp a.path b.path ≡ Equal = ap (path_cmp a.path) (sym paths) ∙ tied_itself nat_list_cmp_total a.path in
    absurd (cc (less, tied))

new_behind : (e : Entry) (entries : List Entry) → is_path e.path ≡ true → AreProper entries
    → AllByRecursion (λ y. path_cmp e.path y ≡ Less) (map (λ x. x.path) entries) → HasNewName (name_of e) entries
new_behind e [] path proper less = tt
new_behind e (x ∷ entries) path proper less = (apart e x path proper.0 less.0, new_behind e entries path proper.1 less.1)

-- the names of a tree's entries
pub distinct : (entries : List Entry) → AreProper entries → IsStrictlySortedBy path_cmp (map (λ x. x.path) entries) → AreDistinct entries
distinct [] proper sorted = tt
distinct (e ∷ entries) proper sorted = (
  new_behind e entries proper.0 proper.1 (sorted_head path_cmp e.path (map (λ x. x.path) entries) sorted),
  distinct entries proper.1 (sorted_tail path_cmp e.path (map (λ x. x.path) entries) sorted),
)

-- an entry behind others has none of their names
new_among : (name : List ℕ) (done : List Entry) (e : Entry) (rest : List Entry) → HasNewName name (done ++ e ∷ rest) → name_of e ≢ name
new_among name [] e rest new = new.0
new_among name (x ∷ done) e rest new = new_among name done e rest new.1

pub new_before : (done : List Entry) (e : Entry) (rest : List Entry) → AreDistinct (done ++ e ∷ rest) → HasNewName (name_of e) done
new_before [] e rest distinct = tt
new_before (x ∷ done) e rest distinct = (λ same. new_among (name_of x) done e rest distinct.0 (sym same), new_before done e rest distinct.1)
