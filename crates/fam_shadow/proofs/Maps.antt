-- Nodes put one behind another, and what then stands at a name.
use Rattle.std.proofs.Common.{◌≡◌, ◌≢◌, ℕ, Bool, true, false, cond, List, [], ◌∷◌, ◌++◌, Option, Some, None, refl, sym, ap, subst, ◌∙◌}
use Rattle.std.specs.FinMap as map
use Rattle.std.specs.FinMap.{find, get-insert, get-from_entries, IsAntisymmetric, slice_cmp-IsAntisymmetric, nat_cmp-IsAntisymmetric}
use Rattle.std.specs.Option.{option_or}
use Rattle.std.specs.Ordering.{eq_by_cmp}
use Rattle.std.specs.Cmp.Lexicographic.{nat_list_cmp_total}
use Rattle.std.proofs.lemmas.Bool.{false_from_ne_true}
use Rattle.std.proofs.lemmas.Map.Text.{is_eq-slice_cmp}
use Rattle.std.proofs.lemmas.Slice.Eq.{bytes_eq-Decides}
use Rattle.fam_base.specs.declared.entry.Entry.{Entry}
use Rattle.fam_media.specs.Files.{name_cmp}
use Rattle.fam_shadow.specs.declared.node.Node.{Node}
use Rattle.fam_shadow.specs.Nodes.{Nodes, with_node}
use Rattle.fam_shadow.specs.Shadows.{name_of, named_nodes, node_of}
use Rattle.fam_shadow.specs.Passes.{AreDistinct, HasNewName, with_entries, with_entry_node}
use Rattle.fam_shadow.proofs.OwnNames.{new_before}

pub name_cmp-IsAntisymmetric : IsAntisymmetric name_cmp
name_cmp-IsAntisymmetric = slice_cmp-IsAntisymmetric nat_cmp-IsAntisymmetric

-- whether two names are one
abbrev pub is_name : List ℕ → List ℕ → Bool
is_name = eq_by_cmp name_cmp

pub same_name : (a b : List ℕ) → is_name a b ≡ true → a ≡ b
same_name a b is = (bytes_eq-Decides a b).0 (sym (is_eq-slice_cmp a b) ∙ is)

pub own_name : (a : List ℕ) → is_name a a ≡ true
own_name a = is_eq-slice_cmp a a ∙ (bytes_eq-Decides a a).1 refl

pub other_name : (a b : List ℕ) → a ≢ b → is_name a b ≡ false
other_name a b apart = false_from_ne_true (is_name a b) (λ is. apart (same_name a b is))

module _ (name : List ℕ) (node : Node) (held : Nodes) where
  pub at_any : (q : List ℕ) → map.get (with_node name node held) q ≡ cond (is_name q name) (Some node) (map.get held q)
  at_any q = get-insert nat_list_cmp_total held name node q

  pub at_other : (q : List ℕ) → q ≢ name → map.get (with_node name node held) q ≡ map.get held q
  at_other q apart = at_any q ∙ ap (λ (b : Bool). cond b (Some node) (map.get held q)) (other_name q name apart)

-- entries leave a name that is none of theirs
pub unmet : (name : List ℕ) (entries : List Entry) (held : Nodes) → HasNewName name entries → map.get (with_entries entries held) name ≡ map.get held name
unmet name [] held new = refl
unmet name (e ∷ entries) held new =
    unmet name entries (with_entry_node held e) new.1 ∙ at_other (name_of e) (node_of e) held name (λ same. new.0 (sym same))

-- the node that is found for a name in a list, the first one
abbrev pub own_node : List ℕ → List Entry → Option Node
own_node name entries = find name_cmp name (named_nodes entries)

pub not_own : (name : List ℕ) (entries : List Entry) → HasNewName name entries → own_node name entries ≡ None
not_own name [] new = refl
not_own name (e ∷ entries) new =
    ap (λ (b : Bool). cond b (Some (node_of e)) (own_node name entries)) (other_name name (name_of e) (λ same. new.0 (sym same)))
    ∙ not_own name entries new.1

-- the names of the entries in a shadow
pub shadow_at : (entries : List Entry) (name : List ℕ) → map.get {R = name_cmp} (map.from_entries (named_nodes entries)) name ≡ own_node name entries
shadow_at entries name = get-from_entries nat_list_cmp_total (named_nodes entries) name

-- a node that isn't that of the first entry
behind : (own : Node) (more held : Option Node) (b : Bool) → (b ≡ true → more ≡ None) → option_or more (cond b (Some own) held) ≡ option_or (cond b (Some own) more) held
behind own more held true none = ap (λ (o : Option Node). option_or o (Some own)) (none refl)
behind own more held false none = refl

-- entries with names of their own: each name of theirs holds its node, and any other what it held
pub at_entries : (entries : List Entry) (held : Nodes) (name : List ℕ) → AreDistinct entries → map.get (with_entries entries held) name ≡ option_or (own_node name entries) (map.get held name)
at_entries [] held name distinct = refl
at_entries (e ∷ entries) held name distinct =
    at_entries entries (with_entry_node held e) name distinct.1
    ∙ ap (option_or (own_node name entries)) (at_any (name_of e) (node_of e) held name)
    ∙ behind (node_of e) (own_node name entries) (map.get held name) (is_name name (name_of e))
    (λ is. subst (λ (q : List ℕ). own_node q entries ≡ None) (sym (same_name name (name_of e) is)) (not_own (name_of e) entries distinct.0))

-- what is found in one list behind another
pub own_node-append : (name : List ℕ) (done rest : List Entry) → own_node name (done ++ rest) ≡ option_or (own_node name done) (own_node name rest)
own_node-append name [] rest = refl
own_node-append name (e ∷ done) rest =
    ap (λ (o : Option Node). cond (is_name name (name_of e)) (Some (node_of e)) o) (own_node-append name done rest)
    ∙ joined (is_name name (name_of e)) (node_of e) (own_node name done) (own_node name rest)
  where
    joined : (b : Bool) (own : Node) (x y : Option Node) → cond b (Some own) (option_or x y) ≡ option_or (cond b (Some own) x) y
    joined true own x y = refl
    joined false own x y = refl

-- an entry among others with names of their own is found by its name
pub own_node-here : (done : List Entry) (e : Entry) (rest : List Entry) → AreDistinct (done ++ e ∷ rest) → own_node (name_of e) (done ++ e ∷ rest) ≡ Some (node_of e)
own_node-here done e rest distinct =
    own_node-append (name_of e) done (e ∷ rest)
    ∙ ap (λ (o : Option Node). option_or o (own_node (name_of e) (e ∷ rest))) (not_own (name_of e) done (new_before done e rest distinct))
    ∙ ap (λ (b : Bool). cond b (Some (node_of e)) (own_node (name_of e) rest)) (own_name (name_of e))
