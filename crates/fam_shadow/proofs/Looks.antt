-- The pass of looks: the first entry at whose name the other kind stands.
use Rattle.std.proofs.Common.{◌≡◌, ℕ, Bool, true, false, cond, List, [], ◌∷◌, ◌++◌, map as list_map, Option, Some, None, refl, sym, ap, subst, ◌∙◌, append_assoc}
use Rattle.std.specs.FinMap as map
use Rattle.std.specs.Option.{option_or}
use Rattle.fam_base.specs.declared.entry.Entry.{Entry}
use Rattle.fam_base.specs.Paths.{is_path}
use Rattle.fam_media.specs.Outside.{IfModelled}
use Rattle.fam_shadow.specs.declared.node.Node.{Node}
use Rattle.fam_shadow.specs.Nodes.{IsOneMore, Nodes, ShadeState}
use Rattle.fam_shadow.specs.Shadows.{first_clash, is_clash, name_of, named_nodes, node_of}
use Rattle.fam_shadow.specs.Passes.{AreDistinct, AreSeen, first_met}
use Rattle.fam_shadow.proofs.Calls.{one_behind}
use Rattle.fam_shadow.proofs.Maps.{own_node, own_node-here, shadow_at}

-- one more was seen
or_more : {T : Type 0} (seen : Option T) (b : Bool) (own : T) (rest : Option T) → option_or (option_or seen (cond b (Some own) None)) rest ≡ option_or seen (cond b (Some own) rest)
or_more None true own rest = refl
or_more None false own rest = refl
or_more (Some x) b own rest = refl

module _ (entries : List Entry) (old now next : ShadeState) where
  module _ (e : Entry) (rest : List Entry) (seen met : Option (List ℕ)) where
    pub more_seen : AreSeen entries (e ∷ rest) old now seen → is_path e.path ≡ true → IfModelled now.nodes (λ held. met ≡ first_met (e ∷ []) held)
        → next.nodes ≡ now.nodes → IsOneMore now.calls next.calls → next.faults ≡ now.faults
        → AreSeen entries rest old next (option_or seen met)
    more_seen before path is same call steady = record {
      done = before.done ++ e ∷ [];
      parts = before.parts ∙ sym (append_assoc before.done (e ∷ []) rest);
      proper = λ h. before.proper (path, h);
      first = λ nodes told.
          ap (λ (m : Option (List ℕ)). option_or (option_or seen m) (first_met rest nodes)) (is nodes (before.same ∙ told))
          ∙ or_more seen (is_clash (Some (node_of e)) (map.get nodes (name_of e))) (name_of e) (first_met rest nodes)
          ∙ before.first nodes told;
      same = same ∙ before.same;
      calls = one_behind before.done e old.calls now.calls next.calls before.calls call;
      faults = steady ∙ before.faults;
    }

module _ (entries : List Entry) (distinct : AreDistinct entries) (held : Nodes) where
  abbrev own : Nodes
  own = map.from_entries (named_nodes entries)

  at_entry : (done : List Entry) (e : Entry) (rest : List Entry) → entries ≡ done ++ e ∷ rest → map.get own (name_of e) ≡ Some (node_of e)
  at_entry done e rest parts =
      shadow_at entries (name_of e)
      ∙ subst (λ (l : List Entry). own_node (name_of e) l ≡ Some (node_of e)) (sym parts) (own_node-here done e rest (subst AreDistinct parts distinct))

  met_behind : (done rest : List Entry) → entries ≡ done ++ rest → first_met rest held ≡ first_clash own held (list_map name_of rest)
  met_behind done [] parts = refl
  met_behind done (e ∷ rest) parts =
      ap (λ (o : Option Node). cond (is_clash o (map.get held (name_of e))) (Some (name_of e)) (first_met rest held)) (sym (at_entry done e rest parts))
      ∙ ap (cond (is_clash (map.get own (name_of e)) (map.get held (name_of e))) (Some (name_of e)))
      (met_behind (done ++ e ∷ []) rest (parts ∙ sym (append_assoc done (e ∷ []) rest)))

  -- the first entry is that of the first clash
  pub met_is : first_met entries held ≡ first_clash own held (list_map name_of entries)
  met_is = met_behind [] entries refl
