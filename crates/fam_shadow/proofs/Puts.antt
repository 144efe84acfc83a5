-- The pass of puts: what stands at each name behind it, and behind one that was cut.
use Rattle.std.proofs.Common.{◌≡◌, ℕ, Bool, true, false, cond, List, [], ◌∷◌, ◌++◌, take, Option, Some, None, inl, inr, refl, sym, ap, subst, ◌∙◌, append_assoc}
use Rattle.std.specs.FinMap as map
use Rattle.std.specs.Option.{option_map, option_or}
use Rattle.std.proofs.lemmas.List.Sums.{fold-append}
use Rattle.fam_base.specs.declared.entry.Entry.{Entry}
use Rattle.fam_media.specs.Outside.{IfModelled}
use Rattle.fam_shadow.specs.declared.node.Node.{Node}
use Rattle.fam_shadow.specs.declared.node.Node.TheVariants.{Directory, File}
use Rattle.fam_shadow.specs.Nodes.{IsOneMore, Nodes, ShadeState, with_node}
use Rattle.fam_shadow.specs.Shadows.{MayHold, is_clash, name_of, node_of}
use Rattle.fam_shadow.specs.Passes.{EntriesPartlyPut, AreDistinct, EntriesPut, IsCutAt, HasNewName, first_met, with_entries, with_entry_node}
use Rattle.fam_shadow.proofs.Calls.{one_behind}
use Rattle.fam_shadow.proofs.OwnNames.{new_before}
use Rattle.fam_shadow.proofs.Maps.{at_any, at_entries, is_name, own_node, own_node-append, own_node-here, same_name, unmet}

one_more : (done : List Entry) (e : Entry) (old : Option Nodes) → option_map (with_node (name_of e) (node_of e)) (option_map (with_entries done) old) ≡ option_map (with_entries (done ++ e ∷ [])) old
one_more done e None = refl
one_more done e (Some held) = ap Some (sym (fold-append with_entry_node held done (e ∷ [])))

no_clash : (done : List Entry) (e : Entry) (rest : List Entry) (held : Nodes) → first_met (done ++ e ∷ rest) held ≡ None → is_clash (Some (node_of e)) (map.get held (name_of e)) ≡ false
no_clash [] e rest held none = by_test (is_clash (Some (node_of e)) (map.get held (name_of e))) none
  where
    by_test : (b : Bool) → cond b (Some (name_of e)) (first_met rest held) ≡ None → b ≡ false
    by_test true h = absurd (cc (h))
    by_test false h = refl
no_clash (x ∷ done) e rest held none = no_clash done e rest held (by_test (is_clash (Some (node_of x)) (map.get held (name_of x))) none)
  where
    by_test : (b : Bool) → cond b (Some (name_of x)) (first_met (done ++ e ∷ rest) held) ≡ None → first_met (done ++ e ∷ rest) held ≡ None
    by_test true h = absurd (cc (h))
    by_test false h = h

module _ (entries : List Entry) (old : ShadeState) where
  module _ (e : Entry) (rest : List Entry) (now : ShadeState) (before : EntriesPut entries (e ∷ rest) old now) where
    pub more_put : (next : ShadeState) → next.nodes ≡ option_map (with_node (name_of e) (node_of e)) now.nodes → IsOneMore now.calls next.calls
        → next.faults ≡ now.faults → EntriesPut entries rest old next
    more_put next is call steady = record {
      done = before.done ++ e ∷ [];
      parts = before.parts ∙ sym (append_assoc before.done (e ∷ []) rest);
      is = is ∙ ap (option_map (with_node (name_of e) (node_of e))) before.is ∙ one_more before.done e old.nodes;
      calls = one_behind before.done e old.calls now.calls next.calls before.calls call;
      faults = steady ∙ before.faults;
    }

    -- the next entry is as free of clashes as it was at first
    pub clear_at : AreDistinct entries → IfModelled old.nodes (λ held. first_met entries held ≡ None) → IfModelled now.nodes (λ held. is_clash (Some (node_of e)) (map.get held (name_of e)) ≡ false)
    clear_at distinct clear held told = by_old old.nodes (sym told ∙ before.is) clear
      where
        by_old : (o : Option Nodes) → Some held ≡ option_map (with_entries before.done) o → IfModelled o (λ held. first_met entries held ≡ None)
            → is_clash (Some (node_of e)) (map.get held (name_of e)) ≡ false
        by_old None is none = absurd (cc (is))
        by_old (Some first) is none =
            let now_is : held ≡ with_entries before.done first = cc (is) in
            let new = new_before before.done e rest (subst AreDistinct before.parts distinct) in
            ap (λ (h : Nodes). is_clash (Some (node_of e)) (map.get h (name_of e))) now_is
            ∙ ap (is_clash (Some (node_of e))) (unmet (name_of e) before.done first new)
            ∙ no_clash before.done e rest first (subst (λ (l : List Entry). first_met l first ≡ None) before.parts (none first refl))

-- What is left behind a cut.

distinct_front : (done rest : List Entry) → AreDistinct (done ++ rest) → AreDistinct done
distinct_front [] rest distinct = tt
distinct_front (e ∷ done) rest distinct = (new_front (name_of e) done rest distinct.0, distinct_front done rest distinct.1)
  where
    new_front : (name : List ℕ) (front back : List Entry) → HasNewName name (front ++ back) → HasNewName name front
    new_front name [] back new = tt
    new_front name (x ∷ front) back new = (new.0, new_front name front back new.1)

pub unchanged : (own held : Option Node) → MayHold own held held
unchanged None held = refl
unchanged (Some own) held = inl refl

done_or_not : (done rest held : Option Node) → MayHold (option_or done rest) held (option_or done held)
done_or_not None rest held = unchanged rest held
done_or_not (Some own) rest held = inr (inl refl)

module _ (held : Nodes) (done : List Entry) (e : Entry) (rest : List Entry) (distinct : AreDistinct (done ++ e ∷ rest)) where
  abbrev front : Nodes
  front = with_entries done held

  at_front : (q : List ℕ) → MayHold (own_node q (done ++ e ∷ rest)) (map.get held q) (map.get front q)
  at_front q =
      subst (λ (own : Option Node). MayHold own (map.get held q) (map.get front q)) (sym (own_node-append q done (e ∷ rest)))
      (subst (λ (now : Option Node). MayHold (option_or (own_node q done) (own_node q (e ∷ rest))) (map.get held q) now) (sym (at_entries done held q (distinct_front done (e ∷ rest) distinct)))
      (done_or_not (own_node q done) (own_node q (e ∷ rest)) (map.get held q)))

  module _ (bytes : List ℕ) (kept : ℕ) (is : node_of e ≡ File bytes) where
    at_torn : (q : List ℕ) → MayHold (own_node q (done ++ e ∷ rest)) (map.get held q) (map.get (with_node (name_of e) (File (take kept bytes)) front) q)
    at_torn q =
        subst (MayHold (own_node q (done ++ e ∷ rest)) (map.get held q)) (sym (at_any (name_of e) (File (take kept bytes)) front q))
        (by_name (is_name q (name_of e)) (same_name q (name_of e)))
      where
        here : own_node (name_of e) (done ++ e ∷ rest) ≡ Some (File bytes)
        here = own_node-here done e rest distinct ∙ ap Some is

        by_name : (b : Bool) → (b ≡ true → q ≡ name_of e) → MayHold (own_node q (done ++ e ∷ rest)) (map.get held q) (cond b (Some (File (take kept bytes))) (map.get front q))
        by_name true same =
            subst (λ (own : Option Node). MayHold own (map.get held q) (Some (File (take kept bytes))))
            (sym (ap (λ (n : List ℕ). own_node n (done ++ e ∷ rest)) (same refl) ∙ here)) (inr (inr (kept, refl)))
        by_name false same = at_front q

-- a cut of told nodes leaves told ones, and each name holds what it held, its node, or a prefix of its bytes
pub record IsCutLeft (entries : List Entry) (held : Nodes) (now : Option Nodes) : Type 0 where
  pub left : Nodes
  pub told : now ≡ Some left
  pub each : (q : List ℕ) → MayHold (own_node q entries) (map.get held q) (map.get left q)

pub cut_left : (entries : List Entry) (held : Nodes) (now : Option Nodes) → AreDistinct entries → EntriesPartlyPut entries (Some held) now → IsCutLeft entries held now
cut_left entries held now distinct cut =
    subst (λ (l : List Entry). IsCutLeft l held now) (sym cut.parts) (by_node (node_of cut.entry) refl cut.cut)
  where
    distinct_whole : AreDistinct (cut.done ++ cut.entry ∷ cut.rest)
    distinct_whole = subst AreDistinct cut.parts distinct

    untouched : now ≡ Some (with_entries cut.done held) → IsCutLeft (cut.done ++ cut.entry ∷ cut.rest) held now
    untouched is = record { left = with_entries cut.done held; told = is; each = at_front held cut.done cut.entry cut.rest distinct_whole }

    by_node : (node : Node) → node_of cut.entry ≡ node → IsCutAt node (name_of cut.entry) (Some (with_entries cut.done held)) now → IsCutLeft (cut.done ++ cut.entry ∷ cut.rest) held now
    by_node Directory is at = untouched at
    by_node (File bytes) is (inl same) = untouched same
    by_node (File bytes) is (inr torn) = record {
      left = with_node (name_of cut.entry) (File (take torn.0 bytes)) (with_entries cut.done held);
      told = torn.1;
      each = at_torn held cut.done cut.entry cut.rest distinct_whole bytes torn.0 is;
    }
