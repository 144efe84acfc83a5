-- The calls of a run: from those of its passes.
use Rattle.std.proofs.Common.{◌≡◌, ℕ, List, [], ◌∷◌, ◌++◌, Option, inl, inr, sym, ap, subst, ◌∙◌, append-nil}
use Rattle.std.specs.Prelude.{IfErr, OnErr, OnOk, Result, Ok, Err}
use Rattle.std.specs.Option.{option_map}
use Rattle.std.proofs.lemmas.List.Sums.{fold-append}
use Rattle.fam_base.specs.declared.entry.Entry.{Entry}
use Rattle.fam_media.specs.Causes.{Rose}
use Rattle.fam_media.specs.Plans.{one_more}
use Rattle.fam_shadow.specs.declared.fault.ShadowFault.{ShadowFault}
use Rattle.fam_shadow.specs.declared.fault.ShadowFault.TheVariants as fault
use Rattle.fam_shadow.specs.Calls.{CallsOf, LooksStop, PutsStop, WereMade}
use Rattle.fam_shadow.specs.Nodes.{IsOneMore, Nodes, ShadeState}
use Rattle.fam_shadow.specs.Shadows.{name_of, node_of}
use Rattle.fam_shadow.specs.Passes.{EntriesPartlyPut, EntriesPut, AreSeen, CallStops, EntryFault, IsCutAt, calls_behind, with_entries}

-- calls for these entries and then for those
behind_both : (first then : List Entry) (calls : Option ℕ) → calls_behind then (calls_behind first calls) ≡ calls_behind (first ++ then) calls
behind_both first then calls = sym (fold-append (λ (count : Option ℕ) (e : Entry). option_map one_more count) calls first then)

-- a call for one entry more
pub one_behind : (done : List Entry) (e : Entry) (before now next : Option ℕ) → now ≡ calls_behind done before → IsOneMore now next → next ≡ calls_behind (done ++ e ∷ []) before
one_behind done e before now next so_far call = call ∙ ap (option_map one_more) so_far ∙ behind_both done (e ∷ []) before

-- a pass came to its end
pub all_made : (entries done : List Entry) (old now : ShadeState) → entries ≡ done ++ [] → now.calls ≡ calls_behind done old.calls → now.faults ≡ old.faults → WereMade entries old now
all_made entries done old now parts calls faults = record {
  calls = calls ∙ ap (λ (l : List Entry). calls_behind l old.calls) (sym (parts ∙ append-nil done));
  faults = faults;
}

module _ (entries : List Entry) (old now next : ShadeState) (e : Entry) (rest : List Entry) (f : ShadowFault) (is : EntryFault e now.faults next.faults f) (stop : CallStops now next f) where
  -- a look ended the pass
  pub looks_stop : (seen : Option (List ℕ)) → AreSeen entries (e ∷ rest) old now seen → next.nodes ≡ now.nodes → LooksStop entries old next f
  looks_stop seen before same = by_fault f is stop
    where
      by_fault : (f : ShadowFault) → EntryFault e now.faults next.faults f → CallStops now next f → LooksStop entries old next f
      by_fault (fault.Clash name) is stop = absurd is
      by_fault (fault.ShadeFault name) is stop = record {
        done = before.done;
        entry = e;
        rest = rest;
        parts = before.parts;
        named = is.0;
        calls = one_behind before.done e old.calls now.calls next.calls before.calls stop;
        rose = subst (λ (count : ℕ). Rose count next.faults) before.faults is.1;
        same = same ∙ before.same;
      }
      by_fault fault.OutOfMemory is stop = stop ∙ before.faults

  -- a put did
  pub puts_stop : EntriesPut entries (e ∷ rest) old now → IsCutAt (node_of e) (name_of e) now.nodes next.nodes → PutsStop entries old next f
  puts_stop before cut = by_fault f is stop
    where
      by_fault : (f : ShadowFault) → EntryFault e now.faults next.faults f → CallStops now next f → PutsStop entries old next f
      by_fault (fault.Clash name) is stop = absurd is
      by_fault (fault.ShadeFault name) is stop = record {
        done = before.done;
        entry = e;
        rest = rest;
        parts = before.parts;
        named = is.0;
        calls = one_behind before.done e old.calls now.calls next.calls before.calls stop;
        rose = subst (λ (count : ℕ). Rose count next.faults) before.faults is.1;
        cut = subst (λ (o : Option Nodes). IsCutAt (node_of e) (name_of e) o next.nodes) before.is cut;
      }
      by_fault fault.OutOfMemory is stop = stop ∙ before.faults

module _ (entries : List Entry) (old : ShadeState) where
  -- looks alone
  pub looks_calls : (now : ShadeState) (f : ShadowFault) → LooksStop entries old now f → now.nodes ≡ old.nodes → CallsOf entries old now (Err f)
  looks_calls now (fault.Clash name) stop same = absurd stop
  looks_calls now (fault.ShadeFault name) stop same = inl stop
  looks_calls now fault.OutOfMemory stop same = (stop, inl same)

  -- puts behind all looks
  pub puts_calls : (seen now : ShadeState) → WereMade entries old seen → seen.nodes ≡ old.nodes → (result : Result (Unit {0}) ShadowFault) → OnOk result (WereMade entries seen now)
      → IfErr result (PutsStop entries seen now) → OnErr result (EntriesPartlyPut entries seen.nodes now.nodes) → CallsOf entries old now result
  puts_calls seen now looked same (Ok done) made stop cut = record {
    calls = made.calls ∙ ap (calls_behind entries) looked.calls ∙ behind_both entries entries old.calls;
    faults = made.faults ∙ looked.faults;
  }
  puts_calls seen now looked same (Err (fault.Clash name)) made stop cut = absurd stop
  puts_calls seen now looked same (Err (fault.ShadeFault name)) made stop cut = inr record {
    done = stop.done;
    entry = stop.entry;
    rest = stop.rest;
    parts = stop.parts;
    named = stop.named;
    calls = stop.calls ∙ ap (calls_behind (stop.done ++ stop.entry ∷ [])) looked.calls ∙ behind_both entries (stop.done ++ stop.entry ∷ []) old.calls;
    rose = subst (λ (count : ℕ). Rose count now.faults) looked.faults stop.rose;
    cut = subst (λ (o : Option Nodes). IsCutAt (node_of stop.entry) (name_of stop.entry) (option_map (with_entries stop.done) o) now.nodes) same stop.cut;
  }
  puts_calls seen now looked same (Err fault.OutOfMemory) made stop cut = (stop ∙ looked.faults, inr (subst (λ (o : Option Nodes). EntriesPartlyPut entries o now.nodes) same cut))
