-- The tests of a slot's words in their order: the first that names a fault decides what is read.
use Rattle.std.proofs.Common.{◌≡◌, ℕ, List, length, Option, Some, None, Result, Ok, Err, refl, subst}
use Rattle.std.specs.Result.{MatchResult}
use Rattle.fam_base.specs.declared.entry.Params.{Params}
use Rattle.fam_format.specs.declared.faults.Reason.{Reason}
use Rattle.fam_format.specs.Layout.{geometry}
use Rattle.fam_format.specs.Slot.{entry_of, fields_of, crc_fault, seq_fault, kind_fault, attribute_fault, path_fault, map_fault, rest_fault}
use Rattle.fam_format.specs.Stop.{stop}
use Rattle.fam_format.specs.SuperLaws.{IsWords}
use Rattle.fam_entry.specs.Tests.{NamesFault}

-- The first so many of some tests name none, and the next one names a fault.

stops_at_1 : {T E : Type 0} (a : Option E) (next : Result T E) (reason : E) → a ≡ Some reason → stop a next ≡ Err reason
stops_at_1 a next reason is = rw is refl

stops_at_2 : {T E : Type 0} (a b : Option E) (next : Result T E) (reason : E) → a ≡ None → b ≡ Some reason → stop a (stop b next) ≡ Err reason
stops_at_2 a b next reason h1 is = rw (h1, is) refl

stops_at_3 : {T E : Type 0} (a b c : Option E) (next : Result T E) (reason : E) → a ≡ None → b ≡ None → c ≡ Some reason → stop a (stop b (stop c next)) ≡ Err reason
stops_at_3 a b c next reason h1 h2 is = rw (h1, h2, is) refl

stops_at_4 : {T E : Type 0} (a b c d : Option E) (next : Result T E) (reason : E) → a ≡ None → b ≡ None → c ≡ None → d ≡ Some reason → stop a (stop b (stop c (stop d next))) ≡ Err reason
stops_at_4 a b c d next reason h1 h2 h3 is = rw (h1, h2, h3, is) refl

stops_at_5 : {T E : Type 0} (a b c d e : Option E) (next : Result T E) (reason : E) → a ≡ None → b ≡ None → c ≡ None → d ≡ None → e ≡ Some reason
    → stop a (stop b (stop c (stop d (stop e next)))) ≡ Err reason
stops_at_5 a b c d e next reason h1 h2 h3 h4 is = rw (h1, h2, h3, h4, is) refl

stops_at_6 : {T E : Type 0} (a b c d e f : Option E) (next : Result T E) (reason : E) → a ≡ None → b ≡ None → c ≡ None → d ≡ None → e ≡ None
    → f ≡ Some reason → stop a (stop b (stop c (stop d (stop e (stop f next))))) ≡ Err reason
stops_at_6 a b c d e f next reason h1 h2 h3 h4 h5 is = rw (h1, h2, h3, h4, h5, is) refl

passes_to : {T E : Type 0} (a b c d e f g : Option E) (x : T) (result : Result T E) → a ≡ None → b ≡ None → c ≡ None → d ≡ None → e ≡ None → f ≡ None
    → stop g (Ok x) ≡ result → stop a (stop b (stop c (stop d (stop e (stop f (stop g (Ok x))))))) ≡ result
passes_to a b c d e f g x result h1 h2 h3 h4 h5 h6 is = rw (h1, h2, h3, h4, h5, h6) is

last : {T E : Type 0} (g : Option E) (next : Result T E) (reason : E) → g ≡ Some reason → stop g next ≡ Err reason
last g next reason is = rw is refl

none : {T E : Type 0} (g : Option E) (next : Result T E) → g ≡ None → stop g next ≡ next
none g next is = rw is refl

module _ (p : Params) (words : List ℕ) (seq : ℕ) where
  -- by the checksum
  pub by_crc : (reason : Reason) → crc_fault (geometry p) words ≡ Some reason → entry_of p words seq ≡ Err reason
  unfolding entry_of
  by_crc reason is = stops_at_1 (crc_fault (geometry p) words) _ reason is

  -- by the number
  pub by_number : (reason : Reason) → crc_fault (geometry p) words ≡ None → seq_fault words seq ≡ Some reason → entry_of p words seq ≡ Err reason
  unfolding entry_of
  by_number reason crc is = stops_at_2 (crc_fault (geometry p) words) (seq_fault words seq) _ reason crc is

  -- by the kind
  pub by_kind : (reason : Reason) → crc_fault (geometry p) words ≡ None → seq_fault words seq ≡ None → kind_fault words ≡ Some reason → entry_of p words seq ≡ Err reason
  unfolding entry_of
  by_kind reason crc number is = stops_at_3 (crc_fault (geometry p) words) (seq_fault words seq) (kind_fault words) _ reason crc number is

  -- by mode, uid or gid
  pub by_attributes : (reason : Reason) → crc_fault (geometry p) words ≡ None → seq_fault words seq ≡ None → kind_fault words ≡ None
      → attribute_fault words ≡ Some reason → entry_of p words seq ≡ Err reason
  unfolding entry_of
  by_attributes reason crc number kind is = stops_at_4 (crc_fault (geometry p) words) (seq_fault words seq) (kind_fault words) (attribute_fault words) _ reason crc number kind is

  -- by the path
  pub by_path : (reason : Reason) → crc_fault (geometry p) words ≡ None → seq_fault words seq ≡ None → kind_fault words ≡ None
      → attribute_fault words ≡ None → path_fault (geometry p) words ≡ Some reason → entry_of p words seq ≡ Err reason
  unfolding entry_of
  by_path reason crc number kind attributes is = stops_at_5 (crc_fault (geometry p) words) (seq_fault words seq) (kind_fault words)
      (attribute_fault words) (path_fault (geometry p) words) _ reason crc number kind attributes is

  -- by the map
  pub by_map : (reason : Reason) → crc_fault (geometry p) words ≡ None → seq_fault words seq ≡ None → kind_fault words ≡ None
      → attribute_fault words ≡ None → path_fault (geometry p) words ≡ None → map_fault p words ≡ Some reason → entry_of p words seq ≡ Err reason
  unfolding entry_of
  by_map reason crc number kind attributes path is = stops_at_6 (crc_fault (geometry p) words) (seq_fault words seq) (kind_fault words)
      (attribute_fault words) (path_fault (geometry p) words) (map_fault p words) _ reason crc number kind attributes path is

  -- and by the unused parts, behind the other tests
  pub by_rest : (result : Result (Unit {0}) Reason) → crc_fault (geometry p) words ≡ None → seq_fault words seq ≡ None → kind_fault words ≡ None
      → attribute_fault words ≡ None → path_fault (geometry p) words ≡ None → map_fault p words ≡ None
      → NamesFault result (rest_fault (geometry p) words)
      → MatchResult result (λ _. entry_of p words seq ≡ Ok (fields_of words)) (λ reason. entry_of p words seq ≡ Err reason)
  unfolding entry_of
  by_rest (Ok u) crc number kind attributes path map is = passes_to (crc_fault (geometry p) words) (seq_fault words seq) (kind_fault words)
      (attribute_fault words) (path_fault (geometry p) words) (map_fault p words) (rest_fault (geometry p) words)
      (fields_of words) _ crc number kind attributes path map (none (rest_fault (geometry p) words) _ is)
  by_rest (Err reason) crc number kind attributes path map is = passes_to (crc_fault (geometry p) words) (seq_fault words seq) (kind_fault words)
      (attribute_fault words) (path_fault (geometry p) words) (map_fault p words) (rest_fault (geometry p) words)
      (fields_of words) _ crc number kind attributes path map (last (rest_fault (geometry p) words) _ reason is)

-- as many words of 64 bits as a slot has
pub words_of_slot : (words : List ℕ) (n : ℕ) → length words ≡ n → IsWords (length words) words → IsWords n words
words_of_slot words n count is = subst (λ (k : ℕ). IsWords k words) count is
