-- The words of a log's slots, and what a slot tells.
use Rattle.std.proofs.Common.{◌≡◌, ℕ, suc, ◌+◌, ◌-◌, ◌*◌, ◌/◌, ◌%◌, ◌<◌, ◌≤◌, List, [], ◌∷◌, ◌++◌, length, take, get_or, Option, Some, None, Result, Ok, Err, sym, ap, ap₂, subst, ◌∙◌, inl, inr, arith}
use Rattle.std.proofs.lemmas.Bool.{cases_lt}
use Rattle.std.proofs.lemmas.List.{length-append, length-take-le, get_or-take}
use Rattle.std.proofs.lemmas.List.FromFn.{fill_by_all}
use Rattle.fam_base.specs.declared.entry.Params.{Params}
use Rattle.fam_base.specs.declared.entry.Entry.{Entry}
use Rattle.fam_format.specs.declared.faults.Reason.{Reason}
use Rattle.fam_format.specs.Layout.{geometry, slot_line}
use Rattle.fam_format.specs.Reading.{BadSlot, Lines, joined_or, read_slots, slot_or, slot_word, slot_words}
use Rattle.fam_format.specs.Slot.{entry_of}
use Rattle.fam_format.specs.Tree.{join_fault}
use Rattle.fam_format.proofs.Formats.{shape}
use Rattle.fam_replay.specs.Sources.{Tells, of_slot}
use Rattle.fam_replay.specs.declared.fault.ReadFault.{ReadFault}

module _ (memory : Lines) (p : Params) (slot : ℕ) where
  -- the words of one line more
  pub words_more : (line : ℕ) (old new part : List ℕ) → ((k : ℕ) → k < 8 * line → get_or old k 0 ≡ slot_word memory p slot k)
      → ((k : ℕ) → k < 8 → get_or new (8 * line + k) 0 ≡ get_or part k 0) → ((k : ℕ) → k < 8 * line → get_or new k 0 ≡ get_or old k 0) → part ≡ memory (slot_line p slot line)
      → (k : ℕ) → k < 8 * (line + 1) → get_or new k 0 ≡ slot_word memory p slot k
  words_more line old new part before here same is k below =
      elim (cases_lt k (8 * line)) [
        | inl earlier ↦ same k earlier ∙ before k earlier
        | inr past ↦
            let at : 8 * line + (k - 8 * line) ≡ k = omega arith in
            let row : line ≡ k / 8 = omega arith in
            let word : k - 8 * line ≡ k % 8 = omega arith in
            ap (λ (n : ℕ). get_or new n 0) (sym at)
            ∙ here (k - 8 * line) (omega arith)
            ∙ ap (λ (w : List ℕ). get_or w (k - 8 * line) 0) is
            ∙ ap₂ (λ (l n : ℕ). get_or (memory (slot_line p slot l)) n 0) row word
      ]

  -- all of them
  pub words_all : (words : List ℕ) (line : ℕ) → (geometry p).words ≤ length words → (geometry p).lines ≤ line → ((k : ℕ) → k < 8 * line → get_or words k 0 ≡ slot_word memory p slot k)
      → take (geometry p).words words ≡ slot_words memory p slot
  unfolding slot_words
  words_all words line count past each =
      fill_by_all (slot_word memory p slot) (take (geometry p).words words) (geometry p).words 0 (length-take-le (geometry p).words words count)
      (λ k below. get_or-take (geometry p).words words k 0 below ∙ each k (omega (arith, past, below, (shape p).words)))

module _ (memory : Lines) (p : Params) (list : List Entry) (words : List ℕ) (is : words ≡ slot_words memory p (length list)) (more : ℕ) where
  reads : (r : Result Entry Reason) → r ≡ entry_of p words (length list)
      → read_slots memory p (length list) (suc more) list ≡ slot_or p list (length list) r (λ e. read_slots memory p (length list + 1) more (list ++ e ∷ []))
  reads r told =
      ap (λ (s : Result Entry Reason). slot_or p list (length list) s (λ e. read_slots memory p (length list + 1) more (list ++ e ∷ [])))
      (ap (λ (w : List ℕ). entry_of p w (length list)) (sym is) ∙ sym told)

  -- words that don't read
  pub bad_slot : (reason : Reason) → Err reason ≡ entry_of p words (length list)
      → read_slots memory p (length list) (suc more) list ≡ BadSlot (length list) reason
  bad_slot reason told = reads (Err reason) told

  module _ (e : Entry) (told : Ok e ≡ entry_of p words (length list)) where
    joined : (fault : Option Reason) → join_fault p list e ≡ fault
        → read_slots memory p (length list) (suc more) list ≡ joined_or (length list) fault (read_slots memory p (length list + 1) more (list ++ e ∷ []))
    joined fault joins =
        reads (Ok e) told ∙ ap (λ (f : Option Reason). joined_or (length list) f (read_slots memory p (length list + 1) more (list ++ e ∷ []))) joins

    -- an entry that joins
    pub next_slot : (new : List Entry) → join_fault p list e ≡ None → new ≡ list ++ e ∷ []
        → read_slots memory p (length list) (suc more) list ≡ read_slots memory p (length new) more new
    next_slot new joins added =
        let count : length list + 1 ≡ length new = omega (arith, ap (λ (l : List Entry). length l) added, length-append list (e ∷ [])) in
        joined None joins ∙ ap₂ (λ (n : ℕ) (l : List Entry). read_slots memory p n more l) count (sym added)

    by_fault : (fault : Option Reason) → join_fault p list e ≡ fault
        → Tells (of_slot (length list) fault) (read_slots memory p (length list) (suc more) list)
    by_fault (Some reason) joins = joined (Some reason) joins
    by_fault None joins = tt

    -- an entry that doesn't, or for which no memory was left
    pub apart_slot : (f : ReadFault) (fault : Option Reason) → f ≡ of_slot (length list) fault → fault ≡ join_fault p list e
        → Tells f (read_slots memory p (length list) (suc more) list)
    apart_slot f fault is joins =
        subst (λ (k : ReadFault). Tells k (read_slots memory p (length list) (suc more) list)) (sym is) (by_fault fault (sym joins))

-- The same by parameters and a number that are those of the list.
module _ (memory : Lines) (p q : Params) (list : List Entry) (words : List ℕ) (n seq more : ℕ) (params : q ≡ p) (number : seq ≡ length list) (size : n ≡ (geometry q).words)
    (is : take (geometry q).words words ≡ slot_words memory q seq) where
  all_of_them : take n words ≡ slot_words memory p (length list)
  all_of_them = ap (λ (k : ℕ). take k words) size ∙ is ∙ ap₂ (λ (r : Params) (k : ℕ). slot_words memory r k) params number

  telling : entry_of q (take n words) seq ≡ entry_of p (take n words) (length list)
  telling = ap₂ (λ (r : Params) (k : ℕ). entry_of r (take n words) k) params number

  -- words that don't read
  pub slot_refused : (reason : Reason) → Err reason ≡ entry_of q (take n words) seq → read_slots memory p (length list) (suc more) list ≡ BadSlot seq reason
  slot_refused reason told = bad_slot memory p list (take n words) all_of_them more reason (told ∙ telling) ∙ ap (λ (k : ℕ). BadSlot k reason) (sym number)

  module _ (e : Entry) where
    -- an entry that joins
    pub slot_joins : (new : List Entry) → Ok e ≡ entry_of q (take n words) seq → join_fault p list e ≡ None → new ≡ list ++ e ∷ []
        → read_slots memory p (length list) (suc more) list ≡ read_slots memory p (length new) more new
    slot_joins new told joins added = next_slot memory p list (take n words) all_of_them more e (told ∙ telling) new joins added

    -- an entry that doesn't, or for which no memory was left
    pub slot_apart : Ok e ≡ entry_of q (take n words) seq → (f : ReadFault) (fault : Option Reason) → f ≡ of_slot seq fault → fault ≡ join_fault p list e
        → Tells f (read_slots memory p (length list) (suc more) list)
    slot_apart told f fault of joins =
        apart_slot memory p list (take n words) all_of_them more e (told ∙ telling) f fault (of ∙ ap (λ (k : ℕ). of_slot k fault) number) joins
