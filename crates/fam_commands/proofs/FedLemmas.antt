-- What the loaded words say: it stays as more words come, and one slot more is read from its own words.
use Rattle.std.proofs.Common.{ℕ, zero, suc, ◌≡◌, ◌<◌, ◌≤◌, ◌+◌, ◌-◌, ◌*◌, ◌/◌, ◌%◌, false, List, [], ◌∷◌, ◌++◌, length, get_or, drop, Option, Some, None, Result, Ok, Err, refl, sym, ◌∙◌, ap, arith, nat_lt, Bool, if◌then◌else◌}
use Rattle.std.specs.Prelude.{slice_index, slice_range}
use Rattle.std.proofs.lemmas.List.{get_or-take, get_or-drop, length-drop, same_lists, get_or_default}
use Rattle.std.proofs.lemmas.List.FromFn.{length-map-range_with_len, get_or-map-range_with_len}
use Rattle.fam_base.specs.declared.entry.Params.{Params}
use Rattle.fam_base.specs.declared.entry.Entry.{Entry}
use Rattle.fam_format.specs.declared.faults.Reason.{Reason}
use Rattle.fam_format.specs.Layout.{geometry, log_line, slot_line}
use Rattle.fam_format.specs.Super.{super_of}
use Rattle.fam_format.specs.Slot.{entry_of}
use Rattle.fam_format.specs.Tree.{join_fault}
use Rattle.fam_format.specs.Reading.{Reading, Sound, Lines, slot_word, slot_words, slot_in, slot_or, joined_or, read_slots}
use Rattle.fam_format.proofs.Formats.{piece_ends, piece_span, all_words}
use Rattle.fam_rules.specs.Place.{line_bytes}
use Rattle.fam_rules.specs.Reports.{Survey, no_survey, survey_slot, survey_slots}
use Rattle.fam_commands.specs.Table.{fed, fed_super, fed_gate, fed_slots, fed_head, fed_from, words_before}
use Rattle.fam_commands.proofs.ListPlaces.{range_stays, index_stays}
use Rattle.fam_format.specs.Line.{line_words}
use Rattle.std.proofs.lemmas.Bool.{le-ltb, lt-ltb}

-- Superblock, header and gate.

-- more words don't change what was said of the superblock
pub super_stays : (words more : List ℕ) (lines : ℕ) → 17 ≤ length words → fed_super (words ++ more) lines ≡ fed_super words lines
super_stays words more lines long =
    ap (λ (l : List ℕ). super_of (slice_index l 0) (slice_range (words ++ more) 1 9 ++ slice_range (words ++ more) 9 17) (line_bytes * lines)) (range_stays words more 0 1 (omega arith) (omega arith))
    ∙ ap (λ (l : List ℕ). super_of (slice_index (slice_range words 0 1) 0) (l ++ slice_range (words ++ more) 9 17) (line_bytes * lines)) (range_stays words more 1 9 (omega arith) (omega arith))
    ∙ ap (λ (l : List ℕ). super_of (slice_index (slice_range words 0 1) 0) (slice_range words 1 9 ++ l) (line_bytes * lines)) (range_stays words more 9 17 (omega arith) (omega arith))

-- nor of the header
pub header_stays : (words more : List ℕ) → 25 ≤ length words → fed_head (words ++ more) log_line ≡ fed_head words log_line
header_stays words more long = range_stays words more 17 25 (omega arith) (omega arith)

-- nor of the gate
pub gate_stays : (words more : List ℕ) → 26 ≤ length words → fed_gate (words ++ more) ≡ fed_gate words
gate_stays words more long = ap (λ (l : List ℕ). slice_index l 0) (range_stays words more 25 26 (omega arith) (omega arith))

-- Slots.

-- a line of the slots is none of those before them
far_line : (p : Params) (words : List ℕ) (f line from : ℕ) → slot_line p f 0 ≤ line → fed_from p f line ≡ from → fed p f words line ≡ slice_range words from (from + line_words)
far_line p words f line from far is =
    let behind : nat_lt line (slot_line p f 0) ≡ false = le-ltb line (slot_line p f 0) far in
    ap (λ (b : Bool). if b then fed_head words line else slice_range words (fed_from p f line) (fed_from p f line + line_words)) behind
    ∙ ap (λ (n : ℕ). slice_range words n (n + line_words)) is

-- the lines before the slots are those of the head
pub head_line : (p : Params) (words : List ℕ) (f line : ℕ) → line < slot_line p f 0 → fed p f words line ≡ fed_head words line
head_line p words f line near =
    ap (λ (b : Bool). if b then fed_head words line else slice_range words (fed_from p f line) (fed_from p f line + line_words)) (lt-ltb line (slot_line p f 0) near)

-- the words of a line of a slot
pub slot_line_fed : (words : List ℕ) (p : Params) (f i j : ℕ) → f ≤ i
    → fed p f words (slot_line p i j) ≡ slice_range words (26 + ((geometry p).words * (i - f) + 8 * j))
    (26 + ((geometry p).words * (i - f) + 8 * j) + 8)
slot_line_fed words p f i j behind = far_line p words f (slot_line p i j) (26 + ((geometry p).words * (i - f) + 8 * j))
    (omega (arith, piece_span (geometry p).lines f i behind)) (omega (arith, piece_span (geometry p).lines f i behind, all_words p (i - f)))

-- a word of a slot, by its place among the loaded words
pub slot_word_fed : (words : List ℕ) (p : Params) (f i k : ℕ) → f ≤ i → k < (geometry p).words → slot_word (fed p f words) p i k ≡ slice_index words (words_before p f i + k)
slot_word_fed words p f i k behind below =
    ap (λ (l : List ℕ). slice_index l (k % 8)) (slot_line_fed words p f i (k / 8) behind)
    ∙ get_or-take (26 + ((geometry p).words * (i - f) + 8 * (k / 8)) + 8 - (26 + ((geometry p).words * (i - f) + 8 * (k / 8))))
    (drop (26 + ((geometry p).words * (i - f) + 8 * (k / 8))) words) (k % 8) 0 (omega arith)
    ∙ get_or-drop (26 + ((geometry p).words * (i - f) + 8 * (k / 8))) words (k % 8) 0
    ∙ ap (λ (n : ℕ). slice_index words n) (let z : 26 + ((geometry p).words * (i - f) + 8 * (k / 8)) + k % 8 ≡ words_before p f i + k = omega arith in z)

length-slot : (line : Lines) (p : Params) (i : ℕ) → length (slot_words line p i) ≡ (geometry p).words
unfolding slot_words
length-slot line p i = length-map-range_with_len (slot_word line p i) 0 (geometry p).words

get-slot : (words : List ℕ) (p : Params) (f i k d : ℕ) → f ≤ i → k < (geometry p).words → get_or (slot_words (fed p f words) p i) k d ≡ slice_index words (words_before p f i + k)
unfolding slot_words
get-slot words p f i k d behind below = get_or-map-range_with_len (slot_word (fed p f words) p i) 0 (geometry p).words k k d below (omega arith) ∙ slot_word_fed words p f i k behind below

-- the words of the slot that was loaded last
pub slot_held : (words : List ℕ) (p : Params) (f i : ℕ) → f ≤ i → length words ≡ words_before p f i + (geometry p).words → slot_words (fed p f words) p i ≡ drop (words_before p f i) words
slot_held words p f i behind long =
    same_lists (slot_words (fed p f words) p i) (drop (words_before p f i) words) (length-slot (fed p f words) p i ∙ omega (arith, length-drop (words_before p f i) words))
    (λ k d below.
    let small : k < (geometry p).words = omega (arith, length-slot (fed p f words) p i) in
    get-slot words p f i k d behind small ∙ get_or_default words (words_before p f i + k) 0 d (omega arith) ∙ sym (get_or-drop (words_before p f i) words k d))

-- the words of a slot stay
pub slot_stays : (words more : List ℕ) (p : Params) (f i : ℕ) → f ≤ i → words_before p f i + (geometry p).words ≤ length words
    → slot_words (fed p f (words ++ more)) p i ≡ slot_words (fed p f words) p i
slot_stays words more p f i behind long =
    same_lists (slot_words (fed p f (words ++ more)) p i) (slot_words (fed p f words) p i) (length-slot (fed p f (words ++ more)) p i ∙ sym (length-slot (fed p f words) p i))
    (λ k d below.
    let small : k < (geometry p).words = omega (arith, length-slot (fed p f (words ++ more)) p i) in
    get-slot (words ++ more) p f i k d behind small ∙ index_stays words more (words_before p f i + k) (omega arith) ∙ sym (get-slot words p f i k d behind small))

-- Slots that are read.

-- what comes of a slot is the same where what comes behind it is
or_same : (p : Params) (list : List Entry) (i : ℕ) (r : Result Entry Reason) (f g : Entry → Reading) → ((e : Entry) → f e ≡ g e) → slot_or p list i r f ≡ slot_or p list i r g
or_same p list i (Ok e) f g same = ap (joined_or i (join_fault p list e)) (same e)
or_same p list i (Err reason) f g same = refl

read_same : (a b : Lines) (p : Params) (n from : ℕ) (list : List Entry) → ((i : ℕ) → from ≤ i → i < from + n → slot_words a p i ≡ slot_words b p i)
    → read_slots a p from n list ≡ read_slots b p from n list
read_same a b p zero from list same = refl
read_same a b p (suc n) from list same =
    ap (λ (w : List ℕ). slot_or p list from (entry_of p w from) (λ e. read_slots a p (from + 1) n (list ++ e ∷ []))) (same from (omega arith) (omega arith))
    ∙ or_same p list from (slot_in b p from) (λ e. read_slots a p (from + 1) n (list ++ e ∷ [])) (λ e. read_slots b p (from + 1) n (list ++ e ∷ []))
    (λ e. read_same a b p n (from + 1) (list ++ e ∷ []) (λ i behind below. same i (omega arith) (omega arith)))

-- what the slots say stays
pub slots_stay : (words more : List ℕ) (p : Params) (used : List Entry) (n : ℕ) → words_before p (length used) n ≤ length words → fed_slots (words ++ more) p used n ≡ fed_slots words p used n
slots_stay words more p used n long = read_same (fed p (length used) (words ++ more)) (fed p (length used) words) p (n - length used)
    (length used) used (λ i behind below. slot_stays words more p (length used) i behind
    (omega (arith, piece_ends (geometry p).words (i - length used) (n - length used) (omega arith))))

survey_same : (a b : Lines) (p : Params) (gate n from : ℕ) (s : Survey) → ((i : ℕ) → from ≤ i → i < from + n → slot_words a p i ≡ slot_words b p i)
    → survey_slots a p gate from n s ≡ survey_slots b p gate from n s
survey_same a b p gate zero from s same = refl
survey_same a b p gate (suc n) from s same =
    ap (λ (w : List ℕ). survey_slots a p gate (from + 1) n (survey_slot p gate from w s)) (same from (omega arith) (omega arith))
    ∙ survey_same a b p gate n (from + 1) (survey_slot p gate from (slot_words b p from) s) (λ i behind below. same i (omega arith) (omega arith))

-- so does what a check of the whole file system finds in them
pub survey_stays : (words more : List ℕ) (p : Params) (gate n : ℕ) → words_before p 0 n ≤ length words
    → survey_slots (fed p 0 (words ++ more)) p gate 0 n no_survey ≡ survey_slots (fed p 0 words) p gate 0 n no_survey
survey_stays words more p gate n long = survey_same (fed p 0 (words ++ more)) (fed p 0 words) p gate n 0 no_survey
    (λ i behind below. slot_stays words more p 0 i behind (omega (arith, piece_ends (geometry p).words (i - 0) (n - 0) (omega arith))))

-- One slot more.

-- a slot by the reading before it
abbrev pub slot_after : Lines → Params → ℕ → Reading → Reading
slot_after line p i (Sound q list) = slot_or p list i (slot_in line p i) (λ e. Sound p (list ++ e ∷ []))
slot_after line p i other = other

slot_more : (line : Lines) (p : Params) (n i : ℕ) (list : List Entry) (rest : Entry → Reading) (more : Entry → Reading) (r : Result Entry Reason)
    → ((e : Entry) → more e ≡ slot_after line p n (rest e)) → slot_or p list i r more ≡ slot_after line p n (slot_or p list i r rest)
slot_more line p n i list rest more (Err reason) next = refl
slot_more line p n i list rest more (Ok e) next = by_join (join_fault p list e)
  where
    by_join : (f : Option Reason) → joined_or i f (more e) ≡ slot_after line p n (joined_or i f (rest e))
    by_join (Some reason) = refl
    by_join None = next e

read_more : (line : Lines) (p : Params) (n from : ℕ) (list : List Entry) → read_slots line p from (suc n) list ≡ slot_after line p (from + n) (read_slots line p from n list)
read_more line p zero from list = ap (λ (i : ℕ). slot_after line p i (Sound p list)) (let z : from ≡ from + 0 = omega arith in z)
read_more line p (suc n) from list =
    slot_more line p (from + suc n) from list (λ e. read_slots line p (from + 1) n (list ++ e ∷ [])) (λ e. read_slots line p (from + 1) (suc n) (list ++ e ∷ [])) (slot_in line p from)
    (λ e. read_more line p n (from + 1) (list ++ e ∷ []) ∙ ap (λ (i : ℕ). slot_after line p i (read_slots line p (from + 1) n (list ++ e ∷ [])))
    (let z : (from + 1) + n ≡ from + suc n = omega arith in z))

-- slot i is read behind those before it
pub slots_more : (words : List ℕ) (p : Params) (used : List Entry) (i : ℕ) (list : List Entry) → length used ≤ i
    → fed_slots words p used i ≡ Sound p list → fed_slots words p used (i + 1) ≡ slot_or p list i (slot_in (fed p (length used) words) p i)
    (λ e. Sound p (list ++ e ∷ []))
slots_more words p used i list behind is =
    let f : ℕ = length used in
    ap (λ (n : ℕ). read_slots (fed p f words) p f n used) (let z : i + 1 - f ≡ suc (i - f) = omega arith in z)
    ∙ read_more (fed p f words) p (i - f) f used
    ∙ ap (λ (n : ℕ). slot_after (fed p f words) p n (read_slots (fed p f words) p f (i - f) used)) (let z : f + (i - f) ≡ i = omega arith in z)
    ∙ ap (slot_after (fed p f words) p i) is

survey_last : (line : Lines) (p : Params) (gate n from : ℕ) (s : Survey)
    → survey_slots line p gate from (suc n) s ≡ survey_slot p gate (from + n) (slot_words line p (from + n)) (survey_slots line p gate from n s)
survey_last line p gate zero from s = ap (λ (i : ℕ). survey_slot p gate i (slot_words line p i) s) (let z : from ≡ from + 0 = omega arith in z)
survey_last line p gate (suc n) from s =
    survey_last line p gate n (from + 1) (survey_slot p gate from (slot_words line p from) s)
    ∙ ap (λ (i : ℕ). survey_slot p gate i (slot_words line p i)
    (survey_slots line p gate (from + 1) n (survey_slot p gate from (slot_words line p from) s)))
    (let z : (from + 1) + n ≡ from + suc n = omega arith in z)

-- one slot more is surveyed
pub survey_more : (words : List ℕ) (p : Params) (gate i : ℕ) → survey_slots (fed p 0 words) p gate 0 (i + 1) no_survey
    ≡ survey_slot p gate i (slot_words (fed p 0 words) p i) (survey_slots (fed p 0 words) p gate 0 i no_survey)
survey_more words p gate i =
    ap (λ (n : ℕ). survey_slots (fed p 0 words) p gate 0 n no_survey) (let z : i + 1 ≡ suc i = omega arith in z)
    ∙ survey_last (fed p 0 words) p gate i 0 no_survey
    ∙ ap (λ (n : ℕ). survey_slot p gate n (slot_words (fed p 0 words) p n) (survey_slots (fed p 0 words) p gate 0 i no_survey)) (let z : 0 + i ≡ i = omega arith in z)
