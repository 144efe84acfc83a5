-- A slot's words as a list that is filled by place, with the checksum behind.
use Rattle.std.proofs.Common.{◌≡◌, ℕ, suc, ◌+◌, ◌-◌, ◌<◌, ◌≤◌, List, [], ◌∷◌, ◌++◌, append_assoc, length, map, get_or, set, take, drop, inl, inr, sym, ap, ◌∙◌, arith}
use Rattle.std.specs.List.{range_with_len}
use Rattle.std.proofs.lemmas.Bool.{cases_lt}
use Rattle.std.proofs.lemmas.List.{set_split, drop_all, get_or-take, length-take-le, get_or_append_left, get_or_at, length_push, take_at, ext_get_or}
use Rattle.std.proofs.lemmas.List.FromFn.{fill_by_all, get_or-map-range_with_len, length-map-range_with_len}
use Rattle.fam_base.specs.declared.entry.Entry.{Entry}
use Rattle.fam_crc.specs.Crc.{crc32, bytes_of_words}
use Rattle.fam_format.specs.Layout.{Geometry}
use Rattle.fam_format.specs.Slot.{slot_word_at, slot_body, slot_crc, spelling}

-- a list whose first n members are f by place
prefix_of : (f : ℕ → ℕ) (n : ℕ) (words : List ℕ) → n ≤ length words → ((k : ℕ) → k < n → get_or words k 0 ≡ f k) → take n words ≡ map f (range_with_len 0 n)
prefix_of f n words long each = fill_by_all f (take n words) n 0 (length-take-le n words long) (λ k below. get_or-take n words k 0 below ∙ each k below)

-- the same with what g makes of them put behind
filled_by : (f : ℕ → ℕ) (g : List ℕ → ℕ) (n : ℕ) (words : List ℕ) → length words ≡ n + 1 → ((k : ℕ) → k < n → get_or words k 0 ≡ f k) →
    set words n (g (take n words)) ≡ map f (range_with_len 0 n) ++ g (map f (range_with_len 0 n)) ∷ []
filled_by f g n words long each =
    let prefix : take n words ≡ map f (range_with_len 0 n) = prefix_of f n words (omega arith) each in
    let rest : drop (suc n) words ≡ [] = drop_all (suc n) words (omega arith) in
    set_split words n (g (take n words)) (omega arith)
    ∙ ap (λ (r : List ℕ). take n words ++ g (take n words) ∷ r) rest
    ∙ ap (λ (l : List ℕ). l ++ g l ∷ []) prefix

-- words filled by place, and their checksum put behind, are the spelling
pub spelled : (g : Geometry) (e : Entry) (seq : ℕ) (words : List ℕ) → 0 < g.words → length words ≡ g.words → ((k : ℕ) → k < g.words - 1 → get_or words k 0 ≡ slot_word_at e seq k) →
    set words (g.words - 1) (slot_crc g words) ≡ spelling g e seq
unfolding spelling
spelled g e seq words some long each = filled_by (slot_word_at e seq) (λ l. crc32 (bytes_of_words l)) (g.words - 1) words (omega arith) each

-- words whose front is filled by place, and which have the checksum of that front behind it
pub spelled_in_front : (g : Geometry) (e : Entry) (seq n : ℕ) (words : List ℕ) → g.words ≡ n + 1 → n < length words → ((k : ℕ) → k < n → get_or words k 0 ≡ slot_word_at e seq k) →
    take g.words (set words n (crc32 (bytes_of_words (take n words)))) ≡ spelling g e seq
unfolding spelling
spelled_in_front g e seq n words is long each =
    let crc : ℕ = crc32 (bytes_of_words (take n words)) in
    let body : take n words ≡ slot_body g e seq = prefix_of (slot_word_at e seq) n words (omega arith) each
    ∙ ap (λ (k : ℕ). map (slot_word_at e seq) (range_with_len 0 k)) (let last : n ≡ g.words - 1 = omega arith in last) in
    let parts : set words n crc ≡ (take n words ++ crc ∷ []) ++ drop (suc n) words = set_split words n crc long ∙ sym (append_assoc (take n words) (crc ∷ []) (drop (suc n) words)) in
    ap (take g.words) parts
    ∙ take_at (take n words ++ crc ∷ []) (drop (suc n) words) g.words (omega (arith, is, length_push (take n words) crc, length-take-le n words (omega arith)))
    ∙ ap (λ (l : List ℕ). l ++ crc32 (bytes_of_words l) ∷ []) body

-- a member of the prefix
prefix_word : (f : ℕ → ℕ) (n : ℕ) (last : List ℕ) (k : ℕ) → k < n → get_or (map f (range_with_len 0 n) ++ last) k 0 ≡ f k
prefix_word f n last k below =
    get_or_append_left (map f (range_with_len 0 n)) last 0 k (omega (arith, length-map-range_with_len f 0 n))
    ∙ get_or-map-range_with_len f 0 n k k 0 below (omega arith)

-- word k of a spelling, before the checksum
pub word_of_spelling : (g : Geometry) (e : Entry) (seq k : ℕ) → k < g.words - 1 → get_or (spelling g e seq) k 0 ≡ slot_word_at e seq k
unfolding spelling
word_of_spelling g e seq k below = prefix_word (slot_word_at e seq) (g.words - 1) (crc32 (bytes_of_words (slot_body g e seq)) ∷ []) k below

-- how many words a spelling has
pub length_of_spelling : (g : Geometry) (e : Entry) (seq : ℕ) → 0 < g.words → length (spelling g e seq) ≡ g.words
unfolding spelling
length_of_spelling g e seq some =
    omega (arith, length_push (slot_body g e seq) (crc32 (bytes_of_words (slot_body g e seq))), length-map-range_with_len (slot_word_at e seq) 0 (g.words - 1))

-- the last member, and what stands before it
last_word : (f : ℕ → ℕ) (g : List ℕ → ℕ) (n : ℕ) → get_or (map f (range_with_len 0 n) ++ g (map f (range_with_len 0 n)) ∷ []) n 0
    ≡ g (take n (map f (range_with_len 0 n) ++ g (map f (range_with_len 0 n)) ∷ []))
last_word f g n =
    let body : List ℕ = map f (range_with_len 0 n) in
    let long : length body ≡ n = length-map-range_with_len f 0 n in
    get_or_at body (g body) [] 0 n long ∙ sym (ap g (take_at body (g body ∷ []) n long))

-- the last word of a spelling is its checksum
pub crc_of_spelling : (g : Geometry) (e : Entry) (seq : ℕ) → get_or (spelling g e seq) (g.words - 1) 0 ≡ slot_crc g (spelling g e seq)
unfolding spelling
crc_of_spelling g e seq = last_word (slot_word_at e seq) (λ l. crc32 (bytes_of_words l)) (g.words - 1)

-- a list that is filled by place, with what g makes of it behind
filled_is : (f : ℕ → ℕ) (g : List ℕ → ℕ) (n : ℕ) (words : List ℕ) → length words ≡ n + 1 → get_or words n 0 ≡ g (take n words) → ((k : ℕ) → k < n → get_or words k 0 ≡ f k) →
    words ≡ map f (range_with_len 0 n) ++ g (map f (range_with_len 0 n)) ∷ []
filled_is f g n words long last each =
    let body : List ℕ = map f (range_with_len 0 n) in
    let prefix : take n words ≡ body = prefix_of f n words (omega arith) each in
    let count : length body ≡ n = length-map-range_with_len f 0 n in
    ext_get_or 0 words (body ++ g body ∷ []) (omega (arith, length_push body (g body)))
    (λ k below. elim (cases_lt k n) [
      | inl before ↦ each k before ∙ sym (prefix_word f n (g body ∷ []) k before)
      | inr past ↦ let at : k ≡ n = omega arith in ap (λ (i : ℕ). get_or words i 0) at ∙ last ∙ ap g prefix
          ∙ sym (get_or_at body (g body) [] 0 n count) ∙ ap (λ (i : ℕ). get_or (body ++ g body ∷ []) i 0) (sym at)
    ])

-- words that agree with the table, with a right checksum, are the spelling
pub spelling_of_words : (g : Geometry) (e : Entry) (seq : ℕ) (words : List ℕ) → 0 < g.words → length words ≡ g.words → get_or words (g.words - 1) 0 ≡ slot_crc g words →
    ((k : ℕ) → k < g.words - 1 → get_or words k 0 ≡ slot_word_at e seq k) → words ≡ spelling g e seq
unfolding spelling
spelling_of_words g e seq words some long last each = filled_is (slot_word_at e seq) (λ l. crc32 (bytes_of_words l)) (g.words - 1) words (omega arith) last each
