-- Which lines the parts of a copy put, and what they hold then.
use Rattle.std.proofs.Common.{◌≡◌, ℕ, zero, suc, ◌+◌, ◌*◌, ◌<◌, ◌≤◌, List, [], ◌∷◌, ◌++◌, length, Some, refl, sym, ap, subst, ◌∙◌, arith}
use Rattle.std.specs.Prelude.{◌≢◌, slice_get}
use Rattle.fam_base.specs.declared.entry.Params.{Params}
use Rattle.fam_base.specs.declared.entry.Entry.{Entry}
use Rattle.fam_base.specs.Image.{Image, eight, line_at}
use Rattle.fam_format.specs.Layout.{geometry, slot_line}
use Rattle.fam_format.specs.Reading.{Lines}
use Rattle.fam_format.specs.Slot.{spelling}
use Rattle.fam_format.proofs.Formats.{piece_ends}
use Rattle.fam_rules.specs.Content.{file_words}
use Rattle.fam_rules.specs.Place.{line_bytes}
use Rattle.fam_rules.specs.Written.{Put, file_line, file_puts, lines_of, put_lines, slot_part, slot_puts}
use Rattle.fam_rules.specs.WrittenLaws.{IsOffFile, IsOffSlot}
use Rattle.fam_rules.proofs.Puts.{AreElsewhere, at_put, length-put_lines, put_elsewhere, put_lines-append, puts_from}
use Rattle.fam_dup.specs.Lines.{bytes_in, files_puts, slots_puts}

-- Puts elsewhere.

pub elsewhere-append : (l : ℕ) (a b : List Put) → AreElsewhere l a → AreElsewhere l b → AreElsewhere l (a ++ b)
elsewhere-append l [] b first second = second
elsewhere-append l (put ∷ a) b first second = (first.0, elsewhere-append l a b first.1 second)

-- puts by their numbers
pub elsewhere_from : (f : ℕ → ℕ) (g : ℕ → List ℕ) (l a n : ℕ) → ((j : ℕ) → a ≤ j → j < a + n → l ≢ f j) → AreElsewhere l (puts_from f g a n)
elsewhere_from f g l a zero other = tt
elsewhere_from f g l a (suc n) other =
    (other a (omega arith) (omega arith), elsewhere_from f g l (a + 1) n (λ j from below. other j (omega arith) (omega arith)))

-- those of a file
pub file_elsewhere : (c : Entry) (bytes : List ℕ) (l : ℕ) → IsOffFile c l → AreElsewhere l (file_puts c bytes)
file_elsewhere c bytes l off = elsewhere_from (file_line c) (file_words bytes) l 0 (lines_of c.size) (λ j from below. off j (omega arith))

-- and of a slot
pub slot_elsewhere : (p : Params) (seq : ℕ) (c : Entry) (l : ℕ) → IsOffSlot p seq l → AreElsewhere l (slot_puts p seq c)
slot_elsewhere p seq c l off =
    elsewhere_from (slot_line p seq) (slot_part (spelling (geometry p) c seq)) l 0 (geometry p).lines (λ j from below. off j (omega arith))

-- a line that is none of the files' of these entries
pub files_elsewhere : (memory : Lines) (entries copies : List Entry) (l : ℕ) → ((i : ℕ) (c : Entry) → slice_get copies i ≡ Some c → IsOffFile c l) → AreElsewhere l (files_puts memory entries copies)
files_elsewhere memory [] copies l off = tt
files_elsewhere memory (e ∷ entries) [] l off = tt
files_elsewhere memory (e ∷ entries) (c ∷ copies) l off =
    elsewhere-append l (file_puts c (bytes_in memory e)) (files_puts memory entries copies)
    (file_elsewhere c (bytes_in memory e) l (off 0 c refl))
    (files_elsewhere memory entries copies l (λ i d at. off (suc i) d at))

-- or of the slots
pub slots_elsewhere : (p : Params) (copies : List Entry) (seq l : ℕ) → ((i : ℕ) (c : Entry) → slice_get copies i ≡ Some c → IsOffSlot p (seq + i) l) → AreElsewhere l (slots_puts p seq copies)
slots_elsewhere p [] seq l off = tt
slots_elsewhere p (c ∷ copies) seq l off =
    elsewhere-append l (slot_puts p seq c) (slots_puts p (seq + 1) copies)
    (slot_elsewhere p seq c l (λ j below same. off 0 c refl j below (same ∙ sym (ap (λ (n : ℕ). slot_line p n j) (omega arith)))))
    (slots_elsewhere p copies (seq + 1) l (λ i d at j below same. off (suc i) d at j below (same ∙ sym (ap (λ (n : ℕ). slot_line p n j) (omega arith)))))

-- Puts of slots.

-- a line of a slot's puts
own_slot : (p : Params) (seq : ℕ) (c : Entry) (image : Image) (j : ℕ) → j < (geometry p).lines → slot_line p seq j < length image
    → line_at (put_lines (slot_puts p seq c) image) (slot_line p seq j) ≡ eight (slot_part (spelling (geometry p) c seq) j)
own_slot p seq c image j below within =
    at_put (slot_line p seq) (slot_part (spelling (geometry p) c seq)) 0 (geometry p).lines image j (omega arith) (omega arith) within (λ i past end same. omega arith)

pub slot_there : (p : Params) (copies : List Entry) (seq : ℕ) (image : Image) (i : ℕ) (c : Entry) (j : ℕ) → slice_get copies i ≡ Some c
    → j < (geometry p).lines → slot_line p (seq + i) j < length image
    → line_at (put_lines (slots_puts p seq copies) image) (slot_line p (seq + i) j) ≡ eight (slot_part (spelling (geometry p) c (seq + i)) j)
slot_there p [] seq image i c j at below within = absurd (cc)
slot_there p (x ∷ copies) seq image zero c j at below within =
    let same : x ≡ c = cc in
    let here : seq + 0 ≡ seq = omega arith in
    let in_image : slot_line p seq j < length image = subst (λ (n : ℕ). slot_line p n j < length image) here within in
    subst (λ (n : ℕ). line_at (put_lines (slot_puts p seq x ++ slots_puts p (seq + 1) copies) image) (slot_line p n j) ≡ eight (slot_part (spelling (geometry p) c n) j)) (sym here)
    (ap (λ (m : Image). line_at m (slot_line p seq j)) (put_lines-append (slot_puts p seq x) (slots_puts p (seq + 1) copies) image)
    ∙ put_elsewhere (slots_puts p (seq + 1) copies) (put_lines (slot_puts p seq x) image) (slot_line p seq j)
    (slots_elsewhere p copies (seq + 1) (slot_line p seq j) (λ k d there l line is. omega (arith, piece_ends (geometry p).lines seq (seq + 1 + k) (omega arith))))
    ∙ own_slot p seq x image j below in_image
    ∙ ap (λ (e : Entry). eight (slot_part (spelling (geometry p) e seq) j)) same)
slot_there p (x ∷ copies) seq image (suc i) c j at below within =
    let next : seq + suc i ≡ seq + 1 + i = omega arith in
    subst (λ (n : ℕ). line_at (put_lines (slot_puts p seq x ++ slots_puts p (seq + 1) copies) image) (slot_line p n j) ≡ eight (slot_part (spelling (geometry p) c n) j)) (sym next)
    (ap (λ (m : Image). line_at m (slot_line p (seq + 1 + i) j)) (put_lines-append (slot_puts p seq x) (slots_puts p (seq + 1) copies) image)
    ∙ slot_there p copies (seq + 1) (put_lines (slot_puts p seq x) image) i c j at below
    (subst (λ (n : ℕ). slot_line p n j < length (put_lines (slot_puts p seq x) image)) next (omega (arith, length-put_lines (slot_puts p seq x) image))))

-- Puts of files.

-- lines of files are apart: one line holds one line of one file
abbrev pub AreFilesApart : List Entry → Type 0
AreFilesApart copies =
    (i k : ℕ) (c d : Entry) (j m : ℕ) → slice_get copies i ≡ Some c → slice_get copies k ≡ Some d → line_bytes * j < c.size → line_bytes * m < d.size
    → file_line c j ≡ file_line d m → (i ≡ k) × (j ≡ m)

rest_apart : (c : Entry) (copies : List Entry) → AreFilesApart (c ∷ copies) → AreFilesApart copies
rest_apart c copies apart i k d e j m at_i at_k j_below m_below same =
    let next = apart (suc i) (suc k) d e j m at_i at_k j_below m_below same in
    (omega (arith, next.0), next.1)

-- a line of a file's puts
own_line : (c : Entry) (bytes : List ℕ) (image : Image) (j : ℕ) → ((m : ℕ) → line_bytes * m < c.size → file_line c j ≡ file_line c m → j ≡ m) → line_bytes * j < c.size → file_line c j < length image
    → line_at (put_lines (file_puts c bytes) image) (file_line c j) ≡ file_words bytes j
own_line c bytes image j once below within =
    at_put (file_line c) (file_words bytes) 0 (lines_of c.size) image j (omega arith) (omega arith) within
    (λ i past end same. let one : j ≡ i = once i (omega arith) same in omega arith)

pub line_there : (memory : Lines) (entries copies : List Entry) (image : Image) (i : ℕ) (e c : Entry) (j : ℕ) → AreFilesApart copies
    → slice_get entries i ≡ Some e → slice_get copies i ≡ Some c → line_bytes * j < c.size → file_line c j < length image
    → line_at (put_lines (files_puts memory entries copies) image) (file_line c j) ≡ file_words (bytes_in memory e) j
line_there memory [] copies image i e c j apart at_e at_c below within = absurd (cc)
line_there memory (x ∷ entries) [] image i e c j apart at_e at_c below within = absurd (cc)
line_there memory (x ∷ entries) (y ∷ copies) image zero e c j apart at_e at_c below within =
    let same_e : x ≡ e = cc in
    let same_c : y ≡ c = cc in
    subst (λ (d : Entry). line_at (put_lines (file_puts y (bytes_in memory x) ++ files_puts memory entries copies) image) (file_line d j) ≡ file_words (bytes_in memory e) j) same_c
    (ap (λ (m : Image). line_at m (file_line y j)) (put_lines-append (file_puts y (bytes_in memory x)) (files_puts memory entries copies) image)
    ∙ put_elsewhere (files_puts memory entries copies) (put_lines (file_puts y (bytes_in memory x)) image) (file_line y j)
    (files_elsewhere memory entries copies (file_line y j) (λ k d at m m_below is.
    let two = apart 0 (suc k) y d j m refl at (subst (λ (d2 : Entry). line_bytes * j < d2.size) (sym same_c) below) m_below is in omega (arith, two.0)))
    ∙ own_line y (bytes_in memory x) image j
    (λ m m_below is. (apart 0 0 y y j m refl refl (subst (λ (d : Entry). line_bytes * j < d.size) (sym same_c) below) m_below is).1)
    (subst (λ (d : Entry). line_bytes * j < d.size) (sym same_c) below)
    (subst (λ (d : Entry). file_line d j < length image) (sym same_c) within)
    ∙ ap (λ (d : Entry). file_words (bytes_in memory d) j) same_e)
line_there memory (x ∷ entries) (y ∷ copies) image (suc i) e c j apart at_e at_c below within =
    ap (λ (m : Image). line_at m (file_line c j)) (put_lines-append (file_puts y (bytes_in memory x)) (files_puts memory entries copies) image)
    ∙ line_there memory entries copies (put_lines (file_puts y (bytes_in memory x)) image) i e c j (rest_apart y copies apart) at_e at_c below
    (omega (arith, length-put_lines (file_puts y (bytes_in memory x)) image))
