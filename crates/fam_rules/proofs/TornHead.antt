-- What an image reads as of which line 0 was written in part: word 0 of it and the other lines are all that is read.
use Rattle.std.proofs.Common.{◌≡◌, ℕ, zero, suc, ◌+◌, ◌*◌, ◌/◌, ◌%◌, ◌^◌, ◌<◌, Bool, true, false, List, [], ◌∷◌, ◌++◌, length, get_or, Option, Some, None, Result, Ok, Err, if◌then◌else◌, refl, ap, ap₂, ◌∙◌, inl, inr, arith}
use Rattle.std.specs.Prelude.{◌≢◌, ◌⊎◌, ◌==◌, slice_index}
use Rattle.std.proofs.lemmas.Bool.{cases_Bool}
use Rattle.std.proofs.lemmas.List.{ext_get_or}
use Rattle.fam_base.specs.declared.entry.Params.{Params}
use Rattle.fam_base.specs.declared.entry.Entry.{Entry}
use Rattle.fam_base.specs.Image.{Image, line_at, masked, with_masked}
use Rattle.fam_base.proofs.ImageLemmas.{eight-masked, length-with_line, line_at-with_line, line_at-with_line_other, with_masked-with_line}
use Rattle.fam_format.specs.declared.faults.SuperFault.{SuperFault}
use Rattle.fam_format.specs.declared.faults.SuperFault.TheVariants as super
use Rattle.fam_format.specs.declared.faults.LogFault.{LogFault}
use Rattle.fam_format.specs.declared.faults.Reason.{Reason}
use Rattle.fam_format.specs.Layout.{gate_line, geometry, log_line, slot_line}
use Rattle.fam_format.specs.Log.{gate_fault, log_fault}
use Rattle.fam_format.specs.Reading.{Lines, NoSuperblock, Reading, gate_in, joined_or, read_below, read_log, read_slots, read_super, reading, reading_of, slot_in, slot_or, slot_word, slot_words, super_in}
use Rattle.fam_format.specs.Super.{magic, magic_line, super_of}
use Rattle.fam_format.specs.Slot.{entry_of}
use Rattle.fam_format.specs.Tree.{join_fault}
use Rattle.fam_rules.specs.Place.{line_bytes}
use Rattle.fam_rules.specs.Written.{zero_line}
use Rattle.fam_rules.proofs.RoomSame.{map_range_same}

-- Readings.

-- what comes of a slot, by what comes of its entry
slot_same : (p : Params) (list : List Entry) (i : ℕ) (r : Result Entry Reason) (f g : Entry → Reading) → ((e : Entry) → f e ≡ g e) → slot_or p list i r f ≡ slot_or p list i r g
slot_same p list i (Ok e) f g same = ap (joined_or i (join_fault p list e)) (same e)
slot_same p list i (Err reason) f g same = refl

-- word 0 of line 0 and the other lines are all that is read
module _ (one other : Lines) (word : slice_index (one 0) 0 ≡ slice_index (other 0) 0) (lines : (l : ℕ) → l ≢ 0 → one l ≡ other l) where
  same_slot : (p : Params) (i : ℕ) → slot_words one p i ≡ slot_words other p i
  unfolding slot_words
  same_slot p i =
      map_range_same (slot_word one p i) (slot_word other p i) 0 (geometry p).words (λ k from below.
      ap (λ (words : List ℕ). slice_index words (k % 8)) (lines (slot_line p i (k / 8)) (λ same. omega arith)))

  same_slots : (p : Params) (i n : ℕ) (list : List Entry) → read_slots one p i n list ≡ read_slots other p i n list
  same_slots p i zero list = refl
  same_slots p i (suc n) list =
      ap (λ (r : Result Entry Reason). slot_or p list i r (λ e. read_slots one p (i + 1) n (list ++ e ∷ []))) (ap (λ (w : List ℕ). entry_of p w i) (same_slot p i))
      ∙ slot_same p list i (slot_in other p i) (λ e. read_slots one p (i + 1) n (list ++ e ∷ [])) (λ e. read_slots other p (i + 1) n (list ++ e ∷ [])) (λ e. same_slots p (i + 1) n (list ++ e ∷ []))

  same_gate : gate_in one ≡ gate_in other
  same_gate = ap (λ (w : List ℕ). slice_index w 0) (lines gate_line (λ same. omega arith))

  same_below : (p : Params) (f : Option LogFault) → read_below one p f ≡ read_below other p f
  same_below p (Some fault) = refl
  same_below p None = ap (λ (n : ℕ). read_slots one p 0 n []) same_gate ∙ same_slots p 0 (gate_in other) []

  same_log : (p : Params) (f : Option LogFault) → read_log one p f ≡ read_log other p f
  same_log p (Some fault) = refl
  same_log p None = ap (λ (n : ℕ). read_below one p (gate_fault n p)) same_gate ∙ same_below p (gate_fault (gate_in other) p)

  same_super : (r : Result Params SuperFault) → read_super one r ≡ read_super other r
  same_super (Err fault) = refl
  same_super (Ok p) =
      ap (λ (w : List ℕ). read_log one p (log_fault w p)) (lines log_line (λ same. omega arith)) ∙ same_log p (log_fault (other log_line) p)

  -- so they read alike
  pub read_alike : (have : ℕ) → reading_of one have ≡ reading_of other have
  unfolding reading_of
  read_alike have =
      ap (read_super one) (ap₂ (λ (w : ℕ) (ws : List ℕ). super_of w ws have) word (ap₂ (λ (xs ys : List ℕ). xs ++ ys) (lines 1 (λ same. omega arith)) (lines 2 (λ same. omega arith))))
      ∙ same_super (super_in other have)

-- where word 0 of line 0 is 0 there is no superblock
pub none_read : (line : Lines) (have : ℕ) → slice_index (line 0) 0 ≡ 0 → reading_of line have ≡ NoSuperblock (super.NoSuper 0)
unfolding reading_of super_of
none_read line have word = ap (λ (w : ℕ). read_super line (super_of w (line 1 ++ line 2) have)) word

-- of an image
pub none_there : (image : Image) → slice_index (line_at image 0) 0 ≡ 0 → reading image ≡ NoSuperblock (super.NoSuper 0)
none_there image word = none_read (line_at image) (line_bytes * length image) word

-- A torn line 0.

-- whether word 0 was written
abbrev pub bit : ℕ → Bool
bit mask = mask / 2 ^ 0 % 2 == 1

module _ (image : Image) (mask : ℕ) (words : List ℕ) (some : 0 < length image) where
  abbrev pub torn : Image
  torn = with_masked 0 words mask image

  torn_line : line_at torn 0 ≡ masked mask words (line_at image 0)
  torn_line =
      ap (λ (m : Image). line_at m 0) (with_masked-with_line image 0 words mask)
      ∙ line_at-with_line image 0 (masked mask words (line_at image 0)) some
      ∙ eight-masked mask words (line_at image 0)

  pub torn_word : slice_index (line_at torn 0) 0 ≡ (if bit mask then slice_index words 0 else slice_index (line_at image 0) 0)
  unfolding masked
  torn_word = ap (λ (w : List ℕ). slice_index w 0) torn_line

  pub torn_other : (l : ℕ) → l ≢ 0 → line_at torn l ≡ line_at image l
  torn_other l off =
      ap (λ (m : Image). line_at m l) (with_masked-with_line image 0 words mask)
      ∙ line_at-with_line_other image 0 (masked mask words (line_at image 0)) l off

  torn_count : length torn ≡ length image
  torn_count = ap (λ (m : Image). length m) (with_masked-with_line image 0 words mask) ∙ length-with_line image 0 (masked mask words (line_at image 0))

  -- cleared in part it reads as before, or as none
  pub torn_clear : slice_index words 0 ≡ 0 → (reading (with_masked 0 words mask image) ≡ reading image) ⊎ (reading (with_masked 0 words mask image) ≡ NoSuperblock (super.NoSuper 0))
  torn_clear zero_word =
      elim (cases_Bool (bit mask)) [
        | inl set ↦ inr (none_there torn (torn_word ∙ ap (λ (b : Bool). if b then slice_index words 0 else slice_index (line_at image 0) 0) set ∙ zero_word))
        | inr kept ↦
            inl (ap (λ (n : ℕ). reading_of (line_at torn) (line_bytes * n)) torn_count
            ∙ read_alike (line_at torn) (line_at image) (torn_word ∙ ap (λ (b : Bool). if b then slice_index words 0 else slice_index (line_at image 0) 0) kept) torn_other (line_bytes * length image))
      ]

-- no choice
no_choice : (b : Bool) → ◌≡◌ {A = ℕ} (if b then 0 else 0) 0
no_choice true = refl
no_choice false = refl

-- its words
magic_word : (mask : ℕ) → bit mask ≡ true → (i : ℕ) → i < 8 → get_or (masked mask magic_line zero_line) i 0 ≡ get_or magic_line i 0
unfolding masked
magic_word mask set zero below = ap (λ (b : Bool). if b then magic else 0) set
magic_word mask set (suc zero) below = no_choice _
magic_word mask set (suc (suc zero)) below = no_choice _
magic_word mask set (suc (suc (suc zero))) below = no_choice _
magic_word mask set (suc (suc (suc (suc zero)))) below = no_choice _
magic_word mask set (suc (suc (suc (suc (suc zero))))) below = no_choice _
magic_word mask set (suc (suc (suc (suc (suc (suc zero)))))) below = no_choice _
magic_word mask set (suc (suc (suc (suc (suc (suc (suc zero))))))) below = no_choice _
magic_word mask set (suc (suc (suc (suc (suc (suc (suc (suc i)))))))) below = absurd (omega arith)

-- the magic's line, where its word 0 was written over zeros
pub magic_whole : (mask : ℕ) → bit mask ≡ true → masked mask magic_line zero_line ≡ magic_line
unfolding masked
magic_whole mask set = ext_get_or 0 (masked mask magic_line zero_line) magic_line refl (λ i below. magic_word mask set i below)
