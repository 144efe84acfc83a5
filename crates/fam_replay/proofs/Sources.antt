-- What an image reads as, step by step.
use Rattle.std.proofs.Common.{◌≡◌, ℕ, suc, ◌+◌, ◌-◌, ◌*◌, ◌<◌, List, [], length, Ok, sym, ap, subst, ◌∙◌, inr, arith}
use Rattle.fam_base.specs.declared.entry.Params.{Params}
use Rattle.fam_base.specs.declared.entry.Entry.{Entry}
use Rattle.fam_base.specs.Image.{Image, line_at}
use Rattle.fam_format.specs.Layout.{log_line}
use Rattle.fam_format.specs.Log.{log_fault}
use Rattle.fam_format.specs.Reading.{Lines, Reading, gate_in, read_log, read_slots, read_super, reading, reading_of, super_in}
use Rattle.fam_rules.specs.Place.{line_bytes}
use Rattle.fam_replay.specs.Sources.{FailsAt, IsOfLog, IsOfSlot, IsOfSlots, ReadsHead, Tells}
use Rattle.fam_replay.specs.declared.fault.ReadFault.{ReadFault}
use Rattle.fam_replay.specs.declared.fault.ReadFault.TheVariants as fault

-- by the superblock
pub by_superblock : (image : Image) (size : ℕ) → length image ≡ size → reading image ≡ read_super (line_at image) (super_in (line_at image) (line_bytes * size))
unfolding reading_of
by_superblock image size count = ap (λ (n : ℕ). read_super (line_at image) (super_in (line_at image) (line_bytes * n))) count

-- by the header, behind a superblock that reads
pub by_header : (image : Image) (size : ℕ) (p : Params) → length image ≡ size → super_in (line_at image) (line_bytes * size) ≡ Ok p
    → reading image ≡ read_log (line_at image) p (log_fault (line_at image log_line) p)
by_header image size p count told = by_superblock image size count ∙ ap (read_super (line_at image)) told

-- a fault tells what is read, however that is written
pub tells_as : (f : ReadFault) (one other : Reading) → one ≡ other → Tells f other → Tells f one
tells_as f one other same tells = subst (Tells f) (sym same) tells

-- the line at which the media failed is one of more
pub fails_among : (P Q : ℕ → Type 0) → ((at : ℕ) → P at → Q at) → (f : ReadFault) → FailsAt P f → FailsAt Q f
fails_among P Q more (fault.NoSuper word) fails = tt
fails_among P Q more (fault.BadSuper field found wanted) fails = tt
fails_among P Q more (fault.BadLog field found wanted) fails = tt
fails_among P Q more (fault.BadEntry seq reason) fails = tt
fails_among P Q more (fault.MediaFault line) fails = more line.0 fails
fails_among P Q more fault.OutOfMemory fails = tt

-- a line of the slots, behind a head that reads
pub slots_of_log : (lines : Lines) (p q : Params) (count at : ℕ) → q ≡ p → count ≡ gate_in lines → ReadsHead lines p → IsOfSlots lines q count at → IsOfLog lines p at
slots_of_log lines p q count at params is head line =
    inr (head, subst (λ (n : ℕ). IsOfSlots lines p n at) is (subst (λ (r : Params). IsOfSlots lines r count at) params line))

-- the slots that are left, by what a plan has
pub slots_left : (memory : Lines) (p q : Params) (count slot : ℕ) (entries : List Entry) → q ≡ p → length entries ≡ slot → slot < count
    → read_slots memory p 0 count [] ≡ read_slots memory p slot (count - slot) entries
    → read_slots memory p 0 count [] ≡ read_slots memory q (length entries) (suc (count - (slot + 1))) entries
slots_left memory p q count slot entries params is below told =
    let more : count - slot ≡ suc (count - (slot + 1)) = omega arith in
    told
    ∙ ap (λ (n : ℕ). read_slots memory p slot n entries) more
    ∙ ap (λ (n : ℕ). read_slots memory p n (suc (count - (slot + 1))) entries) (sym is)
    ∙ ap (λ (r : Params). read_slots memory r (length entries) (suc (count - (slot + 1))) entries) (sym params)

-- before the first slot
pub slots_first : (memory : Lines) (p : Params) (slot : ℕ) (entries : List Entry) → entries ≡ [] → slot ≡ 0 → (more : ℕ)
    → read_slots memory p 0 (slot + more) [] ≡ read_slots memory p slot more entries
slots_first memory p slot entries none first more =
    let count : slot + more ≡ more = omega (arith, first) in
    ap (λ (n : ℕ). read_slots memory p 0 n []) count
    ∙ ap (λ (n : ℕ). read_slots memory p n more []) (sym first)
    ∙ ap (λ (l : List Entry). read_slots memory p slot more l) (sym none)

module _ (memory : Lines) (p : Params) (slot : ℕ) (entries : List Entry) (each : (more : ℕ) → read_slots memory p 0 (slot + more) [] ≡ read_slots memory p slot more entries) where
  -- one slot more, by what a plan has
  pub slots_next : (q : Params) (more : ℕ) → q ≡ p → length entries ≡ slot → read_slots memory p 0 (slot + 1 + more) [] ≡ read_slots memory q (length entries) (suc more) entries
  slots_next q more params is =
      let count : slot + 1 + more ≡ slot + suc more = omega arith in
      ap (λ (n : ℕ). read_slots memory p 0 n []) count
      ∙ each (suc more)
      ∙ ap (λ (n : ℕ). read_slots memory p n (suc more) entries) (sym is)
      ∙ ap (λ (r : Params). read_slots memory r (length entries) (suc more) entries) (sym params)

  -- a line of the next slot is one behind slots that all read
  pub slot_reached : (q : Params) (count at : ℕ) → q ≡ p → length entries ≡ slot → slot < count → IsOfSlot q (length entries) at → IsOfSlots memory p count at
  slot_reached q count at params is below line =
      let none : slot ≡ slot + 0 = omega arith in
      record {
        slot = slot;
        below = below;
        before = entries;
        sound = ap (λ (n : ℕ). read_slots memory p 0 n []) none ∙ each 0;
        line = subst (λ (n : ℕ). IsOfSlot p n at) is (subst (λ (r : Params). IsOfSlot r (length entries) at) params line);
      }
