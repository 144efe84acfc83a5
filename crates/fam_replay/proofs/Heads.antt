-- What superblock, header and gate tell, by their lines.
use Rattle.std.proofs.Common.{◌≡◌, ℕ, Bool, if◌then◌else◌, List, [], ◌∷◌, ◌++◌, get_or, Option, Some, None, Err, sym, ap, ◌∙◌}
use Rattle.std.proofs.lemmas.Bool.{ne_eqb}
use Rattle.fam_base.specs.declared.entry.Params.{Params}
use Rattle.fam_base.specs.Image.{Image, eight, line_at}
use Rattle.fam_format.specs.declared.faults.SuperFault.{SuperFault}
use Rattle.fam_format.specs.declared.faults.SuperFault.TheVariants as super
use Rattle.fam_format.specs.declared.faults.LogFault.{LogFault}
use Rattle.fam_format.specs.declared.faults.LogFault.TheVariants as log
use Rattle.fam_format.specs.Layout.{log_line}
use Rattle.fam_format.specs.Log.{gate_fault, log_fault}
use Rattle.fam_format.specs.Reading.{BadHeader, Lines, NoSuperblock, Reading, gate_in, read_below, read_log, read_slots, read_super, super_in}
use Rattle.fam_format.specs.Super.{magic, magic_fault, super_body_of, super_of}
use Rattle.fam_format.specs.Stop.{stop}
use Rattle.fam_replay.specs.Sources.{ReadsHead, Tells, of_log, of_super}
use Rattle.fam_replay.specs.declared.fault.ReadFault.{ReadFault}

-- lines 0, 1 and 2 tell the superblock
pub lines_tell : (image : Image) (magic first second : List ℕ) (have : ℕ) → magic ≡ line_at image 0 → first ≡ line_at image 1 → second ≡ line_at image 2
    → super_in (line_at image) have ≡ super_in (line_at (magic ∷ first ∷ second ∷ [])) have
lines_tell image magic first second have a b c =
    ap (λ (l : List ℕ). super_of (get_or l 0 0) (line_at image 1 ++ line_at image 2) have) (sym (ap eight a))
    ∙ ap (λ (l : List ℕ). super_of (get_or (eight magic) 0 0) (l ++ line_at image 2) have) (sym (ap eight b))
    ∙ ap (λ (l : List ℕ). super_of (get_or (eight magic) 0 0) (eight first ++ l) have) (sym (ap eight c))

not_magic : (word : ℕ) → (word ≡ magic → ⊥) → magic_fault word ≡ Some (super.NoSuper word)
not_magic word other = ap (λ (b : Bool). if b then None else Some (super.NoSuper word)) (ne_eqb word magic other)

refused : (word : ℕ) (words : List ℕ) (have : ℕ) → (word ≡ magic → ⊥) → super_of word words have ≡ Err (super.NoSuper word)
unfolding super_of
refused word words have other = ap (λ (fault : Option SuperFault). stop fault (super_body_of words have)) (not_magic word other)

-- without the magic there is none
pub no_magic : (lines : Lines) (have word : ℕ) → word ≡ get_or (lines 0) 0 0 → (word ≡ magic → ⊥) → read_super lines (super_in lines have) ≡ NoSuperblock (super.NoSuper word)
no_magic lines have word is other =
    ap (read_super lines) (ap (λ (n : ℕ). super_of n (lines 1 ++ lines 2) have) (sym is) ∙ refused word (lines 1 ++ lines 2) have other)

-- a fault of the superblock is told
pub tells_super : (f : ReadFault) (fault : SuperFault) (read : Reading) → f ≡ of_super fault → read ≡ NoSuperblock fault → Tells f read
tells_super f (super.NoSuper word) read is told = rw is told
tells_super f (super.BadSuper field found wanted) read is told = rw is told

-- one of the header or the gate
pub tells_log : (f : ReadFault) (fault : LogFault) (read : Reading) → f ≡ of_log fault → read ≡ BadHeader fault → Tells f read
tells_log f (log.BadLog field found wanted) read is told = rw is told

module _ (lines : Lines) (p : Params) where
  -- of the header
  pub by_header_line : (header : List ℕ) (fault : LogFault) → header ≡ lines log_line → log_fault header p ≡ Some fault → read_log lines p (log_fault (lines log_line) p) ≡ BadHeader fault
  by_header_line header fault is told = ap (read_log lines p) (ap (λ (w : List ℕ). log_fault w p) (sym is) ∙ told)

  -- the header has none
  pub no_fault_of : (header : List ℕ) → header ≡ lines log_line → log_fault header p ≡ None → log_fault (lines log_line) p ≡ None
  no_fault_of header is none = ap (λ (w : List ℕ). log_fault w p) (sym is) ∙ none

  -- the gate has none, behind such a header
  pub count_told : (header : List ℕ) (gate : ℕ) → header ≡ lines log_line → log_fault header p ≡ None → gate ≡ gate_in lines → gate_fault gate p ≡ None
      → read_log lines p (log_fault (lines log_line) p) ≡ read_slots lines p 0 gate []
  count_told header gate is none at within =
      ap (read_log lines p) (no_fault_of header is none)
      ∙ ap (λ (n : ℕ). read_below lines p (gate_fault n p)) (sym at)
      ∙ ap (read_below lines p) within
      ∙ ap (λ (n : ℕ). read_slots lines p 0 n []) (sym at)

  -- so both read
  pub head_reads : (header : List ℕ) (gate : ℕ) → header ≡ lines log_line → log_fault header p ≡ None → gate ≡ gate_in lines → gate_fault gate p ≡ None → ReadsHead lines p
  head_reads header gate is none at within = record { header = no_fault_of header is none; gate = ap (λ (n : ℕ). gate_fault n p) (sym at) ∙ within }

  -- the gate has one
  pub by_gate : (header : List ℕ) (gate : ℕ) (fault : LogFault) → header ≡ lines log_line → log_fault header p ≡ None → gate ≡ gate_in lines → gate_fault gate p ≡ Some fault
      → read_log lines p (log_fault (lines log_line) p) ≡ BadHeader fault
  by_gate header gate fault is none at told =
      ap (read_log lines p) (no_fault_of header is none)
      ∙ ap (λ (n : ℕ). read_below lines p (gate_fault n p)) (sym at)
      ∙ ap (read_below lines p) told
