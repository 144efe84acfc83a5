-- What the operations that make a file system leave of memory and of the maker's cache.
use Rattle.std.proofs.Common.{ℕ, ◌≡◌, List, [], ◌∷◌, ◌++◌, length, map, get_or, inl, inr, refl, sym, ap, ap₂, subst, ◌∙◌, arith}
use Rattle.std.specs.List.{flat_map}
use Rattle.std.proofs.lemmas.Bool.{cases_eq, false≢true}
use Rattle.fam_base.specs.declared.entry.Params.{Params}
use Rattle.fam_base.specs.Image.{Image, eight, line_at, with_line}
use Rattle.fam_base.proofs.ImageLemmas.{length-with_line, line_at-with_line_other, normal-with_line, with_line-line_at}
use Rattle.fam_format.specs.Layout.{gate_line, log_line}
use Rattle.std.specs.Prelude.{◌≤◌, nat_lt, if◌then◌else◌, Bool, true, false, Some, None, slice_range}
use Rattle.std.proofs.lemmas.Bool.Decides.{nat_tests}
use Rattle.fam_format.specs.Log.{log_words}
use Rattle.fam_format.specs.Params.{need}
use Rattle.fam_format.specs.Super.{magic_line, super_words}
use Rattle.fam_rules.specs.Written.{Put, put_line, put_lines, format_puts, formatted, zero_line}
use Rattle.fam_machine.specs.declared.cell.Cell.{Cell}
use Rattle.fam_machine.specs.declared.cell.Cell.TheVariants.{Absent, Clean}
use Rattle.fam_machine.specs.declared.op.Op.TheVariants.{Invalidate}
use Rattle.fam_machine.specs.Caches.{Cache, IsClean, cell_at, with_cell}
use Rattle.fam_machine.specs.OneLine.{IsDirty, current, sent}
use Rattle.fam_machine.specs.Operations.{Machine, machine, operated, operated_all, load_ops, line_no}
use Rattle.fam_machine.proofs.CacheLemmas.{cell_at-with_cell_same, cell_at-with_cell_other}
use Rattle.fam_machine.proofs.LinePuts.{line_loaded, line_put, operated_all-append}
use Rattle.fam_machine.specs.Mkfs.{BadGeometry, TooSmall, drop_line, drop_lines, early_refusal, is_geometry, put_ops, read_ops, write_ops, mkfs_ops}
use Rattle.fam_machine.specs.EightWords.{HasEightWords}
use Rattle.fam_machine.proofs.CleanCaches.{clean_sent, clean_wide, clean_with}
use Rattle.fam_machine.proofs.WideLines.{eight_whole}

-- one line of memory and of the cache changes, to eight words
whole_with : (line : ℕ) (words : List ℕ) (cell : Cell) (m : Machine)
    → ((memory : List ℕ) → eight (current (eight memory) cell) ≡ current (eight memory) cell) → HasEightWords m
    → HasEightWords (machine (with_line line words m.image) (with_cell line cell m.cache))
whole_with line words cell m new old q =
    elim (cases_eq q line) [
      | inl same ↦
          let here : cell_at (with_cell line cell m.cache) q ≡ cell = ap (cell_at _) same ∙ cell_at-with_cell_same line cell m.cache in
          subst (λ (c : Cell). eight (current (line_at (with_line line words m.image) q) c) ≡ current (line_at (with_line line words m.image) q) c)
          (sym here) (new (get_or (with_line line words m.image) q []))
      | inr other ↦
          let here : cell_at (with_cell line cell m.cache) q ≡ cell_at m.cache q = cell_at-with_cell_other line cell m.cache q other in
          let there : line_at (with_line line words m.image) q ≡ line_at m.image q = line_at-with_line_other m.image line words q other in
          subst (λ (ws : List ℕ). eight ws ≡ ws) (sym (ap₂ current there here)) (old q)
    ]

-- one put
pub put_one : (put : Put) (m : Machine) → HasEightWords m → operated_all (put_ops put) m ≡ machine (put_line m.image put) (drop_line m.cache put)
unfolding put_ops
put_one put m whole = line_put put.0 put.1 m (whole put.0)

pub whole_put : (put : Put) (m : Machine) → HasEightWords m → HasEightWords (machine (put_line m.image put) (drop_line m.cache put))
whole_put put m whole = whole_with put.0 put.1 Absent m (λ memory. refl) whole

-- puts, one after another
pub put_all : (puts : List Put) (m : Machine) → HasEightWords m → operated_all (flat_map put_ops puts) m ≡ machine (put_lines puts m.image) (drop_lines puts m.cache)
put_all [] m whole = refl
put_all (put ∷ more) m whole =
    operated_all-append (put_ops put) (flat_map put_ops more) m
    ∙ ap (operated_all (flat_map put_ops more)) (put_one put m whole)
    ∙ put_all more (machine (put_line m.image put) (drop_line m.cache put)) (whole_put put m whole)

pub whole_all : (puts : List Put) (m : Machine) → HasEightWords m → HasEightWords (machine (put_lines puts m.image) (drop_lines puts m.cache))
whole_all [] m whole = whole
whole_all (put ∷ more) m whole = whole_all more (machine (put_line m.image put) (drop_line m.cache put)) (whole_put put m whole)

-- a loaded line has eight words
whole_loaded : (line : ℕ) (m : Machine) → HasEightWords m → HasEightWords (operated_all (load_ops line 8) m)
whole_loaded line m whole =
    let words = sent (line_at m.image line) (cell_at m.cache line) in
    subst HasEightWords (sym (line_loaded line m)) (whole_with line words (Clean (line_at (with_line line words m.image) line)) m (λ memory. refl) whole)

pub read_in_turn : (m : Machine) → operated_all read_ops m ≡ operated_all (load_ops 2 8) (operated_all (load_ops 1 8) (operated_all (load_ops 0 8) m))
unfolding read_ops
read_in_turn m =
    operated_all-append (load_ops 0 8) (load_ops 1 8 ++ load_ops 2 8) m
    ∙ operated_all-append (load_ops 1 8) (load_ops 2 8) (operated_all (load_ops 0 8) m)

pub whole_read : (m : Machine) → HasEightWords m → HasEightWords (operated_all read_ops m)
whole_read m whole = subst HasEightWords (sym (read_in_turn m)) (whole_loaded 2 _ (whole_loaded 1 _ (whole_loaded 0 m whole)))

-- the size and the form of memory
loaded_length : (line : ℕ) (m : Machine) → length (operated_all (load_ops line 8) m).image ≡ length m.image
loaded_length line m = ap (λ (x : Machine). length x.image) (line_loaded line m) ∙ length-with_line m.image line (sent (line_at m.image line) (cell_at m.cache line))

pub read_length : (m : Machine) → length (operated_all read_ops m).image ≡ length m.image
read_length m = ap (λ (x : Machine). length x.image) (read_in_turn m) ∙ loaded_length 2 _ ∙ loaded_length 1 _ ∙ loaded_length 0 m

pub loaded_normal : (line : ℕ) (m : Machine) → map eight m.image ≡ m.image → map eight (operated_all (load_ops line 8) m).image ≡ (operated_all (load_ops line 8) m).image
loaded_normal line m normal =
    subst (λ (x : Machine). map eight x.image ≡ x.image) (sym (line_loaded line m)) (normal-with_line m.image normal line (sent (line_at m.image line) (cell_at m.cache line)))

pub read_normal : (m : Machine) → map eight m.image ≡ m.image → map eight (operated_all read_ops m).image ≡ (operated_all read_ops m).image
read_normal m normal = subst (λ (x : Machine). map eight x.image ≡ x.image) (sym (read_in_turn m)) (loaded_normal 2 _ (loaded_normal 1 _ (loaded_normal 0 m normal)))

pub puts_normal : (puts : List Put) (image : Image) → map eight image ≡ image → map eight (put_lines puts image) ≡ put_lines puts image
puts_normal [] image normal = normal
puts_normal (put ∷ more) image normal = puts_normal more (put_line image put) (normal-with_line image normal put.0 put.1)

-- what all 81 operations leave
pub all_left : (p : Params) (m : Machine) → HasEightWords m → operated_all (mkfs_ops p) m ≡ machine (formatted (operated_all read_ops m).image p)
    (drop_lines (format_puts p) (operated_all read_ops m).cache)
unfolding write_ops formatted
all_left p m whole = operated_all-append read_ops (write_ops p) m ∙ put_all (format_puts p) (operated_all read_ops m) (whole_read m whole)

pub whole_left : (p : Params) (m : Machine) → HasEightWords m → HasEightWords (machine (formatted (operated_all read_ops m).image p) (drop_lines (format_puts p) (operated_all read_ops m).cache))
unfolding formatted
whole_left p m whole = whole_all (format_puts p) (operated_all read_ops m) (whole_read m whole)

pub formatted_normal : (p : Params) (image : Image) → map eight image ≡ image → map eight (formatted image p) ≡ formatted image p
unfolding formatted
formatted_normal p image normal = puts_normal (format_puts p) image normal

-- a dropped line stays dropped
stays_dropped : (puts : List Put) (cache : Cache) (line : ℕ) → cell_at cache line ≡ Absent → cell_at (drop_lines puts cache) line ≡ Absent
stays_dropped [] cache line is = is
stays_dropped (put ∷ more) cache line is =
    stays_dropped more (drop_line cache put) line
    (elim (cases_eq line put.0) [
      | inl same ↦ ap (cell_at (drop_line cache put)) same ∙ cell_at-with_cell_same put.0 Absent cache
      | inr other ↦ cell_at-with_cell_other put.0 Absent cache line other ∙ is
    ])

-- the last puts
abbrev from_magic : List Put
from_magic = (0, magic_line) ∷ []

abbrev from_rest : Params → List Put
from_rest p = (2, slice_range (super_words p) 8 16) ∷ from_magic

abbrev from_prefix : Params → List Put
from_prefix p = (1, slice_range (super_words p) 0 8) ∷ from_rest p

abbrev from_header : Params → List Put
from_header p = (log_line, log_words p) ∷ from_prefix p

abbrev from_gate : Params → List Put
from_gate p = (gate_line, zero_line) ∷ from_header p

-- the maker has no copy of the lines of superblock, header and gate
pub gate_dropped : (p : Params) (cache : Cache) → cell_at (drop_lines (format_puts p) cache) gate_line ≡ Absent
gate_dropped p cache = stays_dropped (from_header p) (with_cell gate_line Absent (with_cell 0 Absent cache)) gate_line (cell_at-with_cell_same gate_line Absent (with_cell 0 Absent cache))

pub header_dropped : (p : Params) (cache : Cache) → cell_at (drop_lines (format_puts p) cache) log_line ≡ Absent
header_dropped p cache =
    let before : Cache = with_cell gate_line Absent (with_cell 0 Absent cache) in
    stays_dropped (from_prefix p) (with_cell log_line Absent before) log_line (cell_at-with_cell_same log_line Absent before)

pub prefix_dropped : (p : Params) (cache : Cache) → cell_at (drop_lines (format_puts p) cache) 1 ≡ Absent
prefix_dropped p cache =
    let before : Cache = with_cell log_line Absent (with_cell gate_line Absent (with_cell 0 Absent cache)) in
    stays_dropped (from_rest p) (with_cell 1 Absent before) 1 (cell_at-with_cell_same 1 Absent before)

pub rest_dropped : (p : Params) (cache : Cache) → cell_at (drop_lines (format_puts p) cache) 2 ≡ Absent
rest_dropped p cache =
    let before : Cache = with_cell 1 Absent (with_cell log_line Absent (with_cell gate_line Absent (with_cell 0 Absent cache))) in
    stays_dropped from_magic (with_cell 2 Absent before) 2 (cell_at-with_cell_same 2 Absent before)

pub magic_dropped : (p : Params) (cache : Cache) → cell_at (drop_lines (format_puts p) cache) 0 ≡ Absent
magic_dropped p cache = stays_dropped (from_gate p) (with_cell 0 Absent cache) 0 (cell_at-with_cell_same 0 Absent cache)

-- Caches that have nothing to send.

whole_clean : (m : Machine) → IsClean m.cache → HasEightWords m
whole_clean m clean line = eight_whole (current (line_at m.image line) (cell_at m.cache line)) (clean_wide (line_at m.image line) (cell_at m.cache line) refl (clean line))

-- a line is read: memory stays, and the copy isn't stale
clean_loaded : (line : ℕ) (image : Image) (cache : Cache) → map eight image ≡ image → IsClean cache
    → operated_all (load_ops line 8) (machine image cache) ≡ machine image (with_cell line (Clean (line_at image line)) cache)
clean_loaded line image cache normal clean =
    let same : (operated (Invalidate (line_no line)) (machine image cache)).image ≡ image =
    ap (λ (ws : List ℕ). with_line line ws image) (clean_sent (line_at image line) (cell_at cache line) (clean line)) ∙ with_line-line_at image normal line in
    line_loaded line (machine image cache) ∙ ap (λ (i : Image). machine i (with_cell line (Clean (line_at i line)) cache)) same

module _ (image : Image) (cache : Cache) (normal : map eight image ≡ image) (clean : IsClean cache) where
  -- the copies of lines 0, 1 and 2 are memory's
  with_read : ℕ → Cache → Cache
  with_read line old = with_cell line (Clean (line_at image line)) old

  clean_read : (line : ℕ) (old : Cache) → IsClean old → IsClean (with_read line old)
  unfolding with_read
  clean_read line old was = clean_with line (Clean (line_at image line)) old was refl

  all_read : operated_all read_ops (machine image cache) ≡ machine image (with_read 2 (with_read 1 (with_read 0 cache)))
  unfolding with_read
  all_read =
      let c1 = with_cell 0 (Clean (line_at image 0)) cache in
      let c2 = with_cell 1 (Clean (line_at image 1)) c1 in
      let a1 : IsClean c1 = clean_read 0 cache clean in
      let a2 : IsClean c2 = clean_read 1 c1 a1 in
      read_in_turn (machine image cache)
      ∙ ap (λ (m : Machine). operated_all (load_ops 2 8) (operated_all (load_ops 1 8) m)) (clean_loaded 0 image cache normal clean)
      ∙ ap (operated_all (load_ops 2 8)) (clean_loaded 1 image c1 normal a1)
      ∙ clean_loaded 2 image c2 normal a2

  -- the reading leaves memory
  pub read_image : (operated_all read_ops (machine image cache)).image ≡ image
  read_image = ap (λ (m : Machine). m.image) all_read

  pub read_sent : IsClean (operated_all read_ops (machine image cache)).cache
  read_sent = subst (λ (m : Machine). IsClean m.cache) (sym all_read) (clean_read 2 _ (clean_read 1 _ (clean_read 0 cache clean)))

  -- all operations leave a new file system
  pub clean_formats : (p : Params) → (operated_all (mkfs_ops p) (machine image cache)).image ≡ formatted image p
  clean_formats p =
      ap (λ (m : Machine). m.image) (all_left p (machine image cache) (whole_clean (machine image cache) clean))
      ∙ ap (λ (i : Image). formatted i p) read_image

  -- and nothing to be sent
  pub all_sent : (p : Params) → IsClean (operated_all (mkfs_ops p) (machine image cache)).cache
  all_sent p =
      subst (λ (m : Machine). IsClean m.cache) (sym (all_left p (machine image cache) (whole_clean (machine image cache) clean)))
      (sent_lines (format_puts p) (operated_all read_ops (machine image cache)).cache read_sent)
    where
      sent_lines : (puts : List Put) (old : Cache) → IsClean old → IsClean (drop_lines puts old)
      sent_lines [] old was = was
      sent_lines (put ∷ more) old was = sent_lines more (drop_line old put) (clean_with put.0 Absent old was tt)

-- How many they are.

pub count_read : length read_ops ≡ 27
unfolding read_ops
count_read = refl

pub count_all : (p : Params) → length (mkfs_ops p) ≡ 81
unfolding read_ops write_ops put_ops
count_all p = refl

-- What is refused before them.

-- where nothing is, the numbers are good
pub early_free : (unit log have : ℕ) → early_refusal unit log have ≡ None → (is_geometry unit log ≡ true) × (need log unit ≤ have)
early_free unit log have none = go (is_geometry unit log) (nat_lt have (need log unit)) refl refl none
  where
    go : (b few : Bool) → is_geometry unit log ≡ b → nat_lt have (need log unit) ≡ few
        → (if b then (if few then Some (TooSmall (need log unit) have) else None) else Some (BadGeometry unit log)) ≡ None
        → (is_geometry unit log ≡ true) × (need log unit ≤ have)
    go true true is lt none = absurd cc
    go true false is lt none = (is, grind (arith, nat_tests))
    go false few is lt none = absurd cc

-- Nothing becomes dirty.

with_undirty : (line : ℕ) (c : Cell) (cache : Cache) (l : ℕ) → (IsDirty c → ⊥) → IsDirty (cell_at (with_cell line c cache) l) → IsDirty (cell_at cache l)
with_undirty line c cache l never dirty =
    elim (cases_eq l line) [
      | inl same ↦ absurd (never (subst IsDirty (cell_at-with_cell_same line c cache) (subst (λ (k : ℕ). IsDirty (cell_at (with_cell line c cache) k)) same dirty)))
      | inr other ↦ subst IsDirty (cell_at-with_cell_other line c cache l other) dirty
    ]

pub loaded_dirty : (line : ℕ) (m : Machine) (l : ℕ) → IsDirty (cell_at (operated_all (load_ops line 8) m).cache l) → IsDirty (cell_at m.cache l)
loaded_dirty line m l dirty = with_undirty line (Clean _) m.cache l (λ is. false≢true is) (subst (λ (z : Machine). IsDirty (cell_at z.cache l)) (line_loaded line m) dirty)

read_dirty : (m : Machine) (l : ℕ) → IsDirty (cell_at (operated_all read_ops m).cache l) → IsDirty (cell_at m.cache l)
read_dirty m l dirty =
    loaded_dirty 0 m l (loaded_dirty 1 (operated_all (load_ops 0 8) m) l
    (loaded_dirty 2 (operated_all (load_ops 1 8) (operated_all (load_ops 0 8) m)) l (subst (λ (z : Machine). IsDirty (cell_at z.cache l)) (read_in_turn m) dirty)))

dropped_dirty : (puts : List Put) (cache : Cache) (l : ℕ) → IsDirty (cell_at (drop_lines puts cache) l) → IsDirty (cell_at cache l)
dropped_dirty [] cache l dirty = dirty
dropped_dirty (put ∷ puts) cache l dirty = with_undirty put.0 Absent cache l (λ is. false≢true is) (dropped_dirty puts (drop_line cache put) l dirty)

-- by the operations of making a file system
pub made_dirty : (p : Params) (m : Machine) (l : ℕ) → IsDirty (cell_at (drop_lines (format_puts p) (operated_all read_ops m).cache) l) → IsDirty (cell_at m.cache l)
made_dirty p m l dirty = read_dirty m l (dropped_dirty (format_puts p) (operated_all read_ops m).cache l dirty)
