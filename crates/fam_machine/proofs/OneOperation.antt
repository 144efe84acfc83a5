-- One operation on one host's machine: the word that it gives, and what it leaves of the image's form and of other lines.
use Rattle.std.proofs.Common.{ℕ, ◌≡◌, ◌≢◌, length, map, refl, ◌∙◌}
use Rattle.std.specs.Prelude.{⊤, unwrap_or}
use Rattle.fam_base.specs.Image.{eight, line_at}
use Rattle.fam_base.proofs.ImageLemmas.{length-with_line, line_at-with_line_other, normal-with_line}
use Rattle.fam_machine.specs.declared.cell.Cell.TheVariants.{Absent}
use Rattle.fam_machine.specs.declared.op.Op.{Op}
use Rattle.fam_machine.specs.declared.op.Op.TheVariants.{Load, Store, WriteBack, Fence, Invalidate, Digest}
use Rattle.fam_machine.specs.Caches.{asked_lines, cell_at}
use Rattle.fam_machine.specs.OneLine.{asked_for, brought, sent, stored}
use Rattle.fam_machine.specs.Operations.{Machine, given, operated, given_by}
use Rattle.fam_machine.proofs.FenceLemmas.{send_lines_length, send_lines_normal}
use Rattle.fam_machine.proofs.CacheLemmas.{cell_at-with_cell_other}

-- the word that a machine gives, or any where it gives none, is the word of the operation
pub same_given : (op : Op) (m : Machine) → given_by op (unwrap_or (given op m) 0) ≡ given op m
same_given (Load line k) m = refl
same_given other m = refl

-- The form of the image.

pub operated_length : (op : Op) (m : Machine) → length (operated op m).image ≡ length m.image
operated_length Fence m = send_lines_length (asked_lines m.cache) m
operated_length (Invalidate l) m = length-with_line m.image l.0 (sent (line_at m.image l.0) (cell_at m.cache l.0))
operated_length other m = refl

pub operated_normal : (op : Op) (m : Machine) → map eight m.image ≡ m.image → map eight (operated op m).image ≡ (operated op m).image
operated_normal Fence m normal = send_lines_normal (asked_lines m.cache) m normal
operated_normal (Invalidate l) m normal = normal-with_line m.image normal l.0 (sent (line_at m.image l.0) (cell_at m.cache l.0))
operated_normal other m normal = normal

-- Lines.

-- the operation is at no other line
abbrev pub IsAt : Op → ℕ → Type 0
IsAt (Load l k) line = l.0 ≡ line
IsAt (Store l k value) line = l.0 ≡ line
IsAt (WriteBack l) line = l.0 ≡ line
IsAt (Invalidate l) line = l.0 ≡ line
IsAt Fence line = ⊥
IsAt Digest line = ⊤

-- other lines of memory and of the cache are as before
pub memory_away : (op : Op) (m : Machine) (line l : ℕ) → IsAt op line → l ≢ line → line_at (operated op m).image l ≡ line_at m.image l
memory_away Fence m line l at other = absurd at
memory_away (Invalidate a) m line l at other = line_at-with_line_other m.image a.0 (sent (line_at m.image a.0) (cell_at m.cache a.0)) l (λ e. other (e ∙ at))
memory_away rest m line l at other = refl

pub cache_away : (op : Op) (m : Machine) (line l : ℕ) → IsAt op line → l ≢ line → cell_at (operated op m).cache l ≡ cell_at m.cache l
cache_away (Load a k) m line l at other = cell_at-with_cell_other a.0 (brought (line_at m.image a.0) (cell_at m.cache a.0)) m.cache l (λ e. other (e ∙ at))
cache_away (Store a k value) m line l at other = cell_at-with_cell_other a.0 (stored k value (line_at m.image a.0) (cell_at m.cache a.0)) m.cache l (λ e. other (e ∙ at))
cache_away Fence m line l at other = absurd at
cache_away (WriteBack a) m line l at other = cell_at-with_cell_other a.0 (asked_for (cell_at m.cache a.0)) m.cache l (λ e. other (e ∙ at))
cache_away (Invalidate a) m line l at other = cell_at-with_cell_other a.0 Absent m.cache l (λ e. other (e ∙ at))
cache_away Digest m line l at other = refl
