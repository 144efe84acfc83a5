-- What a media fault leaves: at most one line of memory changed, by words that the host's copy of it sent.
use Rattle.std.specs.Prelude.{ℕ, ◌≡◌, ◌<◌, List, length}
use Rattle.fam_base.specs.Image.{Image, line_at, with_line}
use Rattle.fam_machine.specs.Caches.{Cache, cell_at}
use Rattle.fam_machine.specs.Moves.{Transfers}

-- the image left is the one before with other words of this line, to which memory may come while the copy stays
pub record TearsLineAt (line : ℕ) (image left : Image) (cache : Cache) : Type 0 where
  pub within : line < length image
  pub words : List ℕ
  pub wide : length words ≡ 8
  pub transfers : Transfers (line_at image line) (cell_at cache line) words (cell_at cache line)
  pub is : left ≡ with_line line words image

-- of some line
abbrev pub TearsLine : Image → Image → Cache → Type 0
TearsLine image left cache = (line : ℕ) × TearsLineAt line image left cache
