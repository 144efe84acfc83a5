-- Machines on which every line has eight words.
use Rattle.std.specs.Prelude.{ℕ, ◌≡◌}
use Rattle.fam_base.specs.Image.{eight, line_at}
use Rattle.fam_machine.specs.Caches.{cell_at}
use Rattle.fam_machine.specs.OneLine.{current}
use Rattle.fam_machine.specs.Operations.{Machine}

-- what the host reads of any line, once it is brought, are eight words
abbrev pub HasEightWords : Machine → Type 0
HasEightWords m = (line : ℕ) → eight (current (line_at m.image line) (cell_at m.cache line)) ≡ current (line_at m.image line) (cell_at m.cache line)
