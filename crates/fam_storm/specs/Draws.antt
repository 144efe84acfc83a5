-- Random numbers: each is the next word of a generator, modulo its bound.
use Rattle.std.specs.Prelude.{ℕ, ◌%◌, List}
use Rattle.rand_xoshiro.specs.Xoshiro256.{plus_plus}

-- the number that is drawn
abbrev pub drawn : ℕ → List ℕ → ℕ
drawn bound state = (plus_plus state).0 % bound

-- the generator behind it
abbrev pub after : List ℕ → List ℕ
after state = (plus_plus state).1
