-- A line of memory: the unit in which it is cached, written back and invalidated.
use Rattle.std.specs.Prelude.{ℕ}

-- the bytes of a line
abbrev pub line_bytes : ℕ
line_bytes = 64

-- the words of a line, of eight bytes each
abbrev pub line_words : ℕ
line_words = 8

-- the last word of a line, counted from 0
abbrev pub last_word : ℕ
last_word = 7
