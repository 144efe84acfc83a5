-- The machine at one line: memory's words, and one host's copy of them.
--
--   Load         an absent line is brought from memory, clean. The word is given                brought, current
--   Store        an absent line is brought. The word is set. The line is dirty                    stored
--   WriteBack    a dirty line becomes asked. Else nothing. Memory isn't touched                   asked_for
--   Fence        each asked line is sent whole to memory and becomes clean                        sent, cleaned
--   Invalidate   a dirty line is sent whole to memory. Then the line is absent                    sent, Absent
--   Evict        the same as Invalidate, but done by the machine                                    sent, Absent
--   Leak         the masked words of a dirty line are sent, and it stays dirty. Else nothing      leaked
--   Fetch        an absent line is brought whole, clean. A clean line has its masked words
--                refreshed from memory. A dirty line stays                                          fetched
--
-- Of a dirty line the copy says whether it is asked: the host has asked for it to be sent since its last store. All that
-- holds of a dirty line holds of an asked one too, but that a Fence sends it.
--
-- Bit w of a mask stands for word w. Where the media fails in an operation, the copy is as before.
use Rattle.std.specs.Prelude.{ℕ, Bool, true, false, List, [], Option, Some, None, IsTrue, slice_set}
use Rattle.fam_base.specs.Image.{masked}
use Rattle.fam_machine.specs.declared.cell.Cell.{Cell}
use Rattle.fam_machine.specs.declared.cell.Cell.TheVariants.{Absent, Clean, Dirty}

-- a copy is there
abbrev pub is_held : Cell → Bool
is_held Absent = false
is_held (Clean words) = true
is_held (Dirty asked words) = true

-- a copy is there that memory may lack
abbrev pub is_dirty : Cell → Bool
is_dirty Absent = false
is_dirty (Clean words) = false
is_dirty (Dirty asked words) = true

-- a copy is there that the next Fence sends
abbrev pub is_asked : Cell → Bool
is_asked Absent = false
is_asked (Clean words) = false
is_asked (Dirty asked words) = asked

-- the host has a copy
abbrev pub IsHeld : Cell → Type 0
IsHeld cell = IsTrue (is_held cell)

-- the host has stored into its copy, and memory may lack the words
abbrev pub IsDirty : Cell → Type 0
IsDirty cell = IsTrue (is_dirty cell)

-- the host has asked for its copy to be sent
abbrev pub IsAsked : Cell → Type 0
IsAsked cell = IsTrue (is_asked cell)

-- the words of a copy, none of an absent line
abbrev pub words_of : Cell → List ℕ
words_of Absent = []
words_of (Clean words) = words
words_of (Dirty asked words) = words

-- the words that the host reads there, once the line is brought
abbrev pub current : List ℕ → Cell → List ℕ
current memory Absent = memory
current memory (Clean words) = words
current memory (Dirty asked words) = words

-- the copy after an absent line was brought
abbrev pub brought : List ℕ → Cell → Cell
brought memory Absent = Clean memory
brought memory (Clean words) = Clean words
brought memory (Dirty asked words) = Dirty asked words

-- the copy after a store of this value into this word
abbrev pub stored : ℕ → ℕ → List ℕ → Cell → Cell
stored word value memory cell = Dirty false (slice_set (current memory cell) word value)

-- the copy after it was asked for a dirty line to be sent
abbrev pub asked_for : Cell → Cell
asked_for Absent = Absent
asked_for (Clean words) = Clean words
asked_for (Dirty asked words) = Dirty true words

-- memory's words after a dirty line was sent whole
abbrev pub sent : List ℕ → Cell → List ℕ
sent memory Absent = memory
sent memory (Clean words) = memory
sent memory (Dirty asked words) = words

-- the copy after a dirty line was sent whole
abbrev pub cleaned : Cell → Cell
cleaned Absent = Absent
cleaned (Clean words) = Clean words
cleaned (Dirty asked words) = Clean words

-- memory's words after the masked words of a dirty line were sent
abbrev pub leaked : ℕ → List ℕ → Cell → List ℕ
leaked mask memory Absent = memory
leaked mask memory (Clean words) = memory
leaked mask memory (Dirty asked words) = masked mask words memory

-- the copy after an early fetch
abbrev pub fetched : ℕ → List ℕ → Cell → Cell
fetched mask memory Absent = Clean memory
fetched mask memory (Clean words) = Clean (masked mask memory words)
fetched mask memory (Dirty asked words) = Dirty asked words

-- Memory's words after a send failed, of which those that `through` masks came through to it. None: nothing
-- is sent, and so nothing fails. The copy is as before. A read that fails changes neither.

-- in a fence, an invalidation or an eviction: each word is old or new
abbrev pub failed_send : ℕ → List ℕ → Cell → Option (List ℕ)
failed_send through memory Absent = None
failed_send through memory (Clean words) = None
failed_send through memory (Dirty asked words) = Some (masked through words memory)

-- in a leak: of the leaked words each is old or new
abbrev pub failed_leak : ℕ → ℕ → List ℕ → Cell → Option (List ℕ)
failed_leak mask through memory Absent = None
failed_leak mask through memory (Clean words) = None
failed_leak mask through memory (Dirty asked words) = Some (masked through (masked mask words memory) memory)
