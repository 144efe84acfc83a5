-- A sink in memory, and what a put makes of it.
use Rattle.std.specs.Prelude.{ℕ, ◌+◌, ◌++◌, nat_lt, if◌then◌else◌, List, [], length, take, Option, Some, None, is_some}
use Rattle.fam_media.specs.Plans.{one_more, planned, count_if}

-- the bytes put, the most there may be, how many puts were made, which ones are to fail and keep how many
-- bytes of their piece, and the count of faults
pub record MemSinkState : Type 0 where
  pub bytes : List ℕ
  pub room : ℕ
  pub calls : ℕ
  pub plan : List (ℕ × ℕ)
  pub faults : ℕ

-- nothing was put and no put is to fail
abbrev pub empty_sink : ℕ → MemSinkState
empty_sink room = record { bytes = []; room = room; calls = 0; plan = []; faults = 0 }

-- how many bytes the next put keeps of a piece of that size where it fails, and None where it doesn't fail:
-- none of a piece that passes the room, and else as was planned
abbrev pub next_kept : ℕ → MemSinkState → Option ℕ
next_kept size s = if nat_lt s.room (length s.bytes + size) then Some 0 else planned s.plan s.calls

-- what a put keeps of its piece
abbrev pub kept_of : Option ℕ → List ℕ → List ℕ
kept_of None piece = piece
kept_of (Some kept) piece = take kept piece

-- the counts after a put of a piece of that size
abbrev pub after_count : ℕ → MemSinkState → MemSinkState
after_count size s = record s { calls = one_more s.calls; faults = count_if (is_some (next_kept size s)) s.faults }

-- after a put
abbrev pub after_put : List ℕ → MemSinkState → MemSinkState
after_put piece s =
    record (after_count (length piece) s) { bytes = s.bytes ++ kept_of (next_kept (length piece) s) piece }
