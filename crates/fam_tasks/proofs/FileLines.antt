-- Which lines of a file are read.
use Rattle.std.proofs.Common.{◌≡◌, ℕ, ◌+◌, ◌-◌, ◌*◌, ◌/◌, ◌<◌, ◌≤◌, Bool, true, false, cond, [], length, Option, Some, None, refl, sym, ap, subst, arith}
use Rattle.std.specs.Prelude.{nat_le, min}
use Rattle.std.proofs.lemmas.Bool.{leb-true}
use Rattle.std.proofs.lemmas.Grind.{div_ceil_times}
use Rattle.fam_base.specs.declared.cmd.Cmd.{Cmd}
use Rattle.fam_base.specs.declared.cmd.Cmd.TheVariants.{Logplay, Verify, Read}
use Rattle.fam_base.specs.declared.entry.Entry.{Entry}
use Rattle.fam_base.specs.declared.entry.Params.{Params}
use Rattle.fam_base.specs.Commands.{IsSoundCmd}
use Rattle.fam_format.specs.Slot.{Proper}
use Rattle.fam_rules.specs.Content.{byte_in, content_byte}
use Rattle.fam_rules.specs.Reply.{Bytes, Differs, Same}
use Rattle.fam_rules.specs.Written.{lines_of}
use Rattle.fam_commands.specs.declared.phase.Part.TheVariants.{File}
use Rattle.fam_commands.specs.Task.{Task, first_line, size_of, wanted_end, wanted_lines, wanted_start}
use Rattle.fam_commands.specs.Turns.{Ends, compare_turn, file_turn, line_difference, line_or, loaded_bytes}
use Rattle.fam_commands.specs.Classes.{IsRead, IsVerify, LooksAtFile}
use Rattle.fam_tasks.specs.declared.task.Task.TheInside.{Inside}
use Rattle.fam_tasks.specs.Commands.{content_used, kept_of_file}
use Rattle.fam_tasks.specs.Invariant.{HoldsFile}
use Rattle.fam_tasks.specs.Sound.{HasValidGate, IsAtLine, IsProperFor}

-- the wanted bytes end where the file ends, or before
pub end_within : (cmd : Cmd) (size : ℕ) → wanted_end cmd size ≤ size
end_within Logplay size = omega arith
end_within other size = omega arith

-- a line below the count of those that hold wanted bytes, by where these begin and end
line_below : (start end j : ℕ) (b : Bool) → j < cond b 0 (lines_of end - start / 64) → 64 * (start / 64 + j) < end
line_below start end j true below = absurd (omega arith)
line_below start end j false below = omega (arith, (div_ceil_times end 64 (omega arith)).1)

-- it begins below the size
pub wanted_below : (cmd : Cmd) (size j : ℕ) → j < wanted_lines cmd size → 64 * (first_line cmd + j) < size
wanted_below cmd size j below =
    omega (arith, line_below (wanted_start cmd) (wanted_end cmd size) j (nat_le (wanted_end cmd size) (wanted_start cmd)) below, end_within cmd size)

-- there is one, where a byte is wanted
some_line : (start end : ℕ) (b : Bool) → start < end → b ≡ nat_le end start → 0 < cond b 0 (lines_of end - start / 64)
some_line start end true some is = absurd (omega (arith, leb-true end start (sym is)))
some_line start end false some is = omega (arith, (div_ceil_times end 64 (omega arith)).0)

pub some_wanted : (cmd : Cmd) (size : ℕ) → wanted_start cmd < wanted_end cmd size → 0 < wanted_lines cmd size
some_wanted cmd size some = some_line (wanted_start cmd) (wanted_end cmd size) (nat_le (wanted_end cmd size) (wanted_start cmd)) some refl

-- 4,096 bytes lie in at most 65 lines
few_lines : (offset count size j : ℕ) (b : Bool) → count ≤ 4096 → j < cond b 0 (lines_of (min size (offset + count)) - offset / 64) → j ≤ 64
few_lines offset count size j true limit below = absurd (omega arith)
few_lines offset count size j false limit below = omega (arith, (div_ceil_times (min size (offset + count)) 64 (omega arith)).1)

-- so there is room for their words
few_kept : (cmd : Cmd) (size j : ℕ) → IsSoundCmd cmd → j < wanted_lines cmd size → kept_of_file cmd j + 8 ≤ 520
few_kept (Read path offset count) size j sound below =
    omega (arith, few_lines offset count size j (nat_le (min size (offset + count)) offset) sound below)
few_kept other size j sound below = omega arith

-- a line that is read next
pub wanted_line : (t : Task) (j : ℕ) → IsSoundCmd t.cmd → HasValidGate t → LooksAtFile t.cmd → IsProperFor t t.entry → j < wanted_lines t.cmd (size_of t.entry) → IsAtLine File j t
wanted_line t j sound gate looks proper below = record {
  line = record {
    found = gate;
    looks = looks;
    file = record { proper = proper; below = wanted_below t.cmd (size_of t.entry) j below };
    wanted = below;
  };
  few = few_kept t.cmd (size_of t.entry) j sound below;
}

-- Commands that compare or read.

pub verify_looks : (cmd : Cmd) → IsVerify cmd → LooksAtFile cmd
verify_looks (Verify path against) is = tt
verify_looks other is = absurd is

pub read_looks : (cmd : Cmd) → IsRead cmd → LooksAtFile cmd
read_looks (Read path offset count) is = tt
read_looks other is = absurd is

-- a file with bytes has a line that is compared
pub verify_some : (cmd : Cmd) (size : ℕ) → IsVerify cmd → 0 < size → 0 < wanted_lines cmd size
verify_some (Verify path against) size is some = some_wanted (Verify path against) size some
verify_some other size is some = absurd is

-- no word is kept before the first line
pub none_kept : (cmd : Cmd) → kept_of_file cmd 0 ≡ 0
none_kept Logplay = refl
none_kept other = refl

-- nor before a line that is compared
pub verify_kept : (cmd : Cmd) (j : ℕ) → IsVerify cmd → kept_of_file cmd j ≡ 0
verify_kept (Read path offset count) j is = absurd is
verify_kept other j is = refl

pub read_kept : (cmd : Cmd) (j : ℕ) → IsRead cmd → kept_of_file cmd j ≡ 8 * j
read_kept (Read path offset count) j is = refl
read_kept other j is = absurd is

-- a command that compares wants a file from its first line on
pub verify_first : (cmd : Cmd) → IsVerify cmd → first_line cmd ≡ 0
verify_first (Verify path against) is = refl
verify_first other is = absurd is

pub verify_below : (cmd : Cmd) (j taken size have : ℕ) → IsVerify cmd → 64 * (first_line cmd + j) < size → taken ≡ j → have ≡ size → 64 * taken < have
verify_below cmd j taken size have is below same sized = omega (arith, verify_first cmd is)

-- what is held for a comparison
pub verify_held : (cmd : Cmd) (t : Inside) (j : ℕ) → IsVerify cmd → t.contents.content ≡ content_used cmd → t.contents.taken ≡ j → HoldsFile cmd j t
verify_held (Verify path against) t j is content taken = (content, taken)
verify_held other t j is content taken = absurd is

pub verify_holds : (cmd : Cmd) (t : Inside) (j : ℕ) → IsVerify cmd → HoldsFile cmd j t → (t.contents.content ≡ content_used cmd) × (t.contents.taken ≡ j)
verify_holds (Verify path against) t j is holds = holds
verify_holds other t j is holds = absurd is

-- and for a read
pub read_held : (cmd : Cmd) (t : Inside) (j : ℕ) → IsRead cmd → length t.room.items ≡ wanted_end cmd (size_of t.entry) - wanted_start cmd → HoldsFile cmd j t
read_held (Read path offset count) t j is room = room
read_held other t j is room = absurd is

pub read_holds : (cmd : Cmd) (t : Inside) (j : ℕ) → IsRead cmd → HoldsFile cmd j t → length t.room.items ≡ wanted_end cmd (size_of t.entry) - wanted_start cmd
read_holds (Read path offset count) t j is holds = holds
read_holds other t j is holds = absurd is

-- the entry is proper on the same file system
pub same_proper : (e : Option Entry) (t u : Task) → u.params ≡ t.params → IsProperFor t e → IsProperFor u e
same_proper None t u params proper = proper
same_proper (Some e) t u params proper = subst (λ (p : Params). Proper p e) (sym params) proper

-- Turns.

pub same_turn : (cmd : Cmd) (t : Task) (j : ℕ) → IsVerify cmd → line_difference t (content_used cmd) j ≡ None
    → file_turn cmd t j ≡ line_or (record t { words = [] }) File j (Ends (Same (length t.entries)))
same_turn (Verify path against) t j is none = ap (compare_turn t against j) none
same_turn other t j is none = absurd is

pub differs_turn : (cmd : Cmd) (t : Task) (j b : ℕ) → IsVerify cmd → line_difference t (content_used cmd) j ≡ Some b
    → file_turn cmd t j ≡ Ends (Differs (length t.entries) (64 * j + b) (byte_in t.words b) (content_byte (content_used cmd) (64 * j + b)))
differs_turn (Verify path against) t j b is some = ap (compare_turn t against j) some
differs_turn other t j b is some = absurd is

pub read_turn : (cmd : Cmd) (t : Task) (j : ℕ) → IsRead cmd → file_turn cmd t j ≡ line_or t File j (Ends (Bytes (length t.entries) (loaded_bytes t (wanted_start cmd))))
read_turn (Read path offset count) t j is = refl
read_turn other t j is = absurd is
