use Rattle.std.proofs.Common.{◌≤◌, length}
use Rattle.fam_files.proofs.file_media.write_bytes.Given as goal

-- so many bytes were written
abbrev pub invariant-loop : goal.invariant-loop
invariant-loop l = l.done ≤ length l.bytes
