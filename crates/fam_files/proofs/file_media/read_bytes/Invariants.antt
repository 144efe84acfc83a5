use Rattle.std.proofs.Common.{◌≡◌, ◌≤◌, length}
use Rattle.fam_files.proofs.file_media.read_bytes.Given as goal

-- so many bytes were read
abbrev pub invariant-loop : goal.invariant-loop
invariant-loop l = record {
  few : l.done ≤ length l.bytes;
  len : length l.bytes ≡ length l.fn.bytes;
}
