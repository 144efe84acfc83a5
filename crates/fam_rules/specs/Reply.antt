-- What a command answers, whoever runs it.
use Rattle.std.specs.Prelude.{ℕ, List}
use Rattle.fam_format.specs.declared.faults.SuperFault.{SuperFault}
use Rattle.fam_format.specs.declared.faults.LogFault.{LogFault}
use Rattle.fam_format.specs.declared.faults.Reason.{Reason}
use Rattle.fam_format.specs.Tree.{Tree}
use Rattle.fam_rules.specs.declared.answers.Refused.{Refused}
use Rattle.fam_rules.specs.declared.answers.Report.{Report}
use Rattle.fam_rules.specs.declared.answers.Checked.{Checked}

-- `m` is the number of entries that were read
pub data Reply : Type 0 where
  -- the entry of this number is appended
  Appended : (seq : ℕ) → Reply
  -- nothing is appended, for this cause
  NotAppended : (refused : Refused) → Reply
  -- the tree of the log
  Played : (m : ℕ) (tree : Tree) → Reply
  -- the log is replayed, and its host keeps what was read
  Mounted : (m : ℕ) → Reply
  -- the file has the bytes of the content
  Same : (m : ℕ) → Reply
  -- at the first offset that differs the file has the byte found
  Differs : (m offset found wanted : ℕ) → Reply
  -- the content has another count of bytes than the file
  Length : (m size wanted : ℕ) → Reply
  -- bytes of a file
  Bytes : (m : ℕ) (bytes : List ℕ) → Reply
  -- nothing stands at the path
  NotFound : (m : ℕ) → Reply
  -- a directory has no bytes
  IsDirectory : (m : ℕ) → Reply
  -- how the tree differs from a listing
  Checks : (m : ℕ) (checked : Checked) → Reply
  -- what a check of the file system finds
  Reports : (report : Report) → Reply
  -- superblock, header or gate, or a slot is damaged
  NoSuperblock : (fault : SuperFault) → Reply
  BadHeader : (fault : LogFault) → Reply
  BadSlot : (seq : ℕ) (reason : Reason) → Reply
