-- What a reply settles is nothing, what so many entries show, or an entry that is acknowledged. So what holds of these
-- three holds of every reply.
use Rattle.std.proofs.Common.{ℕ, Option, Some, None}
use Rattle.fam_rules.specs.Reply.{Reply, Appended, Played, Mounted, Same, Differs, Length, Bytes, NotFound, IsDirectory, Checks, Reports}
use Rattle.fam_journal.specs.Past.{State, acknowledges, replied, reported_count, shows, shows_count}

module _ (P : (State → State) → Type 0) (nothing : P (λ s. s)) (shown : (m : ℕ) → P (shows m)) (acknowledged : (seq : ℕ) → P (acknowledges seq)) where
  counted_by : (m : Option ℕ) → P (shows_count m)
  counted_by None = nothing
  counted_by (Some m) = shown m

  pub replied_by : (given : Reply) → P (replied given)
  replied_by (Appended seq) = acknowledged seq
  replied_by (Played m tree) = shown m
  replied_by (Mounted m) = shown m
  replied_by (Same m) = shown m
  replied_by (Differs m offset found wanted) = shown m
  replied_by (Length m size wanted) = shown m
  replied_by (Bytes m bytes) = shown m
  replied_by (NotFound m) = shown m
  replied_by (IsDirectory m) = shown m
  replied_by (Checks m checked) = shown m
  replied_by (Reports report) = counted_by (reported_count report.log)
  replied_by e = nothing
