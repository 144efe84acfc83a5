-- The last slot of a logplay adds an entry, behind which all are found; or, where the tree finds no memory, it is to be read again.
use Rattle.std.proofs.Common.{ℕ, ◌≡◌, ◌+◌, ◌<◌, ◌≤◌, List, [], ◌∷◌, length, length-append, take, Option, sym, ap, ◌∙◌, arith}
use Rattle.std.proofs.lemmas.List.{take_at}
use Rattle.fam_base.specs.declared.entry.Params.{Params}
use Rattle.fam_replay.specs.Replay.{entries_in, HasFoundAll, IsReplayOf}
use Rattle.fam_replay.specs.Replica.{FindsNext, JoinsNext, ReplicaState}
use Rattle.fam_replay.proofs.Replicas.{all_found}

module _ (p : Params) (gate : ℕ) (words : List ℕ) (old new : Option ReplicaState) (fits : IsReplayOf p gate new) (found : FindsNext p words (entries_in old) (entries_in new)) where
  pub one_more : length (entries_in new) ≡ length (entries_in old) + 1
  one_more = ap length found.added ∙ length-append (entries_in old) (found.entry ∷ [])

  pub found_all : length (entries_in old) < gate → gate ≤ length (entries_in old) + 1 → HasFoundAll new
  found_all left last = all_found p gate new fits (omega (arith, one_more, left, last))

  pub joins_next : JoinsNext p words (entries_in old)
  joins_next = record { entry = found.entry; read = found.read; joins = found.joins }

  pub read_again : (n : ℕ) → n ≡ length (entries_in old) → take n (entries_in new) ≡ entries_in old
  read_again n is = ap (take n) found.added ∙ take_at (entries_in old) (found.entry ∷ []) n (sym is)
