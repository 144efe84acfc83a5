-- A refusal is told by the world that stands for the state.
use Prim.Native.Nat.{suc}
use Rattle.std.proofs.Common.{◌≡◌, ℕ, List, [], ◌∷◌, length, map, Option, Some, None, refl, ap, ap₂, sym}
use Rattle.std.specs.Prelude.{slice_get, is_some}
use Rattle.std.proofs.lemmas.List.{length-replicate}
use Rattle.fam_machine.specs.Caches.{dirty_count}
use Rattle.fam_commands.specs.Task.{Task}
use Rattle.fam_journal.specs.Calls.{Call, number_of, refusal_of}
use Rattle.fam_journal.specs.View.{HostStands, HostView, HostStandsAt, TaskStands, WorldStands, WorldView}
use Rattle.fam_journal.specs.ByWorld.{refusal_in, shown_host, shown_state, shown_task}
use Rattle.fam_journal.specs.Machines.{HostState, Machines, TaskState}
use Rattle.fam_journal.proofs.Faces.{dirt, face, number_same, refusal_same}

-- what stands for the state shows the same
task_shown : (lines : ℕ) (s : Option TaskState) (t : Option Task) → TaskStands lines s t → is_some s ≡ is_some (shown_task t)
task_shown lines None None stands = refl
task_shown lines None (Some t) stands = absurd stands
task_shown lines (Some s) None stands = absurd stands
task_shown lines (Some s) (Some t) stands = refl

module _ (lines : ℕ) where
  face_shown : (s : HostState) (v : HostView) → HostStands lines s v → face s ≡ face (shown_host v)
  face_shown s v is = let busy = task_shown lines s.task v.task is.task in cc

  dirt_shown : (s : HostState) (v : HostView) → HostStands lines s v → dirt s ≡ dirt (shown_host v)
  dirt_shown s v is = ap dirty_count is.cache

  all_shown : {A : Type 0} (look : HostState → A) → ((s : HostState) (v : HostView) → HostStands lines s v → look s ≡ look (shown_host v))
      → (states : List HostState) (views : List HostView) → ((k : ℕ) → HostStandsAt lines (slice_get states k) (slice_get views k)) → map look states ≡ map look (map shown_host views)
  all_shown look each [] [] stands = refl
  all_shown look each [] (v ∷ views) stands = absurd (stands 0)
  all_shown look each (s ∷ states) [] stands = absurd (stands 0)
  all_shown look each (s ∷ states) (v ∷ views) stands = ap₂ (λ x xs. x ∷ xs) (each s v (stands 0)) (all_shown look each states views (λ k. stands (suc k)))

  pub refusal_shown : (state : Machines) (world : WorldView) (c : Call) → WorldStands lines state world → refusal_of c state ≡ refusal_in c world (length state.memory)
  refusal_shown state world c stands =
      refusal_same state (shown_state world (length state.memory)) (all_shown face face_shown state.hosts world.hosts stands)
      (sym (length-replicate (length state.memory) [])) (all_shown dirt dirt_shown state.hosts world.hosts stands) c

  pub number_shown : (state : Machines) (world : WorldView) (name : List ℕ) → WorldStands lines state world → number_of name state ≡ number_of name (shown_state world 0)
  number_shown state world name stands = number_same state (shown_state world 0) (all_shown face face_shown state.hosts world.hosts stands) name
