-- What a call without a media makes of a world is the call's row on the state that the world stands for.
use Prim.Native.Nat.{zero, suc}
use Rattle.std.proofs.Common.{◌≡◌, ℕ, ◌+◌, inl, inr, Bool, true, false, List, [], ◌∷◌, ◌++◌, length, Option, Some, None, refl, ap, sym, ◌∙◌, subst, arith}
use Rattle.std.specs.Prelude.{if◌then◌else◌, slice_get}
use Rattle.std.specs.FinMap as finmap
use Rattle.std.proofs.lemmas.Option.{same_Some}
use Rattle.fam_commands.specs.Stands as standing
use Rattle.fam_commands.specs.Classes.{is_mount}
use Rattle.fam_commands.specs.Kept.{Kept}
use Rattle.fam_commands.specs.Task.{mounted}
use Rattle.fam_journal.specs.declared.refusal.Refusal.{Refusal}
use Rattle.fam_journal.specs.declared.refusal.Refusal.TheVariants as why
use Rattle.fam_journal.specs.Calls as call
use Rattle.fam_journal.specs.Calls.{Acts, ActsAt, ActsOf, AtNumber, ByRefusal, Call, Does, MayBeRefused, OnHost, begins_refusal, has_name, idle_refusal, asked_name, number_of, on_host, refusal_of, umounts_refusal}
use Rattle.fam_journal.specs.View.{HostStands, HostView, HostStandsAt, TaskStands, WorldStands, WorldView}
use Rattle.fam_journal.specs.ByWorld.{IsCallRow, TakesNoMedia, acted, acted_by, number_in, refusal_in, with_host, world_after}
use Rattle.fam_journal.specs.Machines.{HostState, Machines, task_begun, with_kept, with_parts, with_task}
use Rattle.fam_journal.specs.Members.{changed_at, index_from}
use Rattle.fam_journal.specs.Notes.{Halt, Host, Note, Refused, Start, Stop, Umount}
use Rattle.fam_journal.proofs.Calls.Hosts.{stands_changed}
use Rattle.fam_journal.proofs.Calls.Shown.{number_shown, refusal_shown}

-- who has the place of a list
pub record Member {A : Type 0} (test : A → Bool) (xs : List A) (i h : ℕ) : Type 0 where
  pub k : ℕ
  pub x : A
  pub at : h ≡ i + k
  pub is : slice_get xs k ≡ Some x
  pub passes : test x ≡ true

pub place_found : {A : Type 0} (test : A → Bool) (xs : List A) (i h : ℕ) → index_from i test xs ≡ Some h → Member test xs i h
place_found test [] i h is = absurd cc
place_found test (x ∷ xs) i h is = go (place_found test xs (i + 1) h) (test x) refl is
  where
    go : (index_from (i + 1) test xs ≡ Some h → Member test xs (i + 1) h) → (t : Bool) → test x ≡ t → (if t then Some i else index_from (i + 1) test xs) ≡ Some h → Member test (x ∷ xs) i h
    go later true passes e = record { k = 0; x = x; at = let same : i ≡ h = same_Some i h e in omega (arith, same); is = refl; passes = passes }
    go later false passes e =
        let rest = later e in
        record { k = suc rest.k; x = rest.x; at = let same = rest.at in omega (arith, same); is = rest.is; passes = rest.passes }

-- one more host on both sides
pub more_stands : (lines : ℕ) (hs : List HostState) (vs : List HostView) (a : HostState) (b : HostView) → HostStands lines a b → ((k : ℕ) → HostStandsAt lines (slice_get hs k) (slice_get vs k))
    → (k : ℕ) → HostStandsAt lines (slice_get (hs ++ a ∷ []) k) (slice_get (vs ++ b ∷ []) k)
more_stands lines [] [] a b mine all zero = mine
more_stands lines [] [] a b mine all (suc k) = tt
more_stands lines [] (v ∷ vs) a b mine all k = absurd (all 0)
more_stands lines (x ∷ hs) [] a b mine all k = absurd (all 0)
more_stands lines (x ∷ hs) (v ∷ vs) a b mine all zero = all 0
more_stands lines (x ∷ hs) (v ∷ vs) a b mine all (suc k) = more_stands lines hs vs a b mine (λ k. all (suc k)) k

module _ (state : Machines) (world : WorldView) (stands : WorldStands (length state.memory) state world) where
  abbrev lines : ℕ
  lines = length state.memory

  -- the host of a name, in the state and in the world
  record Placed (name : List ℕ) (h : ℕ) : Type 0 where
    number : number_of name state ≡ Some h
    host : HostState
    host_is : slice_get state.hosts h ≡ Some host
    view : HostView
    view_is : slice_get world.hosts h ≡ Some view
    mine : HostStands lines host view

  placed : (name : List ℕ) (h : ℕ) → number_in name world ≡ Some h → Placed name h
  placed name h is = by_view (slice_get world.hosts h) refl
    where
      number : number_of name state ≡ Some h
      number = number_shown lines state world name stands ∙ is

      member : Member (has_name name) state.hosts 0 h
      member = place_found (has_name name) state.hosts 0 h number

      host_is : slice_get state.hosts h ≡ Some member.x
      host_is = subst (λ (n : ℕ). slice_get state.hosts n ≡ Some member.x) (let same = member.at in let e : member.k ≡ h = omega (arith, same) in e) member.is

      both : (o : Option HostView) → slice_get world.hosts h ≡ o → HostStandsAt lines (Some member.x) o
      both o view_is = subst (λ (z : Option HostView). HostStandsAt lines (Some member.x) z) view_is
          (subst (λ (z : Option HostState). HostStandsAt lines z (slice_get world.hosts h)) host_is (stands h))

      by_view : (o : Option HostView) → slice_get world.hosts h ≡ o → Placed name h
      by_view None view_is = absurd (both None view_is)
      by_view (Some view) view_is = record { number = number; host = member.x; host_is = host_is; view = view; view_is = view_is; mine = both (Some view) view_is }

  by_none : (c : Call) (notes : List Note) (left : Machines) → refusal_of c state ≡ None → Acts c state notes left → Does c state notes left
  by_none c notes left free x = subst (λ (o : Option Refusal). ByRefusal (asked_name c) o notes state left (Acts c state notes left)) (sym free) x

  acts_at : (c : Call) (notes : List Note) (left : Machines) (h : ℕ) → (p : Placed (asked_name c) h) → ActsAt c h p.host state notes left → ActsOf c state notes left
  acts_at c notes left h p x =
      subst (λ (o : Option ℕ). AtNumber o state (λ h host. ActsAt c h host state notes left)) (sym p.number)
      (subst (λ (o : Option HostState). OnHost o (λ host. ActsAt c h host state notes left)) (sym p.host_is) x)

  changed : (h : ℕ) (name : List ℕ) (p : Placed name h) (g : HostState → HostState) (f : HostView → HostView) → HostStands lines (g p.host) (f p.view)
      → (k : ℕ) → HostStandsAt lines (slice_get (changed_at h g state.hosts) k) (slice_get (changed_at h f world.hosts) k)
  changed h name p g f mine = stands_changed h p.view world.hosts p.view_is f lines state.hosts p.host p.host_is g mine stands

  acts : (c : Call) → TakesNoMedia c lines world → refusal_of c state ≡ None → IsCallRow c lines state world (acted c lines world)
  unfolding refusal_of
  acts (call.Declares name uuid) takes free = record {
    left = record state { hosts = state.hosts ++ record { name = name; uuid = uuid; cache = finmap.empty; task = None; kept = None } ∷ [] };
    notes = Host name uuid ∷ [];
    row = by_none (call.Declares name uuid) _ _ free (refl, refl);
    memory = refl;
    stands = more_stands lines state.hosts world.hosts _ _ (record { name = refl; uuid = refl; cache = refl; task = tt; kept = refl; joined = tt }) stands;
    joined = refl;
  }
  acts (call.Begins name cmd) takes free = by_number (number_in name world) refl
    where
      by_number : (o : Option ℕ) → number_in name world ≡ o
          → IsCallRow (call.Begins name cmd) lines state world
          (with_host o (λ v. record v { task = Some (mounted v.kept cmd v.uuid lines) }) (λ h. Start h cmd) world)
      by_number None is = absurd (let e : on_host (number_of name state) (λ h. begins_refusal h (is_mount cmd) state) ≡ Some why.NoHost =
          ap (λ (o : Option ℕ). on_host o (λ h. begins_refusal h (is_mount cmd) state)) (number_shown lines state world name stands ∙ is) in cc)
      by_number (Some h) is =
          let p = placed name h is in
          record {
            left = with_task h (Some (task_begun p.host.kept cmd p.host.uuid)) state;
            notes = Start h cmd ∷ [];
            row = by_none (call.Begins name cmd) _ _ free (acts_at (call.Begins name cmd) _ _ h p (refl, refl));
            memory = refl;
            stands = changed h name p (λ z. record z { task = Some (task_begun p.host.kept cmd p.host.uuid) }) (λ v. record v { task = Some (mounted v.kept cmd v.uuid lines) })
                record {
                  name = p.mine.name;
                  uuid = p.mine.uuid;
                  cache = p.mine.cache;
                  task = subst (λ (k : Option Kept). TaskStands lines (Some (task_begun k cmd p.host.uuid)) (Some (mounted p.view.kept cmd p.view.uuid lines))) (sym p.mine.kept)
                      (subst (λ (id : List ℕ). TaskStands lines (Some (task_begun p.view.kept cmd id))
                      (Some (mounted p.view.kept cmd p.view.uuid lines)))
                      (sym p.mine.uuid) record { joined = p.mine.joined; stands = standing.starts });
                  kept = p.mine.kept;
                  joined = p.mine.joined;
                };
            joined = refl;
          }
  acts (call.Stops name) takes free = by_number (number_in name world) refl
    where
      by_number : (o : Option ℕ) → number_in name world ≡ o → IsCallRow (call.Stops name) lines state world (with_host o (λ v. record v { task = None }) Stop world)
      by_number None is = absurd (let e : on_host (number_of name state) (λ h. idle_refusal h state) ≡ Some why.NoHost =
          ap (λ (o : Option ℕ). on_host o (λ h. idle_refusal h state)) (number_shown lines state world name stands ∙ is) in cc)
      by_number (Some h) is =
          let p = placed name h is in
          record {
            left = with_task h None state;
            notes = Stop h ∷ [];
            row = by_none (call.Stops name) _ _ free (acts_at (call.Stops name) _ _ h p (refl, refl));
            memory = refl;
            stands = changed h name p (λ z. record z { task = None })
                (λ v. record v { task = None }) record {
                  name = p.mine.name;
                  uuid = p.mine.uuid;
                  cache = p.mine.cache;
                  task = tt;
                  kept = p.mine.kept;
                  joined = p.mine.joined;
                };
            joined = refl;
          }
  acts (call.Halts name) takes free = by_number (number_in name world) refl
    where
      by_number : (o : Option ℕ) → number_in name world ≡ o → IsCallRow (call.Halts name) lines state world (with_host o (λ v. record v { cache = finmap.empty; task = None; kept = None }) Halt world)
      by_number None is = absurd (let e : on_host (number_of name state) (λ h. None) ≡ Some why.NoHost = ap (λ (o : Option ℕ). on_host o (λ h. None))
          (number_shown lines state world name stands ∙ is) in cc)
      by_number (Some h) is =
          let p = placed name h is in
          record {
            left = with_parts h (record { image = state.memory; cache = finmap.empty }) None None state;
            notes = Halt h ∷ [];
            row = by_none (call.Halts name) _ _ free (acts_at (call.Halts name) _ _ h p (refl, refl));
            memory = refl;
            stands = changed h name p (λ z. record z { cache = finmap.empty; task = None; kept = None })
                (λ v. record v { cache = finmap.empty; task = None; kept = None }) record {
                  name = p.mine.name;
                  uuid = p.mine.uuid;
                  cache = refl;
                  task = tt;
                  kept = refl;
                  joined = tt;
                };
            joined = refl;
          }
  acts (call.Umounts name) takes free = by_number (number_in name world) refl
    where
      by_number : (o : Option ℕ) → number_in name world ≡ o → IsCallRow (call.Umounts name) lines state world (with_host o (λ v. record v { kept = None }) Umount world)
      by_number None is = absurd (let e : on_host (number_of name state) (λ h. umounts_refusal h state) ≡ Some why.NoHost =
          ap (λ (o : Option ℕ). on_host o (λ h. umounts_refusal h state)) (number_shown lines state world name stands ∙ is) in cc)
      by_number (Some h) is =
          let p = placed name h is in
          record {
            left = with_kept h None state;
            notes = Umount h ∷ [];
            row = by_none (call.Umounts name) _ _ free (acts_at (call.Umounts name) _ _ h p (refl, refl));
            memory = refl;
            stands = changed h name p (λ z. record z { kept = None })
                (λ v. record v { kept = None }) record {
                  name = p.mine.name;
                  uuid = p.mine.uuid;
                  cache = p.mine.cache;
                  task = p.mine.task;
                  kept =
                      refl;
                  joined = tt;
                };
            joined = refl;
          }
  acts (call.Refuses name cause) takes free = record {
    left = state;
    notes = Refused name cause ∷ [];
    row = by_none (call.Refuses name cause) _ _ free (refl, refl, may takes);
    memory = refl;
    stands = stands;
    joined = refl;
  }
    where
      may : TakesNoMedia (call.Refuses name cause) lines world → MayBeRefused name cause state
      may (inl source) = inl source
      may (inr is) = inr (is_mount is.0, refusal_shown lines state world (call.Begins name is.0) stands ∙ is.1)
  acts e takes free = absurd takes

  pub row_done : (c : Call) → TakesNoMedia c lines world → IsCallRow c lines state world (world_after c lines world)
  row_done c takes = by_refusal (refusal_in c world lines) refl
    where
      by_refusal : (o : Option Refusal) → refusal_in c world lines ≡ o → IsCallRow c lines state world (acted_by o c lines world)
      by_refusal (Some cause) is = record {
        left = state;
        notes = Refused (asked_name c) cause ∷ [];
        row = subst (λ (o : Option Refusal). ByRefusal (asked_name c) o (Refused (asked_name c) cause ∷ []) state state
            (Acts c state (Refused (asked_name c) cause ∷ []) state)) (sym (refusal_shown lines state world c stands ∙ is)) (refl, refl);
        memory = refl;
        stands = stands;
        joined = refl;
      }
      by_refusal None is = acts c takes (refusal_shown lines state world c stands ∙ is)
