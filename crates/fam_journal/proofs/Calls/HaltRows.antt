-- The rows of a mkfs whose maker halts: before its first send, and behind it. The world is held again.
use Rattle.std.proofs.Common.{◌≡◌, ◌≢◌, ℕ, ◌*◌, ◌<◌, ◌≤◌, inl, inr, Bool, true, false, List, [], ◌∷◌, ◌++◌, length, map, Some, None, refl, ap, sym, ◌∙◌, subst, arith}
use Rattle.std.specs.Prelude.{◌-◌, ◌/◌, min, take, slice_index, nat_lt, if◌then◌else◌, slice_get}
use Rattle.std.specs.FinMap as finmap
use Rattle.std.proofs.lemmas.Bool.{cases_eq, cases_lt}
use Rattle.std.proofs.lemmas.Bool.Decides.{nat_tests}
use Rattle.fam_base.specs.declared.entry.Params.{Params}
use Rattle.fam_base.specs.Image.{Image, eight, line_at}
use Rattle.fam_format.specs.declared.faults.SuperFault.TheVariants as super
use Rattle.fam_format.specs.Params.{SoundParams}
use Rattle.fam_machine.specs.declared.cell.Cell.{Cell}
use Rattle.fam_machine.specs.Caches.{cell_at}
use Rattle.fam_machine.specs.Mkfs.{IsHeadSent, first_sent, halted_image, halted_ops}
use Rattle.fam_machine.specs.OneLine.{IsDirty, current}
use Rattle.fam_machine.specs.Operations.{Machine, machine, operated_all}
use Rattle.fam_machine.proofs.CacheLemmas.{cell_at-empty}
use Rattle.fam_machine.proofs.HaltedMkfs.{cleared_word, halted_left, none_put}
use Rattle.fam_machine.proofs.MkfsOps.{puts_normal}
use Rattle.fam_protocol.specs.Core.{IsWide}
use Rattle.fam_protocol.specs.Events.{Clears, Stops}
use Rattle.fam_protocol.specs.Invariant.{Damaged, Hosts, Invariant, InvariantBy, Known, Settled, Small}
use Rattle.fam_protocol.specs.SharedState.{SharedState}
use Rattle.fam_protocol.proofs.Hosts.Clears.{invariant_cleared}
use Rattle.fam_protocol.proofs.Hosts.Events.{invariant_halted}
use Rattle.fam_rules.specs.Place.{line_bytes}
use Rattle.fam_rules.specs.Written.{Put, format_puts}
use Rattle.fam_rules.proofs.Puts.{length-put_lines}
use Rattle.fam_journal.specs.Kept.{Agrees, IfHalted, copy_at, hosts_of, settled_of, shared_of}
use Rattle.fam_journal.specs.Machines.{Machines, with_machine}
use Rattle.fam_journal.specs.Members.{changed_at}
use Rattle.fam_journal.specs.Notes.{Cut}
use Rattle.fam_journal.specs.Past as past
use Rattle.fam_journal.specs.Past.{Bad, Halted, Past, State, halted, past_of}
use Rattle.fam_journal.specs.View.{HostView, WorldView}
use Rattle.fam_journal.proofs.Calls.Hosts.{held_with, kept_else, kept_same, runs_else, stands_changed, told_changed, uuids_same}
use Rattle.fam_journal.proofs.Calls.MkfsRows.{are, changed, copy_else, copy_here, current_wide, enough, may, recached, run_same, whole}
use Rattle.fam_journal.proofs.Calls.Rows.{Declared}

-- no cache has anything to send of lines 0, 1 and 2
pub head_sent : (settled : Settled) (lines : ℕ) (hosts : Hosts) (s : SharedState) → InvariantBy settled lines hosts s → (h l : ℕ) → l ≤ 2 → IsDirty (s.copy h l) → ⊥
head_sent (Small image) lines hosts s stage h l small dirty = stage.clean h l dirty
head_sent (Damaged image) lines hosts s stage h l small dirty = stage.still.clean h l dirty
head_sent (Known p all settled) lines hosts s stage h l small dirty = stage.core.head.clean h l (inl small) dirty

-- the state by whether the maker halted before its first send
state_early : (k : ℕ) (s : State) → k < first_sent → halted k s ≡ s
state_early k s early = go (nat_lt k first_sent) refl
  where
    go : (t : Bool) → nat_lt k first_sent ≡ t → (if t then s else Bad Halted (past.NoSuperblock (super.NoSuper 0)) 0) ≡ s
    go true is = refl
    go false is = absurd (grind (arith, nat_tests, early))

state_late : (k : ℕ) (s : State) → first_sent ≤ k → halted k s ≡ Bad Halted (past.NoSuperblock (super.NoSuper 0)) 0
state_late k s late = go (nat_lt k first_sent) refl
  where
    go : (t : Bool) → nat_lt k first_sent ≡ t → (if t then s else Bad Halted (past.NoSuperblock (super.NoSuper 0)) 0) ≡ Bad Halted (past.NoSuperblock (super.NoSuper 0)) 0
    go true is = absurd (grind (arith, nat_tests, late))
    go false is = refl

module _ (start : Image) (state : Machines) (world : WorldView) (held : Agrees start state world state.memory) (h : ℕ)
    (d : Declared start state world h) (p : Params) (sound : SoundParams p) (device : p.device ≡ line_bytes * length state.memory)
    (mine : d.view.uuid ≡ p.master)
    (idle : (k : ℕ) (v : HostView) → slice_get world.hosts k ≡ Some v → v.task ≡ None)
    (bare : (k : ℕ) (v : HostView) → slice_get world.hosts k ≡ Some v → v.kept ≡ None)
    (clean : (k : ℕ) (v : HostView) → k ≢ h → slice_get world.hosts k ≡ Some v → (l : ℕ) → IsDirty (cell_at v.cache l) → ⊥) (k : ℕ) where
  abbrev x : Past
  x = past_of start world.journal

  abbrev m : Machine
  m = record { image = state.memory; cache = d.view.cache }

  abbrev lost : HostView → HostView
  lost = recached start state world held h d p sound device mine idle bare clean finmap.empty

  abbrev views : List HostView
  views = changed start state world held h d p sound device mine idle bare clean finmap.empty

  -- what is held then, of this memory
  abbrev HoldsOf : Image → Type 0
  HoldsOf left = Agrees start (with_machine h (machine left finmap.empty) d.host.task state)
      (record { hosts = changed_at h (λ v. record v { cache = finmap.empty }) world.hosts; journal = world.journal ++ Cut h k ∷ [] }) left

  -- the maker has no copy any more, and the others have theirs
  lost_here : (l : ℕ) → copy_at (slice_get views h) l ≡ cell_at finmap.empty l
  lost_here l = copy_here start state world held h d p sound device mine idle bare clean finmap.empty l

  lost_else : (i l : ℕ) → i ≢ h → copy_at (slice_get views i) l ≡ copy_at (slice_get world.hosts i) l
  lost_else i l ne = copy_else start state world held h d p sound device mine idle bare clean finmap.empty i l ne

  -- by its parts
  holds_with : (left : Image) (s : State) → halted k x.state ≡ s → length left ≡ length start → map eight left ≡ left → IfHalted s (line_at left)
      → Invariant (settled_of s (line_at left)) (length start) (hosts_of views x.hosts) (shared_of left views) → HoldsOf left
  holds_with left s is lines normal free invariant =
      held_with start state world state.memory held (with_machine h (machine left finmap.empty) d.host.task state) views (Cut h k ∷ []) (line_at left) lines normal (tt, tt)
      (stands_changed h d.view world.hosts d.view_is lost (length start) state.hosts d.host d.host_is (λ z. record z { cache = finmap.empty; task = d.host.task })
      record { name = d.stands.name; uuid = d.stands.uuid; cache = refl; task = d.stands.task; kept = d.stands.kept; joined = d.stands.joined } held.stands)
      (told_changed h d.view world.hosts d.view_is lost x.hosts x.hosts d.told d.told_is (λ i ne. refl)
      record { name = d.host_told.name; uuid = d.host_told.uuid; task = d.host_told.task } held.told)
      (subst (λ (z : State). IfHalted z (line_at left)) (sym is) free)
      (subst (λ (z : State). Invariant (settled_of z (line_at left)) (length start) (hosts_of views x.hosts) (shared_of left views)) (sym is) invariant)

  -- Before the first send memory is as it was, and the maker's cache is lost.

  stops : Stops h (hosts_of world.hosts x.hosts) (hosts_of views x.hosts)
  stops = record {
    is = run_same start state world held h d p sound device mine idle bare clean finmap.empty h;
    uuids = uuids_same h d.view world.hosts d.view_is lost refl;
    runs = runs_else h d.view world.hosts d.view_is lost x.hosts x.hosts (λ i ne. refl);
    mine = inl (kept_same h d.view world.hosts d.view_is lost refl h);
    kept = λ i ne. kept_else h d.view world.hosts d.view_is lost i ne;
  }

  early_holds : k < first_sent → HoldsOf state.memory
  early_holds early =
      holds_with state.memory x.state (state_early k x.state early) held.lines held.normal held.halted
      (invariant_halted (settled_of x.state (line_at state.memory)) (length start) h (hosts_of world.hosts x.hosts) (hosts_of views x.hosts)
      (shared_of state.memory world.hosts) (shared_of state.memory views) held.invariant stops
      record { memory = λ l. refl; lost = λ l. lost_here l ∙ cell_at-empty l; hosts = λ i l ne. lost_else i l ne })

  -- Behind it there is no superblock.

  module _ (late : first_sent ≤ k) where
    abbrev cleared : Image
    cleared = halted_image k p state.memory

    -- the lines that were put
    abbrev puts : List Put
    puts = take ((min k 80 - 27) / 9) (format_puts p)

    count : length cleared ≡ length state.memory
    count = length-put_lines puts state.memory

    word : slice_index (line_at cleared 0) 0 ≡ 0
    word = cleared_word k p state.memory late (omega (arith, enough start state world held h d p sound device mine idle bare clean))

    wide : IsWide (shared_of cleared views)
    wide = record { memory = λ l. refl; copies = copies }
      where
        copies : (i l : ℕ) → length (current (line_at cleared l) (copy_at (slice_get views i) l)) ≡ 8
        copies i l =
            elim (cases_eq i h) [
              | inl e ↦
                  subst (λ (j : ℕ). length (current (line_at cleared l) (copy_at (slice_get views j) l)) ≡ 8) (sym e)
                  (subst (λ (c : Cell). length (current (line_at cleared l) c) ≡ 8) (sym (lost_here l ∙ cell_at-empty l)) refl)
              | inr ne ↦
                  subst (λ (c : Cell). length (current (line_at cleared l) c) ≡ 8) (sym (lost_else i l ne))
                  (current_wide (line_at state.memory l) (line_at cleared l) (copy_at (slice_get world.hosts i) l) refl (held.invariant.wide.copies i l))
            ]

    clears : Clears h (shared_of state.memory world.hosts) (shared_of cleared views)
    clears = record { magic = word; lost = λ l. lost_here l ∙ cell_at-empty l; hosts = λ i l ne. lost_else i l ne }

    late_holds : HoldsOf cleared
    late_holds =
        holds_with cleared (Bad Halted (past.NoSuperblock (super.NoSuper 0)) 0) (state_late k x.state late) (count ∙ held.lines)
        (puts_normal puts state.memory held.normal) record { damage_is = refl; word = word }
        (invariant_cleared h p (length start) (hosts_of views x.hosts) (shared_of state.memory world.hosts) (shared_of cleared views)
        (may start state world held h d p sound device mine idle bare clean finmap.empty) clears (are start state world held h d p sound device mine idle bare clean finmap.empty) wide)

  -- By the operations.

  head : IsHeadSent d.view.cache
  head l below dirty =
      head_sent (settled_of x.state (line_at state.memory)) (length start) (hosts_of world.hosts x.hosts) (shared_of state.memory world.hosts) held.invariant.stage h l (omega (arith, below))
      (subst IsDirty (sym (ap (λ o. copy_at o l) d.view_is)) dirty)

  left_is : (operated_all (halted_ops k p) m).image ≡ halted_image k p state.memory
  left_is = halted_left k p m held.normal (whole start state world held h d) head

  pub halted_holds : HoldsOf (operated_all (halted_ops k p) m).image
  halted_holds =
      elim (cases_lt k first_sent) [
        | inl early ↦ subst HoldsOf (sym (left_is ∙ none_put k p state.memory early)) (early_holds early)
        | inr late ↦ subst HoldsOf (sym left_is) (late_holds late)
      ]
