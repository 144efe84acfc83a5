-- The rows of mkfs: a file system is made, or a superblock stands in the way. The world is held again.
use Rattle.std.proofs.Common.{◌≡◌, ◌≢◌, ℕ, zero, suc, ◌*◌, ◌<◌, ◌≤◌, inl, inr, List, [], ◌∷◌, ◌++◌, length, Option, Some, None, refl, ap, sym, ◌∙◌, subst, arith}
use Rattle.std.specs.Prelude.{slice_get}
use Rattle.std.proofs.lemmas.Bool.{cases_eq}
use Rattle.fam_base.specs.declared.entry.Params.{Params}
use Rattle.fam_base.specs.Image.{Image, line_at, with_line}
use Rattle.fam_base.proofs.ImageLemmas.{length-eight, line_at-with_line}
use Rattle.fam_format.specs.Layout.{gate_line, least_lines}
use Rattle.fam_format.specs.Params.{SoundParams}
use Rattle.fam_format.proofs.UnitPowers.{unit_told}
use Rattle.fam_machine.specs.declared.cell.Cell.{Cell}
use Rattle.fam_machine.specs.declared.cell.Cell.TheVariants.{Absent, Clean, Dirty}
use Rattle.fam_machine.specs.Caches.{Cache, cell_at, with_cell}
use Rattle.fam_machine.specs.Moves as moves
use Rattle.fam_machine.specs.Moves.{Transfers}
use Rattle.fam_machine.specs.OneLine.{IsDirty, current, sent}
use Rattle.fam_machine.specs.Operations.{Machine, operated_all, machine, load_ops}
use Rattle.fam_commands.specs.Task.{Task}
use Rattle.fam_machine.proofs.LinePuts.{line_loaded}
use Rattle.fam_protocol.specs.Core.{IsHeadLine, IsWide}
use Rattle.fam_protocol.specs.Events.{Formats, MayFormat}
use Rattle.fam_protocol.specs.Invariant.{AreHosts}
use Rattle.fam_protocol.proofs.Hosts.Formats.{invariant_formatted}
use Rattle.fam_machine.proofs.WideLines.{eight_whole, sent_wide}
use Rattle.fam_rules.specs.Place.{line_bytes}
use Rattle.fam_rules.specs.Written.{format_puts, formatted}
use Rattle.fam_rules.specs.WrittenLaws.{IsFormatted}
use Rattle.fam_rules.proofs.FormattedProofs.{lines_formatted}
use Rattle.fam_journal.specs.View.{HostView, WorldView}
use Rattle.fam_journal.specs.Kept.{Agrees, copy_at, settled_of, hosts_of, kept_at, run_at, run_with, shared_of, uuid_at}
use Rattle.fam_journal.specs.Machines.{HostState, Machines, with_machine}
use Rattle.fam_journal.specs.Members.{changed_at}
use Rattle.fam_machine.specs.Mkfs.{mkfs_ops, read_ops, drop_lines}
use Rattle.fam_journal.specs.declared.refusal.Refusal.{Refusal}
use Rattle.fam_journal.specs.Notes.{Made, Refused}
use Rattle.fam_journal.specs.Past.{HostPast, Past, past_of}
use Rattle.fam_journal.proofs.Calls.Hosts.{held_with, kept_same, stands_changed, told_changed, uuids_same}
use Rattle.fam_journal.proofs.Calls.Members.{changed_at_member, changed_other}
use Rattle.fam_machine.specs.EightWords.{HasEightWords}
use Rattle.fam_machine.proofs.MkfsOps.{made_dirty, all_left, formatted_normal, prefix_dropped, gate_dropped, header_dropped, magic_dropped, read_in_turn, read_length, read_normal, rest_dropped, whole_left}
use Rattle.fam_protocol.proofs.Hosts.Inside.{dirty_inside}
use Rattle.fam_journal.proofs.Calls.Rows.{Declared, moved_held, refused_held}

-- what a host reads of a line has eight words, whatever eight words memory has
pub current_wide : (m m' : List ℕ) (c : Cell) → length m' ≡ 8 → length (current m c) ≡ 8 → length (current m' c) ≡ 8
current_wide m m' Absent wide was = wide
current_wide m m' (Clean words) wide was = was
current_wide m m' (Dirty a words) wide was = was

module _ (start : Image) (state : Machines) (world : WorldView) (held : Agrees start state world state.memory) (h : ℕ) (d : Declared start state world h) where
  abbrev x : Past
  x = past_of start world.journal

  abbrev m : Machine
  m = record { image = state.memory; cache = d.view.cache }

  pub whole : HasEightWords m
  whole l =
      eight_whole (current (line_at state.memory l) (cell_at d.view.cache l))
      (subst (λ (o : Option HostView). length (current (line_at state.memory l) (copy_at o l)) ≡ 8) d.view_is (held.invariant.wide.copies h l))

  -- A file system is made.

  module _ (p : Params) (sound : SoundParams p) (device : p.device ≡ line_bytes * length state.memory) (mine : d.view.uuid ≡ p.master)
      (idle : (k : ℕ) (v : HostView) → slice_get world.hosts k ≡ Some v → v.task ≡ None)
      (bare : (k : ℕ) (v : HostView) → slice_get world.hosts k ≡ Some v → v.kept ≡ None)
      (clean : (k : ℕ) (v : HostView) → k ≢ h → slice_get world.hosts k ≡ Some v → (l : ℕ) → IsDirty (cell_at v.cache l) → ⊥) where
    -- Whatever the maker's cache is then, its hosts are as before.
    module _ (now : Cache) where
      abbrev pub recached : HostView → HostView
      recached v = record v { cache = now }

      abbrev pub changed : List HostView
      changed = changed_at h recached world.hosts

      pub copy_here : (l : ℕ) → copy_at (slice_get changed h) l ≡ cell_at now l
      copy_here l = ap (λ (o : Option HostView). copy_at o l) (changed_at_member h recached world.hosts d.view d.view_is)

      pub copy_else : (k l : ℕ) → k ≢ h → copy_at (slice_get changed k) l ≡ copy_at (slice_get world.hosts k) l
      copy_else k l ne = ap (λ (o : Option HostView). copy_at o l) (changed_other h k recached world.hosts ne)

      no_run : (o : Option HostView) (told : Option HostPast) → ((v : HostView) → o ≡ Some v → v.task ≡ None) → run_at o told ≡ None
      no_run None told none = refl
      no_run (Some v) told none = ap (λ (t : Option Task). run_with t told) (none v refl)

      pub run_same : (k : ℕ) → run_at (slice_get changed k) (slice_get x.hosts k) ≡ None
      run_same k =
          elim (cases_eq k h) [
            | inl e ↦
                subst (λ (i : ℕ). run_at (slice_get changed i) (slice_get x.hosts i) ≡ None) (sym e)
                (ap (λ (o : Option HostView). run_at o (slice_get x.hosts h)) (changed_at_member h recached world.hosts d.view d.view_is)
                ∙ ap (λ (t : Option Task). run_with t (slice_get x.hosts h)) (idle h d.view d.view_is))
            | inr ne ↦
                ap (λ (o : Option HostView). run_at o (slice_get x.hosts k)) (changed_other h k recached world.hosts ne)
                ∙ no_run (slice_get world.hosts k) (slice_get x.hosts k) (idle k)
          ]

      none_kept : (k : ℕ) (o : Option HostView) → slice_get world.hosts k ≡ o → kept_at o ≡ None
      none_kept k None is = refl
      none_kept k (Some v) is = bare k v is

      keep_none : (k : ℕ) → kept_at (slice_get changed k) ≡ None
      keep_none k = kept_same h d.view world.hosts d.view_is recached refl k ∙ none_kept k (slice_get world.hosts k) refl

      pub are : AreHosts (hosts_of changed x.hosts) (shared_of state.memory world.hosts)
      are = record {
        apart = λ a b id is_a is_b. held.invariant.declared.apart a b id (sym (uuids_same h d.view world.hosts d.view_is recached refl a) ∙ is_a)
            (sym (uuids_same h d.view world.hosts d.view_is recached refl b) ∙ is_b);
        absent = λ k l none. held.invariant.declared.absent k l (sym (uuids_same h d.view world.hosts d.view_is recached refl k) ∙ none);
        idle = λ k none. run_same k;
        bare = λ k none. keep_none k;
      }

      never_dirty : (k l : ℕ) → k ≢ h → (o : Option HostView) → slice_get world.hosts k ≡ o → IsDirty (copy_at o l) → ⊥
      never_dirty k l ne None is dirty = absurd (Rattle.std.proofs.lemmas.Bool.false≢true dirty)
      never_dirty k l ne (Some v) is dirty = clean k v ne is l dirty

      pub may : MayFormat h p (length start) (hosts_of changed x.hosts) (shared_of state.memory world.hosts)
      may = record {
        sound = sound;
        device = omega (arith, device, held.lines);
        maker_is = ap uuid_at (changed_at_member h recached world.hosts d.view d.view_is) ∙ ap Some mine;
        idle = run_same;
        bare = keep_none;
        clean = λ k l ne dirty. never_dirty k l ne (slice_get world.hosts k) refl dirty;
        inside = λ l dirty. dirty_inside (settled_of x.state (line_at state.memory)) (length start) (hosts_of world.hosts x.hosts) (shared_of state.memory world.hosts) held.invariant.stage h l dirty;
      }

    abbrev done : Machine
    done = operated_all (mkfs_ops p) m

    abbrev left : Machine
    left = machine (formatted (operated_all read_ops m).image p) (drop_lines (format_puts p) (operated_all read_ops m).cache)

    abbrev makes : HostView → HostView
    makes = recached left.cache

    abbrev views : List HostView
    views = changed left.cache

    pub enough : least_lines ≤ length state.memory
    enough = omega (arith, sound.need, device, (unit_told p.unit sound.unit).least)

    shape : IsFormatted p (operated_all read_ops m).image left.image
    shape = lines_formatted (operated_all read_ops m).image p (omega (arith, enough, read_length m))

    small_line : (l : ℕ) → l ≤ 2 → cell_at left.cache l ≡ Absent
    small_line zero small = magic_dropped p (operated_all read_ops m).cache
    small_line (suc zero) small = prefix_dropped p (operated_all read_ops m).cache
    small_line (suc (suc zero)) small = rest_dropped p (operated_all read_ops m).cache
    small_line (suc (suc (suc l))) small = absurd (omega (arith, small))

    head_line : (l : ℕ) → IsHeadLine l → cell_at left.cache l ≡ Absent
    head_line l (inl small) = small_line l small
    head_line l (inr log) = ap (cell_at left.cache) log ∙ header_dropped p (operated_all read_ops m).cache

    formats : Formats h p (shared_of state.memory world.hosts) (shared_of left.image views)
    formats = record {
      magic = shape.magic;
      first = shape.super_prefix;
      second = shape.super_rest;
      header = shape.header;
      gate = shape.gate;
      head = λ l head. copy_here left.cache l ∙ head_line l head;
      dropped = copy_here left.cache gate_line ∙ gate_dropped p (operated_all read_ops m).cache;
      dirty = λ l dirty. subst IsDirty (sym (ap (λ (o : Option HostView). copy_at o l) d.view_is)) (made_dirty p m l (subst IsDirty (copy_here left.cache l) dirty));
      hosts = λ k l ne. copy_else left.cache k l ne;
    }

    wide : IsWide (shared_of left.image views)
    wide = record { memory = λ l. refl; copies = copies }
      where
        copies : (k l : ℕ) → length (current (line_at left.image l) (copy_at (slice_get views k) l)) ≡ 8
        copies k l =
            elim (cases_eq k h) [
              | inl e ↦
                  subst (λ (i : ℕ). length (current (line_at left.image l) (copy_at (slice_get views i) l)) ≡ 8) (sym e)
                  (subst (λ (c : Cell). length (current (line_at left.image l) c) ≡ 8) (sym (copy_here left.cache l))
                  (subst (λ (w : List ℕ). length w ≡ 8) (whole_left p m whole l) (length-eight (current (line_at left.image l) (cell_at left.cache l)))))
              | inr ne ↦
                  subst (λ (c : Cell). length (current (line_at left.image l) c) ≡ 8) (sym (copy_else left.cache k l ne))
                  (current_wide (line_at state.memory l) (line_at left.image l) (copy_at (slice_get world.hosts k) l) refl (held.invariant.wide.copies k l))
            ]

    formatted_held : Agrees start (with_machine h left d.host.task state) (record { hosts = views; journal = world.journal ++ Made h p ∷ [] }) left.image
    formatted_held =
        held_with start state world state.memory held (with_machine h left d.host.task state) views (Made h p ∷ []) (line_at left.image)
        (shape.count ∙ read_length m ∙ held.lines) (formatted_normal p (operated_all read_ops m).image (read_normal m held.normal)) (tt, tt)
        (stands_changed h d.view world.hosts d.view_is makes (length start) state.hosts d.host d.host_is (λ z. record z { cache = left.cache; task = d.host.task })
        record { name = d.stands.name; uuid = d.stands.uuid; cache = refl; task = d.stands.task; kept = d.stands.kept; joined = d.stands.joined } held.stands)
        (told_changed h d.view world.hosts d.view_is makes x.hosts x.hosts d.told d.told_is (λ k ne. refl)
        record { name = d.host_told.name; uuid = d.host_told.uuid; task = d.host_told.task } held.told)
        tt
        (invariant_formatted h p (length start) (hosts_of views x.hosts) (shared_of state.memory world.hosts) (shared_of left.image views) (may left.cache) formats (are left.cache) wide)

    -- the same, by the operations
    pub made_held : Agrees start (with_machine h done d.host.task state)
        (record { hosts = changed_at h (λ v. record v { cache = done.cache }) world.hosts; journal = world.journal ++ Made h p ∷ [] }) done.image
    made_held =
        subst (λ (z : Machine). Agrees start (with_machine h z d.host.task state)
        (record { hosts = changed_at h (λ v. record v { cache = z.cache }) world.hosts; journal = world.journal ++ Made h p ∷ [] }) z.image)
        (sym (all_left p m whole)) formatted_held

-- A superblock stands in the way: three lines were read.

-- a line that is dropped and loaded: the cache moves by itself
drop_load_transfers : (memory : List ℕ) (c : Cell) → Transfers memory c (sent memory c) (Clean (sent memory c))
drop_load_transfers memory Absent = moves.goes moves.brings moves.rests
drop_load_transfers memory (Clean words) = moves.goes moves.drops (moves.goes moves.brings moves.rests)
drop_load_transfers memory (Dirty a words) = moves.goes moves.sends_whole (moves.goes moves.cleans moves.rests)

-- one change behind another, of the same host
pub changed_twice : {A : Type 0} (i : ℕ) (f g : A → A) (xs : List A) → changed_at i f (changed_at i g xs) ≡ changed_at i (λ x. f (g x)) xs
changed_twice i f g [] = refl
changed_twice zero f g (x ∷ xs) = refl
changed_twice (suc i) f g (x ∷ xs) = ap (λ ys. x ∷ ys) (changed_twice i f g xs)

module _ (start : Image) (state : Machines) (world : WorldView) (held : Agrees start state world state.memory) (h : ℕ)
    (d : Declared start state world h) (line : ℕ) (within : line < length state.memory) where
  abbrev before : Machine
  before = record { image = state.memory; cache = d.view.cache }

  abbrev sent_words : List ℕ
  sent_words = sent (line_at state.memory line) (cell_at d.view.cache line)

  words_wide : length sent_words ≡ 8
  words_wide =
      sent_wide (line_at state.memory line) (cell_at d.view.cache line) refl
      (subst (λ (o : Option HostView). length (current (line_at state.memory line) (copy_at o line)) ≡ 8) d.view_is (held.invariant.wide.copies h line))

  line_now : line_at (with_line line sent_words state.memory) line ≡ sent_words
  line_now = line_at-with_line state.memory line sent_words within ∙ eight_whole sent_words words_wide

  -- a line is dropped and loaded
  pub loaded_held : Agrees start (with_machine h (operated_all (load_ops line 8) before) d.host.task state)
      (record { hosts = changed_at h (λ v. record v { cache = (operated_all (load_ops line 8) before).cache }) world.hosts; journal = world.journal })
      (operated_all (load_ops line 8) before).image
  loaded_held =
      subst (λ (z : Machine). Agrees start (with_machine h z d.host.task state) (record { hosts = changed_at h (λ v. record v { cache = z.cache }) world.hosts; journal = world.journal }) z.image)
      (sym (line_loaded line before ∙ ap (λ (w : List ℕ). record { image = with_line line sent_words state.memory; cache = with_cell line (Clean w) d.view.cache }) line_now))
      (moved_held start state world held h d line within sent_words (Clean sent_words) (drop_load_transfers (line_at state.memory line) (cell_at d.view.cache line)) words_wide)

module _ (start : Image) (state : Machines) (world : WorldView) (h : ℕ) (d : Declared start state world h) where
  -- the host after a change of its cache
  moved_declared : (z : Machine) → Declared start (with_machine h z d.host.task state) (record { hosts = changed_at h (λ v. record v { cache = z.cache }) world.hosts; journal = world.journal }) h
  moved_declared z = record {
    view = record d.view { cache = z.cache };
    view_is = changed_at_member h (λ (v : HostView). record v { cache = z.cache }) world.hosts d.view d.view_is;
    host = record d.host { cache = z.cache };
    host_is = changed_at_member h (λ (s : HostState). record s { cache = z.cache; task = d.host.task }) state.hosts d.host d.host_is;
    stands = record { name = d.stands.name; uuid = d.stands.uuid; cache = refl; task = d.stands.task; kept = d.stands.kept; joined = d.stands.joined };
    told = d.told;
    told_is = d.told_is;
    host_told = record { name = d.host_told.name; uuid = d.host_told.uuid; task = d.host_told.task };
  }

  -- two changes of one cache are the last one
  one_change : (a b : Machine) → Agrees start (with_machine h b d.host.task (with_machine h a d.host.task state))
      (record {
        hosts = changed_at h (λ v. record v { cache = b.cache }) (changed_at h (λ v. record v { cache = a.cache }) world.hosts);
        journal =
            world.journal;
      }) b.image
      → Agrees start (with_machine h b d.host.task state) (record { hosts = changed_at h (λ v. record v { cache = b.cache }) world.hosts; journal = world.journal }) b.image
  one_change a b held =
      subst (λ (hosts : List HostState). Agrees start (record { memory = b.image; hosts = hosts })
      (record { hosts = changed_at h (λ v. record v { cache = b.cache }) world.hosts; journal = world.journal }) b.image)
      (changed_twice h (λ (s : HostState). record s { cache = b.cache; task = d.host.task }) (λ (s : HostState). record s { cache = a.cache; task = d.host.task }) state.hosts)
      (subst (λ (hosts : List HostView). Agrees start (with_machine h b d.host.task (with_machine h a d.host.task state)) (record { hosts = hosts; journal = world.journal }) b.image)
      (changed_twice h (λ (v : HostView). record v { cache = b.cache }) (λ (v : HostView). record v { cache = a.cache }) world.hosts) held)

module _ (start : Image) (state : Machines) (world : WorldView) (held : Agrees start state world state.memory) (h : ℕ)
    (d : Declared start state world h) (enough : least_lines ≤ length state.memory) where
  abbrev first_m : Machine
  first_m = record { image = state.memory; cache = d.view.cache }

  -- lines 0, 1 and 2 are read
  pub read_held : Agrees start (with_machine h (operated_all read_ops first_m) d.host.task state)
      (record { hosts = changed_at h (λ v. record v { cache = (operated_all read_ops first_m).cache }) world.hosts; journal = world.journal })
      (operated_all read_ops first_m).image
  unfolding moved_declared
  read_held =
      let a = operated_all (load_ops 0 8) first_m in
      let b = operated_all (load_ops 1 8) a in
      let c = operated_all (load_ops 2 8) b in
      let held_a = loaded_held start state world held h d 0 (omega (arith, enough)) in
      let held_b = one_change start state world h d a b
      (loaded_held start (with_machine h a d.host.task state)
      (record { hosts = changed_at h (λ v. record v { cache = a.cache }) world.hosts; journal = world.journal }) held_a h
      (moved_declared start state world h d a) 1 (omega (arith, enough, held.lines, held_a.lines))) in
      let held_c = one_change start state world h d b c
      (loaded_held start (with_machine h b d.host.task state)
      (record { hosts = changed_at h (λ v. record v { cache = b.cache }) world.hosts; journal = world.journal }) held_b h
      (moved_declared start state world h d b) 2 (omega (arith, enough, held.lines, held_b.lines))) in
      subst (λ (z : Machine). Agrees start (with_machine h z d.host.task state)
      (record { hosts = changed_at h (λ v. record v { cache = z.cache }) world.hosts; journal = world.journal }) z.image)
      (sym (read_in_turn first_m)) held_c

  -- and a superblock stands there
  pub met_held : (name : List ℕ) (cause : Refusal) → Agrees start (with_machine h (operated_all read_ops first_m) d.host.task state)
      (record {
        hosts = changed_at h (λ v. record v { cache = (operated_all read_ops first_m).cache }) world.hosts;
        journal = world.journal
            ++ Refused name cause ∷ [];
      }) (operated_all read_ops first_m).image
  met_held name cause = refused_held start (with_machine h (operated_all read_ops first_m) d.host.task state)
      (record { hosts = changed_at h (λ v. record v { cache = (operated_all read_ops first_m).cache }) world.hosts; journal = world.journal })
      read_held name cause
