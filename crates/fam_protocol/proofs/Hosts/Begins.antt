-- An image with no task, and with caches that have nothing to send, is the beginning of a way.
use Rattle.std.proofs.Common.{◌≡◌, ℕ, ◌*◌, ◌/◌, ◌%◌, ◌≤◌, ◌≢◌, Bool, true, false, List, [], ◌∷◌, length, map, take, slice_get, Option, Some, None, refl, sym, ap, subst, ◌∙◌, arith}
use Rattle.std.specs.Prelude.{nat_lt, if◌then◌else◌}
use Rattle.std.proofs.lemmas.Bool.Decides.{nat_tests}
use Rattle.std.proofs.lemmas.List.{take-map, length-map}
use Rattle.std.proofs.lemmas.List.FromFn.{length-map-range_with_len, get_or-map-range_with_len}
use Rattle.fam_base.specs.declared.entry.Params.{Params}
use Rattle.fam_base.specs.declared.entry.Entry.{Entry}
use Rattle.fam_base.specs.Image.{Image, line_at}
use Rattle.fam_format.specs.Layout.{device_limit, gate_line, least_lines}
use Rattle.fam_format.specs.Params.{SoundParams}
use Rattle.fam_format.specs.Reading.{Lines, Reading, NoSuperblock, BadHeader, BadSlot, Sound, reading_of, slot_words}
use Rattle.fam_format.specs.Slot.{Proper}
use Rattle.fam_format.specs.Tree.{join_fault}
use Rattle.fam_format.proofs.EntryLawsProofs.{read_proper}
use Rattle.fam_machine.specs.declared.cell.Cell.{Cell}
use Rattle.fam_machine.specs.declared.cell.Cell.TheVariants.{Absent, Clean, Dirty}
use Rattle.fam_machine.specs.Caches.{IsCleanCell}
use Rattle.fam_machine.specs.OneLine.{IsDirty}
use Rattle.fam_machine.proofs.CleanCaches.{clean_wide, not_dirty}
use Rattle.fam_rules.specs.Asks.{File, entries_of}
use Rattle.fam_rules.specs.Content.{byte_in}
use Rattle.fam_rules.specs.Place.{line_bytes, place}
use Rattle.fam_protocol.specs.Lines.{gate_of, top}
use Rattle.fam_protocol.specs.Core.{Belongs, IsHistory, IsWide, EntryStands, masters_copy}
use Rattle.fam_protocol.specs.After.{Run}
use Rattle.fam_protocol.specs.Invariant.{Hosts, KeepFronts, KeepsFront, Known, Owner, Rests, Settled, shared_with, Small, Damaged, InvariantBy, Invariant, IsKnown, no_hosts, solo, held_file, settled_by, settled_at_first}
use Rattle.fam_rules.proofs.AskProofs.{member_from}
use Rattle.fam_protocol.proofs.Lines.Apart.{IsOnLine, byte_on_line}
use Rattle.fam_protocol.proofs.Hosts.SoundReads.{super_is_sound, IsRead, Tells, AreTold, ReadsSound, sound_reads}

-- The entries with the bytes of memory.

module _ (memory : Lines) where
  -- the entries come back
  pub held_back : (entries : List Entry) → entries_of (map (held_file memory) entries) ≡ entries
  held_back [] = refl
  held_back (e ∷ entries) = ap (λ (es : List Entry). e ∷ es) (held_back entries)

  -- so do the first ones
  pub held_prefix : (n : ℕ) (entries : List Entry) → entries_of (take n (map (held_file memory) entries)) ≡ take n entries
  held_prefix n entries = ap entries_of (take-map (held_file memory) n entries) ∙ held_back (take n entries)

module _ (memory : Lines) (p : Params) (entries : List Entry) (sound : SoundParams p) (told : AreTold memory p entries) where
  -- an entry that a slot tells belongs behind the ones before
  held_belongs : (i : ℕ) (e : Entry) → slice_get entries i ≡ Some e → Belongs p (take i (map (held_file memory) entries)) (held_file memory e)
  held_belongs i e at =
      let tells : Tells memory p (take i entries) i e = told i e at in
      record {
        proper = read_proper p (slot_words memory p i) i e tells.reads;
        joins = subst (λ (es : List Entry). join_fault p es e ≡ None) (sym (held_prefix memory i entries)) tells.joins;
        count = length-map-range_with_len (λ (o : ℕ). byte_in (memory (place e o / line_bytes)) (place e o % line_bytes)) 0 e.size;
      }

  -- and memory has it
  held_stands : (i : ℕ) (e : Entry) → slice_get entries i ≡ Some e → EntryStands p memory i (held_file memory e)
  held_stands i e at =
      let tells : Tells memory p (take i entries) i e = told i e at in
      let proper : Proper p e = read_proper p (slot_words memory p i) i e tells.reads in
      record {
        slot = tells.reads;
        bytes = λ o below.
            let on : IsOnLine e o = byte_on_line p e o sound proper below in
            ap (λ (l : ℕ). byte_in (memory l) (o % line_bytes)) (sym on.line)
            ∙ ap (λ (b : ℕ). byte_in (memory (place e o / line_bytes)) b) (sym on.within)
            ∙ sym (get_or-map-range_with_len (λ (n : ℕ). byte_in (memory (place e n / line_bytes)) (place e n % line_bytes)) 0 e.size o o 0 below (omega arith));
      }

  -- so these entries are a history
  held_history : IsHistory p (map (held_file memory) entries)
  held_history i f at =
      let is = member_from (held_file memory) entries i f at in
      subst (λ (g : File). Belongs p (take i (map (held_file memory) entries)) g) is.2 (held_belongs i is.0 is.1)

  all_stand : (i : ℕ) (f : File) → slice_get (map (held_file memory) entries) i ≡ Some f → EntryStands p memory i f
  all_stand i f at =
      let is = member_from (held_file memory) entries i f at in
      subst (λ (g : File). EntryStands p memory i g) is.2 (held_stands i is.0 is.1)

-- The beginning.

no_run : (hosts : Hosts) → ((h : ℕ) → hosts.run h ≡ None) → (h : ℕ) (r : Run) → hosts.run h ≡ Some r → ⊥
no_run hosts idle h r is = absurd (let none : hosts.run h ≡ None = idle h in cc)

module _ (image : Image) (limit : line_bytes * length image ≤ device_limit) (hosts : Hosts) (copy : ℕ → ℕ → Cell) (rests : Rests hosts (shared_with image copy)) where
  wide : IsWide (shared_with image copy)
  wide = record { memory = λ l. refl; copies = λ h l. clean_wide (line_at image l) (copy h l) refl (rests.clean h l) }

  none_dirty : (h l : ℕ) → IsDirty (copy h l) → ⊥
  none_dirty h l dirty = not_dirty (copy h l) (rests.clean h l) dirty

  -- nothing that wasn't sent is above memory's gate
  pub same_top : (o : Option ℕ) → top (line_at image gate_line) (masters_copy o (shared_with image copy) gate_line) ≡ gate_of (line_at image gate_line)
  same_top None = refl
  same_top (Some h) = by_copy (copy h gate_line) (rests.clean h gate_line)
    where
      by_copy : (c : Cell) → IsCleanCell c → top (line_at image gate_line) c ≡ gate_of (line_at image gate_line)
      by_copy Absent clean = refl
      by_copy (Clean words) clean = refl
      by_copy (Dirty a words) clean = absurd clean

  -- a sound reading
  known : (p : Params) (entries : List Entry) → least_lines ≤ length image
      → KeepFronts (Known p (map (held_file (line_at image)) entries) (length entries)) hosts → reading_of (line_at image) (line_bytes * length image)
      ≡ Sound p entries
      → IsKnown p (map (held_file (line_at image)) entries) (length entries) (length image) hosts (shared_with image copy)
  known p entries enough keep h =
      let reads : ReadsSound (line_at image) (line_bytes * length image) p entries = sound_reads (line_at image) (line_bytes * length image) p entries h in
      let is : IsRead (line_bytes * length image) p = super_is_sound _ _ (line_bytes * length image) p limit reads.super in
      let count : length (map (held_file (line_at image)) entries) ≡ length entries = length-map entries (held_file (line_at image)) in
      let named : Owner hosts p.master = rests.owner p.master in
      let at_top : top (line_at image gate_line) (masters_copy named.host (shared_with image copy) gate_line) ≡ gate_of (line_at image gate_line) = same_top named.host in
      record {
        enough = enough;
        inside = λ h l dirty. absurd (none_dirty h l dirty);
        master = named.host;
        core = record {
          wide = wide;
          head = record { sound = is.sound; device = is.device; super = reads.super; header = reads.header; clean = λ h l head dirty. none_dirty h l dirty };
          named = record { is = named.is; only = named.only };
          only_master = λ h l dirty. absurd (none_dirty h l dirty);
          low = omega (arith, reads.count);
          order = omega (arith, at_top);
          high = omega (arith, reads.count, count, at_top);
          near = omega (arith, count);
          room = omega (arith, reads.count, reads.gate, count);
          history = held_history (line_at image) p entries is.sound reads.slots;
          stands = λ i f at below. all_stand (line_at image) p entries is.sound reads.slots i f at;
          clean = λ i f h l at below line dirty. none_dirty h l dirty;
        };
        tasks = λ h r run. absurd (no_run hosts rests.idle h r run);
        kept = keep;
      }

  -- another reading
  damaged : least_lines ≤ length image → KeepFronts (Damaged (line_at image)) hosts → ((p : Params) (entries : List Entry) → reading_of (line_at image) (line_bytes * length image) ≢ Sound p entries)
      → InvariantBy (Damaged (line_at image)) (length image) hosts (shared_with image copy)
  damaged enough keep bad = record {
    enough = enough;
    still = record { wide = wide; memory = λ l. refl; clean = none_dirty; bad = bad };
    tasks = λ h r run. absurd (no_run hosts rests.idle h r run);
    bare = keep;
  }

  -- by the reading
  by_reading : (r : Reading) → reading_of (line_at image) (line_bytes * length image) ≡ r → least_lines ≤ length image
      → KeepFronts (settled_by (line_at image) r) hosts → InvariantBy (settled_by (line_at image) r) (length image) hosts (shared_with image copy)
  by_reading (NoSuperblock fault) is enough keep = damaged enough keep (λ p es sound. cc)
  by_reading (BadHeader fault) is enough keep = damaged enough keep (λ p es sound. cc)
  by_reading (BadSlot i reason) is enough keep = damaged enough keep (λ p es sound. cc)
  by_reading (Sound p entries) is enough keep = known p entries enough keep is

  -- by the number of lines
  by_size : (few : Bool) → nat_lt (length image) least_lines ≡ few
      → KeepFronts (if few then Small (line_at image) else settled_by (line_at image) (reading_of (line_at image) (line_bytes * length image))) hosts
      → InvariantBy (if few then Small (line_at image) else settled_by (line_at image) (reading_of (line_at image) (line_bytes * length image))) (length image) hosts (shared_with image copy)
  by_size true is keep = record { memory = λ l. refl; few = grind (arith, nat_tests); idle = rests.idle; bare = keep; clean = none_dirty }
  by_size false is keep = by_reading (reading_of (line_at image) (line_bytes * length image)) refl (grind (arith, nat_tests)) keep

  -- an image of at most 1 TiB begins a way, whatever it holds
  pub begins_with : KeepFronts (settled_at_first image) hosts → Invariant (settled_at_first image) (length image) hosts (shared_with image copy)
  begins_with keep = record {
    declared = rests.declared;
    marked = λ h r run. absurd (no_run hosts rests.idle h r run);
    named = λ h r run. absurd (no_run hosts rests.idle h r run);
    keeps = λ h r run. absurd (no_run hosts rests.idle h r run);
    wide = wide;
    stage = by_size (nat_lt (length image) least_lines) refl keep;
  }

-- who keeps nothing keeps a front
pub nothing_kept : (settled : Settled) → KeepsFront settled None
nothing_kept (Small image) = refl
nothing_kept (Damaged image) = refl
nothing_kept (Known p all settled) = tt

-- so it does with no host
pub begins : (image : Image) → line_bytes * length image ≤ device_limit → Invariant (settled_at_first image) (length image) no_hosts (solo image)
begins image limit =
    begins_with image limit no_hosts (λ h l. Absent)
    record {
      declared = record { apart = λ h k id none. absurd (cc); absent = λ h l none. refl; idle = λ h none. refl; bare = λ h none. refl };
      owner = λ id. record { host = None; is = λ h none. absurd (cc); only = λ h none. absurd (cc) };
      idle = λ h. refl;
      clean = λ h l. tt;
    }
    (λ h. nothing_kept (settled_at_first image))
