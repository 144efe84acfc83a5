-- Where nothing is pending, no host has a task and no cache has anything to send, what is settled is told by the image.
use Rattle.std.proofs.Common.{◌≡◌, ℕ, ◌*◌, ◌/◌, ◌%◌, ◌<◌, ◌≤◌, Bool, true, false, List, length, map, take, get_or, slice_get, Some, None, inl, inr, refl, sym, ap, ap₂, subst, ◌∙◌, arith}
use Rattle.std.specs.Prelude.{nat_lt, slice_index, if◌then◌else◌}
use Rattle.std.proofs.lemmas.Bool.Decides.{nat_tests}
use Rattle.std.proofs.lemmas.List.{get_or_default, length-map, same_lists, take-map}
use Rattle.std.proofs.lemmas.List.FromFn.{length-map-range_with_len, get_or-map-range_with_len}
use Rattle.std.proofs.lemmas.Option.{slice_get_cases}
use Rattle.std.proofs.Math.ListN.{get_or-map}
use Rattle.fam_base.specs.declared.entry.Params.{Params}
use Rattle.fam_base.specs.declared.entry.Entry.{Entry}
use Rattle.fam_base.specs.Image.{Image, line_at}
use Rattle.fam_format.specs.Layout.{device_limit, gate_line, least_lines}
use Rattle.fam_format.specs.Params.{SoundParams}
use Rattle.fam_format.specs.Reading.{Lines, reading_of}
use Rattle.fam_format.specs.Tree.{join_fault}
use Rattle.fam_machine.specs.declared.cell.Cell.{Cell}
use Rattle.fam_rules.specs.Asks.{File, entries_of}
use Rattle.fam_rules.specs.Content.{byte_in}
use Rattle.fam_rules.specs.Place.{line_bytes, place}
use Rattle.fam_protocol.specs.Core.{Belongs, EntryStands, System, top_of}
use Rattle.fam_protocol.specs.Invariant.{Hosts, IsKnown, Known, Rests, Small, Invariant, held_file, shared_with, settled_at_first, settled_by}
use Rattle.fam_rules.proofs.AskProofs.{member_from}
use Rattle.fam_protocol.proofs.Lines.Apart.{IsOnLine, byte_on_line}
use Rattle.fam_protocol.proofs.Hosts.Begins.{same_top}
use Rattle.fam_protocol.proofs.Hosts.SoundReads.{AreTold, ReadsSound, Tells, reads_sound}

-- A file that stands in memory is the entry with the bytes of memory.

module _ (memory : Lines) (p : Params) (sound : SoundParams p) where
  one_file : (i : ℕ) (before : List File) (f : File) → Belongs p before f → EntryStands p memory i f → f ≡ held_file memory f.entry
  one_file i before f belongs stands = ap (λ (bytes : List ℕ). record { entry = f.entry; bytes = bytes }) (same_lists f.bytes (held_file memory f.entry).bytes count at)
    where
      byte : ℕ → ℕ
      byte o = byte_in (memory (place f.entry o / line_bytes)) (place f.entry o % line_bytes)

      count : length f.bytes ≡ length (held_file memory f.entry).bytes
      count = belongs.count ∙ sym (length-map-range_with_len (λ (o : ℕ). byte_in (memory (place f.entry o / line_bytes)) (place f.entry o % line_bytes)) 0 f.entry.size)

      at : (o d : ℕ) → o < length f.bytes → get_or f.bytes o d ≡ get_or (held_file memory f.entry).bytes o d
      at o d below =
          let within : o < f.entry.size = omega (arith, below, belongs.count) in
          let on : IsOnLine f.entry o = byte_on_line p f.entry o sound belongs.proper within in
          get_or_default f.bytes o d 0 below
          ∙ sym (stands.bytes o within)
          ∙ ap (λ (l : ℕ). byte_in (memory l) (o % line_bytes)) (sym on.line)
          ∙ ap (λ (b : ℕ). byte_in (memory (place f.entry o / line_bytes)) b) (sym on.within)
          ∙ sym (get_or-map-range_with_len (λ (n : ℕ). byte_in (memory (place f.entry n / line_bytes)) (place f.entry n % line_bytes)) 0 f.entry.size o o d within (omega arith))

  -- so are all of them
  all_files : (all : List File) → ((i : ℕ) (f : File) → slice_get all i ≡ Some f → f ≡ held_file memory f.entry) → all ≡ map (held_file memory) (entries_of all)
  all_files all each = same_lists all (map (held_file memory) (entries_of all)) count at
    where
      count : length all ≡ length (map (held_file memory) (entries_of all))
      count = sym (length-map (entries_of all) (held_file memory) ∙ length-map all (λ (f : File). f.entry))

      at : (k : ℕ) (d : File) → k < length all → get_or all k d ≡ get_or (map (held_file memory) (entries_of all)) k d
      at k d below = elim (slice_get_cases all k).1 [
        | inl (f, within, is, same) ↦
            let here : get_or all k d ≡ f = get_or_default all k d f below ∙ same in
            let there : get_or (map (held_file memory) (entries_of all)) k (held_file memory d.entry) ≡ held_file memory (get_or all k d).entry =
            get_or-map (held_file memory) (entries_of all) k d.entry ∙ ap (held_file memory) (get_or-map (λ (f : File). f.entry) all k d) in
            here ∙ each k f is ∙ sym (ap (λ (g : File). held_file memory g.entry) here) ∙ sym there
            ∙ get_or_default (map (held_file memory) (entries_of all)) k (held_file memory d.entry) d (omega (arith, below, count))
        | inr (past, none) ↦ absurd (omega (arith, past, below))
      ]

module _ (image : Image) (limit : line_bytes * length image ≤ device_limit) (hosts : Hosts) (copy : ℕ → ℕ → Cell) (rests : Rests hosts (shared_with image copy)) (p : Params) (all : List File)
    (is : IsKnown p all (length all) (length image) hosts (shared_with image copy)) where
  sys : System
  sys = record { params = p; have = line_bytes * length image; uuid = hosts.uuid; master = is.master }

  -- nothing above memory's gate, and all below it
  at_gate : top_of sys (shared_with image copy) ≡ length all
  unfolding sys
  at_gate = let same = same_top image limit hosts copy rests is.master in omega (arith, same, is.core.low, is.core.high)

  gate_is : length all ≡ slice_index (line_at image gate_line) 0
  unfolding sys
  gate_is = let same = same_top image limit hosts copy rests is.master in omega (arith, same, is.core.low, is.core.high)

  stands_at : (i : ℕ) (f : File) → slice_get all i ≡ Some f → EntryStands p (line_at image) i f
  unfolding sys
  stands_at i f at = elim (slice_get_cases all i).1 [
    | inl (g, within, found, same) ↦ is.core.stands i f at (omega (arith, within, at_gate))
    | inr (past, none) ↦ absurd (cc)
  ]

  slots_told : AreTold (line_at image) p (entries_of all)
  slots_told i e at =
      let from = member_from (λ (f : File). f.entry) all i e at in
      let f : File = from.0 in
      let stands : EntryStands p (line_at image) i f = stands_at i f from.1 in
      let belongs : Belongs p (take i all) f = is.core.history i f from.1 in
      let joins : join_fault p (take i (entries_of all)) f.entry ≡ None = ap (λ (es : List Entry). join_fault p es f.entry) (take-map (λ (g : File). g.entry) i all) ∙ belongs.joins in
      subst (Tells (line_at image) p (take i (entries_of all)) i) from.2 record { reads = stands.slot; joins = joins }

  reads : ReadsSound (line_at image) (line_bytes * length image) p (entries_of all)
  reads = record {
    super = is.core.head.super;
    header = is.core.head.header;
    gate = omega (arith, gate_is, is.core.room);
    count = length-map all (λ (f : File). f.entry) ∙ gate_is;
    slots = slots_told;
  }

  pub known_settled : settled_at_first image ≡ Known p all (length all)
  known_settled =
      by_test (nat_lt (length image) least_lines) refl
      ∙ ap (settled_by (line_at image)) (reads_sound (line_at image) (line_bytes * length image) p (entries_of all) reads)
      ∙ ap₂ (λ (files : List File) (n : ℕ). Known p files n)
      (sym (all_files (line_at image) p is.core.head.sound all (λ i f at. one_file (line_at image) p is.core.head.sound i (take i all) f (is.core.history i f at) (stands_at i f at))))
      (length-map all (λ (f : File). f.entry))
    where
      by_test : (b : Bool) → nat_lt (length image) least_lines ≡ b
          → (if b then Small (line_at image) else settled_by (line_at image) (reading_of (line_at image) (line_bytes * length image)))
          ≡ settled_by (line_at image) (reading_of (line_at image) (line_bytes * length image))
      by_test true few = let enough = is.enough in absurd (grind (arith, nat_tests))
      by_test false few = refl

-- what is settled then is what the image says
pub rests_settled : (image : Image) (hosts : Hosts) (copy : ℕ → ℕ → Cell) (p : Params) (all : List File) → line_bytes * length image ≤ device_limit → Rests hosts (shared_with image copy)
    → Invariant (Known p all (length all)) (length image) hosts (shared_with image copy) → settled_at_first image ≡ Known p all (length all)
rests_settled image hosts copy p all limit rests invariant = known_settled image limit hosts copy rests p all invariant.stage
