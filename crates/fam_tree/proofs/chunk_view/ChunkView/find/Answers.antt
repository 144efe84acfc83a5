use Rattle.std.proofs.Common.{◌≡◌, ◌≤◌, ◌*◌, ◌/◌, ◌%◌, List, [], length, sym, ap, ◌∙◌, arith, length-append}
use Rattle.std.specs.List.{slice_get}
use Rattle.std.specs.Prelude.{option_map}
use Rattle.std.proofs.Math.Nat.{div-add-mod}
use Rattle.fam_base.specs.declared.entry.Entry.{Entry}
use Rattle.fam_tree.specs.Chunks.{entries_held, packed_entries}
use Rattle.fam_tree.specs.Runs.{entries_in}
use Rattle.fam_tree.proofs.ChunkPlaces.{full_length, in_chunk, in_last}
use Rattle.fam_tree.proofs.chunk_view.ChunkView.find.Goals as goal

pub returns-in-Some : goal.returns-in-Some
returns-in-Some c =
    let full = c.self.inside.full.now in
    let last = entries_held (option_map (λ l. l.now) c.self.inside.last) in
    let place = c.args.place in
    let chunk = c.in-Some.chunk.now in
    let found = c.in-Some.ensures.lookup in
    ap (λ (l : List Entry). slice_get l (place % 256)) c.entries.ensures
    ∙ sym (in_chunk 256 last full (place / 256) (place % 256) chunk c.self.invariant.each found.3.0 (omega arith) (found.3.1 chunk))
    ∙ ap (slice_get (packed_entries full last)) (div-add-mod place 256)
    ∙ ap (λ (l : List Entry). slice_get l place) c.self.view_is

pub returns-in-Some-last : goal.returns-in-Some-last
returns-in-Some-last c =
    let full = c.self.inside.full.now in
    let last = entries_held (option_map (λ l. l.now) c.self.inside.last) in
    let place = c.args.place in
    let here : last ≡ c.in-Some-last.last.now = ap (λ o. entries_held (option_map (λ l. l.now) o)) c.in-Some-last.is in
    let past : length full ≤ place / 256 = c.in-None.ensures.lookup.3 in
    let whole : length (packed_entries full last) ≡ length c.args.self.now = ap (λ (l : List Entry). length l) c.self.view_is in
    let parts = length-append (entries_in full) last in
    let count : length (entries_in full) ≡ 256 * length full = full_length 256 full c.self.invariant.each in
    ap (λ (l : List Entry). slice_get l (place % 256)) (sym here)
    ∙ ap (slice_get last) (omega (arith, past, whole, parts, count, c.requires, c.self.invariant.few))
    ∙ sym (in_last 256 last full place c.self.invariant.each (omega (arith, past)))
    ∙ ap (λ (l : List Entry). slice_get l place) c.self.view_is

pub unreachable-requires : goal.unreachable-requires
unreachable-requires c =
    let full = c.self.inside.full.now in
    let last = entries_held (option_map (λ l. l.now) c.self.inside.last) in
    let none : last ≡ [] = ap (λ o. entries_held (option_map (λ l. l.now) o)) c.in-None-last.is in
    let past : length full ≤ c.args.place / 256 = c.in-None.ensures.lookup.3 in
    let whole : length (packed_entries full last) ≡ length c.args.self.now = ap (λ (l : List Entry). length l) c.self.view_is in
    let parts = length-append (entries_in full) last in
    let count : length (entries_in full) ≡ 256 * length full = full_length 256 full c.self.invariant.each in
    omega (arith, past, whole, parts, count, c.requires, ap (λ (l : List Entry). length l) none)
