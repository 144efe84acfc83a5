-- Moves of a host's cache, and media faults, as transfers at one line.
use Rattle.std.proofs.Common.{◌≡◌, ◌≢◌, ℕ, ◌<◌, List, [], ◌∷◌, length, map, take, drop, inl, ap, arith, Option, Some, None, refl, sym, ◌∙◌, subst}
use Rattle.std.specs.Prelude.{option_map}
use Rattle.std.proofs.lemmas.Option.{same_Some}
use Rattle.fam_base.specs.declared.line.LineNo.{LineNo}
use Rattle.fam_base.specs.Image.{Image, eight, line_at, masked, with_line}
use Rattle.fam_base.proofs.ImageLemmas.{length-masked, length-with_line, normal-with_line, with_line-line_at}
use Rattle.fam_machine.specs.declared.cell.Cell.{Cell}
use Rattle.fam_machine.specs.declared.cell.Cell.TheVariants.{Absent, Clean, Dirty}
use Rattle.fam_machine.specs.declared.op.Op.{Op}
use Rattle.fam_machine.specs.declared.op.Op.TheVariants.{Load, Store, WriteBack, Fence, Invalidate, Digest}
use Rattle.fam_machine.specs.Caches.{Cache, asked_lines, cell_at}
use Rattle.fam_machine.specs.Fences.{Breaks, IsAmong}
use Rattle.fam_machine.specs.HostMoves.{Move, Evict, Fetch, Leak, failed_fetch, move_failed, moved_cell, moved_words}
use Rattle.fam_machine.specs.Moves.{Transfers, rests}
use Rattle.fam_machine.specs.OneLine.{current, failed_leak, failed_send}
use Rattle.fam_machine.specs.Operations.{Breaking, Failure, Machine, failed, first_not_sent, line_no, not_brought, not_sent, send_lines, IsInImage}
use Rattle.fam_machine.specs.TearsLine.{TearsLine, TearsLineAt}
use Rattle.fam_machine.proofs.Transferring.{absent_transfers, failed_leak_transfers, failed_send_transfers, fetched_transfers, leaked_transfers}
use Rattle.fam_machine.proofs.Failing.{brought_fails, failed_cache, send_fails}
use Rattle.fam_machine.proofs.FenceLemmas.{among_drop, among_is_asked, among_take, send_lines_length, send_lines_normal}
use Rattle.fam_machine.proofs.WideLines.{sent_wide}

-- a move is a transfer
pub move_transfers : (move : Move) (m : List ℕ) (c : Cell) → Transfers m c (moved_words move m c) (moved_cell move m c)
move_transfers Evict m c = absent_transfers m c
move_transfers (Leak mask) m c = leaked_transfers mask m c
move_transfers (Fetch mask) m c = fetched_transfers mask m c

-- and leaves eight words in memory
pub move_wide : (move : Move) (m : List ℕ) (c : Cell) → length m ≡ 8 → length (current m c) ≡ 8 → length (moved_words move m c) ≡ 8
move_wide Evict m c wide copy = sent_wide m c wide copy
move_wide (Leak mask) m Absent wide copy = wide
move_wide (Leak mask) m (Clean words) wide copy = wide
move_wide (Leak mask) m (Dirty a words) wide copy = length-masked mask words m
move_wide (Fetch mask) m c wide copy = wide

-- a failed send
send_tears_line : (image left : Image) (cache : Cache) (line : ℕ) → line < length image → (through : ℕ) (o : Option (List ℕ))
    → failed_send through (line_at image line) (cell_at cache line) ≡ o → option_map (λ words. with_line line words image) o ≡ Some left
    → TearsLineAt line image left cache
send_tears_line image left cache line within through None is e = absurd cc
send_tears_line image left cache line within through (Some words) is e = record {
  within = within;
  words = words;
  wide = wide (cell_at cache line) is;
  transfers = failed_send_transfers through (line_at image line) words (cell_at cache line) is;
  is = sym (same_Some (with_line line words image) left e);
}
  where
    wide : (c : Cell) → failed_send through (line_at image line) c ≡ Some words → length words ≡ 8
    wide Absent is = absurd cc
    wide (Clean own) is = absurd cc
    wide (Dirty a own) is = subst (λ (w : List ℕ). length w ≡ 8) (same_Some (masked through own (line_at image line)) words is) (length-masked through own (line_at image line))

-- a failed leak
leak_tears_line : (image left : Image) (cache : Cache) (line mask : ℕ) → line < length image → (through : ℕ) (o : Option (List ℕ))
    → failed_leak mask through (line_at image line) (cell_at cache line) ≡ o → option_map (λ words. with_line line words image) o ≡ Some left
    → TearsLineAt line image left cache
leak_tears_line image left cache line mask within through None is e = absurd cc
leak_tears_line image left cache line mask within through (Some words) is e = record {
  within = within;
  words = words;
  wide = wide (cell_at cache line) is;
  transfers = failed_leak_transfers mask through (line_at image line) words (cell_at cache line) is;
  is = sym (same_Some (with_line line words image) left e);
}
  where
    wide : (c : Cell) → failed_leak mask through (line_at image line) c ≡ Some words → length words ≡ 8
    wide Absent is = absurd cc
    wide (Clean own) is = absurd cc
    wide (Dirty a own) is =
        subst (λ (w : List ℕ). length w ≡ 8) (same_Some (masked through (masked mask own (line_at image line)) (line_at image line)) words is)
        (length-masked through (masked mask own (line_at image line)) (line_at image line))

-- a failed read
read_tears_line : (image left : Image) (cache : Cache) (line : ℕ) → map eight image ≡ image → line < length image → image ≡ left → TearsLineAt line image left cache
read_tears_line image left cache line normal within same = record {
  within = within;
  words = line_at image line;
  wide = refl;
  transfers = rests;
  is = sym same ∙ sym (with_line-line_at image normal line);
}

-- a line that can't be brought
bring_tears_line : (l : LineNo) (m : Machine) (failure : Failure) → map eight m.image ≡ m.image → l.0 < length m.image
    → not_brought l m (cell_at m.cache l.0) ≡ Some failure → TearsLineAt failure.line.0 m.image failure.left.image m.cache
bring_tears_line l m failure normal within e =
    subst (λ (f : Failure). TearsLineAt f.line.0 m.image f.left.image m.cache) (sym (brought_fails l m (cell_at m.cache l.0) failure e))
    (read_tears_line m.image m.image m.cache l.0 normal within refl)

-- a line that can't be sent
torn_tears_line : (l : LineNo) (m : Machine) (through : ℕ) (failure : Failure) → l.0 < length m.image → not_sent through l m ≡ Some failure
    → TearsLineAt failure.line.0 m.image failure.left.image m.cache
torn_tears_line l m through failure within e =
    let torn = send_fails l m (failed_send through (line_at m.image l.0) (cell_at m.cache l.0)) failure e in
    subst (λ (f : Failure). TearsLineAt f.line.0 m.image f.left.image m.cache) (sym torn.2)
    (send_tears_line m.image (with_line l.0 torn.0 m.image) m.cache l.0 within through (Some torn.0) torn.1 refl)

-- an operation in which the media fails
pub op_tears_line_at : (op : Op) (m : Machine) (through : Breaking) (failure : Failure) → op ≢ Fence → map eight m.image ≡ m.image → IsInImage op m
    → failed through op m ≡ Some failure → TearsLineAt failure.line.0 m.image failure.left.image m.cache
op_tears_line_at (Load l k) m through failure none normal inside e = bring_tears_line l m failure normal inside e
op_tears_line_at (Store l k value) m through failure none normal inside e = bring_tears_line l m failure normal inside e
op_tears_line_at (WriteBack l) m through failure none normal inside e = absurd cc
op_tears_line_at Fence m through failure none normal inside e = absurd (none refl)
op_tears_line_at (Invalidate l) m through failure none normal inside e = torn_tears_line l m through.mask failure inside e
op_tears_line_at Digest m through failure none normal inside e = absurd cc

-- at an operation at one line no line was sent before it failed
one_breaks : (op : Op) (m : Machine) (through : Breaking) (failure : Failure) → op ≢ Fence → map eight m.image ≡ m.image → IsInImage op m → failed through op m ≡ Some failure → Breaks m failure
one_breaks op m through failure none normal inside e = record {
  sent = [];
  inside = λ line among. absurd among;
  cache = failed_cache through op m failure none e;
  tears = op_tears_line_at op m through failure none normal inside e;
}

-- a fence had sent some lines whole
fence_breaks : (lines rest : List ℕ) (m : Machine) (mask : ℕ) (failure : Failure) → ((line : ℕ) → IsAmong line lines → line < length m.image)
    → ((line : ℕ) → IsAmong line rest → line < length m.image) → first_not_sent mask rest (send_lines lines m) ≡ Some failure → Breaks m failure
fence_breaks lines [] m mask failure before inside e = absurd cc
fence_breaks lines (l ∷ rest) m mask failure before inside e =
    let m' = send_lines lines m in
    record {
      sent = lines;
      inside = before;
      cache = ap (λ (f : Failure). f.left.cache) (send_fails (line_no l) m' (failed_send mask (line_at m'.image l) (cell_at m'.cache l)) failure e).2;
      tears = torn_tears_line (line_no l) m' mask failure (omega (arith, inside l (inl refl), send_lines_length lines m)) e;
    }

pub op_breaks : (op : Op) (m : Machine) (through : Breaking) (failure : Failure) → map eight m.image ≡ m.image → IsInImage op m → failed through op m ≡ Some failure → Breaks m failure
op_breaks (Load l k) m through failure normal inside e = one_breaks (Load l k) m through failure (λ is. no_fence is) normal inside e
  where
    no_fence : Load l k ≡ Fence → ⊥
    no_fence is = absurd cc
op_breaks (Store l k value) m through failure normal inside e = one_breaks (Store l k value) m through failure (λ is. no_fence is) normal inside e
  where
    no_fence : Store l k value ≡ Fence → ⊥
    no_fence is = absurd cc
op_breaks (WriteBack l) m through failure normal inside e = absurd cc
op_breaks Fence m through failure normal inside e =
    fence_breaks (take through.sent (asked_lines m.cache)) (drop through.sent (asked_lines m.cache)) m through.mask failure
    (λ line among. inside line (among_is_asked m.cache line (among_take through.sent (asked_lines m.cache) line among)))
    (λ line among. inside line (among_is_asked m.cache line (among_drop through.sent (asked_lines m.cache) line among))) e
op_breaks (Invalidate l) m through failure normal inside e = one_breaks (Invalidate l) m through failure (λ is. no_fence is) normal inside e
  where
    no_fence : Invalidate l ≡ Fence → ⊥
    no_fence is = absurd cc
op_breaks Digest m through failure normal inside e = absurd cc

-- the image's form stays
pub breaks_length : (m : Machine) (failure : Failure) → Breaks m failure → length failure.left.image ≡ length m.image
breaks_length m failure b = ap (λ (i : Image). length i) b.tears.is ∙ length-with_line (send_lines b.sent m).image failure.line.0 b.tears.words ∙ send_lines_length b.sent m

pub breaks_normal : (m : Machine) (failure : Failure) → Breaks m failure → map eight m.image ≡ m.image → map eight failure.left.image ≡ failure.left.image
breaks_normal m failure b normal =
    subst (λ (i : Image). map eight i ≡ i) (sym b.tears.is) (normal-with_line (send_lines b.sent m).image (send_lines_normal b.sent m normal) failure.line.0 b.tears.words)

-- a cache's own move in which the media fails
fetch_tears_line : (image left : Image) (cache : Cache) (line : ℕ) → map eight image ≡ image → line < length image → (c : Cell)
    → option_map (λ words. with_line line words image) (failed_fetch (line_at image line) c) ≡ Some left → TearsLineAt line image left cache
fetch_tears_line image left cache line normal within Absent e = read_tears_line image left cache line normal within
    (sym (with_line-line_at image normal line) ∙ same_Some (with_line line (line_at image line) image) left e)
fetch_tears_line image left cache line normal within (Clean words) e = read_tears_line image left cache line normal within
    (sym (with_line-line_at image normal line) ∙ same_Some (with_line line (line_at image line) image) left e)
fetch_tears_line image left cache line normal within (Dirty a words) e = absurd cc

pub move_tears_line_at : (move : Move) (line : ℕ) (m : Machine) (through : ℕ) (left : Image) → map eight m.image ≡ m.image → line < length m.image
    → move_failed move line through m ≡ Some left → TearsLineAt line m.image left m.cache
move_tears_line_at Evict line m through left normal within e = send_tears_line m.image left m.cache line within through (failed_send through (line_at m.image line) (cell_at m.cache line)) refl e
move_tears_line_at (Leak mask) line m through left normal within e = leak_tears_line m.image left m.cache line mask within through
    (failed_leak mask through (line_at m.image line) (cell_at m.cache line)) refl e
move_tears_line_at (Fetch mask) line m through left normal within e = fetch_tears_line m.image left m.cache line normal within (cell_at m.cache line) e

pub move_tears_line : (move : Move) (line : ℕ) (m : Machine) (through : ℕ) (left : Image) → map eight m.image ≡ m.image → line < length m.image
    → move_failed move line through m ≡ Some left → TearsLine m.image left m.cache
move_tears_line move line m through left normal within e = (line, move_tears_line_at move line m through left normal within e)
