-- What one host does on its machine, as the protocol of all hosts has it.
use Rattle.std.proofs.Common.{ℕ, ◌==◌, if◌then◌else◌, ◌≡◌, ◌≢◌, ◌<◌, Bool, inl, inr, List, [], ◌∷◌, arith, length, map, Some, refl, sym, ap, ap₂, subst, ◌∙◌}
use Rattle.std.specs.Prelude.{slice_index, unwrap_or}
use Rattle.std.proofs.Math.Path.{fun_ext}
use Rattle.std.proofs.lemmas.Bool.{cases_eq, eq-eqb, ne_eqb}
use Rattle.fam_base.specs.Image.{Image, eight, line_at, with_line}
use Rattle.fam_base.proofs.ImageLemmas.{length-with_line, line_at-with_line, line_at-with_line_other}
use Rattle.fam_machine.specs.declared.cell.Cell.{Cell}
use Rattle.fam_machine.specs.declared.cell.Cell.TheVariants.{Absent}
use Rattle.fam_machine.specs.declared.op.Op.{Op}
use Rattle.fam_machine.specs.declared.op.Op.TheVariants.{Load, Store, WriteBack, Fence, Invalidate, Digest}
use Rattle.fam_machine.specs.Caches.{Cache, asked_lines, cell_at, with_cell}
use Rattle.fam_machine.specs.Fences.{IsAmong}
use Rattle.fam_machine.specs.HostMoves.{Move, move_failed, moved, moved_cell, moved_words}
use Rattle.fam_machine.specs.Moves.{Transfers}
use Rattle.fam_machine.specs.OneLine.{IsAsked, asked_for, brought, cleaned, current, sent, stored}
use Rattle.fam_machine.specs.Operations.{Breaking, Failure, Machine, failed, given, machine, operated, send_line, send_lines, IsInImage}
use Rattle.fam_machine.specs.TearsLine.{TearsLineAt}
use Rattle.fam_machine.proofs.CacheLemmas.{cell_at-with_cell_other, cell_at-with_cell_same}
use Rattle.fam_machine.proofs.FenceLemmas.{among_is_asked, none_asked}
use Rattle.fam_machine.proofs.OneOperation.{IsAt, cache_away, memory_away}
use Rattle.fam_machine.proofs.Slipping.{move_transfers, move_tears_line_at, move_wide, op_breaks}
use Rattle.fam_machine.proofs.WideLines.{eight_whole, sent_wide}
use Rattle.fam_protocol.specs.Core.{IsWide}
use Rattle.fam_protocol.specs.Hosted.{ActsAs}
use Rattle.fam_protocol.proofs.Lines.Fencing.{sends_at}
use Rattle.fam_protocol.proofs.Lines.Free.{wide_now}
use Rattle.fam_protocol.specs.SharedState.{SharedState, Breaks, ChangesOnly, LeavesAt, Sends, TransfersAt, Operates, all_sent, sends_one}

module _ (host : ℕ) (m m' : Machine) (old new : SharedState) (acts : ActsAs host m m' old new) where
  -- only one line of memory and of the host's cache is other
  one_line : (line : ℕ) → ((l : ℕ) → l ≢ line → line_at m'.image l ≡ line_at m.image l) → ((l : ℕ) → l ≢ line → cell_at m'.cache l ≡ cell_at m.cache l) → ChangesOnly host line old new
  one_line line memory cache = record {
    memory = λ l other. acts.after.memory l ∙ memory l other ∙ sym (acts.before.memory l);
    lines = lines;
    hosts = acts.others;
  }
    where
      lines : (h l : ℕ) → l ≢ line → new.copy h l ≡ old.copy h l
      lines h l other =
          elim (cases_eq h host) [
            | inl same ↦ subst (λ (k : ℕ). new.copy k l ≡ old.copy k l) (sym same) (acts.after.copies l ∙ cache l other ∙ sym (acts.before.copies l))
            | inr ne ↦ acts.others h l ne
          ]

  -- a list of moves at that line
  here_by : (line : ℕ) (w' : List ℕ) (c' : Cell) → line_at m'.image line ≡ w' → cell_at m'.cache line ≡ c'
      → Transfers (line_at m.image line) (cell_at m.cache line) w' c'
      → Transfers (old.memory line) (old.copy host line) (new.memory line) (new.copy host line)
  here_by line w' c' memory copy transfers =
      subst (λ (w : List ℕ). Transfers w (old.copy host line) (new.memory line) (new.copy host line)) (sym (acts.before.memory line))
      (subst (λ (c : Cell). Transfers (line_at m.image line) c (new.memory line) (new.copy host line)) (sym (acts.before.copies line))
      (subst (λ (w : List ℕ). Transfers (line_at m.image line) (cell_at m.cache line) w (new.copy host line)) (sym (acts.after.memory line ∙ memory))
      (subst (λ (c : Cell). Transfers (line_at m.image line) (cell_at m.cache line) w' c) (sym (acts.after.copies line ∙ copy)) transfers)))

  -- nothing is other
  nothing : m' ≡ m → new ≡ old
  nothing same = ap₂ (λ (memory : ℕ → List ℕ) (copy : ℕ → ℕ → Cell). record { memory = memory; copy = copy }) (fun_ext memory) (fun_ext (λ h. fun_ext (copies h)))
    where
      memory : (l : ℕ) → new.memory l ≡ old.memory l
      memory l = acts.after.memory l ∙ ap (λ (x : Machine). line_at x.image l) same ∙ sym (acts.before.memory l)

      copies : (h l : ℕ) → new.copy h l ≡ old.copy h l
      copies h l =
          elim (cases_eq h host) [
            | inl is ↦ subst (λ (k : ℕ). new.copy k l ≡ old.copy k l) (sym is) (acts.after.copies l ∙ ap (λ (x : Machine). cell_at x.cache l) same ∙ sym (acts.before.copies l))
            | inr ne ↦ acts.others h l ne
          ]

-- Lines that are sent, one after another.

-- the state between, where a host's machine has become another one
between : ℕ → Machine → SharedState → SharedState
between host m old = record { memory = line_at m.image; copy = λ h l. if h == host then cell_at m.cache l else old.copy h l }

between_here : (host : ℕ) (m : Machine) (old : SharedState) (l : ℕ) → (between host m old).copy host l ≡ cell_at m.cache l
unfolding between
between_here host m old l = ap (λ (b : Bool). if b then cell_at m.cache l else old.copy host l) (eq-eqb host host refl)

between_other : (host : ℕ) (m : Machine) (old : SharedState) (h l : ℕ) → h ≢ host → (between host m old).copy h l ≡ old.copy h l
unfolding between
between_other host m old h l ne = ap (λ (b : Bool). if b then cell_at m.cache l else old.copy h l) (ne_eqb h host ne)

-- one line that is sent
line_sends : (host line : ℕ) (m : Machine) (old new : SharedState) → ActsAs host m (send_line line m) old new → IsWide old → line < length m.image
    → LeavesAt host line old new (sent (old.memory line) (old.copy host line)) (cleaned (old.copy host line))
line_sends host line m old new acts wide within =
    let words = sent (line_at m.image line) (cell_at m.cache line) in
    let held : length (current (line_at m.image line) (cell_at m.cache line)) ≡ 8 =
    sym (ap₂ (λ (w : List ℕ) (c : Cell). length (current w c)) (acts.before.memory line) (acts.before.copies line)) ∙ wide.copies host line in
    record {
      only = one_line host m (send_line line m) old new acts line (λ l other. line_at-with_line_other m.image line words l other)
          (λ l other. cell_at-with_cell_other line (cleaned (cell_at m.cache line)) m.cache l other);
      memory_is = acts.after.memory line ∙ line_at-with_line m.image line words within
          ∙ eight_whole words (sent_wide (line_at m.image line) (cell_at m.cache line) refl held) ∙ ap₂ sent (sym (acts.before.memory line))
          (sym (acts.before.copies line));
      copy_is = acts.after.copies line ∙ cell_at-with_cell_same line (cleaned (cell_at m.cache line)) m.cache ∙ ap cleaned (sym (acts.before.copies line));
    }

sends_by : (host : ℕ) (lines : List ℕ) (m : Machine) (old new : SharedState) → ActsAs host m (send_lines lines m) old new → IsWide old
    → ((l : ℕ) → IsAmong l lines → l < length m.image) → Sends host lines old new
unfolding between
sends_by host [] m old new acts wide within = subst (λ (s : SharedState). Sends host [] old s) (sym (nothing host m m old new acts refl)) all_sent
sends_by host (line ∷ lines) m old new acts wide within =
    let next = between host (send_line line m) old in
    let first : ActsAs host m (send_line line m) old next =
    record {
      before = acts.before;
      after = record { memory = λ l. refl; copies = between_here host (send_line line m) old };
      others =
          between_other host (send_line line m) old;
    } in
    let left = line_sends host line m old next first wide (within line (inl refl)) in
    sends_one {next = next} left
    (sends_by host lines (send_line line m) next new
    (record { before = first.after; after = acts.after; others = λ h l ne. acts.others h l ne ∙ sym (between_other host (send_line line m) old h l ne) })
    (wide_now host line old next (sends_at host line old next left) wide)
    (λ l among. omega (arith, within l (inr among), length-with_line m.image line (sent (line_at m.image line) (cell_at m.cache line)))))

module _ (host : ℕ) (m : Machine) (old new : SharedState) where
  -- An operation that is done.

  -- what the host reads has eight words
  wide_here : (m' : Machine) → ActsAs host m m' old new → IsWide old → (l : ℕ) → length (current (line_at m.image l) (cell_at m.cache l)) ≡ 8
  wide_here m' acts wide l = sym (ap₂ (λ (w : List ℕ) (c : Cell). length (current w c)) (acts.before.memory l) (acts.before.copies l)) ∙ wide.copies host l

  -- what a send leaves in memory
  sent_here : (l : ℕ) → length (current (line_at m.image l) (cell_at m.cache l)) ≡ 8 → l < length m.image
      → line_at (operated (Invalidate (record { 0 = l })) m).image l ≡ sent (line_at m.image l) (cell_at m.cache l)
  sent_here l wide within =
      line_at-with_line m.image l (sent (line_at m.image l) (cell_at m.cache l)) within
      ∙ eight_whole (sent (line_at m.image l) (cell_at m.cache l)) (sent_wide (line_at m.image l) (cell_at m.cache l) refl wide)

  changes : (op : Op) (line : ℕ) → ActsAs host m (operated op m) old new → IsAt op line → ChangesOnly host line old new
  changes op line acts at = one_line host m (operated op m) old new acts line (λ l other. memory_away op m line l at other) (λ l other. cache_away op m line l at other)

  pub operates_by : (op : Op) → ActsAs host m (operated op m) old new → IsWide old → IsInImage op m → Operates op host old new (unwrap_or (given op m) 0)
  operates_by (Load l k) acts wide inside = (
    record {
      only = changes (Load l k) l.0 acts refl;
      memory_is = acts.after.memory l.0 ∙ sym (acts.before.memory l.0);
      copy_is = acts.after.copies l.0
          ∙ cell_at-with_cell_same l.0 (brought (line_at m.image l.0) (cell_at m.cache l.0)) m.cache
          ∙ ap₂ brought (sym (acts.before.memory l.0)) (sym (acts.before.copies l.0));
    },
    ap₂ (λ (w : List ℕ) (c : Cell). slice_index (current w c) k) (sym (acts.before.memory l.0)) (sym (acts.before.copies l.0)),
  )
  operates_by (Store l k value) acts wide inside =
      record {
        only = changes (Store l k value) l.0 acts refl;
        memory_is = acts.after.memory l.0 ∙ sym (acts.before.memory l.0);
        copy_is = acts.after.copies l.0
            ∙ cell_at-with_cell_same l.0 (stored k value (line_at m.image l.0) (cell_at m.cache l.0)) m.cache
            ∙ ap₂ (stored k value) (sym (acts.before.memory l.0)) (sym (acts.before.copies l.0));
      }
  operates_by (WriteBack l) acts wide inside =
      record {
        only = changes (WriteBack l) l.0 acts refl;
        memory_is = acts.after.memory l.0 ∙ sym (acts.before.memory l.0);
        copy_is = acts.after.copies l.0 ∙ cell_at-with_cell_same l.0 (asked_for (cell_at m.cache l.0)) m.cache ∙ ap asked_for (sym (acts.before.copies l.0));
      }
  operates_by Fence acts wide inside = record {
    lines = asked_lines m.cache;
    sends = sends_by host (asked_lines m.cache) m old new acts wide (λ l among. inside l (among_is_asked m.cache l among));
    none_asked = λ l is. none_asked m l (subst IsAsked (acts.after.copies l) is);
  }
  operates_by (Invalidate l) acts wide inside =
      record {
        only = changes (Invalidate l) l.0 acts refl;
        memory_is = acts.after.memory l.0
            ∙ sent_here l.0 (wide_here (operated (Invalidate l) m) acts wide l.0) inside
            ∙ ap₂ sent (sym (acts.before.memory l.0)) (sym (acts.before.copies l.0));
        copy_is = acts.after.copies l.0 ∙ cell_at-with_cell_same l.0 Absent m.cache;
      }
  operates_by Digest acts wide inside = nothing host m m old new acts refl

  -- A cache's own move.

  -- memory has these words of a line, and the host this copy of it
  pub transfers_by : (line : ℕ) (words : List ℕ) (cell : Cell) → ActsAs host m (machine (with_line line words m.image) (with_cell line cell m.cache)) old new → line < length m.image → length words ≡ 8
      → Transfers (line_at m.image line) (cell_at m.cache line) words cell → TransfersAt host line old new
  transfers_by line words cell acts within wide transfers =
      let after : Machine = machine (with_line line words m.image) (with_cell line cell m.cache) in
      record {
        only = one_line host m after old new acts line (λ l other. line_at-with_line_other m.image line words l other) (λ l other. cell_at-with_cell_other line cell m.cache l other);
        here = here_by host m after old new acts line words cell (line_at-with_line m.image line words within ∙ eight_whole words wide) (cell_at-with_cell_same line cell m.cache) transfers;
      }

  pub moves_by : (move : Move) (line : ℕ) → ActsAs host m (moved move line m) old new → IsWide old → line < length m.image → TransfersAt host line old new
  moves_by move line acts wide within =
      transfers_by line (moved_words move (line_at m.image line) (cell_at m.cache line)) (moved_cell move (line_at m.image line) (cell_at m.cache line)) acts within
      (move_wide move (line_at m.image line) (cell_at m.cache line) refl (wide_here (moved move line m) acts wide line))
      (move_transfers move (line_at m.image line) (cell_at m.cache line))

  -- The media fails.

  pub tears_line_by : (line : ℕ) (left : Image) → ActsAs host m (machine left m.cache) old new → TearsLineAt line m.image left m.cache → TransfersAt host line old new
  tears_line_by line left acts tears_line = record {
    only = one_line host m (machine left m.cache) old new acts line
        (λ l other. ap (λ (i : Image). line_at i l) tears_line.is ∙ line_at-with_line_other m.image line tears_line.words l other) (λ l other. refl);
    here = here_by host m (machine left m.cache) old new acts line tears_line.words (cell_at m.cache line)
        (ap (λ (i : Image). line_at i line) tears_line.is ∙ line_at-with_line m.image line tears_line.words tears_line.within ∙ eight_whole tears_line.words tears_line.wide) refl tears_line.transfers;
  }

  pub failed_move_transfers : (move : Move) (line through : ℕ) (left : Image) → ActsAs host m (machine left m.cache) old new
      → map eight m.image ≡ m.image → line < length m.image → move_failed move line through m ≡ Some left → TransfersAt host line old new
  failed_move_transfers move line through left acts normal within fails = tears_line_by line left acts (move_tears_line_at move line m through left normal within fails)

-- An operation in which the media fails.
pub failure_breaks : (host : ℕ) (m : Machine) (old new : SharedState) (op : Op) (through : Breaking) (failure : Failure)
    → ActsAs host m failure.left old new → IsWide old → map eight m.image ≡ m.image → IsInImage op m → failed through op m ≡ Some failure
    → Breaks host failure.line.0 old new
unfolding between
failure_breaks host m old new op through failure acts wide normal inside fails =
    let b = op_breaks op m through failure normal inside fails in
    let m' = send_lines b.sent m in
    let mid = between host m' old in
    let first : ActsAs host m m' old mid = record { before = acts.before; after = record { memory = λ l. refl; copies = between_here host m' old }; others = between_other host m' old } in
    let second : ActsAs host m' failure.left mid new = record { before = first.after; after = acts.after; others = λ h l ne. acts.others h l ne ∙ sym (between_other host m' old h l ne) } in
    record {
      lines = b.sent;
      between = mid;
      sends = sends_by host b.sent m old mid first wide b.inside;
      moves = tears_line_by host m' mid new failure.line.0 failure.left.image
          (subst (λ (x : Machine). ActsAs host m' x mid new) (ap (λ (c : Cache). machine failure.left.image c) b.cache) second) b.tears;
    }
