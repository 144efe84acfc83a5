-- The turn of a task that read a line of a file.
use Rattle.std.proofs.Common.{ℕ, refl, [], ◌+◌, ◌-◌, ◌*◌, ◌/◌, ◌%◌, ◌≤◌, ◌<◌, ◌≡◌, ◌⊎◌, List, length, take, drop, Bool, false, cond, sym, ◌∙◌, ap, subst, arith, inl, inr, ◌==◌, min, not}
use Rattle.std.specs.Prelude.{Option, Some, None, slice_index}
use Rattle.std.proofs.lemmas.Bool.{cases_lt, eqb-true, eq-eqb, not-false, lt-leb}
use Rattle.std.proofs.lemmas.List.{length-take, length-drop, get_or-take, get_or-drop}
use Rattle.std.proofs.lemmas.List.FromFn.{get_or-map-range_with_len, fill_by_all}
use Rattle.fam_base.specs.declared.cmd.Cmd.{Cmd}
use Rattle.fam_base.specs.declared.cmd.Cmd.TheVariants.{Verify, Read}
use Rattle.fam_base.specs.declared.cmd.Content.{Content}
use Rattle.fam_base.specs.declared.cmd.Content.TheVariants as content
use Rattle.fam_base.specs.declared.entry.Entry.{Entry}
use Rattle.fam_base.specs.Image.{byte_of}
use Rattle.fam_format.proofs.Stops.{find_none, none_found}
use Rattle.fam_commands.specs.declared.phase.Part.{Part}
use Rattle.fam_commands.specs.declared.phase.Part.TheVariants.{File as FileLines}
use Rattle.fam_commands.specs.Task.{Task, first_line, line_of, part_count, size_of, wanted_end, wanted_start, wanted_lines}
use Rattle.fam_commands.specs.Turns.{Ends, file_turn, compare_turn, line_difference, loaded_bytes}
use Rattle.fam_rules.specs.Asks.{File, file_at, ask, verified, compared, compared_at, first_difference, file_bytes_from}
use Rattle.fam_rules.specs.Content.{byte_in, content_byte}
use Rattle.fam_rules.specs.Place.{line_bytes}
use Rattle.fam_rules.specs.Reply.{Same, Differs, Length, Bytes}
use Rattle.fam_rules.specs.Written.{file_line, lines_of}
use Rattle.fam_protocol.specs.SharedState.{SharedState}
use Rattle.fam_protocol.specs.Core.{System, Core}
use Rattle.fam_protocol.specs.Tasks.{HasLoaded, KnowsHead, IsAtFile, IsOfSize, IsSameBelow, ReadsFile, kept_from, part_words}
use Rattle.fam_protocol.specs.After.{After, Named}
use Rattle.fam_protocol.proofs.Turns.PartWords.{loaded, loaded_is, loaded_next, part_word}
use Rattle.fam_protocol.proofs.Turns.Moved.{IsTask, moved, task_moved, head_moved, read_all_moved, after_moved}
use Rattle.fam_protocol.proofs.Turns.Tell.{ends}
use Rattle.fam_protocol.proofs.Settled.Found.{IsFirst, first_found, find_first}
use Rattle.fam_protocol.proofs.Turns.Head.{next_line}
use Rattle.fam_protocol.proofs.Turns.Slots.{commanded, ReadsLog}
use Rattle.fam_protocol.proofs.Turns.Decide.{has_first}
use Rattle.fam_protocol.proofs.Turns.Ask.{asked_file, asks_verify, asks_read}

-- word n of those that were loaded
pub loaded_at : (memory : ℕ → List ℕ) (t : Task) (part : Part) (j k n : ℕ) → 8 * j + k ≤ 8 * part_count t part → kept_from t.cmd part j ≤ n
    → n < 8 * j + k → slice_index (loaded memory t part j k) (n - kept_from t.cmd part j) ≡ part_word memory t part n
loaded_at memory t part j k n fits from below =
    ap (λ (l : List ℕ). slice_index l (n - kept_from t.cmd part j)) (loaded_is memory t part j k fits)
    ∙ get_or-map-range_with_len (part_word memory t part) (kept_from t.cmd part j) (8 * j + k - kept_from t.cmd part j) (n - kept_from t.cmd part j) n 0 (omega arith) (omega arith)

-- how many lines hold wanted bytes, where some byte is wanted
lines_are : (cmd : Cmd) (size : ℕ) → wanted_start cmd < wanted_end cmd size → wanted_lines cmd size ≡ lines_of (wanted_end cmd size) - first_line cmd
lines_are cmd size lt = rw (lt-leb (wanted_end cmd size) (wanted_start cmd) lt) refl

-- a test of two bytes
differ_false : (a b : ℕ) → not (a == b) ≡ false → a ≡ b
differ_false a b h = eqb-true a b (not-false (a == b) h)

false_differ : (a b : ℕ) → a ≡ b → not (a == b) ≡ false
false_differ a b h = ap not (eq-eqb a b h)

module _ (sys : System) (host : ℕ) (floor : Option ℕ) (named : Option Named) (s : SharedState) (all : List File) (settled : ℕ) (core : Core sys s all settled) (t : Task) where
  -- byte o of the file that is read, as memory has it
  file_byte : (u : Task) (j o : ℕ) → KnowsHead sys host u → IsAtFile j host floor u s all settled → (f : ReadsFile u all j) → o < f.file.entry.size
      → byte_in (s.memory (file_line f.file.entry (o / line_bytes))) (o % line_bytes) ≡ slice_index f.file.bytes o
  file_byte u j o head at f below = (core.stands f.i f.file f.is (omega (arith, f.below, at.all_read.gate.high, core.order))).bytes o below

  -- a line of a file that is compared
  module _ (path : List ℕ) (against : Content) (log : ReadsLog (Verify path against)) (j : ℕ)
      (is : IsTask sys host (commanded t (Verify path against))) (head : KnowsHead sys host (commanded t (Verify path against)))
      (at : IsAtFile j host floor (commanded t (Verify path against)) s all settled)
      (within : j < part_count (commanded t (Verify path against)) FileLines)
      (has : HasLoaded s.memory (commanded t (Verify path against)) FileLines j 8) where
    path_is : at.file.path ≡ path
    path_is = let e : Some path ≡ Some at.file.path = at.file.wanted in cc

    found : file_at (take t.gate all) path ≡ Some at.file.file
    found = ap (λ (q : List ℕ). file_at (take t.gate all) q) (sym path_is) ∙ at.file.found

    long : length at.file.file.bytes ≡ at.file.file.entry.size
    long = (core.history at.file.i at.file.file at.file.is).count

    size_is : size_of t.entry ≡ at.file.file.entry.size
    size_is = ap size_of at.file.entry

    -- a byte of the line
    byte_is : (b : ℕ) → b < 64 → 64 * j + b < at.file.file.entry.size → byte_in t.words b ≡ slice_index at.file.file.bytes (64 * j + b)
    byte_is b lt below =
        let n : ℕ = 8 * j + b / 8 in
        let phase : n - 8 * j ≡ b / 8 = omega arith in
        let line : (8 * j + b / 8) / 8 ≡ j = omega arith in
        let word : (8 * j + b / 8) % 8 ≡ b / 8 = omega arith in
        let here : (64 * j + b) / 64 ≡ j = omega arith in
        let byte : (64 * j + b) % 64 ≡ b = omega arith in
        let first : 0 + j ≡ j = omega arith in
        let word_is : slice_index t.words (b / 8) ≡ slice_index (s.memory (file_line at.file.file.entry j)) (b / 8) =
        ap (λ (k : ℕ). slice_index t.words k) (sym phase)
        ∙ ap (λ (l : List ℕ). slice_index l (n - 8 * j)) has
        ∙ loaded_at s.memory (commanded t (Verify path against)) FileLines j 8 n (omega (arith, within)) (omega arith) (omega arith)
        ∙ ap (λ (l : ℕ). slice_index (s.memory (line_of t.entry (0 + l))) ((8 * j + b / 8) % 8)) line
        ∙ ap (λ (k : ℕ). slice_index (s.memory (line_of t.entry (0 + j))) k) word
        ∙ ap (λ (l : ℕ). slice_index (s.memory (line_of t.entry l)) (b / 8)) first
        ∙ ap (λ (e : Option Entry). slice_index (s.memory (line_of e j)) (b / 8)) at.file.entry in
        ap (λ (w : ℕ). byte_of w (b % 8)) word_is
        ∙ ap (λ (l : ℕ). byte_in (s.memory (file_line at.file.file.entry l)) b) (sym here)
        ∙ ap (λ (k : ℕ). byte_in (s.memory (file_line at.file.file.entry ((64 * j + b) / 64))) k) (sym byte)
        ∙ file_byte (commanded t (Verify path against)) j (64 * j + b) head at at.file below

    -- what is answered of the whole file
    told : ask (take (length t.entries) all) (Verify path against) ≡ Some (verified (length t.entries) at.file.file.bytes against)
    told =
        asked_file sys host floor named s all settled core (Verify path against) log path (λ m bytes. verified m bytes against) (asks_verify path against) t at.file.file
        (has_first sys host floor s all settled core (Verify path against) log t at.all_read) found at.file.kind

    even_by : (c : Content) (m : ℕ) → IsOfSize (Verify path c) at.file.file.entry.size → verified m at.file.file.bytes c ≡ compared m at.file.file.bytes c
    even_by (content.Bytes given) m sized =
        ap (λ (b : Bool). cond b (compared m at.file.file.bytes (content.Bytes given)) (Length m (length at.file.file.bytes) (length given)))
        (eq-eqb (length given) (length at.file.file.bytes) (sized ∙ sym long))
    even_by (content.Seed seed) m sized = refl
    even_by content.Zero m sized = refl

    told_by : (o : Option ℕ) → first_difference at.file.file.bytes against ≡ o → ask (take (length t.entries) all) (Verify path against)
        ≡ Some (compared_at (length t.entries) at.file.file.bytes against o)
    told_by o e = told ∙ ap Some (even_by against (length t.entries) at.file.sized ∙ ap (compared_at (length t.entries) at.file.file.bytes against) e)

    -- the bytes of the line that agree
    agree : (k b : ℕ) → ((i : ℕ) → 0 ≤ i → i < k → not (byte_in t.words i == content_byte against (64 * j + i)) ≡ false) → b < k → b < 64
        → 64 * j + b < at.file.file.entry.size → slice_index at.file.file.bytes (64 * j + b) ≡ content_byte against (64 * j + b)
    agree k b none below lt inside = sym (byte_is b lt inside) ∙ differ_false (byte_in t.words b) (content_byte against (64 * j + b)) (none b (omega arith) below)

    -- the bytes before place b of the line agree
    same_to : (k : ℕ) → k ≤ 64 → ((i : ℕ) → 0 ≤ i → i < k → not (byte_in t.words i == content_byte against (64 * j + i)) ≡ false) → (o : ℕ)
        → o < 64 * j + k → o < at.file.file.entry.size → slice_index at.file.file.bytes o ≡ content_byte against o
    same_to k fits none o below inside = go (cases_lt o (64 * j))
      where
        go : (o < 64 * j) ⊎ (64 * j ≤ o) → slice_index at.file.file.bytes o ≡ content_byte against o
        go (inl lt) = at.file.same o lt inside
        go (inr le) =
            let is : 64 * j + (o - 64 * j) ≡ o = omega arith in
            subst (λ (o : ℕ). slice_index at.file.file.bytes o ≡ content_byte against o) is (agree k (o - 64 * j) none (omega arith) (omega arith) (omega arith))

    -- a byte that differs
    differs : (b : ℕ) → IsFirst (λ b. not (byte_in t.words b == content_byte against (64 * j + b))) 0 (min 64 (size_of t.entry - 64 * j)) b
        → After (Ends (Differs (length t.entries) (64 * j + b) (byte_in t.words b) (content_byte against (64 * j + b)))) sys host floor named
        (commanded t (Verify path against)) s all settled
    differs b first =
        let inside : 64 * j + b < at.file.file.entry.size = omega (arith, first.below, size_is) in
        let lt : b < 64 = omega (arith, first.below) in
        let byte : slice_index at.file.file.bytes (64 * j + b) ≡ byte_in t.words b = sym (byte_is b lt inside) in
        let whole : IsFirst (λ o. not (slice_index at.file.file.bytes o == content_byte against o)) 0 (length at.file.file.bytes) (64 * j + b) = record {
          from = omega arith;
          below = omega (arith, long);
          passes = ap (λ (x : ℕ). not (x == content_byte against (64 * j + b))) byte ∙ first.passes;
          before = λ i from below. false_differ (slice_index at.file.file.bytes i) (content_byte against i) (same_to b (omega arith) first.before i below (omega arith));
        } in
        let h = has_first sys host floor s all settled core (Verify path against) log t at.all_read in
        ends sys host floor named s all settled core (commanded t (Verify path against)) (Differs (length t.entries) (64 * j + b) (byte_in t.words b) (content_byte against (64 * j + b)))
        (record {
          low = h.low;
          high = h.high;
          is = told_by (Some (64 * j + b)) (find_first (λ o. not (slice_index at.file.file.bytes o == content_byte against o)) 0 (length at.file.file.bytes) (64 * j + b) whole)
              ∙ ap (λ (x : ℕ). Some (Differs (length t.entries) (64 * j + b) x (content_byte against (64 * j + b)))) byte;
        }) h.shared

    -- the line has the content's bytes
    same_line : ((i : ℕ) → 0 ≤ i → i < 0 + min 64 (size_of t.entry - 64 * j) → not (byte_in t.words i == content_byte against (64 * j + i)) ≡ false)
        → IsSameBelow (Verify path against) at.file.file (line_bytes * (j + 1))
    same_line none o below inside =
        same_to (min 64 (size_of t.entry - 64 * j)) (omega arith) (λ i from lt. none i from (omega arith)) o (omega (arith, size_is)) inside

    -- the lines that were read hold all bytes
    covers : (o : ℕ) → o < length at.file.file.bytes → part_count (commanded t (Verify path against)) FileLines ≤ j + 1 → o < line_bytes * (j + 1)
    covers o below last =
        let some : 0 < size_of t.entry = omega (arith, long, size_is) in
        let lines : wanted_lines (Verify path against) (size_of t.entry) ≡ lines_of (size_of t.entry) - first_line (Verify path against) = lines_are (Verify path against) (size_of t.entry) some in
        omega (arith, long, size_is)

    -- all lines have the content's bytes
    ends_same : IsSameBelow (Verify path against) at.file.file (line_bytes * (j + 1))
        → part_count (commanded t (Verify path against)) FileLines ≤ j + 1
        → After (Ends (Same (length t.entries))) sys host floor named (commanded t (Verify path against)) s all settled
    ends_same same last =
        let h = has_first sys host floor s all settled core (Verify path against) log t at.all_read in
        let none : first_difference at.file.file.bytes against ≡ None =
        find_none (λ o. not (slice_index at.file.file.bytes o == content_byte against o)) 0 (length at.file.file.bytes)
        (λ o from below. false_differ (slice_index at.file.file.bytes o) (content_byte against o) (same o (covers o (omega arith) last) (omega (arith, long)))) in
        ends sys host floor named s all settled core (commanded t (Verify path against)) (Same (length t.entries)) (record { low = h.low; high = h.high; is = told_by None none }) h.shared

    compares : (o : Option ℕ) → line_difference (commanded t (Verify path against)) against j ≡ o
        → After (compare_turn (commanded t (Verify path against)) against j o) sys host floor named (commanded t (Verify path against)) s all settled
    compares (Some b) e = differs b (first_found _ 0 (min 64 (size_of t.entry - 64 * j)) b e)
    compares None e =
        let u : Task = commanded t (Verify path against) in
        let v : Task = moved u u.phase [] in
        let same : IsSameBelow (Verify path against) at.file.file (line_bytes * (j + 1)) = same_line (none_found _ 0 (min 64 (size_of t.entry - 64 * j)) e) in
        let next : IsAtFile (j + 1) host floor v s all settled = record {
          all_read = read_all_moved u u.phase [] host floor s all settled at.all_read;
          file = record {
            file = at.file.file;
            i = at.file.i;
            is = at.file.is;
            below = at.file.below;
            entry = at.file.entry;
            path = at.file.path;
            wanted = at.file.wanted;
            found = at.file.found;
            kind = at.file.kind;
            sized = at.file.sized;
            same = same;
          };
        } in
        let kept : 0 ≡ 8 * (j + 1) + 0 - 8 * (j + 1) = omega arith in
        after_moved u u.phase [] sys floor named all settled (compare_turn u against j None) host s
        (next_line sys host floor named s all settled core FileLines j v (Ends (Same (length t.entries))) (task_moved u u.phase [] sys host is)
        (head_moved u u.phase [] sys host head, next)
        (λ sure. ap (λ (n : ℕ). take n (drop (8 * (j + 1)) (part_words s.memory v FileLines))) kept)
        (λ last. after_moved v u.phase u.words sys floor named all settled (Ends (Same (length t.entries))) host s (ends_same same last)))

    pub verify_line : After (file_turn (Verify path against) (commanded t (Verify path against)) j) sys host floor named (commanded t (Verify path against)) s all settled
    verify_line = compares (line_difference (commanded t (Verify path against)) against j) refl

  -- a line of a file whose bytes are read
  module _ (path : List ℕ) (offset count : ℕ) (log : ReadsLog (Read path offset count)) (j : ℕ)
      (is : IsTask sys host (commanded t (Read path offset count))) (head : KnowsHead sys host (commanded t (Read path offset count)))
      (at : IsAtFile j host floor (commanded t (Read path offset count)) s all settled)
      (within : j < part_count (commanded t (Read path offset count)) FileLines)
      (has : HasLoaded s.memory (commanded t (Read path offset count)) FileLines j 8) where
    -- byte i of those that are wanted, where all lines were read
    wanted_byte : (i o : ℕ) → offset + i ≡ o → o < min (size_of t.entry) (offset + count)
        → part_count (commanded t (Read path offset count)) FileLines ≤ j + 1 → byte_in t.words (offset % 64 + i) ≡ slice_index at.file.file.bytes o
    wanted_byte i o phase below last =
        let u : Task = commanded t (Read path offset count) in
        let b : ℕ = offset % 64 + i in
        let size : size_of t.entry ≡ at.file.file.entry.size = ap size_of at.file.entry in
        let lines : wanted_lines (Read path offset count) (size_of t.entry) ≡ lines_of (min (size_of t.entry) (offset + count)) - offset / 64 =
        lines_are (Read path offset count) (size_of t.entry) (omega arith) in
        let split : offset ≡ 64 * (offset / 64) + offset % 64 = omega arith in
        let line : offset / 64 + (offset % 64 + i) / 8 / 8 ≡ o / 64 = omega arith in
        let word : (offset % 64 + i) / 8 % 8 ≡ o % 64 / 8 = omega arith in
        let byte : (offset % 64 + i) % 8 ≡ o % 64 % 8 = omega arith in
        let covered : (offset % 64 + i) / 8 < 8 * j + 8 = omega (arith, lines, last) in
        let word_is : slice_index t.words ((offset % 64 + i) / 8) ≡ slice_index (s.memory (file_line at.file.file.entry (o / 64))) (o % 64 / 8) =
        ap (λ (l : List ℕ). slice_index l ((offset % 64 + i) / 8)) has
        ∙ (let none : (offset % 64 + i) / 8 - 0 ≡ (offset % 64 + i) / 8 = omega arith in ap (λ (n : ℕ). slice_index (loaded s.memory u FileLines j 8) n) (sym none))
        ∙ loaded_at s.memory u FileLines j 8 ((offset % 64 + i) / 8) (omega (arith, within)) (omega arith) covered
        ∙ ap (λ (l : ℕ). slice_index (s.memory (line_of t.entry l)) ((offset % 64 + i) / 8 % 8)) line
        ∙ ap (λ (k : ℕ). slice_index (s.memory (line_of t.entry (o / 64))) k) word
        ∙ ap (λ (e : Option Entry). slice_index (s.memory (line_of e (o / 64))) (o % 64 / 8)) at.file.entry in
        ap (λ (w : ℕ). byte_of w ((offset % 64 + i) % 8)) word_is
        ∙ ap (λ (k : ℕ). byte_of (slice_index (s.memory (file_line at.file.file.entry (o / 64))) (o % 64 / 8)) k) byte
        ∙ file_byte u j o head at at.file (omega (arith, size))

    bytes_are : part_count (commanded t (Read path offset count)) FileLines ≤ j + 1 → loaded_bytes (commanded t (Read path offset count)) offset ≡ file_bytes_from offset count at.file.file.bytes
    bytes_are last =
        let size : size_of t.entry ≡ at.file.file.entry.size = ap size_of at.file.entry in
        let long : length at.file.file.bytes ≡ at.file.file.entry.size = (core.history at.file.i at.file.file at.file.is).count in
        let counted : length (take count (drop offset at.file.file.bytes)) ≡ min (size_of t.entry) (offset + count) - offset =
        length-take count (drop offset at.file.file.bytes)
        ∙ (let rest : length (drop offset at.file.file.bytes) ≡ length at.file.file.bytes - offset =
        length-drop offset at.file.file.bytes in omega arith) in
        sym (fill_by_all (λ i. byte_in t.words (offset % 64 + i)) (take count (drop offset at.file.file.bytes)) (min (size_of t.entry) (offset + count) - offset) 0 counted
        (λ i below. get_or-take count (drop offset at.file.file.bytes) i 0 (omega arith) ∙ get_or-drop offset at.file.file.bytes i 0 ∙ sym (wanted_byte i (offset + i) refl (omega arith) last)))

    pub read_line : After (file_turn (Read path offset count) (commanded t (Read path offset count)) j) sys host floor named (commanded t (Read path offset count)) s all settled
    read_line =
        let u : Task = commanded t (Read path offset count) in
        let h = has_first sys host floor s all settled core (Read path offset count) log t at.all_read in
        let path_is : at.file.path ≡ path = (let e : Some path ≡ Some at.file.path = at.file.wanted in cc) in
        let found : file_at (take t.gate all) path ≡ Some at.file.file = ap (λ (q : List ℕ). file_at (take t.gate all) q) (sym path_is) ∙ at.file.found in
        let told : ask (take (length t.entries) all) (Read path offset count) ≡ Some (Bytes (length t.entries) (file_bytes_from offset count at.file.file.bytes)) =
        asked_file sys host floor named s all settled core (Read path offset count) log path (λ m bytes. Bytes m (file_bytes_from offset count bytes))
        (asks_read path offset count) t at.file.file h found at.file.kind in
        let next : IsAtFile (j + 1) host floor u s all settled = record {
          all_read = at.all_read;
          file = record {
            file = at.file.file;
            i = at.file.i;
            is = at.file.is;
            below = at.file.below;
            entry = at.file.entry;
            path = at.file.path;
            wanted = at.file.wanted;
            found = at.file.found;
            kind = at.file.kind;
            sized = at.file.sized;
            same = tt;
          };
        } in
        next_line sys host floor named s all settled core FileLines j u (Ends (Bytes (length t.entries) (loaded_bytes u offset))) is (head, next)
        (λ sure. has ∙ loaded_next s.memory u FileLines j refl refl)
        (λ last. ends sys host floor named s all settled core u (Bytes (length t.entries) (loaded_bytes u offset))
        (record { low = h.low; high = h.high; is = told ∙ ap (λ (bytes : List ℕ). Some (Bytes (length t.entries) bytes)) (sym (bytes_are last)) }) h.shared)
