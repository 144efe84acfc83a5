-- The decision of a command that asks for a file.
use Rattle.std.proofs.Common.{ℕ, refl, [], ◌+◌, ◌-◌, ◌*◌, ◌≤◌, ◌<◌, ◌≡◌, List, length, take, drop, Bool, true, false, cond, sym, ◌∙◌, ap, subst, arith, ◌==◌, min, nat_le, not, get_or}
use Rattle.std.specs.Prelude.{Option, Some, None, slice_get}
use Rattle.std.specs.Option.{option_map}
use Rattle.std.specs.List.{find, position_or_len, range_with_len}
use Rattle.std.specs.FinMap as finmap
use Rattle.std.proofs.lemmas.Bool.{lt-leb, leb-true, leb-false}
use Rattle.std.proofs.lemmas.Bool.Decides.{nat_tests}
use Rattle.std.proofs.lemmas.List.{length-take, length-drop, nil_from_length}
use Rattle.std.proofs.lemmas.List.Folds.{find_at}
use Rattle.std.proofs.lemmas.Option.{slice_get_within}
use Rattle.fam_base.specs.declared.cmd.Cmd.{Cmd}
use Rattle.fam_base.specs.declared.cmd.Cmd.TheVariants.{Verify, Read}
use Rattle.fam_base.specs.declared.cmd.Content.{Content}
use Rattle.fam_base.specs.declared.cmd.Content.TheVariants as content
use Rattle.fam_base.specs.declared.entry.Entry.{Entry}
use Rattle.fam_base.specs.declared.entry.Kind.{Kind}
use Rattle.fam_base.specs.declared.entry.Kind.TheVariants as kind
use Rattle.fam_base.specs.PathOrder.{path_eq}
use Rattle.fam_format.specs.Tree.{replay}
use Rattle.fam_commands.specs.declared.phase.Part.TheVariants.{File as FileLines}
use Rattle.fam_commands.specs.declared.phase.Phase.TheVariants as at
use Rattle.fam_commands.specs.Task.{Task, wanted_end, wanted_start, wanted_lines}
use Rattle.fam_commands.specs.Turns.{Turn, Ends, found_turn, kind_turn, read_file, verify_lines, verify_turn, bytes_turn, slots_read}
use Rattle.fam_rules.specs.Asks.{File, entries_of, file_at, ask, of_file, of_kind, verified, compared, compared_at, file_bytes_from}
use Rattle.fam_rules.specs.Content.{content_byte}
use Rattle.fam_rules.specs.Place.{line_bytes}
use Rattle.fam_rules.specs.Reply.{Reply, Same, Length, Bytes, NotFound, IsDirectory}
use Rattle.fam_protocol.specs.SharedState.{SharedState}
use Rattle.fam_protocol.specs.Core.{System, Core}
use Rattle.fam_protocol.specs.Tasks.{HasReadAll, IsOfSize, IsSameBelow, AtPhase, wanted_path}
use Rattle.fam_protocol.specs.After.{After, Named}
use Rattle.fam_protocol.proofs.Turns.PartWords.{loaded_none}
use Rattle.fam_protocol.proofs.Turns.Moved.{IsTask}
use Rattle.fam_protocol.proofs.Turns.Tell.{goes, ends}
use Rattle.fam_protocol.proofs.Settled.Settle.{get_prefix}
use Rattle.fam_protocol.proofs.Settled.Lists.{history_prefix}
use Rattle.fam_protocol.proofs.Settled.Found.{found_at}
use Rattle.fam_protocol.proofs.Turns.Slots.{commanded, ReadsLog, all_entries}
use Rattle.fam_protocol.proofs.Turns.Decide.{HasFirst, has_first}

-- which entry stands at a path, and where
pub record StandsAt (all : List File) (n : ℕ) (f : File) : Type 0 where
  pub i : ℕ
  pub is : slice_get all i ≡ Some f
  pub below : i < n

-- a file that is found stands at some number below
pub stands_at : (all : List File) (n : ℕ) (path : List ℕ) (f : File) → file_at (take n all) path ≡ Some f → StandsAt all n f
stands_at all n path f found =
    let i : ℕ = position_or_len (λ (g : File). path_eq g.entry.path path) (take n all) in
    let there : slice_get (take n all) i ≡ Some f = sym (find_at (λ (g : File). path_eq g.entry.path path) (take n all)) ∙ found in
    let below : i < length (take n all) = slice_get_within (take n all) i f there in
    let lt : i < n = omega (arith, length-take n all) in
    record { i = i; is = sym (get_prefix i n all lt) ∙ there; below = lt }

-- some byte is wanted, so some line is
pub lines_some : (cmd : Cmd) (size : ℕ) → wanted_start cmd < wanted_end cmd size → 0 < wanted_lines cmd size
lines_some cmd size lt =
    rw (lt-leb (wanted_end cmd size) (wanted_start cmd) lt) (omega arith)

module _ (sys : System) (host : ℕ) (floor : Option ℕ) (named : Option Named) (s : SharedState) (all : List File) (settled : ℕ)
    (core : Core sys s all settled) (cmd : Cmd) (log : ReadsLog cmd) (path : List ℕ) (question : ℕ → List ℕ → Reply)
    (asks : (files : List File) → ask files cmd ≡ Some (of_file (length files) (file_at files path) (question (length files)))) (t : Task) where
  -- the answer, by what stands at the path
  pub asked_at : (o : Option File) → HasFirst floor (commanded t cmd) s all → file_at (take t.gate all) path ≡ o
      → ask (take (length t.entries) all) cmd ≡ Some (of_file (length t.entries) o (question (length t.entries)))
  asked_at o h found =
      asks (take (length t.entries) all)
      ∙ ap (λ (n : ℕ). Some (of_file n (file_at (take (length t.entries) all) path) (question n))) h.prefix
      ∙ ap (λ (there : Option File). Some (of_file (length t.entries) there (question (length t.entries)))) (ap (λ (n : ℕ). file_at (take n all) path) h.count ∙ found)

  -- the answer of a file
  pub asked_file : (f : File) → HasFirst floor (commanded t cmd) s all → file_at (take t.gate all) path ≡ Some f → f.entry.kind ≡ kind.File
      → ask (take (length t.entries) all) cmd ≡ Some (question (length t.entries) f.bytes)
  asked_file f h found file =
      asked_at (Some f) h found ∙ ap (λ (k : Kind). Some (of_kind (length t.entries) k (question (length t.entries) f.bytes))) file

  -- the file's lines are to be read
  pub starts_file : (f : File) → IsTask sys host (commanded t cmd) → AtPhase at.Decide sys host floor (commanded t cmd) s all settled
      → wanted_path cmd ≡ Some path → file_at (take t.gate all) path ≡ Some f → f.entry.kind ≡ kind.File → IsOfSize cmd f.entry.size
      → IsSameBelow cmd f (line_bytes * 0) → 0 < wanted_lines cmd f.entry.size
      → After (read_file (commanded t cmd) f.entry) sys host floor named (commanded t cmd) s all settled
  starts_file f is g wanted found file sized same some =
      let u : Task = commanded t cmd in
      let t' : Task = record u { entry = Some f.entry; phase = at.Drop FileLines 0; words = [] } in
      let there = stands_at all t.gate path f found in
      let entries : t'.entries ≡ entries_of (take (slots_read t') all) = all_entries cmd log t host floor s all settled g.1 ∙ ap (λ (n : ℕ). entries_of (take n all)) (sym (log.slots t')) in
      let all_read : HasReadAll host floor t' s all settled = record {
        gate = record { low = g.1.gate.low; high = g.1.gate.high; writer = g.1.gate.writer };
        read = log.read (slots_read t') t' all entries;
      } in
      goes sys host floor named s all settled core u t' (record { command = is.command; me = is.me; lines = is.lines }) (
        (
          record { params = g.0.params; master = g.0.master },
          record {
            all_read = all_read;
            file = record { file = f; i = there.i; is = there.is; below = there.below; entry = refl; path = path; wanted = wanted; found = found; kind = file; sized = sized; same = same };
          },
        ),
        some,
        λ sure. loaded_none s.memory t' FileLines,
      )

  -- nothing, a directory or a file stands at the path
  module _ (turn : Entry → Turn) (g : AtPhase at.Decide sys host floor (commanded t cmd) s all settled)
      (of_a_file : (f : File) → file_at (take t.gate all) path ≡ Some f → f.entry.kind ≡ kind.File
      → After (turn f.entry) sys host floor named (commanded t cmd) s all settled) where
    by_kind : (f : File) (k : Kind) → file_at (take t.gate all) path ≡ Some f → f.entry.kind ≡ k
        → After (kind_turn (commanded t cmd) k (turn f.entry)) sys host floor named (commanded t cmd) s all settled
    by_kind f kind.File found is = of_a_file f found is
    by_kind f kind.Directory found is =
        let h = has_first sys host floor s all settled core cmd log t g.1 in
        let told : ask (take (length t.entries) all) cmd ≡ Some (IsDirectory (length t.entries)) =
        asked_at (Some f) h found ∙ ap (λ (k : Kind). Some (of_kind (length t.entries) k (question (length t.entries) f.bytes))) is in
        ends sys host floor named s all settled core (commanded t cmd) (IsDirectory (length t.entries)) (record { low = h.low; high = h.high; is = told }) h.shared

    by_there : (o : Option File) → file_at (take t.gate all) path ≡ o
        → After (found_turn (commanded t cmd) (option_map (λ (f : File). f.entry) o) turn) sys host floor named (commanded t cmd) s all settled
    by_there None found =
        let h = has_first sys host floor s all settled core cmd log t g.1 in
        ends sys host floor named s all settled core (commanded t cmd) (NotFound (length t.entries)) (record { low = h.low; high = h.high; is = asked_at None h found }) h.shared
    by_there (Some f) found = by_kind f f.entry.kind found refl

    pub found_turned : After (found_turn (commanded t cmd) (finmap.get (replay t.entries) path) turn) sys host floor named (commanded t cmd) s all settled
    found_turned =
        let is : finmap.get (replay t.entries) path ≡ option_map (λ (f : File). f.entry) (file_at (take t.gate all) path) =
        ap (λ (l : List Entry). finmap.get (replay l) path) (all_entries cmd log t host floor s all settled g.1)
        ∙ found_at sys.params (take t.gate all) path (history_prefix sys.params t.gate all core.history) in
        subst (λ (o : Option Entry). After (found_turn (commanded t cmd) o turn) sys host floor named (commanded t cmd) s all settled) (sym is) (by_there (file_at (take t.gate all) path) refl)

-- what is asked of a file's bytes beside a content
pub asks_verify : (path : List ℕ) (against : Content) (files : List File)
    → ask files (Verify path against) ≡ Some (of_file (length files) (file_at files path) (λ bytes. verified (length files) bytes against))
asks_verify path against files = refl

-- what a read asks
pub asks_read : (path : List ℕ) (offset count : ℕ) (files : List File)
    → ask files (Read path offset count)
    ≡ Some (of_file (length files) (file_at files path) (λ bytes. Bytes (length files) (file_bytes_from offset count bytes)))
asks_read path offset count files = refl

-- no bytes from past the end on
no_bytes : (offset count : ℕ) (bytes : List ℕ) → min (length bytes) (offset + count) ≤ offset → file_bytes_from offset count bytes ≡ []
no_bytes offset count bytes past =
    nil_from_length (take count (drop offset bytes)) (length-take count (drop offset bytes) ∙ (let long : length (drop offset bytes) ≡ length bytes - offset = length-drop offset bytes in omega arith))

-- a file of no bytes has no difference
no_bytes_same : (m : ℕ) (bytes : List ℕ) (against : Content) → length bytes ≡ 0 → compared m bytes against ≡ Same m
no_bytes_same m bytes against none = ap (λ (n : ℕ). compared_at m bytes against (find (λ o. not (get_or bytes o 0 == content_byte against o)) (range_with_len 0 n))) none

module _ (sys : System) (host : ℕ) (floor : Option ℕ) (named : Option Named) (s : SharedState) (all : List File) (settled : ℕ) (core : Core sys s all settled) (t : Task) where
  -- a file is compared with a content
  module _ (path : List ℕ) (against : Content) (log : ReadsLog (Verify path against)) (is : IsTask sys host (commanded t (Verify path against)))
      (g : AtPhase at.Decide sys host floor (commanded t (Verify path against)) s all settled) where
    verify_starts : (f : File) → file_at (take t.gate all) path ≡ Some f → f.entry.kind ≡ kind.File → IsOfSize (Verify path against) f.entry.size
        → ((m : ℕ) → verified m f.bytes against ≡ compared m f.bytes against)
        → After (verify_lines (commanded t (Verify path against)) f.entry) sys host floor named (commanded t (Verify path against)) s all settled
    verify_starts f found file sized even = go (f.entry.size == 0) refl
      where
        go : (b : Bool) → (f.entry.size == 0) ≡ b
            → After (cond b (Ends (Same (length t.entries))) (read_file (commanded t (Verify path against)) f.entry)) sys host floor named
            (commanded t (Verify path against)) s all settled
        go true e =
            let there = stands_at all t.gate path f found in
            let none : length f.bytes ≡ 0 = (core.history there.i f there.is).count ∙ (let size : f.entry.size ≡ 0 = grind (arith, nat_tests) in size) in
            let h = has_first sys host floor s all settled core (Verify path against) log t g.1 in
            let told : ask (take (length t.entries) all) (Verify path against) ≡ Some (Same (length t.entries)) =
            asked_file sys host floor named s all settled core (Verify path against) log path (λ m bytes. verified m bytes against) (asks_verify path against) t f h found file
            ∙ ap Some (even (length t.entries) ∙ no_bytes_same (length t.entries) f.bytes against none) in
            ends sys host floor named s all settled core (commanded t (Verify path against)) (Same (length t.entries)) (record { low = h.low; high = h.high; is = told }) h.shared
        go false e =
            let some : 0 < f.entry.size = grind (arith, nat_tests) in
            starts_file sys host floor named s all settled core (Verify path against) log path (λ m bytes. verified m bytes against)
            (asks_verify path against) t f is g refl found file sized (λ o below within. absurd (omega arith))
            (lines_some (Verify path against) f.entry.size some)

  -- given bytes must be as many as the file's
  verify_given : (path given : List ℕ) (log : ReadsLog (Verify path (content.Bytes given)))
      → IsTask sys host (commanded t (Verify path (content.Bytes given)))
      → AtPhase at.Decide sys host floor (commanded t (Verify path (content.Bytes given))) s all settled → (f : File)
      → file_at (take t.gate all) path ≡ Some f → f.entry.kind ≡ kind.File
      → After (verify_turn (commanded t (Verify path (content.Bytes given))) f.entry (content.Bytes given)) sys host floor named
      (commanded t (Verify path (content.Bytes given))) s all settled
  verify_given path given log is g f found file = go (length given == f.entry.size) refl
    where
      count : length f.bytes ≡ f.entry.size
      count = let there = stands_at all t.gate path f found in (core.history there.i f there.is).count

      even : (b : Bool) (m : ℕ) → (length given == f.entry.size) ≡ b
          → verified m f.bytes (content.Bytes given) ≡ cond b (compared m f.bytes (content.Bytes given)) (Length m f.entry.size (length given))
      even b m e =
          ap (λ (n : ℕ). cond (length given == n) (compared m f.bytes (content.Bytes given)) (Length m n (length given))) count
          ∙ ap (λ (test : Bool). cond test (compared m f.bytes (content.Bytes given)) (Length m f.entry.size (length given))) e

      go : (b : Bool) → (length given == f.entry.size) ≡ b
          → After (cond b (verify_lines (commanded t (Verify path (content.Bytes given))) f.entry)
          (Ends (Length (length t.entries) f.entry.size (length given)))) sys host floor named (commanded t (Verify path (content.Bytes given))) s all
          settled
      go true e = verify_starts path (content.Bytes given) log is g f found file (grind (arith, nat_tests)) (λ m. even true m e)
      go false e =
          let h = has_first sys host floor s all settled core (Verify path (content.Bytes given)) log t g.1 in
          let told : ask (take (length t.entries) all) (Verify path (content.Bytes given)) ≡ Some (Length (length t.entries) f.entry.size (length given)) =
          asked_file sys host floor named s all settled core (Verify path (content.Bytes given)) log path
          (λ m bytes. verified m bytes (content.Bytes given)) (asks_verify path (content.Bytes given)) t f h found file
          ∙ ap Some (even false (length t.entries) e) in
          ends sys host floor named s all settled core (commanded t (Verify path (content.Bytes given)))
          (Length (length t.entries) f.entry.size (length given)) (record { low = h.low; high = h.high; is = told }) h.shared

  verify_turned : (path : List ℕ) (against : Content) (log : ReadsLog (Verify path against)) → IsTask sys host (commanded t (Verify path against))
      → AtPhase at.Decide sys host floor (commanded t (Verify path against)) s all settled → (f : File) → file_at (take t.gate all) path ≡ Some f
      → f.entry.kind ≡ kind.File → After (verify_turn (commanded t (Verify path against)) f.entry against) sys host floor named
      (commanded t (Verify path against)) s all settled
  verify_turned path (content.Bytes given) log is g f found file = verify_given path given log is g f found file
  verify_turned path (content.Seed seed) log is g f found file = verify_starts path (content.Seed seed) log is g f found file tt (λ m. refl)
  verify_turned path content.Zero log is g f found file = verify_starts path content.Zero log is g f found file tt (λ m. refl)

  -- the turn of a decision to compare a file
  pub decide_verify : (path : List ℕ) (against : Content) (log : ReadsLog (Verify path against)) → IsTask sys host (commanded t (Verify path against))
      → AtPhase at.Decide sys host floor (commanded t (Verify path against)) s all settled
      → After (found_turn (commanded t (Verify path against)) (finmap.get (replay t.entries) path)
      (λ e. verify_turn (commanded t (Verify path against)) e against)) sys host floor named (commanded t (Verify path against)) s all settled
  decide_verify path against log is g =
      found_turned sys host floor named s all settled core (Verify path against) log path (λ m bytes. verified m bytes against)
      (asks_verify path against) t (λ e. verify_turn (commanded t (Verify path against)) e against) g
      (λ f found file. verify_turned path against log is g f found file)

  -- bytes of a file are read
  module _ (path : List ℕ) (offset count : ℕ) (log : ReadsLog (Read path offset count)) (is : IsTask sys host (commanded t (Read path offset count)))
      (g : AtPhase at.Decide sys host floor (commanded t (Read path offset count)) s all settled) where
    bytes_turned : (f : File) → file_at (take t.gate all) path ≡ Some f → f.entry.kind ≡ kind.File
        → After (bytes_turn (commanded t (Read path offset count)) f.entry offset) sys host floor named (commanded t (Read path offset count)) s all
        settled
    bytes_turned f found file = go (nat_le (min f.entry.size (offset + count)) offset) refl
      where
        go : (b : Bool) → nat_le (min f.entry.size (offset + count)) offset ≡ b
            → After (cond b (Ends (Bytes (length t.entries) [])) (read_file (commanded t (Read path offset count)) f.entry)) sys host floor named
            (commanded t (Read path offset count)) s all settled
        go true e =
            let there = stands_at all t.gate path f found in
            let long : length f.bytes ≡ f.entry.size = (core.history there.i f there.is).count in
            let past : min f.entry.size (offset + count) ≤ offset = leb-true (min f.entry.size (offset + count)) offset e in
            let h = has_first sys host floor s all settled core (Read path offset count) log t g.1 in
            let told : ask (take (length t.entries) all) (Read path offset count) ≡ Some (Bytes (length t.entries) []) =
            asked_file sys host floor named s all settled core (Read path offset count) log path
            (λ m bytes. Bytes m (file_bytes_from offset count bytes)) (asks_read path offset count) t f h found file
            ∙ ap (λ (bytes : List ℕ). Some (Bytes (length t.entries) bytes)) (no_bytes offset count f.bytes (omega arith)) in
            ends sys host floor named s all settled core (commanded t (Read path offset count)) (Bytes (length t.entries) []) (record { low = h.low; high = h.high; is = told }) h.shared
        go false e =
            let some : offset < min f.entry.size (offset + count) = leb-false (min f.entry.size (offset + count)) offset e in
            starts_file sys host floor named s all settled core (Read path offset count) log path
            (λ m bytes. Bytes m (file_bytes_from offset count bytes)) (asks_read path offset count) t f is g refl found file tt tt
            (lines_some (Read path offset count) f.entry.size some)

    pub decide_read : After (found_turn (commanded t (Read path offset count)) (finmap.get (replay t.entries) path)
        (λ e. bytes_turn (commanded t (Read path offset count)) e offset)) sys host floor named (commanded t (Read path offset count)) s all settled
    decide_read =
        found_turned sys host floor named s all settled core (Read path offset count) log path
        (λ m bytes. Bytes m (file_bytes_from offset count bytes)) (asks_read path offset count) t
        (λ e. bytes_turn (commanded t (Read path offset count)) e offset) g bytes_turned
