-- The decision of a command that lists the tree, checks it or appends an entry.
use Rattle.std.proofs.Common.{ℕ, refl, [], ◌∷◌, ◌++◌, ◌+◌, ◌≤◌, ◌<◌, ◌≡◌, List, length, take, Bool, true, false, cond, sym, ◌∙◌, ap, arith, inl, ◌==◌, length-append}
use Rattle.std.specs.Prelude.{Option, Some, Result, Ok, Err, slice_get}
use Rattle.std.specs.Option.{option_map}
use Rattle.std.proofs.lemmas.Bool.Decides.{nat_tests}
use Rattle.std.proofs.lemmas.List.{length-map, length-take-le, take_all, take-append-le}
use Rattle.fam_base.specs.declared.cmd.Cmd.{Cmd}
use Rattle.fam_base.specs.declared.cmd.Cmd.TheVariants.{Logplay, Mount, Check}
use Rattle.fam_base.specs.declared.entry.Params.{Params}
use Rattle.fam_base.specs.declared.entry.Entry.{Entry}
use Rattle.fam_format.specs.Layout.{geometry, gate_line}
use Rattle.fam_format.specs.Slot.{spelling}
use Rattle.fam_format.specs.Tree.{replay}
use Rattle.fam_format.proofs.Formats.{shape}
use Rattle.fam_commands.specs.declared.phase.Phase.TheVariants as at
use Rattle.fam_commands.specs.Task.{Task, content_of}
use Rattle.fam_commands.specs.Turns.{decide_turn, append_turn, first_store}
use Rattle.fam_rules.specs.declared.answers.Refused.{Refused}
use Rattle.fam_rules.specs.declared.answers.Refused.TheVariants as refused
use Rattle.fam_rules.specs.Asks.{File, entries_of}
use Rattle.fam_rules.specs.Checks.{checked}
use Rattle.fam_rules.specs.Decide.{Wish, wish_of, decide_wish, decide}
use Rattle.fam_rules.specs.DecideLaws.{MayAppend}
use Rattle.fam_rules.specs.Reply.{NotAppended, Played, Mounted, Checks}
use Rattle.fam_rules.proofs.ContentLines.{length_of_fill}
use Rattle.fam_rules.proofs.DecideProofs.{may_append}
use Rattle.fam_protocol.specs.SharedState.{SharedState}
use Rattle.fam_protocol.specs.Lines.{gate_of, IsAtLeast}
use Rattle.fam_protocol.specs.Core.{System, Core, Belongs, top_of}
use Rattle.fam_protocol.specs.Tasks.{HasReadAll, IsWriting, AtPhase}
use Rattle.fam_protocol.specs.After.{After, Relists, MayRefuse, new_file, Named}
use Rattle.fam_protocol.proofs.Turns.Moved.{IsTask}
use Rattle.fam_protocol.proofs.Turns.Tell.{ends, holds}
use Rattle.fam_protocol.proofs.Settled.Settle.{core_relisted}
use Rattle.fam_protocol.proofs.Settled.Lists.{entries_count}
use Rattle.fam_protocol.proofs.Lines.Apart.{last_member, history_more}
use Rattle.fam_rules.proofs.RefusalProofs.{refused_for}
use Rattle.fam_protocol.proofs.Turns.Slots.{commanded, ReadsLog, all_entries}
use Rattle.fam_protocol.proofs.Lines.Floors.{at_least_more}

-- the entries that a task has read are the first ones, as many as its gate says
pub record HasFirst (floor : Option ℕ) (t : Task) (s : SharedState) (all : List File) : Type 0 where
  pub count : length t.entries ≡ t.gate
  pub prefix : length (take (length t.entries) all) ≡ length t.entries
  pub entries : entries_of (take (length t.entries) all) ≡ t.entries
  pub low : IsAtLeast floor (length t.entries)
  pub high : length t.entries ≤ length all
  pub shared : length t.entries ≤ gate_of (s.memory gate_line)

module _ (sys : System) (host : ℕ) (floor : Option ℕ) (s : SharedState) (all : List File) (settled : ℕ) (core : Core sys s all settled) where
  -- a task that has read all slots has the first entries
  pub has_first : (cmd : Cmd) (log : ReadsLog cmd) (t : Task) → HasReadAll host floor (commanded t cmd) s all settled → HasFirst floor (commanded t cmd) s all
  has_first cmd log t h =
      let entries : t.entries ≡ entries_of (take t.gate all) = all_entries cmd log t host floor s all settled h in
      let fits : t.gate ≤ length all = omega (arith, h.gate.high, core.order, core.high) in
      let count : length t.entries ≡ t.gate = ap length entries ∙ entries_count t.gate all fits in
      record {
        count = count;
        prefix = length-take-le (length t.entries) all (omega arith);
        entries = ap (λ (n : ℕ). entries_of (take n all)) count ∙ sym entries;
        low = at_least_more floor t.gate (length t.entries) (omega (arith, count)) h.gate.low;
        high = omega arith;
        shared = omega (arith, h.gate.high);
      }

module _ (sys : System) (host : ℕ) (floor : Option ℕ) (named : Option Named) (s : SharedState) (all : List File) (settled : ℕ) (core : Core sys s all settled) where
  -- the tree is listed
  pub decide_logplay : (log : ReadsLog Logplay) (t : Task) → AtPhase at.Decide sys host floor (commanded t Logplay) s all settled
      → After (decide_turn Logplay (commanded t Logplay)) sys host floor named (commanded t Logplay) s all settled
  decide_logplay log t g =
      let h = has_first sys host floor s all settled core Logplay log t g.1 in
      let m : ℕ = length t.entries in
      ends sys host floor named s all settled core (commanded t Logplay) (Played m (replay t.entries))
      (record {
        low = h.low;
        high = h.high;
        is = ap (λ (k : ℕ). Some (Played k (replay (entries_of (take m all))))) h.prefix ∙ ap (λ (l : List Entry). Some (Played m (replay l))) h.entries;
      }) h.shared

  -- the entries are counted
  pub decide_mount : (log : ReadsLog Mount) (t : Task) → AtPhase at.Decide sys host floor (commanded t Mount) s all settled
      → After (decide_turn Mount (commanded t Mount)) sys host floor named (commanded t Mount) s all settled
  decide_mount log t g =
      let h = has_first sys host floor s all settled core Mount log t g.1 in
      ends sys host floor named s all settled core (commanded t Mount) (Mounted (length t.entries))
      (record { low = h.low; high = h.high; is = ap (λ (k : ℕ). Some (Mounted k)) h.prefix }) h.shared

  -- the tree is checked beside a listing
  pub decide_check : (listing : List Entry) (log : ReadsLog (Check listing)) (t : Task)
      → AtPhase at.Decide sys host floor (commanded t (Check listing)) s all settled
      → After (decide_turn (Check listing) (commanded t (Check listing))) sys host floor named (commanded t (Check listing)) s all settled
  decide_check listing log t g =
      let h = has_first sys host floor s all settled core (Check listing) log t g.1 in
      let m : ℕ = length t.entries in
      ends sys host floor named s all settled core (commanded t (Check listing)) (Checks m (checked (replay t.entries) listing))
      (record {
        low = h.low;
        high = h.high;
        is = ap (λ (k : ℕ). Some (Checks k (checked (replay (entries_of (take m all))) listing))) h.prefix ∙ ap (λ (l : List Entry). Some (Checks m (checked (replay l) listing))) h.entries;
      }) h.shared

  -- a command that appends decides on the whole history
  module _ (cmd : Cmd) (log : ReadsLog cmd) (w : Wish) (asks : wish_of cmd ≡ Some w) (t : Task) (is : IsTask sys host (commanded t cmd))
      (g : AtPhase at.Decide sys host floor (commanded t cmd) s all settled) where
    master : sys.master ≡ Some host
    master = g.0.master w asks

    settled_is : settled ≡ length all
    settled_is = let both = g.1.gate.writer w asks in both.0 ∙ sym both.1

    whole : length all ≡ t.gate
    whole = (g.1.gate.writer w asks).1

    entries : t.entries ≡ entries_of all
    entries = all_entries cmd log t host floor s all settled g.1 ∙ ap entries_of (take_all t.gate all (omega (arith, whole)))

    me_is : t.me ≡ sys.params.master
    me_is = let both : Some t.me ≡ Some sys.params.master = sym is.me ∙ core.named.is host master in cc

    decided : (r : Result Entry Refused) → decide_wish t.params t.me t.entries w ≡ r → decide_wish sys.params t.me (entries_of all) w ≡ r
    decided r e = ap (λ (l : List Entry). decide_wish sys.params t.me l w) (sym entries) ∙ ap (λ (p : Params). decide_wish p t.me t.entries w) (sym g.0.params) ∙ e

    decides : (r : Result Entry Refused) → decide_wish t.params t.me t.entries w ≡ r → decide sys.params t.me (entries_of all) cmd ≡ Some r
    decides r e = ap (option_map (decide_wish sys.params t.me (entries_of all))) asks ∙ ap Some (decided r e)

    may_refuse : (r : Refused) → decide_wish t.params t.me t.entries w ≡ Err r → MayRefuse r sys (commanded t cmd) all settled
    may_refuse (refused.NotMaster a b) e = absurd ((refused_for sys.params t.me (entries_of all) w (refused.NotMaster a b) (decided _ e)).2 me_is)
    may_refuse (refused.LongPath limit) e = record { wish = w; wished = asks; is = refused_for sys.params t.me (entries_of all) w (refused.LongPath limit) (decided _ e) }
    may_refuse c e = record { settled_is = settled_is; is = decides _ e }

    top_is : top_of sys s ≡ t.gate
    top_is = omega (arith, core.order, core.high, core.low, settled_is, whole)

    -- the task that writes entry e
    writer : Entry → Task
    writer e = record (commanded t cmd) { entry = Some e; words = spelling (geometry t.params) e t.gate; phase = first_store e.size }

    writes : (e : Entry) → IsWriting sys host (writer e) s (all ++ new_file (writer e) e ∷ []) settled
    unfolding writer
    writes e = record {
      master = master;
      params = g.0.params;
      settled_is = settled_is ∙ whole;
      pending = omega (arith, length-append all (new_file (writer e) e ∷ []), whole);
      unpublished = top_is;
      file = new_file (writer e) e;
      last = ap (λ (k : ℕ). slice_get (all ++ new_file (writer e) e ∷ []) k) (sym whole) ∙ last_member all (new_file (writer e) e);
      entry = refl;
      bytes = refl;
      content = is.command.content;
      words = ap (λ (p : Params). spelling (geometry p) e t.gate) g.0.params;
    }

    at_store : (e : Entry) (b : Bool) → (e.size == 0) ≡ b → AtPhase (cond b (at.StoreSlot 0 0) (at.StoreData 0 0)) sys host floor (writer e) s (all ++ new_file (writer e) e ∷ []) settled
    unfolding writer writes
    at_store e true none =
        let empty : e.size ≡ 0 = grind (arith, nat_tests) in (
          omega arith,
          record {
            writing = writes e;
            line = omega (arith, (shape sys.params).lines);
            contents = λ count b lt within.
                absurd (omega arith);
            before = λ b lt. absurd (omega arith);
            here = tt;
          },
        )
    at_store e false some =
        let bytes : 0 < e.size = grind (arith, nat_tests) in
        (omega arith, record { writing = writes e; line = omega arith; before = λ b lt. absurd (omega arith); here = tt })

    appends : (e : Entry) → decide_wish t.params t.me t.entries w ≡ Ok e → After (append_turn (commanded t cmd) (Ok e)) sys host floor named (commanded t cmd) s all settled
    unfolding writer
    appends e ok =
        let f : File = new_file (writer e) e in
        let law : MayAppend sys.params t.me (entries_of all) e = may_append sys.params t.me (entries_of all) w e core.head.sound (is.command.wish w asks) (decided _ ok) in
        let long : length (all ++ f ∷ []) ≡ length all + 1 = length-append all (f ∷ []) in
        let left : length all < sys.params.slots = omega (arith, law.left, length-map all (λ (f : File). f.entry)) in
        let belongs : Belongs sys.params all f = record { proper = law.proper; joins = law.joins; count = length_of_fill (content_of cmd) e.size } in
        let r : Relists sys s all settled (all ++ f ∷ []) settled = record {
          up = omega arith;
          low = core.low;
          high = omega (arith, core.high);
          near = omega (arith, settled_is);
          alike = λ i le. take-append-le i all (f ∷ []) (omega (arith, core.high));
        } in
        record {
          may = (sym whole ∙ sym settled_is, sym whole, decides _ ok);
          core = core_relisted sys s all settled core (all ++ f ∷ []) settled r (history_more sys.params all f core.history belongs) (omega arith);
          task = holds sys host floor (writer e) s (all ++ f ∷ []) settled (record { command = is.command; me = is.me; lines = is.lines }) (at_store e (e.size == 0) refl);
          change = inl (master, r);
        }

    turned : (r : Result Entry Refused) → decide_wish t.params t.me t.entries w ≡ r → After (append_turn (commanded t cmd) r) sys host floor named (commanded t cmd) s all settled
    turned (Err r) e = ends sys host floor named s all settled core (commanded t cmd) (NotAppended r) (may_refuse r e) (omega arith)
    turned (Ok e) is = appends e is

    pub decide_append : After (append_turn (commanded t cmd) (decide_wish t.params t.me t.entries w)) sys host floor named (commanded t cmd) s all settled
    decide_append = turned (decide_wish t.params t.me t.entries w) refl
