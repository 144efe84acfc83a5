-- A command that runs alone on a sound image.
use Rattle.std.proofs.Common.{ℕ, ◌≡◌, ◌⊎◌, ◌+◌, ◌*◌, ◌<◌, ◌≤◌, Bool, true, false, List, length, map, take, Option, Some, None, Ok, Err, inl, inr, refl, sym, ◌∙◌, ap, subst, arith}
use Rattle.std.specs.Prelude.{⊤, ◌++◌, [], ◌∷◌, ◌==◌, max, if◌then◌else◌, Result, option_map}
use Rattle.std.proofs.lemmas.List.{length-map, length_push, take_all}
use Rattle.std.proofs.lemmas.Option.{same_Some}
use Rattle.fam_base.specs.declared.cmd.Cmd.{Cmd}
use Rattle.fam_base.specs.declared.cmd.Cmd.TheVariants.{Fsck}
use Rattle.fam_base.specs.declared.entry.Params.{Params}
use Rattle.fam_base.specs.declared.entry.Entry.{Entry}
use Rattle.fam_base.specs.Image.{Image, eight, line_at}
use Rattle.fam_format.specs.Layout.{device_limit, gate_line, least_lines}
use Rattle.fam_format.specs.Reading.{Reading, Sound, reading_of}
use Rattle.fam_machine.specs.declared.cell.Cell.TheVariants.{Absent}
use Rattle.fam_machine.specs.declared.op.Op.{Op}
use Rattle.fam_machine.specs.declared.op.Op.TheVariants.{Fence}
use Rattle.fam_commands.specs.declared.phase.Phase.{Phase}
use Rattle.fam_commands.specs.declared.phase.Phase.TheVariants as at
use Rattle.fam_machine.specs.Caches.{Cache, IsClean, cell_at}
use Rattle.fam_machine.specs.OneLine.{is_asked}
use Rattle.fam_machine.specs.Operations.{Machine, operated, IsInImage}
use Rattle.fam_commands.specs.Keeping.{kept_after, kept_by, read_by}
use Rattle.fam_commands.specs.Kept.{IsKept, Kept}
use Rattle.fam_commands.specs.Solo.{SoloRun, starts, goes, turn_on}
use Rattle.fam_commands.specs.Stands.{task_after}
use Rattle.fam_commands.specs.Task.{Task, mounted, op_at, op_of}
use Rattle.fam_commands.specs.Turns.{Turn, Goes, Marks, Finds, Writes, Ends, first_store, turn_at}
use Rattle.fam_rules.specs.declared.answers.Refused.{Refused}
use Rattle.fam_rules.specs.declared.answers.Refused.TheVariants as refused
use Rattle.fam_rules.specs.Solo.{content_of, held_file}
use Rattle.fam_rules.specs.Asks.{File, ask, entries_of}
use Rattle.fam_protocol.proofs.Settled.Lists.{entries_count}
use Rattle.fam_rules.specs.Content.{fill}
use Rattle.fam_rules.specs.Decide.{Wish, decide, decide_wish, wish_of}
use Rattle.fam_rules.specs.DecideLaws.{IsTooLong, MayAppend}
use Rattle.fam_rules.specs.Place.{line_bytes}
use Rattle.fam_rules.specs.Reply.{Reply, Appended, NotAppended, Reports, NoSuperblock, BadHeader, BadSlot}
use Rattle.fam_rules.specs.Reports.{report_of}
use Rattle.fam_rules.specs.Written.{written}
use Rattle.fam_rules.specs.WrittenLaws.{HasPhase}
use Rattle.fam_rules.proofs.AppendedProofs.{lines_appended}
use Rattle.fam_rules.proofs.AppendedReads.{place_of}
use Rattle.fam_rules.proofs.DecideProofs.{may_append}
use Rattle.fam_protocol.specs.After.{AnswersPrefix, MayReply, Named, new_file, read_by_log, shown_by, HasMarked}
use Rattle.fam_commands.specs.Appends.{HasWish, IsBeforeWrites}
use Rattle.fam_solo.specs.Solo.{settles_up_to}
use Rattle.fam_protocol.specs.Lines.{Fresh}
use Rattle.fam_protocol.specs.Steps.{TurnSays, run_after, turn_settles}
use Rattle.fam_protocol.specs.Tasks.{AtPhase, IsCommand}
use Rattle.fam_protocol.specs.Invariant.{KeepsFront, Known, Settled, Invariant, settled_at_first, settled_by}
use Rattle.fam_machine.proofs.OneOperation.{operated_length, operated_normal}
use Rattle.fam_solo.proofs.Machine.{Looks, ran_cmd, ran_length, ran_looks, ran_me, ran_normal, looks_end, looks_on, word_of}
use Rattle.fam_solo.proofs.Replies.{Answers, asked, decided, refused_client, refused_long, reports_sound}
use Rattle.fam_commands.proofs.BeforeWrites.{EndsAt, SaysAt, turn_says}
use Rattle.fam_solo.proofs.OneHost.{Stepped, first_settled, hosts_of, only, rests_alone, run_of, shared, stepped, invariant_first}
use Rattle.fam_solo.proofs.Writes.{GateAt, Writing, all_sent, all_written, ends_there, writes_on}
use Rattle.fam_solo.proofs.Written.{appended_alike, written_normal}
use Rattle.fam_protocol.proofs.Hosts.Begins.{held_back}
use Rattle.fam_protocol.proofs.Hosts.Resting.{rests_settled}
use Rattle.fam_protocol.proofs.Hosts.SoundReads.{IsRead, ReadsSound, sound_reads, super_is_sound}
use Rattle.fam_protocol.proofs.Lines.Floors.{IsMarkOf, mark_low}

-- a turn of an append: it goes on without a note, or ends
IsPlain : Turn → Type 0
IsPlain (Goes t) = ⊤
IsPlain (Marks t) = ⊥
IsPlain (Finds n t) = ⊥
IsPlain (Writes seq e t) = ⊥
IsPlain (Ends reply) = ⊤

plain : (pl : Phase) (t : Task) (word : ℕ) (cmd : Cmd) (image : Image) (p : Params) (n : ℕ) (e : Entry) (m : Machine) → GateAt pl cmd image p n e m → IsPlain (turn_at pl t word)
unfolding IsPlain
plain at.DropMagic t word cmd image p n e m gate = absurd gate
plain at.Magic t word cmd image p n e m gate = absurd gate
plain (at.Drop part j) t word cmd image p n e m gate = absurd gate
plain (at.Word part j k) t word cmd image p n e m gate = absurd gate
plain at.DropGate t word cmd image p n e m gate = absurd gate
plain at.Gate t word cmd image p n e m gate = absurd gate
plain (at.Check i) t word cmd image p n e m gate = absurd gate
plain at.Decide t word cmd image p n e m gate = absurd gate
plain c t word cmd image p n e m gate = tt

-- the first store of an append
first_gate : (cmd : Cmd) (image : Image) (p : Params) (n : ℕ) (e : Entry) (m : Machine) → Looks image (first_store e.size) m → GateAt (first_store e.size) cmd image p n e m
first_gate cmd image p n e m looks = by_test (e.size == 0) looks.image_is looks.gate
  where
    by_test : (b : Bool) → m.image ≡ image
        → (HasMarked (if b then at.StoreSlot 0 0 else at.StoreData 0 0) → Fresh (line_at m.image gate_line) (cell_at m.cache gate_line))
        → GateAt (if b then at.StoreSlot 0 0 else at.StoreData 0 0) cmd image p n e m
    by_test true same fresh = (ap (λ (i : Image). line_at i gate_line) same, fresh tt)
    by_test false same fresh = (ap (λ (i : Image). line_at i gate_line) same, fresh tt)

module _ (kept : Option Kept) (cmd : Cmd) (me : List ℕ) (image : Image) (cache : Cache) (enough : least_lines ≤ length image)
    (limit : line_bytes * length image ≤ device_limit) (normal : map eight image ≡ image) (clean : IsClean cache) (command : IsCommand cmd)
    (joined : IsKept kept) (front : KeepsFront (settled_at_first image) kept)
    (p : Params) (entries : List Entry) (sound : reading_of (line_at image) (line_bytes * length image) ≡ Sound p entries) where
  pub reads : ReadsSound (line_at image) (line_bytes * length image) p entries
  reads = sound_reads (line_at image) (line_bytes * length image) p entries sound

  pub params : IsRead (line_bytes * length image) p
  params = super_is_sound _ _ (line_bytes * length image) p limit reads.super

  held : length (map (held_file (line_at image)) entries) ≡ length entries
  held = length-map entries (held_file (line_at image))

  -- all slots below the gate
  all_held : (m : ℕ) → length entries ≤ m → take m (map (held_file (line_at image)) entries) ≡ map (held_file (line_at image)) entries
  all_held m h = take_all m (map (held_file (line_at image)) entries) (omega (arith, held))

  -- nothing is written
  pub record OnSound (t : Task) (m : Machine) : Type 0 where
    pub floor : Option ℕ
    pub marked : IsMarkOf (length entries) floor
    pub invariant : Invariant (Known p (map (held_file (line_at image)) entries) (length entries)) (length image) (hosts_of kept me (Some (run_of t floor None))) (shared m)
    pub before : IsBeforeWrites t.phase

  -- an entry is appended
  pub record OnWrites (t : Task) (m : Machine) : Type 0 where
    pub e : Entry
    pub w : Wish
    pub wish : wish_of cmd ≡ Some w
    pub decides : decide_wish p me entries w ≡ Ok e
    pub all : List File
    pub count : length all ≡ length entries + 1
    pub floor : Option ℕ
    pub named : Option Named
    pub invariant : Invariant (Known p all (length entries)) (length image) (hosts_of kept me (Some (run_of t floor named))) (shared m)
    pub writing : Writing cmd image p (length entries) e t m

  -- where it stands, and what is settled
  abbrev pub Staged : Task → Machine → Settled → Type 0
  Staged t m s = (OnSound t m × (s ≡ Known p (map (held_file (line_at image)) entries) (length entries))) ⊎ ((on : OnWrites t m) × (s ≡ Known p on.all (length entries)))

  -- what the history says of a decision
  module _ (t : Task) (cmd_is : t.cmd ≡ cmd) (me_is : t.me ≡ me) where
    decision : (d : Result Entry Refused) → decide p t.me (entries_of (map (held_file (line_at image)) entries)) t.cmd ≡ Some d → decide p me entries cmd ≡ Some d
    decision d is =
        ap (decide p me entries) (sym cmd_is) ∙ ap (λ (x : List ℕ). decide p x entries t.cmd) (sym me_is)
        ∙ ap (λ (es : List Entry). decide p t.me es t.cmd) (sym (held_back (line_at image) entries)) ∙ is

    wished : HasWish t.cmd → HasWish cmd
    wished has = (has.0, ap wish_of (sym cmd_is) ∙ has.1)

    by_wish : (w : Wish) → wish_of cmd ≡ Some w → (d : Result Entry Refused) → decide p t.me (entries_of (map (held_file (line_at image)) entries)) t.cmd ≡ Some d → decide_wish p me entries w ≡ d
    by_wish w is d decides = same_Some (decide_wish p me entries w) d (sym (ap (option_map (decide_wish p me entries)) is) ∙ decision d decides)

    -- the entry is found
    found_all : (k : ℕ) → (k ≡ length entries) ⊎ ((k ≡ length entries + 1) × (k ≡ length (map (held_file (line_at image)) entries))) → k ≡ length entries
    found_all k (inl is) = is
    found_all k (inr is) = omega (arith, is.0, is.1, held)

    by_turn : (floor : Option ℕ) → IsMarkOf (length entries) floor → (turn : Turn) (next : Task) (m : Machine) (s : Settled)
        → Stepped kept (Known p (map (held_file (line_at image)) entries) (length entries)) (length image) me (run_of t floor None) turn m
        → SaysAt t.phase t.cmd turn → task_after turn ≡ Some next
        → Looks image next.phase m → s ≡ Known p (map (held_file (line_at image)) entries) (length entries) → Staged next m (turn_settles turn s)
    by_turn floor marked (Goes x) next m s step says is looks at_first =
        inl (
          subst (λ (y : Task). OnSound y m) (same_Some x next is) record {
            floor = floor;
            marked = marked;
            invariant = step.invariant;
            before =
                says;
          },
          ap (turn_settles (Goes x)) at_first,
        )
    by_turn floor marked (Marks x) next m s step says is looks at_first =
        inl (
          subst (λ (y : Task). OnSound y m) (same_Some x next is) record {
            floor = Some (length entries);
            marked = refl;
            invariant =
                step.invariant;
            before = says;
          },
          ap (turn_settles (Marks x)) at_first,
        )
    by_turn floor marked (Finds k x) next m s step says is looks at_first =
        let found : k ≡ length entries = found_all k step.says.may in
        inl (
          subst (λ (y : Task). OnSound y m) (same_Some x next is)
              record {
                floor = floor;
                marked = marked;
                invariant = subst (λ (files : List File). Invariant (Known p files (length entries)) (length image)
                    (hosts_of kept me (Some (run_of x floor None))) (shared m)) (all_held (length entries) (omega arith))
                    (subst (λ (i : ℕ). Invariant (Known p (take i (map (held_file (line_at image)) entries)) i) (length image)
                    (hosts_of kept me (Some (run_of x floor None))) (shared m)) found step.invariant);
                before = says;
              },
          ap (turn_settles (Finds k x)) at_first
              ∙ ap (λ (i : ℕ). Known p (take i (map (held_file (line_at image)) entries)) i) found
              ∙ ap (λ (files : List File). Known p files (length entries)) (all_held (length entries) (omega arith)),
        )
    by_turn floor marked (Writes seq e x) next m s step says is looks at_first =
        let has : HasWish cmd = wished says.wish in
        let at_store : next.phase ≡ first_store e.size = ap (λ (y : Task). y.phase) (sym (same_Some x next is)) ∙ says.phase in
        let all : List File = map (held_file (line_at image)) entries ++ new_file x e ∷ [] in
        subst (λ (y : Task). Staged y m (turn_settles (Writes seq e x) s)) (same_Some x next is)
        (inr (
          record {
            e = e;
            w = has.0;
            wish = has.1;
            decides = by_wish has.0 has.1 (Ok e) step.says.may.2;
            all = all;
            count = length_push (map (held_file (line_at image)) entries) (new_file x e) ∙ ap (λ (i : ℕ). i + 1) held;
            floor = floor;
            named = _;
            invariant = step.invariant;
            writing = record {
              entry = says.entry;
              others = λ l none other. (ap (λ (i : Image). line_at i l) looks.image_is, looks.clean l);
              gate = subst (λ (pl : Phase). GateAt pl cmd image p (length entries) e m) (sym says.phase)
                  (first_gate cmd image p (length entries) e m (subst (λ (pl : Phase). Looks image pl m) at_store looks));
            };
          },
          ap (turn_settles (Writes seq e x)) at_first,
        ))
    by_turn floor marked (Ends given) next m s step says is looks at_first = absurd (cc)

    goes_invariant : (all : List File) (floor : Option ℕ) (named : Option Named) (turn : Turn) (next : Task) (m : Machine) → IsPlain turn
        → Stepped kept (Known p all (length entries)) (length image) me (run_of t floor named) turn m → task_after turn ≡ Some next
        → Invariant (Known p all (length entries)) (length image) (hosts_of kept me (Some (run_of next floor named))) (shared m)
    unfolding IsPlain
    goes_invariant all floor named (Goes x) next m is_plain step is =
        subst (λ (y : Task). Invariant (Known p all (length entries)) (length image) (hosts_of kept me (Some (run_of y floor named))) (shared m))
        (same_Some x next is) step.invariant
    goes_invariant all floor named (Marks x) next m is_plain step is = absurd is_plain
    goes_invariant all floor named (Finds k x) next m is_plain step is = absurd is_plain
    goes_invariant all floor named (Writes seq e x) next m is_plain step is = absurd is_plain
    goes_invariant all floor named (Ends given) next m is_plain step is = absurd (cc)

    -- nothing is settled by it
    goes_settled : (all : List File) (turn : Turn) (next : Task) (s : Settled) → IsPlain turn → task_after turn ≡ Some next
        → s ≡ Known p all (length entries) → turn_settles turn s ≡ Known p all (length entries)
    unfolding IsPlain
    goes_settled all (Goes x) next s is_plain is at_first = ap (turn_settles (Goes x)) at_first
    goes_settled all (Marks x) next s is_plain is at_first = absurd is_plain
    goes_settled all (Finds k x) next s is_plain is at_first = absurd is_plain
    goes_settled all (Writes seq e x) next s is_plain is at_first = absurd is_plain
    goes_settled all (Ends given) next s is_plain is at_first = absurd (cc)

    pub may : (w : Wish) (e : Entry) → wish_of cmd ≡ Some w → decide_wish p me entries w ≡ Ok e → MayAppend p me entries e
    may w e wish decides = may_append p me entries w e params.sound (command.wish w wish) decides

    writes_step : (m : Machine) (next : Task) (s : Settled) → (on : OnWrites t m) → s ≡ Known p on.all (length entries) → IsInImage (op_of t) m
        → task_after (turn_on t m) ≡ Some next → Staged next (operated (op_of t) m) (turn_settles (turn_on t m) s)
    writes_step m next s on settled inside is =
        let step = stepped kept (Known p on.all (length entries)) (length image) me (run_of t on.floor on.named) m on.invariant inside in
        let right : MayAppend p me entries on.e = may on.w on.e on.wish on.decides in
        inr (
          record {
            e = on.e;
            w = on.w;
            wish = on.wish;
            decides = on.decides;
            all = on.all;
            count = on.count;
            floor = on.floor;
            named = on.named;
            invariant = goes_invariant on.all on.floor on.named (turn_on t m) next (operated (op_of t) m) (plain t.phase t (word_of t m) cmd image p (length entries) on.e m on.writing.gate) step is;
            writing = writes_on cmd image p (length entries) on.e params.sound right.left right.proper (line_bytes * length image)
                (hosts_of kept me (Some (run_of t on.floor on.named))).uuid on.invariant.stage.master on.all t next m
                (word_of t m) cmd_is on.writing.entry on.writing.others
                t.phase on.floor (on.invariant.stage.tasks 0 (run_of t on.floor on.named) refl).phase on.writing.gate is;
          },
          goes_settled on.all (turn_on t m) next s (plain t.phase t (word_of t m) cmd image p (length entries) on.e m on.writing.gate) is settled,
        )

  first : OnSound (mounted kept cmd me (length image)) (record { image = image; cache = cache })
  first = record {
    floor = None;
    marked = tt;
    invariant = subst (λ (r : Reading). Invariant (settled_by (line_at image) r) (length image)
        (hosts_of kept me (Some (run_of (mounted kept cmd me (length image)) None None))) (shared (record { image = image; cache = cache }))) sound
        (invariant_first kept cmd me image cache enough limit clean command front);
    before = tt;
  }

  pub staged : (t : Task) (words : List ℕ) (made : ℕ) (m : Machine) → (ran : SoloRun kept cmd me image cache t words made m)
      → Staged t m (settles_up_to kept cmd me image cache t words made m ran (Known p (map (held_file (line_at image)) entries) (length entries)))
  staged t words made m starts = inl (first, refl)
  staged next _ _ _ (goes {t = t} {words = words} {made = made} {m = m} ran inside is) = by_stage (staged t words made m ran)
    where
      cmd_is : t.cmd ≡ cmd
      cmd_is = ran_cmd kept cmd me image cache joined t words made m ran

      me_is : t.me ≡ me
      me_is = ran_me kept cmd me image cache joined t words made m ran

      before : Settled
      before = settles_up_to kept cmd me image cache t words made m ran (Known p (map (held_file (line_at image)) entries) (length entries))

      by_stage : Staged t m before → Staged next (operated (op_of t) m) (turn_settles (turn_on t m) before)
      by_stage (inl on) =
          by_turn t cmd_is me_is on.0.floor on.0.marked (turn_on t m) next (operated (op_of t) m) before
          (stepped kept (Known p (map (held_file (line_at image)) entries) (length entries)) (length image) me
          (run_of t on.0.floor None) m on.0.invariant inside)
          (turn_says t.phase t (word_of t m) on.0.before refl) is
          (looks_on kept cmd me image cache normal clean t next words made m ran on.0.before (ran_looks kept cmd me image cache normal clean t words made m ran on.0.before) is) on.1
      by_stage (inr on) = writes_step t cmd_is me_is m next before on.0 on.1 inside is

  -- The answers.

  module _ (t : Task) (cmd_is : t.cmd ≡ cmd) (me_is : t.me ≡ me) (uuid : ℕ → Option (List ℕ)) (master : Option ℕ) (floor : Option ℕ) (marked : IsMarkOf (length entries) floor) where
    refuses : HasWish cmd → (r : Refused) → decide p t.me (entries_of (map (held_file (line_at image)) entries)) t.cmd ≡ Some (Err r) → Answers image me cmd (NotAppended r) image
    refuses has r is = decided image me cmd p entries sound reads.super has.0 has.1 (Err r) (by_wish t cmd_is me_is has.0 has.1 (Err r) is)

    asks : (given : Reply) → AnswersPrefix t floor (map (held_file (line_at image)) entries) given → Answers image me cmd given image
    asks given may =
        asked image me cmd p entries sound given
        (ap (ask (map (held_file (line_at image)) entries)) (sym cmd_is) ∙ ap (λ (files : List File). ask files t.cmd)
        (sym (all_held (shown_by given) (mark_low floor (length entries) (shown_by given) marked may.low))) ∙ may.is)

    answers : (given : Reply) (pl : Phase) → (cmd ≡ Fsck → given ≡ Reports (report_of (line_at image) (line_bytes * length image)))
        → MayReply given (record { params = p; have = line_bytes * length image; uuid = uuid; master = master }) (run_of t floor None)
        (map (held_file (line_at image)) entries) (length entries) → EndsAt pl cmd given
        → Answers image me cmd given image
    answers (Appended seq) pl reports may ends = absurd ends
    answers (NotAppended (refused.NotMaster host owner)) pl reports may ends =
        let host_is : host ≡ me = may.me_is ∙ me_is in
        let owner_is : p.master ≡ owner = sym may.master_is in
        subst (λ (h : List ℕ). Answers image me cmd (NotAppended (refused.NotMaster h owner)) image) (sym host_is)
        (subst (λ (x : List ℕ). Answers image me cmd (NotAppended (refused.NotMaster me x)) image) owner_is
        (refused_client image me cmd p entries sound reads.super ends (λ same. may.other (host_is ∙ same ∙ owner_is))))
    answers (NotAppended (refused.LongPath limit)) pl reports may ends =
        refused_long image me cmd p entries sound reads.super may.wish (ap wish_of (sym cmd_is) ∙ may.wished) limit (subst (λ (h : List ℕ). IsTooLong p h may.wish limit) me_is may.is)
    answers (NotAppended refused.BadStripe) pl reports may ends = refuses ends refused.BadStripe may.is
    answers (NotAppended (refused.Exists kind)) pl reports may ends = refuses ends (refused.Exists kind) may.is
    answers (NotAppended refused.NoParent) pl reports may ends = refuses ends refused.NoParent may.is
    answers (NotAppended refused.ParentIsFile) pl reports may ends = refuses ends refused.ParentIsFile may.is
    answers (NotAppended (refused.LogFull slots)) pl reports may ends = refuses ends (refused.LogFull slots) may.is
    answers (NotAppended (refused.NoSpace units)) pl reports may ends = refuses ends (refused.NoSpace units) may.is
    answers (Reports report) pl reports may ends = subst (λ (r : Reply). Answers image me cmd r image) (sym (reports ends)) (reports_sound image me cmd p entries sound ends)
    answers (NoSuperblock fault) pl reports may ends = absurd may
    answers (BadHeader fault) pl reports may ends = absurd may
    answers (BadSlot i reason) pl reports may ends = absurd may
    answers other pl reports may ends = asks other may

  -- an answer shows no more than there is
  shown_within : (given : Reply) (pl : Phase) (uuid : ℕ → Option (List ℕ)) (master floor : Option ℕ) (t : Task)
      → MayReply given (record { params = p; have = line_bytes * length image; uuid = uuid; master = master }) (run_of t floor None)
      (map (held_file (line_at image)) entries) (length entries)
      → EndsAt pl cmd given → shown_by given ≤ length entries
  shown_within (Appended seq) pl uuid master floor t may ends = absurd ends
  shown_within (NotAppended refused) pl uuid master floor t may ends = omega arith
  shown_within (Reports report) pl uuid master floor t may ends =
      let all : List File = map (held_file (line_at image)) entries in
      let shown : read_by_log report.log ≡ length (entries_of (take may.m all)) = ap read_by_log may.is.log in
      omega (arith, shown, entries_count may.m all may.high, may.high, held)
  shown_within (NoSuperblock fault) pl uuid master floor t may ends = omega arith
  shown_within (BadHeader fault) pl uuid master floor t may ends = omega arith
  shown_within (BadSlot i reason) pl uuid master floor t may ends = omega arith
  shown_within other pl uuid master floor t may ends = omega (arith, may.high, held)

  -- what the image settles at first
  at_first : settled_at_first image ≡ Known p (map (held_file (line_at image)) entries) (length entries)
  at_first = first_settled image enough ∙ ap (settled_by (line_at image)) sound

  module _ (t : Task) (words : List ℕ) (made : ℕ) (m : Machine) (given : Reply) (ran : SoloRun kept cmd me image cache t words made m) (inside : IsInImage (op_of t) m) (is : turn_on t m ≡ Ends given)
      (reports : cmd ≡ Fsck → given ≡ Reports (report_of (line_at image) (line_bytes * length image))) where
    cmd_is : t.cmd ≡ cmd
    cmd_is = ran_cmd kept cmd me image cache joined t words made m ran

    me_is : t.me ≡ me
    me_is = ran_me kept cmd me image cache joined t words made m ran

    -- what is settled before its answer
    before : Settled
    before = settles_up_to kept cmd me image cache t words made m ran (Known p (map (held_file (line_at image)) entries) (length entries))

    -- the answer and the image that is left, with nothing to send; and what is settled then
    abbrev Whole : Type 0
    Whole = Answers image me cmd given (operated (op_of t) m).image × IsClean (operated (op_of t) m).cache × (turn_settles (Ends given) before ≡ settled_at_first (operated (op_of t) m).image)

    ends_sound : (on : OnSound t m) → before ≡ Known p (map (held_file (line_at image)) entries) (length entries) → Whole
    ends_sound on settled =
        let end = looks_end kept cmd me image cache normal clean t words made m ran on.before in
        let step = stepped kept (Known p (map (held_file (line_at image)) entries) (length entries)) (length image) me (run_of t on.floor None) m on.invariant inside in
        let says = subst (λ (x : Turn). TurnSays x (run_of t on.floor None) (Known p (map (held_file (line_at image)) entries) (length entries))
        (length image) (hosts_of kept me (Some (run_of t on.floor None)))) is step.says in
        let ends_at : EndsAt t.phase cmd given = subst (λ (c : Cmd). EndsAt t.phase c given) cmd_is (subst (SaysAt t.phase t.cmd) is (turn_says t.phase t (word_of t m) on.before refl)) in
        let shown = shown_within given t.phase (hosts_of kept me (Some (run_of t on.floor None))).uuid says.master on.floor t says.may ends_at in
        let none_new : max (length entries) (shown_by given) ≡ length entries = omega (arith, shown) in (
          subst (λ (x : Image). Answers image me cmd given x) (sym end.0)
              (answers t cmd_is me_is (hosts_of kept me (Some (run_of t on.floor None))).uuid says.master on.floor on.marked given t.phase reports says.may
              ends_at),
          end.1,
          ap (turn_settles (Ends given)) settled ∙ ap (Known p (map (held_file (line_at image)) entries)) none_new ∙ sym at_first ∙ ap settled_at_first (sym end.0),
        )

    ends_writes : (on : OnWrites t m) → before ≡ Known p on.all (length entries) → Whole
    ends_writes on settled =
        let n : ℕ = length entries in
        let right : MayAppend p me entries on.e = may t cmd_is me_is on.w on.e on.wish on.decides in
        let there = ends_there cmd image p n on.e params.sound right.left right.proper (line_bytes * length image)
        (hosts_of kept me (Some (run_of t on.floor on.named))).uuid on.invariant.stage.master on.all t t m (word_of t m) cmd_is on.writing.entry
        on.writing.others t.phase given on.writing.gate is in
        let published = subst (λ (pl : Phase).
        AtPhase pl (record {
          params = p;
          have = line_bytes * length image;
          uuid = (hosts_of kept me (Some (run_of t on.floor on.named))).uuid;
          master = on.invariant.stage.master;
        }) 0 on.floor t (shared m) on.all n) there.0
        (on.invariant.stage.tasks 0 (run_of t on.floor on.named) refl).phase in
        let gate_is : t.gate ≡ n = omega (arith, published.0.pending, on.count) in
        let op_is : op_of t ≡ Fence = ap (op_at t) there.0 in
        let gate = subst (λ (pl : Phase). GateAt pl cmd image p n on.e m) there.0 on.writing.gate in
        let within : gate_line < length m.image = (subst (λ (op : Op). IsInImage op m) op_is inside) gate_line (ap is_asked gate.1) in
        let lines = all_written cmd image p n on.e params.sound right.left right.proper (line_bytes * length image)
        (hosts_of kept me (Some (run_of t on.floor on.named))).uuid on.invariant.stage.master on.all t t m (word_of t m) cmd_is on.writing.entry
        on.writing.others (ran_length kept cmd me image cache t words made m ran) within gate in
        let phase : HasPhase p n on.e (length image) = place_of p entries on.e (length image) params.sound params.device right.left right.proper right.joins in
        let left = appended_alike p n on.e (fill (content_of cmd) on.e.size) image (operated Fence m).image (written image p n on.e (fill (content_of cmd) on.e.size)) lines
        (lines_appended p n on.e (fill (content_of cmd) on.e.size) image phase)
        (operated_normal Fence m (ran_normal kept cmd me image cache normal t words made m ran))
        (written_normal image p n on.e (fill (content_of cmd) on.e.size) normal) in
        let step = stepped kept (Known p on.all n) (length image) me (run_of t on.floor on.named) m on.invariant inside in
        let keeps : kept_by given (read_by t) kept ≡ kept = ap (λ (r : Reply). kept_by r (read_by t) kept) there.1 in
        let ended : Invariant (turn_settles (Ends given) (Known p on.all n)) (length image) (hosts_of kept me None) (shared (operated (op_of t) m)) =
        subst (λ (k : Option Kept). Invariant (turn_settles (Ends given) (Known p on.all n)) (length image) (hosts_of k me None) (shared (operated (op_of t) m))) keeps
        (subst (λ (x : Turn). Invariant (turn_settles x (Known p on.all n)) (length image)
        (hosts_of (kept_after x t kept) me (run_after x n (run_of t on.floor on.named))) (shared (operated (op_of t) m))) is step.invariant) in
        let one_new : max n (shown_by given) ≡ length on.all = ap (λ (r : Reply). max n (shown_by r)) (there.1 ∙ ap Appended gate_is)
        ∙ (let whole : max n (n + 1) ≡ length on.all = omega (arith, on.count) in whole) in
        let all_now : turn_settles (Ends given) (Known p on.all n) ≡ Known p on.all (length on.all) = ap (Known p on.all) one_new in
        let settled_now : turn_settles (Ends given) before ≡ Known p on.all (length on.all) = ap (turn_settles (Ends given)) settled ∙ all_now in
        let count_now : length (operated (op_of t) m).image ≡ length image = operated_length (op_of t) m ∙ ran_length kept cmd me image cache t words made m ran in
        let sent = all_sent cmd image p n on.e params.sound right.left right.proper (line_bytes * length image)
        (hosts_of kept me (Some (run_of t on.floor on.named))).uuid on.invariant.stage.master on.all t t m (word_of t m) cmd_is on.writing.entry
        on.writing.others within gate in
        let clean_now : IsClean (operated (op_of t) m).cache = subst (λ (op : Op). IsClean (operated op m).cache) (sym op_is) sent in (
          subst (λ (r : Reply). Answers image me cmd r (operated (op_of t) m).image) (sym (there.1 ∙ ap Appended gate_is))
              (subst (λ (op : Op). Answers image me cmd (Appended n) (operated op m).image) (sym op_is)
              (subst (λ (x : Image). Answers image me cmd (Appended n) x) (sym left)
              (decided image me cmd p entries sound reads.super on.w on.wish (Ok on.e) on.decides))),
          clean_now,
          settled_now ∙ sym (rests_settled (operated (op_of t) m).image (hosts_of kept me None) (λ h l. only (cell_at (operated (op_of t) m).cache l) Absent h) p on.all
              (subst (λ (k : ℕ). line_bytes * k ≤ device_limit) (sym count_now) limit) (rests_alone kept me (operated (op_of t) m).image (operated (op_of t) m).cache clean_now)
              (subst (λ (k : ℕ). Invariant (Known p on.all (length on.all)) k (hosts_of kept me None) (shared (operated (op_of t) m))) (sym count_now)
              (subst (λ (x : Settled). Invariant x (length image) (hosts_of kept me None) (shared (operated (op_of t) m))) all_now ended))),
        )

    pub sound_ends : Answers image me cmd given (operated (op_of t) m).image × IsClean (operated (op_of t) m).cache
        × (turn_settles (Ends given) (settles_up_to kept cmd me image cache t words made m ran (settled_at_first image))
        ≡ settled_at_first (operated (op_of t) m).image)
    unfolding before
    sound_ends =
        let whole : Whole = by_stage (staged t words made m ran) in
        (whole.0, whole.1, ap (λ (x : Settled). turn_settles (Ends given) (settles_up_to kept cmd me image cache t words made m ran x)) at_first ∙ whole.2)
      where
        by_stage : Staged t m before → Whole
        by_stage (inl on) = ends_sound on.0 on.1
        by_stage (inr on) = ends_writes on.0 on.1
