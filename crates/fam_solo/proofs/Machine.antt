-- The machine of a command that runs alone: what its operations leave, and what its task stands for.
use Rattle.std.proofs.Common.{ℕ, ◌≡◌, ◌+◌, Bool, true, false, List, length, map, Option, Some, None, inl, inr, refl, sym, ◌∙◌, ap, subst}
use Rattle.std.specs.Prelude.{⊤, nat_lt, if◌then◌else◌, unwrap_or, option_map}
use Rattle.std.proofs.lemmas.Bool.{cases_eq}
use Rattle.fam_format.specs.Layout.{gate_line, geometry}
use Rattle.fam_rules.specs.Written.{lines_of}
use Rattle.std.proofs.lemmas.Option.{same_Some}
use Rattle.fam_base.specs.declared.cmd.Cmd.{Cmd}
use Rattle.fam_base.specs.declared.line.LineNo.{LineNo}
use Rattle.fam_base.specs.Image.{Image, eight, line_at, with_line}
use Rattle.fam_base.proofs.ImageLemmas.{with_line-line_at}
use Rattle.fam_machine.specs.declared.cell.Cell.{Cell}
use Rattle.fam_machine.specs.declared.cell.Cell.TheVariants.{Absent, Clean, Dirty}
use Rattle.fam_machine.specs.declared.op.Op.{Op}
use Rattle.fam_machine.specs.declared.op.Op.TheVariants.{Load, Store, WriteBack, Fence, Invalidate, Digest}
use Rattle.fam_commands.specs.declared.phase.Phase.{Phase}
use Rattle.fam_commands.specs.declared.phase.Phase.TheVariants as at
use Rattle.fam_machine.specs.Caches.{Cache, IsClean, IsCleanCell, cell_at, with_cell}
use Rattle.fam_commands.specs.Counts.{steps_of}
use Rattle.fam_machine.specs.OneLine.{IsAsked, brought, failed_send, sent}
use Rattle.fam_machine.specs.Operations.{Breaking, Failure, Machine, failed, given, operated, torn_at}
use Rattle.fam_commands.specs.Kept.{IsKept, Kept}
use Rattle.fam_commands.specs.Solo.{SoloRun, starts, goes, turn_on}
use Rattle.fam_commands.specs.Stands.{StandsFor, task_after, turn_given, with_given}
use Rattle.fam_commands.specs.Stands as stands
use Rattle.fam_commands.specs.Task.{Task, op_at, op_of, size_of}
use Rattle.fam_commands.specs.Turns.{Turn, Goes, Marks, Finds, Writes, Ends, host_refusal, turn_at, turn_of}
use Rattle.fam_machine.proofs.Failing.{brought_fails}
use Rattle.fam_machine.proofs.CacheLemmas.{cell_at-with_cell_same, cell_at-with_cell_other}
use Rattle.fam_machine.proofs.CleanCaches.{clean_brought, clean_sent, clean_with}
use Rattle.fam_machine.proofs.OneOperation.{operated_length, operated_normal, same_given}
use Rattle.fam_commands.proofs.Steps.Behind.{behind_super}
use Rattle.fam_commands.proofs.Steps.Standing.{standing_tied, steps_at_end}
use Rattle.fam_rules.specs.Decide.{wish_of}
use Rattle.fam_rules.specs.Reply.{Reply}
use Rattle.fam_commands.specs.Appends.{IsBeforeWrites}
use Rattle.fam_protocol.proofs.Settled.FromMark.{from_mark}
use Rattle.fam_protocol.specs.Lines.{Fresh}
use Rattle.fam_commands.proofs.BeforeWrites.{IsBehindSuper, SaysAt, turn_says}
use Rattle.fam_protocol.specs.After.{HasMarked}

-- What the task stands for.

-- the word of an operation, 0 where it gives none
abbrev pub word_of : Task → Machine → ℕ
word_of t m = unwrap_or (given (op_of t) m) 0

pub same_turn : (t : Task) (m : Machine) → turn_given t (word_of t m) ≡ turn_on t m
same_turn t m = ap (turn_of t) (same_given (op_of t) m)

module _ (kept : Option Kept) (cmd : Cmd) (me : List ℕ) (image : Image) (cache : Cache) where
  pub ran_stands : (t : Task) (words : List ℕ) (made : ℕ) (m : Machine) → SoloRun kept cmd me image cache t words made m → StandsFor kept cmd me (length image) t words made
  ran_stands t words made m starts = stands.starts
  ran_stands next _ _ _ (goes {t = t} {words = words} {made = made} {m = m} before inside is) =
      subst (λ (o : Option ℕ). StandsFor kept cmd me (length image) next (with_given words o) (made + 1)) (same_given (op_of t) m)
      (stands.goes (word_of t m) (ran_stands t words made m before) (ap task_after (same_turn t m) ∙ is))

  module _ (joined : IsKept kept) where
    -- the operations are as many as the answer says
    pub ran_steps : (t : Task) (words : List ℕ) (made : ℕ) (m : Machine) (reply : Reply) → SoloRun kept cmd me image cache t words made m → turn_on t m ≡ Ends reply
        → made + 1 ≡ steps_of kept cmd (length image) (with_given words (given (op_of t) m)) reply
    ran_steps t words made m reply ran ends =
        steps_at_end kept cmd me (length image) t words made joined (ran_stands t words made m ran) (word_of t m) reply (same_turn t m ∙ ends)
        ∙ ap (λ (o : Option ℕ). steps_of kept cmd (length image) (with_given words o) reply) (same_given (op_of t) m)

    pub ran_cmd : (t : Task) (words : List ℕ) (made : ℕ) (m : Machine) → SoloRun kept cmd me image cache t words made m → t.cmd ≡ cmd
    ran_cmd t words made m ran = (standing_tied kept cmd me (length image) t words made joined (ran_stands t words made m ran)).cmd_is

    pub ran_me : (t : Task) (words : List ℕ) (made : ℕ) (m : Machine) → SoloRun kept cmd me image cache t words made m → t.me ≡ me
    ran_me t words made m ran = (standing_tied kept cmd me (length image) t words made joined (ran_stands t words made m ran)).me_is

    -- behind the superblock the host was let through
    pub ran_behind : (t : Task) (words : List ℕ) (made : ℕ) (m : Machine) → SoloRun kept cmd me image cache t words made m → IsBehindSuper t.phase → host_refusal (wish_of cmd) t.params me ≡ None
    ran_behind t words made m ran behind = behind_super kept cmd me (length image) t words made joined (ran_stands t words made m ran) behind

-- The form of the image.

module _ (kept : Option Kept) (cmd : Cmd) (me : List ℕ) (image : Image) (cache : Cache) where
  pub ran_length : (t : Task) (words : List ℕ) (made : ℕ) (m : Machine) → SoloRun kept cmd me image cache t words made m → length m.image ≡ length image
  ran_length t words made m starts = refl
  ran_length next _ _ _ (goes {t = t} {words = words} {made = made} {m = m} before inside is) = operated_length (op_of t) m ∙ ran_length t words made m before

  pub ran_normal : map eight image ≡ image → (t : Task) (words : List ℕ) (made : ℕ) (m : Machine) → SoloRun kept cmd me image cache t words made m → map eight m.image ≡ m.image
  ran_normal normal t words made m starts = normal
  ran_normal normal next _ _ _ (goes {t = t} {words = words} {made = made} {m = m} before inside is) = operated_normal (op_of t) m (ran_normal normal t words made m before)

-- Copies that memory needn't get.

-- the operation is one of a reading
abbrev pub IsReadingOp : Op → Type 0
IsReadingOp (Load l k) = ⊤
IsReadingOp (Store l k value) = ⊥
IsReadingOp (WriteBack l) = ⊥
IsReadingOp Fence = ⊥
IsReadingOp (Invalidate l) = ⊤
IsReadingOp Digest = ⊤

pub quiet_before : (t : Task) (p : Phase) → IsBeforeWrites p → IsReadingOp (op_at t p)
quiet_before t (at.StoreData j k) before = absurd before
quiet_before t (at.SendData j) before = absurd before
quiet_before t (at.StoreSlot j k) before = absurd before
quiet_before t (at.SendSlot j) before = absurd before
quiet_before t at.StoreGate before = absurd before
quiet_before t at.FenceSlot before = absurd before
quiet_before t at.SendGate before = absurd before
quiet_before t at.FenceGate before = absurd before
quiet_before t e before = tt

fresh_brought : (w : List ℕ) (c : Cell) → Fresh w c → Fresh w (brought w c)
fresh_brought w Absent f = refl
fresh_brought w (Clean words) f = f
fresh_brought w (Dirty a words) f = absurd f

-- a copy that can't be stale has nothing to send
pub clean_fresh : (w : List ℕ) (c : Cell) → length w ≡ 8 → Fresh w c → IsCleanCell c
clean_fresh w Absent wide f = tt
clean_fresh w (Clean words) wide f = ap length f ∙ wide
clean_fresh w (Dirty a words) wide f = absurd f

-- a copy that has nothing to send isn't asked for
pub clean_unasked : (c : Cell) → IsCleanCell c → IsAsked c → ⊥
clean_unasked Absent clean is = absurd (cc)
clean_unasked (Clean words) clean is = absurd (cc)
clean_unasked (Dirty a words) clean is = clean

pub fresh_unasked : (w : List ℕ) (c : Cell) → Fresh w c → IsAsked c → ⊥
fresh_unasked w Absent f is = absurd (cc)
fresh_unasked w (Clean words) f is = absurd (cc)
fresh_unasked w (Dirty a words) f is = f

-- a line that was dropped
pub dropped_fresh : (w : List ℕ) (line : ℕ) (cache : Cache) → Fresh w (cell_at (with_cell line Absent cache) line)
dropped_fresh w line cache = subst (Fresh w) (sym (cell_at-with_cell_same line Absent cache)) tt

module _ (m : Machine) (normal : map eight m.image ≡ m.image) (clean : IsClean m.cache) where
  -- nothing is sent
  sent_same : (l : ℕ) → with_line l (sent (line_at m.image l) (cell_at m.cache l)) m.image ≡ m.image
  sent_same l = ap (λ (w : List ℕ). with_line l w m.image) (clean_sent (line_at m.image l) (cell_at m.cache l) (clean l)) ∙ with_line-line_at m.image normal l

  pub quiet_image : (op : Op) → IsReadingOp op → (operated op m).image ≡ m.image
  quiet_image (Load l k) quiet = refl
  quiet_image (Store l k value) quiet = absurd quiet
  quiet_image (WriteBack l) quiet = absurd quiet
  quiet_image Fence quiet = absurd quiet
  quiet_image (Invalidate l) quiet = sent_same l.0
  quiet_image Digest quiet = refl

  pub quiet_clean : (op : Op) → IsReadingOp op → IsClean (operated op m).cache
  quiet_clean (Load a k) quiet = clean_with a.0 _ m.cache clean (clean_brought (line_at m.image a.0) (cell_at m.cache a.0) refl (clean a.0))
  quiet_clean (Store a k value) quiet = absurd quiet
  quiet_clean (WriteBack a) quiet = absurd quiet
  quiet_clean Fence quiet = absurd quiet
  quiet_clean (Invalidate a) quiet = clean_with a.0 Absent m.cache clean tt
  quiet_clean Digest quiet = clean

  -- a copy that can't be stale stays so
  still_fresh : (line : ℕ) (cell : Cell) → (Fresh (line_at m.image line) (cell_at m.cache line) → Fresh (line_at m.image line) cell) → (l : ℕ)
      → Fresh (line_at m.image l) (cell_at m.cache l) → Fresh (line_at m.image l) (cell_at (with_cell line cell m.cache) l)
  still_fresh line cell keeps l f =
      elim (cases_eq l line) [
        | inl same ↦
            let here = keeps (subst (λ (k : ℕ). Fresh (line_at m.image k) (cell_at m.cache k)) same f) in
            subst (λ (k : ℕ). Fresh (line_at m.image k) (cell_at (with_cell line cell m.cache) k)) (sym same)
            (subst (Fresh (line_at m.image line)) (sym (cell_at-with_cell_same line cell m.cache)) here)
        | inr other ↦ subst (Fresh (line_at m.image l)) (sym (cell_at-with_cell_other line cell m.cache l other)) f
      ]

  fresh_cell : (op : Op) → IsReadingOp op → (l : ℕ) → Fresh (line_at m.image l) (cell_at m.cache l) → Fresh (line_at m.image l) (cell_at (operated op m).cache l)
  fresh_cell (Load a k) quiet = still_fresh a.0 _ (fresh_brought (line_at m.image a.0) (cell_at m.cache a.0))
  fresh_cell (Store a k value) quiet = absurd quiet
  fresh_cell (WriteBack a) quiet = absurd quiet
  fresh_cell Fence quiet = absurd quiet
  fresh_cell (Invalidate a) quiet = still_fresh a.0 Absent (λ f. tt)
  fresh_cell Digest quiet = λ l f. f

  pub quiet_fresh : (op : Op) → IsReadingOp op → (l : ℕ) → Fresh (line_at m.image l) (cell_at m.cache l) → Fresh (line_at (operated op m).image l) (cell_at (operated op m).cache l)
  quiet_fresh op quiet l f = subst (λ (image : Image). Fresh (line_at image l) (cell_at (operated op m).cache l)) (sym (quiet_image op quiet)) (fresh_cell op quiet l f)

  not_sent_same : (through : ℕ) (l : LineNo) (w : List ℕ) (c : Cell) (failure : Failure) → IsCleanCell c
      → option_map (torn_at l m) (failed_send through w c) ≡ Some failure → failure.left.image ≡ m.image
  not_sent_same through l w Absent failure f is = absurd (cc)
  not_sent_same through l w (Clean words) failure f is = absurd (cc)
  not_sent_same through l w (Dirty a words) failure f is = absurd f

  pub quiet_failed : (op : Op) (through : Breaking) (failure : Failure) → failed through op m ≡ Some failure → IsReadingOp op → failure.left.image ≡ m.image
  quiet_failed (Load l k) through failure is quiet = ap (λ (f : Failure). f.left.image) (brought_fails l m (cell_at m.cache l.0) failure is)
  quiet_failed (Store l k value) through failure is quiet = absurd quiet
  quiet_failed (WriteBack l) through failure is quiet = absurd quiet
  quiet_failed Fence through failure is quiet = absurd quiet
  quiet_failed (Invalidate l) through failure is quiet = not_sent_same through.mask l (line_at m.image l.0) (cell_at m.cache l.0) failure (clean l.0) is
  quiet_failed Digest through failure is quiet = absurd (cc)

-- Up to the first store of an append.

-- the image is as it was, the cache has nothing to send, and from the mark on its copy of the gate's line isn't stale
pub record Looks (image : Image) (phase : Phase) (m : Machine) : Type 0 where
  pub image_is : m.image ≡ image
  pub clean : IsClean m.cache
  pub gate : HasMarked phase → Fresh (line_at m.image gate_line) (cell_at m.cache gate_line)

-- at the places of an append a task goes on to such a place
pub stays_past : (p : Phase) (t next : Task) (word : ℕ) → task_after (turn_at p t word) ≡ Some next → IsBeforeWrites next.phase → IsBeforeWrites p
stays_past (at.StoreData j k) t next word is before = by_test (nat_lt k 7) (ap (λ (x : Task). x.phase) (same_Some _ next is))
  where
    by_test : (b : Bool) → (if b then at.StoreData j (k + 1) else at.SendData j) ≡ next.phase → ⊥
    by_test true e = subst IsBeforeWrites (sym e) before
    by_test false e = subst IsBeforeWrites (sym e) before
stays_past (at.SendData j) t next word is before = by_test (nat_lt (j + 1) (lines_of (size_of t.entry))) (ap (λ (x : Task). x.phase) (same_Some _ next is))
  where
    by_test : (b : Bool) → (if b then at.StoreData (j + 1) 0 else at.StoreSlot 0 0) ≡ next.phase → ⊥
    by_test true e = subst IsBeforeWrites (sym e) before
    by_test false e = subst IsBeforeWrites (sym e) before
stays_past (at.StoreSlot j k) t next word is before = by_test (nat_lt k 7) (ap (λ (x : Task). x.phase) (same_Some _ next is))
  where
    by_test : (b : Bool) → (if b then at.StoreSlot j (k + 1) else at.SendSlot j) ≡ next.phase → ⊥
    by_test true e = subst IsBeforeWrites (sym e) before
    by_test false e = subst IsBeforeWrites (sym e) before
stays_past (at.SendSlot j) t next word is before = by_test (nat_lt (j + 1) (geometry t.params).lines) (ap (λ (x : Task). x.phase) (same_Some _ next is))
  where
    by_test : (b : Bool) → (if b then at.StoreSlot (j + 1) 0 else at.FenceSlot) ≡ next.phase → ⊥
    by_test true e = subst IsBeforeWrites (sym e) before
    by_test false e = subst IsBeforeWrites (sym e) before
stays_past at.StoreGate t next word is before = subst IsBeforeWrites (sym (ap (λ (x : Task). x.phase) (same_Some _ next is))) before
stays_past at.FenceSlot t next word is before = subst IsBeforeWrites (sym (ap (λ (x : Task). x.phase) (same_Some _ next is))) before
stays_past at.SendGate t next word is before = subst IsBeforeWrites (sym (ap (λ (x : Task). x.phase) (same_Some _ next is))) before
stays_past at.FenceGate t next word is before = absurd (cc)
stays_past e t next word is before = tt

-- a command that appends nothing stays before its stores
reader_stays : (p : Phase) (cmd : Cmd) (turn : Turn) (next : Task) → wish_of cmd ≡ None → SaysAt p cmd turn → task_after turn ≡ Some next → IsBeforeWrites next.phase
reader_stays p cmd (Goes t) next none says is = subst (λ (x : Task). IsBeforeWrites x.phase) (same_Some t next is) says
reader_stays p cmd (Marks t) next none says is = subst (λ (x : Task). IsBeforeWrites x.phase) (same_Some t next is) says
reader_stays p cmd (Finds n t) next none says is = subst (λ (x : Task). IsBeforeWrites x.phase) (same_Some t next is) says
reader_stays p cmd (Writes seq e t) next none says is = absurd (let some = says.wish.1 in cc)
reader_stays p cmd (Ends reply) next none says is = absurd (cc)

module _ (kept : Option Kept) (cmd : Cmd) (me : List ℕ) (image : Image) (cache : Cache) where
  module _ (normal : map eight image ≡ image) (clean : IsClean cache) where
    -- after one operation more
    pub looks_on : (t next : Task) (words : List ℕ) (made : ℕ) (m : Machine) → SoloRun kept cmd me image cache t words made m → IsBeforeWrites t.phase
        → Looks image t.phase m → task_after (turn_on t m) ≡ Some next → Looks image next.phase (operated (op_of t) m)
    looks_on t next words made m ran before looks is =
        let formed : map eight m.image ≡ m.image = ran_normal kept cmd me image cache normal t words made m ran in
        let quiet : IsReadingOp (op_of t) = quiet_before t t.phase before in
        record {
          image_is = quiet_image m formed looks.clean (op_of t) quiet ∙ looks.image_is;
          clean = quiet_clean m formed looks.clean (op_of t) quiet;
          gate = λ past. elim (from_mark t.phase t next (word_of t m) is past) [
            | inl was ↦ quiet_fresh m formed looks.clean (op_of t) quiet gate_line (looks.gate was)
            | inr here ↦ subst (λ (p : Phase). Fresh (line_at (operated (op_at t p) m).image gate_line)
                (cell_at (operated (op_at t p) m).cache gate_line)) (sym here)
                (dropped_fresh (line_at (operated (op_at t at.DropGate) m).image gate_line) gate_line m.cache)
          ];
        }

    pub ran_looks : (t : Task) (words : List ℕ) (made : ℕ) (m : Machine) → SoloRun kept cmd me image cache t words made m → IsBeforeWrites t.phase → Looks image t.phase m
    ran_looks t words made m starts before = record { image_is = refl; clean = clean; gate = λ past. absurd past }
    ran_looks next _ _ _ (goes {t = t} {words = words} {made = made} {m = m} before inside is) at_phase =
        let was : IsBeforeWrites t.phase = stays_past t.phase t next (word_of t m) is at_phase in
        looks_on t next words made m before was (ran_looks t words made m before was) is

    -- so it is where it ends
    pub looks_end : (t : Task) (words : List ℕ) (made : ℕ) (m : Machine) → SoloRun kept cmd me image cache t words made m → IsBeforeWrites t.phase
        → ((operated (op_of t) m).image ≡ image) × IsClean (operated (op_of t) m).cache
    looks_end t words made m ran before =
        let looks : Looks image t.phase m = ran_looks t words made m ran before in
        let formed : map eight m.image ≡ m.image = ran_normal kept cmd me image cache normal t words made m ran in
        let quiet : IsReadingOp (op_of t) = quiet_before t t.phase before in
        (quiet_image m formed looks.clean (op_of t) quiet ∙ looks.image_is, quiet_clean m formed looks.clean (op_of t) quiet)

    -- nor does a fault of memory change the image
    pub ran_failed : (t : Task) (words : List ℕ) (made : ℕ) (m : Machine) → SoloRun kept cmd me image cache t words made m → IsBeforeWrites t.phase
        → (through : Breaking) (failure : Failure) → failed through (op_of t) m ≡ Some failure → failure.left.image ≡ image
    ran_failed t words made m ran before through failure is =
        let looks : Looks image t.phase m = ran_looks t words made m ran before in
        quiet_failed m (ran_normal kept cmd me image cache normal t words made m ran) looks.clean (op_of t) through failure is (quiet_before t t.phase before) ∙ looks.image_is

  module _ (joined : IsKept kept) where
    pub reader_before : wish_of cmd ≡ None → (t : Task) (words : List ℕ) (made : ℕ) (m : Machine) → SoloRun kept cmd me image cache t words made m → IsBeforeWrites t.phase
    reader_before none t words made m starts = tt
    reader_before none next _ _ _ (goes {t = t} {words = words} {made = made} {m = m} before inside is) =
        reader_stays t.phase t.cmd (turn_on t m) next (ap wish_of (ran_cmd kept cmd me image cache joined t words made m before) ∙ none)
        (turn_says t.phase t (word_of t m) (reader_before none t words made m before) refl) is
