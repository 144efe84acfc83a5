-- What a task has loaded and what it says, taken out of what holds at its place and of what its step may say.
use Rattle.std.proofs.Common.{ℕ, ◌+◌, ◌*◌, ◌/◌, ◌%◌, ◌^◌, ◌≤◌, ◌<◌, ◌≡◌, List, length, get_or, inl, inr, sym, ◌∙◌, ap, subst, arith}
use Rattle.std.specs.Prelude.{Option, Some, Ok, slice_index}
use Rattle.std.proofs.lemmas.Bool.{cases_lt}
use Rattle.std.proofs.lemmas.List.{get_or_past}
use Rattle.std.proofs.lemmas.List.FromFn.{get_or-map-range_with_len, length-map-range_with_len}
use Rattle.fam_base.specs.declared.entry.Params.{Params}
use Rattle.fam_base.specs.declared.entry.Entry.{Entry}
use Rattle.fam_base.specs.Image.{byte_of}
use Rattle.fam_format.specs.Layout.{geometry, gate_line}
use Rattle.fam_format.specs.Reading.{Lines, reading_of, slot_word, slot_words}
use Rattle.fam_format.specs.ReadingLaws.{HasWords}
use Rattle.fam_format.specs.Slot.{entry_of}
use Rattle.fam_format.proofs.EntryLawsProofs.{read_spelled}
use Rattle.fam_commands.specs.declared.phase.Part.TheVariants.{Superblock, Header, Slot, File as FileLines}
use Rattle.fam_commands.specs.declared.phase.Phase.{Phase}
use Rattle.fam_commands.specs.declared.phase.Phase.TheVariants as at
use Rattle.fam_commands.specs.Stands.{turn_given}
use Rattle.fam_commands.specs.Task.{Task, first_line, line_of, part_line}
use Rattle.fam_commands.specs.Turns.{Turn, Finds, Writes, Ends}
use Rattle.fam_rules.specs.declared.answers.Refused.{Refused}
use Rattle.fam_rules.specs.declared.answers.Refused.TheVariants as refused
use Rattle.fam_rules.specs.declared.answers.Report.{Report}
use Rattle.fam_rules.specs.Asks.{File, entries_of}
use Rattle.fam_rules.specs.Content.{byte_in}
use Rattle.fam_rules.specs.Decide.{decide}
use Rattle.fam_rules.specs.Place.{line_bytes}
use Rattle.fam_rules.specs.Reply.{Reply, Appended, NotAppended, Played, Mounted, Same, Differs, Length, Bytes, NotFound, IsDirectory, Checks, Reports, NoSuperblock, BadHeader, BadSlot}
use Rattle.fam_rules.specs.Reports.{report_of}
use Rattle.fam_rules.specs.Written.{file_line}
use Rattle.fam_protocol.specs.After.{Run, Named, HasNamed, HoldsNamed, AppendsNamed, AnswersPrefix, RefusesWhole, ReportsPrefix, IsClient, NamesLongPath, MayRefuse, MayReply}
use Rattle.fam_protocol.specs.Bad.{IsBadClient, NamesBadLongPath, MayReplyBad, MaySayBad, Still, fault_of}
use Rattle.fam_protocol.specs.Core.{Core, System}
use Rattle.fam_protocol.specs.Findings.{DamagedStep, HasLoadedGate, IsCurrent, IsFoundCount, IsLoadedSlot, IsLoadedWord, IsOfDecision, IsOfEntries, IsOfFault, SoundStep, SoundTask}
use Rattle.fam_protocol.specs.Lines.{gate_of}
use Rattle.fam_protocol.specs.SharedState.{SharedState}
use Rattle.fam_protocol.specs.Steps.{StepHolds, TurnSays}
use Rattle.fam_protocol.specs.Tasks.{AtPhase, IsWriting, KnowsGate, ReadsFile}
use Rattle.fam_protocol.specs.Invariant.{Damaged, IsKnown, Known}
use Rattle.fam_protocol.proofs.Hosts.Gives.{gives}
use Rattle.fam_protocol.proofs.Hosts.Given.{Given}
use Rattle.fam_protocol.proofs.Settled.Lists.{some_at}
use Rattle.fam_protocol.proofs.Turns.PartWords.{slot_words_are}
use Rattle.fam_protocol.proofs.Hosts.Steps.{invariant_stepped}
use Rattle.fam_protocol.proofs.Turns.Tell.{holds_last}
use Rattle.fam_protocol.proofs.Turns.Slots.{slot_reads}

-- What was loaded.

-- a slot's words are as many as a slot has
slot_long : (memory : Lines) (p : Params) (i : ℕ) → length (slot_words memory p i) ≡ (geometry p).words
unfolding slot_words
slot_long memory p i = length-map-range_with_len (slot_word memory p i) 0 (geometry p).words

-- and fit 64 bits where memory's do
slot_fits : (memory : Lines) (p : Params) (i k : ℕ) → HasWords memory → get_or (slot_words memory p i) k 0 < 2 ^ 64
unfolding slot_words
slot_fits memory p i k fits =
    elim (cases_lt k (geometry p).words) [
      | inl below ↦ subst (λ (n : ℕ). n < 2 ^ 64) (sym (get_or-map-range_with_len (slot_word memory p i) 0 (geometry p).words k k 0 below (omega arith))) (fits _ _)
      | inr past ↦
          let long = length-map-range_with_len (slot_word memory p i) 0 (geometry p).words in
          subst (λ (n : ℕ). n < 2 ^ 64) (sym (get_or_past (slot_words memory p i) k 0 (omega (arith, long)))) (omega arith)
    ]

module _ (sys : System) (host : ℕ) (floor : Option ℕ) (t : Task) (s : SharedState) (all : List File) (settled : ℕ) (core : Core sys s all settled) where
  gate_current : KnowsGate host floor t s all settled → IsCurrent floor t all
  gate_current knows = record { low = knows.low; high = omega (arith, knows.high, core.order, core.high) }

  -- the gate, by the place behind its load
  current_at : (q : Phase) → HasLoadedGate q → AtPhase q sys host floor t s all settled → IsCurrent floor t all
  current_at (at.Drop (Slot i) j) has g = gate_current g.0.1.gate
  current_at (at.Drop FileLines j) has g = gate_current g.0.1.all_read.gate
  current_at (at.Drop Superblock j) has g = absurd has
  current_at (at.Drop Header j) has g = absurd has
  current_at (at.Word (Slot i) j k) has g = gate_current g.0.1.gate
  current_at (at.Word FileLines j k) has g = gate_current g.0.1.all_read.gate
  current_at (at.Word Superblock j k) has g = absurd has
  current_at (at.Word Header j k) has g = absurd has
  current_at (at.Check i) has g = gate_current g.1.gate
  current_at at.Decide has g = gate_current g.1.gate
  current_at other has g = absurd has

  writing_last : (named : Option Named) → HoldsNamed t named → IsWriting sys host t s all settled → AppendsNamed (record { task = t; floor = floor; named = named }) all t.gate
  writing_last named holds w = holds_last floor named t all holds w.pending w.file w.last w.entry

  -- the entry that is being appended, by the place
  named_at : (q : Phase) → HasNamed q → (named : Option Named) → HoldsNamed t named → AtPhase q sys host floor t s all settled
      → AppendsNamed (record { task = t; floor = floor; named = named }) all t.gate
  named_at (at.StoreData j k) has named holds g = writing_last named holds g.1.writing
  named_at (at.SendData j) has named holds g = writing_last named holds g.writing
  named_at (at.StoreSlot j k) has named holds g = writing_last named holds g.1.writing
  named_at (at.SendSlot j) has named holds g = writing_last named holds g.writing
  named_at at.StoreGate has named holds g = writing_last named holds g.writing
  named_at at.FenceSlot has named holds g = writing_last named holds g.writing
  named_at at.SendGate has named holds g = holds_last floor named t all holds g.pending g.file g.last g.entry
  named_at at.FenceGate has named holds g = holds_last floor named t all holds g.0.pending g.0.file g.0.last g.0.entry
  named_at other has named holds g = absurd has

  -- the words of a slot below the gate
  slot_loaded : (i : ℕ) → i < t.gate → AtPhase (at.Check i) sys host floor t s all settled → IsLoadedSlot sys.params i t all s.memory
  slot_loaded i below g =
      let found = some_at all i (omega (arith, g.1.gate.high, core.order, core.high)) in
      let words : t.words ≡ slot_words s.memory t.params i = g.2 below ∙ slot_words_are s.memory t i in
      let reads : entry_of t.params t.words i ≡ Ok found.0.entry = slot_reads sys host floor s all settled core i t found.0 g.0.params g.1.gate.high below found.1 words in
      let same : t.words ≡ slot_words s.memory sys.params i = words ∙ ap (λ (p : Params). slot_words s.memory p i) g.0.params in
      let here : entry_of sys.params t.words i ≡ Ok found.0.entry = ap (λ (p : Params). entry_of p t.words i) (sym g.0.params) ∙ reads in
      record {
        file = found.0;
        is = found.1;
        reads = here;
        spelled = λ fits. same ∙ read_spelled sys.params (slot_words s.memory sys.params i) i found.0.entry (slot_long s.memory sys.params i)
            (λ k. slot_fits s.memory sys.params i k fits) (ap (λ (w : List ℕ). entry_of sys.params w i) (sym same) ∙ here);
        before = g.1.read;
      }

-- a word of a file's line that memory has, where it was loaded
module _ (sys : System) (host : ℕ) (floor : Option ℕ) (t : Task) (s : SharedState) (all : List File) (settled j k word : ℕ)
    (core : Core sys s all settled) (below : k < 8) (f : ReadsFile t all j) (high : t.gate ≤ gate_of (s.memory gate_line))
    (is : word ≡ slice_index (s.memory (part_line t FileLines j)) k) where
  byte_loaded : (b : ℕ) → b < 8 → 64 * (first_line t.cmd + j) + (8 * k + b) < f.file.entry.size → byte_of word b ≡ slice_index f.file.bytes (64 * (first_line t.cmd + j) + (8 * k + b))
  byte_loaded b lt inside =
      let l : ℕ = first_line t.cmd + j in
      let o : ℕ = 64 * l + (8 * k + b) in
      let line : (64 * l + (8 * k + b)) / 64 ≡ l = omega arith in
      let rest : (64 * l + (8 * k + b)) % 64 ≡ 8 * k + b = omega arith in
      let phase : (8 * k + b) / 8 ≡ k = omega arith in
      let byte : (8 * k + b) % 8 ≡ b = omega arith in
      ap (λ (w : ℕ). byte_of w b) (is ∙ ap (λ (e : Option Entry). slice_index (s.memory (line_of e l)) k) f.entry)
      ∙ ap (λ (n : ℕ). byte_of (slice_index (s.memory (file_line f.file.entry l)) n) b) (sym phase)
      ∙ ap (λ (n : ℕ). byte_of (slice_index (s.memory (file_line f.file.entry l)) ((8 * k + b) / 8)) n) (sym byte)
      ∙ ap (λ (n : ℕ). byte_in (s.memory (file_line f.file.entry l)) n) (sym rest)
      ∙ ap (λ (n : ℕ). byte_in (s.memory (file_line f.file.entry n)) ((64 * l + (8 * k + b)) % 64)) (sym line)
      ∙ (core.stands f.i f.file f.is (omega (arith, f.below, high, core.order))).bytes (64 * l + (8 * k + b)) inside

  word_loaded : IsLoadedWord j k word t all
  word_loaded = record { path = f.path; wanted = f.wanted; file = f.file; found = f.found; bytes = byte_loaded }

-- What is said.

module _ (sys : System) (r : Run) (all : List File) (settled : ℕ) where
  asked_by : (reply : Reply) → IsOfEntries reply → MayReply reply sys r all settled → AnswersPrefix r.task r.floor all reply
  asked_by (Played m tree) has may = may
  asked_by (Mounted m) has may = may
  asked_by (Same m) has may = may
  asked_by (Differs m offset found wanted) has may = may
  asked_by (Length m size wanted) has may = may
  asked_by (Bytes m bytes) has may = may
  asked_by (NotFound m) has may = may
  asked_by (IsDirectory m) has may = may
  asked_by (Checks m checked) has may = may
  asked_by other has may = absurd has

  refused_by : (why : Refused) → IsOfDecision why → MayRefuse why sys r.task all settled → RefusesWhole sys.params r.task all settled why
  refused_by (refused.NotMaster me master) has may = absurd has
  refused_by (refused.LongPath limit) has may = absurd has
  refused_by e has may = may

  no_fault_by : (reply : Reply) → MayReply reply sys r all settled → IsOfFault reply → ⊥
  no_fault_by (NoSuperblock fault) may has = may
  no_fault_by (BadHeader fault) may has = may
  no_fault_by (BadSlot seq reason) may has = may
  no_fault_by other may has = absurd has

module _ (image : Lines) (have : ℕ) (t : Task) where
  fault_by : (reply : Reply) → IsOfFault reply → MayReplyBad reply image have t → fault_of (reading_of image have) ≡ Some reply
  fault_by (NoSuperblock fault) has may = may
  fault_by (BadHeader fault) has may = may
  fault_by (BadSlot seq reason) has may = may
  fault_by other has may = absurd has

  no_entries_by : (reply : Reply) → MayReplyBad reply image have t → IsOfEntries reply → ⊥
  no_entries_by (Played m tree) may has = may
  no_entries_by (Mounted m) may has = may
  no_entries_by (Same m) may has = may
  no_entries_by (Differs m offset found wanted) may has = may
  no_entries_by (Length m size wanted) may has = may
  no_entries_by (Bytes m bytes) may has = may
  no_entries_by (NotFound m) may has = may
  no_entries_by (IsDirectory m) may has = may
  no_entries_by (Checks m checked) may has = may
  no_entries_by other may has = absurd has

  not_refused_by : (r : Refused) → MayReplyBad (NotAppended r) image have t → IsOfDecision r → ⊥
  not_refused_by (refused.NotMaster me master) may has = absurd has
  not_refused_by (refused.LongPath limit) may has = absurd has
  not_refused_by e may has = may

-- The laws.

module _ (p : Params) (all : List File) (settled : ℕ) (at : SoundTask p all settled) where
  stage : IsKnown p all settled at.lines at.hosts at.shared
  stage = at.invariant.stage

  -- what a task knows of the gate that it loaded
  pub loaded_gate : HasLoadedGate at.run.task.phase → IsCurrent at.run.floor at.run.task all
  loaded_gate has = current_at _ at.host at.run.floor at.run.task at.shared all settled stage.core at.run.task.phase has (stage.tasks at.host at.run at.runs).phase

  -- what it knows of the entry that it writes
  pub named_entry : HasNamed at.run.task.phase → AppendsNamed at.run all at.run.task.gate
  named_entry has =
      named_at _ at.host at.run.floor at.run.task at.shared all settled stage.core at.run.task.phase has at.run.named (at.invariant.named at.host at.run at.runs has)
      (stage.tasks at.host at.run at.runs).phase

-- what it knows of a slot that it loaded
pub loaded_slot : (p : Params) (all : List File) (settled i : ℕ) (at : SoundTask p all settled) → at.run.task.phase ≡ Phase.Check i
    → i < at.run.task.gate → IsLoadedSlot p i at.run.task all at.shared.memory
loaded_slot p all settled i at is below =
    let known : IsKnown p all settled at.lines at.hosts at.shared = at.invariant.stage in
    let sys : System = record { params = p; have = line_bytes * at.lines; uuid = at.hosts.uuid; master = known.master } in
    slot_loaded sys at.host at.run.floor at.run.task at.shared all settled known.core i below
    (subst (λ (q : Phase). AtPhase q sys at.host at.run.floor at.run.task at.shared all settled) is (known.tasks at.host at.run at.runs).phase)

-- what it knows of a word of a file that it loads
pub loaded_word : (p : Params) (all : List File) (settled j k : ℕ) (step : SoundStep p all settled) → step.run.task.phase ≡ Phase.Word FileLines j k → IsLoadedWord j k step.word step.run.task all
loaded_word p all settled j k step is =
    let known : IsKnown p all settled step.lines step.old step.before = step.invariant.stage in
    let sys : System = record { params = p; have = line_bytes * step.lines; uuid = step.old.uuid; master = known.master } in
    let t : Task = step.run.task in
    let g = gives sys step.before step.after all settled known.core step.host step.run.floor step.word t t.phase (known.tasks step.host step.run step.steps.is).phase step.steps.operates in
    let given : Given (Phase.Word FileLines j k) sys step.host step.run.floor step.word t step.after all settled =
    subst (λ (q : Phase). Given q sys step.host step.run.floor step.word t step.after all settled) is g.given in
    word_loaded sys step.host step.run.floor t step.after all settled j k step.word g.core given.0.2 given.0.0.1.file given.0.0.1.all_read.gate.high (given.1 tt)

module _ (p : Params) (all : List File) (settled : ℕ) (step : SoundStep p all settled) where
  -- what a step may say, by its turn
  says : (turn : Turn) → turn_given step.run.task step.word ≡ turn → TurnSays turn step.run (Known p all settled) step.lines step.old
  says turn is =
      subst (λ (x : Turn). TurnSays x step.run (Known p all settled) step.lines step.old) is
      (invariant_stepped step.lines step.host step.word (Known p all settled) step.run step.old step.new step.before step.after step.invariant step.steps).says

  -- what the master finds
  pub found_count : (n : ℕ) (t : Task) → turn_given step.run.task step.word ≡ Finds n t → IsFoundCount n all settled
  found_count n t is = (says (Finds n t) is).may

  -- which entry it names
  pub named_next : (seq : ℕ) (e : Entry) (t : Task) → turn_given step.run.task step.word ≡ Writes seq e t
      → (seq ≡ settled) × (seq ≡ length all) × (decide p step.run.task.me (entries_of all) step.run.task.cmd ≡ Some (Ok e))
  named_next seq e t is = (says (Writes seq e t) is).may

  -- the answer to a question
  pub asked : (reply : Reply) → turn_given step.run.task step.word ≡ Ends reply → IsOfEntries reply → AnswersPrefix step.run.task step.run.floor all reply
  asked reply is has = asked_by _ step.run all settled reply has (says (Ends reply) is).may

  -- the report of a check of the whole file system
  pub reported : (report : Report) → turn_given step.run.task step.word ≡ Ends (Reports report) → ReportsPrefix p step.run.floor all report
  reported report is = (says (Ends (Reports report)) is).may

  -- an entry is appended
  pub appended : (seq : ℕ) → turn_given step.run.task step.word ≡ Ends (Appended seq) → AppendsNamed step.run all seq
  appended seq is = (says (Ends (Appended seq)) is).may

  -- a refusal for the command's sake
  pub refused_for : (r : Refused) → turn_given step.run.task step.word ≡ Ends (NotAppended r) → IsOfDecision r → RefusesWhole p step.run.task all settled r
  refused_for r is has = refused_by _ step.run all settled r has (says (Ends (NotAppended r)) is).may

  -- a refusal of another host than the master
  pub client : (me master : List ℕ) → turn_given step.run.task step.word ≡ Ends (NotAppended (refused.NotMaster me master)) → IsClient p step.run.task me master
  client me master is = (says (Ends (NotAppended (refused.NotMaster me master))) is).may

  -- a refusal of the master's path
  pub long : (limit : ℕ) → turn_given step.run.task step.word ≡ Ends (NotAppended (refused.LongPath limit)) → NamesLongPath p step.run.task limit
  long limit is = (says (Ends (NotAppended (refused.LongPath limit))) is).may

  -- a sound file system shows no fault
  pub no_fault : (reply : Reply) → turn_given step.run.task step.word ≡ Ends reply → IsOfFault reply → ⊥
  no_fault reply is has = no_fault_by _ step.run all settled reply (says (Ends reply) is).may has

module _ (image : Lines) (lines : ℕ) (step : DamagedStep image lines) where
  holds : StepHolds (Damaged image) lines step.word step.run step.old step.new step.after
  holds = invariant_stepped lines step.host step.word (Damaged image) step.run step.old step.new step.before step.after step.invariant step.steps

  -- what a step on a damaged image may say, by its turn
  says_bad : (turn : Turn) → turn_given step.run.task step.word ≡ turn → MaySayBad turn image (line_bytes * lines) step.run.task
  says_bad turn is = subst (λ (x : Turn). MaySayBad x image (line_bytes * lines) step.run.task) is holds.says

  -- the fault that is named is the reading's
  pub bad_fault : (reply : Reply) → turn_given step.run.task step.word ≡ Ends reply → IsOfFault reply → fault_of (reading_of image (line_bytes * lines)) ≡ Some reply
  bad_fault reply is has = fault_by image (line_bytes * lines) step.run.task reply has (says_bad (Ends reply) is)

  -- the report is the image's
  pub bad_report : (report : Report) → turn_given step.run.task step.word ≡ Ends (Reports report) → report ≡ report_of image (line_bytes * lines)
  bad_report report is = says_bad (Ends (Reports report)) is

  -- nothing is answered of entries
  pub bad_no_entries : (reply : Reply) → turn_given step.run.task step.word ≡ Ends reply → IsOfEntries reply → ⊥
  bad_no_entries reply is has = no_entries_by image (line_bytes * lines) step.run.task reply (says_bad (Ends reply) is) has

  -- nothing is appended
  pub bad_not_appended : (seq : ℕ) → turn_given step.run.task step.word ≡ Ends (Appended seq) → ⊥
  bad_not_appended seq is = says_bad (Ends (Appended seq)) is

  -- nothing is refused for the command's sake
  pub bad_not_refused : (r : Refused) → turn_given step.run.task step.word ≡ Ends (NotAppended r) → IsOfDecision r → ⊥
  bad_not_refused r is has = not_refused_by image (line_bytes * lines) step.run.task r (says_bad (Ends (NotAppended r)) is) has

  -- another host than the superblock's is refused
  pub bad_client : (me master : List ℕ) → turn_given step.run.task step.word ≡ Ends (NotAppended (refused.NotMaster me master)) → IsBadClient image (line_bytes * lines) step.run.task me master
  bad_client me master is = says_bad (Ends (NotAppended (refused.NotMaster me master))) is

  -- and a path for which a slot has no room
  pub bad_long : (limit : ℕ) → turn_given step.run.task step.word ≡ Ends (NotAppended (refused.LongPath limit)) → NamesBadLongPath image (line_bytes * lines) step.run.task limit
  bad_long limit is = says_bad (Ends (NotAppended (refused.LongPath limit))) is

  -- memory stays
  pub bad_same : Still image (line_bytes * lines) step.after
  bad_same = holds.invariant.stage.still
