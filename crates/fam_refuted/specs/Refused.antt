-- Five protocols that look right and aren't, each with a run in which a reader is given something wrong. docs/MODEL.md,
-- "The protocol".
use Rattle.std.specs.Prelude.{ℕ, ◌≡◌, ◌≢◌, ◌+◌, ◌*◌, ◌<◌, ◌≤◌, not, Bool, true, false, List, [], ◌∷◌, ◌++◌, length, map, filter, flat_map, slice_get, Option, Some, None, Ok}
use Rattle.std.specs.List.{range_with_len}
use Rattle.fam_base.specs.declared.cmd.Cmd.{Cmd}
use Rattle.fam_base.specs.declared.entry.Params.{Params}
use Rattle.fam_base.specs.declared.entry.Entry.{Entry}
use Rattle.fam_base.specs.Image.{Image, line_at}
use Rattle.fam_format.specs.Layout.{device_limit, geometry, gate_line, least_lines, slot_line}
use Rattle.fam_format.specs.Reading.{Sound, reading, slot_in}
use Rattle.fam_format.specs.Slot.{entry_of}
use Rattle.fam_machine.specs.declared.op.Op.{Op}
use Rattle.fam_machine.specs.declared.op.Op.TheVariants.{Load, Store, WriteBack, Fence, Invalidate, Digest}
use Rattle.fam_machine.specs.Operations.{given_by, load_ops, line_no}
use Rattle.fam_commands.specs.Table.{append_ops, data_ops, new_slot_ops, slot_ops}
use Rattle.fam_commands.specs.Task.{content_of}
use Rattle.fam_commands.specs.Turns.{Ends}
use Rattle.fam_rules.specs.Asks.{File}
use Rattle.fam_rules.specs.Content.{fill}
use Rattle.fam_rules.specs.Decide.{decide}
use Rattle.fam_rules.specs.Place.{line_bytes}
use Rattle.fam_rules.specs.Reply.{Appended}
use Rattle.fam_protocol.specs.SharedState.{SharedState, Operates, TransfersAt}
use Rattle.fam_protocol.specs.Lines.{gate_of}
use Rattle.fam_protocol.specs.Tasks.{IsCommand}
use Rattle.fam_protocol.specs.After.{settled_after}
use Rattle.fam_protocol.specs.Invariant.{Hosts, Known, Invariant, solo, held_file}

-- Runs.

-- what happens next
pub data Step : Type 0 where
  -- a host does an operation
  Does : (host : ℕ) (op : Op) → Step
  -- a host's cache moves at a line by itself
  Transfers : (host line : ℕ) → Step

-- a word, where there is one, before others
abbrev pub with_first : Option ℕ → List ℕ → List ℕ
with_first None words = words
with_first (Some word) words = word ∷ words

-- these steps may happen in this order. Their loads give these words, and they lead from the first state to the second
pub data RanSteps : List Step → List ℕ → SharedState → SharedState → Type 0 where
  ends : {s : SharedState} → RanSteps [] [] s s
  goes : {host : ℕ} {op : Op} {more : List Step} {words : List ℕ} {s s' s'' : SharedState} (word : ℕ) → Operates op host s s' word → RanSteps more words s' s'' → RanSteps (Does host op ∷ more) (with_first (given_by op word) words) s s''
  moves : {host line : ℕ} {more : List Step} {words : List ℕ} {s s' s'' : SharedState} → TransfersAt host line s s' → RanSteps more words s' s'' → RanSteps (Transfers host line ∷ more) words s s''

-- a host does these operations
abbrev pub all_by : ℕ → List Op → List Step
all_by host ops = map (Does host) ops

-- a host's cache moves at each of these lines by itself. In the runs below a reader fetches them early
abbrev pub fetches : ℕ → List ℕ → List Step
fetches host lines = map (Transfers host) lines

-- The scene: a sound file system, its master with a command that appends, and a reader.

-- what the five runs begin with
pub record Scene : Type 0 where
  -- the image, its parameters, and the entries that are published
  pub image : Image
  pub params : Params
  pub entries : List Entry
  -- the master's command, and the entry that it appends
  pub cmd : Cmd
  pub entry : Entry
  pub master : ℕ
  pub reader : ℕ

-- the new entry's number: the gate before it is published
abbrev pub next : Scene → ℕ
next c = length c.entries

-- the history before the command
abbrev pub old_history : Scene → List File
old_history c = map (held_file (line_at c.image)) c.entries

-- and with the new entry
abbrev pub history : Scene → List File
history c = old_history c ++ record { entry = c.entry; bytes = fill (content_of c.cmd) c.entry.size } ∷ []

-- the image reads as sound, with these entries; the rules let the master append the new one, and its slot doesn't hold
-- it yet; and the reader is another host
pub record Begins (c : Scene) : Type 0 where
  pub enough : least_lines ≤ length c.image
  pub limit : line_bytes * length c.image ≤ device_limit
  pub reads : reading c.image ≡ Sound c.params c.entries
  pub command : IsCommand c.cmd
  pub decided : decide c.params c.params.master c.entries c.cmd ≡ Some (Ok c.entry)
  pub other : slot_in (line_at c.image) c.params (next c) ≢ Ok c.entry
  pub hosts : c.master ≢ c.reader

-- a scene with these parameters and these two hosts
pub record SceneOf (p : Params) (master reader : ℕ) : Type 0 where
  pub scene : Scene
  pub params : scene.params ≡ p
  pub master_is : scene.master ≡ master
  pub reader_is : scene.reader ≡ reader
  pub begins : Begins scene

-- Operations, as the table of fam_commands has them.

-- the master appends, once it has decided: file, slot and gate. With the last of these the table answers `Appended`
abbrev pub appends : Scene → List Op
appends c = append_ops c.params (next c) c.entry (content_of c.cmd)

-- its stores of the slot's lines, each of which it asks to be sent
abbrev pub writes_slot : Scene → List Op
writes_slot c = new_slot_ops c.params (next c) c.entry

-- its store of the gate
abbrev pub stores_gate : Scene → List Op
stores_gate c = Store (line_no gate_line) 0 (next c + 1) ∷ []

-- and its send
abbrev pub sends_gate : List Op
sends_gate = WriteBack (line_no gate_line) ∷ Fence ∷ []

-- a reader drops the gate's line and loads the gate
abbrev pub reads_gate : List Op
reads_gate = load_ops gate_line 1

-- a reader drops each line of a slot and loads its words
abbrev pub reads_slot : Scene → ℕ → List Op
reads_slot c i = slot_ops c.params i

-- operations on each of the first so many slots
abbrev pub at_slots : (ℕ → List Op) → ℕ → List Op
at_slots ops count = flat_map ops (range_with_len 0 count)

-- the lines of the new entry's slot
abbrev pub slot_lines : Scene → List ℕ
slot_lines c = map (λ j. slot_line c.params (next c) j) (range_with_len 0 (geometry c.params).lines)

-- What is changed.

-- the operation drops a line
abbrev pub is_drop : Op → Bool
is_drop (Invalidate line) = true
is_drop (Load line word) = false
is_drop (Store line word value) = false
is_drop (WriteBack line) = false
is_drop Fence = false
is_drop Digest = false

-- a reader's drops alone, and its operations without them
abbrev pub drops : List Op → List Op
drops ops = filter is_drop ops

-- the others
abbrev pub without_drops : List Op → List Op
without_drops ops = filter (λ op. not (is_drop op)) ops

-- The five runs: what happens before the reader loads the gate, and how it reads from then on.

-- the reader drops each slot of the log, and an early fetch brings the new entry's slot back as it was
abbrev pub drops_early : Scene → List Step
drops_early c = all_by c.reader (at_slots (λ i. drops (reads_slot c i)) c.params.slots) ++ fetches c.reader (slot_lines c) ++ all_by c.master (appends c)

-- an early fetch brings that slot
abbrev pub fetches_slot : Scene → List Step
fetches_slot c = fetches c.reader (slot_lines c) ++ all_by c.master (appends c)

-- the reader loads the gate, and the slots that it counts without a drop
abbrev pub keeps_slots : Scene → List Step
keeps_slots c = all_by c.reader (reads_gate ++ at_slots (λ i. without_drops (reads_slot c i)) (next c + 1))

-- an early fetch brings the gate's line
abbrev pub fetches_gate : Scene → List Step
fetches_gate c = fetches c.reader (gate_line ∷ []) ++ all_by c.master (appends c)

-- the reader loads the gate without a drop
abbrev pub keeps_gate : Scene → List Step
keeps_gate c = all_by c.reader (without_drops reads_gate)

-- the master stores the slot and asks for it to be sent, and stores the gate without a fence between. Then its cache sends
-- the gate's line by itself
abbrev pub gate_first : Scene → List Step
gate_first c = all_by c.master (data_ops c.entry (content_of c.cmd) ++ writes_slot c ++ stores_gate c) ++ Transfers c.master gate_line ∷ []

-- the reader does as it should: it drops each line before it loads it
abbrev pub reads_well : Scene → List Step
reads_well c = all_by c.reader (reads_gate ++ at_slots (reads_slot c) (next c + 1))

-- and the master goes on to its end: the fence sends the slot
abbrev pub sends_late : Scene → List Step
sends_late c = all_by c.master sends_gate

-- the master writes back the gate, and answers at once, without a fence behind it
abbrev pub answers_early : Scene → List Step
answers_early c = all_by c.master (data_ops c.entry (content_of c.cmd) ++ writes_slot c ++ Fence ∷ Store (line_no gate_line) 0 (next c + 1) ∷ WriteBack (line_no gate_line) ∷ [])

-- the reader drops the gate's line before it loads the gate, as it should
abbrev pub drops_gate : Scene → List Step
drops_gate c = all_by c.reader reads_gate

-- What comes of them.

-- how many entries are settled once the master has answered
abbrev pub settled_by_answer : Scene → ℕ
settled_by_answer c = settled_after (Ends (Appended (next c))) (next c)

-- the master has answered that the entry is appended. What the protocol keeps holds of memory and of both hosts'
-- caches, and the new entry is one of those that are settled
pub record AnswersSettled (c : Scene) (s : SharedState) : Type 0 where
  pub hosts : Hosts
  pub master : hosts.uuid c.master ≡ Some c.params.master
  pub reader : hosts.uuid c.reader ≢ None
  pub invariant : Invariant (Known c.params (history c) (settled_by_answer c)) (length c.image) hosts s

-- memory's gate counts the new entry, and its slot reads as it
pub record IsPublished (c : Scene) (s : SharedState) : Type 0 where
  pub gate : gate_of (s.memory gate_line) ≡ next c + 1
  pub slot : slot_in s.memory c.params (next c) ≡ Ok c.entry

-- a reader was given a gate that counts the new entry, the words of the slots before, and words of its slot that don't
-- read as the history's entry with that number
pub record IsWrong (c : Scene) (given : List ℕ) : Type 0 where
  pub before : List ℕ
  pub words : List ℕ
  pub are : given ≡ (next c + 1) ∷ before ++ words
  pub phase : length before ≡ (geometry c.params).words * next c
  pub whole : length words ≡ (geometry c.params).words
  pub file : File
  pub is : slice_get (history c) (next c) ≡ Some file
  pub wrong : entry_of c.params words (next c) ≢ Ok file.entry

-- this may happen from the image and empty caches, and then the master has answered. Then the reader may read so, and
-- what it is given is wrong
pub record Misreads (c : Scene) (before reads : List Step) : Type 0 where
  pub middle : SharedState
  pub began : RanSteps before [] (solo c.image) middle
  pub answered : AnswersSettled c middle
  pub given : List ℕ
  pub after : SharedState
  pub ran : RanSteps reads given middle after
  pub wrong : IsWrong c given

-- the same, and the reader may be given a gate below what was settled when it began
pub record Misses (c : Scene) (before reads : List Step) : Type 0 where
  pub middle : SharedState
  pub began : RanSteps before [] (solo c.image) middle
  pub answered : AnswersSettled c middle
  pub gate : ℕ
  pub after : SharedState
  pub ran : RanSteps reads (gate ∷ []) middle after
  pub low : gate < settled_by_answer c

-- this may happen from the image and empty caches, and a master that did so has answered. Then the reader may read so, and
-- it is given a gate below what that answer settles
pub record Misleads (c : Scene) (before reads : List Step) : Type 0 where
  pub middle : SharedState
  pub began : RanSteps before [] (solo c.image) middle
  pub gate : ℕ
  pub after : SharedState
  pub ran : RanSteps reads (gate ∷ []) middle after
  pub low : gate < settled_by_answer c

-- this may happen from the image and empty caches; then the reader may read so, and what it is given is wrong; and then
-- the master may do the rest, and memory has the entry
pub record TearsEntry (c : Scene) (before reads rest : List Step) : Type 0 where
  pub middle : SharedState
  pub began : RanSteps before [] (solo c.image) middle
  pub given : List ℕ
  pub later : SharedState
  pub ran : RanSteps reads given middle later
  pub wrong : IsWrong c given
  pub after : SharedState
  pub ended : RanSteps rest [] later after
  pub published : IsPublished c after
