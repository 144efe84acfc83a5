-- What stays known of a task that comes to another place, with other words.
use Rattle.std.proofs.Common.{ℕ, refl, ◌*◌, ◌≡◌, ◌<◌, List, subst, sym}
use Rattle.std.specs.Prelude.{Option, Some}
use Rattle.fam_base.specs.declared.cmd.Cmd.{Cmd}
use Rattle.fam_base.specs.declared.cmd.Cmd.TheVariants.{Fsck}
use Rattle.fam_commands.specs.declared.phase.Part.{Part}
use Rattle.fam_commands.specs.declared.phase.Part.TheVariants.{Superblock, Header, Slot, File as FileLines}
use Rattle.fam_commands.specs.declared.phase.Phase.{Phase}
use Rattle.fam_commands.specs.Task.{Task, part_count, part_line}
use Rattle.fam_commands.specs.Turns.{slots_read, Turn, Goes, Marks, Finds, Writes, Ends}
use Rattle.fam_rules.specs.Asks.{File}
use Rattle.fam_rules.specs.Reply.{Reply, Appended, NotAppended, Reports, NoSuperblock, BadHeader, BadSlot}
use Rattle.fam_rules.specs.declared.answers.Refused.{Refused}
use Rattle.fam_rules.specs.declared.answers.Refused.TheVariants as refused
use Rattle.fam_rules.specs.Place.{line_bytes}
use Rattle.fam_protocol.specs.SharedState.{SharedState}
use Rattle.fam_protocol.specs.Lines.{Fresh}
use Rattle.fam_protocol.specs.Core.{System}
use Rattle.fam_protocol.specs.Tasks.{IsCommand, IsStable, HasLoaded, IsBeingRead, NoSlot, KnowsHead, KnowsGate, HasRead, HasReadAll, IsAtSlot, IsAtFile, ReadsFile, OnPart}
use Rattle.fam_protocol.specs.After.{After, AnswersPrefix, RefusesWhole, MayRefuse, MayReply, MaySay, Named}
use Rattle.fam_protocol.proofs.Turns.PartWords.{loaded}

-- a task is its host's, of an image of this size
pub record IsTask (sys : System) (host : ℕ) (t : Task) : Type 0 where
  pub command : IsCommand t.cmd
  pub me : sys.uuid host ≡ Some t.me
  pub lines : line_bytes * t.lines ≡ sys.have

-- the task at another place, with other words
abbrev pub moved : Task → Phase → List ℕ → Task
moved t p w = record t { phase = p; words = w }

module _ (t : Task) (p : Phase) (w : List ℕ) where
  -- a part has as many lines
  pub count_moved : (part : Part) → part_count (moved t p w) part ≡ part_count t part
  count_moved Superblock = refl
  count_moved e = refl

  -- the words that were loaded are told by the new ones
  pub loaded_moved : (part : Part) (memory : ℕ → List ℕ) (j k : ℕ) → w ≡ loaded memory t part j k → HasLoaded memory (moved t p w) part j k
  loaded_moved Superblock memory j k h = h
  loaded_moved e memory j k h = h

  -- which lines are sure doesn't change
  pub sure_moved : (part : Part) → IsStable (moved t p w) part → IsStable t part
  sure_moved Superblock h = tt
  sure_moved Header h = tt
  sure_moved (Slot i) h = h
  sure_moved FileLines h = tt

  -- nor what is known of a line that is being read
  pub reading_moved : (part : Part) (host j k : ℕ) (s : SharedState)
      → (IsStable t part → Fresh (s.memory (part_line t part j)) (s.copy host (part_line t part j)) × (w ≡ loaded s.memory t part j k))
      → IsBeingRead host (moved t p w) part j k s
  reading_moved Superblock host j k s h = h
  reading_moved e host j k s h = h

  -- how many slots are read, by the command
  slots_by : (cmd : Cmd) → slots_read (record t { cmd = cmd; phase = p; words = w }) ≡ slots_read (record t { cmd = cmd })
  slots_by Fsck = refl
  slots_by cmd = refl

  -- nor how many slots are read
  pub slots_moved : slots_read (moved t p w) ≡ slots_read t
  slots_moved = slots_by t.cmd

  -- nor that none is
  pub no_slot_moved : NoSlot t → NoSlot (moved t p w)
  no_slot_moved h = record { entries = h.entries; survey = h.survey }

  module _ (sys : System) (host : ℕ) where
    pub task_moved : IsTask sys host t → IsTask sys host (moved t p w)
    task_moved h = record { command = h.command; me = h.me; lines = h.lines }

    pub head_moved : KnowsHead sys host t → KnowsHead sys host (moved t p w)
    head_moved h = record { params = h.params; master = h.master }

  read_by : (cmd : Cmd) (i : ℕ) (all : List File) → HasRead cmd i t all → HasRead cmd i (moved t p w) all
  read_by Fsck i all h = h
  read_by cmd i all h = h

  module _ (host : ℕ) (floor : Option ℕ) (s : SharedState) (all : List File) (settled : ℕ) where
    pub gate_moved : KnowsGate host floor t s all settled → KnowsGate host floor (moved t p w) s all settled
    gate_moved h = record { low = h.low; high = h.high; writer = h.writer }

    pub slot_moved : (i : ℕ) → IsAtSlot i host floor t s all settled → IsAtSlot i host floor (moved t p w) s all settled
    slot_moved i h = record { gate = gate_moved h.gate; below = subst (λ (n : ℕ). i < n) (sym slots_moved) h.below; read = read_by t.cmd i all h.read }

    pub read_all_moved : HasReadAll host floor t s all settled → HasReadAll host floor (moved t p w) s all settled
    read_all_moved h = record { gate = gate_moved h.gate; read = subst (λ (n : ℕ). HasRead t.cmd n (moved t p w) all) (sym slots_moved) (read_by t.cmd (slots_read t) all h.read) }

    pub reads_moved : (j : ℕ) → ReadsFile t all j → ReadsFile (moved t p w) all j
    reads_moved j h = record { file = h.file; i = h.i; is = h.is; below = h.below; entry = h.entry; path = h.path; wanted = h.wanted; found = h.found; kind = h.kind; sized = h.sized; same = h.same }

    pub file_moved : (j : ℕ) → IsAtFile j host floor t s all settled → IsAtFile j host floor (moved t p w) s all settled
    file_moved j h = record { all_read = read_all_moved h.all_read; file = reads_moved j h.file }

    pub on_moved : (part : Part) (j : ℕ) (sys : System) → OnPart part j sys host floor t s all settled → OnPart part j sys host floor (moved t p w) s all settled
    on_moved Superblock j sys h = no_slot_moved h
    on_moved Header j sys h = (no_slot_moved h.0, head_moved sys host h.1)
    on_moved (Slot i) j sys h = (head_moved sys host h.0, slot_moved i h.1)
    on_moved FileLines j sys h = (head_moved sys host h.0, file_moved j h.1)

  -- what a turn may say, where it is the moved task's
  module _ (sys : System) (floor : Option ℕ) (named : Option Named) (all : List File) (settled : ℕ) where
    asked_moved : (reply : Reply) → AnswersPrefix (moved t p w) floor all reply → AnswersPrefix t floor all reply
    asked_moved reply h = record { low = h.low; high = h.high; is = h.is }

    refused_moved : (r : Refused) → RefusesWhole sys.params (moved t p w) all settled r → RefusesWhole sys.params t all settled r
    refused_moved r h = record { settled_is = h.settled_is; is = h.is }

    may_refuse_moved : (r : Refused) → MayRefuse r sys (moved t p w) all settled → MayRefuse r sys t all settled
    may_refuse_moved (refused.NotMaster me master) h = record { me_is = h.me_is; master_is = h.master_is; other = h.other }
    may_refuse_moved (refused.LongPath limit) h = record { wish = h.wish; wished = h.wished; is = h.is }
    may_refuse_moved e h = refused_moved e h

    may_reply_moved : (reply : Reply) → MayReply reply sys (record { task = moved t p w; floor = floor; named = named }) all settled
        → MayReply reply sys (record { task = t; floor = floor; named = named }) all settled
    may_reply_moved (Appended seq) h = record { count = h.count; file = h.file; last = h.last; named = h.named; entry = h.entry }
    may_reply_moved (NotAppended r) h = may_refuse_moved r h
    may_reply_moved (Reports report) h = h
    may_reply_moved (NoSuperblock fault) h = h
    may_reply_moved (BadHeader fault) h = h
    may_reply_moved (BadSlot seq reason) h = h
    may_reply_moved e h = asked_moved e h

    may_say_moved : (turn : Turn) → MaySay turn sys (record { task = moved t p w; floor = floor; named = named }) all settled
        → MaySay turn sys (record { task = t; floor = floor; named = named }) all settled
    may_say_moved (Goes next) h = tt
    may_say_moved (Marks next) h = tt
    may_say_moved (Finds n next) h = h
    may_say_moved (Writes seq e next) h = h
    may_say_moved (Ends reply) h = may_reply_moved reply h

    pub after_moved : (turn : Turn) (host : ℕ) (s : SharedState) → After turn sys host floor named (moved t p w) s all settled → After turn sys host floor named t s all settled
    after_moved turn host s h = record { may = may_say_moved turn h.may; core = h.core; task = h.task; change = h.change }
