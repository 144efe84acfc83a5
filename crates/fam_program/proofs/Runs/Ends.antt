-- A run ends.
use Rattle.std.proofs.Common.{◌≡◌, ◌⊎◌, ℕ, ◌≤◌, inl, inr, false, List, [], ◌++◌, take, Some, None, refl, ap, sym, ◌∙◌, subst, arith}
use Rattle.std.specs.Prelude.{slice_get}
use Rattle.std.proofs.lemmas.List.{append-nil}
use Rattle.fam_base.specs.Image.{Image}
use Rattle.fam_media.specs.Causes.{Rose}
use Rattle.fam_media.specs.Files.{Files}
use Rattle.fam_media.specs.Outside.{IfModelled}
use Rattle.fam_media.specs.States.{ShelfChange, SinkChange}
use Rattle.fam_sources.specs.declared.sourced.SourceEnd.{SourceEnd}
use Rattle.fam_sources.specs.declared.sourced.SourceEnd.TheVariants.{Faulted, Short}
use Rattle.fam_sources.specs.Sourced.{HasEndCause, end_of}
use Rattle.fam_journal.specs.declared.event.Event.{Event}
use Rattle.fam_journal.specs.declared.event.Event.TheVariants as event
use Rattle.fam_journal.specs.Ends.{AllDone, CutEventReads, EndsOutOfMemory, EndsOutOfMemoryBroken, HasCounted, MkfsFails, SinkFails, SourceFails}
use Rattle.fam_journal.specs.EventShapes.{EndsShape, EventBreaksShape, EventPartShape, FollowsShape, ShapeUpTo}
use Rattle.fam_journal.specs.Events.{BreaksEvent, DoesEvent, PartOf, Session, first_session}
use Rattle.fam_journal.specs.Follows.{Follows, FollowsBroken, FollowsLast, ReadsSource}
use Rattle.fam_journal.specs.Shapes.{HostShape, shapes_behind}
use Rattle.fam_journal.specs.Kept.{Held}
use Rattle.fam_journal.specs.Legal.{Legal}
use Rattle.fam_journal.specs.Notes.{Note}
use Rattle.fam_journal.specs.Past.{State, past_of}
use Rattle.fam_outcomes.specs.Runs.{EndsBroken, HasRisen, Outside, RunsOn, SourceCaused}
use Rattle.fam_journal.proofs.JournalLaws.{held_reads_as}
use Rattle.fam_journal.proofs.Runs.Following.{broken_state}
use Rattle.fam_journal.proofs.Runs.Unique.{faults_both}
use Rattle.fam_events.specs.WorldChange.{WorldChange, session}
use Rattle.fam_events.specs.Happens.{EventBroken, EventDone, EventEnded, EventPart}
use Rattle.fam_program.specs.Far.{Base, Far, Now}
use Rattle.fam_program.specs.Runs.{HasEnded}
use Rattle.fam_program.proofs.Runs.GoesOn.{named_more, next_of}

-- a count that rose
pub risen : (before now : ℕ) → Rose before now → HasRisen before now
risen before now (inl less) = omega (arith, less)
risen before now (inr full) = omega (arith, full)

-- what the run's outside is
abbrev pub out_of : Base → Now → ShelfChange → SinkChange → Outside
out_of b n shelf sink = record {
  lines = b.lines;
  media = record { old = b.media; new = n.media };
  shelf = record { old = record shelf.old { files = b.files }; new = shelf.new };
  sink = sink;
}

-- where a world is held its journal is legal, and the image reads as it settles
module _ (b : Base) (count : ℕ) (n : Now) (far : Far b count n) (shelf : ShelfChange) (all : SinkChange) where
  abbrev out : Outside
  out = out_of b n shelf all

  -- the first ones are done, and no more is put
  pub prefix_ended : HasEnded EndsOutOfMemory out b.events n.world.journal
  prefix_ended = record {
    named = far.named;
    shape = inl record { count = count; follows = far.shape };
    counted = far.counted;
    caused = tt;
    told = λ start told_is files files_are.
        let f = far.on start told_is files files_are in
        record {
          last = f.last;
          legal = f.held.kept.held.legal;
          follows = inl record { count = count; follows = f.follows };
          left = f.left;
          reads =
              held_reads_as start f.last.machines n.world f.last.machines.memory f.held;
        };
  }

  -- all are done
  pub all_ended : take count b.events ≡ b.events → HasEnded AllDone out b.events n.world.journal
  all_ended whole = record {
    named = far.named;
    shape = subst (λ (es : List Event). FollowsShape b.lines es [] n.world.journal) whole far.shape;
    counted = far.counted;
    caused = tt;
    told = λ start told_is files files_are.
        let f = far.on start told_is files files_are in
        record {
          last = f.last;
          legal = f.held.kept.held.legal;
          follows = subst (λ (es : List Event). Follows files es (first_session start) n.world.journal f.last) whole f.follows;
          left = f.left;
          reads = held_reads_as start f.last.machines n.world f.last.machines.memory f.held;
        };
  }

-- An event ends the run.
module _ (b : Base) (count : ℕ) (n m : Now) (far : Far b count n) (e : Event) (is : slice_get b.events count ≡ Some e) (shelf : ShelfChange) (all : SinkChange) where
  abbrev a : WorldChange
  a = next_of b n m

  abbrev end_out : Outside
  end_out = out_of b m shelf all

  counted_more : (notes : List Note) → HasCounted n.media.faults m.media.faults notes → n.media.faults ≤ m.media.faults
      → m.world.journal ≡ n.world.journal ++ notes → HasCounted b.media.faults m.media.faults m.world.journal
  counted_more notes counted later joined =
      let x = far.counted in
      let sum = ap (λ (j : List Note). Rattle.fam_journal.specs.Ends.faults_of j) joined ∙ faults_both n.world.journal notes in
      omega (arith, x, counted, later, sum)

  same_last : (s : Session) → s.copied ≡ n.copied → session s.machines n.copied ≡ s
  same_last s same = ap (λ (c : ℕ). session s.machines c) (sym same)

  -- the media failed in a mkfs
  broken_caused : (e : Event) → slice_get b.events count ≡ Some e → (lines : ℕ) (hosts : List HostShape) (notes : List Note)
      → EventBreaksShape e lines hosts notes → m.world.journal ≡ n.world.journal ++ notes → EndsBroken b.events m.world.journal
  broken_caused (event.Mkfs name request) at lines hosts notes shape joined = record {
    count = count;
    event = event.Mkfs name request;
    event_is = at;
    prefix = n.world.journal;
    name = name;
    line = record { 0 = shape.1.0 };
    of_mkfs = refl;
    is = joined ∙ ap (λ (ns : List Note). n.world.journal ++ ns) shape.1.1;
  }
  broken_caused e at lines hosts notes shape joined = absurd shape

  -- where image and files are modelled
  pub record BrokenOn (start : Image) (files : Files) : Type 0 where
    pub last : Session
    pub legal : Legal start m.world.journal
    pub follows : FollowsBroken files b.events (first_session start) m.world.journal last
    pub whole : follows.whole_notes ≡ n.world.journal
    pub left : m.media.image ≡ Some last.machines.memory
    pub reads : CutEventReads follows.event follows.mid (past_of start m.world.journal).state last.machines.memory

  pub broken_on : EventBroken e a → (start : Image) (files : Files) → b.media.image ≡ Some start → b.files ≡ Some files → BrokenOn start files
  broken_on x start files told_is files_are =
      let f = far.on start told_is files files_are in
      let k = x.keeps start files f.last.machines files_are f.left f.held in
      record {
        last = k.comes.last;
        legal = k.legal;
        follows = record {
          count = count;
          event = e;
          is = is;
          mid = f.last;
          whole_notes = n.world.journal;
          part_notes = k.comes.notes;
          whole = f.follows;
          part = subst (λ (s : Session). BreaksEvent e s k.comes.notes k.comes.last) (same_last f.last f.copied) k.comes.does;
          joined = k.comes.joined;
        };
        whole = refl;
        left = k.comes.told_is;
        reads = subst (λ (s : State). CutEventReads e f.last s k.comes.last.machines.memory)
            (sym (broken_state start e (session f.last.machines n.copied) k.comes.last n.world.journal k.comes.notes m.world.journal k.comes.does k.comes.joined))
            (subst (λ (s : Session). CutEventReads e s (past_of start n.world.journal).state k.comes.last.machines.memory) (same_last f.last f.copied) k.reads);
      }

  broken_shape : EventBroken e a → ShapeUpTo EventBreaksShape b.lines b.events [] m.world.journal
  broken_shape x = record { count = count; event = e; is = is; whole_notes = n.world.journal; part_notes = x.adds.notes; whole = far.shape; part = x.adds.shape; joined = x.adds.joined }

  broken_told : (x : EventBroken e a) → IfModelled b.media.image (λ start. IfModelled b.files (λ files. RunsOn MkfsFails files b.events start m.media.image m.world.journal))
  broken_told x start told_is files files_are =
      let r = broken_on x start files told_is files_are in
      record { last = r.last; legal = r.legal; follows = r.follows; left = r.left; reads = r.reads }

  broken_want : (x : EventBroken e a) → IfModelled b.media.image (λ start. IfModelled b.files (λ files. RunsOn EndsOutOfMemoryBroken files b.events start m.media.image m.world.journal))
  broken_want x start told_is files files_are =
      let r = broken_on x start files told_is files_are in
      record { last = r.last; legal = r.legal; follows = r.follows; left = r.left; reads = r.reads }

  pub broken_ended : EventBroken e a → HasEnded MkfsFails end_out b.events m.world.journal
  broken_ended x = record {
    named = named_more b count n m far x.adds.notes x.adds.named x.adds.joined;
    shape = broken_shape x;
    counted = counted_more x.adds.notes x.adds.counted x.adds.later x.adds.joined;
    caused = broken_caused e is b.lines _ x.adds.notes x.adds.shape x.adds.joined;
    told = broken_told x;
  }

  -- and then no memory was left
  pub broken_wants : EventBroken e a → HasEnded EndsOutOfMemoryBroken end_out b.events m.world.journal
  broken_wants x = record {
    named = named_more b count n m far x.adds.notes x.adds.named x.adds.joined;
    shape = broken_shape x;
    counted = counted_more x.adds.notes x.adds.counted x.adds.later x.adds.joined;
    caused = broken_caused e is b.lines _ x.adds.notes x.adds.shape x.adds.joined;
    told = broken_want x;
  }

  -- its source ended early
  source_caused : (end : SourceEnd) → HasEndCause shelf end → SourceCaused (end_of end) end_out
  source_caused Faulted cause = risen shelf.old.faults shelf.new.faults cause
  source_caused (Short size got) cause = (risen shelf.old.shorts shelf.new.shorts cause.0, cause.1)

  pub source_ended : (end : SourceEnd) → EventEnded e end a → HasEndCause shelf end → HasEnded (SourceFails (end_of end)) end_out b.events m.world.journal
  source_ended end x cause = record {
    named = named_more b count n m far x.adds.notes x.adds.named x.adds.joined;
    shape = record {
      count = count;
      event = e;
      is = is;
      host = x.adds.shape.host;
      source = x.adds.shape.source;
      reads = x.adds.shape.reads;
      free = subst (λ (j : List Note). Rattle.fam_journal.specs.Calls.may_begin x.adds.shape.host false
          (Rattle.fam_journal.specs.Shapes.shown_shapes b.lines (shapes_behind [] j)) ≡ None) (sym same) x.adds.shape.free;
      follows = subst (λ (j : List Note). FollowsShape b.lines (take count b.events) [] j) (sym same) far.shape;
    };
    counted = counted_more x.adds.notes x.adds.counted x.adds.later x.adds.joined;
    caused = source_caused end cause;
    told = λ start told_is files files_are.
        let f = far.on start told_is files files_are in
        let k = x.keeps start files f.last.machines files_are f.left f.held in
        let s : session f.last.machines n.copied ≡ f.last = same_last f.last f.copied in
        let back : k.comes.last ≡ f.last = k.comes.does.2 ∙ s in
        record {
          last = k.comes.last;
          legal = k.held.kept.held.legal;
          follows = record {
            count = count;
            event = e;
            is = is;
            reads = subst (λ (z : Session). ReadsSource files e (end_of end) z) (sym k.comes.does.2) k.comes.does.0;
            follows = subst (λ (j : List Note). Follows files (take count b.events) (first_session start) j k.comes.last) (sym same)
                (subst (λ (z : Session). Follows files (take count b.events) (first_session start) n.world.journal z) (sym back) f.follows);
          };
          left = k.comes.told_is;
          reads = held_reads_as start k.comes.last.machines m.world k.comes.last.machines.memory k.held;
        };
  }
    where
      same : m.world.journal ≡ n.world.journal
      same = x.adds.joined ∙ ap (λ (ns : List Note). n.world.journal ++ ns) x.adds.shape.none ∙ append-nil n.world.journal

  -- no memory was left
  pub part_ended : EventPart e a → HasEnded EndsOutOfMemory end_out b.events m.world.journal
  part_ended x = record {
    named = named_more b count n m far x.adds.notes x.adds.named x.adds.joined;
    shape = by_shape x.adds.shape;
    counted = counted_more x.adds.notes x.adds.counted x.adds.later x.adds.joined;
    caused = tt;
    told = λ start told_is files files_are.
        let f = far.on start told_is files files_are in
        let k = x.keeps start files f.last.machines files_are f.left f.held in
        record {
          last = k.comes.last;
          legal = k.held.kept.held.legal;
          follows = by_part start files f.last f.follows f.copied k.comes.notes k.comes.last k.comes.joined k.comes.does;
          left = k.comes.told_is;
          reads = held_reads_as start k.comes.last.machines m.world k.comes.last.machines.memory k.held;
        };
  }
    where
      by_shape : (x.adds.notes ≡ []) ⊎ EventPartShape e b.lines (shapes_behind [] n.world.journal) x.adds.notes → EndsShape EndsOutOfMemory b.lines b.events [] m.world.journal
      by_shape (inl none) =
          inl record {
            count = count;
            follows = subst (λ (j : List Note). FollowsShape b.lines (take count b.events) [] j)
                (sym (x.adds.joined ∙ ap (λ (ns : List Note). n.world.journal ++ ns) none ∙ append-nil n.world.journal)) far.shape;
          }
      by_shape (inr part) = inr record { count = count; event = e; is = is; whole_notes = n.world.journal; part_notes = x.adds.notes; whole = far.shape; part = part; joined = x.adds.joined }

      by_part : (start : Image) (files : Files) (mid : Session) → Follows files (take count b.events) (first_session start) n.world.journal mid
          → mid.copied ≡ n.copied → (notes : List Note) (new : Session) → m.world.journal ≡ n.world.journal ++ notes
          → ((notes ≡ []) × (new ≡ session mid.machines n.copied)) ⊎ PartOf files e (session mid.machines n.copied) notes new
          → Rattle.fam_journal.specs.Ends.EventsDone EndsOutOfMemory files b.events (first_session start) m.world.journal new
      by_part start files mid follows copied notes new joined (inl none) =
          inl record {
            count = count;
            follows = subst (λ (j : List Note). Follows files (take count b.events) (first_session start) j new)
                (sym (joined ∙ ap (λ (ns : List Note). n.world.journal ++ ns) none.0 ∙ append-nil n.world.journal))
                (subst (λ (z : Session). Follows files (take count b.events) (first_session start) n.world.journal z) (sym (none.1 ∙ same_last mid copied)) follows);
          }
      by_part start files mid follows copied notes new joined (inr part) =
          inr record {
            count = count;
            event = e;
            is = is;
            mid = mid;
            whole_notes = n.world.journal;
            part_notes = notes;
            whole = follows;
            part = subst (λ (s : Session). PartOf files e s notes new) (same_last mid copied) part;
            joined = joined;
          }

  -- a put fails behind it, or no memory is left for what is put

  pub record LastOn (start : Image) (files : Files) : Type 0 where
    pub last : Session
    pub held : Held start last.machines m.world last.machines.memory
    pub follows : FollowsLast files b.events (first_session start) m.world.journal last
    pub whole : follows.whole_notes ≡ n.world.journal
    pub left : m.media.image ≡ Some last.machines.memory

  pub last_on : EventDone e a → (start : Image) (files : Files) → b.media.image ≡ Some start → b.files ≡ Some files → LastOn start files
  last_on x start files told_is files_are =
      let f = far.on start told_is files files_are in
      let k = x.keeps start files f.last.machines files_are f.left f.held in
      record {
        last = k.comes.last;
        held = k.held;
        follows = record {
          count = count;
          event = e;
          is = is;
          mid = f.last;
          whole_notes = n.world.journal;
          part_notes = k.comes.notes;
          whole = f.follows;
          part = subst (λ (s : Session). DoesEvent files e s k.comes.notes k.comes.last) (same_last f.last f.copied) k.comes.does.0;
          joined = k.comes.joined;
        };
        whole = refl;
        left = k.comes.told_is;
      }

  pub sink_ended : EventDone e a → HasRisen all.old.faults all.new.faults → HasEnded SinkFails end_out b.events m.world.journal
  sink_ended x rose = record {
    named = named_more b count n m far x.adds.notes x.adds.named x.adds.joined;
    shape = record { count = count; event = e; is = is; whole_notes = n.world.journal; part_notes = x.adds.notes; whole = far.shape; part = x.adds.shape; joined = x.adds.joined };
    counted = counted_more x.adds.notes x.adds.counted x.adds.later x.adds.joined;
    caused = rose;
    told = λ start told_is files files_are.
        let r = last_on x start files told_is files_are in
        record { last = r.last; legal = r.held.kept.held.legal; follows = r.follows; left = r.left; reads = held_reads_as start r.last.machines m.world r.last.machines.memory r.held };
  }
