-- On a sound file system: what a turn may say is legal, and what it settles is what the journal settles.
use Rattle.std.proofs.Common.{take, ◌≡◌, ℕ, ◌+◌, ◌≤◌, ◌⊎◌, inl, inr, List, [], ◌∷◌, ◌++◌, length, Option, Some, None, refl, ap, sym, ◌∙◌, subst, arith}
use Rattle.std.specs.Prelude.{⊤, max, slice_get, option_map, Result, Ok, Err}
use Rattle.fam_base.specs.declared.cmd.Cmd.{Cmd}
use Rattle.fam_base.specs.declared.entry.Entry.{Entry}
use Rattle.fam_base.specs.declared.entry.Params.{Params}
use Rattle.fam_base.specs.Image.{Image}
use Rattle.fam_commands.specs.Stands.{note_of}
use Rattle.fam_commands.specs.Task.{Task, content_of}
use Rattle.fam_commands.specs.Turns.{Turn, Goes, Marks, Finds, Writes, Ends}
use Rattle.fam_rules.specs.declared.answers.Refused.{Refused}
use Rattle.fam_rules.specs.declared.answers.Refused.TheVariants as refused
use Rattle.fam_rules.specs.declared.answers.LogState.{LogState}
use Rattle.fam_rules.specs.declared.answers.Report.{Report}
use Rattle.fam_format.specs.Reading.{Lines}
use Rattle.fam_rules.specs.Asks.{File, entries_of}
use Rattle.fam_protocol.proofs.Settled.Lists.{entries_count}
use Rattle.fam_rules.specs.Content.{fill}
use Rattle.fam_rules.specs.Decide.{decide}
use Rattle.fam_rules.specs.Reply.{Reply, Appended, NotAppended, Played, Mounted, Same, Differs, Length, Bytes, NotFound, IsDirectory, Checks, Reports, NoSuperblock, BadHeader, BadSlot}
use Rattle.fam_protocol.specs.After.{AnswersPrefix, ReportsPrefix, MayRefuse, MayReply, MaySay, new_file, read_by_log, shown_by}
use Rattle.fam_protocol.specs.Core.{System}
use Rattle.fam_protocol.specs.Lines.{IsAtLeast}
use Rattle.fam_protocol.specs.Steps.{turn_settles}
use Rattle.fam_protocol.specs.Invariant.{Known}
use Rattle.fam_journal.specs.Kept.{protocol_run, settled_of}
use Rattle.fam_journal.specs.Legal.{FoundAllowed, WritesAllowed, InBounds, IsAskedOf, IsDecided, IsReportOf, LegalBehind, OfHost, ReplyAllowed, CauseAllowed}
use Rattle.fam_journal.specs.Machines.{notes_of}
use Rattle.fam_journal.specs.Past.{State, Sound, HostPast, Past, cmd_of, filled_bytes, past_behind, replied, reported_count, shows_count, with_pending}
use Rattle.fam_journal.proofs.Settled.LongPaths.{names_long}
use Rattle.fam_journal.proofs.Settled.Settles.{acknowledged, acknowledges_settles, finds_settles, shows_settles, length-pending}

module _ (p : Params) (history : List File) (pending : Option File) (start : Image) (hosts : List HostPast) (h : ℕ) (told : HostPast)
    (host_is : slice_get hosts h ≡ Some told) (t : Task) (cmd_is : told.cmd ≡ Some t.cmd) (me : told.uuid ≡ t.me) (have : ℕ)
    (uuid : ℕ → Option (List ℕ)) (master : Option ℕ) where
  abbrev sys : System
  sys = record { params = p; have = have; uuid = uuid; master = master }

  abbrev all : List File
  all = with_pending history pending

  abbrev past : Past
  past = record { start = start; state = Sound p history pending; hosts = hosts }

  -- What is settled.

  reply_settles : (now : Lines) (given : Reply) → MayReply given sys (protocol_run t told) all (length history)
      → settled_of (replied given (Sound p history pending)) now ≡ Known p all (max (length history) (shown_by given))
  reply_settles now (Appended seq) a = acknowledges_settles p history now seq pending a.count
  reply_settles now (NotAppended why) a = ap (Known p all) (omega arith)
  reply_settles now (Played m tree) a = shows_settles p history now m pending a.high
  reply_settles now (Mounted m) a = shows_settles p history now m pending a.high
  reply_settles now (Same m) a = shows_settles p history now m pending a.high
  reply_settles now (Differs m offset found wanted) a = shows_settles p history now m pending a.high
  reply_settles now (Length m size wanted) a = shows_settles p history now m pending a.high
  reply_settles now (Bytes m bytes) a = shows_settles p history now m pending a.high
  reply_settles now (NotFound m) a = shows_settles p history now m pending a.high
  reply_settles now (IsDirectory m) a = shows_settles p history now m pending a.high
  reply_settles now (Checks m checked) a = shows_settles p history now m pending a.high
  reply_settles now (Reports report) a =
      let high : length (entries_of (take a.m all)) ≤ length all = omega (arith, a.high, entries_count a.m all a.high) in
      subst (λ (x : LogState). settled_of (shows_count (reported_count x) (Sound p history pending)) now ≡ Known p all (max (length history) (read_by_log x))) (sym a.is.log)
      (shows_settles p history now (length (entries_of (take a.m all))) pending high)
  reply_settles now (NoSuperblock fault) a = absurd a
  reply_settles now (BadHeader fault) a = absurd a
  reply_settles now (BadSlot seq reason) a = absurd a

  bytes_same : (next : Cmd) (size : ℕ) → next ≡ t.cmd → filled_bytes (cmd_of (slice_get hosts h)) size ≡ fill (content_of next) size
  bytes_same next size same =
      ap (λ (o : Option HostPast). filled_bytes (cmd_of o) size) host_is ∙ ap (λ (o : Option Cmd). filled_bytes o size) cmd_is ∙ ap (λ (c : Cmd). fill (content_of c) size) (sym same)

  -- nothing is pending where the history is all that there is
  none_pending : (o : Option File) → length (with_pending history o) ≡ length history → o ≡ None
  none_pending None same = refl
  none_pending (Some f) same = absurd (omega (arith, same, length-pending history f))

  named_settles : (e : Entry) (next : Task) (o : Option File) → o ≡ None → next.cmd ≡ t.cmd
      → Known p (with_pending history (Some (record { entry = e; bytes = filled_bytes (cmd_of (slice_get hosts h)) e.size }))) (length history)
      ≡ Known p (with_pending history o ++ new_file next e ∷ []) (length history)
  named_settles e next o none same =
      ap (λ (bytes : List ℕ). Known p (history ++ record { entry = e; bytes = bytes } ∷ []) (length history)) (bytes_same next.cmd e.size same)
      ∙ ap (λ (o : Option File). Known p (with_pending history o ++ new_file next e ∷ []) (length history)) (sym none)

  -- the task that goes on has the same command
  abbrev pub KeepsCommand : Turn → Type 0
  KeepsCommand (Goes next) = ⊤
  KeepsCommand (Marks next) = ⊤
  KeepsCommand (Finds n next) = ⊤
  KeepsCommand (Writes seq e next) = next.cmd ≡ t.cmd
  KeepsCommand (Ends reply) = ⊤

  pub sound_settles : (now : Lines) (turn : Turn) → MaySay turn sys (protocol_run t told) all (length history) → KeepsCommand turn
      → settled_of (past_behind past (notes_of h (note_of turn))).state now ≡ turn_settles turn (Known p all (length history))
  sound_settles now (Goes next) may keeps = refl
  sound_settles now (Marks next) may keeps = refl
  sound_settles now (Finds n next) may keeps = finds_settles p history now n pending may
  sound_settles now (Writes seq e next) may keeps = named_settles e next pending (none_pending pending (sym may.1 ∙ may.0)) keeps
  sound_settles now (Ends given) may keeps = reply_settles now given may

  -- What is legal.

  found : (n : ℕ) (o : Option File) → (n ≡ length history) ⊎ ((n ≡ length history + 1) × (n ≡ length (with_pending history o))) → FoundAllowed n (Sound p history o)
  found n None (inl same) = same
  found n None (inr more) = absurd (omega (arith, more.0, more.1))
  found n (Some f) (inl same) = inl same
  found n (Some f) (inr more) = inr more.0

  decided : (decision : Result Entry Refused) → length all ≡ length history → decide p t.me (entries_of all) t.cmd ≡ Some decision → IsDecided p told history pending decision
  decided decision count is =
      let none : pending ≡ None = none_pending pending count in
      record {
        cmd = t.cmd;
        told = cmd_is;
        none = none;
        is = ap (λ (id : List ℕ). decide p id (entries_of history) t.cmd) me ∙ ap (λ (o : Option File). decide p t.me (entries_of (with_pending history o)) t.cmd) (sym none) ∙ is;
      }

  cause_allowed : (why : Refused) → MayRefuse why sys t all (length history) → CauseAllowed why told (Sound p history pending)
  cause_allowed (refused.NotMaster own other) a = record { me_is = a.me_is ∙ sym me; master_is = ap Some (sym a.master_is); other = a.other }
  cause_allowed (refused.LongPath limit) a = record { params = p; super = refl; names = names_long p t told limit cmd_is me a }
  cause_allowed e a = decided (Err e) (sym a.settled_is) a.is

  bounds_of : (m : ℕ) (o : Option ℕ) → told.floor ≡ o → IsAtLeast o m → m ≤ length all → InBounds told m all
  bounds_of m None is low high = absurd low
  bounds_of m (Some floor) is low high = record { floor = floor; marked = is; low = low; high = high }

  asked : (given : Reply) → AnswersPrefix t told.floor all given → IsAskedOf told (shown_by given) all given
  asked given a = record { bounds = bounds_of (shown_by given) told.floor refl a.low a.high; cmd = t.cmd; told = cmd_is; is = a.is }

  reported : (report : Report) → ReportsPrefix p told.floor all report → IsReportOf p told all report
  reported report a = record { m = a.m; bounds = bounds_of a.m told.floor refl a.low a.high; is = a.is }

  reply_allowed : (given : Reply) → MayReply given sys (protocol_run t told) all (length history) → ReplyAllowed given told (Sound p history pending)
  reply_allowed (Appended seq) a =
      subst (λ (s : State). Rattle.fam_journal.specs.Legal.AppendedAllowed seq told s) (sym (acknowledged p history seq pending a.count))
      record { entry = a.file.entry; named = a.named; count = a.count; last = ap (option_map (λ (f : File). f.entry)) a.last }
  reply_allowed (NotAppended why) a = cause_allowed why a
  reply_allowed (Reports report) a = reported report a
  reply_allowed (NoSuperblock fault) a = absurd a
  reply_allowed (BadHeader fault) a = absurd a
  reply_allowed (BadSlot seq reason) a = absurd a
  reply_allowed e a = asked e a

  of_host : (P : HostPast → Type 0) → P told → OfHost (slice_get hosts h) P
  of_host P is = subst (λ (o : Option HostPast). OfHost o P) (sym host_is) is

  pub sound_legal : (turn : Turn) → MaySay turn sys (protocol_run t told) all (length history) → LegalBehind past (notes_of h (note_of turn))
  sound_legal (Goes next) may = tt
  sound_legal (Marks next) may = (tt, tt)
  sound_legal (Finds n next) may = (found n pending may, tt)
  sound_legal (Writes seq e next) may =
      (of_host (λ x. WritesAllowed seq e x (Sound p history pending)) (may.0, decided (Ok e) (sym may.1 ∙ may.0) may.2), tt)
  sound_legal (Ends given) may =
      (of_host (λ x. ReplyAllowed given x (Sound p history pending)) (reply_allowed given may), tt)
