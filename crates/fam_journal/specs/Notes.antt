-- The notes of a journal. A host is named by its number, from 0, in the order of the `Host` notes.
use Rattle.std.specs.Prelude.{ℕ, List}
use Rattle.fam_base.specs.declared.cmd.Cmd.{Cmd}
use Rattle.fam_base.specs.declared.entry.Entry.{Entry}
use Rattle.fam_base.specs.declared.entry.Params.{Params}
use Rattle.fam_rules.specs.Reply.{Reply}
use Rattle.fam_journal.specs.declared.refusal.Refusal.{Refusal}

-- how a task ends: with what it answers, or because the media failed at a line
pub data Answer : Type 0 where
  Replied : (reply : Reply) → Answer
  MediaFault : (line : ℕ) → Answer

-- what a journal tells, one thing after another
pub data Note : Type 0 where
  -- a host is declared
  Host : (name uuid : List ℕ) → Note
  -- a host made a file system
  Made : (host : ℕ) (params : Params) → Note
  -- a host halted in making a file system, after so many of its operations, and its cache was lost: after 80 where the number
  -- is greater, and never before the 27 that read
  Cut : (host k : ℕ) → Note
  -- a host begins a command
  Start : (host : ℕ) (cmd : Cmd) → Note
  -- its task dropped the gate's line: all that was settled by now will be read
  Mark : (host : ℕ) → Note
  -- a command that appends has found so many entries
  Found : (host n : ℕ) → Note
  -- it goes on to append this entry
  Writes : (host seq : ℕ) (entry : Entry) → Note
  -- the task is done
  Answered : (host : ℕ) (answer : Answer) → Note
  -- its task ended; the cache stays
  Stop : (host : ℕ) → Note
  -- its task ended and its cache was lost
  Halt : (host : ℕ) → Note
  -- it forgot what it kept of the log
  Umount : (host : ℕ) → Note
  -- a call for the host of this name was refused; after `HasSuper` and `MediaFault` operations were done before
  Refused : (name : List ℕ) (cause : Refusal) → Note
