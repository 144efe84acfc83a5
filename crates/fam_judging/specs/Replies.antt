-- What a running command may be answered with a reply, by how far it may have come: the same as a step of fam_judge, for its host alone.
use Rattle.std.specs.Prelude.{ℕ, ◌≡◌, ◌||◌, Bool, List, Option, Some, None}
use Rattle.fam_base.specs.declared.cmd.Cmd.{Cmd}
use Rattle.fam_base.specs.declared.entry.Entry.{Entry}
use Rattle.fam_commands.specs.Appends.{HasWish}
use Rattle.fam_commands.specs.ReplyClasses.{is_mounted}
use Rattle.fam_journal.specs.Legal.{FoundAllowed, WritesAllowed}
use Rattle.fam_journal.specs.Members.{changed_at}
use Rattle.fam_journal.specs.Past.{HostPast, State, filled_bytes, finds, pends, replied}
use Rattle.fam_journal.specs.Shapes.{Begun, CommandStage, EntryShape, IsHead, Marked, Met, Named, ReplyShape}
use Rattle.fam_judge.specs.Fitting.{ReplyFits}
use Rattle.fam_judge.specs.Formed.{ReplyPlace}
use Rattle.fam_judge.specs.Possible.{Possible, Progress}
use Rattle.fam_protocol.specs.After as protocol
use Rattle.fam_rules.specs.Reply.{Reply}

-- a host and its running command
pub record Asker : Type 0 where
  pub name : List ℕ
  pub uuid : List ℕ
  pub keeps : Bool
  pub cmd : Cmd

-- how far a command has come, what is settled then, how much was settled at its mark, and what it named
pub record Point : Type 0 where
  pub stage : CommandStage
  pub state : State
  pub floor : Option ℕ
  pub wrote : Option protocol.Named

-- what is left behind an answer
pub record EndingState : Type 0 where
  pub state : State
  pub floor : Option ℕ
  pub wrote : Option protocol.Named

-- what is known of the host
abbrev pub told_at : Asker → Point → HostPast
told_at who at = record { name = who.name; uuid = who.uuid; cmd = Some who.cmd; floor = at.floor; wrote = at.wrote }

-- the host of a state
abbrev pub progress_at : Asker → Point → Progress
progress_at who at =
    record { told = told_at who at; shape = record { name = who.name; uuid = who.uuid; task = Some (record { cmd = who.cmd; stage = at.stage }); keeps = who.keeps } }

-- the host behind an answer
abbrev pub progress_behind : Asker → Reply → EndingState → Progress
progress_behind who given e = record {
  told = record { name = who.name; uuid = who.uuid; cmd = Some who.cmd; floor = e.floor; wrote = e.wrote };
  shape = record { name = who.name; uuid = who.uuid; task = None; keeps = is_mounted given || who.keeps };
}

-- the state behind an answer of host h
abbrev pub possible_behind_answer : Possible → ℕ → Asker → Reply → EndingState → Possible
possible_behind_answer x h who given e = record { state = e.state; hosts = changed_at h (λ p. progress_behind who given e) x.hosts }

-- it has found so many entries
abbrev pub found_at : ℕ → Point → Point
found_at n at = record at { stage = Met n; state = finds n at.state }

-- it has named an entry
abbrev pub named_at : Asker → ℕ → Entry → Point → Point
named_at who seq entry met = record {
  stage = Named seq;
  state = pends (record { entry = entry; bytes = filled_bytes (Some who.cmd) entry.size }) met.state;
  floor = met.floor;
  wrote = Some (record { seq = seq; entry = entry });
}

-- it has found entries by now
pub data MeetsAtPoint (who : Asker) (at met : Point) : Type 0 where
  told : (n : ℕ) → at.stage ≡ Met n → met ≡ at → MeetsAtPoint who at met
  untold : (n : ℕ) → IsHead at.stage → HasWish who.cmd → FoundAllowed n at.state → met ≡ found_at n at → MeetsAtPoint who at met

-- it has named an entry by now
pub record NamesAt (who : Asker) (at now : Point) : Type 0 where
  pub met : Point
  pub meets : MeetsAtPoint who at met
  pub seq : ℕ
  pub entry : Entry
  pub shape : EntryShape who.cmd entry
  pub stage : met.stage ≡ Met seq
  pub writes : WritesAllowed seq entry (told_at who met) met.state
  pub is : now ≡ named_at who seq entry met

-- how far it may have come
pub data ReachesPoint (who : Asker) (at now : Point) : Type 0 where
  unmarked : at.stage ≡ Begun → now ≡ record at { floor = None } → ReachesPoint who at now
  marked : at.stage ≡ Begun → now ≡ record at { stage = Marked } → ReachesPoint who at now
  stands : (at.stage ≡ Begun → ⊥) → now ≡ at → ReachesPoint who at now
  meets : MeetsAtPoint who at now → ReachesPoint who at now
  names : NamesAt who at now → ReachesPoint who at now

-- what is left where an answer stands
abbrev pub ending_at : Reply → Point → EndingState
ending_at given now = record { state = replied given now.state; floor = now.floor; wrote = now.wrote }

-- the command may be answered so as far as it has come
pub record IsAnswered (who : Asker) (now : Point) (given : Reply) : Type 0 where
  pub shape : ReplyShape who.uuid who.cmd now.stage given
  pub place : ReplyPlace who.cmd now.stage given
  pub fits : ReplyFits given (told_at who now) now.state

-- it may have come so far that it may be answered so, and this is left
pub record MayEnd (who : Asker) (at : Point) (given : Reply) (e : EndingState) : Type 0 where
  pub now : Point
  pub reached : ReachesPoint who at now
  pub answered : IsAnswered who now given
  pub is : e ≡ ending_at given now
