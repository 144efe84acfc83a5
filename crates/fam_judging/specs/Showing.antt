-- What is needed of a command that is answered with something of the first m entries, and what is left behind it.
use Rattle.std.specs.Prelude.{ℕ, ◌≡◌, ◌≤◌, List, length, take, Some, None}
use Rattle.fam_base.specs.declared.cmd.Cmd.{Cmd}
use Rattle.fam_base.specs.declared.entry.Entry.{Entry}
use Rattle.fam_history.specs.declared.answer.ToldAnswer.{ToldAnswer}
use Rattle.fam_history.specs.declared.command.ToldCommand.{ToldCommand}
use Rattle.fam_history.specs.ToldAnswers.{reply_told}
use Rattle.fam_journal.specs.Past.{shows}
use Rattle.fam_judge.specs.Fitting.{AskFits, QuestionFits}
use Rattle.fam_rules.specs.Asks.{File}
use Rattle.fam_rules.specs.Reply.{Reply}
use Rattle.fam_settled.specs.Settled.{SettledLog as Log, settled_and_pending, settled_log_state}
use Rattle.fam_judging.specs.declared.candidate.Settled.TheVariants as settled
use Rattle.fam_judging.specs.declared.lefts.Lefts.{Lefts}
use Rattle.fam_settled.specs.Told.{IsToldFit, bare_cmd, listed_of}
use Rattle.fam_judging.specs.declared.candidate.Track.{Track}
use Rattle.fam_judging.specs.Replies.{Asker, EndingState, Point, told_at}
use Rattle.fam_judging.specs.ReplyKinds.{MayMark}

-- it has come to its mark, at the latest by now, and the question may be answered so
pub record ShowsAnswer (who : Asker) (at : Point) (m : ℕ) (given : Reply) : Type 0 where
  pub marks : MayMark at.stage
  pub fits : QuestionFits m given (told_at who at) at.state

-- so many entries are shown
abbrev pub shown_ending : ℕ → Point → EndingState
shown_ending m at = record { state = shows m at.state; floor = at.floor; wrote = at.wrote }

-- no other reply that any command may be given tells the same
pub record IsAnswerTold (answer : ToldAnswer) (listed : List Entry) (given : Reply) : Type 0 where
  pub told : reply_told given ≡ answer
  pub lines : listed_of given ≡ listed
  pub alone : (files : List File) (cmd : Cmd) (other : Reply) → AskFits files cmd other → reply_told other ≡ answer → listed_of other ≡ listed → other ≡ given

-- the first m entries of a log may be answered so: no fewer than were settled at the mark
pub record ShowsTold (log : Log) (m : ℕ) (cmd : ToldCommand) (track : Track) (answer : ToldAnswer) (listed : List Entry) : Type 0 where
  pub floor : ℕ
  pub floor_is : track.floor ≡ Some floor
  pub low : floor ≤ m
  pub high : m ≤ length (settled_and_pending log)
  pub fits : IsToldFit (take m (settled_and_pending log)) (bare_cmd cmd) answer listed

-- so many entries of a log are shown
pub record IsShown (log : Log) (m : ℕ) (track : Track) (lefts : Lefts) : Type 0 where
  pub shown : Log
  pub state : settled_log_state shown ≡ shows m (settled_log_state log)
  pub is : lefts ≡ record { first = Some (record { settled = settled.Log shown; track = track }); second = None }
