-- What a cause is looked for, and what causes say of hosts.
use Rattle.std.specs.Prelude.{ℕ, ◌≡◌, Bool, true, false, if◌then◌else◌, List, slice_get, Option, Some, None}
use Rattle.fam_history.specs.declared.command.ToldCommand.{ToldCommand}
use Rattle.fam_journal.specs.declared.refusal.Refusal.{Refusal}
use Rattle.fam_judge.specs.Standing.{same_in}
use Rattle.fam_lines.specs.declared.host.SeenHost.{SeenHost}
use Rattle.fam_lines.specs.declared.line.Line.{Line}
use Rattle.fam_lines.specs.declared.line.Line.TheVariants as line
use Rattle.fam_lines.specs.Hosts.{faces_of}
use Rattle.fam_lines.specs.Resolved.{seen_number}
use Rattle.fam_judging.specs.declared.candidate.Candidate.{Candidate}
use Rattle.fam_judging.specs.declared.given.GivenImage.{GivenImage}
use Rattle.fam_judging.specs.declared.hosts.Hosts.{Hosts}
use Rattle.fam_judging.specs.Going.{running}
use Rattle.fam_causes.specs.Asking.{asking_of, giver_of, is_of_declared, is_of_idle, is_of_making, may_give}

-- a line at which no state is left: the damaged image that was handed in, if any; the hosts and the states before the line, as candidates;
-- for each host the number of the line that has its last mark, or its last start where no mark is told; the name of the line's host, and
-- whether the line is an answer; and the line, where its text is one
pub record Asked : Type 0 where
  pub given : GivenImage
  pub hosts : Hosts
  pub candidates : List Candidate
  pub marks : List ℕ
  pub name : List ℕ
  pub answers : Bool
  pub line : Option Line

-- the same from its parts
abbrev pub asked : GivenImage → Hosts → List Candidate → List ℕ → List ℕ → Bool → Option Line → Asked
asked given hosts candidates marks name answers line =
    record { given = given; hosts = hosts; candidates = candidates; marks = marks; name = name; answers = answers; line = line }

-- Hosts.

-- the line is of a declared host: any but the one that declares a host, and refusals for hosts that aren't
abbrev pub is_declared_line : Line → Bool
is_declared_line (line.Host name uuid) = false
is_declared_line (line.Made h p) = true
is_declared_line (line.Cut h k) = true
is_declared_line (line.Start h cmd) = true
is_declared_line (line.Mark h) = true
is_declared_line (line.Found h n) = true
is_declared_line (line.Writes h seq e) = true
is_declared_line (line.Answered h answer) = true
is_declared_line (line.Stop h) = true
is_declared_line (line.Halt h) = true
is_declared_line (line.Umount h) = true
is_declared_line (line.Refused name why) = is_of_declared why

-- so it is of a text that is no line
abbrev pub needs_host : Option Line → Bool
needs_host None = true
needs_host (Some l) = is_declared_line l

-- no host of the line's name is declared, which has to be
pub record HasNoHost (x : Asked) : Type 0 where
  pub needs : needs_host x.line ≡ true
  pub none : seen_number x.hosts.seen.items x.name ≡ None

-- the first host that has this name or this UUID is named so
pub record IsTaken (seen : List SeenHost) (name uuid named : List ℕ) : Type 0 where
  pub place : ℕ
  pub first : same_in name uuid (faces_of seen) ≡ Some place
  pub host : SeenHost
  pub is : slice_get seen place ≡ Some host
  pub named_so : host.name ≡ named

-- the line declares a host whose name or UUID another one of this name has
pub record HasSameHost (x : Asked) (named : List ℕ) : Type 0 where
  pub name : List ℕ
  pub uuid : List ℕ
  pub line_is : x.line ≡ Some (line.Host name uuid)
  pub taken : IsTaken x.hosts.seen.items name uuid named

-- host `place` has this name, and runs a command
pub record RunsAs (seen : List SeenHost) (place : ℕ) (named : List ℕ) : Type 0 where
  pub host : SeenHost
  pub is : slice_get seen place ≡ Some host
  pub runs : host.runs ≡ true
  pub named_so : host.name ≡ named

-- some host has this name, and runs a command
pub record SomeRunsAs (seen : List SeenHost) (named : List ℕ) : Type 0 where
  pub place : ℕ
  pub runs : RunsAs seen place named

-- so does the host of the line's name
pub record OwnRunsAs (seen : List SeenHost) (name named : List ℕ) : Type 0 where
  pub place : ℕ
  pub number : seen_number seen name ≡ Some place
  pub runs : RunsAs seen place named

-- a refusal that a running command of the host of this name, or of any host where a file system would be made, rules out
pub data RefusedWhile (seen : List SeenHost) (name : List ℕ) (why : Refusal) (named : List ℕ) : Type 0 where
  own_runs : is_of_idle why ≡ true → OwnRunsAs seen name named → RefusedWhile seen name why named
  some_runs : is_of_making why ≡ true → SomeRunsAs seen named → RefusedWhile seen name why named

-- the host of this name, whose running command rules the line out, runs one
abbrev pub Awaits : List SeenHost → List ℕ → Line → List ℕ → Type 0
Awaits seen own (line.Host name uuid) named = ⊥
Awaits seen own (line.Made h p) named = SomeRunsAs seen named
Awaits seen own (line.Cut h k) named = SomeRunsAs seen named
Awaits seen own (line.Start h cmd) named = RunsAs seen h named
Awaits seen own (line.Mark h) named = ⊥
Awaits seen own (line.Found h n) named = ⊥
Awaits seen own (line.Writes h seq e) named = ⊥
Awaits seen own (line.Answered h answer) named = ⊥
Awaits seen own (line.Stop h) named = ⊥
Awaits seen own (line.Halt h) named = ⊥
Awaits seen own (line.Umount h) named = RunsAs seen h named
Awaits seen own (line.Refused name why) named = RefusedWhile seen own why named

-- so it is of the line
pub record HasRunning (x : Asked) (named : List ℕ) : Type 0 where
  pub line : Line
  pub line_is : x.line ≡ Some line
  pub awaits : Awaits x.hosts.seen.items x.name line named

-- Commands.

-- the host whose running command gives the line: of a text that is no line the host of its name, where it is an answer
abbrev pub giver_in : List SeenHost → List ℕ → Bool → Option Line → Option ℕ
giver_in seen name answers None = if answers then seen_number seen name else None
giver_in seen name answers (Some l) = giver_of l

-- it runs none
pub record IsIdle (x : Asked) : Type 0 where
  pub place : ℕ
  pub giver : giver_in x.hosts.seen.items x.name x.answers x.line ≡ Some place
  pub idle : running x.hosts.seen.items x.hosts.commands.items place ≡ None

-- it runs one that never gives such a line
pub record NeverGives (x : Asked) : Type 0 where
  pub line : Line
  pub line_is : x.line ≡ Some line
  pub place : ℕ
  pub giver : giver_of line ≡ Some place
  pub cmd : ToldCommand
  pub runs : running x.hosts.seen.items x.hosts.commands.items place ≡ Some cmd
  pub never : may_give (asking_of cmd) line ≡ false
