-- What is known of a legal history: how many entries are settled behind it, and whether one more pends, where all states agree.
use Rattle.std.specs.Prelude.{ℕ, ◌≡◌, ◌↔◌, Bool, false, is_some, List, length, Some}
use Rattle.fam_base.specs.Image.{Image}
use Rattle.fam_journal.specs.Past.{State, Bad, Sound, settled_length}
use Rattle.fam_judge.specs.Covering.{IsOf}
use Rattle.fam_judge.specs.Possible.{Possible}
use Rattle.fam_judging.specs.declared.candidate.Settled.{Settled}
use Rattle.fam_judging.specs.declared.candidate.Settled.TheVariants as settled
use Rattle.fam_judging.specs.Texts.{IsJudging}
use Rattle.fam_lines.specs.declared.host.SeenHost.{SeenHost}
use Rattle.fam_records.specs.Records.{Recorded}
use Rattle.fam_verdict.specs.declared.verdict.Known.{Known}

-- how many entries are settled; on a damaged image none are
abbrev pub count_in : Settled → ℕ
count_in (settled.Log log) = length log.entries
count_in settled.Given = 0
count_in settled.Halted = 0

-- whether one more pends
abbrev pub pends_in : Settled → Bool
pends_in (settled.Log log) = is_some log.pending
pends_in settled.Given = false
pends_in settled.Halted = false

-- so of a state
abbrev pub state_pends : State → Bool
state_pends (Bad origin damage gate) = false
state_pends (Sound p history pending) = is_some pending

-- so many are settled in each of these states
abbrev pub AllCount : List Possible → ℕ → Type 0
AllCount xs n = (x : Possible) → IsOf xs x → settled_length x.state ≡ n

-- in each of them one pends, or in none
abbrev pub AllPend : List Possible → Bool → Type 0
AllPend xs b = (x : Possible) → IsOf xs x → state_pends x.state ≡ b

-- what is known behind the records, of the states that judge them
pub record IsKnown (start : Image) (records : List Recorded) (known : Known) : Type 0 where
  pub hosts : List SeenHost
  pub states : List Possible
  pub judging : IsJudging start records hosts states
  pub counted : known.states ≡ length states
  pub settled : (n : ℕ) → (known.settled ≡ Some n) ↔ AllCount states n
  pub pending : (b : Bool) → (known.pending ≡ Some b) ↔ AllPend states b
