-- A possible state that allows no less than what a journal comes to: of each host's command it has told no more.
use Rattle.std.proofs.Common.{◌≡◌, ◌≤◌, ℕ, List, [], ◌∷◌, map, Option, Some, None, refl, ap, sym, ◌∙◌, subst, arith}
use Rattle.std.specs.Prelude.{option_map, slice_get}
use Rattle.std.proofs.lemmas.Option.{same_Some, slice_get-map}
use Rattle.fam_journal.specs.Legal.{master_of}
use Rattle.fam_journal.specs.Past.{HostPast, State, settled_length}
use Rattle.fam_journal.specs.Shapes.{Begun, CommandStage, HostShape, Marked, Met, Named, Pairs, TaskShape}
use Rattle.fam_judge.specs.Covering.{Direct, FloorUnder, HasFloor, HostBelow, HostOver, IsBelow, StageBelow, StagesOver, StateOver, TaskBelow, TasksOver}
use Rattle.fam_judge.specs.Possible.{NonePends, Possible, Progress}
use Rattle.fam_judge.proofs.Masters.{AreApart}

-- the UUID of a host
abbrev pub uuid_in : Progress → List ℕ
uuid_in p = p.shape.uuid

-- no two hosts have one UUID
abbrev pub IsApart : Possible → Type 0
IsApart x = AreApart (map uuid_in x.hosts)

-- two places of one UUID are one
pub one_place : (x : Possible) → IsApart x → (k l : ℕ) (p q : Progress) → slice_get x.hosts k ≡ Some p → slice_get x.hosts l ≡ Some q → p.shape.uuid ≡ q.shape.uuid → k ≡ l
one_place x apart k l p q is other same =
    apart k l p.shape.uuid (slice_get-map uuid_in x.hosts k ∙ ap (option_map uuid_in) is)
    (slice_get-map uuid_in x.hosts l ∙ ap (option_map uuid_in) other ∙ ap Some (sym same))

-- Another state.

-- what a host with this UUID is told of it
pub record LaterOf (uuid : List ℕ) (s t : State) : Type 0 where
  pub settled : settled_length s ≤ settled_length t
  pub none : (master_of s ≡ Some uuid → NonePends s) → master_of t ≡ Some uuid → NonePends t

stages_later : (s t : State) (a b : CommandStage) (p q : HostPast) → LaterOf p.uuid s t → StagesOver s a b p q → StagesOver t a b p q
stages_later s t Begun Begun p q later over = let low = over.2 in let high = later.settled in (over.0, over.1, omega (arith, low, high))
stages_later s t Begun Marked p q later over = over
stages_later s t Begun (Met n) p q later over = tt
stages_later s t Begun (Named seq) p q later over = absurd over
stages_later s t Marked Begun p q later over = absurd over
stages_later s t Marked Marked p q later over = over
stages_later s t Marked (Met n) p q later over = tt
stages_later s t Marked (Named seq) p q later over = absurd over
stages_later s t (Met m) (Met n) p q later over = (over.0, later.none over.1)
stages_later s t (Met m) Begun p q later over = absurd over
stages_later s t (Met m) Marked p q later over = absurd over
stages_later s t (Met m) (Named seq) p q later over = absurd over
stages_later s t (Named k) (Named seq) p q later over = over
stages_later s t (Named k) Begun p q later over = absurd over
stages_later s t (Named k) Marked p q later over = absurd over
stages_later s t (Named k) (Met n) p q later over = absurd over

tasks_later : (s t : State) (a b : Option TaskShape) (p q : HostPast) → LaterOf p.uuid s t → TasksOver s a b p q → TasksOver t a b p q
tasks_later s t None None p q later over = tt
tasks_later s t None (Some b) p q later over = absurd over
tasks_later s t (Some a) None p q later over = absurd over
tasks_later s t (Some a) (Some b) p q later over = (over.0, stages_later s t a.stage b.stage p q later over.1)

-- a host's command tells no more then
pub host_later_of : (s t : State) (p q : Progress) → LaterOf p.told.uuid s t → HostOver s p q → HostOver t p q
host_later_of s t p q later over = record {
  name = over.name;
  uuid = over.uuid;
  keeps = over.keeps;
  own = over.own;
  told_uuid = over.told_uuid;
  told_cmd = over.told_cmd;
  task = tasks_later s t p.shape.task q.shape.task p.told q.told later over.task;
}

-- what else may have been settled by then, and nothing has come to pend
pub record Later (s t : State) : Type 0 where
  pub settled : settled_length s ≤ settled_length t
  pub master : master_of t ≡ master_of s
  pub none : NonePends s → NonePends t

-- each host is told that
pub later_of : (s t : State) (u : List ℕ) → Later s t → LaterOf u s t
later_of s t u later = record { settled = later.settled; none = λ was e. later.none (was (sym later.master ∙ e)) }

pub host_later : (s t : State) → Later s t → (p q : Progress) → HostOver s p q → HostOver t p q
host_later s t later p q over = host_later_of s t p q (later_of s t p.told.uuid later) over

-- nothing has happened
pub no_later : (s : State) → Later s s
no_later s = record { settled = omega arith; master = refl; none = λ none. none }

-- A possible state that allows no less than another one.

below_floor : (n : ℕ) (low high : Option ℕ) → FloorUnder low high → HasFloor n high → HasFloor n low
below_floor n low high under has =
    let same_floor : under.1 ≡ has.0 = same_Some under.1 has.0 (sym under.3 ∙ has.1) in
    let less = under.4 in let most = has.2 in (under.0, under.2, omega (arith, less, most, same_floor))

under_twice : (a b c : Option ℕ) → FloorUnder a b → FloorUnder b c → FloorUnder a c
under_twice a b c first second =
    let same_floor : first.1 ≡ second.0 = same_Some first.1 second.0 (sym first.3 ∙ second.2) in
    let less = first.4 in let more = second.4 in (first.0, second.1, first.2, second.3, omega (arith, less, more, same_floor))

stage_below : (s : State) (a b : CommandStage) (p q r : HostPast) → p.uuid ≡ q.uuid → StageBelow a p q → StagesOver s a b q r → StagesOver s a b p r
stage_below s Begun Begun p q r uuid below over = below_floor (settled_length s) p.floor q.floor below over
stage_below s Begun Marked p q r uuid below over = under_twice p.floor q.floor r.floor below over
stage_below s Begun (Met n) p q r uuid below over = tt
stage_below s Begun (Named n) p q r uuid below over = absurd over
stage_below s Marked Begun p q r uuid below over = absurd over
stage_below s Marked Marked p q r uuid below over = under_twice p.floor q.floor r.floor below over
stage_below s Marked (Met n) p q r uuid below over = tt
stage_below s Marked (Named n) p q r uuid below over = absurd over
stage_below s (Met m) Begun p q r uuid below over = absurd over
stage_below s (Met m) Marked p q r uuid below over = absurd over
stage_below s (Met m) (Met n) p q r uuid below over = (over.0, λ e. over.1 (e ∙ ap Some uuid))
stage_below s (Met m) (Named n) p q r uuid below over = absurd over
stage_below s (Named k) Begun p q r uuid below over = absurd over
stage_below s (Named k) Marked p q r uuid below over = absurd over
stage_below s (Named k) (Met n) p q r uuid below over = absurd over
stage_below s (Named k) (Named n) p q r uuid below over = (over.0, below ∙ over.1)

task_below : (s : State) (a b : Option TaskShape) (p q r : HostPast) → p.uuid ≡ q.uuid → TaskBelow a p q → TasksOver s a b q r → TasksOver s a b p r
task_below s None None p q r uuid below over = tt
task_below s None (Some b) p q r uuid below over = absurd over
task_below s (Some a) None p q r uuid below over = absurd over
task_below s (Some a) (Some b) p q r uuid below over = (over.0, stage_below s a.stage b.stage p q r uuid below over.1)

host_below : (s : State) (p q r : Progress) → HostBelow p q → HostOver s q r → HostOver s p r
host_below s p q r below over = record {
  name = ap (λ (h : HostShape). h.name) below.shape ∙ over.name;
  uuid = ap (λ (h : HostShape). h.uuid) below.shape ∙ over.uuid;
  keeps = ap (λ (h : HostShape). h.keeps) below.shape ∙ over.keeps;
  own = below.uuid ∙ over.own ∙ sym (ap (λ (h : HostShape). h.uuid) below.shape);
  told_uuid = below.uuid ∙ over.told_uuid;
  told_cmd = below.cmd ∙ over.told_cmd;
  task = subst (λ (h : HostShape). TasksOver s h.task r.shape.task p.told r.told) (sym below.shape)
      (task_below s q.shape.task r.shape.task p.told q.told r.told below.uuid below.task over.task);
}

hosts_below : (s : State) (ps qs rs : List Progress) → Pairs HostBelow ps qs → Pairs (HostOver s) qs rs → Pairs (HostOver s) ps rs
hosts_below s [] [] [] below over = tt
hosts_below s [] [] (r ∷ rs) below over = absurd over
hosts_below s [] (q ∷ qs) rs below over = absurd below
hosts_below s (p ∷ ps) [] rs below over = absurd below
hosts_below s (p ∷ ps) (q ∷ qs) [] below over = absurd over
hosts_below s (p ∷ ps) (q ∷ qs) (r ∷ rs) below over = (host_below s p q r below.0 over.0, hosts_below s ps qs rs below.1 over.1)

-- it covers what the other one does
pub direct_below : (x y c : Possible) → IsBelow x y → Direct y c → Direct x c
direct_below x y c below d = record {
  state = subst (λ (s : State). StateOver s c.state) (sym below.state) d.state;
  hosts = subst (λ (s : State). Pairs (HostOver s) x.hosts c.hosts) (sym below.state) (hosts_below y.state x.hosts y.hosts c.hosts below.hosts d.hosts);
}
