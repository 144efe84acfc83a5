-- The entries with which a task begins to read slots.
use Rattle.std.proofs.Common.{◌≡◌, ℕ, ◌≤◌, Bool, true, false, cond, nat_lt, List, [], ◌∷◌, length, Option, Some, None, refl, sym, ap, ◌∙◌, arith}
use Rattle.std.specs.Prelude.{◌&&◌, nat_le}
use Rattle.std.proofs.lemmas.Bool.{ltb-true}
use Rattle.std.proofs.lemmas.Bool.Decides.{nat_tests}
use Rattle.std.proofs.lemmas.List.{take_all}
use Rattle.fam_base.specs.declared.cmd.Cmd.{Cmd}
use Rattle.fam_base.specs.declared.entry.Entry.{Entry}
use Rattle.fam_base.specs.declared.entry.Params.{Params}
use Rattle.fam_commands.specs.Classes.{Class, class_of, Surveys, is_fsck, surveys}
use Rattle.fam_commands.specs.Kept.{Kept, class_used, is_same_params, used, used_by}
use Rattle.fam_commands.specs.Task.{Task}
use Rattle.fam_commands.specs.declared.phase.Part.TheVariants.{Slot}
use Rattle.fam_commands.specs.declared.phase.Phase.TheVariants as at
use Rattle.fam_replay.specs.Replay.{entries_in}
use Rattle.fam_replay.specs.Replica.{ReplicaState}
use Rattle.fam_tasks.specs.Commands.{slots_told}
use Rattle.fam_tasks.specs.History.{read_by}
use Rattle.fam_tasks.specs.Sound.{HasValidGate, IsSoundAt}
use Rattle.fam_tasks.proofs.Slots.{some_line}

-- a check of the whole file system begins with none
class_uses_none : (class : Class) (kept : Option Kept) (p : Params) (gate : ℕ) → surveys class ≡ true → class_used kept class p gate ≡ []
unfolding class_used
class_uses_none Surveys kept p gate is = refl
class_uses_none other kept p gate is = absurd cc

pub uses_none : (cmd : Cmd) (kept : Option Kept) (p : Params) (gate : ℕ) → is_fsck cmd ≡ true → used kept cmd p gate ≡ []
uses_none cmd kept p gate is = class_uses_none (class_of cmd) kept p gate is

-- any other command begins with the kept entries, where these serve
class_uses_kept : (class : Class) (kept : Option Kept) (p : Params) (gate : ℕ) → surveys class ≡ false → class_used kept class p gate ≡ used_by kept p gate
unfolding class_used
class_uses_kept Surveys kept p gate is = absurd cc
class_uses_kept other kept p gate is = refl

pub uses_kept : (cmd : Cmd) (kept : Option Kept) (p : Params) (gate : ℕ) → is_fsck cmd ≡ false → used kept cmd p gate ≡ used_by kept p gate
uses_kept cmd kept p gate is = class_uses_kept (class_of cmd) kept p gate is

-- What serves.

pub serves_none : (kept : Option Kept) (p : Params) (gate : ℕ) → kept ≡ None → used_by kept p gate ≡ []
unfolding used_by
serves_none kept p gate is = ap (λ (o : Option Kept). used_by o p gate) is

-- no command begins with any where nothing is kept
class_uses_nothing : (class : Class) (kept : Option Kept) (p : Params) (gate : ℕ) → kept ≡ None → class_used kept class p gate ≡ []
unfolding class_used
class_uses_nothing Surveys kept p gate is = refl
class_uses_nothing other kept p gate is = serves_none kept p gate is

pub uses_nothing : (cmd : Cmd) (kept : Option Kept) (p : Params) (gate : ℕ) → kept ≡ None → used kept cmd p gate ≡ []
uses_nothing cmd kept p gate is = class_uses_nothing (class_of cmd) kept p gate is

-- no entries are used, whether or not they serve
none_serve : (list : List Entry) (b : Bool) → list ≡ [] → cond b list [] ≡ []
none_serve list true is = is
none_serve list false is = refl

-- entries serve where there are some
serve_by : (list : List Entry) (b same : Bool) → b ≡ (nat_lt 0 (length list) && same) → cond same list [] ≡ cond b list []
serve_by [] b same test = none_serve [] same refl ∙ sym (none_serve [] b refl)
serve_by (e ∷ rest) b same test =
    let some : nat_lt 0 (length (e ∷ rest)) ≡ true = grind (arith, nat_tests) in
    sym (ap (λ (c : Bool). cond c (e ∷ rest) []) (test ∙ ap (λ (c : Bool). c && same) some))

pub serves_by : (kept : Option Kept) (k : Kept) (p : Params) (gate : ℕ) (b : Bool) → kept ≡ Some k
    → b ≡ (nat_lt 0 (length k.entries) && (is_same_params k.params p && nat_le (length k.entries) gate)) → used_by kept p gate ≡ cond b k.entries []
unfolding used_by
serves_by kept k p gate b is test =
    ap (λ (o : Option Kept). used_by o p gate) is ∙ serve_by k.entries b (is_same_params k.params p && nat_le (length k.entries) gate) test

-- where nothing was read, nothing is read beside what is kept
pub unread : (serves : Bool) (kept : Option Kept) (replay : Option ReplicaState) → read_by serves kept replay ≡ None → replay ≡ None
unread serves None replay is = is
unread true (Some k) replay is = absurd cc
unread false (Some k) replay is = is

begun_by : (b : Bool) (k : Kept) → entries_in (read_by b (Some k) None) ≡ cond b k.entries []
begun_by true k = take_all (length k.entries) k.entries (omega arith)
begun_by false k = refl

-- what is found then
pub begun : (b : Bool) (k : Kept) (kept : Option Kept) (replay : Option ReplicaState) → kept ≡ Some k → replay ≡ None → entries_in (read_by b kept replay) ≡ cond b k.entries []
begun b k kept replay is none =
    ap (λ (o : Option Kept). entries_in (read_by b o replay)) is ∙ ap (λ (r : Option ReplicaState). entries_in (read_by b (Some k) r)) none ∙ begun_by b k

-- what is kept doesn't serve
pub read_aside : (serves : Bool) (kept : Option Kept) (replay : Option ReplicaState) → serves ≡ false → read_by serves kept replay ≡ replay
read_aside serves None replay is = refl
read_aside serves (Some k) replay is = ap (λ (b : Bool). read_by b (Some k) replay) is

pub read_alone : (serves : Bool) (kept : Option Kept) (replay : Option ReplicaState) → kept ≡ None → read_by serves kept replay ≡ replay
read_alone serves kept replay is = ap (λ (o : Option Kept). read_by serves o replay) is

-- The phase behind the gate: the first slot, or the decision.
pub begun_sound : (t : Task) (i n : ℕ) (b : Bool) → nat_lt i n ≡ b → n ≡ slots_told t.cmd t.params t.gate → HasValidGate t → length t.words ≡ 0 → IsSoundAt (cond b (at.Drop (Slot i) 0) at.Decide) t
begun_sound t i n true less slots valid words =
    (record { line = (valid, omega (arith, ltb-true i n less, slots), some_line t.params); few = omega arith }, omega (arith, words))
begun_sound t i n false less slots valid words = valid
