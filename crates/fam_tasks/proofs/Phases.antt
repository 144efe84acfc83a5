-- The phase behind a slot.
use Rattle.std.proofs.Common.{◌≡◌, ℕ, ◌+◌, ◌*◌, ◌≤◌, Bool, true, false, cond, nat_lt, refl, sym, ap, subst, arith}
use Rattle.std.proofs.lemmas.Bool.{ltb-false}
use Rattle.fam_base.specs.declared.cmd.Cmd.{Cmd}
use Rattle.fam_base.specs.declared.cmd.Cmd.TheVariants.{Logplay}
use Rattle.fam_base.specs.declared.entry.Params.{Params}
use Rattle.fam_format.specs.Layout.{geometry, log_line}
use Rattle.fam_format.specs.Params.{SoundParams}
use Rattle.fam_commands.specs.declared.phase.Part.TheVariants.{Slot}
use Rattle.fam_commands.specs.declared.phase.Phase.{Phase}
use Rattle.fam_commands.specs.declared.phase.Phase.TheVariants as at
use Rattle.fam_commands.specs.Task.{Task}
use Rattle.fam_commands.specs.Turns.{slots_read}
use Rattle.fam_commands.specs.Classes.{is_fsck}
use Rattle.fam_tasks.specs.declared.task.Task.TheInside.{Inside}
use Rattle.fam_tasks.specs.Commands.{is_logplay, slots_told}
use Rattle.fam_tasks.specs.Invariant.{HasLooked, IsInvariantAt, MayPlay}
use Rattle.fam_tasks.specs.Sound.{HasSuper, HasValidGate}

-- the next slot, or the decision
abbrev pub next_phase : ℕ → ℕ → Phase
next_phase i n = cond (nat_lt i n) (at.Drop (Slot i) 0) at.Decide

-- how many slots a command reads
slots_by : (cmd : Cmd) (t : Task) → t.cmd ≡ cmd → slots_read t ≡ slots_told cmd t.params t.gate
slots_by Logplay t is = rw is refl
slots_by other t is = rw is refl

pub slots_are : (t : Task) → slots_read t ≡ slots_told t.cmd t.params t.gate
slots_are t = slots_by t.cmd t refl

-- all slots are at least those below the gate
told_within : (b : Bool) (gate slots : ℕ) → gate ≤ slots → cond b slots gate ≤ slots
told_within true gate slots below = omega arith
told_within false gate slots below = below

pub slots_within : (cmd : Cmd) (p : Params) (gate : ℕ) → gate ≤ p.slots → slots_told cmd p gate ≤ p.slots
slots_within cmd p gate below = told_within (is_fsck cmd) gate p.slots below

-- slots were looked at up to it
pub held_by : (t : Inside) (i n : ℕ) (b : Bool) → n ≡ slots_told t.cmd t.params t.gate → nat_lt i n ≡ b → i ≤ n → HasLooked i t → (b ≡ false → MayPlay t.cmd t.history)
    → IsInvariantAt (cond b (at.Drop (Slot i) 0) at.Decide) t
held_by t i n true slots less within looked plays = looked
held_by t i n false slots less within looked plays =
    let all : i ≡ slots_told t.cmd t.params t.gate = omega (arith, slots, within, ltb-false i n less) in
    (subst (λ (k : ℕ). HasLooked k t) all looked, plays refl)

-- a check of the whole file system lists no tree
pub surveys_other : (cmd : Cmd) → is_fsck cmd ≡ true → is_logplay cmd ≡ false
surveys_other Logplay is = absurd cc
surveys_other other is = refl

-- the same file system and gate on the same image
pub same_super : (t u : Task) → u.params ≡ t.params → u.lines ≡ t.lines → HasSuper t → HasSuper u
same_super t u params lines has = record {
  sound = subst SoundParams (sym params) has.sound;
  device = omega (arith, ap (λ (p : Params). p.device) params, has.device, lines);
  slots =
      subst (λ (p : Params). log_line + (geometry p).lines * (p.slots + 1) ≤ u.lines) (sym params)
      (subst (λ (n : ℕ). log_line + (geometry t.params).lines * (t.params.slots + 1) ≤ n) (sym lines) has.slots);
}

pub same_gate : (t u : Task) → u.params ≡ t.params → u.lines ≡ t.lines → u.gate ≡ t.gate → HasValidGate t → HasValidGate u
same_gate t u params lines gate has = record {
  super = same_super t u params lines has.super;
  gate = omega (arith, ap (λ (p : Params). p.slots) params, has.gate, gate);
}
