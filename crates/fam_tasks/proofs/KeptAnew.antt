-- What is kept anew behind an answer.
use Rattle.std.proofs.Common.{ℕ, ◌≡◌, Bool, true, false, cond, Option, Some, None, unwrap_or, refl, sym, ap, ap₂, subst, ◌∙◌}
use Rattle.std.specs.Prelude.{IsSome, option_map}
use Rattle.fam_base.specs.declared.cmd.Cmd.{Cmd}
use Rattle.fam_base.specs.declared.cmd.Cmd.TheVariants.{Mount}
use Rattle.fam_format.specs.Stop.{or_else}
use Rattle.fam_rules.specs.Reply.{Reply, Played, Mounted}
use Rattle.fam_commands.specs.Classes.{is_mount}
use Rattle.fam_commands.specs.Keeping.{kept_after, kept_by, read_by}
use Rattle.fam_commands.specs.Kept.{Kept}
use Rattle.fam_commands.specs.Task.{Task, op_at, op_of}
use Rattle.fam_commands.specs.Turns as turns
use Rattle.fam_commands.specs.Turns.{turn_of}
use Rattle.fam_commands.specs.declared.phase.Phase.{Phase}
use Rattle.fam_commands.specs.declared.phase.Phase.TheVariants as at
use Rattle.fam_commands.proofs.TurnTells as told
use Rattle.fam_commands.proofs.TurnTells.{ReplyTells, turn_tells}
use Rattle.fam_tasks.specs.Answers.{reply_of}
use Rattle.fam_tasks.specs.KeptAnew.{KeepsAnew, has_left, is_keeping, kept_left}
use Rattle.fam_tasks.specs.Tells.{Keeps, Leaves, LeavesBehind, is_digest}
use Rattle.fam_tasks.specs.declared.answer.Answer.{Answer}
use Rattle.fam_tasks.specs.declared.answer.Answer.TheVariants as answer

-- a reply of a logplay or of a mount
abbrev is_listing : Reply → Bool
is_listing (Played m tree) = true
is_listing (Mounted m) = true
is_listing reply = false

same_listing : (b : Bool) (own reply : Reply) → Some own ≡ Some reply → b ≡ is_listing own → b ≡ is_listing reply
same_listing b own reply is same = let one : own ≡ reply = cc in same ∙ ap is_listing one

keeping_listing : (a : Answer) (reply : Reply) → reply_of a ≡ Some reply → is_keeping a ≡ is_listing reply
keeping_listing (answer.MediaFault line) reply is = absurd cc
keeping_listing a reply is = same_listing (is_keeping a) _ reply is refl

-- What is kept of a task behind its answer.

-- what the host keeps, where that is anything
first_kept : (o other : Option Kept) → IsSome o → or_else o other ≡ o
first_kept None other is = absurd cc
first_kept (Some k) other is = refl

pub is_host_kept : (t : Task) → IsSome t.kept → kept_left t ≡ t.kept
is_host_kept t some = first_kept t.kept (cond (has_left t.phase t.cmd) (Some (read_by t)) None) some

-- else what a logplay has left
pub is_left : (t : Task) → t.kept ≡ None → has_left t.phase t.cmd ≡ true → kept_left t ≡ Some (read_by t)
is_left t none left = ap₂ (λ (o : Option Kept) (b : Bool). or_else o (cond b (Some (read_by t)) None)) none left

pub none_left : (t : Task) → t.kept ≡ None → has_left t.phase t.cmd ≡ false → kept_left t ≡ t.kept
none_left t none other = ap₂ (λ (o : Option Kept) (b : Bool). or_else o (cond b (Some (read_by t)) None)) none other ∙ sym none

mounts : (cmd : Cmd) → is_mount cmd ≡ true → cmd ≡ Mount
mounts Mount is = refl
mounts other is = absurd cc

pub left_decides : (p : Phase) (cmd : Cmd) → has_left p cmd ≡ true → p ≡ at.Decide
left_decides at.Decide cmd is = refl
left_decides p cmd is = absurd cc

pub left_mounts : (p : Phase) (cmd : Cmd) → has_left p cmd ≡ true → cmd ≡ Mount
left_mounts at.Decide cmd is = mounts cmd is
left_mounts p cmd is = absurd cc

-- what is kept anew is kept
anew_kept : (t new : Task) → new.kept ≡ Some (read_by t) → kept_left new ≡ Some (read_by t)
anew_kept t new kept = ap (λ (o : Option Kept). or_else o (cond (has_left new.phase new.cmd) (Some (read_by new)) None)) kept

played_kept : (o : Option Kept) (t new : Task) → t.kept ≡ o → t.phase ≡ at.Decide → new.kept ≡ option_map (λ (k : Kept). read_by t) t.kept
    → (t.kept ≡ None → new ≡ record t { cmd = Mount }) → kept_left new ≡ Some (read_by t)
played_kept None t new none decides kept leaves =
    ap kept_left (leaves none) ∙ is_left (record t { cmd = Mount }) none (ap (λ (p : Phase). has_left p Mount) decides)
played_kept (Some k) t new some decides kept leaves = anew_kept t new (kept ∙ ap (option_map (λ (k : Kept). read_by t)) some)

listing_kept : (reply : Reply) (t new : Task) (anew : Option Kept) → ReplyTells t t.phase reply → new.kept ≡ kept_by reply (read_by t) t.kept → LeavesBehind reply t new
    → (is_listing reply ≡ true → anew ≡ kept_left new) → (is_listing reply ≡ false → anew ≡ None) → KeepsAnew reply t anew
listing_kept (Played m tree) t new anew tells kept leaves some none = (tells.count, some refl ∙ played_kept t.kept t new refl tells.phase kept leaves)
listing_kept (Mounted m) t new anew tells kept leaves some none = (tells.count, some refl ∙ anew_kept t new kept)
listing_kept reply t new anew tells kept leaves some none = none refl

-- no task plays but with a Digest
left_behind : (reply : Reply) (t new : Task) → ReplyTells t t.phase reply → (is_digest (op_of t) ≡ true → LeavesBehind reply t new) → LeavesBehind reply t new
left_behind (Played m tree) t new tells leaves = leaves (ap (λ (p : Phase). is_digest (op_at t p)) tells.phase)
left_behind reply t new tells leaves = tt

-- of the task's own answer
pub kept_anew : (t new : Task) (word : Option ℕ) (reply : Reply) (a : Answer) (anew : Option Kept) → turn_of t word ≡ turns.Ends reply → Keeps t (turn_of t word) new
    → (is_digest (op_of t) ≡ true → Leaves t (turn_of t word) new) → reply_of a ≡ Some reply
    → (is_keeping a ≡ true → anew ≡ kept_left new) → (is_keeping a ≡ false → anew ≡ None) → KeepsAnew reply t anew
kept_anew t new word reply a anew ends keeps leaves is some none =
    let same : is_keeping a ≡ is_listing reply = keeping_listing a reply is in
    let tells : ReplyTells t t.phase reply = subst (λ (turn : turns.Turn). told.Tells t t.phase turn) ends (turn_tells t.phase t (unwrap_or word 0)) in
    listing_kept reply t new anew tells
    (keeps ∙ ap (λ (turn : turns.Turn). kept_after turn t t.kept) ends)
    (left_behind reply t new tells (subst (λ (turn : turns.Turn). is_digest (op_of t) ≡ true → Leaves t turn new) ends leaves))
    (λ listing. some (same ∙ listing))
    (λ other. none (same ∙ other))
