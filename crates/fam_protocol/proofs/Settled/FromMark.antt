-- The mark is where the gate's line is dropped.
use Rattle.std.proofs.Common.{ℕ, ◌≡◌, ◌+◌, Bool, true, false, Option, Some, None, inl, inr, refl, sym, subst}
use Rattle.std.specs.Prelude.{⊤, ◌⊎◌, ◌*◌, ◌++◌, [], ◌∷◌, Result, Ok, Err, nat_lt, if◌then◌else◌}
use Rattle.fam_base.specs.declared.entry.Params.{Params}
use Rattle.fam_format.specs.declared.faults.SuperFault.{SuperFault}
use Rattle.fam_format.specs.declared.faults.LogFault.{LogFault}
use Rattle.fam_format.specs.Log.{log_fault}
use Rattle.fam_format.specs.Super.{magic_fault, super_body_of}
use Rattle.fam_rules.specs.declared.answers.Refused.{Refused}
use Rattle.fam_rules.specs.Place.{line_bytes}
use Rattle.std.proofs.lemmas.Option.{same_Some}
use Rattle.fam_commands.specs.declared.phase.Part.TheVariants.{Superblock, Header}
use Rattle.fam_commands.specs.declared.phase.Phase.{Phase}
use Rattle.fam_commands.specs.declared.phase.Phase.TheVariants as at
use Rattle.fam_commands.specs.Stands.{task_after}
use Rattle.fam_commands.specs.Task.{Task}
use Rattle.fam_commands.specs.Turns.{Turn, Goes, Marks, Finds, Writes, Ends, header_turn, host_refusal, host_turn, magic_turn, super_turn, turn_at, with_word}
use Rattle.fam_rules.specs.Decide.{wish_of}
use Rattle.fam_protocol.specs.After.{HasMarked}

-- a turn doesn't come there
abbrev StaysShort : Turn → Type 0
StaysShort (Goes next) = HasMarked next.phase → ⊥
StaysShort (Marks next) = HasMarked next.phase → ⊥
StaysShort (Finds n next) = HasMarked next.phase → ⊥
StaysShort (Writes seq e next) = HasMarked next.phase → ⊥
StaysShort (Ends reply) = ⊤

short_next : (turn : Turn) (next : Task) → StaysShort turn → task_after turn ≡ Some next → HasMarked next.phase → ⊥
short_next (Goes t) next short is past = short (subst (λ (x : Task). HasMarked x.phase) (sym (same_Some t next is)) past)
short_next (Marks t) next short is past = short (subst (λ (x : Task). HasMarked x.phase) (sym (same_Some t next is)) past)
short_next (Finds n t) next short is past = short (subst (λ (x : Task). HasMarked x.phase) (sym (same_Some t next is)) past)
short_next (Writes seq e t) next short is past = short (subst (λ (x : Task). HasMarked x.phase) (sym (same_Some t next is)) past)
short_next (Ends reply) next short is past = absurd (cc)

short_either : (b : Bool) (one other : Turn) → StaysShort one → StaysShort other → StaysShort (if b then one else other)
short_either true one other first second = first
short_either false one other first second = second

short_magic : (t : Task) (o : Option SuperFault) → StaysShort (magic_turn t o)
short_magic t (Some fault) = tt
short_magic t None = λ past. past

short_host : (t : Task) (p : Params) (o : Option Refused) → StaysShort (host_turn t p o)
short_host t p (Some refused) = tt
short_host t p None = λ past. past

short_super : (t : Task) (r : Result Params SuperFault) → StaysShort (super_turn t r)
short_super t (Err fault) = tt
short_super t (Ok p) = short_host t p (host_refusal (wish_of t.cmd) p t.me)

short_header : (t : Task) (o : Option LogFault) → StaysShort (header_turn t o)
short_header t (Some fault) = tt
short_header t None = λ past. past

-- the mark is where the gate's line is dropped
pub from_mark : (p : Phase) (t next : Task) (word : ℕ) → task_after (turn_at p t word) ≡ Some next → HasMarked next.phase → HasMarked p ⊎ (p ≡ at.DropGate)
from_mark at.DropMagic t next word is past = absurd (short_next (turn_at at.DropMagic t word) next (λ h. h) is past)
from_mark at.Magic t next word is past = absurd (short_next (turn_at at.Magic t word) next (short_magic t (magic_fault word)) is past)
from_mark (at.Drop Superblock j) t next word is past = absurd (short_next (turn_at (at.Drop Superblock j) t word) next (λ h. h) is past)
from_mark (at.Drop Header j) t next word is past = absurd (short_next (turn_at (at.Drop Header j) t word) next (λ h. h) is past)
from_mark (at.Word Superblock j k) t next word is past =
    let super = short_super (with_word t word) (super_body_of (t.words ++ word ∷ []) (line_bytes * t.lines)) in
    let line = short_either (nat_lt (j + 1) 2) (Goes (record (with_word t word) { phase = at.Drop Superblock (j + 1) })) _ (λ h. h) super in
    absurd (short_next (turn_at (at.Word Superblock j k) t word) next (short_either (nat_lt k 7) (Goes (record (with_word t word) { phase = at.Word Superblock j (k + 1) })) _ (λ h. h) line) is past)
from_mark (at.Word Header j k) t next word is past =
    let header = short_header (with_word t word) (log_fault (t.words ++ word ∷ []) t.params) in
    absurd (short_next (turn_at (at.Word Header j k) t word) next (short_either (nat_lt k 7) (Goes (record (with_word t word) { phase = at.Word Header j (k + 1) })) _ (λ h. h) header) is past)
from_mark at.DropGate t next word is past = inr refl
from_mark other t next word is past = inl tt
