-- Paths for which a slot has no room: what the protocol says of a task's is what the journal says of its host's; and the
-- task goes on behind the superblock only where it has none.
use Rattle.std.proofs.Common.{◌≡◌, ◌≤◌, ℕ, List, length, Option, Some, None, ap, sym, ◌∙◌, subst, arith}
use Rattle.std.proofs.lemmas.Option.{same_Some}
use Rattle.fam_base.specs.declared.cmd.Cmd.{Cmd}
use Rattle.fam_base.specs.declared.entry.Params.{Params}
use Rattle.fam_format.specs.Layout.{geometry}
use Rattle.fam_commands.specs.declared.phase.Part.TheVariants.{Superblock, Header, Slot, File}
use Rattle.fam_commands.specs.declared.phase.Phase.{Phase}
use Rattle.fam_commands.specs.declared.phase.Phase.TheVariants as at
use Rattle.fam_commands.proofs.BeforeWrites.{IsBehindSuper}
use Rattle.fam_commands.proofs.Steps.Ties.{TieAt}
use Rattle.fam_commands.specs.Task.{Task}
use Rattle.fam_commands.specs.Turns.{host_refusal}
use Rattle.fam_rules.specs.declared.answers.Refused.{Refused}
use Rattle.fam_rules.specs.Decide.{Wish, first_refusal, length_refusal, master_refusal, wish_of}
use Rattle.fam_rules.specs.DecideLaws.{IsTooLong}
use Rattle.fam_rules.proofs.RefusalTests.{length_none}
use Rattle.fam_protocol.specs.After.{NamesLongPath}
use Rattle.fam_journal.specs.Legal.{NamesLong}
use Rattle.fam_journal.specs.Past.{HostPast}

pub names_long : (p : Params) (t : Task) (told : HostPast) (limit : ℕ) → told.cmd ≡ Some t.cmd → told.uuid ≡ t.me → NamesLongPath p t limit → NamesLong p told limit
names_long p t told limit cmd_is me a =
    record { cmd = t.cmd; told = cmd_is; wish = a.wish; wished = a.wished; is = subst (λ (u : List ℕ). IsTooLong p u a.wish limit) (sym me) a.is }

-- the second of two refusals
behind_none : (first behind : Option Refused) → first_refusal first behind ≡ None → behind ≡ None
behind_none None behind none = none
behind_none (Some refused) behind none = absurd cc

pub none_long : (p : Params) (cmd : Cmd) (me : List ℕ) (told : HostPast) (limit : ℕ) → told.cmd ≡ Some cmd → host_refusal (wish_of cmd) p me ≡ None → NamesLong p told limit → ⊥
none_long p cmd me told limit cmd_is free names =
    let wished : wish_of cmd ≡ Some names.wish = ap wish_of (same_Some cmd names.cmd (sym cmd_is ∙ names.told)) ∙ names.wished in
    let goes : host_refusal (Some names.wish) p me ≡ None = ap (λ (o : Option Wish). host_refusal o p me) (sym wished) ∙ free in
    let fits : length names.wish.path ≤ (geometry p).path_limit = length_none p names.wish.path (behind_none (master_refusal p me) (length_refusal p names.wish.path) goes) names.is.format in
    absurd (omega (arith, fits, names.is.long, names.is.limit_is))

-- the host may go on, behind the superblock
pub behind_free : (p : Phase) (t : Task) (words : List ℕ) (made : ℕ) → IsBehindSuper p → TieAt p t words made → host_refusal (wish_of t.cmd) t.params t.me ≡ None
behind_free at.DropMagic t words made behind tie = absurd behind
behind_free at.Magic t words made behind tie = absurd behind
behind_free (at.Drop Superblock j) t words made behind tie = absurd behind
behind_free (at.Drop Header j) t words made behind tie = tie.known.0.host
behind_free (at.Drop (Slot i) j) t words made behind tie = tie.known.0.gated.log.head.host
behind_free (at.Drop File j) t words made behind tie = tie.known.0.gated.log.head.host
behind_free (at.Word Superblock j k) t words made behind tie = absurd behind
behind_free (at.Word Header j k) t words made behind tie = tie.0.known.0.host
behind_free (at.Word (Slot i) j k) t words made behind tie = tie.0.known.0.gated.log.head.host
behind_free (at.Word File j k) t words made behind tie = tie.0.known.0.gated.log.head.host
behind_free at.DropGate t words made behind tie = tie.0.head.host
behind_free at.Gate t words made behind tie = tie.0.head.host
behind_free (at.Check i) t words made behind tie = tie.0.gated.log.head.host
behind_free at.Decide t words made behind tie = tie.0.gated.log.head.host
behind_free e t words made behind tie = tie.0.slots.gated.log.head.host
