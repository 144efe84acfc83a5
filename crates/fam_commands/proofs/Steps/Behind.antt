-- Behind the superblock a host that appends was let through: it is the master, and a slot has room for its path.
use Rattle.std.proofs.Common.{ℕ, ◌≡◌, List, Option, None, sym, ◌∙◌, ap}
use Rattle.fam_base.specs.declared.cmd.Cmd.{Cmd}
use Rattle.fam_rules.specs.Decide.{wish_of}
use Rattle.fam_commands.specs.declared.phase.Part.TheVariants.{Superblock, Header, Slot, File}
use Rattle.fam_commands.specs.declared.phase.Phase.{Phase}
use Rattle.fam_commands.specs.declared.phase.Phase.TheVariants as at
use Rattle.fam_commands.specs.Kept.{Kept, IsKept}
use Rattle.fam_commands.specs.Stands.{StandsFor}
use Rattle.fam_commands.specs.Task.{Task}
use Rattle.fam_commands.specs.Turns.{host_refusal}
use Rattle.fam_commands.proofs.BeforeWrites.{IsBehindSuper}
use Rattle.fam_commands.proofs.Steps.Standing.{standing_tied}
use Rattle.fam_commands.proofs.Steps.Ties.{TieAt}

-- by the place
let_through : (p : Phase) (t : Task) (words : List ℕ) (made : ℕ) → IsBehindSuper p → TieAt p t words made → host_refusal (wish_of t.cmd) t.params t.me ≡ None
let_through at.DropMagic t words made behind tie = absurd behind
let_through at.Magic t words made behind tie = absurd behind
let_through (at.Drop Superblock j) t words made behind tie = absurd behind
let_through (at.Drop Header j) t words made behind tie = tie.known.0.host
let_through (at.Drop (Slot i) j) t words made behind tie = tie.known.0.gated.log.head.host
let_through (at.Drop File j) t words made behind tie = tie.known.0.gated.log.head.host
let_through (at.Word Superblock j k) t words made behind tie = absurd behind
let_through (at.Word Header j k) t words made behind tie = tie.0.known.0.host
let_through (at.Word (Slot i) j k) t words made behind tie = tie.0.known.0.gated.log.head.host
let_through (at.Word File j k) t words made behind tie = tie.0.known.0.gated.log.head.host
let_through at.DropGate t words made behind tie = tie.0.head.host
let_through at.Gate t words made behind tie = tie.0.head.host
let_through (at.Check i) t words made behind tie = tie.0.gated.log.head.host
let_through at.Decide t words made behind tie = tie.0.gated.log.head.host
let_through other t words made behind tie = tie.0.slots.gated.log.head.host

-- so a task that stands for a command
pub behind_super : (kept : Option Kept) (cmd : Cmd) (me : List ℕ) (lines : ℕ) (t : Task) (words : List ℕ) (made : ℕ) → IsKept kept
    → StandsFor kept cmd me lines t words made → IsBehindSuper t.phase → host_refusal (wish_of cmd) t.params me ≡ None
behind_super kept cmd me lines t words made joined stands behind =
    let tied = standing_tied kept cmd me lines t words made joined stands in
    ap (λ (m : List ℕ). host_refusal (wish_of cmd) t.params m) (sym tied.me_is) ∙ ap (λ (c : Cmd). host_refusal (wish_of c) t.params t.me) (sym tied.cmd_is)
    ∙ let_through t.phase t words made behind tied.tie
