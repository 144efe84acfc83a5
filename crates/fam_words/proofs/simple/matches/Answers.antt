use Rattle.std.proofs.Common.{ap, ◌∙◌, map, string_bytes, inl, inr, Some}
use Rattle.clap.proofs.WalkLemmas.{both}
use Rattle.clap.specs.Simple.{app_of}
use Rattle.fam_words.proofs.Given.{given_rows, given_none}
use Rattle.fam_words.proofs.simple.matches.Goals as goal

-- a command that is simple and free is simple
pub returns-in-Ok : goal.returns-in-Ok
returns-in-Ok c =
    ap Some (c.in-Ok.ensures.matches (both _ _ c.requires).0).0 ∙ given_rows (app_of c.args.command) (map string_bytes c.args.words.now) (c.in-Ok.ensures.kinds c.requires)

pub returns : goal.returns
returns c = elim (c.in-Err.ensures.kinds c.requires) [
  | inl memory ↦ absurd (c.in_default.not-OutOfMemory (c.kind.ensures ∙ memory))
  | inr among ↦ given_none (app_of c.args.command) (map string_bytes c.args.words.now) _ among
]
