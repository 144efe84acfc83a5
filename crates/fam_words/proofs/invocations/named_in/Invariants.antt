use Rattle.std.proofs.Common.{◌≡◌, drop}
use Rattle.fam_words.specs.Names.{first_named}
use Rattle.fam_words.proofs.invocations.named_in.Given as goal

abbrev pub invariant-loop-named : goal.invariant-loop-named
invariant-loop-named l = first_named l.word (drop l.named-index l.names) ≡ first_named l.word l.names
