use Rattle.std.proofs.Common.{true≢false, sym}
use Rattle.uuid.specs.Text.{parsed}
use Rattle.fam_grammar.proofs.SpellingLemmas.{none_of}
use Rattle.fam_grammar.proofs.spellings.parsed.Goals as goal

pub returns-in-Err : goal.returns-in-Err
returns-in-Err c = none_of (parsed c.args.text.now) (λ p. true≢false (sym (c.in-Err.ensures.ok.1 p)))
