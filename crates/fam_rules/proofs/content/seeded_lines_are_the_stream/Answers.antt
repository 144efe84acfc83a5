use Rattle.fam_rules.proofs.ContentLines.{stream_word_of_line}
use Rattle.fam_rules.proofs.content.seeded_lines_are_the_stream.Goals as goal

pub returns : goal.returns
returns c = stream_word_of_line
