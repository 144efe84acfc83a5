use Rattle.fam_grammar.specs.Cursor.{words_left}
use Rattle.fam_history.specs.ListedEntries.{listed_map}
use Rattle.fam_history.proofs.Fitting.{none_stands, word_fits}
use Rattle.fam_history.proofs.entries.next_map.Goals as goal

pub returns-in-Ok : goal.returns-in-Ok
returns-in-Ok c = record {
  value = word_fits listed_map c.args.line (words_left c.args.words.now) (words_left c.expected.new.self) c.in-Ok.word c.map_of.result c.fitting.result
      c.in-Ok.ensures.value c.map_of.ensures (c.fitting.ensures (words_left c.expected.new.self));
  short = c.expected.ensures.short;
}

pub returns-in-Err : goal.returns-in-Err
returns-in-Err c = record {
  value = none_stands listed_map c.args.line (words_left c.args.words.now) (words_left c.expected.new.self) c.in-Err.fault c.in-Err.ensures.value;
  short = c.expected.ensures.short;
}
