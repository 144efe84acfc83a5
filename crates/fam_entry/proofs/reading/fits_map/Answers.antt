use Rattle.fam_entry.proofs.BareMap.{without_bytes, with_bytes}
use Rattle.fam_entry.proofs.reading.fits_map.Goals as goal

pub returns-then-words-eq0 : goal.returns-then-words-eq0
returns-then-words-eq0 c = without_bytes c.args.params.now c.args.words.now c.if-words-eq-EMPTY_MAP.true c.if-words-eq0.true

pub returns-else-words-eq0 : goal.returns-else-words-eq0
returns-else-words-eq0 c = with_bytes c.args.params.now c.args.words.now c.if-words-eq-EMPTY_MAP.true c.if-words-eq0.false
