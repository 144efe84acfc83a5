use Rattle.std.proofs.Common.{◌≡◌, ◌≢◌, length, ap, sym, ◌∙◌}
use Rattle.fam_tree.specs.Cuts.{front}
use Rattle.fam_tree.specs.Lines.{colon}
use Rattle.fam_tree.proofs.WordsRead.{empty_read, map_made, none_some, simple_read, some_same, striped_read}
use Rattle.fam_tree.proofs.line_words.map_of.Goals as goal

pub returns-then-is_no_map-clause-read : goal.returns-then-is_no_map-clause-read
returns-then-is_no_map-clause-read c = λ m xs listed fits same.
    let e = empty_read xs c.args.word.now fits m listed same (sym c.is_no_map.ensures ∙ c.if-is_no_map.true) in
    map_made _ m c.new.result xs (sym e.map) (c.new.ensures ∙ sym e.extents)

pub returns-in_err-extents-clause-read : goal.returns-in_err-extents-clause-read
returns-in_err-extents-clause-read c = λ m xs listed fits same.
    let whole : length (front colon c.args.word.now) ≡ length c.args.word.now = ap length (sym c.cut.ensures.front) ∙ c.if-chunk-word.true in
    let s = simple_read xs c.args.word.now fits m listed same (sym c.is_no_map.ensures ∙ c.if-is_no_map.false) whole in
    let read = c.in_err-extents.ensures.read xs s.few fits s.text s.some in
    absurd (none_some _ read)

pub returns-then-chunk-word-clause-read : goal.returns-then-chunk-word-clause-read
returns-then-chunk-word-clause-read c = λ m xs listed fits same.
    let whole : length (front colon c.args.word.now) ≡ length c.args.word.now = ap length (sym c.cut.ensures.front) ∙ c.if-chunk-word.true in
    let s = simple_read xs c.args.word.now fits m listed same (sym c.is_no_map.ensures ∙ c.if-is_no_map.false) whole in
    let read = c.in_ok-extents.ensures.read xs s.few fits s.text s.some in
    let is : c.in_ok-extents.extents ≡ xs = some_same _ _ read in
    map_made _ m c.in_ok-extents.extents xs (sym s.map) is

pub returns-in_err-chunk-clause-read : goal.returns-in_err-chunk-clause-read
returns-in_err-chunk-clause-read c = λ m xs listed fits same.
    let shorter : length (front colon c.args.word.now) ≢ length c.args.word.now = λ e. c.if-chunk-word.false (ap length c.cut.ensures.front ∙ e) in
    let t = striped_read xs c.args.word.now fits m listed same (sym c.is_no_map.ensures ∙ c.if-is_no_map.false) shorter in
    let read = c.in_err-chunk.ensures.read t.chunk t.fits (c.cut.ensures.front ∙ t.first) in
    absurd (none_some _ read)

pub returns-in_err-extents-2-clause-read : goal.returns-in_err-extents-2-clause-read
returns-in_err-extents-2-clause-read c = λ m xs listed fits same.
    let shorter : length (front colon c.args.word.now) ≢ length c.args.word.now = λ e. c.if-chunk-word.false (ap length c.cut.ensures.front ∙ e) in
    let t = striped_read xs c.args.word.now fits m listed same (sym c.is_no_map.ensures ∙ c.if-is_no_map.false) shorter in
    let read = c.in_err-extents-2.ensures.read xs t.few fits (c.cut.ensures.back ∙ t.text) t.some in
    absurd (none_some _ read)

pub returns-clause-read : goal.returns-clause-read
returns-clause-read c = λ m xs listed fits same.
    let shorter : length (front colon c.args.word.now) ≢ length c.args.word.now = λ e. c.if-chunk-word.false (ap length c.cut.ensures.front ∙ e) in
    let t = striped_read xs c.args.word.now fits m listed same (sym c.is_no_map.ensures ∙ c.if-is_no_map.false) shorter in
    let first = c.in_ok-chunk.ensures.read t.chunk t.fits (c.cut.ensures.front ∙ t.first) in
    let second = c.in_ok-extents-2.ensures.read xs t.few fits (c.cut.ensures.back ∙ t.text) t.some in
    let chunk : c.in_ok-chunk.chunk ≡ t.chunk = some_same _ _ first in
    let is : c.in_ok-extents-2.extents ≡ xs = some_same _ _ second in
    map_made _ m c.in_ok-extents-2.extents xs (ap Rattle.fam_base.specs.declared.entry.MapKind.TheVariants.Striped chunk ∙ sym t.map) is
