use Rattle.fam_tree.proofs.WordsRead.{words_found}
use Rattle.fam_tree.proofs.line_words.words_of.Goals as goal

pub returns : goal.returns
returns c = λ e listed same.
    let f = words_found e listed c.args.line.now c.cut.result.1.now c.cut-2.result.1.now c.cut-3.result.1.now c.cut-4.result.1.now c.cut-5.result.1.now _ _ _ _ _ _ _ same
    c.cut.ensures.front c.cut.ensures.back c.cut-2.ensures.front c.cut-2.ensures.back c.cut-3.ensures.front c.cut-3.ensures.back
    c.cut-4.ensures.front c.cut-4.ensures.back c.cut-5.ensures.front c.cut-5.ensures.back c.cut-6.ensures.front c.cut-6.ensures.back in
    record { kind = f.kind; mode = f.mode; uid = f.uid; gid = f.gid; size = f.size; map = f.map; path = f.path }
