use Rattle.std.proofs.Common.{ℕ, [], ◌∷◌, List, Option, refl, get_or}
use Rattle.std.proofs.lemmas.Result.{err_from_is_err_and}
use Rattle.fam_base.specs.Image.{Image}
use Rattle.fam_format.specs.Layout.{gate_line, log_line}
use Rattle.fam_format.specs.Log.{log_words}
use Rattle.fam_rules.specs.Written.{Put}
use Rattle.fam_dup.specs.Lines.{gate_words, head_puts}
use Rattle.fam_dup.specs.Ends.{IsToStep}
use Rattle.fam_dup.proofs.Chains.{cut_2, cut_3, cut_4, ends_5}
use Rattle.fam_dup.proofs.Heads.{first_words, head_parts, other_words}
use Rattle.fam_dup.proofs.Passing.{put_none}
use Rattle.fam_dup.proofs.writes.write_head.Goals as goal

pub returns-in_err-write_to-clause-puts : goal.returns-in_err-write_to-clause-puts
returns-in_err-write_to-clause-puts g c =
    let p = c.args.params.now in
    let header : List ℕ = log_words p in
    let first : List ℕ = get_or c.spell.result 1 [] in
    let second : List ℕ = get_or c.spell.result 2 [] in
    let parts = head_parts p c.args.count header first second refl (first_words p first second c.are_words.ensures.count c.spell.ensures.words)
    (other_words p first second c.are_words-2.ensures.count c.spell.ensures.words) in
    let one : List Put = (gate_line, gate_words c.args.count) ∷ [] in
    let two : List Put = (log_line, header) ∷ [] in
    let three : List Put = (1, first) ∷ [] in
    let four : List Put = (2, second) ∷ [] in
    let t0 : Option Image = (g.N.Media.state c.args.to.now).image in
    let q = err_from_is_err_and c.from_residual.result c.from_residual.ensures.1 in
    rw (q.1, q.2) (cut_2 (head_puts p c.args.count) [] one two three four parts t0 t0 (g.N.Media.state c.write_to.new.to).image
    (g.N.Media.state c.write_to.new.to).image (g.N.Media.state c.write_to.new.to).image (g.N.Media.state c.write_to.new.to).image
    (put_none t0) c.in_err-write_to.ensures.puts)

pub returns-in_err-write_to-2-clause-puts : goal.returns-in_err-write_to-2-clause-puts
returns-in_err-write_to-2-clause-puts g c =
    let p = c.args.params.now in
    let header : List ℕ = c.spell_log.result in
    let first : List ℕ = get_or c.spell.result 1 [] in
    let second : List ℕ = get_or c.spell.result 2 [] in
    let parts = head_parts p c.args.count header first second c.spell_log.ensures
    (first_words p first second c.are_words.ensures.count c.spell.ensures.words)
    (other_words p first second c.are_words-2.ensures.count c.spell.ensures.words) in
    let one : List Put = (gate_line, gate_words c.args.count) ∷ [] in
    let two : List Put = (log_line, header) ∷ [] in
    let three : List Put = (1, first) ∷ [] in
    let four : List Put = (2, second) ∷ [] in
    let t0 : Option Image = (g.N.Media.state c.args.to.now).image in
    let q = err_from_is_err_and c.from_residual-in_err-write_to-2.result c.from_residual-in_err-write_to-2.ensures.1 in
    rw (q.1, q.2) (cut_3 (head_puts p c.args.count) [] one two three four parts t0 t0 (g.N.Media.state c.write_to.new.to).image
    (g.N.Media.state c.write_to-2.new.to).image (g.N.Media.state c.write_to-2.new.to).image (g.N.Media.state c.write_to-2.new.to).image
    (put_none t0) c.in_ok-write_to.ensures.puts c.in_err-write_to-2.ensures.puts)

pub returns-in_err-write_to-3-clause-puts : goal.returns-in_err-write_to-3-clause-puts
returns-in_err-write_to-3-clause-puts g c =
    let p = c.args.params.now in
    let header : List ℕ = c.spell_log.result in
    let first : List ℕ = get_or c.spell.result 1 [] in
    let second : List ℕ = get_or c.spell.result 2 [] in
    let parts = head_parts p c.args.count header first second c.spell_log.ensures
    (first_words p first second c.are_words.ensures.count c.spell.ensures.words)
    (other_words p first second c.are_words-2.ensures.count c.spell.ensures.words) in
    let one : List Put = (gate_line, gate_words c.args.count) ∷ [] in
    let two : List Put = (log_line, header) ∷ [] in
    let three : List Put = (1, first) ∷ [] in
    let four : List Put = (2, second) ∷ [] in
    let t0 : Option Image = (g.N.Media.state c.args.to.now).image in
    let q = err_from_is_err_and c.from_residual-in_err-write_to-3.result c.from_residual-in_err-write_to-3.ensures.1 in
    rw (q.1, q.2) (cut_4 (head_puts p c.args.count) [] one two three four parts t0 t0 (g.N.Media.state c.write_to.new.to).image
    (g.N.Media.state c.write_to-2.new.to).image (g.N.Media.state c.write_to-3.new.to).image (g.N.Media.state c.write_to-3.new.to).image
    (put_none t0) c.in_ok-write_to.ensures.puts c.in_ok-write_to-2.ensures.puts c.in_err-write_to-3.ensures.puts)

pub returns-clause-puts : goal.returns-clause-puts
returns-clause-puts g c =
    let p = c.args.params.now in
    let header : List ℕ = c.spell_log.result in
    let first : List ℕ = get_or c.spell.result 1 [] in
    let second : List ℕ = get_or c.spell.result 2 [] in
    let parts = head_parts p c.args.count header first second c.spell_log.ensures
    (first_words p first second c.are_words.ensures.count c.spell.ensures.words)
    (other_words p first second c.are_words-2.ensures.count c.spell.ensures.words) in
    let one : List Put = (gate_line, gate_words c.args.count) ∷ [] in
    let two : List Put = (log_line, header) ∷ [] in
    let three : List Put = (1, first) ∷ [] in
    let four : List Put = (2, second) ∷ [] in
    let t0 : Option Image = (g.N.Media.state c.args.to.now).image in
    ends_5 (head_puts p c.args.count) [] one two three four parts t0 t0 (g.N.Media.state c.write_to.new.to).image
    (g.N.Media.state c.write_to-2.new.to).image (g.N.Media.state c.write_to-3.new.to).image (g.N.Media.state c.write_to-4.new.to).image IsToStep
    c.write_to-4.result (put_none t0) c.in_ok-write_to.ensures.puts c.in_ok-write_to-2.ensures.puts c.in_ok-write_to-3.ensures.puts
    c.write_to-4.ensures.puts
