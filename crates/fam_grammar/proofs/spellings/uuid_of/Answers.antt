use Rattle.std.proofs.Common.{◌≡◌, None, Bool, true, cond, sym, ap, ◌∙◌}
use Rattle.std.specs.Str.{is_utf8}
use Rattle.uuid.specs.Text.{parsed}
use Rattle.std.proofs.lemmas.Str.{is_utf8-from_IsUtf8}
use Rattle.fam_grammar.specs.Spellings.{uuid_of}
use Rattle.fam_grammar.proofs.SpellingLemmas.{not_utf8}
use Rattle.fam_grammar.proofs.spellings.uuid_of.Goals as goal

pub returns-in-Ok : goal.returns-in-Ok
unfolding uuid_of
returns-in-Ok c =
    let utf8 : is_utf8 c.args.word.now ≡ true = is_utf8-from_IsUtf8 c.args.word.now c.in-Ok.ensures.cases.1 in
    c.parsed.ensures ∙ ap parsed c.in-Ok.ensures.cases.0 ∙ ap (λ (t : Bool). cond t (parsed c.args.word.now) None) (sym utf8)

pub returns-in-Err : goal.returns-in-Err
unfolding uuid_of
returns-in-Err c = ap (λ (t : Bool). cond t (parsed c.args.word.now) None) (sym (not_utf8 c.args.word.now c.in-Err.ensures.cases.0))
