use Rattle.std.proofs.Common.{◌≡◌, ℕ, List, Some, true, false, length, sym, ap, subst, ◌∙◌, arith, rules}
use Rattle.std.specs.Prelude.{option_map, ◌==◌}
use Rattle.std.specs.Str.{IsUtf8, is_utf8}
use Rattle.std.proofs.lemmas.Str.{is_utf8-from_IsUtf8}
use Rattle.std.proofs.lemmas.Bool.Decides.{nat_tests}
use Rattle.fam_grammar.proofs.SpellingLemmas.{not_utf8, no_name_of_nothing, name_of_utf8, no_name_of_others, no_file, is_the_file, is_no_file}
use Rattle.fam_grammar.proofs.spellings.file_of.Goals as goal

pub returns-in_default : goal.returns-in_default
returns-in_default c = no_file c.args.word.now (sym c.in_ok-bytes.ensures ∙ ap (option_map _) c.in_default.is)

pub returns-then-is_empty : goal.returns-then-is_empty
returns-then-is_empty c =
    let none : length c.in-Some.bytes.items ≡ 0 = search (rules, nat_tests) in
    is_no_file c.args.word.now c.in-Some.bytes.items (sym c.in_ok-bytes.ensures ∙ ap (option_map _) c.in-Some.is) (no_name_of_nothing c.in-Some.bytes.items none)

pub returns-in-Ok : goal.returns-in-Ok
returns-in-Ok c =
    let same : c.in_ok-new-in-Ok.field-0 ≡ c.in-Some.bytes.items = search rules in
    let some : (length c.in-Some.bytes.items == 0) ≡ false = first_of (search (rules, nat_tests), grind (arith, nat_tests)) in
    let utf8 : is_utf8 c.in-Some.bytes.items ≡ true = is_utf8-from_IsUtf8 c.in-Some.bytes.items (subst IsUtf8 c.as_slice.ensures.value c.in-Ok.ensures.cases.1) in
    ap (λ (l : List ℕ). Some l) same
    ∙ is_the_file c.args.word.now c.in-Some.bytes.items (sym c.in_ok-bytes.ensures ∙ ap (option_map _) c.in-Some.is) (name_of_utf8 c.in-Some.bytes.items some utf8)

pub returns : goal.returns
returns c =
    let other : is_utf8 c.in-Some.bytes.items ≡ false = not_utf8 c.in-Some.bytes.items (λ is. c.in-Err.ensures.cases.0 (subst IsUtf8 (sym c.as_slice.ensures.value) is)) in
    is_no_file c.args.word.now c.in-Some.bytes.items (sym c.in_ok-bytes.ensures ∙ ap (option_map _) c.in-Some.is) (no_name_of_others c.in-Some.bytes.items other)
