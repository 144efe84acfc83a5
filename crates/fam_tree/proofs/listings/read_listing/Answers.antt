use Rattle.std.proofs.Common.{◌≡◌, ◌<◌, [], ℕ, List, None, Ok, Vec, length, ap, ap₂, sym, subst, ◌∙◌, rules}
use Rattle.std.specs.Global.{Global}
use Rattle.std.proofs.lemmas.List.{nil_from_length}
use Rattle.fam_base.specs.Commands.{IsListing}
use Rattle.fam_base.specs.PathOrder.{path_eq}
use Rattle.fam_base.specs.declared.entry.Entry.{Entry}
use Rattle.fam_tree.specs.Cuts.{back, front}
use Rattle.fam_tree.specs.Lines.{line_feed}
use Rattle.fam_tree.specs.Listings.{LinesSay, ListingSays, played_line, text_lines}
use Rattle.fam_tree.specs.Said.{NamesBad}
use Rattle.fam_tree.proofs.LinesSaid.{counted_said, empty_listing, empty_said, err_along, listing_said, names_along, ok_along, plain_said}
use Rattle.fam_tree.proofs.listings.read_listing.Goals as goal

pub returns-then-is_empty-clause-read : goal.returns-then-is_empty-clause-read
returns-then-is_empty-clause-read c =
    let none : length c.args.bytes.now ≡ 0 = search rules in
    subst (λ (l : List ℕ). ListingSays l (Ok c.new.result.items)) (sym (nil_from_length c.args.bytes.now none))
    (subst (λ (es : List Entry). ListingSays [] (Ok es)) (sym c.new.ensures.items) empty_said)

pub returns-then-is_empty-clause-order : goal.returns-then-is_empty-clause-order
returns-then-is_empty-clause-order c = subst (λ (es : List Entry). IsListing es) (sym c.new.ensures.items) empty_listing

-- the first line counts the others, or it doesn't
counts : (first bytes rest : List ℕ) (n : ℕ) → first ≡ front line_feed bytes → rest ≡ back line_feed bytes → n ≡ length (text_lines rest)
    → path_eq (front line_feed bytes) (played_line (length (text_lines (back line_feed bytes)))) ≡ path_eq first (played_line n)
counts first bytes rest n a b c =
    sym (ap₂ (λ (l : List ℕ) (k : ℕ). path_eq l (played_line k)) a (c ∙ ap (λ (l : List ℕ). length (text_lines l)) b))

pub returns-then-branch-clause-read : goal.returns-then-branch-clause-read
returns-then-branch-clause-read c =
    let some : 0 < length c.args.bytes.now = search rules in
    let bytes = c.args.bytes.now in
    let rest = c.cut.result.1.now in
    let test = counts c.cut.result.0.now bytes rest c.count_lines.result c.cut.ensures.front c.cut.ensures.back c.count_lines.ensures.count ∙ sym c.in_ok-is_count.ensures ∙ c.if-branch.true in
    ok_along c.read_lines.result (λ (es : Vec Entry Global). LinesSay 2 None (text_lines rest) (Ok es.items)) (λ (es : Vec Entry Global). ListingSays bytes (Ok es.items))
    (λ es h. counted_said bytes some (Ok es.items) test (subst (λ (l : List ℕ). LinesSay 2 None (text_lines l) (Ok es.items)) c.cut.ensures.back h)) c.read_lines.ensures.read

pub returns-then-branch-clause-order : goal.returns-then-branch-clause-order
returns-then-branch-clause-order c =
    let rest = c.cut.result.1.now in
    ok_along c.read_lines.result (λ (es : Vec Entry Global). LinesSay 2 None (text_lines rest) (Ok es.items)) (λ (es : Vec Entry Global). IsListing es.items)
    (λ es h. listing_said (text_lines rest) 2 es.items h) c.read_lines.ensures.read

pub returns-then-branch-clause-bad : goal.returns-then-branch-clause-bad
returns-then-branch-clause-bad c =
    let some : 0 < length c.args.bytes.now = search rules in
    let bytes = c.args.bytes.now in
    let rest = c.cut.result.1.now in
    let test = counts c.cut.result.0.now bytes rest c.count_lines.result c.cut.ensures.front c.cut.ensures.back c.count_lines.ensures.count ∙ sym c.in_ok-is_count.ensures ∙ c.if-branch.true in
    err_along c.read_lines.result (NamesBad (LinesSay 2 None (text_lines rest))) (NamesBad (ListingSays bytes))
    (λ fault h. names_along (LinesSay 2 None (text_lines rest)) (ListingSays bytes) fault
    (λ said k. counted_said bytes some said test (subst (λ (l : List ℕ). LinesSay 2 None (text_lines l) said) c.cut.ensures.back k)) h) c.read_lines.ensures.bad

pub returns-clause-read : goal.returns-clause-read
returns-clause-read c =
    let some : 0 < length c.args.bytes.now = search rules in
    let bytes = c.args.bytes.now in
    let test = counts c.cut.result.0.now bytes c.cut.result.1.now c.count_lines.result c.cut.ensures.front c.cut.ensures.back
    c.count_lines.ensures.count ∙ sym c.in_ok-is_count.ensures ∙ c.if-branch.false in
    ok_along c.read_lines-2.result (λ (es : Vec Entry Global). LinesSay 1 None (text_lines bytes) (Ok es.items)) (λ (es : Vec Entry Global). ListingSays bytes (Ok es.items))
    (λ es h. plain_said bytes some (Ok es.items) test h) c.read_lines-2.ensures.read

pub returns-clause-order : goal.returns-clause-order
returns-clause-order c =
    let bytes = c.args.bytes.now in
    ok_along c.read_lines-2.result (λ (es : Vec Entry Global). LinesSay 1 None (text_lines bytes) (Ok es.items)) (λ (es : Vec Entry Global). IsListing es.items)
    (λ es h. listing_said (text_lines bytes) 1 es.items h) c.read_lines-2.ensures.read

pub returns-clause-bad : goal.returns-clause-bad
returns-clause-bad c =
    let some : 0 < length c.args.bytes.now = search rules in
    let bytes = c.args.bytes.now in
    let test = counts c.cut.result.0.now bytes c.cut.result.1.now c.count_lines.result c.cut.ensures.front c.cut.ensures.back
    c.count_lines.ensures.count ∙ sym c.in_ok-is_count.ensures ∙ c.if-branch.false in
    err_along c.read_lines-2.result (NamesBad (LinesSay 1 None (text_lines bytes))) (NamesBad (ListingSays bytes))
    (λ fault h. names_along (LinesSay 1 None (text_lines bytes)) (ListingSays bytes) fault (λ said k. plain_said bytes some said test k) h) c.read_lines-2.ensures.bad
