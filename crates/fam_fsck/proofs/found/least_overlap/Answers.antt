use Rattle.std.proofs.Common.{◌≡◌, ℕ, List, Option, None, sym, ap, subst, ◌∙◌}
use Rattle.std.specs.Prelude.{find, option_map}
use Rattle.fam_base.specs.declared.entry.Entry.{Entry}
use Rattle.fam_rules.specs.Reports.{overlaps}
use Rattle.fam_fsck.specs.declared.found.Found.{Found}
use Rattle.fam_format.specs.Units.{units_in, first_overlap}
use Rattle.fam_alloc.specs.Taken.{is_taken}
use Rattle.fam_fsck.specs.Found.{found_as, pair_of}
use Rattle.fam_fsck.proofs.Pairs.{partner_pair, least_of, least_known, least_new, none_new, is_none_told}
use Rattle.fam_fsck.proofs.found.least_overlap.Goals as goal

-- the first entry that shares a unit with an entry of this number
abbrev first_of : ℕ → List Found → ℕ → Entry → Option ℕ
first_of unit found number e = option_map (λ (f : Found). f.number) (find (λ (f : Found). overlaps unit (pair_of f, (number, e))) found)

pub returns-in-Some : goal.returns-in-Some
returns-in-Some c = λ p before fault unit items used known.
    least_of c.args.unit c.args.found.now before (found_as c.args.number c.args.last.now fault) c.args.known _ items known
    (least_known c.args.unit c.args.found.now (found_as c.args.number c.args.last.now fault) c.args.known c.in-Some.pair c.in-Some.is)

pub returns-then-is_none : goal.returns-then-is_none
returns-then-is_none c = λ p before fault unit items used known.
    let free : c.first_shared.result ≡ None = is_none_told c.first_shared.result c.is_none.result c.is_none.ensures c.if-is_none.true in
    let none : None ≡ partner_pair c.args.unit c.args.found.now (found_as c.args.number c.args.last.now fault) =
    subst (λ (n : ℕ). None ≡ partner_pair n c.args.found.now (found_as c.args.number c.args.last.now fault)) unit
    (none_new p (is_taken c.args.used.now) c.args.found.now before (found_as c.args.number c.args.last.now fault) items used
    (ap (λ (n : ℕ). first_overlap (is_taken c.args.used.now) (units_in n c.args.last.now.extents)) unit ∙ sym c.first_shared.ensures ∙ free)) in
    least_of c.args.unit c.args.found.now before (found_as c.args.number c.args.last.now fault) c.args.known None items known
    (least_new c.args.unit c.args.found.now (found_as c.args.number c.args.last.now fault) c.args.known None c.in_default.is none)

pub returns-in-Some-partner_of : goal.returns-in-Some-partner_of
returns-in-Some-partner_of c = λ p before fault unit items used known.
    least_of c.args.unit c.args.found.now before (found_as c.args.number c.args.last.now fault) c.args.known _ items known
    (least_new c.args.unit c.args.found.now (found_as c.args.number c.args.last.now fault) c.args.known _ c.in_default.is
    (ap (option_map (λ (n : ℕ). (n, c.args.number))) (sym c.in-Some-partner_of.is ∙ c.partner_of.ensures)))

pub returns-in-None : goal.returns-in-None
returns-in-None c = λ p before fault unit items used known.
    least_of c.args.unit c.args.found.now before (found_as c.args.number c.args.last.now fault) c.args.known _ items known
    (least_new c.args.unit c.args.found.now (found_as c.args.number c.args.last.now fault) c.args.known _ c.in_default.is
    (ap (option_map (λ (n : ℕ). (n, c.args.number))) (sym c.in-None.is ∙ c.partner_of.ensures)))
