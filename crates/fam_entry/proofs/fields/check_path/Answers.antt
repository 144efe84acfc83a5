use Rattle.std.proofs.Common.{◌≤◌, slice_index, sym, ap, ◌∙◌, refl, arith}
use Rattle.fam_base.specs.Paths.{is_path}
use Rattle.fam_entry.proofs.PathField.{path_field, path_read, no_path_fault, bad_path, too_long}
use Rattle.fam_entry.proofs.fields.check_path.Goals as goal

pub returns-then-are_path-clause-first : goal.returns-then-are_path-clause-first
returns-then-are_path-clause-first c = λ g is.
    let few : slice_index c.args.words.now 6 ≤ 512 = omega (arith, c.if-len-limit.false, c.requires.few) in
    let read = path_read c.args.words.now c.put_path.new.field _ refl few c.put_path.array_long c.put_path.ensures.bytes in
    no_path_fault g c.args.words.now (omega (arith, is, c.if-len-limit.false)) (ap is_path (sym read) ∙ sym c.if-are_path.ensures)

pub returns-then-are_path-clause-field : goal.returns-then-are_path-clause-field
returns-then-are_path-clause-field c =
    let few : slice_index c.args.words.now 6 ≤ 512 = omega (arith, c.if-len-limit.false, c.requires.few) in
    record {
      field = path_field c.args.words.now c.put_path.new.field _ few c.put_path.array_long c.put_path.ensures.bytes c.put_path.ensures.behind (sym c.if-are_path.ensures);
      path = path_read c.args.words.now c.put_path.new.field _ refl few c.put_path.array_long c.put_path.ensures.bytes;
    }

pub returns-else-are_path-clause-first : goal.returns-else-are_path-clause-first
returns-else-are_path-clause-first c = λ g is.
    let few : slice_index c.args.words.now 6 ≤ 512 = omega (arith, c.if-len-limit.false, c.requires.few) in
    let read = path_read c.args.words.now c.put_path.new.field _ refl few c.put_path.array_long c.put_path.ensures.bytes in
    bad_path g c.args.words.now (omega (arith, is, c.if-len-limit.false)) (ap is_path (sym read) ∙ sym c.if-are_path.ensures)

pub returns-then-len-limit-clause-first : goal.returns-then-len-limit-clause-first
returns-then-len-limit-clause-first c = λ g is. too_long g c.args.words.now (omega (arith, is, c.if-len-limit.true))
