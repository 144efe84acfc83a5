use Rattle.std.proofs.Common.{rules, ◌≡◌, ◌∙◌, ℕ, length, ap, arith}
use Rattle.std.proofs.lemmas.List.{take_all, take-append-le}
use Rattle.fam_tasks.proofs.buffer.Buffer.hold.Goals as goal

pub returns : goal.returns
returns c =
    let count : ℕ = length c.args.slot.now in
    let copied : c.copy_from_slice.new.self ≡ c.args.slot.now = search rules in
    let held : length c.copy_from_slice.new.self ≡ count = ap length copied in
    take-append-le count c.copy_from_slice.new.self _ (omega arith) ∙ take_all count c.copy_from_slice.new.self (omega arith) ∙ copied
