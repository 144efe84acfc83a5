use Rattle.std.proofs.Common.{◌+◌, ◌∙◌, List, Option, drop, ap, subst, arith, rules}
use Rattle.std.proofs.lemmas.Result.{err_from_is_err_and}
use Rattle.fam_base.specs.declared.entry.Params.{Params}
use Rattle.fam_base.specs.Image.{Image}
use Rattle.fam_rules.specs.Written.{Put, slot_puts}
use Rattle.fam_dup.specs.Lines.{ArePut, AreCutAt, slots_puts}
use Rattle.fam_dup.specs.Ends.{IsToStep}
use Rattle.fam_dup.specs.Passes.{ArePassed}
use Rattle.fam_dup.proofs.Passing.{pass_all, pass_cut, pass_none, pass_part}
use Rattle.fam_dup.proofs.Rows.{slots_at, slots_end}
use Rattle.fam_dup.proofs.writes.write_slots.Goals as goal

pub write_slot-requires-clause-device : goal.write_slot-requires-clause-device
write_slot-requires-clause-device g c = omega (arith, c.requires.device, c.loop-seq.invariant.steady.size, ap (λ (p : Params). p.device) c.params.ensures)

pub loop-seq-init : goal.loop-seq-init
loop-seq-init g c = record {
  passed = pass_none (slots_puts c.args.copies.now.params 0 c.args.copies.now.entries) (g.N.Media.state c.args.to.now).image;
  quiet = search rules;
  steady = search rules;
}

pub loop-seq-preserved : goal.loop-seq-preserved
loop-seq-preserved g c =
    let v = c.loop-seq.invariant in
    let e = c.in_ok-write_slot.ensures in
    let p = c.args.copies.now.params in
    let copies = c.args.copies.now.entries in
    let all : List Put = slots_puts p 0 copies in
    let mine : List Put = slot_puts p c.loop-seq.seq c.entry_at-copy.result in
    let rest : List Put = slots_puts p (c.loop-seq.seq + 1) (drop (c.loop-seq.seq + 1) copies) in
    let old : Option Image = (g.N.Media.state c.args.to.now).image in
    let mid : Option Image = (g.N.Media.state c.loop-seq.to).image in
    let new : Option Image = (g.N.Media.state c.write_slot.new.to).image in
    record {
      passed = pass_part all mine rest old mid new
          (subst (λ (l : List Put). ArePassed all l old mid) (slots_at p copies c.loop-seq.seq c.entry_at-copy.result c.entry_at-copy.ensures.at) v.passed)
          (subst (λ (q : Params). ArePut (slot_puts q c.loop-seq.seq c.entry_at-copy.result) mid new) c.params.ensures e.puts);
      quiet = λ exact. e.quiet exact ∙ v.quiet exact;
      steady = record { size = e.steady.size ∙ v.steady.size; later = omega (arith, e.steady.later, v.steady.later) };
    }

pub returns-in_err-write_slot-clause-puts : goal.returns-in_err-write_slot-clause-puts
returns-in_err-write_slot-clause-puts g c =
    let v = c.loop-seq.invariant in
    let p = c.args.copies.now.params in
    let copies = c.args.copies.now.entries in
    let all : List Put = slots_puts p 0 copies in
    let mine : List Put = slot_puts p c.loop-seq.seq c.entry_at-copy.result in
    let rest : List Put = slots_puts p (c.loop-seq.seq + 1) (drop (c.loop-seq.seq + 1) copies) in
    let old : Option Image = (g.N.Media.state c.args.to.now).image in
    let mid : Option Image = (g.N.Media.state c.loop-seq.to).image in
    let new : Option Image = (g.N.Media.state c.write_slot.new.to).image in
    let q = err_from_is_err_and c.from_residual.result c.from_residual.ensures.1 in
    rw (q.1, q.2)
    (pass_cut all mine rest old mid new
    (subst (λ (l : List Put). ArePassed all l old mid) (slots_at p copies c.loop-seq.seq c.entry_at-copy.result c.entry_at-copy.ensures.at) v.passed)
    (subst (λ (r : Params). AreCutAt (IsToStep c.in_err-write_slot.field-0.0) (slot_puts r c.loop-seq.seq c.entry_at-copy.result) mid new) c.params.ensures c.in_err-write_slot.ensures.puts))

pub returns-clause-puts : goal.returns-clause-puts
returns-clause-puts g c =
    let p = c.args.copies.now.params in
    let copies = c.args.copies.now.entries in
    let all : List Put = slots_puts p 0 copies in
    pass_all all (g.N.Media.state c.args.to.now).image (g.N.Media.state c.loop-seq.to).image
    (subst (λ (l : List Put). ArePassed all l (g.N.Media.state c.args.to.now).image (g.N.Media.state c.loop-seq.to).image)
    (slots_end p copies c.loop-seq.seq (omega (arith, c.count-seq-end.ensures.count))) c.loop-seq.invariant.passed)
