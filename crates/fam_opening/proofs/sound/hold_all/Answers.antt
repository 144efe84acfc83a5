use Rattle.std.proofs.Common.{◌≡◌, ◌∙◌, [], None, ap, rules, arith}
use Rattle.fam_base.specs.Image.{line_at}
use Rattle.fam_base.specs.declared.entry.Params.{Params}
use Rattle.fam_journal.specs.Past.{Sound}
use Rattle.fam_settled.specs.Settled.{settled_log_state}
use Rattle.fam_opening.proofs.Held.{all_held, new_entries, new_files, new_none, new_params}
use Rattle.fam_opening.proofs.sound.hold_all.Goals as goal

pub loop-seq-init : goal.loop-seq-init
loop-seq-init g c =
    let log = c.in_ok-log.log in
    let p = c.args.plan.now.params in
    let new : settled_log_state log ≡ Sound p [] None = c.in_ok-log.ensures ∙ ap (λ (q : Params). Sound q [] None) c.params.ensures in
    record {
      params = new_params log p new;
      entries = new_entries log p new;
      none = new_none log p new;
      files = λ image told. new_files log p new;
      buffer = search rules;
      same = search rules;
      steady = search rules;
    }

pub returns-clause-log : goal.returns-clause-log
returns-clause-log g c = λ image told.
    let v = c.loop-seq.invariant in
    all_held c.loop-seq.log c.args.plan.now.params (line_at image) c.args.plan.now.entries c.loop-seq.seq
    (omega (arith, c.loop-seq-test.false, c.count-seq-end.ensures.count)) (omega (arith, c.loop-seq.auto.seq-end, c.count-seq-end.ensures.count))
    v.params v.none (v.files image told)
