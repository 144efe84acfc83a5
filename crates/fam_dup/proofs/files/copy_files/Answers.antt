use Rattle.std.proofs.Common.{◌+◌, ◌∙◌, List, Option, drop, subst, inr, arith, rules}
use Rattle.std.proofs.lemmas.Result.{err_from_is_err_and}
use Rattle.fam_base.specs.Image.{Image, line_at}
use Rattle.fam_rules.specs.Written.{Put, file_puts}
use Rattle.fam_dup.specs.Ends.{IsStep}
use Rattle.fam_dup.specs.Lines.{bytes_in, files_puts}
use Rattle.fam_dup.specs.Passes.{ArePassed}
use Rattle.fam_dup.proofs.Passing.{cut_as, pass_all, pass_cut, pass_none, pass_part}
use Rattle.fam_dup.proofs.Rows.{files_at, files_end}
use Rattle.fam_dup.proofs.files.copy_files.Goals as goal

pub copy_file-requires-clause-file : goal.copy_file-requires-clause-file
copy_file-requires-clause-file g c =
    let log = c.each_entry_joins.ensures in
    record {
      params = c.args.source.now.params;
      sound = log.params;
      proper = (log.added c.loop-seq.seq c.entry_at-entry.result c.entry_at-entry.ensures.at).proper;
      device = omega (arith, c.requires.from_device, c.loop-seq.invariant.steady_from.size);
    }

pub copy_file-requires-clause-place : goal.copy_file-requires-clause-place
copy_file-requires-clause-place g c =
    let log = c.each_entry_joins-2.ensures in
    record {
      params = c.args.copies.now.params;
      sound = log.params;
      proper = (log.added c.loop-seq.seq c.entry_at-copy.result c.entry_at-copy.ensures.at).proper;
      device = omega (arith, c.requires.to_device, c.loop-seq.invariant.steady_to.size);
    }

pub copy_file-requires-clause-size : goal.copy_file-requires-clause-size
copy_file-requires-clause-size g c =
    (c.requires.copies.each c.loop-seq.seq c.entry_at-entry.result c.entry_at-copy.result c.entry_at-entry.ensures.at c.entry_at-copy.ensures.at).size

pub loop-seq-init : goal.loop-seq-init
loop-seq-init g c = record {
  passed = λ image told. pass_none (files_puts (line_at image) c.args.source.now.entries c.args.copies.now.entries) (g.N.Media.state c.args.to.now).image;
  buffer = search rules;
  same = search rules;
  quiet_from = search rules;
  quiet_to = search rules;
  steady_from = search rules;
  steady_to = search rules;
}

pub loop-seq-preserved : goal.loop-seq-preserved
loop-seq-preserved g c =
    let v = c.loop-seq.invariant in
    let e = c.in_ok-copy_file.ensures in
    let entries = c.args.source.now.entries in
    let copies = c.args.copies.now.entries in
    record {
      passed = λ image told.
          let all : List Put = files_puts (line_at image) entries copies in
          let mine : List Put = file_puts c.entry_at-copy.result (bytes_in (line_at image) c.entry_at-entry.result) in
          let rest : List Put = files_puts (line_at image) (drop (c.loop-seq.seq + 1) entries) (drop (c.loop-seq.seq + 1) copies) in
          let old : Option Image = (g.N.Media.state c.args.to.now).image in
          let mid : Option Image = (g.N.Media.state c.loop-seq.to).image in
          pass_part all mine rest old mid (g.N.Media.state c.copy_file.new.to).image
          (subst (λ (l : List Put). ArePassed all l old mid)
          (files_at (line_at image) entries copies c.loop-seq.seq c.entry_at-entry.result c.entry_at-copy.result c.entry_at-entry.ensures.at
          c.entry_at-copy.ensures.at) (v.passed image told))
          (e.puts image (v.same ∙ told));
      buffer = e.buffer ∙ v.buffer;
      same = e.same ∙ v.same;
      quiet_from = λ exact. e.quiet_from exact ∙ v.quiet_from exact;
      quiet_to = λ exact. e.quiet_to exact ∙ v.quiet_to exact;
      steady_from = record { size = e.steady_from.size ∙ v.steady_from.size; later = omega (arith, e.steady_from.later, v.steady_from.later) };
      steady_to = record { size = e.steady_to.size ∙ v.steady_to.size; later = omega (arith, e.steady_to.later, v.steady_to.later) };
    }

pub returns-in_err-copy_file-clause-puts : goal.returns-in_err-copy_file-clause-puts
returns-in_err-copy_file-clause-puts g c = λ image told.
    let v = c.loop-seq.invariant in
    let entries = c.args.source.now.entries in
    let copies = c.args.copies.now.entries in
    let all : List Put = files_puts (line_at image) entries copies in
    let mine : List Put = file_puts c.entry_at-copy.result (bytes_in (line_at image) c.entry_at-entry.result) in
    let rest : List Put = files_puts (line_at image) (drop (c.loop-seq.seq + 1) entries) (drop (c.loop-seq.seq + 1) copies) in
    let old : Option Image = (g.N.Media.state c.args.to.now).image in
    let mid : Option Image = (g.N.Media.state c.loop-seq.to).image in
    let p = err_from_is_err_and c.from_residual.result c.from_residual.ensures.1 in
    rw (p.1, p.2)
    (pass_cut all mine rest old mid (g.N.Media.state c.copy_file.new.to).image
    (subst (λ (l : List Put). ArePassed all l old mid)
    (files_at (line_at image) entries copies c.loop-seq.seq c.entry_at-entry.result c.entry_at-copy.result c.entry_at-entry.ensures.at
    c.entry_at-copy.ensures.at) (v.passed image told))
    (cut_as {By = IsStep entries copies c.in_err-copy_file.field-0.0} _ _ _
    (λ put at. record {
      step = inr (
        c.loop-seq.seq,
        c.entry_at-entry.result,
        c.entry_at-copy.result,
        c.entry_at-entry.ensures.at,
        c.entry_at-copy.ensures.at,
        at,
      );
    })
    (c.in_err-copy_file.ensures.puts image (v.same ∙ told))))

pub returns-clause-puts : goal.returns-clause-puts
returns-clause-puts g c = λ image told.
    let entries = c.args.source.now.entries in
    let copies = c.args.copies.now.entries in
    let all : List Put = files_puts (line_at image) entries copies in
    pass_all all (g.N.Media.state c.args.to.now).image (g.N.Media.state c.loop-seq.to).image
    (subst (λ (l : List Put). ArePassed all l (g.N.Media.state c.args.to.now).image (g.N.Media.state c.loop-seq.to).image)
    (files_end (line_at image) entries copies c.loop-seq.seq (omega (arith, c.count-seq-end.ensures.count, c.requires.copies.count)))
    (c.loop-seq.invariant.passed image told))
