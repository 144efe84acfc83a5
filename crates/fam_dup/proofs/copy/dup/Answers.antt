use Rattle.std.proofs.Common.{◌≡◌, ◌∙◌, ◌≤◌, ◌<◌, ◌*◌, ℕ, false, Option, Some, refl, sym, ap, subst, inr, length, arith}
use Rattle.std.specs.Option.{option_map}
use Rattle.std.proofs.lemmas.Result.{err_from_is_err_and}
use Rattle.fam_base.specs.declared.entry.Params.{Params}
use Rattle.fam_base.specs.Image.{Image, line_at}
use Rattle.fam_format.specs.Layout.{least_lines}
use Rattle.fam_format.specs.Params.{need}
use Rattle.fam_rules.specs.Place.{line_bytes}
use Rattle.fam_rules.specs.Written.{put_lines}
use Rattle.fam_dup.specs.Ends.{NamesLine}
use Rattle.fam_dup.specs.Findings.{fault_class, finding}
use Rattle.fam_dup.specs.Lines.{LinesPartlyPut, AreCutAt, copy_puts}
use Rattle.fam_dup.proofs.Cutting.{cut_others, cut_reads, cut_some}
use Rattle.fam_dup.proofs.Failing.{failure_cause, failure_later}
use Rattle.fam_dup.proofs.Finding.{copied_to, entries_or, failed_ends, free_to, large_from, left_alone, names_found, small_from, sound_from, wanted_memory}
use Rattle.fam_dup.proofs.Following.{copies_follow}
use Rattle.fam_dup.proofs.Whole.{whole_copy}
use Rattle.fam_dup.specs.Ends.{IsStep, from_counted, to_counted}
use Rattle.fam_dup.proofs.Asking.{asked_cut, asked_from, asked_memory, asked_none, asked_to, from_unasked, own_from, own_to, to_unasked, wanted_from, wanted_to}
use Rattle.fam_dup.proofs.copy.dup.Goals as goal

pub returns-then-lines-lt-LEAST_LINES-clause-ends : goal.returns-then-lines-lt-LEAST_LINES-clause-ends
returns-then-lines-lt-LEAST_LINES-clause-ends g c = λ source told old is. (
  old,
  is,
  (
    small_from source old c.args.params.now c.args.force c.lines-lines.result
        (c.lines-lines.ensures.count ∙ sym (g.met.M.Media.modelled c.args.from.now source told)) c.if-lines-lt-LEAST_LINES.true,
    refl,
  ),
)

pub returns-in_err-source-clause-ends : goal.returns-in_err-source-clause-ends
returns-in_err-source-clause-ends g c =
    let p = c.args.params.now in
    let force = c.args.force in
    let q = err_from_is_err_and c.from_residual.result c.from_residual.ensures.1 in
    rw (q.1, q.2) (λ source told old is.
    let enough : least_lines ≤ length source = omega (arith, c.if-lines-lt-LEAST_LINES.false, c.lines-lines.ensures.count, g.met.M.Media.modelled c.args.from.now source told) in (
      old,
      is,
      (
        names_found (fault_class c.in_err-source.field-0.0) _ _ (large_from source old p force enough) (c.in_err-source.ensures.fault source told (entries_or source old p force)),
        left_alone source old old p force (fault_class c.in_err-source.field-0.0) refl,
      ),
    ))

pub returns-in_err-check_target-clause-ends : goal.returns-in_err-check_target-clause-ends
returns-in_err-check_target-clause-ends g c =
    let p = c.args.params.now in
    let force = c.args.force in
    let s = c.in_ok-source.source in
    let e = c.in_err-check_target.ensures in
    let q = err_from_is_err_and c.from_residual-in_err-check_target.result c.from_residual-in_err-check_target.ensures.1 in
    rw (q.1, q.2) (λ source told old is.
    let enough : least_lines ≤ length source = omega (arith, c.if-lines-lt-LEAST_LINES.false, c.lines-lines.ensures.count, g.met.M.Media.modelled c.args.from.now source told) in (
      old,
      e.same ∙ is,
      (
        names_found (fault_class c.in_err-check_target.field-0.0) _ _ (sound_from source old p force s.params s.entries enough (c.in_ok-source.ensures.told source told)) (e.fault old is _),
        left_alone source old old p force (fault_class c.in_err-check_target.field-0.0) refl,
      ),
    ))

pub returns-in_err-copies-clause-ends : goal.returns-in_err-copies-clause-ends
returns-in_err-copies-clause-ends g c =
    let p = c.args.params.now in
    let force = c.args.force in
    let s = c.in_ok-source.source in
    let t = c.in_ok-check_target.ensures in
    let q = err_from_is_err_and c.from_residual-in_err-copies.result c.from_residual-in_err-copies.ensures.1 in
    rw (q.1, q.2) (λ source told old is.
    let enough : least_lines ≤ length source = omega (arith, c.if-lines-lt-LEAST_LINES.false, c.lines-lines.ensures.count, g.met.M.Media.modelled c.args.from.now source told) in (
      old,
      t.same ∙ is,
      (
        names_found (fault_class c.in_err-copies.field-0.0) _ _
            (free_to source old p force s.params s.entries enough (c.in_ok-source.ensures.told source told) (t.free old is))
            (c.in_err-copies.ensures.fault s.entries),
        left_alone source old old p force (fault_class c.in_err-copies.field-0.0) refl,
      ),
    ))

pub returns-in_err-buffer-clause-ends : goal.returns-in_err-buffer-clause-ends
returns-in_err-buffer-clause-ends g c =
    let q = err_from_is_err_and c.from_residual-in_err-buffer.result c.from_residual-in_err-buffer.ensures.1 in
    rw (q.1, q.2) (λ source told old is. (
      old,
      c.in_ok-check_target.ensures.same ∙ is,
      wanted_memory source old c.args.params.now c.args.force (fault_class c.in_err-buffer.field-0.0) (finding source old c.args.params.now c.args.force) c.in_err-buffer.ensures.full,
    ))

pub write_copy-requires-clause-copies : goal.write_copy-requires-clause-copies
write_copy-requires-clause-copies g c =
    let s = c.in_ok-source.source in
    (copies_follow s.params c.args.params.now s.entries c.in_ok-check_target.ensures.sound c.each_entry_joins.ensures c.in_ok-copies.copies.entries c.in_ok-copies.ensures.told).are

pub returns-in_err-write_copy-clause-ends : goal.returns-in_err-write_copy-clause-ends
returns-in_err-write_copy-clause-ends g c =
    let p = c.args.params.now in
    let force = c.args.force in
    let s = c.in_ok-source.source in
    let k = c.in_ok-copies.copies in
    let t = c.in_ok-check_target.ensures in
    let e = c.in_err-write_copy.ensures in
    let q = err_from_is_err_and c.from_residual-in_err-write_copy.result c.from_residual-in_err-write_copy.ensures.1 in
    let so = copies_follow s.params p s.entries t.sound c.each_entry_joins.ensures k.entries c.in_ok-copies.ensures.told in
    let new : Option Image = (g.N.Media.state c.write_copy.new.to).image in
    rw (q.1, q.2) (λ source told old is.
    let enough : least_lines ≤ length source = omega (arith, c.if-lines-lt-LEAST_LINES.false, c.lines-lines.ensures.count, g.met.M.Media.modelled c.args.from.now source told) in
    let fits : p.device ≤ line_bytes * length old = omega (arith, c.requires.asked.device, g.met.N.Media.modelled c.args.to.now old is) in
    let at_cut : AreCutAt (IsStep s.entries k.entries c.in_err-write_copy.field-0.0) (copy_puts (line_at source) p s.entries k.entries) (Some old) new =
    subst (λ (r : Params). AreCutAt (IsStep s.entries k.entries c.in_err-write_copy.field-0.0) (copy_puts (line_at source) r s.entries k.entries) (Some old) new) c.in_ok-copies.ensures.params
    (subst (λ (o : Option Image). AreCutAt (IsStep s.entries k.entries c.in_err-write_copy.field-0.0)
    (copy_puts (line_at source) k.params s.entries k.entries) o new) (t.same ∙ is) (e.puts source (c.in_ok-source.ensures.same ∙ told))) in
    let cut = at_cut.cut in
    let after = cut_some (copy_puts (line_at source) p s.entries k.entries) old new cut in
    let left : LinesPartlyPut (copy_puts (line_at source) p s.entries k.entries) (Some old) (Some after.0) =
    subst (λ (o : Option Image). LinesPartlyPut (copy_puts (line_at source) p s.entries k.entries) (Some old) o) after.1 cut in (
      after.0,
      after.1,
      failed_ends source old after.0 p force (fault_class c.in_err-write_copy.field-0.0) (finding source old p force) _ _ _ _ e.failed
          (inr (record {
            entries = s.entries;
            copies = k.entries;
            found = copied_to source old p force s.params s.entries enough (c.in_ok-source.ensures.told source told) (t.free old is) k.entries c.in_ok-copies.ensures.told;
            written = left;
            left = cut_reads p s.entries k.entries source old t.sound fits so.history so.are after.0 left;
            others = cut_others p s.entries k.entries source old t.sound fits so.history so.are after.0 left;
          })),
    ))

pub returns-in_err-write_copy-clause-cause : goal.returns-in_err-write_copy-clause-cause
returns-in_err-write_copy-clause-cause g c =
    let q = err_from_is_err_and c.from_residual-in_err-write_copy.result c.from_residual-in_err-write_copy.ensures.1 in
    rw (q.1, q.2)
    (failure_cause _ _ _ _ (fault_class c.in_err-write_copy.field-0.0)
    (failure_later _ _ _ _ _ _ (fault_class c.in_err-write_copy.field-0.0) c.in_ok-source.ensures.steady.later c.in_ok-check_target.ensures.steady.later c.in_err-write_copy.ensures.failed))

pub returns-clause-ends : goal.returns-clause-ends
returns-clause-ends g c = λ source told old is.
    let p = c.args.params.now in
    let force = c.args.force in
    let s = c.in_ok-source.source in
    let k = c.in_ok-copies.copies in
    let t = c.in_ok-check_target.ensures in
    let so = copies_follow s.params p s.entries t.sound c.each_entry_joins.ensures k.entries c.in_ok-copies.ensures.told in
    let enough : least_lines ≤ length source = omega (arith, c.if-lines-lt-LEAST_LINES.false, c.lines-lines.ensures.count, g.met.M.Media.modelled c.args.from.now source told) in
    let fits : p.device ≤ line_bytes * length old = omega (arith, c.requires.asked.device, g.met.N.Media.modelled c.args.to.now old is) in (
      put_lines (copy_puts (line_at source) p s.entries k.entries) old,
      c.in_ok-write_copy.ensures.puts source (c.in_ok-source.ensures.same ∙ told)
          ∙ ap (option_map (put_lines (copy_puts (line_at source) k.params s.entries k.entries))) (t.same ∙ is)
          ∙ ap (λ (r : Params). Some (put_lines (copy_puts (line_at source) r s.entries k.entries) old)) c.in_ok-copies.ensures.params,
      record {
        entries = s.entries;
        copies = k.entries;
        found = copied_to source old p force s.params s.entries enough (c.in_ok-source.ensures.told source told) (t.free old is) k.entries c.in_ok-copies.ensures.told;
        number = c.count.ensures.count ∙ so.are.count;
        written = refl;
        copied = whole_copy p s.entries k.entries source old t.sound fits so.history so.are;
      },
    )

pub returns-in_err-write_copy-clause-line : goal.returns-in_err-write_copy-clause-line
returns-in_err-write_copy-clause-line g c =
    let q = err_from_is_err_and c.from_residual-in_err-write_copy.result c.from_residual-in_err-write_copy.ensures.1 in
    let e = c.in_err-write_copy in
    rw (q.1, q.2)
    (subst (λ (n : ℕ). NamesLine n (g.N.Media.size c.args.to.now) e.field-0.0) c.in_ok-source.ensures.steady.size
    (subst (λ (n : ℕ). NamesLine (g.M.Media.size c.read_source.new.from) n e.field-0.0) c.in_ok-check_target.ensures.steady.size e.ensures.line))

-- The line that a fault names.

pub returns-in_err-source-clause-asked : goal.returns-in_err-source-clause-asked
returns-in_err-source-clause-asked g c =
    let e = c.in_err-source.ensures in
    let q = err_from_is_err_and c.from_residual.result c.from_residual.ensures.1 in
    rw (q.1, q.2) (λ source told old is. asked_from source old _ c.args.params.now c.args.force c.in_err-source.field-0.0 _ _ is e.cause (e.asked source told))

pub returns-in_err-check_target-clause-asked : goal.returns-in_err-check_target-clause-asked
returns-in_err-check_target-clause-asked g c =
    let p = c.args.params.now in
    let force = c.args.force in
    let lines : ℕ = g.N.Media.size c.args.to.now in
    let s = c.in_ok-source.source in
    let e = c.in_err-check_target.ensures in
    let q = err_from_is_err_and c.from_residual-in_err-check_target.result c.from_residual-in_err-check_target.ensures.1 in
    rw (q.1, q.2) (λ source told old is.
    let enough : least_lines ≤ length source = omega (arith, c.if-lines-lt-LEAST_LINES.false, c.lines-lines.ensures.count, g.met.M.Media.modelled c.args.from.now source told) in
    asked_to source old _ p force (λ at. (force ≡ false) × (need p.log_length p.unit ≤ line_bytes * lines) × (at < 3)) (λ at read. record {
      enough = enough;
      params = s.params;
      entries = s.entries;
      sound = c.in_ok-source.ensures.told source told;
      room = omega (arith, read.1, g.met.N.Media.modelled c.args.to.now old is);
      unforced = read.0;
      first = read.2;
    }) c.in_err-check_target.field-0.0 _ _ (e.same ∙ is) e.cause e.asked)

pub returns-in_err-copies-clause-asked : goal.returns-in_err-copies-clause-asked
returns-in_err-copies-clause-asked g c =
    let q = err_from_is_err_and c.from_residual-in_err-copies.result c.from_residual-in_err-copies.ensures.1 in
    rw (q.1, q.2) (λ source told old is. asked_none source old _ c.args.params.now c.args.force c.in_err-copies.field-0.0 c.in_err-copies.ensures.own)

pub returns-in_err-buffer-clause-asked : goal.returns-in_err-buffer-clause-asked
returns-in_err-buffer-clause-asked g c =
    let q = err_from_is_err_and c.from_residual-in_err-buffer.result c.from_residual-in_err-buffer.ensures.1 in
    rw (q.1, q.2) (λ source told old is. asked_memory source old _ c.args.params.now c.args.force c.in_err-buffer.field-0.0 c.in_err-buffer.ensures.full)

pub returns-in_err-write_copy-clause-asked : goal.returns-in_err-write_copy-clause-asked
returns-in_err-write_copy-clause-asked g c =
    let p = c.args.params.now in
    let force = c.args.force in
    let s = c.in_ok-source.source in
    let k = c.in_ok-copies.copies in
    let t = c.in_ok-check_target.ensures in
    let e = c.in_err-write_copy.ensures in
    let f = c.in_err-write_copy.field-0.0 in
    let q = err_from_is_err_and c.from_residual-in_err-write_copy.result c.from_residual-in_err-write_copy.ensures.1 in
    let new : Option Image = (g.N.Media.state c.write_copy.new.to).image in
    rw (q.1, q.2) (λ source told old is.
    let enough : least_lines ≤ length source = omega (arith, c.if-lines-lt-LEAST_LINES.false, c.lines-lines.ensures.count, g.met.M.Media.modelled c.args.from.now source told) in
    asked_cut source old new p force f (record {
      entries = s.entries;
      copies = k.entries;
      found = copied_to source old p force s.params s.entries enough (c.in_ok-source.ensures.told source told) (t.free old is) k.entries c.in_ok-copies.ensures.told;
      cut = subst (λ (r : Params). AreCutAt (IsStep s.entries k.entries f) (copy_puts (line_at source) r s.entries k.entries) (Some old) new) c.in_ok-copies.ensures.params
          (subst (λ (o : Option Image). AreCutAt (IsStep s.entries k.entries f) (copy_puts (line_at source) k.params s.entries k.entries) o new)
          (t.same ∙ is) (e.puts source (c.in_ok-source.ensures.same ∙ told)));
    }))

-- How often a media that counts exactly has failed.

pub returns-in_err-source-clause-counted_to : goal.returns-in_err-source-clause-counted_to
returns-in_err-source-clause-counted_to g c =
    let f = c.in_err-source.field-0.0 in
    let e = c.in_err-source.ensures in
    let q = err_from_is_err_and c.from_residual.result c.from_residual.ensures.1 in
    rw (q.1, q.2) (λ exact. to_unasked _ _ _ (fault_class f) e.cause)

pub returns-in_err-check_target-clause-counted_from : goal.returns-in_err-check_target-clause-counted_from
returns-in_err-check_target-clause-counted_from g c =
    let f = c.in_err-check_target.field-0.0 in
    let e = c.in_err-check_target.ensures in
    let q = err_from_is_err_and c.from_residual-in_err-check_target.result c.from_residual-in_err-check_target.ensures.1 in
    rw (q.1, q.2) (λ exact. c.in_ok-source.ensures.quiet exact ∙ from_unasked _ _ _ (fault_class f) e.cause)

pub returns-in_err-copies-clause-counted_from : goal.returns-in_err-copies-clause-counted_from
returns-in_err-copies-clause-counted_from g c =
    let f = c.in_err-copies.field-0.0 in
    let e = c.in_err-copies.ensures in
    let q = err_from_is_err_and c.from_residual-in_err-copies.result c.from_residual-in_err-copies.ensures.1 in
    rw (q.1, q.2) (λ exact. c.in_ok-source.ensures.quiet exact ∙ own_from _ (fault_class f) e.own)

pub returns-in_err-copies-clause-counted_to : goal.returns-in_err-copies-clause-counted_to
returns-in_err-copies-clause-counted_to g c =
    let f = c.in_err-copies.field-0.0 in
    let e = c.in_err-copies.ensures in
    let q = err_from_is_err_and c.from_residual-in_err-copies.result c.from_residual-in_err-copies.ensures.1 in
    rw (q.1, q.2) (λ exact. c.in_ok-check_target.ensures.quiet exact ∙ own_to _ (fault_class f) e.own)

pub returns-in_err-buffer-clause-counted_from : goal.returns-in_err-buffer-clause-counted_from
returns-in_err-buffer-clause-counted_from g c =
    let f = c.in_err-buffer.field-0.0 in
    let e = c.in_err-buffer.ensures in
    let q = err_from_is_err_and c.from_residual-in_err-buffer.result c.from_residual-in_err-buffer.ensures.1 in
    rw (q.1, q.2) (λ exact. c.in_ok-source.ensures.quiet exact ∙ wanted_from _ (fault_class f) e.full)

pub returns-in_err-buffer-clause-counted_to : goal.returns-in_err-buffer-clause-counted_to
returns-in_err-buffer-clause-counted_to g c =
    let f = c.in_err-buffer.field-0.0 in
    let e = c.in_err-buffer.ensures in
    let q = err_from_is_err_and c.from_residual-in_err-buffer.result c.from_residual-in_err-buffer.ensures.1 in
    rw (q.1, q.2) (λ exact. c.in_ok-check_target.ensures.quiet exact ∙ wanted_to _ (fault_class f) e.full)

pub returns-in_err-write_copy-clause-counted_from : goal.returns-in_err-write_copy-clause-counted_from
returns-in_err-write_copy-clause-counted_from g c =
    let f = c.in_err-write_copy.field-0.0 in
    let e = c.in_err-write_copy.ensures in
    let q = err_from_is_err_and c.from_residual-in_err-write_copy.result c.from_residual-in_err-write_copy.ensures.1 in
    rw (q.1, q.2) (λ exact. e.counted_from exact ∙ ap (from_counted (fault_class f)) (c.in_ok-source.ensures.quiet exact))

pub returns-in_err-write_copy-clause-counted_to : goal.returns-in_err-write_copy-clause-counted_to
returns-in_err-write_copy-clause-counted_to g c =
    let f = c.in_err-write_copy.field-0.0 in
    let e = c.in_err-write_copy.ensures in
    let q = err_from_is_err_and c.from_residual-in_err-write_copy.result c.from_residual-in_err-write_copy.ensures.1 in
    rw (q.1, q.2) (λ exact. e.counted_to exact ∙ ap (to_counted (fault_class f)) (c.in_ok-check_target.ensures.quiet exact))
