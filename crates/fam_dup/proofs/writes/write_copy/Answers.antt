use Rattle.std.proofs.Common.{ℕ, [], ◌∷◌, List, Option, length, ap, ◌∙◌, ap₂, subst, inl}
use Rattle.std.proofs.lemmas.Result.{IfErr-weaker, err_from_is_err_and}
use Rattle.fam_base.specs.declared.entry.Params.{Params}
use Rattle.fam_base.specs.Image.{Image, line_at}
use Rattle.fam_format.specs.Super.{magic_line}
use Rattle.fam_rules.specs.Written.{Put, zero_line}
use Rattle.fam_dup.specs.Lines.{AreCutAt, ArePut, copy_puts, files_puts, head_puts, slots_puts}
use Rattle.fam_dup.specs.Ends.{IsStep, IsToStep, to_counted}
use Rattle.fam_dup.specs.Findings.{fault_class}
use Rattle.fam_dup.proofs.Asking.{from_kept}
use Rattle.fam_dup.proofs.Passing.{cut_as, ends_as}
use Rattle.fam_dup.proofs.Chains.{copy_parts, cut_1, cut_2, cut_3, cut_4, ends_5}
use Rattle.fam_dup.proofs.writes.write_copy.Goals as goal

pub returns-in_err-write_to-clause-puts : goal.returns-in_err-write_to-clause-puts
returns-in_err-write_to-clause-puts g c = λ image told.
    let p = c.args.copies.now.params in
    let es = c.args.source.now.entries in
    let cs = c.args.copies.now.entries in
    let all : List Put = copy_puts (line_at image) p es cs in
    let one : List Put = (0, zero_line) ∷ [] in
    let two : List Put = files_puts (line_at image) es cs in
    let three : List Put = slots_puts p 0 cs in
    let four : List Put = head_puts p (length cs) in
    let five : List Put = (0, magic_line) ∷ [] in
    let parts = copy_parts (line_at image) p es cs in
    let t0 : Option Image = (g.N.Media.state c.args.to.now).image in
    let q = err_from_is_err_and c.from_residual.result c.from_residual.ensures.1 in
    rw (q.1, q.2) (cut_1 all one two three four five parts t0 (g.N.Media.state c.write_to.new.to).image (g.N.Media.state c.write_to.new.to).image
    (g.N.Media.state c.write_to.new.to).image (g.N.Media.state c.write_to.new.to).image (g.N.Media.state c.write_to.new.to).image
    (cut_as {By = IsStep es cs c.in_err-write_to.field-0.0} _ _ _ (λ put at. record { step = inl at }) c.in_err-write_to.ensures.puts))

pub returns-in_err-copy_files-clause-puts : goal.returns-in_err-copy_files-clause-puts
returns-in_err-copy_files-clause-puts g c = λ image told.
    let p = c.args.copies.now.params in
    let es = c.args.source.now.entries in
    let cs = c.args.copies.now.entries in
    let all : List Put = copy_puts (line_at image) p es cs in
    let one : List Put = (0, zero_line) ∷ [] in
    let two : List Put = files_puts (line_at image) es cs in
    let three : List Put = slots_puts p 0 cs in
    let four : List Put = head_puts p (length cs) in
    let five : List Put = (0, magic_line) ∷ [] in
    let parts = copy_parts (line_at image) p es cs in
    let t0 : Option Image = (g.N.Media.state c.args.to.now).image in
    let q = err_from_is_err_and c.from_residual-in_err-copy_files.result c.from_residual-in_err-copy_files.ensures.1 in
    rw (q.1, q.2) (cut_2 all one two three four five parts t0 (g.N.Media.state c.write_to.new.to).image (g.N.Media.state c.copy_files.new.to).image
    (g.N.Media.state c.copy_files.new.to).image (g.N.Media.state c.copy_files.new.to).image (g.N.Media.state c.copy_files.new.to).image
    c.in_ok-write_to.ensures.puts (c.in_err-copy_files.ensures.puts image told))

pub returns-in_err-write_slots-clause-puts : goal.returns-in_err-write_slots-clause-puts
returns-in_err-write_slots-clause-puts g c = λ image told.
    let p = c.args.copies.now.params in
    let es = c.args.source.now.entries in
    let cs = c.args.copies.now.entries in
    let all : List Put = copy_puts (line_at image) p es cs in
    let one : List Put = (0, zero_line) ∷ [] in
    let two : List Put = files_puts (line_at image) es cs in
    let three : List Put = slots_puts p 0 cs in
    let four : List Put = head_puts p (length cs) in
    let five : List Put = (0, magic_line) ∷ [] in
    let parts = copy_parts (line_at image) p es cs in
    let t0 : Option Image = (g.N.Media.state c.args.to.now).image in
    let q = err_from_is_err_and c.from_residual-in_err-write_slots.result c.from_residual-in_err-write_slots.ensures.1 in
    rw (q.1, q.2) (cut_3 all one two three four five parts t0 (g.N.Media.state c.write_to.new.to).image (g.N.Media.state c.copy_files.new.to).image
    (g.N.Media.state c.write_slots.new.to).image (g.N.Media.state c.write_slots.new.to).image (g.N.Media.state c.write_slots.new.to).image
    c.in_ok-write_to.ensures.puts (c.in_ok-copy_files.ensures.puts image told)
    (cut_as {By = IsStep es cs c.in_err-write_slots.field-0.0} _ _ _ (λ put at. record { step = inl at }) c.in_err-write_slots.ensures.puts))

pub returns-in_err-write_head-clause-puts : goal.returns-in_err-write_head-clause-puts
returns-in_err-write_head-clause-puts g c = λ image told.
    let p = c.args.copies.now.params in
    let es = c.args.source.now.entries in
    let cs = c.args.copies.now.entries in
    let all : List Put = copy_puts (line_at image) p es cs in
    let one : List Put = (0, zero_line) ∷ [] in
    let two : List Put = files_puts (line_at image) es cs in
    let three : List Put = slots_puts p 0 cs in
    let four : List Put = head_puts p (length cs) in
    let five : List Put = (0, magic_line) ∷ [] in
    let parts = copy_parts (line_at image) p es cs in
    let t0 : Option Image = (g.N.Media.state c.args.to.now).image in
    let q = err_from_is_err_and c.from_residual-in_err-write_head.result c.from_residual-in_err-write_head.ensures.1 in
    rw (q.1, q.2) (cut_4 all one two three four five parts t0 (g.N.Media.state c.write_to.new.to).image (g.N.Media.state c.copy_files.new.to).image
    (g.N.Media.state c.write_slots.new.to).image (g.N.Media.state c.write_head.new.to).image (g.N.Media.state c.write_head.new.to).image
    c.in_ok-write_to.ensures.puts (c.in_ok-copy_files.ensures.puts image told) c.in_ok-write_slots.ensures.puts
    (cut_as {By = IsStep es cs c.in_err-write_head.field-0.0} _ _ _ (λ put at. record { step = inl at })
    (subst (λ (l : List Put). AreCutAt (IsToStep c.in_err-write_head.field-0.0) l (g.N.Media.state c.write_slots.new.to).image
    (g.N.Media.state c.write_head.new.to).image) (ap₂ (λ (r : Params) (n : ℕ). head_puts r n) c.params.ensures c.count.ensures.count)
    c.in_err-write_head.ensures.puts)))

pub returns-clause-puts : goal.returns-clause-puts
returns-clause-puts g c = λ image told.
    let p = c.args.copies.now.params in
    let es = c.args.source.now.entries in
    let cs = c.args.copies.now.entries in
    let all : List Put = copy_puts (line_at image) p es cs in
    let one : List Put = (0, zero_line) ∷ [] in
    let two : List Put = files_puts (line_at image) es cs in
    let three : List Put = slots_puts p 0 cs in
    let four : List Put = head_puts p (length cs) in
    let five : List Put = (0, magic_line) ∷ [] in
    let parts = copy_parts (line_at image) p es cs in
    let t0 : Option Image = (g.N.Media.state c.args.to.now).image in
    ends_5 all one two three four five parts t0 (g.N.Media.state c.write_to.new.to).image (g.N.Media.state c.copy_files.new.to).image
    (g.N.Media.state c.write_slots.new.to).image (g.N.Media.state c.write_head.new.to).image (g.N.Media.state c.write_to-2.new.to).image
    (IsStep es cs) c.write_to-2.result c.in_ok-write_to.ensures.puts (c.in_ok-copy_files.ensures.puts image told) c.in_ok-write_slots.ensures.puts
    (subst (λ (l : List Put). ArePut l (g.N.Media.state c.write_slots.new.to).image (g.N.Media.state c.write_head.new.to).image)
    (ap₂ (λ (r : Params) (n : ℕ). head_puts r n) c.params.ensures c.count.ensures.count) c.in_ok-write_head.ensures.puts)
    (ends_as IsToStep (IsStep es cs) five (g.N.Media.state c.write_head.new.to).image (g.N.Media.state c.write_to-2.new.to).image
    c.write_to-2.result (λ fault put at. record { step = inl at }) c.write_to-2.ensures.puts)

pub returns-in_err-write_to-clause-counted_from : goal.returns-in_err-write_to-clause-counted_from
returns-in_err-write_to-clause-counted_from g c =
    let f = c.in_err-write_to.field-0.0 in
    let e = c.in_err-write_to.ensures in
    let q = err_from_is_err_and c.from_residual.result c.from_residual.ensures.1 in
    rw (q.1, q.2) (λ exact. from_kept _ (fault_class f) e.failed.0)

pub returns-in_err-copy_files-clause-counted_to : goal.returns-in_err-copy_files-clause-counted_to
returns-in_err-copy_files-clause-counted_to g c =
    let f = c.in_err-copy_files.field-0.0 in
    let e = c.in_err-copy_files.ensures in
    let q = err_from_is_err_and c.from_residual-in_err-copy_files.result c.from_residual-in_err-copy_files.ensures.1 in
    rw (q.1, q.2) (λ exact. e.counted_to exact ∙ ap (to_counted (fault_class f)) (c.in_ok-write_to.ensures.quiet exact))

pub returns-in_err-write_slots-clause-counted_from : goal.returns-in_err-write_slots-clause-counted_from
returns-in_err-write_slots-clause-counted_from g c =
    let f = c.in_err-write_slots.field-0.0 in
    let e = c.in_err-write_slots.ensures in
    let q = err_from_is_err_and c.from_residual-in_err-write_slots.result c.from_residual-in_err-write_slots.ensures.1 in
    rw (q.1, q.2) (λ exact. c.in_ok-copy_files.ensures.quiet_from exact ∙ from_kept _ (fault_class f) e.failed.0)

pub returns-in_err-write_slots-clause-counted_to : goal.returns-in_err-write_slots-clause-counted_to
returns-in_err-write_slots-clause-counted_to g c =
    let f = c.in_err-write_slots.field-0.0 in
    let e = c.in_err-write_slots.ensures in
    let q = err_from_is_err_and c.from_residual-in_err-write_slots.result c.from_residual-in_err-write_slots.ensures.1 in
    rw (q.1, q.2) (λ exact. e.counted exact ∙ ap (to_counted (fault_class f)) (c.in_ok-copy_files.ensures.quiet_to exact ∙ c.in_ok-write_to.ensures.quiet exact))

pub returns-in_err-write_head-clause-counted_from : goal.returns-in_err-write_head-clause-counted_from
returns-in_err-write_head-clause-counted_from g c =
    let f = c.in_err-write_head.field-0.0 in
    let e = c.in_err-write_head.ensures in
    let q = err_from_is_err_and c.from_residual-in_err-write_head.result c.from_residual-in_err-write_head.ensures.1 in
    rw (q.1, q.2) (λ exact. c.in_ok-copy_files.ensures.quiet_from exact ∙ from_kept _ (fault_class f) e.failed.0)

pub returns-in_err-write_head-clause-counted_to : goal.returns-in_err-write_head-clause-counted_to
returns-in_err-write_head-clause-counted_to g c =
    let f = c.in_err-write_head.field-0.0 in
    let e = c.in_err-write_head.ensures in
    let q = err_from_is_err_and c.from_residual-in_err-write_head.result c.from_residual-in_err-write_head.ensures.1 in
    rw (q.1, q.2) (λ exact. e.counted exact ∙ ap (to_counted (fault_class f))
    (c.in_ok-write_slots.ensures.quiet exact ∙ c.in_ok-copy_files.ensures.quiet_to exact ∙ c.in_ok-write_to.ensures.quiet exact))

pub returns-clause-counted_from : goal.returns-clause-counted_from
returns-clause-counted_from g c =
    IfErr-weaker c.write_to-2.result _ _ (λ f failed exact. c.in_ok-copy_files.ensures.quiet_from exact ∙ from_kept _ (fault_class f) failed.0) c.write_to-2.ensures.failed

pub returns-clause-counted_to : goal.returns-clause-counted_to
returns-clause-counted_to g c =
    IfErr-weaker c.write_to-2.result _ _
    (λ f counted exact. counted exact ∙ ap (to_counted (fault_class f))
    (c.in_ok-write_head.ensures.quiet exact ∙ c.in_ok-write_slots.ensures.quiet exact ∙ c.in_ok-copy_files.ensures.quiet_to exact
    ∙ c.in_ok-write_to.ensures.quiet exact))
    c.write_to-2.ensures.counted
