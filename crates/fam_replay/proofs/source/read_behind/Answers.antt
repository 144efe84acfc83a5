use Rattle.std.proofs.Common.{◌≡◌, [], sym, ap, ◌∙◌}
use Rattle.std.proofs.lemmas.Result.{err_from_is_err_and}
use Rattle.fam_base.specs.declared.entry.Params.{Params}
use Rattle.fam_base.specs.Image.{line_at}
use Rattle.fam_format.specs.Reading.{Sound, read_slots}
use Rattle.fam_replay.specs.Sources.{IsOfLog, IsOfSlots}
use Rattle.fam_replay.proofs.Exits.{Held, held_on}
use Rattle.fam_replay.proofs.Sources.{fails_among, slots_of_log}
use Rattle.fam_replay.proofs.source.read_behind.Goals as goal

pub returns : goal.returns
returns g c =
    let one = c.in_ok-count.ensures in
    let e = c.in_ok-read_slots.ensures in
    let params : c.in_ok-plan.plan.params ≡ c.args.params.now = c.in_ok-plan.ensures.params in
    let held : Held g.M.Media.size g.M.Media.state g.M.Media.exact c.args.media.now c.read_count.new.media = record { quiet = one.quiet; same = one.same; steady = one.steady } in
    let last : Held g.M.Media.size g.M.Media.state g.M.Media.exact c.read_count.new.media c.read_slots.new.media = record { quiet = e.quiet; same = e.same; steady = e.steady } in
    let both = held_on g.M.Media.size g.M.Media.state g.M.Media.exact c.args.media.now c.read_count.new.media c.read_slots.new.media held last in
    record {
      told = λ image told.
          one.told image told
          ∙ ap (λ (q : Params). read_slots (line_at image) q 0 c.in_ok-count.count []) (sym params)
          ∙ e.told image (one.same ∙ told)
          ∙ ap (λ (q : Params). Sound q c.read_slots.new.plan.entries) (sym e.params);
      params = e.params ∙ params;
      fault = tt;
      asked = tt;
      cause = tt;
      quiet = both.quiet;
      counted = tt;
      line = tt;
      same = both.same;
      steady = both.steady;
    }

-- a slot failed
pub returns-in_err-read_slots-clause-asked : goal.returns-in_err-read_slots-clause-asked
returns-in_err-read_slots-clause-asked g c =
    let one = c.in_ok-count.ensures in
    let p = err_from_is_err_and c.from_residual-in_err-read_slots.result c.from_residual-in_err-read_slots.ensures.1 in
    rw (p.1, p.2) (λ image told.
    fails_among (IsOfSlots (line_at image) c.in_ok-plan.plan.params c.in_ok-count.count) (IsOfLog (line_at image) c.args.params.now)
    (λ at line. slots_of_log (line_at image) c.args.params.now c.in_ok-plan.plan.params c.in_ok-count.count at c.in_ok-plan.ensures.params (one.gate image told) (one.head image told) line)
    c.in_err-read_slots.field-0.0 (c.in_err-read_slots.ensures.asked image (one.same ∙ told)))
