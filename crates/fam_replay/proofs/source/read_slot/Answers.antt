use Rattle.std.proofs.Common.{◌≡◌, ℕ, ◌+◌, List, [], ◌∷◌, length, refl, ap, subst, arith, length-append}
use Rattle.std.proofs.lemmas.Result.{err_from_is_err_and}
use Rattle.fam_base.specs.declared.entry.Params.{Params}
use Rattle.fam_base.specs.declared.entry.Entry.{Entry}
use Rattle.fam_base.specs.Image.{line_at}
use Rattle.fam_plan.specs.Faults.{reason_of}
use Rattle.fam_replay.specs.Sources.{FailsAt, IsOfSlot}
use Rattle.fam_replay.proofs.Exits.{Held, fails_nowhere, slot_other, stopped}
use Rattle.fam_replay.proofs.Slots.{slot_apart, slot_joins, slot_refused}
use Rattle.fam_replay.proofs.source.read_slot.Goals as goal

pub returns-in_err-words : goal.returns-in_err-words
returns-in_err-words g c =
    let p = err_from_is_err_and c.from_residual.result c.from_residual.ensures.1 in
    let e = c.in_err-words.ensures in
    let f = c.in_err-words.field-0.0 in
    let params : c.params.result.now ≡ c.args.plan.now.params = c.params.ensures in
    rw (p.1, p.2) (record {
      told = tt;
      count = tt;
      params = refl;
      asked = subst (λ (q : Params). FailsAt (IsOfSlot q (length c.args.plan.now.entries)) f) params (subst (λ (n : ℕ). FailsAt (IsOfSlot c.params.result.now n) f) c.requires.next e.asked);
      fault = λ image told more. e.fault _;
      cause = e.cause;
      quiet = tt;
      counted = e.counted;
      line = e.line;
      same = e.same;
      steady = e.steady;
    })

pub returns-in-Err : goal.returns-in-Err
returns-in-Err g c =
    let e = c.in_ok-words.ensures in
    record {
      told = tt;
      count = tt;
      params = refl;
      asked = tt;
      fault = λ image told more.
          slot_refused (line_at image) c.args.plan.now.params c.params.result.now c.args.plan.now.entries c.in_ok-words.words c.shape_of-count.result.words c.args.seq more
          c.params.ensures c.requires.next c.shape_of-count.ensures.words (e.words image told) c.in-Err.reason c.in-Err.ensures.value;
      cause = tt;
      quiet = tt;
      counted = e.quiet;
      line = tt;
      same = e.same;
      steady = e.steady;
    }

pub returns-in-Ok-add : goal.returns-in-Ok-add
returns-in-Ok-add g c =
    let e = c.in_ok-words.ensures in
    let added = c.in-Ok-add.ensures.added in
    record {
      told = λ image told more.
          slot_joins (line_at image) c.args.plan.now.params c.params.result.now c.args.plan.now.entries c.in_ok-words.words c.shape_of-count.result.words c.args.seq more
          c.params.ensures c.requires.next c.shape_of-count.ensures.words (e.words image told) c.in-Ok.entry c.add.new.self.entries c.in-Ok.ensures.value c.in-Ok-add.ensures.joins added;
      count = omega (arith, ap (λ (l : List Entry). length l) added, length-append c.args.plan.now.entries (c.in-Ok.entry ∷ []));
      params = c.add.ensures.params;
      asked = tt;
      fault = tt;
      cause = tt;
      quiet = e.quiet;
      counted = tt;
      line = tt;
      same = e.same;
      steady = e.steady;
    }

pub returns-in-Err-add : goal.returns-in-Err-add
returns-in-Err-add g c =
    let e = c.in_ok-words.ensures in
    let f = c.fault_of_slot.result in
    let is = c.fault_of_slot.ensures in
    let other = slot_other f c.args.seq (reason_of c.in-Err-add.fault) is in
    let held : Held g.M.Media.size g.M.Media.state g.M.Media.exact c.args.media.now c.read_words.new.media = record { quiet = e.quiet; same = e.same; steady = e.steady } in
    let fell = stopped g.M.Media.size g.M.Media.state g.M.Media.exact c.args.media.now c.read_words.new.media held f other in
    record {
      told = tt;
      count = tt;
      params = c.add.ensures.params;
      asked = fails_nowhere (IsOfSlot c.args.plan.now.params (length c.args.plan.now.entries)) f other;
      fault = λ image told more.
          slot_apart (line_at image) c.args.plan.now.params c.params.result.now c.args.plan.now.entries c.in_ok-words.words c.shape_of-count.result.words c.args.seq more
          c.params.ensures c.requires.next c.shape_of-count.ensures.words (e.words image told) c.in-Ok.entry c.in-Ok.ensures.value f (reason_of c.in-Err-add.fault) is c.in-Err-add.ensures.cause;
      cause = fell.cause;
      quiet = tt;
      counted = fell.counted;
      line = fell.line;
      same = fell.same;
      steady = fell.steady;
    }
