use Rattle.std.proofs.Common.{ℕ, List, get_or, refl, ap, ◌∙◌, inl, inr}
use Rattle.std.proofs.lemmas.Result.{err_from_is_err_and}
use Rattle.fam_base.specs.Image.{line_at}
use Rattle.fam_replay.specs.Sources.{IsOfHead}
use Rattle.fam_replay.proofs.Exits.{Held, fails_nowhere, fails_there, fell_on, held_on, line_failed, log_other, stopped, tells_nothing}
use Rattle.fam_replay.proofs.Heads.{by_gate, by_header_line, count_told, head_reads, no_fault_of, tells_log}
use Rattle.fam_replay.proofs.source.read_count.Goals as goal

pub returns-in_err-header : goal.returns-in_err-header
returns-in_err-header g c =
    let p = err_from_is_err_and c.from_residual.result c.from_residual.ensures.1 in
    let e = c.in_err-header.ensures in
    let f = c.in_err-header.field-0.0 in
    let fell = line_failed g.M.Media.size g.M.Media.state g.M.Media.exact c.args.media.now c.read_line.new.media f _ e.failed e.rose e.counted e.line e.same e.steady in
    rw (p.1, p.2) (record {
      told = tt;
      few = tt;
      gate = tt;
      head = tt;
      asked = λ image told. fails_there (IsOfHead (line_at image) c.args.params.now) f _ e.failed (inl refl);
      fault = λ image told. tells_nothing f _ _ e.failed;
      cause = fell.cause;
      counted = fell.counted;
      line = fell.line;
      quiet = tt;
      same = fell.same;
      steady = fell.steady;
    })

pub returns-in-Err : goal.returns-in-Err
returns-in-Err g c =
    let held : Held g.M.Media.size g.M.Media.state g.M.Media.exact c.args.media.now c.read_line.new.media =
    record { quiet = c.in_ok-header.ensures.quiet; same = c.in_ok-header.ensures.same; steady = c.in_ok-header.ensures.steady } in
    let f = c.fault_of_log.result in
    let is = c.fault_of_log.ensures in
    let fell = stopped g.M.Media.size g.M.Media.state g.M.Media.exact c.args.media.now c.read_line.new.media held f (log_other f c.in-Err.fault is) in
    record {
      told = tt;
      few = tt;
      gate = tt;
      head = tt;
      asked = λ image told. fails_nowhere (IsOfHead (line_at image) c.args.params.now) f (log_other f c.in-Err.fault is);
      fault = λ image told. tells_log f c.in-Err.fault _ is
          (by_header_line (line_at image) c.args.params.now c.in_ok-header.header c.in-Err.fault (c.in_ok-header.ensures.words image told)
          c.in-Err.ensures);
      cause = fell.cause;
      counted = fell.counted;
      line = fell.line;
      quiet = tt;
      same = fell.same;
      steady = fell.steady;
    }

pub returns-in_err-gate : goal.returns-in_err-gate
returns-in_err-gate g c =
    let p = err_from_is_err_and c.from_residual-in_err-gate.result c.from_residual-in_err-gate.ensures.1 in
    let e = c.in_err-gate.ensures in
    let f = c.in_err-gate.field-0.0 in
    let held : Held g.M.Media.size g.M.Media.state g.M.Media.exact c.args.media.now c.read_line.new.media =
    record { quiet = c.in_ok-header.ensures.quiet; same = c.in_ok-header.ensures.same; steady = c.in_ok-header.ensures.steady } in
    let last = line_failed g.M.Media.size g.M.Media.state g.M.Media.exact c.read_line.new.media c.read_line-2.new.media f _ e.failed e.rose e.counted e.line e.same e.steady in
    let fell = fell_on g.M.Media.size g.M.Media.state g.M.Media.exact c.args.media.now c.read_line.new.media c.read_line-2.new.media held f last in
    rw (p.1, p.2) (record {
      told = tt;
      few = tt;
      gate = tt;
      head = tt;
      asked = λ image told. fails_there (IsOfHead (line_at image) c.args.params.now) f _ e.failed
          (inr (
            no_fault_of (line_at image) c.args.params.now c.in_ok-header.header (c.in_ok-header.ensures.words image told) c.in_default.ensures,
            refl,
          ));
      fault = λ image told. tells_nothing f _ _ e.failed;
      cause = fell.cause;
      counted = fell.counted;
      line = fell.line;
      quiet = tt;
      same = fell.same;
      steady = fell.steady;
    })

pub returns-in-Err-read_gate : goal.returns-in-Err-read_gate
returns-in-Err-read_gate g c =
    let one : Held g.M.Media.size g.M.Media.state g.M.Media.exact c.args.media.now c.read_line.new.media =
    record { quiet = c.in_ok-header.ensures.quiet; same = c.in_ok-header.ensures.same; steady = c.in_ok-header.ensures.steady } in
    let next : Held g.M.Media.size g.M.Media.state g.M.Media.exact c.read_line.new.media c.read_line-2.new.media =
    record { quiet = c.in_ok-gate.ensures.quiet; same = c.in_ok-gate.ensures.same; steady = c.in_ok-gate.ensures.steady } in
    let held = held_on g.M.Media.size g.M.Media.state g.M.Media.exact c.args.media.now c.read_line.new.media c.read_line-2.new.media one next in
    let f = c.fault_of_log-in-Err-read_gate.result in
    let is = c.fault_of_log-in-Err-read_gate.ensures in
    let fell = stopped g.M.Media.size g.M.Media.state g.M.Media.exact c.args.media.now c.read_line-2.new.media held f (log_other f c.in-Err-read_gate.fault is) in
    record {
      told = tt;
      few = tt;
      gate = tt;
      head = tt;
      asked = λ image told. fails_nowhere (IsOfHead (line_at image) c.args.params.now) f (log_other f c.in-Err-read_gate.fault is);
      fault = λ image told. tells_log f c.in-Err-read_gate.fault _ is
          (by_gate (line_at image) c.args.params.now c.in_ok-header.header _ c.in-Err-read_gate.fault (c.in_ok-header.ensures.words image told)
          c.in_default.ensures (ap (λ (l : List ℕ). get_or l 0 0) (c.in_ok-gate.ensures.words image (one.same ∙ told)))
          c.in-Err-read_gate.ensures.fault);
      cause = fell.cause;
      counted = fell.counted;
      line = fell.line;
      quiet = tt;
      same = fell.same;
      steady = fell.steady;
    }

pub returns : goal.returns
returns g c =
    let one : Held g.M.Media.size g.M.Media.state g.M.Media.exact c.args.media.now c.read_line.new.media =
    record { quiet = c.in_ok-header.ensures.quiet; same = c.in_ok-header.ensures.same; steady = c.in_ok-header.ensures.steady } in
    let next : Held g.M.Media.size g.M.Media.state g.M.Media.exact c.read_line.new.media c.read_line-2.new.media =
    record { quiet = c.in_ok-gate.ensures.quiet; same = c.in_ok-gate.ensures.same; steady = c.in_ok-gate.ensures.steady } in
    let held = held_on g.M.Media.size g.M.Media.state g.M.Media.exact c.args.media.now c.read_line.new.media c.read_line-2.new.media one next in
    record {
      told = λ image told. count_told (line_at image) c.args.params.now c.in_ok-header.header _ (c.in_ok-header.ensures.words image told)
          c.in_default.ensures (ap (λ (l : List ℕ). get_or l 0 0) (c.in_ok-gate.ensures.words image (one.same ∙ told)))
          c.in_default-read_gate.ensures.fault;
      few = c.in_default-read_gate.ensures.within;
      gate = λ image told. (ap (λ (l : List ℕ). get_or l 0 0) (c.in_ok-gate.ensures.words image (one.same ∙ told)));
      head = λ image told. head_reads (line_at image) c.args.params.now c.in_ok-header.header _ (c.in_ok-header.ensures.words image told)
          c.in_default.ensures (ap (λ (l : List ℕ). get_or l 0 0) (c.in_ok-gate.ensures.words image (one.same ∙ told)))
          c.in_default-read_gate.ensures.fault;
      asked = tt;
      fault = tt;
      cause = tt;
      counted = tt;
      line = tt;
      quiet = held.quiet;
      same = held.same;
      steady = held.steady;
    }
