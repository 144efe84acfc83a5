use Rattle.std.proofs.Common.{◌≡◌, ℕ, ◌*◌, ◌≤◌, List, get_or, refl, sym, ap, ◌∙◌, inl, inr, arith}
use Rattle.std.proofs.lemmas.Result.{err_from_is_err_and}
use Rattle.fam_base.specs.Image.{line_at}
use Rattle.fam_format.specs.Layout.{device_limit}
use Rattle.fam_format.specs.Reading.{read_super, super_in}
use Rattle.fam_rules.specs.Place.{line_bytes}
use Rattle.fam_replay.specs.Sources.{IsOfSuper}
use Rattle.fam_replay.specs.declared.fault.ReadFault.TheVariants as fault
use Rattle.fam_replay.proofs.Exits.{Held, fails_nowhere, fails_there, fell_on, held_on, line_failed, stopped, super_other, tells_nothing}
use Rattle.fam_replay.proofs.Heads.{lines_tell, no_magic, tells_super}
use Rattle.fam_replay.proofs.source.read_params.Goals as goal

pub returns-in_err-magic : goal.returns-in_err-magic
returns-in_err-magic g c =
    let p = err_from_is_err_and c.from_residual.result c.from_residual.ensures.1 in
    let e = c.in_err-magic.ensures in
    let f = c.in_err-magic.field-0.0 in
    let fell = line_failed g.M.Media.size g.M.Media.state g.M.Media.exact c.args.media.now c.read_line.new.media f _ e.failed e.rose e.counted e.line e.same e.steady in
    rw (p.1, p.2) (record {
      told = tt;
      sound = tt;
      device = tt;
      fault = λ image told. tells_nothing f _ _ e.failed;
      asked = λ image told. fails_there (IsOfSuper (line_at image)) f _ e.failed (inl refl);
      cause = fell.cause;
      counted = fell.counted;
      line = fell.line;
      quiet = tt;
      same = fell.same;
      steady = fell.steady;
    })

pub returns-then-magic-ne-MAGIC : goal.returns-then-magic-ne-MAGIC
returns-then-magic-ne-MAGIC g c =
    let held : Held g.M.Media.size g.M.Media.state g.M.Media.exact c.args.media.now c.read_line.new.media =
    record { quiet = c.in_ok-magic.ensures.quiet; same = c.in_ok-magic.ensures.same; steady = c.in_ok-magic.ensures.steady } in
    let fell = stopped g.M.Media.size g.M.Media.state g.M.Media.exact c.args.media.now c.read_line.new.media held (fault.NoSuper (get_or c.in_ok-magic.magic 0 0)) tt in
    record {
      told = tt;
      sound = tt;
      device = tt;
      fault = λ image told. no_magic (line_at image) _ _ (ap (λ (l : List ℕ). get_or l 0 0) (c.in_ok-magic.ensures.words image told)) c.if-magic-ne-MAGIC.true;
      asked = λ image told. tt;
      cause = fell.cause;
      counted = fell.counted;
      line = fell.line;
      quiet = tt;
      same = fell.same;
      steady = fell.steady;
    }

pub returns-in_err-first : goal.returns-in_err-first
returns-in_err-first g c =
    let p = err_from_is_err_and c.from_residual-in_err-first.result c.from_residual-in_err-first.ensures.1 in
    let e = c.in_err-first.ensures in
    let f = c.in_err-first.field-0.0 in
    let held : Held g.M.Media.size g.M.Media.state g.M.Media.exact c.args.media.now c.read_line.new.media =
    record { quiet = c.in_ok-magic.ensures.quiet; same = c.in_ok-magic.ensures.same; steady = c.in_ok-magic.ensures.steady } in
    let last = line_failed g.M.Media.size g.M.Media.state g.M.Media.exact c.read_line.new.media c.read_line-2.new.media f _ e.failed e.rose e.counted e.line e.same e.steady in
    let fell = fell_on g.M.Media.size g.M.Media.state g.M.Media.exact c.args.media.now c.read_line.new.media c.read_line-2.new.media held f last in
    rw (p.1, p.2) (record {
      told = tt;
      sound = tt;
      device = tt;
      fault = λ image told. tells_nothing f _ _ e.failed;
      asked = λ image told. fails_there (IsOfSuper (line_at image)) f _ e.failed
          (inr (sym (ap (λ (l : List ℕ). get_or l 0 0) (c.in_ok-magic.ensures.words image told)) ∙ c.if-magic-ne-MAGIC.false, inl refl));
      cause = fell.cause;
      counted = fell.counted;
      line = fell.line;
      quiet = tt;
      same = fell.same;
      steady = fell.steady;
    })

pub returns-in_err-second : goal.returns-in_err-second
returns-in_err-second g c =
    let p = err_from_is_err_and c.from_residual-in_err-second.result c.from_residual-in_err-second.ensures.1 in
    let e = c.in_err-second.ensures in
    let f = c.in_err-second.field-0.0 in
    let one : Held g.M.Media.size g.M.Media.state g.M.Media.exact c.args.media.now c.read_line.new.media =
    record { quiet = c.in_ok-magic.ensures.quiet; same = c.in_ok-magic.ensures.same; steady = c.in_ok-magic.ensures.steady } in
    let next : Held g.M.Media.size g.M.Media.state g.M.Media.exact c.read_line.new.media c.read_line-2.new.media =
    record { quiet = c.in_ok-first.ensures.quiet; same = c.in_ok-first.ensures.same; steady = c.in_ok-first.ensures.steady } in
    let held = held_on g.M.Media.size g.M.Media.state g.M.Media.exact c.args.media.now c.read_line.new.media c.read_line-2.new.media one next in
    let last = line_failed g.M.Media.size g.M.Media.state g.M.Media.exact c.read_line-2.new.media c.read_line-3.new.media f _ e.failed e.rose e.counted e.line e.same e.steady in
    let fell = fell_on g.M.Media.size g.M.Media.state g.M.Media.exact c.args.media.now c.read_line-2.new.media c.read_line-3.new.media held f last in
    rw (p.1, p.2) (record {
      told = tt;
      sound = tt;
      device = tt;
      fault = λ image told. tells_nothing f _ _ e.failed;
      asked = λ image told. fails_there (IsOfSuper (line_at image)) f _ e.failed
          (inr (sym (ap (λ (l : List ℕ). get_or l 0 0) (c.in_ok-magic.ensures.words image told)) ∙ c.if-magic-ne-MAGIC.false, inr refl));
      cause = fell.cause;
      counted = fell.counted;
      line = fell.line;
      quiet = tt;
      same = fell.same;
      steady = fell.steady;
    })

pub returns-in-Ok : goal.returns-in-Ok
returns-in-Ok g c =
    let one : Held g.M.Media.size g.M.Media.state g.M.Media.exact c.args.media.now c.read_line.new.media =
    record { quiet = c.in_ok-magic.ensures.quiet; same = c.in_ok-magic.ensures.same; steady = c.in_ok-magic.ensures.steady } in
    let next : Held g.M.Media.size g.M.Media.state g.M.Media.exact c.read_line.new.media c.read_line-2.new.media =
    record { quiet = c.in_ok-first.ensures.quiet; same = c.in_ok-first.ensures.same; steady = c.in_ok-first.ensures.steady } in
    let both = held_on g.M.Media.size g.M.Media.state g.M.Media.exact c.args.media.now c.read_line.new.media c.read_line-2.new.media one next in
    let third : Held g.M.Media.size g.M.Media.state g.M.Media.exact c.read_line-2.new.media c.read_line-3.new.media =
    record { quiet = c.in_ok-second.ensures.quiet; same = c.in_ok-second.ensures.same; steady = c.in_ok-second.ensures.steady } in
    let held = held_on g.M.Media.size g.M.Media.state g.M.Media.exact c.args.media.now c.read_line-2.new.media c.read_line-3.new.media both third in
    let have : line_bytes * g.M.Media.size c.args.media.now ≡ 64 * c.lines.result = omega (arith, c.lines.ensures.count, held.steady.size) in
    let limit : 64 * c.lines.result ≤ device_limit = omega (arith, c.lines.ensures.count, c.lines.ensures.limit) in
    let found = c.in-Ok.ensures.found limit in
    record {
      told = λ image told. ap (super_in (line_at image)) have ∙ lines_tell image c.in_ok-magic.magic c.in_ok-first.first c.in_ok-second.second _
          (c.in_ok-magic.ensures.words image told) (c.in_ok-first.ensures.words image (one.same ∙ told))
          (c.in_ok-second.ensures.words image (both.same ∙ told)) ∙ sym c.in-Ok.ensures.value;
      sound = found.sound;
      device = omega (arith, found.device, have);
      fault = tt;
      asked = tt;
      cause = tt;
      counted = tt;
      line = tt;
      quiet = held.quiet;
      same = held.same;
      steady = held.steady;
    }

pub returns-in-Err : goal.returns-in-Err
returns-in-Err g c =
    let one : Held g.M.Media.size g.M.Media.state g.M.Media.exact c.args.media.now c.read_line.new.media =
    record { quiet = c.in_ok-magic.ensures.quiet; same = c.in_ok-magic.ensures.same; steady = c.in_ok-magic.ensures.steady } in
    let next : Held g.M.Media.size g.M.Media.state g.M.Media.exact c.read_line.new.media c.read_line-2.new.media =
    record { quiet = c.in_ok-first.ensures.quiet; same = c.in_ok-first.ensures.same; steady = c.in_ok-first.ensures.steady } in
    let both = held_on g.M.Media.size g.M.Media.state g.M.Media.exact c.args.media.now c.read_line.new.media c.read_line-2.new.media one next in
    let third : Held g.M.Media.size g.M.Media.state g.M.Media.exact c.read_line-2.new.media c.read_line-3.new.media =
    record { quiet = c.in_ok-second.ensures.quiet; same = c.in_ok-second.ensures.same; steady = c.in_ok-second.ensures.steady } in
    let held = held_on g.M.Media.size g.M.Media.state g.M.Media.exact c.args.media.now c.read_line-2.new.media c.read_line-3.new.media both third in
    let have : line_bytes * g.M.Media.size c.args.media.now ≡ 64 * c.lines.result = omega (arith, c.lines.ensures.count, held.steady.size) in
    let f = c.fault_of_super.result in
    let is = c.fault_of_super.ensures in
    let fell = stopped g.M.Media.size g.M.Media.state g.M.Media.exact c.args.media.now c.read_line-3.new.media held f (super_other f c.in-Err.fault is) in
    record {
      told = tt;
      sound = tt;
      device = tt;
      fault = λ image told. tells_super f c.in-Err.fault _ is
          (ap (read_super (line_at image))
          (ap (super_in (line_at image)) have ∙ lines_tell image c.in_ok-magic.magic c.in_ok-first.first c.in_ok-second.second _
          (c.in_ok-magic.ensures.words image told) (c.in_ok-first.ensures.words image (one.same ∙ told))
          (c.in_ok-second.ensures.words image (both.same ∙ told)) ∙ sym c.in-Err.ensures.value));
      asked = λ image told. fails_nowhere (IsOfSuper (line_at image)) f (super_other f c.in-Err.fault is);
      cause = fell.cause;
      counted = fell.counted;
      line = fell.line;
      quiet = tt;
      same = fell.same;
      steady = fell.steady;
    }
