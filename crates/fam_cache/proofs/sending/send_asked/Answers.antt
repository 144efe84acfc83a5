use Rattle.std.proofs.Common.{◌∙◌, refl, ap, arith}
use Rattle.fam_media.specs.Plans.{one_more}
use Rattle.fam_cache.specs.Blocks.{lines_of}
use Rattle.fam_cache.specs.Runs.{over}
use Rattle.fam_cache.proofs.AskedLines.{none_more}
use Rattle.fam_cache.proofs.Fenced.{all_cleaned, all_sent_here, none_sent}
use Rattle.fam_cache.proofs.SentRunLemmas.{fails_asked, fails_cleans, run_fails, run_sent, run_within, still_asked}
use Rattle.fam_cache.proofs.sending.send_asked.Goals as goal

pub loop-at-init : goal.loop-at-init
loop-at-init g c = record {
  kept = c.requires.kept;
  range = c.requires.range;
  sent = none_sent (over (g.M.Media.state c.args.media.now).image (lines_of c.args.places.now));
  same = λ none. refl;
  steady = record { size = refl; later = omega arith };
  quiet = λ exact. refl;
  room = refl;
}

pub send_run-requires-clause-within : goal.send_run-requires-clause-within
send_run-requires-clause-within g c = λ line asked.
    let v = c.loop-at.invariant in
    omega (
      arith,
      c.requires.within line
          (still_asked c.args.first c.args.last _ (over (g.M.Media.state c.loop-at.media).image (lines_of c.loop-at.places)) c.requires.range v.sent
          line asked),
      v.steady.size,
    )

pub returns-in-Err-clause-failed : goal.returns-in-Err-clause-failed
returns-in-Err-clause-failed g c =
    let v = c.loop-at.invariant in
    run_fails _ _ c.loop-at.from c.args.last c.in-Some.number v.sent v.range c.in-Some.ensures.asked c.in-Err.fault.0
    (over (g.M.Media.state c.send_run.new.media).image (lines_of c.send_run.new.places)) c.in-Err.ensures.failed

pub returns-in-Err-clause-err : goal.returns-in-Err-clause-err
returns-in-Err-clause-err g c =
    let v = c.loop-at.invariant in
    fails_cleans _ _ c.loop-at.from c.args.last c.in-Some.number v.sent v.range c.in-Some.ensures.asked c.in-Err.fault.0
    (over (g.M.Media.state c.send_run.new.media).image (lines_of c.send_run.new.places)) c.in-Err.ensures.failed

pub returns-in-Err-clause-line : goal.returns-in-Err-clause-line
returns-in-Err-clause-line g c =
    let v = c.loop-at.invariant in
    fails_asked _ _ c.loop-at.from c.args.last c.in-Some.number v.sent v.range c.in-Some.ensures.asked c.in-Err.fault.0
    (over (g.M.Media.state c.send_run.new.media).image (lines_of c.send_run.new.places)) c.in-Err.ensures.failed

pub returns-in-Err-clause-idle : goal.returns-in-Err-clause-idle
returns-in-Err-clause-idle g c = λ none. absurd (none c.in-Err.fault.0.0 (returns-in-Err-clause-line g c))

pub returns-in-Err-clause-same : goal.returns-in-Err-clause-same
returns-in-Err-clause-same g c = λ none. absurd (none c.in-Err.fault.0.0 (returns-in-Err-clause-line g c))

pub returns-in-Err-clause-counted : goal.returns-in-Err-clause-counted
returns-in-Err-clause-counted g c = λ exact. c.in-Err.ensures.counted exact ∙ ap one_more (c.loop-at.invariant.quiet exact)

pub loop-at-preserved : goal.loop-at-preserved
loop-at-preserved g c =
    let v = c.loop-at.invariant in
    let e = c.in-Ok.ensures in
    let now = over (g.M.Media.state c.send_run.new.media).image (lines_of c.send_run.new.places) in
    record {
      kept = e.kept;
      range = run_within _ _ c.loop-at.from c.args.last c.in-Some.number v.sent v.range c.in-Some.ensures.asked c.in-Ok.count now e.sent;
      sent = run_sent _ _ c.loop-at.from c.args.last c.in-Some.number v.sent v.range c.in-Some.ensures.asked c.in-Ok.count now e.sent;
      same = λ none. absurd (none c.in-Some.number
          (still_asked c.args.first c.args.last _ (over (g.M.Media.state c.loop-at.media).image (lines_of c.loop-at.places)) c.requires.range v.sent
          c.in-Some.number c.in-Some.ensures.asked.asked));
      steady = record { size = e.size ∙ v.steady.size; later = omega (arith, e.cause.later, v.steady.later) };
      quiet = λ exact. e.counted exact ∙ v.quiet exact;
      room = e.room ∙ v.room;
    }

pub loop-at-smaller : goal.loop-at-smaller
loop-at-smaller g c =
    let v = c.loop-at.invariant in
    omega (arith, v.range.high c.in-Some.number c.in-Some.ensures.asked.asked, c.in-Some.ensures.asked.from_there, c.in-Ok.ensures.some)

pub returns-clause-operated : goal.returns-clause-operated
returns-clause-operated g c =
    all_sent_here _ _ c.loop-at.invariant.sent (none_more (lines_of c.loop-at.places) c.loop-at.from c.args.last c.loop-at.invariant.range (c.in_default.ensures.none refl))

pub returns-clause-cache : goal.returns-clause-cache
returns-clause-cache g c =
    all_cleaned _ _ c.loop-at.invariant.sent (none_more (lines_of c.loop-at.places) c.loop-at.from c.args.last c.loop-at.invariant.range (c.in_default.ensures.none refl))
