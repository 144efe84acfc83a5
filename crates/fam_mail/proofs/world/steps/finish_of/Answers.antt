use Rattle.std.proofs.Common.{ℕ, Bool, [], refl, sym, subst, ◌∙◌, arith}
use Rattle.std.proofs.lemmas.List.{append-nil}
use Rattle.fam_media.specs.States.{change}
use Rattle.fam_mail.specs.Boxes.{capacity_of}
use Rattle.fam_mail.specs.Calls.{MailHostFits, HostStepped, IsTold, rests}
use Rattle.fam_mail.specs.World.{mail_host}
use Rattle.fam_mail.proofs.Chaining.{finishes, stays_on}
use Rattle.fam_mail.proofs.Counting.{further_counted, none_counted, same_counted}
use Rattle.fam_mail.proofs.world.steps.finish_of.Goals as goal

pub operations-init : goal.operations-init
operations-init g c = record {
  stays = record { notes = []; does = record { count = 0; runs = rests }; noted = sym (append-nil c.args.journal.now.items) };
  runs = c.requires.runs;
  fits = c.requires.fits;
  size = refl;
  later = omega arith;
  counted = λ exact. none_counted _ _ _ _ refl refl;
}

pub returns-in-Ok-true-clause-finished : goal.returns-in-Ok-true-clause-finished
returns-in-Ok-true-clause-finished g c =
    let state = g.M.Media.state in
    let inv = c.operations.invariant in
    let stepped = subst (λ (over : Bool). HostStepped c.args.entry.now c.args.name.now (mail_host c.operations.host) (change state c.operations.media c.step_of.new.media) over
    (mail_host c.step_of.new.host) c.two_rooms.new.journal.items c.step_of.new.journal.items)
    c.in-Ok-true.field-0-test c.in-Ok-true.ensures.stepped in
    let told : IsTold (g.M.Media.size c.args.media.now) (state c.operations.media).image = record
    { normal = g.met.M.Media.normal c.operations.media; count = λ image is. g.met.M.Media.modelled c.operations.media image is ∙ inv.size } in
    finishes (g.M.Media.size c.args.media.now) c.args.entry.now c.args.name.now (mail_host c.args.host.now) (mail_host c.operations.host) (mail_host c.step_of.new.host) (state c.args.media.now)
    (state c.operations.media) (state c.step_of.new.media)
    c.args.journal.now.items c.operations.journal.items c.two_rooms.new.journal.items c.step_of.new.journal.items told inv.stays c.two_rooms.ensures.same stepped

pub operations-preserved : goal.operations-preserved
operations-preserved g c =
    let state = g.M.Media.state in
    let inv = c.operations.invariant in
    let stepped = subst (λ (over : Bool). HostStepped c.args.entry.now c.args.name.now (mail_host c.operations.host) (change state c.operations.media c.step_of.new.media) over
    (mail_host c.step_of.new.host) c.two_rooms.new.journal.items c.step_of.new.journal.items)
    c.in-Ok-false.field-0-test c.in-Ok-false.ensures.stepped in
    let told : IsTold (g.M.Media.size c.args.media.now) (state c.operations.media).image = record
    { normal = g.met.M.Media.normal c.operations.media; count = λ image is. g.met.M.Media.modelled c.operations.media image is ∙ inv.size } in
    record {
      stays = stays_on (g.M.Media.size c.args.media.now) c.args.entry.now c.args.name.now (mail_host c.args.host.now) (mail_host c.operations.host) (mail_host c.step_of.new.host)
          (state c.args.media.now) (state c.operations.media) (state c.step_of.new.media)
          c.args.journal.now.items c.operations.journal.items c.two_rooms.new.journal.items c.step_of.new.journal.items told inv.stays c.two_rooms.ensures.same stepped;
      runs = c.in-Ok-false.ensures.on c.in-Ok-false.field-0-test;
      fits = subst (λ (n : ℕ). MailHostFits n (capacity_of c.args.entry.now.size) (mail_host c.step_of.new.host)) (c.in-Ok-false.ensures.steady.size ∙ inv.size) c.in-Ok-false.ensures.fits;
      size = c.in-Ok-false.ensures.steady.size ∙ inv.size;
      later = omega (arith, inv.later, c.in-Ok-false.ensures.steady.later);
      counted = λ exact. further_counted _ _ _ _ _ _ _ (inv.counted exact) c.two_rooms.ensures.same (c.in-Ok-false.ensures.counted exact);
    }

pub returns-then-is_err-clause-counted : goal.returns-then-is_err-clause-counted
returns-then-is_err-clause-counted g c exact = same_counted _ _ _ _ _ (c.operations.invariant.counted exact) c.two_rooms.ensures.same

pub returns-in-Ok-true-clause-counted : goal.returns-in-Ok-true-clause-counted
returns-in-Ok-true-clause-counted g c exact = further_counted _ _ _ _ _ _ _ (c.operations.invariant.counted exact) c.two_rooms.ensures.same (c.in-Ok-true.ensures.counted exact)

pub returns-in-Err-clause-counted : goal.returns-in-Err-clause-counted
returns-in-Err-clause-counted g c exact = further_counted _ _ _ _ _ _ _ (c.operations.invariant.counted exact) c.two_rooms.ensures.same (c.in-Err.ensures.counted exact)
