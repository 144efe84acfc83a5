use Rattle.std.proofs.Common.{◌≡◌, ℕ, ◌<◌, Bool, List, [], refl, sym, ap, subst, ◌∙◌, arith}
use Rattle.std.proofs.lemmas.List.{append-nil}
use Rattle.fam_media.specs.States.{change}
use Rattle.fam_mail.specs.Boxes.{capacity_of}
use Rattle.fam_mail.specs.Calls.{MailHostFits, HostStepped, IsTold, rests}
use Rattle.fam_mail.specs.World.{mail_host}
use Rattle.fam_mail.specs.declared.note.MailNote.{MailNote}
use Rattle.fam_mail.proofs.Chaining.{finishes, stays_on, stays_same}
use Rattle.fam_mail.proofs.Counting.{further_counted, none_counted, same_counted}
use Rattle.fam_mail.proofs.world.steps.steps_of.Goals as goal

pub loop-done-init : goal.loop-done-init
loop-done-init g c = record {
  stays = (record { notes = []; does = record { count = 0; runs = rests }; noted = sym (append-nil c.args.journal.now.items) }, refl);
  runs = c.requires.runs;
  fits = c.requires.fits;
  size = refl;
  later = omega arith;
  counted = λ exact. none_counted _ _ _ _ refl refl;
}

pub returns-then-is_err-clause-counts : goal.returns-then-is_err-clause-counts
returns-then-is_err-clause-counts g c =
    let state = g.M.Media.state in
    let inv = c.loop-done.invariant in
    stays_same (g.M.Media.size c.args.media.now) c.args.entry.now c.args.name.now (mail_host c.args.host.now) (mail_host c.loop-done.host) (mail_host c.loop-done.host) (state c.args.media.now)
    (state c.loop-done.media) (state c.loop-done.media)
    c.args.journal.now.items c.loop-done.journal.items c.two_rooms.new.journal.items (λ (n : ℕ). n < c.args.count)
    (inv.stays.0, subst (λ (n : ℕ). n < c.args.count) (sym inv.stays.1) c.loop-done-test.true) refl refl c.two_rooms.ensures.same

pub returns-in-Ok-true-clause-counts : goal.returns-in-Ok-true-clause-counts
returns-in-Ok-true-clause-counts g c =
    let state = g.M.Media.state in
    let loop = c.loop-done in
    let inv = loop.invariant in
    let stepped = subst (λ (over : Bool). HostStepped c.args.entry.now c.args.name.now (mail_host loop.host) (change state loop.media c.step_of.new.media) over (mail_host c.step_of.new.host)
    c.two_rooms.new.journal.items c.step_of.new.journal.items)
    c.in-Ok-true.field-0-test c.in-Ok-true.ensures.stepped in
    let told : IsTold (g.M.Media.size c.args.media.now) (state loop.media).image = record
    { normal = g.met.M.Media.normal loop.media; count = λ image is. g.met.M.Media.modelled loop.media image is ∙ inv.size } in (
      finishes (g.M.Media.size c.args.media.now) c.args.entry.now c.args.name.now (mail_host c.args.host.now) (mail_host loop.host) (mail_host c.step_of.new.host) (state c.args.media.now)
          (state loop.media) (state c.step_of.new.media)
          c.args.journal.now.items loop.journal.items c.two_rooms.new.journal.items c.step_of.new.journal.items told inv.stays.0 c.two_rooms.ensures.same stepped,
      subst (λ (n : ℕ). n < c.args.count) (sym inv.stays.1) c.loop-done-test.true,
    )

pub returns-in-Err-clause-counts : goal.returns-in-Err-clause-counts
returns-in-Err-clause-counts g c =
    let state = g.M.Media.state in
    let inv = c.loop-done.invariant in
    let same : c.step_of.new.journal.items ≡ c.loop-done.journal.items = ◌∙◌ {A = List MailNote} c.in-Err.ensures.quiet c.two_rooms.ensures.same in
    stays_same (g.M.Media.size c.args.media.now) c.args.entry.now c.args.name.now (mail_host c.args.host.now) (mail_host c.loop-done.host) (mail_host c.step_of.new.host) (state c.args.media.now)
    (state c.loop-done.media) (state c.step_of.new.media)
    c.args.journal.now.items c.loop-done.journal.items c.step_of.new.journal.items (λ (n : ℕ). n < c.args.count)
    (inv.stays.0, subst (λ (n : ℕ). n < c.args.count) (sym inv.stays.1) c.loop-done-test.true)
    c.in-Err.ensures.kept (ap state c.in-Err.ensures.undone) same

pub loop-done-preserved : goal.loop-done-preserved
loop-done-preserved g c =
    let state = g.M.Media.state in
    let loop = c.loop-done in
    let inv = loop.invariant in
    let stepped = subst (λ (over : Bool). HostStepped c.args.entry.now c.args.name.now (mail_host loop.host) (change state loop.media c.step_of.new.media) over (mail_host c.step_of.new.host)
    c.two_rooms.new.journal.items c.step_of.new.journal.items)
    c.in-Ok-false.field-0-test c.in-Ok-false.ensures.stepped in
    let told : IsTold (g.M.Media.size c.args.media.now) (state loop.media).image = record
    { normal = g.met.M.Media.normal loop.media; count = λ image is. g.met.M.Media.modelled loop.media image is ∙ inv.size } in
    record {
      stays = (
        stays_on (g.M.Media.size c.args.media.now) c.args.entry.now c.args.name.now (mail_host c.args.host.now) (mail_host loop.host) (mail_host c.step_of.new.host) (state c.args.media.now)
            (state loop.media) (state c.step_of.new.media)
            c.args.journal.now.items loop.journal.items c.two_rooms.new.journal.items c.step_of.new.journal.items told inv.stays.0 c.two_rooms.ensures.same stepped,
        omega (arith, inv.stays.1),
      );
      runs = c.in-Ok-false.ensures.on c.in-Ok-false.field-0-test;
      fits = subst (λ (n : ℕ). MailHostFits n (capacity_of c.args.entry.now.size) (mail_host c.step_of.new.host)) (c.in-Ok-false.ensures.steady.size ∙ inv.size) c.in-Ok-false.ensures.fits;
      size = c.in-Ok-false.ensures.steady.size ∙ inv.size;
      later = omega (arith, inv.later, c.in-Ok-false.ensures.steady.later);
      counted = λ exact. further_counted _ _ _ _ _ _ _ (inv.counted exact) c.two_rooms.ensures.same (c.in-Ok-false.ensures.counted exact);
    }

pub returns-clause-counts : goal.returns-clause-counts
returns-clause-counts g c =
    let inv = c.loop-done.invariant in
    (inv.stays.0, omega (arith, inv.stays.1, c.loop-done-test.false, c.loop-done.auto._done-end))

pub returns-then-is_err-clause-counted : goal.returns-then-is_err-clause-counted
returns-then-is_err-clause-counted g c exact = same_counted _ _ _ _ _ (c.loop-done.invariant.counted exact) c.two_rooms.ensures.same

pub returns-in-Ok-true-clause-counted : goal.returns-in-Ok-true-clause-counted
returns-in-Ok-true-clause-counted g c exact = further_counted _ _ _ _ _ _ _ (c.loop-done.invariant.counted exact) c.two_rooms.ensures.same (c.in-Ok-true.ensures.counted exact)

pub returns-in-Err-clause-counted : goal.returns-in-Err-clause-counted
returns-in-Err-clause-counted g c exact = further_counted _ _ _ _ _ _ _ (c.loop-done.invariant.counted exact) c.two_rooms.ensures.same (c.in-Err.ensures.counted exact)

pub returns-clause-counted : goal.returns-clause-counted
returns-clause-counted g c = c.loop-done.invariant.counted
