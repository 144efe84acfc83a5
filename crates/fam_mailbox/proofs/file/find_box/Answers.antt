use Rattle.std.proofs.Common.{◌<◌, ◌∙◌, ℕ, arith, refl, subst, sym}
use Rattle.fam_mail.specs.Boxes.{capacity_of}
use Rattle.fam_media.specs.States.{change}
use Rattle.fam_rules.specs.Written.{file_line}
use Rattle.fam_mailbox.specs.Lookups.{IsLookCaused, IsLookCounted, IsSo}
use Rattle.fam_mailbox.proofs.Faults.{box_caused, box_counted, box_so}
use Rattle.fam_mailbox.proofs.Found.{lines_within}
use Rattle.fam_mailbox.proofs.file.find_box.Goals as goal

pub check_box-requires-clause-within : goal.check_box-requires-clause-within
check_box-requires-clause-within g c = λ j below.
    subst (λ (n : ℕ). file_line c.in-Ok.entry j < n) (sym c.find_file.ensures.steady.size)
    (lines_within (g.M.Media.size c.args.media.now) c.in-Ok.entry c.in-Ok.ensures.placed (omega (arith, c.if-entry-lt-LEAST_BOX.false)) j below)

pub returns-in-Err-check_box-clause-cause : goal.returns-in-Err-check_box-clause-cause
returns-in-Err-check_box-clause-cause g c =
    subst (IsLookCaused (g.M.Media.size c.args.media.now) (change g.M.Media.state c.args.media.now c.check_box.new.media)) (sym c.box_fault.ensures)
    (box_caused (g.M.Media.size c.args.media.now) (change g.M.Media.state c.args.media.now c.check_box.new.media) (g.M.Media.state c.find_file.new.media).faults (file_line c.in-Ok.entry)
    (capacity_of c.in-Ok.entry.size)
    (g.M.Media.state c.find_file.new.media).image c.in-Err-check_box.fault c.find_file.ensures.steady.later
    (lines_within (g.M.Media.size c.args.media.now) c.in-Ok.entry c.in-Ok.ensures.placed (omega (arith, c.if-entry-lt-LEAST_BOX.false)))
    c.in-Err-check_box.ensures.cause c.in-Err-check_box.ensures.line)

pub returns-then-entry-lt-LEAST_BOX-clause-fault : goal.returns-then-entry-lt-LEAST_BOX-clause-fault
returns-then-entry-lt-LEAST_BOX-clause-fault g c = λ image is. record {
  entry = c.in-Ok.entry;
  file = c.in-Ok.ensures.found image is;
  size_is = refl;
  small = omega (arith, c.if-entry-lt-LEAST_BOX.true);
}

pub returns-in-Err-check_box-clause-fault : goal.returns-in-Err-check_box-clause-fault
returns-in-Err-check_box-clause-fault g c = λ image is.
    subst (IsSo c.args.path.now image) (sym c.box_fault.ensures)
    (box_so c.args.path.now image (g.M.Media.state c.find_file.new.media).image c.in-Ok.entry c.in-Err-check_box.fault (c.find_file.ensures.same ∙ is)
    (c.in-Ok.ensures.found image is) (omega (arith, c.if-entry-lt-LEAST_BOX.false)) c.in-Err-check_box.ensures.wrong c.in-Err-check_box.ensures.line)

pub returns-in-Err-check_box-clause-counted : goal.returns-in-Err-check_box-clause-counted
returns-in-Err-check_box-clause-counted g c = λ exact.
    subst (IsLookCounted (g.M.Media.state c.args.media.now).faults (g.M.Media.state c.check_box.new.media).faults) (sym c.box_fault.ensures)
    (box_counted (g.M.Media.state c.args.media.now).faults (g.M.Media.state c.find_file.new.media).faults (g.M.Media.state c.check_box.new.media).faults c.in-Err-check_box.fault
    (c.in-Ok.ensures.quiet exact) (c.in-Err-check_box.ensures.counted exact))
