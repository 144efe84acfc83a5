use Rattle.std.proofs.Common.{◌*◌, sym, subst, ◌∙◌, arith}
use Rattle.fam_base.specs.Image.{line_at}
use Rattle.fam_format.specs.Reading as read
use Rattle.fam_format.specs.Reading.{super_in}
use Rattle.fam_judging.specs.Candidates.{IsGivenImage}
use Rattle.fam_judging.specs.declared.given.GivenImage.{GivenImage}
use Rattle.fam_rules.specs.Place.{line_bytes}
use Rattle.fam_opening.proofs.Damaged.{log_told, other_super, reading_sized, slot_told, state_sound, super_told}
use Rattle.fam_opening.proofs.opened.open_behind.Goals as goal
use Rattle.fam_opening.proofs.opened.open_behind.Goals.{in-Superblock+in_ok-given-in-Superblock, in-Header+in_ok-given-in-Header, in-Slot+in_ok-given-in-Slot}

pub returns-in-Ok-clause-opened : goal.returns-in-Ok-clause-opened
returns-in-Ok-clause-opened g c = λ image told.
    let p = c.args.params.now in
    let size = g.M.Media.size c.args.media.now in
    let count = g.met.M.Media.modelled c.args.media.now image told in
    let e = c.in-Ok.ensures in
    let plan = c.in-Ok.plan in
    let reads = reading_sized image size p (read.Sound plan.params plan.entries) count (c.requires.superblock image told) (e.told image told) in
    c.in_ok-hold_all-in-Ok.ensures.log image (e.same ∙ told)
    ∙ sym (state_sound image plan.params plan.entries (omega (arith, count, c.requires.within)) reads)

pub open_without_superblock-requires : goal.open_without_superblock-requires
open_without_superblock-requires g c = record {
  superblock = λ image told.
      let e = c.in-Err.ensures in
      let fault = c.in-Superblock.fault in
      other_super image c.args.params.now fault (super_in (line_at image) (line_bytes * g.M.Media.size c.read_behind.new.media))
      (super_told c.in-Err.fault fault _ c.in-Superblock.ensures (e.fault image (sym e.same ∙ told)));
}

pub open_with_header-requires-clause-header : goal.open_with_header-requires-clause-header
open_with_header-requires-clause-header g c = λ image told.
    let e = c.in-Err.ensures in
    let fault = c.in-Header.fault in
    let first = sym e.same ∙ told in
    reading_sized image (g.M.Media.size c.args.media.now) c.args.params.now (read.BadHeader fault) (g.met.M.Media.modelled c.args.media.now image first)
    (c.requires.superblock image first) (log_told c.in-Err.fault fault _ c.in-Header.ensures (e.fault image first))

pub open_with_slot-requires-clause-slot : goal.open_with_slot-requires-clause-slot
open_with_slot-requires-clause-slot g c = λ image told.
    let e = c.in-Err.ensures in
    let s = c.in-Slot in
    let first = sym e.same ∙ told in
    reading_sized image (g.M.Media.size c.args.media.now) c.args.params.now (read.BadSlot s.seq s.reason) (g.met.M.Media.modelled c.args.media.now image first)
    (c.requires.superblock image first) (slot_told c.in-Err.fault s.seq s.reason _ s.ensures (e.fault image first))

pub returns-clause-opened : goal.returns-clause-opened
returns-clause-opened g c = λ image told.
    let given = c.match-found_by.given in
    let same = c.in-Err.ensures.same in
    elim c.match-found_by.branch [
      | in-Superblock+in_ok-given-in-Superblock w ↦
          subst (λ (o : GivenImage). IsGivenImage image o) (sym w.given-is) (w.in_ok-given-in-Superblock.ensures.given image (same ∙ told))
      | in-Header+in_ok-given-in-Header w ↦ subst (λ (o : GivenImage). IsGivenImage image o) (sym w.given-is) (w.in_ok-given-in-Header.ensures.given image (same ∙ told))
      | in-Slot+in_ok-given-in-Slot w ↦ subst (λ (o : GivenImage). IsGivenImage image o) (sym w.given-is) (w.in_ok-given-in-Slot.ensures.given image (same ∙ told))
    ]
