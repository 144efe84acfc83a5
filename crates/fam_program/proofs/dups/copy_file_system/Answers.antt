use Rattle.std.proofs.Common.{◌∙◌, Some, ap, refl, sym}
use Rattle.fam_machine.specs.Mkfs.{asked}
use Rattle.fam_media.specs.States.{change}
use Rattle.fam_program.specs.Dups.{CopyOutside, copy_asked, copy_outside}
use Rattle.fam_program.proofs.Commands.Dups.{are_asked, bad_sizes, copy_tried}
use Rattle.fam_program.proofs.dups.copy_file_system.Goals as goal

-- a unit or a log of a bad size
pub returns-then-not-is_geometry-clause-ends : goal.returns-then-not-is_geometry-clause-ends
returns-then-not-is_geometry-clause-ends g c =
    let out : CopyOutside = copy_outside (g.M.Media.size c.args.from.now) (g.N.Media.size c.args.to.now) g.M.Media.exact g.N.Media.exact
    (change g.M.Media.state c.args.from.now c.args.from.now) (change g.N.Media.state c.args.to.now c.args.to.now)
    (change g.K.Sink.state c.args.out.now c.put_refusal.new.out) in
    bad_sizes (Some (copy_asked c.args.me c.args.request)) out c.put_refusal.result refl refl c.put_refusal.ensures.later c.args.request.unit c.args.request.log
    record { copy = copy_asked c.args.me c.args.request; is = refl; unit_is = refl; log_is = refl; bad = sym c.is_geometry.ensures ∙ c.if-not-is_geometry.true } c.put_refusal.ensures.put

pub dup-ended-requires : goal.dup-ended-requires
dup-ended-requires g c =
    record {
      asked = are_asked c.args.request c.args.me c.lines.result (g.N.Media.size c.args.to.now) c.asked-params.result c.asked-params.ensures
          c.lines.ensures.count c.requires (sym c.is_geometry.ensures ∙ c.if-not-is_geometry.false);
    }

pub returns-clause-ends : goal.returns-clause-ends
returns-clause-ends g c =
    let out : CopyOutside = copy_outside (g.M.Media.size c.args.from.now) (g.N.Media.size c.args.to.now) g.M.Media.exact g.N.Media.exact
    (change g.M.Media.state c.args.from.now c.dup-ended.new.from) (change g.N.Media.state c.args.to.now c.dup-ended.new.to)
    (change g.K.Sink.state c.args.out.now c.put_dup.new.out) in
    copy_tried (copy_asked c.args.me c.args.request) out c.put_dup.result (sym c.is_geometry.ensures ∙ c.if-not-is_geometry.false)
    c.asked-params.result (c.asked-params.ensures ∙ ap (asked c.args.request c.args.me) c.lines.ensures.count)
    c.dup-ended.result c.dup-ended.ensures.ends c.dup-ended.ensures.cause c.dup-ended.ensures.line
    record {
      asked = c.dup-ended.ensures.asked;
      quiet_from = c.dup-ended.ensures.quiet_from;
      quiet_to = c.dup-ended.ensures.quiet_to;
      counted_from = c.dup-ended.ensures.counted_from;
      counted_to = c.dup-ended.ensures.counted_to;
    }
    c.put_dup.ensures.put c.dup-ended.ensures.same c.dup-ended.ensures.steady_from.later c.dup-ended.ensures.steady_to.later c.put_dup.ensures.later
