use Rattle.std.proofs.Common.{◌∙◌, sym, refl, length, arith}
use Rattle.std.proofs.lemmas.List.{length-map}
use Rattle.std.proofs.lemmas.Option.{slice_get_read}
use Rattle.fam_mail.specs.World.{mail_host, is_writer, mail_hosts}
use Rattle.fam_mail.proofs.Members.{map_at, place_here, place_next, place_past}
use Rattle.fam_mail.proofs.hosts.writer.Goals as goal

pub returns-then-is_writer-clause-is : goal.returns-then-is_writer-clause-is
returns-then-is_writer-clause-is c =
    let items = c.args.hosts.now.items in
    let at_is = slice_get_read items (length items) c.loop-at.at c.index.result.now refl (omega (arith, c.loop-at-test.true, c.len-at-end.ensures)) c.index.ensures in
    sym (place_here is_writer (mail_hosts items) c.loop-at.at c.loop-at.at _ (map_at mail_host items c.loop-at.at c.index.result.now at_is) (sym c.is_writer.ensures ∙ c.if-is_writer.true))
    ∙ c.loop-at.invariant

pub loop-at-preserved : goal.loop-at-preserved
loop-at-preserved c =
    let items = c.args.hosts.now.items in
    let at_is = slice_get_read items (length items) c.loop-at.at c.index.result.now refl (omega (arith, c.loop-at-test.true, c.len-at-end.ensures)) c.index.ensures in
    sym (place_next is_writer (mail_hosts items) c.loop-at.at c.loop-at.at _ (map_at mail_host items c.loop-at.at c.index.result.now at_is) (sym c.is_writer.ensures ∙ c.if-is_writer.false))
    ∙ c.loop-at.invariant

pub returns-clause-is : goal.returns-clause-is
returns-clause-is c =
    let items = c.args.hosts.now.items in
    sym (place_past is_writer (mail_hosts items) c.loop-at.at c.loop-at.at (omega (arith, c.loop-at-test.false, c.len-at-end.ensures, length-map items mail_host)))
    ∙ c.loop-at.invariant
