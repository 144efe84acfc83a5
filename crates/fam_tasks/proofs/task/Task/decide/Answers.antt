use Rattle.std.proofs.Common.{ℕ, None, Ok, refl, sym, subst, ◌∙◌}
use Rattle.fam_commands.specs.Classes.{IsRead, IsVerify}
use Rattle.fam_tasks.proofs.Deciding.{append_keeps, append_leaves, class_leaves, decision_keeps, decision_leaves, decision_told, decision_wants}
use Rattle.fam_tasks.proofs.Keeping.{done_so, keeps_other, read_other, verify_other}
use Rattle.fam_tasks.proofs.task.Task.decide.Goals as goal

pub returns-in-Verify-clause-kept : goal.returns-in-Verify-clause-kept
returns-in-Verify-clause-kept c =
    let is : IsVerify c.args.self.now.cmd = subst IsVerify (sym (sym c.command.ensures ∙ c.in-Verify.is)) tt in
    done_so c.verify.result (c.verify.ensures.kept ∙ sym (keeps_other c.args.self.now None (verify_other c.args.self.now.cmd is)))

pub returns-in-Read-clause-kept : goal.returns-in-Read-clause-kept
returns-in-Read-clause-kept c =
    let is : IsRead c.args.self.now.cmd = subst IsRead (sym (sym c.command.ensures ∙ c.in-Read.is)) tt in
    done_so c.read.result (c.read.ensures.kept ∙ sym (keeps_other c.args.self.now None (read_other c.args.self.now.cmd is)))

pub returns-in-Logplay-clause-turn : goal.returns-in-Logplay-clause-turn
returns-in-Logplay-clause-turn c =
    decision_told c.play.result c.args.self.now c.play.new.self _ c.requires (sym c.command.ensures ∙ c.in-Logplay.is) c.play.ensures.turn

pub returns-in-Logplay-clause-want : goal.returns-in-Logplay-clause-want
returns-in-Logplay-clause-want c =
    decision_wants c.play.result c.args.self.now _ c.requires (sym c.command.ensures ∙ c.in-Logplay.is) c.play.ensures.want

pub returns-in-Logplay-clause-kept : goal.returns-in-Logplay-clause-kept
returns-in-Logplay-clause-kept c =
    decision_keeps c.play.result c.args.self.now c.play.new.self _ c.requires (sym c.command.ensures ∙ c.in-Logplay.is) c.play.ensures.kept

pub returns-in-Mkdir-clause-turn : goal.returns-in-Mkdir-clause-turn
returns-in-Mkdir-clause-turn c =
    decision_told c.append.result c.args.self.now c.append.new.self _ c.requires (sym c.command.ensures ∙ c.in-Mkdir.is) c.append.ensures.turn

pub returns-in-Mkdir-clause-want : goal.returns-in-Mkdir-clause-want
returns-in-Mkdir-clause-want c =
    decision_wants c.append.result c.args.self.now _ c.requires (sym c.command.ensures ∙ c.in-Mkdir.is) c.append.ensures.want

pub returns-in-Mkdir-clause-kept : goal.returns-in-Mkdir-clause-kept
returns-in-Mkdir-clause-kept c =
    append_keeps c.append.result c.args.self.now c.append.new.self _ (sym c.command.ensures ∙ c.in-Mkdir.is) refl c.append.ensures.kept

pub returns-in-Creat-clause-turn : goal.returns-in-Creat-clause-turn
returns-in-Creat-clause-turn c =
    decision_told c.append-in-Creat.result c.args.self.now c.append-in-Creat.new.self _ c.requires (sym c.command.ensures ∙ c.in-Creat.is) c.append-in-Creat.ensures.turn

pub returns-in-Creat-clause-want : goal.returns-in-Creat-clause-want
returns-in-Creat-clause-want c =
    decision_wants c.append-in-Creat.result c.args.self.now _ c.requires (sym c.command.ensures ∙ c.in-Creat.is) c.append-in-Creat.ensures.want

pub returns-in-Creat-clause-kept : goal.returns-in-Creat-clause-kept
returns-in-Creat-clause-kept c =
    append_keeps c.append-in-Creat.result c.args.self.now c.append-in-Creat.new.self _ (sym c.command.ensures ∙ c.in-Creat.is) refl c.append-in-Creat.ensures.kept

pub returns-in-Cp-clause-turn : goal.returns-in-Cp-clause-turn
returns-in-Cp-clause-turn c =
    decision_told c.append-in-Cp.result c.args.self.now c.append-in-Cp.new.self _ c.requires (sym c.command.ensures ∙ c.in-Cp.is) c.append-in-Cp.ensures.turn

pub returns-in-Cp-clause-want : goal.returns-in-Cp-clause-want
returns-in-Cp-clause-want c =
    decision_wants c.append-in-Cp.result c.args.self.now _ c.requires (sym c.command.ensures ∙ c.in-Cp.is) c.append-in-Cp.ensures.want

pub returns-in-Cp-clause-kept : goal.returns-in-Cp-clause-kept
returns-in-Cp-clause-kept c =
    append_keeps c.append-in-Cp.result c.args.self.now c.append-in-Cp.new.self _ (sym c.command.ensures ∙ c.in-Cp.is) refl c.append-in-Cp.ensures.kept

pub returns-in-Verify-clause-turn : goal.returns-in-Verify-clause-turn
returns-in-Verify-clause-turn c =
    decision_told c.verify.result c.args.self.now c.verify.new.self _ c.requires refl c.verify.ensures.turn

pub returns-in-Verify-clause-want : goal.returns-in-Verify-clause-want
returns-in-Verify-clause-want c =
    decision_wants c.verify.result c.args.self.now _ c.requires refl c.verify.ensures.want

pub returns-in-Read-clause-turn : goal.returns-in-Read-clause-turn
returns-in-Read-clause-turn c =
    decision_told c.read.result c.args.self.now c.read.new.self _ c.requires refl c.read.ensures.turn

pub returns-in-Read-clause-want : goal.returns-in-Read-clause-want
returns-in-Read-clause-want c =
    decision_wants c.read.result c.args.self.now _ c.requires refl c.read.ensures.want

pub returns-in-Check-clause-turn : goal.returns-in-Check-clause-turn
returns-in-Check-clause-turn c =
    decision_told c.check.result c.args.self.now c.check.new.self _ c.requires refl c.check.ensures.turn

pub returns-in-Check-clause-want : goal.returns-in-Check-clause-want
returns-in-Check-clause-want c =
    decision_wants c.check.result c.args.self.now _ c.requires refl c.check.ensures.want

pub returns-in-Check-clause-kept : goal.returns-in-Check-clause-kept
returns-in-Check-clause-kept c =
    decision_keeps c.check.result c.args.self.now c.check.new.self _ c.requires (sym c.command.ensures ∙ c.in-Check.is) (done_so c.check.result c.check.ensures.kept)

pub returns-in-Fsck-clause-turn : goal.returns-in-Fsck-clause-turn
returns-in-Fsck-clause-turn c =
    decision_told c.report.result c.args.self.now c.report.new.self _ c.requires (sym c.command.ensures ∙ c.in-Fsck.is) c.report.ensures.turn

pub returns-in-Fsck-clause-want : goal.returns-in-Fsck-clause-want
returns-in-Fsck-clause-want c =
    decision_wants c.report.result c.args.self.now _ c.requires (sym c.command.ensures ∙ c.in-Fsck.is) c.report.ensures.want

pub returns-in-Fsck-clause-kept : goal.returns-in-Fsck-clause-kept
returns-in-Fsck-clause-kept c =
    decision_keeps c.report.result c.args.self.now c.report.new.self _ c.requires (sym c.command.ensures ∙ c.in-Fsck.is) (done_so c.report.result c.report.ensures.kept)

pub returns-in-Mount-clause-turn : goal.returns-in-Mount-clause-turn
returns-in-Mount-clause-turn c =
    decision_told {E = ℕ} (Ok c.mount.result) c.args.self.now c.mount.new.self _ c.requires (sym c.command.ensures ∙ c.in-Mount.is) c.mount.ensures.turn

pub returns-in-Mount-clause-kept : goal.returns-in-Mount-clause-kept
returns-in-Mount-clause-kept c =
    decision_keeps {E = ℕ} (Ok c.mount.result) c.args.self.now c.mount.new.self _ c.requires (sym c.command.ensures ∙ c.in-Mount.is) c.mount.ensures.kept

pub returns-in-Logplay-clause-left : goal.returns-in-Logplay-clause-left
returns-in-Logplay-clause-left c =
    decision_leaves c.play.result c.args.self.now c.play.new.self _ c.requires (sym c.command.ensures ∙ c.in-Logplay.is) c.play.ensures.left

pub returns-in-Mount-clause-left : goal.returns-in-Mount-clause-left
returns-in-Mount-clause-left c =
    decision_leaves {E = ℕ} (Ok c.mount.result) c.args.self.now c.mount.new.self _ c.requires (sym c.command.ensures ∙ c.in-Mount.is) tt

pub returns-in-Mkdir-clause-left : goal.returns-in-Mkdir-clause-left
returns-in-Mkdir-clause-left c =
    append_leaves c.append.result c.args.self.now c.append.new.self _ (sym c.command.ensures ∙ c.in-Mkdir.is) refl

pub returns-in-Creat-clause-left : goal.returns-in-Creat-clause-left
returns-in-Creat-clause-left c =
    append_leaves c.append-in-Creat.result c.args.self.now c.append-in-Creat.new.self _ (sym c.command.ensures ∙ c.in-Creat.is) refl

pub returns-in-Cp-clause-left : goal.returns-in-Cp-clause-left
returns-in-Cp-clause-left c =
    append_leaves c.append-in-Cp.result c.args.self.now c.append-in-Cp.new.self _ (sym c.command.ensures ∙ c.in-Cp.is) refl

pub returns-in-Verify-clause-left : goal.returns-in-Verify-clause-left
returns-in-Verify-clause-left c =
    let is : IsVerify c.args.self.now.cmd = subst IsVerify (sym (sym c.command.ensures ∙ c.in-Verify.is)) tt in
    class_leaves c.verify.result c.args.self.now c.verify.new.self (verify_other c.args.self.now.cmd is)

pub returns-in-Read-clause-left : goal.returns-in-Read-clause-left
returns-in-Read-clause-left c =
    let is : IsRead c.args.self.now.cmd = subst IsRead (sym (sym c.command.ensures ∙ c.in-Read.is)) tt in
    class_leaves c.read.result c.args.self.now c.read.new.self (read_other c.args.self.now.cmd is)

pub returns-in-Check-clause-left : goal.returns-in-Check-clause-left
returns-in-Check-clause-left c =
    decision_leaves c.check.result c.args.self.now c.check.new.self _ c.requires (sym c.command.ensures ∙ c.in-Check.is) (done_so c.check.result tt)

pub returns-in-Fsck-clause-left : goal.returns-in-Fsck-clause-left
returns-in-Fsck-clause-left c =
    decision_leaves c.report.result c.args.self.now c.report.new.self _ c.requires (sym c.command.ensures ∙ c.in-Fsck.is) (done_so c.report.result tt)
