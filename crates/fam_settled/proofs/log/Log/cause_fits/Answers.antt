use Rattle.std.proofs.Common.{◌↔◌, IsTrue, subst, sym}
use Rattle.fam_journal.specs.Legal.{CauseAllowed}
use Rattle.fam_rules.specs.declared.answers.Refused.{Refused}
use Rattle.fam_settled.specs.Settled.{settled_log_state}
use Rattle.fam_settled.specs.Told.{bare_cmd}
use Rattle.fam_settled.proofs.Appends.{cause_long}
use Rattle.fam_settled.proofs.log.Log.cause_fits.Goals as goal

pub returns-in-NotMaster : goal.returns-in-NotMaster
returns-in-NotMaster c host uuid told =
    subst (λ (w : Refused). IsTrue c.is_other.result ↔ CauseAllowed w host (settled_log_state c.args.self.now)) (sym c.in-NotMaster.is) (c.is_other.ensures host uuid)

pub returns-in-LongPath : goal.returns-in-LongPath
returns-in-LongPath c host uuid told =
    cause_long c.args.self.now host c.args.me (bare_cmd c.args.asked.now) uuid told c.in-LongPath.field-0 c.args.why.now c.refuses_so.result c.in-LongPath.is c.refuses_so.ensures
