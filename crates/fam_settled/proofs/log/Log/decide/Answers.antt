use Rattle.std.proofs.Common.{List, ap, sym, ◌∙◌}
use Rattle.fam_base.specs.declared.entry.Entry.{Entry}
use Rattle.fam_rules.specs.Decide.{decide}
use Rattle.fam_settled.specs.Settled.{plan_of}
use Rattle.fam_settled.specs.Told.{bare_cmd}
use Rattle.fam_settled.proofs.Files.{entries_of-files_of}
use Rattle.fam_settled.proofs.log.Log.decide.Goals as goal

pub returns-clause-value : goal.returns-clause-value
returns-clause-value c =
    let s = c.args.self.now in
    c.decided.ensures ∙ ap (λ (list : List Entry). decide s.params c.args.me list (bare_cmd c.args.cmd.now)) (sym (entries_of-files_of s.entries s.bytes))

pub returns-clause-may : goal.returns-clause-may
returns-clause-may c w e wished sound is =
    c.a_decided_entry_may_be_added.ensures (plan_of c.args.self.now) c.args.me (bare_cmd c.args.cmd.now) w e c.is_settled.ensures.history wished sound (sym c.decided.ensures ∙ is)
