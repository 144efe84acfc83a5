use Rattle.std.proofs.Common.{◌≡◌, Some, Ok, sym, ap, ◌∙◌, length, arith}
use Rattle.std.specs.Prelude.{is_some}
use Rattle.fam_rules.specs.Asks.{entries_of}
use Rattle.fam_rules.specs.Decide.{decide}
use Rattle.fam_settled.specs.Settled.{settled_files, settled_log_state}
use Rattle.fam_settled.specs.Told.{bare_cmd}
use Rattle.fam_judging.proofs.Named.{allowed_decided, decided_wished, names_none, names_one, not_some}
use Rattle.fam_judging.proofs.naming.name_log.Goals as goal

pub returns-then-n-count : goal.returns-then-n-count
returns-then-n-count c host cmd_is me_is =
    let s = c.args.log.now in
    names_none c.args.n c.args.me c.args.cmd.now c.requires.told host cmd_is me_is s (settled_log_state s)
    (λ e w. let d = (allowed_decided c.args.n c.args.me c.args.cmd.now c.requires.told host cmd_is me_is s e w).0 in c.if-n-count.true (d ∙ sym c.count.ensures))

pub pend-requires : goal.pend-requires
pend-requires c =
    let s = c.args.log.now in
    let v = c.decide.ensures.value in
    let i = c.in-Some-Ok.is in
    let f = c.in-Some-Ok.field-0-is in
    let is : decide s.params c.args.me (entries_of (settled_files s)) (bare_cmd c.args.cmd.now) ≡ Some (Ok c.in-Some-Ok.entry) = cc in
    let w = decided_wished s.params c.args.me (entries_of (settled_files s)) c.args.cmd.now c.in-Some-Ok.entry c.is_settled.ensures.history.params c.requires.told is in
    c.decide.ensures.may w.wish c.in-Some-Ok.entry w.wished (c.requires.told.sound w.wish w.wished) (v ∙ is)

pub returns-in-Some-Ok : goal.returns-in-Some-Ok
returns-in-Some-Ok c host cmd_is me_is =
    let s = c.args.log.now in
    let v = c.decide.ensures.value in
    let i = c.in-Some-Ok.is in
    let f = c.in-Some-Ok.field-0-is in
    let is : decide s.params c.args.me (entries_of (settled_files s)) (bare_cmd c.args.cmd.now) ≡ Some (Ok c.in-Some-Ok.entry) = cc in
    let count : c.args.n ≡ length s.entries = omega (arith, c.if-n-count.false, c.count.ensures) in
    names_one c.args.n c.args.me c.args.cmd.now c.requires.told host cmd_is me_is s (settled_log_state c.pend.new.self) c.in-Some-Ok.entry c.bytes_told.result
    c.is_settled.ensures count (not_some s.pending (c.if-is_some.ensures ∙ ap is_some c.pending.ensures)) is c.bytes_told.ensures c.pend.ensures
