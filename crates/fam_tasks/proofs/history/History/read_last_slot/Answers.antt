use Rattle.std.proofs.Common.{Option, sym, subst, ◌∙◌, arith}
use Rattle.fam_format.specs.declared.faults.Reason.{Reason}
use Rattle.fam_replay.specs.Replay.{entries_in, ReadsNext}
use Rattle.fam_replay.specs.Replica.{FindsNext, ReplicaState}
use Rattle.fam_tasks.proofs.LastSlot.{found_all, joins_next, one_more, read_again}
use Rattle.fam_tasks.proofs.history.History.read_last_slot.Goals as goal

pub lay_out-requires-clause-all : goal.lay_out-requires-clause-all
lay_out-requires-clause-all c =
    let old = c.args.self.now.replay in
    let new = c.read_slot.new.self.replay in
    let words = c.args.words.now in
    let found : FindsNext c.args.params.now words (entries_in old) (entries_in new) =
    subst (λ (r : Option Reason). ReadsNext r c.args.params.now words (entries_in old) (entries_in new)) c.in-None.is c.in_ok-reason.ensures.reads in
    found_all c.args.params.now c.args.gate words old new c.in_ok-reason.ensures.fits found c.requires.left c.requires.last

pub lay_out-requires-clause-within : goal.lay_out-requires-clause-within
lay_out-requires-clause-within c =
    let old = c.args.self.now.replay in
    let new = c.read_slot.new.self.replay in
    let words = c.args.words.now in
    let found : FindsNext c.args.params.now words (entries_in old) (entries_in new) =
    subst (λ (r : Option Reason). ReadsNext r c.args.params.now words (entries_in old) (entries_in new)) c.in-None.is c.in_ok-reason.ensures.reads in
    omega (arith, c.count-found.ensures, one_more c.args.params.now c.args.gate words old new c.in_ok-reason.ensures.fits found)

pub returns-in-Ok-clause-reads : goal.returns-in-Ok-clause-reads
returns-in-Ok-clause-reads c =
    let old = c.args.self.now.replay in
    let new = c.read_slot.new.self.replay in
    let words = c.args.words.now in
    let found : FindsNext c.args.params.now words (entries_in old) (entries_in new) =
    subst (λ (r : Option Reason). ReadsNext r c.args.params.now words (entries_in old) (entries_in new)) c.in-None.is c.in_ok-reason.ensures.reads in
    subst (λ (r : Option ReplicaState). FindsNext c.args.params.now words (entries_in old) (entries_in r)) (sym c.in-Ok.ensures.same) found

pub returns-in-Err-clause-err : goal.returns-in-Err-clause-err
returns-in-Err-clause-err c =
    let old = c.args.self.now.replay in
    let new = c.read_slot.new.self.replay in
    let words = c.args.words.now in
    let found : FindsNext c.args.params.now words (entries_in old) (entries_in new) =
    subst (λ (r : Option Reason). ReadsNext r c.args.params.now words (entries_in old) (entries_in new)) c.in-None.is c.in_ok-reason.ensures.reads in
    c.in-Err.ensures.err ∙ read_again c.args.params.now c.args.gate words old new c.in_ok-reason.ensures.fits found c.count-found.result c.count-found.ensures

pub returns-in-Err-clause-want : goal.returns-in-Err-clause-want
returns-in-Err-clause-want c =
    let old = c.args.self.now.replay in
    let new = c.read_slot.new.self.replay in
    let words = c.args.words.now in
    let found : FindsNext c.args.params.now words (entries_in old) (entries_in new) =
    subst (λ (r : Option Reason). ReadsNext r c.args.params.now words (entries_in old) (entries_in new)) c.in-None.is c.in_ok-reason.ensures.reads in
    joins_next c.args.params.now c.args.gate words old new c.in_ok-reason.ensures.fits found

pub returns-in-Some-clause-reads : goal.returns-in-Some-clause-reads
returns-in-Some-clause-reads c =
    subst (λ (r : Option Reason). ReadsNext r c.args.params.now c.args.words.now (entries_in c.args.self.now.replay) (entries_in c.read_slot.new.self.replay))
    c.in-Some.is c.in_ok-reason.ensures.reads

pub returns-in-Err-clause-fits : goal.returns-in-Err-clause-fits
returns-in-Err-clause-fits c = c.in-Err.ensures.fits c.args.params.now c.args.gate c.in_ok-reason.ensures.fits
