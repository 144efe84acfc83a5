use Rattle.std.proofs.Common.{◌∙◌, List, ℕ, Option, Some, ap, option_map, refl, subst, sym}
use Rattle.fam_machine.specs.declared.request.MkfsRequest.{MkfsRequest}
use Rattle.fam_media.specs.States.{change}
use Rattle.fam_program.specs.Dups.{CopyOutside, DupTop, copy_asked, copy_outside}
use Rattle.fam_program.proofs.Commands.Dups.{copy_wants, no_copy}
use Rattle.fam_words.specs.declared.wanted.DupCall.{DupCall}
use Rattle.fam_top.specs.Words.{asked_copy, dup_request}
use Rattle.fam_top.proofs.dups.famfs_dup.Goals as goal

-- a copy was asked for
pub returns-in-Ok-Some-clause-ends : goal.returns-in-Ok-Some-clause-ends
returns-in-Ok-Some-clause-ends g c =
    let out : CopyOutside = copy_outside (g.M.Media.size c.args.from.now) (g.N.Media.size c.args.to.now) g.M.Media.exact g.N.Media.exact
    (change g.M.Media.state c.args.from.now c.copy_file_system.new.from) (change g.N.Media.state c.args.to.now c.copy_file_system.new.to)
    (change g.K.Sink.state c.args.out.now c.copy_file_system.new.out) in
    subst (λ (o : Option DupCall). DupTop (option_map (asked_copy c.args.me c.args.random) o) out c.copy_file_system.result) (sym (sym c.in-Ok-Some.ensures.value ∙ c.in-Ok-Some.field-0-is))
    (subst (λ (host : List ℕ). DupTop (Some (copy_asked host (dup_request c.args.random c.in-Ok-Some.call))) out c.copy_file_system.result) c.host_or.ensures
    (subst (λ (request : MkfsRequest). DupTop (Some (copy_asked c.host_or.result request)) out c.copy_file_system.result) c.request_of-request.ensures c.copy_file_system.ensures.ends))

-- the words ask for no copy
pub returns-in-Ok-None-clause-ends : goal.returns-in-Ok-None-clause-ends
returns-in-Ok-None-clause-ends g c =
    let out : CopyOutside = copy_outside (g.M.Media.size c.args.from.now) (g.N.Media.size c.args.to.now) g.M.Media.exact g.N.Media.exact
    (change g.M.Media.state c.args.from.now c.args.from.now) (change g.N.Media.state c.args.to.now c.args.to.now)
    (change g.K.Sink.state c.args.out.now c.put_usage.new.out) in
    no_copy _ out c.put_usage.result refl refl c.put_usage.ensures.later
    (ap (option_map (asked_copy c.args.me c.args.random)) (sym c.in-Ok-None.ensures.value ∙ c.in-Ok-None.field-0-is)) c.put_usage.ensures.put

-- no memory was left for the words
pub returns-in-Err-clause-ends : goal.returns-in-Err-clause-ends
returns-in-Err-clause-ends g c =
    let out : CopyOutside = copy_outside (g.M.Media.size c.args.from.now) (g.N.Media.size c.args.to.now) g.M.Media.exact g.N.Media.exact
    (change g.M.Media.state c.args.from.now c.args.from.now) (change g.N.Media.state c.args.to.now c.args.to.now)
    (change g.K.Sink.state c.args.out.now c.put_memory.new.out) in
    copy_wants _ out c.put_memory.result refl refl c.put_memory.ensures.later c.put_memory.ensures.put
