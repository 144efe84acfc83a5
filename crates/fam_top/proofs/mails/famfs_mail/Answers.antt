use Rattle.std.proofs.Common.{◌∙◌, List, ℕ, Option, arith, refl, subst, sym}
use Rattle.fam_media.specs.States.{change}
use Rattle.fam_mailbox.specs.Mails.{MailTop}
use Rattle.fam_outcomes.specs.Runs.{NoneFalls, Outside}
use Rattle.fam_program.specs.Runs.{outside_of}
use Rattle.fam_words.specs.declared.wanted.MailCall.{MailCall}
use Rattle.fam_top.specs.Mails.{MailEnds}
use Rattle.fam_top.proofs.MailEndings.{mail_wants, no_mail}
use Rattle.fam_top.proofs.mails.famfs_mail.Goals as goal

-- the script was asked for
pub returns-in-Ok-Some-clause-ends : goal.returns-in-Ok-Some-clause-ends
returns-in-Ok-Some-clause-ends g c =
    let out : Outside = outside_of g.M.Media.size g.M.Media.state c.args.media.now c.run_mail_file.new.media
    (change g.S.Shelf.state c.args.shelf.now c.run_mail_file.new.shelf) (change g.K.Sink.state c.args.out.now c.run_mail_file.new.out) in
    subst (λ (o : Option MailCall). MailEnds g.M.Media.exact o out c.run_mail_file.result) (sym (sym c.in-Ok-Some.ensures ∙ c.in-Ok-Some.field-0-is))
    (subst (λ (name : List ℕ). MailTop g.M.Media.exact name c.in-Ok-Some.call.path out c.run_mail_file.result) c.text.ensures c.run_mail_file.ensures.ends)

-- the words ask for none
pub returns-in-Ok-None-clause-ends : goal.returns-in-Ok-None-clause-ends
returns-in-Ok-None-clause-ends g c =
    let out : Outside = outside_of g.M.Media.size g.M.Media.state c.args.media.now c.args.media.now
    (change g.S.Shelf.state c.args.shelf.now c.args.shelf.now) (change g.K.Sink.state c.args.out.now c.put_usage.new.out) in
    let later : NoneFalls out = record { media = omega arith; shelf = omega arith; shorts = omega arith; sink = c.put_usage.ensures.later } in
    no_mail g.M.Media.exact out c.put_usage.result refl later _ (sym c.in-Ok-None.ensures ∙ c.in-Ok-None.field-0-is) c.put_usage.ensures.put

-- no memory was left for the words
pub returns-in-Err-clause-ends : goal.returns-in-Err-clause-ends
returns-in-Err-clause-ends g c =
    let out : Outside = outside_of g.M.Media.size g.M.Media.state c.args.media.now c.args.media.now
    (change g.S.Shelf.state c.args.shelf.now c.args.shelf.now) (change g.K.Sink.state c.args.out.now c.put_memory.new.out) in
    let later : NoneFalls out = record { media = omega arith; shelf = omega arith; shorts = omega arith; sink = c.put_memory.ensures.later } in
    mail_wants g.M.Media.exact out c.put_memory.result refl later _ c.put_memory.ensures.put
