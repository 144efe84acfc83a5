use Rattle.std.proofs.Common.{subst, sym}
use Rattle.fam_grammar.specs.declared.keywords.CommandWord.{CommandWord}
use Rattle.fam_grammar.specs.Cursor.{Tells, words_left}
use Rattle.fam_grammar.specs.Lines.{ask_behind}
use Rattle.fam_grammar.proofs.commands.ask_behind.Goals as goal

pub returns-in-Logplay-clause-value : goal.returns-in-Logplay-clause-value
returns-in-Logplay-clause-value c =
    subst (λ (w : CommandWord). Tells c.args.line (words_left c.ended.new.self) c.ended.result (ask_behind c.args.line.end w (words_left c.args.words.now))) (sym c.in-Logplay.is) c.ended.ensures.value

pub returns-in-Logplay-clause-short : goal.returns-in-Logplay-clause-short
returns-in-Logplay-clause-short c = c.ended.ensures.short

pub returns-in-Mount-clause-value : goal.returns-in-Mount-clause-value
returns-in-Mount-clause-value c =
    subst (λ (w : CommandWord). Tells c.args.line (words_left c.ended-in-Mount.new.self) c.ended-in-Mount.result
    (ask_behind c.args.line.end w (words_left c.args.words.now))) (sym c.in-Mount.is) c.ended-in-Mount.ensures.value

pub returns-in-Mount-clause-short : goal.returns-in-Mount-clause-short
returns-in-Mount-clause-short c = c.ended-in-Mount.ensures.short

pub returns-in-Fsck-clause-value : goal.returns-in-Fsck-clause-value
returns-in-Fsck-clause-value c =
    subst (λ (w : CommandWord). Tells c.args.line (words_left c.ended-in-Fsck.new.self) c.ended-in-Fsck.result
    (ask_behind c.args.line.end w (words_left c.args.words.now))) (sym c.in-Fsck.is) c.ended-in-Fsck.ensures.value

pub returns-in-Fsck-clause-short : goal.returns-in-Fsck-clause-short
returns-in-Fsck-clause-short c = c.ended-in-Fsck.ensures.short

pub returns-in-Mkdir-clause-value : goal.returns-in-Mkdir-clause-value
returns-in-Mkdir-clause-value c =
    subst (λ (w : CommandWord). Tells c.args.line (words_left c.mkdir.new.words) c.mkdir.result (ask_behind c.args.line.end w (words_left c.args.words.now))) (sym c.in-Mkdir.is) c.mkdir.ensures.value

pub returns-in-Mkdir-clause-short : goal.returns-in-Mkdir-clause-short
returns-in-Mkdir-clause-short c = c.mkdir.ensures.short

pub returns-in-Creat-clause-value : goal.returns-in-Creat-clause-value
returns-in-Creat-clause-value c =
    subst (λ (w : CommandWord). Tells c.args.line (words_left c.creat.new.words) c.creat.result (ask_behind c.args.line.end w (words_left c.args.words.now))) (sym c.in-Creat.is) c.creat.ensures.value

pub returns-in-Creat-clause-short : goal.returns-in-Creat-clause-short
returns-in-Creat-clause-short c = c.creat.ensures.short

pub returns-in-Cp-clause-value : goal.returns-in-Cp-clause-value
returns-in-Cp-clause-value c =
    subst (λ (w : CommandWord). Tells c.args.line (words_left c.cp.new.words) c.cp.result (ask_behind c.args.line.end w (words_left c.args.words.now))) (sym c.in-Cp.is) c.cp.ensures.value

pub returns-in-Cp-clause-short : goal.returns-in-Cp-clause-short
returns-in-Cp-clause-short c = c.cp.ensures.short

pub returns-in-Verify-clause-value : goal.returns-in-Verify-clause-value
returns-in-Verify-clause-value c =
    subst (λ (w : CommandWord). Tells c.args.line (words_left c.verify.new.words) c.verify.result
    (ask_behind c.args.line.end w (words_left c.args.words.now))) (sym c.in-Verify.is) c.verify.ensures.value

pub returns-in-Verify-clause-short : goal.returns-in-Verify-clause-short
returns-in-Verify-clause-short c = c.verify.ensures.short

pub returns-in-Read-clause-value : goal.returns-in-Read-clause-value
returns-in-Read-clause-value c =
    subst (λ (w : CommandWord). Tells c.args.line (words_left c.read.new.words) c.read.result (ask_behind c.args.line.end w (words_left c.args.words.now))) (sym c.in-Read.is) c.read.ensures.value

pub returns-in-Read-clause-short : goal.returns-in-Read-clause-short
returns-in-Read-clause-short c = c.read.ensures.short

pub returns-in-Check-clause-value : goal.returns-in-Check-clause-value
returns-in-Check-clause-value c =
    subst (λ (w : CommandWord). Tells c.args.line (words_left c.check.new.words) c.check.result (ask_behind c.args.line.end w (words_left c.args.words.now))) (sym c.in-Check.is) c.check.ensures.value

pub returns-in-Check-clause-short : goal.returns-in-Check-clause-short
returns-in-Check-clause-short c = c.check.ensures.short
