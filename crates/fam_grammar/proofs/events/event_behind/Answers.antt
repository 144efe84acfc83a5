use Rattle.std.proofs.Common.{subst, sym}
use Rattle.fam_grammar.specs.declared.keywords.EventWord.{EventWord}
use Rattle.fam_grammar.specs.Cursor.{Tells, words_left}
use Rattle.fam_grammar.specs.Lines.{event_behind}
use Rattle.fam_grammar.proofs.events.event_behind.Goals as goal

pub returns-in-Host-clause-value : goal.returns-in-Host-clause-value
returns-in-Host-clause-value c =
    subst (λ (w : EventWord). Tells c.args.line (words_left c.host.new.words) c.host.result (event_behind c.args.line.end w (words_left c.args.words.now))) (sym c.in-Host.is) c.host.ensures.value

pub returns-in-Host-clause-short : goal.returns-in-Host-clause-short
returns-in-Host-clause-short c = c.host.ensures.short

pub returns-in-Mkfs-clause-value : goal.returns-in-Mkfs-clause-value
returns-in-Mkfs-clause-value c =
    subst (λ (w : EventWord). Tells c.args.line (words_left c.mkfs.new.words) c.mkfs.result (event_behind c.args.line.end w (words_left c.args.words.now))) (sym c.in-Mkfs.is) c.mkfs.ensures.value

pub returns-in-Mkfs-clause-short : goal.returns-in-Mkfs-clause-short
returns-in-Mkfs-clause-short c = c.mkfs.ensures.short

pub returns-in-Begin-clause-value : goal.returns-in-Begin-clause-value
returns-in-Begin-clause-value c =
    subst (λ (w : EventWord). Tells c.args.line (words_left c.begin.new.words) c.begin.result (event_behind c.args.line.end w (words_left c.args.words.now))) (sym c.in-Begin.is) c.begin.ensures.value

pub returns-in-Begin-clause-short : goal.returns-in-Begin-clause-short
returns-in-Begin-clause-short c = c.begin.ensures.short

pub returns-in-Run-clause-value : goal.returns-in-Run-clause-value
returns-in-Run-clause-value c =
    subst (λ (w : EventWord). Tells c.args.line (words_left c.run.new.words) c.run.result (event_behind c.args.line.end w (words_left c.args.words.now))) (sym c.in-Run.is) c.run.ensures.value

pub returns-in-Run-clause-short : goal.returns-in-Run-clause-short
returns-in-Run-clause-short c = c.run.ensures.short

pub returns-in-Step-clause-value : goal.returns-in-Step-clause-value
returns-in-Step-clause-value c =
    subst (λ (w : EventWord). Tells c.args.line (words_left c.step.new.words) c.step.result (event_behind c.args.line.end w (words_left c.args.words.now))) (sym c.in-Step.is) c.step.ensures.value

pub returns-in-Step-clause-short : goal.returns-in-Step-clause-short
returns-in-Step-clause-short c = c.step.ensures.short

pub returns-in-Finish-clause-value : goal.returns-in-Finish-clause-value
returns-in-Finish-clause-value c =
    subst (λ (w : EventWord). Tells c.args.line (words_left c.finish.new.words) c.finish.result
    (event_behind c.args.line.end w (words_left c.args.words.now))) (sym c.in-Finish.is) c.finish.ensures.value

pub returns-in-Finish-clause-short : goal.returns-in-Finish-clause-short
returns-in-Finish-clause-short c = c.finish.ensures.short

pub returns-in-Stop-clause-value : goal.returns-in-Stop-clause-value
returns-in-Stop-clause-value c =
    subst (λ (w : EventWord). Tells c.args.line (words_left c.stop.new.words) c.stop.result (event_behind c.args.line.end w (words_left c.args.words.now))) (sym c.in-Stop.is) c.stop.ensures.value

pub returns-in-Stop-clause-short : goal.returns-in-Stop-clause-short
returns-in-Stop-clause-short c = c.stop.ensures.short

pub returns-in-Halt-clause-value : goal.returns-in-Halt-clause-value
returns-in-Halt-clause-value c =
    subst (λ (w : EventWord). Tells c.args.line (words_left c.halt.new.words) c.halt.result (event_behind c.args.line.end w (words_left c.args.words.now))) (sym c.in-Halt.is) c.halt.ensures.value

pub returns-in-Halt-clause-short : goal.returns-in-Halt-clause-short
returns-in-Halt-clause-short c = c.halt.ensures.short

pub returns-in-Umount-clause-value : goal.returns-in-Umount-clause-value
returns-in-Umount-clause-value c =
    subst (λ (w : EventWord). Tells c.args.line (words_left c.umount.new.words) c.umount.result
    (event_behind c.args.line.end w (words_left c.args.words.now))) (sym c.in-Umount.is) c.umount.ensures.value

pub returns-in-Umount-clause-short : goal.returns-in-Umount-clause-short
returns-in-Umount-clause-short c = c.umount.ensures.short

pub returns-in-Evict-clause-value : goal.returns-in-Evict-clause-value
returns-in-Evict-clause-value c =
    subst (λ (w : EventWord). Tells c.args.line (words_left c.evict.new.words) c.evict.result (event_behind c.args.line.end w (words_left c.args.words.now))) (sym c.in-Evict.is) c.evict.ensures.value

pub returns-in-Evict-clause-short : goal.returns-in-Evict-clause-short
returns-in-Evict-clause-short c = c.evict.ensures.short

pub returns-in-Leak-clause-value : goal.returns-in-Leak-clause-value
returns-in-Leak-clause-value c =
    subst (λ (w : EventWord). Tells c.args.line (words_left c.leak.new.words) c.leak.result (event_behind c.args.line.end w (words_left c.args.words.now))) (sym c.in-Leak.is) c.leak.ensures.value

pub returns-in-Leak-clause-short : goal.returns-in-Leak-clause-short
returns-in-Leak-clause-short c = c.leak.ensures.short

pub returns-in-Fetch-clause-value : goal.returns-in-Fetch-clause-value
returns-in-Fetch-clause-value c =
    subst (λ (w : EventWord). Tells c.args.line (words_left c.fetch.new.words) c.fetch.result (event_behind c.args.line.end w (words_left c.args.words.now))) (sym c.in-Fetch.is) c.fetch.ensures.value

pub returns-in-Fetch-clause-short : goal.returns-in-Fetch-clause-short
returns-in-Fetch-clause-short c = c.fetch.ensures.short
