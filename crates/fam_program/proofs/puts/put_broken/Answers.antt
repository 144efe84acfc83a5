use Rattle.std.proofs.Common.{drop, inr, Err, ap, ◌∙◌}
use Rattle.fam_program.proofs.Texts.Pieces.{short_some}
use Rattle.fam_program.proofs.puts.put_broken.Goals as goal

pub returns-in-Err-OutOfMemory-clause-says : goal.returns-in-Err-OutOfMemory-clause-says
returns-in-Err-OutOfMemory-clause-says g c =
    inr (short_some c.args.names.now.items (drop c.args.from c.args.world.now.journal) (g.K.Sink.state c.args.out.now)
    (g.K.Sink.state c.put_notes.new.out) (g.K.Sink.state c.put_memory.new.out) c.put_notes.ensures.later c.put_memory.result
    (c.put_notes.ensures.some (c.in-Err-OutOfMemory.is ∙ ap Err c.in-Err-OutOfMemory.field-0-is)) c.put_memory.ensures.put)
