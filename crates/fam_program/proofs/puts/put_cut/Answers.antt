use Rattle.std.proofs.Common.{drop, Err, ap, ◌∙◌}
use Rattle.fam_media.specs.States.{change}
use Rattle.fam_outcomes.specs.Programs.{memory_line}
use Rattle.fam_outcomes.specs.Texts.{render_behind}
use Rattle.fam_outcomes.specs.declared.status.Status.TheVariants as status
use Rattle.fam_program.proofs.Texts.Pieces.{put_second, short_part, short_some, short_whole}
use Rattle.fam_program.proofs.puts.put_cut.Goals as goal

pub returns-in-Ok-clause-says : goal.returns-in-Ok-clause-says
returns-in-Ok-clause-says g c =
    short_whole c.args.names.now.items (drop c.args.from c.args.world.now.journal) (change g.K.Sink.state c.args.out.now c.put_memory.new.out) c.put_memory.result
    (put_second (render_behind c.args.names.now.items (drop c.args.from c.args.world.now.journal)) memory_line (g.K.Sink.state c.args.out.now)
    (g.K.Sink.state c.put_notes.new.out) (g.K.Sink.state c.put_memory.new.out) c.put_notes.ensures.later status.OutOfMemory c.put_memory.result
    c.in-Ok.ensures.put c.put_memory.ensures.put)

pub returns-in-Err-Sink-clause-says : goal.returns-in-Err-Sink-clause-says
returns-in-Err-Sink-clause-says g c =
    short_part c.args.names.now.items (drop c.args.from c.args.world.now.journal) (change g.K.Sink.state c.args.out.now c.put_notes.new.out)
    (c.put_notes.ensures.part (c.in-Err-Sink.is ∙ ap Err c.in-Err-Sink.field-0-is))

pub returns-in-Err-OutOfMemory-clause-says : goal.returns-in-Err-OutOfMemory-clause-says
returns-in-Err-OutOfMemory-clause-says g c =
    short_some c.args.names.now.items (drop c.args.from c.args.world.now.journal) (g.K.Sink.state c.args.out.now) (g.K.Sink.state c.put_notes.new.out)
    (g.K.Sink.state c.put_memory-in-Err-OutOfMemory.new.out) c.put_notes.ensures.later c.put_memory-in-Err-OutOfMemory.result
    (c.put_notes.ensures.some (c.in-Err-OutOfMemory.is ∙ ap Err c.in-Err-OutOfMemory.field-0-is)) c.put_memory-in-Err-OutOfMemory.ensures.put
