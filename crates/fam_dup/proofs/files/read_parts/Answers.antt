use Rattle.std.proofs.Common.{◌+◌, ◌-◌, length, arith}
use Rattle.fam_rules.proofs.LinesApart.{file_within}
use Rattle.fam_dup.proofs.ReadParts.{parts_read}
use Rattle.fam_dup.proofs.files.read_parts.Goals as goal

pub read_lines-requires : goal.read_lines-requires
read_lines-requires g c =
    let file = c.requires.file in
    let last = length c.args.lines.now - 1 in
    record {
      within = omega (
        arith,
        file_within file.params c.args.entry.now (c.args.j + last) (g.M.Media.size c.args.from.now) file.sound file.proper (c.requires.below last (omega (arith, c.requires.some))) file.device,
        c.requires.together last (omega (arith, c.requires.some)),
        c.file_line.ensures.value,
        c.requires.some,
      );
    }

pub clear_past-requires-clause-below : goal.clear_past-requires-clause-below
clear_past-requires-clause-below g c = λ i below. c.requires.below i (omega (arith, below, c.in-Ok.ensures.count))

pub returns-in-Ok-clause-words : goal.returns-in-Ok-clause-words
returns-in-Ok-clause-words g c = λ image told.
    let file = c.requires.file in
    let count = c.in-Ok.ensures.count in
    parts_read image file.params c.args.entry.now c.args.j c.file_line.result.0 c.read_lines.new.lines c.clear_past.new.lines file.sound file.proper
    c.file_line.ensures.value
    (λ i below. c.requires.together i (omega (arith, below, count)))
    (λ i below. c.requires.below i (omega (arith, below, count)))
    (c.in-Ok.ensures.words image told) c.clear_past.ensures.count c.are_lines.ensures.count c.are_lines.ensures.fit c.clear_past.ensures.others c.clear_past.ensures.last
