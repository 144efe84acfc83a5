use Rattle.std.proofs.Common.{◌≡◌, ℕ, List, length, Some, arith, refl, subst, ◌∙◌}
use Rattle.fam_media.specs.States.{change, SinkChange}
use Rattle.fam_sources.specs.Sourced.{end_of}
use Rattle.fam_grammar.specs.Scripts.{script_events}
use Rattle.fam_outcomes.specs.declared.status.Status.TheVariants as status
use Rattle.fam_journal.specs.Ends.{AllDone}
use Rattle.fam_journal.specs.Notes.{Note}
use Rattle.fam_outcomes.specs.Programs.{Storm}
use Rattle.fam_outcomes.specs.Runs.{NoneFalls, Outside}
use Rattle.fam_events.specs.declared.fault.EventFault.{EventFault}
use Rattle.fam_program.specs.Puts.{Put}
use Rattle.fam_program.specs.Runs.{HasEnded, ending_of, outside_of}
use Rattle.fam_program.proofs.Runs.OneText.{early_wants, no_source_ends, not_printed, prints_top, storm_broken, storm_done, storm_wants}
use Rattle.fam_program.proofs.Scripts.FirstLines.{is_ok_by}
use Rattle.fam_program.proofs.Scripts.StormReads.{storm_reads}
use Rattle.fam_program.proofs.storms.run_storm.Goals as goal

pub returns-in_default-clause-ends : goal.returns-in_default-clause-ends
returns-in_default-clause-ends g c =
    let sink : SinkChange = change g.K.Sink.state c.args.out.now c.put_memory.new.out in
    let out : Outside = outside_of g.M.Media.size g.M.Media.state c.args.media.now c.args.media.now (change g.S.Shelf.state c.args.shelf.now c.args.shelf.now) sink in
    let later : NoneFalls out = record { media = omega arith; shelf = omega arith; shorts = omega arith; sink = c.put_memory.ensures.later } in
    early_wants (Some (Storm c.args.seed c.args.size c.args.prints)) out c.put_memory.result refl later c.put_memory.ensures.put

pub returns-then-prints-clause-ends : goal.returns-then-prints-clause-ends
returns-then-prints-clause-ends g c =
    let sink : SinkChange = change g.K.Sink.state c.args.out.now c.put_line.new.out in
    let out : Outside = outside_of g.M.Media.size g.M.Media.state c.args.media.now c.args.media.now (change g.S.Shelf.state c.args.shelf.now c.args.shelf.now) sink in
    let later : NoneFalls out = record { media = omega arith; shelf = omega arith; shorts = omega arith; sink = c.put_line.ensures.later } in
    prints_top c.args.seed c.args.size c.args.prints out c.put_line.result c.if-prints.true refl later
    (subst (λ (t : List ℕ). Put status.Done t sink c.put_line.result) (c.as_slice-text.ensures.value ∙ c.in-Ok.ensures) c.put_line.ensures.put)

pub run_lines-requires : goal.run_lines-requires
run_lines-requires g c =
    let storm = storm_reads c.args.seed c.args.size c.as_slice-text.result.now c.requires.small (c.as_slice-text.ensures.value ∙ c.in-Ok.ensures)
    (c.a_storm_is_an_event_for_each_line.ensures c.args.seed c.args.size c.requires.small)
    (c.a_storm_reads_no_source.ensures c.args.seed c.args.size c.requires.small) in
    record { fresh = c.new-world.ensures; good = is_ok_by (script_events c.as_slice-text.result.now) storm.events storm.text_reads }

pub put_summary-requires : goal.put_summary-requires
put_summary-requires g c =
    let storm = storm_reads c.args.seed c.args.size c.as_slice-text.result.now c.requires.small (c.as_slice-text.ensures.value ∙ c.in-Ok.ensures)
    (c.a_storm_is_an_event_for_each_line.ensures c.args.seed c.args.size c.requires.small)
    (c.a_storm_reads_no_source.ensures c.args.seed c.args.size c.requires.small) in
    record { named = (c.in-Ok-run_lines.ensures.ended storm.events storm.text_reads (change g.K.Sink.state c.args.out.now c.args.out.now)).named }

pub returns-in-Ok-run_lines-clause-ends : goal.returns-in-Ok-run_lines-clause-ends
returns-in-Ok-run_lines-clause-ends g c =
    let sink : SinkChange = change g.K.Sink.state c.args.out.now c.put_summary.new.out in
    let out : Outside = outside_of g.M.Media.size g.M.Media.state c.args.media.now c.run_lines.new.media (change g.S.Shelf.state c.args.shelf.now c.run_lines.new.shelf) sink in
    let later : NoneFalls out = record {
      media = c.run_lines.ensures.steady.later;
      shelf = c.run_lines.ensures.shelf.faults_later;
      shorts =
          c.run_lines.ensures.shelf.shorts_later;
      sink = c.put_summary.ensures.later;
    } in
    let storm = storm_reads c.args.seed c.args.size c.as_slice-text.result.now c.requires.small (c.as_slice-text.ensures.value ∙ c.in-Ok.ensures)
    (c.a_storm_is_an_event_for_each_line.ensures c.args.seed c.args.size c.requires.small)
    (c.a_storm_reads_no_source.ensures c.args.seed c.args.size c.requires.small) in
    let journal : List Note = c.run_lines.new.world.journal in
    let many : c.count_lines-count.result ≡ length storm.events = c.count_lines-count.ensures ∙ storm.feeds in
    let ended : HasEnded AllDone out storm.events journal = c.in-Ok-run_lines.ensures.ended storm.events storm.text_reads sink in
    not_printed c.args.seed c.args.size c.args.prints out c.put_summary.result c.if-prints.false
    (storm_done c.args.seed c.args.size storm.events storm.reads out c.put_summary.result later journal ended
    (c.put_summary.ensures.put storm.events many))

pub put_summary-requires-in-Err-MkfsFailed : goal.put_summary-requires-in-Err-MkfsFailed
put_summary-requires-in-Err-MkfsFailed g c =
    let storm = storm_reads c.args.seed c.args.size c.as_slice-text.result.now c.requires.small (c.as_slice-text.ensures.value ∙ c.in-Ok.ensures)
    (c.a_storm_is_an_event_for_each_line.ensures c.args.seed c.args.size c.requires.small)
    (c.a_storm_reads_no_source.ensures c.args.seed c.args.size c.requires.small) in
    record { named = (c.in-Err-MkfsFailed.ensures.ended storm.events storm.text_reads (change g.K.Sink.state c.args.out.now c.args.out.now)).named }

pub returns-in-Err-MkfsFailed-clause-ends : goal.returns-in-Err-MkfsFailed-clause-ends
returns-in-Err-MkfsFailed-clause-ends g c =
    let sink : SinkChange = change g.K.Sink.state c.args.out.now c.put_summary-in-Err-MkfsFailed.new.out in
    let out : Outside = outside_of g.M.Media.size g.M.Media.state c.args.media.now c.run_lines.new.media (change g.S.Shelf.state c.args.shelf.now c.run_lines.new.shelf) sink in
    let later : NoneFalls out = record {
      media = c.run_lines.ensures.steady.later;
      shelf = c.run_lines.ensures.shelf.faults_later;
      shorts =
          c.run_lines.ensures.shelf.shorts_later;
      sink = c.put_summary-in-Err-MkfsFailed.ensures.later;
    } in
    let storm = storm_reads c.args.seed c.args.size c.as_slice-text.result.now c.requires.small (c.as_slice-text.ensures.value ∙ c.in-Ok.ensures)
    (c.a_storm_is_an_event_for_each_line.ensures c.args.seed c.args.size c.requires.small)
    (c.a_storm_reads_no_source.ensures c.args.seed c.args.size c.requires.small) in
    let journal : List Note = c.run_lines.new.world.journal in
    let many : c.count_lines-count.result ≡ length storm.events = c.count_lines-count.ensures ∙ storm.feeds in
    let ended = subst (λ (x : EventFault). HasEnded (ending_of x) out storm.events journal) c.in-Err-MkfsFailed.field-0-is (c.in-Err-MkfsFailed.ensures.ended storm.events storm.text_reads sink) in
    not_printed c.args.seed c.args.size c.args.prints out c.put_summary-in-Err-MkfsFailed.result c.if-prints.false
    (storm_broken c.args.seed c.args.size storm.events storm.reads out c.put_summary-in-Err-MkfsFailed.result later journal ended
    (c.put_summary-in-Err-MkfsFailed.ensures.put storm.events many))

pub unreachable-requires : goal.unreachable-requires
unreachable-requires g c =
    let sink : SinkChange = change g.K.Sink.state c.args.out.now c.args.out.now in
    let out : Outside = outside_of g.M.Media.size g.M.Media.state c.args.media.now c.run_lines.new.media (change g.S.Shelf.state c.args.shelf.now c.run_lines.new.shelf) sink in
    let storm = storm_reads c.args.seed c.args.size c.as_slice-text.result.now c.requires.small (c.as_slice-text.ensures.value ∙ c.in-Ok.ensures)
    (c.a_storm_is_an_event_for_each_line.ensures c.args.seed c.args.size c.requires.small)
    (c.a_storm_reads_no_source.ensures c.args.seed c.args.size c.requires.small) in
    let journal : List Note = c.run_lines.new.world.journal in
    let ended = subst (λ (x : EventFault). HasEnded (ending_of x) out storm.events journal) c.in-Err-SourceEnded.field-0-is (c.in-Err-SourceEnded.ensures.ended storm.events storm.text_reads sink) in
    no_source_ends (end_of c.in-Err-SourceEnded.field-0-0) out storm.events journal storm.sources ended

pub returns-clause-ends : goal.returns-clause-ends
returns-clause-ends g c =
    let sink : SinkChange = change g.K.Sink.state c.args.out.now c.put_memory-in-Err-OutOfMemory.new.out in
    let out : Outside = outside_of g.M.Media.size g.M.Media.state c.args.media.now c.run_lines.new.media (change g.S.Shelf.state c.args.shelf.now c.run_lines.new.shelf) sink in
    let later : NoneFalls out = record {
      media = c.run_lines.ensures.steady.later;
      shelf = c.run_lines.ensures.shelf.faults_later;
      shorts =
          c.run_lines.ensures.shelf.shorts_later;
      sink = c.put_memory-in-Err-OutOfMemory.ensures.later;
    } in
    let storm = storm_reads c.args.seed c.args.size c.as_slice-text.result.now c.requires.small (c.as_slice-text.ensures.value ∙ c.in-Ok.ensures)
    (c.a_storm_is_an_event_for_each_line.ensures c.args.seed c.args.size c.requires.small)
    (c.a_storm_reads_no_source.ensures c.args.seed c.args.size c.requires.small) in
    let journal : List Note = c.run_lines.new.world.journal in
    let ended = subst (λ (x : EventFault). HasEnded (ending_of x) out storm.events journal) c.in-Err-OutOfMemory.field-0-is (c.in-Err-OutOfMemory.ensures.ended storm.events storm.text_reads sink) in
    not_printed c.args.seed c.args.size c.args.prints out c.put_memory-in-Err-OutOfMemory.result c.if-prints.false
    (storm_wants c.args.seed c.args.size storm.events storm.reads out c.put_memory-in-Err-OutOfMemory.result later journal ended
    c.put_memory-in-Err-OutOfMemory.ensures.put)
