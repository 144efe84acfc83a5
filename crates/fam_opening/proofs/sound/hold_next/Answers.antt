use Rattle.std.proofs.Common.{◌≡◌, ℕ, ◌∙◌, ◌++◌, ◌∷◌, [], List, None, ap, subst, sym}
use Rattle.fam_base.specs.Image.{line_at}
use Rattle.fam_base.specs.declared.cmd.Content.TheVariants as content
use Rattle.fam_base.specs.declared.entry.Entry.{Entry}
use Rattle.fam_journal.specs.Past.{Sound}
use Rattle.fam_rules.specs.Content.{fill}
use Rattle.fam_settled.specs.Settled.{settled_files, settled_log_state}
use Rattle.fam_opening.proofs.Held.{files_more, next_file, next_may, prefix_more}
use Rattle.fam_opening.proofs.sound.hold_next.Goals as goal

pub read_file-requires-clause-file : goal.read_file-requires-clause-file
read_file-requires-clause-file g c =
    next_file c.args.log.now c.args.plan.now c.args.seq c.entry_at-entry.result c.requires.history c.entry_at-entry.ensures (g.M.Media.size c.args.media.now) c.requires.device

pub hold-requires-clause-may : goal.hold-requires-clause-may
hold-requires-clause-may g c =
    next_may c.args.log.now c.args.plan.now c.args.seq c.entry_at-entry.result c.requires.history c.entry_at-entry.ensures c.requires.params c.requires.entries

pub returns-clause-entries : goal.returns-clause-entries
returns-clause-entries g c =
    c.in_ok-hold.ensures.entries
    ∙ ap (λ (es : List Entry). es ++ c.entry_at-entry.result ∷ []) c.requires.entries
    ∙ sym (prefix_more c.args.plan.now.entries c.args.seq c.entry_at-entry.result c.entry_at-entry.ensures)

pub returns-clause-files : goal.returns-clause-files
returns-clause-files g c = λ image told.
    let log = c.args.log.now in
    let t = c.hold.new.self in
    let e = c.entry_at-entry.result in
    let list = c.args.plan.now.entries in
    files_more (line_at image) e c.in_ok-bytes.bytes.items (c.in_ok-bytes.ensures.held image told) log t log.params list c.args.seq c.entry_at-entry.ensures
    (subst (λ (bs : List ℕ). settled_log_state t ≡ Sound log.params (settled_files log ++ record { entry = e; bytes = fill (content.Bytes bs) e.size } ∷ []) None)
    c.in_ok-new.ensures c.in_ok-hold.ensures.held)
