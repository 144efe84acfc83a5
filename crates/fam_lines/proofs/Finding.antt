-- Of a note's own first line and what follows it, a line is resolved that tells the same.
use Rattle.std.proofs.Common.{◌≡◌, ℕ, Bool, true, List, [], ◌∷◌, Option, Some, None, refl, ap, ap₂, sym, subst, ◌∙◌}
use Rattle.std.specs.Prelude.{MatchOption, Vec, if◌then◌else◌, option_map, slice_get}
use Rattle.std.specs.Global.{Global}
use Rattle.std.proofs.lemmas.Option.{slice_get-map}
use Rattle.fam_base.specs.declared.cmd.Cmd.{Cmd}
use Rattle.fam_base.specs.declared.cmd.Cmd.TheVariants as cmd
use Rattle.fam_base.specs.declared.cmd.Content.TheVariants as content
use Rattle.fam_base.specs.declared.entry.Entry.{Entry}
use Rattle.fam_base.specs.declared.entry.Params.{Params}
use Rattle.fam_rules.specs.declared.answers.Report.{Report}
use Rattle.fam_journal.specs.declared.refusal.Refusal.{Refusal}
use Rattle.fam_journal.specs.declared.refusal.Refusal.TheVariants as why
use Rattle.fam_journal.specs.Notes as note
use Rattle.fam_journal.specs.Notes.{Answer, Note}
use Rattle.fam_outcomes.specs.Texts.{host_name}
use Rattle.fam_history.specs.declared.note.ToldLine.{ToldLine}
use Rattle.fam_history.specs.Told.{told_of_command}
use Rattle.fam_history.specs.ToldNotes.{AreDistinctNames, line_told, params_told}
use Rattle.fam_history.specs.ToldRefusals.{told_of_refusal}
use Rattle.fam_judge.specs.Alike.{Begins, told_note}
use Rattle.fam_judge.specs.Standing.{Face, OfFace}
use Rattle.fam_lines.specs.declared.host.SeenHost.{SeenHost}
use Rattle.fam_lines.specs.declared.line.Line.{Line}
use Rattle.fam_lines.specs.declared.line.Line.TheVariants as line
use Rattle.fam_lines.specs.Behind.{Further, IsNoteOf, IsEntireAnswer, IsWholeMade, IsEntireNote, behind_answer, behind_note, further, nothing}
use Rattle.fam_lines.specs.Hosts.{face_of, faces_of, seen_names}
use Rattle.fam_lines.specs.Lines.{note_of_line}
use Rattle.fam_lines.specs.Named.{IsName, NamesHosts, NamesOtherSeen}
use Rattle.fam_lines.specs.Resolved.{answered_line, resolved_refusal, is_told, line_of_made, seen_number, resolved, start_line, whole_params}
use Rattle.fam_lines.proofs.Behind.{gives_own}
use Rattle.fam_lines.proofs.Numbers.{own_number}
use Rattle.fam_lines.proofs.Telling.{command_tells, lone}

-- what is told of a command is told of some
told_so : (c : Cmd) → is_told (told_of_command c) ≡ true
told_so cmd.Logplay = refl
told_so cmd.Mount = refl
told_so (cmd.Mkdir path attr) = refl
told_so (cmd.Creat path size attr stripe fill) = refl
told_so (cmd.Cp path attr stripe bytes) = refl
told_so (cmd.Verify path content.Zero) = refl
told_so (cmd.Verify path (content.Seed seed)) = refl
told_so (cmd.Verify path (content.Bytes bytes)) = refl
told_so (cmd.Read path offset count) = refl
told_so (cmd.Check listing) = refl
told_so cmd.Fsck = refl

-- a line is found that tells the same as a note
pub record Finds (o : Option Line) (n : Note) : Type 0 where
  pub line : Line
  pub is : o ≡ Some line
  pub same : told_note (note_of_line line) ≡ told_note n

module _ (hosts : List SeenHost) (distinct : AreDistinctNames (seen_names hosts)) where
  -- the name of a host has its number
  numbered : (h : ℕ) → IsName (host_name (seen_names hosts) h) → seen_number hosts (host_name (seen_names hosts) h) ≡ Some h
  numbered h is = own_number hosts h distinct is

  -- a refusal is found again
  finds_cause : (cause : Refusal) → NamesOtherSeen (told_of_refusal (seen_names hosts) cause) → resolved_refusal hosts (told_of_refusal (seen_names hosts) cause) ≡ Some cause
  finds_cause why.NoHost named = refl
  finds_cause (why.SameHost host) named = ap (option_map (λ h. why.SameHost (record { 0 = h }))) (numbered host.0 named)
  finds_cause why.TooManyHosts named = refl
  finds_cause (why.BadGeometry unit log) named = refl
  finds_cause (why.TooSmall need have) named = refl
  finds_cause (why.ImageSmall lines) named = refl
  finds_cause (why.Busy host) named = ap (option_map (λ h. why.Busy (record { 0 = h }))) (numbered host.0 named)
  finds_cause (why.Dirty host) named = ap (option_map (λ h. why.Dirty (record { 0 = h }))) (numbered host.0 named)
  finds_cause (why.HasSuper uuid) named = refl
  finds_cause why.Idle named = refl
  finds_cause why.Mounted named = refl
  finds_cause why.NotMounted named = refl
  finds_cause (why.NoLine at lines) named = refl
  finds_cause (why.NoFile name) named = refl
  finds_cause (why.CopyLimit sum) named = refl
  finds_cause (why.BadListing at) named = refl
  finds_cause (why.MediaFault at) named = refl

  -- a file system that was made
  finds_made : (h : ℕ) (p : Params) → OfFace (slice_get (faces_of hosts) h) (λ f. IsWholeMade f.uuid p) → line_of_made hosts (Some h) (params_told p) ≡ Some (line.Made h p)
  finds_made h p whole = by (slice_get hosts h) refl
    where
      by : (o : Option SeenHost) → slice_get hosts h ≡ o → option_map (λ (host : SeenHost). line.Made h (whole_params host.uuid (params_told p))) o ≡ Some (line.Made h p)
      by None is =
          let face : slice_get (faces_of hosts) h ≡ None = slice_get-map face_of hosts h ∙ ap (option_map face_of) is in
          absurd (subst (λ (o : Option Face). OfFace o (λ f. IsWholeMade f.uuid p)) face whole)
      by (Some host) is =
          let face : slice_get (faces_of hosts) h ≡ Some (face_of host) = slice_get-map face_of hosts h ∙ ap (option_map face_of) is in
          let own : IsWholeMade host.uuid p = subst (λ (o : Option Face). OfFace o (λ f. IsWholeMade f.uuid p)) face whole in
          ap₂ (λ (s : ℕ) (m : List ℕ). Some (line.Made h (record p { slots = s; master = m }))) (sym own.slots) (sym own.master)

  module _ (entries : Vec Entry Global) (report : Option Report) where
    -- a line that nothing follows
    finds_lone : (n : Note) (o : Option Line) (l : Line) → nothing ≡ further entries.items report → o ≡ Some l → told_note (note_of_line l) ≡ told_note n
        → Finds (lone entries.items report o) n
    finds_lone n o l none is same = by entries.items report none
      where
        by : (es : List Entry) (r : Option Report) → nothing ≡ further es r → Finds (lone es r o) n
        by [] None e = record { line = l; is = is; same = same }
        by [] (Some r) e = let other : None ≡ Some r = ap (λ (f : Further). f.report) e in absurd cc
        by (x ∷ es) r e = let other : [] ≡ x ∷ es = ap (λ (f : Further). f.entries) e in absurd cc

    -- of a declared host
    finds_going : (n : Note) (h : ℕ) (make : ℕ → Line) → IsName (host_name (seen_names hosts) h) → nothing ≡ further entries.items report
        → told_note (note_of_line (make h)) ≡ told_note n → Finds (lone entries.items report (option_map make (seen_number hosts (host_name (seen_names hosts) h)))) n
    finds_going n h make named none same = finds_lone n _ (make h) none (ap (option_map make) (numbered h named)) same

    finds_start : (h : ℕ) (c : Cmd) → IsName (host_name (seen_names hosts) h) → nothing ≡ further entries.items report
        → Finds (lone entries.items report (start_line (seen_number hosts (host_name (seen_names hosts) h)) (told_of_command c))) (note.Start h c)
    finds_start h c named none =
        finds_lone (note.Start h c) _ (line.Start h (told_of_command c)) none
        (ap (λ (b : Bool). if b then option_map (λ k. line.Start k (told_of_command c)) (seen_number hosts (host_name (seen_names hosts) h)) else None) (told_so c)
        ∙ ap (option_map (λ k. line.Start k (told_of_command c))) (numbered h named))
        (ap (Begins h) (command_tells (told_of_command c) (told_so c)))

    finds_answer : (h : ℕ) (a : Answer) → IsName (host_name (seen_names hosts) h) → behind_answer a ≡ further entries.items report → IsEntireAnswer a
        → Finds (resolved hosts (line_told (seen_names hosts) (note.Answered h a)) entries report) (note.Answered h a)
    finds_answer h a named behind whole =
        let own = gives_own entries report a behind whole in
        record {
          line = line.Answered h own.answer;
          is = ap₂ answered_line (numbered h named) own.is;
          same = ap (λ (x : Answer). told_note (note.Answered h x)) own.same;
        }

    finds_own : (n : Note) → NamesHosts (line_told (seen_names hosts) n) → behind_note n ≡ further entries.items report → IsEntireNote hosts n
        → Finds (resolved hosts (line_told (seen_names hosts) n) entries report) n
    finds_own (note.Host name uuid) named none whole = finds_lone (note.Host name uuid) _ (line.Host name uuid) none refl refl
    finds_own (note.Made h p) named none whole =
        finds_lone (note.Made h p) _ (line.Made h p) none (ap (λ (o : Option ℕ). line_of_made hosts o (params_told p)) (numbered h named.own) ∙ finds_made h p whole) refl
    finds_own (note.Cut h k) named none whole = finds_going (note.Cut h k) h (λ h. line.Cut h k) named.own none refl
    finds_own (note.Start h c) named none whole = finds_start h c named.own none
    finds_own (note.Mark h) named none whole = finds_going (note.Mark h) h line.Mark named.own none refl
    finds_own (note.Found h n) named none whole = finds_going (note.Found h n) h (λ h. line.Found h n) named.own none refl
    finds_own (note.Writes h seq entry) named none whole = finds_going (note.Writes h seq entry) h (λ h. line.Writes h seq entry) named.own none refl
    finds_own (note.Answered h a) named behind whole = finds_answer h a named.own behind whole
    finds_own (note.Stop h) named none whole = finds_going (note.Stop h) h line.Stop named.own none refl
    finds_own (note.Halt h) named none whole = finds_going (note.Halt h) h line.Halt named.own none refl
    finds_own (note.Umount h) named none whole = finds_going (note.Umount h) h line.Umount named.own none refl
    finds_own (note.Refused name cause) named none whole =
        finds_lone (note.Refused name cause) _ (line.Refused name cause) none (ap (option_map (line.Refused name)) (finds_cause cause named.others)) refl

    -- of any line that a note tells
    pub finds : (t : ToldLine) → NamesHosts t → (n : Note) → IsEntireNote hosts n → IsNoteOf (seen_names hosts) t (further entries.items report) n
        → Finds (resolved hosts t entries report) n
    finds t named n whole is =
        subst (λ (x : ToldLine). Finds (resolved hosts x entries report) n) is.first
        (finds_own n (subst NamesHosts (sym is.first) named) is.behind whole)

-- so it is of a result
pub result_only : (hosts : List SeenHost) (t : ToldLine) (entries : Vec Entry Global) (report : Option Report) (o : Option Line) → o ≡ resolved hosts t entries report
    → NamesHosts t → AreDistinctNames (seen_names hosts) → (n : Note) → IsEntireNote hosts n → IsNoteOf (seen_names hosts) t (further entries.items report) n
    → MatchOption o ⊥ (λ (l : Line). told_note (note_of_line l) ≡ told_note n)
result_only hosts t entries report o is named distinct n whole tells =
    let found = finds hosts distinct entries report t named n whole tells in
    subst (λ (x : Option Line). MatchOption x ⊥ (λ (l : Line). told_note (note_of_line l) ≡ told_note n)) (sym (is ∙ found.is)) found.same
