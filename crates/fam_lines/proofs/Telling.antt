-- A line that is resolved: it is of a note that tells just what is told, and of no other.
use Rattle.std.proofs.Common.{◌≡◌, ℕ, Bool, true, false, List, [], ◌∷◌, Option, Some, None, refl, ap, ap₂, sym, subst, ◌∙◌}
use Rattle.std.specs.Prelude.{IfSome, Vec, if◌then◌else◌, option_map, replicate, slice_get}
use Rattle.std.specs.Global.{Global}
use Rattle.std.proofs.lemmas.List.{length-replicate}
use Rattle.std.proofs.lemmas.Option.{same_Some, slice_get-map}
use Rattle.fam_base.specs.declared.cmd.Cmd.{Cmd}
use Rattle.fam_base.specs.declared.cmd.Cmd.TheVariants as cmd
use Rattle.fam_base.specs.declared.cmd.Content.TheVariants as content
use Rattle.fam_base.specs.declared.entry.Entry.{Entry}
use Rattle.fam_rules.specs.declared.answers.Report.{Report}
use Rattle.fam_journal.specs.declared.refusal.Refusal.{Refusal}
use Rattle.fam_journal.specs.declared.refusal.Refusal.TheVariants as why
use Rattle.fam_journal.specs.Notes as note
use Rattle.fam_journal.specs.Notes.{Note}
use Rattle.fam_outcomes.specs.Texts.{host_name}
use Rattle.fam_history.specs.declared.answer.ToldAnswer.{ToldAnswer}
use Rattle.fam_history.specs.declared.command.ToldCommand.{ToldCommand}
use Rattle.fam_history.specs.declared.command.ToldCommand.TheVariants as command
use Rattle.fam_history.specs.declared.note.LineNote.{LineNote}
use Rattle.fam_history.specs.declared.note.LineNote.TheVariants as told
use Rattle.fam_history.specs.declared.note.ToldLine.{ToldLine}
use Rattle.fam_history.specs.declared.note.ToldParams.{ToldParams}
use Rattle.fam_history.specs.declared.refusal.ToldRefusal.{ToldRefusal}
use Rattle.fam_history.specs.declared.refusal.ToldRefusal.TheVariants as refusal
use Rattle.fam_history.specs.Told.{told_of_command}
use Rattle.fam_history.specs.ToldNotes.{line_told}
use Rattle.fam_history.specs.ToldRefusals.{told_of_refusal}
use Rattle.fam_judge.specs.Standing.{Face, OfFace}
use Rattle.fam_judge.specs.Untold.{untold, untold_cmd, untold_entry, untold_note}
use Rattle.fam_lines.specs.declared.answer.HostAnswer.{HostAnswer}
use Rattle.fam_lines.specs.declared.host.SeenHost.{SeenHost}
use Rattle.fam_lines.specs.declared.line.Line.{Line}
use Rattle.fam_lines.specs.declared.line.Line.TheVariants as line
use Rattle.fam_lines.specs.Behind.{IsNoteOf, IsWholeMade, IsEntireNote, further, behind_note, nothing}
use Rattle.fam_lines.specs.Hosts.{face_of, faces_of, seen_names}
use Rattle.fam_lines.specs.Lines.{note_of_line, untold_of}
use Rattle.fam_lines.specs.Resolved.{answer_with, answered_line, resolved_refusal, has_no_further, is_told, is_told_cmd, line_with, line_of_made, seen_number, resolved, start_line, whole_params}
use Rattle.fam_lines.proofs.Behind.{answer_is}
use Rattle.fam_lines.proofs.Numbers.{number_names}

-- Commands.

-- what is told of a command that is told as a whole
whole_told : (c : Cmd) → is_told_cmd c ≡ true → told_of_command c ≡ command.Plain c
whole_told cmd.Logplay is = refl
whole_told cmd.Mount is = refl
whole_told (cmd.Mkdir path attr) is = refl
whole_told (cmd.Creat path size attr stripe fill) is = refl
whole_told (cmd.Cp path attr stripe bytes) is = absurd cc
whole_told (cmd.Verify path content.Zero) is = refl
whole_told (cmd.Verify path (content.Seed seed)) is = refl
whole_told (cmd.Verify path (content.Bytes bytes)) is = absurd cc
whole_told (cmd.Read path offset count) is = refl
whole_told (cmd.Check listing) is = absurd cc
whole_told cmd.Fsck is = refl

-- and nothing of it is untold
whole_untold : (c : Cmd) → is_told_cmd c ≡ true → untold_cmd c ≡ c
whole_untold cmd.Logplay is = refl
whole_untold cmd.Mount is = refl
whole_untold (cmd.Mkdir path attr) is = refl
whole_untold (cmd.Creat path size attr stripe fill) is = refl
whole_untold (cmd.Cp path attr stripe bytes) is = absurd cc
whole_untold (cmd.Verify path content.Zero) is = refl
whole_untold (cmd.Verify path (content.Seed seed)) is = refl
whole_untold (cmd.Verify path (content.Bytes bytes)) is = absurd cc
whole_untold (cmd.Read path offset count) is = refl
whole_untold (cmd.Check listing) is = absurd cc
whole_untold cmd.Fsck is = refl

-- a command tells what it is made of
pub command_tells : (c : ToldCommand) → is_told c ≡ true → told_of_command (untold_of c) ≡ c
command_tells (command.Plain c) is = whole_told c is
command_tells (command.Cp path size attr stripe) is = ap (λ (n : ℕ). command.Cp path n attr stripe) (length-replicate size untold)
command_tells (command.VerifySource path count) is = ap (command.VerifySource path) (length-replicate count untold)
command_tells (command.Check count) is = ap command.Check (length-replicate count untold_entry)

-- and nothing else
pub command_untold : (c : ToldCommand) → is_told c ≡ true → untold_cmd (untold_of c) ≡ untold_of c
command_untold (command.Plain c) is = whole_untold c is
command_untold (command.Cp path size attr stripe) is = ap (λ (n : ℕ). cmd.Cp path attr stripe (replicate n untold)) (length-replicate size untold)
command_untold (command.VerifySource path count) is = ap (λ (n : ℕ). cmd.Verify path (content.Bytes (replicate n untold))) (length-replicate count untold)
command_untold (command.Check count) is =
    ap (λ (n : ℕ). cmd.Check (replicate n untold_entry)) (length-replicate count untold_entry)

-- Refusals.

module _ (hosts : List SeenHost) where
  -- a refusal by another host's name
  by_name : (name : List ℕ) (make : ℕ → Refusal) (tells : List ℕ → ToldRefusal) (why : Refusal) → option_map make (seen_number hosts name) ≡ Some why
      → ((h : ℕ) → told_of_refusal (seen_names hosts) (make h) ≡ tells (host_name (seen_names hosts) h)) → told_of_refusal (seen_names hosts) why ≡ tells name
  by_name name make tells why is told = by (seen_number hosts name) refl is
    where
      by : (o : Option ℕ) → seen_number hosts name ≡ o → option_map make o ≡ Some why → told_of_refusal (seen_names hosts) why ≡ tells name
      by None at e = absurd cc
      by (Some h) at e = ap (told_of_refusal (seen_names hosts)) (sym (same_Some (make h) why e)) ∙ told h ∙ ap tells (number_names hosts name h at)

  -- a refusal that names no other host
  plain : (t : ToldRefusal) (made why : Refusal) → Some made ≡ Some why → told_of_refusal (seen_names hosts) made ≡ t → told_of_refusal (seen_names hosts) why ≡ t
  plain t made why is told = ap (told_of_refusal (seen_names hosts)) (sym (same_Some made why is)) ∙ told

  -- a refusal tells what it is made of
  cause_is : (t : ToldRefusal) (cause : Refusal) → resolved_refusal hosts t ≡ Some cause → told_of_refusal (seen_names hosts) cause ≡ t
  cause_is refusal.NoHost cause is = plain _ _ cause is refl
  cause_is (refusal.SameHost name) cause is = by_name name (λ h. why.SameHost (record { 0 = h })) refusal.SameHost cause is (λ h. refl)
  cause_is refusal.TooManyHosts cause is = plain _ _ cause is refl
  cause_is (refusal.BadGeometry unit log) cause is = plain _ _ cause is refl
  cause_is (refusal.TooSmall need have) cause is = plain _ _ cause is refl
  cause_is (refusal.ImageSmall lines) cause is = plain _ _ cause is refl
  cause_is (refusal.Busy name) cause is = by_name name (λ h. why.Busy (record { 0 = h })) refusal.Busy cause is (λ h. refl)
  cause_is (refusal.Dirty name) cause is = by_name name (λ h. why.Dirty (record { 0 = h })) refusal.Dirty cause is (λ h. refl)
  cause_is (refusal.HasSuper uuid) cause is = plain _ _ cause is refl
  cause_is refusal.Idle cause is = plain _ _ cause is refl
  cause_is refusal.Mounted cause is = plain _ _ cause is refl
  cause_is refusal.NotMounted cause is = plain _ _ cause is refl
  cause_is (refusal.NoLine at lines) cause is = plain _ _ cause is refl
  cause_is (refusal.NoFile name) cause is = plain _ _ cause is refl
  cause_is (refusal.CopyLimit sum) cause is = plain _ _ cause is refl
  cause_is (refusal.BadListing at) cause is = plain _ _ cause is refl
  cause_is (refusal.MediaFault at) cause is = plain _ _ cause is refl

-- Lines.

-- a line that nothing follows
abbrev pub lone : List Entry → Option Report → Option Line → Option Line
lone entries report x = if has_no_further entries report then x else None

-- what a line is that is resolved
pub record IsLine (hosts : List SeenHost) (t : ToldLine) (entries : List Entry) (report : Option Report) (l : Line) : Type 0 where
  pub tells : IsNoteOf (seen_names hosts) t (further entries report) (note_of_line l)
  pub whole : IsEntireNote hosts (note_of_line l)
  pub untold : untold_note (note_of_line l) ≡ note_of_line l

module _ (hosts : List SeenHost) (name : List ℕ) (entries : Vec Entry Global) (report : Option Report) where
  -- a line of this name that tells this
  Is : LineNote → Line → Type 0
  Is t l = IsLine hosts (record { name = name; note = t }) entries.items report l

  -- a line that nothing follows
  lone_is : (o : Option Line) (l : Line) → lone entries.items report o ≡ Some l → (o ≡ Some l) × (nothing ≡ further entries.items report)
  lone_is o l is = by entries.items report is
    where
      by : (es : List Entry) (r : Option Report) → lone es r o ≡ Some l → (o ≡ Some l) × (nothing ≡ further es r)
      by [] None e = (e, refl)
      by [] (Some r) e = absurd cc
      by (e ∷ es) None h = absurd cc
      by (e ∷ es) (Some r) h = absurd cc

  -- a line of a declared host
  going : (t : LineNote) (make : ℕ → Line) → ((h : ℕ) → line_told (seen_names hosts) (note_of_line (make h)) ≡ record { name = host_name (seen_names hosts) h; note = t })
      → ((h : ℕ) → behind_note (note_of_line (make h)) ≡ nothing) → ((h : ℕ) → IsEntireNote hosts (note_of_line (make h)))
      → ((h : ℕ) → untold_note (note_of_line (make h)) ≡ note_of_line (make h)) → (l : Line) → lone entries.items report (option_map make (seen_number hosts name)) ≡ Some l → Is t l
  unfolding Is
  going t make tells bare whole untold l is =
      let parts = lone_is (option_map make (seen_number hosts name)) l is in by parts.1 (seen_number hosts name) refl parts.0
    where
      by : nothing ≡ further entries.items report → (o : Option ℕ) → seen_number hosts name ≡ o → option_map make o ≡ Some l → Is t l
      by none None at e = absurd cc
      by none (Some h) at e =
          subst (Is t) (same_Some (make h) l e) (record {
            tells = record { first = tells h ∙ ap (λ (n : List ℕ). record { name = n; note = t }) (number_names hosts name h at); behind = bare h ∙ none };
            whole = whole h;
            untold = untold h;
          })

  -- a file system that a declared host made
  made_is : (p : ToldParams) (l : Line) → lone entries.items report (line_of_made hosts (seen_number hosts name) p) ≡ Some l → Is (told.Made p) l
  unfolding Is
  made_is p l is = let parts = lone_is (line_of_made hosts (seen_number hosts name) p) l is in by parts.1 (seen_number hosts name) refl parts.0
    where
      found : nothing ≡ further entries.items report → (h : ℕ) → seen_number hosts name ≡ Some h → (o : Option SeenHost) → slice_get hosts h ≡ o
          → option_map (λ (host : SeenHost). line.Made h (whole_params host.uuid p)) o ≡ Some l → Is (told.Made p) l
      found none h at None is e = absurd cc
      found none h at (Some host) is e =
          let face : slice_get (faces_of hosts) h ≡ Some (face_of host) = slice_get-map face_of hosts h ∙ ap (option_map face_of) is in
          subst (Is (told.Made p)) (same_Some _ l e) (record {
            tells = record { first = ap (λ (n : List ℕ). record { name = n; note = told.Made p }) (number_names hosts name h at); behind = none };
            whole = subst (λ (o : Option Face). OfFace o (λ f. IsWholeMade f.uuid (whole_params host.uuid p))) (sym face) (record { slots = refl; master = refl });
            untold = refl;
          })

      by : nothing ≡ further entries.items report → (o : Option ℕ) → seen_number hosts name ≡ o → line_of_made hosts o p ≡ Some l → Is (told.Made p) l
      by none None at e = absurd cc
      by none (Some h) at e = found none h at (slice_get hosts h) refl e

  -- a command that begins
  start_is : (c : ToldCommand) (l : Line) → lone entries.items report (start_line (seen_number hosts name) c) ≡ Some l → Is (told.Start c) l
  unfolding Is
  start_is c l is = by (is_told c) refl is
    where
      by : (b : Bool) → is_told c ≡ b → lone entries.items report (if b then option_map (λ h. line.Start h c) (seen_number hosts name) else None) ≡ Some l → Is (told.Start c) l
      by false whole e = absurd (cc ((lone_is None l e).0))
      by true whole e =
          going (told.Start c) (λ h. line.Start h c) (λ h. ap (λ (x : ToldCommand). record { name = host_name (seen_names hosts) h; note = told.Start x }) (command_tells c whole))
          (λ h. refl) (λ h. tt) (λ h. ap (note.Start h) (command_untold c whole)) l e

  -- an answer
  answered_is : (t : ToldAnswer) (l : Line)
      → answered_line (seen_number hosts name) (answer_with t entries report) ≡ Some l → Is (told.Answered t) l
  unfolding Is
  answered_is t l is = by (seen_number hosts name) refl (answer_with t entries report) refl is
    where
      by : (o : Option ℕ) → seen_number hosts name ≡ o → (a : Option HostAnswer) → answer_with t entries report ≡ a → answered_line o a ≡ Some l → Is (told.Answered t) l
      by None at a is e = absurd cc
      by (Some h) at None is e = absurd cc
      by (Some h) at (Some a) is e =
          let own = answer_is t entries report a is in
          subst (Is (told.Answered t)) (same_Some (line.Answered h a) l e) (record {
            tells = record {
              first = ap₂ (λ (n : List ℕ) (x : ToldAnswer). record { name = n; note = told.Answered x }) (number_names hosts name h at) own.first;
              behind = own.behind;
            };
            whole = own.whole;
            untold = refl;
          })

  -- a refusal
  refused_is : (t : ToldRefusal) (l : Line) → lone entries.items report (option_map (line.Refused name) (resolved_refusal hosts t)) ≡ Some l → Is (told.Refused t) l
  unfolding Is
  refused_is t l is = let parts = lone_is (option_map (line.Refused name) (resolved_refusal hosts t)) l is in by parts.1 (resolved_refusal hosts t) refl parts.0
    where
      by : nothing ≡ further entries.items report → (o : Option Refusal) → resolved_refusal hosts t ≡ o → option_map (line.Refused name) o ≡ Some l → Is (told.Refused t) l
      by none None at e = absurd cc
      by none (Some cause) at e =
          subst (Is (told.Refused t)) (same_Some (line.Refused name cause) l e) (record {
            tells = record { first = ap (λ (x : ToldRefusal). record { name = name; note = told.Refused x }) (cause_is hosts t cause at); behind = none };
            whole = tt;
            untold = refl;
          })

  -- a host
  host_is : (uuid : List ℕ) (l : Line) → lone entries.items report (Some (line.Host name uuid)) ≡ Some l → Is (told.Host uuid) l
  unfolding Is
  host_is uuid l is =
      let parts = lone_is (Some (line.Host name uuid)) l is in
      subst (Is (told.Host uuid)) (same_Some (line.Host name uuid) l parts.0) (record { tells = record { first = refl; behind = parts.1 }; whole = tt; untold = refl })

  line_is : (t : LineNote) (l : Line) → line_with hosts (seen_number hosts name) name t entries report ≡ Some l → Is t l
  line_is (told.Host uuid) l is = host_is uuid l is
  line_is (told.Made p) l is = made_is p l is
  line_is (told.Cut k) l is = going (told.Cut k) (λ h. line.Cut h k) (λ h. refl) (λ h. refl) (λ h. tt) (λ h. refl) l is
  line_is (told.Start c) l is = start_is c l is
  line_is told.Mark l is = going told.Mark line.Mark (λ h. refl) (λ h. refl) (λ h. tt) (λ h. refl) l is
  line_is (told.Found n) l is = going (told.Found n) (λ h. line.Found h n) (λ h. refl) (λ h. refl) (λ h. tt) (λ h. refl) l is
  line_is (told.Writes seq entry) l is = going (told.Writes seq entry) (λ h. line.Writes h seq entry) (λ h. refl) (λ h. refl) (λ h. tt) (λ h. refl) l is
  line_is (told.Answered t) l is = answered_is t l is
  line_is told.Stop l is = going told.Stop line.Stop (λ h. refl) (λ h. refl) (λ h. tt) (λ h. refl) l is
  line_is told.Halt l is = going told.Halt line.Halt (λ h. refl) (λ h. refl) (λ h. tt) (λ h. refl) l is
  line_is told.Umount l is = going told.Umount line.Umount (λ h. refl) (λ h. refl) (λ h. tt) (λ h. refl) l is
  line_is (told.Refused t) l is = refused_is t l is

-- a line that is resolved tells just what is told
pub resolved_is : (hosts : List SeenHost) (t : ToldLine) (entries : Vec Entry Global) (report : Option Report) (l : Line) → resolved hosts t entries report ≡ Some l
    → IsLine hosts t entries.items report l
unfolding Is
resolved_is hosts t entries report l is = line_is hosts t.name entries report t.note l is

-- so it is of a result
pub result_tells : (hosts : List SeenHost) (t : ToldLine) (entries : Vec Entry Global) (report : Option Report) (o : Option Line) → o ≡ resolved hosts t entries report
    → IfSome o (λ (l : Line). IsNoteOf (seen_names hosts) t (further entries.items report) (note_of_line l))
result_tells hosts t entries report None is = tt
result_tells hosts t entries report (Some l) is = (resolved_is hosts t entries report l (sym is)).tells

-- it is whole
pub result_whole : (hosts : List SeenHost) (t : ToldLine) (entries : Vec Entry Global) (report : Option Report) (o : Option Line) → o ≡ resolved hosts t entries report
    → IfSome o (λ (l : Line). IsEntireNote hosts (note_of_line l))
result_whole hosts t entries report None is = tt
result_whole hosts t entries report (Some l) is = (resolved_is hosts t entries report l (sym is)).whole

-- and nothing of it is untold
pub result_untold : (hosts : List SeenHost) (t : ToldLine) (entries : Vec Entry Global) (report : Option Report) (o : Option Line) → o ≡ resolved hosts t entries report
    → IfSome o (λ (l : Line). untold_note (note_of_line l) ≡ note_of_line l)
result_untold hosts t entries report None is = tt
result_untold hosts t entries report (Some l) is = (resolved_is hosts t entries report l (sym is)).untold
