-- Notes without what isn't told: they are the same where notes tell the same.
use Rattle.std.proofs.Common.{◌≡◌, ℕ, List, [], ◌∷◌, length, map, refl, ap, ap₂, sym, ◌∙◌}
use Rattle.std.specs.Prelude.{replicate}
use Rattle.std.proofs.lemmas.List.{length-replicate}
use Rattle.fam_base.specs.declared.cmd.Cmd.{Cmd}
use Rattle.fam_base.specs.declared.cmd.Cmd.TheVariants as cmd
use Rattle.fam_base.specs.declared.cmd.Content.TheVariants as content
use Rattle.fam_history.specs.declared.command.ToldCommand.{ToldCommand}
use Rattle.fam_history.specs.declared.command.ToldCommand.TheVariants as told
use Rattle.fam_history.specs.Told.{told_of_command}
use Rattle.fam_rules.specs.Decide.{wish_of}
use Rattle.fam_journal.specs.Notes.{Note, Start}
use Rattle.fam_judge.specs.Alike.{AreAlikeNotes, Begins, Tells, ToldNote, told_note}
use Rattle.fam_judge.specs.Untold.{untold, untold_cmd, untold_entry, untold_note, untold_notes}

-- what is told, with bytes and entries that stand for those that aren't
abbrev standing : ToldCommand → Cmd
standing (told.Plain c) = c
standing (told.Cp path size attr stripe) = cmd.Cp path attr stripe (replicate size untold)
standing (told.VerifySource path count) = cmd.Verify path (content.Bytes (replicate count untold))
standing (told.Check count) = cmd.Check (replicate count untold_entry)

-- so of a note
abbrev standing_note : ToldNote → Note
standing_note (Begins h c) = Start h (standing c)
standing_note (Tells note) = note

cmd_standing : (c : Cmd) → untold_cmd c ≡ standing (told_of_command c)
cmd_standing (cmd.Verify path content.Zero) = refl
cmd_standing (cmd.Verify path (content.Seed seed)) = refl
cmd_standing (cmd.Verify path (content.Bytes bytes)) = refl
cmd_standing c = refl

note_standing : (note : Note) → untold_note note ≡ standing_note (told_note note)
note_standing (Start h c) = ap (Start h) (cmd_standing c)
note_standing note = refl

notes_standing : (notes : List Note) → untold_notes notes ≡ map standing_note (map told_note notes)
notes_standing [] = refl
notes_standing (note ∷ notes) = ap₂ (λ (n : Note) (l : List Note). n ∷ l) (note_standing note) (notes_standing notes)

-- notes that tell the same are the same without what isn't told
pub alike_untold : (a b : Note) → told_note a ≡ told_note b → untold_note a ≡ untold_note b
alike_untold a b same = note_standing a ∙ ap standing_note same ∙ sym (note_standing b)

-- so of journals
pub alike_notes_untold : (a b : List Note) → AreAlikeNotes a b → untold_notes a ≡ untold_notes b
alike_notes_untold a b same = notes_standing a ∙ ap (map standing_note) same ∙ sym (notes_standing b)

told_standing : (c : Cmd) → told_of_command (untold_cmd c) ≡ told_of_command c
told_standing (cmd.Cp path attr stripe bytes) = ap (λ (n : ℕ). told.Cp path n attr stripe) (length-replicate (length bytes) untold)
told_standing (cmd.Verify path content.Zero) = refl
told_standing (cmd.Verify path (content.Seed seed)) = refl
told_standing (cmd.Verify path (content.Bytes bytes)) = ap (told.VerifySource path) (length-replicate (length bytes) untold)
told_standing (cmd.Check listing) = ap told.Check (length-replicate (length listing) untold_entry)
told_standing c = refl

-- a note tells the same without what isn't told
pub untold_alike : (note : Note) → told_note (untold_note note) ≡ told_note note
untold_alike (Start h c) = ap (Begins h) (told_standing c)
untold_alike note = refl

notes_alike : (notes : List Note) → map told_note (untold_notes notes) ≡ map told_note notes
notes_alike [] = refl
notes_alike (note ∷ notes) = ap₂ (λ (n : ToldNote) (l : List ToldNote). n ∷ l) (untold_alike note) (notes_alike notes)

-- so journals tell the same that are the same without it
pub untold_notes_alike : (a b : List Note) → untold_notes a ≡ untold_notes b → AreAlikeNotes a b
untold_notes_alike a b same = sym (notes_alike a) ∙ ap (map told_note) same ∙ notes_alike b

-- what a command wants to append doesn't go by bytes
pub untold_wish : (c : Cmd) → wish_of (untold_cmd c) ≡ wish_of c
untold_wish (cmd.Cp path attr stripe bytes) =
    ap (λ (n : ℕ). wish_of (cmd.Creat path n attr stripe content.Zero)) (length-replicate (length bytes) untold)
untold_wish c = refl

untold_again : (c : Cmd) → untold_cmd (untold_cmd c) ≡ untold_cmd c
untold_again (cmd.Cp path attr stripe bytes) =
    ap (λ (n : ℕ). cmd.Cp path attr stripe (replicate n untold)) (length-replicate (length bytes) untold)
untold_again (cmd.Verify path content.Zero) = refl
untold_again (cmd.Verify path (content.Seed seed)) = refl
untold_again (cmd.Verify path (content.Bytes bytes)) =
    ap (λ (n : ℕ). cmd.Verify path (content.Bytes (replicate n untold))) (length-replicate (length bytes) untold)
untold_again (cmd.Check listing) = ap (λ (n : ℕ). cmd.Check (replicate n untold_entry)) (length-replicate (length listing) untold_entry)
untold_again c = refl

-- what isn't told is left out once
pub untold_twice : (a b : Cmd) → a ≡ untold_cmd b → untold_cmd a ≡ untold_cmd b
untold_twice a b same = ap untold_cmd same ∙ untold_again b

-- commands that tell the same want the same
pub same_wish : (a b : Cmd) → untold_cmd a ≡ untold_cmd b → wish_of a ≡ wish_of b
same_wish a b same = sym (untold_wish a) ∙ ap wish_of same ∙ untold_wish b
