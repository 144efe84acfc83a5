-- Journals of which a text tells all.
use Rattle.std.proofs.Common.{◌≡◌, ℕ, List, [], ◌∷◌, ◌++◌, Some, None, map, refl, ap, sym, ◌∙◌}
use Rattle.std.proofs.lemmas.Option.{same_Some}
use Rattle.fam_base.specs.declared.cmd.Cmd.{Cmd}
use Rattle.fam_base.specs.declared.cmd.Cmd.TheVariants as cmd
use Rattle.fam_base.specs.declared.cmd.Content.TheVariants as content
use Rattle.fam_journal.specs.Notes.{Note, Start}
use Rattle.fam_history.specs.Told.{told_of_command}
use Rattle.fam_judge.specs.Alike.{AreAlikeNotes, AreWhollyTold, ToldNote, told_note, whole_command, whole_note}

none_is_some : {A : Type 0} (x : A) → None ≡ Some x → ⊥
none_is_some x e = cc

-- what is told of a command is it, where all is told
pub command_back : (h : ℕ) (c : Cmd) (note : Note) → whole_command h (told_of_command c) ≡ Some note → Start h c ≡ note
command_back h cmd.Logplay note e = same_Some (Start h cmd.Logplay) note e
command_back h cmd.Mount note e = same_Some (Start h cmd.Mount) note e
command_back h cmd.Fsck note e = same_Some (Start h cmd.Fsck) note e
command_back h (cmd.Mkdir path attr) note e = same_Some (Start h (cmd.Mkdir path attr)) note e
command_back h (cmd.Creat path size attr stripe fill) note e = same_Some (Start h (cmd.Creat path size attr stripe fill)) note e
command_back h (cmd.Cp path attr stripe bytes) note e = absurd (none_is_some note e)
command_back h (cmd.Verify path content.Zero) note e = same_Some (Start h (cmd.Verify path content.Zero)) note e
command_back h (cmd.Verify path (content.Seed seed)) note e = same_Some (Start h (cmd.Verify path (content.Seed seed))) note e
command_back h (cmd.Verify path (content.Bytes bytes)) note e = absurd (none_is_some note e)
command_back h (cmd.Read path offset count) note e = same_Some (Start h (cmd.Read path offset count)) note e
command_back h (cmd.Check entries) note e = absurd (none_is_some note e)

-- so of a note
pub note_back : (m note : Note) → whole_note (told_note m) ≡ Some note → m ≡ note
note_back (Start h c) note e = command_back h c note e
note_back m note e = same_Some m note e

-- equal lists have equal first members
pub heads : (a b : ToldNote) (xs ys : List ToldNote) → a ∷ xs ≡ b ∷ ys → a ≡ b
heads a b xs ys e = cc

-- and equal rests
pub tails : (a b : ToldNote) (xs ys : List ToldNote) → a ∷ xs ≡ b ∷ ys → xs ≡ ys
tails a b xs ys e = cc

-- and the other way about
pub both : {a b : ToldNote} {xs ys : List ToldNote} → a ≡ b → xs ≡ ys → a ∷ xs ≡ b ∷ ys
both one more = cc

-- no list is empty and not
pub none_is_more : (x : ToldNote) (xs : List ToldNote) → [] ≡ x ∷ xs → ⊥
none_is_more x xs e = cc

-- so the other way round
pub more_is_none : (x : ToldNote) (xs : List ToldNote) → x ∷ xs ≡ [] → ⊥
more_is_none x xs e = cc

-- a journal of which all is told is alike to none but itself
pub alike_is : (a b : List Note) → AreWhollyTold a → AreAlikeNotes a b → a ≡ b
alike_is [] [] told same = refl
alike_is [] (n ∷ b) told same = absurd (none_is_more (told_note n) (map told_note b) same)
alike_is (m ∷ a) [] told same = absurd (more_is_none (told_note m) (map told_note a) same)
alike_is (m ∷ a) (n ∷ b) told same =
    let one : n ≡ m = note_back n m (ap whole_note (sym (heads (told_note m) (told_note n) (map told_note a) (map told_note b) same)) ∙ told.0) in
    let more : a ≡ b = alike_is a b told.1 (tails (told_note m) (told_note n) (map told_note a) (map told_note b) same) in
    ap (λ (x : Note). x ∷ a) (sym one) ∙ ap (λ (l : List Note). n ∷ l) more

-- so of both parts
pub told-append : (a b : List Note) → AreWhollyTold a → AreWhollyTold b → AreWhollyTold (a ++ b)
told-append [] b none more = more
told-append (note ∷ a) b some more = (some.0, told-append a b some.1 more)
