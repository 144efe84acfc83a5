-- An event of a run, as its call tells it, from what the run began with.
use Rattle.std.proofs.Common.{◌≡◌, ℕ, ◌≤◌, inl, inr, List, [], ◌∷◌, ◌++◌, length, take, drop, Option, Result, Ok, Err, refl, ap, sym, ◌∙◌, subst, arith}
use Rattle.std.proofs.lemmas.List.{length-map}
use Rattle.fam_media.specs.Causes.{Rose}
use Rattle.fam_media.specs.Files.{Files}
use Rattle.fam_media.specs.States.{ShelfChange}
use Rattle.fam_sources.specs.declared.sourced.SourceEnd.{SourceEnd}
use Rattle.fam_sources.specs.declared.sourced.SourceEnd.TheVariants.{Faulted, Short}
use Rattle.fam_sources.specs.Sourced.{HasEndCause}
use Rattle.fam_journal.specs.declared.event.Event.{Event}
use Rattle.fam_journal.specs.Names.{AreNamed}
use Rattle.fam_journal.specs.Notes.{Note}
use Rattle.fam_outcomes.specs.Texts.{names_behind, render_behind}
use Rattle.fam_notes.specs.declared.note.Note.{Note as Kept}
use Rattle.fam_notes.specs.Notes.{note_view, notes_view}
use Rattle.fam_events.specs.WorldChange.{WorldChange}
use Rattle.fam_events.specs.declared.fault.EventFault.{EventFault}
use Rattle.fam_events.specs.declared.fault.EventFault.TheVariants as fault
use Rattle.fam_events.specs.Happens.{EventSays}

-- a count that rose since it was read last has risen since it was read first
pub rose_more : (first mid now : ℕ) → first ≤ mid → Rose mid now → Rose first now
rose_more first mid now later (inl less) = inl (omega (arith, later, less))
rose_more first mid now later (inr full) = inr full

-- from an earlier state of the shelf
pub record IsEarlier (a b : ShelfChange) : Type 0 where
  pub faults : b.old.faults ≤ a.old.faults
  pub faults_now : a.new.faults ≡ b.new.faults
  pub shorts : b.old.shorts ≤ a.old.shorts
  pub shorts_now : a.new.shorts ≡ b.new.shorts

cause_more : (a b : ShelfChange) → IsEarlier a b → (end : SourceEnd) → HasEndCause a end → HasEndCause b end
cause_more a b e Faulted cause = subst (Rose b.old.faults) e.faults_now (rose_more b.old.faults a.old.faults a.new.faults e.faults cause)
cause_more a b e (Short size got) cause = (subst (Rose b.old.shorts) e.shorts_now (rose_more b.old.shorts a.old.shorts a.new.shorts e.shorts cause.0), cause.1)

says_more : (e : Event) (a b : ShelfChange) (world_change : WorldChange) (r : Result (Unit {0}) EventFault) → IsEarlier a b → EventSays e a world_change r → EventSays e b world_change r
says_more e a b world_change (Ok x) earlier says = says
says_more e a b world_change (Err fault.MkfsFailed) earlier says = says
says_more e a b world_change (Err (fault.SourceEnded end)) earlier says = (says.0, cause_more a b earlier end says.1)
says_more e a b world_change (Err fault.OutOfMemory) earlier says = says

-- on a media of as many lines, with the same files
pub says_from : (e : Event) (a b : ShelfChange) (world_change : WorldChange) (lines : ℕ) (files : Option Files) (r : Result (Unit {0}) EventFault)
    → world_change.lines ≡ lines → world_change.files ≡ files → IsEarlier a b → EventSays e a world_change r
    → EventSays e b (record world_change { lines = lines; files = files }) r
says_from e a b world_change lines files r lines_are files_are earlier says =
    subst (λ (f : Option Files). EventSays e b (record world_change { lines = lines; files = f }) r) files_are
    (subst (λ (n : ℕ). EventSays e b (record world_change { lines = n; files = world_change.files }) r) lines_are (says_more e a b world_change r earlier says))

-- the notes that an event adds, however it ends
pub record Noted (a : WorldChange) : Type 0 where
  pub notes : List Note
  pub joined : a.new.journal ≡ a.old.journal ++ notes
  pub named : AreNamed (length a.old.hosts) notes
  pub later : a.media.old.faults ≤ a.media.new.faults

pub noted : (e : Event) (shelf : ShelfChange) (a : WorldChange) (r : Result (Unit {0}) EventFault) → EventSays e shelf a r → Noted a
noted e shelf a (Ok x) says = record { notes = says.adds.notes; joined = says.adds.joined; named = says.adds.named; later = says.adds.later }
noted e shelf a (Err fault.MkfsFailed) says = record { notes = says.adds.notes; joined = says.adds.joined; named = says.adds.named; later = says.adds.later }
noted e shelf a (Err (fault.SourceEnded end)) says = record { notes = says.0.adds.notes; joined = says.0.adds.joined; named = says.0.adds.named; later = says.0.adds.later }
noted e shelf a (Err fault.OutOfMemory) says = record { notes = says.adds.notes; joined = says.adds.joined; named = says.adds.named; later = says.adds.later }

-- Notes behind a place.

take_front : {A : Type 0} (xs ys : List A) → take (length xs) (xs ++ ys) ≡ xs
take_front [] ys = refl
take_front (x ∷ xs) ys = ap (λ zs. x ∷ zs) (take_front xs ys)

drop_front : {A : Type 0} (xs ys : List A) → drop (length xs) (xs ++ ys) ≡ ys
drop_front [] ys = refl
drop_front (x ∷ xs) ys = drop_front xs ys

module _ (kept : List Kept) (old new : List Note) (kept_is : notes_view kept ≡ old) where
  count_is : length kept ≡ length old
  count_is = sym (length-map kept note_view) ∙ ap (λ (ns : List Note). length ns) kept_is

  module _ (notes : List Note) (joined : new ≡ old ++ notes) where
    pub within : length kept ≤ length new
    within =
        let same = count_is in
        let sum = ap (λ (ns : List Note). length ns) joined ∙ Rattle.std.proofs.lemmas.List.length-append old notes in
        omega (arith, same, sum)

    pub before : take (length kept) new ≡ old
    before = ap (λ (n : ℕ). take n new) count_is ∙ ap (take (length old)) joined ∙ take_front old notes

    pub rest : drop (length kept) new ≡ notes
    rest = ap (λ (n : ℕ). drop n new) count_is ∙ ap (drop (length old)) joined ∙ drop_front old notes

    -- their text
    pub text_is : (names : List (List ℕ)) → names ≡ names_behind [] old → render_behind names (drop (length kept) new) ≡ render_behind (names_behind [] old) notes
    text_is names names_are = ap (λ (ns : List (List ℕ)). render_behind ns (drop (length kept) new)) names_are ∙ ap (render_behind (names_behind [] old)) rest
