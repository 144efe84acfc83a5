-- The events of commands of their own, and directories along a path.
use Prim.Native.Nat.{zero, suc}
use Rattle.std.proofs.Common.{◌≡◌, ℕ, ◌≤◌, Bool, true, false, cond, List, [], ◌∷◌, ◌++◌, map, Some, refl, sym, subst}
use Rattle.std.specs.Prelude.{◌==◌, slice_get}
use Rattle.std.proofs.lemmas.Option.{same_Some}
use Rattle.fam_base.specs.declared.cmd.Attr.{Attr}
use Rattle.fam_base.specs.declared.cmd.Cmd.TheVariants as cmd
use Rattle.fam_base.specs.Commands.{mode_limit}
use Rattle.fam_base.specs.Paths.{slash}
use Rattle.fam_journal.specs.declared.event.Ask.{Ask}
use Rattle.fam_journal.specs.declared.event.Ask.TheVariants as ask
use Rattle.fam_journal.specs.declared.event.Event.{Event}
use Rattle.fam_journal.specs.declared.event.Event.TheVariants as event
use Rattle.fam_journal.specs.Ends.{MkfsFails}
use Rattle.fam_journal.specs.EventShapes.{EventBreaksShape, FollowsShape}
use Rattle.fam_journal.specs.Shapes.{HostShape, shapes_behind}
use Rattle.fam_journal.specs.Notes.{Note}
use Rattle.fam_outcomes.specs.Programs.{MakesParents, OneShot, ends_command, last_passes, path_prefixes, prefixes_behind, shot_events}
use Rattle.fam_outcomes.specs.Runs.{Outside}
use Rattle.fam_outcomes.specs.Statuses.{last_stops}
use Rattle.fam_program.specs.Far.{AreSoundEvents}
use Rattle.fam_program.specs.Unprinted.{AreShotEvents, HasStopped}
use Rattle.fam_program.specs.Runs.{HasEnded}
use Rattle.fam_program.proofs.Commands.LastNotes.{behind_first, runs_end, stopped_end}

-- the host is declared, and does what is asked of it
abbrev pub alone_events : List ℕ → List ℕ → OneShot → List Event
alone_events name me shot = event.Host name me ∷ shot_events name shot

-- Directories along a path.

-- each path's command, and its event
abbrev pub makes_one : Attr → List ℕ → Ask
makes_one attr path = ask.Plain (cmd.Mkdir path attr)

abbrev pub makes : List ℕ → Attr → List ℕ → Event
makes name attr path = event.Run name (makes_one attr path)

all_sound : (name : List ℕ) (attr : Attr) (paths : List (List ℕ)) → attr.mode ≤ mode_limit → AreSoundEvents (map (makes name attr) paths)
all_sound name attr [] mode = tt
all_sound name attr (path ∷ paths) mode = (mode, all_sound name attr paths mode)

all_shot : (name : List ℕ) (attr : Attr) (paths : List (List ℕ)) → AreShotEvents (map (makes name attr) paths)
all_shot name attr [] = tt
all_shot name attr (path ∷ paths) = (tt, all_shot name attr paths)

pub parents_sound : (name me path : List ℕ) (attr : Attr) → attr.mode ≤ mode_limit → AreSoundEvents (alone_events name me (MakesParents path attr))
parents_sound name me path attr mode = (tt, all_sound name attr (path_prefixes path) mode)

pub parents_shot : (name me path : List ℕ) (attr : Attr) → AreShotEvents (alone_events name me (MakesParents path attr))
parents_shot name me path attr = (tt, all_shot name attr (path_prefixes path))

-- a path has a first prefix
record HasFirst (paths : List (List ℕ)) : Type 0 where
  first : List ℕ
  more : List (List ℕ)
  is : paths ≡ first ∷ more

has_first : (prefix path : List ℕ) → HasFirst (prefixes_behind prefix path)
has_first prefix [] = record { first = prefix; more = []; is = refl }
has_first prefix (byte ∷ bytes) = by_test (byte == slash) (has_first (prefix ++ byte ∷ []) bytes)
  where
    by_test : (t : Bool) → HasFirst (prefixes_behind (prefix ++ byte ∷ []) bytes)
        → HasFirst (cond t (prefix ∷ prefixes_behind (prefix ++ byte ∷ []) bytes) (prefixes_behind (prefix ++ byte ∷ []) bytes))
    by_test true later = record { first = prefix; more = prefixes_behind (prefix ++ byte ∷ []) bytes; is = refl }
    by_test false later = later

-- the last note is an answer or a refusal
pub parents_end : (name me path : List ℕ) (attr : Attr) (out : Outside) (journal : List Note)
    → HasStopped out (alone_events name me (MakesParents path attr)) journal → last_passes ends_command journal ≡ true
parents_end name me path attr out journal x = by_stop (last_stops journal) refl
  where
    first : HasFirst (path_prefixes path)
    first = has_first [] path

    each : (hosts : List HostShape) (notes : List Note) → FollowsShape out.lines (shot_events name (MakesParents path attr)) hosts notes → last_passes ends_command notes ≡ true
    each hosts notes f =
        runs_end name (makes_one attr) first.first first.more out.lines hosts notes
        (subst (λ (ps : List (List ℕ)). FollowsShape out.lines (map (makes name attr) ps) hosts notes) first.is f)

    by_stop : (t : Bool) → last_stops journal ≡ t → last_passes ends_command journal ≡ true
    by_stop true is = stopped_end journal is
    by_stop false is =
        behind_first ends_command (event.Host name me) (shot_events name (MakesParents path attr)) out.lines [] journal each
        (subst (λ (es : List Event). FollowsShape out.lines es [] journal) (x.all is) x.ended.shape)

-- Commands alone make no file system.

none_at : {A : Type 0} (name : List ℕ) (asks : A → Ask) (xs : List A) (k : ℕ) (e : Event) (lines : ℕ) (hosts : List HostShape) (notes : List Note)
    → slice_get (map (λ x. event.Run name (asks x)) xs) k ≡ Some e → EventBreaksShape e lines hosts notes → ⊥
none_at name asks [] k e lines hosts notes is x = absurd cc
none_at name asks (a ∷ xs) zero e lines hosts notes is x = subst (λ (z : Event). EventBreaksShape z lines hosts notes) (sym (same_Some (event.Run name (asks a)) e is)) x
none_at name asks (a ∷ xs) (suc k) e lines hosts notes is x = none_at name asks xs k e lines hosts notes is x

behind_host : {A : Type 0} (name me : List ℕ) (asks : A → Ask) (xs : List A) (k : ℕ) (e : Event) (lines : ℕ) (hosts : List HostShape)
    (notes : List Note) → slice_get (event.Host name me ∷ map (λ x. event.Run name (asks x)) xs) k ≡ Some e → EventBreaksShape e lines hosts notes → ⊥
behind_host name me asks xs zero e lines hosts notes is x = subst (λ (z : Event). EventBreaksShape z lines hosts notes) (sym (same_Some (event.Host name me) e is)) x
behind_host name me asks xs (suc k) e lines hosts notes is x = none_at name asks xs k e lines hosts notes is x

pub none_breaks : {A : Type 0} (name me : List ℕ) (asks : A → Ask) (xs : List A) (out : Outside) (journal : List Note)
    → HasEnded MkfsFails out (event.Host name me ∷ map (λ x. event.Run name (asks x)) xs) journal → ⊥
none_breaks name me asks xs out journal x = behind_host name me asks xs x.shape.count x.shape.event out.lines (shapes_behind [] x.shape.whole_notes) x.shape.part_notes x.shape.is x.shape.part
