-- The state of hosts behind notes is what the folds of a journal tell.
use Rattle.std.proofs.Common.{◌≡◌, ℕ, List, [], ◌∷◌, ◌++◌, map, refl, ap, ◌∙◌}
use Rattle.std.proofs.lemmas.List.{map-append}
use Rattle.fam_base.specs.Image.{Image}
use Rattle.fam_journal.specs.Notes.{Note, Host, Made, Cut, Start, Mark, Found, Writes, Answered, Stop, Halt, Umount, Refused}
use Rattle.fam_journal.specs.Past.{HostPast, Past, hosts_after, past_after, past_behind, past_of, settled_length, state_after}
use Rattle.fam_journal.specs.Shapes.{HostShape, shapes_after, shapes_behind, shapes_of}
use Rattle.fam_judge.specs.Covering.{behind, possible_behind}
use Rattle.fam_judge.specs.Possible.{Possible, Progress, after_note, first_possible, past_in, progress_after, shapes_in}
use Rattle.fam_judge.proofs.Members.{changed_same, map_changed}
use Rattle.fam_journal.specs.Members.{changed_at}

-- what is known of a host
abbrev pub told_in : Progress → HostPast
told_in p = p.told

-- how far it has come
abbrev pub shape_in : Progress → HostShape
shape_in p = p.shape

-- a change that isn't seen
unseen : {A B : Type 0} (g : A → B) (h : ℕ) (f : A → A) → ((x : A) → g (f x) ≡ g x) → (xs : List A) → map g (changed_at h f xs) ≡ map g xs
unseen g h f same xs = map_changed g h f (λ y. y) same xs ∙ changed_same h (λ y. y) (map g xs) (λ y is. refl)

-- the hosts, as the past has them
pub told_after : (start : Image) (x : Possible) (y : Note) → map told_in (progress_after (settled_length x.state) x.hosts y) ≡ hosts_after (past_in start x) y
told_after start x (Host name uuid) = map-append told_in x.hosts _
told_after start x (Made h p) = refl
told_after start x (Cut h k) = refl
told_after start x (Start h cmd) = map_changed told_in h _ _ (λ p. refl) x.hosts
told_after start x (Mark h) = map_changed told_in h _ _ (λ p. refl) x.hosts
told_after start x (Found h n) = unseen told_in h _ (λ p. refl) x.hosts
told_after start x (Writes h seq e) = map_changed told_in h _ _ (λ p. refl) x.hosts
told_after start x (Answered h answer) = unseen told_in h _ (λ p. refl) x.hosts
told_after start x (Stop h) = unseen told_in h _ (λ p. refl) x.hosts
told_after start x (Halt h) = unseen told_in h _ (λ p. refl) x.hosts
told_after start x (Umount h) = unseen told_in h _ (λ p. refl) x.hosts
told_after start x (Refused name cause) = refl

-- and as shapes have them
pub shape_after : (x : Possible) (y : Note) → map shape_in (progress_after (settled_length x.state) x.hosts y) ≡ shapes_after (shapes_in x) y
shape_after x (Host name uuid) = map-append shape_in x.hosts _
shape_after x (Made h p) = refl
shape_after x (Cut h k) = refl
shape_after x (Start h cmd) = map_changed shape_in h _ _ (λ p. refl) x.hosts
shape_after x (Mark h) = map_changed shape_in h _ _ (λ p. refl) x.hosts
shape_after x (Found h n) = map_changed shape_in h _ _ (λ p. refl) x.hosts
shape_after x (Writes h seq e) = map_changed shape_in h _ _ (λ p. refl) x.hosts
shape_after x (Answered h answer) = map_changed shape_in h _ _ (λ p. refl) x.hosts
shape_after x (Stop h) = map_changed shape_in h _ _ (λ p. refl) x.hosts
shape_after x (Halt h) = map_changed shape_in h _ _ (λ p. refl) x.hosts
shape_after x (Umount h) = map_changed shape_in h _ _ (λ p. refl) x.hosts
shape_after x (Refused name cause) = refl

-- so of the past
pub past_after_is : (start : Image) (x : Possible) (y : Note) → past_in start (after_note start x y) ≡ past_after (past_in start x) y
past_after_is start x y =
    ap (λ (hosts : List HostPast). let p : Past = record { start = start; state = state_after (past_in start x) y; hosts = hosts } in p) (told_after start x y)

past_from : (start : Image) (x : Possible) (notes : List Note) → past_in start (behind start x notes) ≡ past_behind (past_in start x) notes
past_from start x [] = refl
past_from start x (y ∷ notes) = past_from start (after_note start x y) notes ∙ ap (λ (p : Past). past_behind p notes) (past_after_is start x y)

shapes_from : (start : Image) (x : Possible) (notes : List Note) → shapes_in (behind start x notes) ≡ shapes_behind (shapes_in x) notes
shapes_from start x [] = refl
shapes_from start x (y ∷ notes) = shapes_from start (after_note start x y) notes ∙ ap (λ (s : List HostShape). shapes_behind s notes) (shape_after x y)

-- its past is the journal's
pub past_is : (start : Image) (journal : List Note) → past_in start (possible_behind start journal) ≡ past_of start journal
past_is start journal = past_from start (first_possible start) journal

-- and so are its shapes
pub shapes_are : (start : Image) (journal : List Note) → shapes_in (possible_behind start journal) ≡ shapes_of journal
shapes_are start journal = shapes_from start (first_possible start) journal

-- one note more
pub behind_more : (start : Image) (x : Possible) (notes : List Note) (y : Note) → behind start x (notes ++ y ∷ []) ≡ after_note start (behind start x notes) y
behind_more start x [] y = refl
behind_more start x (first ∷ notes) y = behind_more start (after_note start x first) notes y

-- and more of them
pub behind_both : (start : Image) (x : Possible) (a b : List Note) → behind start x (a ++ b) ≡ behind start (behind start x a) b
behind_both start x [] b = refl
behind_both start x (y ∷ a) b = behind_both start (after_note start x y) a b
