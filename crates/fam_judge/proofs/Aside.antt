-- What lines that give way leave of host h: it stands as it did, and its start or answer comes before them as behind them.
use Rattle.std.proofs.Common.{◌≡◌, ◌≢◌, ◌+◌, ◌<◌, ℕ, List, [], ◌∷◌, length, map, Some, None, refl, ap, ap₂, sym, ◌∙◌, subst, arith}
use Rattle.std.specs.Prelude.{⊤, Option, slice_get}
use Rattle.fam_base.specs.declared.cmd.Cmd.{Cmd}
use Rattle.fam_base.specs.Image.{Image}
use Rattle.fam_journal.specs.Calls.{has_name}
use Rattle.fam_journal.specs.Legal.{Allowed, OfHost, AnswerAllowed, WritesAllowed}
use Rattle.fam_journal.specs.Members.{changed_at}
use Rattle.fam_journal.specs.Notes.{Note, Host, Made, Cut, Start, Mark, Found, Writes, Answered, Stop, Halt, Umount, Refused}
use Rattle.fam_journal.specs.Past.{HostPast, Past, State, cmd_of, filled_bytes, past_after, past_behind, pends}
use Rattle.fam_journal.specs.Shapes.{HostShape, shapes_after, shapes_behind, shown_shape}
use Rattle.fam_journal.proofs.Calls.Members.{changed_other}
use Rattle.fam_judge.specs.Alike.{AreAlikeNotes, Begins, Tells, ToldNote, told_note}
use Rattle.fam_judge.specs.GivesWay.{GivesWay, number_named}
use Rattle.fam_judge.proofs.Members.{changed_apart, changed_append, changed_count, count_last, front_member, place_front, place_kept, place_more}
use Rattle.fam_judge.proofs.Telling.{heads, more_is_none, none_is_more, tails}

-- what is told of a line that is apart from host h, where so many hosts are declared: it is another host's, and makes no file
-- system
abbrev pub Apart : ℕ → ℕ → ToldNote → Type 0
Apart h n (Begins k cmd) = k ≢ h
Apart h n (Tells (Host name uuid)) = h < n
Apart h n (Tells (Made k p)) = ⊥
Apart h n (Tells (Cut k count)) = ⊥
Apart h n (Tells (Start k cmd)) = k ≢ h
Apart h n (Tells (Mark k)) = k ≢ h
Apart h n (Tells (Found k count)) = k ≢ h
Apart h n (Tells (Writes k seq entry)) = k ≢ h
Apart h n (Tells (Answered k answer)) = k ≢ h
Apart h n (Tells (Stop k)) = k ≢ h
Apart h n (Tells (Halt k)) = k ≢ h
Apart h n (Tells (Umount k)) = k ≢ h
Apart h n (Tells (Refused name cause)) = ⊤

-- a line that gives way is
pub way_apart : (h : ℕ) (hosts : List HostShape) (y : Note) → GivesWay h hosts y → Apart h (length hosts) (told_note y)
way_apart h hosts (Refused name cause) way = tt
way_apart h hosts y way = way

-- Shapes.

module _ (h : ℕ) (hosts : List HostShape) where
  -- host h stands as it did
  pub shape_aside : (y : Note) → Apart h (length hosts) (told_note y) → slice_get (shapes_after hosts y) h ≡ slice_get hosts h
  shape_aside (Host name uuid) way = front_member h hosts _ way
  shape_aside (Made k p) way = absurd way
  shape_aside (Cut k n) way = absurd way
  shape_aside (Start k cmd) way = changed_other k h _ hosts (λ e. way (sym e))
  shape_aside (Mark k) way = changed_other k h _ hosts (λ e. way (sym e))
  shape_aside (Found k n) way = changed_other k h _ hosts (λ e. way (sym e))
  shape_aside (Writes k seq entry) way = changed_other k h _ hosts (λ e. way (sym e))
  shape_aside (Answered k answer) way = changed_other k h _ hosts (λ e. way (sym e))
  shape_aside (Stop k) way = changed_other k h _ hosts (λ e. way (sym e))
  shape_aside (Halt k) way = changed_other k h _ hosts (λ e. way (sym e))
  shape_aside (Umount k) way = changed_other k h _ hosts (λ e. way (sym e))
  shape_aside (Refused name cause) way = refl

  -- a change of host h comes in either order
  pub shape_order : (f : HostShape → HostShape) (y : Note) → Apart h (length hosts) (told_note y)
      → changed_at h f (shapes_after hosts y) ≡ shapes_after (changed_at h f hosts) y
  shape_order f (Host name uuid) way = changed_append h f hosts _ way
  shape_order f (Made k p) way = absurd way
  shape_order f (Cut k n) way = absurd way
  shape_order f (Start k cmd) way = changed_apart h k f _ hosts (λ e. way (sym e))
  shape_order f (Mark k) way = changed_apart h k f _ hosts (λ e. way (sym e))
  shape_order f (Found k n) way = changed_apart h k f _ hosts (λ e. way (sym e))
  shape_order f (Writes k seq entry) way = changed_apart h k f _ hosts (λ e. way (sym e))
  shape_order f (Answered k answer) way = changed_apart h k f _ hosts (λ e. way (sym e))
  shape_order f (Stop k) way = changed_apart h k f _ hosts (λ e. way (sym e))
  shape_order f (Halt k) way = changed_apart h k f _ hosts (λ e. way (sym e))
  shape_order f (Umount k) way = changed_apart h k f _ hosts (λ e. way (sym e))
  shape_order f (Refused name cause) way = refl

  -- the name is its own behind the line, and before it
  pub number_before : (name : List ℕ) (y : Note) → Apart h (length hosts) (told_note y) → number_named name (shapes_after hosts y) ≡ Some h → number_named name hosts ≡ Some h
  number_before name (Host own uuid) way e = place_front shown_shape (has_name name) hosts _ 0 h (omega (arith, way)) e
  number_before name (Made k p) way e = absurd way
  number_before name (Cut k n) way e = absurd way
  number_before name (Start k cmd) way e = sym (place_kept shown_shape (has_name name) k _ (λ x. refl) hosts 0) ∙ e
  number_before name (Mark k) way e = sym (place_kept shown_shape (has_name name) k _ (λ x. refl) hosts 0) ∙ e
  number_before name (Found k n) way e = sym (place_kept shown_shape (has_name name) k _ (λ x. refl) hosts 0) ∙ e
  number_before name (Writes k seq entry) way e = sym (place_kept shown_shape (has_name name) k _ (λ x. refl) hosts 0) ∙ e
  number_before name (Answered k answer) way e = sym (place_kept shown_shape (has_name name) k _ (λ x. refl) hosts 0) ∙ e
  number_before name (Stop k) way e = sym (place_kept shown_shape (has_name name) k _ (λ x. refl) hosts 0) ∙ e
  number_before name (Halt k) way e = sym (place_kept shown_shape (has_name name) k _ (λ x. refl) hosts 0) ∙ e
  number_before name (Umount k) way e = sym (place_kept shown_shape (has_name name) k _ (λ x. refl) hosts 0) ∙ e
  number_before name (Refused own cause) way e = e

  -- and before it, behind it
  pub number_behind : (name : List ℕ) (y : Note) → Apart h (length hosts) (told_note y) → number_named name hosts ≡ Some h → number_named name (shapes_after hosts y) ≡ Some h
  number_behind name (Host own uuid) way e = place_more shown_shape (has_name name) hosts _ 0 h e
  number_behind name (Made k p) way e = absurd way
  number_behind name (Cut k n) way e = absurd way
  number_behind name (Start k cmd) way e = place_kept shown_shape (has_name name) k _ (λ x. refl) hosts 0 ∙ e
  number_behind name (Mark k) way e = place_kept shown_shape (has_name name) k _ (λ x. refl) hosts 0 ∙ e
  number_behind name (Found k n) way e = place_kept shown_shape (has_name name) k _ (λ x. refl) hosts 0 ∙ e
  number_behind name (Writes k seq entry) way e = place_kept shown_shape (has_name name) k _ (λ x. refl) hosts 0 ∙ e
  number_behind name (Answered k answer) way e = place_kept shown_shape (has_name name) k _ (λ x. refl) hosts 0 ∙ e
  number_behind name (Stop k) way e = place_kept shown_shape (has_name name) k _ (λ x. refl) hosts 0 ∙ e
  number_behind name (Halt k) way e = place_kept shown_shape (has_name name) k _ (λ x. refl) hosts 0 ∙ e
  number_behind name (Umount k) way e = place_kept shown_shape (has_name name) k _ (λ x. refl) hosts 0 ∙ e
  number_behind name (Refused own cause) way e = e

-- Pasts.

-- pasts of one image that are the same
pub same_past : (start : Image) (s t : State) (a b : List HostPast) → s ≡ t → a ≡ b
    → ◌≡◌ {A = Past} (record { start = start; state = s; hosts = a }) (record { start = start; state = t; hosts = b })
same_past start s t a b states hosts = ap₂ (λ x l. let past : Past = record { start = start; state = x; hosts = l } in past) states hosts

module _ (h : ℕ) (cmd : Cmd) (past : Past) where
  abbrev begins : HostPast → HostPast
  begins x = record x { cmd = Some cmd; floor = None; wrote = None }

  -- a start comes in either order
  pub start_order : (y : Note) → Apart h (length past.hosts) (told_note y) → past_after (past_after past y) (Start h cmd) ≡ past_after (past_after past (Start h cmd)) y
  start_order (Host name uuid) way = same_past past.start _ _ _ _ refl (changed_append h begins past.hosts _ way)
  start_order (Made k p) way = absurd way
  start_order (Cut k n) way = absurd way
  start_order (Start k other) way = same_past past.start _ _ _ _ refl (changed_apart h k begins _ past.hosts (λ e. way (sym e)))
  start_order (Mark k) way = same_past past.start _ _ _ _ refl (changed_apart h k begins _ past.hosts (λ e. way (sym e)))
  start_order (Found k n) way = refl
  start_order (Writes k seq entry) way =
      same_past past.start _ _ _ _
      (ap (λ (o : Option HostPast). pends (record { entry = entry; bytes = filled_bytes (cmd_of o) entry.size }) past.state) (sym (changed_other h k begins past.hosts way)))
      (changed_apart h k begins _ past.hosts (λ e. way (sym e)))
  start_order (Answered k answer) way = refl
  start_order (Stop k) way = refl
  start_order (Halt k) way = refl
  start_order (Umount k) way = refl
  start_order (Refused name cause) way = refl

  -- behind a start the others may note what they might before it
  pub start_allows : (y : Note) → Apart h (length past.hosts) (told_note y) → Allowed past y → Allowed (past_after past (Start h cmd)) y
  start_allows (Found k n) way allowed = allowed
  start_allows (Writes k seq entry) way allowed =
      subst (λ (o : Option HostPast). OfHost o (λ host. WritesAllowed seq entry host past.state)) (sym (changed_other h k begins past.hosts way)) allowed
  start_allows (Answered k answer) way allowed =
      subst (λ (o : Option HostPast). OfHost o (λ host. AnswerAllowed answer host past.state)) (sym (changed_other h k begins past.hosts way)) allowed
  start_allows y way allowed = tt

-- Counts.

-- how many hosts are declared behind a line
abbrev count_after : ℕ → ToldNote → ℕ
count_after n (Begins k cmd) = n
count_after n (Tells (Host name uuid)) = n + 1
count_after n (Tells note) = n

past_count : (past : Past) (y : Note) → length (past_after past y).hosts ≡ count_after (length past.hosts) (told_note y)
past_count past (Host name uuid) = count_last past.hosts _
past_count past (Start k cmd) = changed_count k _ past.hosts
past_count past (Mark k) = changed_count k _ past.hosts
past_count past (Writes k seq entry) = changed_count k _ past.hosts
past_count past y = refl

shape_count : (hosts : List HostShape) (y : Note) → length (shapes_after hosts y) ≡ count_after (length hosts) (told_note y)
shape_count hosts (Host name uuid) = count_last hosts _
shape_count hosts (Made k p) = refl
shape_count hosts (Cut k n) = refl
shape_count hosts (Start k cmd) = changed_count k _ hosts
shape_count hosts (Mark k) = changed_count k _ hosts
shape_count hosts (Found k n) = changed_count k _ hosts
shape_count hosts (Writes k seq entry) = changed_count k _ hosts
shape_count hosts (Answered k answer) = changed_count k _ hosts
shape_count hosts (Stop k) = changed_count k _ hosts
shape_count hosts (Halt k) = changed_count k _ hosts
shape_count hosts (Umount k) = changed_count k _ hosts
shape_count hosts (Refused name cause) = refl

-- journals that tell the same declare as many
pub counts_alike : (a b : List Note) → AreAlikeNotes a b → (past : Past) (hosts : List HostShape) → length past.hosts ≡ length hosts
    → length (past_behind past b).hosts ≡ length (shapes_behind hosts a)
counts_alike [] [] alike past hosts same = same
counts_alike [] (n ∷ b) alike past hosts same = absurd (none_is_more (told_note n) (map told_note b) alike)
counts_alike (m ∷ a) [] alike past hosts same = absurd (more_is_none (told_note m) (map told_note a) alike)
counts_alike (m ∷ a) (n ∷ b) alike past hosts same =
    let one : told_note m ≡ told_note n = heads (told_note m) (told_note n) (map told_note a) (map told_note b) alike in
    counts_alike a b (tails (told_note m) (told_note n) (map told_note a) (map told_note b) alike) (past_after past n) (shapes_after hosts m)
    (past_count past n ∙ ap₂ count_after same (sym one) ∙ sym (shape_count hosts m))
