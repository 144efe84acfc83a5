-- Journals whose notes stand in the table: one that tells the same has the form of the tables.
use Rattle.std.proofs.Common.{◌≡◌, inl, inr, ℕ, List, [], ◌∷◌, ◌++◌, length, map, Option, Some, None, refl, ap, ap₂, sym, ◌∙◌, subst}
use Rattle.std.specs.Prelude.{IsTrue, option_map}
use Rattle.std.proofs.lemmas.List.{map-append}
use Rattle.fam_base.specs.Image.{Image}
use Rattle.fam_journal.specs.Legal.{Allowed}
use Rattle.fam_journal.specs.Notes.{Note, Host, Made, Cut, Start, Mark, Found, Writes, Answered, Stop, Halt, Umount, Refused}
use Rattle.fam_journal.specs.Past.{Past, past_of}
use Rattle.fam_journal.specs.Shapes.{CommandStage, HostShape, Marked, Met, Named, TaskShape, shapes_after, shapes_behind, with_stage}
use Rattle.fam_judge.specs.Alike.{AreAlikeNotes, ToldNote, told_note, whole_note}
use Rattle.fam_judge.specs.Explained.{AreAllowedForSome, IsExplained}
use Rattle.fam_judge.specs.Formed.{AreFormed}
use Rattle.fam_judge.specs.Shows.{ShowsJournal, is_inner}
use Rattle.fam_judge.specs.Standing.{AreDistinctHosts, AreStanding, faces}
use Rattle.fam_judge.specs.ToldHosts.{ToldHost, ToldTask, told_after, told_hosts_behind, told_host, told_hosts, told_task, with_told_stage}
use Rattle.fam_judge.proofs.Members.{map_changed}
use Rattle.fam_judge.proofs.Standing.Alike.{stands_alike}
use Rattle.fam_judge.proofs.Standing.Distinct.{distinct_after, distinct_none}
use Rattle.fam_judge.proofs.Standing.Formed.{formed_stands}
use Rattle.fam_judge.proofs.Standing.Stands.{stands_formed}
use Rattle.fam_judge.proofs.Swapping.{alike_both, one_alike}
use Rattle.fam_judge.proofs.Telling.{both, heads, more_is_none, none_is_more, note_back, tails}

-- What is told of the hosts.

staged : (stage : CommandStage) (x : HostShape) → told_host (with_stage stage x) ≡ with_told_stage stage (told_host x)
staged stage x = ap (λ (o : Option ToldTask). let h : ToldHost = record { name = x.name; uuid = x.uuid; task = o; keeps = x.keeps } in h) (by x.task)
  where
    by : (o : Option TaskShape) → option_map told_task (option_map (λ (t : TaskShape). record t { stage = stage }) o)
        ≡ option_map (λ (t : ToldTask). record t { stage = stage }) (option_map told_task o)
    by None = refl
    by (Some t) = refl

-- behind a note it is by what is told of the note
pub after_told : (hosts : List HostShape) (y : Note) → told_hosts (shapes_after hosts y) ≡ told_after (told_hosts hosts) (told_note y)
after_told hosts (Host name uuid) = map-append told_host hosts _
after_told hosts (Made h p) = refl
after_told hosts (Cut h k) = refl
after_told hosts (Start h cmd) = map_changed told_host h _ _ (λ x. refl) hosts
after_told hosts (Mark h) = map_changed told_host h (with_stage Marked) (with_told_stage Marked) (staged Marked) hosts
after_told hosts (Found h n) = map_changed told_host h (with_stage (Met n)) (with_told_stage (Met n)) (staged (Met n)) hosts
after_told hosts (Writes h seq entry) = map_changed told_host h (with_stage (Named seq)) (with_told_stage (Named seq)) (staged (Named seq)) hosts
after_told hosts (Answered h answer) = map_changed told_host h _ _ (λ x. refl) hosts
after_told hosts (Stop h) = map_changed told_host h _ _ (λ x. refl) hosts
after_told hosts (Halt h) = map_changed told_host h _ _ (λ x. refl) hosts
after_told hosts (Umount h) = map_changed told_host h _ _ (λ x. refl) hosts
after_told hosts (Refused name cause) = refl

-- behind some notes
pub behind_told : (notes : List Note) (hosts : List HostShape) → told_hosts (shapes_behind hosts notes) ≡ told_hosts_behind (told_hosts hosts) (map told_note notes)
behind_told [] hosts = refl
behind_told (y ∷ notes) hosts = behind_told notes (shapes_after hosts y) ∙ ap (λ (l : List ToldHost). told_hosts_behind l (map told_note notes)) (after_told hosts y)

-- Journals.

-- notes that have the form of the tables stand
pub all_stand : (lines : ℕ) (notes : List Note) (hosts : List HostShape) → AreFormed lines hosts notes → AreStanding lines hosts notes
all_stand lines [] hosts formed = tt
all_stand lines (y ∷ notes) hosts formed = (formed_stands lines hosts y formed.0, all_stand lines notes (shapes_after hosts y) formed.1)

-- where notes stand, some that tell the same have the form of the tables
pub all_formed : (lines : ℕ) (notes : List Note) (a b : List HostShape) → told_hosts a ≡ told_hosts b → AreDistinctHosts (faces b) → AreStanding lines a notes
    → (other : List Note) × AreAlikeNotes notes other × AreFormed lines b other
all_formed lines [] a b alike distinct is = ([], refl, tt)
all_formed lines (y ∷ notes) a b alike distinct is =
    let one = stands_formed lines b distinct y (stands_alike lines a b alike y is.0) in
    let behind : told_hosts (shapes_after a y) ≡ told_hosts (shapes_after b one.chosen) =
    after_told a y ∙ ap₂ (λ (l : List ToldHost) (t : ToldNote). told_after l t) alike (sym one.alike) ∙ sym (after_told b one.chosen) in
    let rest = all_formed lines notes (shapes_after a y) (shapes_after b one.chosen) behind (distinct_after lines b one.chosen distinct one.formed) is.1 in
    (one.chosen ∷ rest.0, both (sym one.alike) rest.1, (one.formed, rest.2))

-- so of a whole journal
pub journal_formed : (lines : ℕ) (journal : List Note) → AreStanding lines [] journal → (other : List Note) × AreAlikeNotes journal other × AreFormed lines [] other
journal_formed lines journal is = all_formed lines journal [] [] refl distinct_none is

-- Histories.

-- whether a note may be left out is told
inner_told : (x y : Note) → told_note x ≡ told_note y → IsTrue (is_inner x) → IsTrue (is_inner y)
inner_told (Start h c) y e inner = absurd cc
inner_told x y e inner = subst (λ (z : Note). IsTrue (is_inner z)) (sym (note_back y x (ap whole_note (sym e)))) inner

-- a history shows what tells the same
pub shows_alike : (history a b : List Note) → AreAlikeNotes a b → ShowsJournal history a → ShowsJournal history b
shows_alike history [] [] alike shows = shows
shows_alike history [] (y ∷ b) alike shows = absurd (none_is_more (told_note y) (map told_note b) alike)
shows_alike history (x ∷ a) [] alike shows = absurd (more_is_none (told_note x) (map told_note a) alike)
shows_alike [] (x ∷ a) (y ∷ b) alike shows =
    (inner_told x y (heads (told_note x) (told_note y) _ _ alike) shows.0, shows_alike [] a b (tails (told_note x) (told_note y) _ _ alike) shows.1)
shows_alike (line ∷ lines) (x ∷ a) (y ∷ b) alike (inl here) =
    inl (here.0 ∙ heads (told_note x) (told_note y) _ _ alike, shows_alike lines a b (tails (told_note x) (told_note y) _ _ alike) here.1)
shows_alike (line ∷ lines) (x ∷ a) (y ∷ b) alike (inr out) =
    inr (inner_told x y (heads (told_note x) (told_note y) _ _ alike) out.0, shows_alike (line ∷ lines) a b (tails (told_note x) (told_note y) _ _ alike) out.1)

-- whether a note is allowed is told
allowed_told : (past : Past) (x y : Note) → told_note x ≡ told_note y → Allowed past x → Allowed past y
allowed_told past (Start h c) (Start k d) e is = tt
allowed_told past (Start h c) y e is = absurd cc
allowed_told past x y e is = subst (Allowed past) (sym (note_back y x (ap whole_note (sym e)))) is

-- so behind notes that tell the same
pub allowed_alike : (start : Image) (a b before other : List Note) → AreAlikeNotes a b → AreAlikeNotes before other
    → AreAllowedForSome start before a → AreAllowedForSome start other b
allowed_alike start [] [] before other alike first is = tt
allowed_alike start [] (y ∷ b) before other alike first is = absurd (none_is_more (told_note y) (map told_note b) alike)
allowed_alike start (x ∷ a) [] before other alike first is = absurd (more_is_none (told_note x) (map told_note a) alike)
allowed_alike start (x ∷ a) (y ∷ b) before other alike first is =
    let same = heads (told_note x) (told_note y) (map told_note a) (map told_note b) alike in (
      record {
        chosen = is.0.chosen;
        alike = sym first ∙ is.0.alike;
        sound = is.0.sound;
        allowed = allowed_told (past_of start is.0.chosen) x y same is.0.allowed;
      },
      allowed_alike start a b (before ++ x ∷ []) (other ++ y ∷ []) (tails (told_note x) (told_note y) (map told_note a) (map told_note b) alike)
          (alike_both before (x ∷ []) other (y ∷ []) first (one_alike x y same)) is.1,
    )

-- a journal whose notes stand, and are allowed, explains what it shows
pub standing_explains : (start : Image) (history journal : List Note) → ShowsJournal history journal
    → AreStanding (length start) [] journal → AreAllowedForSome start [] journal → IsExplained start history
standing_explains start history journal shows stands allowed =
    let formed = journal_formed (length start) journal stands in (
      formed.0,
      record {
        shown = shows_alike history journal formed.0 formed.1 shows;
        formed = formed.2;
        allowed = allowed_alike start journal formed.0 [] [] formed.1 refl allowed;
      },
    )

-- and some such journal explains what is explained
pub explained_stands : (start : Image) (history : List Note) → IsExplained start history
    → (journal : List Note) × ShowsJournal history journal × AreStanding (length start) [] journal × AreAllowedForSome start [] journal
explained_stands start history is = (is.0, is.1.shown, all_stand (length start) is.0 [] is.1.formed, is.1.allowed)
