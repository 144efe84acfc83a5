-- A run goes on by an event.
use Prim.Native.Nat.{zero, suc}
use Rattle.std.proofs.Common.{◌≡◌, ℕ, false, List, [], ◌∷◌, ◌++◌, length, take, Some, None, refl, ap, sym, ◌∙◌, subst, arith}
use Rattle.std.specs.Prelude.{slice_get}
use Rattle.fam_media.specs.Outside.{IfModelled}
use Rattle.fam_journal.specs.declared.event.Event.{Event}
use Rattle.fam_journal.specs.EventShapes.{FollowsShape}
use Rattle.fam_journal.specs.Events.{DoesEvent, Session, first_session}
use Rattle.fam_journal.specs.Follows.{Follows}
use Rattle.fam_journal.specs.Shapes.{HostShape, HostShaped, IsShaped, shapes_after, shapes_behind, shapes_of}
use Rattle.fam_journal.specs.Laws.{IsImage}
use Rattle.fam_journal.specs.Members.{changed_at}
use Rattle.fam_journal.specs.Names.{AreNamed}
use Rattle.fam_journal.specs.Notes.{Note, Host, Start, Mark, Found, Writes, Answered, Stop, Halt, Umount}
use Rattle.fam_outcomes.specs.Texts.{names_after, names_behind}
use Rattle.fam_journal.specs.View.{WorldView, empty_world}
use Rattle.fam_journal.proofs.Shapes.Pairs.{pairs_length}
use Rattle.fam_journal.proofs.JournalLaws.{begun}
use Rattle.fam_journal.proofs.Runs.Unique.{faults_both}
use Rattle.fam_outcomes.proofs.Names.{named_added}
use Rattle.fam_events.specs.WorldChange.{WorldChange, session}
use Rattle.fam_events.specs.Happens.{EventDone}
use Rattle.fam_program.specs.Far.{Base, Far, Now}
use Rattle.fam_program.proofs.Runs.OneMore.{follows_more, shape_more, take_next}

-- before the first event
pub first_far : (b : Base) → IfModelled b.media.image IsImage → Far b 0 (record { world = empty_world; media = b.media; copied = 0 })
first_far b image = record {
  named = tt;
  counted = omega arith;
  later = omega arith;
  fits = λ h view is. absurd cc;
  shaped = tt;
  shape = refl;
  on = λ start told_is files files_are. record {
    last = first_session start;
    follows = (refl, refl);
    left = told_is;
    held = begun start (image start told_is);
    copied = refl;
  };
}

-- as many hosts as names

changed_length : {A : Type 0} (h : ℕ) (f : A → A) (xs : List A) → length (changed_at h f xs) ≡ length xs
changed_length h f [] = refl
changed_length zero f (x ∷ xs) = refl
changed_length (suc h) f (x ∷ xs) = ap suc (changed_length h f xs)

after_count : (hosts : List HostShape) (names : List (List ℕ)) (note : Note) → length hosts ≡ length names → length (shapes_after hosts note) ≡ length (names_after names note)
after_count hosts names (Host name uuid) same =
    let a = Rattle.std.proofs.lemmas.List.length-append hosts (record { name = name; uuid = uuid; task = None; keeps = false } ∷ []) in
    let b = Rattle.std.proofs.lemmas.List.length-append names (name ∷ []) in
    omega (arith, a, b, same)
after_count hosts names (Start host cmd) same = changed_length host _ hosts ∙ same
after_count hosts names (Mark host) same = changed_length host _ hosts ∙ same
after_count hosts names (Found host n) same = changed_length host _ hosts ∙ same
after_count hosts names (Writes host seq entry) same = changed_length host _ hosts ∙ same
after_count hosts names (Answered host answer) same = changed_length host _ hosts ∙ same
after_count hosts names (Stop host) same = changed_length host _ hosts ∙ same
after_count hosts names (Halt host) same = changed_length host _ hosts ∙ same
after_count hosts names (Umount host) same = changed_length host _ hosts ∙ same
after_count hosts names note same = same

behind_count : (hosts : List HostShape) (names : List (List ℕ)) (notes : List Note) → length hosts ≡ length names → length (shapes_behind hosts notes) ≡ length (names_behind names notes)
behind_count hosts names [] same = same
behind_count hosts names (note ∷ notes) same = behind_count (shapes_after hosts note) (names_after names note) notes (after_count hosts names note same)

pub names_count : (world : WorldView) → IsShaped world → length world.hosts ≡ length (names_behind [] world.journal)
names_count world shaped = pairs_length HostShaped world.hosts (shapes_of world.journal) shaped ∙ behind_count [] [] world.journal refl

-- An event from here on.

abbrev pub next_of : Base → Now → Now → WorldChange
next_of b n m = record {
  lines = b.lines;
  old = n.world;
  new = m.world;
  media = record { old = n.media; new = m.media };
  files = b.files;
  copied = n.copied;
  copied_now = m.copied;
}

module _ (b : Base) (count : ℕ) (n m : Now) (far : Far b count n) where
  abbrev a : WorldChange
  a = next_of b n m

  -- its notes name hosts that are declared
  pub named_more : (notes : List Note) → AreNamed (length n.world.hosts) notes → m.world.journal ≡ n.world.journal ++ notes → Rattle.fam_journal.specs.Names.NameDeclared 0 m.world.journal
  named_more notes named joined =
      subst (λ (j : List Note). Rattle.fam_journal.specs.Names.NameDeclared 0 j) (sym joined)
      (named_added n.world.journal notes far.named (subst (λ (k : ℕ). AreNamed k notes) (names_count n.world far.shaped) named))

  pub more_far : (e : Event) → slice_get b.events count ≡ Some e → EventDone e a → Far b (suc count) m
  more_far e is done = record {
    named = named_more done.adds.notes done.adds.named done.adds.joined;
    counted =
        let x = far.counted in
        let y = done.adds.counted in
        let sum = ap (λ (j : List Note). Rattle.fam_journal.specs.Ends.faults_of j) done.adds.joined ∙ faults_both n.world.journal done.adds.notes in
        omega (arith, x, y, sum);
    later = let x = far.later in let y = done.adds.later in omega (arith, x, y);
    fits = done.adds.fits;
    shaped = done.adds.shaped;
    shape = subst (λ (es : List Event). FollowsShape b.lines es [] m.world.journal) (sym (take_next b.events count e is))
        (subst (λ (j : List Note). FollowsShape b.lines (take count b.events ++ e ∷ []) [] j) (sym done.adds.joined)
        (shape_more b.lines (take count b.events) e [] n.world.journal done.adds.notes far.shape done.adds.shape));
    on = λ start told_is files files_are.
        let f = far.on start told_is files files_are in
        let k = done.keeps start files f.last.machines files_are f.left f.held in
        record {
          last = k.comes.last;
          follows = subst (λ (es : List Event). Follows files es (first_session start) m.world.journal k.comes.last) (sym (take_next b.events count e is))
              (subst (λ (j : List Note). Follows files (take count b.events ++ e ∷ []) (first_session start) j k.comes.last) (sym k.comes.joined)
              (follows_more files (take count b.events) e (first_session start) f.last k.comes.last n.world.journal k.comes.notes f.follows
              (subst (λ (s : Session). DoesEvent files e s k.comes.notes k.comes.last) (same_last f.last f.copied) k.comes.does.0)));
          left = k.comes.told_is;
          held = k.held;
          copied = k.comes.does.1;
        };
  }
    where
      same_last : (s : Session) → s.copied ≡ n.copied → session s.machines n.copied ≡ s
      same_last s e = ap (λ (c : ℕ). session s.machines c) (sym e)
