-- Two scripts with the same commands, whatever caches do between them.
use Rattle.std.proofs.Common.{◌≡◌, Bool, true, false, List, [], ◌∷◌, ◌++◌, refl, ap, ap₂, sym, ◌∙◌, subst}
use Rattle.std.specs.Prelude.{if◌then◌else◌}
use Rattle.fam_base.specs.Image.{Image}
use Rattle.fam_media.specs.Files.{Files}
use Rattle.fam_journal.specs.declared.event.Event.{Event}
use Rattle.fam_journal.specs.declared.event.Event.TheVariants as event
use Rattle.fam_journal.specs.Calls as call
use Rattle.fam_journal.specs.Calls.{Acts, Call, Does}
use Rattle.fam_journal.specs.Ends.{IsFaultless as AreClean}
use Rattle.fam_journal.specs.Events.{DoesEvent, Session, first_session}
use Rattle.fam_journal.specs.Follows.{Follows}
use Rattle.fam_journal.specs.Laws.{AreSound, IsImage, IsValidEvent}
use Rattle.fam_journal.specs.Notes.{Note}
use Rattle.fam_journal.proofs.Runs.Unique.{clean_prefix, clean_rest}
use Rattle.fam_whole.specs.Whole.{AreWhole, RunsAgree, IsWholeEvent, WholeRun, command_notes, commands_in, is_move, notes_unless}
use Rattle.fam_whole.proofs.Exact.{Between, at_start, one_more}
use Rattle.fam_whole.proofs.Twins.{Same, TwinSessions, ask_same, by_both, host_same, makes_same, move_twin, twins_as, twins_back, twins_on, umounts_same}

module _ (start : Image) (files : Files) where
  -- the notes, and what is left
  record Alike (a b : List Note) (m n : Session) : Type 0 where
    notes : a ≡ b
    sessions : TwinSessions m n

  call_same : (c : Call) (s t m n : Session) (j k a b : List Note) → Between start s.machines j → Between start t.machines k → TwinSessions s t
      → Does c s.machines a m.machines × (m.copied ≡ s.copied) → Does c t.machines b n.machines × (n.copied ≡ t.copied)
      → (Acts c s.machines a m.machines → Acts c t.machines b n.machines → Same start files a b m.machines n.machines) → Alike a b m n
  call_same c s t m n j k a b bs bt twins x y act =
      let same = by_both start files s.machines t.machines j k bs bt twins.machines a b m.machines n.machines c x.0 y.0 act in
      record { notes = same.notes; sessions = record { machines = same.machines; copied = x.1 ∙ twins.copied ∙ sym y.1 } }

  -- the same command on both
  command_same : (e : Event) → is_move e ≡ false → IsValidEvent e → IsWholeEvent e → (s t m n : Session) (j k a b : List Note)
      → Between start s.machines j → Between start t.machines k → TwinSessions s t → AreClean a → AreClean b → DoesEvent files e s a m
      → DoesEvent files e t b n → Alike a b m n
  command_same (event.Host name uuid) is sound whole s t m n j k a b bs bt twins clean_a clean_b x y =
      call_same (call.Declares name uuid) s t m n j k a b bs bt twins x y (host_same start files s.machines t.machines j k bs bt twins.machines a b m.machines n.machines name uuid)
  command_same (event.Mkfs name request) is sound whole s t m n j k a b bs bt twins clean_a clean_b x y =
      call_same (call.Makes name request) s t m n j k a b bs bt twins x y
      (makes_same start files s.machines t.machines j k bs bt twins.machines a b m.machines n.machines name
      request)
  command_same (event.Run name what) is sound whole s t m n j k a b bs bt twins clean_a clean_b x y =
      let both = ask_same start files name what s t m n j k a b bs bt twins clean_a clean_b x y in
      record { notes = both.notes; sessions = both.sessions }
  command_same (event.Umount name) is sound whole s t m n j k a b bs bt twins clean_a clean_b x y =
      call_same (call.Umounts name) s t m n j k a b bs bt twins x y (umounts_same start files s.machines t.machines j k bs bt twins.machines a b m.machines n.machines name)
  command_same (event.Evict name line) is sound whole s t m n j k a b bs bt twins clean_a clean_b x y = absurd cc
  command_same (event.Leak name line mask) is sound whole s t m n j k a b bs bt twins clean_a clean_b x y = absurd cc
  command_same (event.Fetch name line mask) is sound whole s t m n j k a b bs bt twins clean_a clean_b x y = absurd cc
  command_same e is sound whole s t m n j k a b bs bt twins clean_a clean_b x y = absurd whole

  session_on : (a b c : Session) → TwinSessions a b → TwinSessions b c → TwinSessions a c
  session_on a b c p q = record { machines = twins_on a.machines b.machines c.machines p.machines q.machines; copied = p.copied ∙ q.copied }

  session_back : (a b : Session) → TwinSessions a b → TwinSessions b a
  session_back a b p = record { machines = twins_back a.machines b.machines p.machines; copied = sym p.copied }

  session_as : (a b : Session) → a ≡ b → TwinSessions a b
  session_as a b e = record { machines = twins_as a.machines b.machines (ap (λ (z : Session). z.machines) e); copied = ap (λ (z : Session). z.copied) e }

  -- one list of events beside another
  Goal : List Event → List Event → Type 0
  Goal one other =
      commands_in one ≡ commands_in other → AreSound one → AreWhole one → AreSound other → AreWhole other → (s t m n : Session) (j k a b : List Note)
      → Between start s.machines j → Between start t.machines k → TwinSessions s t → AreClean a → AreClean b
      → (f : Follows files one s a m) → (g : Follows files other t b n) → Alike (command_notes files one s a m f) (command_notes files other t b n g) m n

  struck_in : (e : Event) (events : List Event) → is_move e ≡ true → commands_in (e ∷ events) ≡ commands_in events
  struck_in e events is = ap (λ (x : Bool). if x then commands_in events else e ∷ commands_in events) is

  kept_in : (e : Event) (events : List Event) → is_move e ≡ false → commands_in (e ∷ events) ≡ e ∷ commands_in events
  kept_in e events is = ap (λ (x : Bool). if x then commands_in events else e ∷ commands_in events) is

  -- a move on the first side
  skip_one : (e : Event) (one other : List Event) → is_move e ≡ true → Goal one other → Goal (e ∷ one) other
  unfolding Goal
  skip_one e one other is goal same sound whole sound' whole' s t m n j k a b bs bt twins clean_a clean_b f g =
      let clean : AreClean f.1 = clean_prefix f.1 f.2 a f.5 clean_a in
      let rest = goal (sym (struck_in e one is) ∙ same) sound.1 whole.1 sound' whole' f.0 t m n (j ++ f.1) k f.2 b
      (one_more start files e sound.0 whole.0 s f.0 j f.1 bs clean f.3) bt (session_on f.0 s t (move_twin start files e is s f.0 j f.1 bs clean f.3) twins)
      (clean_rest f.1 f.2 a f.5 clean_a) clean_b f.4 g in
      record { notes = ap (λ (x : Bool). notes_unless x f.1 ++ command_notes files one f.0 f.2 m f.4) is ∙ rest.notes; sessions = rest.sessions }

  -- a move on the second side
  skip_other : (e : Event) (one other : List Event) → is_move e ≡ true → Goal one other → Goal one (e ∷ other)
  unfolding Goal
  skip_other e one other is goal same sound whole sound' whole' s t m n j k a b bs bt twins clean_a clean_b f g =
      let clean : AreClean g.1 = clean_prefix g.1 g.2 b g.5 clean_b in
      let rest = goal (same ∙ struck_in e other is) sound whole sound'.1 whole'.1 s g.0 m n j (k ++ g.1) a g.2
      bs (one_more start files e sound'.0 whole'.0 t g.0 k g.1 bt clean g.3) (session_on s t g.0 twins (session_back g.0 t (move_twin start files e is t g.0 k g.1 bt clean g.3)))
      clean_a (clean_rest g.1 g.2 b g.5 clean_b) f g.4 in
      record { notes = rest.notes ∙ sym (ap (λ (x : Bool). notes_unless x g.1 ++ command_notes files other g.0 g.2 n g.4) is); sessions = rest.sessions }

  -- the same command on both sides
  both_do : (e d : Event) (one other : List Event) → is_move e ≡ false → is_move d ≡ false → Goal one other → Goal (e ∷ one) (d ∷ other)
  unfolding Goal
  both_do e d one other is is' goal same sound whole sound' whole' s t m n j k a b bs bt twins clean_a clean_b f g =
      let lists : e ∷ commands_in one ≡ d ∷ commands_in other = sym (kept_in e one is) ∙ same ∙ kept_in d other is' in
      let events : d ≡ e = cc in
      let tails : commands_in one ≡ commands_in other = cc in
      let clean : AreClean f.1 = clean_prefix f.1 f.2 a f.5 clean_a in
      let clean' : AreClean g.1 = clean_prefix g.1 g.2 b g.5 clean_b in
      let here = command_same e is sound.0 whole.0 s t f.0 g.0 j k f.1 g.1 bs bt twins clean clean' f.3 (subst (λ (z : Event). DoesEvent files z t g.1 g.0) events g.3) in
      let rest = goal tails sound.1 whole.1 sound'.1 whole'.1 f.0 g.0 m n (j ++ f.1) (k ++ g.1) f.2 g.2
      (one_more start files e sound.0 whole.0 s f.0 j f.1 bs clean f.3) (one_more start files d sound'.0 whole'.0 t g.0 k g.1 bt clean' g.3) here.sessions
      (clean_rest f.1 f.2 a f.5 clean_a) (clean_rest g.1 g.2 b g.5 clean_b) f.4 g.4 in
      record {
        notes =
            ap (λ (x : Bool). notes_unless x f.1 ++ command_notes files one f.0 f.2 m f.4) is
            ∙ ap₂ (λ (u v : List Note). u ++ v) here.notes rest.notes
            ∙ sym (ap (λ (x : Bool). notes_unless x g.1 ++ command_notes files other g.0 g.2 n g.4) is');
        sessions = rest.sessions;
      }

  none_left : Goal [] []
  unfolding Goal
  none_left same sound whole sound' whole' s t m n j k a b bs bt twins clean_a clean_b f g =
      record { notes = refl; sessions = session_on m s n (session_as m s f.1) (session_on s t n twins (session_as t n (sym g.1))) }

  -- no command is left on one side
  only_first : (e : Event) (one : List Event) → is_move e ≡ false → Goal (e ∷ one) []
  unfolding Goal
  only_first e one is same sound whole sound' whole' s t m n j k a b bs bt twins clean_a clean_b f g = absurd (let lists : e ∷ commands_in one ≡ [] = sym (kept_in e one is) ∙ same in cc)

  only_second : (e : Event) (other : List Event) → is_move e ≡ false → Goal [] (e ∷ other)
  unfolding Goal
  only_second e other is same sound whole sound' whole' s t m n j k a b bs bt twins clean_a clean_b f g = absurd (let lists : [] ≡ e ∷ commands_in other = same ∙ kept_in e other is in cc)

  beside_none : (other : List Event) → Goal [] other
  beside_none [] = none_left
  beside_none (d ∷ other) = by_move (beside_none other) (is_move d) refl
    where
      by_move : Goal [] other → (x : Bool) → is_move d ≡ x → Goal [] (d ∷ other)
      by_move goal true is = skip_other d [] other is goal
      by_move goal false is = only_second d other is

  -- a command on the first side finds its like
  beside : (e : Event) (one : List Event) → is_move e ≡ false → ((other : List Event) → Goal one other) → (other : List Event) → Goal (e ∷ one) other
  beside e one is rest [] = only_first e one is
  beside e one is rest (d ∷ other) = by_move (beside e one is rest other) (is_move d) refl
    where
      by_move : Goal (e ∷ one) other → (x : Bool) → is_move d ≡ x → Goal (e ∷ one) (d ∷ other)
      by_move goal true is' = skip_other d (e ∷ one) other is' goal
      by_move goal false is' = both_do e d one other is is' (rest other)

  all_same : (one other : List Event) → Goal one other
  all_same [] other = beside_none other
  all_same (e ∷ one) other = by_move (all_same one) (is_move e) refl
    where
      by_move : ((other : List Event) → Goal one other) → (x : Bool) → is_move e ≡ x → Goal (e ∷ one) other
      by_move goal true is = skip_one e one other is (goal other)
      by_move goal false is = beside e one is goal other

  pub scripts_alike : (one other : List Event) → IsImage start → AreSound one → AreSound other → commands_in one ≡ commands_in other
      → (a : WholeRun files one start) (b : WholeRun files other start) → RunsAgree a b
  unfolding Goal
  scripts_alike one other image sound sound' same a b =
      let alike = all_same one other same sound a.whole sound' b.whole (first_session start) (first_session start) a.last b.last [] [] a.journal b.journal
      (at_start start files one sound image) (at_start start files other sound' image) (session_as (first_session start) (first_session start) refl) a.clean b.clean a.follows b.follows in
      record { notes = alike.notes; image = alike.sessions.machines.memory }
