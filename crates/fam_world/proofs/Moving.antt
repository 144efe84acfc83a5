-- A cache's own move at a declared host meets what the call promises.
use Rattle.std.proofs.Common.{◌≡◌, ◌⊎◌, ℕ, ◌<◌, ◌≤◌, ◌+◌, ◌-◌, inl, inr, List, [], ◌∷◌, ◌++◌, length, Option, Some, None, refl, ap, sym, ◌∙◌, subst, arith}
use Rattle.std.specs.Prelude.{slice_get, option_map}
use Rattle.std.proofs.lemmas.List.{append-nil}
use Rattle.fam_base.specs.Image.{Image, line_at, with_line}
use Rattle.fam_media.specs.Causes.{Rose}
use Rattle.fam_media.specs.Outside.{IfModelled}
use Rattle.fam_media.specs.States.{media_change}
use Rattle.fam_machine.specs.Caches.{Cache, cell_at}
use Rattle.fam_machine.specs.Cuts.{IsMachine}
use Rattle.fam_machine.specs.HostMoves.{Move, failed_move, move_failed, moved}
use Rattle.fam_machine.specs.OneLine.{IsHeld}
use Rattle.fam_machine.specs.Operations.{Machine, machine}
use Rattle.fam_cache.specs.Effects.{FailsTo}
use Rattle.fam_journal.specs.declared.refusal.Refusal.{Refusal}
use Rattle.fam_journal.specs.declared.refusal.Refusal.TheVariants as why
use Rattle.fam_journal.specs.Calls as call
use Rattle.fam_journal.specs.CallRecords.{Answers, CallKeeps, HostFits, IsLateMove, IsSoundCall, MediaCall, heading}
use Rattle.fam_journal.specs.Shapes.{HostShaped, Pairs}
use Rattle.fam_journal.specs.Machines.{Machines, machine_of, with_machine, with_memory}
use Rattle.fam_journal.specs.Members.{changed_at}
use Rattle.fam_journal.specs.Notes.{Refused}
use Rattle.fam_journal.specs.View.{HostStandsAt, HostView, WorldStands, WorldView}
use Rattle.fam_journal.specs.ByWorld.{number_in, refusal_in}
use Rattle.fam_journal.proofs.Calls.Hosts.{stands_changed}
use Rattle.fam_journal.proofs.Faces.{IsNoMake}
use Rattle.fam_world.specs.Answers.{IsRefused}
use Rattle.fam_world.proofs.Answering.{shaped_same, free_answers, hosted_shape, refused_answers, refused_shape}
use Rattle.fam_world.proofs.Members.{fits_kept, shapes_kept, map_kept}
use Rattle.fam_world.proofs.Rows.{found, refused_keeps, row_kept}

-- the host with another cache
abbrev pub with_cache : Cache → HostView → HostView
with_cache cache v = record v { cache = cache }

-- lines of a cache that brings at most this one
pub cache_fits : (lines line : ℕ) (cache : Cache) (view : HostView) → line < lines
    → ((l : ℕ) → IsHeld (cell_at cache l) → (l ≡ line) ⊎ IsHeld (cell_at view.cache l)) → HostFits lines view → HostFits lines (with_cache cache view)
cache_fits lines line cache view below held was = record { task = was.task; cache = λ l is. by l (held l is) }
  where
    by : (l : ℕ) → (l ≡ line) ⊎ IsHeld (cell_at view.cache l) → l < lines
    by l (inl e) = subst (λ (n : ℕ). n < lines) (sym e) below
    by l (inr is) = was.cache l is

-- a call that is refused at once
pub media_refused : (c : call.Call) → IsNoMake c → IsSoundCall c
    → (lines : ℕ) (told : Option Image) (faults : ℕ) (old new : WorldView) (cause : Refusal) → IfModelled told (λ image. length image ≡ lines)
    → IsRefused c lines old cause
    → new.hosts ≡ old.hosts → new.journal ≡ old.journal ++ Refused (call.asked_name c) cause ∷ [] → MediaCall c lines (Some cause) (media_change told faults told faults) old new
media_refused c other sound lines told faults old new cause modelled refused hosts journal = record {
  answers = refused_answers c lines faults old new cause refused hosts journal (refused_shape c lines old other cause refused.first);
  keeps = λ start. refused_keeps c lines start told old new cause sound modelled refused.first hosts journal;
}

module _ (name : List ℕ) (line at : ℕ) (move : Move) (lines : ℕ) (old : WorldView) (view : HostView) (number : number_in name old ≡ Some at)
    (free : refusal_in (call.Moves name line move) old lines ≡ None) (view_is : slice_get old.hosts at ≡ Some view) where
  abbrev c : call.Call
  c = call.Moves name line move

  module _ (told now : Option Image) (faults faults_now : ℕ) (new : WorldView) (modelled : IfModelled told (λ image. length image ≡ lines)) where
    -- it moved
    module _ (cache : Cache) (hosts : new.hosts ≡ changed_at at (with_cache cache) old.hosts) (journal : new.journal ≡ old.journal) where
      joined : new.journal ≡ old.journal ++ []
      joined = journal ∙ sym (append-nil old.journal)

      moved_answers : line < lines → ((l : ℕ) → IsHeld (cell_at cache l) → (l ≡ line) ⊎ IsHeld (cell_at view.cache l)) → faults ≤ faults_now → Answers c lines None faults faults_now old new
      moved_answers below held later =
          free_answers c lines faults faults_now None old new [] joined (omega (arith, later)) later tt
          (ap (λ (vs : List HostView). Rattle.std.proofs.Common.map heading vs) hosts ∙ map_kept heading (with_cache cache) (λ v. refl) at old.hosts)
          (λ was. subst (Rattle.fam_journal.specs.CallRecords.FitsMedia lines) (sym hosts)
          (fits_kept lines at (with_cache cache) old.hosts view view_is (cache_fits lines line cache view below held) was))
          (shaped_same old new [] refl joined
          (λ shapes all. subst (λ (vs : List HostView). Pairs HostShaped vs shapes) (sym hosts)
          (shapes_kept (with_cache cache) (λ v f is. record { name = is.name; uuid = is.uuid; task = is.task; keeps = is.keeps }) at old.hosts
          shapes all)))
          refl free (λ cause e. absurd cc)
          (hosted_shape c lines old tt at view number view_is free [] (λ f. inl refl) (λ x. x))

      moved_keeps : IfModelled told (λ image. IsMachine (moved move line (machine image view.cache)) now cache) → (start : Image) → CallKeeps c start told now old new
      moved_keeps is start state told_is held =
          let host = found start state old held c lines (modelled state.memory told_is) at view number free view_is in
          let same : machine_of state host.0 ≡ machine state.memory view.cache = ap (λ (x : Cache). machine state.memory x) host.2.cache in
          let m : IsMachine (moved move line (machine state.memory view.cache)) now cache = is state.memory told_is in
          let left : Machines = with_machine at (moved move line (machine_of state host.0)) host.0.task state in
          let stands : WorldStands (length start) left new = λ k.
          subst (λ (vs : List HostView). HostStandsAt (length start) (slice_get left.hosts k) (slice_get vs k)) (sym hosts)
          (stands_changed at view old.hosts view_is (with_cache cache) (length start) state.hosts host.0 host.1
          (λ s. record s { cache = (moved move line (machine_of state host.0)).cache; task = host.0.task })
          record {
            name = host.2.name;
            uuid = host.2.uuid;
            cache = ap (λ (x : Machine). (moved move line x).cache) same ∙ sym m.cache;
            task =
                host.2.task;
            kept = host.2.kept;
            joined = host.2.joined;
          } held.stands k) in
          row_kept start state old held c lines (modelled state.memory told_is) at view number free view_is new now [] left (λ x. x) (inl (record { notes_are = refl; left = refl })) tt
          (m.image ∙ ap (λ (x : Machine). Some (moved move line x).image) (sym same)) joined stands

      pub moved_call : line < lines → ((l : ℕ) → IsHeld (cell_at cache l) → (l ≡ line) ⊎ IsHeld (cell_at view.cache l)) → faults ≤ faults_now
          → IfModelled told (λ image. IsMachine (moved move line (machine image view.cache)) now cache) → MediaCall c lines None (media_change told faults now faults_now) old new
      moved_call below held later is = record { answers = moved_answers below held later; keeps = moved_keeps is }

    -- the media failed in it
    module _ (at_line : Rattle.fam_base.specs.declared.line.LineNo.LineNo) (line_is : at_line.0 ≡ line) (hosts : new.hosts ≡ old.hosts)
        (journal : new.journal ≡ old.journal ++ Refused name (why.MediaFault at_line) ∷ []) where
      abbrev cause : Refusal
      cause = why.MediaFault at_line

      failed_answers : faults ≤ faults_now → Rose faults faults_now → Answers c lines (Some cause) faults faults_now old new
      failed_answers later rose =
          free_answers c lines faults faults_now (Some cause) old new (Refused name cause ∷ []) journal (counted rose) later (tt, tt)
          (ap (λ (vs : List HostView). Rattle.std.proofs.Common.map heading vs) hosts)
          (λ was. subst (Rattle.fam_journal.specs.CallRecords.FitsMedia lines) (sym hosts) was)
          (shaped_same old new (Refused name cause ∷ []) refl journal (λ shapes all. subst (λ (vs : List HostView). Pairs HostShaped vs shapes) (sym hosts) all))
          refl free (λ other e. subst IsLateMove (Rattle.std.proofs.lemmas.Option.same_Some cause other e) tt)
          (hosted_shape c lines old tt at view number view_is free (Refused name cause ∷ []) (λ f. inr (ap (λ (l : ℕ). Refused name (why.MediaFault (record { 0 = l })) ∷ []) line_is)) (λ x. x))
        where
          counted : Rose faults faults_now → Rattle.fam_journal.specs.Ends.HasCounted faults faults_now (Refused name cause ∷ [])
          counted (inl less) = omega (arith, less)
          counted (inr last) = omega (arith, last)

      failed_keeps : IfModelled told (λ image. FailsTo line (λ through memory. failed_move move through memory (cell_at view.cache line)) image now)
          → (start : Image) → CallKeeps c start told now old new
      failed_keeps fails start state told_is held =
          let host = found start state old held c lines (modelled state.memory told_is) at view number free view_is in
          let f : FailsTo line (λ through memory. failed_move move through memory (cell_at view.cache line)) state.memory now = fails state.memory told_is in
          let image : Image = with_line line f.words state.memory in
          let left : Machines = with_memory image state in
          let cut : move_failed move line f.through (machine_of state host.0) ≡ Some image =
          ap (λ (x : Cache). option_map (λ w. with_line line w state.memory) (failed_move move f.through (line_at state.memory line) (cell_at x line))) host.2.cache
          ∙ ap (option_map (λ w. with_line line w state.memory)) f.left in
          let stands : WorldStands (length start) left new = λ k. subst (λ (vs : List HostView). HostStandsAt (length start) (slice_get state.hosts k) (slice_get vs k)) (sym hosts) (held.stands k) in
          row_kept start state old held c lines (modelled state.memory told_is) at view number free view_is new now (Refused name cause ∷ []) left (λ x. x)
          (inr (record {
            through = f.through;
            image = image;
            fails = cut;
            notes_are =
                ap (λ (l : ℕ). Refused name (why.MediaFault (record { 0 = l })) ∷ []) line_is;
            left = refl;
          })) tt f.written journal stands

      pub move_failed_call : faults ≤ faults_now → Rose faults faults_now
          → IfModelled told (λ image. FailsTo line (λ through memory. failed_move move through memory (cell_at view.cache line)) image now)
          → MediaCall c lines (Some cause) (media_change told faults now faults_now) old new
      move_failed_call later rose fails = record { answers = failed_answers later rose; keeps = failed_keeps fails }
