-- Whole events, one after another: the image is the fold of the notes, nothing is pending, and answers are of all of it.
use Prim.Native.Nat.{zero, suc}
use Rattle.std.proofs.Common.{◌≡◌, ℕ, ◌*◌, ◌≤◌, inl, inr, List, [], ◌∷◌, ◌++◌, length, map, Option, Some, None, refl, ap, ap₂, sym, ◌∙◌, subst}
use Rattle.std.specs.Prelude.{slice_get}
use Rattle.std.specs.FinMap as finmap
use Rattle.std.proofs.lemmas.Bool.{cases_eq}
use Rattle.std.proofs.lemmas.List.{append-nil, append_assoc}
use Rattle.std.proofs.lemmas.Option.{same_Some}
use Rattle.fam_base.specs.declared.cmd.Cmd.{Cmd}
use Rattle.fam_base.specs.declared.entry.Params.{Params}
use Rattle.fam_base.specs.Image.{Image, eight, line_at, with_line}
use Rattle.fam_base.proofs.ImageLemmas.{with_line-line_at}
use Rattle.fam_machine.specs.declared.request.MkfsRequest.{MkfsRequest}
use Rattle.fam_format.specs.Layout.{device_limit, least_lines}
use Rattle.fam_machine.specs.Caches.{Cache, IsClean, IsCleanCell, cell_at}
use Rattle.fam_machine.specs.OneLine.{current}
use Rattle.fam_machine.specs.Operations.{Machine, machine, operated, operated_all}
use Rattle.fam_commands.specs.Classes.{is_mount}
use Rattle.fam_commands.specs.Keeping.{kept_by, read_by}
use Rattle.fam_commands.specs.Kept.{IsKept}
use Rattle.fam_commands.specs.Task.{op_of}
use Rattle.fam_machine.proofs.CleanCaches.{clean_empty, clean_fetched, clean_leaked, clean_sent, clean_wide, clean_with, not_dirty}
use Rattle.fam_machine.proofs.HaltedMkfs.{halted_left}
use Rattle.fam_machine.proofs.WideLines.{eight_whole}
use Rattle.fam_media.specs.Files.{Files}
use Rattle.fam_machine.proofs.MkfsOps.{all_sent, clean_formats, read_image, read_sent}
use Rattle.fam_protocol.specs.Invariant.{KeepsFront, settled_at_first}
use Rattle.fam_protocol.specs.Tasks.{IsCommand}
use Rattle.fam_rules.specs.Place.{line_bytes}
use Rattle.fam_rules.specs.Reply.{Reply}
use Rattle.fam_rules.specs.Solo.{solo_image, solo_reply}
use Rattle.fam_journal.specs.declared.event.Ask.{Ask}
use Rattle.fam_journal.specs.declared.event.Event.{Event}
use Rattle.fam_journal.specs.declared.event.Event.TheVariants as event
use Rattle.fam_journal.specs.declared.refusal.Refusal.{Refusal}
use Rattle.fam_journal.specs.Calls as call
use Rattle.fam_journal.specs.Calls.{Acts, ActsAt, ByRefusal, Completes, Does, begins_refusal, has_name, number_of, on_host, refusal_of, HaltsMaking, MakesFileSystem, MakesOrHalts}
use Rattle.fam_journal.specs.Ends.{IsFaultless as AreFaultless}
use Rattle.fam_journal.specs.Events.{DoesEvent, Continues, Session, first_session}
use Rattle.fam_journal.specs.Follows.{Follows}
use Rattle.fam_journal.specs.Kept.{Reached}
use Rattle.fam_journal.specs.Laws.{AreSound, IsImage, IsValidEvent}
use Rattle.fam_machine.specs.HostMoves.{Evict, Fetch, Leak, Move, moved, moved_cell, moved_words}
use Rattle.fam_journal.specs.Machines.{HostState, Machines, machine_of, task_begun, unused, with_machine, with_task}
use Rattle.fam_journal.specs.Members.{changed_at}
use Rattle.fam_machine.specs.Mkfs as here
use Rattle.fam_journal.specs.Notes.{Answered, Note, Refused, Replied, Start}
use Rattle.fam_journal.specs.Past.{HostPast, Past, first_past, past_behind, past_of}
use Rattle.fam_journal.proofs.Shapes.EventRows.{begun_free}
use Rattle.fam_journal.proofs.Calls.Cases.{by_host, by_refusal, place_same}
use Rattle.fam_journal.proofs.Calls.Declares.{member_before, member_last}
use Rattle.fam_journal.proofs.Runs.Following.{begun_kept, declared_at, event_kept, first_kept}
use Rattle.fam_journal.proofs.Settled.Journals.{past_both}
use Rattle.fam_journal.proofs.Calls.Members.{changed_at_member, changed_here, changed_other}
use Rattle.fam_journal.proofs.Calls.Tests.{at_most, no_when, or_first}
use Rattle.fam_journal.proofs.Runs.Unique.{clean_prefix, clean_rest, not_clean}
use Rattle.fam_whole.specs.Whole.{AreWhole, AreWholeEvents, AreWholeNotes, IsExact, IsStateOf, HasNothingPending, IsWholeEvent, WholeRun, cut_by, cut_image, events_image, image_behind}
use Rattle.fam_whole.proofs.Finish.{Finished, finished, left_is, reply_is}
use Rattle.fam_whole.proofs.Folds.{first_sure, halted_sure}
use Rattle.fam_whole.proofs.Rests.{HostRests, Rested, keeps_front, keeps_joined, rest_state}
use Rattle.fam_whole.proofs.Running.{Ended, run_solo}

module _ (image : Image) (cache : Cache) (normal : map eight image ≡ image) (clean : IsClean cache) where
  words_stay : (move : Move) (line : ℕ) → moved_words move (line_at image line) (cell_at cache line) ≡ line_at image line
  words_stay Evict line = clean_sent (line_at image line) (cell_at cache line) (clean line)
  words_stay (Leak mask) line = clean_leaked mask (line_at image line) (cell_at cache line) (clean line)
  words_stay (Fetch mask) line = refl

  cell_clean : (move : Move) (line : ℕ) → IsCleanCell (moved_cell move (line_at image line) (cell_at cache line))
  cell_clean Evict line = tt
  cell_clean (Leak mask) line = clean line
  cell_clean (Fetch mask) line = clean_fetched mask (line_at image line) (cell_at cache line) refl (clean line)

  pub moved_image : (move : Move) (line : ℕ) → (moved move line (machine image cache)).image ≡ image
  moved_image move line = ap (λ (w : List ℕ). with_line line w image) (words_stay move line) ∙ with_line-line_at image normal line

  -- a maker that halts leaves the lines that it had put
  pub halted_clean : (k : ℕ) (p : Params) → (operated_all (here.halted_ops k p) (machine image cache)).image ≡ here.halted_image k p image
  halted_clean k p =
      halted_left k p (machine image cache) normal
      (λ line. eight_whole (current (line_at image line) (cell_at cache line)) (clean_wide (line_at image line) (cell_at cache line) refl (clean line)))
      (λ line few. not_dirty (cell_at cache line) (clean line))

  moved_clean : (move : Move) (line : ℕ) → IsClean (moved move line (machine image cache)).cache
  moved_clean move line = clean_with line _ cache clean (cell_clean move line)

-- Hosts at rest.

pub rests_changed : (h : ℕ) (g : HostState → HostState) (memory image : Image) (hosts : List HostState)
    → Rested (record { memory = memory; hosts = hosts }) → ((host : HostState) → slice_get hosts h ≡ Some host → HostRests (g host))
    → Rested (record { memory = image; hosts = changed_at h g hosts })
rests_changed h g memory image hosts rests mine k host is =
    elim (cases_eq k h) [
      | inl e ↦ at_h (slice_get hosts h) refl (subst (λ (n : ℕ). slice_get (changed_at h g hosts) n ≡ Some host) e is)
      | inr ne ↦ rests k host (sym (changed_other h k g hosts ne) ∙ is)
    ]
  where
    at_h : (o : Option HostState) → slice_get hosts h ≡ o → slice_get (changed_at h g hosts) h ≡ Some host → HostRests host
    at_h None none is' = absurd (let e = changed_here h g hosts ∙ ap (Rattle.std.specs.Prelude.option_map g) none in cc)
    at_h (Some z) some is' = subst HostRests (same_Some (g z) host (sym (changed_at_member h g hosts z some) ∙ is')) (mine z some)

rests_more : (memory : Image) (hosts : List HostState) (host : HostState) → Rested (record { memory = memory; hosts = hosts }) → HostRests host
    → Rested (record { memory = memory; hosts = hosts ++ host ∷ [] })
rests_more memory hosts host rests mine k z is =
    elim (cases_eq k (length hosts)) [
      | inl e ↦ subst HostRests (same_Some host z (sym (member_last hosts host) ∙ subst (λ (n : ℕ). slice_get (hosts ++ host ∷ []) n ≡ Some z) e is)) mine
      | inr ne ↦ rests k z (sym (member_before hosts host k ne) ∙ is)
    ]

-- changes that are the same at the place
changed_same : (h : ℕ) (f g : HostState → HostState) (hosts : List HostState) (host : HostState) → slice_get hosts h ≡ Some host → f host ≡ g host → changed_at h f hosts ≡ changed_at h g hosts
changed_same h f g [] host is same = refl
changed_same zero f g (x ∷ hosts) host is same =
    let e : x ≡ host = same_Some x host is in
    ap (λ (z : HostState). z ∷ hosts) (ap f e ∙ same ∙ sym (ap g e))
changed_same (suc h) f g (x ∷ hosts) host is same = ap (λ (zs : List HostState). x ∷ zs) (changed_same h f g hosts host is same)

-- One event.

pub record EventExact (e : Event) (x : Past) (old new : Machines) (notes : List Note) : Type 0 where
  pub rests : Rested new
  pub image : new.memory ≡ image_behind e x old.memory notes
  pub whole : AreWholeNotes e x old.memory notes
  pub sure : HasNothingPending (past_behind x notes).state

module _ (start : Image) (files : Files) (old : Machines) (journal : List Note) (kept : Reached start old journal) (rests : Rested old) (sure : HasNothingPending (past_of start journal).state) where
  abbrev x : Past
  x = past_of start journal

  abbrev normal : map eight old.memory ≡ old.memory
  normal = kept.held.normal

  -- what a host keeps is a front of what the image reads as
  pub front_of : (h : ℕ) (host : HostState) → slice_get old.hosts h ≡ Some host → KeepsFront (settled_at_first old.memory) host.kept
  front_of = keeps_front start old journal kept rests sure

  pub joined_of : (h : ℕ) (host : HostState) → slice_get old.hosts h ≡ Some host → IsKept host.kept
  joined_of = keeps_joined start old journal kept rests

  quiet : (ev : Event) (name : List ℕ) (cause : Refusal) (new : Machines) (notes : List Note) → notes ≡ Refused name cause ∷ [] → new ≡ old → EventExact ev x old new notes
  quiet ev name cause new notes e f =
      subst (λ (z : Machines). EventExact ev x old z notes) (sym f) (subst (EventExact ev x old old) (sym e) record { rests = rests; image = refl; whole = (tt, tt); sure = sure })

  -- host h has this machine then, and the same task
  own : (h : ℕ) (host : HostState) → slice_get old.hosts h ≡ Some host → (m : Machine) → IsClean m.cache → Rested (with_machine h m host.task old)
  own h host is m clean = rests_changed h _ old.memory m.image old.hosts rests (λ z at. record { clean = clean; idle = (rests h host is).idle })

  declared_exact : (name uuid : List ℕ) (new : Machines) (notes : List Note) → Acts (call.Declares name uuid) old notes new → EventExact (event.Host name uuid) x old new notes
  declared_exact name uuid new notes acts =
      subst (λ (z : Machines). EventExact (event.Host name uuid) x old z notes) (sym acts.1)
      (subst (EventExact (event.Host name uuid) x old _) (sym acts.0)
      record {
        rests = rests_more old.memory old.hosts (record { name = name; uuid = uuid; cache = finmap.empty; task = None; kept = None }) rests (record { clean = clean_empty; idle = refl });
        image = refl;
        whole = (tt, tt);
        sure = sure;
      })

  -- what a maker, which has begun, leaves: by after how many operations it is to halt
  module _ (name : List ℕ) (request : MkfsRequest) (new : Machines) (notes : List Note) (h : ℕ) (host : HostState) (is : slice_get old.hosts h ≡ Some host) where
    abbrev making : Event
    making = event.Mkfs name request

    abbrev p : Params
    p = here.asked request host.uuid (length old.memory)

    -- the journal knows its UUID
    cut_is : (k : ℕ) → cut_image making x old.memory h k ≡ here.halted_image k p old.memory
    cut_is k =
        let d = declared_at start old journal kept h host is in
        let uuid : d.told.uuid ≡ host.uuid = d.host_told.uuid ∙ sym d.stands.uuid ∙ ap (λ (z : HostState). z.uuid) (same_Some d.host host (sym d.host_is ∙ is)) in
        ap (λ (o : Option HostPast). cut_by o request k old.memory) d.told_is ∙ ap (λ (u : List ℕ). here.halted_image k (here.asked request u (length old.memory)) old.memory) uuid

    made_exact : MakesFileSystem h p request.force host old notes new → EventExact making x old new notes
    made_exact made =
        subst (λ (z : Machines). EventExact making x old z notes) (sym made.left)
        (subst (EventExact making x old _) (sym made.notes_are)
        record {
          rests = own h host is (operated_all (here.mkfs_ops p) (machine_of old host)) (all_sent old.memory host.cache normal (rests h host is).clean p);
          image = clean_formats old.memory host.cache normal (rests h host is).clean p;
          whole = (tt, tt);
          sure = refl;
        })

    cut_exact : (k : ℕ) → HaltsMaking h p request.force k host old notes new → EventExact making x old new notes
    cut_exact k cut =
        subst (λ (z : Machines). EventExact making x old z notes) (sym cut.left)
        (subst (EventExact making x old _) (sym cut.notes_are)
        record {
          rests = own h host is (machine (operated_all (here.halted_ops k p) (machine_of old host)).image finmap.empty) clean_empty;
          image = halted_clean old.memory host.cache normal (rests h host is).clean k p ∙ sym (cut_is k);
          whole = (tt, tt);
          sure = halted_sure k x.state sure;
        })

    goes_exact : (o : Option ℕ) → MakesOrHalts o h p request.force host old notes new → EventExact making x old new notes
    goes_exact None made = made_exact made
    goes_exact (Some k) cut = cut_exact k cut

    makes_exact : ActsAt (call.Makes name request) h host old notes new → EventExact making x old new notes
    makes_exact (inl goes) = goes_exact request.halt goes
    makes_exact (inr met) =
        subst (λ (z : Machines). EventExact making x old z notes) (sym met.left)
        (subst (EventExact making x old _) (sym met.notes_are)
        record {
          rests = own h host is (operated_all here.read_ops (machine_of old host)) (read_sent old.memory host.cache normal (rests h host is).clean);
          image = read_image old.memory host.cache normal (rests h host is).clean;
          whole = (tt, tt);
          sure = sure;
        })

  moves_exact : (ev : Event) (name : List ℕ) (line : ℕ) (move : Move) (new : Machines) (notes : List Note) → AreFaultless notes
      → (h : ℕ) (host : HostState) → slice_get old.hosts h ≡ Some host → ActsAt (call.Moves name line move) h host old notes new
      → EventExact ev x old new notes
  moves_exact ev name line move new notes clean h host is (inl moves) =
      subst (λ (z : Machines). EventExact ev x old z notes) (sym moves.left)
      (subst (EventExact ev x old _) (sym moves.notes_are)
      record {
        rests = own h host is (moved move line (machine_of old host)) (moved_clean old.memory host.cache normal (rests h host is).clean move line);
        image = moved_image old.memory host.cache normal (rests h host is).clean move line;
        whole = tt;
        sure = sure;
      })
  moves_exact ev name line move new notes clean h host is (inr fails) = absurd (not_clean _ notes fails.notes_are refl clean)

  -- what a host keeps is forgotten
  umount_exact : (name : List ℕ) (new : Machines) (notes : List Note) → Does (call.Umounts name) old notes new → EventExact (event.Umount name) x old new notes
  umount_exact name new notes does =
      by_refusal (call.Umounts name) old new notes does (λ cause e f. quiet (event.Umount name) name cause new notes e f)
      (λ free acts. by_host (call.Umounts name) old new notes acts (λ h host number is at.
      subst (λ (z : Machines). EventExact (event.Umount name) x old z notes) (sym at.1)
      (subst (EventExact (event.Umount name) x old _) (sym at.0)
      record {
        rests = rests_changed h (λ z. record z { kept = None }) old.memory old.memory old.hosts rests (λ z at. record { clean = (rests h z at).clean; idle = (rests h z at).idle });
        image = refl;
        whole = (tt, tt);
        sure = sure;
      })))

  -- a cache's own move
  move_exact : (ev : Event) (name : List ℕ) (line : ℕ) (move : Move) (new : Machines) (notes : List Note) → AreFaultless notes
      → Does (call.Moves name line move) old notes new → EventExact ev x old new notes
  move_exact ev name line move new notes clean does =
      by_refusal (call.Moves name line move) old new notes does (λ cause e f. quiet ev name cause new notes e f)
      (λ free acts. by_host (call.Moves name line move) old new notes acts (λ h host number is at. moves_exact ev name line move new notes clean h host is at))

  -- a command begins, and is run to its answer
  module _ (name : List ℕ) (what : Ask) (s new : Session) (same : s.machines ≡ old) (notes : List Note) (clean : AreFaultless notes) (run : Continues Completes files name what s notes new) where
    pub record Through : Type 0 where
      pub h : ℕ
      pub host : HostState
      pub is : slice_get old.hosts h ≡ Some host
      pub number : number_of name old ≡ Some h
      pub rest : List Note
      pub joined : notes ≡ Start h run.begun.cmd ∷ rest
      pub sure_then : HasNothingPending (past_of start (journal ++ Start h run.begun.cmd ∷ [])).state
      pub ended : Ended (event.Run name what) start h old host is (joined_of h host is) run.begun.cmd (journal ++ Start h run.begun.cmd ∷ []) sure_then new.machines rest
      pub enough : least_lines ≤ length old.memory

    abbrev cmd : Cmd
    cmd = run.begun.cmd

    begun : Does (call.Begins name cmd) old run.first run.mid.machines
    begun = subst (λ (z : Machines). Does (call.Begins name cmd) z run.first run.mid.machines) same run.begun.does

    free : refusal_of (call.Begins name cmd) old ≡ None
    unfolding refusal_of
    free = subst (λ (z : Machines). call.may_begin name (is_mount cmd) z ≡ None) same (begun_free files name what s run.mid run.first run.begun)

    state_after : (h : ℕ) → HasNothingPending (past_of start (journal ++ Start h cmd ∷ [])).state
    state_after h = subst (λ (w : Past). HasNothingPending w.state) (sym (past_both (first_past start) journal (Start h cmd ∷ []))) sure

    through_host : (h : ℕ) (host : HostState) → number_of name old ≡ Some h → slice_get old.hosts h ≡ Some host → ActsAt (call.Begins name cmd) h host old run.first run.mid.machines → Through
    unfolding refusal_of
    through_host h host number is at =
        let mid : Machines = with_task h (Some (task_begun host.kept cmd host.uuid)) old in
        let mid_as : mid ≡ with_machine h (record { image = old.memory; cache = host.cache }) (Some (task_begun host.kept cmd host.uuid)) old =
        ap (λ (hosts : List HostState). record { memory = old.memory; hosts = hosts })
        (changed_same h (λ z. record z { task = Some (task_begun host.kept cmd host.uuid) })
        (λ z. record z { cache = host.cache; task = Some (task_begun host.kept cmd host.uuid) }) old.hosts host is refl) in
        let mid_is : run.mid.machines ≡ with_machine h (record { image = old.memory; cache = host.cache }) (Some (task_begun host.kept cmd host.uuid)) old = at.1 ∙ mid_as in
        let numbers : run.host ≡ h =
        same_Some run.host h (sym run.number ∙ ap (number_of name) at.1 ∙ place_same (has_name name)
        (λ z. record z { task = Some (task_begun host.kept cmd host.uuid) }) (λ z. refl) h 0 old.hosts ∙ number) in
        let completes : Completes h (with_machine h (record { image = old.memory; cache = host.cache }) (Some (task_begun host.kept cmd host.uuid)) old) run.rest new.machines =
        subst (λ (n : ℕ). Completes n (with_machine h (record { image = old.memory; cache = host.cache }) (Some (task_begun host.kept cmd host.uuid)) old) run.rest new.machines) numbers
        (subst (λ (z : Machines). Completes run.host z run.rest new.machines) mid_is run.does) in
        let kept' : Reached start run.mid.machines (journal ++ run.first) = begun_kept start files name what s run.mid journal run.first
        (subst (λ (z : Machines). Reached start z journal) (sym same) kept) run.begun in
        let kept_as : Reached start (with_machine h (record { image = old.memory; cache = host.cache }) (Some (task_begun host.kept cmd host.uuid)) old) (journal ++ Start h cmd ∷ []) =
        subst (λ (z : Machines). Reached start z (journal ++ Start h cmd ∷ [])) mid_is (subst (λ (z : List Note). Reached start run.mid.machines (journal ++ z)) at.0 kept') in
        record {
          h = h;
          host = host;
          is = is;
          number = number;
          rest = run.rest;
          joined = run.joined ∙ ap (λ (z : List Note). z ++ run.rest) at.0;
          sure_then = state_after h;
          ended = run_solo (event.Run name what) start h old host is (joined_of h host is) cmd (journal ++ Start h cmd ∷ [])
              (state_after h) completes.count new.machines run.rest kept_as completes.does (clean_rest run.first run.rest notes run.joined clean)
              completes.done;
          enough = at_most least_lines (length old.memory) (no_when _ _ (or_first _ _ (sym (ap (λ (o : Option ℕ). on_host o (λ h. begins_refusal h (is_mount cmd) old)) number) ∙ free)));
        }

    pub through : Through
    through =
        by_host (call.Begins name cmd) old run.mid.machines run.first
        (subst (λ (o : Option Refusal). ByRefusal name o run.first old run.mid.machines (Acts (call.Begins name cmd) old run.first run.mid.machines)) free begun) through_host

    command : IsCommand cmd
    command = run.begun.fits

    run_exact : EventExact (event.Run name what) x old new.machines notes
    run_exact = subst (EventExact (event.Run name what) x old new.machines) (sym through.joined) (from through)
      where
        from : (t : Through) → EventExact (event.Run name what) x old new.machines (Start t.h cmd ∷ t.rest)
        from t =
            let j : List Note = journal ++ Start t.h cmd ∷ [] in
            let past_is : past_of start j ≡ past_behind x (Start t.h cmd ∷ []) = past_both (first_past start) journal (Start t.h cmd ∷ []) in
            let settled : IsStateOf (past_of start j).state old.memory = subst (λ (w : Past). IsStateOf w.state old.memory) (sym past_is) (rest_state start old journal kept rests sure) in
            let limit : line_bytes * length old.memory ≤ device_limit = subst (λ (n : ℕ). line_bytes * n ≤ device_limit) (sym kept.held.lines) kept.held.limit in
            let f : Finished (event.Run name what) old (past_of start j) t.rest new.machines (operated (op_of t.ended.t) t.ended.m) =
            finished (event.Run name what) start t.h old t.host t.is (joined_of t.h t.host t.is) cmd j t.sure_then settled t.enough limit normal
            (rests t.h t.host t.is).clean command (front_of t.h t.host t.is) new.machines t.rest t.ended in
            let g : Finished (event.Run name what) old (past_behind x (Start t.h cmd ∷ [])) t.rest new.machines (operated (op_of t.ended.t) t.ended.m) =
            subst (λ (w : Past). Finished (event.Run name what) old w t.rest new.machines (operated (op_of t.ended.t) t.ended.m)) past_is f in
            record {
              rests = subst Rested (sym t.ended.state_is)
                  (rests_changed t.h (λ z. record z {
                    cache = (operated (op_of t.ended.t) t.ended.m).cache;
                    task = None;
                    kept =
                        kept_by t.ended.reply (read_by t.ended.t) t.host.kept;
                  }) old.memory (operated (op_of t.ended.t) t.ended.m).image old.hosts rests
                  (λ z at. record { clean = g.clean; idle = refl }));
              image = g.image;
              whole = (tt, g.whole);
              sure = g.sure;
            }

    -- its notes end in the rules' answer, and it leaves what they say
    pub record Solo : Type 0 where
      pub h : ℕ
      pub host : HostState
      pub is : slice_get old.hosts h ≡ Some host
      pub front : List Note
      pub notes_are : notes ≡ front ++ Answered h (Replied (solo_reply old.memory host.uuid cmd)) ∷ []
      pub left : new.machines.memory ≡ solo_image old.memory host.uuid cmd

    pub solo_run : Solo
    solo_run = from through
      where
        from : Through → Solo
        from t =
            let j : List Note = journal ++ Start t.h cmd ∷ [] in
            let settled : IsStateOf (past_of start j).state old.memory = subst (λ (w : Past). IsStateOf w.state old.memory)
            (sym (past_both (first_past start) journal (Start t.h cmd ∷ []))) (rest_state start old journal kept rests sure) in
            let limit : line_bytes * length old.memory ≤ device_limit = subst (λ (n : ℕ). line_bytes * n ≤ device_limit) (sym kept.held.lines) kept.held.limit in
            record {
              h = t.h;
              host = t.host;
              is = t.is;
              front = Start t.h cmd ∷ t.ended.before;
              notes_are =
                  t.joined
                  ∙ ap (λ (z : List Note). Start t.h cmd ∷ z) (t.ended.notes_are ∙ ap (λ (r : Reply). t.ended.before ++ Answered t.h (Replied r) ∷ [])
                  (reply_is (event.Run name what) start t.h old t.host t.is (joined_of t.h t.host t.is) cmd j t.sure_then settled t.enough limit
                  normal (rests t.h t.host t.is).clean command (front_of t.h t.host t.is) new.machines t.rest t.ended));
              left = left_is (event.Run name what) start t.h old t.host t.is (joined_of t.h t.host t.is) cmd j t.sure_then settled t.enough limit
                  normal (rests t.h t.host t.is).clean command (front_of t.h t.host t.is) new.machines t.rest t.ended;
            }

  -- an event
  event_exact : (e : Event) → IsValidEvent e → IsWholeEvent e → (s new : Session) → s.machines ≡ old → (notes : List Note) → AreFaultless notes
      → DoesEvent files e s notes new → EventExact e x old new.machines notes
  event_exact (event.Host name uuid) sound whole s new same notes clean does =
      by_refusal (call.Declares name uuid) old new.machines notes (subst (λ (z : Machines). Does (call.Declares name uuid) z notes new.machines) same does.0)
      (λ cause e f. quiet (event.Host name uuid) name cause new.machines notes e f) (λ free acts. declared_exact name uuid new.machines notes acts)
  event_exact (event.Mkfs name request) sound whole s new same notes clean does =
      by_refusal (call.Makes name request) old new.machines notes
      (subst (λ (z : Machines). Does (call.Makes name request) z notes new.machines) same does.0)
      (λ cause e f. quiet (event.Mkfs name request) name cause new.machines notes e f)
      (λ free acts. by_host (call.Makes name request) old new.machines notes acts
      (λ h host number is at. makes_exact name request new.machines notes h host is at))
  event_exact (event.Run name what) sound whole s new same notes clean (inl run) = run_exact name what s new same notes clean run
  event_exact (event.Run name what) sound whole s new same notes clean (inr (inl x)) =
      quiet (event.Run name what) name x.cause new.machines notes x.notes_are (ap (λ (z : Session). z.machines) x.same ∙ same)
  event_exact (event.Run name what) sound whole s new same notes clean (inr (inr x)) =
      by_refusal (call.Refuses name x.cause) old new.machines notes (subst (λ (z : Machines). Does (call.Refuses name x.cause) z notes new.machines) same x.does)
      (λ cause e f. quiet (event.Run name what) name cause new.machines notes e f) (λ free acts. quiet (event.Run name what) name x.cause new.machines notes acts.0 acts.1)
  event_exact (event.Umount name) sound whole s new same notes clean does =
      umount_exact name new.machines notes (subst (λ (z : Machines). Does (call.Umounts name) z notes new.machines) same does.0)
  event_exact (event.Evict name line) sound whole s new same notes clean does =
      move_exact (event.Evict name line) name line.0 Evict new.machines notes clean (subst (λ (z : Machines). Does (call.Moves name line.0 Evict) z notes new.machines) same does.0)
  event_exact (event.Leak name line mask) sound whole s new same notes clean does =
      move_exact (event.Leak name line mask) name line.0 (Leak mask.0) new.machines notes clean (subst (λ (z : Machines). Does (call.Moves name line.0 (Leak mask.0)) z notes new.machines) same does.0)
  event_exact (event.Fetch name line mask) sound whole s new same notes clean does =
      move_exact (event.Fetch name line mask) name line.0 (Fetch mask.0) new.machines notes clean
      (subst (λ (z : Machines). Does (call.Moves name line.0 (Fetch mask.0)) z notes new.machines) same does.0)
  event_exact e sound whole s new same notes clean does = absurd whole

-- All events.

-- what holds between events
pub record Between (start : Image) (s : Machines) (journal : List Note) : Type 0 where
  pub kept : Reached start s journal
  pub rests : Rested s
  pub sure : HasNothingPending (past_of start journal).state

module _ (start : Image) (files : Files) where
  exact_then : (e : Event) → IsValidEvent e → IsWholeEvent e → (old new : Session) (journal notes : List Note) → Between start old.machines journal
      → AreFaultless notes → DoesEvent files e old notes new → EventExact e (past_of start journal) old.machines new.machines notes
  exact_then e sound whole old new journal notes between clean does =
      event_exact start files old.machines journal between.kept between.rests between.sure e sound whole old new refl notes clean does

  pub one_more : (e : Event) → IsValidEvent e → IsWholeEvent e → (old new : Session) (journal notes : List Note) → Between start old.machines journal
      → AreFaultless notes → DoesEvent files e old notes new → Between start new.machines (journal ++ notes)
  one_more e sound whole old new journal notes between clean does =
      let x : EventExact e (past_of start journal) old.machines new.machines notes = exact_then e sound whole old new journal notes between clean does in
      record {
        kept = event_kept start files e sound old new journal notes between.kept does;
        rests = x.rests;
        sure = subst (λ (w : Past). HasNothingPending w.state) (sym (past_both (first_past start) journal notes)) x.sure;
      }

  -- behind all of them
  record AllExact (events : List Event) (old new : Session) (journal notes : List Note) (follows : Follows files events old notes new) : Type 0 where
    between : Between start new.machines (journal ++ notes)
    image : new.machines.memory ≡ events_image files events old notes new follows (past_of start journal) old.machines.memory
    whole : AreWholeEvents files events old notes new follows (past_of start journal) old.machines.memory

  all_exact : (events : List Event) → AreSound events → AreWhole events → (old new : Session) (journal notes : List Note)
      → Between start old.machines journal → AreFaultless notes → (follows : Follows files events old notes new)
      → AllExact events old new journal notes follows
  all_exact [] sound whole old new journal notes between clean follows = record {
    between = subst (λ (z : Session). Between start z.machines (journal ++ notes)) (sym follows.1)
        (subst (Between start old.machines) (sym (append-nil journal) ∙ ap (λ (z : List Note). journal ++ z) (sym follows.0)) between);
    image = ap (λ (z : Session). z.machines.memory) follows.1;
    whole = tt;
  }
  all_exact (e ∷ events) sound whole old new journal notes between clean follows =
      let first_clean : AreFaultless follows.1 = clean_prefix follows.1 follows.2 notes follows.5 clean in
      let x : EventExact e (past_of start journal) old.machines follows.0.machines follows.1 = exact_then e sound.0 whole.0 old follows.0 journal follows.1 between first_clean follows.3 in
      let one = one_more e sound.0 whole.0 old follows.0 journal follows.1 between first_clean follows.3 in
      let rest : AllExact events follows.0 new (journal ++ follows.1) follows.2 follows.4 =
      all_exact events sound.1 whole.1 follows.0 new (journal ++ follows.1) follows.2 one (clean_rest follows.1 follows.2 notes follows.5 clean) follows.4 in
      let past_is : past_of start (journal ++ follows.1) ≡ past_behind (past_of start journal) follows.1 = past_both (first_past start) journal follows.1 in
      record {
        between = subst (Between start new.machines) (append_assoc journal follows.1 follows.2 ∙ ap (λ (z : List Note). journal ++ z) (sym follows.5)) rest.between;
        image = rest.image ∙ ap₂ (λ (w : Past) (i : Image). events_image files events follows.0 follows.2 new follows.4 w i) past_is x.image;
        whole = (
          x.whole,
          subst (λ (w : Past). AreWholeEvents files events follows.0 follows.2 new follows.4 w (image_behind e (past_of start journal) old.machines.memory follows.1)) past_is
              (subst (λ (i : Image). AreWholeEvents files events follows.0 follows.2 new follows.4 (past_of start (journal ++ follows.1)) i) x.image rest.whole),
        );
      }

  pub at_start : (events : List Event) → AreSound events → IsImage start → Between start (unused start) []
  at_start events sound image = record { kept = first_kept start image files events sound; rests = λ k host none. absurd cc; sure = first_sure start }

  pub exact : (events : List Event) → IsImage start → AreSound events → (run : WholeRun files events start) → IsExact run
  exact events image sound run =
      let all : AllExact events (first_session start) run.last [] run.journal run.follows =
      all_exact events sound run.whole (first_session start) run.last [] run.journal (at_start events sound image) run.clean run.follows in
      record {
        image = all.image;
        sure = all.between.sure;
        settled = rest_state start run.last.machines run.journal all.between.kept all.between.rests all.between.sure;
        answers = all.whole;
      }
