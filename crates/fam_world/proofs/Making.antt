-- A mkfs at a declared host meets what the call promises.
use Rattle.std.proofs.Common.{◌≡◌, ℕ, ◌<◌, ◌≤◌, ◌*◌, inl, inr, List, [], ◌∷◌, ◌++◌, length, map, Option, Some, None, Result, refl, ap, ap₂, sym, ◌∙◌, subst, arith}
use Rattle.std.specs.Prelude.{slice_get, option_map}
use Rattle.std.specs.FinMap as map_of
use Rattle.std.proofs.lemmas.Bool.{cases_eq, false≢true}
use Rattle.std.proofs.lemmas.Option.{same_Some}
use Rattle.fam_base.specs.declared.entry.Params.{Params}
use Rattle.fam_base.specs.declared.line.LineNo.{LineNo}
use Rattle.fam_base.specs.Image.{Image}
use Rattle.fam_machine.specs.declared.request.MkfsRequest.{MkfsRequest}
use Rattle.fam_format.specs.Layout.{gate_line, least_lines, log_line}
use Rattle.fam_format.proofs.UnitPowers.{unit_told}
use Rattle.fam_format.specs.Params.{is_log_length, is_unit}
use Rattle.fam_media.specs.Causes.{Rose}
use Rattle.fam_media.specs.Outside.{IfModelled}
use Rattle.fam_media.specs.States.{media_change}
use Rattle.fam_machine.specs.Caches.{Cache, cell_at}
use Rattle.fam_machine.specs.Cuts.{HasCut, IsMachine}
use Rattle.fam_machine.specs.Mkfs.{EarlyRefusal, asked, early_refusal, expected_ops, goes_on, halted_ops, mkfs_ops, read_ops, superblock_found}
use Rattle.fam_machine.specs.OneLine.{IsHeld}
use Rattle.fam_machine.specs.Operations.{Machine, machine, operated_all}
use Rattle.fam_machine.proofs.CacheLemmas.{cell_at-empty}
use Rattle.fam_machine.proofs.MkfsOps.{early_free}
use Rattle.fam_rules.specs.Place.{line_bytes}
use Rattle.fam_cache.specs.Runs.{over}
use Rattle.fam_mkfs.specs.declared.make.MkfsEnd.{MkfsEnd}
use Rattle.fam_mkfs.specs.declared.make.MkfsEnd.TheVariants as ended
use Rattle.fam_mkfs.specs.Ends.{IsCut, FindsSuper, IsHaltedAsAsked, IsMadeAsAsked, MkfsEnds, ReadsUuid}
use Rattle.fam_mkfs.specs.Refusals.{refusal_end, refusal}
use Rattle.fam_mkfs.specs.Parts.{IsElsewhere}
use Rattle.fam_journal.specs.declared.refusal.Refusal.{Refusal}
use Rattle.fam_journal.specs.declared.refusal.Refusal.TheVariants as why
use Rattle.fam_journal.specs.Calls as call
use Rattle.fam_journal.specs.Calls.{AtNumber, CutCall, CutsAt, HaltsMaking, IsSoundRequest, MakesCut, MakesFileSystem, MakesOrHalts, Meets, OnHost, number_of}
use Rattle.fam_journal.specs.CallRecords.{Answers, CallBreaks, CallKeeps, FitsMedia, HostFits, IsLateMake, KeepsOrBreaks, MakeCall, heading}
use Rattle.fam_journal.specs.Ends.{HasCounted, cause_faults}
use Rattle.fam_journal.specs.Shapes.{HostShaped, IsShaped, Pairs, shapes_behind, shapes_of, made_note}
use Rattle.fam_journal.specs.Kept.{Held}
use Rattle.fam_journal.specs.Machines.{HostState, Machines, machine_of, with_machine}
use Rattle.fam_journal.specs.Members.{changed_at}
use Rattle.fam_journal.specs.Names.{AreNamed}
use Rattle.fam_journal.specs.Notes.{Cut, Made, Note, Refused}
use Rattle.fam_journal.specs.View.{HostStandsAt, HostView, WorldStands, WorldView}
use Rattle.fam_journal.specs.ByWorld.{number_in, refusal_in}
use Rattle.fam_journal.proofs.Calls.Hosts.{stands_changed}
use Rattle.fam_journal.proofs.Calls.Tests.{both_first}
use Rattle.fam_journal.proofs.Calls.Shown.{number_shown}
use Rattle.fam_journal.proofs.JournalLaws.{cut_legal, cut_reads_as}
use Rattle.fam_world.specs.declared.fault.WorldFault.{WorldFault}
use Rattle.fam_world.specs.Answers.{IfAnswered, IsRefused}
use Rattle.fam_world.specs.Makes.{MakerEnds, cache_behind, end_note, end_result}
use Rattle.fam_world.proofs.Answering.{shaped_same, free_answers, refused_answers}
use Rattle.fam_world.proofs.MakeShapes.{fault_shape, maker_shape, refused_make}
use Rattle.fam_world.proofs.Members.{fits_kept, shapes_kept, map_kept}
use Rattle.fam_world.proofs.Moving.{with_cache}
use Rattle.fam_world.proofs.Rows.{first_refusal, found, refused_keeps, row_kept}

-- a line of a mkfs, or another one
elsewhere : (l : ℕ) (P : Type 0) → ((IsElsewhere l) → P) → ((l ≡ 0) → P) → ((l ≡ 1) → P) → ((l ≡ 2) → P) → ((l ≡ log_line) → P) → ((l ≡ gate_line) → P) → P
elsewhere l P other magic prefix rest log gate =
    elim (cases_eq l 0) [
      | inl e ↦ magic e
      | inr n0 ↦
          elim (cases_eq l 1) [
            | inl e ↦ prefix e
            | inr n1 ↦
                elim (cases_eq l 2) [
                  | inl e ↦ rest e
                  | inr n2 ↦
                      elim (cases_eq l log_line) [
                        | inl e ↦ log e
                        | inr n3 ↦
                            elim (cases_eq l gate_line) [
                              | inl e ↦ gate e
                              | inr n4 ↦ other (record { magic = n0; prefix = n1; rest = n2; log = n3; gate = n4 })
                            ]
                      ]
                ]
          ]
    ]

-- what the maker holds behind an end, its operations left
pub held_behind : (end : MkfsEnd) (ran old : Cache) (l : ℕ) → cell_at ran l ≡ cell_at old l → IsHeld (cell_at (cache_behind end ran) l) → IsHeld (cell_at old l)
held_behind (ended.Halted k) ran old l same held = absurd (false≢true (subst IsHeld (cell_at-empty l) held))
held_behind other ran old l same held = subst IsHeld same held

-- a refusal at once is no cut
leaves_refused : (cause : Refusal) (c : call.Call) (start : Image) (told now : Option Image) (old new : WorldView) → cause_faults cause ≡ 0
    → CallKeeps c start told now old new → KeepsOrBreaks cause c start told now old new
leaves_refused (why.MediaFault at) c start told now old new none keeps = absurd cc
leaves_refused other c start told now old new none keeps = keeps

none_before : (o : Option EarlyRefusal) → option_map refusal_end o ≡ None → o ≡ None
none_before None e = refl
none_before (Some x) e = absurd cc

-- where the numbers are no hindrance, the image has a gate
pub wide_of : (unit log lines : ℕ) → refusal unit log (line_bytes * lines) ≡ None → least_lines ≤ lines
wide_of unit log lines free =
    let early = early_free unit log (line_bytes * lines) (none_before (early_refusal unit log (line_bytes * lines)) free) in
    omega (arith, early.1, (unit_told unit (both_first (is_unit unit) (is_log_length unit log) early.0)).least)

module _ (name : List ℕ) (request : MkfsRequest) (is_sound : IsSoundRequest request) (lines : ℕ) (old : WorldView) where
  abbrev c : call.Call
  c = call.Makes name request

  -- it is refused at once
  pub make_refused : (told : Option Image) (faults : ℕ) (new : WorldView) (cause : Refusal) → IfModelled told (λ image. length image ≡ lines)
      → IsRefused c lines old cause → new.hosts ≡ old.hosts → new.journal ≡ old.journal ++ Refused name cause ∷ []
      → MakeCall c lines (Some cause) (media_change told faults told faults) old new
  make_refused told faults new cause modelled refused hosts journal = record {
    answers = refused_answers c lines faults old new cause refused hosts journal (λ is. refused_make name request lines old is cause refused.first);
    leaves = λ start. leaves_refused cause c start told told old new refused.faultless (refused_keeps c lines start told old new cause is_sound modelled refused.first hosts journal);
  }

  module _ (at : ℕ) (view : HostView) (number : number_in name old ≡ Some at) (free : refusal_in c old lines ≡ None) (within : at < length old.hosts) (view_is : slice_get old.hosts at ≡ Some view)
      (told now : Option Image) (faults faults_now : ℕ) (new : WorldView) (modelled : IfModelled told (λ image. length image ≡ lines)) (wide : 32770 ≤ lines) (cache : Cache)
      (others : (l : ℕ) → IsElsewhere l → IsHeld (cell_at cache l) → IsHeld (cell_at view.cache l)) (hosts : new.hosts ≡ changed_at at (with_cache cache) old.hosts) (later : faults ≤ faults_now) where
    abbrev p : Params
    p = asked request view.uuid lines

    fits : HostFits lines view → HostFits lines (with_cache cache view)
    fits was = record {
      task = was.task;
      cache = λ l is. elsewhere l (l < lines) (λ other. was.cache l (others l other is)) (λ e. omega (arith, e, wide)) (λ e. omega (arith, e, wide))
          (λ e. omega (arith, e, wide)) (λ e. omega (arith, e, wide)) (λ e. omega (arith, e, wide));
    }

    answers : (answered : Option Refusal) (notes : List Note) → new.journal ≡ old.journal ++ notes → HasCounted faults faults_now notes
        → AreNamed (length new.hosts) notes → shapes_behind (shapes_of old.journal) notes ≡ shapes_of old.journal
        → answered ≡ Rattle.fam_journal.specs.CallRecords.refusal_noted notes → ((cause : Refusal) → answered ≡ Some cause → IsLateMake cause)
        → (IsShaped old → Rattle.fam_journal.specs.CallRecords.CallShape c lines (shapes_of old.journal) notes)
        → Answers c lines answered faults faults_now old new
    answers answered notes joined counted named same said late shape =
        free_answers c lines faults faults_now answered old new notes joined counted later named
        (ap (λ (vs : List HostView). map heading vs) hosts ∙ map_kept heading (with_cache cache) (λ v. refl) at old.hosts)
        (λ was. subst (FitsMedia lines) (sym hosts) (fits_kept lines at (with_cache cache) old.hosts view view_is fits was))
        (shaped_same old new notes same joined
        (λ shapes all. subst (λ (vs : List HostView). Pairs HostShaped vs shapes) (sym hosts)
        (shapes_kept (with_cache cache) (λ v f is. record { name = is.name; uuid = is.uuid; task = is.task; keeps = is.keeps }) at old.hosts
        shapes all)))
        said free late shape

    count_is : length new.hosts ≡ length old.hosts
    count_is = ap (λ (vs : List HostView). length vs) hosts ∙ Rattle.fam_world.proofs.Members.length_kept (with_cache cache) at old.hosts

    -- on a state for which the world is held
    module _ (start : Image) (state : Machines) (told_is : told ≡ Some state.memory) (held : Held start state old state.memory) where
      abbrev lines_are : length state.memory ≡ lines
      lines_are = modelled state.memory told_is

      abbrev host : (host : HostState) × (slice_get state.hosts at ≡ Some host) × Rattle.fam_journal.specs.View.HostStands (length start) host view
      host = found start state old held c lines lines_are at view number free view_is

      params_are : asked request host.0.uuid (length state.memory) ≡ p
      params_are = ap₂ (λ (id : List ℕ) (n : ℕ). asked request id n) host.2.uuid lines_are

      machine_is : machine_of state host.0 ≡ machine state.memory view.cache
      machine_is = ap (λ (x : Cache). machine state.memory x) host.2.cache

      abbrev left_by : Machine → Machines
      left_by z = with_machine at z host.0.task state

      stands : (z : Machine) → cache ≡ z.cache → WorldStands (length start) (left_by z) new
      stands z same k =
          subst (λ (vs : List HostView). HostStandsAt (length start) (slice_get (left_by z).hosts k) (slice_get vs k)) (sym hosts)
          (stands_changed at view old.hosts view_is (with_cache cache) (length start) state.hosts host.0 host.1 (λ s. record s { cache = z.cache; task = host.0.task })
          record { name = host.2.name; uuid = host.2.uuid; cache = sym same; task = host.2.task; kept = host.2.kept; joined = host.2.joined } held.stands k)

    -- it is made
    module _ (journal : new.journal ≡ old.journal ++ Made at p ∷ []) (made : IsMadeAsAsked p request.force request.halt (over told view.cache) (over now cache)) where
      made_keeps : (start : Image) → CallKeeps c start told now old new
      made_keeps start state told_is held =
          let h = host start state told_is held in
          let same = machine_is start state told_is held in
          let ps = params_are start state told_is held in
          let m : IsMachine (operated_all (mkfs_ops p) (machine state.memory view.cache)) now cache = made.done.done.is state.memory told_is in
          let z : Machine = operated_all (mkfs_ops p) (machine_of state h.0) in
          let zm : z ≡ operated_all (mkfs_ops p) (machine state.memory view.cache) = ap (λ (x : Machine). operated_all (mkfs_ops p) x) same in
          let left : Machines = left_by start state told_is held z in
          let acts : MakesFileSystem at p request.force h.0 state (Made at p ∷ []) left =
          record { free = ap (λ (x : Machine). goes_on request.force (superblock_found p x)) same ∙ made.done.free state.memory told_is; notes_are = refl; left = refl } in
          row_kept start state old held c lines (modelled state.memory told_is) at view number free view_is new now (Made at p ∷ []) left (λ x. x)
          (inl (subst (λ (o : Option ℕ). MakesOrHalts o at (asked request h.0.uuid (length state.memory)) request.force h.0 state
          (Made at p ∷ []) left) (sym made.unhalted)
          (subst (λ (q : Params). MakesFileSystem at q request.force h.0 state (Made at p ∷ []) left) (sym ps) acts))) is_sound
          (m.image ∙ ap (λ (x : Machine). Some x.image) (sym zm)) journal (stands start state told_is held z (m.cache ∙ ap (λ (x : Machine). x.cache) (sym zm)))

      pub made_call : MakeCall c lines None (media_change told faults now faults_now) old new
      made_call = record {
        answers = answers None (Made at p ∷ []) journal (omega (arith, later)) (subst (λ (n : ℕ). at < n) (sym count_is) within, tt) refl refl (λ cause e. absurd cc)
            (λ is. maker_shape name request lines old is at view number view_is free (Made at p ∷ [])
            (λ f e. inl (ap (λ (id : List ℕ). Made at (asked request id lines) ∷ []) (sym e)
            ∙ ap (λ (o : Option ℕ). made_note o at (asked request f.uuid lines) ∷ []) (sym made.unhalted))));
        leaves = made_keeps;
      }

    -- its maker halts, and its cache is lost
    module _ (k : ℕ) (journal : new.journal ≡ old.journal ++ Cut at k ∷ []) (ran : Cache) (lost : cache ≡ map_of.empty)
        (halts : IsHaltedAsAsked p request.force request.halt k (over told view.cache) (over now ran)) where
      halted_keeps : (start : Image) → CallKeeps c start told now old new
      halted_keeps start state told_is held =
          let h = host start state told_is held in
          let same = machine_is start state told_is held in
          let ps = params_are start state told_is held in
          let m : IsMachine (operated_all (halted_ops k p) (machine state.memory view.cache)) now ran = halts.done.done.is state.memory told_is in
          let z : Machine = machine (operated_all (halted_ops k p) (machine_of state h.0)).image map_of.empty in
          let left : Machines = left_by start state told_is held z in
          let acts : HaltsMaking at p request.force k h.0 state (Cut at k ∷ []) left =
          record { free = ap (λ (x : Machine). goes_on request.force (superblock_found p x)) same ∙ halts.done.free state.memory told_is; notes_are = refl; left = refl } in
          row_kept start state old held c lines (modelled state.memory told_is) at view number free view_is new now (Cut at k ∷ []) left (λ x. x)
          (inl (subst (λ (o : Option ℕ). MakesOrHalts o at (asked request h.0.uuid (length state.memory)) request.force h.0 state
          (Cut at k ∷ []) left) (sym halts.asked)
          (subst (λ (q : Params). HaltsMaking at q request.force k h.0 state (Cut at k ∷ []) left) (sym ps) acts))) is_sound
          (m.image ∙ ap (λ (x : Machine). Some (operated_all (halted_ops k p) x).image) (sym same)) journal (stands start state told_is held z lost)

      pub halted_call : MakeCall c lines None (media_change told faults now faults_now) old new
      halted_call = record {
        answers = answers None (Cut at k ∷ []) journal (omega (arith, later)) (subst (λ (n : ℕ). at < n) (sym count_is) within, tt) refl refl (λ cause e. absurd cc)
            (λ is. maker_shape name request lines old is at view number view_is free (Cut at k ∷ [])
            (λ f e. inl (ap (λ (o : Option ℕ). made_note o at (asked request f.uuid lines) ∷ []) (sym halts.asked))));
        leaves = halted_keeps;
      }

    -- a superblock stands there
    module _ (id : List ℕ) (journal : new.journal ≡ old.journal ++ Refused name (why.HasSuper id) ∷ []) (found_is : FindsSuper p request.force id (over told view.cache) (over now cache)) where
      found_keeps : (start : Image) → CallKeeps c start told now old new
      found_keeps start state told_is held =
          let h = host start state told_is held in
          let same = machine_is start state told_is held in
          let ps = params_are start state told_is held in
          let m : IsMachine (operated_all read_ops (machine state.memory view.cache)) now cache = found_is.done.is state.memory told_is in
          let names : ReadsUuid p (machine state.memory view.cache) id = found_is.names state.memory told_is in
          let z : Machine = operated_all read_ops (machine_of state h.0) in
          let zm : z ≡ operated_all read_ops (machine state.memory view.cache) = ap (λ (x : Machine). operated_all read_ops x) same in
          let left : Machines = left_by start state told_is held z in
          let notes : List Note = Refused name (why.HasSuper id) ∷ [] in
          let acts : Meets at p request.force name h.0 state notes left =
          record {
            unforced = found_is.unforced;
            other = names.other;
            stands = ap (λ (x : Machine). superblock_found p x) same ∙ names.reads;
            notes_are = ap (λ (u : List ℕ). Refused name (why.HasSuper u) ∷ []) names.named;
            left = refl;
          } in
          row_kept start state old held c lines (modelled state.memory told_is) at view number free view_is new now notes left (λ x. x)
          (inr (subst (λ (q : Params). Meets at q request.force name h.0 state notes left) (sym ps) acts)) is_sound
          (m.image ∙ ap (λ (x : Machine). Some x.image) (sym zm)) journal (stands start state told_is held z (m.cache ∙ ap (λ (x : Machine). x.cache) (sym zm)))

      pub found_call : MakeCall c lines (Some (why.HasSuper id)) (media_change told faults now faults_now) old new
      found_call = record {
        answers = answers (Some (why.HasSuper id)) (Refused name (why.HasSuper id) ∷ []) journal (omega (arith, later)) (tt, tt) refl refl
            (λ cause e. subst IsLateMake (same_Some (why.HasSuper id) cause e) tt)
            (λ is. maker_shape name request lines old is at view number view_is free (Refused name (why.HasSuper id) ∷ [])
            (λ f e. inr (record { unforced = found_is.unforced; fs = id; notes_are = refl })));
        leaves = found_keeps;
      }

    -- the media failed
    module _ (line : LineNo) (journal : new.journal ≡ old.journal ++ Refused name (why.MediaFault line) ∷ [])
        (cut_is : IsCut p request.force request.halt lines line (over told view.cache) (over now cache) faults faults_now) where
      abbrev notes : List Note
      notes = Refused name (why.MediaFault line) ∷ []

      cut_breaks : (start : Image) → CallBreaks c start told now old new
      cut_breaks start state told_is held =
          let h = host start state told_is held in
          let same = machine_is start state told_is held in
          let ps = params_are start state told_is held in
          let cut : HasCut (expected_ops request.force request.halt p (machine state.memory view.cache)) (machine state.memory view.cache) line now cache = cut_is.cut state.memory told_is in
          let left : Machines = left_by start state told_is held cut.left in
          let acts : MakesCut at p request.force request.halt name h.0 state notes left =
          record {
            line = line;
            left = cut.left;
            cuts =
                subst (λ (x : Machine). Rattle.fam_machine.specs.Cuts.Cuts (expected_ops request.force request.halt p x) x line cut.left)
                (sym same) cut.cuts;
            notes_are = refl;
            left_is = refl;
          } in
          let number_is : number_of name state ≡ Some at = number_shown (length start) state old name held.stands ∙ number in
          let row : CutCall c state notes left = (
            first_refusal start state old held c lines (modelled state.memory told_is) ∙ free,
            subst (λ (o : Option ℕ). AtNumber o state (λ k host. CutsAt c k host state notes left)) (sym number_is)
                (subst (λ (o : Option HostState). OnHost o (λ host. CutsAt c at host state notes left)) (sym h.1)
                (subst (λ (q : Params). MakesCut at q request.force request.halt name h.0 state notes left) (sym ps) acts)),
          ) in
          record {
            state = left;
            notes = notes;
            row = row;
            told_is = cut.is.image;
            joined = journal;
            stands = stands start state told_is held cut.left cut.is.cache;
            legal = subst (λ (j : List Note). Rattle.fam_journal.specs.Legal.Legal start j) (sym journal) (cut_legal start state left old c notes held row);
            reads = cut_reads_as start state left old c notes held is_sound row;
          }

      pub cut_call : MakeCall c lines (Some (why.MediaFault line)) (media_change told faults now faults_now) old new
      cut_call = record {
        answers = answers (Some (why.MediaFault line)) notes journal (counted cut_is.rose) (tt, tt) refl refl
            (λ cause e. subst IsLateMake (same_Some (why.MediaFault line) cause e) tt) (λ is. fault_shape name request lines old is free line.0);
        leaves = cut_breaks;
      }
        where
          counted : Rose faults faults_now → HasCounted faults faults_now notes
          counted (inl less) = omega (arith, less)
          counted (inr last) = omega (arith, last)

    -- however it ended
    stayed : (end : MkfsEnd) (ran : Cache) → cache ≡ ran
        → MkfsEnds p request.force request.halt lines (over told view.cache) (over now ran) faults faults_now end
        → MkfsEnds p request.force request.halt lines (over told view.cache) (over now cache) faults faults_now end
    stayed end ran is ends = subst (λ (x : Cache). MkfsEnds p request.force request.halt lines (over told view.cache) (over now x) faults faults_now end) (sym is) ends

    abbrev Called : Option Refusal → Type 0
    Called answered = MakeCall c lines answered (media_change told faults now faults_now) old new

    by_end : (end : MkfsEnd) → new.journal ≡ old.journal ++ end_note at name end ∷ []
        → MakerEnds p request.force request.halt lines (over told view.cache) now cache faults faults_now end → IfAnswered (end_result end) Called
    by_end (ended.Made made) journal ends =
        let e = stayed (ended.Made made) ends.ran ends.left ends.ends in
        made_call (journal ∙ ap (λ (q : Params). old.journal ++ Made at q ∷ []) e.0) e.1
    by_end (ended.Halted k) journal ends = halted_call k journal ends.ran ends.left ends.ends
    by_end (ended.HasSuper id) journal ends = found_call id journal (stayed (ended.HasSuper id) ends.ran ends.left ends.ends)
    by_end (ended.Failed line) journal ends = cut_call line journal (stayed (ended.Failed line) ends.ran ends.left ends.ends)
    by_end (ended.BadGeometry u l) journal ends = absurd ends.ends
    by_end (ended.TooSmall need have) journal ends = absurd ends.ends

    pub make_ended : (end : MkfsEnd) (given : Result (Unit {0}) WorldFault) → given ≡ end_result end → new.journal ≡ old.journal ++ end_note at name end ∷ []
        → MakerEnds p request.force request.halt lines (over told view.cache) now cache faults faults_now end
        → IfAnswered given (λ answered. MakeCall c lines answered (media_change told faults now faults_now) old new)
    make_ended end given is journal ends =
        subst (λ (r : Result (Unit {0}) WorldFault). IfAnswered r Called) (sym is) (by_end end journal ends)
