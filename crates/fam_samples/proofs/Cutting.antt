-- A body of mkfs in which the media fails at the first load meets what the call promises.
use Rattle.std.proofs.Common.{◌≡◌, ℕ, ◌+◌, ◌*◌, ◌≤◌, true, List, [], ◌∷◌, ◌++◌, length, map, Option, Some, None, refl, ap, ap₂, sym, ◌∙◌, subst, arith}
use Rattle.fam_media.specs.States.{media_change}
use Prim.Native.Nat.{zero, suc}
use Rattle.std.specs.Prelude.{codes, drop, slice_get}
use Rattle.std.specs.FinMap as finmap
use Rattle.std.proofs.lemmas.Option.{same_Some}
use Rattle.fam_base.specs.declared.entry.Params.{Params}
use Rattle.fam_base.specs.declared.line.LineNo.{LineNo}
use Rattle.fam_base.specs.Image.{Image, eight, line_at, with_line}
use Rattle.fam_base.proofs.ImageLemmas.{with_line-line_at}
use Rattle.fam_machine.specs.MkfsRequest.{mkfs_request}
use Rattle.fam_format.specs.Params.{IsUuid, need}
use Rattle.fam_machine.specs.declared.cell.Cell.{Cell}
use Rattle.fam_machine.specs.declared.cell.Cell.TheVariants.{Absent}
use Rattle.fam_machine.specs.declared.op.Op.TheVariants.{Load, Invalidate}
use Rattle.fam_machine.specs.Caches.{Cache, cell_at, with_cell}
use Rattle.fam_machine.specs.OneLine.{IsHeld, sent}
use Rattle.fam_machine.specs.Operations.{Machine, not_brought, operated, line_no}
use Rattle.fam_machine.proofs.CacheLemmas.{cell_at-empty, cell_at-with_cell_same}
use Rattle.fam_rules.specs.Place.{line_bytes}
use Rattle.fam_journal.specs.declared.refusal.Refusal.TheVariants as why
use Rattle.fam_journal.specs.Calls.{AtNumber, CutCall, Call, CutsAt, Makes, MakesCut, OnHost, number_of, refusal_of}
use Rattle.fam_journal.specs.CallRecords.{Answers, LeavesBroken, CallBreaks, FitsMedia, HostFits, IsLateMake, MakeCall}
use Rattle.fam_journal.specs.Kept.{Held}
use Rattle.fam_journal.specs.Machines.{HostState, Machines, machine_of, with_machine}
use Rattle.fam_machine.specs.Mkfs.{asked, mkfs_ops, read_ops}
use Rattle.fam_journal.specs.Notes.{Note, Refused}
use Rattle.fam_journal.specs.View.{HostStands, WorldStands, WorldView}
use Rattle.fam_journal.specs.ByWorld.{refusal_in}
use Rattle.fam_journal.proofs.Calls.Hosts.{stands_changed}
use Rattle.fam_journal.proofs.JournalLaws.{cut_legal, cut_reads_as}
use Rattle.fam_journal.proofs.Calls.Shown.{number_shown, refusal_shown}
use Rattle.fam_journal.proofs.Calls.Stepped.{find_host}
use Rattle.fam_samples.specs.Bodies.{after_cut, before_mkfs, world_host}
use Rattle.fam_samples.proofs.Shaped.{cut_shape, shaped_m}
use Rattle.fam_samples.proofs.Making.{free}
use Rattle.fam_samples.proofs.Stepping.{none_held}

-- the first two of mkfs's operations: line 0 is dropped, and its first word is loaded
first_two : (p : Params) → mkfs_ops p ≡ (Invalidate (line_no 0) ∷ []) ++ Load (line_no 0) 0 ∷ drop 2 (mkfs_ops p)
unfolding read_ops
first_two p = refl

-- line 0, and the note that the media failed there
abbrev line_0 : LineNo
line_0 = record { 0 = 0 }

abbrev fault : Note
fault = Refused (codes "m") (why.MediaFault line_0)

module _ (me fs : List ℕ) (is_uuid : IsUuid fs) (image : Image) (enough : need 65536 4096 ≤ line_bytes * length image) (journal : List Note) (faults : ℕ) where
  abbrev lines : ℕ
  lines = length image

  abbrev call : Call
  call = Makes (codes "m") (mkfs_request fs 4096 65536 1 true None)

  abbrev old : WorldView
  old = before_mkfs me journal

  abbrev new : WorldView
  new = after_cut me journal

  fits : FitsMedia lines new.hosts
  fits zero view is = subst (HostFits lines) (same_Some _ view is) record { task = tt; cache = λ l held. absurd (let is_none : IsHeld Absent = subst IsHeld (none_held l) held in cc) }
  fits (suc h) view is = absurd cc

  answers : Answers call lines (Some (why.MediaFault line_0)) faults (faults + 1) old new
  answers = record {
    adds = record {
      notes = fault ∷ [];
      joined = refl;
      counted = omega arith;
      later = omega arith;
      named = (tt, tt);
      hosts = refl;
      fits = λ was. fits;
      shaped = λ is. shaped_m me journal finmap.empty (with_cell 0 Absent finmap.empty) is fault refl;
    };
    said = refl;
    refused = λ cause is. absurd (let none = free me fs is_uuid image enough journal faults in cc);
    free = λ cause none answered. subst IsLateMake (same_Some (why.MediaFault line_0) cause answered) tt;
    shape = λ is. cut_shape me journal finmap.empty (with_cell 0 Absent finmap.empty) is fs lines enough 0;
  }

  module _ (start : Image) (state : Machines) (held : Held start state old state.memory) (same : image ≡ state.memory)
      (lines_are : length state.memory ≡ length start) (stands : WorldStands (length state.memory) state old) (host : HostState)
      (host_is : slice_get state.hosts 0 ≡ Some host) (mine : HostStands (length state.memory) host (world_host me finmap.empty None)) where
    abbrev p : Params
    p = asked (mkfs_request fs 4096 65536 1 true None) host.uuid (length state.memory)

    abbrev behind : Machine
    behind = operated (Invalidate (line_no 0)) (machine_of state host)

    abbrev left : Machines
    left = with_machine 0 behind host.task state

    -- line 0 is absent, nothing is sent, and the image is as it was
    image_is : behind.image ≡ image
    image_is =
        ap₂ (λ (x : Image) (c : Cache). with_line 0 (sent (line_at x 0) (cell_at c 0)) x) (sym same) mine.cache
        ∙ ap (λ (c : Cell). with_line 0 (sent (line_at image 0) c) image) (cell_at-empty 0)
        ∙ with_line-line_at image (subst (λ (x : Image). map eight x ≡ x) (sym same) held.kept.held.normal) 0

    number_is : number_of (codes "m") state ≡ Some 0
    number_is = number_shown (length state.memory) state old (codes "m") stands

    none : refusal_of call state ≡ None
    none = refusal_shown (length state.memory) state old call stands ∙ ap (refusal_in call old) (sym (ap (λ (x : Image). length x) same)) ∙ free me fs is_uuid image enough journal faults

    cut : MakesCut 0 p true None (codes "m") host state (fault ∷ []) left
    cut = record {
      line = line_no 0;
      left = behind;
      cuts = record {
        done = Invalidate (line_no 0) ∷ [];
        op = Load (line_no 0) 0;
        rest = drop 2 (mkfs_ops p);
        split = first_two p;
        fails = record { through = record { mask = 0; sent = 0 }; fits = omega arith; is = ap (not_brought (line_no 0) behind) (cell_at-with_cell_same 0 Absent host.cache) };
      };
      notes_are = refl;
      left_is = refl;
    }

    row : CutCall call state (fault ∷ []) left
    row = (
      none,
      subst (λ (o : Option ℕ). AtNumber o state (λ h host. CutsAt call h host state (fault ∷ []) left)) (sym number_is)
          (subst (λ (o : Option HostState). OnHost o (λ host. CutsAt call 0 host state (fault ∷ []) left)) (sym host_is) cut),
    )

    new_stands : WorldStands (length start) left new
    new_stands =
        subst (λ (n : ℕ). WorldStands n left new) lines_are
        (stands_changed 0 (world_host me finmap.empty None) old.hosts refl (λ v. record v { cache = with_cell 0 Absent finmap.empty })
        (length state.memory) state.hosts host host_is (λ z. record z { cache = behind.cache; task = host.task })
        record { name = mine.name; uuid = mine.uuid; cache = ap (with_cell 0 Absent) mine.cache; task = mine.task; kept = mine.kept; joined = mine.joined } stands)

    breaks : LeavesBroken start (Some image) call state old new
    breaks = record {
      state = left;
      notes = fault ∷ [];
      row = row;
      told_is = ap Some (sym image_is);
      joined = refl;
      stands = new_stands;
      legal = cut_legal start state left old call (fault ∷ []) held row;
      reads = cut_reads_as start state left old call (fault ∷ []) held (record { fs = is_uuid; format = refl }) row;
    }

  leaves : (start : Image) → CallBreaks call start (Some image) (Some image) old new
  leaves start state told held =
      let lines_are : length state.memory ≡ length start = held.kept.held.lines in
      let stands : WorldStands (length state.memory) state old = subst (λ (n : ℕ). WorldStands n state old) (sym lines_are) held.stands in
      let found = find_host (length state.memory) (world_host me finmap.empty None) (slice_get state.hosts 0) (stands 0) in
      breaks start state held (same_Some image state.memory told) lines_are stands found.0 found.1 found.2

  pub meets_cut : MakeCall call lines (Some (why.MediaFault line_0)) (media_change (Some image) faults (Some image) (faults + 1)) old new
  meets_cut = record { answers = answers; leaves = leaves }
