-- A body that does mkfs's operations meets what the call promises.
use Rattle.std.proofs.Common.{◌≡◌, inl, inr, ℕ, ◌*◌, ◌≤◌, ◌<◌, Bool, true, false, List, [], ◌∷◌, ◌++◌, length, Option, Some, None, refl, ap, ap₂, sym, ◌∙◌, subst, arith}
use Rattle.fam_media.specs.States.{media_change}
use Prim.Native.Nat.{zero, suc}
use Rattle.std.specs.Prelude.{⊤, codes, slice_get, nat_lt, if◌then◌else◌, option_map}
use Rattle.std.specs.FinMap as finmap
use Rattle.std.specs.List.{flat_map}
use Rattle.std.proofs.lemmas.Bool.{cases_eq}
use Rattle.std.proofs.lemmas.Bool.Decides.{nat_tests}
use Rattle.std.proofs.lemmas.List.{length-replicate}
use Rattle.std.proofs.lemmas.Option.{same_Some}
use Rattle.fam_base.specs.declared.entry.Params.{Params}
use Rattle.fam_base.specs.Image.{Image}
use Rattle.fam_machine.specs.MkfsRequest.{mkfs_request}
use Rattle.fam_format.specs.Params.{IsUuid, need}
use Rattle.fam_format.specs.Stop.{or_else}
use Rattle.fam_machine.specs.declared.cell.Cell.{Cell}
use Rattle.fam_machine.specs.declared.cell.Cell.TheVariants.{Absent, Clean, Dirty}
use Rattle.fam_machine.specs.declared.op.Op.{Op}
use Rattle.fam_machine.specs.declared.op.Op.TheVariants.{Load, Store, WriteBack, Fence, Invalidate, Digest}
use Rattle.fam_machine.specs.Caches.{Cache, asked_lines, cell_at}
use Rattle.fam_machine.specs.OneLine.{IsHeld, cleaned}
use Rattle.fam_machine.specs.Operations.{Machine, operated, operated_all, load_ops, send_line, send_lines}
use Rattle.fam_machine.proofs.CacheLemmas.{cell_at-empty}
use Rattle.fam_machine.proofs.FenceLemmas.{send_here, send_other}
use Rattle.fam_machine.proofs.OneOperation.{IsAt, cache_away}
use Rattle.fam_rules.specs.Place.{line_bytes}
use Rattle.fam_rules.specs.Written.{Put, format_puts}
use Rattle.fam_journal.specs.declared.refusal.Refusal.{Refusal}
use Rattle.fam_journal.specs.Calls.{Acts, ActsAt, AtNumber, ByRefusal, Call, Does, MakesFileSystem, Makes, OnHost, cause_of, number_of, refusal_of}
use Rattle.fam_journal.specs.CallRecords.{Answers, CallKeeps, DoesRow, FitsMedia, HostFits, MakeCall}
use Rattle.fam_journal.specs.Kept.{Held}
use Rattle.fam_journal.specs.Machines.{HostState, Machines, machine_of, with_machine}
use Rattle.fam_machine.specs.Mkfs.{TooSmall, asked, mkfs_ops, put_ops, read_ops, write_ops}
use Rattle.fam_journal.specs.Notes.{Made, Note}
use Rattle.fam_journal.specs.View.{HostStands, WorldStands, WorldView}
use Rattle.fam_journal.specs.ByWorld.{refusal_in, shown_state}
use Rattle.fam_journal.proofs.Calls.Hosts.{stands_changed}
use Rattle.fam_protocol.proofs.Hosts.Inside.{AsksWithin}
use Rattle.fam_journal.proofs.JournalLaws.{kept_on}
use Rattle.fam_journal.proofs.Calls.Shown.{number_shown, refusal_shown}
use Rattle.fam_journal.proofs.Calls.Stepped.{find_host}
use Rattle.fam_samples.proofs.Shaped.{shaped_m, made_shape}
use Rattle.fam_samples.specs.Bodies.{after_mkfs, before_mkfs, world_host, made_machine, params_m}

-- Operations at the first lines leave copies of the first lines.

abbrev AreWithin : ℕ → List Op → Type 0
AreWithin n [] = ⊤
AreWithin n (op ∷ ops) = AsksWithin n op × AreWithin n ops

abbrev CellsFit : ℕ → Cache → Type 0
CellsFit n cache = (l : ℕ) → IsHeld (cell_at cache l) → l < n

within_both : (n : ℕ) (a b : List Op) → AreWithin n a → AreWithin n b → AreWithin n (a ++ b)
within_both n [] b first rest = rest
within_both n (op ∷ a) b first rest = (first.0, within_both n a b first.1 rest)

at_line : (n : ℕ) (op : Op) (m : Machine) (line : ℕ) → IsAt op line → line < n → CellsFit n m.cache → CellsFit n (operated op m).cache
at_line n op m line at below fit l held =
    elim (cases_eq l line) [
      | inl e ↦ subst (λ (k : ℕ). k < n) (sym e) below
      | inr ne ↦ fit l (subst IsHeld (cache_away op m line l at ne) held)
    ]

held_cleaned : (c : Cell) → IsHeld (cleaned c) → IsHeld c
held_cleaned Absent held = held
held_cleaned (Clean words) held = held
held_cleaned (Dirty a words) held = refl

lines_fit : (n : ℕ) (lines : List ℕ) (m : Machine) → CellsFit n m.cache → CellsFit n (send_lines lines m).cache
lines_fit n [] m fit = fit
lines_fit n (q ∷ lines) m fit = lines_fit n lines (send_line q m) (λ l held.
    elim (cases_eq l q) [
      | inl e ↦ fit l (held_cleaned (cell_at m.cache l) (subst IsHeld (send_here l m) (subst (λ (k : ℕ). IsHeld (cell_at (send_line k m).cache l)) (sym e) held)))
      | inr ne ↦ fit l (subst IsHeld (send_other q m l ne) held)
    ])

op_fits : (n : ℕ) (op : Op) (m : Machine) → AsksWithin n op → CellsFit n m.cache → CellsFit n (operated op m).cache
op_fits n (Load line k) m below fit = at_line n (Load line k) m line.0 refl below fit
op_fits n (Store line k value) m below fit = at_line n (Store line k value) m line.0 refl below fit
op_fits n (WriteBack line) m below fit = at_line n (WriteBack line) m line.0 refl below fit
op_fits n Fence m below fit = lines_fit n (asked_lines m.cache) m fit
op_fits n (Invalidate line) m below fit = at_line n (Invalidate line) m line.0 refl below fit
op_fits n Digest m below fit = fit

ops_fit : (n : ℕ) (ops : List Op) (m : Machine) → AreWithin n ops → CellsFit n m.cache → CellsFit n (operated_all ops m).cache
ops_fit n [] m below fit = fit
ops_fit n (op ∷ ops) m below fit = ops_fit n ops (operated op m) below.1 (op_fits n op m below.0 fit)

loads_within : (n line : ℕ) → line < n → AreWithin n (load_ops line 8)
loads_within n line a = (a, (a, (a, (a, (a, (a, (a, (a, (a, tt)))))))))

put_within : (n : ℕ) (put : Put) → put.0 < n → AreWithin n (put_ops put)
unfolding put_ops
put_within n put a = (a, (a, (a, (a, (a, (a, (a, (a, (a, tt)))))))))

abbrev PutsWithin : ℕ → List Put → Type 0
PutsWithin n [] = ⊤
PutsWithin n (put ∷ puts) = (put.0 < n) × PutsWithin n puts

puts_within : (n : ℕ) (puts : List Put) → PutsWithin n puts → AreWithin n (flat_map put_ops puts)
puts_within n [] below = tt
puts_within n (put ∷ puts) below = within_both n (put_ops put) (flat_map put_ops puts) (put_within n put below.0) (puts_within n puts below.1)

reads_within : (n : ℕ) → 32770 ≤ n → AreWithin n read_ops
unfolding read_ops
reads_within n enough =
    within_both n (load_ops 0 8 ++ load_ops 1 8) (load_ops 2 8)
    (within_both n (load_ops 0 8) (load_ops 1 8) (loads_within n 0 (omega (arith, enough))) (loads_within n 1 (omega (arith, enough))))
    (loads_within n 2 (omega (arith, enough)))

writes_within : (n : ℕ) (p : Params) → 32770 ≤ n → AreWithin n (write_ops p)
unfolding write_ops
writes_within n p enough =
    puts_within n (format_puts p) (omega (arith, enough), (omega (arith, enough), (omega (arith, enough), (omega (arith, enough), (omega (arith, enough), (omega (arith, enough), tt))))))

module _ (me fs : List ℕ) (is_uuid : IsUuid fs) (image : Image) (enough : need 65536 4096 ≤ line_bytes * length image) (journal : List Note) (faults : ℕ) where
  abbrev lines : ℕ
  lines = length image

  abbrev p : Params
  p = params_m me fs image

  abbrev done : Machine
  done = made_machine me fs image

  abbrev old : WorldView
  old = before_mkfs me journal

  abbrev new : WorldView
  new = after_mkfs me fs image journal

  wide : 32770 ≤ lines
  wide = omega (arith, enough)

  not_small : (n : ℕ) → n ≡ lines → nat_lt (line_bytes * n) (need 65536 4096) ≡ false
  not_small n is = grind (arith, nat_tests, is, enough)

  pub free : refusal_in (Makes (codes "m") (mkfs_request fs 4096 65536 1 true None)) old lines ≡ None
  unfolding refusal_of
  free = ap (λ (t : Bool). or_else
      (option_map cause_of (if t then Some (TooSmall (need 65536 4096) (line_bytes * length (shown_state old lines).memory)) else None)) None)
      (not_small (length (shown_state old lines).memory) (length-replicate lines []))

  fits : FitsMedia lines new.hosts
  fits zero view is =
      subst (HostFits lines) (same_Some _ view is)
      record {
        task = tt;
        cache = ops_fit lines (mkfs_ops p) (record { image = image; cache = finmap.empty }) (within_both lines read_ops (write_ops p) (reads_within lines wide) (writes_within lines p wide))
            (λ l held. absurd (let none : IsHeld Absent = subst IsHeld (cell_at-empty l) held in cc));
      }
  fits (suc h) view is = absurd cc

  answers : Answers (Makes (codes "m") (mkfs_request fs 4096 65536 1 true None)) lines None faults faults old new
  answers = record {
    adds = record {
      notes = Made 0 p ∷ [];
      joined = refl;
      counted = omega arith;
      later = omega arith;
      named = (omega arith, tt);
      hosts = refl;
      fits = λ was. fits;
      shaped = λ is. shaped_m me journal finmap.empty done.cache is (Made 0 p) refl;
    };
    said = refl;
    refused = λ cause is. absurd (let none = free in cc);
    free = λ cause none answered. absurd cc;
    shape = λ is. made_shape me journal finmap.empty done.cache is fs lines enough;
  }

  module _ (start : Image) (state : Machines) (held : Held start state old state.memory) (same : image ≡ state.memory)
      (lines_are : length state.memory ≡ length start) (stands : WorldStands (length state.memory) state old) (host : HostState)
      (host_is : slice_get state.hosts 0 ≡ Some host) (mine : HostStands (length state.memory) host (world_host me finmap.empty None)) where
    abbrev call : Call
    call = Makes (codes "m") (mkfs_request fs 4096 65536 1 true None)

    params_are : asked (mkfs_request fs 4096 65536 1 true None) host.uuid (length state.memory) ≡ p
    params_are = ap₂ (λ (id : List ℕ) (n : ℕ). asked (mkfs_request fs 4096 65536 1 true None) id n) mine.uuid (sym (ap (λ (x : Image). length x) same))

    machine_is : machine_of state host ≡ record { image = image; cache = finmap.empty }
    machine_is = ap₂ (λ (x : Image) (c : Cache). record { image = x; cache = c }) (sym same) mine.cache

    abbrev behind : Machine
    behind = operated_all (mkfs_ops p) (machine_of state host)

    abbrev left : Machines
    left = with_machine 0 behind host.task state

    number_is : number_of (codes "m") state ≡ Some 0
    number_is = number_shown (length state.memory) state old (codes "m") stands

    none : refusal_of call state ≡ None
    none = refusal_shown (length state.memory) state old call stands ∙ ap (refusal_in call old) (sym (ap (λ (x : Image). length x) same)) ∙ free

    made : MakesFileSystem 0 (asked (mkfs_request fs 4096 65536 1 true None) host.uuid (length state.memory)) true host state (Made 0 p ∷ []) left
    made = subst (λ (q : Params). MakesFileSystem 0 q true host state (Made 0 p ∷ []) left) (sym params_are) record { free = refl; notes_are = refl; left = refl }

    acts : Acts call state (Made 0 p ∷ []) left
    acts =
        subst (λ (o : Option ℕ). AtNumber o state (λ h host. ActsAt call h host state (Made 0 p ∷ []) left)) (sym number_is)
        (subst (λ (o : Option HostState). OnHost o (λ host. ActsAt call 0 host state (Made 0 p ∷ []) left)) (sym host_is) (inl made))

    row : Does call state (Made 0 p ∷ []) left
    row = subst (λ (o : Option Refusal). ByRefusal (codes "m") o (Made 0 p ∷ []) state left (Acts call state (Made 0 p ∷ []) left)) (sym none) acts

    new_stands : WorldStands (length start) left new
    new_stands =
        subst (λ (n : ℕ). WorldStands n left new) lines_are
        (stands_changed 0 (world_host me finmap.empty None) old.hosts refl (λ v. record v { cache = done.cache })
        (length state.memory) state.hosts host host_is (λ z. record z { cache = behind.cache; task = host.task })
        record { name = mine.name; uuid = mine.uuid; cache = ap (λ (z : Machine). (operated_all (mkfs_ops p) z).cache) machine_is; task = mine.task; kept = mine.kept; joined = mine.joined } stands)

    moves : DoesRow start (Some done.image) (Does call state) old new
    moves = record {
      state = left;
      notes = Made 0 p ∷ [];
      row = row;
      told_is = ap (λ (z : Machine). Some (operated_all (mkfs_ops p) z).image) (sym machine_is);
      joined = refl;
      held = kept_on start state left old new call (Made 0 p ∷ []) held (record { fs = is_uuid; format = refl }) row new_stands refl;
    }

  keeps : (start : Image) → CallKeeps (Makes (codes "m") (mkfs_request fs 4096 65536 1 true None)) start (Some image) (Some done.image) old new
  keeps start state told held =
      let lines_are : length state.memory ≡ length start = held.kept.held.lines in
      let stands : WorldStands (length state.memory) state old = subst (λ (n : ℕ). WorldStands n state old) (sym lines_are) held.stands in
      let found = find_host (length state.memory) (world_host me finmap.empty None) (slice_get state.hosts 0) (stands 0) in
      moves start state held (same_Some image state.memory told) lines_are stands found.0 found.1 found.2

  pub meets_mkfs : MakeCall (Makes (codes "m") (mkfs_request fs 4096 65536 1 true None)) lines None (media_change (Some image) faults (Some done.image) faults) old new
  meets_mkfs = record { answers = answers; leaves = keeps }
