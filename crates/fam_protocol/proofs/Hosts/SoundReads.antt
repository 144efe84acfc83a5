-- What a sound reading says of superblock, header, gate and slots, whatever numbers the lines have.
use Prim.Native.Nat.{zero, suc}
use Rattle.std.proofs.Common.{◌≡◌, ℕ, ◌+◌, ◌<◌, ◌≤◌, List, [], ◌∷◌, ◌++◌, length, take, slice_get, false, Option, Some, None, Result, Ok, Err, inl, inr, refl, sym, ap, subst, ◌∙◌, arith, length-append}
use Rattle.std.proofs.lemmas.Bool.Decides.{nat_tests}
use Rattle.std.specs.Prelude.{nat_lt}
use Rattle.std.proofs.lemmas.List.{take_all, take_more, take-append-le}
use Rattle.std.proofs.lemmas.Option.{slice_get_cases}
use Rattle.fam_base.specs.declared.entry.Params.{Params}
use Rattle.fam_base.specs.declared.entry.Entry.{Entry}
use Rattle.fam_format.specs.declared.faults.SuperFault.{SuperFault}
use Rattle.fam_format.specs.declared.faults.LogFault.{LogFault}
use Rattle.fam_format.specs.declared.faults.Reason.{Reason}
use Rattle.fam_format.specs.Layout.{device_limit, log_line}
use Rattle.fam_format.specs.Log.{log_fault, gate_fault}
use Rattle.fam_format.specs.Params.{SoundParams, is_unit, is_log_length, need, is_format}
use Rattle.fam_format.specs.Super.{magic_fault, crc_fault, version_fault, offset_fault, unit_fault, length_fault, device_fault, small_fault, rest_fault, params_of, super_body_of, super_of}
use Rattle.fam_format.specs.Tree.{join_fault}
use Rattle.fam_format.specs.Reading.{Reading, Sound, Lines, super_in, gate_in, slot_in, joined_or, slot_or, read_slots, read_below, read_log, read_super, reading_of}
use Rattle.fam_format.proofs.SuperLawsProofs.{no_stop, true_none, least_none}
use Rattle.fam_format.proofs.UuidWords.{uuid_read}
use Rattle.fam_protocol.proofs.Lines.Apart.{with_last}

-- The superblock.

-- parameters that are read are sound, and the image has their device
pub record IsRead (have : ℕ) (p : Params) : Type 0 where
  pub sound : SoundParams p
  pub device : p.device ≤ have

-- the tests that say so
record Passes (w : List ℕ) (have : ℕ) : Type 0 where
  version : version_fault w ≡ None
  unit : unit_fault w ≡ None
  log_length : length_fault w ≡ None
  device : device_fault w have ≡ None
  small : small_fault w ≡ None

-- sixteen words that pass tell sound parameters
read_passes : (w : List ℕ) (have : ℕ) → have ≤ device_limit → Passes w have → IsRead have (params_of w)
unfolding params_of
read_passes w have limit pass =
    let device : (params_of w).device ≤ have = least_none have _ _ pass.device in
    record {
      sound = record {
        format = true_none (is_format (params_of w).format) _ pass.version;
        unit = true_none (is_unit (params_of w).unit) _ pass.unit;
        log_length = true_none (is_log_length (params_of w).unit (params_of w).log_length) _ pass.log_length;
        slots = refl;
        need = least_none (params_of w).device (need (params_of w).log_length (params_of w).unit) _ pass.small;
        device = omega (arith, device);
        fs = uuid_read 5 w;
        master = uuid_read 7 w;
      };
      device = device;
    }

-- what is read of a superblock is sound
pub super_is_sound : (word : ℕ) (w : List ℕ) (have : ℕ) (p : Params) → have ≤ device_limit → super_of word w have ≡ Ok p → IsRead have p
unfolding super_of super_body_of
super_is_sound word w have p limit read =
    let magic = no_stop (magic_fault word) _ _ read in
    let crc = no_stop (crc_fault w) _ _ magic.1 in
    let version = no_stop (version_fault w) _ _ crc.1 in
    let offset = no_stop (offset_fault w) _ _ version.1 in
    let unit = no_stop (unit_fault w) _ _ offset.1 in
    let log_length = no_stop (length_fault w) _ _ unit.1 in
    let device = no_stop (device_fault w have) _ _ log_length.1 in
    let small = no_stop (small_fault w) _ _ device.1 in
    let rest = no_stop (rest_fault w) (Ok (params_of w)) p small.1 in
    let params : params_of w ≡ p = cc (rest.1) in
    subst (IsRead have) params (read_passes w have limit record { version = version.0; unit = unit.0; log_length = log_length.0; device = device.0; small = small.0 })

-- The slots.

-- slot i tells this entry, which joins the ones before
pub record Tells (line : Lines) (p : Params) (before : List Entry) (i : ℕ) (e : Entry) : Type 0 where
  pub reads : slot_in line p i ≡ Ok e
  pub joins : join_fault p before e ≡ None

-- the first slots tell these entries, in order
abbrev pub AreTold : Lines → Params → List Entry → Type 0
AreTold line p list = (i : ℕ) (e : Entry) → slice_get list i ≡ Some e → Tells line p (take i list) i e

module _ (line : Lines) (p : Params) where
  -- one slot more
  told_more : (list : List Entry) (e : Entry) (i : ℕ) → length list ≡ i → AreTold line p list → Tells line p list i e → AreTold line p (list ++ e ∷ [])
  told_more list e i count told here = λ k f h.
      elim (with_last list e k f h) [
        | inl (below, is) ↦ subst (λ (before : List Entry). Tells line p before k f) (sym (take-append-le k list (e ∷ []) (omega arith))) (told k f is)
        | inr (last, same) ↦
            let whole : take k (list ++ e ∷ []) ≡ list = take-append-le k list (e ∷ []) (omega arith) ∙ take_all k list (omega arith) in
            let at : i ≡ k = omega arith in
            subst (λ (before : List Entry). Tells line p before k f) (sym whole)
            (subst (λ (n : ℕ). Tells line p list n f) at (subst (λ (x : Entry). Tells line p list i x) same here))
      ]

  -- a slot behind which the reading went on
  record GoesOn (list : List Entry) (i : ℕ) (next : Entry → Reading) (found : Reading) : Type 0 where
    entry : Entry
    tells : Tells line p list i entry
    rest : next entry ≡ found

  by_join : (list : List Entry) (i : ℕ) (e : Entry) (next : Entry → Reading) (q : Params) (es : List Entry) (fault : Option Reason) → slot_in line p i ≡ Ok e → join_fault p list e ≡ fault
      → joined_or i fault (next e) ≡ Sound q es → GoesOn list i next (Sound q es)
  by_join list i e next q es None reads is h = record { entry = e; tells = record { reads = reads; joins = is }; rest = h }
  by_join list i e next q es (Some reason) reads is h = absurd (cc)

  by_slot : (list : List Entry) (i : ℕ) (next : Entry → Reading) (q : Params) (es : List Entry) (r : Result Entry Reason) → slot_in line p i ≡ r → slot_or p list i r next ≡ Sound q es
      → GoesOn list i next (Sound q es)
  by_slot list i next q es (Ok e) is h = by_join list i e next q es (join_fault p list e) is refl h
  by_slot list i next q es (Err reason) is h = absurd (cc)

  -- what so many slots from number i on told
  record Found (i more : ℕ) (es : List Entry) (q : Params) : Type 0 where
    told : AreTold line p es
    count : length es ≡ i + more
    params : p ≡ q

  slots_found : (more i : ℕ) (list es : List Entry) (q : Params) → length list ≡ i → AreTold line p list → read_slots line p i more list ≡ Sound q es → Found i more es q
  slots_found zero i list es q count told h =
      let same : list ≡ es = cc in
      record { told = subst (λ (xs : List Entry). AreTold line p xs) same told; count = omega (arith, ap length same); params = cc }
  slots_found (suc more) i list es q count told h =
      let on = by_slot list i (λ e. read_slots line p (i + 1) more (list ++ e ∷ [])) q es (slot_in line p i) refl h in
      let longer : length (list ++ on.entry ∷ []) ≡ i + 1 = length-append list (on.entry ∷ []) ∙ ap (λ (n : ℕ). n + 1) count in
      let again = slots_found more (i + 1) (list ++ on.entry ∷ []) es q longer (told_more list on.entry i count told on.tells) on.rest in
      record { told = again.told; count = let n = again.count in omega arith; params = again.params }

-- The whole reading.

-- superblock and header read as these parameters, the gate counts these entries, and the slots tell them
pub record ReadsSound (line : Lines) (have : ℕ) (p : Params) (entries : List Entry) : Type 0 where
  pub super : super_in line have ≡ Ok p
  pub header : log_fault (line log_line) p ≡ None
  pub gate : gate_in line ≤ p.slots
  pub count : length entries ≡ gate_in line
  pub slots : AreTold line p entries

gate_counts : (gate : ℕ) (p : Params) → gate_fault gate p ≡ None → gate ≤ p.slots
gate_counts gate p h = grind (arith, nat_tests)

module _ (line : Lines) (have : ℕ) (q : Params) (es : List Entry) where
  by_gate : (p : Params) (f : Option LogFault) → super_in line have ≡ Ok p → log_fault (line log_line) p ≡ None → gate_fault (gate_in line) p ≡ f
      → read_below line p f ≡ Sound q es → ReadsSound line have q es
  by_gate p (Some f) super header gate h = absurd (cc)
  by_gate p None super header gate h =
      let found = slots_found line p (gate_in line) 0 [] es q refl (λ i e none. absurd (cc)) h in
      subst (λ (r : Params). ReadsSound line have r es) found.params
      record { super = super; header = header; gate = gate_counts (gate_in line) p gate; count = let n = found.count in omega arith; slots = found.told }

  by_header : (p : Params) (f : Option LogFault) → super_in line have ≡ Ok p → log_fault (line log_line) p ≡ f → read_log line p f ≡ Sound q es → ReadsSound line have q es
  by_header p (Some f) super header h = absurd (cc)
  by_header p None super header h = by_gate p (gate_fault (gate_in line) p) super header refl h

  by_super : (r : Result Params SuperFault) → super_in line have ≡ r → read_super line r ≡ Sound q es → ReadsSound line have q es
  by_super (Err f) super h = absurd (cc)
  by_super (Ok p) super h = by_header p (log_fault (line log_line) p) super refl h

  -- what a sound reading says
  pub sound_reads : reading_of line have ≡ Sound q es → ReadsSound line have q es
  unfolding reading_of
  sound_reads h = by_super (super_in line have) refl h

-- And back.

gate_passes : (gate : ℕ) (p : Params) → gate ≤ p.slots → gate_fault gate p ≡ None
gate_passes gate p h = let is : nat_lt p.slots gate ≡ false = grind (arith, nat_tests) in rw is refl

module _ (line : Lines) (p : Params) (es : List Entry) (told : AreTold line p es) where
  -- reading passes a slot that tells its entry
  passes : (i more : ℕ) (e : Entry) → slice_get es i ≡ Some e → take (i + 1) es ≡ take i es ++ e ∷ [] → read_slots line p i (suc more) (take i es) ≡ read_slots line p (i + 1) more (take (i + 1) es)
  passes i more e at next =
      let tells : Tells line p (take i es) i e = told i e at in
      ap (λ (r : Result Entry Reason). slot_or p (take i es) i r (λ x. read_slots line p (i + 1) more (take i es ++ x ∷ []))) tells.reads
      ∙ ap (λ (f : Option Reason). joined_or i f (read_slots line p (i + 1) more (take i es ++ e ∷ []))) tells.joins
      ∙ ap (λ (xs : List Entry). read_slots line p (i + 1) more xs) (sym next)

  -- the member at a place
  member : (i : ℕ) → i < length es → (e : Entry) × (slice_get es i ≡ Some e) × (take (i + 1) es ≡ take i es ++ e ∷ [])
  member i below = elim (slice_get_cases es i).1 [
    | inl (e, within, is, same) ↦ (e, is, take_more es i e below ∙ ap (λ (x : Entry). take i es ++ x ∷ []) same)
    | inr (past, none) ↦ absurd (omega (arith, past, below))
  ]

  slots_sound : (more i : ℕ) → i + more ≡ length es → read_slots line p i more (take i es) ≡ Sound p es
  slots_sound zero i count = ap (Sound p) (take_all i es (omega arith))
  slots_sound (suc more) i count =
      let at = member i (omega arith) in
      passes i more at.0 at.1 at.2 ∙ slots_sound more (i + 1) (omega arith)

pub reads_sound : (line : Lines) (have : ℕ) (p : Params) (es : List Entry) → ReadsSound line have p es → reading_of line have ≡ Sound p es
unfolding reading_of
reads_sound line have p es reads =
    ap (read_super line) reads.super ∙ ap (read_log line p) reads.header ∙ ap (read_below line p) (gate_passes (gate_in line) p reads.gate)
    ∙ slots_sound line p es reads.slots (gate_in line) 0 (let n = reads.count in omega arith)
