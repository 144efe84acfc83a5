-- How many operations each fault and refusal takes.
use Rattle.std.proofs.Common.{ℕ, ◌≡◌, Bool, true, false, cond, List, [], ◌∷◌, length, Option, Some, None, Result, Ok, Err, refl, sym, ◌∙◌, ap, subst}
use Rattle.std.specs.Prelude.{slice_index, slice_range, nat_lt, nat_le, ◌==◌}
use Rattle.std.specs.FinMap as finmap
use Rattle.fam_base.specs.declared.cmd.Cmd.{Cmd}
use Rattle.fam_base.specs.declared.cmd.Cmd.TheVariants.{Fsck}
use Rattle.fam_base.specs.declared.cmd.Stripe.{Stripe}
use Rattle.fam_base.specs.declared.entry.Params.{Params}
use Rattle.fam_base.specs.declared.entry.Entry.{Entry}
use Rattle.fam_base.specs.declared.entry.Kind.{Kind}
use Rattle.fam_base.specs.declared.entry.Kind.TheVariants as kind
use Rattle.fam_base.specs.Paths.{parent_of}
use Rattle.fam_format.specs.declared.faults.SuperFault.{SuperFault}
use Rattle.fam_format.specs.declared.faults.SuperFault.TheVariants.{NoSuper, BadSuper}
use Rattle.fam_format.specs.declared.faults.SuperField.TheVariants as field
use Rattle.fam_format.specs.declared.faults.LogFault.{LogFault}
use Rattle.fam_format.specs.declared.faults.LogFault.TheVariants.{BadLog}
use Rattle.fam_format.specs.declared.faults.LogField.TheVariants as log_field
use Rattle.fam_format.specs.Words.{word_of_bytes}
use Rattle.fam_format.specs.Stop.{stop, or_else}
use Rattle.fam_format.specs.Super.{magic, magic_fault, crc_fault, version_fault, offset_fault, unit_fault, length_fault, device_fault, small_fault, used_word, rest_fault, params_of, super_body_of}
use Rattle.fam_format.specs.Log.{log_magic, log_crc, field_fault, log_fault, gate_fault}
use Rattle.fam_format.specs.Tree.{Tree, replay}
use Rattle.fam_rules.specs.declared.answers.Refused.{Refused}
use Rattle.fam_rules.specs.declared.answers.Refused.TheVariants.{BadStripe, Exists, NoParent, ParentIsFile, NoSpace}
use Rattle.fam_rules.specs.Decide.{Wish, Room, early_refusal, stripe_refusal, exists_refusal, file_refusal, found_refusal, parent_refusal, full_refusal, no_room_needed, room_or, room_by, room_for, entry_for, entry_or, decide_wish}
use Rattle.fam_rules.specs.Reports.{Survey, super_report, log_report, report_by}
use Rattle.fam_rules.specs.Reply as reply
use Rattle.fam_commands.specs.Turns.{super_fault_reply, log_fault_reply}
use Rattle.fam_commands.specs.Counts.{super_steps, fault_steps, refused_steps, decided_steps, steps_by}
use Rattle.fam_format.specs.Layout.{Geometry}

-- Tests in an order.

stop_err : {T E : Type 0} (P : E → Type 0) (o : Option E) (next : Result T E) → ((f : E) → o ≡ Some f → P f) → ((f : E) → next ≡ Err f → P f) → (f : E) → stop o next ≡ Err f → P f
stop_err P (Some g) next first later f h = first f (let z : Some g ≡ Some f = cc in z)
stop_err P None next first later f h = later f h

stop_ok : {T E : Type 0} (o : Option E) (next : Result T E) (x : T) → stop o next ≡ Ok x → next ≡ Ok x
stop_ok (Some g) next x h = absurd cc
stop_ok None next x h = h

else_some : {E : Type 0} (P : E → Type 0) (a b : Option E) → ((f : E) → a ≡ Some f → P f) → ((f : E) → b ≡ Some f → P f) → (f : E) → or_else a b ≡ Some f → P f
else_some P (Some g) b first later f h = first f h
else_some P None b first later f h = later f h

-- a test that names one fault
test_one : {E : Type 0} (P : E → Type 0) (b : Bool) (x : E) → P x → (f : E) → cond b None (Some x) ≡ Some f → P f
test_one P true x holds f h = absurd cc
test_one P false x holds f h = subst P (let z : x ≡ f = cc in z) holds

test_other : {E : Type 0} (P : E → Type 0) (b : Bool) (x : E) → P x → (f : E) → cond b (Some x) None ≡ Some f → P f
test_other P true x holds f h = subst P (let z : x ≡ f = cc in z) holds
test_other P false x holds f h = absurd cc

-- Superblock and header.

-- the magic's fault comes with the second operation
pub magic_steps : (word : ℕ) (f : SuperFault) → magic_fault word ≡ Some f → super_steps f ≡ 2
magic_steps word = test_one (λ (f : SuperFault). super_steps f ≡ 2) (word == magic) (NoSuper word) refl

module _ (w : List ℕ) (have : ℕ) where
  -- a fault of lines 1 and 2
  abbrev Late : SuperFault → Type 0
  Late f = super_steps f ≡ 20

  used_late : (words : List ℕ) (f : SuperFault) → used_word words ≡ Some f → Late f
  used_late [] f h = absurd cc
  used_late (word ∷ more) f h = by_word (word == 0) (used_late more f) h
    where
      by_word : (b : Bool) → (used_word more ≡ Some f → Late f) → cond b (used_word more) (Some (BadSuper field.Rest word 0)) ≡ Some f → Late f
      by_word true later is = later is
      by_word false later is = test_one Late false (BadSuper field.Rest word 0) refl f is

  -- the tests from the last one back, each with those behind it
  abbrev rest : Result Params SuperFault
  rest = stop (rest_fault w) (Ok (params_of w))

  abbrev small : Result Params SuperFault
  small = stop (small_fault w) rest

  abbrev device : Result Params SuperFault
  device = stop (device_fault w have) small

  abbrev long : Result Params SuperFault
  long = stop (length_fault w) device

  abbrev unit : Result Params SuperFault
  unit = stop (unit_fault w) long

  abbrev offset : Result Params SuperFault
  offset = stop (offset_fault w) unit

  abbrev version : Result Params SuperFault
  version = stop (version_fault w) offset

  -- a fault of lines 1 and 2 comes with their last word
  pub body_steps : (f : SuperFault) → super_body_of w have ≡ Err f → super_steps f ≡ 20
  unfolding super_body_of
  body_steps =
      stop_err Late (crc_fault w) version (test_one Late _ _ refl)
      (stop_err Late (version_fault w) offset (test_one Late _ _ refl)
      (stop_err Late (offset_fault w) unit (test_one Late _ _ refl)
      (stop_err Late (unit_fault w) long (test_one Late _ _ refl)
      (stop_err Late (length_fault w) device (test_one Late _ _ refl)
      (stop_err Late (device_fault w have) small (test_other Late _ _ refl)
      (stop_err Late (small_fault w) rest (test_other Late _ _ refl)
      (stop_err Late (rest_fault w) (Ok (params_of w)) (used_late (slice_range w 9 15)) (λ f h. absurd cc))))))))

module _ (w : List ℕ) (p : Params) where
  -- a fault of the header
  abbrev InHeader : LogFault → Type 0
  InHeader f = fault_steps f ≡ 29

  -- the tests from the last one back, each with those behind it
  abbrev after_uuid : Option LogFault
  after_uuid = or_else (field_fault log_field.Rest (slice_index w 5) 0) (field_fault log_field.Rest (slice_index w 6) 0)

  abbrev second_uuid : Option LogFault
  second_uuid = or_else (field_fault log_field.Uuid (slice_index w 4) (word_of_bytes p.fs 1)) after_uuid

  abbrev first_uuid : Option LogFault
  first_uuid = or_else (field_fault log_field.Uuid (slice_index w 3) (word_of_bytes p.fs 0)) second_uuid

  abbrev slots_field : Option LogFault
  slots_field = or_else (field_fault log_field.Slots (slice_index w 2) p.slots) first_uuid

  abbrev length_field : Option LogFault
  length_field = or_else (field_fault log_field.Length (slice_index w 1) p.log_length) slots_field

  abbrev crc_field : Option LogFault
  crc_field = or_else (field_fault log_field.Crc (slice_index w 7) (log_crc w)) length_field

  -- the header's fault comes with its last word
  pub header_steps : (f : LogFault) → log_fault w p ≡ Some f → fault_steps f ≡ 29
  unfolding log_fault
  header_steps =
      else_some InHeader (field_fault log_field.Magic (slice_index w 0) log_magic) crc_field (test_one InHeader _ _ refl)
      (else_some InHeader (field_fault log_field.Crc (slice_index w 7) (log_crc w)) length_field (test_one InHeader _ _ refl)
      (else_some InHeader (field_fault log_field.Length (slice_index w 1) p.log_length) slots_field (test_one InHeader _ _ refl)
      (else_some InHeader (field_fault log_field.Slots (slice_index w 2) p.slots) first_uuid (test_one InHeader _ _ refl)
      (else_some InHeader (field_fault log_field.Uuid (slice_index w 3) (word_of_bytes p.fs 0)) second_uuid (test_one InHeader _ _ refl)
      (else_some InHeader (field_fault log_field.Uuid (slice_index w 4) (word_of_bytes p.fs 1)) after_uuid (test_one InHeader _ _ refl)
      (else_some InHeader (field_fault log_field.Rest (slice_index w 5) 0) (field_fault log_field.Rest (slice_index w 6) 0) (test_one InHeader _ _ refl) (test_one InHeader _ _ refl)))))))

-- the gate's with its load
pub gate_steps : (gate : ℕ) (p : Params) (f : LogFault) → gate_fault gate p ≡ Some f → fault_steps f ≡ 31
gate_steps gate p = test_other (λ (f : LogFault). fault_steps f ≡ 31) (nat_lt p.slots gate) _ refl

-- the answer has the fault, and a report has it too
report_super_steps : (g : Geometry) (first n d : ℕ) (fault : SuperFault) → steps_by g first n d (reply.Reports (super_report fault)) ≡ super_steps fault
report_super_steps g first n d (NoSuper word) = refl
report_super_steps g first n d (BadSuper field found wanted) = refl

-- so do the answers that name them
pub super_end_steps : (cmd : Cmd) (g : Geometry) (first n d : ℕ) (fault : SuperFault) → steps_by g first n d (super_fault_reply cmd fault) ≡ super_steps fault
super_end_steps Fsck g first n d fault = report_super_steps g first n d fault
super_end_steps cmd g first n d fault = refl

report_log_steps : (g : Geometry) (first n d : ℕ) (fault : LogFault) → steps_by g first n d (reply.Reports (log_report fault)) ≡ fault_steps fault
report_log_steps g first n d (BadLog field found wanted) = refl

-- of header and gate too
pub log_end_steps : (cmd : Cmd) (g : Geometry) (first n d : ℕ) (fault : LogFault) → steps_by g first n d (log_fault_reply cmd fault) ≡ fault_steps fault
log_end_steps Fsck g first n d fault = report_log_steps g first n d fault
log_end_steps cmd g first n d fault = refl

-- a report of a sound log comes when all slots are read
pub report_by_steps : (g : Geometry) (first n d : ℕ) (p : Params) (gate : ℕ) (s : Survey) → steps_by g first n d (reply.Reports (report_by p gate s)) ≡ decided_steps g first p.slots
unfolding report_by
report_by_steps g first n d p gate s = refl

-- The decision.

module _ (g : Geometry) (first n : ℕ) where
  -- a refusal that comes with the decision
  abbrev AtDecision : Refused → Type 0
  AtDecision r = refused_steps g first n r ≡ decided_steps g first n

  stripe_late : (p : Params) (s : Option Stripe) (r : Refused) → stripe_refusal p s ≡ Some r → AtDecision r
  stripe_late p None r h = absurd cc
  stripe_late p (Some s) r h = test_one AtDecision _ BadStripe refl r h

  exists_late : (o : Option Entry) (r : Refused) → exists_refusal o ≡ Some r → AtDecision r
  exists_late None r h = absurd cc
  exists_late (Some old) r h = subst AtDecision (let z : Exists old.kind ≡ r = cc in z) refl

  file_late : (k : Kind) (r : Refused) → file_refusal k ≡ Some r → AtDecision r
  file_late kind.File r h = subst AtDecision (let z : ParentIsFile ≡ r = cc in z) refl
  file_late kind.Directory r h = absurd cc

  found_late : (o : Option Entry) (r : Refused) → found_refusal o ≡ Some r → AtDecision r
  found_late None r h = subst AtDecision (let z : NoParent ≡ r = cc in z) refl
  found_late (Some parent) r h = file_late parent.kind r h

  parent_late : (tree : Tree) (parent : Option (List ℕ)) (r : Refused) → parent_refusal tree parent ≡ Some r → AtDecision r
  parent_late tree None r h = absurd cc
  parent_late tree (Some parent) r h = found_late (finmap.get tree parent) r h

  room_or_late : (k : ℕ) (o : Option Room) (r : Refused) → room_or k o ≡ Err r → AtDecision r
  room_or_late k None r h = subst AtDecision (let z : NoSpace k ≡ r = cc in z) refl
  room_or_late k (Some found) r h = absurd cc

  room_by_late : (p : Params) (list : List Entry) (size : ℕ) (s : Option Stripe) (r : Refused) → room_by p list size s ≡ Err r → AtDecision r
  room_by_late p list size None r h = room_or_late _ _ r h
  room_by_late p list size (Some s) r h = room_or_late _ _ r h

  room_late : (p : Params) (list : List Entry) (w : Wish) (r : Refused) → room_for p list w ≡ Err r → AtDecision r
  unfolding room_for
  room_late p list w r h = by_size (w.size == 0) h
    where
      by_size : (b : Bool) → cond b (Ok no_room_needed) (room_by p list w.size w.stripe) ≡ Err r → AtDecision r
      by_size true is = absurd cc
      by_size false is = room_by_late p list w.size w.stripe r is

  entry_late : (w : Wish) (room : Result Room Refused) → ((r : Refused) → room ≡ Err r → AtDecision r) → (r : Refused) → entry_or w room ≡ Err r → AtDecision r
  entry_late w (Ok found) late r h = absurd cc
  entry_late w (Err refused) late r h = late r (let z : Err refused ≡ Err r = cc in z)

module _ (p : Params) (me : List ℕ) (list : List Entry) (w : Wish) where
  -- the refusals from the last one back, each with those behind it
  abbrev roomy : Result Entry Refused
  roomy = entry_or w (room_for p list w)

  abbrev not_full : Result Entry Refused
  not_full = stop (full_refusal p list) roomy

  abbrev has_parent : Result Entry Refused
  has_parent = stop (parent_refusal (replay list) (parent_of w.path)) not_full

  abbrev absent : Result Entry Refused
  absent = stop (exists_refusal (finmap.get (replay list) w.path)) has_parent

  abbrev striped : Result Entry Refused
  striped = stop (stripe_refusal p w.stripe) absent

  -- what isn't refused early is refused at the decision
  pub refused_late : (g : Geometry) (first n : ℕ) → early_refusal p me w.path ≡ None → (r : Refused) → decide_wish p me list w ≡ Err r → refused_steps g first n r ≡ decided_steps g first n
  unfolding decide_wish
  refused_late g first n early =
      stop_err (AtDecision g first n) (early_refusal p me w.path) striped (λ r h. absurd (let z : None ≡ Some r = sym early ∙ h in cc))
      (stop_err (AtDecision g first n) (stripe_refusal p w.stripe) absent (stripe_late g first n p w.stripe)
      (stop_err (AtDecision g first n) (exists_refusal (finmap.get (replay list) w.path)) has_parent (exists_late g first n (finmap.get (replay list) w.path))
      (stop_err (AtDecision g first n) (parent_refusal (replay list) (parent_of w.path)) not_full (parent_late g first n (replay list) (parent_of w.path))
      (stop_err (AtDecision g first n) (full_refusal p list) roomy (test_other (AtDecision g first n) (nat_le p.slots (length list)) _ refl)
      (entry_late g first n w (room_for p list w) (room_late g first n p list w))))))

  entry_size : (room : Result Room Refused) (e : Entry) → entry_or w room ≡ Ok e → e.size ≡ w.size
  entry_size (Ok found) e h = ap (λ (x : Entry). x.size) (let z : e ≡ entry_for w found = cc in z)
  entry_size (Err refused) e h = absurd cc

  -- the entry has the size that is wished
  pub decided_size : (e : Entry) → decide_wish p me list w ≡ Ok e → e.size ≡ w.size
  unfolding decide_wish
  decided_size e h =
      entry_size (room_for p list w) e
      (stop_ok (full_refusal p list) roomy e
      (stop_ok (parent_refusal (replay list) (parent_of w.path)) not_full e
      (stop_ok (exists_refusal (finmap.get (replay list) w.path)) has_parent e
      (stop_ok (stripe_refusal p w.stripe) absent e
      (stop_ok (early_refusal p me w.path) striped e h)))))
