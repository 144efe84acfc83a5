-- What comes of the operations of superblock, header and gate.
use Rattle.std.proofs.Common.{ℕ, ◌≡◌, ◌+◌, ◌-◌, ◌*◌, ◌≤◌, List, [], ◌∷◌, ◌++◌, length, drop, Option, Some, None, Result, Ok, Err, refl, sym, ◌∙◌, ap, subst, arith, length-append}
use Rattle.std.specs.Prelude.{slice_index}
use Rattle.std.proofs.lemmas.List.{drop_all, get_or_push}
use Rattle.fam_base.specs.declared.cmd.Cmd.{Cmd}
use Rattle.fam_base.specs.declared.cmd.Cmd.TheVariants.{Fsck}
use Rattle.fam_base.specs.declared.entry.Params.{Params}
use Rattle.fam_base.specs.declared.entry.Entry.{Entry}
use Rattle.fam_format.specs.declared.faults.SuperFault.{SuperFault}
use Rattle.fam_format.specs.declared.faults.LogFault.{LogFault}
use Rattle.fam_format.specs.Layout.{geometry, log_line}
use Rattle.fam_format.specs.Super.{magic_fault, super_body_of}
use Rattle.fam_format.specs.Log.{log_fault, gate_fault}
use Rattle.fam_format.proofs.Formats.{piece_none}
use Rattle.fam_rules.specs.Decide.{Wish, wish_of}
use Rattle.fam_rules.proofs.RefusalTests.{EarlyCases, may_ask, another, too_long, early_cases}
use Rattle.fam_rules.specs.Place.{line_bytes}
use Rattle.fam_rules.specs.Reports.{Survey}
use Rattle.fam_commands.specs.declared.phase.Part.TheVariants.{Superblock, Header}
use Rattle.fam_commands.specs.declared.phase.Phase.TheVariants as at
use Rattle.fam_commands.specs.Kept.{Kept, used}
use Rattle.fam_commands.proofs.Steps.UsedTold.{first_told, used_told_by, shape_told}
use Rattle.fam_commands.specs.Table.{fed, fed_slots}
use Rattle.fam_format.specs.Reading.{Sound, read_slots}
use Rattle.fam_rules.specs.Reports.{no_survey, survey_slots}
use Rattle.fam_commands.specs.Turns.{slots_read}
use Rattle.fam_commands.proofs.KeptUsed.{used_finds}
use Rattle.fam_commands.proofs.UsedCounts.{used_below, used_fsck_count}
use Rattle.fam_commands.specs.Task.{Task}
use Rattle.fam_commands.specs.Turns.{Goes, Marks, super_fault_reply, log_fault_reply, magic_turn, host_refusal, host_turn, super_turn, header_turn, slot_or_decide, finds_or_goes, gate_loaded, gate_turn, line_turn}
use Rattle.fam_commands.specs.Table.{Quiet, Mark, Answer, fed_super, fed_gate, magic_note, host_note, super_note, header_note, found_note, gate_note, fed_head}
use Rattle.fam_commands.specs.Counts.{slot_steps, super_steps, file_lines, told_entries}
use Rattle.fam_commands.proofs.Counted.Ends.{magic_steps, body_steps, header_steps, gate_steps, super_end_steps, log_end_steps}
use Rattle.fam_commands.proofs.Steps.TieStays.{has_header_stays}
use Rattle.fam_commands.proofs.FaultReplies.{gate_fed, header_fed, super_by_magic, super_by_body, super_reply, header_reply, gate_reply}
use Rattle.fam_commands.proofs.Steps.Outcomes.{Outcome, outcome_as, goes_on, still_tied, ends, by_less, next_line, in_part, slot_or_decide_tie}
use Rattle.fam_commands.proofs.Steps.Ties.{IsFresh, HasSuper, HasHeader, SlotsKnown, TaskSlots, InPart, TieAt, line_end}

-- The magic.

magic_by : (t : Task) (words : List ℕ) (f : Option SuperFault) → magic_fault (slice_index words 0) ≡ f → length words ≡ 1
    → IsFresh t.kept t.entries t.survey → Outcome t (magic_turn t f) (magic_note t.cmd words t.lines f) words 2
magic_by t words (Some fault) is long fresh =
    ends t (super_fault_reply t.cmd fault) _ words 2 (ap Answer (super_reply words t.lines t.cmd fault (super_by_magic words t.lines fault is)))
    (sym (super_end_steps t.cmd (shape_told t words) (first_told t words) (fed_gate words)
    (file_lines t.cmd (told_entries (used_told_by t words) words t.lines)) fault ∙ magic_steps (slice_index words 0) fault is))
magic_by t words None is long fresh =
    goes_on t (record t { phase = at.Drop Superblock 0; words = [] }) words 2 refl refl refl refl
    (in_part Superblock t [] (at.Drop Superblock 0) words 0 0 0 2 (is, omega arith, fresh) (omega arith) (omega arith) (sym (drop_all 1 words (omega arith))) refl)

-- the magic is loaded
pub magic_step : (t : Task) (words : List ℕ) (word made : ℕ) → TieAt at.Magic t words made
    → Outcome t (magic_turn t (magic_fault word)) (magic_note t.cmd (words ++ word ∷ []) t.lines (magic_fault (slice_index (words ++ word ∷ []) 0)))
    (words ++ word ∷ []) (made + 1)
magic_step t words word made (empty, is, fresh) =
    let first : slice_index (words ++ word ∷ []) 0 ≡ word = get_or_push words word 0 0 (ap length empty) in
    subst (λ (n : ℕ). Outcome t (magic_turn t (magic_fault word))
    (magic_note t.cmd (words ++ word ∷ []) t.lines (magic_fault (slice_index (words ++ word ∷ []) 0))) (words ++ word ∷ []) n)
    (let z : 2 ≡ made + 1 = omega arith in z)
    (outcome_as t _ (magic_turn t (magic_fault (slice_index (words ++ word ∷ []) 0))) _ _ (words ++ word ∷ []) 2 (ap (λ (w : ℕ). magic_turn t (magic_fault w)) (sym first)) refl
    (magic_by t (words ++ word ∷ []) (magic_fault (slice_index (words ++ word ∷ []) 0)) refl (length-append words (word ∷ []) ∙ ap (λ (n : ℕ). n + 1) (ap length empty)) fresh))

-- The superblock.

-- a host that appends is the master and its path fits, or it is refused
host_by : (t : Task) (p : Params) (words : List ℕ) (made : ℕ) (w : Option Wish) → made ≡ 20
    → (host_refusal w p t.me ≡ None → Outcome t (Goes (record t { params = p; phase = at.Drop Header 0; words = [] })) Quiet words made)
    → Outcome t (host_turn t p (host_refusal w p t.me)) (host_note w p t.me) words made
host_by t p words made None at_made on = on refl
host_by t p words made (Some w) at_made on = by_cases (early_cases p t.me w.path)
  where
    by_cases : EarlyCases p t.me w.path → Outcome t (host_turn t p (host_refusal (Some w) p t.me)) (host_note (Some w) p t.me) words made
    by_cases (may_ask same short none) = rw none (on none)
    by_cases (another other refusal) = rw refusal (ends t _ _ words made refl at_made)
    by_cases (too_long first same long refusal) = rw refusal (ends t _ _ words made refl at_made)

super_by : (t : Task) (words : List ℕ) (made : ℕ) (r : Result Params SuperFault) → fed_super words t.lines ≡ r → length words ≡ 17 → made ≡ 20
    → IsFresh t.kept t.entries t.survey → ((f : SuperFault) → r ≡ Err f → super_steps f ≡ 20)
    → Outcome t (super_turn t r) (super_note t.cmd t.me words t.lines r) words made
super_by t words made (Err fault) is long at_made fresh late = ends t (super_fault_reply t.cmd fault) _ words made (ap Answer (super_reply words t.lines t.cmd fault is))
    (at_made ∙ sym (super_end_steps t.cmd (shape_told t words) (first_told t words) (fed_gate words) (file_lines t.cmd (told_entries (used_told_by t words) words t.lines)) fault ∙ late fault refl))
super_by t words made (Ok p) is long at_made fresh late =
    host_by t p words made (wish_of t.cmd) at_made
    (λ host.
    goes_on t (record t { params = p; phase = at.Drop Header 0; words = [] }) words made refl refl refl refl
    (in_part Header (record t { params = p }) [] (at.Drop Header 0) words 0 0 0 made (record { super = is; host = host; long = omega arith }, fresh)
    (omega arith) (omega arith) (sym (drop_all 17 words (omega arith))) (omega arith)))

-- a line of the superblock is loaded whole
pub super_line : (t : Task) (words : List ℕ) (j made : ℕ) → InPart Superblock t words j 8 9 made → Outcome t (line_turn t Superblock j) (line_end Superblock t words j) words made
super_line t words j made h =
    let long = h.long in
    let within = h.within in
    let at_made = h.made_is in
    by_less t (j + 1) 2 (Goes (record t { phase = at.Drop Superblock (j + 1) })) (super_turn t (super_body_of t.words (line_bytes * t.lines))) Quiet
    (super_note t.cmd t.me words t.lines (fed_super words t.lines)) words made
    (λ less. next_line Superblock t words j made h.known less h.long h.held h.made_is)
    (λ past.
    let seventeen : length words ≡ 17 = omega arith in
    outcome_as t _ (super_turn t (fed_super words t.lines)) _ _ words made
    (ap (super_turn t) (ap (λ (l : List ℕ). super_body_of l (line_bytes * t.lines)) h.held ∙ sym (super_by_body words t.lines h.known.0 seventeen))) refl
    (super_by t words made (fed_super words t.lines) refl seventeen (omega arith) h.known.2
    (λ f is. body_steps (drop 1 words) (line_bytes * t.lines) f (sym (super_by_body words t.lines h.known.0 seventeen) ∙ is))))

-- The header.

header_by : (t : Task) (words : List ℕ) (made : ℕ) (f : Option LogFault) → HasSuper t.cmd t.me t.lines t.params words
    → log_fault (fed_head words log_line) t.params ≡ f → length words ≡ 25 → made ≡ 29 → IsFresh t.kept t.entries t.survey
    → Outcome t (header_turn t f) (header_note t.cmd words t.lines f) words made
header_by t words made (Some fault) head is long at_made fresh = ends t (log_fault_reply t.cmd fault) _ words made (ap Answer (header_reply words t.lines t.cmd t.params fault head.super is))
    (at_made ∙ sym (log_end_steps t.cmd (shape_told t words) (first_told t words) (fed_gate words)
    (file_lines t.cmd (told_entries (used_told_by t words) words t.lines)) fault ∙ header_steps (fed_head words log_line) t.params fault is))
header_by t words made None head is long at_made fresh =
    goes_on t (record t { phase = at.DropGate; words = [] }) words made refl refl refl refl (record { head = head; header = is; long = omega arith }, long, at_made, fresh, refl)

-- the header is
pub header_line : (t : Task) (words : List ℕ) (j made : ℕ) → InPart Header t words j 8 9 made → Outcome t (line_turn t Header j) (line_end Header t words j) words made
header_line t words j made h =
    let long = h.long in
    let within = h.within in
    let at_made = h.made_is in
    let all : length words ≡ 25 = omega arith in
    outcome_as t _ (header_turn t (log_fault (fed_head words log_line) t.params)) _ _ words made
    (ap (λ (l : List ℕ). header_turn t (log_fault l t.params)) (h.held ∙ sym (header_fed words all))) refl
    (header_by t words made (log_fault (fed_head words log_line) t.params) h.known.0 refl all (omega arith) h.known.1)

-- The gate.

-- the gate's line is dropped
pub drop_gate_step : (t : Task) (words : List ℕ) (made : ℕ) → TieAt at.DropGate t words made → Outcome t (Marks (record t { phase = at.Gate })) Mark words (made + 1)
drop_gate_step t words made (header, long, is, fresh, held) =
    record { noted = refl; tied = still_tied t (record t { phase = at.Gate }) words (made + 1) refl refl refl refl (header, long, omega arith, fresh, held) }

none_more : (words : List ℕ) (p : Params) (list : List Entry) → fed_slots words p list (length list) ≡ Sound p list
none_more words p list = ap (λ (n : ℕ). read_slots (fed p (length list) words) p (length list) n list) (let z : length list - length list ≡ 0 = omega arith in z)

-- no more kept entries are used than slots are read
within_as : (cmd : Cmd) (t : Task) (n : ℕ) → gate_fault n t.params ≡ None → length (used t.kept cmd t.params n) ≤ slots_read (record t { cmd = cmd; gate = n })
within_as Fsck t n is = omega (arith, used_fsck_count t.kept t.params n)
within_as cmd t n is = used_below t.kept cmd t.params n

pub within_slots : (t : Task) (n : ℕ) → gate_fault n t.params ≡ None → length (used t.kept t.cmd t.params n) ≤ slots_read (record t { gate = n })
within_slots t n is = within_as t.cmd t n is

-- before the first slot only the kept entries are known
no_slot : (kept : Option Kept) (cmd : Cmd) (p : Params) (gate : ℕ) (entries : List Entry) (survey : Survey) (words : List ℕ)
    → IsFresh kept entries survey → SlotsKnown cmd p gate (used kept cmd p gate) (used kept cmd p gate) survey words (length (used kept cmd p gate))
no_slot kept Fsck p gate entries survey words fresh =
    fresh.nothing ∙ ap (λ (n : ℕ). survey_slots (fed p 0 words) p gate 0 n no_survey) (sym (used_fsck_count kept p gate))
no_slot kept cmd p gate entries survey words fresh =
    record { sound = none_more words p (used kept cmd p gate); count = refl; lookups = used_finds kept cmd p gate fresh.joined }

found_by : (t next : Task) (w : Option Wish) (n : ℕ) (words : List ℕ) (made : ℕ) → Outcome t (Goes next) Quiet words made → Outcome t (finds_or_goes w n next) (found_note w n) words made
found_by t next None n words made on = on
found_by t next (Some w) n words made on = record { noted = refl; tied = on.tied }

gate_by : (t : Task) (words : List ℕ) (n made : ℕ) (f : Option LogFault) → HasHeader t.cmd t.me t.lines t.params words → fed_gate words ≡ n
    → gate_fault n t.params ≡ f → length words ≡ 26 → made ≡ 31 → IsFresh t.kept t.entries t.survey → t.words ≡ []
    → Outcome t (gate_turn t n f) (gate_note t.cmd words t.lines f) words made
gate_by t words n made (Some fault) header told is long at_made fresh held =
    ends t (log_fault_reply t.cmd fault) _ words made (ap Answer (gate_reply words t.lines t.cmd t.params fault header.head.super header.header (ap (λ (g : ℕ). gate_fault g t.params) told ∙ is)))
    (at_made ∙ sym (log_end_steps t.cmd (shape_told t words) (first_told t words) (fed_gate words)
    (file_lines t.cmd (told_entries (used_told_by t words) words t.lines)) fault ∙ gate_steps n t.params fault is))
gate_by t words n made None header told is long at_made fresh held =
    outcome_as t _ _ _ (found_note (wish_of t.cmd) n) words made refl (ap (found_note (wish_of t.cmd)) told)
    (found_by t (gate_loaded t n) (wish_of t.cmd) n words made
    (goes_on t (gate_loaded t n) words made refl refl refl refl
    (slot_or_decide_tie (record t { gate = n; entries = used t.kept t.cmd t.params n })
    (slot_or_decide (record t { gate = n }) (length (used t.kept t.cmd t.params n))) words (length (used t.kept t.cmd t.params n)) made known
    (within_slots t n is) held (omega (arith, piece_none (geometry t.params).words (length (used t.kept t.cmd t.params n))))
    (omega (arith, piece_none (slot_steps (geometry t.params)) (length (used t.kept t.cmd t.params n)))))))
  where
    known : TaskSlots (record t { gate = n; entries = used t.kept t.cmd t.params n }) words (length (used t.kept t.cmd t.params n))
    known = record {
      gated = record { log = header; gate_is = told; within = is; long = omega arith };
      known =
          no_slot t.kept t.cmd t.params n t.entries t.survey words fresh;
      behind = omega arith;
      long =
          omega (arith, piece_none (geometry t.params).words (length (used t.kept t.cmd t.params n)));
    }

-- the gate is loaded
pub gate_step : (t : Task) (words : List ℕ) (word made : ℕ) → TieAt at.Gate t words made
    → Outcome t (gate_turn t word (gate_fault word t.params))
    (gate_note t.cmd (words ++ word ∷ []) t.lines (gate_fault (fed_gate (words ++ word ∷ [])) t.params)) (words ++ word ∷ []) (made + 1)
gate_step t words word made (header, long, is, fresh, held) =
    let told : fed_gate (words ++ word ∷ []) ≡ word = gate_fed (words ++ word ∷ []) ∙ get_or_push words word 0 25 long in
    outcome_as t _ _ _ (gate_note t.cmd (words ++ word ∷ []) t.lines (gate_fault word t.params)) (words ++ word ∷ []) (made + 1) refl
    (ap (λ (g : ℕ). gate_note t.cmd (words ++ word ∷ []) t.lines (gate_fault g t.params)) told)
    (gate_by t (words ++ word ∷ []) word (made + 1) (gate_fault word t.params) (has_header_stays t.cmd t.me t.lines t.params words (word ∷ []) header)
    told refl (length-append words (word ∷ []) ∙ ap (λ (n : ℕ). n + 1) long) (omega arith) fresh held)
