-- What is known of the words stays as more words come.
use Rattle.std.proofs.Common.{ℕ, ◌≡◌, ◌<◌, ◌≤◌, ◌+◌, ◌*◌, ◌/◌, ◌%◌, List, ◌++◌, length, drop, Option, sym, ◌∙◌, ap, subst, arith, length-append}
use Rattle.std.specs.Prelude.{◌==◌}
use Rattle.std.proofs.lemmas.List.{get_or-drop}
use Rattle.fam_base.specs.Image.{byte_of}
use Rattle.fam_base.specs.declared.cmd.Cmd.{Cmd}
use Rattle.fam_base.specs.declared.cmd.Cmd.TheVariants.{Verify, Read, Fsck}
use Rattle.fam_base.specs.declared.cmd.Content.{Content}
use Rattle.fam_base.specs.declared.entry.Params.{Params}
use Rattle.fam_base.specs.declared.entry.Entry.{Entry}
use Rattle.fam_format.specs.Log.{log_fault}
use Rattle.fam_format.specs.Super.{magic_fault}
use Rattle.fam_rules.specs.Content.{byte_in, content_byte}
use Rattle.fam_rules.specs.Reports.{Survey}
use Rattle.fam_commands.specs.declared.phase.Part.{Part}
use Rattle.fam_commands.specs.declared.phase.Part.TheVariants.{Superblock, Header, Slot, File}
use Rattle.fam_commands.specs.Kept.{Kept, used}
use Rattle.fam_commands.specs.Task.{Task, first_in}
use Rattle.fam_commands.proofs.UsedCounts.{used_fsck_count}
use Rattle.fam_commands.proofs.ListPlaces.{index_stays}
use Rattle.fam_commands.proofs.FedLemmas.{super_stays, header_stays, gate_stays, slots_stay, survey_stays}
use Rattle.fam_commands.proofs.Steps.Ties.{HasSuper, HasHeader, HasGate, AreRead, SlotsKnown, HasSlots, IsSame, FileKnown, PartKnown, words_to}

longer : (words more : List ℕ) (n : ℕ) → n ≤ length words → n ≤ length (words ++ more)
longer words more n long = omega (arith, length-append words more)

-- more words don't change what is known of the superblock
pub has_super_stays : (cmd : Cmd) (me : List ℕ) (lines : ℕ) (p : Params) (words more : List ℕ) → HasSuper cmd me lines p words → HasSuper cmd me lines p (words ++ more)
has_super_stays cmd me lines p words more h =
    record { super = super_stays words more lines h.long ∙ h.super; host = h.host; long = longer words more 17 h.long }

-- nor of the header
pub has_header_stays : (cmd : Cmd) (me : List ℕ) (lines : ℕ) (p : Params) (words more : List ℕ) → HasHeader cmd me lines p words → HasHeader cmd me lines p (words ++ more)
has_header_stays cmd me lines p words more h =
    record { head = has_super_stays cmd me lines p words more h.head; header = ap (λ (l : List ℕ). log_fault l p) (header_stays words more h.long) ∙ h.header; long = longer words more 25 h.long }

-- nor of the gate
pub has_gate_stays : (cmd : Cmd) (me : List ℕ) (lines : ℕ) (p : Params) (gate : ℕ) (words more : List ℕ) → HasGate cmd me lines p gate words → HasGate cmd me lines p gate (words ++ more)
has_gate_stays cmd me lines p gate words more h =
    record { log = has_header_stays cmd me lines p words more h.log; gate_is = gate_stays words more h.long ∙ h.gate_is; within = h.within; long = longer words more 26 h.long }

-- nor of the entries
pub are_read_stay : (p : Params) (used entries : List Entry) (words more : List ℕ) (i : ℕ) → words_to p (length used) i ≤ length words
    → AreRead p used entries words i → AreRead p used entries (words ++ more) i
are_read_stay p used entries words more i long h =
    record { sound = slots_stay words more p used i long ∙ h.sound; count = h.count; lookups = h.lookups }

-- nor of a survey
pub known_stays : (kept : Option Kept) (cmd : Cmd) (p : Params) (gate : ℕ) (entries : List Entry) (survey : Survey) (words more : List ℕ) (i : ℕ)
    → words_to p (length (used kept cmd p gate)) i ≤ length words → SlotsKnown cmd p gate (used kept cmd p gate) entries survey words i
    → SlotsKnown cmd p gate (used kept cmd p gate) entries survey (words ++ more) i
known_stays kept Fsck p gate entries survey words more i long h =
    h ∙ sym (survey_stays words more p gate i (subst (λ (n : ℕ). words_to p n i ≤ length words) (used_fsck_count kept p gate) long))
known_stays kept cmd p gate entries survey words more i long h = are_read_stay p (used kept cmd p gate) entries words more i long h

-- nor of all of these
pub has_slots_stay : (kept : Option Kept) (cmd : Cmd) (me : List ℕ) (lines : ℕ) (p : Params) (gate : ℕ) (entries : List Entry) (survey : Survey)
    (words more : List ℕ) (i : ℕ) → HasSlots kept cmd me lines p gate entries survey words i
    → HasSlots kept cmd me lines p gate entries survey (words ++ more) i
has_slots_stay kept cmd me lines p gate entries survey words more i h =
    record {
      gated = has_gate_stays cmd me lines p gate words more h.gated;
      behind = h.behind;
      known = known_stays kept cmd p gate entries survey words more i h.long h.known;
      long = longer words more (words_to p (length (used kept cmd p gate)) i) h.long;
    }

-- a byte behind the first n words, as more words come
pub byte_stays : (words more : List ℕ) (n o : ℕ) → n + o / 8 < length words → byte_in (drop n (words ++ more)) o ≡ byte_in (drop n words) o
byte_stays words more n o within =
    ap (λ (w : ℕ). byte_of w (o % 8)) (get_or-drop n (words ++ more) (o / 8) 0 ∙ index_stays words more (n + o / 8) within ∙ sym (get_or-drop n words (o / 8) 0))

-- nor of bytes that agree
pub same_stays : (against : Content) (e : Entry) (words more : List ℕ) (n j : ℕ) → n + 8 * j ≤ length words → IsSame against e (drop n words) j → IsSame against e (drop n (words ++ more)) j
same_stays against e words more n j long h =
    λ o prefix inside. ap (λ (b : ℕ). b == content_byte against o) (byte_stays words more n o (omega arith)) ∙ h o prefix inside

-- nor of the file that is read
pub file_stays : (cmd : Cmd) (p : Params) (f gate : ℕ) (entries : List Entry) (entry : Option Entry) (words more : List ℕ) (j : ℕ)
    → FileKnown cmd p f gate entries entry words j → FileKnown cmd p f gate entries entry (words ++ more) j
file_stays (Verify path against) p f gate entries entry words more j h =
    (h.0, h.1, same_stays against h.0 words more (words_to p f gate) j h.3 h.2, longer words more (words_to p f gate + 8 * j) h.3)
file_stays (Read path offset count) p f gate entries entry words more j h = h
file_stays cmd p f gate entries entry words more j h = absurd h

-- nor of any part
pub part_stays : (part : Part) (t : Task) (words more : List ℕ) (j : ℕ) → PartKnown part t words j → PartKnown part t (words ++ more) j
part_stays Superblock t words more j h = (ap magic_fault (index_stays words more 0 (omega arith)) ∙ h.0, longer words more 1 h.1, h.2)
part_stays Header t words more j h = (has_super_stays t.cmd t.me t.lines t.params words more h.0, h.1)
part_stays (Slot i) t words more j h = (has_slots_stay t.kept t.cmd t.me t.lines t.params t.gate t.entries t.survey words more i h.0, h.1)
part_stays File t words more j h =
    (has_slots_stay t.kept t.cmd t.me t.lines t.params t.gate t.entries t.survey words more t.gate h.0, file_stays t.cmd t.params (first_in t) t.gate t.entries t.entry words more j h.1)
