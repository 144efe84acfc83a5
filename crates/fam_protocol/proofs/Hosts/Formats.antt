-- Making a file system begins a way, whatever was there.
use Rattle.std.proofs.Common.{◌≡◌, ℕ, ◌*◌, ◌<◌, ◌≤◌, List, [], ◌++◌, Some, None, Ok, inl, inr, refl, sym, ap, subst, ◌∙◌, arith}
use Rattle.std.specs.Prelude.{slice_range, slice_index}
use Rattle.std.proofs.lemmas.Bool.{cases_eq, false≢true}
use Rattle.fam_base.specs.declared.entry.Params.{Params}
use Rattle.fam_format.specs.Layout.{least_lines, gate_line, log_line}
use Rattle.fam_format.specs.Log.{log_fault}
use Rattle.fam_format.specs.Reading.{super_in}
use Rattle.fam_format.specs.Super.{magic, super_words, super_of}
use Rattle.fam_format.proofs.UnitPowers.{unit_told}
use Rattle.fam_format.proofs.SuperLawsProofs.{read_spelling}
use Rattle.fam_format.proofs.LogLawsProofs.{header_passes}
use Rattle.fam_machine.specs.declared.cell.Cell.TheVariants.{Absent}
use Rattle.fam_machine.specs.OneLine.{IsDirty}
use Rattle.fam_rules.specs.Place.{line_bytes}
use Rattle.fam_protocol.specs.SharedState.{SharedState}
use Rattle.fam_protocol.specs.Lines.{gate_of, top}
use Rattle.fam_protocol.specs.Core.{IsWide, IsHeadLine}
use Rattle.fam_protocol.specs.Tasks.{KeepsPrefix}
use Rattle.fam_protocol.specs.Invariant.{Hosts, AreHosts, Known, Invariant}
use Rattle.fam_protocol.specs.Events.{Formats, MayFormat}

-- lines 1 and 2 are the superblock's words
both_lines : (p : Params) → slice_range (super_words p) 0 8 ++ slice_range (super_words p) 8 16 ≡ super_words p
unfolding super_words
both_lines p = refl

-- where a file system may be made there are more lines than a gate needs
pub enough_there : (maker : ℕ) (p : Params) (lines : ℕ) (hosts : Hosts) (s : SharedState) → MayFormat maker p lines hosts s → least_lines ≤ lines
enough_there maker p lines hosts s may = omega (arith, may.sound.need, may.device, (unit_told p.unit may.sound.unit).least)

module _ (maker : ℕ) (p : Params) (lines : ℕ) (hosts : Hosts) (old new : SharedState) (may : MayFormat maker p lines hosts old) (formats : Formats maker p old new) where
  -- the new superblock reads
  super_reads : super_in new.memory (line_bytes * lines) ≡ Ok p
  super_reads =
      ap (λ (w : List ℕ). super_of (slice_index w 0) (new.memory 1 ++ new.memory 2) (line_bytes * lines)) formats.magic
      ∙ ap (λ (w : List ℕ). super_of magic (w ++ new.memory 2) (line_bytes * lines)) formats.first
      ∙ ap (λ (w : List ℕ). super_of magic (slice_range (super_words p) 0 8 ++ w) (line_bytes * lines)) formats.second
      ∙ ap (λ (w : List ℕ). super_of magic w (line_bytes * lines)) (both_lines p)
      ∙ read_spelling p may.sound (line_bytes * lines) may.device

  -- so does the header
  header_reads : log_fault (new.memory log_line) p ≡ None
  header_reads = ap (λ (w : List ℕ). log_fault w p) formats.header ∙ header_passes p

  -- only the maker has something to send
  only_maker : (h l : ℕ) → IsDirty (new.copy h l) → maker ≡ h
  only_maker h l d =
      elim (cases_eq h maker) [
        | inl same ↦ sym same
        | inr other ↦ absurd (may.clean h l other (subst IsDirty (formats.hosts h l other) d))
      ]

  -- and nothing of the head
  head_clean : (h l : ℕ) → IsHeadLine l → IsDirty (new.copy h l) → ⊥
  head_clean h l head d =
      let same : maker ≡ h = only_maker h l d in
      let gone : new.copy h l ≡ Absent = sym (ap (λ (k : ℕ). new.copy k l) same) ∙ formats.head l head in
      false≢true (subst IsDirty gone d)

  -- which were lines of the image before
  inside_formatted : (h l : ℕ) → IsDirty (new.copy h l) → l < lines
  inside_formatted h l d = may.inside l (formats.dirty l (subst (λ (k : ℕ). IsDirty (new.copy k l)) (sym (only_maker h l d)) d))

  -- nothing is published
  none_published : top (new.memory gate_line) (new.copy maker gate_line) ≡ 0
  none_published = ap (top (new.memory gate_line)) formats.dropped ∙ ap gate_of formats.gate

  -- superblock and log need more lines than a gate
  enough_lines : least_lines ≤ lines
  enough_lines = enough_there maker p lines hosts old may

  hosts_formatted : AreHosts hosts old → AreHosts hosts new
  hosts_formatted are = record {
    apart = are.apart;
    absent = λ h l none.
        formats.hosts h l (λ same. let some : hosts.uuid h ≡ Some p.master = ap hosts.uuid same ∙ may.maker_is in cc) ∙ are.absent h l none;
    idle = are.idle;
    bare = are.bare;
  }

  -- the new file system has no entries
  pub invariant_formatted : AreHosts hosts old → IsWide new → Invariant (Known p [] 0) lines hosts new
  invariant_formatted are wide = record {
    declared = hosts_formatted are;
    marked = λ h r run. absurd (let none = may.idle h in cc);
    named = λ h r run. absurd (let none = may.idle h in cc);
    keeps = λ h r run. absurd (let none = may.idle h in cc);
    wide = wide;
    stage = record {
      enough = enough_lines;
      inside = inside_formatted;
      master = Some maker;
      core = record {
        wide = wide;
        head = record { sound = may.sound; device = may.device; super = super_reads; header = header_reads; clean = head_clean };
        named = record {
          is = λ h master. let at : maker ≡ h = cc in sym (ap hosts.uuid at) ∙ may.maker_is;
          only = λ h uuid. ap Some (are.apart maker h p.master may.maker_is uuid);
        };
        only_master = λ h l d. ap Some (only_maker h l d);
        low = omega arith;
        order = omega (arith, none_published, ap gate_of formats.gate);
        high = omega (arith, none_published);
        near = omega arith;
        room = omega arith;
        history = λ i f none. absurd (cc);
        stands = λ i f none below. absurd (cc);
        clean = λ i f h l none below line d. absurd (cc);
      };
      tasks = λ h r run. absurd (let none = may.idle h in cc);
      kept = λ h. subst (KeepsPrefix p [] 0) (sym (may.bare h)) tt;
    };
  }
