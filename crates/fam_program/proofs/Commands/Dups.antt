-- Copies of file systems, as the clause of the top call tells them.
use Rattle.std.proofs.Common.{◌≡◌, ◌≤◌, ℕ, List, Option, Some, None, Result, inl, inr, refl, sym, ap, subst, arith}
use Rattle.std.specs.Prelude.{◌&&◌, Bool, true, false, IfErr, IsTrue, OnOk, Ok, Err}
use Rattle.std.proofs.lemmas.Bool.{false≢true}
use Rattle.fam_base.specs.declared.entry.Params.{Params}
use Rattle.fam_dup.specs.declared.fault.DupFault.{DupFault}
use Rattle.fam_dup.specs.Ends.{AreAsked, DupEnds, IsAskedIn, IsDupCaused, NamesLine, from_counted, to_counted}
use Rattle.fam_dup.specs.Findings.{FaultClass, fault_class}
use Rattle.fam_format.specs.Params.{is_format, is_log_length, is_unit}
use Rattle.fam_journal.specs.declared.refusal.Refusal.TheVariants as why
use Rattle.fam_machine.specs.declared.request.MkfsRequest.{MkfsRequest}
use Rattle.fam_machine.specs.Mkfs.{asked, is_geometry}
use Rattle.fam_media.specs.Outside.{IfModelled}
use Rattle.fam_media.specs.States.{MediaState}
use Rattle.fam_outcomes.specs.declared.status.Status.{Status}
use Rattle.fam_outcomes.specs.declared.status.Status.TheVariants as status
use Rattle.fam_outcomes.specs.Programs.{memory_line, usage_line}
use Rattle.fam_program.specs.Dups.{BadSizes, CopyAsked, CopyOutOfMemory, CopyOutside, DupTop, EarlyCopy, HasBadSizes, IsEarlyCopy, NoCopy, OfImages, PutDup, PutMade, copy_params, counted_behind, early_copy_status, early_copy_text, refused_line}
use Rattle.fam_program.specs.Puts.{Put}

both_true : (a b : Bool) → (a && b) ≡ true → (a ≡ true) × (b ≡ true)
both_true true b is = (refl, is)
both_true false b is = absurd (false≢true is)

-- parameters of a good unit and log are such as a copy may have
pub are_asked : (request : MkfsRequest) (me : List ℕ) (lines size : ℕ) (p : Params) → p ≡ asked request me lines → lines ≡ size
    → IsTrue (is_format request.format) → is_geometry request.unit request.log ≡ true → AreAsked p size
are_asked request me lines size p is count format good =
    let parts = both_true (is_unit request.unit) (is_log_length request.unit request.log) good in
    subst (λ (q : Params). AreAsked q size) (sym is)
    (subst (λ (n : ℕ). AreAsked (asked request me lines) n) count (record { format = format; unit = parts.0; log_length = parts.1; slots = refl; device = refl }))

-- Neither image was asked.

module _ (wanted : Option CopyAsked) (out : CopyOutside) (given : Status) (from : out.from.new ≡ out.from.old) (to : out.to.new ≡ out.to.old) (later : out.sink.old.faults ≤ out.sink.new.faults) where
  ends_early : (early : EarlyCopy) → IsEarlyCopy wanted early → Put (early_copy_status early) (early_copy_text early) out.sink given → DupTop wanted out given
  ends_early early is put =
      let same : out.from.new.faults ≡ out.from.old.faults = ap (λ (s : MediaState). s.faults) from in
      let kept : out.to.new.faults ≡ out.to.old.faults = ap (λ (s : MediaState). s.faults) to in
      record {
        shows = inl record { early = early; is = is; from = from; to = to; put = put };
        same = ap (λ (s : MediaState). s.image) from;
        later_from = omega (arith, same);
        later_to = omega (arith, kept);
        later_sink = later;
      }

  pub copy_wants : Put status.OutOfMemory memory_line out.sink given → DupTop wanted out given
  copy_wants put = ends_early CopyOutOfMemory tt put

  pub no_copy : wanted ≡ None → Put status.Usage usage_line out.sink given → DupTop wanted out given
  no_copy none put = ends_early NoCopy none put

  pub bad_sizes : (unit log : ℕ) → HasBadSizes wanted unit log → PutMade status.Refused (refused_line (why.BadGeometry unit log)) out.sink given → DupTop wanted out given
  bad_sizes unit log bad (inl put) = ends_early (BadSizes unit log) bad put
  bad_sizes unit log bad (inr put) = copy_wants put

-- A copy was tried, with these parameters.

-- the count of an image that counts exactly
counted : (behind : FaultClass → ℕ → ℕ) (ended : Result ℕ DupFault) (exact : Bool) (old new : ℕ) → OnOk ended (exact ≡ true → new ≡ old)
    → IfErr ended (λ fault. exact ≡ true → new ≡ behind (fault_class fault) old) → exact ≡ true → new ≡ counted_behind behind ended old
counted behind (Ok count) exact old new quiet told is = quiet is
counted behind (Err fault) exact old new quiet told is = told is

module _ (copy : CopyAsked) (out : CopyOutside) (given : Status) (good : is_geometry copy.request.unit copy.request.log ≡ true) (p : Params) (is : p ≡ copy_params copy out.lines) where
  -- what the copy says of the line of a fault, and of faults that came
  pub record Told (ended : Result ℕ DupFault) : Type 0 where
    pub asked : IfErr ended (λ fault. IfModelled out.from.old.image (λ source. IfModelled out.to.old.image (λ old. IsAskedIn source old out.to.new.image p copy.request.force fault)))
    pub quiet_from : OnOk ended (out.from_exact ≡ true → out.from.new.faults ≡ out.from.old.faults)
    pub quiet_to : OnOk ended (out.to_exact ≡ true → out.to.new.faults ≡ out.to.old.faults)
    pub counted_from : IfErr ended (λ fault. out.from_exact ≡ true → out.from.new.faults ≡ from_counted (fault_class fault) out.from.old.faults)
    pub counted_to : IfErr ended (λ fault. out.to_exact ≡ true → out.to.new.faults ≡ to_counted (fault_class fault) out.to.old.faults)

  pub copy_tried : (ended : Result ℕ DupFault)
      → OfImages out (λ source old new. DupEnds source old new p copy.request.force ended)
      → IfErr ended (λ fault. IsDupCaused out.from.old.faults out.from.new.faults out.to.old.faults out.to.new.faults fault)
      → IfErr ended (λ fault. NamesLine out.from_lines out.lines fault)
      → Told ended
      → PutDup ended out.sink given
      → out.from.new.image ≡ out.from.old.image → out.from.old.faults ≤ out.from.new.faults → out.to.old.faults ≤ out.to.new.faults → out.sink.old.faults ≤ out.sink.new.faults
      → DupTop (Some copy) out given
  copy_tried ended ends caused named told put same from to sink = record {
    shows = inr record {
      good = good;
      ended = ended;
      ends = subst (λ (q : Params). OfImages out (λ source old new. DupEnds source old new q copy.request.force ended)) is ends;
      caused = caused;
      named = named;
      asked =
          subst (λ (q : Params). IfErr ended
          (λ fault. IfModelled out.from.old.image
          (λ source. IfModelled out.to.old.image (λ old. IsAskedIn source old out.to.new.image q copy.request.force fault)))) is told.asked;
      counted_from = counted from_counted ended out.from_exact out.from.old.faults out.from.new.faults told.quiet_from told.counted_from;
      counted_to = counted to_counted ended out.to_exact out.to.old.faults out.to.new.faults told.quiet_to told.counted_to;
      put = put;
    };
    same = same;
    later_from = from;
    later_to = to;
    later_sink = sink;
  }
