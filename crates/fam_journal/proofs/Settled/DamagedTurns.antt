-- On a damaged image: what a turn may say is legal, and settles nothing.
use Rattle.std.proofs.Common.{◌≡◌, ◌≢◌, ℕ, ◌*◌, List, ◌++◌, length, Option, Some, refl, ap, sym, ◌∙◌, subst}
use Rattle.std.specs.Prelude.{slice_get, slice_index, Ok}
use Rattle.std.proofs.lemmas.Option.{same_Some}
use Rattle.fam_base.specs.declared.entry.Entry.{Entry}
use Rattle.fam_base.specs.declared.entry.Params.{Params}
use Rattle.fam_base.specs.Image.{Image, line_at}
use Rattle.fam_format.specs.declared.faults.SuperFault.TheVariants as super
use Rattle.fam_format.specs.Super.{super_of}
use Rattle.fam_format.specs.Reading as read
use Rattle.fam_format.specs.Reading.{Lines, Reading, reading_of, super_in}
use Rattle.fam_commands.specs.Stands.{note_of}
use Rattle.fam_commands.specs.Task.{Task}
use Rattle.fam_commands.specs.Turns.{Turn, Goes, Marks, Finds, Writes, Ends}
use Rattle.fam_rules.specs.declared.answers.Refused.TheVariants as refused
use Rattle.fam_rules.specs.Place.{line_bytes}
use Rattle.fam_rules.specs.Reply as reply
use Rattle.fam_rules.specs.Reply.{Reply}
use Rattle.fam_rules.specs.Reports.{report_of, report_super}
use Rattle.fam_rules.proofs.TornHead.{none_read}
use Rattle.fam_protocol.specs.Bad.{MayReplyBad, MaySayBad, fault_of}
use Rattle.fam_protocol.specs.Steps.{turn_settles}
use Rattle.fam_journal.proofs.Settled.ReplyCases.{replied_by}
use Rattle.fam_journal.specs.Kept.{IsCleared, origin_lines, settled_bad, settled_of}
use Rattle.fam_journal.specs.Legal.{DamageAllowed, cleared_report, FoundAllowed, HasParams, LegalBehind, OfHost, ReplyAllowed, ReportAllowed, master_of, master_read}
use Rattle.fam_journal.specs.Machines.{notes_of}
use Rattle.fam_journal.specs.Past as past
use Rattle.fam_journal.specs.Past.{Damage, FewLines, Halted, Origin, State, Bad, Sound, HostPast, past_behind, replied, state_read}
use Rattle.fam_journal.proofs.Settled.BadStates.{not_super}
use Rattle.fam_journal.proofs.Settled.LongPaths.{names_long}

-- Nothing is settled.

pub replied_bad : (i : Origin) (d : Damage) (g : ℕ) (given : Reply) → replied given (Bad i d g) ≡ Bad i d g
replied_bad i d g = replied_by (λ f. f (Bad i d g) ≡ Bad i d g) refl (λ m. refl) (λ seq. refl)

turn_keeps_bad : (image : Lines) (turn : Turn) (d : Damage) → turn_settles turn (settled_bad image d) ≡ settled_bad image d
turn_keeps_bad image turn (FewLines lines) = refl
turn_keeps_bad image turn e = refl

pub bad_stays : (start : Image) (hosts : List HostPast) (h : ℕ) (i : Origin) (d : Damage) (g : ℕ) (turn : Turn)
    → (past_behind (record { start = start; state = Bad i d g; hosts = hosts }) (notes_of h (note_of turn))).state ≡ Bad i d g
bad_stays start hosts h i d g (Ends given) = replied_bad i d g given
bad_stays start hosts h i d g e = refl

pub bad_settles : (now : Lines) (start : Image) (hosts : List HostPast) (h : ℕ) (i : Origin) (d : Damage) (g : ℕ) (turn : Turn)
    → settled_of (past_behind (record { start = start; state = Bad i d g; hosts = hosts }) (notes_of h (note_of turn))).state now ≡ turn_settles turn (settled_of (Bad i d g) now)
bad_settles now start hosts h i d g turn = ap (λ (s : State). settled_of s now) (bad_stays start hosts h i d g turn) ∙ sym (turn_keeps_bad (origin_lines i now) turn d)

-- What is legal of an image that was handed in.

module _ (first start : Image) (state : State) (hosts : List HostPast) (h : ℕ) (told : HostPast) (host_is : slice_get hosts h ≡ Some told) (t : Task)
    (cmd_is : told.cmd ≡ Some t.cmd) (me : told.uuid ≡ t.me)
    (state_is : state ≡ state_read start (reading_of (line_at start) (line_bytes * length start)))
    (bad : (p : Params) (entries : List Entry) → reading_of (line_at start) (line_bytes * length start) ≢ read.Sound p entries) where
  abbrev have : ℕ
  have = line_bytes * length start

  -- the fault of the image
  at_reading : (P : State → Type 0) (r : Reading) → reading_of (line_at start) have ≡ r → P (state_read start r) → P state
  at_reading P r is holds = subst P (sym (state_is ∙ ap (state_read start) is)) holds

  super_fault : (r : Reading) (given : Reply) → reading_of (line_at start) have ≡ r → fault_of r ≡ Some given → ReplyAllowed given told state
  super_fault (read.NoSuperblock fault) given is e =
      subst (λ (x : Reply). ReplyAllowed x told state) (same_Some (reply.NoSuperblock fault) given e)
      (at_reading (λ (s : State). DamageAllowed (past.NoSuperblock fault) s) (read.NoSuperblock fault) is refl)
  super_fault (read.BadHeader fault) given is e =
      subst (λ (x : Reply). ReplyAllowed x told state) (same_Some (reply.BadHeader fault) given e)
      (at_reading (λ (s : State). DamageAllowed (past.BadHeader fault) s) (read.BadHeader fault) is refl)
  super_fault (read.BadSlot i reason) given is e =
      subst (λ (x : Reply). ReplyAllowed x told state) (same_Some (reply.BadSlot i reason) given e)
      (at_reading (λ (s : State). DamageAllowed (past.BadSlot i reason) s) (read.BadSlot i reason) is refl)
  super_fault (read.Sound p entries) given is e = absurd cc

  master_by : (p : Params) (r : Reading) → super_in (line_at start) have ≡ Ok p → reading_of (line_at start) have ≡ r → master_of (state_read start r) ≡ Some p.master
  master_by p (read.NoSuperblock fault) super is = absurd (not_super (line_at start) p fault have super is)
  master_by p (read.BadHeader fault) super is = ap master_read super
  master_by p (read.BadSlot i reason) super is = ap master_read super
  master_by p (read.Sound q entries) super is = absurd (bad q entries is)

  super_by : (p : Params) (r : Reading) → super_in (line_at start) have ≡ Ok p → reading_of (line_at start) have ≡ r → HasParams p (state_read start r)
  super_by p (read.NoSuperblock fault) super is = absurd (not_super (line_at start) p fault have super is)
  super_by p (read.BadHeader fault) super is = super
  super_by p (read.BadSlot i reason) super is = super
  super_by p (read.Sound q entries) super is = absurd (bad q entries is)

  report_by : (given : Rattle.fam_rules.specs.declared.answers.Report.Report) (r : Reading) → reading_of (line_at start) have ≡ r
      → given ≡ Rattle.fam_rules.specs.Reports.report_of (line_at start) have → ReportAllowed given told (state_read start r)
  report_by given (read.NoSuperblock fault) is same = same
  report_by given (read.BadHeader fault) is same = same
  report_by given (read.BadSlot i reason) is same = same
  report_by given (read.Sound p entries) is same = absurd (bad p entries is)

  reply_legal : (given : Reply) → MayReplyBad given (line_at start) have t → ReplyAllowed given told state
  reply_legal (reply.NotAppended (refused.NotMaster own master)) a = record {
    me_is = a.me_is ∙ sym me;
    master_is = ap master_of state_is ∙ master_by a.params (reading_of (line_at start) have) a.super refl ∙ ap Some (sym a.master_is);
    other = a.other;
  }
  reply_legal (reply.NotAppended (refused.LongPath limit)) a = record {
    params = a.params;
    super = subst (HasParams a.params) (sym state_is) (super_by a.params (reading_of (line_at start) have) a.super refl);
    names = names_long a.params t told limit cmd_is me a.is;
  }
  reply_legal (reply.Reports report) a =
      subst (λ (s : State). ReportAllowed report told s) (sym state_is) (report_by report (reading_of (line_at start) have) refl a)
  reply_legal (reply.NoSuperblock fault) a = super_fault (reading_of (line_at start) have) (reply.NoSuperblock fault) refl a
  reply_legal (reply.BadHeader fault) a = super_fault (reading_of (line_at start) have) (reply.BadHeader fault) refl a
  reply_legal (reply.BadSlot i reason) a = super_fault (reading_of (line_at start) have) (reply.BadSlot i reason) refl a
  reply_legal e a = absurd a

  pub damaged_legal : (turn : Turn) → MaySayBad turn (line_at start) have t → LegalBehind (record { start = first; state = state; hosts = hosts }) (notes_of h (note_of turn))
  damaged_legal (Goes next) may = tt
  damaged_legal (Marks next) may = (tt, tt)
  damaged_legal (Finds n next) may = (at_reading (λ (s : State). FoundAllowed n s) (read.BadSlot may.slot may.reason) may.bad may.is, tt)
  damaged_legal (Writes seq e next) may = absurd may
  damaged_legal (Ends given) may =
      (subst (λ (o : Option HostPast). OfHost o (λ x. ReplyAllowed given x state)) (sym host_is) (reply_legal given may), tt)

-- What is legal behind a mkfs whose maker halted.

-- the report of an image of which word 0 of line 0 is zero
pub report_cleared : (now : Lines) (have : ℕ) → slice_index (now 0) 0 ≡ 0 → report_of now have ≡ cleared_report
unfolding report_of super_of
report_cleared now have word = ap (λ (w : ℕ). report_super now (super_of w (now 1 ++ now 2) have)) word

module _ (first : Image) (now : Lines) (have : ℕ) (damage : Damage) (gate : ℕ) (cleared : IsCleared damage now) (hosts : List HostPast) (h : ℕ)
    (told : HostPast) (host_is : slice_get hosts h ≡ Some told) (t : Task) where
  -- there is no superblock
  none : reading_of now have ≡ read.NoSuperblock (super.NoSuper 0)
  none = none_read now have cleared.word

  reply_cleared : (given : Reply) → MayReplyBad given now have t → ReplyAllowed given told (Bad Halted damage gate)
  reply_cleared (reply.NotAppended (refused.NotMaster own master)) a = absurd (not_super now a.params (super.NoSuper 0) have a.super none)
  reply_cleared (reply.NotAppended (refused.LongPath limit)) a = absurd (not_super now a.params (super.NoSuper 0) have a.super none)
  reply_cleared (reply.Reports report) a = a ∙ report_cleared now have cleared.word
  reply_cleared (reply.NoSuperblock fault) a =
      let same : Some (reply.NoSuperblock fault) ≡ Some (reply.NoSuperblock (super.NoSuper 0)) = sym a ∙ ap fault_of none in
      let fault_is : fault ≡ super.NoSuper 0 = cc in
      ap past.NoSuperblock fault_is ∙ sym cleared.damage_is
  reply_cleared (reply.BadHeader fault) a = absurd (let same : Some (reply.BadHeader fault) ≡ Some (reply.NoSuperblock (super.NoSuper 0)) = sym a ∙ ap fault_of none in cc)
  reply_cleared (reply.BadSlot i reason) a = absurd (let same : Some (reply.BadSlot i reason) ≡ Some (reply.NoSuperblock (super.NoSuper 0)) = sym a ∙ ap fault_of none in cc)
  reply_cleared e a = absurd a

  pub cleared_legal : (turn : Turn) → MaySayBad turn now have t → LegalBehind (record { start = first; state = Bad Halted damage gate; hosts = hosts }) (notes_of h (note_of turn))
  cleared_legal (Goes next) may = tt
  cleared_legal (Marks next) may = (tt, tt)
  cleared_legal (Finds n next) may = absurd (let bad = may.is in let same = none in cc)
  cleared_legal (Writes seq e next) may = absurd may
  cleared_legal (Ends given) may =
      (subst (λ (o : Option HostPast). OfHost o (λ x. ReplyAllowed given x (Bad Halted damage gate))) (sym host_is) (reply_cleared given may), tt)
