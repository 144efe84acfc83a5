-- What is allowed of notes that speak of no bytes is the same in pasts that differ in bytes alone.
use Rattle.std.proofs.Common.{◌≡◌, ◌+◌, ◌≤◌, ◌⊎◌, ℕ, List, [], ◌∷◌, ◌++◌, length, take, Option, Some, None, refl, ap, ap₂, sym, ◌∙◌, subst}
use Rattle.std.specs.Prelude.{Result, Ok, Err, option_map, slice_get}
use Rattle.std.proofs.lemmas.List.{length-map, map-append, take-map}
use Rattle.std.proofs.lemmas.Option.{same_Some, slice_get-map}
use Rattle.fam_base.specs.declared.cmd.Cmd.{Cmd}
use Rattle.fam_base.specs.declared.entry.Entry.{Entry}
use Rattle.fam_base.specs.declared.entry.Params.{Params}
use Rattle.fam_rules.specs.declared.answers.Refused.{Refused as Cause}
use Rattle.fam_rules.specs.declared.answers.Refused.TheVariants as cause
use Rattle.fam_rules.specs.declared.answers.Report.{Report}
use Rattle.fam_rules.specs.Asks.{File, entries_of}
use Rattle.fam_rules.specs.Decide.{Wish, decide_wish, wish_of}
use Rattle.fam_rules.specs.DecideLaws.{IsTooLong}
use Rattle.fam_rules.specs.ReportLaws.{IsSoundReport}
use Rattle.fam_journal.specs.Legal.{AppendedAllowed, CauseAllowed, DamageAllowed, DecideAllowed, FoundAllowed, FoundBad, HasParams, IsDecided, ReportAllowed, WritesAllowed, damaged_report, master_of}
use Rattle.fam_journal.specs.Past.{Bad, Damage, HostPast, Origin, Sound, State, with_pending}
use Rattle.fam_judge.specs.Untold.{untold_cmd}
use Rattle.fam_judge.proofs.Untelling.{same_wish}

-- the entry of a file
abbrev pub entry_of : File → Entry
entry_of f = f.entry

-- the same states but for bytes
abbrev pub AgreeStates : State → State → Type 0
AgreeStates (Sound p a x) (Sound q b y) = (p ≡ q) × (entries_of a ≡ entries_of b) × (option_map entry_of x ≡ option_map entry_of y)
AgreeStates (Sound p a x) (Bad from why count) = ⊥
AgreeStates (Bad origin damage gate) (Sound q b y) = ⊥
AgreeStates (Bad origin damage gate) (Bad from why count) = (origin ≡ from) × (damage ≡ why) × (gate ≡ count)

-- the same host but for its command's bytes
pub record AgreeHosts (x y : HostPast) : Type 0 where
  pub uuid : x.uuid ≡ y.uuid
  pub cmd : option_map untold_cmd x.cmd ≡ option_map untold_cmd y.cmd
  pub floor : x.floor ≡ y.floor
  pub wrote : x.wrote ≡ y.wrote

-- the other way about
pub agree_back : (s t : State) → AgreeStates s t → AgreeStates t s
agree_back (Sound p a x) (Sound q b y) is = (sym is.0, sym is.1, sym is.2)
agree_back (Sound p a x) (Bad from why count) is = absurd is
agree_back (Bad origin damage gate) (Sound q b y) is = absurd is
agree_back (Bad origin damage gate) (Bad from why count) is = (sym is.0, sym is.1, sym is.2)

-- so of hosts
pub hosts_back : (x y : HostPast) → AgreeHosts x y → AgreeHosts y x
hosts_back x y is = record { uuid = sym is.uuid; cmd = sym is.cmd; floor = sym is.floor; wrote = sym is.wrote }

-- Parts.

-- there are as many
pub entries_length : (a b : List File) → entries_of a ≡ entries_of b → length a ≡ length b
entries_length a b same = sym (length-map a entry_of) ∙ ap length same ∙ length-map b entry_of

-- the first of them are the same
pub entries_take : (n : ℕ) (a b : List File) → entries_of a ≡ entries_of b → entries_of (take n a) ≡ entries_of (take n b)
entries_take n a b same = sym (take-map entry_of n a) ∙ ap (take n) same ∙ take-map entry_of n b

entry_get : (n : ℕ) (a b : List File) → entries_of a ≡ entries_of b → option_map entry_of (slice_get a n) ≡ option_map entry_of (slice_get b n)
entry_get n a b same = sym (slice_get-map entry_of a n) ∙ ap (λ (l : List Entry). slice_get l n) same ∙ slice_get-map entry_of b n

-- with what pends
pub entries_all : (a b : List File) (x y : Option File) → entries_of a ≡ entries_of b → option_map entry_of x ≡ option_map entry_of y
    → entries_of (with_pending a x) ≡ entries_of (with_pending b y)
entries_all a b None None same more = same
entries_all a b None (Some y) same more = absurd (cc)
entries_all a b (Some x) None same more = absurd (cc)
entries_all a b (Some x) (Some y) same more =
    map-append entry_of a (x ∷ []) ∙ ap₂ (λ (l : List Entry) (e : Entry). l ++ e ∷ []) same (same_Some x.entry y.entry more)
    ∙ sym (map-append entry_of b (y ∷ []))

none_too : (x y : Option File) → option_map entry_of x ≡ option_map entry_of y → x ≡ None → y ≡ None
none_too x None same none = refl
none_too None (Some y) same none = absurd (cc)
none_too (Some x) (Some y) same none = absurd (cc)

-- a command that tells the same
pub record TellsSame (cmd : Cmd) (host : HostPast) : Type 0 where
  pub other : Cmd
  pub told : host.cmd ≡ Some other
  pub same : untold_cmd cmd ≡ untold_cmd other

cmd_too : (x y : HostPast) → AgreeHosts x y → (cmd : Cmd) → x.cmd ≡ Some cmd → TellsSame cmd y
cmd_too x y agree cmd told = by y.cmd refl
  where
    by : (o : Option Cmd) → y.cmd ≡ o → TellsSame cmd y
    by None e = absurd (
        let no : Some (untold_cmd cmd) ≡ None = sym (ap (option_map untold_cmd) told) ∙ agree.cmd ∙ ap (option_map untold_cmd) e in cc)
    by (Some other) e = record {
      other = other;
      told = e;
      same = same_Some _ _ (sym (ap (option_map untold_cmd) told) ∙ agree.cmd ∙ ap (option_map untold_cmd) e);
    }

-- Notes.

-- a master may find as many
pub found_agrees : (n : ℕ) (s t : State) → AgreeStates s t → FoundAllowed n s → FoundAllowed n t
found_agrees n (Sound p a None) (Sound q b None) is allowed = allowed ∙ entries_length a b is.1
found_agrees n (Sound p a None) (Sound q b (Some y)) is allowed = absurd (let e = is.2 in cc)
found_agrees n (Sound p a (Some x)) (Sound q b None) is allowed = absurd (let e = is.2 in cc)
found_agrees n (Sound p a (Some x)) (Sound q b (Some y)) is allowed = subst (λ (m : ℕ). (n ≡ m) ⊎ (n ≡ m + 1)) (entries_length a b is.1) allowed
found_agrees n (Sound p a x) (Bad from why count) is allowed = absurd is
found_agrees n (Bad origin damage gate) (Sound q b y) is allowed = absurd is
found_agrees n (Bad origin damage gate) (Bad from why count) is allowed =
    subst (λ (d : Damage). FoundBad n d count) is.1 (subst (λ (g : ℕ). FoundBad n damage g) is.2 allowed)

decided_agrees : (x y : HostPast) (p q : Params) (a b : List File) (f g : Option File) (decision : Result Entry Cause) → AgreeHosts x y
    → p ≡ q → entries_of a ≡ entries_of b
    → option_map entry_of f ≡ option_map entry_of g → IsDecided p x a f decision → IsDecided q y b g decision
decided_agrees x y p q a b f g decision agree params same more is =
    let cmd = cmd_too x y agree is.cmd is.told in record {
      cmd = cmd.other;
      told = cmd.told;
      none = none_too f g more is.none;
      is = sym (ap₂ (λ (r : Params) (w : Option Wish). option_map (decide_wish r x.uuid (entries_of a)) w) params
          (same_wish is.cmd cmd.other cmd.same)
          ∙ ap₂ (λ (me : List ℕ) (l : List Entry). option_map (decide_wish q me l) (wish_of cmd.other)) agree.uuid same) ∙ is.is;
    }

-- so the rules decide
pub decide_agrees : (x y : HostPast) (s t : State) (decision : Result Entry Cause) → AgreeHosts x y → AgreeStates s t
    → DecideAllowed x decision s → DecideAllowed y decision t
decide_agrees x y (Sound p a f) (Sound q b g) decision agree is allowed = decided_agrees x y p q a b f g decision agree is.0 is.1 is.2 allowed
decide_agrees x y (Sound p a f) (Bad from why count) decision agree is allowed = absurd is
decide_agrees x y (Bad origin damage gate) t decision agree is allowed = absurd allowed

-- the same entry may be appended
pub writes_agrees : (seq : ℕ) (e : Entry) (x y : HostPast) (s t : State) → AgreeHosts x y → AgreeStates s t → WritesAllowed seq e x s
    → WritesAllowed seq e y t
writes_agrees seq e x y (Sound p a f) (Sound q b g) agree is allowed =
    (allowed.0 ∙ entries_length a b is.1, decided_agrees x y p q a b f g (Ok e) agree is.0 is.1 is.2 allowed.1)
writes_agrees seq e x y (Sound p a f) (Bad from why count) agree is allowed = absurd is
writes_agrees seq e x y (Bad origin damage gate) t agree is allowed = absurd allowed

-- and be acknowledged
pub appended_agrees : (seq : ℕ) (x y : HostPast) (s t : State) → AgreeHosts x y → AgreeStates s t
    → AppendedAllowed seq x s → AppendedAllowed seq y t
appended_agrees seq x y (Sound p a f) (Sound q b g) agree is allowed = record {
  entry = allowed.entry;
  named = sym agree.wrote ∙ allowed.named;
  count = sym (entries_length a b is.1) ∙ allowed.count;
  last = sym (entry_get seq a b is.1) ∙ allowed.last;
}
appended_agrees seq x y (Sound p a f) (Bad from why count) agree is allowed = absurd is
appended_agrees seq x y (Bad origin damage gate) t agree is allowed = absurd allowed

master_agrees : (s t : State) → AgreeStates s t → master_of s ≡ master_of t
master_agrees (Sound p a f) (Sound q b g) is = ap (λ (r : Params). Some r.master) is.0
master_agrees (Sound p a f) (Bad from why count) is = absurd is
master_agrees (Bad origin damage gate) (Sound q b g) is = absurd is
master_agrees (Bad origin damage gate) (Bad from why count) is = ap₂ (λ (o : Origin) (d : Damage). master_of (Bad o d gate)) is.0 is.1

params_agree : (p : Params) (s t : State) → AgreeStates s t → HasParams p s → HasParams p t
params_agree p (Sound q a f) (Sound r b g) is super = super ∙ is.0
params_agree p (Sound q a f) (Bad from why count) is super = absurd is
params_agree p (Bad origin damage gate) (Sound r b g) is super = absurd is
params_agree p (Bad origin damage gate) (Bad from why count) is super =
    subst (λ (o : Origin). HasParams p (Bad o why gate)) is.0 (subst (λ (d : Damage). HasParams p (Bad origin d gate)) is.1 super)

-- the same cause refuses
pub cause_agrees : (why : Cause) (x y : HostPast) (s t : State) → AgreeHosts x y → AgreeStates s t → CauseAllowed why x s → CauseAllowed why y t
cause_agrees (cause.NotMaster me master) x y s t agree is allowed =
    record { me_is = allowed.me_is ∙ agree.uuid; master_is = sym (master_agrees s t is) ∙ allowed.master_is; other = allowed.other }
cause_agrees (cause.LongPath limit) x y s t agree is allowed =
    let cmd = cmd_too x y agree allowed.names.cmd allowed.names.told in record {
      params = allowed.params;
      super = params_agree allowed.params s t is allowed.super;
      names = record {
        cmd = cmd.other;
        told = cmd.told;
        wish = allowed.names.wish;
        wished = sym (same_wish allowed.names.cmd cmd.other cmd.same) ∙ allowed.names.wished;
        is = subst (λ (me : List ℕ). IsTooLong allowed.params me allowed.names.wish limit) agree.uuid allowed.names.is;
      };
    }
cause_agrees why x y s t agree is allowed = decide_agrees x y s t (Err why) agree is allowed

-- the same may be reported
pub report_agrees : (report : Report) (x y : HostPast) (s t : State) → AgreeHosts x y → AgreeStates s t → ReportAllowed report x s
    → ReportAllowed report y t
report_agrees report x y (Sound p a f) (Sound q b g) agree is allowed =
    let all = entries_all a b f g is.1 is.2 in record {
      m = allowed.m;
      bounds = record {
        floor = allowed.bounds.floor;
        marked = sym agree.floor ∙ allowed.bounds.marked;
        low = allowed.bounds.low;
        high = subst (λ (n : ℕ). allowed.m ≤ n) (entries_length (with_pending a f) (with_pending b g) all) allowed.bounds.high;
      };
      is = subst (λ (r : Params). IsSoundReport r (entries_of (take allowed.m (with_pending b g))) report) is.0
          (subst (λ (l : List Entry). IsSoundReport p l report) (entries_take allowed.m (with_pending a f) (with_pending b g) all) allowed.is);
    }
report_agrees report x y (Sound p a f) (Bad from why count) agree is allowed = absurd is
report_agrees report x y (Bad origin damage gate) (Sound q b g) agree is allowed = absurd is
report_agrees report x y (Bad origin damage gate) (Bad from why count) agree is allowed =
    allowed ∙ ap damaged_report is.0

-- and be damaged
pub damage_agrees : (damage : Damage) (s t : State) → AgreeStates s t → DamageAllowed damage s → DamageAllowed damage t
damage_agrees own (Sound p a f) t is allowed = absurd allowed
damage_agrees own (Bad origin damage gate) (Sound q b g) is allowed = absurd is
damage_agrees own (Bad origin damage gate) (Bad from why count) is allowed = allowed ∙ is.1
