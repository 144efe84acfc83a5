-- An answer and a note of another host: what is allowed in the one order is in the other, and what comes behind them too.
use Rattle.std.proofs.Common.{◌≡◌, ◌≢◌, ◌≤◌, ℕ, true, false, List, [], ◌∷◌, ◌++◌, length, Option, Some, None, refl, ap, sym, ◌∙◌, subst, arith}
use Rattle.std.specs.Prelude.{⊤, is_some, option_map, slice_get, Ok}
use Rattle.std.proofs.lemmas.Option.{same_Some}
use Rattle.fam_base.specs.declared.entry.Entry.{Entry}
use Rattle.fam_base.specs.declared.entry.Params.{Params}
use Rattle.fam_rules.specs.declared.answers.Refused.{Refused as Cause}
use Rattle.fam_rules.specs.declared.answers.Refused.TheVariants as cause
use Rattle.fam_rules.specs.Asks.{File}
use Rattle.fam_rules.specs.Reply as reply
use Rattle.fam_journal.specs.Legal.{Allowed, AnswerAllowed, FoundAllowed, OfHost, WritesAllowed}
use Rattle.fam_journal.specs.Notes.{Answer, Replied, MediaFault, Note, Host, Made, Cut, Start, Mark, Found, Writes, Answered, Stop, Halt, Umount, Refused}
use Rattle.fam_journal.specs.Past.{Bad, HostPast, Past, Sound, State, ended_state, finds, past_after, pends, settled_length, shows_count, state_after, hosts_after}
use Rattle.fam_journal.specs.Shapes.{AnswerShape, Begun, CauseShape, CommandStage, HasMet, HostShape, Marked, Met, Named, OfHostShape, TaskShape, Pairs}
use Rattle.fam_journal.proofs.Calls.Members.{changed_other}
use Rattle.fam_judge.specs.Alike.{told_note, whole_note}
use Rattle.fam_judge.proofs.Aside.{Apart}
use Rattle.fam_judge.proofs.Easier.{IsEasier, Lower, all_lower, lower_changed}
use Rattle.fam_judge.proofs.Masters.{FoundSize, StageFits, TaskFits, WriteSize, size_found}
use Rattle.fam_judge.proofs.Members.{front_member}
use Rattle.fam_judge.proofs.Replies.{DeclineSize, IsDecline, NamedSize, answer_bound, appends, behind_finds, behind_pends, behind_shows, decided_master, declines}
use Rattle.fam_judge.proofs.Sizes.{Lost, Size, Sized, effect, ended_is, size_of, told_size, told_sized}
use Rattle.fam_judge.proofs.States.{Goes, counts_bad, counts_none, finds_order, goes, joined_length, joins, pends_order, shows_order, stays, waits}
use Rattle.fam_judge.proofs.Telling.{note_back}

-- Declared hosts.

-- another thing holds of the host
pub of_map : (o : Option HostPast) (P Q : HostPast → Type 0) → ((x : HostPast) → o ≡ Some x → P x → Q x) → OfHost o P → OfHost o Q
of_map None P Q next is = is
of_map (Some x) P Q next is = next x refl is

-- it holds of the host's shape, where it is of its UUID
pub of_shape : (o : Option HostPast) (q : Option HostShape) (F : List ℕ → Type 0) → option_map (λ (x : HostPast). x.uuid) o ≡ option_map (λ (x : HostShape). x.uuid) q
    → OfHost o (λ x. F x.uuid)
    → OfHostShape q (λ x. F x.uuid)
of_shape None q F same is = absurd is
of_shape (Some x) None F same is = absurd cc
of_shape (Some x) (Some y) F same is = subst F (same_Some x.uuid y.uuid same) is

-- By what is settled.

-- so many are settled
abbrev pub MetSize : ℕ → Size → Type 0
MetSize seq (Lost origin damage gate) = ⊤
MetSize seq (Sized p n more) = seq ≤ n

-- as a command found them
pub met_size : (me : List ℕ) (t : TaskShape) (seq : ℕ) (s : Size) → TaskFits me (Some t) s → t.stage ≡ Met seq → MetSize seq s
met_size me t seq (Lost origin damage gate) fits is = tt
met_size me t seq (Sized p n more) fits is = (subst (λ (c : CommandStage). StageFits me c p n more) is fits).0

met_cause : (me : List ℕ) (stage : CommandStage) (why : Cause) → IsDecline why → CauseShape me stage why → HasMet stage
met_cause me stage (cause.NotMaster own master) ruled is = absurd ruled
met_cause me stage (cause.LongPath limit) ruled is = absurd ruled
met_cause me stage why ruled is = is

met_alone : (me : List ℕ) (stage : CommandStage) (p : Params) (n : ℕ) → HasMet stage → StageFits me stage p n true → me ≢ p.master
met_alone me Begun p n met fits = absurd met
met_alone me Marked p n met fits = absurd met
met_alone me (Met m) p n met fits = λ e. let no : true ≡ false = fits.1 e in cc
met_alone me (Named seq) p n met fits = absurd met

-- of a running command's answer that appends nothing
pub decline_size : (me : List ℕ) (t : TaskShape) (s : Size) (answer : Answer) → TaskFits me (Some t) s → AnswerShape me t.cmd t.stage answer
    → DeclineSize (declines answer) me s
decline_size me t s (MediaFault line) fits shape = tt
decline_size me t (Lost origin damage gate) (Replied (reply.NotAppended why)) fits shape = tt
decline_size me t (Sized p n false) (Replied (reply.NotAppended why)) fits shape = tt
decline_size me t (Sized p n true) (Replied (reply.NotAppended why)) fits shape = λ ruled. met_alone me t.stage p n (met_cause me t.stage why ruled shape.1) fits
decline_size me t s (Replied given) fits shape = tt

-- of its answer that acknowledges an entry
pub named_size : (me : List ℕ) (t : TaskShape) (s : Size) (answer : Answer) → TaskFits me (Some t) s → AnswerShape me t.cmd t.stage answer → NamedSize (appends answer) s
named_size me t s (MediaFault line) fits shape = tt
named_size me t (Lost origin damage gate) (Replied (reply.Appended seq)) fits shape = tt
named_size me t (Sized p n false) (Replied (reply.Appended seq)) fits shape = tt
named_size me t (Sized p n true) (Replied (reply.Appended seq)) fits shape = (subst (λ (c : CommandStage). StageFits me c p n true) shape fits).1 refl
named_size me t s (Replied given) fits shape = tt

-- of an entry that may be named
pub writes_size : (seq : ℕ) (e : Entry) (host : HostPast) (s : State) → WritesAllowed seq e host s → WriteSize host.uuid seq (size_of s)
writes_size seq e host (Bad origin damage gate) is = is
writes_size seq e host (Sound p history pending) is =
    (is.0, ap (λ (o : Option File). is_some o) is.1.none, decided_master p host.uuid _ is.1.cmd (Ok e) is.1.is tt)

-- nothing pends, and the host isn't the master
abbrev pub OtherSize : List ℕ → Size → Type 0
OtherSize me (Lost origin damage gate) = ⊥
OtherSize me (Sized p n more) = (more ≡ false) × (me ≢ p.master)

-- what a note behind an answer of a host, which shows so many, needs of what is settled before it
abbrev pub NoteFits : List ℕ → Option ℕ → Note → Size → Type 0
NoteFits me o (Found k n) s = FoundSize n (told_size o s)
NoteFits me o (Writes k seq entry) s = OtherSize me s
NoteFits me o y s = ⊤

-- it is needed of what tells the same
pub fits_told : (me : List ℕ) (o : Option ℕ) (s : Size) (x y : Note) → told_note x ≡ told_note y → NoteFits me o x s → NoteFits me o y s
fits_told me o s (Start k cmd) (Start n other) e fits = tt
fits_told me o s (Start k cmd) y e fits = absurd cc
fits_told me o s x y e fits = subst (λ (z : Note). NoteFits me o z s) (sym (note_back y x (ap whole_note (sym e)))) fits

-- where nothing pends the answer shows no more than is settled
abbrev pub BoundSize : Option ℕ → Size → Type 0
BoundSize o (Lost origin damage gate) = ⊤
BoundSize o (Sized p n false) = (m : ℕ) → o ≡ Some m → m ≤ n
BoundSize o (Sized p n true) = ⊤

-- of an answer that is allowed
pub bound_size : (answer : Answer) (host : HostPast) (s : State) → AnswerAllowed answer host s → BoundSize (effect answer) (size_of s)
bound_size answer host (Bad origin damage gate) is = tt
bound_size answer host (Sound p history None) is = answer_bound answer host p history is
bound_size answer host (Sound p history (Some f)) is = tt

-- What is allowed.

-- an entry that may be named behind an answer may be named before it, where no more were found
pub writes_before : (seq : ℕ) (e : Entry) (host : HostPast) (o : Option ℕ) (s : State) → MetSize seq (size_of s) → WritesAllowed seq e host (shows_count o s)
    → WritesAllowed seq e host s
writes_before seq e host o (Bad origin damage gate) met is = subst (WritesAllowed seq e host) (counts_bad o origin damage gate) is
writes_before seq e host o (Sound p history None) met is = subst (WritesAllowed seq e host) (counts_none o p history) is
writes_before seq e host o (Sound p history (Some f)) met is = by (goes p history f o)
  where
    by : Goes p history f o → WritesAllowed seq e host (waits p history f)
    by (joins some e) =
        let count : seq ≡ length (history ++ f ∷ []) = (subst (WritesAllowed seq _ host) e is).0 in let long = joined_length p history f in absurd (omega (arith, met, count, long))
    by (stays none e) = subst (WritesAllowed seq _ host) e is

pends_allowed : (answer : Answer) (f : File) (host : HostPast) (s : State) → OtherSize host.uuid (size_of s) → AnswerAllowed answer host s
    → AnswerAllowed answer host (pends f s)
pends_allowed answer f host (Bad origin damage gate) fits is = absurd fits
pends_allowed answer f host (Sound p history None) fits is = behind_pends answer host f p history fits.1 is
pends_allowed answer f host (Sound p history (Some g)) fits is = absurd (let no : true ≡ false = fits.0 in cc)

found_told : (o : Option ℕ) (n : ℕ) (s : State) → FoundSize n (told_size o (size_of s)) → FoundAllowed n (shows_count o s)
found_told o n s fits = size_found n (shows_count o s) (subst (FoundSize n) (sym (told_sized o s)) fits)

module _ (h : ℕ) (answer : Answer) (me : List ℕ) (past : Past) where
  abbrev After : State → HostPast → Type 0
  After s host = AnswerAllowed answer host s

  -- the answer is allowed behind the note
  pub answer_behind : ((host : HostPast) → slice_get past.hosts h ≡ Some host → host.uuid ≡ me) → NamedSize (appends answer) (size_of past.state) → (y : Note)
      → Apart h (length past.hosts) (told_note y) → NoteFits me (effect answer) y (size_of past.state) → Allowed past (Answered h answer) → Allowed (past_after past y) (Answered h answer)
  answer_behind own named (Host name uuid) way fits is = subst (λ (o : Option HostPast). OfHost o (After past.state)) (sym (front_member h past.hosts _ way)) is
  answer_behind own named (Made k p) way fits is = absurd way
  answer_behind own named (Cut k n) way fits is = absurd way
  answer_behind own named (Start k cmd) way fits is = subst (λ (o : Option HostPast). OfHost o (After past.state)) (sym (changed_other k h _ past.hosts (λ e. way (sym e)))) is
  answer_behind own named (Mark k) way fits is = subst (λ (o : Option HostPast). OfHost o (After past.state)) (sym (changed_other k h _ past.hosts (λ e. way (sym e)))) is
  answer_behind own named (Found k n) way fits is =
      of_map (slice_get past.hosts h) (After past.state) (After (finds n past.state))
      (λ host e. behind_finds answer host n past.state named (found_told (effect answer) n past.state fits)) is
  answer_behind own named (Writes k seq entry) way fits is =
      let s : State = state_after past (Writes k seq entry) in
      subst (λ (o : Option HostPast). OfHost o (After s)) (sym (changed_other k h _ past.hosts (λ e. way (sym e))))
      (of_map (slice_get past.hosts h) (After past.state) (After s)
      (λ host e. pends_allowed answer _ host past.state (subst (λ (u : List ℕ). OtherSize u (size_of past.state)) (sym (own host e)) fits)) is)
  answer_behind own named (Answered k other) way fits is =
      of_map (slice_get past.hosts h) (After past.state) (After (ended_state other past.state))
      (λ host e allowed. subst (λ (s : State). After s host) (sym (ended_is other past.state)) (behind_shows answer host (effect other) past.state named allowed)) is
  answer_behind own named (Stop k) way fits is = is
  answer_behind own named (Halt k) way fits is = is
  answer_behind own named (Umount k) way fits is = is
  answer_behind own named (Refused name why) way fits is = is

  -- Behind both.

  ended_order : (other : Answer) → ended_state answer (ended_state other past.state) ≡ ended_state other (ended_state answer past.state)
  ended_order other =
      ended_is answer (ended_state other past.state) ∙ ap (shows_count (effect answer)) (ended_is other past.state)
      ∙ sym (shows_order (effect answer) (effect other) past.state)
      ∙ sym (ended_is other (ended_state answer past.state) ∙ ap (shows_count (effect other)) (ended_is answer past.state))

  found_order : (n : ℕ) → FoundSize n (told_size (effect answer) (size_of past.state)) → ended_state answer (finds n past.state) ≡ finds n (ended_state answer past.state)
  found_order n fits =
      ended_is answer (finds n past.state) ∙ sym (finds_order (effect answer) n past.state (found_told (effect answer) n past.state fits))
      ∙ ap (finds n) (sym (ended_is answer past.state))

  named_order : (f : File) (s : State) → OtherSize me (size_of s) → BoundSize (effect answer) (size_of s) → ended_state answer (pends f s) ≡ pends f (ended_state answer s)
  named_order f (Bad origin damage gate) fits bound = absurd fits
  named_order f (Sound p history None) fits bound =
      ended_is answer (pends f (Sound p history None)) ∙ sym (pends_order (effect answer) f p history bound) ∙ ap (pends f) (sym (ended_is answer (Sound p history None)))
  named_order f (Sound p history (Some g)) fits bound = absurd (let no : true ≡ false = fits.0 in cc)

  settled_more : (o : Option ℕ) (s : State) → settled_length s ≤ settled_length (shows_count o s)
  settled_more o (Bad origin damage gate) = let same = ap settled_length (counts_bad o origin damage gate) in omega (arith, same)
  settled_more o (Sound p history None) = let same = ap settled_length (counts_none o p history) in omega (arith, same)
  settled_more o (Sound p history (Some f)) = by (goes p history f o)
    where
      by : Goes p history f o → settled_length (waits p history f) ≤ settled_length (shows_count o (waits p history f))
      by (joins some e) = let same = ap settled_length e in let long = joined_length p history f in omega (arith, same, long)
      by (stays none e) = let same = ap settled_length e in omega (arith, same)

  easier_same : (s : State) (y : Note) → s ≡ state_after (past_after past (Answered h answer)) y
      → hosts_after past y ≡ hosts_after (past_after past (Answered h answer)) y
      → s ≡ ended_state answer (state_after past y)
      → IsEasier (past_after (past_after past (Answered h answer)) y) (past_after (past_after past y) (Answered h answer))
  easier_same s y first hosts second = record {
    start = refl;
    state = sym second ∙ first;
    hosts = subst (λ (l : List HostPast). Pairs Lower l (past_after past y).hosts) hosts (all_lower (past_after past y).hosts);
  }

  -- the answer behind the note leaves what the note behind the answer does, but that a mark between them is of fewer entries
  pub order_easier : (y : Note) → Apart h (length past.hosts) (told_note y) → NoteFits me (effect answer) y (size_of past.state)
      → BoundSize (effect answer) (size_of past.state)
      → IsEasier (past_after (past_after past (Answered h answer)) y) (past_after (past_after past y) (Answered h answer))
  order_easier (Made k p) way fits bound = absurd way
  order_easier (Cut k n) way fits bound = absurd way
  order_easier (Found k n) way fits bound = easier_same _ (Found k n) (found_order n fits) refl refl
  order_easier (Writes k seq entry) way fits bound = easier_same _ (Writes k seq entry) (named_order _ past.state fits bound) refl refl
  order_easier (Answered k other) way fits bound = easier_same _ (Answered k other) (ended_order other) refl refl
  order_easier (Mark k) way fits bound = record {
    start = refl;
    state = refl;
    hosts = lower_changed k _ _ marked past.hosts past.hosts (all_lower past.hosts);
  }
    where
      marked : (x y : HostPast) → Lower x y → Lower (record x { floor = Some (settled_length (ended_state answer past.state)) }) (record y { floor = Some (settled_length past.state) })
      marked x y lower = record {
        name = lower.name;
        uuid = lower.uuid;
        cmd = lower.cmd;
        wrote = lower.wrote;
        floor = subst (λ (s : State). settled_length past.state ≤ settled_length s) (sym (ended_is answer past.state)) (settled_more (effect answer) past.state);
      }
  order_easier y way fits bound = easier_same _ y refl refl refl
