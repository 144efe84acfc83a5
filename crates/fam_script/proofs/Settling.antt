-- What is settled, by lengths alone, is what the states of a journal settle.
use Rattle.std.proofs.Common.{◌≡◌, ℕ, ◌+◌, ◌≤◌, Bool, true, false, cond, List, [], ◌∷◌, Option, Some, None, length, refl, sym, ap, ◌∙◌, length-append}
use Rattle.std.specs.Prelude.{⊤, ◌==◌, ◌||◌, is_some, nat_lt}
use Rattle.std.specs.List.{list_any}
use Rattle.fam_base.specs.declared.entry.Params.{Params}
use Rattle.fam_journal.specs.Ends.{is_made_note}
use Rattle.fam_journal.specs.Notes.{Answer, Replied, MediaFault, Note, Made, Cut, Found, Writes, Answered}
use Rattle.fam_journal.specs.Past as past
use Rattle.fam_journal.specs.Past.{Bad, Past, Sound, State, past_after, past_behind, past_of, state_after, with_pending}
use Rattle.fam_format.specs.declared.faults.SuperFault.TheVariants as super
use Rattle.fam_machine.specs.Mkfs.{first_sent}
use Rattle.fam_rules.specs.Asks.{File}
use Rattle.fam_rules.specs.declared.answers.LogState.{LogState}
use Rattle.fam_rules.specs.declared.answers.LogState.TheVariants as log
use Rattle.fam_rules.specs.Reply as reply
use Rattle.fam_rules.specs.Reply.{Reply}
use Rattle.fam_script.specs.declared.counts.Settled.{Settled}
use Rattle.fam_script.specs.Settled.{length_acknowledged, answered, continued, length_cut, empty, length_found, length_joined, length_replied, reports, length_after, settled_behind, length_shown}

-- what a sound state tells
abbrev told : List File → Option File → Settled
told history pending = record { length = length history; pending = is_some pending }

-- what a state tells
abbrev pub summary : State → Option Settled
summary (Bad origin damage gate) = None
summary (Sound p history pending) = Some (told history pending)

-- what becomes of it
abbrev later : (Settled → Settled) → Option Settled → Option Settled
later f None = None
later f (Some s) = Some (f s)

-- a choice of states is one of what they tell
either : (t : Bool) (a b : State) (x y : Settled) → summary a ≡ Some x → summary b ≡ Some y → summary (cond t a b) ≡ Some (cond t x y)
either true a b x y first second = first
either false a b x y first second = second

-- the pending entry joins
joins : (p : Params) (history : List File) (pending : Option File) → summary (Sound p (with_pending history pending) None) ≡ Some (length_joined (told history pending))
joins p history None = refl
joins p history (Some f) = ap (λ (n : ℕ). Some (record { length = n; pending = false })) (length-append history (f ∷ []))

shows_told : (m : ℕ) (state : State) → summary (past.shows m state) ≡ later (length_shown m) (summary state)
shows_told m (Bad origin damage gate) = refl
shows_told m (Sound p history pending) =
    either (m == length history + 1) (Sound p (with_pending history pending) None) (Sound p history pending) (length_joined (told history pending))
    (told history pending) (joins p history pending) refl

finds_told : (n : ℕ) (state : State) → summary (past.finds n state) ≡ later (length_found n) (summary state)
finds_told n (Bad origin damage gate) = refl
finds_told n (Sound p history pending) =
    either (n == length history) (Sound p history None) (past.shows n (Sound p history pending)) (record { length = length history; pending = false })
    (length_shown n (told history pending)) refl (shows_told n (Sound p history pending))

acknowledges_told : (seq : ℕ) (state : State) → summary (past.acknowledges seq state) ≡ later (length_acknowledged seq) (summary state)
acknowledges_told seq (Bad origin damage gate) = refl
acknowledges_told seq (Sound p history pending) =
    either (seq == length history) (Sound p (with_pending history pending) None) (Sound p history pending) (length_joined (told history pending)) (told history pending) (joins p history pending) refl

-- nothing becomes of it
same : (state : State) → summary state ≡ later (λ s. s) (summary state)
same (Bad origin damage gate) = refl
same (Sound p history pending) = refl

reports_told : (l : LogState) (state : State) → summary (past.shows_count (past.reported_count l) state) ≡ later (reports l) (summary state)
reports_told (log.Sound entries slots) state = shows_told entries state
reports_told (log.BadLog field found wanted) state = same state
reports_told log.Unread state = same state

replied_told : (r : Reply) (state : State) → summary (past.replied r state) ≡ later (length_replied r) (summary state)
replied_told (reply.Appended seq) state = acknowledges_told seq state
replied_told (reply.Played m tree) state = shows_told m state
replied_told (reply.Mounted m) state = shows_told m state
replied_told (reply.Same m) state = shows_told m state
replied_told (reply.Differs m offset found wanted) state = shows_told m state
replied_told (reply.Length m size wanted) state = shows_told m state
replied_told (reply.Bytes m bytes) state = shows_told m state
replied_told (reply.NotFound m) state = shows_told m state
replied_told (reply.IsDirectory m) state = shows_told m state
replied_told (reply.Checks m checked) state = shows_told m state
replied_told (reply.Reports report) state = reports_told report.log state
replied_told other state = same state

ended_told : (answer : Answer) (state : State) → summary (past.ended_state answer state) ≡ later (answered answer) (summary state)
ended_told (Replied given) state = replied_told given state
ended_told (MediaFault line) state = same state

pends_told : (f : File) (state : State) → summary (past.pends f state) ≡ later (λ s. record { length = s.length; pending = true }) (summary state)
pends_told f (Bad origin damage gate) = refl
pends_told f (Sound p history pending) = refl

-- behind a note
abbrev later_by : (Settled → Option Settled) → Option Settled → Option Settled
later_by f None = None
later_by f (Some s) = f s

-- the maker of a file system halted
cut_told : (k : ℕ) (state : State) → summary (past.halted k state) ≡ later_by (length_cut k) (summary state)
cut_told k state = go (nat_lt k first_sent) state
  where
    go : (early : Bool) (state : State) → summary (cond early state (Bad past.Halted (past.NoSuperblock (super.NoSuper 0)) 0)) ≡ later_by (λ s. cond early (Some s) None) (summary state)
    go true (Bad origin damage gate) = refl
    go true (Sound p history pending) = refl
    go false (Bad origin damage gate) = refl
    go false (Sound p history pending) = refl

-- behind a note that makes no file system
unmade : (note : Note) → is_made_note note ≡ false → (o : Option Settled) → later_by (continued note) o ≡ length_after note o
unmade note none (Some s) = refl
unmade (Made h p) none None = cc
unmade note none None = refl

-- what goes on with what was told
as_later : (f : Settled → Settled) (o : Option Settled) → later f o ≡ later_by (λ s. Some (f s)) o
as_later f None = refl
as_later f (Some s) = refl

-- nor does one that makes one keep anything
made : (o : Option Settled) (h : ℕ) (p : Params) → length_after (Made h p) o ≡ Some empty
made None h p = refl
made (Some s) h p = refl

-- behind one note
after_told : (old : Past) (note : Note) → summary (state_after old note) ≡ length_after note (summary old.state)
after_told old (Made h p) = sym (made (summary old.state) h p)
after_told old (Cut h k) = cut_told k old.state ∙ unmade (Cut h k) refl (summary old.state)
after_told old (Found h n) = finds_told n old.state ∙ as_later (length_found n) (summary old.state) ∙ unmade (Found h n) refl (summary old.state)
after_told old (Writes h seq e) = pends_told _ old.state ∙ as_later (λ s. record { length = s.length; pending = true }) (summary old.state) ∙ unmade (Writes h seq e) refl (summary old.state)
after_told old (Answered h answer) = ended_told answer old.state ∙ as_later (answered answer) (summary old.state) ∙ unmade (Answered h answer) refl (summary old.state)
after_told old other = same old.state ∙ as_later (λ s. s) (summary old.state) ∙ unmade other refl (summary old.state)

-- behind some notes
behind_told : (old : Past) (notes : List Note) → summary (past_behind old notes).state ≡ settled_behind (summary old.state) notes
behind_told old [] = refl
behind_told old (note ∷ notes) =
    behind_told (past_after old note) notes ∙ ap (λ (o : Option Settled). settled_behind o notes) (after_told old note)

-- behind all notes
whole_told : (journal : List Note) → summary (past_of [] journal).state ≡ settled_behind None journal
whole_told journal = behind_told (past.first_past []) journal

-- nothing is settled before a file system is made
begun_none : (note : Note) → is_made_note note ≡ false → length_after note None ≡ None
begun_none note none = sym (unmade note none None)

split_or : (a b : Bool) → (a || b) ≡ false → (a ≡ false) × (b ≡ false)
split_or true b h = cc
split_or false b h = (refl, h)

none_made : (notes : List Note) → list_any is_made_note notes ≡ false → settled_behind None notes ≡ None
none_made [] none = refl
none_made (note ∷ notes) none =
    let parts = split_or (is_made_note note) (list_any is_made_note notes) none in
    ap (λ (o : Option Settled). settled_behind o notes) (begun_none note parts.0) ∙ none_made notes parts.1

-- how many entries that are
abbrev pub length_of : Option Settled → ℕ
length_of None = 0
length_of (Some s) = s.length

state_length : (state : State) → past.settled_length state ≡ length_of (summary state)
state_length (Bad origin damage gate) = refl
state_length (Sound p history pending) = refl

chosen : (t : Bool) (n : ℕ) (o : Option Settled) → (t ≡ false → o ≡ None) → n ≡ length_of o → length_of o ≡ cond t n 0
chosen true n o none is = sym is
chosen false n o none is = ap length_of (none refl)

-- the counts tell the same
pub settled_is : (journal : List Note) → length_of (settled_behind None journal) ≡ cond (list_any is_made_note journal) (past.settled_length (past_of [] journal).state) 0
settled_is journal =
    chosen (list_any is_made_note journal) (past.settled_length (past_of [] journal).state) (settled_behind None journal) (none_made journal)
    (state_length (past_of [] journal).state ∙ ap length_of (whole_told journal))

-- Room: each note settles at most one entry more.

-- with the pending entry at most so many are settled
abbrev pub IsWithin : ℕ → Option Settled → Type 0
IsWithin n None = ⊤
IsWithin n (Some s) = s.length + (cond s.pending 1 0) ≤ n
