-- Three wrong definitions, each the right one but for one mistake.
use Rattle.std.specs.Prelude.{ℕ, ⊤, ◌≡◌, ◌+◌, ◌==◌, if◌then◌else◌, List, [], ◌∷◌, length, slice_get, Some, None}
use Rattle.fam_rules.specs.Reply as reply
use Rattle.fam_rules.specs.Reply.{Reply}
use Rattle.fam_journal.specs.Legal.{Allowed, OfHost, ReplyAllowed}
use Rattle.fam_journal.specs.Members.{changed_at}
use Rattle.fam_journal.specs.Notes.{Answer, Replied, MediaFault, Note, Host, Made, Cut, Start, Mark, Found, Writes, Answered, Stop, Halt, Umount, Refused}
use Rattle.fam_journal.specs.Past.{HostPast, Past, State, Bad, Sound, acknowledges, past_after, settled_length, state_after}

-- A floor that is taken with the gate's count, and not at the mark.

-- the hosts after a note: what is settled is kept at Found
abbrev pub late_hosts : Past → Note → List HostPast
late_hosts past (Host name uuid) = (past_after past (Host name uuid)).hosts
late_hosts past (Made h p) = past.hosts
late_hosts past (Cut h k) = past.hosts
late_hosts past (Start h cmd) = (past_after past (Start h cmd)).hosts
late_hosts past (Mark h) = past.hosts
late_hosts past (Found h n) = changed_at h (λ x. record x { floor = Some (settled_length past.state) }) past.hosts
late_hosts past (Writes h seq e) = (past_after past (Writes h seq e)).hosts
late_hosts past (Answered h answer) = past.hosts
late_hosts past (Stop h) = past.hosts
late_hosts past (Halt h) = past.hosts
late_hosts past (Umount h) = past.hosts
late_hosts past (Refused name cause) = past.hosts

-- a past in which a floor is taken with the gate's count in place of the mark
abbrev pub late_floor_after : Past → Note → Past
late_floor_after past note = record { start = past.start; state = state_after past note; hosts = late_hosts past note }

-- A master that finds one entry more than is settled drops what is pending.

-- a found count that drops the pending entry also where it is one of them
abbrev pub drops_any : ℕ → State → State
drops_any n (Bad image damage gate) = Bad image damage gate
drops_any n (Sound p history pending) =
    if n == length history + 1 then Sound p history None else if n == length history then Sound p history None else Sound p history pending

-- the state behind a note, with such a count
abbrev pub dropping_state : Past → Note → State
dropping_state past (Host name uuid) = past.state
dropping_state past (Made h p) = state_after past (Made h p)
dropping_state past (Cut h k) = state_after past (Cut h k)
dropping_state past (Start h cmd) = past.state
dropping_state past (Mark h) = past.state
dropping_state past (Found h n) = drops_any n past.state
dropping_state past (Writes h seq e) = state_after past (Writes h seq e)
dropping_state past (Answered h answer) = state_after past (Answered h answer)
dropping_state past (Stop h) = past.state
dropping_state past (Halt h) = past.state
dropping_state past (Umount h) = past.state
dropping_state past (Refused name cause) = past.state

-- the past behind a note, with such a count
abbrev pub dropping_after : Past → Note → Past
dropping_after past note = record { start = past.start; state = dropping_state past note; hosts = (past_after past note).hosts }

-- An Ok that asks only that so many entries are settled, whoever named the last one.

-- the count is one of the entries that the state allows
abbrev pub CountsEntries : ℕ → State → Type 0
CountsEntries seq (Sound p history pending) = length history ≡ seq + 1
CountsEntries seq (Bad image damage gate) = ⊥

-- the replies that are allowed, with an Ok of any entry among them
abbrev pub AnyReplyAllowed : Reply → HostPast → State → Type 0
AnyReplyAllowed (reply.Appended seq) host state = CountsEntries seq (acknowledges seq state)
AnyReplyAllowed (reply.NotAppended why) host state = ReplyAllowed (reply.NotAppended why) host state
AnyReplyAllowed (reply.Played m tree) host state = ReplyAllowed (reply.Played m tree) host state
AnyReplyAllowed (reply.Mounted m) host state = ReplyAllowed (reply.Mounted m) host state
AnyReplyAllowed (reply.Same m) host state = ReplyAllowed (reply.Same m) host state
AnyReplyAllowed (reply.Differs m offset found wanted) host state = ReplyAllowed (reply.Differs m offset found wanted) host state
AnyReplyAllowed (reply.Length m size wanted) host state = ReplyAllowed (reply.Length m size wanted) host state
AnyReplyAllowed (reply.Bytes m bytes) host state = ReplyAllowed (reply.Bytes m bytes) host state
AnyReplyAllowed (reply.NotFound m) host state = ReplyAllowed (reply.NotFound m) host state
AnyReplyAllowed (reply.IsDirectory m) host state = ReplyAllowed (reply.IsDirectory m) host state
AnyReplyAllowed (reply.Checks m checked) host state = ReplyAllowed (reply.Checks m checked) host state
AnyReplyAllowed (reply.Reports report) host state = ReplyAllowed (reply.Reports report) host state
AnyReplyAllowed (reply.NoSuperblock fault) host state = ReplyAllowed (reply.NoSuperblock fault) host state
AnyReplyAllowed (reply.BadHeader fault) host state = ReplyAllowed (reply.BadHeader fault) host state
AnyReplyAllowed (reply.BadSlot i reason) host state = ReplyAllowed (reply.BadSlot i reason) host state

-- so are answers
abbrev pub AnyAnswerAllowed : Answer → HostPast → State → Type 0
AnyAnswerAllowed (Replied given) host state = AnyReplyAllowed given host state
AnyAnswerAllowed (MediaFault line) host state = ⊤

-- so are notes
abbrev pub AnyOkAllowed : Past → Note → Type 0
AnyOkAllowed past (Host name uuid) = ⊤
AnyOkAllowed past (Made h p) = ⊤
AnyOkAllowed past (Cut h k) = ⊤
AnyOkAllowed past (Start h cmd) = ⊤
AnyOkAllowed past (Mark h) = ⊤
AnyOkAllowed past (Found h n) = Allowed past (Found h n)
AnyOkAllowed past (Writes h seq e) = Allowed past (Writes h seq e)
AnyOkAllowed past (Answered h answer) = OfHost (slice_get past.hosts h) (λ host. AnyAnswerAllowed answer host past.state)
AnyOkAllowed past (Stop h) = ⊤
AnyOkAllowed past (Halt h) = ⊤
AnyOkAllowed past (Umount h) = ⊤
AnyOkAllowed past (Refused name why) = ⊤

-- Journals by such definitions: what a note leaves, and which notes are allowed.

-- what notes tell where each of them changes the past so
abbrev pub past_by : (Past → Note → Past) → Past → List Note → Past
past_by after past [] = past
past_by after past (note ∷ notes) = past_by after (after past note) notes

-- a journal is legal where this is allowed and the past changes so
abbrev pub LegalBy : (Past → Note → Type 0) → (Past → Note → Past) → Past → List Note → Type 0
LegalBy allowed after past [] = ⊤
LegalBy allowed after past (note ∷ notes) = allowed past note × LegalBy allowed after (after past note) notes
