-- A command that nothing interrupts: what its notes settle, what it leaves of the image, and its answer.
use Rattle.std.proofs.Common.{◌≡◌, ℕ, ◌*◌, ◌≤◌, inl, inr, List, [], ◌∷◌, ◌++◌, length, map, Option, Some, None, refl, ap, sym, ◌∙◌, subst, arith}
use Rattle.std.specs.Prelude.{slice_get, Ok}
use Rattle.std.proofs.lemmas.List.{length-append, length-map}
use Rattle.fam_base.specs.declared.cmd.Cmd.{Cmd}
use Rattle.fam_base.specs.declared.entry.Entry.{Entry}
use Rattle.fam_base.specs.declared.entry.Params.{Params}
use Rattle.fam_base.specs.Image.{Image, eight, line_at}
use Rattle.fam_format.specs.declared.faults.SuperFault.TheVariants as super
use Rattle.fam_format.specs.Layout.{device_limit, least_lines}
use Rattle.fam_format.specs.Reading as read
use Rattle.fam_format.specs.Reading.{Reading, reading}
use Rattle.fam_machine.specs.Caches.{IsClean}
use Rattle.fam_machine.specs.Operations.{Machine, operated}
use Rattle.fam_commands.specs.Kept.{IsKept}
use Rattle.fam_commands.specs.Task.{op_of}
use Rattle.fam_rules.specs.Solo.{solo_image, solo_reply, content_of, held_file}
use Rattle.fam_rules.specs.Asks.{File, entries_of}
use Rattle.fam_rules.specs.Content.{fill}
use Rattle.fam_rules.specs.Decide.{decide}
use Rattle.fam_rules.specs.Place.{line_bytes}
use Rattle.fam_rules.specs.Reply.{Reply, Appended, NoSuperblock, BadHeader, BadSlot}
use Rattle.fam_protocol.specs.Invariant.{KeepsFront, settled_at_first}
use Rattle.fam_protocol.specs.Tasks.{IsCommand}
use Rattle.fam_solo.proofs.SoloLaws.{solo}
use Rattle.fam_protocol.proofs.Hosts.Begins.{held_back}
use Rattle.fam_journal.specs.declared.event.Event.{Event}
use Rattle.fam_journal.specs.Legal.{AnswerAllowed, AppendedAllowed, OfHost, ReplyAllowed}
use Rattle.fam_journal.specs.Machines.{HostState, Machines}
use Rattle.fam_journal.specs.Notes.{Answered, Note, Replied}
use Rattle.fam_journal.specs.Past.{HostPast, Past, State, Bad, Given, Halted, Sound, acknowledges, first_past, past_behind, past_of, replied, settled_length, state_read}
use Rattle.fam_journal.proofs.Settled.BadStates.{first_read}
use Rattle.fam_journal.proofs.Settled.Journals.{past_both}
use Rattle.fam_journal.proofs.Settled.Settles.{acknowledged}
use Rattle.fam_whole.specs.Whole.{AreWholeNotes, IsByRules, IsStateOf, HasNothingPending, IsWholeReply, acknowledged_image, image_behind, replied_image}
use Rattle.fam_whole.proofs.Folds.{image_both, replied_sure, whole_both}
use Rattle.fam_whole.proofs.Replies.{Appends, appends, appends_or, whole_reply}
use Rattle.fam_whole.proofs.Running.{Ended, On, OnLate}

acknowledged_same : (image : Image) (state : State) (seq : ℕ) → HasNothingPending state → acknowledged_image image state seq ≡ image
acknowledged_same image (Bad own damage gate) seq sure = refl
acknowledged_same image (Sound p history None) seq sure = refl
acknowledged_same image (Sound p history (Some f)) seq sure = absurd cc

replied_same : (image : Image) (state : State) (given : Reply) → HasNothingPending state → replied_image image state given ≡ image
replied_same image state (Appended seq) sure = acknowledged_same image state seq sure
replied_same image state e sure = refl

-- what a state without anything pending says of the image that it is of
sound_read : (image : Image) (p : Params) (history : List File) (r : Reading) → Sound p history None ≡ state_read image r
    → (entries : List Entry) × (r ≡ read.Sound p entries) × (history ≡ map (held_file (line_at image)) entries)
sound_read image p history (read.NoSuperblock fault) is = absurd cc
sound_read image p history (read.BadHeader fault) is = absurd cc
sound_read image p history (read.BadSlot i reason) is = absurd cc
sound_read image p history (read.Sound q entries) is = (entries, sym (ap (λ (z : Params). read.Sound z entries) same_params), same_history)
  where
    same_params : p ≡ q
    same_params = cc

    same_history : history ≡ map (held_file (line_at image)) entries
    same_history = cc

-- what the command comes to
pub record Finished (ev : Event) (base : Machines) (x : Past) (notes : List Note) (new : Machines) (left : Machine) : Type 0 where
  pub image : new.memory ≡ image_behind ev x base.memory notes
  pub whole : AreWholeNotes ev x base.memory notes
  pub sure : HasNothingPending (past_behind x notes).state
  pub clean : IsClean left.cache

module _ (ev : Event) (start : Image) (h : ℕ) (base : Machines) (host : HostState) (host_is : slice_get base.hosts h ≡ Some host)
    (joined : IsKept host.kept) (cmd : Cmd) (journal : List Note) (sure : HasNothingPending (past_of start journal).state)
    (settled : IsStateOf (past_of start journal).state base.memory) (enough : least_lines ≤ length base.memory)
    (limit : line_bytes * length base.memory ≤ device_limit) (normal : map eight base.memory ≡ base.memory) (clean : IsClean host.cache)
    (command : IsCommand cmd) (front : KeepsFront (settled_at_first base.memory) host.kept)
    (new : Machines) (notes : List Note) (end : Ended ev start h base host host_is joined cmd journal sure new notes) where
  abbrev image : Image
  image = base.memory

  abbrev me : List ℕ
  me = host.uuid

  abbrev x : Past
  x = past_of start journal

  abbrev y : Past
  y = past_of start (journal ++ end.before)

  abbrev left : Machine
  left = operated (op_of end.t) end.m

  -- so many entries are settled as the image reads
  settled_same : settled_length x.state ≡ settled_length (state_read image (reading image))
  settled_same = by_state x.state settled
    where
      by_state : (z : State) → IsStateOf z image → settled_length z ≡ settled_length (state_read image (reading image))
      by_state (Bad (Given own) damage gate) is = ap settled_length (is ∙ first_read image enough)
      by_state (Bad Halted damage gate) is = sym (ap (λ (r : Reading). settled_length (state_read image r)) is.1)
      by_state (Sound p history pending) is = ap settled_length (is ∙ first_read image enough)

  -- a sound state is what the image reads as
  sound_was : (p : Params) (history : List File) → x.state ≡ Sound p history None → Sound p history None ≡ state_read image (reading image)
  sound_was p history was = subst (λ (z : State). IsStateOf z image) was settled ∙ first_read image enough

  -- and so is the state of an image that reads as sound
  sound_now : (p : Params) (entries : List Entry) → reading image ≡ read.Sound p entries → x.state ≡ state_read image (read.Sound p entries)
  sound_now p entries sound = by_state x.state settled
    where
      by_state : (z : State) → IsStateOf z image → z ≡ state_read image (read.Sound p entries)
      by_state (Bad (Given own) damage gate) is = is ∙ first_read image enough ∙ ap (state_read image) sound
      by_state (Bad Halted damage gate) is = absurd (let other : read.NoSuperblock (super.NoSuper 0) ≡ read.Sound p entries = sym is.1 ∙ sound in cc)
      by_state (Sound q history pending) is = is ∙ first_read image enough ∙ ap (state_read image) sound

  pub reply_is : end.reply ≡ solo_reply image me cmd
  reply_is = (solo host.kept joined image me cmd host.cache end.t end.words end.made end.m end.reply enough limit normal clean command front end.ran end.inside end.ends).0.answer

  pub left_is : new.memory ≡ solo_image image me cmd
  left_is = ap (λ (m : Machines). m.memory) end.state_is
      ∙ (solo host.kept joined image me cmd host.cache end.t end.words end.made end.m end.reply enough limit normal clean command front end.ran
      end.inside end.ends).0.left_is

  pub left_clean : IsClean left.cache
  left_clean = (solo host.kept joined image me cmd host.cache end.t end.words end.made end.m end.reply enough limit normal clean command front end.ran end.inside end.ends).1

  -- an entry is written, and acknowledged
  record Says : Type 0 where
    image_same : new.memory ≡ replied_image image y.state end.reply
    reply_whole : IsWholeReply end.reply y.state image
    sure_then : HasNothingPending (replied end.reply y.state)

  says_late : OnLate ev start h base host host_is joined cmd journal sure end.t y → Says
  says_late late =
      let said = sound_read image late.p late.history (reading image) (sound_was late.p late.history late.was) in
      let decides : decide late.p me said.0 cmd ≡ Some (Ok late.e) =
      ap (λ (es : List Entry). decide late.p me es cmd) (sym (ap entries_of said.2 ∙ held_back (line_at image) said.0)) ∙ late.decided in
      let a = appends image me cmd late.p said.0 late.e said.1 decides in
      by_appends said.0 said.2 (solo_reply image me cmd) refl a late said.1 decides
    where
      by_appends : (entries : List Entry) → late.history ≡ map (held_file (line_at image)) entries → (given : Reply) → solo_reply image me cmd ≡ given
          → Appends image me cmd → OnLate ev start h base host host_is joined cmd journal sure end.t y → reading image ≡ read.Sound late.p entries
          → decide late.p me entries cmd ≡ Some (Ok late.e) → Says
      by_appends entries history_is given given_is a late' sound decides =
          let sounds : read.Sound a.p a.entries ≡ read.Sound late.p entries = sym a.sound ∙ sound in
          let params : a.p ≡ late.p = cc in
          let lists : a.entries ≡ entries = cc in
          let count : length a.entries ≡ length late.history = ap length lists ∙ sym (ap length history_is ∙ length-map entries (held_file (line_at image))) in
          let oks : Some (Ok a.e) ≡ Some (Ok late.e) = sym a.decided ∙ ap (λ (p : Params). decide p me a.entries cmd) params ∙ ap (λ (es : List Entry). decide late.p me es cmd) lists ∙ decides in
          let entry : a.e ≡ late.e = cc in
          let reply : end.reply ≡ Appended (length a.entries) = reply_is ∙ a.answer in
          record {
            image_same =
                left_is ∙ a.left
                ∙ ap (λ (p : Params). Rattle.fam_rules.specs.Written.written image p (length a.entries) a.e (fill (content_of cmd) a.e.size)) params
                ∙ ap (λ (e : Entry). Rattle.fam_rules.specs.Written.written image late.p (length a.entries) e (fill (content_of cmd) e.size)) entry
                ∙ sym (ap (λ (r : Reply). replied_image image y.state r) reply ∙ ap (λ (z : State). acknowledged_image image z (length a.entries)) late.is);
            reply_whole = subst (λ (r : Reply). IsWholeReply r y.state image) (sym reply) (λ m e. absurd cc);
            sure_then = subst HasNothingPending (sym (ap (λ (r : Reply). replied r y.state) reply ∙ ap (acknowledges (length a.entries)) late.is
                ∙ acknowledged late.p late.history (length a.entries) (Some (record { entry = late.e; bytes = fill (content_of cmd) late.e.size }))
                (omega (arith, count, length-append late.history (record { entry = late.e; bytes = fill (content_of cmd) late.e.size } ∷ [])))))
                refl;
          }

  -- nothing is written
  says_early : y.state ≡ x.state → Says
  says_early same = elim (appends_or image me cmd) [
    | inl stays ↦ record {
      image_same = left_is ∙ stays ∙ sym (ap (λ (z : State). replied_image image z end.reply) same ∙ replied_same image x.state end.reply sure);
      reply_whole = subst (λ (z : State). IsWholeReply end.reply z image) (sym same)
          (subst (λ (r : Reply). IsWholeReply r x.state image) (sym reply_is) (whole_reply image x.state me cmd settled_same));
      sure_then = subst HasNothingPending (sym (ap (replied end.reply) same ∙ replied_sure end.reply x.state sure)) sure;
    }
    | inr a ↦ absurd (not_written a same)
  ]
    where
      not_written : Appends image me cmd → y.state ≡ x.state → ⊥
      not_written a same =
          let reply : end.reply ≡ Appended (length a.entries) = reply_is ∙ a.answer in
          let state : y.state ≡ Sound a.p (map (held_file (line_at image)) a.entries) None = same ∙ sound_now a.p a.entries a.sound in
          let told : ReplyAllowed end.reply end.told y.state = subst (λ (o : Option HostPast). OfHost o (λ host. AnswerAllowed (Replied end.reply) host y.state)) end.told_is end.legal in
          let allowed : AppendedAllowed (length a.entries) end.told (acknowledges (length a.entries) (Sound a.p (map (held_file (line_at image)) a.entries) None)) =
          subst (λ (z : State). ReplyAllowed (Appended (length a.entries)) end.told z) state (subst (λ (r : Reply). ReplyAllowed r end.told y.state) reply told) in
          let plain : AppendedAllowed (length a.entries) end.told (Sound a.p (map (held_file (line_at image)) a.entries) None) =
          subst (AppendedAllowed (length a.entries) end.told) (replied_sure (Appended (length a.entries)) (Sound a.p (map (held_file (line_at image)) a.entries) None) refl) allowed in
          absurd (omega (arith, plain.count, length-map a.entries (held_file (line_at image))))

  says : Says
  says = by_on end.on
    where
      by_on : On ev start h base host host_is joined cmd journal sure end.t y → Says
      by_on (inl same) = says_early same
      by_on (inr late) = says_late late

  past_before : y ≡ past_behind x end.before
  past_before = past_both (first_past start) journal end.before

  by_rules : OfHost (slice_get y.hosts h) (IsByRules image end.reply)
  by_rules =
      subst (λ (o : Option HostPast). OfHost o (IsByRules image end.reply)) (sym end.told_is)
      record { cmd = cmd; told = end.cmd_is; is = reply_is ∙ ap (λ (u : List ℕ). solo_reply image u cmd) (sym end.uuid_is) }

  abbrev answer : List Note
  answer = Answered h (Replied end.reply) ∷ []

  pub finished : Finished ev base x notes new left
  finished = subst (λ (z : List Note). Finished ev base x z new left) (sym end.notes_are) record {
    image = says.image_same
        ∙ sym (image_both ev x image end.before answer
        ∙ ap (λ (i : Image). image_behind ev (past_behind x end.before) i answer) end.same
        ∙ ap (λ (w : Past). image_behind ev w image answer) (sym past_before));
    whole = whole_both ev x image end.before answer end.whole
        (subst (λ (i : Image). AreWholeNotes ev (past_behind x end.before) i answer) (sym end.same)
        (subst (λ (w : Past). AreWholeNotes ev w image answer) past_before ((says.reply_whole, by_rules), tt)));
    sure = subst (λ (w : Past). HasNothingPending w.state) (sym (past_both x end.before answer)) (subst (λ (w : Past). HasNothingPending (past_behind w answer).state) past_before says.sure_then);
    clean = left_clean;
  }
