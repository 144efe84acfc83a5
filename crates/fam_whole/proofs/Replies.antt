-- What the rules answer on an image is of all its entries; and when they append.
use Rattle.std.proofs.Common.{◌≡◌, ℕ, ◌*◌, ◌⊎◌, inl, inr, Bool, true, false, List, length, map, Option, Some, None, refl, ap, sym, ◌∙◌, subst}
use Rattle.std.specs.Prelude.{◌==◌, if◌then◌else◌, option_map, unwrap_or, Result, Ok, Err}
use Rattle.std.proofs.lemmas.Option.{same_Some}
use Rattle.fam_base.specs.declared.cmd.Cmd.{Cmd}
use Rattle.fam_base.specs.declared.cmd.Cmd.TheVariants.{Logplay, Mount, Mkdir, Creat, Cp, Verify, Read, Check, Fsck}
use Rattle.fam_base.specs.declared.cmd.Content.{Content}
use Rattle.fam_base.specs.declared.cmd.Content.TheVariants as content
use Rattle.fam_base.specs.declared.entry.Entry.{Entry}
use Rattle.fam_base.specs.declared.entry.Kind.{Kind}
use Rattle.fam_base.specs.declared.entry.Kind.TheVariants as kind
use Rattle.fam_base.specs.declared.entry.Params.{Params}
use Rattle.fam_base.specs.Image.{Image, line_at}
use Rattle.fam_format.specs.Reading as read
use Rattle.fam_format.specs.Reading.{Reading, reading, super_in}
use Rattle.fam_rules.specs.declared.answers.Refused.{Refused}
use Rattle.fam_rules.specs.Solo.{solo_image, solo_reply, appended, content_of, decision_image, held_file, reading_image, reading_reply, reply_in, reply_unless, sound_reply, head_refusal}
use Rattle.fam_rules.specs.Asks.{File, ask, compared, compared_at, file_at, first_difference, of_file, of_kind, verified}
use Rattle.fam_rules.specs.Content.{fill}
use Rattle.fam_rules.specs.Decide.{Wish, decide, decide_wish, wish_of}
use Rattle.fam_rules.specs.Place.{line_bytes}
use Rattle.fam_rules.specs.Reply.{Reply, Appended, NotAppended, Played, Mounted, Same, Differs, Length, Bytes, NotFound, IsDirectory, Checks, Reports, NoSuperblock, BadHeader, BadSlot}
use Rattle.fam_rules.specs.Reports.{report_of}
use Rattle.fam_rules.specs.Written.{written}
use Rattle.fam_solo.proofs.Replies.{decided}
use Rattle.fam_protocol.proofs.Hosts.SoundReads.{sound_reads}
use Rattle.fam_journal.specs.Past.{State, settled_length, state_read}
use Rattle.fam_whole.specs.Whole.{IsWholeReply}

-- an answer of so many entries
abbrev IsOf : ℕ → Reply → Type 0
IsOf n (Appended seq) = ⊥
IsOf n (NotAppended why) = ⊥
IsOf n (Played m tree) = m ≡ n
IsOf n (Mounted m) = m ≡ n
IsOf n (Same m) = m ≡ n
IsOf n (Differs m offset found wanted) = m ≡ n
IsOf n (Length m size wanted) = m ≡ n
IsOf n (Bytes m bytes) = m ≡ n
IsOf n (NotFound m) = m ≡ n
IsOf n (IsDirectory m) = m ≡ n
IsOf n (Checks m checked) = m ≡ n
IsOf n (Reports report) = ⊥
IsOf n (NoSuperblock fault) = ⊥
IsOf n (BadHeader fault) = ⊥
IsOf n (BadSlot seq reason) = ⊥

of_compared : (n : ℕ) (bytes : List ℕ) (against : Content) (o : Option ℕ) → IsOf n (compared_at n bytes against o)
of_compared n bytes against None = refl
of_compared n bytes against (Some o) = refl

of_either : (n : ℕ) (t : Bool) (a b : Reply) → IsOf n a → IsOf n b → IsOf n (if t then a else b)
of_either n true a b x y = x
of_either n false a b x y = y

of_verified : (n : ℕ) (bytes : List ℕ) (against : Content) → IsOf n (verified n bytes against)
of_verified n bytes (content.Bytes given) =
    of_either n (length given == length bytes) (compared n bytes (content.Bytes given)) (Length n (length bytes) (length given))
    (of_compared n bytes (content.Bytes given) (first_difference bytes (content.Bytes given))) refl
of_verified n bytes (content.Seed seed) = of_compared n bytes (content.Seed seed) (first_difference bytes (content.Seed seed))
of_verified n bytes content.Zero = of_compared n bytes content.Zero (first_difference bytes content.Zero)

of_found : (n : ℕ) (o : Option File) (question : List ℕ → Reply) → ((bytes : List ℕ) → IsOf n (question bytes)) → IsOf n (of_file n o question)
of_found n None question each = refl
of_found n (Some f) question each = by_kind f.entry.kind
  where
    by_kind : (k : Kind) → IsOf n (of_kind n k (question f.bytes))
    by_kind kind.Directory = refl
    by_kind kind.File = each f.bytes

of_ask : (files : List File) (cmd : Cmd) (given : Reply) → ask files cmd ≡ Some given → IsOf (length files) given
of_ask files Logplay given is = subst (IsOf (length files)) (same_Some _ given is) refl
of_ask files Mount given is = subst (IsOf (length files)) (same_Some _ given is) refl
of_ask files (Check listing) given is = subst (IsOf (length files)) (same_Some _ given is) refl
of_ask files (Verify path against) given is = subst (IsOf (length files)) (same_Some _ given is) (of_found (length files) (file_at files path) _ (λ bytes. of_verified (length files) bytes against))
of_ask files (Read path offset count) given is = subst (IsOf (length files)) (same_Some _ given is) (of_found (length files) (file_at files path) _ (λ bytes. refl))
of_ask files e given is = absurd cc

module _ (image : Image) (state : State) where
  whole_of : (given : Reply) → IsOf (settled_length state) given → IsWholeReply given state image
  whole_of (Played n tree) is = λ m e. sym (same_Some n m e) ∙ is
  whole_of (Mounted n) is = λ m e. sym (same_Some n m e) ∙ is
  whole_of (Same n) is = λ m e. sym (same_Some n m e) ∙ is
  whole_of (Differs n offset found wanted) is = λ m e. sym (same_Some n m e) ∙ is
  whole_of (Length n size wanted) is = λ m e. sym (same_Some n m e) ∙ is
  whole_of (Bytes n bytes) is = λ m e. sym (same_Some n m e) ∙ is
  whole_of (NotFound n) is = λ m e. sym (same_Some n m e) ∙ is
  whole_of (IsDirectory n) is = λ m e. sym (same_Some n m e) ∙ is
  whole_of (Checks n checked) is = λ m e. sym (same_Some n m e) ∙ is
  whole_of e is = absurd is

  pub whole_appended : (n : ℕ) (d : Result Entry Refused) → IsWholeReply (appended n d) state image
  whole_appended n (Ok e) = λ m e. absurd cc
  whole_appended n (Err refused) = λ m e. absurd cc

  whole_unless : (o : Option Refused) (other : Reply) → IsWholeReply other state image → IsWholeReply (reply_unless o other) state image
  whole_unless None other w = w
  whole_unless (Some refused) other w = λ m e. absurd cc

  abbrev memory : read.Lines
  memory = line_at image

  abbrev have : ℕ
  have = line_bytes * length image

  whole_asked : (entries : List Entry) (cmd : Cmd) (o : Option Reply) → ask (map (held_file memory) entries) cmd ≡ o
      → settled_length state ≡ length (map (held_file memory) entries) → IsWholeReply (unwrap_or o (Reports (report_of memory have))) state image
  whole_asked entries cmd None is count = refl
  whole_asked entries cmd (Some given) is count = whole_of given (subst (λ (n : ℕ). IsOf n given) (sym count) (of_ask (map (held_file memory) entries) cmd given is))

  whole_sound : (entries : List Entry) (cmd : Cmd) (o : Option (Result Entry Refused))
      → settled_length state ≡ length (map (held_file memory) entries) → IsWholeReply (sound_reply memory have entries cmd o) state image
  whole_sound entries cmd (Some d) count = whole_appended (length entries) d
  whole_sound entries cmd None count = whole_asked entries cmd (ask (map (held_file memory) entries) cmd) refl count

  whole_read : (me : List ℕ) (cmd : Cmd) (r : Reading) → settled_length state ≡ settled_length (state_read image r) → IsWholeReply (reading_reply memory have me cmd r) state image
  whole_read me cmd (read.NoSuperblock fault) is = λ m e. absurd cc
  whole_read me cmd (read.BadHeader fault) is = λ m e. absurd cc
  whole_read me cmd (read.BadSlot i reason) is = λ m e. absurd cc
  whole_read me cmd (read.Sound p entries) is = whole_sound entries cmd (decide p me entries cmd) is

  -- what the rules answer is of all that the image settles
  pub whole_reply : (me : List ℕ) (cmd : Cmd) → settled_length state ≡ settled_length (state_read image (reading image)) → IsWholeReply (solo_reply image me cmd) state image
  unfolding solo_reply
  whole_reply me cmd is = by_cmd cmd
    where
      by_cmd : (c : Cmd) → IsWholeReply (reply_in memory have me c) state image
      by_cmd Fsck = refl
      by_cmd Logplay = whole_unless (head_refusal (wish_of Logplay) (super_in memory have) me) _ (whole_read me Logplay (reading image) is)
      by_cmd Mount = whole_unless (head_refusal (wish_of Mount) (super_in memory have) me) _ (whole_read me Mount (reading image) is)
      by_cmd (Mkdir path attr) = whole_unless (head_refusal (wish_of (Mkdir path attr)) (super_in memory have) me) _ (whole_read me (Mkdir path attr) (reading image) is)
      by_cmd (Creat path size attr stripe fill) = whole_unless (head_refusal (wish_of (Creat path size attr stripe fill)) (super_in memory have) me) _
          (whole_read me (Creat path size attr stripe fill) (reading image) is)
      by_cmd (Cp path attr stripe bytes) = whole_unless (head_refusal (wish_of (Cp path attr stripe bytes)) (super_in memory have) me) _ (whole_read me (Cp path attr stripe bytes) (reading image) is)
      by_cmd (Verify path against) = whole_unless (head_refusal (wish_of (Verify path against)) (super_in memory have) me) _ (whole_read me (Verify path against) (reading image) is)
      by_cmd (Read path offset count) = whole_unless (head_refusal (wish_of (Read path offset count)) (super_in memory have) me) _ (whole_read me (Read path offset count) (reading image) is)
      by_cmd (Check entries) = whole_unless (head_refusal (wish_of (Check entries)) (super_in memory have) me) _ (whole_read me (Check entries) (reading image) is)

-- Whether an entry is appended.

pub record Appends (image : Image) (me : List ℕ) (cmd : Cmd) : Type 0 where
  pub p : Params
  pub entries : List Entry
  pub e : Entry
  pub sound : reading image ≡ read.Sound p entries
  pub decided : decide p me entries cmd ≡ Some (Ok e)
  pub answer : solo_reply image me cmd ≡ Appended (length entries)
  pub left : solo_image image me cmd ≡ written image p (length entries) e (fill (content_of cmd) e.size)

module _ (image : Image) (me : List ℕ) (cmd : Cmd) where
  left_read : (r : Reading) → reading image ≡ r → solo_image image me cmd ≡ reading_image image me cmd r
  unfolding solo_image
  left_read r is = ap (reading_image image me cmd) is

  pub appends : (p : Params) (entries : List Entry) (e : Entry) → reading image ≡ read.Sound p entries → decide p me entries cmd ≡ Some (Ok e) → Appends image me cmd
  appends p entries e sound decides = by_wish (wish_of cmd) refl
    where
      by_wish : (o : Option Wish) → wish_of cmd ≡ o → Appends image me cmd
      by_wish None is = absurd (let none : decide p me entries cmd ≡ None = ap (option_map (decide_wish p me entries)) is in cc)
      by_wish (Some w) is =
          let ok : decide_wish p me entries w ≡ Ok e = same_Some (decide_wish p me entries w) (Ok e) (sym (ap (option_map (decide_wish p me entries)) is) ∙ decides) in
          let answers = decided image me cmd p entries sound (sound_reads (line_at image) (line_bytes * length image) p entries sound).super w is (Ok e) ok in
          record { p = p; entries = entries; e = e; sound = sound; decided = decides; answer = sym answers.answer; left = sym answers.left_is }

  pub appends_or : (solo_image image me cmd ≡ image) ⊎ Appends image me cmd
  appends_or = by_reading (reading image) refl
    where
      by_reading : (r : Reading) → reading image ≡ r → (solo_image image me cmd ≡ image) ⊎ Appends image me cmd
      by_reading (read.NoSuperblock fault) is = inl (left_read (read.NoSuperblock fault) is)
      by_reading (read.BadHeader fault) is = inl (left_read (read.BadHeader fault) is)
      by_reading (read.BadSlot i reason) is = inl (left_read (read.BadSlot i reason) is)
      by_reading (read.Sound p entries) is = by_decision (decide p me entries cmd) refl
        where
          by_decision : (o : Option (Result Entry Refused)) → decide p me entries cmd ≡ o → (solo_image image me cmd ≡ image) ⊎ Appends image me cmd
          by_decision None none = inl (left_read (read.Sound p entries) is ∙ ap (decision_image image p entries cmd) none)
          by_decision (Some (Err refused)) err = inl (left_read (read.Sound p entries) is ∙ ap (decision_image image p entries cmd) err)
          by_decision (Some (Ok e)) ok = inr (appends p entries e is ok)
