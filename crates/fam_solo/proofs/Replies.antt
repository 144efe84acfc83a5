-- What the answers of a command that runs alone are, by the reading of its image.
use Rattle.std.proofs.Common.{ℕ, zero, suc, ◌≡◌, ◌≢◌, ◌+◌, ◌*◌, List, [], ◌∷◌, ◌++◌, length, map, Option, Some, None, Ok, Err, refl, sym, ◌∙◌, ap, subst}
use Rattle.std.specs.Prelude.{⊤, Result, option_map, unwrap_or}
use Rattle.fam_base.specs.declared.cmd.Cmd.{Cmd}
use Rattle.fam_base.specs.declared.cmd.Cmd.TheVariants.{Mkdir, Creat, Cp, Fsck}
use Rattle.fam_base.specs.declared.entry.Params.{Params}
use Rattle.fam_base.specs.declared.entry.Entry.{Entry}
use Rattle.fam_base.specs.Image.{Image, line_at}
use Rattle.fam_format.specs.declared.faults.SuperFault.{SuperFault}
use Rattle.fam_format.specs.declared.faults.LogFault.{LogFault}
use Rattle.fam_format.specs.declared.faults.Reason.{Reason}
use Rattle.fam_format.specs.Layout.{log_line}
use Rattle.fam_format.specs.Log.{gate_fault, log_fault}
use Rattle.fam_format.specs.Reading.{Lines, Reading, NoSuperblock, BadHeader, BadSlot, Sound, gate_in, joined_or, read_below, read_log, read_slots, read_super, reading_of, slot_in, slot_or, super_in}
use Rattle.fam_format.specs.Stop.{stop}
use Rattle.fam_format.specs.Tree.{join_fault}
use Rattle.fam_rules.specs.declared.answers.Refused.{Refused}
use Rattle.fam_rules.specs.declared.answers.Refused.TheVariants.{NotMaster, LongPath}
use Rattle.fam_rules.specs.Solo.{solo_image, solo_reply, appended, decision_image, held_file, reading_image, reading_reply, reply_in, reply_unless, sound_reply, head_refusal}
use Rattle.fam_rules.specs.Asks.{ask}
use Rattle.fam_rules.specs.Decide.{Wish, decide, decide_wish, early_refusal, wish_of}
use Rattle.fam_rules.specs.DecideLaws.{IsTooLong}
use Rattle.fam_rules.specs.Place.{line_bytes}
use Rattle.fam_rules.specs.Reply.{Reply, NotAppended, Reports}
use Rattle.fam_rules.specs.Reply as reply
use Rattle.fam_rules.specs.Reports.{report_of}
use Rattle.fam_rules.proofs.RefusalProofs.{refused_there}
use Rattle.fam_rules.proofs.RefusalTests.{early_limit, early_master}
use Rattle.fam_commands.specs.Appends.{HasWish}
use Rattle.fam_commands.specs.Turns.{host_refusal}
use Rattle.fam_protocol.specs.Bad.{fault_of}

-- A reading behind the superblock names no fault of it.

NamesSuper : Reading → Type 0
NamesSuper (NoSuperblock fault) = ⊥
NamesSuper (BadHeader fault) = ⊤
NamesSuper (BadSlot i reason) = ⊤
NamesSuper (Sound p entries) = ⊤

module _ (line : Lines) (p : Params) where
  slot_names : (list : List Entry) (i : ℕ) (r : Result Entry Reason) (rest : Entry → Reading) → ((e : Entry) → NamesSuper (rest e)) → NamesSuper (slot_or p list i r rest)
  unfolding NamesSuper
  slot_names list i (Err reason) rest more = tt
  slot_names list i (Ok e) rest more = joined (join_fault p list e)
    where
      joined : (o : Option Reason) → NamesSuper (joined_or i o (rest e))
      joined (Some reason) = tt
      joined None = more e

  slots_name : (n i : ℕ) (list : List Entry) → NamesSuper (read_slots line p i n list)
  unfolding NamesSuper
  slots_name zero i list = tt
  slots_name (suc n) i list = slot_names list i (slot_in line p i) (λ e. read_slots line p (i + 1) n (list ++ e ∷ [])) (λ e. slots_name n (i + 1) (list ++ e ∷ []))

  below_names : (o : Option LogFault) → NamesSuper (read_below line p o)
  unfolding NamesSuper
  below_names (Some fault) = tt
  below_names None = slots_name (gate_in line) 0 []

  log_names : (o : Option LogFault) → NamesSuper (read_log line p o)
  unfolding NamesSuper
  log_names (Some fault) = tt
  log_names None = below_names (gate_fault (gate_in line) p)

no_super : (line : Lines) (r : Result Params SuperFault) (fault : SuperFault) → read_super line r ≡ NoSuperblock fault → (other : SuperFault) × (r ≡ Err other)
unfolding NamesSuper
no_super line (Err other) fault is = (other, refl)
no_super line (Ok p) fault is = absurd (subst NamesSuper is (log_names line p (log_fault (line log_line) p)))

-- what stops a decision is the answer
first_stops : (o : Option Refused) (n : ℕ) (next : Result Entry Refused) → reply_unless o (appended n (stop o next)) ≡ appended n (stop o next)
first_stops None n next = refl
first_stops (Some refused) n next = refl

module _ (image : Image) (me : List ℕ) (cmd : Cmd) where
  -- the answer, and what is left, are those of the rules
  pub record Answers (given : Reply) (left : Image) : Type 0 where
    pub answer : given ≡ solo_reply image me cmd
    pub left_is : left ≡ solo_image image me cmd

  -- another command than a check of the whole file system
  reply_of : (cmd ≡ Fsck → ⊥) → (r : Reading) → reading_of (line_at image) (line_bytes * length image) ≡ r
      → solo_reply image me cmd ≡ reply_unless (head_refusal (wish_of cmd) (super_in (line_at image) (line_bytes * length image)) me)
      (reading_reply (line_at image) (line_bytes * length image) me cmd r)
  unfolding solo_reply
  reply_of other r is =
      by_cmd cmd other ∙ ap (λ (x : Reading). reply_unless (head_refusal (wish_of cmd) (super_in (line_at image) (line_bytes * length image)) me)
      (reading_reply (line_at image) (line_bytes * length image) me cmd x)) is
    where
      by_cmd : (c : Cmd) → (c ≡ Fsck → ⊥) → reply_in (line_at image) (line_bytes * length image) me c
          ≡ reply_unless (head_refusal (wish_of c) (super_in (line_at image) (line_bytes * length image)) me)
          (reading_reply (line_at image) (line_bytes * length image) me c (reading_of (line_at image) (line_bytes * length image)))
      by_cmd Fsck other = absurd (other refl)
      by_cmd c other = refl

  image_of : (r : Reading) → reading_of (line_at image) (line_bytes * length image) ≡ r → solo_image image me cmd ≡ reading_image image me cmd r
  unfolding solo_image
  image_of r is = ap (reading_image image me cmd) is

  -- Sound images.

  module _ (p : Params) (entries : List Entry) (sound : reading_of (line_at image) (line_bytes * length image) ≡ Sound p entries) where
    asks_none : (c : Cmd) (given : Reply) → ask (map (held_file (line_at image)) entries) c ≡ Some given → (wish_of c ≡ None) × (c ≡ Fsck → ⊥)
    asks_none (Mkdir path attr) given is = absurd (cc)
    asks_none (Creat path size attr stripe fill) given is = absurd (cc)
    asks_none (Cp path attr stripe bytes) given is = absurd (cc)
    asks_none Fsck given is = absurd (cc)
    asks_none c given is = (refl, λ e. absurd (cc))

    undecided : wish_of cmd ≡ None → decide p me entries cmd ≡ None
    undecided none = ap (option_map (decide_wish p me entries)) none

    -- the image stays where nothing is decided
    pub undecided_image : wish_of cmd ≡ None → image ≡ solo_image image me cmd
    undecided_image none = sym (image_of (Sound p entries) sound ∙ ap (decision_image image p entries cmd) (undecided none))

    -- an answer to a question
    pub asked : (given : Reply) → ask (map (held_file (line_at image)) entries) cmd ≡ Some given → Answers given image
    asked given is =
        let none = asks_none cmd given is in
        record {
          answer = sym (reply_of none.1 (Sound p entries) sound
              ∙ ap (λ (o : Option Wish). reply_unless (head_refusal o (super_in (line_at image) (line_bytes * length image)) me)
              (reading_reply (line_at image) (line_bytes * length image) me cmd (Sound p entries))) none.0
              ∙ ap (sound_reply (line_at image) (line_bytes * length image) entries cmd) (undecided none.0)
              ∙ ap (λ (o : Option Reply). unwrap_or o (Reports (report_of (line_at image) (line_bytes * length image)))) is);
          left_is = undecided_image none.0;
        }

    -- a check of the whole file system
    pub reports_sound : cmd ≡ Fsck → Answers (Reports (report_of (line_at image) (line_bytes * length image))) image
    unfolding solo_reply
    reports_sound is = record { answer = sym (ap (reply_in (line_at image) (line_bytes * length image) me) is); left_is = undecided_image (ap wish_of is) }

    -- a decision
    module _ (super : super_in (line_at image) (line_bytes * length image) ≡ Ok p) where
      early_first : (w : Wish) → reply_unless (early_refusal p me w.path) (appended (length entries) (decide_wish p me entries w)) ≡ appended (length entries) (decide_wish p me entries w)
      unfolding decide_wish
      early_first w = first_stops (early_refusal p me w.path) (length entries) _

      pub decided : (w : Wish) → wish_of cmd ≡ Some w → (d : Result Entry Refused) → decide_wish p me entries w ≡ d
          → Answers (appended (length entries) d) (decision_image image p entries cmd (Some d))
      decided w is d decision =
          let decides : decide p me entries cmd ≡ Some d = ap (option_map (decide_wish p me entries)) is ∙ ap Some decision in
          record {
            answer = sym (reply_of (λ e. absurd (let none : wish_of cmd ≡ None = ap wish_of e in cc)) (Sound p entries) sound
                ∙ ap (λ (o : Option Wish). reply_unless (head_refusal o (super_in (line_at image) (line_bytes * length image)) me)
                (reading_reply (line_at image) (line_bytes * length image) me cmd (Sound p entries))) is
                ∙ ap (λ (r : Result Params SuperFault). reply_unless (head_refusal (Some w) r me) (reading_reply (line_at image) (line_bytes * length image) me cmd (Sound p entries))) super
                ∙ ap (λ (o : Option (Result Entry Refused)). reply_unless (early_refusal p me w.path)
                (sound_reply (line_at image) (line_bytes * length image) entries cmd o)) (ap (option_map (decide_wish p me entries)) is)
                ∙ early_first w
                ∙ ap (appended (length entries)) decision);
            left_is = sym (image_of (Sound p entries) sound ∙ ap (decision_image image p entries cmd) decides);
          }

      -- another host than the master
      pub refused_client : HasWish cmd → me ≢ p.master → Answers (NotAppended (NotMaster me p.master)) image
      refused_client has other = decided has.0 has.1 (Err (NotMaster me p.master)) (refused_there p me entries has.0 (NotMaster me p.master) (refl, refl, other))

      -- the master's path that is too long
      pub refused_long : (w : Wish) → wish_of cmd ≡ Some w → (limit : ℕ) → IsTooLong p me w limit → Answers (NotAppended (LongPath limit)) image
      refused_long w is limit long = decided w is (Err (LongPath limit)) (refused_there p me entries w (LongPath limit) long)

  -- Damaged images.

  -- a host that was let through isn't refused
  pub not_refused : (p : Params) → super_in (line_at image) (line_bytes * length image) ≡ Ok p → host_refusal (wish_of cmd) p me ≡ None
      → head_refusal (wish_of cmd) (super_in (line_at image) (line_bytes * length image)) me ≡ None
  not_refused p super through = ap (λ (r : Result Params SuperFault). head_refusal (wish_of cmd) r me) super ∙ by_wish (wish_of cmd) through
    where
      by_wish : (o : Option Wish) → host_refusal o p me ≡ None → head_refusal o (Ok p) me ≡ None
      by_wish None none = refl
      by_wish (Some w) none = none

  known_reply : (cmd ≡ Fsck → ⊥) → head_refusal (wish_of cmd) (super_in (line_at image) (line_bytes * length image)) me ≡ None → (r : Reading)
      → reading_of (line_at image) (line_bytes * length image) ≡ r
      → solo_reply image me cmd ≡ reading_reply (line_at image) (line_bytes * length image) me cmd r
  known_reply other known r is = reply_of other r is ∙ ap (λ (o : Option Refused). reply_unless o (reading_reply (line_at image) (line_bytes * length image) me cmd r)) known

  -- where the image doesn't read nothing is appended
  damaged_image : (r : Reading) → reading_of (line_at image) (line_bytes * length image) ≡ r → ((p : Params) (entries : List Entry) → r ≢ Sound p entries) → image ≡ solo_image image me cmd
  damaged_image r is bad = sym (image_of r is ∙ by_reading r bad)
    where
      by_reading : (r : Reading) → ((p : Params) (entries : List Entry) → r ≢ Sound p entries) → reading_image image me cmd r ≡ image
      by_reading (NoSuperblock fault) bad = refl
      by_reading (BadHeader fault) bad = refl
      by_reading (BadSlot i reason) bad = refl
      by_reading (Sound p entries) bad = absurd (bad p entries refl)

  module _ (bad : (p : Params) (entries : List Entry) → reading_of (line_at image) (line_bytes * length image) ≢ Sound p entries) where
    pub bad_image : image ≡ solo_image image me cmd
    bad_image = damaged_image (reading_of (line_at image) (line_bytes * length image)) refl bad

    -- a check of the whole file system
    pub reports_bad : cmd ≡ Fsck → Answers (Reports (report_of (line_at image) (line_bytes * length image))) image
    unfolding solo_reply
    reports_bad is = record { answer = sym (ap (reply_in (line_at image) (line_bytes * length image) me) is); left_is = bad_image }

    names_super : (cmd ≡ Fsck → ⊥) → (fault : SuperFault) → reading_of (line_at image) (line_bytes * length image) ≡ NoSuperblock fault → Answers (reply.NoSuperblock fault) image
    unfolding reading_of
    names_super other fault is = record { answer = sym (known_reply other unread (NoSuperblock fault) is); left_is = bad_image }
      where
        none : (o : Option Wish) (f : SuperFault) → head_refusal o (Err f) me ≡ None
        none None f = refl
        none (Some w) f = refl

        unread : head_refusal (wish_of cmd) (super_in (line_at image) (line_bytes * length image)) me ≡ None
        unread =
            let found = no_super (line_at image) (super_in (line_at image) (line_bytes * length image)) fault is in
            ap (λ (r : Result Params SuperFault). head_refusal (wish_of cmd) r me) found.1 ∙ none (wish_of cmd) found.0

    -- the fault that the reading names
    pub faults_super : (cmd ≡ Fsck → ⊥) → (fault : SuperFault) (r : Reading) → reading_of (line_at image) (line_bytes * length image) ≡ r
        → fault_of r ≡ Some (reply.NoSuperblock fault) → Answers (reply.NoSuperblock fault) image
    faults_super other fault (NoSuperblock named) is e = names_super other fault (is ∙ ap NoSuperblock (let f : named ≡ fault = cc in f))
    faults_super other fault (BadHeader named) is e = absurd (cc)
    faults_super other fault (BadSlot i reason) is e = absurd (cc)
    faults_super other fault (Sound p entries) is e = absurd (cc)

    pub faults_header : (cmd ≡ Fsck → ⊥) → head_refusal (wish_of cmd) (super_in (line_at image) (line_bytes * length image)) me ≡ None
        → (fault : LogFault) (r : Reading) → reading_of (line_at image) (line_bytes * length image) ≡ r → fault_of r ≡ Some (reply.BadHeader fault)
        → Answers (reply.BadHeader fault) image
    faults_header other known fault (BadHeader named) is e =
        record {
          answer = let f : named ≡ fault = cc in sym (known_reply other known (BadHeader named) is ∙ ap reply.BadHeader f);
          left_is =
              bad_image;
        }
    faults_header other known fault (NoSuperblock named) is e = absurd (cc)
    faults_header other known fault (BadSlot i reason) is e = absurd (cc)
    faults_header other known fault (Sound p entries) is e = absurd (cc)

    pub faults_slot : (cmd ≡ Fsck → ⊥) → head_refusal (wish_of cmd) (super_in (line_at image) (line_bytes * length image)) me ≡ None
        → (k : ℕ) (why : Reason) (r : Reading) → reading_of (line_at image) (line_bytes * length image) ≡ r → fault_of r ≡ Some (reply.BadSlot k why)
        → Answers (reply.BadSlot k why) image
    faults_slot other known k why (BadSlot i reason) is e =
        record {
          answer = let f : i ≡ k = cc in let g : reason ≡ why =
              cc in sym (known_reply other known (BadSlot i reason) is ∙ ap (λ (x : ℕ). reply.BadSlot x reason) f ∙ ap (reply.BadSlot k) g);
          left_is =
              bad_image;
        }
    faults_slot other known k why (NoSuperblock named) is e = absurd (cc)
    faults_slot other known k why (BadHeader named) is e = absurd (cc)
    faults_slot other known k why (Sound p entries) is e = absurd (cc)

    -- what is refused as soon as the superblock is read
    bad_early : (w : Wish) → wish_of cmd ≡ Some w → (p : Params) → super_in (line_at image) (line_bytes * length image) ≡ Ok p → (r : Refused)
        → early_refusal p me w.path ≡ Some r → Answers (NotAppended r) image
    bad_early w wish p super r refusal = record {
      answer = sym (reply_of (λ e. absurd (let none : wish_of cmd ≡ None = ap wish_of e in cc)) (reading_of (line_at image) (line_bytes * length image)) refl
          ∙ ap (λ (o : Option Wish). reply_unless (head_refusal o (super_in (line_at image) (line_bytes * length image)) me)
          (reading_reply (line_at image) (line_bytes * length image) me cmd (reading_of (line_at image) (line_bytes * length image)))) wish
          ∙ ap (λ (r : Result Params SuperFault). reply_unless (head_refusal (Some w) r me)
          (reading_reply (line_at image) (line_bytes * length image) me cmd (reading_of (line_at image) (line_bytes * length image)))) super
          ∙ ap (λ (o : Option Refused). reply_unless o (reading_reply (line_at image) (line_bytes * length image) me cmd (reading_of (line_at image) (line_bytes * length image)))) refusal);
      left_is = bad_image;
    }

    -- another host than the one that the superblock names
    pub bad_client : HasWish cmd → (p : Params) → super_in (line_at image) (line_bytes * length image) ≡ Ok p → me ≢ p.master → Answers (NotAppended (NotMaster me p.master)) image
    bad_client has p super other = bad_early has.0 has.1 p super (NotMaster me p.master) (early_master p me has.0.path other)

    -- the path of that host, which is too long
    pub bad_long : (w : Wish) → wish_of cmd ≡ Some w → (p : Params) → super_in (line_at image) (line_bytes * length image) ≡ Ok p → (limit : ℕ)
        → IsTooLong p me w limit → Answers (NotAppended (LongPath limit)) image
    bad_long w wish p super limit long = bad_early w wish p super (LongPath limit) (early_limit p me w limit long)
