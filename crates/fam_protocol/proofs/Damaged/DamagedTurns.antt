-- The turns of a task on a damaged image: each comes to the image's own fault, or goes on.
use Rattle.std.proofs.Common.{ℕ, suc, ◌≡◌, inl, inr, ◌+◌, ◌-◌, ◌*◌, ◌<◌, ◌≤◌, Bool, true, false, cond, List, [], ◌∷◌, ◌++◌, length, take, Option, Some, None, refl, sym, ◌∙◌, ap, subst, arith}
use Rattle.std.specs.Prelude.{slice_index, nat_lt, Result, Ok, Err}
use Rattle.std.proofs.lemmas.Bool.{ltb-true, ltb-false}
use Rattle.fam_base.specs.declared.cmd.Cmd.{Cmd}
use Rattle.fam_base.specs.declared.cmd.Cmd.TheVariants.{Fsck}
use Rattle.fam_base.specs.declared.entry.Params.{Params}
use Rattle.fam_base.specs.declared.entry.Entry.{Entry}
use Rattle.fam_format.specs.declared.faults.SuperFault.{SuperFault}
use Rattle.fam_format.specs.declared.faults.LogFault.{LogFault}
use Rattle.fam_format.specs.declared.faults.Reason.{Reason}
use Rattle.fam_format.specs.Layout.{log_line}
use Rattle.fam_format.specs.Super.{magic_fault, super_of, super_body_of}
use Rattle.fam_format.specs.Stop.{stop}
use Rattle.fam_format.specs.Log.{log_fault, gate_fault}
use Rattle.fam_format.specs.Tree.{join_fault}
use Rattle.fam_format.specs.Slot.{entry_of}
use Rattle.fam_format.specs.Reading.{Reading, Lines, Sound, super_in, gate_in, slot_in, slot_words, slot_or, joined_or, read_slots, reading_of}
use Rattle.fam_format.proofs.Formats.{shape}
use Rattle.fam_commands.specs.declared.phase.Part.{Part}
use Rattle.fam_commands.specs.declared.phase.Part.TheVariants.{Superblock, Header, Slot, File as FileLines}
use Rattle.fam_commands.specs.declared.phase.Phase.{Phase}
use Rattle.fam_commands.specs.declared.phase.Phase.TheVariants as at
use Rattle.fam_commands.specs.Kept.{used}
use Rattle.fam_commands.specs.Task.{Task, part_count, part_line}
use Rattle.fam_commands.specs.Turns.{Turn, Goes, Ends, slots_read, slot_or_decide, magic_turn, host_refusal, host_turn, super_turn, header_turn, gate_loaded, finds_or_goes, gate_turn, join_turn, slot_turn, survey_turn, check_turn, decide_turn, line_or, line_turn, with_word, word_turn}
use Rattle.fam_rules.specs.declared.answers.Refused.TheVariants as refused
use Rattle.fam_rules.specs.Decide.{Wish, wish_of, early_refusal}
use Rattle.fam_rules.specs.Place.{line_bytes}
use Rattle.fam_rules.specs.Reply.{Reply, NotAppended}
use Rattle.fam_rules.specs.Reply as reply
use Rattle.fam_rules.proofs.RefusalTests.{EarlyCases, may_ask, another, too_long, early_cases}
use Rattle.fam_rules.specs.Reports.{report_of, report_by, survey_slots, survey_slot}
use Rattle.fam_protocol.specs.SharedState.{SharedState}
use Rattle.fam_protocol.specs.Lines.{Fresh}
use Rattle.fam_protocol.specs.Tasks.{HasLoaded, part_words}
use Rattle.fam_protocol.specs.Bad.{IsBare, HasMagic, ReadsSuper, ReadsHeader, ReadsSlots, Remains, OnBadPart, AtDamagedPhase, BadTaskHolds, MaySayBad, MayReplyBad, GoesOnBad, FindsBad, fault_of}
use Rattle.fam_protocol.proofs.Damaged.Words.{IsMeta, loaded_is, is_loaded, next_word, all_words}
use Rattle.fam_protocol.proofs.Turns.PartWords.{super_words_are, header_words_are}
use Rattle.fam_protocol.proofs.Damaged.Ends.{Plays, fsck_or_plays, slots_fsck, slots_alike, says_super, says_header, says_gate, reads_slots, reports_slots, NotSound, slots_bad}

-- what a command asks of an image: eight words a line, and that it isn't sound, which a check of the whole file system
-- doesn't ask
pub record Bare (image : Lines) (have : ℕ) (cmd : Cmd) : Type 0 where
  pub wide : (l : ℕ) → length (image l) ≡ 8
  pub bad : (cmd ≡ Fsck → ⊥) → NotSound (reading_of image have)

-- what a turn may say, and what holds of the task behind it
pub record BadTurn (turn : Turn) (image : Lines) (have : ℕ) (uuid : ℕ → Option (List ℕ)) (host : ℕ) (t : Task) (s : SharedState) : Type 0 where
  pub may : MaySayBad turn image have t
  pub task : GoesOnBad turn image have uuid host s

-- What is known of the slots doesn't go by the task's words and its place.
module _ (image : Lines) (have : ℕ) (t : Task) (phase : Phase) (words : List ℕ) where
  -- the task at another place, with other words
  abbrev moved : Task
  moved = record t { phase = phase; words = words }

  remains_moved : (i : ℕ) → Remains t.cmd image have i t → Remains t.cmd image have i moved
  remains_moved i r = elim (fsck_or_plays t.cmd) [
    | inl is ↦ subst (λ (c : Cmd). Remains c image have i moved) (sym is) (subst (λ (c : Cmd). Remains c image have i t) is r)
    | inr plays ↦ plays.closes image have i moved (plays.opens image have i t r)
  ]

  super_moved : ReadsSuper image have t → ReadsSuper image have moved
  super_moved r = record { super = r.super; master = r.master }

  -- what is known of superblock and header doesn't look at these
  pub header_moved : ReadsHeader image have t → ReadsHeader image have moved
  header_moved r = record { super = super_moved r.super; header = r.header }

  slots_moved : (i : ℕ) → ReadsSlots image have i t → ReadsSlots image have i moved
  slots_moved i r = record { header = header_moved r.header; gate = r.gate; within = r.within; remains = remains_moved i r.remains }

  -- nor that no slot is read
  pub none_moved : IsBare t → IsBare moved
  none_moved n = record { entries = n.entries; survey = n.survey; unused = n.unused }

  count_moved : slots_read moved ≡ slots_read t
  count_moved = slots_alike moved t refl refl refl

  part_moved : (part : Part) → OnBadPart part image have t → OnBadPart part image have moved
  part_moved Superblock on = (none_moved on.0, on.1)
  part_moved Header on = (none_moved on.0, super_moved on.1)
  part_moved (Slot i) on = (slots_moved i on.0, omega (arith, on.1, count_moved))
  part_moved FileLines on = absurd on

meta_part : (image : Lines) (have : ℕ) (t : Task) (part : Part) → OnBadPart part image have t → IsMeta part
meta_part image have t Superblock on = tt
meta_part image have t Header on = tt
meta_part image have t (Slot i) on = tt
meta_part image have t FileLines on = absurd on

module _ (image : Lines) (have : ℕ) (uuid : ℕ → Option (List ℕ)) (host : ℕ) (s : SharedState)
    (t : Task) (bare : Bare image have t.cmd) (me : uuid host ≡ Some t.me) (lines : line_bytes * t.lines ≡ have) where
  -- what is known of a turn
  abbrev Turned : Turn → Type 0
  Turned turn = BadTurn turn image have uuid host t s

  -- the magic
  pub magic_says : (word : ℕ) → IsBare t → word ≡ slice_index (image 0) 0 → Turned (magic_turn t (magic_fault word))
  unfolding super_of
  magic_says word none is = go (magic_fault word) (sym (ap magic_fault is))
    where
      go : (o : Option SuperFault) → magic_fault (slice_index (image 0) 0) ≡ o → Turned (magic_turn t o)
      go (Some fault) e = record { may = says_super image have t fault (ap (λ o. stop o (super_body_of (image 1 ++ image 2) have)) e); task = tt }
      go None e = record {
        may = tt;
        task = record {
          me = me;
          lines = lines;
          phase = (
            (none_moved image have t (at.Drop Superblock 0) [] none, e),
            omega arith,
            is_loaded image (record t { phase = at.Drop Superblock 0; words = [] }) Superblock tt 0 0 refl,
          );
        };
      }

  -- which host appends, and with which path
  host_says : (p : Params) → IsBare t → super_in image have ≡ Ok p → Turned (host_turn t p (host_refusal (wish_of t.cmd) p t.me))
  host_says p none super = go (wish_of t.cmd) refl
    where
      next : Task
      next = record t { params = p; phase = at.Drop Header 0; words = [] }

      goes : ((w : Wish) → wish_of t.cmd ≡ Some w → t.me ≡ p.master) → BadTaskHolds image have uuid host next s
      goes master = record {
        me = me;
        lines = lines;
        phase = ((record { entries = none.entries; survey = none.survey; unused = none.unused }, record { super = super; master = master }), omega arith, is_loaded image next Header tt 0 0 refl);
      }

      test : (w : Wish) → wish_of t.cmd ≡ Some w → EarlyCases p t.me w.path → Turned (host_turn t p (early_refusal p t.me w.path))
      test w wish (may_ask same short passed) = rw passed (record { may = tt; task = goes (λ v is. same) })
      test w wish (another other refusal) = rw refusal (record { may = record { params = p; super = super; me_is = refl; master_is = refl; other = other }; task = tt })
      test w wish (too_long first same long refusal) =
          rw refusal (record {
            may = record {
              params = p;
              super = super;
              is =
                  record { wish = w; wished = wish; is = record { format = first; master = same; limit_is = refl; long = long } };
            };
            task = tt;
          })

      go : (o : Option Wish) → wish_of t.cmd ≡ o → Turned (host_turn t p (host_refusal o p t.me))
      go None e = record { may = tt; task = goes (λ w is. absurd cc) }
      go (Some w) e = test w e (early_cases p t.me w.path)

  -- lines 1 and 2
  pub super_says : IsBare t → HasMagic image → t.words ≡ image 1 ++ image 2 → Turned (super_turn t (super_body_of t.words (line_bytes * t.lines)))
  unfolding super_of
  super_says none magic words = go (super_body_of t.words (line_bytes * t.lines)) is
    where
      is : super_in image have ≡ super_body_of t.words (line_bytes * t.lines)
      is = rw (words, lines) (ap (λ o. stop o (super_body_of (image 1 ++ image 2) have)) magic)

      go : (r : Result Params SuperFault) → super_in image have ≡ r → Turned (super_turn t r)
      go (Err fault) e = record { may = says_super image have t fault e; task = tt }
      go (Ok p) e = host_says p none e

  -- the header
  pub header_says : IsBare t → ReadsSuper image have t → t.words ≡ image log_line → Turned (header_turn t (log_fault t.words t.params))
  header_says none r words = go (log_fault t.words t.params) (ap (λ w. log_fault w t.params) (sym words))
    where
      go : (o : Option LogFault) → log_fault (image log_line) t.params ≡ o → Turned (header_turn t o)
      go (Some fault) e = record { may = says_header image have t t.params r.super fault e; task = tt }
      go None e = record {
        may = tt;
        task = record { me = me; lines = lines; phase = (none_moved image have t at.DropGate [] none, refl, header_moved image have t at.DropGate [] (record { super = r; header = e })) };
      }

  -- the next slot, or the decision
  next_slot : (before next : Task) (i : ℕ) → slots_read before ≡ slots_read next → ReadsSlots image have i next → i ≤ slots_read next
      → next.words ≡ [] → AtDamagedPhase (slot_or_decide before i) image have host next s
  next_slot before next i count r fits words = go (nat_lt i (slots_read before)) refl
    where
      go : (b : Bool) → nat_lt i (slots_read before) ≡ b → AtDamagedPhase (cond b (at.Drop (Slot i) 0) at.Decide) image have host next s
      go true e = ((r, omega (arith, ltb-true i (slots_read before) e, count)), omega (arith, (shape next.params).lines), is_loaded image next (Slot i) tt 0 0 words)
      go false e =
          let all : i ≡ slots_read next = omega (arith, ltb-false i (slots_read before) e, count, fits) in
          subst (λ (n : ℕ). ReadsSlots image have n next) all r

  -- the gate
  pub gate_says : (word : ℕ) → IsBare t → t.words ≡ [] → ReadsHeader image have t → word ≡ gate_in image → Turned (gate_turn t word (gate_fault word t.params))
  gate_says word none words r is = go (gate_fault word t.params) refl
    where
      go : (o : Option LogFault) → gate_fault word t.params ≡ o → Turned (gate_turn t word o)
      go (Some fault) e = record { may = says_gate image have t t.params r.super.super r.header fault (ap (λ n. gate_fault n t.params) (sym is) ∙ e); task = tt }
      go None e = found (wish_of t.cmd) refl
        where
          within : gate_fault (gate_in image) t.params ≡ None
          within = ap (λ n. gate_fault n t.params) (sym is) ∙ e

          all_slots : t.params.slots - 0 ≡ t.params.slots
          all_slots = omega arith

          all_below : gate_in image - 0 ≡ gate_in image
          all_below = omega arith

          none_used : used t.kept t.cmd t.params word ≡ []
          none_used = none.unused t.params word

          remains : Remains t.cmd image have 0 (gate_loaded t word)
          remains = elim (fsck_or_plays t.cmd) [
            | inl fsck ↦ subst (λ (c : Cmd). Remains c image have 0 (gate_loaded t word)) (sym fsck) (
                rw (none.survey, is, all_slots) (sym (reports_slots image have t t.params r.super.super r.header within))
                )
            | inr plays ↦ plays.closes image have 0 (gate_loaded t word) (rw (none_used, is, all_below) (sym (reads_slots image have t t.params r.super.super r.header within)))
          ]

          slots : ReadsSlots image have 0 (gate_loaded t word)
          slots = record {
            header = record { super = record { super = r.super.super; master = r.super.master }; header = r.header };
            gate = is;
            within = e;
            remains = remains;
          }

          placed : AtDamagedPhase (gate_loaded t word).phase image have host (gate_loaded t word) s
          placed =
              subst (λ (i : ℕ). AtDamagedPhase (slot_or_decide (record t { gate = word }) i) image have host (gate_loaded t word) s) (sym (ap (λ (list : List Entry). length list) none_used))
              (next_slot (record t { gate = word }) (gate_loaded t word) 0 (slots_alike (record t { gate = word }) (gate_loaded t word) refl refl refl) slots (omega arith) words)

          holds : BadTaskHolds image have uuid host (gate_loaded t word) s
          holds = record { me = me; lines = lines; phase = placed }

          bad_slot : (w : Wish) → wish_of t.cmd ≡ Some w → FindsBad image have word
          bad_slot w wish =
              let reads = reads_slots image have t t.params r.super.super r.header within in
              let other : t.cmd ≡ Fsck → ⊥ = λ fsck. (let none : wish_of t.cmd ≡ None = ap wish_of fsck in absurd (cc)) in
              let bad = slots_bad image t.params (gate_in image) 0 [] (subst NotSound reads (bare.bad other)) in
              record { is = is; slot = bad.0; reason = bad.1; bad = reads ∙ bad.2 }

          found : (o : Option Wish) → wish_of t.cmd ≡ o → Turned (finds_or_goes o word (gate_loaded t word))
          found None wish = record { may = tt; task = holds }
          found (Some w) wish = record { may = bad_slot w wish; task = holds }

  -- the words of a slot
  fsck_says : (i : ℕ) → t.cmd ≡ Fsck → ReadsSlots image have i t → i < slots_read t → t.words ≡ slot_words image t.params i → Turned (survey_turn t i)
  fsck_says i fsck r below words = record { may = tt; task = record { me = me; lines = lines; phase = next_slot t next (i + 1) (slots_alike t next refl refl refl) slots (omega (arith, count)) refl } }
    where
      next : Task
      next = record t { survey = survey_slot t.params t.gate i t.words t.survey; words = []; phase = slot_or_decide t (i + 1) }

      count : slots_read t ≡ slots_read next
      count = slots_alike t next refl refl refl

      before : report_by t.params t.gate (survey_slots image t.params t.gate i (t.params.slots - i) t.survey) ≡ report_of image have
      before = subst (λ (c : Cmd). Remains c image have i t) fsck r.remains

      one_less : t.params.slots - i ≡ suc (t.params.slots - (i + 1))
      one_less = omega (arith, below, slots_fsck t fsck)

      after : report_by t.params t.gate (survey_slots image t.params t.gate (i + 1) (t.params.slots - (i + 1)) (survey_slot t.params t.gate i t.words t.survey)) ≡ report_of image have
      after = rw words (ap (λ n. report_by t.params t.gate (survey_slots image t.params t.gate i n t.survey)) (sym one_less) ∙ before)

      slots : ReadsSlots image have (i + 1) next
      slots = record {
        header = record { super = record { super = r.header.super.super; master = r.header.super.master }; header = r.header.header };
        gate = r.gate;
        within = r.within;
        remains = subst (λ (c : Cmd). Remains c image have (i + 1) next) (sym fsck) after;
      }

  play_says : (i : ℕ) → Plays t.cmd → ReadsSlots image have i t → i < slots_read t → t.words ≡ slot_words image t.params i → Turned (slot_turn t i (entry_of t.params t.words i))
  play_says i plays r below words = go (entry_of t.params t.words i) (ap (λ w. entry_of t.params w i) (sym words))
    where
      rest : Entry → Reading
      rest e = read_slots image t.params (i + 1) (t.gate - (i + 1)) (t.entries ++ e ∷ [])

      one_less : t.gate - i ≡ suc (t.gate - (i + 1))
      one_less = omega (arith, below, plays.slots t refl)

      before : slot_or t.params t.entries i (slot_in image t.params i) rest ≡ reading_of image have
      before = ap (λ n. read_slots image t.params i n t.entries) (sym one_less) ∙ plays.opens image have i t r.remains

      join : (e : Entry) → slot_in image t.params i ≡ Ok e → (o : Option Reason) → join_fault t.params t.entries e ≡ o → Turned (join_turn t i e o)
      join e reads (Some reason) fault = record { may = ap fault_of (sym before ∙ ap (λ x. slot_or t.params t.entries i x rest) reads ∙ ap (λ o. joined_or i o (rest e)) fault); task = tt }
      join e reads None fault = record { may = tt; task = record { me = me; lines = lines; phase = next_slot t next (i + 1) (slots_alike t next refl refl refl) slots (omega (arith, count)) refl } }
        where
          next : Task
          next = record t { entries = t.entries ++ e ∷ []; words = []; phase = slot_or_decide t (i + 1) }

          count : slots_read t ≡ slots_read next
          count = slots_alike t next refl refl refl

          slots : ReadsSlots image have (i + 1) next
          slots = record {
            header = record { super = record { super = r.header.super.super; master = r.header.super.master }; header = r.header.header };
            gate = r.gate;
            within = r.within;
            remains = plays.closes image have (i + 1) next (sym (ap (λ o. joined_or i o (rest e)) fault) ∙ sym (ap (λ x. slot_or t.params t.entries i x rest) reads) ∙ before);
          }

      go : (x : Result Entry Reason) → slot_in image t.params i ≡ x → Turned (slot_turn t i x)
      go (Err reason) e = record { may = ap fault_of (sym before ∙ ap (λ x. slot_or t.params t.entries i x rest) e); task = tt }
      go (Ok entry) e = join entry e (join_fault t.params t.entries entry) refl

  -- the turn of a slot's words
  pub slot_says : (i : ℕ) → ReadsSlots image have i t → i < slots_read t → t.words ≡ slot_words image t.params i → Turned (check_turn t.cmd t i)
  slot_says i r below words = elim (fsck_or_plays t.cmd) [
    | inl fsck ↦ subst (λ (c : Cmd). Turned (check_turn c t i)) (sym fsck) (fsck_says i fsck r below words)
    | inr plays ↦ subst Turned (sym (plays.check t i)) (play_says i plays r below words)
  ]

  -- all slots are read: then an image that isn't sound has named its fault before
  pub decide_says : ReadsSlots image have (slots_read t) t → Turned (decide_turn t.cmd t)
  decide_says r = elim (fsck_or_plays t.cmd) [
    | inl fsck ↦
        let none : t.params.slots - slots_read t ≡ 0 = omega (arith, slots_fsck t fsck) in
        let report : report_by t.params t.gate t.survey ≡ report_of image have =
        ap (λ n. report_by t.params t.gate (survey_slots image t.params t.gate (slots_read t) n t.survey)) (sym none) ∙ subst (λ (c : Cmd). Remains c image have (slots_read t) t) fsck r.remains in
        subst (λ (c : Cmd). Turned (decide_turn c t)) (sym fsck) (record { may = report; task = tt })
    | inr plays ↦
        let none : t.gate - slots_read t ≡ 0 = omega (arith, plays.slots t refl) in
        let sound : Sound t.params t.entries ≡ reading_of image have =
        ap (λ n. read_slots image t.params (slots_read t) n t.entries) (sym none) ∙ plays.opens image have (slots_read t) t r.remains in
        absurd (bare.bad plays.other t.params t.entries (sym sound))
  ]

-- Where a part's lines stand and how many they are doesn't go by the task's words and its place either.
module _ (t : Task) (phase : Phase) (words : List ℕ) where
  line_moved : (part : Part) (j : ℕ) → part_line (record t { phase = phase; words = words }) part j ≡ part_line t part j
  line_moved Superblock j = refl
  line_moved e j = refl

  lines_moved : (part : Part) → part_count (record t { phase = phase; words = words }) part ≡ part_count t part
  lines_moved Superblock = refl
  lines_moved e = refl

  words_moved : (image : Lines) (part : Part) → part_words image (record t { phase = phase; words = words }) part ≡ part_words image t part
  words_moved image Superblock = refl
  words_moved image e = refl

-- Of a task, an answer goes by its host and its command alone.
module _ (image : Lines) (have : ℕ) (t t' : Task) (same : t.me ≡ t'.me) (asks : t.cmd ≡ t'.cmd) where
  reply_moved : (r : Reply) → MayReplyBad r image have t → MayReplyBad r image have t'
  reply_moved (NotAppended (refused.NotMaster me master)) a = record { params = a.params; super = a.super; me_is = a.me_is ∙ same; master_is = a.master_is; other = a.other }
  reply_moved (NotAppended (refused.LongPath limit)) a = record {
    params = a.params;
    super = a.super;
    is = record {
      wish = a.is.wish;
      wished = ap wish_of (sym asks) ∙ a.is.wished;
      is =
          record { format = a.is.is.format; master = sym same ∙ a.is.is.master; limit_is = a.is.is.limit_is; long = a.is.is.long };
    };
  }
  reply_moved e a = a

  may_moved : (turn : Turn) → MaySayBad turn image have t → MaySayBad turn image have t'
  may_moved (Ends r) a = reply_moved r a
  may_moved e a = a

module _ (image : Lines) (have : ℕ) (uuid : ℕ → Option (List ℕ)) (host : ℕ) (s : SharedState)
    (t : Task) (bare : Bare image have t.cmd) (me : uuid host ≡ Some t.me) (lines : line_bytes * t.lines ≡ have) where
  -- the next line of the part, or what comes behind its last one
  line_or_says : (part : Part) (j : ℕ) (turn : Turn) → OnBadPart part image have t → j < part_count t part
      → t.words ≡ take (8 * j + 8) (part_words image t part) → (t.words ≡ part_words image t part → BadTurn turn image have uuid host t s)
      → BadTurn (line_or t part j turn) image have uuid host t s
  line_or_says part j turn on below words behind = go (nat_lt (j + 1) (part_count t part)) refl
    where
      meta : IsMeta part
      meta = meta_part image have t part on

      go : (b : Bool) → nat_lt (j + 1) (part_count t part) ≡ b → BadTurn (cond b (Goes (record t { phase = at.Drop part (j + 1) })) turn) image have uuid host t s
      go true e =
          let here : 8 * j + 8 ≡ 8 * (j + 1) + 0 = omega arith in
          record {
            may = tt;
            task = record {
              me = me;
              lines = lines;
              phase = (
                part_moved image have t (at.Drop part (j + 1)) t.words part on,
                omega (arith, ltb-true (j + 1) (part_count t part) e, lines_moved t (at.Drop part (j + 1)) t.words part),
                is_loaded image (record t { phase = at.Drop part (j + 1) }) part meta (j + 1) 0
                    (words ∙ ap (λ n. take n (part_words image t part)) here ∙ ap (take (8 * (j + 1) + 0))
                    (sym (words_moved t (at.Drop part (j + 1)) t.words image part))),
              );
            };
          }
      go false e = behind (words ∙ all_words image t part meta (8 * j + 8) (omega (arith, ltb-false (j + 1) (part_count t part) e)))

  -- a line of a part is loaded
  line_says : (part : Part) (j : ℕ) → OnBadPart part image have t → j < part_count t part → t.words ≡ take (8 * j + 8) (part_words image t part) → BadTurn (line_turn t part j) image have uuid host t s
  line_says Superblock j on below words =
      line_or_says Superblock j _ on below words (λ all. super_says image have uuid host s t bare me lines on.0 on.1 (all ∙ super_words_are image t (bare.wide 1) (bare.wide 2)))
  line_says Header j on below words =
      header_says image have uuid host s t bare me lines on.0 on.1 (words ∙ all_words image t Header tt (8 * j + 8) (omega arith) ∙ header_words_are image t (bare.wide log_line))
  line_says (Slot i) j on below words =
      line_or_says (Slot i) j _ on below words (λ all. record {
        may = tt;
        task = record { me = me; lines = lines; phase = (slots_moved image have t (at.Check i) t.words i on.0, omega (arith, on.1, count_moved image have t (at.Check i) t.words), all) };
      })
  line_says FileLines j on below words = absurd on

module _ (image : Lines) (have : ℕ) (uuid : ℕ → Option (List ℕ)) (host : ℕ) (s : SharedState)
    (t : Task) (bare : Bare image have t.cmd) (me : uuid host ≡ Some t.me) (lines : line_bytes * t.lines ≡ have) where
  -- a word of it is
  pub word_says : (part : Part) (j k word : ℕ) → OnBadPart part image have t → j < part_count t part → k < 8
      → Fresh (s.memory (part_line t part j)) (s.copy host (part_line t part j)) → HasLoaded image t part j k
      → word ≡ slice_index (image (part_line t part j)) k →
      BadTurn (word_turn (with_word t word) part j k) image have uuid host t s
  word_says part j k word on below small fresh loaded is = go (nat_lt k 7) refl
    where
      meta : IsMeta part
      meta = meta_part image have t part on

      words : t.words ++ word ∷ [] ≡ take (8 * j + (k + 1)) (part_words image t part)
      words = ap (λ w. w ++ word ∷ []) (loaded_is image t part meta j k loaded) ∙ next_word image t part meta j k word below small is

      next : Phase → Task
      next phase = record t { phase = phase; words = t.words ++ word ∷ [] }

      go : (b : Bool) → nat_lt k 7 ≡ b → BadTurn (cond b (Goes (next (at.Word part j (k + 1)))) (line_turn (with_word t word) part j)) image have uuid host t s
      go true e =
          let p = at.Word part j (k + 1) in
          record {
            may = tt;
            task = record {
              me = me;
              lines = lines;
              phase = (
                part_moved image have t p (t.words ++ word ∷ []) part on,
                omega (arith, below, lines_moved t p (t.words ++ word ∷ []) part),
                omega (arith, ltb-true k 7 e),
                subst (λ l. Fresh (s.memory l) (s.copy host l)) (sym (line_moved t p (t.words ++ word ∷ []) part j))
                    fresh,
                is_loaded image (next p) part meta j (k + 1)
                    (words ∙ ap (take (8 * j + (k + 1))) (sym (words_moved t p (t.words ++ word ∷ []) image part))),
              );
            };
          }
      go false e =
          let last : 8 * j + (k + 1) ≡ 8 * j + 8 = omega (arith, ltb-false k 7 e) in
          let turn =
          line_says image have uuid host s (with_word t word) bare me lines part j (part_moved image have t t.phase (t.words ++ word ∷ []) part on)
          (omega (arith, below, lines_moved t t.phase (t.words ++ word ∷ []) part))
          (words ∙ ap (λ n. take n (part_words image t part)) last
          ∙ ap (take (8 * j + 8)) (sym (words_moved t t.phase (t.words ++ word ∷ []) image part))) in
          record { may = may_moved image have (with_word t word) t refl refl (line_turn (with_word t word) part j) turn.may; task = turn.task }

  -- its line was dropped
  pub drop_says : (part : Part) (j : ℕ) → OnBadPart part image have t → j < part_count t part → HasLoaded image t part j 0
      → Fresh (s.memory (part_line t part j)) (s.copy host (part_line t part j))
      → BadTurn (Goes (record t { phase = at.Word part j 0 })) image have uuid host t s
  drop_says part j on below loaded fresh =
      let p = at.Word part j 0 in
      let meta : IsMeta part = meta_part image have t part on in
      record {
        may = tt;
        task = record {
          me = me;
          lines = lines;
          phase = (
            part_moved image have t p t.words part on,
            omega (arith, below, lines_moved t p t.words part),
            omega arith,
            subst (λ l. Fresh (s.memory l) (s.copy host l)) (sym (line_moved t p t.words part j)) fresh,
            is_loaded image (record t { phase = p }) part meta j 0
                (loaded_is image t part meta j 0 loaded ∙ ap (take (8 * j + 0)) (sym (words_moved t p t.words image part))),
          );
        };
      }
