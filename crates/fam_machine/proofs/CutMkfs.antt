-- What memory is left where the media fails in one of the operations that make a file system, and what it reads as.
use Rattle.std.proofs.Common.{ℕ, ◌≡◌, ◌*◌, ◌-◌, ◌<◌, ◌≤◌, Bool, true, false, List, [], ◌∷◌, ◌++◌, length, map, Option, Some, None, inl, inr, refl, sym, ap, subst, ◌∙◌, arith}
use Rattle.std.specs.Prelude.{◌⊎◌, min, take, drop, slice_index, slice_range}
use Rattle.std.specs.List.{flat_map, range_with_len}
use Rattle.std.proofs.lemmas.List.{append_assoc, take-append-drop}
use Rattle.std.proofs.lemmas.Option.{same_Some}
use Rattle.fam_base.specs.declared.entry.Params.{Params}
use Rattle.fam_base.specs.declared.line.LineNo.{LineNo}
use Rattle.fam_base.specs.Image.{Image, eight, line_at, masked, with_line}
use Rattle.fam_base.proofs.ImageLemmas.{with_line-line_at, with_masked-with_line}
use Rattle.fam_format.specs.Layout.{gate_line, least_lines, log_line}
use Rattle.fam_format.specs.Log.{log_words}
use Rattle.fam_format.specs.Params.{SoundParams}
use Rattle.fam_format.specs.Reading.{reading}
use Rattle.fam_format.specs.Super.{super_words}
use Rattle.fam_rules.specs.Place.{line_bytes}
use Rattle.fam_rules.specs.Written.{Put, format_puts, formatted, put_line, put_lines, zero_line}
use Rattle.fam_rules.proofs.CutPuts.{IsPutInPart, Left, cut_left}
use Rattle.fam_rules.proofs.FormattedProofs.{formatted_reads}
use Rattle.fam_rules.proofs.Puts.{AreElsewhere}
use Rattle.fam_machine.specs.declared.cell.Cell.{Cell}
use Rattle.fam_machine.specs.declared.cell.Cell.TheVariants.{Dirty}
use Rattle.fam_machine.specs.declared.op.Op.{Op}
use Rattle.fam_machine.specs.declared.op.Op.TheVariants.{Load, Store, Invalidate}
use Rattle.fam_machine.specs.Caches.{Cache, cell_at, with_cell}
use Rattle.fam_machine.specs.Cuts.{Cuts, Fails}
use Rattle.fam_machine.specs.EightWords.{HasEightWords}
use Rattle.fam_machine.specs.Mkfs.{IsHeadSent, IsOldNoneOrNew, done_ops, drop_line, expected_by, expected_ops, goes_on, mkfs_ops, put_ops, read_ops, superblock_found, write_ops}
use Rattle.fam_machine.specs.OneLine.{IsDirty, failed_send}
use Rattle.fam_machine.specs.Operations.{Failure, Machine, line_no, load_ops, machine, operated, operated_all, store_ops}
use Rattle.fam_machine.proofs.CacheLemmas.{cell_at-with_cell_same}
use Rattle.fam_machine.proofs.Failing.{brought_fails, send_fails}
use Rattle.fam_machine.proofs.LinePuts.{line_loaded, line_stored}
use Rattle.fam_machine.proofs.NothingSent.{none_fails, sent_none}
use Rattle.fam_machine.proofs.MkfsOps.{loaded_dirty, loaded_normal, put_one, read_in_turn, whole_put, whole_read}

-- Where a row of operations is cut.

module _ (at : LineNo) (left : Machine) where
  -- an empty row isn't
  no_ops : (done : List Op) (op : Op) (rest : List Op) → [] ≡ done ++ op ∷ rest → ⊥
  no_ops [] op rest same = cc
  no_ops (x ∷ done) op rest same = cc

  cut_none : (m : Machine) → Cuts [] m at left → ⊥
  cut_none m c = no_ops c.done c.op c.rest c.split

  -- with one operation more in front
  cut_more : (op : Op) (ops : List Op) (m : Machine) → Cuts ops (operated op m) at left → Cuts (op ∷ ops) m at left
  cut_more op ops m c = record { done = op ∷ c.done; op = c.op; rest = c.rest; split = ap (λ (l : List Op). op ∷ l) c.split; fails = c.fails }

  -- at its first operation, or behind it
  first_by : (op : Op) (ops : List Op) (m : Machine) (done : List Op) (o : Op) (rest : List Op) → op ∷ ops ≡ done ++ o ∷ rest
      → Fails o (operated_all done m) at left → Fails op m at left ⊎ Cuts ops (operated op m) at left
  first_by op ops m [] o rest split fails =
      let same : op ≡ o = cc in
      inl (subst (λ (x : Op). Fails x m at left) (sym same) fails)
  first_by op ops m (x ∷ done) o rest split fails =
      let same : op ≡ x = cc in
      let tail : ops ≡ done ++ o ∷ rest = cc in
      inr record { done = done; op = o; rest = rest; split = tail; fails = subst (λ (y : Op). Fails o (operated_all done (operated y m)) at left) (sym same) fails }

  cut_first : (op : Op) (ops : List Op) (m : Machine) → Cuts (op ∷ ops) m at left → Fails op m at left ⊎ Cuts ops (operated op m) at left
  cut_first op ops m c = first_by op ops m c.done c.op c.rest c.split c.fails

  -- in its first part, or behind it
  cut_parts : (a b : List Op) (m : Machine) → Cuts (a ++ b) m at left → Cuts a m at left ⊎ Cuts b (operated_all a m) at left
  cut_parts [] b m c = inr c
  cut_parts (op ∷ a) b m c =
      elim (cut_first op (a ++ b) m c) [
        | inl fails ↦ inl record { done = []; op = op; rest = a; split = refl; fails = fails }
        | inr behind ↦ elim (cut_parts a b (operated op m) behind) [ inl first ↦ inl (cut_more op a m first) | inr second ↦ inr second ]
      ]

  -- so is the longer row of which these are the first operations
  longer : (a b : List Op) (done : List Op) (op : Op) (rest : List Op) → a ≡ done ++ op ∷ rest → a ++ b ≡ done ++ op ∷ (rest ++ b)
  longer a b done op rest split = ap (λ (l : List Op). l ++ b) split ∙ append_assoc done (op ∷ rest) b

  cut_longer : (a b : List Op) (m : Machine) → Cuts a m at left → Cuts (a ++ b) m at left
  cut_longer a b m c = record { done = c.done; op = c.op; rest = c.rest ++ b; split = longer a b c.done c.op c.rest c.split; fails = c.fails }

  cut_front : (a : List Op) (n : ℕ) (b : List Op) (m : Machine) → Cuts (a ++ take n b) m at left → Cuts (a ++ b) m at left
  cut_front a n b m c =
      subst (λ (l : List Op). Cuts l m at left) (append_assoc a (take n b) (drop n b) ∙ ap (λ (l : List Op). a ++ l) (take-append-drop n b))
      (cut_longer (a ++ take n b) (drop n b) m c)

  -- Loads and stores send nothing.

  load_fails : (line k : ℕ) (m : Machine) → Fails (Load (line_no line) k) m at left → left.image ≡ m.image
  load_fails line k m fails = ap (λ (f : Failure). f.left.image) (brought_fails (line_no line) m (cell_at m.cache line) _ fails.is)

  store_fails : (line k value : ℕ) (m : Machine) → Fails (Store (line_no line) k value) m at left → left.image ≡ m.image
  store_fails line k value m fails = ap (λ (f : Failure). f.left.image) (brought_fails (line_no line) m (cell_at m.cache line) _ fails.is)

  loads_cut : (line : ℕ) (ks : List ℕ) (m : Machine) → Cuts (map (λ k. Load (line_no line) k) ks) m at left → left.image ≡ m.image
  loads_cut line [] m c = absurd (cut_none m c)
  loads_cut line (k ∷ ks) m c =
      elim (cut_first (Load (line_no line) k) (map (λ k. Load (line_no line) k) ks) m c) [
        | inl fails ↦ load_fails line k m fails
        | inr behind ↦ loads_cut line ks (operated (Load (line_no line) k) m) behind
      ]

  stores_cut : (line : ℕ) (words : List ℕ) (ks : List ℕ) (m : Machine) → Cuts (map (λ k. Store (line_no line) k (slice_index words k)) ks) m at left → left.image ≡ m.image
  stores_cut line words [] m c = absurd (cut_none m c)
  stores_cut line words (k ∷ ks) m c =
      elim (cut_first (Store (line_no line) k (slice_index words k)) (map (λ k. Store (line_no line) k (slice_index words k)) ks) m c) [
        | inl fails ↦ store_fails line k (slice_index words k) m fails
        | inr behind ↦ stores_cut line words ks (operated (Store (line_no line) k (slice_index words k)) m) behind
      ]

-- The reading of lines that have nothing to send.

module _ (line : ℕ) (m : Machine) (normal : map eight m.image ≡ m.image) (clean : IsDirty (cell_at m.cache line) → ⊥) where
  -- the line is dropped without a send
  drop_stays : (operated (Invalidate (line_no line)) m).image ≡ m.image
  drop_stays =
      ap (λ (w : List ℕ). with_line line w m.image) (sent_none (line_at m.image line) (cell_at m.cache line) clean)
      ∙ with_line-line_at m.image normal line

  load_stays : (operated_all (load_ops line 8) m).image ≡ m.image
  load_stays = ap (λ (x : Machine). x.image) (line_loaded line m) ∙ drop_stays

  drop_passes : (at : LineNo) (left : Machine) → Fails (Invalidate (line_no line)) m at left → ⊥
  drop_passes at left fails =
      let failure = send_fails (line_no line) m (failed_send fails.through.mask (line_at m.image line) (cell_at m.cache line)) _ fails.is in
      let none : Some failure.0 ≡ None = sym failure.1 ∙ none_fails fails.through.mask (line_at m.image line) (cell_at m.cache line) clean in
      cc

  load_cut : (at : LineNo) (left : Machine) → Cuts (load_ops line 8) m at left → left.image ≡ m.image
  load_cut at left c =
      elim (cut_first at left (Invalidate (line_no line)) (map (λ k. Load (line_no line) k) (range_with_len 0 8)) m c) [
        | inl fails ↦ absurd (drop_passes at left fails)
        | inr behind ↦ loads_cut at left line (range_with_len 0 8) (operated (Invalidate (line_no line)) m) behind ∙ drop_stays
      ]

-- all 27 operations that read
module _ (m : Machine) (normal : map eight m.image ≡ m.image) (head : IsHeadSent m.cache) where
  second : Machine
  second = operated_all (load_ops 0 8) m

  third : Machine
  third = operated_all (load_ops 1 8) second

  normal_second : map eight second.image ≡ second.image
  unfolding second
  normal_second = loaded_normal 0 m normal

  normal_third : map eight third.image ≡ third.image
  unfolding third
  normal_third = loaded_normal 1 second normal_second

  head_second : IsHeadSent second.cache
  unfolding second
  head_second l below dirty = head l below (loaded_dirty 0 m l dirty)

  head_third : IsHeadSent third.cache
  unfolding third
  head_third l below dirty = head_second l below (loaded_dirty 1 second l dirty)

  stays_second : second.image ≡ m.image
  unfolding second
  stays_second = load_stays 0 m normal (head 0 (omega arith))

  stays_third : third.image ≡ m.image
  unfolding third
  stays_third = load_stays 1 second normal_second (head_second 1 (omega arith)) ∙ stays_second

  -- memory is as it was
  pub read_stays : (operated_all read_ops m).image ≡ m.image
  unfolding second third
  read_stays =
      ap (λ (x : Machine). x.image) (read_in_turn m) ∙ load_stays 2 third normal_third (head_third 2 (omega arith)) ∙ stays_third

  -- and where one of them fails
  read_cut : (at : LineNo) (left : Machine) → Cuts read_ops m at left → left.image ≡ m.image
  unfolding read_ops second third
  read_cut at left c =
      elim (cut_parts at left (load_ops 0 8) (load_ops 1 8 ++ load_ops 2 8) m c) [
        | inl first ↦ load_cut 0 m normal (head 0 (omega arith)) at left first
        | inr behind ↦
            elim (cut_parts at left (load_ops 1 8) (load_ops 2 8) second behind) [
              | inl next ↦ load_cut 1 second normal_second (head_second 1 (omega arith)) at left next ∙ stays_second
              | inr last ↦ load_cut 2 third normal_third (head_third 2 (omega arith)) at left last ∙ stays_third
            ]
      ]

-- One put.

masked_eight : (mask : ℕ) (words old : List ℕ) → masked mask (eight words) old ≡ masked mask words old
unfolding masked
masked_eight mask words old = refl

-- the send of a line that was stored fails
module _ (line : ℕ) (words : List ℕ) (image : Image) (cache : Cache) (at : LineNo) (left : Machine) where
  abbrev stored_line : Machine
  stored_line = machine image (with_cell line (Dirty false (eight words)) cache)

  send_cut : Fails (Invalidate (line_no line)) stored_line at left → IsPutInPart (line, words) image left.image
  send_cut fails =
      let mask = fails.through.mask in
      let failure = send_fails (line_no line) stored_line (failed_send mask (line_at image line) (cell_at stored_line.cache line)) _ fails.is in
      let through : failed_send mask (line_at image line) (cell_at stored_line.cache line) ≡ Some (masked mask (eight words) (line_at image line)) =
      ap (failed_send mask (line_at image line)) (cell_at-with_cell_same line (Dirty false (eight words)) cache) in
      inr (
        mask,
        ap (λ (f : Failure). f.left.image) failure.2
            ∙ ap (λ (w : List ℕ). with_line line w image)
            (same_Some failure.0 (masked mask (eight words) (line_at image line)) (sym failure.1 ∙ through) ∙ masked_eight mask words
            (line_at image line))
            ∙ sym (with_masked-with_line image line words mask),
      )

put_cut : (put : Put) (m : Machine) (at : LineNo) (left : Machine) → HasEightWords m → Cuts (put_ops put) m at left → IsPutInPart put m.image left.image
unfolding put_ops
put_cut put m at left whole c =
    elim (cut_parts at left (store_ops put.0 put.1) (Invalidate (line_no put.0) ∷ []) m c) [
      | inl stores ↦ inl (stores_cut at left put.0 put.1 (range_with_len 0 8) m stores)
      | inr behind ↦
          elim (cut_first at left (Invalidate (line_no put.0)) [] (operated_all (store_ops put.0 put.1) m) behind) [
            | inl fails ↦
                send_cut put.0 put.1 m.image m.cache at left
                (subst (λ (x : Machine). Fails (Invalidate (line_no put.0)) x at left) (line_stored put.0 put.1 m (whole put.0)) fails)
            | inr none ↦ absurd (cut_none at left (operated (Invalidate (line_no put.0)) (operated_all (store_ops put.0 put.1) m)) none)
          ]
    ]

-- Puts, one after another.

-- some lines were put, and of the next one nothing or some of its words
record CutPut (puts : List Put) (image left : Image) : Type 0 where
  done : List Put
  put : Put
  rest : List Put
  split : puts ≡ done ++ put ∷ rest
  part : IsPutInPart put (put_lines done image) left

more_put : (put : Put) (puts : List Put) (image left : Image) → CutPut puts (put_line image put) left → CutPut (put ∷ puts) image left
more_put put puts image left c = record { done = put ∷ c.done; put = c.put; rest = c.rest; split = ap (λ (l : List Put). put ∷ l) c.split; part = c.part }

puts_cut : (puts : List Put) (m : Machine) (at : LineNo) (left : Machine) → HasEightWords m → Cuts (flat_map put_ops puts) m at left → CutPut puts m.image left.image
puts_cut [] m at left whole c = absurd (cut_none at left m c)
puts_cut (put ∷ puts) m at left whole c =
    elim (cut_parts at left (put_ops put) (flat_map put_ops puts) m c) [
      | inl first ↦ record { done = []; put = put; rest = puts; split = refl; part = put_cut put m at left whole first }
      | inr behind ↦
          more_put put puts m.image left.image
          (puts_cut puts (machine (put_line m.image put) (drop_line m.cache put)) at left (whole_put put m whole)
          (subst (λ (x : Machine). Cuts (flat_map put_ops puts) x at left) (put_one put m whole) behind))
    ]

-- The 54 operations that write.

-- all puts but the first and the last, which are of line 0
abbrev body : Params → List Put
body p = (gate_line, zero_line) ∷ (log_line, log_words p) ∷ (1, slice_range (super_words p) 0 8) ∷ (2, slice_range (super_words p) 8 16) ∷ []

body_off : (p : Params) → AreElsewhere 0 (body p)
body_off p = (λ e. omega arith, (λ e. omega arith, (λ e. omega arith, (λ e. omega arith, tt))))

module _ (p : Params) (image : Image) (sound : SoundParams p) (enough : least_lines ≤ length image) (fits : p.device ≤ line_bytes * length image) where
  some : 0 < length image
  some = omega (arith, enough)

  by_left : (left : Image) → Left (body p) image some (body_off p) left → IsOldNoneOrNew p image left
  unfolding formatted
  by_left left (inl same) = inl same
  by_left left (inr (inl none)) = inr (inl none)
  by_left left (inr (inr made)) = inr (inr (ap reading made ∙ formatted_reads image p sound enough fits))

  puts_left : (left : Image) → CutPut (format_puts p) image left → IsOldNoneOrNew p image left
  puts_left left c = by_left left (cut_left (body p) image some (body_off p) c.done c.put c.rest left c.split c.part)

module _ (p : Params) (m : Machine) (at : LineNo) (left : Machine) (sound : SoundParams p) (enough : least_lines ≤ length m.image)
    (fits : p.device ≤ line_bytes * length m.image) (normal : map eight m.image ≡ m.image) (whole : HasEightWords m) (head : IsHeadSent m.cache) where
  write_cut : Cuts (write_ops p) (operated_all read_ops m) at left → IsOldNoneOrNew p m.image left.image
  unfolding write_ops
  write_cut c =
      puts_left p m.image sound enough fits left.image
      (subst (λ (i : Image). CutPut (format_puts p) i left.image) (read_stays m normal head)
      (puts_cut (format_puts p) (operated_all read_ops m) at left (whole_read m whole) c))

  cut_all : Cuts (mkfs_ops p) m at left → IsOldNoneOrNew p m.image left.image
  cut_all c =
      elim (cut_parts at left read_ops (write_ops p) m c) [
        | inl read ↦ inl (ap reading (read_cut m normal head at left read))
        | inr write ↦ write_cut write
      ]

  -- the operations of a maker that is to halt are the first of all
  cut_done : (halt : Option ℕ) → Cuts (done_ops halt p) m at left → IsOldNoneOrNew p m.image left.image
  cut_done None c = cut_all c
  cut_done (Some k) c = cut_all (cut_front at left (read_ops) (min k 80 - 27) (write_ops p) m c)

  cut_by : (go : Bool) (halt : Option ℕ) → Cuts (expected_by go halt p) m at left → IsOldNoneOrNew p m.image left.image
  cut_by false halt c = inl (ap reading (read_cut m normal head at left c))
  cut_by true halt c = cut_done halt c

  pub cut_is : (force : Bool) (halt : Option ℕ) → Cuts (expected_ops force halt p m) m at left → IsOldNoneOrNew p m.image left.image
  cut_is force halt c = cut_by (goes_on force (superblock_found p m)) halt c
