-- The copies of the first entries of a log, and of all.
use Rattle.std.proofs.Common.{◌≡◌, ℕ, ◌+◌, ◌<◌, true, List, [], ◌∷◌, ◌++◌, length, take, get_or, Some, Ok, Err, Result, refl, sym, ap, subst, ◌∙◌, inl, inr, append_assoc, arith}
use Rattle.std.specs.Prelude.{◌⊎◌, slice_get}
use Rattle.std.proofs.lemmas.Bool.{and_parts, cases_lt, eqb-true}
use Rattle.std.proofs.lemmas.List.{append-nil, get_or_append_left, length-append, take-append-le}
use Rattle.std.proofs.lemmas.Option.{get_or_from_slice_get, slice_get-get_or, slice_get_within}
use Rattle.std.proofs.Math.Seq.{get_or-append_seam, take-append_seam}
use Rattle.fam_base.specs.declared.entry.Params.{Params}
use Rattle.fam_base.specs.declared.entry.Entry.{Entry}
use Rattle.fam_base.specs.declared.entry.Kind.{Kind}
use Rattle.fam_base.specs.declared.entry.Kind.TheVariants.{Directory, File}
use Rattle.fam_base.specs.declared.entry.MapKind.{MapKind}
use Rattle.fam_base.specs.declared.entry.MapKind.TheVariants.{Empty, Simple, Striped}
use Rattle.fam_format.specs.Params.{SoundParams}
use Rattle.fam_format.specs.Slot.{Proper, fits_map, is_map}
use Rattle.fam_format.proofs.EntryLawsProofs.{proper_fits}
use Rattle.fam_rules.specs.declared.answers.Refused.{Refused}
use Rattle.fam_rules.specs.DecideLaws.{IsSoundWish}
use Rattle.fam_rules.proofs.DecideProofs.{as_wished, may_append}
use Rattle.fam_plan.specs.State.{IsAdded, IsHistory}
use Rattle.fam_dup.specs.Copies.{AreAlike, AreCopies, Copied, Copying, IsCopy, IsWantOfRoom, StoppedAt, copied_or, copy_of, copying, copying_from, wish_again}
use Rattle.fam_dup.proofs.Alike.{alike_more, alike_none, room_alone}

-- What is wished for again.

-- a directory has no bytes
bare_by : (p : Params) (e : Entry) (kind : Kind) (map : MapKind) → fits_map p e kind map ≡ true → kind ≡ Directory → e.size ≡ 0
bare_by p e Directory Empty fits is = eqb-true e.size 0 (and_parts _ _ fits).0
bare_by p e Directory Simple fits is = absurd (cc)
bare_by p e Directory (Striped chunk) fits is = absurd (cc)
bare_by p e File Empty fits is = absurd (cc)
bare_by p e File Simple fits is = absurd (cc)
bare_by p e File (Striped chunk) fits is = absurd (cc)

pub bare : (p : Params) (e : Entry) → Proper p e → e.kind ≡ Directory → e.size ≡ 0
unfolding is_map
bare p e proper is = bare_by p e e.kind e.map proper.map is

-- a proper entry may be wished for
pub sound_wish : (p : Params) (e : Entry) → SoundParams p → Proper p e → IsSoundWish (wish_again e)
sound_wish p e sound proper = record {
  path = proper.path;
  size = (proper_fits p e sound proper).size;
  bare = λ is. bare p e proper is;
  attr = record { mode = proper.mode; uid = proper.uid; gid = proper.gid };
  stripe = tt;
}

-- One copy more.

-- a place in a list with one more at its end
pub one_more : (list : List Entry) (e : Entry) (i : ℕ) (x : Entry) → slice_get (list ++ e ∷ []) i ≡ Some x → (slice_get list i ≡ Some x) ⊎ ((i ≡ length list) × (e ≡ x))
one_more list e i x at =
    elim (cases_lt i (length list)) [
      | inl below ↦
          inl (slice_get-get_or list i x below
          ∙ ap (λ (y : Entry). Some y) (sym (get_or_append_left list (e ∷ []) x i below) ∙ get_or_from_slice_get (list ++ e ∷ []) i x x at))
      | inr past ↦
          let end : i ≡ length list = omega (arith, slice_get_within (list ++ e ∷ []) i x at, length-append list (e ∷ [])) in
          inr (end, sym (get_or-append_seam list e [] x) ∙ ap (λ (n : ℕ). get_or (list ++ e ∷ []) n x) (sym end) ∙ get_or_from_slice_get (list ++ e ∷ []) i x x at)
    ]

-- so the copies of these are
pub copies_more : (list copies : List Entry) (e c : Entry) → AreCopies list copies → IsCopy e c → AreCopies (list ++ e ∷ []) (copies ++ c ∷ [])
copies_more list copies e c are is = record {
  count = omega (arith, length-append list (e ∷ []), length-append copies (c ∷ []), are.count);
  each = λ i x y at_x at_y.
      elim (one_more list e i x at_x) [
        | inl in_list ↦ elim (one_more copies c i y at_y) [
          | inl in_copies ↦ are.each i x y in_list in_copies
          | inr (end, same) ↦ absurd (omega (arith, slice_get_within list i x in_list, are.count))
        ]
        | inr (end, same_e) ↦ elim (one_more copies c i y at_y) [
          | inl in_copies ↦ absurd (omega (arith, slice_get_within copies i y in_copies, are.count))
          | inr (_, same_c) ↦ subst (λ (d : Entry). IsCopy d y) same_e (subst (λ (d : Entry). IsCopy e d) same_c is)
        ]
      ];
}

-- a log with one entry more
history_more : (q : Params) (copies : List Entry) (c : Entry) → IsHistory (record { params = q; entries = copies }) → length copies < q.slots
    → IsAdded q copies c → IsHistory (record { params = q; entries = copies ++ c ∷ [] })
history_more q copies c log left is = record {
  params = log.params;
  few = omega (arith, length-append copies (c ∷ []));
  added = λ i x at.
      elim (one_more copies c i x at) [
        | inl before ↦
            let below : i < length copies = slice_get_within copies i x before in
            subst (λ (l : List Entry). IsAdded q l x) (sym (take-append-le i copies (c ∷ []) (omega arith))) (log.added i x before)
        | inr (end, same) ↦
            let prefix : take i (copies ++ c ∷ []) ≡ copies = ap (λ (n : ℕ). take n (copies ++ c ∷ [])) end ∙ take-append_seam copies (c ∷ []) in
            subst (λ (l : List Entry). IsAdded q l x) (sym prefix) (subst (IsAdded q copies) same is)
      ];
}

-- the entries so far are alike, copies of one another, and a log of their own
pub record AreFollowed (q : Params) (before copies : List Entry) : Type 0 where
  pub alike : AreAlike before copies
  pub are : AreCopies before copies
  pub history : IsHistory (record { params = q; entries = copies })

pub followed_none : (q : Params) → SoundParams q → AreFollowed q [] []
followed_none q sound = record {
  alike = alike_none;
  are = record { count = refl; each = λ i e c at there. absurd (let none = at in cc) };
  history = record { params = sound; few = omega arith; added = λ i e at. absurd (let none = at in cc) };
}

module _ (p q : Params) (sound_p : SoundParams p) (sound_q : SoundParams q) (before copies : List Entry) (e c : Entry) (proper : Proper p e) (is : copy_of q copies e ≡ Ok c) where
  pub as_copy : IsCopy e c
  as_copy = as_wished q q.master copies (wish_again e) c sound_q (sound_wish p e sound_p proper) is

  pub followed_more : AreFollowed q before copies → AreFollowed q (before ++ e ∷ []) (copies ++ c ∷ [])
  followed_more so =
      let may = may_append q q.master copies (wish_again e) c sound_q (sound_wish p e sound_p proper) is in
      record {
        alike = alike_more before copies e c so.alike as_copy.path as_copy.kind;
        are = copies_more before copies e c so.are as_copy;
        history = history_more q copies c so.history may.left (record { proper = may.proper; joins = may.joins });
      }

-- All entries of a log.

-- the copies follow them, or want of slots or of room stops the copying
abbrev pub Follows : Params → List Entry → Copying → Type 0
Follows q entries (Copied copies) = AreFollowed q entries copies
Follows q entries (StoppedAt seq refused) = IsWantOfRoom refused

module _ (p q : Params) (entries : List Entry) (sound : SoundParams q) (log : IsHistory (record { params = p; entries = entries })) where
  -- the entry behind the first ones
  added_at : (before : List Entry) (e : Entry) (more : List Entry) → entries ≡ before ++ e ∷ more → IsAdded p before e
  added_at before e more parts =
      let count : length entries ≡ length before + length (e ∷ more) = ap (λ (l : List Entry). length l) parts ∙ length-append before (e ∷ more) in
      let at : slice_get entries (length before) ≡ Some e =
      slice_get-get_or entries (length before) e (omega arith)
      ∙ ap (λ (l : List Entry). Some (get_or l (length before) e)) parts
      ∙ ap (λ (x : Entry). Some x) (get_or-append_seam before e more e) in
      let prefix : take (length before) entries ≡ before =
      ap (λ (l : List Entry). take (length before) l) parts ∙ take-append_seam before (e ∷ more) in
      subst (λ (l : List Entry). IsAdded p l e) prefix (log.added (length before) e at)

  -- one entry more is copied, or not
  by_copy : (e : Entry) (more before copies : List Entry) (r : Result Entry Refused) → entries ≡ before ++ e ∷ more → AreFollowed q before copies → copy_of q copies e ≡ r
      → ((c : Entry) → AreFollowed q (before ++ e ∷ []) (copies ++ c ∷ []) → Follows q entries (copying_from q more (copies ++ c ∷ [])))
      → Follows q entries (copied_or copies r (λ c. copying_from q more (copies ++ c ∷ [])))
  by_copy e more before copies (Ok c) parts so is on =
      on c (followed_more p q log.params sound before copies e c (added_at before e more parts).proper is so)
  by_copy e more before copies (Err refused) parts so is on =
      room_alone q copies e (record { params = p; before = before; alike = so.alike; added = added_at before e more parts }) refused is

  -- the rest behind the first ones
  follows : (more before copies : List Entry) → entries ≡ before ++ more → AreFollowed q before copies → Follows q entries (copying_from q more copies)
  follows [] before copies parts so = subst (λ (l : List Entry). AreFollowed q l copies) (sym (parts ∙ append-nil before)) so
  follows (e ∷ more) before copies parts so =
      by_copy e more before copies (copy_of q copies e) parts so refl
      (λ c next. follows more (before ++ e ∷ []) (copies ++ c ∷ []) (parts ∙ sym (append_assoc before (e ∷ []) more)) next)

  -- all of them
  pub all_follow : Follows q entries (copying q entries)
  all_follow = follows entries [] [] refl (followed_none q sound)

  -- nothing but want of slots or of room stops them
  pub only_room : (seq : ℕ) (refused : Refused) → copying q entries ≡ StoppedAt seq refused → IsWantOfRoom refused
  only_room seq refused is = subst (Follows q entries) is all_follow

  pub copies_follow : (copies : List Entry) → copying q entries ≡ Copied copies → AreFollowed q entries copies
  copies_follow copies is = subst (Follows q entries) is all_follow
