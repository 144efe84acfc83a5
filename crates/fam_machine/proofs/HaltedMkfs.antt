-- What memory is left where the maker of a file system halts, and what it reads as.
use Rattle.std.proofs.Common.{ℕ, zero, suc, ◌≡◌, ◌+◌, ◌-◌, ◌/◌, ◌<◌, ◌≤◌, List, [], ◌∷◌, ◌++◌, length, map, refl, sym, ap, inl, inr, ◌∙◌, arith}
use Rattle.std.specs.Prelude.{min, take, slice_index, slice_range}
use Rattle.std.specs.List.{flat_map}
use Rattle.std.proofs.Math.Seq.{take-append-add}
use Rattle.std.proofs.lemmas.Bool.{cases_lt}
use Rattle.fam_base.specs.declared.entry.Params.{Params}
use Rattle.fam_base.specs.Image.{Image, eight, line_at, with_line}
use Rattle.fam_base.proofs.ImageLemmas.{line_at-with_line}
use Rattle.fam_format.specs.declared.faults.SuperFault.TheVariants as super
use Rattle.fam_format.specs.Layout.{gate_line, log_line}
use Rattle.fam_format.specs.Log.{log_words}
use Rattle.fam_format.specs.Reading.{NoSuperblock, reading}
use Rattle.fam_format.specs.Super.{magic_line, super_words}
use Rattle.fam_rules.specs.Written.{Put, format_puts, put_line, put_lines, zero_line}
use Rattle.fam_rules.proofs.Puts.{AreElsewhere, put_elsewhere}
use Rattle.fam_rules.proofs.TornHead.{none_there}
use Rattle.fam_machine.specs.declared.op.Op.{Op}
use Rattle.fam_machine.specs.EightWords.{HasEightWords}
use Rattle.fam_machine.specs.Mkfs.{IsHeadSent, drop_line, first_sent, halted_image, halted_ops, put_ops, read_ops, write_ops}
use Rattle.fam_machine.specs.Operations.{Machine, machine, operated_all}
use Rattle.fam_machine.proofs.CutMkfs.{read_stays}
use Rattle.fam_machine.proofs.LinePuts.{operated_all-append}
use Rattle.fam_machine.proofs.MkfsOps.{put_one, whole_put, whole_read}

-- Some of the operations that put lines.

-- nine operations more put one line more
one_more : (n : ℕ) → 9 ≤ n → n / 9 ≡ suc ((n - 9) / 9)
one_more n many = omega (arith, many)

few_lines : (n : ℕ) → n < 9 → n / 9 ≡ 0
few_lines n few = omega (arith, few)

nine_more : (n : ℕ) {count : ℕ} → count ≡ 9 → 9 ≤ n → n ≡ count + (n - 9)
nine_more n is many = omega (arith, is, many)

-- nothing is taken of nothing
no_ops : (n : ℕ) → ◌≡◌ {A = List Op} (take n []) []
no_ops zero = refl
no_ops (suc n) = refl

no_puts : (n : ℕ) → ◌≡◌ {A = List Put} (take n []) []
no_puts zero = refl
no_puts (suc n) = refl

-- before its nine operations a line isn't put
few_stay : (n : ℕ) → n < 9 → (put : Put) (rest : List Op) (m : Machine) → (operated_all (take n (put_ops put ++ rest)) m).image ≡ m.image
unfolding put_ops
few_stay zero few put rest m = refl
few_stay (suc zero) few put rest m = refl
few_stay (suc (suc zero)) few put rest m = refl
few_stay (suc (suc (suc zero))) few put rest m = refl
few_stay (suc (suc (suc (suc zero)))) few put rest m = refl
few_stay (suc (suc (suc (suc (suc zero))))) few put rest m = refl
few_stay (suc (suc (suc (suc (suc (suc zero)))))) few put rest m = refl
few_stay (suc (suc (suc (suc (suc (suc (suc zero))))))) few put rest m = refl
few_stay (suc (suc (suc (suc (suc (suc (suc (suc zero)))))))) few put rest m = refl
few_stay (suc (suc (suc (suc (suc (suc (suc (suc (suc n))))))))) few put rest m = absurd (omega arith)

nine : (put : Put) → length (put_ops put) ≡ 9
unfolding put_ops
nine put = refl

-- so it is of all puts
front_puts : (puts : List Put) (n : ℕ) (m : Machine) → HasEightWords m → (operated_all (take n (flat_map put_ops puts)) m).image ≡ put_lines (take (n / 9) puts) m.image
front_puts [] n m whole = ap (λ (l : List Op). (operated_all l m).image) (no_ops n) ∙ sym (ap (λ (l : List Put). put_lines l m.image) (no_puts (n / 9)))
front_puts (put ∷ puts) n m whole =
    elim (cases_lt n 9) [
      | inl few ↦
          few_stay n few put (flat_map put_ops puts) m
          ∙ sym (ap (λ (k : ℕ). put_lines (take k (put ∷ puts)) m.image) (few_lines n few))
      | inr many ↦
          let more = n - 9 in
          let is : n ≡ length (put_ops put) + more = nine_more n (nine put) many in
          let next : Machine = machine (put_line m.image put) (drop_line m.cache put) in
          ap (λ (k : ℕ). (operated_all (take k (put_ops put ++ flat_map put_ops puts)) m).image) is
          ∙ ap (λ (l : List Op). (operated_all l m).image) (take-append-add (put_ops put) (flat_map put_ops puts) more)
          ∙ ap (λ (x : Machine). x.image)
          (operated_all-append (put_ops put) (take more (flat_map put_ops puts)) m ∙ ap (operated_all (take more (flat_map put_ops puts))) (put_one put m whole))
          ∙ front_puts puts more next (whole_put put m whole)
          ∙ sym (ap (λ (k : ℕ). put_lines (take k (put ∷ puts)) m.image) (one_more n many))
    ]

pub halted_left : (k : ℕ) (p : Params) (m : Machine) → map eight m.image ≡ m.image → HasEightWords m → IsHeadSent m.cache → (operated_all (halted_ops k p) m).image ≡ halted_image k p m.image
unfolding write_ops
halted_left k p m normal whole head =
    ap (λ (x : Machine). x.image) (operated_all-append read_ops (take (min k 80 - 27) (write_ops p)) m)
    ∙ front_puts (format_puts p) (min k 80 - 27) (operated_all read_ops m) (whole_read m whole)
    ∙ ap (put_lines (take ((min k 80 - 27) / 9) (format_puts p))) (read_stays m normal head)

-- Before the first line is sent, and behind it.

lines_before : (k : ℕ) → k < first_sent → (min k 80 - 27) / 9 ≡ 0
lines_before k early = omega arith

pub none_put : (k : ℕ) (p : Params) (image : Image) → k < first_sent → halted_image k p image ≡ image
none_put k p image early = ap (λ (n : ℕ). put_lines (take n (format_puts p)) image) (lines_before k early)

-- the puts behind the first one, of which none is of line 0 but the last
rest_off : (p : Params) (j : ℕ) → j ≤ 4
    → AreElsewhere 0 (take j ((gate_line, zero_line) ∷ (log_line, log_words p) ∷ (1, slice_range (super_words p) 0 8) ∷
    (2, slice_range (super_words p) 8 16) ∷ (0, magic_line) ∷ []))
rest_off p zero few = tt
rest_off p (suc zero) few = (λ e. omega arith, tt)
rest_off p (suc (suc zero)) few = (λ e. omega arith, (λ e. omega arith, tt))
rest_off p (suc (suc (suc zero))) few = (λ e. omega arith, (λ e. omega arith, (λ e. omega arith, tt)))
rest_off p (suc (suc (suc (suc zero)))) few = (λ e. omega arith, (λ e. omega arith, (λ e. omega arith, (λ e. omega arith, tt))))
rest_off p (suc (suc (suc (suc (suc j))))) few = absurd (omega arith)

module _ (k : ℕ) (p : Params) (image : Image) (late : first_sent ≤ k) (some : 0 < length image) where
  -- how many lines were put behind the first
  further : ℕ
  further = (min k 80 - 27) / 9 - 1

  lines_then : (min k 80 - 27) / 9 ≡ suc further
  unfolding further
  lines_then = omega (arith, late)

  few_then : further ≤ 4
  unfolding further
  few_then = omega (arith, late)

  pub cleared_line : line_at (halted_image k p image) 0 ≡ zero_line
  cleared_line =
      ap (λ (n : ℕ). line_at (put_lines (take n (format_puts p)) image) 0) lines_then
      ∙ put_elsewhere _ (with_line 0 zero_line image) 0 (rest_off p further few_then)
      ∙ line_at-with_line image 0 zero_line some

  pub cleared_word : slice_index (line_at (halted_image k p image) 0) 0 ≡ 0
  cleared_word = ap (λ (w : List ℕ). slice_index w 0) cleared_line

  pub halted_none : reading (halted_image k p image) ≡ NoSuperblock (super.NoSuper 0)
  halted_none = none_there (halted_image k p image) cleared_word
