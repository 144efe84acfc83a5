-- Where a cache has nothing to send memory stays, whether the media serves or fails.
use Rattle.std.proofs.Common.{ℕ, zero, suc, ◌≡◌, List, [], ◌∷◌, map, Option, Some, None, inl, refl, sym, ap, subst, ◌∙◌}
use Rattle.std.specs.Prelude.{option_map, take, drop}
use Rattle.std.proofs.lemmas.Option.{same_Some}
use Rattle.fam_base.specs.Image.{Image, eight, line_at, with_line}
use Rattle.fam_base.proofs.ImageLemmas.{with_line-line_at}
use Rattle.fam_machine.specs.declared.cell.Cell.{Cell}
use Rattle.fam_machine.specs.declared.cell.Cell.TheVariants.{Absent, Clean, Dirty}
use Rattle.fam_machine.specs.declared.op.Op.{Op}
use Rattle.fam_machine.specs.declared.op.Op.TheVariants.{Load, Store, WriteBack, Fence, Invalidate, Digest}
use Rattle.fam_machine.specs.Caches.{asked_lines, cell_at}
use Rattle.fam_machine.specs.HostMoves.{Evict, Fetch, Leak, Move, failed_fetch, move_failed, moved}
use Rattle.fam_machine.specs.OneLine.{IsAsked, IsDirty, failed_leak, failed_send, leaked, sent}
use Rattle.fam_machine.specs.Operations.{Breaking, Failure, Machine, failed, first_not_sent, operated, send_lines}
use Rattle.fam_machine.proofs.Failing.{brought_fails, send_fails}
use Rattle.fam_machine.specs.Fences.{IsAmong}
use Rattle.fam_machine.proofs.FenceLemmas.{among_is_asked}

-- A copy that isn't dirty.

pub sent_none : (w : List ℕ) (c : Cell) → (IsDirty c → ⊥) → sent w c ≡ w
sent_none w Absent clean = refl
sent_none w (Clean words) clean = refl
sent_none w (Dirty a words) clean = absurd (clean refl)

pub none_fails : (mask : ℕ) (w : List ℕ) (c : Cell) → (IsDirty c → ⊥) → failed_send mask w c ≡ None
none_fails mask w Absent clean = refl
none_fails mask w (Clean words) clean = refl
none_fails mask w (Dirty a words) clean = absurd (clean refl)

leaked_none : (mask : ℕ) (w : List ℕ) (c : Cell) → (IsDirty c → ⊥) → leaked mask w c ≡ w
leaked_none mask w Absent clean = refl
leaked_none mask w (Clean words) clean = refl
leaked_none mask w (Dirty a words) clean = absurd (clean refl)

no_leak_fails : (mask through : ℕ) (w : List ℕ) (c : Cell) → (IsDirty c → ⊥) → failed_leak mask through w c ≡ None
no_leak_fails mask through w Absent clean = refl
no_leak_fails mask through w (Clean words) clean = refl
no_leak_fails mask through w (Dirty a words) clean = absurd (clean refl)

asked_dirty : (c : Cell) → IsAsked c → IsDirty c
asked_dirty Absent asked = asked
asked_dirty (Clean words) asked = asked
asked_dirty (Dirty a words) asked = refl

-- A whole cache.

drop_none : (n : ℕ) → ◌≡◌ {A = List ℕ} (drop n []) []
drop_none zero = refl
drop_none (suc n) = refl

module _ (m : Machine) (normal : map eight m.image ≡ m.image) (clean : (l : ℕ) → IsDirty (cell_at m.cache l) → ⊥) where
  -- the next fence sends nothing
  none_asked_for : asked_lines m.cache ≡ []
  none_asked_for = go (asked_lines m.cache) refl
    where
      go : (lines : List ℕ) → asked_lines m.cache ≡ lines → asked_lines m.cache ≡ []
      go [] is = is
      go (q ∷ lines) is = absurd (clean q (asked_dirty (cell_at m.cache q) (among_is_asked m.cache q (subst (IsAmong q) (sym is) (inl refl)))))

  same_line : (l : ℕ) (w : List ℕ) → w ≡ line_at m.image l → with_line l w m.image ≡ m.image
  same_line l w is = ap (λ (w : List ℕ). with_line l w m.image) is ∙ with_line-line_at m.image normal l

  pub operated_still : (op : Op) → (operated op m).image ≡ m.image
  operated_still Fence = ap (λ (lines : List ℕ). (send_lines lines m).image) none_asked_for
  operated_still (Invalidate l) = same_line l.0 _ (sent_none (line_at m.image l.0) (cell_at m.cache l.0) (clean l.0))
  operated_still other = refl

  no_fence_fails : (through : Breaking) → failed through Fence m ≡ None
  no_fence_fails through =
      ap (λ (lines : List ℕ). first_not_sent through.mask (drop through.sent lines) (send_lines (take through.sent (asked_lines m.cache)) m)) none_asked_for
      ∙ ap (λ (lines : List ℕ). first_not_sent through.mask lines (send_lines (take through.sent (asked_lines m.cache)) m)) (drop_none through.sent)

  pub failed_still : (through : Breaking) (op : Op) (failure : Failure) → failed through op m ≡ Some failure → failure.left.image ≡ m.image
  failed_still through (Load l k) failure is = ap (λ (f : Failure). f.left.image) (brought_fails l m (cell_at m.cache l.0) failure is)
  failed_still through (Store l k value) failure is = ap (λ (f : Failure). f.left.image) (brought_fails l m (cell_at m.cache l.0) failure is)
  failed_still through (WriteBack l) failure is = absurd cc
  failed_still through Fence failure is = absurd (let none : failed through Fence m ≡ None = no_fence_fails through in cc)
  failed_still through (Invalidate l) failure is =
      let sends = send_fails l m (failed_send through.mask (line_at m.image l.0) (cell_at m.cache l.0)) failure is in
      absurd (let none : Some sends.0 ≡ None = sym sends.1 ∙ none_fails through.mask (line_at m.image l.0) (cell_at m.cache l.0) (clean l.0) in cc)
  failed_still through Digest failure is = absurd cc

  pub moved_still : (move : Move) (l : ℕ) → (moved move l m).image ≡ m.image
  moved_still Evict l = same_line l _ (sent_none (line_at m.image l) (cell_at m.cache l) (clean l))
  moved_still (Leak mask) l = same_line l _ (leaked_none mask (line_at m.image l) (cell_at m.cache l) (clean l))
  moved_still (Fetch mask) l = same_line l _ refl

  fetch_says : (l : ℕ) (c : Cell) (left : Image) → option_map (λ words. with_line l words m.image) (failed_fetch (line_at m.image l) c) ≡ Some left → left ≡ m.image
  fetch_says l Absent left is = sym (same_Some _ left is) ∙ same_line l _ refl
  fetch_says l (Clean words) left is = sym (same_Some _ left is) ∙ same_line l _ refl
  fetch_says l (Dirty a words) left is = absurd cc

  no_words : (l : ℕ) (o : Option (List ℕ)) (left : Image) → o ≡ None → option_map (λ words. with_line l words m.image) o ≡ Some left → ⊥
  no_words l None left none is = cc
  no_words l (Some words) left none is = cc

  pub move_failed_still : (move : Move) (l through : ℕ) (left : Image) → move_failed move l through m ≡ Some left → left ≡ m.image
  move_failed_still Evict l through left is = absurd (no_words l _ left (none_fails through (line_at m.image l) (cell_at m.cache l) (clean l)) is)
  move_failed_still (Leak mask) l through left is = absurd (no_words l _ left (no_leak_fails mask through (line_at m.image l) (cell_at m.cache l) (clean l)) is)
  move_failed_still (Fetch mask) l through left is = fetch_says l (cell_at m.cache l) left is
