-- What the calls of the media make of one line, as the machine says it.
use Rattle.std.proofs.Common.{Bool, ◌≡◌, ℕ, List, [], Option, Some, None, unwrap_or, refl, sym, ap, subst, ◌∙◌, lit<}
use Rattle.std.specs.Option.{option_map}
use Rattle.fam_base.specs.Image.{Image, eight, line_at, with_line, masked, with_masked, IsNormal}
use Rattle.fam_base.proofs.ImageLemmas.{with_line-line_at}
use Rattle.fam_machine.specs.declared.cell.Cell.{Cell}
use Rattle.fam_machine.specs.declared.cell.Cell.TheVariants.{Absent, Clean, Dirty}
use Rattle.fam_machine.specs.Caches.{Cache, cell_at, cell_changed, line_changed, with_cell}
use Rattle.fam_machine.proofs.CacheLemmas.{cell_at-with_cell_same, with_cell_own}
use Rattle.fam_machine.specs.OneLine.{IsHeld, IsDirty, brought, fetched, leaked, sent, failed_send, failed_leak}
use Rattle.fam_media.specs.Outside.{IfModelled, IsTorn}
use Rattle.fam_cache.specs.Effects.{FromMemory, FailsTo}
use Rattle.fam_cache.specs.Blocks.{normal}

-- an image that is modelled is the one
modelled_is_one : (a b : Image) (P : Image → Type 0) → P a → Some a ≡ Some b → P b
modelled_is_one a b P p is = subst P (ap (λ (o : Option Image). unwrap_or o []) is) p

-- what holds of any words of memory
pub from_any : (modelled : Option Image) (line : ℕ) (P : List ℕ → Type 0) → ((memory : List ℕ) → P memory) → FromMemory modelled line P
from_any None line P all = record {
  memory = eight [];
  whole = refl;
  modelled_is = λ content is. absurd cc;
  is = all (eight []);
}
from_any (Some image) line P all = record {
  memory = line_at image line;
  whole = refl;
  modelled_is = λ content is. modelled_is_one image content (λ (i : Image). line_at image line ≡ line_at i line) refl is;
  is = all (line_at image line);
}

held_stays : (copy : Cell) → IsHeld (normal copy) → (memory : List ℕ) → normal copy ≡ brought memory (normal copy)
held_stays Absent is memory = absurd cc
held_stays (Clean words) is memory = refl
held_stays (Dirty a words) is memory = refl

dirty_stays : (copy : Cell) (mask : ℕ) → IsDirty (normal copy) → (memory : List ℕ) → normal copy ≡ fetched mask memory (normal copy)
dirty_stays Absent mask is memory = absurd cc
dirty_stays (Clean words) mask is memory = absurd cc
dirty_stays (Dirty a words) mask is memory = refl

-- a held line is not brought
pub held_kept : (modelled : Option Image) (line : ℕ) (copy : Cell) → IsHeld (normal copy) → FromMemory modelled line (λ memory. normal copy ≡ brought memory (normal copy))
held_kept modelled line copy is = from_any modelled line (λ memory. normal copy ≡ brought memory (normal copy)) (held_stays copy is)

-- an absent copy is brought, with the words that were read
pub absent_brought : (modelled : Option Image) (line : ℕ) (words : List ℕ) (copy : Cell) → copy ≡ Absent
    → IfModelled modelled (λ lines. eight words ≡ line_at lines line)
    → FromMemory modelled line (λ memory. Clean (eight words) ≡ brought memory (normal copy))
absent_brought modelled line words copy is read = record {
  memory = eight words;
  whole = refl;
  modelled_is = read;
  is = sym (ap (λ (c : Cell). brought (eight words) (normal c)) is);
}

pub absent_unheld : (copy : Cell) → copy ≡ Absent → IsHeld (normal copy) → ⊥
absent_unheld Absent is held = absurd cc
absent_unheld (Clean words) is held = absurd cc
absent_unheld (Dirty a words) is held = absurd cc

-- a copy that is held stays where it would be brought
pub held_still : (cell : Cell) → IsHeld cell → (memory : List ℕ) → brought memory cell ≡ cell
held_still Absent is memory = absurd cc
held_still (Clean words) is memory = refl
held_still (Dirty a words) is memory = refl

-- to bring a held line changes nothing
pub held_same : (modelled : Option Image) (line : ℕ) (cache : Cache) → IsHeld (cell_at cache line) → FromMemory modelled line (λ memory. cache ≡ cell_changed line (brought memory) cache)
held_same modelled line cache is =
    from_any modelled line (λ memory. cache ≡ cell_changed line (brought memory) cache)
    (λ memory. sym (ap (λ (cell : Cell). with_cell line cell cache) (held_still (cell_at cache line) is memory) ∙ with_cell_own line cache))

-- an absent line is clean behind it, with memory's words
pub brought_absent : (modelled : Option Image) (line : ℕ) (words : List ℕ) (old new : Cache) → cell_at old line ≡ Absent
    → IfModelled modelled (λ lines. eight words ≡ line_at lines line) → new ≡ with_cell line (Clean (eight words)) old
    → FromMemory modelled line (λ memory. new ≡ cell_changed line (brought memory) old)
brought_absent modelled line words old new absent read is = record {
  memory = eight words;
  whole = refl;
  modelled_is = read;
  is = is ∙ sym (ap (λ (cell : Cell). with_cell line (brought (eight words) cell) old) absent);
}

pub clean_held : (line : ℕ) (words : List ℕ) (old new : Cache) → new ≡ with_cell line (Clean words) old → IsHeld (cell_at new line)
clean_held line words old new is =
    let cell : Cell = Clean words in
    subst IsHeld {x = cell} (sym (ap (λ (cache : Cache). cell_at cache line) is ∙ cell_at-with_cell_same line cell old)) refl

-- a dirty line is not refreshed
pub dirty_kept : (modelled : Option Image) (line mask : ℕ) (copy : Cell) → IsDirty (normal copy) → FromMemory modelled line (λ memory. normal copy ≡ fetched mask memory (normal copy))
dirty_kept modelled line mask copy is = from_any modelled line (λ memory. normal copy ≡ fetched mask memory (normal copy)) (dirty_stays copy mask is)

eight_masked_words : (mask : ℕ) (new old : List ℕ) → eight (masked mask new old) ≡ masked mask (eight new) (eight old)
unfolding masked
eight_masked_words mask new old = refl

-- the masked words of a clean line are refreshed from what was read
pub refreshed : (modelled : Option Image) (line mask : ℕ) (words read new : List ℕ) (copy : Cell)
    → IfModelled modelled (λ lines. eight read ≡ line_at lines line) → new ≡ masked mask read words → copy ≡ Clean words →
    FromMemory modelled line (λ memory. Clean (eight new) ≡ fetched mask memory (normal copy))
refreshed modelled line mask words read new copy is_read new_is copy_is = record {
  memory = eight read;
  whole = refl;
  modelled_is = is_read;
  is = ap (λ (w : List ℕ). Clean w) (ap eight new_is ∙ eight_masked_words mask read words) ∙ sym (ap (λ (c : Cell). fetched mask (eight read) (normal c)) copy_is);
}

-- the words that a leak writes
leak_words : (image : Image) (line mask : ℕ) (words read new : List ℕ) → eight read ≡ line_at image line → new ≡ masked mask words read → new ≡ masked mask (eight words) (line_at image line)
unfolding masked
leak_words image line mask words read new is_read new_is = new_is ∙ ap (masked mask (eight words)) is_read

leaked_line : (a : Bool) (modelled : Option Image) (line mask : ℕ) (words read new : List ℕ) → IfModelled modelled (λ lines. eight read ≡ line_at lines line) → new ≡ masked mask words read →
    option_map (with_line line new) modelled ≡ option_map (line_changed line (λ memory. leaked mask memory (normal (Dirty a words)))) modelled
leaked_line a None line mask words read new is_read new_is = refl
leaked_line a (Some image) line mask words read new is_read new_is =
    ap (λ (w : List ℕ). Some (with_line line w image)) (leak_words image line mask words read new (is_read image refl) new_is)

-- a leak that was written
pub leaked_image : {a : Bool} (old between after : Option Image) (line mask : ℕ) (words read new : List ℕ) (copy : Cell) → between ≡ old
    → IfModelled old (λ lines. eight read ≡ line_at lines line) → new ≡ masked mask words read → copy ≡ Dirty a words →
    after ≡ option_map (with_line line new) between → after ≡ option_map (line_changed line (λ memory. leaked mask memory (normal copy))) old
leaked_image {a} old between after line mask words read new copy same is_read new_is copy_is written =
    written ∙ ap (option_map (with_line line new)) same ∙ leaked_line a old line mask words read new is_read new_is
    ∙ sym (ap (λ (c : Cell). option_map (line_changed line (λ memory. leaked mask memory (normal c))) old) copy_is)

torn_line : (image : Image) (line through : ℕ) (words : List ℕ) → with_masked line words through image ≡ with_line line (masked through (eight words) (line_at image line)) image
unfolding masked
torn_line image line through words = refl

-- A copy that memory lacks no word of is not sent.

absent_stays : (state : Option Image) (line : ℕ) → IsNormal state → state ≡ option_map (line_changed line (λ memory. sent memory Absent)) state
absent_stays None line known = refl
absent_stays (Some image) line known = sym (ap (λ (i : Image). Some i) (with_line-line_at image known line))

pub absent_unsent : (state : Option Image) (line : ℕ) (copy : Cell) → IsNormal state → copy ≡ Absent → state ≡ option_map (line_changed line (λ memory. sent memory (normal copy))) state
absent_unsent state line copy known is =
    absent_stays state line known ∙ sym (ap (λ (c : Cell). option_map (line_changed line (λ memory. sent memory (normal c))) state) is)

pub clean_unsent : {words : List ℕ} (state : Option Image) (line : ℕ) (copy : Cell) → IsNormal state → copy ≡ Clean words
    → state ≡ option_map (line_changed line (λ memory. sent memory (normal copy))) state
clean_unsent state line copy known is =
    absent_stays state line known ∙ sym (ap (λ (c : Cell). option_map (line_changed line (λ memory. sent memory (normal c))) state) is)

-- nor are any words of it
pub absent_unleaked : (state : Option Image) (line mask : ℕ) (copy : Cell) → IsNormal state → copy ≡ Absent → state ≡ option_map (line_changed line (λ memory. leaked mask memory (normal copy))) state
absent_unleaked state line mask copy known is =
    absent_stays state line known ∙ sym (ap (λ (c : Cell). option_map (line_changed line (λ memory. leaked mask memory (normal c))) state) is)

pub clean_unleaked : {words : List ℕ} (state : Option Image) (line mask : ℕ) (copy : Cell) → IsNormal state → copy ≡ Clean words
    → state ≡ option_map (line_changed line (λ memory. leaked mask memory (normal copy))) state
clean_unleaked state line mask copy known is =
    absent_stays state line known ∙ sym (ap (λ (c : Cell). option_map (line_changed line (λ memory. leaked mask memory (normal c))) state) is)

-- a send that was written
pub dirty_sent : {a : Bool} {words : List ℕ} (state after : Option Image) (line : ℕ) (copy : Cell) → copy ≡ Dirty a words
    → after ≡ option_map (with_line line words) state → after ≡ option_map (line_changed line (λ memory. sent memory (normal copy))) state
dirty_sent state after line copy is written =
    written ∙ sym (ap (λ (c : Cell). option_map (line_changed line (λ memory. sent memory (normal c))) state) is)

-- a send that failed
pub torn_send : {a : Bool} (old after : Option Image) (line : ℕ) (words : List ℕ) (copy : Cell) → copy ≡ Dirty a words → IsTorn old after line words →
    IfModelled old (λ image. FailsTo line (λ through memory. failed_send through memory (normal copy)) image after)
torn_send old after line words copy copy_is torn image is = record {
  through = torn.mask;
  fits = torn.fits;
  words = masked torn.mask (eight words) (line_at image line);
  left = ap (λ (c : Cell). failed_send torn.mask (line_at image line) (normal c)) copy_is;
  written = torn.written ∙ ap (option_map (with_masked line words torn.mask)) is ∙ ap (λ (i : Image). Some i) (torn_line image line torn.mask words);
}

torn_leak_line : (image : Image) (line through mask : ℕ) (words new : List ℕ) → new ≡ masked mask (eight words) (line_at image line) →
    with_masked line new through image ≡ with_line line (masked through (masked mask (eight words) (line_at image line)) (line_at image line)) image
torn_leak_line image line through mask words new new_is =
    torn_line image line through new
    ∙ ap (λ (w : List ℕ). with_line line (masked through w (line_at image line)) image) (ap eight new_is ∙ eight_masked_words mask (eight words) (line_at image line))

-- a leak whose write failed
pub torn_leak : {a : Bool} (old between after : Option Image) (line mask : ℕ) (words read new : List ℕ) (copy : Cell) → between ≡ old
    → IfModelled old (λ lines. eight read ≡ line_at lines line) → new ≡ masked mask words read → copy ≡ Dirty a words →
    IsTorn between after line new → IfModelled old (λ image. FailsTo line (λ through memory. failed_leak mask through memory (normal copy)) image after)
torn_leak old between after line mask words read new copy same is_read new_is copy_is torn image is = record {
  through = torn.mask;
  fits = torn.fits;
  words = masked torn.mask (masked mask (eight words) (line_at image line)) (line_at image line);
  left = ap (λ (c : Cell). failed_leak mask torn.mask (line_at image line) (normal c)) copy_is;
  written =
      torn.written ∙ ap (option_map (with_masked line new torn.mask)) (same ∙ is)
      ∙ ap (λ (i : Image). Some i) (torn_leak_line image line torn.mask mask words new (leak_words image line mask words read new (is_read image is) new_is));
}

no_words : (image : Image) (line : ℕ) (new : List ℕ) → masked 0 new (line_at image line) ≡ line_at image line
unfolding masked
no_words image line new = refl

normal_modelled : (old : Option Image) (image : Image) → IsNormal old → old ≡ Some image → IsNormal (Some image)
normal_modelled old image known is = subst IsNormal is known

-- a leak whose read failed
pub unread_leak : {a : Bool} (old after : Option Image) (line mask : ℕ) (words : List ℕ) (copy : Cell) → IsNormal old → copy ≡ Dirty a words → after ≡ old →
    IfModelled old (λ image. FailsTo line (λ through memory. failed_leak mask through memory (normal copy)) image after)
unread_leak old after line mask words copy known copy_is same image is = record {
  through = 0;
  fits = lit< tt;
  words = masked 0 (masked mask (eight words) (line_at image line)) (line_at image line);
  left = ap (λ (c : Cell). failed_leak mask 0 (line_at image line) (normal c)) copy_is;
  written =
      same ∙ is
      ∙ sym (ap (λ (w : List ℕ). Some (with_line line w image)) (no_words image line _) ∙ ap (λ (i : Image). Some i) (with_line-line_at image (normal_modelled old image known is) line));
}
