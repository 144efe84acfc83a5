-- A fence, one sent line after another.
use Rattle.std.proofs.Common.{◌≡◌, ℕ, zero, suc, List, [], ◌∷◌, ◌++◌, take, drop, Option, Some, None, inl, refl, sym, ap, subst, ◌∙◌}
use Rattle.std.specs.Option.{option_map}
use Rattle.fam_base.specs.declared.line.LineNo.{LineNo}
use Rattle.fam_base.specs.Image.{Image, line_at}
use Rattle.fam_machine.specs.declared.op.Op.TheVariants.{Fence}
use Rattle.fam_machine.specs.Caches.{Cache, asked_lines, cell_at, cell_changed, line_changed}
use Rattle.fam_machine.specs.Cuts.{HasFailed, IsMachine}
use Rattle.fam_machine.specs.Fences.{IsAmong}
use Rattle.fam_machine.specs.OneLine.{IsAsked, cleaned, failed_send, sent}
use Rattle.fam_machine.specs.Operations.{Machine, first_not_sent, machine, operated, send_line, send_lines, torn_at}
use Rattle.fam_machine.proofs.FenceLemmas.{among_drop, among_is_asked}
use Rattle.fam_media.specs.Outside.{IfModelled}
use Rattle.fam_cache.specs.Effects.{FailsTo}
use Rattle.fam_cache.specs.Operations.{CleansSome, cleaned_lines}
use Rattle.fam_cache.specs.Runs.{CacheOver}

-- the first lines that were asked were sent, and the others are asked still
pub record HasSent (before now : CacheOver) : Type 0 where
  pub count : ℕ
  pub lines : now.lines ≡ cleaned_lines (take count (asked_lines before.lines)) before.lines
  pub rest : asked_lines now.lines ≡ drop count (asked_lines before.lines)
  pub image : now.image ≡ option_map (λ image. (send_lines (take count (asked_lines before.lines)) (machine image before.lines)).image) before.image

-- one more of a list
take_next : (n : ℕ) (xs : List ℕ) (l : ℕ) (tail : List ℕ) → drop n xs ≡ l ∷ tail → take (suc n) xs ≡ take n xs ++ l ∷ []
take_next n [] l tail is = absurd (nothing n is)
  where
    nothing : (n : ℕ) → drop n [] ≡ l ∷ tail → ⊥
    nothing zero e = absurd cc
    nothing (suc n) e = absurd cc
take_next zero (x ∷ xs) l tail is = cc
take_next (suc n) (x ∷ xs) l tail is = ap (λ (ls : List ℕ). x ∷ ls) (take_next n xs l tail is)

drop_next : (n : ℕ) (xs : List ℕ) (l : ℕ) (tail : List ℕ) → drop n xs ≡ l ∷ tail → drop (suc n) xs ≡ tail
drop_next n [] l tail is = absurd (nothing n is)
  where
    nothing : (n : ℕ) → drop n [] ≡ l ∷ tail → ⊥
    nothing zero e = absurd cc
    nothing (suc n) e = absurd cc
drop_next zero (x ∷ xs) l tail is = cc
drop_next (suc n) (x ∷ xs) l tail is = drop_next n xs l tail is

take_whole : (n : ℕ) (xs : List ℕ) → drop n xs ≡ [] → take n xs ≡ xs
take_whole zero xs is = sym is
take_whole (suc n) [] is = refl
take_whole (suc n) (x ∷ xs) is = ap (λ (ls : List ℕ). x ∷ ls) (take_whole n xs is)

-- one more line is sent
send_more : (lines : List ℕ) (l : ℕ) (m : Machine) → send_lines (lines ++ l ∷ []) m ≡ send_line l (send_lines lines m)
send_more [] l m = refl
send_more (x ∷ lines) l m = send_more lines l (send_line x m)

clean_more : (lines : List ℕ) (l : ℕ) (cache : Cache) → cleaned_lines (lines ++ l ∷ []) cache ≡ cell_changed l cleaned (cleaned_lines lines cache)
clean_more [] l cache = refl
clean_more (x ∷ lines) l cache = clean_more lines l (cell_changed x cleaned cache)

-- what is sent is clean
pub sent_cleaned : (lines : List ℕ) (m : Machine) → (send_lines lines m).cache ≡ cleaned_lines lines m.cache
sent_cleaned [] m = refl
sent_cleaned (x ∷ lines) m = sent_cleaned lines (send_line x m)

-- no line was sent
pub none_sent : (before : CacheOver) → HasSent before before
none_sent before = record { count = 0; lines = refl; rest = refl; image = same before.image }
  where
    same : (o : Option Image) → o ≡ option_map (λ (image : Image). (send_lines [] (machine image before.lines)).image) o
    same None = refl
    same (Some image) = refl

module _ (before now : CacheOver) (is : HasSent before now) where
  abbrev asked : List ℕ
  asked = asked_lines before.lines

  abbrev left : Image → Machine
  left image = send_lines (take is.count asked) (machine image before.lines)

  left_lines : (image : Image) → now.lines ≡ (left image).cache
  left_lines image = is.lines ∙ sym (sent_cleaned (take is.count asked) (machine image before.lines))

  -- one line more was sent
  pub sent_next : (next : CacheOver) (line : ℕ) (tail : List ℕ) → asked_lines now.lines ≡ line ∷ tail → asked_lines next.lines ≡ tail → next.lines ≡ cell_changed line cleaned now.lines →
      next.image ≡ option_map (line_changed line (λ memory. sent memory (cell_at now.lines line))) now.image → HasSent before next
  sent_next next line tail first rest cleans sends =
      let at : drop is.count asked ≡ line ∷ tail = sym is.rest ∙ first in
      let more : take (suc is.count) asked ≡ take is.count asked ++ line ∷ [] = take_next is.count asked line tail at in
      record {
        count = suc is.count;
        lines = cleans ∙ ap (cell_changed line cleaned) is.lines ∙ sym (clean_more (take is.count asked) line before.lines) ∙ sym (ap (λ (ls : List ℕ). cleaned_lines ls before.lines) more);
        rest = rest ∙ sym (drop_next is.count asked line tail at);
        image = sends ∙ ap (option_map (line_changed line (λ memory. sent memory (cell_at now.lines line)))) is.image ∙ imaged more before.image;
      }
    where
      imaged : take (suc is.count) asked ≡ take is.count asked ++ line ∷ [] → (o : Option Image)
          → option_map (line_changed line (λ memory. sent memory (cell_at now.lines line))) (option_map (λ (image : Image). (left image).image) o)
          ≡ option_map (λ (image : Image). (send_lines (take (suc is.count) asked) (machine image before.lines)).image) o
      imaged more None = refl
      imaged more (Some image) =
          ap (λ (c : Cache). Some (line_changed line (λ memory. sent memory (cell_at c line)) (left image).image)) (left_lines image)
          ∙ sym (ap (λ (m : Machine). Some m.image) (ap (λ (ls : List ℕ). send_lines ls (machine image before.lines)) more ∙ send_more (take is.count asked) line (machine image before.lines)))

  -- a line that is to be sent was asked for
  pub was_asked : (line : ℕ) (tail : List ℕ) → asked_lines now.lines ≡ line ∷ tail → IsAsked (cell_at before.lines line)
  was_asked line tail first =
      among_is_asked before.lines line (among_drop is.count asked line (subst (IsAmong line) (sym (sym is.rest ∙ first)) (inl refl)))

  -- all were sent
  pub all_cleaned : asked_lines now.lines ≡ [] → now.lines ≡ cleaned_lines (asked_lines before.lines) before.lines
  all_cleaned none = is.lines ∙ ap (λ (ls : List ℕ). cleaned_lines ls before.lines) (take_whole is.count asked (sym is.rest ∙ none))

  pub all_sent_here : asked_lines now.lines ≡ [] → IfModelled before.image (λ image. IsMachine (operated Fence (machine image before.lines)) now.image now.lines)
  all_sent_here none image modelled =
      let whole : take is.count asked ≡ asked = take_whole is.count asked (sym is.rest ∙ none) in
      record {
        image = is.image ∙ ap (option_map (λ (i : Image). (left i).image)) modelled ∙ ap (λ (ls : List ℕ). Some (send_lines ls (machine image before.lines)).image) whole;
        cache = left_lines image ∙ ap (λ (ls : List ℕ). (send_lines ls (machine image before.lines)).cache) whole;
      }

  -- the first ones were sent, where the next one can't be
  pub some_cleaned : CleansSome before.lines now.lines
  some_cleaned = record { count = is.count; is = is.lines }

  pub not_all_sent : (line : LineNo) (tail : List ℕ) (after : Option Image) (held : Cache) → held ≡ now.lines → asked_lines now.lines ≡ line.0 ∷ tail →
      IfModelled now.image (λ image. FailsTo line.0 (λ through memory. failed_send through memory (cell_at now.lines line.0)) image after) →
      IfModelled before.image (λ image. HasFailed Fence (machine image before.lines) line after held)
  not_all_sent line tail after held kept first torn image modelled =
      let at : drop is.count asked ≡ line.0 ∷ tail = sym is.rest ∙ first in
      let t = torn (left image).image (is.image ∙ ap (option_map (λ (i : Image). (left i).image)) modelled) in
      record {
        left = (torn_at line (left image) t.words).left;
        fails = record {
          through = record { mask = t.through; sent = is.count };
          fits = t.fits;
          is = ap (λ (ls : List ℕ). first_not_sent t.through ls (left image)) at
              ∙ ap (option_map (torn_at line (left image)))
              (sym (ap (λ (c : Cache). failed_send t.through (line_at (left image).image line.0) (cell_at c line.0)) (left_lines image)) ∙ t.left);
        };
        is = record { image = t.written; cache = kept ∙ left_lines image };
      }
