-- Lines 0, 1 and 2 are read: what the superblock says then.
use Rattle.std.proofs.Common.{ℕ, ◌≡◌, ◌≢◌, List, [], ◌∷◌, ◌++◌, Option, Some, sym, ap, ap₂, ◌∙◌, arith}
use Rattle.std.specs.Prelude.{slice_index}
use Rattle.fam_base.specs.Image.{Image, eight, line_at}
use Rattle.fam_base.proofs.ImageLemmas.{line_at-with_line_other}
use Rattle.fam_format.specs.Reading.{super_in}
use Rattle.fam_format.specs.Super.{super_of}
use Rattle.fam_machine.specs.declared.cell.Cell.{Cell}
use Rattle.fam_machine.specs.declared.cell.Cell.TheVariants.{Clean}
use Rattle.fam_machine.specs.declared.op.Op.TheVariants.{Invalidate}
use Rattle.fam_machine.specs.Caches.{Cache, cell_at}
use Rattle.fam_machine.specs.OneLine.{sent, words_of}
use Rattle.fam_machine.specs.Operations.{Machine, machine, operated, operated_all, load_ops, line_no}
use Rattle.fam_machine.proofs.CacheLemmas.{cell_at-with_cell_same}
use Rattle.fam_machine.proofs.LinePuts.{line_loaded}
use Rattle.fam_machine.specs.Mkfs.{read_ops}
use Rattle.fam_base.specs.declared.line.LineNo.{LineNo}
use Rattle.fam_cache.specs.Runs.{CacheOver, AreDone, AreCut}
use Rattle.fam_cache.proofs.Runs.{done_both, cut_first, cut_second}

-- the image after a line was loaded
unfoldable pub loaded_image : ℕ → Machine → Image
loaded_image line m = (operated_all (load_ops line 8) m).image

-- the loaded words are memory's
loaded_words : (line : ℕ) (s t : CacheOver) (image : Image) → AreDone (load_ops line 8) s t → s.image ≡ Some image
    → eight (words_of (cell_at t.lines line)) ≡ line_at (loaded_image line (machine image s.lines)) line
unfolding loaded_image
loaded_words line s t image p is =
    let m = machine image s.lines in
    let after = (operated (Invalidate (line_no line)) m).image in
    ap (λ (cache : Cache). eight (words_of (cell_at cache line))) ((p.is image is).cache ∙ ap (λ (m : Machine). m.cache) (line_loaded line m))
    ∙ ap (λ (cell : Cell). eight (words_of cell)) (cell_at-with_cell_same line (Clean (line_at after line)) s.lines)
    ∙ sym (ap (λ (m : Machine). line_at m.image line) (line_loaded line m))

-- memory's other lines are as before
loaded_elsewhere : (line : ℕ) (m : Machine) (other : ℕ) → other ≢ line → line_at (loaded_image line m) other ≡ line_at m.image other
unfolding loaded_image
loaded_elsewhere line m other differs =
    ap (λ (m : Machine). line_at m.image other) (line_loaded line m)
    ∙ line_at-with_line_other m.image line (sent (line_at m.image line) (cell_at m.cache line)) other differs

modelled_loaded : (line : ℕ) (s t : CacheOver) (image : Image) → AreDone (load_ops line 8) s t → s.image ≡ Some image → t.image ≡ Some (loaded_image line (machine image s.lines))
unfolding loaded_image
modelled_loaded line s t image p is = (p.is image is).image

pub lines_read : (s t u v : CacheOver) → AreDone (load_ops 0 8) s t → AreDone (load_ops 1 8) t u → AreDone (load_ops 2 8) u v → AreDone read_ops s v
unfolding read_ops
lines_read s t u v p q r =
    done_both (load_ops 0 8) (load_ops 1 8 ++ load_ops 2 8) s t v p (done_both (load_ops 1 8) (load_ops 2 8) t u v q r)

pub cut_magic : (line : LineNo) (s t : CacheOver) → AreCut (load_ops 0 8) line s t → AreCut read_ops line s t
unfolding read_ops
cut_magic line s t b = cut_first (load_ops 0 8) (load_ops 1 8 ++ load_ops 2 8) line s t b

pub cut_prefix : (line : LineNo) (s t u : CacheOver) → AreDone (load_ops 0 8) s t → AreCut (load_ops 1 8) line t u → AreCut read_ops line s u
unfolding read_ops
cut_prefix line s t u p b =
    cut_second (load_ops 0 8) (load_ops 1 8 ++ load_ops 2 8) line s t u p (cut_first (load_ops 1 8) (load_ops 2 8) line t u b)

pub cut_rest : (line : LineNo) (s t u v : CacheOver) → AreDone (load_ops 0 8) s t → AreDone (load_ops 1 8) t u → AreCut (load_ops 2 8) line u v → AreCut read_ops line s v
unfolding read_ops
cut_rest line s t u v p q b =
    cut_second (load_ops 0 8) (load_ops 1 8 ++ load_ops 2 8) line s t v p (cut_second (load_ops 1 8) (load_ops 2 8) line t u v q b)

one_modelled : (modelled : Option Image) (a b : Image) → modelled ≡ Some a → modelled ≡ Some b → a ≡ b
one_modelled modelled a b is too = cc

-- what the words say is what memory says
pub super_loaded : (magic prefix rest : List ℕ) (s t u v : CacheOver) (image : Image) → AreDone (load_ops 0 8) s t → AreDone (load_ops 1 8) t u
    → AreDone (load_ops 2 8) u v → magic ≡ eight (words_of (cell_at t.lines 0)) → prefix ≡ eight (words_of (cell_at u.lines 1))
    → rest ≡ eight (words_of (cell_at v.lines 2)) → s.image ≡ Some image → (have : ℕ) → super_in (line_at (magic ∷ prefix ∷ rest ∷ [])) have
    ≡ super_in (line_at (operated_all read_ops (machine image s.lines)).image) have
super_loaded magic prefix rest s t u v image p q r m f e is have =
    let i1 = loaded_image 0 (machine image s.lines) in
    let i2 = loaded_image 1 (machine i1 t.lines) in
    let i3 = loaded_image 2 (machine i2 u.lines) in
    let now = (operated_all read_ops (machine image s.lines)).image in
    let is1 : t.image ≡ Some i1 = modelled_loaded 0 s t image p is in
    let is2 : u.image ≡ Some i2 = modelled_loaded 1 t u i1 q is1 in
    let is3 : v.image ≡ Some i3 = modelled_loaded 2 u v i2 r is2 in
    let end : i3 ≡ now = one_modelled v.image i3 now is3 ((lines_read s t u v p q r).is image is).image in
    let m1 : magic ≡ line_at now 0 = m ∙ loaded_words 0 s t image p is ∙ sym (loaded_elsewhere 1 (machine i1 t.lines) 0 (λ e. omega arith))
    ∙ sym (loaded_elsewhere 2 (machine i2 u.lines) 0 (λ e. omega arith)) ∙ ap (λ (i : Image). line_at i 0) end in
    let f1 : prefix ≡ line_at now 1 = f ∙ loaded_words 1 t u i1 q is1 ∙ sym (loaded_elsewhere 2 (machine i2 u.lines) 1 (λ e. omega arith)) ∙ ap (λ (i : Image). line_at i 1) end in
    let e1 : rest ≡ line_at now 2 = e ∙ loaded_words 2 u v i2 r is2 ∙ ap (λ (i : Image). line_at i 2) end in
    ap₂ (λ (w : ℕ) (ws : List ℕ). super_of w ws have) (ap (λ (ws : List ℕ). slice_index (eight ws) 0) m1)
    (ap₂ (λ (xs ys : List ℕ). eight xs ++ eight ys) f1 e1)
