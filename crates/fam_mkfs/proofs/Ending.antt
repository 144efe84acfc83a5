-- How making a file system ends, by how its parts end.
use Rattle.std.proofs.Common.{ℕ, ◌≡◌, ◌<◌, ◌≤◌, Bool, true, false, List, ◌++◌, Option, None, Some, refl, inl, inr, sym, ap, subst, ◌∙◌, arith}
use Rattle.fam_base.specs.declared.entry.Params.{Params}
use Rattle.fam_base.specs.Image.{Image, line_at}
use Rattle.fam_format.specs.Reading.{super_in}
use Rattle.fam_machine.specs.Operations.{machine, operated_all}
use Rattle.fam_media.specs.Causes.{Rose}
use Rattle.fam_machine.specs.declared.op.Op.{Op}
use Rattle.fam_mkfs.specs.declared.make.MkfsEnd.{MkfsEnd}
use Rattle.fam_mkfs.specs.Ends.{FindsSuper, IsCut, MkfsEnds, done_end}
use Rattle.fam_machine.specs.Mkfs.{read_ops, write_ops, expected_by, superblock_found, goes_on}
use Rattle.fam_mkfs.specs.Parts.{Stands}
use Rattle.fam_cache.specs.Runs.{CacheOver, AreDone, AreCut}
use Rattle.fam_base.specs.declared.line.LineNo.{LineNo}
use Rattle.fam_machine.specs.Cuts.{HasCut}
use Rattle.fam_cache.proofs.Runs.{done_as, done_both, cut_as, cut_first, cut_second}

-- what rose later rose
pub rose_since : (a b c : ℕ) → a ≤ b → Rose b c → Rose a c
rose_since a b c upto rose = elim rose [ inl h ↦ inl (omega arith) | inr h ↦ inr h ]

-- whatever is expected begins with the reading
expected_first : (goes : Bool) (halt : Option ℕ) (p : Params) (line : LineNo) (s t : CacheOver) → AreCut read_ops line s t → AreCut (expected_by goes halt p) line s t
expected_first true None p line s t cut = cut_first read_ops (write_ops p) line s t cut
expected_first true (Some k) p line s t cut = cut_first read_ops _ line s t cut
expected_first false halt p line s t cut = cut

-- the media failed in the reading
pub cut_early : (p : Params) (force : Bool) (halt : Option ℕ) (size : ℕ) (line : LineNo) (s t : CacheOver) (before now : ℕ) → line.0 < size
    → Rose before now → AreCut read_ops line s t → IsCut p force halt size line s t before now
cut_early p force halt size line s t before now within rose cut = record {
  within = within;
  rose = rose;
  cut = λ image is. (expected_first (goes_on force (superblock_found p (machine image s.lines))) halt p line s t cut).is image is;
}

-- the media failed in the writing
pub cut_late : (p : Params) (force : Bool) (halt : Option ℕ) (writing : List Op) (size : ℕ) (line : LineNo) (s t u : CacheOver)
    (lines : List (List ℕ)) (before mid now mid_size : ℕ) → expected_by true halt p ≡ read_ops ++ writing → line.0 < mid_size → mid_size ≡ size
    → before ≤ mid → Rose mid now → ((image : Image) → s.image ≡ Some image → (have : ℕ)
    → super_in (line_at lines) have ≡ super_in (line_at (operated_all read_ops (machine image s.lines)).image) have)
    → goes_on force (super_in (line_at lines) p.device) ≡ true → AreDone read_ops s t → AreCut writing line t u
    → IsCut p force halt size line s u before now
cut_late p force halt writing size line s t u lines before mid now mid_size expected within same later rose says goes done cut = record {
  within = omega arith;
  rose = rose_since before mid now later rose;
  cut = λ image is.
      subst (λ (b : Bool). HasCut (expected_by b halt p) (machine image s.lines) line u.image u.lines) (sym goes ∙ ap (goes_on force) (says image is p.device))
      ((cut_as _ _ line s u (sym expected) (cut_second read_ops writing line s t u done cut)).is image is);
}

-- all that was expected was done
all_done : (p : Params) (force : Bool) (halt : Option ℕ) (writing : List Op) (size : ℕ) (s t u : CacheOver) (lines : List (List ℕ)) (before now : ℕ)
    → expected_by true halt p ≡ read_ops ++ writing
    → ((image : Image) → s.image ≡ Some image → (have : ℕ)
    → super_in (line_at lines) have ≡ super_in (line_at (operated_all read_ops (machine image s.lines)).image) have)
    → goes_on force (super_in (line_at lines) p.device) ≡ true → AreDone read_ops s t → AreDone writing t u
    → MkfsEnds p force halt size s u before now (done_end p halt)
all_done p force None writing size s t u lines before now expected says goes done puts = (
  refl,
  record {
    unhalted = refl;
    done =
        record {
          done = done_as _ _ s u (sym expected) (done_both read_ops writing s t u done puts);
          free = λ image is.
              sym (ap (goes_on force) (says image is p.device)) ∙ goes;
        };
  },
)
all_done p force (Some k) writing size s t u lines before now expected says goes done puts =
    record {
      asked = refl;
      done = record {
        done = done_as _ _ s u (sym expected) (done_both read_ops writing s t u done puts);
        free = λ image is.
            sym (ap (goes_on force) (says image is p.device)) ∙ goes;
      };
    }

pub all_ended : (p : Params) (force : Bool) (halt : Option ℕ) (writing : List Op) (size : ℕ) (s t u : CacheOver) (lines : List (List ℕ))
    (before now : ℕ) (end : MkfsEnd) → end ≡ done_end p halt → expected_by true halt p ≡ read_ops ++ writing
    → ((image : Image) → s.image ≡ Some image → (have : ℕ)
    → super_in (line_at lines) have ≡ super_in (line_at (operated_all read_ops (machine image s.lines)).image) have)
    → goes_on force (super_in (line_at lines) p.device) ≡ true → AreDone read_ops s t → AreDone writing t u
    → MkfsEnds p force halt size s u before now end
all_ended p force halt writing size s t u lines before now end is expected says goes done puts =
    subst (λ (end : MkfsEnd). MkfsEnds p force halt size s u before now end) (sym is) (all_done p force halt writing size s t u lines before now expected says goes done puts)

-- a superblock stands in the way
pub is_found : (p : Params) (force : Bool) (id : List ℕ) (s t : CacheOver) (lines : List (List ℕ))
    → ((image : Image) → s.image ≡ Some image → (have : ℕ)
    → super_in (line_at lines) have ≡ super_in (line_at (operated_all read_ops (machine image s.lines)).image) have)
    → Stands force (super_in (line_at lines) p.device) id → AreDone read_ops s t → FindsSuper p force id s t
is_found p force id s t lines says stands done = record {
  unforced = stands.unforced;
  done = done;
  names = λ image is. record { other = stands.other; reads = sym (says image is p.device) ∙ stands.reads; named = stands.named };
}
