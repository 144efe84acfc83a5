-- Rows of operations, joined.
use Rattle.std.proofs.Common.{◌≡◌, List, [], ◌∷◌, ◌++◌, Option, refl, sym, ap, subst, ◌∙◌, append_assoc}
use Rattle.fam_base.specs.Image.{Image}
use Rattle.fam_base.specs.declared.line.LineNo.{LineNo}
use Rattle.fam_machine.specs.declared.op.Op.{Op}
use Rattle.fam_machine.specs.Caches.{Cache}
use Rattle.fam_machine.specs.Cuts.{HasFailed, IsMachine}
use Rattle.fam_machine.specs.Operations.{Machine, failed, machine, operated_all}
use Rattle.fam_machine.proofs.LinePuts.{operated_all-append}
use Rattle.fam_media.specs.Outside.{IfModelled}
use Rattle.fam_cache.specs.Runs.{AreCut, AreDone, CacheOver, over}

-- one operation
pub one_cut : (op : Op) (line : LineNo) (modelled shown : Option Image) (old held : Cache)
    → IfModelled modelled (λ image. HasFailed op (machine image old) line shown held) → AreCut (op ∷ []) line (over modelled old) (over shown held)
one_cut op line modelled shown old held failed = record {
  is = λ image is.
      let f = failed image is in
      record { left = f.left; cuts = record { done = []; op = op; rest = []; split = refl; fails = f.fails }; is = f.is };
}

-- one row, and then another
pub done_both : (a b : List Op) (s t u : CacheOver) → AreDone a s t → AreDone b t u → AreDone (a ++ b) s u
done_both a b s t u p q = record {
  is = λ image is.
      let first = operated_all a (machine image s.lines) in
      let here = p.is image is in
      let joined : operated_all b (machine first.image t.lines) ≡ operated_all (a ++ b) (machine image s.lines) =
      ap (λ (cache : Cache). operated_all b (machine first.image cache)) here.cache ∙ sym (operated_all-append a b (machine image s.lines)) in
      subst (λ (m : Machine). IsMachine m u.image u.lines) joined (q.is first.image here.image);
}

-- the first of two rows is cut
pub cut_first : (a b : List Op) (line : LineNo) (s t : CacheOver) → AreCut a line s t → AreCut (a ++ b) line s t
cut_first a b line s t cut = record {
  is = λ image is.
      let f = cut.is image is in
      record {
        left = f.left;
        cuts = record {
          done = f.cuts.done;
          op = f.cuts.op;
          rest = f.cuts.rest ++ b;
          split = ap (λ (ops : List Op). ops ++ b) f.cuts.split ∙ append_assoc f.cuts.done (f.cuts.op ∷ f.cuts.rest) b;
          fails = f.cuts.fails;
        };
        is = f.is;
      };
}

-- the second one is cut
pub cut_second : (a b : List Op) (line : LineNo) (s t u : CacheOver) → AreDone a s t → AreCut b line t u → AreCut (a ++ b) line s u
cut_second a b line s t u p cut = record {
  is = λ image is.
      let first = operated_all a (machine image s.lines) in
      let here = p.is image is in
      let f = cut.is first.image here.image in
      let joined : operated_all f.cuts.done (machine first.image t.lines) ≡ operated_all (a ++ f.cuts.done) (machine image s.lines) =
      ap (λ (cache : Cache). operated_all f.cuts.done (machine first.image cache)) here.cache ∙ sym (operated_all-append a f.cuts.done (machine image s.lines)) in
      record {
        left = f.left;
        cuts = record {
          done = a ++ f.cuts.done;
          op = f.cuts.op;
          rest = f.cuts.rest;
          split = ap (λ (ops : List Op). a ++ ops) f.cuts.split ∙ sym (append_assoc a f.cuts.done (f.cuts.op ∷ f.cuts.rest));
          fails = record {
            through = f.cuts.fails.through;
            fits = f.cuts.fails.fits;
            is = ap (failed f.cuts.fails.through f.cuts.op) (sym joined) ∙ f.cuts.fails.is;
          };
        };
        is = f.is;
      };
}

-- the same operations
pub done_as : (a b : List Op) (s t : CacheOver) → a ≡ b → AreDone a s t → AreDone b s t
done_as a b s t is p = subst (λ (ops : List Op). AreDone ops s t) is p

pub cut_as : (a b : List Op) (line : LineNo) (s t : CacheOver) → a ≡ b → AreCut a line s t → AreCut b line s t
cut_as a b line s t is cut = subst (λ (ops : List Op). AreCut ops line s t) is cut
