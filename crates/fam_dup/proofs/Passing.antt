-- The parts of a pass of writes, one behind another.
use Rattle.std.proofs.Common.{Result, Ok, Err, List, [], ◌∷◌, ◌++◌, Option, Some, None, refl, sym, ap, subst, ◌∙◌, inr, append_assoc}
use Rattle.std.specs.Option.{option_map}
use Rattle.std.proofs.lemmas.List.{append-nil}
use Rattle.fam_base.specs.Image.{Image}
use Rattle.fam_media.specs.Outside.{IsTorn}
use Rattle.fam_rules.specs.Written.{Put, put_lines}
use Rattle.fam_rules.proofs.Puts.{put_lines-append}
use Rattle.fam_dup.specs.Lines.{AreCutAt, ArePut, IsPartlyPut, PutsEnd}
use Rattle.fam_dup.specs.Passes.{ArePassed}

-- without any an image is as before
pub put_none : (old : Option Image) → ArePut [] old old
put_none None = refl
put_none (Some image) = refl

-- some lines were put, and then others
pub put_both : (a b : List Put) (old mid new : Option Image) → ArePut a old mid → ArePut b mid new → ArePut (a ++ b) old new
put_both a b None mid new first second = second ∙ ap (option_map (put_lines b)) first
put_both a b (Some image) mid new first second =
    second ∙ ap (option_map (put_lines b)) first ∙ ap (λ (i : Image). Some i) (sym (put_lines-append a b image))

-- One line.

-- some of its words were put
pub cut_torn : {At : Put → Type 0} (put : Put) (old new : Option Image) → At put → IsTorn old new put.0 put.1 → AreCutAt At (put ∷ []) old new
cut_torn put old new at torn = record {
  cut = record { done = []; put = put; rest = []; parts = refl; cut = inr (subst (λ (o : Option Image). IsTorn o new put.0 put.1) (put_none old) torn) };
  at = at;
}

-- cut at such a line, it is cut at such a one
pub cut_as : {At By : Put → Type 0} (puts : List Put) (old new : Option Image) → ((put : Put) → At put → By put) → AreCutAt At puts old new → AreCutAt By puts old new
cut_as puts old new more cut = record { cut = cut.cut; at = more cut.cut.put cut.at }

-- so it is where all may have been put
pub ends_as : {T E : Type 0} (At By : E → Put → Type 0) (puts : List Put) (old new : Option Image) (result : Result T E)
    → ((fault : E) (put : Put) → At fault put → By fault put) → PutsEnd At puts old new result → PutsEnd By puts old new result
ends_as At By puts old new (Ok u) more put = put
ends_as At By puts old new (Err fault) more cut = cut_as puts old new (more fault) cut

-- A pass.

-- before the first line
pub pass_none : (all : List Put) (old : Option Image) → ArePassed all all old old
pass_none all old = record { done = []; parts = refl; put = put_none old }

module _ (all a b : List Put) (old mid new : Option Image) (passed : ArePassed all (a ++ b) old mid) where
  -- a part was put
  pub pass_part : ArePut a mid new → ArePassed all b old new
  pass_part put = record {
    done = passed.done ++ a;
    parts = passed.parts ∙ sym (append_assoc passed.done a b);
    put = put_both passed.done a old mid new passed.put put;
  }

  -- a part was cut
  pub pass_cut : {At : Put → Type 0} → AreCutAt At a mid new → AreCutAt At all old new
  pass_cut {At} at_cut = let cut = at_cut.cut in record {
    cut = record {
      done = passed.done ++ cut.done;
      put = cut.put;
      rest = cut.rest ++ b;
      parts = passed.parts
          ∙ ap (λ (l : List Put). passed.done ++ (l ++ b)) cut.parts
          ∙ ap (λ (l : List Put). passed.done ++ l) (append_assoc cut.done (cut.put ∷ cut.rest) b)
          ∙ sym (append_assoc passed.done cut.done (cut.put ∷ (cut.rest ++ b)));
      cut = subst (λ (o : Option Image). IsPartlyPut cut.put o new) (put_both passed.done cut.done old mid (option_map (put_lines cut.done) mid) passed.put refl) cut.cut;
    };
    at = at_cut.at;
  }

-- all lines were put
pub pass_all : (all : List Put) (old new : Option Image) → ArePassed all [] old new → ArePut all old new
pass_all all old new passed =
    subst (λ (l : List Put). ArePut l old new) (sym (passed.parts ∙ append-nil passed.done)) passed.put
