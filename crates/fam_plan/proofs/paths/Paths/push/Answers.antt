use Rattle.std.proofs.Common.{◌≡◌, ℕ, cond, Result, Ok, Err, false, List, [], ◌∷◌, ◌++◌, length, sym, ap, ◌∙◌, arith}
use Rattle.std.specs.Prelude.{IsOk, OnOk}
use Rattle.std.specs.Result.{is_err, is_ok}
use Rattle.fam_plan.proofs.PieceLemmas.{paths_more, pieces_more}
use Rattle.fam_plan.proofs.paths.Paths.push.Goals as goal
use Rattle.fam_plan.proofs.paths.Paths.push.Goals.{After-push}
use Rattle.fam_plan.proofs.paths.Paths.push.Given.{Over}

-- there was room
with_room : {T E : Type 0} (r : Result T E) (P : Type 0) → is_err r ≡ false → OnOk r P → P
with_room (Ok t) P not p = p
with_room (Err e) P not p = absurd (cc (not))

-- so that nothing failed
done : {T E X : Type 0} (r : Result T E) (x y z : X) → IsOk r → z ≡ cond (is_ok r) x y → z ≡ x
done (Ok t) x y z ok is = is
done (Err e) x y z ok is = absurd (cc (ok))

longer : (g : Over) (c : After-push g) → c.extend_from_slice.new.self.items ≡ c.self.inside.bytes.items ++ c.args.entry.now.path
longer g c =
    let room = with_room c.reserve.result _ (sym c.is_err.ensures.value ∙ c.if-is_err.false) c.reserve.ensures.ok in
    let size : c.path-path.result.now ≡ c.args.entry.now.path = c.path-path.ensures.same in
    done {X = List ℕ} c.extend_from_slice.result _ _ _ (c.extend_from_slice.ensures.succeeds room) c.extend_from_slice.ensures.items
    ∙ ap (λ (l : List ℕ). l ++ c.path-path.result.now) c.reserve.ensures.items
    ∙ ap (λ (l : List ℕ). c.self.inside.bytes.items ++ l) size

more : (g : Over) (c : After-push g) → c.push.new.self.items ≡ c.self.inside.ends.items ++ c.len.result ∷ []
more g c =
    let room = with_room c.reserve-2.result _ (sym c.is_err-2.ensures.value ∙ c.if-is_err-2.false) c.reserve-2.ensures.ok in
    done {X = List ℕ} c.push.result _ _ _ (c.push.ensures.succeeds (omega (arith, room))) c.push.ensures.items
    ∙ ap (λ (l : List ℕ). l ++ c.len.result ∷ []) c.reserve-2.ensures.items

end_is : (g : Over) (c : After-push g) → c.len.result ≡ length c.extend_from_slice.new.self.items
end_is g c = c.len.ensures ∙ c.extend_from_slice.new.self.ok.0

pub invariant_of-self-2 : goal.invariant_of-self-2
invariant_of-self-2 g c =
    let own = c.self.inside in
    paths_more own.bytes.items own.ends.items c.args.entry.now.path c.extend_from_slice.new.self.items c.push.new.self.items c.len.result
    c.self.invariant (longer g c) (more g c) (end_is g c) c.path-path.ensures.path

pub returns-clause-added : goal.returns-clause-added
returns-clause-added g c =
    let own = c.self.inside in
    pieces_more own.bytes.items own.ends.items c.args.entry.now.path c.extend_from_slice.new.self.items c.push.new.self.items c.len.result
    c.self.invariant (longer g c) (more g c) (end_is g c)
    ∙ ap (λ (l : List (List ℕ)). l ++ c.args.entry.now.path ∷ []) c.self.view_is
