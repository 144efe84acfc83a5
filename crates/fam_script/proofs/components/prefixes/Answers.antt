use Rattle.std.proofs.Common.{◌++◌, ◌∷◌, [], ◌∙◌, ℕ, ◌+◌, List, ap, sym, arith, drop, take}
use Rattle.std.proofs.lemmas.Bool.{false≢true}
use Rattle.fam_base.specs.Paths.{is_path}
use Rattle.fam_base.proofs.PathLemmas.{prefix_is_path}
use Rattle.fam_outcomes.specs.Programs.{prefixes_behind, path_prefixes}
use Rattle.fam_script.proofs.Slashes.{slash_put, other_put, at_end}
use Rattle.fam_script.proofs.components.prefixes.Goals as goal
use Rattle.fam_script.proofs.components.prefixes.Goals.{then-bytes-i-eq47+in-Ok+in_ok-put, else-bytes-i-eq47}

pub unreachable-requires : goal.unreachable-requires
unreachable-requires c =
    let path = prefix_is_path c.bytes-bytes.result.now c.bytes.i (ap is_path c.bytes-bytes.ensures.same ∙ c.bytes-bytes.ensures.path) c.bytes-test.true c.if-bytes-i-eq47.true in
    false≢true (c.in_default.ensures.ok.1 path)

pub bytes-preserved : goal.bytes-preserved
bytes-preserved c =
    let rest : List (List ℕ) = prefixes_behind (take (c.bytes.i + 1) c.bytes-bytes.result.now) (drop (c.bytes.i + 1) c.bytes-bytes.result.now) in
    elim c.if-bytes-i-eq47.branch [
      | then-bytes-i-eq47+in-Ok+in_ok-put w ↦ (
          let put = w.in_ok-put.ensures ∙ ap (λ (x : List ℕ). c.bytes.paths.items ++ x ∷ []) w.in-Ok.ensures.same in
          ap (λ paths. paths.items ++ rest) w.paths-is
          ∙ slash_put c.bytes-bytes.result.now c.bytes.i c.bytes-test.true c.bytes.paths.items w.put.new.into.items
          (path_prefixes c.bytes-bytes.result.now) w.if-bytes-i-eq47.true put c.bytes.invariant)
      | else-bytes-i-eq47 w ↦
          ap (λ paths. paths.items ++ rest) w.paths-is
          ∙ other_put c.bytes-bytes.result.now c.bytes.i c.bytes-test.true c.bytes.paths.items (path_prefixes c.bytes-bytes.result.now) w.if-bytes-i-eq47.false c.bytes.invariant
    ]

pub returns : goal.returns
returns c =
    let last = at_end c.bytes-bytes.result.now c.bytes.i (omega arith) in
    c.in_ok-put-2.ensures
    ∙ ap (λ (x : List ℕ). c.bytes.paths.items ++ x ∷ []) (sym c.bytes-bytes.ensures.same)
    ∙ ap (λ (l : List (List ℕ)). c.bytes.paths.items ++ l) (sym last)
    ∙ c.bytes.invariant
    ∙ ap path_prefixes c.bytes-bytes.ensures.same
