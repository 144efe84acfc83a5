use Rattle.std.proofs.Common.{rules, ◌≡◌, ◌<◌, List, Some, length, subst, sym, ap, ◌∙◌, arith}
use Rattle.std.specs.List.{slice_get}
use Rattle.std.proofs.lemmas.Option.{slice_get-get_or}
use Rattle.fam_settled.specs.declared.bytes.Bytes.{Bytes}
use Rattle.fam_settled.specs.Settled.{SettledLog, settled_files}
use Rattle.fam_settled.proofs.Files.{slice_get-files_of}
use Rattle.fam_settled.proofs.log.Log.settled_at.Goals as goal

pub returns : goal.returns
returns c =
    let own = c.self.inside in
    let list : List Bytes = c.as_slice.result.now in
    let found : Bytes = c.index-as_slice-i.result in
    let is : list ≡ own.bytes.value.items = search rules in
    let below : c.args.i < length own.plan.entries = subst (λ (s : SettledLog). c.args.i < length s.entries) (sym c.self.view_is) c.requires in
    let at : slice_get own.bytes.value.items c.args.i ≡ Some found =
    ap (λ (l : List Bytes). slice_get l c.args.i) (sym is)
    ∙ slice_get-get_or list c.args.i found (omega (arith, below, c.self.invariant.counted, ap length is))
    ∙ ap (λ (b : Bytes). Some b) (sym c.index-as_slice-i.is) in
    ap (λ (s : SettledLog). slice_get (settled_files s) c.args.i) (sym c.self.view_is)
    ∙ slice_get-files_of own.plan.entries own.bytes.value.items c.args.i c.in-Some.entry found (sym c.in-Some.ensures) at
