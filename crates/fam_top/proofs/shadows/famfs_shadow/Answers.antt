use Rattle.std.proofs.Common.{◌∙◌, List, ℕ, Option, Some, ap, arith, option_map, refl, subst, sym}
use Rattle.fam_media.specs.States.{change}
use Rattle.fam_outcomes.specs.Runs.{NoneFalls, Outside}
use Rattle.fam_program.specs.Runs.{outside_of}
use Rattle.fam_shadow.specs.Nodes.{ShadeChange}
use Rattle.fam_program.specs.Shadows.{ShadowTop, no_files}
use Rattle.fam_program.proofs.Commands.Shadows.{no_shadow, shadow_wants}
use Rattle.fam_words.specs.declared.wanted.ShadowCall.{ShadowCall}
use Rattle.fam_top.specs.Calls.{host_or}
use Rattle.fam_top.proofs.Uuids.{shadow_uuid}
use Rattle.fam_top.proofs.shadows.famfs_shadow.Goals as goal

-- the shadow was asked for
pub returns-in-Ok-Some-clause-ends : goal.returns-in-Ok-Some-clause-ends
returns-in-Ok-Some-clause-ends g c =
    let out : Outside = outside_of g.M.Media.size g.M.Media.state c.args.media.now c.write_shadow.new.media no_files (change g.K.Sink.state c.args.out.now c.write_shadow.new.out) in
    let shade : ShadeChange = change g.D.Shade.state c.args.shade.now c.write_shadow.new.shade in
    subst (λ (o : Option ShadowCall). ShadowTop (option_map (λ (call : ShadowCall). host_or c.args.me call.system) o) out shade c.write_shadow.result)
    (sym (sym c.in-Ok-Some.ensures ∙ c.in-Ok-Some.field-0-is))
    (subst (λ (host : List ℕ). ShadowTop (Some host) out shade c.write_shadow.result) c.host_or.ensures c.write_shadow.ensures.ends)

-- the words ask for no shadow
pub returns-in-Ok-None-clause-ends : goal.returns-in-Ok-None-clause-ends
returns-in-Ok-None-clause-ends g c =
    let out : Outside = outside_of g.M.Media.size g.M.Media.state c.args.media.now c.args.media.now no_files (change g.K.Sink.state c.args.out.now c.put_usage.new.out) in
    let shade : ShadeChange = change g.D.Shade.state c.args.shade.now c.args.shade.now in
    let later : NoneFalls out = record { media = omega arith; shelf = omega arith; shorts = omega arith; sink = c.put_usage.ensures.later } in
    no_shadow out shade c.put_usage.result later _ refl refl
    (ap (option_map (λ (call : ShadowCall). host_or c.args.me call.system)) (sym c.in-Ok-None.ensures ∙ c.in-Ok-None.field-0-is))
    c.put_usage.ensures.put

-- no memory was left for the words
pub returns-in-Err-clause-ends : goal.returns-in-Err-clause-ends
returns-in-Err-clause-ends g c =
    let out : Outside = outside_of g.M.Media.size g.M.Media.state c.args.media.now c.args.media.now no_files (change g.K.Sink.state c.args.out.now c.put_memory.new.out) in
    let shade : ShadeChange = change g.D.Shade.state c.args.shade.now c.args.shade.now in
    let later : NoneFalls out = record { media = omega arith; shelf = omega arith; shorts = omega arith; sink = c.put_memory.ensures.later } in
    shadow_wants out shade c.put_memory.result later _ refl refl c.put_memory.ensures.put

pub returns-in-Ok-Some-clause-uuid : goal.returns-in-Ok-Some-clause-uuid
returns-in-Ok-Some-clause-uuid g c = shadow_uuid c.args.me c.is_uuid.ensures _

pub returns-in-Ok-None-clause-uuid : goal.returns-in-Ok-None-clause-uuid
returns-in-Ok-None-clause-uuid g c = shadow_uuid c.args.me c.is_uuid.ensures _

pub returns-in-Err-clause-uuid : goal.returns-in-Err-clause-uuid
returns-in-Err-clause-uuid g c = shadow_uuid c.args.me c.is_uuid.ensures _
