use Rattle.std.proofs.Common.{◌∙◌, ap, arith, option_map, refl, subst, sym, IfSome, Option}
use Rattle.fam_media.specs.States.{change}
use Rattle.fam_outcomes.specs.Runs.{NoneFalls, Outside}
use Rattle.fam_program.specs.Runs.{outside_of}
use Rattle.fam_words.specs.declared.wanted.Invocation.{Invocation}
use Rattle.fam_top.specs.Calls.{CallEnds, HasCommandUuids, invoked_command}
use Rattle.fam_top.specs.Words.{invocation_named}
use Rattle.fam_top.proofs.Endings.{no_command, no_memory}
use Rattle.fam_top.proofs.Uuids.{named_uuids}
use Rattle.fam_top.proofs.top.famfs.Goals as goal

-- what is asked for was done, or not
pub returns-in-Ok-Some-clause-ends : goal.returns-in-Ok-Some-clause-ends
returns-in-Ok-Some-clause-ends g c =
    let out : Outside = outside_of g.M.Media.size g.M.Media.state c.args.media.now c.run_invocation.new.media
    (change g.S.Shelf.state c.args.shelf.now c.run_invocation.new.shelf) (change g.K.Sink.state c.args.out.now c.run_invocation.new.out) in
    subst (λ (o : Option Invocation). CallEnds o c.args.me c.args.random out c.run_invocation.result) (sym (sym c.in-Ok-Some.ensures.value ∙ c.in-Ok-Some.field-0-is))
    (record {
      ends = c.run_invocation.ensures.ends;
      image = c.is_image.ensures;
      uuids = subst (λ (o : Option Invocation). IfSome (option_map (invoked_command c.args.me c.args.random) o) HasCommandUuids) (sym c.in-Ok-Some.ensures.value ∙ c.in-Ok-Some.field-0-is)
          (named_uuids c.args.me c.args.random c.is_uuid.ensures c.has_uuid.ensures _);
    })

-- the words are no command
pub returns-in-Ok-None-clause-ends : goal.returns-in-Ok-None-clause-ends
returns-in-Ok-None-clause-ends g c =
    let out : Outside = outside_of g.M.Media.size g.M.Media.state c.args.media.now c.args.media.now
    (change g.S.Shelf.state c.args.shelf.now c.args.shelf.now) (change g.K.Sink.state c.args.out.now c.put_usage.new.out) in
    let later : NoneFalls out = record { media = omega arith; shelf = omega arith; shorts = omega arith; sink = c.put_usage.ensures.later } in
    record {
      ends =
          no_command out c.put_usage.result refl later (option_map (invoked_command c.args.me c.args.random) (invocation_named _))
          (ap (option_map (invoked_command c.args.me c.args.random)) (sym c.in-Ok-None.ensures.value ∙ c.in-Ok-None.field-0-is)) c.put_usage.ensures.put;
      image = c.is_image.ensures;
      uuids = named_uuids c.args.me c.args.random c.is_uuid.ensures c.has_uuid.ensures _;
    }

-- no memory was left for the words
pub returns-in-Err-clause-ends : goal.returns-in-Err-clause-ends
returns-in-Err-clause-ends g c =
    let out : Outside = outside_of g.M.Media.size g.M.Media.state c.args.media.now c.args.media.now
    (change g.S.Shelf.state c.args.shelf.now c.args.shelf.now) (change g.K.Sink.state c.args.out.now c.put_memory.new.out) in
    let later : NoneFalls out = record { media = omega arith; shelf = omega arith; shorts = omega arith; sink = c.put_memory.ensures.later } in
    record {
      ends = no_memory out c.put_memory.result refl later (option_map (invoked_command c.args.me c.args.random) (invocation_named _)) c.put_memory.ensures.put;
      image = c.is_image.ensures;
      uuids = named_uuids c.args.me c.args.random c.is_uuid.ensures c.has_uuid.ensures _;
    }
