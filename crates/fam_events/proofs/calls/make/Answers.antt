use Rattle.std.proofs.Common.{ℕ, Option, Some, None, ap, refl, subst, sym}
use Rattle.fam_machine.specs.MkfsRequest.{mkfs_request}
use Rattle.fam_journal.specs.Calls.{Makes}
use Rattle.fam_events.specs.WorldChange.{WorldChange, world_change}
use Rattle.fam_events.specs.Calls.{CallSays}
use Rattle.fam_events.proofs.OverMedia.{make_says}
use Rattle.fam_world.specs.Answers.{IsUntouched}
use Rattle.fam_events.proofs.calls.make.Goals as goal

pub returns-in-Some-clause-says : goal.returns-in-Some-clause-says
returns-in-Some-clause-says g c = λ files copied.
    let r = c.args.request in
    let a : WorldChange = world_change g.M.Media.size g.M.Media.state c.args.media.now c.mkfs_cut.new.media c.args.world.now c.mkfs_cut.new.self files copied copied in
    subst (λ (halt : Option ℕ). CallSays (Makes c.args.name.now (mkfs_request r.fs r.unit r.log r.format r.force halt)) a c.made.result) (sym c.in-Some.is)
    (subst (CallSays (Makes c.args.name.now (mkfs_request r.fs r.unit r.log r.format r.force (Some c.in-Some.k))) a) (sym c.made.ensures)
    (make_says c.args.name.now (mkfs_request r.fs r.unit r.log r.format r.force (Some c.in-Some.k)) a c.requires.shaped c.requires.fits refl c.mkfs_cut.result c.mkfs_cut.ensures.answered
    (λ e. record {
      world = c.mkfs_cut.ensures.err e;
      media = ap (λ m. (g.M.Media.state m).image) (c.mkfs_cut.ensures.undone e);
      count =
          ap (λ m. (g.M.Media.state m).faults) (c.mkfs_cut.ensures.undone e);
    })))

pub returns-in-None-clause-says : goal.returns-in-None-clause-says
returns-in-None-clause-says g c = λ files copied.
    let r = c.args.request in
    let a : WorldChange = world_change g.M.Media.size g.M.Media.state c.args.media.now c.mkfs.new.media c.args.world.now c.mkfs.new.self files copied copied in
    subst (λ (halt : Option ℕ). CallSays (Makes c.args.name.now (mkfs_request r.fs r.unit r.log r.format r.force halt)) a c.made-in-None.result) (sym c.in-None.is)
    (subst (CallSays (Makes c.args.name.now (mkfs_request r.fs r.unit r.log r.format r.force None)) a) (sym c.made-in-None.ensures)
    (make_says c.args.name.now (mkfs_request r.fs r.unit r.log r.format r.force None) a c.requires.shaped c.requires.fits refl c.mkfs.result c.mkfs.ensures.answered
    (λ e. record { world = c.mkfs.ensures.err e; media = ap (λ m. (g.M.Media.state m).image) (c.mkfs.ensures.undone e); count = ap (λ m. (g.M.Media.state m).faults) (c.mkfs.ensures.undone e) })))

pub returns-in-Some-clause-untouched : goal.returns-in-Some-clause-untouched
returns-in-Some-clause-untouched g c =
    let r = c.args.request in
    subst (λ (halt : Option ℕ). IsUntouched (Makes c.args.name.now (mkfs_request r.fs r.unit r.log r.format r.force halt))
    (g.M.Media.size c.args.media.now) c.args.world.now c.args.media.now c.mkfs_cut.new.media) (sym c.in-Some.is) c.mkfs_cut.ensures.untouched

pub returns-in-None-clause-untouched : goal.returns-in-None-clause-untouched
returns-in-None-clause-untouched g c =
    let r = c.args.request in
    subst (λ (halt : Option ℕ). IsUntouched (Makes c.args.name.now (mkfs_request r.fs r.unit r.log r.format r.force halt))
    (g.M.Media.size c.args.media.now) c.args.world.now c.args.media.now c.mkfs.new.media) (sym c.in-None.is) c.mkfs.ensures.untouched

pub returns-in-Some-clause-size : goal.returns-in-Some-clause-size
returns-in-Some-clause-size g c = c.mkfs_cut.ensures.size

pub returns-in-None-clause-size : goal.returns-in-None-clause-size
returns-in-None-clause-size g c = c.mkfs.ensures.size
