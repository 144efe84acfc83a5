-- A task that only reads, over a cache that forgets lines: what is told of it is told of a cache that has all.
use Rattle.std.proofs.Common.{◌≡◌, ℕ, ◌<◌, true, List, length, Option, Some, None, Result, Ok, Err, refl, sym, subst, ◌∙◌}
use Rattle.std.specs.Prelude.{OnErr, OnOk, is_some, slice_get}
use Rattle.std.proofs.lemmas.Option.{same_Some}
use Rattle.fam_base.specs.declared.cmd.Cmd.{Cmd}
use Rattle.fam_base.specs.declared.line.LineNo.{LineNo}
use Rattle.fam_base.specs.declared.line.OutOfMemory.{OutOfMemory}
use Rattle.fam_cache.specs.Shed.{IsShed, WantsSame}
use Rattle.fam_cache.specs.States.{CacheState}
use Rattle.fam_cache.proofs.Shedding.{shed_more}
use Rattle.fam_commands.specs.Kept.{Kept}
use Rattle.fam_commands.specs.Task.{Task, mounted, op_of}
use Rattle.fam_machine.specs.declared.op.Op.{Op}
use Rattle.fam_machine.specs.declared.op.Op.TheVariants.{Invalidate}
use Rattle.fam_machine.specs.Caches.{Cache}
use Rattle.fam_media.specs.Outside.{IfModelled}
use Rattle.fam_media.specs.States.{MediaChange}
use Rattle.fam_rules.specs.Decide.{wish_of}
use Rattle.fam_run.specs.Shows.{OnlyReads, Shows}
use Rattle.fam_journal.specs.ByWorld.{number_in, refusal_in}
use Rattle.fam_journal.specs.Calls as call
use Rattle.fam_journal.specs.CallRecords.{IsUnstoredAt}
use Rattle.fam_journal.specs.Members.{changed_at}
use Rattle.fam_journal.specs.Notes.{Note}
use Rattle.fam_journal.specs.View.{HostView, WorldView}
use Rattle.fam_journal.proofs.Calls.Members.{changed_at_member}
use Rattle.fam_world.specs.Concluded.{HasConcluded, ShownUp, with_cache}
use Rattle.fam_world.specs.Counted.{HostStanding, told_of}
use Rattle.fam_world.proofs.Counting.{far_ends, far_runs}
use Rattle.fam_world.proofs.Finishing.{finish_done, finish_lacks}

-- before an operation that drops a line a host may forget what it holds
pub forgets : (t : Task) (op : Op) (line : LineNo) (old new shown : Cache) → op ≡ op_of t → op ≡ Invalidate line → IsShed new old → Shows t old shown → Shows t new shown
forgets t op line old new shown next drops forgot was = record {
  shed = shed_more new old shown forgot was.shed;
  same = subst (λ (o : Op). WantsSame o new shown) (sym drops ∙ next) tt;
}

-- a command that begins only reads, where it appends nothing
pub mounted_reads : (kept : Option Kept) (cmd : Cmd) (me : List ℕ) (lines : ℕ) → wish_of cmd ≡ None → OnlyReads (mounted kept cmd me lines)
mounted_reads kept cmd me lines none = record { before = tt; wish = none }

-- The host in its world.
module _ (name : List ℕ) (at lines : ℕ) (old : WorldView) (view : HostView) (number : number_in name old ≡ Some at)
    (free : refusal_in (call.Steps name) old lines ≡ None) (within : at < length old.hosts) (view_is : slice_get old.hosts at ≡ Some view)
    (media : MediaChange) (modelled : IfModelled media.old.image (λ image. length image ≡ lines)) (next : HostView) (notes : List Note) where
  -- before operations, and behind them with a cache
  abbrev pub before : HostStanding
  before = record { host = view; notes = old.journal; media = media.old }

  abbrev pub behind : CacheState → HostStanding
  behind cache = record { host = with_cache next cache; notes = notes; media = media.new }

  -- the world then
  abbrev pub with_shown : CacheState → WorldView
  with_shown cache = record { hosts = changed_at at (λ v. with_cache next cache) old.hosts; journal = notes }

  last_is : (cache : CacheState) (last : HostView) → slice_get (with_shown cache).hosts at ≡ Some last → with_cache next cache ≡ last
  last_is cache last there = same_Some (with_cache next cache) last (sym (changed_at_member at (λ v. with_cache next cache) old.hosts view view_is) ∙ there)

  pub concluded : (said : Result (Unit {0}) OutOfMemory) → ShownUp at lines before behind said → OnOk said (next.task ≡ None) → OnErr said (is_some next.task ≡ true)
      → OnErr said (IsUnstoredAt at old → IfModelled media.old.image (λ image. media.new.image ≡ Some image)) → (new : WorldView)
      → new.journal ≡ notes → HasConcluded name lines media old new (told_of said)
  concluded (Ok done) x over on same new journal =
      let shown : WorldView = with_shown x.shown in
      let far = far_ends name at lines old view number view_is within media.old.image media.new.image media.old.faults media.new.faults shown (with_cache next x.shown) refl x.runs in
      record {
        shown = shown;
        journal = journal;
        answered = finish_done name at lines far number free within modelled
            (λ last there. subst (λ (v : HostView). v.task ≡ None) (last_is x.shown last there) over);
        want = λ is. absurd (let full = is in cc);
      }
  concluded (Err full) x over on same new journal =
      let shown : WorldView = with_shown x.shown in
      let far = far_runs name at lines old view number view_is within media.old.image media.new.image media.old.faults media.new.faults shown (with_cache next x.shown) refl x.runs in
      record {
        shown = shown;
        journal = journal;
        answered = tt;
        want = λ is. finish_lacks name at lines far number free within modelled
            (λ last there. subst (λ (v : HostView). is_some v.task ≡ true) (last_is x.shown last there) on) same;
      }
