-- Every step of a run keeps what holds, and says what it may.
use Rattle.std.proofs.Common.{ℕ, ◌*◌, ◌<◌, ◌≡◌, ◌≢◌, ◌⊎◌, arith, inl, inr, List, [], ◌∷◌, refl, sym, ◌∙◌, ap, subst}
use Rattle.std.proofs.Math.Path.{fun_ext}
use Rattle.std.proofs.lemmas.Option.{same_Some}
use Rattle.std.specs.Prelude.{Option, Some, None, unwrap_or}
use Rattle.fam_base.specs.declared.entry.Params.{Params}
use Rattle.fam_format.specs.Reading.{Lines}
use Rattle.fam_machine.specs.declared.cell.Cell.TheVariants.{Absent}
use Rattle.fam_machine.specs.declared.op.Op.{Op}
use Rattle.fam_machine.specs.declared.op.Op.TheVariants.{Load, Store, WriteBack, Fence, Invalidate, Digest}
use Rattle.fam_commands.specs.declared.phase.Phase.{Phase}
use Rattle.fam_commands.specs.declared.phase.Phase.TheVariants as at
use Rattle.fam_machine.specs.Operations.{given_by}
use Rattle.fam_commands.specs.Stands.{turn_given}
use Rattle.fam_commands.specs.Task.{Task, op_at, op_of}
use Rattle.fam_commands.specs.Turns.{Turn, Goes, Marks, Finds, Writes, Ends, turn_at}
use Rattle.fam_rules.specs.Asks.{File}
use Rattle.fam_rules.specs.Place.{line_bytes}
use Rattle.fam_protocol.specs.SharedState.{SharedState, Breaks, Sends, TransfersAt, Operates, all_sent, sends_one}
use Rattle.fam_protocol.specs.Core.{System, IsWide}
use Rattle.fam_protocol.specs.Tasks.{KeepsPrefix, TaskHolds}
use Rattle.fam_commands.specs.Kept.{Kept}
use Rattle.fam_commands.specs.Task.{Task}
use Rattle.fam_rules.specs.Reply.{Reply, Played, Mounted}
use Rattle.fam_commands.specs.Keeping.{kept_after, kept_by, read_by}
use Rattle.fam_protocol.proofs.Settled.Keeps.{keeps_changed, played_keeps}
use Rattle.fam_commands.proofs.TurnTells.{ReplyTells, Tells, turn_tells}
use Rattle.fam_protocol.specs.After.{Run, After, TaskContinues, MaySay, floor_after, list_after, settled_after}
use Rattle.fam_protocol.specs.Bad.{BadTaskHolds, GoesOnBad, MayReplyBad, MaySayBad}
use Rattle.fam_protocol.specs.Invariant.{AreHosts, Hosts, IsDamaged, IsKnown, Settled, Small, Damaged, Known, InvariantBy, Invariant}
use Rattle.fam_protocol.specs.Steps.{StepHolds, Steps, run_after, settled_count}
use Rattle.fam_protocol.proofs.Damaged.Moves.{still_kept, bad_task_kept}
use Rattle.fam_protocol.proofs.Damaged.Steps.{bad_others, bad_turn}
use Rattle.fam_protocol.proofs.Lines.Transferring.{transfer_task}
use Rattle.fam_protocol.proofs.Lines.Free.{Same, core_kept, dirty_was, memory_still, same, transfers_at, wide_now}
use Rattle.fam_machine.specs.OneLine.{IsDirty}
use Rattle.fam_machine.proofs.Transferring.{absent_transfers, asked_for_transfers, brought_transfers}
use Rattle.fam_protocol.proofs.Hosts.Inside.{AsksWithin, at_within}
use Rattle.fam_protocol.proofs.Lines.Fencing.{sends_at, sends_dirty, sends_others}
use Rattle.fam_protocol.proofs.Lines.Stored.{store_dirties}
use Rattle.fam_protocol.proofs.Hosts.Gives.{gives}
use Rattle.fam_protocol.proofs.Lines.Keeping.{task_kept}
use Rattle.fam_protocol.proofs.Settled.Marking.{KeepsMark, mark_kept}
use Rattle.fam_protocol.proofs.Settled.Naming.{KeepsNamed, named_kept}
use Rattle.fam_protocol.proofs.Settled.Resettle.{task_resettled}
use Rattle.fam_protocol.proofs.Turns.Turned.{turned}

-- the turn doesn't ask for a word where the operation gave none
pub given_turn : (p : Phase) (t : Task) (word : ℕ) → t.phase ≡ p → turn_given t word ≡ turn_at t.phase t word
given_turn p t word is =
    ap (λ (q : Phase). turn_at t.phase t (unwrap_or (given_by (op_at t q) word) 0)) is
    ∙ ap (λ (q : Phase). turn_at q t (unwrap_or (given_by (op_at t p) word) 0)) is ∙ by_phase p ∙ sym (ap (λ (q : Phase). turn_at q t word) is)
  where
    by_phase : (p : Phase) → turn_at p t (unwrap_or (given_by (op_at t p) word) 0) ≡ turn_at p t word
    by_phase at.DropMagic = refl
    by_phase at.Magic = refl
    by_phase (at.Drop part j) = refl
    by_phase (at.Word part j k) = refl
    by_phase at.DropGate = refl
    by_phase at.Gate = refl
    by_phase (at.Check i) = refl
    by_phase at.Decide = refl
    by_phase (at.StoreData j k) = refl
    by_phase (at.SendData j) = refl
    by_phase (at.StoreSlot j k) = refl
    by_phase (at.SendSlot j) = refl
    by_phase at.StoreGate = refl
    by_phase at.FenceSlot = refl
    by_phase at.SendGate = refl
    by_phase at.FenceGate = refl

-- an operation leaves other hosts' caches
pub other_caches : (op : Op) (host : ℕ) (s s' : SharedState) (word h l : ℕ) → h ≢ host → Operates op host s s' word → s'.copy h l ≡ s.copy h l
other_caches (Load line k) host s s' word h l ne left = left.0.only.hosts h l ne
other_caches (Store line k value) host s s' word h l ne left = left.only.hosts h l ne
other_caches (WriteBack line) host s s' word h l ne left = left.only.hosts h l ne
other_caches Fence host s s' word h l ne f = sends_others host f.lines s s' f.sends h l ne
other_caches (Invalidate line) host s s' word h l ne left = left.only.hosts h l ne
other_caches Digest host s s' word h l ne same = ap (λ (x : SharedState). x.copy h l) same

-- what is dirty behind an operation was so before, or is a line of so many where the operation asks for such
dirty_behind : (op : Op) (host lines : ℕ) (s s' : SharedState) (word h l : ℕ) → IsWide s → Operates op host s s' word → AsksWithin lines op → IsDirty (s'.copy h l) → (l < lines) ⊎ IsDirty (s.copy h l)
dirty_behind (Load line k) host lines s s' word h l wide left within d =
    inr (dirty_was host line.0 s s' (transfers_at host line.0 s s' _ _ left.0 (brought_transfers (s.memory line.0) (s.copy host line.0))) wide h l d)
dirty_behind (Store line k value) host lines s s' word h l wide left within d =
    elim (store_dirties host line.0 k value s s' wide left h l d) [ inl was ↦ inr was | inr here ↦ inl (omega (arith, here.1, within)) ]
dirty_behind (WriteBack line) host lines s s' word h l wide left within d =
    inr (dirty_was host line.0 s s' (transfers_at host line.0 s s' _ _ left (asked_for_transfers (s.memory line.0) (s.copy host line.0))) wide h l d)
dirty_behind Fence host lines s s' word h l wide f within d = inr (sends_dirty host f.lines s s' f.sends wide h l d)
dirty_behind (Invalidate line) host lines s s' word h l wide left within d =
    inr (dirty_was host line.0 s s' (transfers_at host line.0 s s' _ _ left (absent_transfers (s.memory line.0) (s.copy host line.0))) wide h l d)
dirty_behind Digest host lines s s' word h l wide same within d = inr (subst (λ (x : SharedState). IsDirty (x.copy h l)) same d)

-- the same hosts, by their UUIDs
hosts_are : (settled : Settled) (lines : ℕ) (old new : Hosts) (s : SharedState) → ((h : ℕ) → new.uuid h ≡ old.uuid h)
    → Invariant settled lines (record { uuid = old.uuid; run = new.run; kept = new.kept }) s → Invariant settled lines new s
hosts_are settled lines old new s uuids invariant = subst (λ (u : ℕ → Option (List ℕ)). Invariant settled lines (record { uuid = u; run = new.run; kept = new.kept }) s) (sym (fun_ext uuids)) invariant

no_run : {a : Run} → None ≡ Some a → ⊥
no_run e = absurd cc

-- A cache's own move.
module _ (lines : ℕ) (hosts : Hosts) (host line : ℕ) (s s' : SharedState) (transfer : TransfersAt host line s s') (declared : hosts.uuid host ≢ None) where
  transfer_hosts : AreHosts hosts s → AreHosts hosts s'
  transfer_hosts are = record { apart = are.apart; absent = λ h l none. absent h l none (same h host); idle = are.idle; bare = are.bare }
    where
      absent : (h l : ℕ) → hosts.uuid h ≡ None → Same h host → s'.copy h l ≡ Absent
      absent h l none (inl e) = absurd (declared (ap hosts.uuid (sym e) ∙ none))
      absent h l none (inr ne) = transfer.only.hosts h l ne ∙ are.absent h l none

  transfer_stage : (settled : Settled) → IsWide s → InvariantBy settled lines hosts s → InvariantBy settled lines hosts s'
  transfer_stage (Small image) wide is =
      record {
        memory = λ l. memory_still host line s s' transfer wide l (is.clean host l) ∙ is.memory l;
        few = is.few;
        idle = is.idle;
        bare =
            is.bare;
        clean = λ h l d. is.clean h l (dirty_was host line s s' transfer wide h l d);
      }
  transfer_stage (Damaged image) wide is = record {
    enough = is.enough;
    still = still_kept image (line_bytes * lines) host line s s' transfer is.still;
    tasks = λ h r run. bad_task_kept image (line_bytes * lines) host line s s' transfer is.still hosts.uuid h r.task (is.tasks h r run);
    bare = is.bare;
  }
  transfer_stage (Known p all settled) wide is =
      let sys : System = record { params = p; have = line_bytes * lines; uuid = hosts.uuid; master = is.master } in
      record {
        enough = is.enough;
        inside = λ h l d. is.inside h l (dirty_was host line s s' transfer wide h l d);
        master = is.master;
        core = core_kept host line s s' transfer is.core.wide sys all settled is.core;
        tasks = λ h r run. transfer_task sys s s' all settled is.core host line transfer h r.floor r.task (is.tasks h r run);
        kept = is.kept;
      }

  -- a cache's own move keeps everything
  pub invariant_transferred : (settled : Settled) → Invariant settled lines hosts s → Invariant settled lines hosts s'
  invariant_transferred settled invariant =
      record {
        declared = transfer_hosts invariant.declared;
        marked = invariant.marked;
        named = invariant.named;
        keeps = invariant.keeps;
        wide =
            wide_now host line s s' transfer invariant.wide;
        stage = transfer_stage settled invariant.wide invariant.stage;
      }

-- What a host keeps.

-- on a damaged image no mount has its reply: where the host kept nothing it keeps nothing
keeps_none : (turn : Turn) (image : Lines) (have : ℕ) (t : Task) → MaySayBad turn image have t → kept_after turn t None ≡ None
keeps_none (Ends reply) image have t may = by_reply reply may
  where
    by_reply : (r : Reply) → MayReplyBad r image have t → kept_by r (read_by t) None ≡ None
    by_reply (Played m tree) may' = refl
    by_reply (Mounted m) may' = absurd may'
    by_reply other may' = refl
keeps_none e image have t may = refl

-- So do lines that are sent, and the media's failure behind them.
invariant_sent : (lines : ℕ) (hosts : Hosts) (host : ℕ) (sent : List ℕ) (s s' : SharedState) → Sends host sent s s' → hosts.uuid host ≢ None
    → (settled : Settled) → Invariant settled lines hosts s → Invariant settled lines hosts s'
invariant_sent lines hosts host [] s _ all_sent declared settled invariant = invariant
invariant_sent lines hosts host (line ∷ more) s s' (sends_one {next = next} left rest) declared settled invariant =
    invariant_sent lines hosts host more next s' rest declared settled
    (invariant_transferred lines hosts host line s next (sends_at host line s next left) declared settled invariant)

pub invariant_broken : (lines : ℕ) (hosts : Hosts) (host line : ℕ) (s s' : SharedState) → Breaks host line s s' → hosts.uuid host ≢ None
    → (settled : Settled) → Invariant settled lines hosts s → Invariant settled lines hosts s'
invariant_broken lines hosts host line s s' b declared settled invariant =
    invariant_transferred lines hosts host line b.between s' b.moves declared settled (invariant_sent lines hosts host b.lines s b.between b.sends declared settled invariant)

-- A task's own step.
module _ (lines host word : ℕ) (r : Run) (old new : Hosts) (s s' : SharedState) where
  turn : Turn
  turn = turn_at r.task.phase r.task word

  -- on a damaged image
  module _ (image : Lines) (is : IsDamaged image lines old s) (steps : Steps host word (Damaged image) r old new s s') where
    bad_mine : (t : Turn) (settled : ℕ) (q : Run) → run_after t settled r ≡ Some q → GoesOnBad t image (line_bytes * lines) old.uuid host s'
        → BadTaskHolds image (line_bytes * lines) old.uuid host q.task s'
    bad_mine (Goes t) settled q e on = subst (λ (x : Run). BadTaskHolds image (line_bytes * lines) old.uuid host x.task s') (same_Some _ q e) on
    bad_mine (Marks t) settled q e on = subst (λ (x : Run). BadTaskHolds image (line_bytes * lines) old.uuid host x.task s') (same_Some _ q e) on
    bad_mine (Finds n t) settled q e on = subst (λ (x : Run). BadTaskHolds image (line_bytes * lines) old.uuid host x.task s') (same_Some _ q e) on
    bad_mine (Writes seq e' t) settled q e on = absurd on
    bad_mine (Ends reply) settled q e on = absurd (no_run e)

    bad_step : (MaySayBad turn image (line_bytes * lines) r.task) × IsDamaged image lines (record { uuid = old.uuid; run = new.run; kept = new.kept }) s'
    unfolding turn
    bad_step =
        let holds = is.tasks host r steps.is in
        let b = bad_turn image (line_bytes * lines) old.uuid host s s' word r.task is.still holds steps.operates in
        (b.0, record { enough = is.enough; still = b.1; tasks = λ h q run. task h q run (same h host); bare = λ h. bare h (same h host) })
      where
        bare : (h : ℕ) → Same h host → new.kept h ≡ None
        bare h (inl e) =
            let b = bad_turn image (line_bytes * lines) old.uuid host s s' word r.task is.still (is.tasks host r steps.is) steps.operates in
            ap new.kept e
            ∙ steps.keeps
            ∙ ap (kept_after (turn_given r.task word) r.task) (is.bare host)
            ∙ keeps_none (turn_given r.task word) image (line_bytes * lines) r.task
            (subst (λ (x : Turn). MaySayBad x image (line_bytes * lines) r.task) (sym (given_turn r.task.phase r.task word refl)) b.0)
        bare h (inr ne) = steps.kept h ne ∙ is.bare h

        task : (h : ℕ) (q : Run) → new.run h ≡ Some q → Same h host → BadTaskHolds image (line_bytes * lines) old.uuid h q.task s'
        task h q run (inl e) =
            let b = bad_turn image (line_bytes * lines) old.uuid host s s' word r.task is.still (is.tasks host r steps.is) steps.operates in
            subst (λ x. BadTaskHolds image (line_bytes * lines) old.uuid x q.task s') (sym e)
            (bad_mine (turn_at r.task.phase r.task word) 0 q
            (ap (λ (t : Turn). run_after t 0 r) (sym (given_turn r.task.phase r.task word refl)) ∙ sym steps.mine ∙ subst (λ x. new.run x ≡ Some q) e run) b.2)
        task h q run (inr ne) = bad_others image (line_bytes * lines) old.uuid host s s' word r.task is.still
            (is.tasks host r steps.is) steps.operates h q.task (is.tasks h q (sym (steps.runs h ne) ∙ run))

  -- on a sound file system
  module _ (p : Params) (all : List File) (settled : ℕ) (is : IsKnown p all settled lines old s)
      (steps : Steps host word (Known p all settled) r old new s s') (named : KeepsNamed r) (own : r.task.kept ≡ old.kept host) where
    sys : System
    sys = record { params = p; have = line_bytes * lines; uuid = old.uuid; master = is.master }

    known_mine : (t : Turn) (q : Run) (all' : List File) (settled' : ℕ) → run_after t settled r ≡ Some q
        → TaskContinues t sys host (floor_after t settled r.floor) s' all' settled' → TaskHolds sys host q.floor q.task s' all' settled'
    known_mine (Ends reply) q all' settled' e on = absurd (no_run e)
    known_mine c q all' settled' e on = subst (λ (x : Run). TaskHolds sys host x.floor x.task s' all' settled') (same_Some _ q e) on

    after : After turn sys host r.floor r.named r.task s' all settled
    unfolding turn sys
    after =
        let holds = is.tasks host r steps.is in
        let g = gives sys s s' all settled is.core host r.floor word r.task r.task.phase holds.phase steps.operates in
        turned sys host r.floor r.named s' all settled g.core r.task.phase r.task word holds.command holds.me holds.lines (subst (KeepsPrefix p all settled) (sym own) (is.kept host)) named g.given

    known_step : IsKnown p (list_after turn all) (settled_after turn settled) lines (record { uuid = old.uuid; run = new.run; kept = new.kept }) s'
    unfolding turn sys
    known_step = record { enough = is.enough; inside = λ h l d. inside h l d; master = is.master; core = after.core; tasks = λ h q run. task h q run (same h host); kept = λ h. kept h (same h host) }
      where
        inside : (h l : ℕ) → IsDirty (s'.copy h l) → l < lines
        inside h l d =
            elim (dirty_behind (op_of r.task) host lines s s' word h l is.core.wide steps.operates
            (at_within lines is.enough sys s all settled is.core refl host r.floor r.task r.task.phase (is.tasks host r steps.is).phase) d) [
              | inl within ↦ within
              | inr was ↦ is.inside h l was
            ]

        turn_is : turn_given r.task word ≡ turn_at r.task.phase r.task word
        turn_is = given_turn r.task.phase r.task word refl

        -- what a logplay lists and what a mount has read is the history's front
        listed : (k : Option Kept) (turn' : Turn) → turn_at r.task.phase r.task word ≡ turn' → Tells r.task r.task.phase turn'
            → KeepsPrefix p (list_after turn' all) (settled_after turn' settled) k
            → KeepsPrefix p (list_after turn' all) (settled_after turn' settled) (kept_after turn' r.task k)
        listed k (Ends reply) at tells keeps = by_reply reply k at tells keeps
          where
            by_reply : (reply' : Reply) (k' : Option Kept) → turn_at r.task.phase r.task word ≡ Ends reply' → ReplyTells r.task r.task.phase reply'
                → KeepsPrefix p all (settled_after (Ends reply') settled) k'
                → KeepsPrefix p all (settled_after (Ends reply') settled) (kept_by reply' (read_by r.task) k')
            by_reply (Played m tree) None at' tells' keeps' = tt
            by_reply (Played m tree) (Some k') at' tells' keeps' = played_keeps sys host r.floor r.task s all settled m tells' (is.tasks host r steps.is).phase
            by_reply (Mounted m) k' at' tells' keeps' = played_keeps sys host r.floor r.task s all settled m tells' (is.tasks host r steps.is).phase
            by_reply other k' at' tells' keeps' = keeps'
        listed k e at tells keeps = keeps

        kept : (h : ℕ) → Same h host → KeepsPrefix p (list_after (turn_at r.task.phase r.task word) all) (settled_after (turn_at r.task.phase r.task word) settled) (new.kept h)
        kept h (inl e) =
            let holds = is.tasks host r steps.is in
            let g = gives sys s s' all settled is.core host r.floor word r.task r.task.phase holds.phase steps.operates in
            subst (λ (x : ℕ). KeepsPrefix p (list_after turn all) (settled_after turn settled) (new.kept x)) (sym e)
            (subst (KeepsPrefix p (list_after turn all) (settled_after turn settled)) (sym (steps.keeps ∙ ap (λ (x : Turn). kept_after x r.task (old.kept host)) turn_is))
            (listed (old.kept host) turn refl (turn_tells r.task.phase r.task word)
            (keeps_changed sys s' all settled g.core host (list_after turn all) (settled_after turn settled) (old.kept host) after.change (is.kept host))))
        kept h (inr ne) =
            let holds = is.tasks host r steps.is in
            let g = gives sys s s' all settled is.core host r.floor word r.task r.task.phase holds.phase steps.operates in
            subst (KeepsPrefix p (list_after turn all) (settled_after turn settled)) (sym (steps.kept h ne))
            (keeps_changed sys s' all settled g.core host (list_after turn all) (settled_after turn settled) (old.kept h) after.change (is.kept h))

        task : (h : ℕ) (q : Run) → new.run h ≡ Some q → Same h host
            → TaskHolds (record { params = p; have = line_bytes * lines; uuid = old.uuid; master = is.master }) h q.floor q.task s'
            (list_after (turn_at r.task.phase r.task word) all) (settled_after (turn_at r.task.phase r.task word) settled)
        task h q run (inl e) =
            subst (λ x. TaskHolds sys x q.floor q.task s' (list_after turn all) (settled_after turn settled)) (sym e)
            (known_mine turn q (list_after turn all) (settled_after turn settled)
            (ap (λ (t : Turn). run_after t settled r) (sym (given_turn r.task.phase r.task word refl)) ∙ sym steps.mine ∙ subst (λ x. new.run x ≡ Some q) e run) after.task)
        task h q run (inr ne) =
            let holds = is.tasks host r steps.is in
            let g = gives sys s s' all settled is.core host r.floor word r.task r.task.phase holds.phase steps.operates in
            task_resettled sys s' all settled g.core host h q.floor q.task (list_after turn all) (settled_after turn settled) ne after.change
            (task_kept sys s s' all settled is.core h q.floor (g.others h ne) q.task (is.tasks h q (sym (steps.runs h ne) ∙ run)))

step_hosts : (host word : ℕ) (settled : Settled) (r : Run) (old new : Hosts) (s s' : SharedState) → Steps host word settled r old new s s'
    → AreHosts old s → AreHosts (record { uuid = old.uuid; run = new.run; kept = new.kept }) s'
step_hosts host word settled r old new s s' steps are =
    record {
      apart = are.apart;
      absent = λ h l none. absent h l none (same h host);
      idle = λ h none. idle h none (same h host);
      bare = λ h none.
          bare h none (same h host);
    }
  where
    running : old.uuid host ≡ None → ⊥
    running none = no_run (sym (are.idle host none) ∙ steps.is)

    absent : (h l : ℕ) → old.uuid h ≡ None → Same h host → s'.copy h l ≡ Absent
    absent h l none (inl e) = absurd (running (ap old.uuid (sym e) ∙ none))
    absent h l none (inr ne) = other_caches (op_of r.task) host s s' word h l ne steps.operates ∙ are.absent h l none

    bare : (h : ℕ) → old.uuid h ≡ None → Same h host → new.kept h ≡ None
    bare h none (inl e) = absurd (running (ap old.uuid (sym e) ∙ none))
    bare h none (inr ne) = steps.kept h ne ∙ are.bare h none

    idle : (h : ℕ) → old.uuid h ≡ None → Same h host → new.run h ≡ None
    idle h none (inl e) = absurd (running (ap old.uuid (sym e) ∙ none))
    idle h none (inr ne) = steps.runs h ne ∙ are.idle h none

-- every task holds what it named
step_named : (host word : ℕ) (settled : Settled) (r : Run) (old new : Hosts) (s s' : SharedState) → Steps host word settled r old new s s'
    → ((h : ℕ) (q : Run) → old.run h ≡ Some q → KeepsNamed q) → (h : ℕ) (q : Run) → new.run h ≡ Some q → KeepsNamed q
step_named host word settled r old new s s' steps named h q run = by_host (same h host)
  where
    by_host : Same h host → KeepsNamed q
    by_host (inl e) =
        named_kept r q (settled_count settled) r.task.phase word refl (named host r steps.is)
        (ap (λ (t : Turn). run_after t (settled_count settled) r) (sym (given_turn r.task.phase r.task word refl)) ∙ sym steps.mine ∙ subst (λ x. new.run x ≡ Some q) e run)
    by_host (inr ne) = named h q (sym (steps.runs h ne) ∙ run)

-- every task behind its mark has what was settled then
step_marked : (host word : ℕ) (settled : Settled) (r : Run) (old new : Hosts) (s s' : SharedState) → Steps host word settled r old new s s'
    → ((h : ℕ) (q : Run) → old.run h ≡ Some q → KeepsMark q) → (h : ℕ) (q : Run) → new.run h ≡ Some q → KeepsMark q
step_marked host word settled r old new s s' steps marked h q run = by_host (same h host)
  where
    by_host : Same h host → KeepsMark q
    by_host (inl e) =
        mark_kept r q (settled_count settled) r.task.phase word (marked host r steps.is)
        (ap (λ (t : Turn). run_after t (settled_count settled) r) (sym (given_turn r.task.phase r.task word refl)) ∙ sym steps.mine ∙ subst (λ x. new.run x ≡ Some q) e run)
    by_host (inr ne) = marked h q (sym (steps.runs h ne) ∙ run)

-- every task has what its host keeps
step_keeps : (host word : ℕ) (settled : Settled) (r : Run) (old new : Hosts) (s s' : SharedState) → Steps host word settled r old new s s'
    → ((h : ℕ) (q : Run) → old.run h ≡ Some q → q.task.kept ≡ old.kept h) → (h : ℕ) (q : Run) → new.run h ≡ Some q → q.task.kept ≡ new.kept h
step_keeps host word settled r old new s s' steps keeps h q run = by_host (same h host)
  where
    turn_is : turn_given r.task word ≡ turn_at r.task.phase r.task word
    turn_is = given_turn r.task.phase r.task word refl

    goes_on : (turn : Turn) → Tells r.task r.task.phase turn → run_after turn (settled_count settled) r ≡ Some q → q.task.kept ≡ kept_after turn r.task r.task.kept
    goes_on (Ends reply) tells is = absurd (no_run is)
    goes_on e tells is = ap (λ (x : Run). x.task.kept) (sym (same_Some _ q is)) ∙ tells

    by_host : Same h host → q.task.kept ≡ new.kept h
    by_host (inl e) =
        goes_on (turn_at r.task.phase r.task word) (turn_tells r.task.phase r.task word)
        (ap (λ (t : Turn). run_after t (settled_count settled) r) (sym turn_is) ∙ sym steps.mine ∙ subst (λ x. new.run x ≡ Some q) e run)
        ∙ ap (λ (x : Turn). kept_after x r.task r.task.kept) (sym turn_is)
        ∙ ap (kept_after (turn_given r.task word) r.task) (keeps host r steps.is)
        ∙ sym steps.keeps
        ∙ sym (ap new.kept e)
    by_host (inr ne) = keeps h q (sym (steps.runs h ne) ∙ run) ∙ sym (steps.kept h ne)

-- a task's step says what it may, and keeps everything
pub invariant_stepped : (lines host word : ℕ) (settled : Settled) (r : Run) (old new : Hosts) (s s' : SharedState) → Invariant settled lines old s
    → Steps host word settled r old new s s' → StepHolds settled lines word r old new s'
unfolding turn sys
invariant_stepped lines host word settled r old new s s' invariant steps = go settled invariant.stage steps
  where
    turn_is : turn_given r.task word ≡ turn_at r.task.phase r.task word
    turn_is = given_turn r.task.phase r.task word refl

    go : (x : Settled) → InvariantBy x lines old s → Steps host word x r old new s s' → StepHolds x lines word r old new s'
    go (Small image) is steps = absurd (no_run (sym (is.idle host) ∙ steps.is))
    go (Damaged image) is steps =
        let b = bad_step lines host word r old new s s' image is steps in
        record {
          says = subst (λ (x : Turn). MaySayBad x image (line_bytes * lines) r.task) (sym turn_is) b.0;
          invariant = hosts_are (Damaged image) lines old new s' steps.uuids
              (record {
                declared = step_hosts host word (Damaged image) r old new s s' steps invariant.declared;
                marked =
                    step_marked host word (Damaged image) r old new s s' steps invariant.marked;
                named =
                    step_named host word (Damaged image) r old new s s' steps invariant.named;
                keeps =
                    step_keeps host word (Damaged image) r old new s s' steps invariant.keeps;
                wide = b.1.still.wide;
                stage = b.1;
              });
        }
    go (Known p all n) is steps =
        let a = after lines host word r old new s s' p all n is steps (invariant.named host r steps.is) (invariant.keeps host r steps.is) in
        let k = known_step lines host word r old new s s' p all n is steps (invariant.named host r steps.is) (invariant.keeps host r steps.is) in
        record {
          says = record {
            master = is.master;
            may =
                subst (λ (x : Turn). MaySay x (record { params = p; have = line_bytes * lines; uuid = old.uuid; master = is.master }) r all n)
                (sym turn_is) a.may;
          };
          invariant = subst (λ (x : Turn). Invariant (Known p (list_after x all) (settled_after x n)) lines new s') (sym turn_is)
              (hosts_are _ lines old new s' steps.uuids
              (record {
                declared = step_hosts host word (Known p all n) r old new s s' steps invariant.declared;
                marked =
                    step_marked host word (Known p all n) r old new s s' steps invariant.marked;
                named =
                    step_named host word (Known p all n) r old new s s' steps invariant.named;
                keeps =
                    step_keeps host word (Known p all n) r old new s s' steps invariant.keeps;
                wide = a.core.wide;
                stage = k;
              }));
        }
