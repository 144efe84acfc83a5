-- What is left of a refusal that the entries tell.
use Rattle.std.proofs.Common.{◌≡◌, ◌⊎◌, ◌↔◌, ◌+◌, inl, inr, ℕ, List, length, Bool, IsTrue, Option, Some, None, refl, ap, sym, ◌∙◌, subst}
use Rattle.std.specs.Prelude.{IfOk, option_map, Result, Ok, Err}
use Rattle.std.proofs.lemmas.Option.{same_Some}
use Rattle.fam_base.specs.declared.entry.Entry.{Entry}
use Rattle.fam_base.specs.declared.entry.Params.{Params}
use Rattle.fam_base.specs.declared.cmd.Cmd.{Cmd}
use Rattle.fam_base.specs.Image.{Image}
use Rattle.fam_history.specs.declared.command.ToldCommand.{ToldCommand}
use Rattle.fam_history.specs.declared.command.ToldCommand.TheVariants as told_cmd
use Rattle.fam_journal.specs.Legal.{DecideAllowed, FoundAllowed}
use Rattle.fam_journal.specs.Past as past
use Rattle.fam_journal.specs.Past.{HostPast, Sound, State, finds}
use Rattle.fam_journal.specs.Shapes.{IsHead, Met, Named}
use Rattle.fam_lines.specs.declared.host.SeenHost.{SeenHost}
use Rattle.fam_lines.specs.Lines.{untold_of}
use Rattle.fam_rules.specs.declared.answers.Refused.{Refused as Cause}
use Rattle.fam_rules.specs.Asks.{File}
use Rattle.fam_rules.specs.Decide.{decide, decide_wish, wish_of}
use Rattle.fam_rules.specs.Reply as reply
use Rattle.fam_settled.specs.declared.bytes.Filed.{Filed}
use Rattle.fam_settled.specs.Settled.{SettledLog as Log, filed, settled_files, settled_log_state}
use Rattle.fam_settled.specs.Told.{bare_cmd}
use Rattle.fam_settled.proofs.Files.{length-files_of}
use Rattle.fam_judge.proofs.Untelling.{untold_wish}
use Rattle.fam_judging.specs.Candidates.{settled_state, stage_shape}
use Rattle.fam_judging.specs.declared.candidate.Settled.{Settled}
use Rattle.fam_judging.specs.declared.candidate.Settled.TheVariants as settled
use Rattle.fam_judging.specs.declared.candidate.Stage.{Stage}
use Rattle.fam_judging.specs.declared.candidate.Stage.TheVariants as stages
use Rattle.fam_judging.specs.declared.candidate.Track.{Track}
use Rattle.fam_judging.specs.declared.given.GivenImage.{GivenImage}
use Rattle.fam_judging.specs.declared.lefts.Left.{Left}
use Rattle.fam_judging.specs.declared.lefts.Lefts.{Lefts}
use Rattle.fam_judging.specs.FoundLefts.{FoundLeft, PendingLeft, host_of}
use Rattle.fam_judging.specs.Lefts.{IsOfLefts, LeavesEndings, first, only, second}
use Rattle.fam_judging.specs.Replies.{Asker, EndingState, MayEnd, MeetsAtPoint, Point, found_at, told, untold}
use Rattle.fam_judging.specs.Going.{HasGiven}
use Rattle.fam_judging.specs.ReplyKinds.{DeclinesEarly, DeclinesMet, IsDecidedCause, asker_of, ending_left, params_in, point_of, same_ending, unmarked_ending}
use Rattle.fam_judging.proofs.Leaves.{only_leaves, params_are}
use Rattle.fam_judging.proofs.ReplyKinds.{declined, declines_met, decides_wish}

-- Decisions.

-- a command wants the same as it is told
pub told_wish : (c : ToldCommand) → wish_of (bare_cmd c) ≡ wish_of (untold_of c)
told_wish (told_cmd.Plain cmd) = untold_wish cmd
told_wish (told_cmd.Cp path size attr stripe) = refl
told_wish (told_cmd.VerifySource path count) = refl
told_wish (told_cmd.Check count) = refl

-- so the same is decided
pub told_decide : (p : Params) (me : List ℕ) (list : List Entry) (c : ToldCommand) → decide p me list (bare_cmd c) ≡ decide p me list (untold_of c)
told_decide p me list c = ap (option_map (decide_wish p me list)) (told_wish c)

err_is : (a b : Cause) → (let r : Result Entry Cause = Err a in r) ≡ Err b → a ≡ b
err_is a b e = cc

-- the test of one refusal
pub refusal_is : (o : Option (Result Entry Cause)) (own why : Cause) (b : Bool) → o ≡ Some (Err own) → (IsTrue b ↔ (own ≡ why)) → IsTrue b ↔ (o ≡ Some (Err why))
refusal_is o own why b is same = (λ t. is ∙ ap (λ (c : Cause). Some (Err c)) (same.0 t), λ e. same.1 (err_is own why (same_Some _ _ (sym is ∙ e))))

-- no entry has no file
pub filed_none : (o : Option Filed) → o ≡ None → filed o ≡ None
filed_none o e = ap filed e

-- and no file is of no entry
pub none_filed : (o : Option Filed) → filed o ≡ None → o ≡ None
none_filed None e = refl
none_filed (Some f) e = absurd cc

-- a refusal of a log on which nothing pends
pub refused_log : (log : Log) (host : HostPast) (cmd : Cmd) (why : Cause) → host.cmd ≡ Some cmd
    → DecideAllowed host (Err why) (settled_log_state log) ↔ ((log.pending ≡ None) × (decide log.params host.uuid (Rattle.fam_rules.specs.Asks.entries_of (settled_files log)) cmd ≡ Some (Err why)))
refused_log log host cmd why own = (
  λ is. (
    none_filed log.pending is.none,
    subst (λ (c : Cmd). decide log.params host.uuid (Rattle.fam_rules.specs.Asks.entries_of (settled_files log)) c ≡ Some (Err why)) (sym (same_Some cmd is.cmd (sym own ∙ is.told))) is.is,
  ),
  λ both. record { cmd = cmd; told = own; none = filed_none log.pending both.0; is = both.1 },
)

-- Lefts.

no_decision : (n : ℕ) (s : State) (d : past.Damage) (host : HostPast) (why : Cause) → Rattle.fam_judging.specs.ReplyKinds.damage_of_state s ≡ Some d → DecideAllowed host (Err why) (finds n s) → ⊥
no_decision n (past.Bad origin damage gate) d host why is decides = decides
no_decision n (Sound p history pending) d host why is decides = absurd cc

none_decided : (s : State) (d : past.Damage) (host : HostPast) (why : Cause) → Rattle.fam_judging.specs.ReplyKinds.damage_of_state s ≡ Some d → DecideAllowed host (Err why) s → ⊥
none_decided (past.Bad origin damage gate) d host why is decides = decides
none_decided (Sound p history pending) d host why is decides = absurd cc

module _ (given : GivenImage) (seen : SeenHost) (cmd : ToldCommand) (t : Track) (why : Cause) (ruled : IsDecidedCause why) where
  -- a refusal of the entries isn't one of the superblock
  not_early : (params : Option Params) → Rattle.fam_judging.specs.ReplyKinds.EarlyCause params seen.uuid (untold_of cmd) why → ⊥
  not_early params is = by why ruled is
    where
      by : (why : Cause) → IsDecidedCause why → Rattle.fam_judging.specs.ReplyKinds.EarlyCause params seen.uuid (untold_of cmd) why → ⊥
      by (Rattle.fam_rules.specs.declared.answers.Refused.TheVariants.NotMaster own master) ruled is = ruled
      by (Rattle.fam_rules.specs.declared.answers.Refused.TheVariants.LongPath limit) ruled is = ruled
      by why ruled is = is

  module _ (s : Settled) (start : Image) (own : HasGiven start given s) (e : EndingState) where
    who : Asker
    who = asker_of seen cmd

    at : Point
    at = point_of start s t

    -- it found entries
    pub met_of : MayEnd (asker_of seen cmd) (point_of start s t) (reply.NotAppended why) e → DeclinesMet (asker_of seen cmd) (point_of start s t) why e
    met_of ends = by (declined (asker_of seen cmd) (point_of start s t) e (params_in given s) (params_are start given s own) why ends)
      where
        by : (DeclinesEarly (params_in given s) seen.uuid (untold_of cmd) (stage_shape t.stage) why × (e ≡ unmarked_ending (point_of start s t))) ⊎ DeclinesMet (asker_of seen cmd)
            (point_of start s t) why e
            → DeclinesMet (asker_of seen cmd) (point_of start s t) why e
        by (inl is) = absurd (not_early (params_in given s) is.0.cause)
        by (inr is) = is

  -- no history, no refusal
  pub damaged_leaves : (s : Settled) → (d : past.Damage) → Rattle.fam_judging.specs.ReplyKinds.damage_in given s ≡ Some d
      → LeavesEndings given seen cmd s t (reply.NotAppended why) (record { first = None; second = None })
  damaged_leaves s d is start own e = (λ left. absurd (out left), λ ends. absurd (in_met (met_of s start own e ends)))
    where
      out : IsOfLefts start (record { first = None; second = None }) e → ⊥
      out (first l there same) = absurd cc
      out (second l there same) = absurd cc

      bad : Rattle.fam_judging.specs.ReplyKinds.damage_of_state (settled_state start s) ≡ Some d
      bad = sym (Rattle.fam_judging.proofs.Leaves.damage_is start given s own) ∙ is

      in_meets : (met : Point) → MeetsAtPoint (asker_of seen cmd) (point_of start s t) met → DecideAllowed (Rattle.fam_judging.specs.Replies.told_at (asker_of seen cmd) met) (Err why) met.state → ⊥
      in_meets met (told n stage e) decides = none_decided (settled_state start s) d _ why bad (subst (λ (p : Point). DecideAllowed (Rattle.fam_judging.specs.Replies.told_at
          (asker_of seen cmd) p) (Err why) p.state) e decides)
      in_meets met (untold n head wish found e) decides =
          no_decision n (settled_state start s) d _ why bad (subst (λ (p : Point). DecideAllowed (Rattle.fam_judging.specs.Replies.told_at (asker_of seen cmd) p) (Err why) p.state) e decides)

      in_met : DeclinesMet (asker_of seen cmd) (point_of start s t) why e → ⊥
      in_met is = in_meets is.met is.meets is.decides

  -- a command that has named an entry isn't refused
  pub named_leaves : (s : Settled) → (seq : ℕ) → stage_shape t.stage ≡ Named seq → LeavesEndings given seen cmd s t (reply.NotAppended why) (record { first = None; second = None })
  named_leaves s seq named start own e = (λ left. absurd (out left), λ ends. absurd (in_meets _ (met_of s start own e ends).meets))
    where
      out : IsOfLefts start (record { first = None; second = None }) e → ⊥
      out (first l there same) = absurd cc
      out (second l there same) = absurd cc

      in_meets : (met : Point) → MeetsAtPoint (asker_of seen cmd) (point_of start s t) met → ⊥
      in_meets met (told n stage e) = Rattle.fam_judging.proofs.ReplyPlaces.met_named seq n (sym stage ∙ named)
      in_meets met (untold n head wish found e) = subst IsHead named head

  -- one that found entries before
  pub met_leaves : (s : Settled) (n : ℕ) → stage_shape t.stage ≡ Met n → (b : Bool)
      → ((start : Image) → IsTrue b ↔ DecideAllowed (host_of seen cmd t) (Err why) (settled_state start s))
      → LeavesEndings given seen cmd s t (reply.NotAppended why) (only b s t)
  met_leaves s n met b is start own e =
      let left = Rattle.fam_judging.proofs.Leaves.only_left start b s t (DecideAllowed (host_of seen cmd t) (Err why) (settled_state start s)) (is start) e in (
        λ l. let both = left.0 l in declines_met (asker_of seen cmd) (point_of start s t) e why (record {
          met = point_of start s t;
          meets = told n met refl;
          decided = ruled;
          decides = both.0;
          is = both.1;
        }),
        λ ends. let m = met_of s start own e ends in left.1 (back m.met m.meets m.decides m.is),
      )
    where
      back : (p : Point) → MeetsAtPoint (asker_of seen cmd) (point_of start s t) p → DecideAllowed (Rattle.fam_judging.specs.Replies.told_at (asker_of seen cmd) p)
          (Err why) p.state → e ≡ same_ending p
          → DecideAllowed (host_of seen cmd t) (Err why) (settled_state start s) × (e ≡ ending_left start s t)
      back p (told n stage same) decides left =
          (subst (λ (p : Point). DecideAllowed (Rattle.fam_judging.specs.Replies.told_at (asker_of seen cmd) p) (Err why) p.state) same decides, left ∙ ap same_ending same)
      back p (untold n head wish found same) decides left = absurd (subst IsHead met head)

  -- one that finds entries now
  pub found_leaves : (log : Log) (lefts : Lefts) → IsHead (stage_shape t.stage) → FoundLeft log (length log.entries) seen cmd t why lefts.first
      → PendingLeft log seen cmd t why log.pending lefts.second
      → LeavesEndings given seen cmd (settled.Log log) t (reply.NotAppended why) lefts
  found_leaves log lefts head one two start own e = (out, λ ends. let m = met_of (settled.Log log) start own e ends in back m.met m.meets m.decides m.is)
    where
      history : List File
      history = settled_files log

      count : length (settled_files log) ≡ length log.entries
      count = length-files_of log.entries log.bytes

      ends_at : (n : ℕ) → FoundAllowed n (settled_log_state log) → (o : Option Left) → FoundLeft log n seen cmd t why o → (l : Left) → o ≡ Some l → e ≡ ending_left start l.settled l.track
          → MayEnd (asker_of seen cmd) (point_of start (settled.Log log) t) (reply.NotAppended why) e
      ends_at n found None is l there same = absurd cc
      ends_at n found (Some k) is l there same =
          let point = point_of start (settled.Log log) t in
          declines_met (asker_of seen cmd) point e why (record {
            met = found_at n point;
            meets = untold n head (decides_wish (asker_of seen cmd) (found_at n point) (Err why) (finds n (settled_log_state log)) is.0) found refl;
            decided = ruled;
            decides = is.0;
            is = same ∙ ap (λ (k : Left). ending_left start k.settled k.track) (sym (same_Some k l there)) ∙ is.1 start;
          })

      settled_allowed : (o : Option Filed) → log.pending ≡ o → FoundAllowed (length log.entries) (Sound log.params (settled_files log) (filed o))
      settled_allowed None e = sym count
      settled_allowed (Some f) e = inl (sym count)

      out : IsOfLefts start lefts e → MayEnd (asker_of seen cmd) (point_of start (settled.Log log) t) (reply.NotAppended why) e
      out (first l there same) = ends_at (length log.entries) (settled_allowed log.pending refl) lefts.first one l there same
      out (second l there same) = by log.pending refl two
        where
          by : (o : Option Filed) → log.pending ≡ o → PendingLeft log seen cmd t why o lefts.second → MayEnd (asker_of seen cmd) (point_of start (settled.Log log) t) (reply.NotAppended why) e
          by None pending is = let no : None ≡ Some l = sym is ∙ there in absurd cc
          by (Some f) pending is =
              ends_at (length log.entries + 1) (subst (λ (o : Option Filed). FoundAllowed (length log.entries + 1) (Sound log.params (settled_files log) (filed o))) (sym pending) (inr (ap
              (λ n. n + 1) (sym count))))
              lefts.second is l there same

      left_at : (n : ℕ) → DecideAllowed (host_of seen cmd t) (Err why) (finds n (settled_log_state log)) → e ≡ same_ending (found_at n (point_of start (settled.Log log) t))
          → (o : Option Left) → FoundLeft log n seen cmd t why o → (l : Left) × (o ≡ Some l) × (e ≡ ending_left start l.settled l.track)
      left_at n decides same None is = absurd (is decides)
      left_at n decides same (Some l) is = (l, refl, same ∙ sym (is.1 start))

      as_first : DecideAllowed (host_of seen cmd t) (Err why) (finds (length log.entries) (settled_log_state log))
          → e ≡ same_ending (found_at (length log.entries) (point_of start (settled.Log log) t)) → IsOfLefts start lefts e
      as_first decides same = let l = left_at (length log.entries) decides same lefts.first one in first l.0 l.1 l.2

      as_second : (f : Filed) → log.pending ≡ Some f → DecideAllowed (host_of seen cmd t) (Err why) (finds (length log.entries + 1) (settled_log_state log))
          → e ≡ same_ending (found_at (length log.entries + 1) (point_of start (settled.Log log) t)) → IsOfLefts start lefts e
      as_second f pending decides same =
          let l = left_at (length log.entries + 1) decides same lefts.second (subst (λ (o : Option Filed). PendingLeft log seen cmd t why o lefts.second) pending two) in second l.0 l.1 l.2

      by_count : (n : ℕ) (o : Option Filed) → log.pending ≡ o → FoundAllowed n (Sound log.params (settled_files log) (filed o))
          → DecideAllowed (host_of seen cmd t) (Err why) (finds n (settled_log_state log)) → e ≡ same_ending (found_at n (point_of start (settled.Log log) t)) → IsOfLefts start lefts e
      by_count n None pending found decides same =
          as_first (subst (λ (k : ℕ). DecideAllowed (host_of seen cmd t) (Err why) (finds k (settled_log_state log))) (found ∙ count) decides)
          (subst (λ (k : ℕ). e ≡ same_ending (found_at k (point_of start (settled.Log log) t))) (found ∙ count) same)
      by_count n (Some f) pending (inl found) decides same =
          as_first (subst (λ (k : ℕ). DecideAllowed (host_of seen cmd t) (Err why) (finds k (settled_log_state log))) (found ∙ count) decides)
          (subst (λ (k : ℕ). e ≡ same_ending (found_at k (point_of start (settled.Log log) t))) (found ∙ count) same)
      by_count n (Some f) pending (inr found) decides same =
          let more = found ∙ ap (λ n. n + 1) count in
          as_second f pending (subst (λ (k : ℕ). DecideAllowed (host_of seen cmd t) (Err why) (finds k (settled_log_state log))) more decides)
          (subst (λ (k : ℕ). e ≡ same_ending (found_at k (point_of start (settled.Log log) t))) more same)

      back : (p : Point) → MeetsAtPoint (asker_of seen cmd) (point_of start (settled.Log log) t) p
          → DecideAllowed (Rattle.fam_judging.specs.Replies.told_at (asker_of seen cmd) p) (Err why) p.state → e ≡ same_ending p
          → IsOfLefts start lefts e
      back p (told n stage same) decides left = absurd (subst IsHead stage head)
      back p (untold n there wish found same) decides left =
          by_count n log.pending refl found (subst (λ (p : Point). DecideAllowed (Rattle.fam_judging.specs.Replies.told_at (asker_of seen cmd) p) (Err why) p.state) same decides)
          (left ∙ ap same_ending same)

-- one that has found nothing
pub head_of : (stage : Stage) → (stage ≡ stages.Begun) ⊎ (stage ≡ stages.Marked) → IsHead (stage_shape stage)
head_of stage (inl is) = subst (λ (k : Stage). IsHead (stage_shape k)) (sym is) tt
head_of stage (inr is) = subst (λ (k : Stage). IsHead (stage_shape k)) (sym is) tt

-- what two clauses say of what a call leaves
pub ok_both : {T E : Type 0} (r : Result T E) (P Q R : T → Type 0) → IfOk r P → IfOk r Q → ((x : T) → P x → Q x → R x) → IfOk r R
ok_both (Ok x) P Q R p q f = f x p q
ok_both (Err e) P Q R p q f = tt
