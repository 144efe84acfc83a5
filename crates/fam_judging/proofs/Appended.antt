-- What is left of entries that are acknowledged is what replies leave.
use Rattle.std.proofs.Common.{◌≡◌, ◌≢◌, ◌⊎◌, inl, inr, ℕ, Option, Some, None, refl, ap, ap₂, sym, ◌∙◌, subst}
use Rattle.std.specs.Prelude.{Result, Ok}
use Rattle.std.proofs.lemmas.Option.{same_Some}
use Rattle.fam_base.specs.declared.entry.Entry.{Entry}
use Rattle.fam_base.specs.Image.{Image}
use Rattle.fam_commands.specs.Appends.{HasWish}
use Rattle.fam_history.specs.declared.command.ToldCommand.{ToldCommand}
use Rattle.fam_journal.specs.Legal.{FoundAllowed, WritesAllowed}
use Rattle.fam_journal.specs.Past as past
use Rattle.fam_journal.specs.Past.{State, acknowledges, finds}
use Rattle.fam_journal.specs.Shapes.{EntryShape, IsHead, Met, Named}
use Rattle.fam_lines.specs.declared.host.SeenHost.{SeenHost}
use Rattle.fam_lines.specs.Lines.{untold_of}
use Rattle.fam_base.specs.declared.cmd.Cmd.{Cmd}
use Rattle.fam_rules.specs.declared.answers.Refused.{Refused as Cause}
use Rattle.fam_rules.specs.Asks.{entries_of}
use Rattle.fam_rules.specs.Decide.{decide}
use Rattle.fam_rules.specs.Reply as reply
use Rattle.fam_rules.specs.Reply.{Reply}
use Rattle.fam_settled.specs.Settled.{SettledLog as Log, settled_log_state}
use Rattle.fam_judging.specs.Candidates.{stage_shape}
use Rattle.fam_judging.specs.declared.candidate.Settled.{Settled}
use Rattle.fam_judging.specs.declared.candidate.Settled.TheVariants as settled
use Rattle.fam_judging.specs.declared.candidate.Track.{Track}
use Rattle.fam_judging.specs.declared.given.GivenImage.{GivenImage}
use Rattle.fam_judging.specs.declared.lefts.Left.{Left}
use Rattle.fam_judging.specs.declared.lefts.Lefts.{Lefts}
use Rattle.fam_judging.specs.FoundLefts.{host_of}
use Rattle.fam_judging.specs.Lefts.{IsOfLefts, LeavesEndings, first, second}
use Rattle.fam_judging.specs.NamedLefts.{AcknowledgedLeft, FoundNamed, NamedLeft, acknowledged_state}
use Rattle.fam_judging.specs.Replies.{Asker, EndingState, MayEnd, MeetsAtPoint, Point, found_at, named_at, told, told_at, untold}
use Rattle.fam_judging.specs.ReplyKinds.{AcknowledgesNamed, AppendsNew, asker_of, ending_left, point_of}
use Rattle.fam_judging.proofs.ReplyKinds.{appended, appends_named, appends_new}
use Rattle.fam_judging.proofs.ReplyPlaces.{met_named, named_seq}

met_same : (n m : ℕ) → Met n ≡ Met m → n ≡ m
met_same n m e = cc

-- a command that found entries now
pub found_of : (log met : Log) (seq : ℕ) (seen : SeenHost) (cmd : ToldCommand) (t : Track) → settled_log_state met ≡ finds seq (settled_log_state log) → FoundAllowed seq (settled_log_state log)
    → (left : Option Left) → NamedLeft met seq seen cmd t left → FoundNamed log seq seen cmd t left
found_of log met seq seen cmd t same found None none = λ f e is. none e (subst (WritesAllowed seq e (host_of seen cmd t)) (sym same) is)
found_of log met seq seen cmd t same found (Some l) is = (
  found,
  (
    is.0,
    subst (WritesAllowed seq is.0 (host_of seen cmd t)) same is.1,
    is.2,
    λ start. is.3 start ∙ ap (λ (s : State). let e : EndingState = record { state = acknowledged_state cmd seq is.0 s; floor = t.floor; wrote = Some (record { seq = seq; entry = is.0 }) } in e) same,
  ),
)

-- one ending
abbrev pub one : Option Left → Lefts
one left = record { first = left; second = None }

-- so what a call leaves
pub one_leaves : (given : GivenImage) (seen : SeenHost) (cmd : ToldCommand) (t : Track) (reply : Reply) (s : Settled) (log : Log) → s ≡ settled.Log log
    → (left : Option Left) (r : Lefts) → r.first ≡ left → r.second ≡ None → LeavesEndings given seen cmd (settled.Log log) t reply (one left) → LeavesEndings given seen cmd s t reply r
one_leaves given seen cmd t reply s log own left r at_first at_second is =
    let same : r ≡ one left = ap₂ (λ (a b : Option Left). let l : Lefts = record { first = a; second = b } in l) at_first at_second in
    subst (λ (k : Settled). LeavesEndings given seen cmd k t reply r) (sym own) (subst (LeavesEndings given seen cmd (settled.Log log) t reply) (sym same) is)

-- nothing is left
pub no_left : (start : Image) (e : EndingState) → IsOfLefts start (one None) e → ⊥
no_left start e (first l there same) = absurd cc
no_left start e (second l there same) = absurd cc

-- this one is left
pub the_left : (start : Image) (e : EndingState) (l : Left) → IsOfLefts start (one (Some l)) e → e ≡ ending_left start l.settled l.track
the_left start e l (first k there same) = same ∙ ap (λ (k : Left). ending_left start k.settled k.track) (sym (same_Some l k there))
the_left start e l (second k there same) = absurd cc

ok_same : (a b : Entry) → (let r : Result Entry Cause = Ok a in r) ≡ Ok b → a ≡ b
ok_same a b e = cc

-- an entry is decided on once
same_entry : (s : State) (seq : ℕ) (a b : Entry) (host : past.HostPast) → WritesAllowed seq a host s → WritesAllowed seq b host s → a ≡ b
same_entry (past.Bad origin damage gate) seq a b host is other = absurd is
same_entry (past.Sound p history pending) seq a b host is other =
    let same : is.1.cmd ≡ other.1.cmd = same_Some is.1.cmd other.1.cmd (sym is.1.told ∙ other.1.told) in
    ok_same a b (same_Some (Ok a) (Ok b) (sym is.1.is ∙ ap (λ (c : Cmd). decide p host.uuid (entries_of history) c) same ∙ other.1.is))

module _ (given : GivenImage) (seen : SeenHost) (cmd : ToldCommand) (t : Track) (seq : ℕ) where
  -- an entry that it has named
  pub acknowledged_leaves : (log : Log) → stage_shape t.stage ≡ Named seq → (left : Option Left) → AcknowledgedLeft log seq seen cmd t left
      → LeavesEndings given seen cmd (settled.Log log) t (reply.Appended seq) (one left)
  acknowledged_leaves log stage left is start own e = (out left is, λ ends. back left is (named (appended who at e seq ends)))
    where
      who : Asker
      who = asker_of seen cmd

      at : Point
      at = point_of start (settled.Log log) t

      named : AcknowledgesNamed (asker_of seen cmd) (point_of start (settled.Log log) t) seq e ⊎ AppendsNew (asker_of seen cmd) (point_of start (settled.Log log) t) seq e
          → AcknowledgesNamed (asker_of seen cmd) (point_of start (settled.Log log) t) seq e
      named (inl is) = is
      named (inr is) = absurd (by is.names.met is.names.meets)
        where
          by : (met : Point) → MeetsAtPoint (asker_of seen cmd) (point_of start (settled.Log log) t) met → ⊥
          by met (told n there same) = met_named seq n (sym there ∙ stage)
          by met (untold n head wish found same) = subst IsHead stage head

      out : (left : Option Left) → AcknowledgedLeft log seq seen cmd t left → IsOfLefts start (one left) e → MayEnd (asker_of seen cmd) (point_of start (settled.Log log) t) (reply.Appended seq) e
      out None is l = absurd (no_left start e l)
      out (Some k) is l = appends_named (asker_of seen cmd) (point_of start (settled.Log log) t) e seq (record { named = stage; allowed = is.0; is = the_left start e k l ∙ is.1 start })

      back : (left : Option Left) → AcknowledgedLeft log seq seen cmd t left → AcknowledgesNamed (asker_of seen cmd) (point_of start (settled.Log log) t) seq e → IsOfLefts start (one left) e
      back None is named = absurd (is named.allowed)
      back (Some k) is named = first k refl (named.is ∙ sym (is.1 start))

  -- one that it names now
  module _ (s : Settled) (start : Image) (e : EndingState) where
    new_of : ((m : ℕ) → stage_shape t.stage ≡ Named m → m ≢ seq) → AcknowledgesNamed (asker_of seen cmd) (point_of start s t) seq e ⊎ AppendsNew (asker_of seen cmd) (point_of start s t) seq e
        → AppendsNew (asker_of seen cmd) (point_of start s t) seq e
    new_of other (inl is) = absurd (other seq is.named refl)
    new_of other (inr is) = is

    -- so at a point where it found what it names
    names_left : (met : Point) → MeetsAtPoint (asker_of seen cmd) (point_of start s t) met → met.stage ≡ Met seq → (entry : Entry) → EntryShape (untold_of cmd) entry
        → WritesAllowed seq entry (told_at (asker_of seen cmd) met) met.state
        → e ≡ record { state = acknowledged_state cmd seq entry met.state; floor = met.floor; wrote = Some (record { seq = seq; entry = entry }) }
        → MayEnd (asker_of seen cmd) (point_of start s t) (reply.Appended seq) e
    names_left met meets stage entry shape writes same = appends_new (asker_of seen cmd) (point_of start s t) e seq (record {
      now = named_at (asker_of seen cmd) seq entry met;
      names = record { met = met; meets = meets; seq = seq; entry = entry; shape = shape; stage = stage; writes = writes; is = refl };
      number = refl;
      is = same;
    })

    -- what an entry leaves that is named at a point
    record Left_at (met : Point) : Type 0 where
      pub entry : Entry
      pub stage : met.stage ≡ Met seq
      pub writes : WritesAllowed seq entry (told_at (asker_of seen cmd) met) met.state
      pub is : e ≡ record { state = acknowledged_state cmd seq entry met.state; floor = met.floor; wrote = Some (record { seq = seq; entry = entry }) }

    left_at : (is : AppendsNew (asker_of seen cmd) (point_of start s t) seq e) → Left_at is.names.met
    left_at is = record {
      entry = is.names.entry;
      stage = is.names.stage ∙ ap Met is.number;
      writes = subst (λ (n : ℕ). WritesAllowed n is.names.entry (told_at (asker_of seen cmd) is.names.met) is.names.met.state) is.number is.names.writes;
      is = is.is ∙ ap (λ (p : Point). let k : EndingState = record { state = acknowledges seq p.state; floor = p.floor; wrote = p.wrote } in k) is.names.is
          ∙ ap (λ (n : ℕ). let k : EndingState = record {
            state = acknowledged_state cmd seq is.names.entry is.names.met.state;
            floor = is.names.met.floor;
            wrote = Some
                (record { seq = n; entry = is.names.entry });
          } in k) is.number;
    }

  -- of a command that is told how many it found
  pub met_leaves : (log : Log) → stage_shape t.stage ≡ Met seq → (left : Option Left) → NamedLeft log seq seen cmd t left → LeavesEndings given seen cmd (settled.Log log) t
      (reply.Appended seq) (one left)
  met_leaves log stage left is start own e = (
    out left is,
    λ ends. let new = new_of s start e (λ m named. absurd (met_named m seq (sym stage
        ∙ named))) (appended (asker_of seen cmd) (point_of start s t) e seq ends) in
        back left is (at_met new.names.met new.names.meets (left_at s start e new)),
  )
    where
      s : Settled
      s = settled.Log log

      at_met : (met : Point) → MeetsAtPoint (asker_of seen cmd) (point_of start (settled.Log log) t) met → Left_at (settled.Log log) start e met
          → Left_at (settled.Log log) start e (point_of start (settled.Log log) t)
      at_met met (told n there same) is = subst (Left_at (settled.Log log) start e) same is
      at_met met (untold n head wish found same) is = absurd (subst IsHead stage head)

      out : (left : Option Left) → NamedLeft log seq seen cmd t left → IsOfLefts start (one left) e → MayEnd (asker_of seen cmd) (point_of start (settled.Log log) t) (reply.Appended seq) e
      out None is l = absurd (no_left start e l)
      out (Some k) is l = names_left (settled.Log log) start e (point_of start (settled.Log log) t) (told seq stage refl) stage is.0 is.2 is.1 (the_left start e k l ∙ is.3 start)

      back : (left : Option Left) → NamedLeft log seq seen cmd t left → Left_at (settled.Log log) start e (point_of start (settled.Log log) t) → IsOfLefts start (one left) e
      back None is l = absurd (is l.entry l.writes)
      back (Some k) is l =
          let same = same_entry (settled_log_state log) seq l.entry is.0 (host_of seen cmd t) l.writes is.1 in
          first k refl (l.is ∙ ap (λ (entry : Entry). let r : EndingState = record {
            state = acknowledged_state cmd seq entry (settled_log_state log);
            floor = t.floor;
            wrote = Some
                (record { seq = seq; entry = entry });
          } in r) same ∙ sym (is.3 start))

  -- of one that finds them now
  pub found_leaves : (log : Log) → IsHead (stage_shape t.stage) → (left : Option Left) → FoundNamed log seq seen cmd t left → LeavesEndings given seen cmd (settled.Log log) t
      (reply.Appended seq) (one left)
  found_leaves log head left is start own e = (
    out left is,
    λ ends. let new = new_of s start e (λ m named. absurd (subst IsHead named head)) (appended (asker_of seen cmd)
        (point_of start s t) e seq ends) in
        back left is (at_found new.names.met new.names.meets (left_at s start e new)),
  )
    where
      s : Settled
      s = settled.Log log

      at_found : (met : Point) → MeetsAtPoint (asker_of seen cmd) (point_of start (settled.Log log) t) met → Left_at (settled.Log log) start e met
          → FoundAllowed seq (settled_log_state log) × Left_at (settled.Log log) start e (found_at seq (point_of start (settled.Log log) t))
      at_found met (told n there same) is = absurd (subst IsHead there head)
      at_found met (untold n own wish found same) is =
          let k : n ≡ seq = met_same n seq (sym (ap (λ (p : Point). p.stage) same) ∙ is.stage) in (
            subst (λ (m : ℕ). FoundAllowed m (settled_log_state log)) k found,
            subst (λ (m : ℕ). Left_at (settled.Log log) start e (found_at m (point_of start (settled.Log log) t))) k (subst (Left_at (settled.Log log) start e) same is),
          )

      wish_in : (entry : Entry) → EntryShape (untold_of cmd) entry → HasWish (untold_of cmd)
      wish_in entry is = (is.0, is.1)

      out : (left : Option Left) → FoundNamed log seq seen cmd t left → IsOfLefts start (one left) e → MayEnd (asker_of seen cmd) (point_of start (settled.Log log) t) (reply.Appended seq) e
      out None is l = absurd (no_left start e l)
      out (Some k) is l =
          names_left (settled.Log log) start e (found_at seq (point_of start (settled.Log log) t)) (untold seq head (wish_in is.1.0 is.1.2) is.0 refl) refl is.1.0 is.1.2 is.1.1
          (the_left start e k l ∙ is.1.3 start)

      back : (left : Option Left) → FoundNamed log seq seen cmd t left → FoundAllowed seq (settled_log_state log) × Left_at (settled.Log log) start e
          (found_at seq (point_of start (settled.Log log) t))
          → IsOfLefts start (one left) e
      back None is l = absurd (is l.0 l.1.entry l.1.writes)
      back (Some k) is l =
          let same = same_entry (finds seq (settled_log_state log)) seq l.1.entry is.1.0 (host_of seen cmd t) l.1.writes is.1.1 in
          first k refl (l.1.is ∙ ap (λ (entry : Entry). let r : EndingState = record {
            state = acknowledged_state cmd seq entry (finds seq (settled_log_state log));
            floor = t.floor;
            wrote = Some
                (record { seq = seq; entry = entry });
          } in r) same ∙ sym (is.1.3 start))

  -- the number is another one
  pub other_leaves : (s : Settled) (n : ℕ) → (stage_shape t.stage ≡ Met n) ⊎ (stage_shape t.stage ≡ Named n) → n ≢ seq → LeavesEndings given seen cmd s t (reply.Appended seq) (one None)
  other_leaves s n stage ne start own e = (λ l. absurd (no_left start e l), λ ends. absurd (by stage (appended (asker_of seen cmd) (point_of start s t) e seq ends)))
    where
      meets_none : (met : Point) → MeetsAtPoint (asker_of seen cmd) (point_of start s t) met → met.stage ≡ Met seq → (stage_shape t.stage ≡ Met n) ⊎ (stage_shape t.stage ≡ Named n) → ⊥
      meets_none met (told m there same) is (inl stage) = ne (met_same n seq (sym stage ∙ sym (ap (λ (p : Point). p.stage) same) ∙ is))
      meets_none met (told m there same) is (inr stage) = met_named n m (sym there ∙ stage)
      meets_none met (untold m head wish found same) is (inl stage) = subst IsHead stage head
      meets_none met (untold m head wish found same) is (inr stage) = subst IsHead stage head

      by : (stage_shape t.stage ≡ Met n) ⊎ (stage_shape t.stage ≡ Named n) → AcknowledgesNamed (asker_of seen cmd) (point_of start s t) seq e ⊎ AppendsNew (asker_of seen cmd)
          (point_of start s t) seq e → ⊥
      by (inl stage) (inl is) = met_named seq n (sym stage ∙ is.named)
      by (inr stage) (inl is) = ne (named_seq n seq (sym stage ∙ is.named))
      by stage (inr is) = meets_none is.names.met is.names.meets (is.names.stage ∙ ap Met is.number) stage
