-- Each line that follows what a journal comes to follows a state that allows no less.
use Rattle.std.proofs.Common.{◌≡◌, ◌+◌, ◌≤◌, ℕ, Bool, true, false, List, [], ◌∷◌, ◌++◌, length, Option, Some, None, refl, ap, sym, ◌∙◌, subst, arith}
use Rattle.std.specs.Prelude.{◌==◌, if◌then◌else◌, slice_get}
use Rattle.std.proofs.lemmas.List.{length-append}
use Rattle.std.proofs.lemmas.Option.{same_Some}
use Rattle.fam_base.specs.declared.entry.Entry.{Entry}
use Rattle.fam_base.specs.Image.{Image}
use Rattle.fam_commands.specs.Appends.{HasWish}
use Rattle.fam_rules.specs.Asks.{File}
use Rattle.fam_rules.specs.Reply as reply
use Rattle.fam_rules.specs.Reply.{Reply}
use Rattle.fam_journal.specs.Legal.{AppendedAllowed, ReportAllowed}
use Rattle.fam_journal.specs.Members.{changed_at}
use Rattle.fam_journal.specs.Notes.{Answer, Replied, MediaFault, Note, Host, Made, Cut, Start, Mark, Found, Writes, Answered, Stop, Halt, Umount, Refused}
use Rattle.fam_journal.specs.Past.{HostPast, Sound, State, acknowledges, ended_state, shows_count, with_pending, reported_count}
use Rattle.fam_journal.specs.Shapes.{Met, Pairs, TaskNote, TaskShape, keeps_behind}
use Rattle.fam_judge.specs.Covering.{Direct, HostOver, StateOver}
use Rattle.fam_judge.specs.Fitting.{AnswerFits, FitsNext, QuestionFits, ReplyFits}
use Rattle.fam_judge.specs.Formed.{AnswerPlace, HasPlace}
use Rattle.fam_judge.specs.Possible.{Possible, Progress, after_line, meets, past_in, shapes_in}
use Rattle.fam_judge.specs.Standing.{MayStand}
use Rattle.fam_judge.proofs.Over.{Within, master_shows, none_shows, over_shows, settled_shows}
use Rattle.fam_judge.proofs.OverAnswers.{Comes, comes}
use Rattle.fam_judge.proofs.OverHosts.{IsApart, Later}
use Rattle.fam_judge.proofs.OverOwn.{FollowsIn, both_run, own_found, own_mark}
use Rattle.fam_judge.proofs.OverPlain.{plain_follows}
use Rattle.fam_judge.proofs.OverWrites.{writes_in}
use Rattle.fam_judge.proofs.Places.{own_pairs, running_at, told_at}
use Rattle.fam_judge.proofs.Replies.{reported_is}
use Rattle.fam_judge.proofs.Sizes.{effect, ended_is}
use Rattle.fam_rules.specs.declared.answers.Report.{Report}

-- Counts.

all_longer : (history : List File) (pending : Option File) → length history ≤ length (with_pending history pending)
all_longer history None = omega arith
all_longer history (Some f) = let long : length (history ++ f ∷ []) ≡ length history + 1 = length-append history (f ∷ []) in omega (arith, long)

asked_within : (m : ℕ) (given : Reply) (host : HostPast) (t : State) → QuestionFits m given host t → Within (Some m) t
asked_within m given host t is p history pending e k same =
    let one = subst (QuestionFits m given host) e is in
    let high : m ≤ length (with_pending history pending) = one.bounds.high in
    let m_is : m ≡ k = same_Some m k same in subst (λ (n : ℕ). n ≤ length (with_pending history pending)) m_is high

reported_within : (report : Report) (host : HostPast) (t : State) → ReportAllowed report host t
    → Within (reported_count report.log) t
reported_within report host t is p history pending e k same =
    let one = subst (ReportAllowed report host) e is in
    let m_is : one.m ≡ k = same_Some one.m k (sym (reported_is p host (with_pending history pending) report one) ∙ same) in
    subst (λ (n : ℕ). n ≤ length (with_pending history pending)) m_is one.bounds.high

appended_within : (seq : ℕ) (host : HostPast) (t : State) → AppendedAllowed seq host (acknowledges seq t) → Within (Some (seq + 1)) t
appended_within seq host t is p history pending e k same = by (seq == length history) (subst (λ (s : State). AppendedAllowed seq host (acknowledges seq s)) e is)
  where
    count : seq + 1 ≡ k
    count = same_Some (seq + 1) k same

    by : (b : Bool) → AppendedAllowed seq host (if b then Sound p (with_pending history pending) None else Sound p history pending) → k ≤ length (with_pending history pending)
    by true is = let long : length (with_pending history pending) ≡ seq + 1 = is.count in omega (arith, long, count)
    by false is = let long : length history ≡ seq + 1 = is.count in let more = all_longer history pending in omega (arith, long, count, more)

none_within : (t : State) → Within None t
none_within t p history pending e k same = absurd cc

-- a reply that fits is of no more entries than there are
pub reply_within : (given : Reply) (host : HostPast) (t : State) → ReplyFits given host t → Within (effect (Replied given)) t
reply_within (reply.Appended seq) host t is = appended_within seq host t is
reply_within (reply.NotAppended why) host t is = none_within t
reply_within (reply.Played m tree) host t is = asked_within m _ host t is
reply_within (reply.Mounted m) host t is = asked_within m _ host t is
reply_within (reply.Same m) host t is = asked_within m _ host t is
reply_within (reply.Differs m offset found wanted) host t is = asked_within m _ host t is
reply_within (reply.Length m size wanted) host t is = asked_within m _ host t is
reply_within (reply.Bytes m bytes) host t is = asked_within m _ host t is
reply_within (reply.NotFound m) host t is = asked_within m _ host t is
reply_within (reply.IsDirectory m) host t is = asked_within m _ host t is
reply_within (reply.Checks m counts) host t is = asked_within m _ host t is
reply_within (reply.Reports report) host t is = reported_within report host t is
reply_within (reply.NoSuperblock fault) host t is = none_within t
reply_within (reply.BadHeader fault) host t is = none_within t
reply_within (reply.BadSlot i reason) host t is = none_within t

-- Replies.

-- what an answer settles
pub answer_later : (answer : Answer) (s t : State) → Later s t → Later s (ended_state answer t)
answer_later answer s t later =
    subst (λ (u : State). Later s u) (sym (ended_is answer t)) (record {
      settled = let a = later.settled in let b = settled_shows (effect answer) t in omega (arith, a, b);
      master = master_shows (effect answer) t ∙ later.master;
      none = λ none. none_shows (effect answer) t (later.none none);
    })

-- a host that found entries wants to append
abbrev pub MetWish : Possible → Type 0
MetWish c = (h : ℕ) (p : Progress) (t : TaskShape) (n : ℕ) → slice_get c.hosts h ≡ Some p → p.shape.task ≡ Some t → t.stage ≡ Met n → HasWish t.cmd

module _ (start : Image) (x c : Possible) (d : Direct x c) where
  place_at : (h : ℕ) (answer : Answer) (q : Progress) (t : TaskShape) → slice_get c.hosts h ≡ Some q → q.shape.task ≡ Some t → HasPlace (shapes_in c) (Answered h answer)
      → AnswerPlace t.cmd t.stage answer
  place_at h answer q t is runs place =
      let r = running_at c h (λ me t. AnswerPlace t.cmd t.stage answer) place in
      let one : r.host ≡ q = same_Some r.host q (sym r.is ∙ is) in
      let task : r.task ≡ t = same_Some r.task t (sym r.runs ∙ ap (λ (p : Progress). p.shape.task) one ∙ runs) in
      subst (λ (k : TaskShape). AnswerPlace k.cmd k.stage answer) task r.holds

  from_comes : (h : ℕ) (given : Reply) (me : List ℕ) → Comes start x c h me (Replied given) → Within (effect (Replied given)) c.state
      → FollowsIn start x c (Answered h (Replied given))
  from_comes h given me come bound = record {
    next = after_line start come.now (Answered h (Replied given));
    leads = record { now = come.now; reaches = come.reaches; may = (come.may, come.placed); fits = come.fits; is = refl };
    over = record {
      state = subst (λ (s : State). StateOver s (ended_state (Replied given) c.state)) (sym (ended_is (Replied given) come.now.state))
          (subst (λ (t : State). StateOver (shows_count (effect (Replied given)) come.now.state) t) (sym (ended_is (Replied given) c.state))
          (over_shows (effect (Replied given)) come.now.state c.state come.state bound));
      hosts = subst (λ (l : List Progress). Pairs (HostOver (ended_state (Replied given) come.now.state))
          (changed_at h (λ (p : Progress). record p { shape = record p.shape { task = None; keeps = keeps_behind (Replied given) p.shape.keeps } }) l)
          (changed_at h (λ (p : Progress). record p { shape = record p.shape { task = None; keeps = keeps_behind (Replied given) p.shape.keeps } }) c.hosts)) (sym come.hosts)
          (own_pairs x c d h (ended_state (Replied given) come.now.state) come.change _ _ (answer_later (Replied given) x.state come.now.state come.later)
          (λ p q is other over. record {
            name = come.same.names p ∙ over.name;
            uuid = come.same.uuids p ∙ over.uuid;
            keeps = ap (keeps_behind (Replied given)) (come.same.keeps p ∙ over.keeps);
            own = come.same.own p ∙ over.own ∙ sym (come.same.uuids p);
            told_uuid = come.same.own p ∙ over.told_uuid;
            told_cmd = come.same.cmds p ∙ over.told_cmd;
            task = tt;
          }));
    };
  }

  reply_follows : (h : ℕ) (given : Reply) → MetWish c → MayStand (length start) (shapes_in c) (Answered h (Replied given)) → FitsNext (past_in start c) (Answered h (Replied given))
      → FollowsIn start x c (Answered h (Replied given))
  reply_follows h given wishes may fits =
      let both = both_run x c d h (λ me t. TaskNote h me t (Answered h (Replied given))) may.0 in
      let fit = told_at start c h (λ host. AnswerFits (Replied given) host c.state) both.other both.other_is fits in
      from_comes h given both.other.shape.uuid
      (comes start x c d h given both (place_at h (Replied given) both.other both.other_task both.other_is both.other_runs may.1) fit
      (λ n is. wishes h both.other both.other_task n both.other_is both.other_runs is))
      (reply_within given both.other.told c.state fit)

  writes_follows : IsApart x → (h seq : ℕ) (e : Entry) → MayStand (length start) (shapes_in c) (Writes h seq e) → FitsNext (past_in start c) (Writes h seq e)
      → FollowsIn start x c (Writes h seq e)
  writes_follows apart h seq e may fits =
      let is = writes_in start x c d apart h seq e may fits in
      record {
        next = after_line start is.met (Writes h seq e);
        leads = record { now = is.met; reaches = meets is.meets; may = is.may; fits = is.fits; is = refl };
        over = is.over;
      }

  -- by the line
  pub line_follows : IsApart x → MetWish c → (y : Note) → MayStand (length start) (shapes_in c) y → FitsNext (past_in start c) y → FollowsIn start x c y
  line_follows apart wishes (Mark h) may fits = own_mark start x c d h may
  line_follows apart wishes (Found h n) may fits = own_found start x c d h n fits may
  line_follows apart wishes (Writes h seq e) may fits = writes_follows apart h seq e may fits
  line_follows apart wishes (Answered h (Replied given)) may fits = reply_follows h given wishes may fits
  line_follows apart wishes (Answered h (MediaFault line)) may fits = plain_follows start x c d (Answered h (MediaFault line)) refl may
  line_follows apart wishes (Host name uuid) may fits = plain_follows start x c d (Host name uuid) refl may
  line_follows apart wishes (Made h p) may fits = plain_follows start x c d (Made h p) refl may
  line_follows apart wishes (Cut h k) may fits = plain_follows start x c d (Cut h k) refl may
  line_follows apart wishes (Start h cmd) may fits = plain_follows start x c d (Start h cmd) refl may
  line_follows apart wishes (Stop h) may fits = plain_follows start x c d (Stop h) refl may
  line_follows apart wishes (Halt h) may fits = plain_follows start x c d (Halt h) refl may
  line_follows apart wishes (Umount h) may fits = plain_follows start x c d (Umount h) refl may
  line_follows apart wishes (Refused name cause) may fits = plain_follows start x c d (Refused name cause) refl may
