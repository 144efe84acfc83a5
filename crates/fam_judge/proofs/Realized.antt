-- Where a line leads from a state that some journal comes to, it leads to another one.
use Rattle.std.proofs.Common.{◌≡◌, ℕ, List, [], ◌∷◌, Option, Some, None, refl, ap, sym, ◌∙◌, subst}
use Rattle.std.specs.Prelude.{option_map, slice_get}
use Rattle.std.proofs.lemmas.Option.{same_Some}
use Rattle.fam_base.specs.Image.{Image}
use Rattle.fam_commands.specs.Appends.{HasWish}
use Rattle.fam_journal.specs.Members.{changed_at}
use Rattle.fam_journal.specs.Notes.{Note, Found}
use Rattle.fam_journal.specs.Shapes.{Begun, CommandStage, IsHead, Marked, Met, Named, Pairs, TaskNote, TaskShape, with_stage}
use Rattle.fam_judge.specs.Possible.{MayHaveNamed, MeetsEntries, Possible, Progress, Reaches, StageIs, Wrote, after_note, as_is, marked, meets, stands, shown_met, unmarked, left_out_met, after_mark, written, wrote}
use Rattle.fam_judge.proofs.Choices.{Chosen, IsBegun, at_mark, ButOne, chosen_but}
use Rattle.fam_judge.proofs.Members.{changed_same}
use Rattle.fam_judge.proofs.Places.{Running, changed_is, changed_twice, running_at, runs_at}
use Rattle.fam_judge.proofs.Realizing.{IsRealized, IsRealizedAt, begun_stage, real_found, real_marked, real_stands, real_unmarked, real_writes, stage_at}

met_begun : (n : ℕ) → Met n ≡ Begun → ⊥
met_begun n e = cc

marked_begun : Marked ≡ Begun → ⊥
marked_begun e = cc

named_begun : (n : ℕ) → Named n ≡ Begun → ⊥
named_begun n e = cc

module _ (start : Image) (lines : List Note) (h : ℕ) (x : Possible) (real : IsRealized start lines x) where
  -- a host at this stage hasn't just begun
  not_begun : (s : CommandStage) → (s ≡ Begun → ⊥) → StageIs (λ stage. stage ≡ s) h x → (p : Progress) → slice_get x.hosts h ≡ Some p → IsBegun p → ⊥
  not_begun s none is p at begun = let one = stage_at x h (λ stage. stage ≡ s) is p at in begun_stage p one.0 s one.1 one.2 none begun

  -- by whether the mark was told
  data HeadIs : Type 0 where
    has_begun : StageIs (λ stage. stage ≡ Begun) h x → HeadIs
    has_mark : StageIs (λ stage. stage ≡ Marked) h x → HeadIs

  head_is : StageIs IsHead h x → HeadIs
  head_is is = let r = running_at x h (λ me t. IsHead t.stage) is in by r r.task.stage refl r.holds
    where
      by : (r : Running x h (λ me t. IsHead t.stage)) → (s : CommandStage) → r.task.stage ≡ s → IsHead s → HeadIs
      by r Begun e head = has_begun (runs_at x h (λ me t. t.stage ≡ Begun) r.host r.task r.is r.runs e)
      by r Marked e head = has_mark (runs_at x h (λ me t. t.stage ≡ Marked) r.host r.task r.is r.runs e)
      by r (Met n) e head = absurd head
      by r (Named n) e head = absurd head

  twice : (n : ℕ) → (after_note start (after_mark h x) (Found h n)) ≡ after_note start x (Found h n)
  twice n =
      ap (λ (l : List Progress). let z : Possible = record { state = (after_note start x (Found h n)).state; hosts = l } in z)
      (changed_twice h at_mark (λ p. record p { shape = with_stage (Met n) p.shape }) x.hosts ∙ same h x.hosts)
    where
      one : (p : Progress) → (record p { shape = with_stage (Met n) (with_stage Marked p.shape) }) ≡ (record p { shape = with_stage (Met n) p.shape })
      one p = ap (λ (o : Option TaskShape). record p { shape = record p.shape { task = o } }) (by p.shape.task)
        where
          by : (o : Option TaskShape) → option_map (λ (t : TaskShape). record t { stage = Met n }) (option_map (λ (t : TaskShape). record t { stage = Marked }) o) ≡ option_map
              (λ (t : TaskShape). record t { stage = Met n }) o
          by None = refl
          by (Some t) = refl

      same : (k : ℕ) (xs : List Progress) → changed_at k (λ (p : Progress). record p { shape = with_stage (Met n) (with_stage Marked p.shape) }) xs ≡ changed_at k
          (λ (p : Progress). record p { shape = with_stage (Met n) p.shape }) xs
      same k [] = refl
      same Prim.Native.Nat.zero (p ∷ xs) = ap (λ (q : Progress). q ∷ xs) (one p)
      same (Prim.Native.Nat.suc k) (p ∷ xs) = ap (λ (l : List Progress). p ∷ l) (same k xs)

  -- so where its command has found entries
  real_meets : (m : Possible) → MeetsEntries start h x m → IsRealizedAt start lines h m
  real_meets m (shown_met n is e) = subst (IsRealizedAt start lines h) (sym e) (real_stands start lines h x real (not_begun (Met n) (met_begun n) is))
  real_meets m (left_out_met n head wish found e) = subst (IsRealizedAt start lines h) (sym e) (by (head_is head))
    where
      wishes : (p : Progress) (t : TaskShape) → slice_get x.hosts h ≡ Some p → p.shape.task ≡ Some t → HasWish t.cmd
      wishes p t is runs =
          let r = running_at x h (λ me t. HasWish t.cmd) wish in
          let one : r.host ≡ p = same_Some r.host p (sym r.is ∙ is) in
          let task : r.task ≡ t = same_Some r.task t (sym r.runs ∙ ap (λ (z : Progress). z.shape.task) one ∙ runs) in
          subst (λ (k : TaskShape). HasWish k.cmd) task r.holds

      by : HeadIs → IsRealizedAt start lines h (after_note start x (Found h n))
      by (has_begun begun) =
          let r = running_at x h (λ me t. t.stage ≡ Begun) begun in
          subst (IsRealizedAt start lines h) (twice n)
          (real_found start lines h n (after_mark h x) (real_marked start lines h x real begun)
          (runs_at (after_mark h x) h (λ me t. TaskNote h me t (Found h n)) (at_mark r.host) (record r.task { stage = Marked }) (changed_is h at_mark x.hosts r.host r.is)
          (ap (option_map (λ (t : TaskShape). record t { stage = Marked })) r.runs) (refl, wishes r.host r.task r.is r.runs, refl)) found)
      by (has_mark is) =
          let r = running_at x h (λ me t. t.stage ≡ Marked) is in
          real_found start lines h n x (real_stands start lines h x real (not_begun Marked marked_begun is))
          (runs_at x h (λ me t. TaskNote h me t (Found h n)) r.host r.task r.is r.runs (refl, wishes r.host r.task r.is r.runs, r.holds)) found

  -- or named one
  real_wrote : (w : Possible) → Wrote start h x w → IsRealizedAt start lines h w
  real_wrote w is = subst (IsRealizedAt start lines h) (sym is.is) (real_writes start lines h is.seq is.entry is.met (real_meets is.met is.meets) is.may is.fits)

  -- however far it has come
  pub real_reaches : (now : Possible) → Reaches start h x now → IsRealizedAt start lines h now
  real_reaches now (unmarked begun e) = subst (IsRealizedAt start lines h) (sym e) (real_unmarked start lines h x real begun)
  real_reaches now (marked begun e) = subst (IsRealizedAt start lines h) (sym e) (real_marked start lines h x real begun)
  real_reaches now (stands e none) =
      subst (IsRealizedAt start lines h) (sym e) (real_stands start lines h x real (λ p is begun. none (runs_at x h (λ me t. t.stage ≡ Begun) p begun.0 is begun.1 begun.2)))
  real_reaches now (meets is) = real_meets now is
  real_reaches now (wrote is) = real_wrote now is

-- a host that is as it is may be chosen so
real_any : (start : Image) (lines : List Note) (h : ℕ) (x : Possible) → ((p : Progress) → slice_get x.hosts h ≡ Some p → IsBegun p → ⊥) → IsRealizedAt start lines h x
    → IsRealized start lines x
real_any start lines h x none real hosts pairs =
    real hosts
    (subst (λ (l : List Progress). ButOne h l hosts) (changed_same h (λ p. p) x.hosts (λ p is. refl))
    (chosen_but h (λ p. p) x.hosts hosts none (subst (λ (l : List Progress). Pairs Chosen l hosts) (sym (changed_same h (λ p. p) x.hosts (λ p is. refl))) pairs)))

-- an entry that some host has named by now
pub real_written : (start : Image) (lines : List Note) (k : ℕ) (x w : Possible) → IsRealized start lines x → Wrote start k x w → IsRealized start lines w
real_written start lines k x w real is =
    real_any start lines k w none (real_wrote start lines k x real w is)
  where
    none : (p : Progress) → slice_get w.hosts k ≡ Some p → IsBegun p → ⊥
    none p at begun =
        let r = running_at is.met k _ is.may in
        let there : slice_get w.hosts k ≡ Some (record r.host {
          told = record r.host.told { wrote = Some (record { seq = is.seq; entry = is.entry }) };
          shape = with_stage
              (Named is.seq) r.host.shape;
        }) =
        ap (λ (z : Possible). slice_get z.hosts k) is.is ∙ changed_is k _ is.met.hosts r.host r.is in
        let one = same_Some p _ (sym at ∙ there) in
        begun_stage p (record r.task { stage = Named is.seq }) (Named is.seq)
        (ap (λ (z : Progress). z.shape.task) one ∙ ap (option_map (λ (t : TaskShape). record t { stage = Named is.seq })) r.runs) refl (named_begun is.seq) begun

pub real_before : (start : Image) (lines : List Note) (x first : Possible) → IsRealized start lines x → MayHaveNamed start x first → IsRealized start lines first
real_before start lines x first real (as_is e) = subst (IsRealized start lines) (sym e) real
real_before start lines x first real (written k is) = real_written start lines k x first real is
