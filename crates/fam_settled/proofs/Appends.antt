-- Which notes of a command that appends are allowed.
use Rattle.std.proofs.Common.{◌≡◌, ◌≢◌, ◌↔◌, ℕ, ◌+◌, Bool, IsTrue, List, length, nat_eq, Option, None, Some, option_map, Result, Err, refl, sym, ap, subst, ◌∙◌, inl, inr, arith}
use Rattle.std.proofs.lemmas.Bool.Decides.{nat_tests}
use Rattle.fam_base.specs.declared.cmd.Cmd.{Cmd}
use Rattle.fam_base.specs.declared.entry.Entry.{Entry}
use Rattle.fam_base.specs.declared.entry.Params.{Params}
use Rattle.fam_journal.specs.Legal.{CauseAllowed, FoundPending, IsDecided, IsLong}
use Rattle.fam_journal.specs.Past.{HostPast}
use Rattle.fam_rules.specs.Asks.{File, entries_of}
use Rattle.fam_rules.specs.declared.answers.Refused.{Refused}
use Rattle.fam_rules.specs.declared.answers.Refused.TheVariants.{LongPath}
use Rattle.fam_rules.specs.Decide.{Wish, decide, decide_wish, wish_of}
use Rattle.fam_rules.specs.DecideLaws.{IsTooLong}
use Rattle.fam_rules.proofs.RefusalProofs.{refused_for, refused_there}
use Rattle.fam_settled.specs.declared.bytes.Filed.{Filed}
use Rattle.fam_settled.specs.Settled.{SettledLog, settled_and_pending, filed, settled_files, settled_log_state}
use Rattle.fam_settled.proofs.Choices.{both}
use Rattle.fam_settled.proofs.Files.{all_some, length-files_of}

-- Entries that are found.

-- those that are settled
pub found_settled : (n settled : ℕ) (o : Option File) → n ≡ settled → FoundPending n settled o
found_settled n settled None is = is
found_settled n settled (Some f) is = inl is

-- no others, where none pends
pub found_others : (n settled : ℕ) (o : Option Filed) → o ≡ None → n ≢ settled → FoundPending n settled (filed o) → ⊥
found_others n settled None none other found = other found
found_others n settled (Some f) none other found = absurd (let e = none in cc)

-- one more, where one does
one_more : (n settled : ℕ) (o : Option Filed) (f : Filed) → o ≡ Some f → n ≢ settled → (n ≡ settled + 1) ↔ FoundPending n settled (filed o)
one_more n settled None f is other = absurd (let e = is in cc)
one_more n settled (Some g) f is other = (λ more. inr more, λ found. grind (arith, found, other))

pub found_more : (s : SettledLog) (f : Filed) (n all : ℕ) → s.pending ≡ Some f → n ≢ length s.entries → all ≡ length (settled_and_pending s)
    → IsTrue (nat_eq n all) ↔ FoundPending n (length (settled_files s)) (filed s.pending)
found_more s f n all is other count =
    let many = length-files_of s.entries s.bytes in
    let last : all ≡ length (settled_files s) + 1 = omega (arith, count, all_some s f is, many) in
    let t = one_more n (length (settled_files s)) s.pending f is (λ same. other (same ∙ many)) in (
      λ h. let same : n ≡ all = grind (arith, nat_tests, h) in t.0 (same ∙ last),
      λ found. let same : n ≡ all = t.1 found ∙ sym last in grind (arith, nat_tests, same),
    )

-- Decisions.

-- a host's command
cmd_or : Cmd → Option Cmd → Cmd
cmd_or c None = c
cmd_or c (Some d) = d

module _ (s : SettledLog) (host : HostPast) (me : List ℕ) (c : Cmd) (uuid : host.uuid ≡ me) (told : host.cmd ≡ Some c) where
  -- what is decided where nothing pends
  pub decided_told : (decision : Result Entry Refused) → s.pending ≡ None
      → (decide s.params me (entries_of (settled_files s)) c ≡ Some decision) ↔ IsDecided s.params host (settled_files s) (filed s.pending) decision
  unfolding cmd_or
  decided_told decision none =
      let list = entries_of (settled_files s) in (
        λ is. record { cmd = c; told = told; none = ap filed none; is = ap (λ (u : List ℕ). decide s.params u list c) uuid ∙ is },
        λ d.
            let same : d.cmd ≡ c = ap (cmd_or c) (sym d.told ∙ told) in
            sym (ap (λ (u : List ℕ). decide s.params u list c) uuid) ∙ sym (ap (decide s.params host.uuid list) same) ∙ d.is,
      )

  -- a path that is too long
  long_so : (limit : ℕ) (o : Option Wish) → wish_of c ≡ o → option_map (decide_wish s.params me (entries_of (settled_files s))) o ≡ Some (Err (LongPath limit))
      → IsLong limit host (settled_log_state s)
  long_so limit None at is = absurd (let e = is in cc)
  long_so limit (Some w) at is =
      let refused : decide_wish s.params me (entries_of (settled_files s)) w ≡ Err (LongPath limit) = cc in
      record {
        params = s.params;
        super = refl;
        names = record {
          cmd = c;
          told = told;
          wish = w;
          wished = at;
          is = subst (λ (u : List ℕ). IsTooLong s.params u w limit) (sym uuid) (refused_for s.params me (entries_of (settled_files s)) w (LongPath limit) refused);
        };
      }

  pub long_told : (limit : ℕ) → (decide s.params me (entries_of (settled_files s)) c ≡ Some (Err (LongPath limit))) ↔ IsLong limit host (settled_log_state s)
  unfolding cmd_or
  long_told limit = (
    λ is. long_so limit (wish_of c) refl is,
    λ long.
        let n = long.names in
        let same : n.cmd ≡ c = ap (cmd_or c) (sym n.told ∙ told) in
        let own : IsTooLong s.params me n.wish limit = subst (λ (p : Params). IsTooLong p me n.wish limit) long.super (subst (λ (u : List ℕ). IsTooLong long.params u n.wish limit) uuid n.is) in
        ap (option_map (decide_wish s.params me (entries_of (settled_files s)))) (sym (ap wish_of same) ∙ n.wished)
        ∙ ap (λ (r : Result Entry Refused). Some r) (refused_there s.params me (entries_of (settled_files s)) n.wish (LongPath limit) own),
  )

  -- a refusal of this kind
  pub cause_long : (limit : ℕ) (why : Refused) (b : Bool) → why ≡ LongPath limit → (IsTrue b ↔ (decide s.params me (entries_of (settled_files s)) c ≡ Some (Err why)))
      → IsTrue b ↔ CauseAllowed why host (settled_log_state s)
  cause_long limit why b is test =
      let P : Refused → Type 0 = λ w. IsTrue b ↔ CauseAllowed w host (settled_log_state s) in
      let Q : Refused → Type 0 = λ w. IsTrue b ↔ (decide s.params me (entries_of (settled_files s)) c ≡ Some (Err w)) in
      subst P (sym is) (both b (subst Q is test) (long_told limit))
