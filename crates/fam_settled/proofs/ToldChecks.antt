-- What is told of a check, and which answers fit it.
use Rattle.std.proofs.Common.{◌≡◌, ◌↔◌, ℕ, Bool, true, false, List, [], length, replicate, Option, Some, None, refl, sym, ap, ap₂, subst, ◌∙◌, arith}
use Rattle.std.specs.FinMap as finmap
use Rattle.std.proofs.lemmas.Bool.Decides.{nat_tests}
use Rattle.std.proofs.lemmas.List.{length-replicate}
use Rattle.fam_base.specs.declared.cmd.Cmd.{Cmd}
use Rattle.fam_base.specs.declared.cmd.Cmd.TheVariants.{Check}
use Rattle.fam_base.specs.declared.entry.Entry.{Entry}
use Rattle.fam_format.specs.Tree.{Tree, replay}
use Rattle.fam_history.specs.declared.answer.ToldAnswer.{ToldAnswer}
use Rattle.fam_history.specs.declared.answer.ToldAnswer.TheVariants as told
use Rattle.fam_history.specs.Answers.{none_differs}
use Rattle.fam_history.specs.ToldAnswers.{checked_told, first_told, reply_told}
use Rattle.fam_rules.specs.declared.answers.Checked.{Checked}
use Rattle.fam_rules.specs.Asks.{File, entries_of}
use Rattle.fam_rules.specs.Reply as reply
use Rattle.fam_rules.specs.Reply.{Reply}
use Rattle.fam_judge.specs.Counting.{CountsFit, FirstCounts, PathCounts, count_behind}
use Rattle.fam_judge.specs.Untold.{untold_cmd, untold_entry}
use Rattle.fam_judge.proofs.Counting.{replay_counts_fit, replay_fit_counts}
use Rattle.fam_settled.specs.Checking.{CheckTold}
use Rattle.fam_settled.specs.Told.{IsToldFit}

-- Counts as a history tells them: a first path just where some path differs.

none_differ : (c : Checked) → (c.missing ≡ 0) × (c.extra ≡ 0) × (c.changed ≡ 0) → none_differs c.missing c.extra c.changed ≡ true
none_differ c none = ap₂ (λ (m n : ℕ). none_differs m n c.changed) none.0 none.1 ∙ ap (λ (n : ℕ). none_differs 0 0 n) none.2

some_differ : (has : Bool) (behind : ℕ) (c : Checked) → FirstCounts has behind c → none_differs c.missing c.extra c.changed ≡ false
some_differ true behind c fits = grind (arith, nat_tests, fits)
some_differ false behind c fits = grind (arith, nat_tests, fits)

first_prints : (tree : Tree) (c : Checked) (first : Option (List ℕ)) → PathCounts tree c first → first_told (none_differs c.missing c.extra c.changed) first ≡ first
first_prints tree c None fits = ap (λ (b : Bool). first_told b None) (none_differ c fits)
first_prints tree c (Some path) fits =
    ap (λ (b : Bool). first_told b (Some path)) (some_differ (finmap.contains_key tree path) (count_behind path (finmap.keys tree)) c fits)

-- those that fit are told as they are
counts_print : (tree : Tree) (count : ℕ) (c : Checked) → CountsFit tree count c → checked_told c ≡ c
counts_print tree count c fits = ap (λ (f : Option (List ℕ)). record c { first = f }) (first_prints tree c c.first fits.first)

-- A check against so many entries.

module _ (files : List File) (count : ℕ) where
  listing : List Entry
  listing = replicate count untold_entry

  many : length listing ≡ count
  unfolding listing
  many = length-replicate count untold_entry

  bare : untold_cmd (Check listing) ≡ Check listing
  unfolding listing
  bare = ap (λ (n : ℕ). Check (replicate n untold_entry)) (length-replicate count untold_entry)

  check_so : (answer : ToldAnswer) → CheckTold (length files) files count answer → IsToldFit files (Check listing) answer []
  check_so (told.Checked n c) is =
      let tree = replay (entries_of files) in
      record {
        given = reply.Checks (length files) c;
        told = ap₂ (λ (m : ℕ) (x : Checked). told.Checked m x) (sym is.0) (counts_print tree count c is.1);
        lines = refl;
        fits = (c, refl, replay_fit_counts (entries_of files) listing c bare (subst (λ (n : ℕ). CountsFit tree n c) (sym many) is.1));
      }
  check_so answer is = absurd is

  check_in : (answer : ToldAnswer) (listed : List Entry) → IsToldFit files (Check listing) answer listed → CheckTold (length files) files count answer
  check_in answer listed is =
      let tree = replay (entries_of files) in
      let c = is.fits.0 in
      let fits : CountsFit tree count c = subst (λ (n : ℕ). CountsFit tree n c) many (replay_counts_fit (entries_of files) listing c is.fits.2) in
      let tells : told.Checked (length files) c ≡ answer =
      ap (told.Checked (length files)) (sym (counts_print tree count c fits)) ∙ sym (ap reply_told is.fits.1) ∙ is.told in
      subst (CheckTold (length files) files count) tells (refl, fits)

-- an answer to a check, and what fits
pub check_told : (files : List File) (m count : ℕ) (c : Cmd) (answer : ToldAnswer) (listed : List Entry) → m ≡ length files
    → c ≡ Check (replicate count untold_entry) → listed ≡ [] → CheckTold m files count answer ↔ IsToldFit files c answer listed
unfolding listing
check_told files m count c answer listed same is none =
    let P : ℕ → Type 0 = λ n. CheckTold n files count answer in
    let Q : Cmd → Type 0 = λ x. IsToldFit files x answer listed in (
      λ told. subst Q (sym is) (subst (IsToldFit files (Check (replicate count untold_entry)) answer) (sym none) (check_so files count answer (subst P same told))),
      λ fit. subst P (sym same) (check_in files count answer listed (subst Q is fit)),
    )
