-- A check of a tree fits what is told of a listing exactly where its numbers fit the tree.
use Rattle.std.proofs.Common.{◌≡◌, ℕ, ◌+◌, List, [], ◌∷◌, length, replicate, Option, Some, None, ap, sym, subst, ◌∙◌, arith}
use Rattle.std.specs.Prelude.{is_some}
use Rattle.std.specs.FinMap as finmap
use Rattle.std.specs.List.{AllByRecursion, filter_map}
use Rattle.std.specs.declared.cmp.Ordering.TheVariants.{Less}
use Rattle.std.proofs.lemmas.List.{length-replicate}
use Rattle.std.proofs.lemmas.Map.Keys.{sorted_head, sorted_tail}
use Rattle.fam_base.specs.Commands.{IsListing}
use Rattle.fam_base.specs.declared.cmd.Cmd.TheVariants.{Check}
use Rattle.fam_base.specs.declared.entry.Entry.{Entry}
use Rattle.fam_base.specs.PathOrder.{path_cmp}
use Rattle.fam_format.specs.Tree.{Tree, replay}
use Rattle.fam_rules.specs.declared.answers.Checked.{Checked}
use Rattle.fam_rules.specs.Checks.{checked}
use Rattle.fam_tree.proofs.Ordered.{sorted_paths}
use Rattle.fam_tree.specs.Keyed.{IsKeyed}
use Rattle.fam_tree.specs.Runs.{AllAbove, InOrder}
use Rattle.fam_judge.specs.Counting.{CountsFit, PathCounts, count_behind}
use Rattle.fam_judge.specs.Fitting.{CheckFits}
use Rattle.fam_judge.specs.Untold.{untold_cmd, untold_entry}
use Rattle.fam_judge.proofs.Finding.{at, get_at, replay_keyed, values_count, values_in_order}
use Rattle.fam_judge.proofs.Merging.{ListCounts, Merged, counts_as, merged, own_paths, sizes, told_fits}
use Rattle.fam_judge.proofs.Planning.{Plan, planned}
use Rattle.fam_judge.proofs.Rows.{first_of, new_of, news_in_order, rows_checked, same_checked, told_of}

-- Listings.

paths_above : (path : List ℕ) (es : List Entry) → AllByRecursion (λ y. path_cmp path y ≡ Less) (own_paths es) → AllAbove path es
paths_above path [] above = tt
paths_above path (e ∷ es) above = (above.0, paths_above path es above.1)

listing_in_order : (es : List Entry) → IsListing es → InOrder es
listing_in_order [] listing = tt
listing_in_order (e ∷ es) listing = (
  paths_above e.path es (sorted_head path_cmp e.path (own_paths es) listing),
  listing_in_order es (sorted_tail path_cmp e.path (own_paths es) listing),
)

same_length : (a b : List Entry) → untold_cmd (Check a) ≡ Check b → length b ≡ length a
same_length a b alike = let is : replicate (length a) untold_entry ≡ b = cc in ap length (sym is) ∙ length-replicate (length a) untold_entry

-- A tree whose entries stand under their own paths.

module _ (tree : Tree) (keyed : IsKeyed tree) where
  -- what its entries allow the tree allows
  list_counts : (counts : Checked) (first : Option (List ℕ)) → ListCounts (finmap.values tree) counts first → PathCounts tree counts first
  list_counts counts None fits = fits
  list_counts counts (Some q) fits =
      counts_as (finmap.contains_key tree q) (is_some (at (finmap.values tree) q)) (count_behind q (finmap.keys tree))
      (count_behind q (own_paths (finmap.values tree))) counts (ap is_some (get_at tree q keyed)) (ap (count_behind q) (sym keyed)) fits

  -- and the other way
  tree_counts : (counts : Checked) (first : Option (List ℕ)) → PathCounts tree counts first → ListCounts (finmap.values tree) counts first
  tree_counts counts None fits = fits
  tree_counts counts (Some q) fits =
      counts_as (is_some (at (finmap.values tree) q)) (finmap.contains_key tree q) (count_behind q (own_paths (finmap.values tree)))
      (count_behind q (finmap.keys tree)) counts (ap is_some (sym (get_at tree q keyed))) (ap (count_behind q) keyed) fits

  -- the numbers of a check fit
  pub counts_fit : (told : List Entry) (counts : Checked) → CheckFits tree (Check told) counts → CountsFit tree (length told) counts
  counts_fit told counts fits =
      let m : Merged (finmap.values tree) fits.listing =
      merged (length (finmap.values tree) + length fits.listing) (finmap.values tree) fits.listing (omega arith)
      (values_in_order tree keyed) (listing_in_order fits.listing fits.sound.limits) in
      let is : checked tree fits.listing ≡ told_of m.rows =
      ap (checked tree) (sym m.new) ∙ rows_checked tree keyed m.rows m.are (sym m.old) in
      subst (λ (c : Checked). CountsFit tree (length told) c) (sym (fits.is ∙ is)) (record {
        size = omega (arith, sizes m.rows, ap length m.new, ap length m.old, values_count tree, same_length fits.listing told fits.alike);
        first = list_counts (told_of m.rows) (first_of m.rows)
            (subst (λ (es : List Entry). ListCounts es (told_of m.rows) (first_of m.rows)) m.old (told_fits m.rows m.are));
      })

  -- numbers that fit are those of a check
  pub fit_counts : (told : List Entry) (counts : Checked) → untold_cmd (Check told) ≡ Check told → CountsFit tree (length told) counts
      → CheckFits tree (Check told) counts
  fit_counts told counts untold fits =
      let plan : Plan (finmap.values tree) counts.missing counts.extra counts.changed counts.first (λ p. ⊥) =
      planned (finmap.values tree) counts (values_in_order tree keyed) counts.first (tree_counts counts counts.first fits.first) in
      let listing = filter_map new_of plan.rows in
      let count : length listing ≡ length told =
      omega (arith, sizes plan.rows, ap length plan.old, plan.missing_are, plan.extra_are, values_count tree, fits.size) in
      record {
        listing = listing;
        alike = ap (λ (n : ℕ). Check (replicate n untold_entry)) count ∙ untold;
        sound = record {
          limits = sorted_paths listing (news_in_order plan.rows plan.are);
          fits = record { wish = λ w e. absurd (cc); content = tt };
        };
        is = sym
            (rows_checked tree keyed plan.rows plan.are (sym plan.old)
            ∙ same_checked (told_of plan.rows) counts plan.missing_are plan.extra_are plan.changed_are plan.first_is);
      }

-- The tree of a list.

-- the numbers of a check fit
pub replay_counts_fit : (entries told : List Entry) (counts : Checked) → CheckFits (replay entries) (Check told) counts
    → CountsFit (replay entries) (length told) counts
replay_counts_fit entries told counts fits = counts_fit (replay entries) (replay_keyed entries) told counts fits

-- numbers that fit are those of a check
pub replay_fit_counts : (entries told : List Entry) (counts : Checked) → untold_cmd (Check told) ≡ Check told
    → CountsFit (replay entries) (length told) counts → CheckFits (replay entries) (Check told) counts
replay_fit_counts entries told counts untold fits = fit_counts (replay entries) (replay_keyed entries) told counts untold fits
