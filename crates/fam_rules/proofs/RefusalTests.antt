-- The tests of a decision and their causes.
use Rattle.std.proofs.Common.{◌≡◌, ℕ, ◌%◌, ◌<◌, ◌==◌, ◌&&◌, true, nat_le, List, length, Option, Some, None, refl, sym, ap, ◌∙◌, inl, inr, arith}
use Rattle.std.specs.FinMap as finmap
use Rattle.std.specs.Prelude.{◌≢◌}
use Rattle.std.specs.Cmp.Lexicographic.{pointwise_decides}
use Rattle.std.proofs.lemmas.Bool.{cases_Bool, cases_lt, and_parts, eqb-true, eq-eqb, leb-true, le-leb, lt-leb, false≢true}
use Rattle.std.proofs.lemmas.Bool.Decides.{Decides-eqb}
use Rattle.fam_base.specs.declared.cmd.Stripe.{Stripe}
use Rattle.fam_base.specs.declared.entry.Params.{Params}
use Rattle.fam_base.specs.declared.entry.Entry.{Entry}
use Rattle.fam_base.specs.declared.entry.Kind.{Kind}
use Rattle.fam_base.specs.declared.entry.Kind.TheVariants.{File, Directory}
use Rattle.fam_base.specs.ExtentLists.{extent_limit}
use Rattle.fam_base.specs.PathOrder.{path_eq}
use Rattle.fam_format.specs.Layout.{geometry}
use Rattle.fam_format.specs.Params.{first_number}
use Rattle.fam_format.specs.ReadingLaws.{HasParent}
use Rattle.fam_format.specs.Tree.{Tree}
use Rattle.fam_rules.specs.declared.answers.Refused.{Refused}
use Rattle.fam_rules.specs.declared.answers.Refused.TheVariants.{NotMaster, LongPath, BadStripe, NoParent, ParentIsFile}
use Rattle.fam_rules.specs.Decide.{Wish, is_stripe, master_refusal, length_refusal, first_refusal, early_refusal, stripe_refusal, file_refusal, found_refusal, parent_refusal, bucket_limit}
use Rattle.fam_rules.specs.DecideLaws.{IsGoodStripe, HasGoodStripe, FitsSlot, IsTooLong}

-- Tests and their causes.

-- a good stripe is one that the tests pass
pub stripe_good : (p : Params) (s : Stripe) → is_stripe p s ≡ true → IsGoodStripe p s
stripe_good p s h =
    let last = and_parts (nat_le 1 s.chunk && (s.chunk % p.unit == 0) && nat_le 1 s.nstrips && nat_le s.nstrips extent_limit && nat_le s.nstrips s.nbuckets) (nat_le s.nbuckets bucket_limit) h in
    let fifth = and_parts (nat_le 1 s.chunk && (s.chunk % p.unit == 0) && nat_le 1 s.nstrips && nat_le s.nstrips extent_limit) (nat_le s.nstrips s.nbuckets) last.0 in
    let fourth = and_parts (nat_le 1 s.chunk && (s.chunk % p.unit == 0) && nat_le 1 s.nstrips) (nat_le s.nstrips extent_limit) fifth.0 in
    let third = and_parts (nat_le 1 s.chunk && (s.chunk % p.unit == 0)) (nat_le 1 s.nstrips) fourth.0 in
    let second = and_parts (nat_le 1 s.chunk) (s.chunk % p.unit == 0) third.0 in
    record {
      chunk = leb-true 1 s.chunk second.0;
      whole = eqb-true (s.chunk % p.unit) 0 second.1;
      some = leb-true 1 s.nstrips third.1;
      few = leb-true s.nstrips extent_limit fourth.1;
      spread = leb-true s.nstrips s.nbuckets fifth.1;
      buckets = leb-true s.nbuckets bucket_limit last.1;
    }

-- and they pass a good stripe
pub good_stripe : (p : Params) (s : Stripe) → IsGoodStripe p s → is_stripe p s ≡ true
good_stripe p s is =
    rw (
      le-leb 1 s.chunk is.chunk,
      eq-eqb (s.chunk % p.unit) 0 is.whole,
      le-leb 1 s.nstrips is.some,
      le-leb s.nstrips extent_limit is.few,
      le-leb s.nstrips s.nbuckets is.spread,
      le-leb s.nbuckets bucket_limit is.buckets,
    ) refl

-- one who isn't refused is the master
pub master_none : (p : Params) (me : List ℕ) → master_refusal p me ≡ None → me ≡ p.master
master_none p me h = elim (cases_Bool (path_eq me p.master)) [
  | inl pass ↦ (pointwise_decides Decides-eqb me p.master).0 pass
  | inr fail ↦ absurd (let e : master_refusal p me ≡ Some (NotMaster me p.master) = rw fail refl in cc)
]

-- the master isn't refused
pub none_master : (p : Params) (me : List ℕ) → me ≡ p.master → master_refusal p me ≡ None
none_master p me same = rw ((pointwise_decides Decides-eqb me p.master).1 same) refl

-- another host is
pub some_master : (p : Params) (me : List ℕ) → me ≢ p.master → master_refusal p me ≡ Some (NotMaster me p.master)
some_master p me other = elim (cases_Bool (path_eq me p.master)) [
  | inl pass ↦ absurd (other ((pointwise_decides Decides-eqb me p.master).0 pass))
  | inr fail ↦ rw fail refl
]

-- a path that isn't refused fits a slot
pub length_none : (p : Params) (path : List ℕ) → length_refusal p path ≡ None → FitsSlot p path
length_none p path h is = elim (cases_Bool (nat_le (length path) (geometry p).path_limit)) [
  | inl pass ↦ leb-true (length path) (geometry p).path_limit pass
  | inr fail ↦ absurd (let e : length_refusal p path ≡ Some (LongPath (geometry p).path_limit) = rw (eq-eqb p.format first_number is, fail) refl in cc)
]

-- one that fits isn't refused
pub none_length : (p : Params) (path : List ℕ) → FitsSlot p path → length_refusal p path ≡ None
none_length p path fits = elim (cases_Bool (p.format == first_number)) [
  | inl first ↦ rw (first, le-leb (length path) (geometry p).path_limit (fits (eqb-true p.format first_number first))) refl
  | inr other ↦ rw other refl
]

-- a longer one is
pub some_length : (p : Params) (path : List ℕ) → p.format ≡ first_number → (geometry p).path_limit < length path → length_refusal p path ≡ Some (LongPath (geometry p).path_limit)
some_length p path first long = rw (eq-eqb p.format first_number first, lt-leb (length path) (geometry p).path_limit long) refl

-- where the first of two refusals doesn't come, neither does
neither : (one other : Option Refused) → first_refusal one other ≡ None → (one ≡ None) × (other ≡ None)
neither None other h = (refl, h)
neither (Some refused) other h = absurd (cc)

-- what isn't refused early is asked by the master, with a path that fits
pub early_none : (p : Params) (me path : List ℕ) → early_refusal p me path ≡ None → (me ≡ p.master) × FitsSlot p path
early_none p me path h =
    let none = neither (master_refusal p me) (length_refusal p path) h in
    (master_none p me none.0, length_none p path none.1)

-- and that isn't refused
pub none_early : (p : Params) (me path : List ℕ) → me ≡ p.master → FitsSlot p path → early_refusal p me path ≡ None
none_early p me path same fits = ap (λ (o : Option Refused). first_refusal o (length_refusal p path)) (none_master p me same) ∙ none_length p path fits

-- another host is refused, whatever its path
pub early_master : (p : Params) (me path : List ℕ) → me ≢ p.master → early_refusal p me path ≡ Some (NotMaster me p.master)
early_master p me path other = ap (λ (o : Option Refused). first_refusal o (length_refusal p path)) (some_master p me other)

-- and the master with a path that is too long
pub early_long : (p : Params) (me path : List ℕ) → p.format ≡ first_number → me ≡ p.master → (geometry p).path_limit < length path → early_refusal p me path ≡ Some (LongPath (geometry p).path_limit)
early_long p me path first same long = ap (λ (o : Option Refused). first_refusal o (length_refusal p path)) (none_master p me same) ∙ some_length p path first long

-- with the limit that it has
pub early_limit : (p : Params) (me : List ℕ) (w : Wish) (limit : ℕ) → IsTooLong p me w limit → early_refusal p me w.path ≡ Some (LongPath limit)
early_limit p me w limit is = early_long p me w.path is.format is.master (omega (arith, is.long, is.limit_is)) ∙ ap (λ (n : ℕ). Some (LongPath n)) (sym is.limit_is)

-- the master asks with a path that fits, or another host asks, or the path is too long
pub data EarlyCases (p : Params) (me path : List ℕ) : Type 0 where
  may_ask : me ≡ p.master → FitsSlot p path → early_refusal p me path ≡ None → EarlyCases p me path
  another : me ≢ p.master → early_refusal p me path ≡ Some (NotMaster me p.master) → EarlyCases p me path
  too_long : p.format ≡ first_number → me ≡ p.master → (geometry p).path_limit < length path → early_refusal p me path ≡ Some (LongPath (geometry p).path_limit) → EarlyCases p me path

-- one of these it is
pub early_cases : (p : Params) (me path : List ℕ) → EarlyCases p me path
early_cases p me path = elim (cases_Bool (path_eq me p.master)) [
  | inl pass ↦
      let same : me ≡ p.master = (pointwise_decides Decides-eqb me p.master).0 pass in
      elim (cases_Bool (p.format == first_number)) [
        | inl is ↦
            let first : p.format ≡ first_number = eqb-true p.format first_number is in
            elim (cases_lt (geometry p).path_limit (length path)) [
              | inl long ↦ too_long first same long (early_long p me path first same long)
              | inr fits ↦ may_ask same (λ e. fits) (none_early p me path same (λ e. fits))
            ]
        | inr other ↦
            let fits : FitsSlot p path = λ e. absurd (false≢true (sym other ∙ eq-eqb p.format first_number e)) in
            may_ask same fits (none_early p me path same fits)
      ]
  | inr fail ↦
      let other : me ≢ p.master = λ same. false≢true (sym fail ∙ (pointwise_decides Decides-eqb me p.master).1 same) in
      another other (early_master p me path other)
]

-- a stripe that isn't refused is good
pub stripe_none : (p : Params) (stripe : Option Stripe) → stripe_refusal p stripe ≡ None → HasGoodStripe p stripe
stripe_none p None h = tt
stripe_none p (Some s) h = elim (cases_Bool (is_stripe p s)) [
  | inl pass ↦ stripe_good p s pass
  | inr fail ↦ absurd (let e : stripe_refusal p (Some s) ≡ Some BadStripe = rw fail refl in cc)
]

-- a good one isn't refused
pub none_stripe : (p : Params) (stripe : Option Stripe) → HasGoodStripe p stripe → stripe_refusal p stripe ≡ None
none_stripe p None good = refl
none_stripe p (Some s) good = rw (good_stripe p s good) refl

-- one out of its bounds is
pub some_stripe : (p : Params) (stripe : Option Stripe) → (HasGoodStripe p stripe → ⊥) → stripe_refusal p stripe ≡ Some BadStripe
some_stripe p None bad = absurd (bad tt)
some_stripe p (Some s) bad = elim (cases_Bool (is_stripe p s)) [
  | inl pass ↦ absurd (bad (stripe_good p s pass))
  | inr fail ↦ rw fail refl
]

-- the parent stands, or it is missing, or it is a file
pub data ParentCases (tree : Tree) (parent : Option (List ℕ)) : Type 0 where
  stands : parent_refusal tree parent ≡ None → HasParent tree parent → ParentCases tree parent
  missing : (path : List ℕ) → parent ≡ Some path → finmap.get tree path ≡ None → parent_refusal tree parent ≡ Some NoParent → ParentCases tree parent
  is_file : (path : List ℕ) (file : Entry) → parent ≡ Some path → finmap.get tree path ≡ Some file → file.kind ≡ File → parent_refusal tree parent ≡ Some ParentIsFile → ParentCases tree parent

-- by its kind
by_kind : (tree : Tree) (path : List ℕ) (found : Entry) (kind : Kind) → finmap.get tree path ≡ Some found → found.kind ≡ kind → ParentCases tree (Some path)
by_kind tree path found Directory at is = stands (ap found_refusal at ∙ ap file_refusal is) (found, at, is)
by_kind tree path found File at is = is_file path found refl at is (ap found_refusal at ∙ ap file_refusal is)

-- by what stands at its path
by_found : (tree : Tree) (path : List ℕ) (there : Option Entry) → finmap.get tree path ≡ there → ParentCases tree (Some path)
by_found tree path None at = missing path refl at (ap found_refusal at)
by_found tree path (Some found) at = by_kind tree path found found.kind at refl

-- one of these it is
pub parent_cases : (tree : Tree) (parent : Option (List ℕ)) → ParentCases tree parent
parent_cases tree None = stands refl tt
parent_cases tree (Some path) = by_found tree path (finmap.get tree path) refl

-- in the cases that refuse it is refused
parent_of_cases : (tree : Tree) (parent : Option (List ℕ)) → parent_refusal tree parent ≡ None → ParentCases tree parent → HasParent tree parent
parent_of_cases tree parent h (stands pass has) = has
parent_of_cases tree parent h (missing path is at refusal) = absurd (cc)
parent_of_cases tree parent h (is_file path file is at kind refusal) = absurd (cc)

-- a parent that isn't refused stands
pub parent_none : (tree : Tree) (parent : Option (List ℕ)) → parent_refusal tree parent ≡ None → HasParent tree parent
parent_none tree parent h = parent_of_cases tree parent h (parent_cases tree parent)

-- a parent that stands passes
pub parent_passes : (tree : Tree) (parent : Option (List ℕ)) → HasParent tree parent → parent_refusal tree parent ≡ None
parent_passes tree None has = refl
parent_passes tree (Some path) (directory, at, is) = ap found_refusal at ∙ ap file_refusal is

-- a stripe is good, or out of its bounds
pub data StripeCases (p : Params) (stripe : Option Stripe) : Type 0 where
  good : HasGoodStripe p stripe → StripeCases p stripe
  bad : (HasGoodStripe p stripe → ⊥) → StripeCases p stripe

-- one of these it is
pub stripe_cases : (p : Params) (stripe : Option Stripe) → StripeCases p stripe
stripe_cases p None = good tt
stripe_cases p (Some s) = elim (cases_Bool (is_stripe p s)) [
  | inl pass ↦ good (stripe_good p s pass)
  | inr fail ↦ bad (λ is. false≢true (sym fail ∙ good_stripe p s is))
]
