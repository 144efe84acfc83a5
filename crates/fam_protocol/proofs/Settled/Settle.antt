-- What a note or an answer changes of the history, while memory and caches stay.
use Rattle.std.proofs.Common.{ℕ, zero, suc, refl, [], ◌∷◌, ◌≤◌, ◌<◌, ◌≡◌, List, length, take, max, sym, ◌∙◌, ap, arith}
use Rattle.std.specs.Prelude.{slice_get, Some}
use Rattle.fam_format.specs.Layout.{gate_line}
use Rattle.fam_rules.specs.Asks.{File}
use Rattle.fam_protocol.specs.SharedState.{SharedState}
use Rattle.fam_protocol.specs.Lines.{gate_of}
use Rattle.fam_protocol.specs.Core.{System, Core, IsHistory, top_of}
use Rattle.fam_protocol.specs.After.{Relists}

-- what stands in a prefix stands in the list
pub get_prefix : (i n : ℕ) (l : List File) → i < n → slice_get (take n l) i ≡ slice_get l i
get_prefix i zero l lt = absurd (omega (arith, lt))
get_prefix i (suc n) [] lt = refl
get_prefix zero (suc n) (x ∷ l) lt = refl
get_prefix (suc i) (suc n) (x ∷ l) lt = get_prefix i n l (omega (arith, lt))

-- the entry at a place below the top, by the prefixes that agree
pub get_alike : (i n : ℕ) (all all' : List File) (f : File) → i < n → take n all' ≡ take n all → slice_get all' i ≡ Some f → slice_get all i ≡ Some f
get_alike i n all all' f lt same is =
    sym (get_prefix i n all lt) ∙ ap (λ (l : List File). slice_get l i) (sym same) ∙ get_prefix i n all' lt ∙ is

module _ (sys : System) (s : SharedState) (all : List File) (settled : ℕ) (core : Core sys s all settled) where
  -- a reader that saw m entries settles them
  pub core_raised : (m : ℕ) → m ≤ gate_of (s.memory gate_line) → Core sys s all (max settled m)
  core_raised m shared = record {
    wide = core.wide;
    head = core.head;
    named = core.named;
    only_master = core.only_master;
    low = omega (arith, core.low, shared);
    order = core.order;
    high = core.high;
    near = omega (arith, core.near);
    room = core.room;
    history = core.history;
    stands = core.stands;
    clean = core.clean;
  }

  -- the master changes the list past the top
  pub core_relisted : (all' : List File) (settled' : ℕ) → Relists sys s all settled all' settled' → IsHistory sys.params all' → length all' ≤ sys.params.slots → Core sys s all' settled'
  core_relisted all' settled' r history room = record {
    wide = core.wide;
    head = core.head;
    named = core.named;
    only_master = core.only_master;
    low = r.low;
    order = core.order;
    high = r.high;
    near = r.near;
    room = room;
    history = history;
    stands = λ i f is lt. core.stands i f (get_alike i (top_of sys s) all all' f lt (r.alike _ (omega arith)) is) lt;
    clean = λ i f h l is lt. core.clean i f h l (get_alike i (top_of sys s) all all' f lt (r.alike _ (omega arith)) is) lt;
  }
