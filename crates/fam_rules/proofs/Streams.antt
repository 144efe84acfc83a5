-- The stream of a seed, a word after the other.
use Rattle.std.proofs.Common.{◌≡◌, ℕ, ◌+◌, add-one, refl}
use Rattle.rand_xoshiro.specs.SplitMix64.{splitmix_seed}
use Rattle.rand_xoshiro.specs.Xoshiro256.{of_seed, next_state, plus_plus}
use Rattle.fam_rules.specs.Content.{stream_state, stream_word}

-- the state that a seed gives
pub stream_state_start : (seed : ℕ) → stream_state seed 0 ≡ of_seed (splitmix_seed 32 seed)
unfolding stream_state
stream_state_start seed = refl

-- the state after one word more
pub stream_state_next : (seed given : ℕ) → stream_state seed (given + 1) ≡ next_state (stream_state seed given)
unfolding stream_state
stream_state_next seed given = rw (add-one given) refl

-- a word is what the state before it gives
pub stream_word_of_state : (seed i : ℕ) → stream_word seed i ≡ (plus_plus (stream_state seed i)).0
unfolding stream_word
stream_word_of_state seed i = refl
