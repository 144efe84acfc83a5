-- Zeros among words.
use Rattle.std.specs.Prelude.{ℕ, ◌≡◌, List, ◌++◌, replicate}

-- words that end with others
pub record EndsWith (words rest : List ℕ) : Type 0 where
  pub front : List ℕ
  pub is : words ≡ front ++ rest

-- words that are some zeros and then others
pub record IsBehindZeros (words rest : List ℕ) : Type 0 where
  pub count : ℕ
  pub is : words ≡ replicate count 0 ++ rest

-- words that end with a part, which is some zeros and what is left of them
pub record IsSeen (words tail rest : List ℕ) : Type 0 where
  pub ends : EndsWith words tail
  pub zeros : IsBehindZeros tail rest
