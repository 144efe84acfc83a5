-- What a pass over words saw to be zero.
use Rattle.std.proofs.Common.{◌≡◌, ℕ, zero, suc, ◌+◌, ◌-◌, ◌<◌, ◌≤◌, List, [], ◌∷◌, ◌++◌, length, get_or, take, drop, replicate, subst, refl, sym, ap, ◌∙◌, arith}
use Rattle.std.proofs.lemmas.List.{append-nil, append_assoc, length-append, replicate-append-replicate, get_or_append_left, get_or-append_right, take_all}
use Rattle.fam_crc.specs.Zeros.{EndsWith, IsBehindZeros, IsSeen}

-- zeros, and what is behind them
pub zeros_at : (n k : ℕ) → get_or {A = ℕ} (replicate n 0) k 0 ≡ 0
zeros_at zero k = refl
zeros_at (suc n) zero = refl
zeros_at (suc n) (suc k) = zeros_at n k

-- at first nothing is seen
pub none_seen : (words rest : List ℕ) → EndsWith words rest → IsSeen words rest rest
none_seen words rest e = record { ends = e; zeros = record { count = 0; is = refl } }

-- a word behind which the tail begins anew
pub word_seen : (words tail rest more : List ℕ) (word : ℕ) → IsSeen words tail rest → rest ≡ word ∷ more → IsSeen words more more
word_seen words tail rest more word s e =
    let front : List ℕ = s.ends.front in
    let zeros : List ℕ = replicate s.zeros.count 0 in
    none_seen words more
    (record {
      front = front ++ (zeros ++ word ∷ []);
      is = s.ends.is ∙ ap (λ (l : List ℕ). front ++ l) (s.zeros.is ∙ ap (λ (l : List ℕ). zeros ++ l) e ∙ sym (append_assoc zeros (word ∷ []) more))
          ∙ sym (append_assoc front (zeros ++ word ∷ []) more);
    })

-- more zeros
pub zeros_seen : (words tail rest behind : List ℕ) → IsSeen words tail rest → IsBehindZeros rest behind → IsSeen words tail behind
zeros_seen words tail rest behind s z =
    let n : ℕ = s.zeros.count in
    record {
      ends = s.ends;
      zeros = record {
        count = n + z.count;
        is = s.zeros.is ∙ ap (λ (l : List ℕ). replicate n 0 ++ l) z.is ∙ sym (append_assoc (replicate n 0) (replicate z.count 0) behind)
            ∙ ap (λ (l : List ℕ). l ++ behind) (replicate-append-replicate n z.count 0);
      };
    }

-- a word of zero
pub zero_seen : (words tail rest more : List ℕ) (word : ℕ) → IsSeen words tail rest → rest ≡ word ∷ more → word ≡ 0 → IsSeen words tail more
zero_seen words tail rest more word s e none =
    zeros_seen words tail rest more s (record { count = 1; is = e ∙ ap (λ (w : ℕ). w ∷ more) none })

-- the tail is no longer than the words
pub tail_within : (words tail : List ℕ) → EndsWith words tail → length tail ≤ length words
tail_within words tail e = omega (arith, ap length e.is, length-append e.front tail)

-- where nothing is left, all is zero from the tail on
pub zeros_behind : (words tail rest : List ℕ) (end k : ℕ) → IsSeen words tail rest → length rest < 1 → end ≡ length words - length tail → end ≤ k → get_or words k 0 ≡ 0
zeros_behind words tail [] end k s none is from =
    let front : List ℕ = s.ends.front in
    let n : ℕ = s.zeros.count in
    let place : end ≡ length front = omega (arith, is, ap length s.ends.is, length-append front tail) in
    ap (λ (l : List ℕ). get_or l k 0) s.ends.is
    ∙ get_or-append_right front tail end k 0 (sym place) from
    ∙ ap (λ (l : List ℕ). get_or l (k - end) 0) (s.zeros.is ∙ append-nil (replicate n 0))
    ∙ zeros_at n (k - end)
zeros_behind words tail (word ∷ rest) end k s none is from = absurd (omega arith)

-- the words of a head from place 7 on
pub gap_at : (a b c d e f : ℕ) (words more behind : List ℕ) (k : ℕ) → words ≡ a ∷ b ∷ 0 ∷ c ∷ d ∷ e ∷ f ∷ more → more ≡ replicate 35 0 ++ behind → 7 ≤ k → k < 42 → get_or words k 0 ≡ 0
gap_at a b c d e f words more behind k is zeros from below =
    let place : 7 + (k - 7) ≡ k = omega arith in
    ap (λ (l : List ℕ). get_or l k 0) (is ∙ ap (λ (l : List ℕ). a ∷ b ∷ 0 ∷ c ∷ d ∷ e ∷ f ∷ l) zeros)
    ∙ get_or-append_right (a ∷ b ∷ 0 ∷ c ∷ d ∷ e ∷ f ∷ []) (replicate 35 0 ++ behind) 7 k 0 refl from
    ∙ get_or_append_left (replicate 35 0) behind 0 (k - 7) (omega arith)
    ∙ zeros_at 35 (k - 7)

-- a head, and what is behind it
pub behind_gap : (a b c d e f : ℕ) (words more behind : List ℕ) → words ≡ a ∷ b ∷ 0 ∷ c ∷ d ∷ e ∷ f ∷ more → more ≡ replicate 35 0 ++ behind → EndsWith words behind
behind_gap a b c d e f words more behind is zeros = record {
  front = a ∷ b ∷ 0 ∷ c ∷ d ∷ e ∷ f ∷ replicate 35 0;
  is = is ∙ ap (λ (l : List ℕ). a ∷ b ∷ 0 ∷ c ∷ d ∷ e ∷ f ∷ l) zeros;
}

-- the same of the words behind the first one
pub first_seen : (words tail rest : List ℕ) → 1 ≤ length rest → IsSeen words tail rest → IsSeen words (take (length rest - 1) (drop 1 rest)) (take (length rest - 1) (drop 1 rest))
first_seen words tail [] long s = absurd (omega arith)
first_seen words tail (word ∷ more) long s =
    let size : length (word ∷ more) - 1 ≡ length more = omega arith in
    subst (λ (l : List ℕ). IsSeen words l l) (sym (ap (λ (n : ℕ). take n more) size ∙ take_all (length more) more (omega arith)))
    (word_seen words tail (word ∷ more) more word s refl)
