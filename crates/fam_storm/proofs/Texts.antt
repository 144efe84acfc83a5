-- Lines one behind another.
use Rattle.std.proofs.Common.{◌≡◌, ℕ, suc, ◌+◌, ◌-◌, ◌<◌, ◌≤◌, Bool, cond, List, [], ◌∷◌, ◌++◌, ap, ap₂, sym, ◌∙◌, arith, append-nil, append_assoc}
use Rattle.std.proofs.lemmas.Bool.{le-ltb, lt-ltb}
use Rattle.std.proofs.lemmas.List.Concat.{flat_map-append}
use Rattle.fam_rules.specs.Content.{stream_state}
use Rattle.fam_storm.specs.Draws.{after, drawn}
use Rattle.fam_storm.specs.Storm.{Round, Words, append_round, begun_words, creat_words, cut_round, end_lines, front_lines, line_text, mkdir_words, step_words, storm, text_of, round, round_of, rounds}

-- one line
pub one_line : (words : Words) → text_of (words ∷ []) ≡ line_text words ++ 10 ∷ []
one_line words = append-nil (line_text words ++ 10 ∷ [])

-- two lists of lines
pub text_of-append : (a b : List Words) → text_of (a ++ b) ≡ text_of a ++ text_of b
text_of-append a b = flat_map-append (λ (words : Words). line_text words ++ 10 ∷ []) a b

-- what is put behind something
pub behind : (old a mid b new : List ℕ) → mid ≡ old ++ a → new ≡ mid ++ b → new ≡ old ++ (a ++ b)
behind old a mid b new first next = next ∙ ap (λ (l : List ℕ). l ++ b) first ∙ append_assoc old a b

-- one round of those that are left
rounds_more : (i size : ℕ) (s : List ℕ) → i < size → rounds i (size - i) s ≡ (round i s).lines ++ rounds (i + 1) (size - (i + 1)) (round i s).state
rounds_more i size s below =
    ap (λ (n : ℕ). rounds i n s) (let e : size - i ≡ suc (size - (i + 1)) = omega arith in e)

pub round_put : (i size : ℕ) (s state old new all : List ℕ) → i < size → new ≡ old ++ text_of (round i s).lines → state ≡ (round i s).state
    → old ++ text_of (rounds i (size - i) s) ≡ all → new ++ text_of (rounds (i + 1) (size - (i + 1)) state) ≡ all
round_put i size s state old new all below put is so_far =
    ap (λ (t : List ℕ). new ++ text_of (rounds (i + 1) (size - (i + 1)) t)) is
    ∙ ap (λ (l : List ℕ). l ++ text_of (rounds (i + 1) (size - (i + 1)) (round i s).state)) put
    ∙ append_assoc old (text_of (round i s).lines) (text_of (rounds (i + 1) (size - (i + 1)) (round i s).state))
    ∙ ap (λ (l : List ℕ). old ++ l) (sym (text_of-append (round i s).lines (rounds (i + 1) (size - (i + 1)) (round i s).state)) ∙ ap text_of (sym (rounds_more i size s below)))
    ∙ so_far

-- Rounds by their cases.

-- the rounds of cases 0 to 4, by two tests
abbrev appended : ℕ → List ℕ → Bool → Bool → Round
appended i s a b =
    cond a (record { lines = mkdir_words i ∷ []; state = s }) (cond b (record { lines = creat_words i (drawn 20000 s) ∷ []; state = after s }) (cut_round i s))

pub creat_is : (i case n : ℕ) (s : List ℕ) → 2 ≤ case → case < 4 → n ≡ drawn 20000 s → text_of (creat_words i n ∷ []) ≡ text_of (append_round i case s).lines
creat_is i case n s low high is =
    ap (λ (m : ℕ). text_of (creat_words i m ∷ [])) is
    ∙ sym (ap₂ (λ (a b : Bool). text_of (appended i s a b).lines) (le-ltb case 2 low) (lt-ltb case 4 high))

pub cut_is : (i case : ℕ) (s : List ℕ) → 2 ≤ case → 4 ≤ case → text_of (cut_round i s).lines ≡ text_of (append_round i case s).lines
cut_is i case s low high = sym (ap₂ (λ (a b : Bool). text_of (appended i s a b).lines) (le-ltb case 2 low) (le-ltb case 4 high))

pub round_is : (i n : ℕ) (s t : List ℕ) → n ≡ drawn 16 s → t ≡ after s → text_of (round_of i n t).lines ≡ text_of (round i s).lines
unfolding round
round_is i n s t number state = ap₂ (λ (m : ℕ) (u : List ℕ). text_of (round_of i m u).lines) number state

-- the lines of an append that is cut off
pub cut_put : (old mid more s : List ℕ) (i n k e : ℕ) → mid ≡ old ++ text_of (begun_words i n ∷ []) → more ≡ mid ++ text_of (step_words k ∷ [])
    → n ≡ drawn 20000 s → k ≡ 1 + drawn 12000 (after s) → e ≡ drawn 3 (after (after s))
    → more ++ text_of (end_lines e) ≡ old ++ text_of (cut_round i s).lines
cut_put old mid more s i n k e first second n_is k_is e_is =
    let begun : List Words = begun_words i n ∷ [] in
    let step : List Words = step_words k ∷ [] in
    let both : more ≡ old ++ text_of (begun ++ step) = behind old (text_of begun) mid (text_of step) more first second ∙ ap (λ (l : List ℕ). old ++ l) (sym (text_of-append begun step)) in
    ap (λ (l : List ℕ). l ++ text_of (end_lines e)) both
    ∙ append_assoc old (text_of (begun ++ step)) (text_of (end_lines e))
    ∙ ap (λ (l : List ℕ). old ++ l) (sym (text_of-append (begun ++ step) (end_lines e)))
    ∙ (λ j. old ++ text_of (begun_words i (n_is j) ∷ step_words (k_is j) ∷ end_lines (e_is j)))

-- The front.

pub begins : (seed size : ℕ) (script generator new : List ℕ) → new ≡ [] → script ≡ new ++ text_of front_lines → generator ≡ stream_state seed 0
    → script ++ text_of (rounds 0 (size - 0) generator) ≡ storm seed size
unfolding storm
begins seed size script generator new none front start =
    ap₂ (λ (l s : List ℕ). l ++ text_of (rounds 0 (size - 0) s)) (front ∙ ap (λ (l : List ℕ). l ++ text_of front_lines) none) start
    ∙ ap (λ (n : ℕ). text_of front_lines ++ text_of (rounds 0 n (stream_state seed 0))) (let e : size - 0 ≡ size = omega arith in e)
    ∙ sym (text_of-append front_lines (rounds 0 size (stream_state seed 0)))
