-- A listing is read in one way.
use Rattle.std.proofs.Common.{◌≡◌, ℕ, ◌+◌, inl, inr, Bool, true, false, List, [], ◌∷◌, length, ap, ap₂, sym, ◌∙◌, subst}
use Rattle.std.specs.Prelude.{Option, Some, None, Result, Ok, Err}
use Rattle.fam_base.specs.declared.entry.Entry.{Entry}
use Rattle.fam_base.specs.PathOrder.{path_eq}
use Rattle.fam_tree.specs.Listings.{BodySays, LinesSay, TextSays, played_line, text_lines}
use Rattle.fam_tree.proofs.Printed.{printed_once}
use Rattle.fam_journal.specs.Laws.{OneListing}

one_lines : (lines : List (List ℕ)) (n : ℕ) (before : Option (List ℕ)) (a b : Result (List Entry) ℕ) → LinesSay n before lines a → LinesSay n before lines b → a ≡ b
one_lines [] n before (Ok x) (Ok y) p q = ap Ok (p ∙ sym q)
one_lines [] n before (Ok x) (Err y) p q = absurd q
one_lines [] n before (Err x) (Ok y) p q = absurd p
one_lines [] n before (Err x) (Err y) p q = absurd p
one_lines (line ∷ lines) n before (Ok x) (Ok y) p q =
    let same : p.0 ≡ q.0 = printed_once p.0 q.0 p.2.listed q.2.listed (sym p.2.printed ∙ q.2.printed) in
    let rest : ◌≡◌ {A = Result (List Entry) ℕ} (Ok p.1) (Ok q.1) = one_lines lines (n + 1) (Some q.0.path) (Ok p.1) (Ok q.1)
    (subst (λ (e : Entry). LinesSay (n + 1) (Some e.path) lines (Ok p.1)) same p.3) q.3 in
    let more : p.1 ≡ q.1 = cc in
    ap Ok (p.4 ∙ ap₂ (λ (e : Entry) (es : List Entry). e ∷ es) same more ∙ sym q.4)
one_lines (line ∷ lines) n before (Ok x) (Err y) p (inl q) = absurd (q.1 p.0 p.2)
one_lines (line ∷ lines) n before (Ok x) (Err y) p (inr q) =
    let same : p.0 ≡ q.0 = printed_once p.0 q.0 p.2.listed q.1.listed (sym p.2.printed ∙ q.1.printed) in
    let rest : ◌≡◌ {A = Result (List Entry) ℕ} (Ok p.1) (Err y) = one_lines lines (n + 1) (Some q.0.path) (Ok p.1) (Err y)
    (subst (λ (e : Entry). LinesSay (n + 1) (Some e.path) lines (Ok p.1)) same p.3) q.2 in
    absurd cc
one_lines (line ∷ lines) n before (Err x) (Ok y) (inl p) q = absurd (p.1 q.0 q.2)
one_lines (line ∷ lines) n before (Err x) (Ok y) (inr p) q =
    let same : p.0 ≡ q.0 = printed_once p.0 q.0 p.1.listed q.2.listed (sym p.1.printed ∙ q.2.printed) in
    let rest : ◌≡◌ {A = Result (List Entry) ℕ} (Err x) (Ok q.1) = one_lines lines (n + 1) (Some q.0.path) (Err x) (Ok q.1)
    (subst (λ (e : Entry). LinesSay (n + 1) (Some e.path) lines (Err x)) same p.2) q.3 in
    absurd cc
one_lines (line ∷ lines) n before (Err x) (Err y) (inl p) (inl q) = ap Err (p.0 ∙ sym q.0)
one_lines (line ∷ lines) n before (Err x) (Err y) (inl p) (inr q) = absurd (p.1 q.0 q.1)
one_lines (line ∷ lines) n before (Err x) (Err y) (inr p) (inl q) = absurd (q.1 p.0 p.1)
one_lines (line ∷ lines) n before (Err x) (Err y) (inr p) (inr q) =
    let same : p.0 ≡ q.0 = printed_once p.0 q.0 p.1.listed q.1.listed (sym p.1.printed ∙ q.1.printed) in
    one_lines lines (n + 1) (Some q.0.path) (Err x) (Err y) (subst (λ (e : Entry). LinesSay (n + 1) (Some e.path) lines (Err x)) same p.2) q.2

one_body : (t : Bool) (first : List ℕ) (rest : List (List ℕ)) (a b : Result (List Entry) ℕ) → BodySays t first rest a → BodySays t first rest b → a ≡ b
one_body true first rest a b p q = one_lines rest 2 None a b p q
one_body false first rest a b p q = one_lines (first ∷ rest) 1 None a b p q

one_text : (lines : List (List ℕ)) (a b : Result (List Entry) ℕ) → TextSays lines a → TextSays lines b → a ≡ b
one_text [] a b p q = one_lines [] 1 None a b p q
one_text (first ∷ rest) a b p q = one_body (path_eq first (played_line (length rest))) first rest a b p q

-- bytes are one listing, or have one first bad line
pub one_listing : OneListing
one_listing bytes a b p q = one_text (text_lines bytes) a b p q
