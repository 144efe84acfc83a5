-- What lines say, from the first on.
use Rattle.std.proofs.Common.{◌≡◌, ℕ, ◌+◌, ◌<◌, Bool, true, false, inl, inr, List, [], ◌∷◌, ◌++◌, map, length, refl, ap, sym, subst, ◌∙◌, arith, append-nil, append_assoc}
use Rattle.std.specs.Prelude.{IfErr, IfOk, Option, Some, None, Result, Ok, Err}
use Rattle.std.specs.List.{AllByRecursion}
use Rattle.std.specs.List.Sorted.{IsStrictlySortedBy}
use Rattle.std.specs.Cmp.Lexicographic.{nat_list_cmp_total}
use Rattle.std.specs.declared.cmp.Ordering.TheVariants.{Less}
use Rattle.fam_base.specs.declared.entry.Entry.{Entry}
use Rattle.fam_base.specs.Commands.{IsListing}
use Rattle.fam_base.specs.PathOrder.{path_cmp, path_eq}
use Rattle.fam_tree.specs.declared.fault.ListingFault.{ListingFault}
use Rattle.fam_tree.specs.declared.fault.ListingFault.TheVariants.{BadListing, OutOfMemory}
use Rattle.fam_tree.specs.Cuts.{front, back}
use Rattle.fam_tree.specs.Lines.{line_feed}
use Rattle.fam_tree.specs.Listings.{BodySays, ComesBehind, IsListingLine, LinesSay, ListingSays, TextSays, played_line, text_lines}
use Rattle.fam_tree.specs.Said.{NamesBad, onto}
use Rattle.fam_tree.proofs.Cutting.{no_lines, lines_more}

-- One line more.

module _ (n : ℕ) (before : Option (List ℕ)) (bytes line : List ℕ) (some : 0 < length bytes) (is : line ≡ front line_feed bytes) where
  more_said : (e : Entry) (said : Result (List Entry) ℕ) → IsListingLine before line e
      → LinesSay (n + 1) (Some e.path) (text_lines (back line_feed bytes)) said
      → LinesSay n before (line ∷ text_lines (back line_feed bytes)) (onto (e ∷ []) said)
  more_said e (Ok more) own rest = (e, more, own, rest, refl)
  more_said e (Err bad) own rest = inr (e, own, rest)

  -- a line that is an entry's
  pub line_said : (e : Entry) (said : Result (List Entry) ℕ) → IsListingLine before line e
      → LinesSay (n + 1) (Some e.path) (text_lines (back line_feed bytes)) said → LinesSay n before (text_lines bytes) (onto (e ∷ []) said)
  line_said e said own rest =
      subst (λ (lines : List (List ℕ)). LinesSay n before lines (onto (e ∷ []) said))
      (ap (λ (l : List ℕ). l ∷ text_lines (back line_feed bytes)) is ∙ sym (lines_more bytes some)) (more_said e said own rest)

  -- a line that is none
  pub bad_said : ((e : Entry) → IsListingLine before line e → ⊥) → LinesSay n before (text_lines bytes) (Err n)
  bad_said none =
      subst (λ (lines : List (List ℕ)). LinesSay n before lines (Err n))
      (ap (λ (l : List ℕ). l ∷ text_lines (back line_feed bytes)) is ∙ sym (lines_more bytes some)) (inl (refl, none))

-- entries in front of others
pub onto_more : (entries : List Entry) (e : Entry) (said : Result (List Entry) ℕ) → onto entries (onto (e ∷ []) said) ≡ onto (entries ++ e ∷ []) said
onto_more entries e (Ok more) = ap Ok (sym (append_assoc entries (e ∷ []) more))
onto_more entries e (Err bad) = refl

-- what the lines that are left say tells what all say
abbrev pub Tells : ℕ → List ℕ → List Entry → ℕ → Option (List ℕ) → List ℕ → Type 0
Tells first bytes entries n before rest =
    (said : Result (List Entry) ℕ) → LinesSay n before (text_lines rest) said → LinesSay first None (text_lines bytes) (onto entries said)

module _ (first : ℕ) (bytes : List ℕ) (entries : List Entry) (n : ℕ) (before : Option (List ℕ)) (rest line : List ℕ) (tells : Tells first bytes entries n before rest) where
  pub tells_more : 0 < length rest → line ≡ front line_feed rest → (e : Entry) (more : List ℕ) (longer : List Entry) → more ≡ back line_feed rest
      → longer ≡ entries ++ e ∷ [] → IsListingLine before line e → Tells first bytes longer (n + 1) (Some e.path) more
  tells_more some is e more longer behind pushed own said h =
      subst (LinesSay first None (text_lines bytes)) (onto_more entries e said ∙ ap (λ (l : List Entry). onto l said) (sym pushed))
      (tells (onto (e ∷ []) said) (line_said n before rest line some is e said own (subst (λ (l : List ℕ). LinesSay (n + 1) (Some e.path) (text_lines l) said) behind h)))

  pub tells_bad : 0 < length rest → line ≡ front line_feed rest → ((e : Entry) → IsListingLine before line e → ⊥) → LinesSay first None (text_lines bytes) (Err n)
  tells_bad some is none = tells (Err n) (bad_said n before rest line some is none)

  pub tells_all : length rest ≡ 0 → LinesSay first None (text_lines bytes) (Ok entries)
  tells_all none =
      subst (LinesSay first None (text_lines bytes)) (ap Ok (append-nil entries)) (tells (Ok []) (ends rest none))
    where
      ends : (l : List ℕ) → length l ≡ 0 → LinesSay n before (text_lines l) (Ok [])
      ends [] e = subst (λ (lines : List (List ℕ)). LinesSay n before lines (Ok [])) (sym no_lines) refl
      ends (b ∷ l) e = absurd (omega (arith, e))

-- The order.

abbrev Below : List ℕ → List Entry → Type 0
Below path es = AllByRecursion (λ y. path_cmp path y ≡ Less) (map (λ (e : Entry). e.path) es)

below_before : (a b : List ℕ) (es : List Entry) → path_cmp a b ≡ Less → Below b es → Below a es
below_before a b [] h k = tt
below_before a b (e ∷ es) h k = (nat_list_cmp_total.trans a b e.path h k.0, below_before a b es h k.1)

-- behind the path before, if there is one
abbrev Behind : Option (List ℕ) → List Entry → Type 0
Behind None es = Unit {0}
Behind (Some path) es = Below path es

record InOrder (before : Option (List ℕ)) (es : List Entry) : Type 0 where
  behind : Behind before es
  listing : IsListing es

none_behind : (before : Option (List ℕ)) → Behind before []
none_behind None = tt
none_behind (Some path) = tt

one_behind : (before : Option (List ℕ)) (e : Entry) (es : List Entry) → ComesBehind before e.path → Below e.path es → Behind before (e ∷ es)
one_behind None e es h k = tt
one_behind (Some path) e es h k = (h, below_before path e.path es h k)

nothing_listed : IsListing []
unfolding IsStrictlySortedBy
nothing_listed = tt

listing_more : (e : Entry) (es : List Entry) → Below e.path es → IsListing es → IsListing (e ∷ es)
unfolding IsStrictlySortedBy
listing_more e es below rest = (below, rest)

in_order : (lines : List (List ℕ)) (n : ℕ) (before : Option (List ℕ)) (es : List Entry) → LinesSay n before lines (Ok es) → InOrder before es
in_order [] n before es h = subst (InOrder before) (sym h) (record { behind = none_behind before; listing = nothing_listed })
in_order (line ∷ lines) n before es h =
    let rest = in_order lines (n + 1) (Some h.0.path) h.1 h.3 in
    subst (InOrder before) (sym h.4) (record {
      behind = one_behind before h.0 h.1 h.2.order rest.behind;
      listing = listing_more h.0 h.1 rest.behind rest.listing;
    })

-- entries of lines are in order
pub listing_said : (lines : List (List ℕ)) (n : ℕ) (es : List Entry) → LinesSay n None lines (Ok es) → IsListing es
listing_said lines n es h = (in_order lines n None es h).listing

-- The whole text.

pub empty_said : ListingSays [] (Ok [])
empty_said = subst (λ (lines : List (List ℕ)). TextSays lines (Ok [])) (sym no_lines) refl

pub empty_listing : IsListing []
empty_listing = nothing_listed

module _ (bytes : List ℕ) (some : 0 < length bytes) (said : Result (List Entry) ℕ) where
  whole_said : BodySays (path_eq (front line_feed bytes) (played_line (length (text_lines (back line_feed bytes))))) (front line_feed bytes)
      (text_lines (back line_feed bytes)) said → ListingSays bytes said
  whole_said h = subst (λ (lines : List (List ℕ)). TextSays lines said) (sym (lines_more bytes some)) h

  -- a first line that counts the others
  pub counted_said : path_eq (front line_feed bytes) (played_line (length (text_lines (back line_feed bytes)))) ≡ true
      → LinesSay 2 None (text_lines (back line_feed bytes)) said → ListingSays bytes said
  counted_said counts h =
      whole_said (subst (λ (t : Bool). BodySays t (front line_feed bytes) (text_lines (back line_feed bytes)) said) (sym counts) h)

  -- and one that is an entry's
  pub plain_said : path_eq (front line_feed bytes) (played_line (length (text_lines (back line_feed bytes)))) ≡ false → LinesSay 1 None (text_lines bytes) said → ListingSays bytes said
  plain_said counts h =
      whole_said (subst (λ (t : Bool). BodySays t (front line_feed bytes) (text_lines (back line_feed bytes)) said) (sym counts)
      (subst (λ (lines : List (List ℕ)). LinesSay 1 None lines said) (lines_more bytes some) h))

-- what one says of a bad line, the other does
pub names_along : (P Q : Result (List Entry) ℕ → Type 0) (fault : ListingFault) → ((said : Result (List Entry) ℕ) → P said → Q said) → NamesBad P fault → NamesBad Q fault
names_along P Q (BadListing n) to h = to (Err n) h
names_along P Q OutOfMemory to h = tt

-- results whose facts are weaker
pub ok_along : {T E : Type 0} (r : Result T E) (P Q : T → Type 0) → ((x : T) → P x → Q x) → IfOk r P → IfOk r Q
ok_along (Ok x) P Q to h = to x h
ok_along (Err e) P Q to h = tt

pub err_along : {T E : Type 0} (r : Result T E) (P Q : E → Type 0) → ((e : E) → P e → Q e) → IfErr r P → IfErr r Q
err_along (Ok x) P Q to h = tt
err_along (Err e) P Q to h = to e h
