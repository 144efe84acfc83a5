-- Names in print: one more byte, and why the bytes can be read back.
use Rattle.std.proofs.Common.{◌≡◌, ℕ, ◌+◌, ◌/◌, ◌%◌, ◌<◌, ◌≤◌, Bool, true, false, ◌&&◌, cond, List, [], ◌∷◌, ◌++◌, length, get_or, take, inl, inr, zero, suc, refl, subst, sym, ap, ◌∙◌, arith, append-nil}
use Rattle.std.specs.List.{All, flat_map, list_all}
use Rattle.std.proofs.lemmas.Bool.{cases_Bool}
use Rattle.std.proofs.lemmas.Bool.Decides.{nat_tests}
use Rattle.std.proofs.lemmas.List.{take_more}
use Rattle.std.proofs.lemmas.List.Concat.{flat_map-append}
use Rattle.std.proofs.lemmas.List.Elements.{All-append, All-nil}
use Rattle.fam_base.specs.Escapes.{is_plain, hex_digit, escaped_byte, escaped, AreBytes, IsVisible}

-- no bytes
pub escaped-nil : escaped [] ≡ []
unfolding escaped
escaped-nil = refl

-- two names behind each other
pub escaped-append : (a b : List ℕ) → escaped (a ++ b) ≡ escaped a ++ escaped b
unfolding escaped
escaped-append a b = flat_map-append escaped_byte a b

-- one byte
pub escaped-one : (byte : ℕ) → escaped (byte ∷ []) ≡ escaped_byte byte
unfolding escaped
escaped-one byte = append-nil (escaped_byte byte)

-- one more byte of a list
pub escaped_more : (bytes : List ℕ) (i : ℕ) → i < length bytes → escaped (take (i + 1) bytes) ≡ escaped (take i bytes) ++ escaped_byte (get_or bytes i 0)
escaped_more bytes i within =
    ap escaped (take_more bytes i 0 within)
    ∙ escaped-append (take i bytes) (get_or bytes i 0 ∷ [])
    ∙ ap (λ (l : List ℕ). escaped (take i bytes) ++ l) (escaped-one (get_or bytes i 0))

-- ---- reading back

-- a digit of sixteen has one value
same_digit : (m n : ℕ) → m < 16 → n < 16 → hex_digit m ≡ hex_digit n → m ≡ n
same_digit m n below_m below_n same = grind (arith, nat_tests)

-- a byte is known by its two digits
same_halves : (a b : ℕ) → a / 16 ≡ b / 16 → a % 16 ≡ b % 16 → a ≡ b
same_halves a b high low = omega arith

high_digit : (byte : ℕ) → byte < 256 → byte / 16 < 16
high_digit byte below = omega arith

low_digit : (byte : ℕ) → byte % 16 < 16
low_digit byte = omega arith

-- a byte that stands for itself is no backslash
no_backslash : (byte : ℕ) → is_plain byte ≡ true → byte ≡ 0x5c → ⊥
no_backslash byte plain same = grind (arith, nat_tests)

module _ (byte : ℕ) where
  plain_form : is_plain byte ≡ true → escaped_byte byte ≡ byte ∷ []
  plain_form plain = ap (λ (p : Bool). cond p (byte ∷ []) (0x5c ∷ 0x78 ∷ hex_digit (byte / 16) ∷ hex_digit (byte % 16) ∷ [])) plain

  coded_form : is_plain byte ≡ false → escaped_byte byte ≡ 0x5c ∷ 0x78 ∷ hex_digit (byte / 16) ∷ hex_digit (byte % 16) ∷ []
  coded_form plain = ap (λ (p : Bool). cond p (byte ∷ []) (0x5c ∷ 0x78 ∷ hex_digit (byte / 16) ∷ hex_digit (byte % 16) ∷ [])) plain

  plain_prefix : (rest : List ℕ) → is_plain byte ≡ true → escaped_byte byte ++ rest ≡ byte ∷ rest
  plain_prefix rest plain = ap (λ (l : List ℕ). l ++ rest) (plain_form plain)

  coded_prefix : (rest : List ℕ) → is_plain byte ≡ false → escaped_byte byte ++ rest ≡ 0x5c ∷ 0x78 ∷ hex_digit (byte / 16) ∷ hex_digit (byte % 16) ∷ rest
  coded_prefix rest plain = ap (λ (l : List ℕ). l ++ rest) (coded_form plain)

-- what follows from one printed form of two names
pub record SamePrefix (a b : ℕ) (x y : List ℕ) : Type 0 where
  pub byte : a ≡ b
  pub rest : x ≡ y

-- a byte and what follows it are read back
same_prefix : (a b : ℕ) (x y : List ℕ) → a < 256 → b < 256 → escaped_byte a ++ x ≡ escaped_byte b ++ y → SamePrefix a b x y
same_prefix a b x y below_a below_b same =
    elim (cases_Bool (is_plain a)) [
      | inl plain_a ↦ elim (cases_Bool (is_plain b)) [
        | inl plain_b ↦ (let e = sym (plain_prefix a x plain_a) ∙ same ∙ plain_prefix b y plain_b in record { byte = cc; rest = cc })
        | inr coded_b ↦ (let e = sym (plain_prefix a x plain_a) ∙ same ∙ coded_prefix b y coded_b in absurd (no_backslash a plain_a (cc)))
      ]
      | inr coded_a ↦ elim (cases_Bool (is_plain b)) [
        | inl plain_b ↦ (let e = sym (coded_prefix a x coded_a) ∙ same ∙ plain_prefix b y plain_b in absurd (no_backslash b plain_b (cc)))
        | inr coded_b ↦ (
            let e = sym (coded_prefix a x coded_a) ∙ same ∙ coded_prefix b y coded_b in
            let high : a / 16 ≡ b / 16 = same_digit _ _ (high_digit a below_a) (high_digit b below_b) (cc) in
            let low : a % 16 ≡ b % 16 = same_digit _ _ (low_digit a) (low_digit b) (cc) in
            record { byte = same_halves a b high low; rest = cc })
      ]
    ]

-- something is printed for each byte
some_prefix : (byte : ℕ) (rest : List ℕ) → 0 < length (escaped_byte byte ++ rest)
some_prefix byte rest =
    elim (cases_Bool (is_plain byte)) [
      | inl plain ↦ rw (plain_prefix byte rest plain) (omega arith)
      | inr code ↦ rw (coded_prefix byte rest code) (omega arith)
    ]

-- no two names have one printed form
pub escaped_once : (a b : List ℕ) → AreBytes a → AreBytes b → escaped a ≡ escaped b → a ≡ b
unfolding escaped
escaped_once [] [] below_a below_b same = refl
escaped_once [] (y ∷ b) below_a below_b same = absurd (omega (arith, some_prefix y (flat_map escaped_byte b), ap length same))
escaped_once (x ∷ a) [] below_a below_b same = absurd (omega (arith, some_prefix x (flat_map escaped_byte a), ap length same))
escaped_once (x ∷ a) (y ∷ b) below_a below_b same =
    let prefix = same_prefix x y (flat_map escaped_byte a) (flat_map escaped_byte b) (below_a 0 0 (omega arith)) (below_b 0 0 (omega arith)) same in
    let rest : a ≡ b = escaped_once a b (λ k d h. below_a (suc k) d (omega arith)) (λ k d h. below_b (suc k) d (omega arith)) prefix.rest in
    cc (prefix.byte, rest)

-- ---- what is printed can be seen

all_one : (P : ℕ → Type 0) (x : ℕ) → P x → All P (x ∷ [])
all_one P x here zero d within = here
all_one P x here (suc k) d within = absurd (omega arith)

all_cons : (P : ℕ → Type 0) (x : ℕ) (xs : List ℕ) → P x → All P xs → All P (x ∷ xs)
all_cons P x xs here rest zero d within = here
all_cons P x xs here rest (suc k) d within = rest k d (omega arith)

all_four : (P : ℕ → Type 0) (w x y z : ℕ) → P w → P x → P y → P z → All P (w ∷ x ∷ y ∷ z ∷ [])
all_four P w x y z a b c e =
    all_cons P w (x ∷ y ∷ z ∷ []) a (all_cons P x (y ∷ z ∷ []) b (all_cons P y (z ∷ []) c (all_one P z e)))

visible_digit : (n : ℕ) → n < 16 → (0x21 ≤ hex_digit n) × (hex_digit n ≤ 0x7e)
visible_digit n below = (grind (arith, nat_tests), grind (arith, nat_tests))

visible_plain : (byte : ℕ) → is_plain byte ≡ true → (0x21 ≤ byte) × (byte ≤ 0x7e)
visible_plain byte plain = (grind (arith, nat_tests), grind (arith, nat_tests))

-- the printed form of one byte
visible_byte : (byte : ℕ) → byte < 256 → All IsVisible (escaped_byte byte)
visible_byte byte below =
    elim (cases_Bool (is_plain byte)) [
      | inl plain ↦ subst (All IsVisible) (sym (plain_form byte plain)) (all_one IsVisible byte (visible_plain byte plain))
      | inr code ↦ subst (All IsVisible) (sym (coded_form byte code))
          (all_four IsVisible 0x5c 0x78 (hex_digit (byte / 16)) (hex_digit (byte % 16)) (omega arith, omega arith) (omega arith, omega arith)
          (visible_digit (byte / 16) (high_digit byte below)) (visible_digit (byte % 16) (low_digit byte)))
    ]

pub escaped_visible : (bytes : List ℕ) → AreBytes bytes → All IsVisible (escaped bytes)
unfolding escaped
escaped_visible [] below = All-nil _
escaped_visible (byte ∷ bytes) below =
    All-append IsVisible (escaped_byte byte) (flat_map escaped_byte bytes)
    (visible_byte byte (below 0 0 (omega arith)))
    (escaped_visible bytes (λ k d h. below (suc k) d (omega arith)))

-- two tests that both pass
both_pass : (a b : Bool) → (a && b) ≡ true → (a ≡ true) × (b ≡ true)
both_pass true b h = (refl, h)
both_pass false b h = absurd (cc (h))

-- plain bytes are printed as they are
pub escaped_plain : (bytes : List ℕ) → list_all is_plain bytes ≡ true → escaped bytes ≡ bytes
escaped_plain [] plain = escaped-nil
escaped_plain (byte ∷ bytes) plain =
    let each = both_pass (is_plain byte) (list_all is_plain bytes) plain in
    escaped-append (byte ∷ []) bytes
    ∙ ap (λ (l : List ℕ). l ++ escaped bytes) (escaped-one byte ∙ plain_form byte each.0)
    ∙ ap (λ (l : List ℕ). byte ∷ l) (escaped_plain bytes each.1)
