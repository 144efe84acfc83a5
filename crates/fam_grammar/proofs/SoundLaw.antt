-- What a line reads as is within its limits.
use Rattle.std.proofs.Common.{◌≡◌, ℕ, ◌+◌, ◌-◌, ◌<◌, ◌≤◌, Bool, true, false, List, [], ◌∷◌, length, Option, Some, None, Ok, Err, refl, subst, arith}
use Rattle.std.specs.Prelude.{⊤, IsTrue, codes, fold, nat_le, nat_lt, ◌==◌, ◌&&◌, unwrap_or, option_map, option_and_then, if◌then◌else◌}
use Rattle.std.specs.List.{list_all}
use Rattle.std.specs.Str.{bytes_eq}
use Rattle.std.proofs.lemmas.Bool.Decides.{nat_tests}
use Rattle.std.proofs.lemmas.Option.{same_Some}
use Rattle.fam_base.specs.Commands.{mode_limit, read_limit}
use Rattle.fam_format.specs.Params.{first_number, is_format}
use Rattle.fam_journal.specs.declared.event.Event.{Event}
use Rattle.fam_grammar.specs.declared.keywords.CommandWord.{CommandWord}
use Rattle.fam_grammar.specs.declared.keywords.CommandWord.TheVariants as command
use Rattle.fam_grammar.specs.declared.keywords.EventWord.{EventWord}
use Rattle.fam_grammar.specs.declared.keywords.EventWord.TheVariants as word
use Rattle.fam_grammar.specs.declared.options.FileOption.{FileOption}
use Rattle.fam_grammar.specs.declared.options.FileOption.TheVariants as file
use Rattle.fam_grammar.specs.declared.options.FileOptions.{FileOptions}
use Rattle.fam_grammar.specs.declared.options.MkfsOption.{MkfsOption}
use Rattle.fam_grammar.specs.declared.options.MkfsOption.TheVariants as mkfs
use Rattle.fam_grammar.specs.declared.options.MkfsOptions.{MkfsOptions}
use Rattle.fam_grammar.specs.declared.options.Takes.{Takes}
use Rattle.fam_grammar.specs.Lines.{against_line, against_of, ask_behind, ask_line, attr_of, cp_takes, creat_takes, directory_mode, event_behind, event_line, file_mode, mkdir_takes, steps_line}
use Rattle.fam_grammar.specs.Numbers.{below, not_zero, number_of_text, size_of_text}
use Rattle.fam_grammar.specs.Options.{file_option_of, file_options, keyed, mkfs_option_of, mkfs_options, no_file_options, no_mkfs_options, once, where_taken, with_file_option, with_file_word, with_mkfs_option, with_mkfs_word}
use Rattle.fam_grammar.specs.Reading.{Reading, Reads, Misfit, ends_with, fitting_word, then_reads, word_of}
use Rattle.fam_grammar.specs.Scripts.{LineReading, event_or_column, is_comment, line_of_words, line_reads}
use Rattle.fam_grammar.specs.Sound.{IfEvent, IsSoundAsk, IsSoundEvent}
use Rattle.fam_grammar.specs.Spellings.{among_formats, count_of, file_of, format_of, halted_of, id_of, is_octal, mask_of, mode_of, name_of, path_of, steps_of, stripe_of, uuid_of, value_behind, with_octal}
use Rattle.fam_grammar.specs.Words.{Word, without_return, words_from}
use Rattle.fam_grammar.specs.Keywords.{command_word, event_word}

-- of a value that reads
abbrev pub Holds : {A : Type 0} → (A → Type 0) → Reading A → Type 0
Holds P (Reads value rest) = P value
Holds P (Misfit column) = ⊤

pub then_holds : {A B : Type 0} (Q : A → Type 0) (P : B → Type 0) (r : Reading A) (next : A → List Word → Reading B) → Holds Q r
    → ((x : A) (rest : List Word) → Q x → Holds P (next x rest)) → Holds P (then_reads r next)
then_holds Q P (Reads value rest) next holds each = each value rest holds
then_holds Q P (Misfit column) next holds each = tt

abbrev any : {A : Type 0} → A → Type 0
any x = ⊤

any_holds : {A : Type 0} (r : Reading A) → Holds any r
any_holds (Reads value rest) = tt
any_holds (Misfit column) = tt

-- whatever stands before
pub behind : {A B : Type 0} (P : B → Type 0) (r : Reading A) (next : A → List Word → Reading B) → ((x : A) (rest : List Word) → Holds P (next x rest)) → Holds P (then_reads r next)
behind P r next each = then_holds any P r next (any_holds r) (λ x rest q. each x rest)

fitting_holds : {A : Type 0} (Q : A → Type 0) (o : Option A) (column : ℕ) (rest : List Word) → ((x : A) → o ≡ Some x → Q x) → Holds Q (fitting_word o column rest)
fitting_holds Q None column rest each = tt
fitting_holds Q (Some x) column rest each = each x refl

pub word_holds : {A : Type 0} (Q : A → Type 0) (spelling : List ℕ → Option A) (end : ℕ) (words : List Word)
    → ((text : List ℕ) (x : A) → spelling text ≡ Some x → Q x) → Holds Q (word_of spelling end words)
word_holds Q spelling end [] each = tt
word_holds Q spelling end (w ∷ words) each = fitting_holds Q (spelling w.text) w.column words (each w.text)

pub ends_holds : {A : Type 0} (P : A → Type 0) (value : A) (words : List Word) → P value → Holds P (ends_with value words)
ends_holds P value [] is = is
ends_holds P value (w ∷ words) is = tt

-- Numbers.

below_small : (limit : ℕ) (o : Option ℕ) (x : ℕ) → below limit o ≡ Some x → x < limit
below_small limit None x is = absurd cc
below_small limit (Some n) x is = by_test (nat_lt n limit) refl is
  where
    by_test : (t : Bool) → nat_lt n limit ≡ t → (if t then Some n else None) ≡ Some x → x < limit
    by_test true less e = let same : n ≡ x = same_Some n x e in grind (arith, nat_tests, less, same)
    by_test false less e = absurd cc

count_small : (text : List ℕ) (x : ℕ) → count_of text ≡ Some x → x ≤ read_limit
count_small text x is = let small = below_small 4097 (number_of_text text) x is in omega (arith, small)

some_steps : (o : Option ℕ) (x : ℕ) → not_zero o ≡ Some x → 0 < x
some_steps None x is = absurd cc
some_steps (Some n) x is = by_test (n == 0) refl is
  where
    by_test : (t : Bool) → (n == 0) ≡ t → (if t then None else Some n) ≡ Some x → 0 < x
    by_test true zero e = absurd cc
    by_test false zero e = let same : n ≡ x = same_Some n x e in grind (arith, nat_tests, zero, same)

-- an octal digit is at most 7
and_both : (a b : Bool) → (a && b) ≡ true → (a ≡ true) × (b ≡ true)
and_both true true e = (refl, refl)
and_both true false e = absurd cc
and_both false b e = absurd cc

octal_small : (d : ℕ) → is_octal d ≡ true → d - 48 ≤ 7
octal_small d is = let both = and_both (nat_le 48 d) (nat_le d 55) is in let high = both.1 in grind (arith, nat_tests, high)

mode_fits : (text : List ℕ) → length text ≤ 4 → list_all is_octal text ≡ true → fold with_octal 0 text ≤ mode_limit
mode_fits [] short all = omega arith
mode_fits (a ∷ []) short all = let p = and_both (is_octal a) true all in let x = octal_small a p.0 in omega (arith, x)
mode_fits (a ∷ b ∷ []) short all =
    let p = and_both (is_octal a) (is_octal b && true) all in
    let q = and_both (is_octal b) true p.1 in
    let x = octal_small a p.0 in
    let y = octal_small b q.0 in
    omega (arith, x, y)
mode_fits (a ∷ b ∷ c ∷ []) short all =
    let p = and_both (is_octal a) (is_octal b && (is_octal c && true)) all in
    let q = and_both (is_octal b) (is_octal c && true) p.1 in
    let r = and_both (is_octal c) true q.1 in
    let x = octal_small a p.0 in
    let y = octal_small b q.0 in
    let z = octal_small c r.0 in
    omega (arith, x, y, z)
mode_fits (a ∷ b ∷ c ∷ d ∷ []) short all =
    let p = and_both (is_octal a) (is_octal b && (is_octal c && (is_octal d && true))) all in
    let q = and_both (is_octal b) (is_octal c && (is_octal d && true)) p.1 in
    let r = and_both (is_octal c) (is_octal d && true) q.1 in
    let s = and_both (is_octal d) true r.1 in
    let x = octal_small a p.0 in
    let y = octal_small b q.0 in
    let z = octal_small c r.0 in
    let w = octal_small d s.0 in
    omega (arith, x, y, z, w)
mode_fits (a ∷ b ∷ c ∷ d ∷ e ∷ text) short all = absurd (omega (arith, short))

mode_small : (text : List ℕ) (x : ℕ) → mode_of text ≡ Some x → x ≤ mode_limit
unfolding mode_of
mode_small text x is = by_test (nat_le 1 (length text) && nat_le (length text) 4 && list_all is_octal text) refl is
  where
    by_test : (t : Bool) → (nat_le 1 (length text) && nat_le (length text) 4 && list_all is_octal text) ≡ t → (if t then Some (fold with_octal 0 text) else None) ≡ Some x → x ≤ mode_limit
    by_test false fits e = absurd cc
    by_test true fits e =
        let p = and_both (nat_le 1 (length text) && nat_le (length text) 4) (list_all is_octal text) fits in
        let q = and_both (nat_le 1 (length text)) (nat_le (length text) 4) p.0 in
        let short = q.1 in
        let bound : length text ≤ 4 = grind (arith, nat_tests, short) in
        subst (λ (n : ℕ). n ≤ mode_limit) (same_Some (fold with_octal 0 text) x e) (mode_fits text bound p.1)

-- Options.

abbrev IsSmall : Option ℕ → Type 0
IsSmall None = ⊤
IsSmall (Some mode) = mode ≤ mode_limit

abbrev SmallMode : FileOptions → Type 0
SmallMode o = IsSmall o.mode

abbrev IsFitting : FileOption → Type 0
IsFitting (file.Mode mode) = mode ≤ mode_limit
IsFitting (file.Uid uid) = ⊤
IsFitting (file.Gid gid) = ⊤
IsFitting (file.Seed seed) = ⊤
IsFitting (file.Stripe stripe) = ⊤

abbrev IfHas : {A : Type 0} → (A → Type 0) → Option A → Type 0
IfHas P None = ⊤
IfHas P (Some x) = P x

keyed_has : {A : Type 0} (P : A → Type 0) (v : Option (List ℕ)) (spelling : List ℕ → Option A) (other : Option A)
    → ((text : List ℕ) → IfHas P (spelling text)) → IfHas P other → IfHas P (keyed v spelling other)
keyed_has P None spelling other each rest = rest
keyed_has P (Some text) spelling other each rest = each text

mapped_has : {A B : Type 0} (P : B → Type 0) (f : A → B) (o : Option A) → ((x : A) → o ≡ Some x → P (f x)) → IfHas P (option_map f o)
mapped_has P f None each = tt
mapped_has P f (Some x) each = each x refl

option_fits : (text : List ℕ) → IfHas IsFitting (file_option_of text)
unfolding file_option_of
option_fits text =
    keyed_has IsFitting (value_behind (codes "mode=") text) _ _ (λ v. mapped_has IsFitting file.Mode (mode_of v) (λ x is. mode_small v x is))
    (keyed_has IsFitting (value_behind (codes "uid=") text) _ _ (λ v. mapped_has IsFitting file.Uid (id_of v) (λ x is. tt))
    (keyed_has IsFitting (value_behind (codes "gid=") text) _ _ (λ v. mapped_has IsFitting file.Gid (id_of v) (λ x is. tt))
    (keyed_has IsFitting (value_behind (codes "seed=") text) _ _ (λ v. mapped_has IsFitting file.Seed (number_of_text v) (λ x is. tt))
    (keyed_has IsFitting (value_behind (codes "stripe=") text) _ _ (λ v. mapped_has IsFitting file.Stripe (stripe_of v) (λ x is. tt)) none))))
  where
    none : IfHas IsFitting None
    none = tt

once_has : {A B : Type 0} (P : B → Type 0) (o : Option A) (taken : B) → P taken → IfHas P (once o taken)
once_has P None taken is = is
once_has P (Some old) taken is = tt

where_has : {A : Type 0} (P : A → Type 0) (t : Bool) (o : Option A) → IfHas P o → IfHas P (where_taken t o)
where_has P true o is = is
where_has P false o is = tt

with_small : (takes : Takes) (given : FileOptions) (o : FileOption) → SmallMode given → IsFitting o → IfHas SmallMode (with_file_option takes given o)
with_small takes given (file.Mode mode) small fits = once_has SmallMode given.mode _ (is mode fits)
  where
    is : (mode : ℕ) → mode ≤ mode_limit → IsSmall (Some mode)
    is mode fits = fits
with_small takes given (file.Uid uid) small fits = once_has SmallMode given.uid _ small
with_small takes given (file.Gid gid) small fits = once_has SmallMode given.gid _ small
with_small takes given (file.Seed seed) small fits = where_has SmallMode takes.seed _ (once_has SmallMode given.seed _ small)
with_small takes given (file.Stripe stripe) small fits = where_has SmallMode takes.stripe _ (once_has SmallMode given.stripe _ small)

word_small : (takes : Takes) (given : FileOptions) (text : List ℕ) → SmallMode given → IfHas SmallMode (with_file_word takes given text)
word_small takes given text small = by_option (file_option_of text) (option_fits text)
  where
    by_option : (o : Option FileOption) → IfHas IsFitting o → IfHas SmallMode (option_and_then (with_file_option takes given) o)
    by_option None fits = tt
    by_option (Some x) fits = with_small takes given x small fits

options_small : (takes : Takes) (given : FileOptions) (words : List Word) → SmallMode given → Holds SmallMode (file_options takes given words)
options_small takes given [] small = small
options_small takes given (w ∷ words) small = by_word (with_file_word takes given w.text) (λ more small. options_small takes more words small) (word_small takes given w.text small)
  where
    by_word : (o : Option FileOptions) → ((more : FileOptions) → SmallMode more → Holds SmallMode (file_options takes more words)) → IfHas SmallMode o
        → Holds SmallMode (elim o as (λ _. Reading FileOptions) [
          | None ↦ Misfit w.column
          | Some more ↦ file_options takes more words
        ])
    by_word None rest has = tt
    by_word (Some more) rest has = rest more has

none_small : SmallMode no_file_options
none_small = tt

attr_small : (mode : ℕ) (o : FileOptions) → mode ≤ mode_limit → SmallMode o → (attr_of mode o).mode ≤ mode_limit
attr_small mode o fits small = by_mode o.mode small
  where
    by_mode : (m : Option ℕ) → IsSmall m → unwrap_or m mode ≤ mode_limit
    by_mode None small = fits
    by_mode (Some m) small = small

-- Options of a mkfs.

abbrev IsOneFormat : ℕ → Type 0
IsOneFormat n = IsTrue (is_format n)

-- the format, where one is given
abbrev pub HasFormat : MkfsOptions → Type 0
HasFormat o = IfHas IsOneFormat o.format

abbrev IsGood : MkfsOption → Type 0
IsGood (mkfs.Unit unit) = ⊤
IsGood (mkfs.Log log) = ⊤
IsGood (mkfs.Format format) = IsOneFormat format
IsGood mkfs.Force = ⊤
IsGood (mkfs.Halt count) = ⊤

among_is : (o : Option ℕ) (x : ℕ) → among_formats o ≡ Some x → IsOneFormat x
among_is None x is = absurd cc
among_is (Some n) x is = by_test (is_format n) refl is
  where
    by_test : (t : Bool) → is_format n ≡ t → (if t then Some n else None) ≡ Some x → IsOneFormat x
    by_test true good e = subst IsOneFormat (same_Some n x e) good
    by_test false good e = absurd cc

-- a word that reads as a format is the number of one
pub format_is : (text : List ℕ) (n : ℕ) → format_of text ≡ Some n → IsTrue (is_format n)
format_is text n is = among_is (number_of_text text) n is

mkfs_option_good : (text : List ℕ) → IfHas IsGood (mkfs_option_of text)
unfolding mkfs_option_of
mkfs_option_good text =
    keyed_has IsGood (value_behind (codes "unit=") text) _ _ (λ v. mapped_has IsGood mkfs.Unit (size_of_text v) (λ x is. tt))
    (keyed_has IsGood (value_behind (codes "log=") text) _ _ (λ v. mapped_has IsGood mkfs.Log (size_of_text v) (λ x is. tt))
    (keyed_has IsGood (value_behind (codes "format=") text) _ _ (λ v. mapped_has IsGood mkfs.Format (format_of v) (λ x is. format_is v x is))
    (keyed_has IsGood (value_behind (codes "halt=") text) _ _ (λ v. mapped_has IsGood mkfs.Halt (halted_of v) (λ x is. tt)) (forced (bytes_eq text (codes "force"))))))
  where
    forced : (t : Bool) → IfHas IsGood (if t then Some mkfs.Force else None)
    forced true = tt
    forced false = tt

with_format : (given : MkfsOptions) (o : MkfsOption) → HasFormat given → IsGood o → IfHas HasFormat (with_mkfs_option given o)
with_format given (mkfs.Unit unit) has good = once_has HasFormat given.unit _ has
with_format given (mkfs.Log log) has good = once_has HasFormat given.log _ has
with_format given (mkfs.Format format) has good = once_has HasFormat given.format _ good
with_format given (mkfs.Halt count) has good = once_has HasFormat given.halt _ has
with_format given mkfs.Force has good = by_force given.force
  where
    by_force : (t : Bool) → IfHas HasFormat (if t then None else Some (record given { force = true }))
    by_force true = tt
    by_force false = has

word_format : (given : MkfsOptions) (text : List ℕ) → HasFormat given → IfHas HasFormat (with_mkfs_word given text)
word_format given text has = by_option (mkfs_option_of text) (mkfs_option_good text)
  where
    by_option : (o : Option MkfsOption) → IfHas IsGood o → IfHas HasFormat (option_and_then (with_mkfs_option given) o)
    by_option None good = tt
    by_option (Some x) good = with_format given x has good

mkfs_options_format : (given : MkfsOptions) (words : List Word) → HasFormat given → Holds HasFormat (mkfs_options given words)
mkfs_options_format given [] has = has
mkfs_options_format given (w ∷ words) has = by_word (with_mkfs_word given w.text) (λ more has. mkfs_options_format more words has) (word_format given w.text has)
  where
    by_word : (o : Option MkfsOptions) → ((more : MkfsOptions) → HasFormat more → Holds HasFormat (mkfs_options more words)) → IfHas HasFormat o
        → Holds HasFormat (elim o as (λ _. Reading MkfsOptions) [
          | None ↦ Misfit w.column
          | Some more ↦ mkfs_options more words
        ])
    by_word None rest has = tt
    by_word (Some more) rest has = rest more has

-- of the options at a line's end
pub options_format : (words : List Word) → Holds HasFormat (mkfs_options no_mkfs_options words)
options_format words = mkfs_options_format no_mkfs_options words tt

-- the format that is given, or else the first
pub format_sound : (o : MkfsOptions) → HasFormat o → IsTrue (is_format (unwrap_or o.format first_number))
format_sound o has = by_format o.format has
  where
    by_format : (f : Option ℕ) → IfHas IsOneFormat f → IsTrue (is_format (unwrap_or f first_number))
    by_format None has = refl
    by_format (Some n) has = has

-- Asks.

against_sound : (path : List ℕ) (text : List ℕ) → IfHas IsSoundAsk (against_of path text)
against_sound path text =
    keyed_has IsSoundAsk (value_behind (codes "seed=") text) _ _ (λ v. mapped_has IsSoundAsk _ (number_of_text v) (λ x is. tt))
    (keyed_has IsSoundAsk (value_behind (codes "source=") text) _ _ (λ v. mapped_has IsSoundAsk _ (file_of v) (λ x is. tt)) none)
  where
    none : IfHas IsSoundAsk None
    none = tt

of_has : {A : Type 0} (P : A → Type 0) (o : Option A) (x : A) → IfHas P o → o ≡ Some x → P x
of_has P None x has is = absurd cc
of_has P (Some y) x has is = subst P (same_Some y x is) has

verify_sound : (end : ℕ) (path : List ℕ) (words : List Word) → Holds IsSoundAsk (against_line end path words)
verify_sound end path [] = tt
verify_sound end path (w ∷ words) =
    then_holds IsSoundAsk IsSoundAsk (word_of (against_of path) end (w ∷ words)) ends_with
    (word_holds IsSoundAsk (against_of path) end (w ∷ words) (λ text x is. of_has IsSoundAsk (against_of path text) x (against_sound path text) is))
    (λ x rest sound. ends_holds IsSoundAsk x rest sound)

behind_sound : (end : ℕ) (name : CommandWord) (words : List Word) → Holds IsSoundAsk (ask_behind end name words)
behind_sound end command.Logplay words = ends_holds IsSoundAsk _ words tt
behind_sound end command.Mount words = ends_holds IsSoundAsk _ words tt
behind_sound end command.Fsck words = ends_holds IsSoundAsk _ words tt
behind_sound end command.Mkdir words =
    behind IsSoundAsk (word_of path_of end words) _ (λ path rest.
    then_holds SmallMode IsSoundAsk (file_options mkdir_takes no_file_options rest) _ (options_small mkdir_takes no_file_options rest none_small)
    (λ o none small. attr_small directory_mode o (omega arith) small))
behind_sound end command.Creat words =
    behind IsSoundAsk (word_of path_of end words) _ (λ path rest.
    behind IsSoundAsk (word_of size_of_text end rest) _ (λ size rest.
    then_holds SmallMode IsSoundAsk (file_options creat_takes no_file_options rest) _ (options_small creat_takes no_file_options rest none_small)
    (λ o none small. attr_small file_mode o (omega arith) small)))
behind_sound end command.Cp words =
    behind IsSoundAsk (word_of file_of end words) _ (λ source rest.
    behind IsSoundAsk (word_of path_of end rest) _ (λ path rest.
    then_holds SmallMode IsSoundAsk (file_options cp_takes no_file_options rest) _ (options_small cp_takes no_file_options rest none_small)
    (λ o none small. attr_small file_mode o (omega arith) small)))
behind_sound end command.Verify words = behind IsSoundAsk (word_of path_of end words) _ (λ path rest. verify_sound end path rest)
behind_sound end command.Read words =
    behind IsSoundAsk (word_of path_of end words) _ (λ path rest.
    behind IsSoundAsk (word_of number_of_text end rest) _ (λ offset rest.
    then_holds (λ (count : ℕ). count ≤ read_limit) IsSoundAsk (word_of count_of end rest) _
    (word_holds (λ (count : ℕ). count ≤ read_limit) count_of end rest count_small) (λ count rest small. ends_holds IsSoundAsk _ rest small)))
behind_sound end command.Check words = behind IsSoundAsk (word_of file_of end words) _ (λ source rest. ends_holds IsSoundAsk _ rest tt)

ask_sound : (end : ℕ) (words : List Word) → Holds IsSoundAsk (ask_line end words)
unfolding ask_line
ask_sound end words = behind IsSoundAsk (word_of command_word end words) _ (λ name rest. behind_sound end name rest)

-- Events.

steps_sound : (end : ℕ) (name : List ℕ) (words : List Word) → Holds IsSoundEvent (steps_line end name words)
steps_sound end name [] = omega arith
steps_sound end name (w ∷ words) =
    then_holds (λ (count : ℕ). 0 < count) IsSoundEvent (word_of steps_of end (w ∷ words)) _
    (word_holds (λ (count : ℕ). 0 < count) steps_of end (w ∷ words) (λ text x is. some_steps (below 1000000001 (number_of_text text)) x is))
    (λ count rest some. ends_holds IsSoundEvent _ rest some)

event_sound_behind : (end : ℕ) (name : EventWord) (words : List Word) → Holds IsSoundEvent (event_behind end name words)
event_sound_behind end word.Host words =
    behind IsSoundEvent (word_of name_of end words) _ (λ name rest. behind IsSoundEvent (word_of uuid_of end rest) _ (λ uuid rest. ends_holds IsSoundEvent _ rest tt))
event_sound_behind end word.Mkfs words =
    behind IsSoundEvent (word_of name_of end words) _ (λ name rest.
    behind IsSoundEvent (word_of uuid_of end rest) _ (λ fs rest.
    then_holds HasFormat IsSoundEvent (mkfs_options no_mkfs_options rest) _ (options_format rest) (λ o none has. format_sound o has)))
event_sound_behind end word.Begin words =
    behind IsSoundEvent (word_of name_of end words) _ (λ name rest.
    then_holds IsSoundAsk IsSoundEvent (ask_line end rest) _ (ask_sound end rest) (λ asked none sound. sound))
event_sound_behind end word.Run words =
    behind IsSoundEvent (word_of name_of end words) _ (λ name rest.
    then_holds IsSoundAsk IsSoundEvent (ask_line end rest) _ (ask_sound end rest) (λ asked none sound. sound))
event_sound_behind end word.Step words = behind IsSoundEvent (word_of name_of end words) _ (λ name rest. steps_sound end name rest)
event_sound_behind end word.Evict words =
    behind IsSoundEvent (word_of name_of end words) _ (λ name rest. behind IsSoundEvent (word_of number_of_text end rest) _ (λ at rest. ends_holds IsSoundEvent _ rest tt))
event_sound_behind end word.Leak words =
    behind IsSoundEvent (word_of name_of end words) _ (λ name rest.
    behind IsSoundEvent (word_of number_of_text end rest) _ (λ at rest. behind IsSoundEvent (word_of mask_of end rest) _ (λ mask rest. ends_holds IsSoundEvent _ rest tt)))
event_sound_behind end word.Fetch words =
    behind IsSoundEvent (word_of name_of end words) _ (λ name rest.
    behind IsSoundEvent (word_of number_of_text end rest) _ (λ at rest. behind IsSoundEvent (word_of mask_of end rest) _ (λ mask rest. ends_holds IsSoundEvent _ rest tt)))
event_sound_behind end other words = behind IsSoundEvent (word_of name_of end words) _ (λ name rest. ends_holds IsSoundEvent _ rest tt)

event_sound : (end : ℕ) (words : List Word) → Holds IsSoundEvent (event_line end words)
unfolding event_line
event_sound end words = behind IsSoundEvent (word_of event_word end words) _ (λ name rest. event_sound_behind end name rest)

-- Lines.

abbrev IfLine : LineReading Event → Type 0
IfLine (Ok o) = IfEvent o
IfLine (Err column) = ⊤

reading_sound : (r : Reading Event) → Holds IsSoundEvent r → IfLine (event_or_column r)
reading_sound (Reads e rest) is = is
reading_sound (Misfit column) is = tt

words_sound : (end : ℕ) (words : List Word) → IfLine (line_of_words event_line end words)
words_sound end [] = tt
words_sound end (w ∷ words) = by_test (is_comment w)
  where
    by_test : (t : Bool) → IfLine (if t then Ok None else event_or_column (event_line end (w ∷ words)))
    by_test true = tt
    by_test false = reading_sound (event_line end (w ∷ words)) (event_sound end (w ∷ words))

of_line : (r : LineReading Event) (o : Option Event) → IfLine r → r ≡ Ok o → IfEvent o
of_line (Ok p) o is e = let same : p ≡ o = cc in subst IfEvent same is
of_line (Err column) o is e = absurd cc

pub line_sound : (line : List ℕ) (event : Option Event) → line_reads line ≡ Ok event → IfEvent event
unfolding line_reads
line_sound line event is = of_line (line_of_words event_line (length (without_return line) + 1) (words_from 1 (without_return line))) event
    (words_sound (length (without_return line) + 1) (words_from 1 (without_return line))) is
