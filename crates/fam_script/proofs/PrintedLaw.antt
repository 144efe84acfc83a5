-- What is printed of a command reads as that command.
use Rattle.std.proofs.Common.{◌≡◌, ℕ, ◌+◌, ◌^◌, ◌<◌, ◌≤◌, true, List, [], ◌∷◌, ◌++◌, Option, Some, None, length, codes, refl, sym, ap, ◌∙◌, arith, append-nil, decimal}
use Rattle.std.specs.List.{join_with_byte}
use Rattle.std.proofs.lemmas.List.{append_assoc}
use Rattle.fam_base.specs.declared.cmd.Attr.{Attr}
use Rattle.fam_base.specs.declared.cmd.Cmd.{Cmd}
use Rattle.fam_base.specs.declared.cmd.Cmd.TheVariants as cmd
use Rattle.fam_base.specs.declared.cmd.Content.{Content}
use Rattle.fam_base.specs.declared.cmd.Content.TheVariants as content
use Rattle.fam_base.specs.declared.cmd.Stripe.{Stripe}
use Rattle.fam_base.specs.Escapes.{escaped}
use Rattle.fam_base.specs.Paths.{is_path}
use Rattle.fam_tree.specs.Lines.{mode_text}
use Rattle.fam_journal.specs.declared.event.Ask.TheVariants as ask
use Rattle.fam_outcomes.specs.Texts.{attr_text, cmd_text, number, name_text, seed_text, stripe_text}
use Rattle.fam_grammar.specs.Keywords.{command_word}
use Rattle.fam_grammar.specs.Lines.{ask_line, fill_of, mkdir_takes, creat_takes}
use Rattle.fam_grammar.specs.Options.{GivenOptions, TakenOptions, file_option_of, file_options, no_file_options, with_file_word}
use Rattle.fam_script.specs.Spelled.{HasSpelling, IsSpelledAttr, IsSpelledContent, IsSpelledStripe}
use Rattle.fam_grammar.specs.Reading.{Reading, Reads, Misfit}
use Rattle.fam_grammar.specs.Spellings.{id_of}
use Rattle.fam_grammar.specs.Words.{Word, words_from}
use Rattle.fam_grammar.proofs.Joined.{AreWords, HasNoBlank, IsOneWord, joined_words, placed}
use Rattle.fam_grammar.proofs.StripeWords.{size-decimal, stripe_back, stripe_no_blank, stripe_value}
use Rattle.fam_grammar.proofs.Respelled.{below-some, decimal_no_blank, decimal_word, mode-mode_text, mode_no_blank, number-decimal, path-escaped, path_word}

-- each text behind a space
abbrev spaced : List (List ℕ) → List ℕ
spaced [] = []
spaced (text ∷ texts) = 32 ∷ (text ++ spaced texts)

joined-spaced : (text : List ℕ) (texts : List (List ℕ)) → text ++ spaced texts ≡ join_with_byte 32 (text ∷ texts)
joined-spaced text [] = append-nil text
joined-spaced text (next ∷ texts) = ap (λ (l : List ℕ). text ++ 32 ∷ l) (joined-spaced next texts)

-- a text that stands for these words is read as them
read_as : (text first : List ℕ) (rest : List (List ℕ)) (column : ℕ) → text ≡ first ++ spaced rest → AreWords (first ∷ rest) → words_from column text ≡ placed column (first ∷ rest)
read_as text first rest column is are = ap (words_from column) (is ∙ joined-spaced first rest) ∙ joined_words column (first ∷ rest) are

-- Mode, user and group.

abbrev mode_word : Attr → List ℕ
mode_word attr = codes "mode=" ++ mode_text attr.mode

abbrev uid_word : Attr → List ℕ
uid_word attr = codes "uid=" ++ decimal attr.uid

abbrev gid_word : Attr → List ℕ
gid_word attr = codes "gid=" ++ decimal attr.gid

right : (m a u b g : List ℕ) → m ++ a ++ u ++ b ++ g ≡ m ++ (a ++ (u ++ (b ++ g)))
right m a u b g = simp append_assoc refl

attr_words : (attr : Attr) → attr_text attr ≡ spaced (mode_word attr ∷ uid_word attr ∷ gid_word attr ∷ [])
attr_words attr =
    ap (λ (l : List ℕ). codes " mode=" ++ l) (right (mode_text attr.mode) (codes " uid=") (decimal attr.uid) (codes " gid=") (decimal attr.gid)
    ∙ ap (λ (l : List ℕ). mode_text attr.mode ++ (codes " uid=" ++ (decimal attr.uid ++ (codes " gid=" ++ l)))) (sym (append-nil (decimal attr.gid))))

id_no_blank : (n : ℕ) → n < 2 ^ 32 → HasNoBlank (decimal n)
id_no_blank n small = decimal_no_blank n (omega (arith, small))

mode_is_word : (attr : Attr) → IsOneWord (mode_word attr)
mode_is_word attr = (refl, (refl, (refl, (refl, (refl, mode_no_blank attr.mode)))))

uid_is_word : (attr : Attr) → IsSpelledAttr attr → IsOneWord (uid_word attr)
uid_is_word attr is = (refl, (refl, (refl, (refl, id_no_blank attr.uid is.uid))))

gid_is_word : (attr : Attr) → IsSpelledAttr attr → IsOneWord (gid_word attr)
gid_is_word attr is = (refl, (refl, (refl, (refl, id_no_blank attr.gid is.gid))))

-- Options, one by one.

option_step : (takes : TakenOptions) (given more : GivenOptions) (column : ℕ) (text : List ℕ) (rest : List Word) → with_file_word takes given text ≡ Some more
    → file_options takes given (record { column = column; text = text } ∷ rest) ≡ file_options takes more rest
option_step takes given more column text rest is =
    ap (λ (o : Option GivenOptions). elim o as (λ _. Reading GivenOptions) [ None ↦ Misfit column | Some next ↦ file_options takes next rest ]) is

module _ (takes : TakenOptions) (attr : Attr) (is : IsSpelledAttr attr) where
  abbrev with_mode : GivenOptions
  with_mode = record no_file_options { mode = Some attr.mode }

  abbrev with_uid : GivenOptions
  with_uid = record with_mode { uid = Some attr.uid }

  abbrev with_attr : GivenOptions
  with_attr = record with_uid { gid = Some attr.gid }

  mode_taken : with_file_word takes no_file_options (mode_word attr) ≡ Some with_mode
  unfolding file_option_of
  mode_taken = rw (mode-mode_text attr.mode is.mode) refl

  id_read : (n : ℕ) → n < 2 ^ 32 → id_of (decimal n) ≡ Some n
  id_read n small = rw (number-decimal n (omega (arith, small))) (below-some (2 ^ 32) n small)

  uid_taken : with_file_word takes with_mode (uid_word attr) ≡ Some with_uid
  unfolding file_option_of
  uid_taken = rw (id_read attr.uid is.uid) refl

  gid_taken : with_file_word takes with_uid (gid_word attr) ≡ Some with_attr
  unfolding file_option_of
  gid_taken = rw (id_read attr.gid is.gid) refl

  attr_read : (column : ℕ) (more : List (List ℕ)) → file_options takes no_file_options (placed column (mode_word attr ∷ uid_word attr ∷ gid_word attr ∷ more))
      ≡ file_options takes with_attr (placed (column + length (mode_word attr) + 1 + length (uid_word attr) + 1 + length (gid_word attr) + 1) more)
  attr_read column more =
      let second : ℕ = column + length (mode_word attr) + 1 in
      let third : ℕ = second + length (uid_word attr) + 1 in
      option_step takes no_file_options with_mode column (mode_word attr) (placed second (uid_word attr ∷ gid_word attr ∷ more)) mode_taken
      ∙ option_step takes with_mode with_uid second (uid_word attr) (placed third (gid_word attr ∷ more)) uid_taken
      ∙ option_step takes with_uid with_attr third (gid_word attr) (placed (third + length (gid_word attr) + 1) more) gid_taken

-- mkdir

module _ (path : List ℕ) (attr : Attr) (is : is_path path ≡ true) (spelled : IsSpelledAttr attr) (column end : ℕ) where
  mkdir_words : words_from column (cmd_text (cmd.Mkdir path attr)) ≡ placed column (codes "mkdir" ∷ escaped path ∷ mode_word attr ∷ uid_word attr ∷ gid_word attr ∷ [])
  mkdir_words =
      read_as _ (codes "mkdir") (escaped path ∷ mode_word attr ∷ uid_word attr ∷ gid_word attr ∷ []) column
      (ap (λ (l : List ℕ). codes "mkdir" ++ name_text path ++ l) (attr_words attr))
      ((refl, (refl, (refl, (refl, (refl, tt))))), (path_word path is, (mode_is_word attr, (uid_is_word attr spelled, (gid_is_word attr spelled, tt)))))

  mkdir_read : ask_line end (placed column (codes "mkdir" ∷ escaped path ∷ mode_word attr ∷ uid_word attr ∷ gid_word attr ∷ [])) ≡ Reads (ask.Plain (cmd.Mkdir path attr)) []
  unfolding ask_line command_word
  mkdir_read = rw (path-escaped path is, attr_read mkdir_takes attr spelled (column + 5 + 1 + length (escaped path) + 1) []) refl

-- read

module _ (path : List ℕ) (offset count : ℕ) (is : is_path path ≡ true) (word : offset < 2 ^ 64) (few : count ≤ 4096) (column end : ℕ) where
  count_word : count < 2 ^ 64
  count_word = omega (arith, few)

  read_words : words_from column (cmd_text (cmd.Read path offset count)) ≡ placed column (codes "read" ∷ escaped path ∷ decimal offset ∷ decimal count ∷ [])
  read_words =
      read_as _ (codes "read") (escaped path ∷ decimal offset ∷ decimal count ∷ []) column
      (read_right (escaped path) (number offset) (decimal count))
      ((refl, (refl, (refl, (refl, tt)))), (path_word path is, (decimal_word offset word, (decimal_word count count_word, tt))))
    where
      read_right : (e n c : List ℕ) → codes "read" ++ (32 ∷ e) ++ n ++ (32 ∷ c) ≡ codes "read" ++ (32 ∷ (e ++ (n ++ (32 ∷ (c ++ [])))))
      read_right e n c = ap (λ (l : List ℕ). codes "read " ++ l) (append_assoc e n (32 ∷ c) ∙ ap (λ (l : List ℕ). e ++ (n ++ 32 ∷ l)) (sym (append-nil c)))

  read_read : ask_line end (placed column (codes "read" ∷ escaped path ∷ decimal offset ∷ decimal count ∷ [])) ≡ Reads (ask.Plain (cmd.Read path offset count)) []
  unfolding ask_line command_word
  read_read = rw (path-escaped path is, number-decimal offset word, number-decimal count count_word, below-some 4097 count (omega (arith, few))) refl

-- verify

abbrev seed_word : ℕ → List ℕ
seed_word seed = codes "seed=" ++ decimal seed

seed_is_word : (seed : ℕ) → seed < 2 ^ 64 → IsOneWord (seed_word seed)
seed_is_word seed small = (refl, (refl, (refl, (refl, (refl, decimal_no_blank seed small)))))

verify_words : (path : List ℕ) → is_path path ≡ true → (column : ℕ) → words_from column (cmd_text (cmd.Verify path content.Zero)) ≡ placed column (codes "verify" ∷ escaped path ∷ [])
verify_words path is column =
    read_as _ (codes "verify") (escaped path ∷ []) column refl ((refl, (refl, (refl, (refl, (refl, (refl, tt)))))), (path_word path is, tt))

verify_read : (path : List ℕ) → is_path path ≡ true → (column end : ℕ) → ask_line end (placed column (codes "verify" ∷ escaped path ∷ [])) ≡ Reads (ask.Plain (cmd.Verify path content.Zero)) []
unfolding ask_line command_word
verify_read path is column end = rw (path-escaped path is) refl

seeded_words : (path : List ℕ) (seed : ℕ) → is_path path ≡ true → seed < 2 ^ 64 → (column : ℕ)
    → words_from column (cmd_text (cmd.Verify path (content.Seed seed))) ≡ placed column (codes "verify" ∷ escaped path ∷ seed_word seed ∷ [])
seeded_words path seed is small column =
    read_as _ (codes "verify") (escaped path ∷ seed_word seed ∷ []) column
    (ap (λ (l : List ℕ). codes "verify " ++ (escaped path ++ (codes " seed=" ++ l))) (sym (append-nil (decimal seed))))
    ((refl, (refl, (refl, (refl, (refl, (refl, tt)))))), (path_word path is, (seed_is_word seed small, tt)))

seeded_read : (path : List ℕ) (seed : ℕ) → is_path path ≡ true → seed < 2 ^ 64 → (column end : ℕ)
    → ask_line end (placed column (codes "verify" ∷ escaped path ∷ seed_word seed ∷ [])) ≡ Reads (ask.Plain (cmd.Verify path (content.Seed seed))) []
unfolding ask_line command_word
seeded_read path seed is small column end = rw (path-escaped path is, number-decimal seed small) refl

-- creat

abbrev seed_words : Content → List (List ℕ)
seed_words content.Zero = []
seed_words (content.Seed seed) = seed_word seed ∷ []
seed_words (content.Bytes bytes) = []

abbrev stripe_words : Option Stripe → List (List ℕ)
stripe_words None = []
stripe_words (Some s) = (codes "stripe=" ++ decimal s.nstrips ++ codes "," ++ decimal s.nbuckets ++ codes "," ++ decimal s.chunk) ∷ []

spaced-append : (a b : List (List ℕ)) → spaced (a ++ b) ≡ spaced a ++ spaced b
spaced-append [] b = refl
spaced-append (text ∷ a) b = ap (λ (l : List ℕ). 32 ∷ (text ++ l)) (spaced-append a b) ∙ ap (λ (l : List ℕ). 32 ∷ l) (sym (append_assoc text (spaced a) (spaced b)))

seed_text_is : (fill : Content) → seed_text fill ≡ spaced (seed_words fill)
seed_text_is content.Zero = refl
seed_text_is (content.Seed seed) = ap (λ (l : List ℕ). codes " seed=" ++ l) (sym (append-nil (decimal seed)))
seed_text_is (content.Bytes bytes) = refl

stripe_text_is : (stripe : Option Stripe) → stripe_text stripe ≡ spaced (stripe_words stripe)
stripe_text_is None = refl
stripe_text_is (Some s) = sym (append-nil _)

are-append : (a b : List (List ℕ)) → AreWords a → AreWords b → AreWords (a ++ b)
are-append [] b are more = more
are-append (text ∷ a) b are more = (are.0, are-append a b are.1 more)

seeds_are : (fill : Content) → IsSpelledContent fill → AreWords (seed_words fill)
seeds_are content.Zero is = tt
seeds_are (content.Seed seed) is = (seed_is_word seed is, tt)
seeds_are (content.Bytes bytes) is = tt

stripes_are : (stripe : Option Stripe) → IsSpelledStripe stripe → AreWords (stripe_words stripe)
stripes_are None is = tt
stripes_are (Some s) is = ((refl, (refl, (refl, (refl, (refl, (refl, (refl, stripe_no_blank s is.0 is.1 is.2))))))), tt)

abbrev seed_of : Content → Option ℕ
seed_of content.Zero = None
seed_of (content.Seed seed) = Some seed
seed_of (content.Bytes bytes) = None

module _ (attr : Attr) (spelled : IsSpelledAttr attr) where
  abbrev attr_given : GivenOptions
  attr_given = record { mode = Some attr.mode; uid = Some attr.uid; gid = Some attr.gid; seed = None; stripe = None }

  seed_taken : (seed : ℕ) → seed < 2 ^ 64 → with_file_word creat_takes attr_given (seed_word seed) ≡ Some (record attr_given { seed = Some seed })
  unfolding file_option_of
  seed_taken seed small = rw (number-decimal seed small) refl

  seed_read : (fill : Content) → IsSpelledContent fill → (more : List (List ℕ)) (R : Reading GivenOptions)
      → ((column : ℕ) → file_options creat_takes (record attr_given { seed = seed_of fill }) (placed column more) ≡ R)
      → (column : ℕ) → file_options creat_takes attr_given (placed column (seed_words fill ++ more)) ≡ R
  seed_read content.Zero is more R next column = next column
  seed_read (content.Bytes bytes) is more R next column = next column
  seed_read (content.Seed seed) is more R next column =
      let behind : ℕ = column + length (seed_word seed) + 1 in
      option_step creat_takes attr_given (record attr_given { seed = Some seed }) column (seed_word seed) (placed behind more) (seed_taken seed is) ∙ next behind

  stripe_taken : (given : Option ℕ) (s : Stripe) → IsSpelledStripe (Some s)
      → with_file_word creat_takes (record attr_given { seed = given }) (codes "stripe=" ++ stripe_value s) ≡ Some (record attr_given { seed = given; stripe = Some s })
  unfolding file_option_of
  stripe_taken given s is = rw (stripe_back s is.0 is.1 is.2) refl

  stripe_read : (given : Option ℕ) (stripe : Option Stripe) → IsSpelledStripe stripe → (column : ℕ)
      → file_options creat_takes (record attr_given { seed = given }) (placed column (stripe_words stripe)) ≡ Reads (record attr_given { seed = given; stripe = stripe }) []
  stripe_read given None is column = refl
  stripe_read given (Some s) is column =
      option_step creat_takes (record attr_given { seed = given }) (record attr_given { seed = given; stripe = Some s }) column (codes "stripe=" ++ stripe_value s) [] (stripe_taken given s is)

module _ (path : List ℕ) (size : ℕ) (attr : Attr) (stripe : Option Stripe) (fill : Content) (is : is_path path ≡ true) (small : size < 2 ^ 64)
    (spelled : IsSpelledAttr attr) (striped : IsSpelledStripe stripe) (filled : IsSpelledContent fill) (column end : ℕ) where
  abbrev options : List (List ℕ)
  options = seed_words fill ++ stripe_words stripe

  abbrev behind_creat : List (List ℕ)
  behind_creat = escaped path ∷ decimal size ∷ mode_word attr ∷ uid_word attr ∷ gid_word attr ∷ options

  five : (e n a s t : List ℕ) → e ++ n ++ a ++ s ++ t ≡ e ++ (n ++ (a ++ (s ++ t)))
  five e n a s t = simp append_assoc refl

  creat_text : cmd_text (cmd.Creat path size attr stripe fill) ≡ codes "creat" ++ spaced behind_creat
  creat_text =
      ap (λ (l : List ℕ). codes "creat " ++ l)
      (five (escaped path) (number size) (attr_text attr) (seed_text fill) (stripe_text stripe)
      ∙ ap (λ (l : List ℕ). escaped path ++ (number size ++ l))
      (ap (λ (l : List ℕ). l ++ (seed_text fill ++ stripe_text stripe)) (attr_words attr)
      ∙ ap (λ (l : List ℕ). spaced (mode_word attr ∷ uid_word attr ∷ gid_word attr ∷ []) ++ l)
      (ap (λ (l : List ℕ). l ++ stripe_text stripe) (seed_text_is fill) ∙ ap (λ (l : List ℕ). spaced (seed_words fill) ++ l) (stripe_text_is stripe)
      ∙ sym (spaced-append (seed_words fill) (stripe_words stripe)))
      ∙ sym (spaced-append (mode_word attr ∷ uid_word attr ∷ gid_word attr ∷ []) options)))

  creat_words : words_from column (cmd_text (cmd.Creat path size attr stripe fill)) ≡ placed column (codes "creat" ∷ behind_creat)
  creat_words =
      read_as _ (codes "creat") behind_creat column creat_text (
        (refl, (refl, (refl, (refl, (refl, tt))))),
        (
          path_word path is,
          (
            decimal_word size small,
            (
              mode_is_word attr,
              (
                uid_is_word attr spelled,
                (gid_is_word attr spelled, are-append (seed_words fill) (stripe_words stripe) (seeds_are fill filled) (stripes_are stripe striped)),
              ),
            ),
          ),
        ),
      )

  options_read : (at : ℕ) → file_options creat_takes no_file_options (placed at (mode_word attr ∷ uid_word attr ∷ gid_word attr ∷ options))
      ≡ Reads (record { mode = Some attr.mode; uid = Some attr.uid; gid = Some attr.gid; seed = seed_of fill; stripe = stripe }) []
  options_read at = attr_read creat_takes attr spelled at options ∙ seed_read attr spelled fill filled (stripe_words stripe) _ (stripe_read attr spelled (seed_of fill) stripe striped) _

  creat_read : fill_of (seed_of fill) ≡ fill → ask_line end (placed column (codes "creat" ∷ behind_creat)) ≡ Reads (ask.Plain (cmd.Creat path size attr stripe fill)) []
  unfolding ask_line command_word
  creat_read same =
      rw (path-escaped path is, size-decimal size small, options_read (column + 5 + 1 + length (escaped path) + 1 + length (decimal size) + 1))
      (ap (λ (f : Content). Reads (ask.Plain (cmd.Creat path size attr stripe f)) []) same)

same_fill : (fill : Content) → IsSpelledContent fill → fill_of (seed_of fill) ≡ fill
same_fill content.Zero is = refl
same_fill (content.Seed seed) is = refl
same_fill (content.Bytes bytes) is = absurd is

pub printed : (c : Cmd) (column end : ℕ) → HasSpelling c → ask_line end (words_from column (cmd_text c)) ≡ Reads (ask.Plain c) []
unfolding ask_line command_word
printed cmd.Logplay column end is =
    ap (ask_line end) (joined_words column (codes "logplay" ∷ []) ((refl, (refl, (refl, (refl, (refl, (refl, (refl, tt))))))), tt))
printed cmd.Mount column end is = absurd is
printed cmd.Fsck column end is =
    ap (ask_line end) (joined_words column (codes "fsck" ∷ []) ((refl, (refl, (refl, (refl, tt)))), tt))
printed (cmd.Mkdir path attr) column end is = ap (ask_line end) (mkdir_words path attr is.0 is.1 column end) ∙ mkdir_read path attr is.0 is.1 column end
printed (cmd.Creat path size attr stripe fill) column end is =
    ap (ask_line end) (creat_words path size attr stripe fill is.0 is.1 is.2 is.3 is.4 column end)
    ∙ creat_read path size attr stripe fill is.0 is.1 is.2 is.3 is.4 column end (same_fill fill is.4)
printed (cmd.Cp path attr stripe bytes) column end is = absurd is
printed (cmd.Verify path content.Zero) column end is = ap (ask_line end) (verify_words path is.0 column) ∙ verify_read path is.0 column end
printed (cmd.Verify path (content.Seed seed)) column end is = ap (ask_line end) (seeded_words path seed is.0 is.1 column) ∙ seeded_read path seed is.0 is.1 column end
printed (cmd.Verify path (content.Bytes bytes)) column end is = absurd is.1
printed (cmd.Read path offset count) column end is = ap (ask_line end) (read_words path offset count is.0 is.1 is.2 column end) ∙ read_read path offset count is.0 is.1 is.2 column end
printed (cmd.Check listing) column end is = absurd is
