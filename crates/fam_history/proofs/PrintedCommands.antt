-- A command that is printed reads as what is told of it.
use Rattle.std.proofs.Common.{◌≡◌, ℕ, ◌+◌, ◌^◌, ◌<◌, ◌≤◌, Bool, true, false, List, [], ◌∷◌, ◌++◌, length, Option, Some, None, codes, refl, ap, ◌∙◌, arith, decimal}
use Rattle.fam_base.specs.declared.cmd.Attr.{Attr}
use Rattle.fam_base.specs.declared.cmd.Cmd.{Cmd}
use Rattle.fam_base.specs.declared.cmd.Cmd.TheVariants.{Logplay, Mount, Mkdir, Creat, Cp, Verify, Read, Check, Fsck}
use Rattle.fam_base.specs.declared.cmd.Content.{Content}
use Rattle.fam_base.specs.declared.cmd.Content.TheVariants as content
use Rattle.fam_base.specs.declared.cmd.Stripe.{Stripe}
use Rattle.fam_base.specs.Escapes.{escaped}
use Rattle.fam_grammar.specs.declared.options.FileOptions.{FileOptions}
use Rattle.fam_grammar.specs.declared.options.Takes.{Takes}
use Rattle.fam_grammar.specs.Keywords.{command_word}
use Rattle.fam_grammar.specs.Lines.{cp_takes, creat_takes, fill_of, mkdir_takes}
use Rattle.fam_grammar.specs.Options.{file_option_of, file_options, no_file_options, with_file_word}
use Rattle.fam_grammar.specs.Reading.{Reading, Reads, Misfit}
use Rattle.fam_grammar.specs.Spellings.{count_of, id_of}
use Rattle.fam_grammar.specs.Words.{Word, words_from}
use Rattle.fam_grammar.proofs.Joined.{placed}
use Rattle.fam_grammar.proofs.Respelled.{below-some, mode-mode_text, number-decimal, path-escaped}
use Rattle.fam_grammar.proofs.StripeWords.{size-decimal, stripe_back, stripe_value}
use Rattle.fam_outcomes.specs.Texts.{cmd_text}
use Rattle.fam_history.specs.declared.command.ToldCommand.{ToldCommand}
use Rattle.fam_history.specs.declared.command.ToldCommand.TheVariants as told
use Rattle.fam_history.specs.Commands.{told_line}
use Rattle.fam_history.specs.Told.{AreAlikeCommands, IfTellingStripe, IsTelling, IsTellingAttr, IsTellingFill, IsTellingStripe, told_of_command, told_text}
use Rattle.fam_history.proofs.CommandWords.{attr_words, gid_word, mode_word, more_words, name_word, seed_words, stripe_words, text_words, uid_word}

-- Options.

-- an option's word fits, or it doesn't
abbrev choose : {A B : Type 0} → Reading B → (A → Reading B) → Option A → Reading B
choose none some None = none
choose none some (Some more) = some more

-- one option that is taken
next : (takes : Takes) (given more : FileOptions) (column : ℕ) (text : List ℕ) (words : List Word) → with_file_word takes given text ≡ Some more
    → file_options takes given (record { column = column; text = text } ∷ words) ≡ file_options takes more words
next takes given more column text words taken = ap (choose (Misfit column) (λ (o : FileOptions). file_options takes o words)) taken

-- with these options given
abbrev given_of : ℕ → Option ℕ → Option ℕ → FileOptions
given_of mode uid gid = record { mode = Some mode; uid = uid; gid = gid; seed = None; stripe = None }

mode_taken : (takes : Takes) (mode : ℕ) → mode ≤ 4095 → with_file_word takes no_file_options (mode_word mode) ≡ Some (given_of mode None None)
unfolding file_option_of
mode_taken takes mode small = rw (mode-mode_text mode small) refl

id_back : (n : ℕ) → n < 2 ^ 32 → id_of (decimal n) ≡ Some n
id_back n small = rw (number-decimal n (omega arith)) (below-some (2 ^ 32) n small)

uid_taken : (takes : Takes) (mode uid : ℕ) → uid < 2 ^ 32 → with_file_word takes (given_of mode None None) (uid_word uid) ≡ Some (given_of mode (Some uid) None)
unfolding file_option_of
uid_taken takes mode uid small = rw (id_back uid small) refl

gid_taken : (takes : Takes) (mode uid gid : ℕ) → gid < 2 ^ 32 → with_file_word takes (given_of mode (Some uid) None) (gid_word gid) ≡ Some (given_of mode (Some uid) (Some gid))
unfolding file_option_of
gid_taken takes mode uid gid small = rw (id_back gid small) refl

-- mode, user and group
abbrev with_attr : Attr → FileOptions
with_attr attr = given_of attr.mode (Some attr.uid) (Some attr.gid)

-- the column behind them
abbrev past_attr : ℕ → Attr → ℕ
past_attr column attr = column + length (mode_word attr.mode) + 1 + length (uid_word attr.uid) + 1 + length (gid_word attr.gid) + 1

attr_read : (takes : Takes) (column : ℕ) (attr : Attr) (rest : List (List ℕ)) → IsTellingAttr attr
    → file_options takes no_file_options (placed column (attr_words attr ++ rest)) ≡ file_options takes (with_attr attr) (placed (past_attr column attr) rest)
attr_read takes column attr rest is =
    let second : ℕ = column + length (mode_word attr.mode) + 1 in
    let third : ℕ = second + length (uid_word attr.uid) + 1 in
    let last : List Word = placed third (gid_word attr.gid ∷ rest) in
    next takes no_file_options (given_of attr.mode None None) column (mode_word attr.mode) (placed second (uid_word attr.uid ∷ gid_word attr.gid ∷ rest)) (mode_taken takes attr.mode is.mode)
    ∙ next takes (given_of attr.mode None None) (given_of attr.mode (Some attr.uid) None) second (uid_word attr.uid) last (uid_taken takes attr.mode attr.uid is.uid)
    ∙ next takes (given_of attr.mode (Some attr.uid) None) (with_attr attr) third (gid_word attr.gid) (placed (past_attr column attr) rest) (gid_taken takes attr.mode attr.uid attr.gid is.gid)

-- the options behind those of mode, user and group
abbrev and_seed : Attr → Option ℕ → FileOptions
and_seed attr seed = record (with_attr attr) { seed = seed }

seed_taken : (attr : Attr) (seed : ℕ) → seed < 2 ^ 64 → with_file_word creat_takes (with_attr attr) (codes "seed=" ++ decimal seed) ≡ Some (and_seed attr (Some seed))
unfolding file_option_of
seed_taken attr seed small = rw (number-decimal seed small) refl

stripe_taken : (seeds : Bool) (attr : Attr) (seed : Option ℕ) (s : Stripe) → IsTellingStripe s
    → with_file_word (record { seed = seeds; stripe = true }) (and_seed attr seed) (codes "stripe=" ++ stripe_value s) ≡ Some (record (and_seed attr seed) { stripe = Some s })
unfolding file_option_of
stripe_taken seeds attr seed s is = rw (stripe_back s is.nstrips is.nbuckets is.chunk) refl

stripe_read : (seeds : Bool) (column : ℕ) (attr : Attr) (seed : Option ℕ) (s : Option Stripe) → IfTellingStripe s
    → file_options (record { seed = seeds; stripe = true }) (and_seed attr seed) (placed column (stripe_words s)) ≡ Reads (record (and_seed attr seed) { stripe = s }) []
stripe_read seeds column attr seed None is = refl
stripe_read seeds column attr seed (Some s) is =
    next (record { seed = seeds; stripe = true }) (and_seed attr seed) (record (and_seed attr seed) { stripe = Some s }) column (codes "stripe=" ++ stripe_value s) []
    (stripe_taken seeds attr seed s is)

-- the seed that is told
abbrev seed_of : Content → Option ℕ
seed_of content.Zero = None
seed_of (content.Seed seed) = Some seed
seed_of (content.Bytes bytes) = None

seed_read : (column : ℕ) (attr : Attr) (fill : Content) (s : Option Stripe) → IsTellingFill fill → IfTellingStripe s
    → file_options creat_takes (with_attr attr) (placed column (seed_words fill ++ stripe_words s)) ≡ Reads (record (and_seed attr (seed_of fill)) { stripe = s }) []
seed_read column attr content.Zero s is stripe = stripe_read true column attr None s stripe
seed_read column attr (content.Bytes bytes) s is stripe = absurd is
seed_read column attr (content.Seed seed) s is stripe =
    next creat_takes (with_attr attr) (and_seed attr (Some seed)) column (codes "seed=" ++ decimal seed) (placed (column + length (codes "seed=" ++ decimal seed) + 1) (stripe_words s))
    (seed_taken attr seed is)
    ∙ stripe_read true (column + length (codes "seed=" ++ decimal seed) + 1) attr (Some seed) s stripe

-- Commands.

filled : (fill : Content) → IsTellingFill fill → fill_of (seed_of fill) ≡ fill
filled content.Zero is = refl
filled (content.Seed seed) is = refl
filled (content.Bytes bytes) is = absurd is

count_back : (n : ℕ) → n ≤ 4096 → count_of (decimal n) ≡ Some n
count_back n small = rw (number-decimal n (omega arith)) (below-some 4097 n (omega arith))

-- the column of the word behind a first one
abbrev past : ℕ → List ℕ → ℕ
past column text = column + length text + 1

module _ (end column : ℕ) where
  mkdir_reads : (path : List ℕ) (attr : Attr) → IsTelling (Mkdir path attr) → told_line end (placed column (name_word (Mkdir path attr) ∷ more_words (Mkdir path attr))) ≡ Reads
      (told.Plain (Mkdir path attr)) []
  unfolding told_line command_word
  mkdir_reads path attr is =
      rw (path-escaped path is.0, attr_read mkdir_takes (past (past column (codes "mkdir")) (escaped path)) attr [] is.1) refl

  creat_reads : (path : List ℕ) (size : ℕ) (attr : Attr) (stripe : Option Stripe) (fill : Content) → IsTelling (Creat path size attr stripe fill)
      → told_line end (placed column (name_word (Creat path size attr stripe fill) ∷ more_words (Creat path size attr stripe fill))) ≡ Reads (told.Plain (Creat path size attr stripe fill)) []
  unfolding told_line command_word
  creat_reads path size attr stripe fill is =
      let at : ℕ = past (past (past column (codes "creat")) (escaped path)) (decimal size) in
      rw (path-escaped path is.0, size-decimal size is.1, attr_read creat_takes at attr (seed_words fill ++ stripe_words stripe) is.2, seed_read (past_attr at attr) attr fill stripe is.4 is.3)
      (ap (λ (f : Content). Reads (told.Plain (Creat path size attr stripe f)) []) (filled fill is.4))

  cp_reads : (path : List ℕ) (attr : Attr) (stripe : Option Stripe) (bytes : List ℕ) → IsTelling (Cp path attr stripe bytes)
      → told_line end (placed column (name_word (Cp path attr stripe bytes) ∷ more_words (Cp path attr stripe bytes))) ≡ Reads (told.Cp path (length bytes) attr stripe) []
  unfolding told_line command_word
  cp_reads path attr stripe bytes is =
      let at : ℕ = past (past (past column (codes "cp")) (escaped path)) (decimal (length bytes)) in
      rw (path-escaped path is.0, size-decimal (length bytes) is.1, attr_read cp_takes at attr (stripe_words stripe) is.2, stripe_read false (past_attr at attr) attr None stripe is.3) refl

  verify_reads : (path : List ℕ) (against : Content) → IsTelling (Verify path against)
      → told_line end (placed column (name_word (Verify path against) ∷ more_words (Verify path against))) ≡ Reads (told_of_command (Verify path against)) []
  unfolding told_line command_word
  verify_reads path content.Zero is = rw (path-escaped path is.0) refl
  verify_reads path (content.Seed seed) is = rw (path-escaped path is.0, number-decimal seed is.1) refl
  verify_reads path (content.Bytes bytes) is = rw (path-escaped path is.0, number-decimal (length bytes) is.1) refl

  read_reads : (path : List ℕ) (offset count : ℕ) → IsTelling (Read path offset count)
      → told_line end (placed column (name_word (Read path offset count) ∷ more_words (Read path offset count))) ≡ Reads (told.Plain (Read path offset count)) []
  unfolding told_line command_word
  read_reads path offset count is =
      rw (path-escaped path is.0, number-decimal offset is.1, count_back count is.2) refl

  check_reads : (count : ℕ) → count < 2 ^ 64 → told_line end (placed column (codes "check" ∷ decimal count ∷ [])) ≡ Reads (told.Check count) []
  unfolding told_line command_word
  check_reads count small = rw (number-decimal count small) refl

  -- the words of a command's text read as what is told of it
  words_read : (cmd : Cmd) → IsTelling cmd → told_line end (placed column (name_word cmd ∷ more_words cmd)) ≡ Reads (told_of_command cmd) []
  unfolding told_line command_word
  words_read Logplay is = refl
  words_read Mount is = refl
  words_read Fsck is = refl
  words_read (Mkdir path attr) is = mkdir_reads path attr is
  words_read (Creat path size attr stripe fill) is = creat_reads path size attr stripe fill is
  words_read (Cp path attr stripe bytes) is = cp_reads path attr stripe bytes is
  words_read (Verify path against) is = verify_reads path against is
  words_read (Read path offset count) is = read_reads path offset count is
  words_read (Check entries) is = check_reads (length entries) is

-- a command's text reads as what is told of it
pub text_reads : (cmd : Cmd) (column end : ℕ) → IsTelling cmd → told_line end (words_from column (cmd_text cmd)) ≡ Reads (told_of_command cmd) []
text_reads cmd column end is = ap (told_line end) (text_words column cmd is) ∙ words_read end column cmd is

-- and what is told of it prints as its text
pub told_prints : (cmd : Cmd) → told_text (told_of_command cmd) ≡ cmd_text cmd
told_prints Logplay = refl
told_prints Mount = refl
told_prints Fsck = refl
told_prints (Mkdir path attr) = refl
told_prints (Creat path size attr stripe fill) = refl
told_prints (Cp path attr stripe bytes) = refl
told_prints (Verify path content.Zero) = refl
told_prints (Verify path (content.Seed seed)) = refl
told_prints (Verify path (content.Bytes bytes)) = refl
told_prints (Read path offset count) = refl
told_prints (Check entries) = refl

same_read : (a b : ToldCommand) (said : Reading ToldCommand) → said ≡ Reads a [] → said ≡ Reads b [] → a ≡ b
same_read a b said first second = cc

-- commands of one text are alike
pub one_text : (a b : Cmd) → IsTelling a → IsTelling b → cmd_text a ≡ cmd_text b → AreAlikeCommands a b
one_text a b first second same =
    same_read (told_of_command a) (told_of_command b) (told_line 0 (words_from 0 (cmd_text a))) (text_reads a 0 0 first)
    (ap (λ (text : List ℕ). told_line 0 (words_from 0 text)) same ∙ text_reads b 0 0 second)
