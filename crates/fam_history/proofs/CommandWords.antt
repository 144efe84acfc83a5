-- The words of a command's text, and that they are these.
use Rattle.std.proofs.Common.{◌≡◌, ℕ, List, [], ◌∷◌, ◌++◌, length, Option, Some, None, codes, refl, ap, ap₂, sym, ◌∙◌, arith, append-nil, append_assoc, decimal}
use Rattle.fam_base.specs.declared.cmd.Attr.{Attr}
use Rattle.fam_base.specs.declared.cmd.Cmd.{Cmd}
use Rattle.fam_base.specs.declared.cmd.Cmd.TheVariants.{Logplay, Mount, Mkdir, Creat, Cp, Verify, Read, Check, Fsck}
use Rattle.fam_base.specs.declared.cmd.Content.{Content}
use Rattle.fam_base.specs.declared.cmd.Content.TheVariants as content
use Rattle.fam_base.specs.declared.cmd.Stripe.{Stripe}
use Rattle.fam_base.specs.Escapes.{escaped}
use Rattle.fam_tree.specs.Lines.{mode_text}
use Rattle.fam_grammar.specs.Words.{words_from}
use Rattle.fam_grammar.proofs.Joined.{AreWords, IsOneWord, placed}
use Rattle.fam_grammar.proofs.Respelled.{decimal_no_blank, decimal_word, mode_no_blank, path_word}
use Rattle.fam_grammar.proofs.StripeWords.{stripe_no_blank, stripe_value}
use Rattle.fam_outcomes.specs.Texts.{against_text, attr_text, cmd_text, name_text, number, seed_text, stripe_text}
use Rattle.fam_history.proofs.Spaced.{are-append, free, keyed, placed_words, spaced, spaced-append}
use Rattle.fam_history.specs.Told.{IfTellingStripe, IsTelling, IsTellingAttr, IsTellingContent, IsTellingFill}

-- Words.

-- the word of a mode
abbrev pub mode_word : ℕ → List ℕ
mode_word mode = codes "mode=" ++ mode_text mode

-- the word of a user
abbrev pub uid_word : ℕ → List ℕ
uid_word uid = codes "uid=" ++ decimal uid

-- the word of a group
abbrev pub gid_word : ℕ → List ℕ
gid_word gid = codes "gid=" ++ decimal gid

-- mode, user and group
abbrev pub attr_words : Attr → List (List ℕ)
attr_words attr = mode_word attr.mode ∷ uid_word attr.uid ∷ gid_word attr.gid ∷ []

-- a stripe's word, where there is one
abbrev pub stripe_words : Option Stripe → List (List ℕ)
stripe_words None = []
stripe_words (Some s) = (codes "stripe=" ++ stripe_value s) ∷ []

-- a seed's word, where there is one
abbrev pub seed_words : Content → List (List ℕ)
seed_words content.Zero = []
seed_words (content.Seed seed) = (codes "seed=" ++ decimal seed) ∷ []
seed_words (content.Bytes bytes) = []

-- what bytes are compared with
abbrev pub against_words : Content → List (List ℕ)
against_words content.Zero = []
against_words (content.Seed seed) = (codes "seed=" ++ decimal seed) ∷ []
against_words (content.Bytes bytes) = (codes "bytes=" ++ decimal (length bytes)) ∷ []

-- the name of a command
abbrev pub name_word : Cmd → List ℕ
name_word Logplay = codes "logplay"
name_word Mount = codes "mount"
name_word Fsck = codes "fsck"
name_word (Mkdir path attr) = codes "mkdir"
name_word (Creat path size attr stripe fill) = codes "creat"
name_word (Cp path attr stripe bytes) = codes "cp"
name_word (Verify path against) = codes "verify"
name_word (Read path offset count) = codes "read"
name_word (Check entries) = codes "check"

-- the words behind it
abbrev pub more_words : Cmd → List (List ℕ)
more_words Logplay = []
more_words Mount = []
more_words Fsck = []
more_words (Mkdir path attr) = escaped path ∷ attr_words attr
more_words (Creat path size attr stripe fill) = escaped path ∷ decimal size ∷ attr_words attr ++ (seed_words fill ++ stripe_words stripe)
more_words (Cp path attr stripe bytes) = escaped path ∷ decimal (length bytes) ∷ attr_words attr ++ stripe_words stripe
more_words (Verify path against) = escaped path ∷ against_words against
more_words (Read path offset count) = escaped path ∷ decimal offset ∷ decimal count ∷ []
more_words (Check entries) = decimal (length entries) ∷ []

-- Their text.

attr_spaced : (attr : Attr) → attr_text attr ≡ spaced (attr_words attr)
attr_spaced attr = simp (append_assoc, append-nil) refl

stripe_spaced : (s : Option Stripe) → stripe_text s ≡ spaced (stripe_words s)
stripe_spaced None = refl
stripe_spaced (Some s) = simp (append_assoc, append-nil) refl

seed_spaced : (fill : Content) → seed_text fill ≡ spaced (seed_words fill)
seed_spaced content.Zero = refl
seed_spaced (content.Seed seed) = simp (append_assoc, append-nil) refl
seed_spaced (content.Bytes bytes) = refl

against_spaced : (against : Content) → against_text against ≡ spaced (against_words against)
against_spaced content.Zero = refl
against_spaced (content.Seed seed) = simp (append_assoc, append-nil) refl
against_spaced (content.Bytes bytes) = simp (append_assoc, append-nil) refl

-- the options of a command
options_spaced : (attr : Attr) (fill : Content) (stripe : Option Stripe)
    → attr_text attr ++ (seed_text fill ++ stripe_text stripe) ≡ spaced (attr_words attr ++ (seed_words fill ++ stripe_words stripe))
options_spaced attr fill stripe =
    ap₂ (λ (a b : List ℕ). a ++ b) (attr_spaced attr) (ap₂ (λ (a b : List ℕ). a ++ b) (seed_spaced fill) (stripe_spaced stripe) ∙ sym (spaced-append (seed_words fill) (stripe_words stripe)))
    ∙ sym (spaced-append (attr_words attr) (seed_words fill ++ stripe_words stripe))

-- to the right
three : (a b c : List ℕ) → a ++ b ++ c ≡ a ++ (b ++ c)
three a b c = simp append_assoc refl

five : (a b c d e : List ℕ) → a ++ b ++ c ++ d ++ e ≡ a ++ (b ++ (c ++ (d ++ e)))
five a b c d e = simp append_assoc refl

six : (a b c d e f : List ℕ) → a ++ b ++ c ++ d ++ e ++ f ≡ a ++ (b ++ (c ++ (d ++ (e ++ f))))
six a b c d e f = simp append_assoc refl

-- a command's text is its words, with a space between
pub text_spaced : (cmd : Cmd) → cmd_text cmd ≡ name_word cmd ++ spaced (more_words cmd)
text_spaced Logplay = refl
text_spaced Mount = refl
text_spaced Fsck = refl
text_spaced (Mkdir path attr) =
    three (codes "mkdir") (name_text path) (attr_text attr) ∙ ap (λ (l : List ℕ). codes "mkdir" ++ (name_text path ++ l)) (attr_spaced attr)
text_spaced (Creat path size attr stripe fill) =
    six (codes "creat") (name_text path) (number size) (attr_text attr) (seed_text fill) (stripe_text stripe)
    ∙ ap (λ (l : List ℕ). codes "creat" ++ (name_text path ++ (number size ++ l))) (options_spaced attr fill stripe)
text_spaced (Cp path attr stripe bytes) =
    five (codes "cp") (name_text path) (number (length bytes)) (attr_text attr) (stripe_text stripe)
    ∙ ap (λ (l : List ℕ). codes "cp" ++ (name_text path ++ (number (length bytes) ++ l))) (options_spaced attr content.Zero stripe)
text_spaced (Verify path against) =
    three (codes "verify") (name_text path) (against_text against) ∙ ap (λ (l : List ℕ). codes "verify" ++ (name_text path ++ l)) (against_spaced against)
text_spaced (Read path offset count) = simp (append_assoc, append-nil) refl
text_spaced (Check entries) = simp append-nil refl

-- Each is a word.

attr_are : (attr : Attr) → IsTellingAttr attr → AreWords (attr_words attr)
attr_are attr is = (
  keyed 109 (codes "ode=") (mode_text attr.mode) refl
      (mode_no_blank attr.mode),
  (
    keyed 117 (codes "id=") (decimal attr.uid) refl
        (decimal_no_blank attr.uid (omega (arith, is.uid))),
    (keyed 103 (codes "id=") (decimal attr.gid) refl (decimal_no_blank attr.gid (omega (arith, is.gid))), tt),
  ),
)

stripe_are : (s : Option Stripe) → IfTellingStripe s → AreWords (stripe_words s)
stripe_are None is = tt
stripe_are (Some s) is = (keyed 115 (codes "tripe=") (stripe_value s) refl (stripe_no_blank s is.nstrips is.nbuckets is.chunk), tt)

seed_are : (fill : Content) → IsTellingFill fill → AreWords (seed_words fill)
seed_are content.Zero is = tt
seed_are (content.Seed seed) is = (keyed 115 (codes "eed=") (decimal seed) refl (decimal_no_blank seed is), tt)
seed_are (content.Bytes bytes) is = absurd is

against_are : (against : Content) → IsTellingContent against → AreWords (against_words against)
against_are content.Zero is = tt
against_are (content.Seed seed) is = (keyed 115 (codes "eed=") (decimal seed) refl (decimal_no_blank seed is), tt)
against_are (content.Bytes bytes) is = (keyed 98 (codes "ytes=") (decimal (length bytes)) refl (decimal_no_blank (length bytes) is), tt)

pub more_are : (cmd : Cmd) → IsTelling cmd → AreWords (more_words cmd)
more_are Logplay is = tt
more_are Mount is = tt
more_are Fsck is = tt
more_are (Mkdir path attr) is = (path_word path is.0, attr_are attr is.1)
more_are (Creat path size attr stripe fill) is = (
  path_word path is.0,
  (
    decimal_word size is.1,
    are-append (attr_words attr) (seed_words fill ++ stripe_words stripe) (attr_are attr is.2)
        (are-append (seed_words fill) (stripe_words stripe) (seed_are fill is.4) (stripe_are stripe is.3)),
  ),
)
more_are (Cp path attr stripe bytes) is =
    (path_word path is.0, (decimal_word (length bytes) is.1, are-append (attr_words attr) (stripe_words stripe) (attr_are attr is.2) (stripe_are stripe is.3)))
more_are (Verify path against) is = (path_word path is.0, against_are against is.1)
more_are (Read path offset count) is =
    (path_word path is.0, (decimal_word offset is.1, (decimal_word count (omega (arith, is.2)), tt)))
more_are (Check entries) is = (decimal_word (length entries) is, tt)

pub name_is : (cmd : Cmd) → IsOneWord (name_word cmd)
name_is Logplay = free (codes "logplay") refl
name_is Mount = free (codes "mount") refl
name_is Fsck = free (codes "fsck") refl
name_is (Mkdir path attr) = free (codes "mkdir") refl
name_is (Creat path size attr stripe fill) = free (codes "creat") refl
name_is (Cp path attr stripe bytes) = free (codes "cp") refl
name_is (Verify path against) = free (codes "verify") refl
name_is (Read path offset count) = free (codes "read") refl
name_is (Check entries) = free (codes "check") refl

-- the words of a command's text
pub text_words : (column : ℕ) (cmd : Cmd) → IsTelling cmd → words_from column (cmd_text cmd) ≡ placed column (name_word cmd ∷ more_words cmd)
text_words column cmd is = placed_words column (cmd_text cmd) (name_word cmd) (more_words cmd) (text_spaced cmd) (name_is cmd, more_are cmd is)
