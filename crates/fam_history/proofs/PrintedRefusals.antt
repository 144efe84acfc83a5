-- A refusal that is printed reads as what is told of it.
use Rattle.std.proofs.Common.{◌≡◌, ℕ, List, [], ◌∷◌, ◌++◌, codes, refl, ap, ◌∙◌, append-nil, append_assoc, decimal}
use Rattle.uuid.specs.Text.{hyphenated_text, lower}
use Rattle.fam_base.specs.Escapes.{escaped}
use Rattle.fam_journal.specs.declared.refusal.Refusal.{Refusal}
use Rattle.fam_journal.specs.declared.refusal.Refusal.TheVariants as why
use Rattle.fam_grammar.specs.Reading.{Reads}
use Rattle.fam_grammar.specs.Words.{words_from}
use Rattle.fam_grammar.proofs.Joined.{AreWords, IsOneWord, placed}
use Rattle.fam_grammar.proofs.Respelled.{decimal_word, number-decimal}
use Rattle.fam_outcomes.specs.Texts.{host_name, refusal_text}
use Rattle.fam_history.specs.Refusals.{refusal_line, refusal_word}
use Rattle.fam_history.specs.ToldRefusals.{IsTellingRefusal, told_of_refusal}
use Rattle.fam_history.proofs.Spaced.{file_back, file_is_word, free, name_back, name_is_word, placed_words, spaced, uuid_back, uuid_is_word}

-- the first word of a refusal
abbrev pub first_of : Refusal → List ℕ
first_of why.NoHost = codes "no"
first_of (why.SameHost host) = codes "same"
first_of why.TooManyHosts = codes "too"
first_of (why.BadGeometry unit log) = codes "bad"
first_of (why.TooSmall need have) = codes "too"
first_of (why.ImageSmall lines) = codes "image"
first_of (why.Busy host) = codes "busy"
first_of (why.Dirty host) = codes "dirty"
first_of (why.HasSuper uuid) = codes "has"
first_of why.Idle = codes "idle"
first_of why.Mounted = codes "mounted"
first_of why.NotMounted = codes "not"
first_of (why.NoLine at lines) = codes "no"
first_of (why.NoFile name) = codes "no"
first_of (why.CopyLimit sum) = codes "copy"
first_of (why.BadListing at) = codes "bad"
first_of (why.MediaFault at) = codes "media"

-- the words behind it
abbrev pub more_of : List (List ℕ) → Refusal → List (List ℕ)
more_of names why.NoHost = codes "host" ∷ []
more_of names (why.SameHost host) = codes "host" ∷ host_name names host.0 ∷ []
more_of names why.TooManyHosts = codes "many" ∷ codes "hosts" ∷ []
more_of names (why.BadGeometry unit log) = codes "geometry" ∷ decimal unit ∷ decimal log ∷ []
more_of names (why.TooSmall need have) = codes "small" ∷ decimal need ∷ decimal have ∷ []
more_of names (why.ImageSmall lines) = codes "too" ∷ codes "small" ∷ decimal lines ∷ []
more_of names (why.Busy host) = host_name names host.0 ∷ []
more_of names (why.Dirty host) = host_name names host.0 ∷ []
more_of names (why.HasSuper uuid) = codes "superblock" ∷ hyphenated_text lower uuid ∷ []
more_of names why.Idle = []
more_of names why.Mounted = []
more_of names why.NotMounted = codes "mounted" ∷ []
more_of names (why.NoLine at lines) = codes "line" ∷ decimal at ∷ decimal lines ∷ []
more_of names (why.NoFile name) = codes "file" ∷ escaped name ∷ []
more_of names (why.CopyLimit sum) = codes "limit" ∷ decimal sum ∷ []
more_of names (why.BadListing at) = codes "listing" ∷ decimal at ∷ []
more_of names (why.MediaFault at) = codes "fault" ∷ decimal at.0 ∷ []

-- a refusal's text is its words, with a space between
pub text_spaced : (names : List (List ℕ)) (cause : Refusal) → refusal_text names cause ≡ first_of cause ++ spaced (more_of names cause)
text_spaced names why.NoHost = refl
text_spaced names (why.SameHost host) = simp append-nil refl
text_spaced names why.TooManyHosts = refl
text_spaced names (why.BadGeometry unit log) = simp (append_assoc, append-nil) refl
text_spaced names (why.TooSmall need have) = simp (append_assoc, append-nil) refl
text_spaced names (why.ImageSmall lines) = simp append-nil refl
text_spaced names (why.Busy host) = simp append-nil refl
text_spaced names (why.Dirty host) = simp append-nil refl
text_spaced names (why.HasSuper uuid) = simp append-nil refl
text_spaced names why.Idle = refl
text_spaced names why.Mounted = refl
text_spaced names why.NotMounted = refl
text_spaced names (why.NoLine at lines) = simp (append_assoc, append-nil) refl
text_spaced names (why.NoFile name) = simp append-nil refl
text_spaced names (why.CopyLimit sum) = simp append-nil refl
text_spaced names (why.BadListing at) = simp append-nil refl
text_spaced names (why.MediaFault at) = simp append-nil refl

pub first_is : (cause : Refusal) → IsOneWord (first_of cause)
first_is why.NoHost = free (codes "no") refl
first_is (why.SameHost host) = free (codes "same") refl
first_is why.TooManyHosts = free (codes "too") refl
first_is (why.BadGeometry unit log) = free (codes "bad") refl
first_is (why.TooSmall need have) = free (codes "too") refl
first_is (why.ImageSmall lines) = free (codes "image") refl
first_is (why.Busy host) = free (codes "busy") refl
first_is (why.Dirty host) = free (codes "dirty") refl
first_is (why.HasSuper uuid) = free (codes "has") refl
first_is why.Idle = free (codes "idle") refl
first_is why.Mounted = free (codes "mounted") refl
first_is why.NotMounted = free (codes "not") refl
first_is (why.NoLine at lines) = free (codes "no") refl
first_is (why.NoFile name) = free (codes "no") refl
first_is (why.CopyLimit sum) = free (codes "copy") refl
first_is (why.BadListing at) = free (codes "bad") refl
first_is (why.MediaFault at) = free (codes "media") refl

pub more_are : (names : List (List ℕ)) (cause : Refusal) → IsTellingRefusal names cause → AreWords (more_of names cause)
more_are names why.NoHost is = (free (codes "host") refl, tt)
more_are names (why.SameHost host) is = (free (codes "host") refl, (name_is_word (host_name names host.0) is, tt))
more_are names why.TooManyHosts is = (free (codes "many") refl, (free (codes "hosts") refl, tt))
more_are names (why.BadGeometry unit log) is = (free (codes "geometry") refl, (decimal_word unit is.0, (decimal_word log is.1, tt)))
more_are names (why.TooSmall need have) is = (free (codes "small") refl, (decimal_word need is.0, (decimal_word have is.1, tt)))
more_are names (why.ImageSmall lines) is = (free (codes "too") refl, (free (codes "small") refl, (decimal_word lines is, tt)))
more_are names (why.Busy host) is = (name_is_word (host_name names host.0) is, tt)
more_are names (why.Dirty host) is = (name_is_word (host_name names host.0) is, tt)
more_are names (why.HasSuper uuid) is = (free (codes "superblock") refl, (uuid_is_word uuid, tt))
more_are names why.Idle is = tt
more_are names why.Mounted is = tt
more_are names why.NotMounted is = (free (codes "mounted") refl, tt)
more_are names (why.NoLine at lines) is = (free (codes "line") refl, (decimal_word at is.0, (decimal_word lines is.1, tt)))
more_are names (why.NoFile name) is = (free (codes "file") refl, (file_is_word name is.file is.bytes, tt))
more_are names (why.CopyLimit sum) is = (free (codes "limit") refl, (decimal_word sum is, tt))
more_are names (why.BadListing at) is = (free (codes "listing") refl, (decimal_word at is, tt))
more_are names (why.MediaFault at) is = (free (codes "fault") refl, (decimal_word at.0 is, tt))

pub words_read : (names : List (List ℕ)) (cause : Refusal) (column end : ℕ) → IsTellingRefusal names cause
    → refusal_line end (placed column (first_of cause ∷ more_of names cause)) ≡ Reads (told_of_refusal names cause) []
unfolding refusal_line refusal_word
words_read names why.NoHost column end is = refl
words_read names (why.SameHost host) column end is = rw (name_back (host_name names host.0) is) refl
words_read names why.TooManyHosts column end is = refl
words_read names (why.BadGeometry unit log) column end is = rw (number-decimal unit is.0, number-decimal log is.1) refl
words_read names (why.TooSmall need have) column end is = rw (number-decimal need is.0, number-decimal have is.1) refl
words_read names (why.ImageSmall lines) column end is = rw (number-decimal lines is) refl
words_read names (why.Busy host) column end is = rw (name_back (host_name names host.0) is) refl
words_read names (why.Dirty host) column end is = rw (name_back (host_name names host.0) is) refl
words_read names (why.HasSuper uuid) column end is = rw (uuid_back uuid is) refl
words_read names why.Idle column end is = refl
words_read names why.Mounted column end is = refl
words_read names why.NotMounted column end is = refl
words_read names (why.NoLine at lines) column end is = rw (number-decimal at is.0, number-decimal lines is.1) refl
words_read names (why.NoFile name) column end is = rw (file_back name is.file is.bytes) refl
words_read names (why.CopyLimit sum) column end is = rw (number-decimal sum is) refl
words_read names (why.BadListing at) column end is = rw (number-decimal at is) refl
words_read names (why.MediaFault at) column end is = rw (number-decimal at.0 is) refl

-- a refusal's text reads as what is told of it
pub refusal_reads : (names : List (List ℕ)) (cause : Refusal) (column end : ℕ) → IsTellingRefusal names cause
    → refusal_line end (words_from column (refusal_text names cause)) ≡ Reads (told_of_refusal names cause) []
refusal_reads names cause column end is =
    ap (refusal_line end) (placed_words column (refusal_text names cause) (first_of cause) (more_of names cause) (text_spaced names cause) (first_is cause, more_are names cause is))
    ∙ words_read names cause column end is
