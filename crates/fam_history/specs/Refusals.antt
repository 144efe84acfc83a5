-- The grammar of a refusal: what stands behind `refused`, from left to right.
use Rattle.std.specs.Prelude.{ℕ, if◌then◌else◌, List, codes, Option, Some, None}
use Rattle.std.specs.Str.{bytes_eq}
use Rattle.fam_grammar.specs.Reading.{Reading, Reads, ends_with, then_reads, word_of}
use Rattle.fam_grammar.specs.Spellings.{file_of, name_of, uuid_of}
use Rattle.fam_grammar.specs.Words.{Word}
use Rattle.fam_history.specs.declared.refusals.RefusalWord.{RefusalWord}
use Rattle.fam_history.specs.declared.refusals.RefusalWord.TheVariants as word
use Rattle.fam_history.specs.declared.refusal.ToldRefusal.{ToldRefusal}
use Rattle.fam_history.specs.declared.refusal.ToldRefusal.TheVariants as told
use Rattle.fam_history.specs.Faults.{numbered}
use Rattle.fam_history.specs.Literals.{begins_with, behind_first, last_two, the_word}

-- the refusals that a word begins
unfoldable pub refusal_word : List ℕ → Option RefusalWord
refusal_word text =
    if bytes_eq text (codes "no") then Some word.No
    else if bytes_eq text (codes "same") then Some word.Same
    else if bytes_eq text (codes "too") then Some word.Too
    else if bytes_eq text (codes "bad") then Some word.Bad
    else if bytes_eq text (codes "image") then Some word.Image
    else if bytes_eq text (codes "busy") then Some word.Busy
    else if bytes_eq text (codes "dirty") then Some word.Dirty
    else if bytes_eq text (codes "has") then Some word.Has
    else if bytes_eq text (codes "idle") then Some word.Idle
    else if bytes_eq text (codes "mounted") then Some word.Mounted
    else if bytes_eq text (codes "not") then Some word.Not
    else if bytes_eq text (codes "copy") then Some word.Copy
    else if bytes_eq text (codes "media") then Some word.Media
    else None

-- no: `file` and a name, `line` and two numbers, or `host`
abbrev pub no_line : ℕ → List Word → Reading ToldRefusal
no_line end words =
    if begins_with (codes "file") words then then_reads (word_of file_of end (behind_first words)) (λ name. ends_with (told.NoFile name))
    else if begins_with (codes "line") words then then_reads (last_two end (behind_first words)) (λ p none. Reads (told.NoLine p.0 p.1) none)
    else then_reads (word_of (the_word (codes "host")) end words) (λ it. ends_with told.NoHost)

-- same: `host`, and a name
abbrev pub same_line : ℕ → List Word → Reading ToldRefusal
same_line end words =
    then_reads (word_of (the_word (codes "host")) end words) (λ it rest.
    then_reads (word_of name_of end rest) (λ name. ends_with (told.SameHost name)))

-- too: `many hosts`, or `small` and two numbers
abbrev pub too_line : ℕ → List Word → Reading ToldRefusal
too_line end words =
    if begins_with (codes "many") words then then_reads (word_of (the_word (codes "hosts")) end (behind_first words)) (λ it. ends_with told.TooManyHosts)
    else then_reads (word_of (the_word (codes "small")) end words) (λ it rest. then_reads (last_two end rest) (λ p none. Reads (told.TooSmall p.0 p.1) none))

-- bad: `geometry` and two numbers, or `listing` and one
abbrev pub bad_line : ℕ → List Word → Reading ToldRefusal
bad_line end words =
    if begins_with (codes "geometry") words then then_reads (last_two end (behind_first words)) (λ p none. Reads (told.BadGeometry p.0 p.1) none)
    else then_reads (numbered end (codes "listing") words) (λ n none. Reads (told.BadListing n) none)

-- image: `too small`, and a number
abbrev pub image_line : ℕ → List Word → Reading ToldRefusal
image_line end words =
    then_reads (word_of (the_word (codes "too")) end words) (λ it rest.
    then_reads (numbered end (codes "small") rest) (λ n none. Reads (told.ImageSmall n) none))

-- has: `superblock`, and a UUID
abbrev pub has_line : ℕ → List Word → Reading ToldRefusal
has_line end words =
    then_reads (word_of (the_word (codes "superblock")) end words) (λ it rest.
    then_reads (word_of uuid_of end rest) (λ uuid. ends_with (told.HasSuper uuid)))

-- copy: `limit`, and a number
abbrev pub copy_line : ℕ → List Word → Reading ToldRefusal
copy_line end words = then_reads (numbered end (codes "limit") words) (λ n none. Reads (told.CopyLimit n) none)

-- media: `fault`, and a number
abbrev pub media_line : ℕ → List Word → Reading ToldRefusal
media_line end words = then_reads (numbered end (codes "fault") words) (λ n none. Reads (told.MediaFault n) none)

-- the words behind the first one
abbrev pub refusal_behind : ℕ → RefusalWord → List Word → Reading ToldRefusal
refusal_behind end word.No words = no_line end words
refusal_behind end word.Same words = same_line end words
refusal_behind end word.Too words = too_line end words
refusal_behind end word.Bad words = bad_line end words
refusal_behind end word.Image words = image_line end words
refusal_behind end word.Busy words = then_reads (word_of name_of end words) (λ name. ends_with (told.Busy name))
refusal_behind end word.Dirty words = then_reads (word_of name_of end words) (λ name. ends_with (told.Dirty name))
refusal_behind end word.Has words = has_line end words
refusal_behind end word.Idle words = ends_with told.Idle words
refusal_behind end word.Mounted words = ends_with told.Mounted words
refusal_behind end word.Not words = then_reads (word_of (the_word (codes "mounted")) end words) (λ it. ends_with told.NotMounted)
refusal_behind end word.Copy words = copy_line end words
refusal_behind end word.Media words = media_line end words

-- a refusal
unfoldable pub refusal_line : ℕ → List Word → Reading ToldRefusal
refusal_line end words = then_reads (word_of refusal_word end words) (refusal_behind end)
