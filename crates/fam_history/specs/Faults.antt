-- The grammar of faults: kinds and fields by their words, and what stands behind `bad superblock`, `bad log` and `bad entry`.
use Rattle.std.specs.Prelude.{ℕ, if◌then◌else◌, List, codes, Option, Some, None}
use Rattle.std.specs.Str.{bytes_eq}
use Rattle.fam_base.specs.declared.entry.Kind.{Kind}
use Rattle.fam_base.specs.declared.entry.Kind.TheVariants.{File, Directory}
use Rattle.fam_format.specs.declared.faults.SuperField.{SuperField}
use Rattle.fam_format.specs.declared.faults.SuperField.TheVariants as super
use Rattle.fam_format.specs.declared.faults.LogField.{LogField}
use Rattle.fam_format.specs.declared.faults.LogField.TheVariants as field
use Rattle.fam_format.specs.declared.faults.SuperFault.{SuperFault}
use Rattle.fam_format.specs.declared.faults.SuperFault.TheVariants.{BadSuper}
use Rattle.fam_format.specs.declared.faults.LogFault.{LogFault}
use Rattle.fam_format.specs.declared.faults.LogFault.TheVariants.{BadLog}
use Rattle.fam_format.specs.declared.faults.Reason.{Reason}
use Rattle.fam_format.specs.declared.faults.Reason.TheVariants as reason
use Rattle.fam_grammar.specs.Reading.{Reading, Reads, ends_with, then_reads, word_of}
use Rattle.fam_grammar.specs.Words.{Word}
use Rattle.fam_history.specs.declared.faults.ReasonWord.{ReasonWord}
use Rattle.fam_history.specs.declared.faults.ReasonWord.TheVariants as word
use Rattle.fam_history.specs.Literals.{last_number, last_two, the_word}

-- a kind, by its word
abbrev pub kind_of_word : List ℕ → Option Kind
kind_of_word text =
    if bytes_eq text (codes "file") then Some File
    else if bytes_eq text (codes "directory") then Some Directory
    else None

-- a kind, and no word behind it
abbrev pub last_kind : ℕ → List Word → Reading Kind
last_kind end words = then_reads (word_of kind_of_word end words) ends_with

-- a field of a superblock
unfoldable pub super_field_of : List ℕ → Option SuperField
super_field_of text =
    if bytes_eq text (codes "crc") then Some super.Crc
    else if bytes_eq text (codes "version") then Some super.Version
    else if bytes_eq text (codes "offset") then Some super.Offset
    else if bytes_eq text (codes "unit") then Some super.Unit
    else if bytes_eq text (codes "length") then Some super.Length
    else if bytes_eq text (codes "device") then Some super.Device
    else if bytes_eq text (codes "small") then Some super.Small
    else if bytes_eq text (codes "rest") then Some super.Rest
    else None

-- a field of a log
unfoldable pub log_field_of : List ℕ → Option LogField
log_field_of text =
    if bytes_eq text (codes "magic") then Some field.Magic
    else if bytes_eq text (codes "crc") then Some field.Crc
    else if bytes_eq text (codes "length") then Some field.Length
    else if bytes_eq text (codes "slots") then Some field.Slots
    else if bytes_eq text (codes "uuid") then Some field.Uuid
    else if bytes_eq text (codes "rest") then Some field.Rest
    else if bytes_eq text (codes "gate") then Some field.Gate
    else None

-- the reasons that a word begins
unfoldable pub reason_word : List ℕ → Option ReasonWord
reason_word text =
    if bytes_eq text (codes "crc") then Some word.Crc
    else if bytes_eq text (codes "sequence") then Some word.Seq
    else if bytes_eq text (codes "kind") then Some word.Kind
    else if bytes_eq text (codes "attribute") then Some word.Attribute
    else if bytes_eq text (codes "path") then Some word.Path
    else if bytes_eq text (codes "map") then Some word.Map
    else if bytes_eq text (codes "rest") then Some word.Rest
    else if bytes_eq text (codes "exists") then Some word.Exists
    else if bytes_eq text (codes "no") then Some word.No
    else if bytes_eq text (codes "parent") then Some word.Parent
    else if bytes_eq text (codes "overlap") then Some word.Overlap
    else None

-- a superblock's field, what was found and what was wanted
abbrev pub super_line : ℕ → List Word → Reading SuperFault
super_line end words =
    then_reads (word_of super_field_of end words) (λ f rest.
    then_reads (last_two end rest) (λ p none. Reads (BadSuper f p.0 p.1) none))

-- so of a log
abbrev pub log_fault_line : ℕ → List Word → Reading LogFault
log_fault_line end words =
    then_reads (word_of log_field_of end words) (λ f rest.
    then_reads (last_two end rest) (λ p none. Reads (BadLog f p.0 p.1) none))

-- a number behind a word, and no word behind it
abbrev pub numbered : ℕ → List ℕ → List Word → Reading ℕ
numbered end wanted words = then_reads (word_of (the_word wanted) end words) (λ it. last_number end)

-- `is a file`
abbrev pub is_a_file : ℕ → List Word → Reading (Unit {0})
is_a_file end words =
    then_reads (word_of (the_word (codes "is")) end words) (λ it rest.
    then_reads (word_of (the_word (codes "a")) end rest) (λ it rest.
    then_reads (word_of (the_word (codes "file")) end rest) ends_with))

-- the words behind the first one of a reason
abbrev pub reason_behind : ℕ → ReasonWord → List Word → Reading Reason
reason_behind end word.Crc words = then_reads (last_two end words) (λ p none. Reads (reason.Crc p.0 p.1) none)
reason_behind end word.Seq words = then_reads (last_two end words) (λ p none. Reads (reason.Seq p.0 p.1) none)
reason_behind end word.Kind words = then_reads (last_number end words) (λ n none. Reads (reason.BadKind n) none)
reason_behind end word.Attribute words = then_reads (last_number end words) (λ n none. Reads (reason.Attribute n) none)
reason_behind end word.Path words = ends_with reason.BadPath words
reason_behind end word.Map words = ends_with reason.Map words
reason_behind end word.Rest words = then_reads (last_number end words) (λ n none. Reads (reason.Rest n) none)
reason_behind end word.Exists words = then_reads (last_kind end words) (λ k none. Reads (reason.Exists k) none)
reason_behind end word.No words = then_reads (word_of (the_word (codes "parent")) end words) (λ it. ends_with reason.NoParent)
reason_behind end word.Parent words = then_reads (is_a_file end words) (λ it none. Reads reason.ParentIsFile none)
reason_behind end word.Overlap words = then_reads (last_number end words) (λ n none. Reads (reason.Overlap n) none)

-- why a slot holds no entry that joins
unfoldable pub reason_line : ℕ → List Word → Reading Reason
reason_line end words = then_reads (word_of reason_word end words) (reason_behind end)
