-- The words of an answer's first line, and that they read as what it tells.
use Rattle.std.proofs.Common.{◌≡◌, ◌≢◌, ℕ, suc, ◌+◌, ◌/◌, ◌%◌, ◌<◌, Bool, true, false, cond, List, [], ◌∷◌, ◌++◌, length, Option, Some, None, codes, refl, ap, ap₂, sym, ◌∙◌, arith, append-nil, append_assoc, decimal}
use Rattle.std.specs.Prelude.{◌==◌, ◌&&◌}
use Rattle.std.specs.List.{flat_map, fold}
use Rattle.std.specs.Str.{bytes_eq}
use Rattle.std.proofs.lemmas.Bool.Decides.{nat_tests}
use Rattle.std.proofs.lemmas.Bool.Decides.{Decides-eqb}
use Rattle.std.proofs.lemmas.Option.{same_Some}
use Rattle.std.proofs.lemmas.Slice.Eq.{bytes_eq-Decides}
use Rattle.std.proofs.lemmas.List.Elements.{All-head, All-tail}
use Rattle.uuid.specs.Text.{hex_digit_value, hyphenated_text, lower}
use Rattle.fam_base.specs.declared.entry.Entry.{Entry}
use Rattle.fam_base.specs.declared.entry.Kind.{Kind}
use Rattle.fam_base.specs.declared.entry.Kind.TheVariants.{File, Directory}
use Rattle.fam_base.specs.Escapes.{AreBytes, escaped, hex_digit}
use Rattle.fam_base.specs.PathOrder.{path_cmp}
use Rattle.fam_base.specs.Paths.{is_path}
use Rattle.fam_format.specs.declared.faults.LogFault.TheVariants.{BadLog}
use Rattle.fam_format.specs.declared.faults.LogField.{LogField}
use Rattle.fam_format.specs.declared.faults.LogField.TheVariants as field
use Rattle.fam_format.specs.declared.faults.Reason.{Reason}
use Rattle.fam_format.specs.declared.faults.Reason.TheVariants as reason
use Rattle.fam_format.specs.declared.faults.SuperFault.TheVariants.{NoSuper, BadSuper}
use Rattle.fam_format.specs.declared.faults.SuperField.{SuperField}
use Rattle.fam_format.specs.declared.faults.SuperField.TheVariants as super
use Rattle.fam_format.specs.Tree.{Tree}
use Rattle.fam_rules.specs.declared.answers.Checked.{Checked}
use Rattle.fam_rules.specs.declared.answers.Refused.TheVariants as cause
use Rattle.fam_rules.specs.Checks.{changed_in, checked, extra_in, least_path, lesser, lesser_by, missing_from}
use Rattle.fam_rules.specs.Reply as reply
use Rattle.fam_journal.specs.Notes.{Answer, Replied, MediaFault}
use Rattle.fam_grammar.specs.Reading.{Reads}
use Rattle.fam_grammar.specs.Spellings.{byte_of, in_prefix_of, unescaped}
use Rattle.fam_grammar.specs.Words.{is_blank, words_from}
use Rattle.fam_grammar.proofs.Joined.{AreWords, HasNoBlank, IsOneWord, no_blank-append, placed}
use Rattle.fam_grammar.proofs.Respelled.{decimal_word, number-decimal, path-escaped, path_bytes, path_word, unescaped-escaped}
use Rattle.fam_outcomes.specs.Texts.{answer_text, byte_text, cause_text, fault_text, log_text, slot_text, super_text, bytes_text, checked_text, kind_text, line, log_field_text, log_state_text, name_text, number, overlap_text, bad_text, path_or_none, super_state_text, reason_text, super_field_text}
use Rattle.fam_history.specs.declared.answer.ToldAnswer.{ToldAnswer}
use Rattle.fam_history.specs.declared.answer.ToldAnswer.TheVariants as told
use Rattle.fam_history.specs.Answers.{answer_line, answer_word, none_differs, path_or_none as reads_path}
use Rattle.fam_history.specs.ByteWords.{bytes_of_word, paired}
use Rattle.fam_history.specs.Faults.{kind_of_word, log_field_of, reason_line, reason_word, super_field_of}
use Rattle.fam_history.specs.ToldAnswers.{IfTellingPath, IsTellingAnswer, IsTellingReason, answer_lines, answer_told, checked_told, first_told, path_told, told_answer_text}
use Rattle.fam_history.proofs.Spaced.{eight, four, free, placed_words, seven, spaced, ten, uuid_back, uuid_is_word}

-- Words of kinds and fields.

kind_is : (kind : Kind) → IsOneWord (kind_text kind)
kind_is File = free (codes "file") refl
kind_is Directory = free (codes "directory") refl

kind_back : (kind : Kind) → kind_of_word (kind_text kind) ≡ Some kind
kind_back File = refl
kind_back Directory = refl

super_is : (f : SuperField) → IsOneWord (super_field_text f)
super_is super.Crc = free (codes "crc") refl
super_is super.Version = free (codes "version") refl
super_is super.Offset = free (codes "offset") refl
super_is super.Unit = free (codes "unit") refl
super_is super.Length = free (codes "length") refl
super_is super.Device = free (codes "device") refl
super_is super.Small = free (codes "small") refl
super_is super.Rest = free (codes "rest") refl

pub super_back : (f : SuperField) → super_field_of (super_field_text f) ≡ Some f
unfolding super_field_of
super_back super.Crc = refl
super_back super.Version = refl
super_back super.Offset = refl
super_back super.Unit = refl
super_back super.Length = refl
super_back super.Device = refl
super_back super.Small = refl
super_back super.Rest = refl

log_is : (f : LogField) → IsOneWord (log_field_text f)
log_is field.Magic = free (codes "magic") refl
log_is field.Crc = free (codes "crc") refl
log_is field.Length = free (codes "length") refl
log_is field.Slots = free (codes "slots") refl
log_is field.Uuid = free (codes "uuid") refl
log_is field.Rest = free (codes "rest") refl
log_is field.Gate = free (codes "gate") refl

pub log_back : (f : LogField) → log_field_of (log_field_text f) ≡ Some f
unfolding log_field_of
log_back field.Magic = refl
log_back field.Crc = refl
log_back field.Length = refl
log_back field.Slots = refl
log_back field.Uuid = refl
log_back field.Rest = refl
log_back field.Gate = refl

-- Reasons.

-- the first word of a reason
abbrev pub reason_first : Reason → List ℕ
reason_first (reason.Crc found wanted) = codes "crc"
reason_first (reason.Seq found wanted) = codes "sequence"
reason_first (reason.BadKind word) = codes "kind"
reason_first (reason.Attribute index) = codes "attribute"
reason_first reason.BadPath = codes "path"
reason_first reason.Map = codes "map"
reason_first (reason.Rest index) = codes "rest"
reason_first (reason.Exists kind) = codes "exists"
reason_first reason.NoParent = codes "no"
reason_first reason.ParentIsFile = codes "parent"
reason_first (reason.Overlap unit) = codes "overlap"

-- the words behind it
abbrev pub reason_more : Reason → List (List ℕ)
reason_more (reason.Crc found wanted) = decimal found ∷ decimal wanted ∷ []
reason_more (reason.Seq found wanted) = decimal found ∷ decimal wanted ∷ []
reason_more (reason.BadKind word) = decimal word ∷ []
reason_more (reason.Attribute index) = decimal index ∷ []
reason_more reason.BadPath = []
reason_more reason.Map = []
reason_more (reason.Rest index) = decimal index ∷ []
reason_more (reason.Exists kind) = kind_text kind ∷ []
reason_more reason.NoParent = codes "parent" ∷ []
reason_more reason.ParentIsFile = codes "is" ∷ codes "a" ∷ codes "file" ∷ []
reason_more (reason.Overlap unit) = decimal unit ∷ []

reason_spaced : (why : Reason) → reason_text why ≡ reason_first why ++ spaced (reason_more why)
reason_spaced (reason.Crc found wanted) = simp (append_assoc, append-nil) refl
reason_spaced (reason.Seq found wanted) = simp (append_assoc, append-nil) refl
reason_spaced (reason.BadKind word) = simp append-nil refl
reason_spaced (reason.Attribute index) = simp append-nil refl
reason_spaced reason.BadPath = refl
reason_spaced reason.Map = refl
reason_spaced (reason.Rest index) = simp append-nil refl
reason_spaced (reason.Exists kind) = simp append-nil refl
reason_spaced reason.NoParent = refl
reason_spaced reason.ParentIsFile = refl
reason_spaced (reason.Overlap unit) = simp append-nil refl

reason_is : (why : Reason) → IsOneWord (reason_first why)
reason_is (reason.Crc found wanted) = free (codes "crc") refl
reason_is (reason.Seq found wanted) = free (codes "sequence") refl
reason_is (reason.BadKind word) = free (codes "kind") refl
reason_is (reason.Attribute index) = free (codes "attribute") refl
reason_is reason.BadPath = free (codes "path") refl
reason_is reason.Map = free (codes "map") refl
reason_is (reason.Rest index) = free (codes "rest") refl
reason_is (reason.Exists kind) = free (codes "exists") refl
reason_is reason.NoParent = free (codes "no") refl
reason_is reason.ParentIsFile = free (codes "parent") refl
reason_is (reason.Overlap unit) = free (codes "overlap") refl

reason_are : (why : Reason) → IsTellingReason why → AreWords (reason_more why)
reason_are (reason.Crc found wanted) is = (decimal_word found is.0, (decimal_word wanted is.1, tt))
reason_are (reason.Seq found wanted) is = (decimal_word found is.0, (decimal_word wanted is.1, tt))
reason_are (reason.BadKind word) is = (decimal_word word is, tt)
reason_are (reason.Attribute index) is = (decimal_word index is, tt)
reason_are reason.BadPath is = tt
reason_are reason.Map is = tt
reason_are (reason.Rest index) is = (decimal_word index is, tt)
reason_are (reason.Exists kind) is = (kind_is kind, tt)
reason_are reason.NoParent is = (free (codes "parent") refl, tt)
reason_are reason.ParentIsFile is = (free (codes "is") refl, (free (codes "a") refl, (free (codes "file") refl, tt)))
reason_are (reason.Overlap unit) is = (decimal_word unit is, tt)

pub reason_reads : (why : Reason) (column end : ℕ) → IsTellingReason why → reason_line end (placed column (reason_first why ∷ reason_more why)) ≡ Reads why []
unfolding reason_line reason_word
reason_reads (reason.Crc found wanted) column end is = rw (number-decimal found is.0, number-decimal wanted is.1) refl
reason_reads (reason.Seq found wanted) column end is = rw (number-decimal found is.0, number-decimal wanted is.1) refl
reason_reads (reason.BadKind word) column end is = rw (number-decimal word is) refl
reason_reads (reason.Attribute index) column end is = rw (number-decimal index is) refl
reason_reads reason.BadPath column end is = refl
reason_reads reason.Map column end is = refl
reason_reads (reason.Rest index) column end is = rw (number-decimal index is) refl
reason_reads (reason.Exists kind) column end is = rw (kind_back kind) refl
reason_reads reason.NoParent column end is = refl
reason_reads reason.ParentIsFile column end is = refl
reason_reads (reason.Overlap unit) column end is = rw (number-decimal unit is) refl

-- Bytes.

digit_back : (n : ℕ) → n < 16 → hex_digit_value (hex_digit n) ≡ Some n
digit_back n small = grind (arith, nat_tests)

byte_back : (byte : ℕ) → byte < 256 → byte_of (hex_digit (byte / 16)) (hex_digit (byte % 16)) ≡ Some byte
byte_back byte small =
    rw (digit_back (byte / 16) (omega arith), digit_back (byte % 16) (omega arith)) (ap (λ (n : ℕ). Some n) (omega arith))

digit_free : (n : ℕ) → n < 16 → is_blank (hex_digit n) ≡ false
digit_free n small = grind (arith, nat_tests)

byte_is : (byte : ℕ) → byte < 256 → IsOneWord (byte_text byte)
byte_is byte small = (digit_free (byte / 16) (omega arith), (digit_free (byte % 16) (omega arith), tt))

pairs_free : (bytes : List ℕ) → AreBytes bytes → HasNoBlank (flat_map byte_text bytes)
pairs_free [] all = tt
pairs_free (b ∷ bytes) all = no_blank-append (byte_text b) (flat_map byte_text bytes) (byte_is b (All-head (λ b. b < 256) b bytes all)) (pairs_free bytes (All-tail (λ b. b < 256) b bytes all))

bytes_are : (bytes : List ℕ) → AreBytes bytes → IsOneWord (bytes_text bytes)
bytes_are [] all = free (codes "-") refl
bytes_are (b ∷ bytes) all = pairs_free (b ∷ bytes) all

pairs_back : (bytes : List ℕ) → AreBytes bytes → paired (flat_map byte_text bytes) ≡ Some bytes
pairs_back [] all = refl
pairs_back (b ∷ bytes) all =
    ap₂ (λ (o : Option ℕ) (l : Option (List ℕ)). in_prefix_of o l) (byte_back b (All-head (λ b. b < 256) b bytes all)) (pairs_back bytes (All-tail (λ b. b < 256) b bytes all))

no_dash : (a b : ℕ) (rest : List ℕ) → bytes_eq (a ∷ b ∷ rest) (45 ∷ []) ≡ false
no_dash a b rest = elim (a == 45) as (λ t. (t && false) ≡ false) [ true ↦ refl | false ↦ refl ]

bytes_back : (bytes : List ℕ) → AreBytes bytes → bytes_of_word (bytes_text bytes) ≡ Some bytes
unfolding bytes_of_word
bytes_back [] all = refl
bytes_back (b ∷ bytes) all =
    ap (λ (t : Bool). cond t (Some []) (paired (flat_map byte_text (b ∷ bytes)))) (no_dash (hex_digit (b / 16)) (hex_digit (b % 16)) (flat_map byte_text bytes))
    ∙ pairs_back (b ∷ bytes) all

-- Answers.

-- a path's word, or `-`
abbrev first_word : Option (List ℕ) → List ℕ
first_word None = codes "-"
first_word (Some path) = escaped path

first_is : (same : Bool) (first : Option (List ℕ)) → IfTellingPath same first → IsOneWord (first_word first)
first_is true None is = free (codes "-") refl
first_is true (Some path) is = path_word path is.0
first_is false None is = absurd is
first_is false (Some path) is = path_word path is

first_spaced : (first : Option (List ℕ)) → path_or_none first ≡ 32 ∷ first_word first
first_spaced None = refl
first_spaced (Some path) = refl

-- the first word of an answer
abbrev pub answer_first : ToldAnswer → List ℕ
answer_first (told.Ok seq) = codes "ok"
answer_first (told.NotAppended (cause.NotMaster me master)) = codes "not"
answer_first (told.NotAppended (cause.LongPath limit)) = codes "path"
answer_first (told.NotAppended cause.BadStripe) = codes "bad"
answer_first (told.NotAppended (cause.Exists kind)) = codes "exists"
answer_first (told.NotAppended cause.NoParent) = codes "no"
answer_first (told.NotAppended cause.ParentIsFile) = codes "parent"
answer_first (told.NotAppended (cause.LogFull slots)) = codes "log"
answer_first (told.NotAppended (cause.NoSpace units)) = codes "no"
answer_first (told.Played m) = codes "played"
answer_first (told.Mounted m) = codes "mounted"
answer_first (told.Same m) = codes "same"
answer_first (told.Differs m offset found wanted) = codes "differs"
answer_first (told.Length m size wanted) = codes "length"
answer_first (told.Bytes m bytes) = codes "bytes"
answer_first (told.NotFound m) = codes "not"
answer_first (told.IsDirectory m) = codes "is"
answer_first (told.Checked m checked) = codes "checked"
answer_first (told.Report true) = codes "fsck"
answer_first (told.Report false) = codes "fsck"
answer_first (told.NoSuperblock (NoSuper word)) = codes "no"
answer_first (told.NoSuperblock (BadSuper f found wanted)) = codes "bad"
answer_first (told.BadHeader (BadLog f found wanted)) = codes "bad"
answer_first (told.BadSlot seq why) = codes "bad"
answer_first (told.MediaFault at) = codes "media"

-- the words behind it
abbrev pub answer_more : ToldAnswer → List (List ℕ)
answer_more (told.Ok seq) = decimal seq ∷ []
answer_more (told.NotAppended (cause.NotMaster me master)) = codes "master" ∷ hyphenated_text lower me ∷ hyphenated_text lower master ∷ []
answer_more (told.NotAppended (cause.LongPath limit)) = codes "too" ∷ codes "long" ∷ decimal limit ∷ []
answer_more (told.NotAppended cause.BadStripe) = codes "stripe" ∷ []
answer_more (told.NotAppended (cause.Exists kind)) = kind_text kind ∷ []
answer_more (told.NotAppended cause.NoParent) = codes "parent" ∷ []
answer_more (told.NotAppended cause.ParentIsFile) = codes "is" ∷ codes "a" ∷ codes "file" ∷ []
answer_more (told.NotAppended (cause.LogFull slots)) = codes "full" ∷ decimal slots ∷ []
answer_more (told.NotAppended (cause.NoSpace units)) = codes "space" ∷ decimal units ∷ []
answer_more (told.Played m) = decimal m ∷ []
answer_more (told.Mounted m) = decimal m ∷ []
answer_more (told.Same m) = decimal m ∷ []
answer_more (told.Differs m offset found wanted) = decimal m ∷ decimal offset ∷ byte_text found ∷ byte_text wanted ∷ []
answer_more (told.Length m size wanted) = codes "differs" ∷ decimal m ∷ decimal size ∷ decimal wanted ∷ []
answer_more (told.Bytes m bytes) = decimal m ∷ bytes_text bytes ∷ []
answer_more (told.NotFound m) = codes "found" ∷ decimal m ∷ []
answer_more (told.IsDirectory m) = codes "a" ∷ codes "directory" ∷ decimal m ∷ []
answer_more (told.Checked m checked) = decimal m ∷ codes "missing" ∷ decimal checked.missing ∷ codes "extra" ∷ decimal checked.extra ∷ codes "changed"
    ∷ decimal checked.changed ∷ codes "first" ∷ first_word checked.first ∷ []
answer_more (told.Report true) = codes "sound" ∷ []
answer_more (told.Report false) = codes "damaged" ∷ []
answer_more (told.NoSuperblock (NoSuper word)) = codes "superblock" ∷ decimal word ∷ []
answer_more (told.NoSuperblock (BadSuper f found wanted)) = codes "superblock" ∷ super_field_text f ∷ decimal found ∷ decimal wanted ∷ []
answer_more (told.BadHeader (BadLog f found wanted)) = codes "log" ∷ log_field_text f ∷ decimal found ∷ decimal wanted ∷ []
answer_more (told.BadSlot seq why) = codes "entry" ∷ decimal seq ∷ reason_first why ∷ reason_more why
answer_more (told.MediaFault at) = codes "fault" ∷ decimal at ∷ []

pub answer_spaced : (given : ToldAnswer) → told_answer_text given ≡ answer_first given ++ spaced (answer_more given)
answer_spaced (told.Ok seq) = simp append-nil refl
answer_spaced (told.NotAppended (cause.NotMaster me master)) = simp (append_assoc, append-nil) refl
answer_spaced (told.NotAppended (cause.LongPath limit)) = simp append-nil refl
answer_spaced (told.NotAppended cause.BadStripe) = refl
answer_spaced (told.NotAppended (cause.Exists kind)) = simp append-nil refl
answer_spaced (told.NotAppended cause.NoParent) = refl
answer_spaced (told.NotAppended cause.ParentIsFile) = refl
answer_spaced (told.NotAppended (cause.LogFull slots)) = simp append-nil refl
answer_spaced (told.NotAppended (cause.NoSpace units)) = simp append-nil refl
answer_spaced (told.Played m) = simp append-nil refl
answer_spaced (told.Mounted m) = simp append-nil refl
answer_spaced (told.Same m) = simp append-nil refl
answer_spaced (told.Differs m offset found wanted) =
    seven (codes "differs") (number m) (number offset) (codes " ") (byte_text found) (codes " ") (byte_text wanted)
answer_spaced (told.Length m size wanted) =
    four (codes "length differs") (number m) (number size) (number wanted)
    ∙ ap (λ (l : List ℕ). codes "length differs" ++ (number m ++ (number size ++ (32 ∷ l)))) (sym (append-nil (decimal wanted)))
answer_spaced (told.Bytes m bytes) =
    four (codes "bytes") (number m) (codes " ") (bytes_text bytes)
    ∙ ap (λ (l : List ℕ). codes "bytes" ++ (number m ++ (32 ∷ l))) (sym (append-nil (bytes_text bytes)))
answer_spaced (told.NotFound m) = simp append-nil refl
answer_spaced (told.IsDirectory m) = simp append-nil refl
answer_spaced (told.Checked m checked) =
    ten (codes "checked") (number m) (codes " missing") (number checked.missing) (codes " extra") (number checked.extra) (codes " changed") (number checked.changed) (codes " first")
    (path_or_none checked.first)
    ∙ ap (λ (l : List ℕ). codes "checked"
    ++ (number m ++ (codes " missing"
    ++ (number checked.missing ++ (codes " extra"
    ++ (number checked.extra ++ (codes " changed" ++ (number checked.changed ++ (codes " first" ++ l)))))))))
    (first_spaced checked.first ∙ ap (λ (l : List ℕ). 32 ∷ l) (sym (append-nil (first_word checked.first))))
answer_spaced (told.Report true) = refl
answer_spaced (told.Report false) = refl
answer_spaced (told.NoSuperblock (NoSuper word)) = simp append-nil refl
answer_spaced (told.NoSuperblock (BadSuper f found wanted)) = simp (append_assoc, append-nil) refl
answer_spaced (told.BadHeader (BadLog f found wanted)) = simp (append_assoc, append-nil) refl
answer_spaced (told.BadSlot seq why) = ap (λ (l : List ℕ). codes "bad entry " ++ (decimal seq ++ (codes " " ++ l))) (reason_spaced why)
answer_spaced (told.MediaFault at) = simp append-nil refl

pub answer_is : (given : ToldAnswer) → IsOneWord (answer_first given)
answer_is (told.Ok seq) = free (codes "ok") refl
answer_is (told.NotAppended (cause.NotMaster me master)) = free (codes "not") refl
answer_is (told.NotAppended (cause.LongPath limit)) = free (codes "path") refl
answer_is (told.NotAppended cause.BadStripe) = free (codes "bad") refl
answer_is (told.NotAppended (cause.Exists kind)) = free (codes "exists") refl
answer_is (told.NotAppended cause.NoParent) = free (codes "no") refl
answer_is (told.NotAppended cause.ParentIsFile) = free (codes "parent") refl
answer_is (told.NotAppended (cause.LogFull slots)) = free (codes "log") refl
answer_is (told.NotAppended (cause.NoSpace units)) = free (codes "no") refl
answer_is (told.Played m) = free (codes "played") refl
answer_is (told.Mounted m) = free (codes "mounted") refl
answer_is (told.Same m) = free (codes "same") refl
answer_is (told.Differs m offset found wanted) = free (codes "differs") refl
answer_is (told.Length m size wanted) = free (codes "length") refl
answer_is (told.Bytes m bytes) = free (codes "bytes") refl
answer_is (told.NotFound m) = free (codes "not") refl
answer_is (told.IsDirectory m) = free (codes "is") refl
answer_is (told.Checked m checked) = free (codes "checked") refl
answer_is (told.Report true) = free (codes "fsck") refl
answer_is (told.Report false) = free (codes "fsck") refl
answer_is (told.NoSuperblock (NoSuper word)) = free (codes "no") refl
answer_is (told.NoSuperblock (BadSuper f found wanted)) = free (codes "bad") refl
answer_is (told.BadHeader (BadLog f found wanted)) = free (codes "bad") refl
answer_is (told.BadSlot seq why) = free (codes "bad") refl
answer_is (told.MediaFault at) = free (codes "media") refl

pub answer_are : (given : ToldAnswer) → IsTellingAnswer given → AreWords (answer_more given)
answer_are (told.Ok seq) is = (decimal_word seq is, tt)
answer_are (told.NotAppended (cause.NotMaster me master)) is = (free (codes "master") refl, (uuid_is_word me, (uuid_is_word master, tt)))
answer_are (told.NotAppended (cause.LongPath limit)) is = (free (codes "too") refl, (free (codes "long") refl, (decimal_word limit is, tt)))
answer_are (told.NotAppended cause.BadStripe) is = (free (codes "stripe") refl, tt)
answer_are (told.NotAppended (cause.Exists kind)) is = (kind_is kind, tt)
answer_are (told.NotAppended cause.NoParent) is = (free (codes "parent") refl, tt)
answer_are (told.NotAppended cause.ParentIsFile) is = (free (codes "is") refl, (free (codes "a") refl, (free (codes "file") refl, tt)))
answer_are (told.NotAppended (cause.LogFull slots)) is = (free (codes "full") refl, (decimal_word slots is, tt))
answer_are (told.NotAppended (cause.NoSpace units)) is = (free (codes "space") refl, (decimal_word units is, tt))
answer_are (told.Played m) is = (decimal_word m is, tt)
answer_are (told.Mounted m) is = (decimal_word m is, tt)
answer_are (told.Same m) is = (decimal_word m is, tt)
answer_are (told.Differs m offset found wanted) is = (decimal_word m is.0, (decimal_word offset is.1, (byte_is found is.2, (byte_is wanted is.3, tt))))
answer_are (told.Length m size wanted) is = (free (codes "differs") refl, (decimal_word m is.0, (decimal_word size is.1, (decimal_word wanted is.2, tt))))
answer_are (told.Bytes m bytes) is = (decimal_word m is.0, (bytes_are bytes is.1, tt))
answer_are (told.NotFound m) is = (free (codes "found") refl, (decimal_word m is, tt))
answer_are (told.IsDirectory m) is = (free (codes "a") refl, (free (codes "directory") refl, (decimal_word m is, tt)))
answer_are (told.Checked m checked) is = (
  decimal_word m is.0,
  (
    free
        (codes "missing") refl,
    (
      decimal_word checked.missing is.1.missing,
      (
        free
            (codes "extra") refl,
        (
          decimal_word checked.extra is.1.extra,
          (
            free
                (codes "changed") refl,
            (decimal_word checked.changed is.1.changed, (free (codes "first") refl, (first_is (none_differs checked.missing checked.extra checked.changed) checked.first is.1.first, tt))),
          ),
        ),
      ),
    ),
  ),
)
answer_are (told.Report true) is = (free (codes "sound") refl, tt)
answer_are (told.Report false) is = (free (codes "damaged") refl, tt)
answer_are (told.NoSuperblock (NoSuper word)) is = (free (codes "superblock") refl, (decimal_word word is, tt))
answer_are (told.NoSuperblock (BadSuper f found wanted)) is = (free (codes "superblock") refl, (super_is f, (decimal_word found is.0, (decimal_word wanted is.1, tt))))
answer_are (told.BadHeader (BadLog f found wanted)) is = (free (codes "log") refl, (log_is f, (decimal_word found is.0, (decimal_word wanted is.1, tt))))
answer_are (told.BadSlot seq why) is = (free (codes "entry") refl, (decimal_word seq is.0, (reason_is why, reason_are why is.1)))
answer_are (told.MediaFault at) is = (free (codes "fault") refl, (decimal_word at is, tt))

-- a path that isn't `-` isn't printed so
not_dash : (path : List ℕ) → is_path path ≡ true → path ≢ 45 ∷ [] → bytes_eq (escaped path) (45 ∷ []) ≡ false
not_dash path is other = cases (bytes_eq (escaped path) (45 ∷ [])) refl
  where
    only : escaped path ≡ 45 ∷ [] → path ≡ 45 ∷ []
    only e = same_Some path (45 ∷ []) (sym (unescaped-escaped path (path_bytes path is)) ∙ ap unescaped e)

    cases : (t : Bool) → bytes_eq (escaped path) (45 ∷ []) ≡ t → bytes_eq (escaped path) (45 ∷ []) ≡ false
    cases false e = e
    cases true e = absurd (other (only ((bytes_eq-Decides (escaped path) (45 ∷ [])).0 e)))

first_reads : (same : Bool) (first : Option (List ℕ)) (column end : ℕ) → IfTellingPath same first
    → reads_path end same (record { column = column; text = first_word first } ∷ []) ≡ Reads first []
first_reads true None column end is = refl
first_reads true (Some path) column end is = rw (not_dash path is.0 is.1, path-escaped path is.0) refl
first_reads false None column end is = absurd is
first_reads false (Some path) column end is = rw (path-escaped path is) refl

-- the column of the word behind a first one
abbrev pub past : ℕ → List ℕ → ℕ
past column text = column + length text + 1

checked_reads : (m : ℕ) (checked : Checked) (column end : ℕ) → IsTellingAnswer (told.Checked m checked)
    → answer_line end (placed column (answer_first (told.Checked m checked) ∷ answer_more (told.Checked m checked))) ≡ Reads (told.Checked m checked) []
unfolding answer_line answer_word
checked_reads m checked column end is =
    let missing : ℕ = past (past column (codes "checked")) (decimal m) in
    let extra : ℕ = past (past missing (codes "missing")) (decimal checked.missing) in
    let changed : ℕ = past (past extra (codes "extra")) (decimal checked.extra) in
    let first : ℕ = past (past changed (codes "changed")) (decimal checked.changed) in
    rw (
      number-decimal m is.0,
      number-decimal checked.missing is.1.missing,
      number-decimal checked.extra is.1.extra,
      number-decimal checked.changed is.1.changed,
      first_reads (none_differs checked.missing checked.extra checked.changed) checked.first
          (past first (codes "first")) end is.1.first,
    ) refl

slot_reads : (seq : ℕ) (why : Reason) (column end : ℕ) → IsTellingAnswer (told.BadSlot seq why)
    → answer_line end (placed column (answer_first (told.BadSlot seq why) ∷ answer_more (told.BadSlot seq why))) ≡ Reads (told.BadSlot seq why) []
unfolding answer_line answer_word
slot_reads seq why column end is =
    rw (number-decimal seq is.0, reason_reads why (past (past (past column (codes "bad")) (codes "entry")) (decimal seq)) end is.1) refl

words_read : (given : ToldAnswer) (column end : ℕ) → IsTellingAnswer given
    → answer_line end (placed column (answer_first given ∷ answer_more given)) ≡ Reads given []
unfolding answer_line answer_word
words_read (told.Ok seq) column end is = rw (number-decimal seq is) refl
words_read (told.NotAppended (cause.NotMaster me master)) column end is = rw (uuid_back me is.0, uuid_back master is.1) refl
words_read (told.NotAppended (cause.LongPath limit)) column end is = rw (number-decimal limit is) refl
words_read (told.NotAppended cause.BadStripe) column end is = refl
words_read (told.NotAppended (cause.Exists kind)) column end is = rw (kind_back kind) refl
words_read (told.NotAppended cause.NoParent) column end is = refl
words_read (told.NotAppended cause.ParentIsFile) column end is = refl
words_read (told.NotAppended (cause.LogFull slots)) column end is = rw (number-decimal slots is) refl
words_read (told.NotAppended (cause.NoSpace units)) column end is = rw (number-decimal units is) refl
words_read (told.Played m) column end is = rw (number-decimal m is) refl
words_read (told.Mounted m) column end is = rw (number-decimal m is) refl
words_read (told.Same m) column end is = rw (number-decimal m is) refl
words_read (told.Differs m offset found wanted) column end is = rw (number-decimal m is.0, number-decimal offset is.1, byte_back found is.2, byte_back wanted is.3) refl
words_read (told.Length m size wanted) column end is = rw (number-decimal m is.0, number-decimal size is.1, number-decimal wanted is.2) refl
words_read (told.Bytes m bytes) column end is = rw (number-decimal m is.0, bytes_back bytes is.1) refl
words_read (told.NotFound m) column end is = rw (number-decimal m is) refl
words_read (told.IsDirectory m) column end is = rw (number-decimal m is) refl
words_read (told.Checked m checked) column end is = checked_reads m checked column end is
words_read (told.Report true) column end is = refl
words_read (told.Report false) column end is = refl
words_read (told.NoSuperblock (NoSuper word)) column end is = rw (number-decimal word is) refl
words_read (told.NoSuperblock (BadSuper f found wanted)) column end is = rw (super_back f, number-decimal found is.0, number-decimal wanted is.1) refl
words_read (told.BadHeader (BadLog f found wanted)) column end is = rw (log_back f, number-decimal found is.0, number-decimal wanted is.1) refl
words_read (told.BadSlot seq why) column end is = slot_reads seq why column end is
words_read (told.MediaFault at) column end is = rw (number-decimal at is) refl

-- the words of an answer's first line
pub answer_words : (given : ToldAnswer) (column : ℕ) → IsTellingAnswer given → words_from column (told_answer_text given) ≡ placed column (answer_first given ∷ answer_more given)
answer_words given column is =
    placed_words column (told_answer_text given) (answer_first given) (answer_more given) (answer_spaced given) (answer_is given, answer_are given is)

-- the first line of an answer reads as what it tells
pub answer_reads : (given : ToldAnswer) (column end : ℕ) → IsTellingAnswer given → answer_line end (words_from column (told_answer_text given)) ≡ Reads given []
answer_reads given column end is = ap (answer_line end) (answer_words given column is) ∙ words_read given column end is

-- The text of an answer: its first line, and the lines that follow.

first_same : (same : Bool) (first : Option (List ℕ)) → path_or_none first ≡ path_or_none (first_told same first)
unfolding escaped
first_same false None = refl
first_same false (Some path) = refl
first_same true None = refl
first_same true (Some []) = refl
first_same true (Some (a ∷ b ∷ rest)) = refl
first_same true (Some (a ∷ [])) = cases (a == 45) refl
  where
    cases : (t : Bool) → (a == 45) ≡ t → path_or_none (Some (a ∷ [])) ≡ path_or_none (cond (a == 45) None (Some (a ∷ [])))
    cases true e =
        ap (λ (b : ℕ). name_text (b ∷ [])) ((Decides-eqb a 45).0 e) ∙ ap (λ (t : Bool). path_or_none (cond t None (Some (a ∷ [])))) (sym e)
    cases false e = ap (λ (t : Bool). path_or_none (cond t None (Some (a ∷ [])))) (sym e)

-- a first path of entries is told as it is
found_told : (path : List ℕ) (entries : List Entry) → path_told (fold lesser (Some path) entries) ≡ fold lesser (Some path) entries
found_told path [] = refl
found_told path (e ∷ entries) = found_told (lesser_by (path_cmp path e.path) path e.path) entries

some_count : (n : ℕ) → (suc n == 0) ≡ false
some_count n = grind (arith, nat_tests)

least_told : (a b c : List Entry) → first_told (none_differs (length a) (length b) (length c)) (least_path (a ++ b ++ c)) ≡ least_path (a ++ b ++ c)
least_told [] [] [] = refl
least_told (e ∷ a) b c =
    ap (λ (t : Bool). first_told (t && (length b == 0) && (length c == 0)) (least_path (e ∷ a ++ b ++ c))) (some_count (length a)) ∙ found_told e.path (a ++ b ++ c)
least_told [] (e ∷ b) c = ap (λ (t : Bool). first_told (t && (length c == 0)) (least_path (e ∷ b ++ c))) (some_count (length b)) ∙ found_told e.path (b ++ c)
least_told [] [] (e ∷ c) = ap (λ (t : Bool). first_told t (least_path (e ∷ c))) (some_count (length c)) ∙ found_told e.path c

-- what a check answers is told whole
pub check_told : (tree : Tree) (listing : List Entry) → checked_told (checked tree listing) ≡ checked tree listing
unfolding checked
check_told tree listing =
    ap (λ (first : Option (List ℕ)). record (checked tree listing) { first = first }) (least_told (missing_from tree listing) (extra_in tree listing) (changed_in tree listing))

alone : (text : List ℕ) → line text ≡ line text ++ []
alone text = sym (append-nil (line text))

-- what is told of an answer prints as its first line
pub answer_prints : (answer : Answer) → answer_text answer ≡ line (told_answer_text (answer_told answer)) ++ answer_lines answer
answer_prints (MediaFault at) = alone (fault_text at)
answer_prints (Replied (reply.Appended seq)) = alone (codes "ok" ++ number seq)
answer_prints (Replied (reply.NotAppended why)) = alone (cause_text why)
answer_prints (Replied (reply.Played m tree)) = refl
answer_prints (Replied (reply.Mounted m)) = alone (codes "mounted" ++ number m)
answer_prints (Replied (reply.Same m)) = alone (codes "same" ++ number m)
answer_prints (Replied (reply.Differs m offset found wanted)) = alone (codes "differs" ++ number m ++ number offset ++ codes " " ++ byte_text found ++ codes " " ++ byte_text wanted)
answer_prints (Replied (reply.Length m size wanted)) = alone (codes "length differs" ++ number m ++ number size ++ number wanted)
answer_prints (Replied (reply.Bytes m bytes)) = alone (codes "bytes" ++ number m ++ codes " " ++ bytes_text bytes)
answer_prints (Replied (reply.NotFound m)) = alone (codes "not found" ++ number m)
answer_prints (Replied (reply.IsDirectory m)) = alone (codes "is a directory" ++ number m)
answer_prints (Replied (reply.Checks m checked)) =
    ap (λ (l : List ℕ). line
    (codes "checked" ++ number m ++ codes " missing" ++ number checked.missing ++ codes " extra" ++ number checked.extra ++ codes " changed"
    ++ number checked.changed ++ codes " first" ++ l)) (first_same (none_differs checked.missing checked.extra checked.changed) checked.first)
    ∙ alone (checked_text m (checked_told checked))
answer_prints (Replied (reply.Reports r)) =
    eight (line (told_answer_text (answer_told (Replied (reply.Reports r))))) (line (super_state_text r.superblock)) (line (log_state_text r.log))
    (line (codes "files" ++ number r.files ++ codes " directories" ++ number r.directories)) (line (codes "units used" ++ number r.used ++ codes " free" ++ number r.free))
    (line (overlap_text r.overlap)) (line (bad_text r.bad)) (line (codes "past gate" ++ number r.past))
answer_prints (Replied (reply.NoSuperblock fault)) = alone (super_text fault)
answer_prints (Replied (reply.BadHeader fault)) = alone (log_text fault)
answer_prints (Replied (reply.BadSlot seq why)) = alone (slot_text seq why)
