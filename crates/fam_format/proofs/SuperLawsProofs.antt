-- What ties the definitions of superblock and header together.
use Rattle.std.proofs.Common.{◌≡◌, ℕ, zero, suc, ◌+◌, ◌<◌, ◌≤◌, Bool, true, false, eqb, ltb, cond, List, [], ◌∷◌, ◌++◌, length, take, drop, get_or, Option, Some, None, Result, Ok, refl, sym, ap, subst, ◌∙◌, arith}
use Rattle.std.proofs.lemmas.Bool.{eqb-true}
use Rattle.std.proofs.lemmas.Bool.Decides.{nat_tests}
use Rattle.std.proofs.lemmas.List.FromFn.{fill_by_all}
use Rattle.std.proofs.lemmas.List.{take_all, take_more, get_or-take, get_or-drop}
use Rattle.std.proofs.Math.Seq.{take-append_seam}
use Rattle.fam_base.specs.declared.entry.Params.{Params}
use Rattle.fam_crc.specs.Crc.{crc32, bytes_of_words}
use Rattle.fam_format.specs.Layout.{device_limit, log_offset}
use Rattle.fam_format.specs.Words.{word_of_bytes, bytes_from, uuid_bytes}
use Rattle.fam_format.specs.Params.{SoundParams, is_format, is_unit, is_log_length, need}
use Rattle.fam_format.specs.Stop.{stop}
use Rattle.fam_format.specs.Super.{magic, magic_fault, crc_fault, version_fault, offset_fault, unit_fault, length_fault, device_fault, small_fault, used_word, rest_fault, super_body, super_words, params_of, super_body_of, super_of}
use Rattle.fam_format.specs.SuperLaws.{IsSuper, IsWords}
use Rattle.fam_format.proofs.Stops.{same_if_none}
use Rattle.fam_format.proofs.UuidWords.{uuid_back, uuid_read}
use Rattle.fam_format.proofs.WordRounds.{word_back}

-- Tests in an order.

-- a test that names no fault lets what comes behind decide
pub behind_stop : {T E : Type 0} (fault : Option E) (next : Result T E) (x : Result T E) → fault ≡ None → next ≡ x → stop fault next ≡ x
behind_stop fault next x none is = rw none is

-- where something is read the test named no fault
pub no_stop : {T E : Type 0} (fault : Option E) (next : Result T E) (x : T) → stop fault next ≡ Ok x → (fault ≡ None) × (next ≡ Ok x)
no_stop None next x is = (refl, is)
no_stop (Some fault) next x is = cc

-- a number is itself
pub same_number : (n : ℕ) → eqb n n ≡ true
same_number n = grind (arith, nat_tests)

-- The checksum.

-- the word behind a list
pub word_behind : (body : List ℕ) (word : ℕ) → get_or (body ++ word ∷ []) (length body) 0 ≡ word
word_behind [] word = refl
word_behind (x ∷ body) word = word_behind body word

-- the words before it
words_before : (n : ℕ) (body : List ℕ) (word : ℕ) → length body ≡ n → take n (body ++ word ∷ []) ≡ body
words_before n body word len = ap (λ (k : ℕ). take k (body ++ word ∷ [])) (sym len) ∙ take-append_seam body (word ∷ [])

-- n words with their checksum behind them pass
pub crc_passes : (n : ℕ) (body : List ℕ) → length body ≡ n
    → eqb (get_or (body ++ crc32 (bytes_of_words body) ∷ []) n 0) (crc32 (bytes_of_words (take n (body ++ crc32 (bytes_of_words body) ∷ [])))) ≡ true
crc_passes n body len =
    let crc : ℕ = crc32 (bytes_of_words body) in
    let word : get_or (body ++ crc ∷ []) n 0 ≡ crc = ap (λ (k : ℕ). get_or (body ++ crc ∷ []) k 0) (sym len) ∙ word_behind body crc in
    rw (word, words_before n body crc len) (same_number crc)

-- What is spelled is read.

-- parameters are their fields
same_params : (p : Params) (format log_length slots unit device : ℕ) (fs master : List ℕ) → format ≡ p.format → log_length ≡ p.log_length
    → slots ≡ p.slots → unit ≡ p.unit → device ≡ p.device → fs ≡ p.fs
    → master ≡ p.master → record { format = format; log_length = log_length; slots = slots; unit = unit; device = device; fs = fs; master = master } ≡ p
same_params p v l s u d f m ev el es eu ed ef em = rw (ev, el, es, eu, ed, ef, em) refl

-- the spelling of sound parameters, test by test
module _ (p : Params) (sound : SoundParams p) where
  -- the checksum stands behind the words that it is of
  crc_none : crc_fault (super_words p) ≡ None
  unfolding super_words
  crc_none = rw (crc_passes 15 (super_body p) refl) refl

  -- the unit is one
  unit_none : unit_fault (super_words p) ≡ None
  unfolding super_words
  unit_none = rw sound.unit refl

  -- the log is whole units
  length_none : length_fault (super_words p) ≡ None
  unfolding super_words
  length_none = rw sound.log_length refl

  -- the image has the device
  device_none : (have : ℕ) → p.device ≤ have → device_fault (super_words p) have ≡ None
  unfolding super_words
  device_none have fits = grind (arith, nat_tests)

  -- the device has superblock, log and a unit
  small_none : small_fault (super_words p) ≡ None
  unfolding super_words
  small_none = let h = sound.need in grind (arith, nat_tests)

  -- the version is a format's
  version_none : version_fault (super_words p) ≡ None
  unfolding super_words
  version_none = rw sound.format refl

  -- the log begins where it has to
  offset_none : offset_fault (super_words p) ≡ None
  unfolding super_words
  offset_none = refl

  -- the unused words are zeros
  rest_none : rest_fault (super_words p) ≡ None
  unfolding super_words
  rest_none = refl

  -- the file system's UUID comes back
  fs_back : bytes_from 5 (super_words p) uuid_bytes ≡ p.fs
  unfolding super_words
  fs_back = uuid_back 5 (super_words p) p.fs sound.fs refl refl

  -- and the master's
  master_back : bytes_from 7 (super_words p) uuid_bytes ≡ p.master
  unfolding super_words
  master_back = uuid_back 7 (super_words p) p.master sound.master refl refl

  -- the fields come back
  params_back : params_of (super_words p) ≡ p
  unfolding params_of super_words
  params_back = same_params p _ _ _ _ _ _ _ refl refl (sym sound.slots) refl refl fs_back master_back

  -- what is spelled is read on each image that has the device
  pub read_spelling : (have : ℕ) → p.device ≤ have → super_of magic (super_words p) have ≡ Ok p
  unfolding super_of super_body_of
  read_spelling have fits =
      behind_stop _ _ _ crc_none
      (behind_stop _ _ _ version_none
      (behind_stop _ _ _ offset_none
      (behind_stop _ _ _ unit_none
      (behind_stop _ _ _ length_none
      (behind_stop _ _ _ (device_none have fits)
      (behind_stop _ _ _ small_none
      (behind_stop _ _ _ rest_none (ap Ok params_back))))))))

-- equal spellings are read alike
pub unique_spelling : (p q : Params) → SoundParams p → SoundParams q → super_words p ≡ super_words q → p ≡ q
unique_spelling p q sound_p sound_q same =
    let have : ℕ = p.device + q.device in
    let read_p : super_of magic (super_words p) have ≡ Ok p = read_spelling p sound_p have (omega arith) in
    let read_q : super_of magic (super_words q) have ≡ Ok q = read_spelling q sound_q have (omega arith) in
    let both : Ok p ≡ Ok q = sym read_p ∙ ap (λ (w : List ℕ). super_of magic w have) same ∙ read_q in
    cc

-- What is read is spelled.

-- where a test finds nothing it holds
pub true_none : {E : Type 0} (test : Bool) (fault : E) → cond test None (Some fault) ≡ None → test ≡ true
true_none true fault none = refl
true_none false fault none = cc

-- where a test for less finds nothing, it isn't less
pub least_none : {E : Type 0} (x y : ℕ) (fault : E) → cond (ltb x y) (Some fault) None ≡ None → y ≤ x
least_none x y fault none = grind (arith, nat_tests)

-- a test, and what comes behind it, find nothing
both_none : {E : Type 0} (test : Bool) (next : Option E) (fault : E) → cond test next (Some fault) ≡ None → (test ≡ true) × (next ≡ None)
both_none true next fault none = (refl, none)
both_none false next fault none = cc

-- words without a used one are zeros
pub unused_none : (w : List ℕ) → used_word w ≡ None → (i : ℕ) → get_or w i 0 ≡ 0
unused_none [] none i = refl
unused_none (word ∷ more) none zero = eqb-true word 0 (both_none (eqb word 0) (used_word more) _ none).0
unused_none (word ∷ more) none (suc i) = unused_none more (both_none (eqb word 0) (used_word more) _ none).1 i

-- what each test says where the superblock is read
record Passed (word : ℕ) (w : List ℕ) (have : ℕ) (p : Params) : Type 0 where
  magic : magic_fault word ≡ None
  crc : crc_fault w ≡ None
  version : version_fault w ≡ None
  offset : offset_fault w ≡ None
  unit : unit_fault w ≡ None
  log_length : length_fault w ≡ None
  device : device_fault w have ≡ None
  small : small_fault w ≡ None
  rest : rest_fault w ≡ None
  params : params_of w ≡ p

-- each test in the order of the table
passed : (word : ℕ) (w : List ℕ) (have : ℕ) (p : Params) → super_of word w have ≡ Ok p → Passed word w have p
unfolding super_of super_body_of
passed word w have p read =
    let magic = no_stop _ _ _ read in
    let crc = no_stop _ _ _ magic.1 in
    let version = no_stop _ _ _ crc.1 in
    let offset = no_stop _ _ _ version.1 in
    let unit = no_stop _ _ _ offset.1 in
    let log_length = no_stop _ _ _ unit.1 in
    let device = no_stop _ _ _ log_length.1 in
    let small = no_stop _ _ _ device.1 in
    let rest = no_stop _ _ _ small.1 in
    let params : params_of w ≡ p = cc (rest.1) in
    record {
      magic = magic.0;
      crc = crc.0;
      version = version.0;
      offset = offset.0;
      unit = unit.0;
      log_length = log_length.0;
      device = device.0;
      small = small.0;
      rest = rest.0;
      params = params;
    }

-- sixteen words by their places
sixteen : (w : List ℕ) → length w ≡ 16
    → w ≡ get_or w 0 0 ∷ get_or w 1 0 ∷ get_or w 2 0 ∷ get_or w 3 0 ∷ get_or w 4 0 ∷ get_or w 5 0 ∷ get_or w 6 0 ∷ get_or w 7 0 ∷ get_or w 8 0 ∷
    get_or w 9 0 ∷ get_or w 10 0 ∷ get_or w 11 0 ∷ get_or w 12 0 ∷ get_or w 13 0 ∷ get_or w 14 0 ∷ get_or w 15 0 ∷ []
sixteen w count = fill_by_all (λ (k : ℕ). get_or w k 0) w 16 0 count (λ k below. refl)

-- a body and its checksum
abbrev pub checked : List ℕ → List ℕ
checked body = body ++ crc32 (bytes_of_words body) ∷ []

-- words whose last one is the checksum of those before
pub with_crc : (n : ℕ) (w : List ℕ) → length w ≡ n + 1 → get_or w n 0 ≡ crc32 (bytes_of_words (take n w)) → w ≡ checked (take n w)
with_crc n w count crc =
    let last : take (n + 1) w ≡ take n w ++ get_or w n 0 ∷ [] = take_more w n 0 (omega arith) in
    let all : take (n + 1) w ≡ w = take_all (n + 1) w (omega arith) in
    sym all ∙ last ∙ ap (λ (word : ℕ). take n w ++ word ∷ []) crc

-- words 1 to 6 of line 2 are zeros
rest_zero : (w : List ℕ) → rest_fault w ≡ None → (i : ℕ) → i < 6 → get_or w (9 + i) 0 ≡ 0
rest_zero w none i below = sym (get_or-take 6 (drop 9 w) i 0 below ∙ get_or-drop 9 w i 0) ∙ unused_none (take 6 (drop 9 w)) none i

-- words on which each test passes
module _ (word : ℕ) (w : List ℕ) (have : ℕ) (p : Params) (is : IsWords 16 w) (limit : have ≤ device_limit) (pass : Passed word w have p) where
  -- what is told is sound
  sound_told : SoundParams (params_of w)
  unfolding params_of
  sound_told = record {
    format = true_none (is_format (get_or w 0 0)) _ pass.version;
    unit = true_none (is_unit (get_or w 3 0)) _ pass.unit;
    log_length = true_none (is_log_length (get_or w 3 0) (get_or w 2 0)) _ pass.log_length;
    slots = refl;
    need = least_none (get_or w 4 0) (need (get_or w 2 0) (get_or w 3 0)) _ pass.small;
    device = omega (arith, least_none have (get_or w 4 0) _ pass.device);
    fs = uuid_read 5 w;
    master = uuid_read 7 w;
  }

  -- the image has the device that is modelled
  device_told : (params_of w).device ≤ have
  unfolding params_of
  device_told = least_none have (get_or w 4 0) _ pass.device

  -- the words before the checksum are those of what is told
  body_told : take 15 w ≡ super_body (params_of w)
  unfolding params_of
  body_told =
      let places = ap (take 15) (sixteen w is.count) in
      let offset : get_or w 1 0 ≡ log_offset = same_if_none _ _ _ pass.offset in
      let fs_low : word_of_bytes (bytes_from 5 w uuid_bytes) 0 ≡ get_or w 5 0 = word_back 5 w uuid_bytes 0 (omega arith) (is.fits 5) in
      let fs_high : word_of_bytes (bytes_from 5 w uuid_bytes) 1 ≡ get_or w 6 0 = word_back 5 w uuid_bytes 1 (omega arith) (is.fits 6) in
      let master_low : word_of_bytes (bytes_from 7 w uuid_bytes) 0 ≡ get_or w 7 0 = word_back 7 w uuid_bytes 0 (omega arith) (is.fits 7) in
      let master_high : word_of_bytes (bytes_from 7 w uuid_bytes) 1 ≡ get_or w 8 0 = word_back 7 w uuid_bytes 1 (omega arith) (is.fits 8) in
      let zero_9 : get_or w 9 0 ≡ 0 = rest_zero w pass.rest 0 (omega arith) in
      let zero_10 : get_or w 10 0 ≡ 0 = rest_zero w pass.rest 1 (omega arith) in
      let zero_11 : get_or w 11 0 ≡ 0 = rest_zero w pass.rest 2 (omega arith) in
      let zero_12 : get_or w 12 0 ≡ 0 = rest_zero w pass.rest 3 (omega arith) in
      let zero_13 : get_or w 13 0 ≡ 0 = rest_zero w pass.rest 4 (omega arith) in
      let zero_14 : get_or w 14 0 ≡ 0 = rest_zero w pass.rest 5 (omega arith) in
      places ∙ rw (offset, fs_low, fs_high, master_low, master_high, zero_9, zero_10, zero_11, zero_12, zero_13, zero_14) refl

  -- and so are all words
  words_told : w ≡ super_words (params_of w)
  unfolding super_words
  words_told = with_crc 15 w is.count (same_if_none _ _ _ pass.crc) ∙ ap checked body_told

  -- so the superblock is the one of what was read
  spelled : IsSuper word w have p
  spelled =
      let first : word ≡ magic = same_if_none _ _ _ pass.magic in
      subst (λ (q : Params). IsSuper word w have q) pass.params record { first = first; words = words_told; sound = sound_told; device = device_told }

-- words that are read are a superblock
pub read_spelled : (word : ℕ) (w : List ℕ) (have : ℕ) (p : Params) → IsWords 16 w → have ≤ device_limit → super_of word w have ≡ Ok p → IsSuper word w have p
read_spelled word w have p is limit read = spelled word w have p is limit (passed word w have p read)
