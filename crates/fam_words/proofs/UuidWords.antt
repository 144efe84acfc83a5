-- The UUIDs that the words of a call give are UUIDs.
use Rattle.std.proofs.Common.{◌≡◌, ℕ, Bool, true, false, List, [], ◌∷◌, Option, Some, None, IfSome, refl}
use Rattle.std.specs.Prelude.{codes, option_map, option_and_then}
use Rattle.clap.specs.Walk.{Row, Text}
use Rattle.uuid.specs.Text.{parsed}
use Rattle.fam_base.specs.declared.cmd.Attr.{Attr}
use Rattle.fam_base.specs.declared.cmd.Stripe.{Stripe}
use Rattle.fam_format.specs.Params.{IsUuid, first_number}
use Rattle.fam_grammar.proofs.SoundLaw.{format_is}
use Rattle.fam_grammar.proofs.UuidLaw.{Parses, parses}
use Rattle.fam_grammar.specs.Lines.{default_log, default_unit, directory_mode, file_mode}
use Rattle.fam_grammar.specs.Numbers.{number_of_text, size_of_text}
use Rattle.fam_grammar.specs.Spellings.{count_of, format_of}
use Rattle.fam_words.specs.declared.wanted.Call.{Call}
use Rattle.fam_words.specs.declared.wanted.Invocation.{Invocation}
use Rattle.fam_words.specs.declared.wanted.Shot.{Shot}
use Rattle.fam_words.specs.declared.invocations.Name.{Name}
use Rattle.fam_words.specs.declared.invocations.Name.TheVariants as name
use Rattle.fam_words.specs.Calls.{HasShotUuids, HasUuids, against_texts, app_named, attr_in, call_behind, call_of, call_with, check_shot, cp_shot, cp_with, creat_shot, creat_with, invocation_in, mkdir_by, mkdir_shot, mkdir_with, mkfs_shot, mkfs_with, name_of, path_in, read_shot, read_with, script_invocation, single_invocation, single_with, storm_invocation, storm_with, stripe_in, system_of, verify_shot}
use Rattle.fam_words.specs.Simple.{flag_in, rows_given, value_in}
use Rattle.fam_words.specs.Values.{IsFormat, if_given, name_of_text, needed, or_default, storm_size_of}

-- a text that may be given, and reads
given_parses : (text : Option (List ℕ)) → IfSome (if_given parsed text) (λ o. IfSome o IsUuid)
given_parses None = tt
given_parses (Some text) = lifted (parsed text) (parses text)
  where
    lifted : (o : Option (List ℕ)) → Parses o → IfSome (option_map Some o) (λ o. IfSome o IsUuid)
    lifted None is = tt
    lifted (Some id) is = is

-- a format that may be given, or else the first
given_format : (text : Option (List ℕ)) → IfSome (or_default first_number format_of text) IsFormat
given_format None = refl
given_format (Some text) = of_option (format_of text) (format_is text)
  where
    of_option : (o : Option ℕ) → ((n : ℕ) → o ≡ Some n → IsFormat n) → IfSome o IsFormat
    of_option None each = tt
    of_option (Some n) each = each n refl

-- Commands of their own.

mkfs_uuids : (unit log format : Option ℕ) (fs : Option (Option (List ℕ))) (force : Bool) → IfSome fs (λ o. IfSome o IsUuid) → IfSome format IsFormat
    → IfSome (mkfs_with unit log format fs force) HasShotUuids
mkfs_uuids None log format fs force is good = tt
mkfs_uuids (Some unit) None format fs force is good = tt
mkfs_uuids (Some unit) (Some log) None fs force is good = tt
mkfs_uuids (Some unit) (Some log) (Some format) None force is good = tt
mkfs_uuids (Some unit) (Some log) (Some format) (Some fs) force is good = (is, good)

by_parents : (parents : Bool) (path : List ℕ) (attr : Attr) → HasShotUuids (mkdir_by parents path attr)
by_parents true path attr = tt
by_parents false path attr = tt

mkdir_uuids : (parents : Bool) (path : Option (List ℕ)) (attr : Option Attr) → IfSome (mkdir_with parents path attr) HasShotUuids
mkdir_uuids parents None attr = tt
mkdir_uuids parents (Some path) None = tt
mkdir_uuids parents (Some path) (Some attr) = by_parents parents path attr

creat_uuids : (path : Option (List ℕ)) (size : Option ℕ) (attr : Option Attr) (stripe : Option (Option Stripe)) (seed : Option (Option ℕ)) → IfSome (creat_with path size attr stripe seed) HasShotUuids
creat_uuids None size attr stripe seed = tt
creat_uuids (Some path) None attr stripe seed = tt
creat_uuids (Some path) (Some size) None stripe seed = tt
creat_uuids (Some path) (Some size) (Some attr) None seed = tt
creat_uuids (Some path) (Some size) (Some attr) (Some stripe) None = tt
creat_uuids (Some path) (Some size) (Some attr) (Some stripe) (Some seed) = tt

cp_uuids : (source path : Option (List ℕ)) (attr : Option Attr) (stripe : Option (Option Stripe)) → IfSome (cp_with source path attr stripe) HasShotUuids
cp_uuids None path attr stripe = tt
cp_uuids (Some source) None attr stripe = tt
cp_uuids (Some source) (Some path) None stripe = tt
cp_uuids (Some source) (Some path) (Some attr) None = tt
cp_uuids (Some source) (Some path) (Some attr) (Some stripe) = tt

read_uuids : (path : Option (List ℕ)) (offset count : Option ℕ) → IfSome (read_with path offset count) HasShotUuids
read_uuids None offset count = tt
read_uuids (Some path) None count = tt
read_uuids (Some path) (Some offset) None = tt
read_uuids (Some path) (Some offset) (Some count) = tt

run_uuids : {A : Type 0} (o : Option A) (f : A → Shot) → ((x : A) → HasShotUuids (f x)) → IfSome (option_map f o) HasShotUuids
run_uuids None f each = tt
run_uuids (Some x) f each = each x

verify_uuids : (path : Option (List ℕ)) (next : List ℕ → Option Shot) → ((p : List ℕ) → IfSome (next p) HasShotUuids) → IfSome (option_and_then next path) HasShotUuids
verify_uuids None next each = tt
verify_uuids (Some path) next each = each path

-- Invocations.

single_uuids : (system : Option (Option (List ℕ))) (what : Option Shot) → IfSome system (λ o. IfSome o IsUuid) → IfSome what HasShotUuids → IfSome (single_with system what) HasUuids
single_uuids None what host shot = tt
single_uuids (Some system) None host shot = tt
single_uuids (Some system) (Some what) host shot = (host, shot)

on_host : (rows : List Row) (what : Option Shot) → IfSome what HasShotUuids → IfSome (single_invocation rows what) HasUuids
on_host rows what shot = single_uuids (system_of (value_in (codes "system") rows)) what (given_parses (value_in (codes "system") rows)) shot

script_uuids : (file : Option (List ℕ)) → IfSome (option_map (λ (f : List ℕ). Rattle.fam_words.specs.declared.wanted.Invocation.TheVariants.Script f) file) HasUuids
script_uuids None = tt
script_uuids (Some file) = tt

storm_uuids : (seed size : Option ℕ) (prints : Bool) → IfSome (storm_with seed size prints) HasUuids
storm_uuids None size prints = tt
storm_uuids (Some seed) None prints = tt
storm_uuids (Some seed) (Some size) prints = tt

named_uuids : (which : Name) (rows : List Row) → IfSome (invocation_in which rows) HasUuids
unfolding mkfs_shot mkdir_shot creat_shot cp_shot verify_shot read_shot check_shot storm_invocation script_invocation
named_uuids name.Mkfs rows =
    on_host rows (mkfs_shot rows)
    (mkfs_uuids (or_default default_unit size_of_text (value_in (codes "unit") rows)) (or_default default_log size_of_text (value_in (codes "loglen") rows))
    (or_default first_number format_of (value_in (codes "format") rows)) (if_given parsed (value_in (codes "uuid") rows)) (flag_in (codes "force") rows)
    (given_parses (value_in (codes "uuid") rows)) (given_format (value_in (codes "format") rows)))
named_uuids name.Logplay rows = on_host rows _ tt
named_uuids name.Mkdir rows = on_host rows (mkdir_shot rows) (mkdir_uuids (flag_in (codes "parents") rows) (path_in rows) (attr_in directory_mode rows))
named_uuids name.Creat rows =
    on_host rows (creat_shot rows)
    (creat_uuids (path_in rows) (needed size_of_text (value_in (codes "size") rows)) (attr_in file_mode rows) (stripe_in rows) (if_given number_of_text (value_in (codes "seed") rows)))
named_uuids name.Cp rows =
    on_host rows (cp_shot rows) (cp_uuids (needed name_of_text (value_in (codes "source") rows)) (path_in rows) (attr_in file_mode rows) (stripe_in rows))
named_uuids name.Verify rows =
    on_host rows (verify_shot rows) (verify_uuids (path_in rows) _ (λ path. run_uuids (against_texts path (value_in (codes "seed") rows) (value_in (codes "source") rows)) _ (λ asked. tt)))
named_uuids name.Read rows =
    on_host rows (read_shot rows) (read_uuids (path_in rows) (needed number_of_text (value_in (codes "offset") rows)) (needed count_of (value_in (codes "count") rows)))
named_uuids name.Check rows = on_host rows (check_shot rows) (run_uuids (needed name_of_text (value_in (codes "listing") rows)) _ (λ source. tt))
named_uuids name.Fsck rows = on_host rows _ tt
named_uuids name.Script rows = script_uuids (needed name_of_text (value_in (codes "file") rows))
named_uuids name.Storm rows = storm_uuids (needed number_of_text (value_in (codes "seed") rows)) (needed storm_size_of (value_in (codes "size") rows)) (flag_in (codes "print") rows)

-- Calls.

abbrev CallUuids : Option Call → Type 0
CallUuids o = IfSome o (λ call. HasUuids call.invocation)

with_uuids : (image : Option Text) (what : Option Invocation) → IfSome what HasUuids → CallUuids (call_with image what)
with_uuids None what is = tt
with_uuids (Some image) None is = tt
with_uuids (Some image) (Some what) is = is

then_uuids : {A : Type 0} (o : Option A) (next : A → Option Call) → ((x : A) → CallUuids (next x)) → CallUuids (option_and_then next o)
then_uuids None next each = tt
then_uuids (Some x) next each = each x

behind_uuids : (which : Name) (words : List Text) → CallUuids (call_behind which words)
behind_uuids which words =
    then_uuids (rows_given (app_named which) words) _ (λ rows. with_uuids (value_in (codes "image") rows) (invocation_in which rows) (named_uuids which rows))

pub call_uuids : (words : List Text) → IfSome (call_of words) (λ call. HasUuids call.invocation)
unfolding call_of
call_uuids [] = tt
call_uuids (first ∷ words) = then_uuids (name_of first) _ (λ which. behind_uuids which words)
