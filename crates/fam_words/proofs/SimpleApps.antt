-- The commands are simple, and none of their arguments has a rule on another.
use Rattle.std.proofs.Common.{◌≡◌, true, refl}
use Rattle.clap.specs.Faults.{is_simple_and_free}
use Rattle.clap.proofs.OnLiterals.{clap_on_literals}
use Rattle.fam_words.specs.Simple.{word_rule, optional_rule, option_rule, flag_rule, plain_app}
use Rattle.fam_words.specs.Apps.{mkfs_app, logplay_app, mkdir_app, creat_app, cp_app, verify_app, read_app, check_app, fsck_app, script_app, storm_app}
use Rattle.fam_words.specs.Calls.{app_named}
use Rattle.fam_words.specs.declared.invocations.Name.{Name}
use Rattle.fam_words.specs.declared.invocations.Name.TheVariants as name
use Rattle.fam_words.specs.Dups.{dup_app}
use Rattle.fam_words.specs.Judges.{judge_app}
use Rattle.fam_words.specs.Mails.{mail_app}
use Rattle.fam_words.specs.Shadows.{shadow_app}

mkfs_simple : is_simple_and_free mkfs_app ≡ true
unfolding clap_on_literals mkfs_app word_rule option_rule flag_rule plain_app
mkfs_simple = refl

logplay_simple : is_simple_and_free logplay_app ≡ true
unfolding clap_on_literals logplay_app word_rule option_rule flag_rule plain_app
logplay_simple = refl

mkdir_simple : is_simple_and_free mkdir_app ≡ true
unfolding clap_on_literals mkdir_app word_rule option_rule flag_rule plain_app
mkdir_simple = refl

creat_simple : is_simple_and_free creat_app ≡ true
unfolding clap_on_literals creat_app word_rule option_rule flag_rule plain_app
creat_simple = refl

cp_simple : is_simple_and_free cp_app ≡ true
unfolding clap_on_literals cp_app word_rule option_rule flag_rule plain_app
cp_simple = refl

verify_simple : is_simple_and_free verify_app ≡ true
unfolding clap_on_literals verify_app word_rule option_rule flag_rule plain_app
verify_simple = refl

read_simple : is_simple_and_free read_app ≡ true
unfolding clap_on_literals read_app word_rule option_rule flag_rule plain_app
read_simple = refl

check_simple : is_simple_and_free check_app ≡ true
unfolding clap_on_literals check_app word_rule option_rule flag_rule plain_app
check_simple = refl

fsck_simple : is_simple_and_free fsck_app ≡ true
unfolding clap_on_literals fsck_app word_rule option_rule flag_rule plain_app
fsck_simple = refl

script_simple : is_simple_and_free script_app ≡ true
unfolding clap_on_literals script_app word_rule option_rule flag_rule plain_app
script_simple = refl

storm_simple : is_simple_and_free storm_app ≡ true
unfolding clap_on_literals storm_app word_rule option_rule flag_rule plain_app
storm_simple = refl

pub shadow_simple : is_simple_and_free shadow_app ≡ true
unfolding clap_on_literals shadow_app word_rule option_rule flag_rule plain_app
shadow_simple = refl

pub dup_simple : is_simple_and_free dup_app ≡ true
unfolding clap_on_literals dup_app word_rule option_rule flag_rule plain_app
dup_simple = refl

pub mail_simple : is_simple_and_free mail_app ≡ true
unfolding clap_on_literals mail_app word_rule option_rule flag_rule plain_app
mail_simple = refl

pub judge_simple : is_simple_and_free judge_app ≡ true
unfolding clap_on_literals judge_app word_rule optional_rule option_rule flag_rule plain_app
judge_simple = refl

-- so it is of each command
pub named_simple : (which : Name) → is_simple_and_free (app_named which) ≡ true
named_simple name.Mkfs = mkfs_simple
named_simple name.Logplay = logplay_simple
named_simple name.Mkdir = mkdir_simple
named_simple name.Creat = creat_simple
named_simple name.Cp = cp_simple
named_simple name.Verify = verify_simple
named_simple name.Read = read_simple
named_simple name.Check = check_simple
named_simple name.Fsck = fsck_simple
named_simple name.Script = script_simple
named_simple name.Storm = storm_simple
