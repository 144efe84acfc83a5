-- Commands of which a line tells all that is told of any.
use Rattle.std.proofs.Common.{◌≡◌, ℕ, ◌^◌, ◌<◌, List, length, lit<, Option, Some, None, refl, sym, subst}
use Rattle.std.specs.Prelude.{IsTrue, replicate}
use Rattle.std.proofs.lemmas.List.{length-replicate}
use Rattle.std.proofs.lemmas.Option.{same_Some}
use Rattle.fam_base.specs.declared.cmd.Attr.{Attr}
use Rattle.fam_base.specs.declared.cmd.Cmd.{Cmd}
use Rattle.fam_base.specs.declared.cmd.Cmd.TheVariants as cmd
use Rattle.fam_base.specs.declared.cmd.Stripe.{Stripe}
use Rattle.fam_base.specs.declared.entry.Kind.TheVariants as kind
use Rattle.fam_base.specs.Paths.{is_path}
use Rattle.fam_history.specs.declared.command.ToldCommand.{ToldCommand}
use Rattle.fam_history.specs.declared.command.ToldCommand.TheVariants as told
use Rattle.fam_history.specs.Told.{told_of_command}
use Rattle.fam_judge.specs.Standing.{SoundTold}
use Rattle.fam_judge.specs.Untold.{untold, untold_bytes, untold_cmd}
use Rattle.fam_lines.specs.Lines.{untold_of}
use Rattle.fam_rules.specs.Decide.{Wish, wish_of}
use Rattle.fam_rules.specs.DecideLaws.{IsAttr, IsSoundWish, IsStripeOfWords}
use Rattle.fam_settled.specs.Told.{HasToldFill}
use Rattle.fam_judging.specs.Told.{IsToldCommand}

none_wished : (w : Wish) → None ≡ Some w → IsSoundWish w
none_wished w is = absurd (none_is w is)
  where
    none_is : (v : Wish) → None ≡ Some v → ⊥
    none_is v e = cc

wished : (v w : Wish) → Some v ≡ Some w → IsSoundWish v → IsSoundWish w
wished v w is sound = subst IsSoundWish (same_Some v w is) sound

no_directory : (n : ℕ) → kind.File ≡ kind.Directory → n ≡ 0
no_directory n is = cc

-- of a file
file_sound : (path : List ℕ) (size : ℕ) (attr : Attr) (stripe : Option Stripe) → IsTrue (is_path path) → size < 2 ^ 64 → IsAttr attr → IsStripeOfWords stripe
    → IsSoundWish (record { kind = kind.File; path = path; size = size; attr = attr; stripe = stripe })
file_sound path size attr stripe is_one few is_attr words =
    record { path = is_one; size = few; bare = λ is. no_directory size is; attr = is_attr; stripe = words }

-- a command that is told as a whole wants what is within its limits
plain_sound : (c : Cmd) → SoundTold (told_of_command c) → (w : Wish) → wish_of (untold_cmd c) ≡ Some w → IsSoundWish w
plain_sound cmd.Logplay sound w is = none_wished w is
plain_sound cmd.Mount sound w is = none_wished w is
plain_sound (cmd.Mkdir path attr) sound w is =
    wished _ w is (record { path = sound.0; size = lit< tt; bare = λ _. refl; attr = sound.1; stripe = tt })
plain_sound (cmd.Creat path size attr stripe fill) sound w is = wished _ w is (file_sound path size attr stripe sound.0 sound.1 sound.2 sound.3)
plain_sound (cmd.Cp path attr stripe bytes) sound w is =
    wished _ w is (file_sound path (length (untold_bytes bytes)) attr stripe sound.0
    (subst (λ (n : ℕ). n < 2 ^ 64) (sym (length-replicate (length bytes) untold)) sound.1) sound.2 sound.3)
plain_sound (cmd.Verify path against) sound w is = none_wished w is
plain_sound (cmd.Read path offset count) sound w is = none_wished w is
plain_sound (cmd.Check listing) sound w is = none_wished w is
plain_sound cmd.Fsck sound w is = none_wished w is

-- all is told of a sound command whose bytes, where it has some of a source, aren't told
pub told_command : (c : ToldCommand) → HasToldFill c → SoundTold (told_of_command (untold_of c)) → untold_cmd (untold_of c) ≡ untold_of c → IsToldCommand c
told_command (told.Plain c) filled sound same = record { same = same; filled = filled; sound = plain_sound c sound }
told_command (told.Cp path size attr stripe) filled sound same = record {
  same = refl;
  filled = tt;
  sound = λ w is. wished _ w is (file_sound path (length (replicate size untold)) attr stripe sound.0 sound.1 sound.2 sound.3);
}
told_command (told.VerifySource path count) filled sound same = record { same = refl; filled = tt; sound = λ w is. none_wished w is }
told_command (told.Check count) filled sound same = record { same = refl; filled = tt; sound = λ w is. none_wished w is }
