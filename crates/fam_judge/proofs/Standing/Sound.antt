-- Sound commands, by what is told of them.
use Rattle.std.proofs.Common.{◌≡◌, ◌<◌, ◌≤◌, ◌^◌, inl, inr, ℕ, length, Some, None, lit<, refl, ap, sym, ◌∙◌, subst}
use Rattle.std.specs.Prelude.{replicate, slice_index}
use Rattle.std.proofs.lemmas.Bool.{cases_lt}
use Rattle.std.proofs.lemmas.List.{get_or-replicate, get_or_past, length-replicate}
use Rattle.std.proofs.lemmas.Option.{same_Some}
use Rattle.fam_base.specs.declared.cmd.Cmd.{Cmd}
use Rattle.fam_base.specs.declared.cmd.Cmd.TheVariants.{Logplay, Mount, Mkdir, Creat, Cp, Verify, Read, Check, Fsck}
use Rattle.fam_base.specs.declared.cmd.Content.TheVariants as content
use Rattle.fam_commands.specs.Classes.{is_mount}
use Rattle.fam_history.specs.declared.command.ToldCommand.TheVariants as told
use Rattle.fam_history.specs.Told.{told_of_command}
use Rattle.fam_rules.specs.Decide.{Wish, wish_of}
use Rattle.fam_rules.specs.DecideLaws.{IsSoundWish}
use Rattle.fam_judge.specs.Formed.{IsSoundCommand}
use Rattle.fam_judge.specs.Standing.{IsSoundPlain, SoundTold, is_told_mount}

-- a mount is told as one
pub told_mount : (c : Cmd) → is_told_mount (told_of_command c) ≡ is_mount c
told_mount Logplay = refl
told_mount Mount = refl
told_mount (Mkdir path attr) = refl
told_mount (Creat path size attr stripe fill) = refl
told_mount (Cp path attr stripe bytes) = refl
told_mount (Verify path content.Zero) = refl
told_mount (Verify path (content.Seed seed)) = refl
told_mount (Verify path (content.Bytes bytes)) = refl
told_mount (Read path offset count) = refl
told_mount (Check listing) = refl
told_mount Fsck = refl

-- Limits.

-- a sound command is within the limits of the table
sound_plain : (c : Cmd) → IsSoundCommand c → IsSoundPlain c
sound_plain Logplay is = tt
sound_plain Mount is = tt
sound_plain (Mkdir path attr) is = let w = is.fits.wish _ refl in (w.path, w.attr)
sound_plain (Creat path size attr stripe fill) is = let w = is.fits.wish _ refl in (w.path, w.size, w.attr, w.stripe, is.fits.content)
sound_plain (Cp path attr stripe bytes) is = let w = is.fits.wish _ refl in (w.path, w.size, w.attr, w.stripe, is.fits.content)
sound_plain (Verify path against) is = tt
sound_plain (Read path offset count) is = is.limits
sound_plain (Check listing) is = is.limits
sound_plain Fsck is = tt

-- so what is told of it is
pub told_sound : (c : Cmd) → IsSoundCommand c → SoundTold (told_of_command c)
told_sound (Cp path attr stripe bytes) is = let w = is.fits.wish _ refl in (w.path, w.size, w.attr, w.stripe)
told_sound (Verify path content.Zero) is = tt
told_sound (Verify path (content.Seed seed)) is = tt
told_sound (Verify path (content.Bytes bytes)) is = tt
told_sound (Check listing) is = (listing, sound_plain (Check listing) is, refl)
told_sound c is = sound_plain c is

-- a command that wants nothing
no_wish : (c : Cmd) → wish_of c ≡ None → (w : Wish) → wish_of c ≡ Some w → IsSoundWish w
no_wish c none w e = absurd cc

-- a command that wants just this
one_wish : (c : Cmd) (own : Wish) → wish_of c ≡ Some own → IsSoundWish own → (w : Wish) → wish_of c ≡ Some w → IsSoundWish w
one_wish c own is sound w e = subst IsSoundWish (same_Some own w (sym is ∙ e)) sound

-- a command within the limits of the table is sound
plain_sound : (c : Cmd) → IsSoundPlain c → IsSoundCommand c
plain_sound Logplay is = record { limits = tt; fits = record { wish = no_wish Logplay refl; content = tt } }
plain_sound Mount is = record { limits = tt; fits = record { wish = no_wish Mount refl; content = tt } }
plain_sound (Mkdir path attr) is = record {
  limits = is.1.mode;
  fits = record {
    wish = one_wish (Mkdir path attr) _ refl (record { path = is.0; size = lit< tt; bare = λ e. refl; attr = is.1; stripe = tt });
    content = tt;
  };
}
plain_sound (Creat path size attr stripe fill) is = record {
  limits = is.2.mode;
  fits = record {
    wish = one_wish (Creat path size attr stripe fill) _ refl (record { path = is.0; size = is.1; bare = λ e. absurd cc; attr = is.2; stripe = is.3 });
    content = is.4;
  };
}
plain_sound (Cp path attr stripe bytes) is = record {
  limits = is.2.mode;
  fits = record {
    wish = one_wish (Cp path attr stripe bytes) _ refl (record { path = is.0; size = is.1; bare = λ e. absurd cc; attr = is.2; stripe = is.3 });
    content = is.4;
  };
}
plain_sound (Verify path against) is = record { limits = tt; fits = record { wish = no_wish (Verify path against) refl; content = tt } }
plain_sound (Read path offset count) is = record { limits = is; fits = record { wish = no_wish (Read path offset count) refl; content = tt } }
plain_sound (Check listing) is = record {
  limits = is;
  fits = record { wish = no_wish (Check listing) refl; content = tt };
}
plain_sound Fsck is = record { limits = tt; fits = record { wish = no_wish Fsck refl; content = tt } }

-- Commands that tell the same.

-- a sound command tells the same as this one
pub record SoundAs (c : Cmd) : Type 0 where
  pub chosen : Cmd
  pub alike : told_of_command chosen ≡ told_of_command c
  pub sound : IsSoundCommand chosen

-- zeros are bytes
pub zeros : (n i : ℕ) → slice_index (replicate n 0) i < 256
zeros n i = elim (cases_lt i n) [
  | inl low ↦ subst (λ (x : ℕ). x < 256) (sym (get_or-replicate n i 0 0 low)) (lit< tt)
  | inr high ↦ subst (λ (x : ℕ). x < 256) (sym (get_or_past (replicate n 0) i 0 (subst (λ (l : ℕ). l ≤ i) (sym (length-replicate n 0)) high))) (lit< tt)
]

itself : (c : Cmd) → IsSoundPlain c → SoundAs c
itself c is = record { chosen = c; alike = refl; sound = plain_sound c is }

-- by what is told: a cp of zeros, and a check of a listing of as many
pub sound_told : (c : Cmd) → SoundTold (told_of_command c) → SoundAs c
sound_told (Cp path attr stripe bytes) is =
    let same = length-replicate (length bytes) 0 in
    record {
      chosen = Cp path attr stripe (replicate (length bytes) 0);
      alike = ap (λ (n : ℕ). told.Cp path n attr stripe) same;
      sound = plain_sound (Cp path attr stripe (replicate (length bytes) 0))
          (is.0, subst (λ (n : ℕ). n < 2 ^ 64) (sym same) is.1, is.2, is.3, zeros (length bytes));
    }
sound_told (Verify path content.Zero) is = itself (Verify path content.Zero) tt
sound_told (Verify path (content.Seed seed)) is = itself (Verify path (content.Seed seed)) tt
sound_told (Verify path (content.Bytes bytes)) is = itself (Verify path (content.Bytes bytes)) tt
sound_told (Check listing) is = record { chosen = Check is.0; alike = ap told.Check is.2; sound = plain_sound (Check is.0) is.1 }
sound_told c is = itself c is
