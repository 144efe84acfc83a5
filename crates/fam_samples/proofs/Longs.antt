-- What the refusal of a path that is too long says of a mkdir's.
use Rattle.std.proofs.Common.{◌≡◌, ℕ, ◌<◌, List, [], length, Option, Some, None, refl, sym, ap, subst, ◌∙◌}
use Rattle.std.proofs.lemmas.List.{length-replicate}
use Rattle.std.proofs.lemmas.Option.{same_Some}
use Rattle.fam_base.specs.declared.cmd.Cmd.{Cmd}
use Rattle.fam_base.specs.declared.entry.Params.{Params}
use Rattle.fam_format.specs.Layout.{geometry}
use Rattle.fam_format.specs.Params.{first_number}
use Rattle.fam_rules.specs.Decide.{Wish, wish_of}
use Rattle.fam_rules.specs.DecideLaws.{IsTooLong}
use Rattle.fam_journal.specs.Legal.{IsLong, NamesLong}
use Rattle.fam_journal.specs.Past.{HostPast, Sound}
use Rattle.fam_samples.specs.Scene.{long, mkdir}

pub length-long : (n : ℕ) → length (long n) ≡ n
unfolding long
length-long n = length-replicate n 97

abbrev path_of : Option Wish → List ℕ
path_of None = []
path_of (Some w) = w.path

-- of a mkdir that may append it is said that its path is too long, just where it is
pub long_named : (p : Params) (host : HostPast) (path : List ℕ) (limit : ℕ) → host.cmd ≡ Some (mkdir path) → p.format ≡ first_number
    → host.uuid ≡ p.master → limit ≡ (geometry p).path_limit → limit < length path → IsLong limit host (Sound p [] None)
long_named p host path limit told format master limit_is above = record {
  params = p;
  super = refl;
  names = record { cmd = mkdir path; told = told; wish = _; wished = refl; is = record { format = format; master = master; limit_is = limit_is; long = above } };
}

-- what that says
pub record SaysLong (p : Params) (host : HostPast) (path : List ℕ) (limit : ℕ) : Type 0 where
  pub format : p.format ≡ first_number
  pub master : host.uuid ≡ p.master
  pub limit_is : limit ≡ (geometry p).path_limit
  pub above : limit < length path

pub long_says : (p : Params) (host : HostPast) (path : List ℕ) (limit : ℕ) → host.cmd ≡ Some (mkdir path) → IsLong limit host (Sound p [] None) → SaysLong p host path limit
long_says p host path limit told says =
    let wished : wish_of (mkdir path) ≡ Some says.names.wish = ap wish_of (same_Some (mkdir path) says.names.cmd (sym told ∙ says.names.told)) ∙ says.names.wished in
    let same : says.names.wish.path ≡ path = sym (ap path_of wished) in
    let is : IsTooLong p host.uuid says.names.wish limit = subst (λ (q : Params). IsTooLong q host.uuid says.names.wish limit) says.super says.names.is in
    record { format = is.format; master = is.master; limit_is = is.limit_is; above = subst (λ (bytes : List ℕ). limit < length bytes) same is.long }

-- a command that appends nothing names none
pub long_wished : (p : Params) (host : HostPast) (cmd : Cmd) (limit : ℕ) → host.cmd ≡ Some cmd → wish_of cmd ≡ None → NamesLong p host limit → ⊥
long_wished p host cmd limit told none names =
    absurd (let wished : wish_of cmd ≡ Some names.wish = ap wish_of (same_Some cmd names.cmd (sym told ∙ names.told)) ∙ names.wished in cc)
