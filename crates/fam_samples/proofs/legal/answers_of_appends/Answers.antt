use Rattle.std.proofs.Common.{◌≡◌, ℕ, List, [], ◌∷◌, Some, Ok, Err, refl, codes, sym, ap, ◌∙◌, arith, get_or}
use Rattle.fam_base.specs.declared.cmd.Cmd.TheVariants.{Logplay}
use Rattle.fam_base.specs.declared.entry.Params.{Params}
use Rattle.fam_format.specs.Layout.{shape_of}
use Rattle.fam_base.specs.declared.entry.Kind.TheVariants as kind
use Rattle.fam_rules.specs.declared.answers.Refused.TheVariants as cause
use Rattle.fam_rules.specs.Content.{fill}
use Rattle.fam_journal.specs.Past.{HostPast, new_host}
use Rattle.fam_samples.specs.Scene.{client_uuid, folder, held, long, master, mkdir, params, x}
use Rattle.fam_samples.proofs.Decided.{again, decides, first}
use Rattle.fam_samples.proofs.Longs.{length-long, long_named, long_says, long_wished}
use Rattle.fam_samples.proofs.legal.answers_of_appends.Goals as goal

pub returns-clause-exists : goal.returns-clause-exists
unfolding fill
returns-clause-exists c = record { cmd = mkdir x; told = refl; none = refl; is = again }

pub returns-clause-other_kind : goal.returns-clause-other_kind
unfolding fill
returns-clause-other_kind c = λ a.
    absurd (let e : Some (Err (cause.Exists kind.Directory)) ≡ Some (Err (cause.Exists kind.File)) =
    sym again ∙ decides params (record (new_host (codes "m") master) { cmd = Some (mkdir x); floor = Some 1 }) (held x ∷ [])
    (Err (cause.Exists kind.File)) (mkdir x) refl a in cc)

pub returns-clause-free : goal.returns-clause-free
unfolding fill
returns-clause-free c = λ a.
    absurd (let e : Some (Ok (folder x)) ≡ Some (Err (cause.Exists kind.Directory)) =
    sym first ∙ decides params (record (new_host (codes "m") master) { cmd = Some (mkdir x); floor = Some 0 }) []
    (Err (cause.Exists kind.Directory)) (mkdir x) refl a in cc)

pub returns-clause-full : goal.returns-clause-full
unfolding fill
returns-clause-full c = λ a.
    absurd (let e : Some (Ok (folder x)) ≡ Some (Err (cause.LogFull 127)) =
    sym first ∙ decides params (record (new_host (codes "m") master) { cmd = Some (mkdir x); floor = Some 0 }) [] (Err (cause.LogFull 127))
    (mkdir x) refl a in cc)

-- Too long a path.

-- a host with this UUID, whose mkdir of a path of so many bytes has begun
abbrev starts : List ℕ → ℕ → HostPast
starts me n = record (new_host (codes "m") me) { cmd = Some (mkdir (long n)) }

-- the parameters of the second format
abbrev second : Params
second = record params { format = 2; slots = 63 }

last_byte : List ℕ → ℕ
last_byte bytes = get_or bytes 15 0

-- two hosts
other_host : client_uuid ≡ master → ⊥
unfolding last_byte
other_host e = let b : 2 ≡ 1 = ap last_byte e in absurd (omega (arith, b))

pub returns-clause-long : goal.returns-clause-long
unfolding shape_of
returns-clause-long c = long_named params (starts master 169) (long 169) 168 refl refl refl refl (omega (arith, length-long 169))

pub returns-clause-fits : goal.returns-clause-fits
returns-clause-fits c = λ a. absurd (omega (arith, length-long 168, (long_says params (starts master 168) (long 168) 168 refl a).above))

pub returns-clause-other_limit : goal.returns-clause-other_limit
unfolding shape_of
returns-clause-other_limit c = λ a. absurd (omega (arith, (long_says params (starts master 169) (long 169) 167 refl a).limit_is))

pub returns-clause-long_of_client : goal.returns-clause-long_of_client
returns-clause-long_of_client c = λ a.
    other_host (long_says params (record (new_host (codes "c") client_uuid) { cmd = Some (mkdir (long 169)) }) (long 169) 168 refl a).master

pub returns-clause-long_read : goal.returns-clause-long_read
returns-clause-long_read c = λ a. long_wished a.params (record (new_host (codes "m") master) { cmd = Some Logplay }) Logplay 168 refl refl a.names

pub returns-clause-long_nowhere : goal.returns-clause-long_nowhere
returns-clause-long_nowhere c = λ a. a.super

pub returns-clause-long_second : goal.returns-clause-long_second
returns-clause-long_second c = λ a. absurd (omega (arith, (long_says second (starts master 513) (long 513) 512 refl a).format))

pub returns-clause-fits_second : goal.returns-clause-fits_second
returns-clause-fits_second c = λ a. absurd (omega (arith, (long_says second (starts master 169) (long 169) 168 refl a).format))
