-- How values are spelled, and what stands in their place where none is given. docs/MANUAL.md, "Sizes and UUIDs".
use Rattle.std.specs.Prelude.{ℕ, ◌==◌, Bool, IsTrue, not, List, length, Option, Some, None, option_map, option_and_then}
use Rattle.fam_base.specs.declared.cmd.Attr.{Attr}
use Rattle.fam_base.specs.declared.cmd.Stripe.{Stripe}
use Rattle.fam_base.specs.Paths.{is_path}
use Rattle.fam_format.specs.Params.{is_format}
use Rattle.fam_grammar.specs.Numbers.{number_of_text, size_of_text, below, not_zero}
use Rattle.fam_grammar.specs.Spellings.{id_of, mode_of, passing, stripe_with}

-- a value, or the one to be taken where none is given. None where the value isn't spelled so
abbrev pub or_default : {A : Type 0} → A → (List ℕ → Option A) → Option (List ℕ) → Option A
or_default default read None = Some default
or_default default read (Some text) = read text

-- a value, or nothing where none is given. None where the value isn't spelled so
abbrev pub if_given : {A : Type 0} → (List ℕ → Option A) → Option (List ℕ) → Option (Option A)
if_given read None = Some None
if_given read (Some text) = option_map Some (read text)

-- a number of a format in which file systems are made
abbrev pub IsFormat : ℕ → Type 0
IsFormat n = IsTrue (is_format n)

-- a value that must be given
abbrev pub needed : {A : Type 0} → (List ℕ → Option A) → Option (List ℕ) → Option A
needed read text = option_and_then read text

-- PATH
abbrev pub path_of_text : List ℕ → Option (List ℕ)
path_of_text text = passing is_path text

-- SOURCE, LISTING and FILE: bytes, of which there are some
abbrev pub is_not_empty : List ℕ → Bool
is_not_empty text = not (length text == 0)

-- the name of a source, as the words have it
abbrev pub name_of_text : List ℕ → Option (List ℕ)
name_of_text text = passing is_not_empty text

-- the SIZE of a storm
abbrev pub most_storm : ℕ
most_storm = 100000

-- the size of a storm, within its limit
abbrev pub storm_size_of : List ℕ → Option ℕ
storm_size_of text = not_zero (below 100001 (size_of_text text))

-- mode, user and group
abbrev pub attr_with : Option ℕ → Option ℕ → Option ℕ → Option Attr
attr_with None uid gid = None
attr_with (Some mode) None gid = None
attr_with (Some mode) (Some uid) None = None
attr_with (Some mode) (Some uid) (Some gid) = Some (record { mode = mode; uid = uid; gid = gid })

-- -m, -u and -g, with the mode of a file or a directory in place of a missing one
abbrev pub attr_of_texts : ℕ → Option (List ℕ) → Option (List ℕ) → Option (List ℕ) → Option Attr
attr_of_texts default mode uid gid =
    attr_with (or_default default mode_of mode) (or_default 0 id_of uid) (or_default 0 id_of gid)

-- -N, -B and -C, all of them or none
abbrev pub stripe_of_texts : Option (List ℕ) → Option (List ℕ) → Option (List ℕ) → Option (Option Stripe)
stripe_of_texts None None None = Some None
stripe_of_texts None None (Some chunk) = None
stripe_of_texts None (Some buckets) chunk = None
stripe_of_texts (Some strips) None chunk = None
stripe_of_texts (Some strips) (Some buckets) None = None
stripe_of_texts (Some strips) (Some buckets) (Some chunk) =
    option_map Some (stripe_with (number_of_text strips) (number_of_text buckets) (size_of_text chunk))
