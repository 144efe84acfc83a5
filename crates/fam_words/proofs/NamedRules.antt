-- A search for a command's name, one further.
use Rattle.std.proofs.Common.{◌≡◌, ℕ, ◌+◌, ◌<◌, Bool, true, false, List, Some, if◌then◌else◌, drop, length, get_or, ap, ◌∙◌, add-one}
use Rattle.std.proofs.Math.Seq.{drop-cons}
use Rattle.std.specs.Str.{bytes_eq}
use Rattle.clap.specs.Walk.{Text}
use Rattle.fam_words.specs.declared.invocations.Named.{Named}
use Rattle.fam_words.specs.Names.{first_named}

-- the command at a place, or one behind it
one_further : (word : Text) (names : List Named) (i : ℕ) (d : Named) → i < length names
    → first_named word (drop i names)
    ≡ (if bytes_eq word (get_or names i d).text.now then Some (get_or names i d).name else first_named word (drop (i + 1) names))
one_further word names i d below = rw (add-one) (ap (first_named word) (drop-cons names i d below))

-- it is the one at the place
pub named_here : (word : Text) (names : List Named) (i : ℕ) (d : Named) → i < length names → bytes_eq word (get_or names i d).text.now ≡ true
    → first_named word (drop i names) ≡ Some (get_or names i d).name
named_here word names i d below same =
    one_further word names i d below
    ∙ ap (λ (test : Bool). if test then Some (get_or names i d).name else first_named word (drop (i + 1) names)) same

-- or one behind it
pub named_further : (word : Text) (names : List Named) (i : ℕ) (d : Named) → i < length names → bytes_eq word (get_or names i d).text.now ≡ false
    → first_named word (drop i names) ≡ first_named word (drop (i + 1) names)
named_further word names i d below other =
    one_further word names i d below
    ∙ ap (λ (test : Bool). if test then Some (get_or names i d).name else first_named word (drop (i + 1) names)) other
