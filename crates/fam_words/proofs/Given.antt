-- From the list of faults to what is given, and one argument more.
use Rattle.std.proofs.Common.{◌≡◌, ℕ, ◌+◌, ◌<◌, List, [], ◌∷◌, Some, None, if◌then◌else◌, fold, take, length, get_or, refl, sym, ap, ◌∙◌}
use Rattle.std.proofs.lemmas.List.Sums.{fold_more}
use Rattle.clap.specs.Walk.{Text}
use Rattle.clap.specs.Simple.{App, matches_of}
use Rattle.clap.specs.Kinds.{Kinds, IsAmong}
use Rattle.clap.specs.Faults.{fault_of}
use Rattle.clap.specs.declared.error.kind.ErrorKind.{ErrorKind}
use Rattle.fam_words.specs.Arguments.{with_argument}
use Rattle.fam_words.specs.Simple.{rows_given, is_free_of_faults}
use Rattle.fam_words.specs.declared.simple.Argument.{Argument}

-- a command with one argument more
pub one_more : (start before made : App) (arguments : List Argument) (i : ℕ) (d : Argument) → i < length arguments
    → before ≡ fold with_argument start (take i arguments) → made ≡ with_argument before (get_or arguments i d)
    → made ≡ fold with_argument start (take (i + 1) arguments)
one_more start before made arguments i d below e f =
    f ∙ ap (λ (app : App). with_argument app (get_or arguments i d)) e ∙ sym (fold_more with_argument start arguments i d below)

pub given_rows : (app : App) (ws : List Text) → fault_of app ws ≡ [] → Some (matches_of app ws) ≡ rows_given app ws
unfolding rows_given
given_rows app ws e =
    ap (λ ks. if is_free_of_faults ks then Some (matches_of app ws) else None) (sym e)

at_fault : {X : Type 0} (k : ErrorKind) (ks : Kinds) (x : X) → IsAmong k ks → None ≡ (if is_free_of_faults ks then Some x else None)
at_fault k [] x h = absurd h
at_fault k (y ∷ ys) x h = refl

pub given_none : (app : App) (ws : List Text) (k : ErrorKind) → IsAmong k (fault_of app ws) → None ≡ rows_given app ws
unfolding rows_given
given_none app ws k h = at_fault k (fault_of app ws) (matches_of app ws) h
