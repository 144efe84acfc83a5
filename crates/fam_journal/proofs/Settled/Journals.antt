-- Journals, one behind another.
use Rattle.std.proofs.Common.{◌≡◌, List, [], ◌∷◌, ◌++◌, refl}
use Rattle.fam_journal.specs.Legal.{LegalBehind}
use Rattle.fam_journal.specs.Notes.{Note}
use Rattle.fam_journal.specs.Past.{Past, past_after, past_behind}

pub past_both : (past : Past) (a b : List Note) → past_behind past (a ++ b) ≡ past_behind (past_behind past a) b
past_both past [] b = refl
past_both past (note ∷ a) b = past_both (past_after past note) a b

pub legal_both : (past : Past) (a b : List Note) → LegalBehind past a → LegalBehind (past_behind past a) b → LegalBehind past (a ++ b)
legal_both past [] b first second = second
legal_both past (note ∷ a) b first second = (first.0, legal_both (past_after past note) a b first.1 second)

-- a legal journal's prefix is legal, and the rest is legal behind it
pub legal_prefix : (past : Past) (a b : List Note) → LegalBehind past (a ++ b) → LegalBehind past a
legal_prefix past [] b legal = tt
legal_prefix past (note ∷ a) b legal = (legal.0, legal_prefix (past_after past note) a b legal.1)

pub legal_rest : (past : Past) (a b : List Note) → LegalBehind past (a ++ b) → LegalBehind (past_behind past a) b
legal_rest past [] b legal = legal
legal_rest past (note ∷ a) b legal = legal_rest (past_after past note) a b legal.1
