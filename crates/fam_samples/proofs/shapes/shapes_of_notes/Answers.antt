use Rattle.std.proofs.Common.{[], ◌∷◌, refl}
use Rattle.fam_journal.specs.Notes.{Answered, Found, Mark, Replied, Writes}
use Rattle.fam_rules.specs.Reply.{Appended}
use Rattle.fam_samples.specs.Scene.{folder, mkdir, x}
use Rattle.fam_samples.proofs.shapes.shapes_of_notes.Goals as goal

pub returns-clause-done : goal.returns-clause-done
returns-clause-done c = λ lines. record {
  host = 0;
  number = refl;
  cmd = mkdir x;
  asked = refl;
  rest = Mark 0 ∷ Found 0 0 ∷ Writes 0 0 (folder x) ∷ Answered 0 (Replied (Appended 0)) ∷ [];
  notes_are = refl;
  follow = record {
    operations = ((refl, refl), ((refl, (_, refl), refl), ((refl, (_, refl, record { kind = refl; path = refl; size = refl; mode = refl; uid = refl; gid = refl }), refl), ((refl, refl), tt))));
    done = refl;
  };
}
