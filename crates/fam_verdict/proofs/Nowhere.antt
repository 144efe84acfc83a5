-- Where a line that begins something can't stand, it leads nowhere.
use Rattle.std.proofs.Common.{◌≡◌, ℕ, Bool, List, [], Option, Some, None, length, map, refl, ap, ◌∙◌, subst}
use Rattle.std.specs.Prelude.{is_some, option_map}
use Rattle.fam_base.specs.Image.{Image}
use Rattle.fam_journal.specs.Members.{changed_at}
use Rattle.fam_journal.specs.Shapes.{CommandStage, HostShape, Met, Named, TaskShape, with_stage}
use Rattle.fam_judge.specs.Covering.{IsOf, LeadsStates}
use Rattle.fam_judge.specs.Possible.{MeetsEntries, Possible, Progress, StepsTo, Wrote, left_out_met, shapes_in, shown_met}
use Rattle.fam_judge.specs.Standing.{Face, MayDeclare, MayStart, face, faces}
use Rattle.fam_judge.proofs.Folding.{shape_in}
use Rattle.fam_judge.proofs.Members.{changed_same, map_changed}
use Rattle.fam_history.specs.Told.{told_of_command}
use Rattle.fam_lines.specs.declared.host.SeenHost.{SeenHost}
use Rattle.fam_lines.specs.declared.line.Line.{Line}
use Rattle.fam_lines.specs.declared.line.Line.TheVariants as line
use Rattle.fam_lines.specs.Hosts.{faces_of}
use Rattle.fam_lines.specs.Lines.{note_of_line, untold_of}
use Rattle.fam_verdict.specs.Begins.{MayBegin}

-- What a command has named isn't seen.

runs : (stage : CommandStage) (o : Option TaskShape) → is_some (option_map (λ (t : TaskShape). record t { stage = stage }) o) ≡ is_some o
runs stage None = refl
runs stage (Some t) = refl

same_face : (stage : CommandStage) (host : HostShape) → face (with_stage stage host) ≡ face host
same_face stage host = ap (λ (b : Bool). let f : Face = record { name = host.name; uuid = host.uuid; runs = b; keeps = host.keeps } in f) (runs stage host.task)

-- a command that comes further looks the same
staged_faces : (k : ℕ) (stage : CommandStage) (F : Progress → Progress) → ((p : Progress) → shape_in (F p) ≡ with_stage stage (shape_in p)) → (hosts : List Progress)
    → faces (map shape_in (changed_at k F hosts)) ≡ faces (map shape_in hosts)
staged_faces k stage F same hosts =
    ap faces (map_changed shape_in k F (with_stage stage) same hosts)
    ∙ map_changed face k (with_stage stage) (λ f. f) (same_face stage) (map shape_in hosts)
    ∙ changed_same k (λ f. f) (faces (map shape_in hosts)) (λ f is. refl)

met_faces : (start : Image) (k : ℕ) (x met : Possible) → MeetsEntries start k x met → faces (shapes_in met) ≡ faces (shapes_in x)
met_faces start k x met (shown_met n at is) = ap (λ (y : Possible). faces (shapes_in y)) is
met_faces start k x met (left_out_met n head wants found is) =
    ap (λ (y : Possible). faces (shapes_in y)) is ∙ staged_faces k (Met n) _ (λ p. refl) x.hosts

-- where a host has named an entry by now all hosts look the same
wrote_faces : (start : Image) (k : ℕ) (x w : Possible) → Wrote start k x w → faces (shapes_in w) ≡ faces (shapes_in x)
wrote_faces start k x w wrote =
    ap (λ (y : Possible). faces (shapes_in y)) wrote.is ∙ staged_faces k (Named wrote.seq) _ (λ p. refl) wrote.met.hosts ∙ met_faces start k x wrote.met wrote.meets

-- Lines.

-- a line that steps may begin
steps_begin : (start : Image) (seen : List SeenHost) (l : Line) (x z : Possible) → faces (shapes_in x) ≡ faces_of seen → StepsTo start x (note_of_line l) z → MayBegin (length start) seen l
steps_begin start seen (line.Host name uuid) x z same steps =
    subst (λ (all : List Face). MayDeclare all name uuid) (ap (λ (y : Possible). faces (shapes_in y)) steps.reaches ∙ same) steps.may
steps_begin start seen (line.Start h cmd) x z same steps =
    subst (λ (all : List Face). MayStart (length start) all h (told_of_command (untold_of cmd))) (ap (λ (y : Possible). faces (shapes_in y)) steps.reaches ∙ same) steps.may
steps_begin start seen l x z same steps = tt

-- from states in which the hosts look so a line that can't begin leads nowhere
pub nowhere : (start : Image) (seen : List SeenHost) (l : Line) (xs : List Possible) → ((x : Possible) → IsOf xs x → faces (shapes_in x) ≡ faces_of seen)
    → (MayBegin (length start) seen l → ⊥) → LeadsStates start (note_of_line l) xs []
nowhere start seen l xs same not = record {
  sound = λ z is. let e = is.1 in absurd cc;
  own = λ x z is steps. absurd (not (steps_begin start seen l x z (same x is) steps));
  named = λ x w z k is wrote other steps. absurd (not (steps_begin start seen l w z (wrote_faces start k x w wrote ∙ same x is) steps));
}
