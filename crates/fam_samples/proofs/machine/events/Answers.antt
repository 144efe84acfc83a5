use Rattle.std.proofs.Common.{[], ◌∷◌, None, refl, inl, inr, codes}
use Rattle.fam_journal.specs.Calls.{refusal_of}
use Rattle.fam_journal.specs.Events.{Session, first_session}
use Rattle.fam_journal.specs.Notes.{Halt, Host, Refused}
use Rattle.fam_journal.specs.declared.refusal.Refusal.TheVariants as why
use Rattle.fam_samples.specs.Scene.{master, one_host, unread_session}
use Rattle.fam_samples.proofs.machine.events.Goals as goal

abbrev one : Session
one = unread_session (one_host [] None)

pub returns-clause-ten : goal.returns-clause-ten
unfolding refusal_of
returns-clause-ten c = λ files. (
  first_session [],
  Refused (codes "q") why.NoHost ∷ [],
  _,
  inr (inl (record { cause = why.NoHost; first = refl; notes_are = refl; same = refl })),
  (
    one,
    Host (codes "m") master ∷ [],
    _,
    ((refl, refl), refl),
    (
      one,
      Refused (codes "q") (why.SameHost (record { 0 = 0 })) ∷ [],
      _,
      ((refl, refl), refl),
      (
        one,
        Refused (codes "m") (why.ImageSmall 0) ∷ [],
        _,
        inr (inl (record { cause = why.ImageSmall 0; first = refl; notes_are = refl; same = refl })),
        (
          one,
          Refused (codes "m") why.Idle ∷ [],
          _,
          inr (record { cause = why.Idle; first = refl; notes_are = refl; same = refl }),
          (
            one,
            Refused (codes "m") why.Idle ∷ [],
            _,
            ((refl, refl), refl),
            (
              one,
              Refused (codes "m") (why.NoLine 0 0) ∷ [],
              _,
              ((refl, refl), refl),
              (
                one,
                Halt 0 ∷ [],
                _,
                ((refl, refl), refl),
                (
                  one,
                  Refused (codes "m") (why.BadGeometry 5000 8388608) ∷ [],
                  _,
                  ((refl, refl), refl),
                  (one, Refused (codes "m") (why.TooSmall 2166784 0) ∷ [], [], ((refl, refl), refl), (refl, refl), refl),
                  refl,
                ),
                refl,
              ),
              refl,
            ),
            refl,
          ),
          refl,
        ),
        refl,
      ),
      refl,
    ),
    refl,
  ),
  refl,
)
