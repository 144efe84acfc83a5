use Rattle.std.proofs.Common.{◌≡◌, ◌⊎◌, ℕ, List, [], ◌∷◌, None, refl, sym, ap, ◌∙◌, inl, inr, codes}
use Rattle.fam_machine.specs.declared.cell.Cell.{Cell}
use Rattle.fam_machine.specs.declared.cell.Cell.TheVariants.{Absent, Clean}
use Rattle.fam_machine.specs.Caches.{cell_at}
use Rattle.fam_machine.specs.HostMoves.{Fetch}
use Rattle.fam_machine.proofs.CacheLemmas.{cell_at-empty, cell_at-with_cell_same}
use Rattle.fam_journal.specs.declared.refusal.Refusal.TheVariants as why
use Rattle.fam_journal.specs.Calls.{MoveFails, Moved, refusal_of}
use Rattle.fam_journal.specs.Machines.{HostState, Machines, operation}
use Rattle.fam_journal.specs.Notes.{Note, Refused}
use Rattle.fam_samples.specs.Scene.{host_m, one_host, one_line}
use Rattle.fam_samples.proofs.machine.moves_and_operations.Goals as goal

pub returns-clause-fetch : goal.returns-clause-fetch
unfolding refusal_of
returns-clause-fetch c = inl (record { notes_are = refl; left = refl })

-- the copy that the first host has of line 0
abbrev first_cell : List HostState → Cell
first_cell [] = Absent
first_cell (host ∷ hosts) = cell_at host.cache 0

pub returns-clause-fetch_brings : goal.returns-clause-fetch_brings
unfolding refusal_of
returns-clause-fetch_brings c = λ does. brings does
  where
    brings : (Moved 0 0 (Fetch 255) (host_m None) (one_host one_line None) [] (one_host one_line None) ⊎ MoveFails 0 0 (Fetch 255) (codes "m")
        (host_m None) (one_host one_line None) [] (one_host one_line None)) → ⊥
    brings (inl is) = absurd (let e : Absent ≡ Clean (0 ∷ 0 ∷ 0 ∷ 0 ∷ 0 ∷ 0 ∷ 0 ∷ 0 ∷ []) = sym (cell_at-empty 0)
        ∙ ap (λ (m : Machines). first_cell m.hosts) is.left ∙ cell_at-with_cell_same 0 _ _ ∙ rw (cell_at-empty 0) refl in cc)
    brings (inr is) = absurd (let e : _ = is.notes_are in cc)

pub returns-clause-fetch_fails : goal.returns-clause-fetch_fails
unfolding refusal_of
returns-clause-fetch_fails c = inr (record { through = 0; image = one_line; fails = rw (cell_at-empty 0) refl; notes_are = refl; left = refl })

abbrev line_noted : List Note → ℕ
line_noted [] = 0
line_noted (Refused name (why.MediaFault line) ∷ notes) = line.0
line_noted (note ∷ notes) = 0

pub returns-clause-no_fault_elsewhere : goal.returns-clause-no_fault_elsewhere
unfolding refusal_of
returns-clause-no_fault_elsewhere c = λ does. elsewhere does
  where
    noted : List Note
    noted = Refused (codes "m") (why.MediaFault (record { 0 = 1 })) ∷ []

    elsewhere : (Moved 0 0 (Fetch 255) (host_m None) (one_host one_line None) noted (one_host one_line None) ⊎ MoveFails 0 0 (Fetch 255) (codes "m")
        (host_m None) (one_host one_line None) noted (one_host one_line None)) → ⊥
    elsewhere (inl is) = absurd (let e : _ = is.notes_are in cc)
    elsewhere (inr is) = absurd (let e : 1 ≡ 0 = ap line_noted is.notes_are in cc)

pub returns-clause-first : goal.returns-clause-first
unfolding operation
returns-clause-first c = refl

pub returns-clause-first_serves : goal.returns-clause-first_serves
unfolding operation
returns-clause-first_serves c = λ through. rw (cell_at-empty 0) refl

pub returns-clause-no_host : goal.returns-clause-no_host
unfolding operation
returns-clause-no_host c = refl

pub returns-clause-no_task : goal.returns-clause-no_task
unfolding operation
returns-clause-no_task c = refl
