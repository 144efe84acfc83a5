-- A world with a mailbox stands behind a cache's own move at a line of the file.
use Rattle.std.proofs.Common.{◌≡◌, ℕ, ◌<◌, ◌≤◌, inl, inr, List, ◌++◌, length, Option, Some, refl, sym, ap, subst, ◌∙◌, arith}
use Rattle.std.specs.Prelude.{slice_get, option_map}
use Rattle.std.proofs.lemmas.Bool.{cases_eq}
use Rattle.fam_base.specs.Image.{Image, IsNormal, with_line}
use Rattle.fam_cache.specs.Effects.{FailsTo}
use Rattle.fam_machine.specs.Caches.{cell_at}
use Rattle.fam_machine.specs.HostMoves.{Move, failed_move, move_failed, moved}
use Rattle.fam_machine.specs.Operations.{Machine, machine}
use Rattle.fam_media.specs.States.{MediaChange}
use Rattle.fam_protocol.specs.Hosted.{ActsAs}
use Rattle.fam_protocol.proofs.Hosts.Acts.{failed_move_transfers, moves_by}
use Rattle.fam_rules.specs.Written.{file_line}
use Rattle.fam_mail.specs.Calls.{MoveFailsAt, IsTold, MoveDoneAt, MailWorldFits, capacity_in}
use Rattle.fam_mail.specs.Mail.{TaskRun}
use Rattle.fam_mail.specs.declared.note.MailRefusal.{MailRefusal}
use Rattle.fam_mail.specs.Protocol.{Box, BoxInvariant}
use Rattle.fam_mail.specs.Standing.{MailPast, MailStands, StandsStill, box_in, held_by, run_by, runs_of_hosts, shared}
use Rattle.fam_mail.specs.World.{MailHost, MailView, changed_member}
use Rattle.fam_mail.proofs.Events.{fewer_hold, moves_hold}
use Rattle.fam_mail.proofs.Members.{changed_here, changed_other}
use Rattle.fam_mail.proofs.Standing.{acts, same_box}

module _ (rest : ℕ → List ℕ) (name : List ℕ) (line : ℕ) (move : Move) (told : MediaChange) (old new : MailView) (past : MailPast) (image : Image) (stands : MailStands rest old past image)
    (is : told.old.image ≡ Some image) (normal : IsNormal told.old.image) (within : file_line old.entry line < length image) where
  -- the world stands behind a move
  pub moves_stand : MoveDoneAt name line move told old new → StandsStill rest past told.new.image new
  moves_stand call =
      let l = file_line old.entry line in
      let m : Machine = machine image call.host.cache in
      let next : MailHost = call.next in
      let done = call.does.done image is in
      let hosts' = changed_member call.at (λ (x : MailHost). next) old.hosts in
      let s' = shared (moved move l m).image hosts' in
      let writer : next.writer ≡ call.host.writer = ap (λ (x : MailHost). x.writer) call.does.next_is in
      let act = acts rest old call.at call.host next call.host_is image (moved move l m).image (moved move l m) refl done.cache writer in
      let holds = moves_hold (box_in old rest) (runs_of_hosts old.hosts past.floors) (shared image old.hosts) s' past.mail stands call.at l
      (moves_by call.at m (shared image old.hosts) s' move l act stands.core.wide within) in
      let fewer = fewer_hold (box_in old rest) (runs_of_hosts old.hosts past.floors) (runs_of_hosts hosts' past.floors) s' past.mail holds (same_runs call) in
      record {
        image = (moved move l m).image;
        told = done.image;
        stands = subst (λ (v : MailView). MailStands rest v past (moved move l m).image) (sym call.is)
            (subst (λ (b : Box). BoxInvariant b (runs_of_hosts hosts' past.floors) s' past.mail)
            (sym (same_box rest old call.at call.host next call.host_is image (moved move l m).image (moved move l m) refl done.cache writer (old.journal ++ call.notes))) fewer);
      }
    where
      same_runs : (call : MoveDoneAt name line move told old new) (h : ℕ) (r : TaskRun)
          → runs_of_hosts (changed_member call.at (λ (x : MailHost). call.next) old.hosts) past.floors h ≡ Some r → runs_of_hosts old.hosts past.floors h ≡ Some r
      same_runs call h r at_is =
          elim (cases_eq h call.at) [
            | inl e ↦
                ap (λ (k : ℕ). run_by (slice_get old.hosts k) (past.floors h)) e
                ∙ ap (λ (o : Option MailHost). run_by o (past.floors h)) call.host_is
                ∙ sym (ap (λ (k : ℕ). run_by (slice_get (changed_member call.at (λ (x : MailHost). call.next) old.hosts) k) (past.floors h)) e
                ∙ ap (λ (o : Option MailHost). run_by o (past.floors h)) (changed_here call.at (λ (x : MailHost). call.next) old.hosts call.host call.host_is)
                ∙ ap (λ (x : MailHost). run_by (Some x) (past.floors h)) call.does.next_is)
                ∙ at_is
            | inr ne ↦
                sym (ap (λ (o : Option MailHost). run_by o (past.floors h)) (changed_other call.at h (λ (x : MailHost). call.next) old.hosts ne)) ∙ at_is
          ]

  -- and behind one in which the media failed
  pub fails_stand : (cause : MailRefusal) → MoveFailsAt name line move told cause old new → StandsStill rest past told.new.image new
  fails_stand cause call =
      let l = file_line old.entry line in
      let m : Machine = machine image call.host.cache in
      let fails : FailsTo l (λ through memory. failed_move move through memory (cell_at call.host.cache l)) image told.new.image = call.failed image is in
      let left : Image = with_line l fails.words image in
      let s' = shared left old.hosts in
      let act : ActsAs call.at m (machine left m.cache) (shared image old.hosts) s' =
      record {
        before = record { memory = λ k. refl; copies = λ k. ap (λ (o : Option MailHost). held_by o k) call.host_is };
        after = record { memory = λ k. refl; copies = λ k. ap (λ (o : Option MailHost). held_by o k) call.host_is };
        others = λ h k ne. refl;
      } in
      let broke : move_failed move l fails.through m ≡ Some left = ap (option_map (λ (words : List ℕ). with_line l words image)) fails.left in
      let holds = moves_hold (box_in old rest) (runs_of_hosts old.hosts past.floors) (shared image old.hosts) s' past.mail stands call.at l
      (failed_move_transfers call.at m (shared image old.hosts) s' move l fails.through left act (subst IsNormal is normal) within broke) in
      record { image = left; told = fails.written; stands = subst (λ (v : MailView). MailStands rest v past left) (sym call.is) holds }

-- on a media of so many lines
module _ (rest : ℕ → List ℕ) (name : List ℕ) (line : ℕ) (move : Move) (told : MediaChange) (old new : MailView) (past : MailPast) (image : Image) (lines : ℕ) (stands : MailStands rest old past image)
    (is : told.old.image ≡ Some image) (modelled : IsTold lines told.old.image) (fits : MailWorldFits lines old) (below : line ≤ capacity_in old) where
  within_lines : file_line old.entry line < length image
  within_lines = omega (arith, fits.place line below, modelled.count image is)

  -- behind a move, where the file's lines are the media's
  pub moved_on : MoveDoneAt name line move told old new → StandsStill rest past told.new.image new
  moved_on call = moves_stand rest name line move told old new past image stands is modelled.normal within_lines call

  -- and behind one in which it failed
  pub failed_on : (cause : MailRefusal) → MoveFailsAt name line move told cause old new → StandsStill rest past told.new.image new
  failed_on cause call = fails_stand rest name line move told old new past image stands is modelled.normal within_lines cause call
