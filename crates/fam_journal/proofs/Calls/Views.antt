-- The hosts of a world of which one changes: what the protocol sees of them.
use Rattle.std.proofs.Common.{◌≡◌, ◌≢◌, ℕ, List, Option, Some, refl, ap, ◌∙◌}
use Rattle.std.specs.Prelude.{slice_get}
use Rattle.fam_base.specs.Image.{Image}
use Rattle.fam_machine.specs.Caches.{Cache, cell_at}
use Rattle.fam_machine.specs.Operations.{Machine, machine}
use Rattle.fam_protocol.specs.Hosted.{ActsAs}
use Rattle.fam_journal.specs.View.{HostView}
use Rattle.fam_journal.specs.Kept.{copy_at, shared_of}
use Rattle.fam_journal.specs.Members.{changed_at}
use Rattle.fam_journal.proofs.Calls.Members.{changed_at_member, changed_other}

module _ (views : List HostView) (h : ℕ) (view : HostView) (is : slice_get views h ≡ Some view) (f : HostView → HostView) where
  -- the copies of the host that changes, and of others
  pub copy_was : (l : ℕ) → copy_at (slice_get views h) l ≡ cell_at view.cache l
  copy_was l = ap (λ (o : Option HostView). copy_at o l) is

  pub copy_now : (l : ℕ) → copy_at (slice_get (changed_at h f views) h) l ≡ cell_at (f view).cache l
  copy_now l = ap (λ (o : Option HostView). copy_at o l) (changed_at_member h f views view is)

  pub copy_else : (k l : ℕ) → k ≢ h → copy_at (slice_get (changed_at h f views) k) l ≡ copy_at (slice_get views k) l
  copy_else k l ne = ap (λ (o : Option HostView). copy_at o l) (changed_other h k f views ne)

  -- that host's machine became another one
  pub acts_at : (image : Image) (m : Machine) → (f view).cache ≡ m.cache → ActsAs h (machine image view.cache) m (shared_of image views) (shared_of m.image (changed_at h f views))
  acts_at image m cache_is = record {
    before = record { memory = λ l. refl; copies = copy_was };
    after = record { memory = λ l. refl; copies = λ l. copy_now l ∙ ap (λ (c : Cache). cell_at c l) cache_is };
    others = copy_else;
  }
