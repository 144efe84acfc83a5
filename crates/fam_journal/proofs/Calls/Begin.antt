-- A new world is held.
use Rattle.std.proofs.Common.{◌≡◌, ◌*◌, ◌≤◌, Bool, true, false, length, map, refl, ap, sym, subst}
use Rattle.std.specs.Prelude.{nat_lt, if◌then◌else◌}
use Rattle.std.proofs.lemmas.List.{length-map}
use Rattle.fam_base.specs.Image.{Image, eight, line_at}
use Rattle.fam_format.specs.Layout.{device_limit, least_lines}
use Rattle.fam_format.specs.Reading.{Reading, NoSuperblock, BadHeader, BadSlot, Sound, reading}
use Rattle.fam_rules.specs.Solo.{held_file}
use Rattle.fam_rules.specs.Place.{line_bytes}
use Rattle.fam_protocol.specs.Invariant.{Settled, Small, Known, Invariant, solo, no_hosts, settled_at_first, settled_by}
use Rattle.fam_protocol.proofs.Hosts.Begins.{begins}
use Rattle.fam_journal.specs.View.{empty_world}
use Rattle.fam_journal.specs.Kept.{Agrees, IfHalted, settled_of}
use Rattle.fam_journal.specs.Machines.{unused}
use Rattle.fam_journal.specs.Past.{Bad, FewLines, Given, first_state, state_read}

-- the first state is what the protocol begins with
settled_read : (image : Image) (r : Reading) → settled_of (state_read image r) (line_at image) ≡ settled_by (line_at image) r
settled_read image (NoSuperblock fault) = refl
settled_read image (BadHeader fault) = refl
settled_read image (BadSlot i reason) = refl
settled_read image (Sound p entries) = ap (Known p (map (held_file (line_at image)) entries)) (length-map entries (held_file (line_at image)))

settled_sized : (image : Image) (few : Bool)
    → settled_of (if few then Bad (Given image) (FewLines (length image)) 0 else state_read image (reading image)) (line_at image)
    ≡ (if few then Small (line_at image) else settled_by (line_at image) (reading image))
settled_sized image true = refl
settled_sized image false = settled_read image (reading image)

pub settled_first : (image : Image) → settled_of (first_state image) (line_at image) ≡ settled_at_first image
settled_first image = settled_sized image (nat_lt (length image) least_lines)

free_read : (image : Image) (r : Reading) → IfHalted (state_read image r) (line_at image)
free_read image (NoSuperblock fault) = tt
free_read image e = tt

free_sized : (image : Image) (few : Bool) → IfHalted (if few then Bad (Given image) (FewLines (length image)) 0 else state_read image (reading image)) (line_at image)
free_sized image true = tt
free_sized image false = free_read image (reading image)

pub held_first : (image : Image) → line_bytes * length image ≤ device_limit → map eight image ≡ image → Agrees image (unused image) empty_world image
held_first image limit normal = record {
  memory = refl;
  lines = refl;
  normal = normal;
  first = normal;
  limit = limit;
  stands = λ h. tt;
  told = λ h. tt;
  legal = tt;
  halted = free_sized image (nat_lt (length image) least_lines);
  invariant = subst (λ (x : Settled). Invariant x (length image) no_hosts (solo image)) (sym (settled_first image)) (begins image limit);
}
