-- The lines of a file are apart.
use Rattle.std.proofs.Common.{◌≡◌, ℕ, ◌*◌, ◌<◌, ◌≤◌, sym, ap, ◌∙◌, arith}
use Rattle.fam_base.specs.declared.entry.Params.{Params}
use Rattle.fam_base.specs.declared.entry.Entry.{Entry}
use Rattle.fam_format.specs.Params.{SoundParams}
use Rattle.fam_format.specs.Slot.{Proper}
use Rattle.fam_format.specs.Units.{units_in}
use Rattle.fam_protocol.proofs.Lines.Apart.{line_begins}
use Rattle.fam_rules.specs.Place.{IsOnce, line_bytes, place}
use Rattle.fam_rules.specs.Written.{file_line}
use Rattle.fam_rules.proofs.FilePlaces.{place_once}
use Rattle.fam_mail.specs.Boxes.{IsOneToOne, capacity_of}

-- no two lines of a file are one line of the image
pub no_line_twice : (p : Params) (e : Entry) → SoundParams p → Proper p e → IsOnce (units_in p.unit e.extents) → 128 ≤ e.size → IsOneToOne (file_line e) (capacity_of e.size)
no_line_twice p e sound proper once big i j i_le j_le same =
    let i_below : line_bytes * i < e.size = omega arith in
    let j_below : line_bytes * j < e.size = omega arith in
    let places : place e (line_bytes * i) ≡ place e (line_bytes * j) =
    line_begins p e i sound proper i_below ∙ ap (λ (l : ℕ). line_bytes * l) same ∙ sym (line_begins p e j sound proper j_below) in
    let bytes : line_bytes * i ≡ line_bytes * j = place_once p e (line_bytes * i) (line_bytes * j) sound proper once i_below j_below places in
    omega arith
