-- Why no event is run, by what was read.
use Rattle.std.proofs.Common.{◌≡◌, ℕ, ◌+◌, ◌≤◌, ◌<◌, ◌∙◌, Bool, true, List, ap, length, Option, Some, Result, Ok, Err, subst, inl, inr, arith}
use Rattle.std.specs.Prelude.{IfErr, IfOk}
use Rattle.std.specs.FinMap as map
use Rattle.fam_base.specs.Image.{Image, line_at}
use Rattle.fam_base.specs.declared.entry.Entry.{Entry}
use Rattle.fam_base.specs.declared.entry.Kind.TheVariants as kind
use Rattle.fam_base.specs.declared.entry.Params.{Params}
use Rattle.fam_format.specs.Layout.{least_lines}
use Rattle.fam_format.specs.Reading as read
use Rattle.fam_format.specs.Reading.{Reading, reading}
use Rattle.fam_format.specs.Tree.{replay}
use Rattle.fam_mail.specs.Boxes.{box_of, capacity_of}
use Rattle.fam_mail.specs.Checks.{IfFailed, IfWrong, IsBoxCounted, IsReadLine}
use Rattle.fam_mail.specs.declared.check.BoxFault.{BoxFault}
use Rattle.fam_mail.specs.declared.check.BoxFault.TheVariants as check
use Rattle.fam_mail.specs.declared.check.WrongBox.TheVariants as wrong
use Rattle.fam_media.specs.Causes.{Rose}
use Rattle.fam_media.specs.Outside.{IfModelled}
use Rattle.fam_media.specs.Plans.{one_more}
use Rattle.fam_media.specs.States.{MediaChange}
use Rattle.fam_rules.specs.Written.{file_line}
use Rattle.fam_mailbox.specs.declared.fault.LookFault.{LookFault}
use Rattle.fam_mailbox.specs.declared.fault.LookFault.TheVariants as fault
use Rattle.fam_mailbox.specs.Lookups.{HasEntries, HasFile, IsLookCaused, IsLookCounted, IsNoFile, IsSo, box_look}

-- a count that rose has risen from what it was before
rose_later : (first before now : ℕ) → first ≤ before → Rose before now → Rose first now
rose_later first before now later (inl rose) = inl (omega arith)
rose_later first before now later (inr last) = inr last

-- What stands at a path.

pub no_file_so : (path : List ℕ) (image : Image) (params : Params) (entries : List Entry) (f : LookFault) → least_lines ≤ length image → reading image ≡ read.Sound params entries
    → IsNoFile entries path f → IsSo path image f
no_file_so path image params entries (fault.NotFound m) enough reads none =
    record { params = params; entries = entries; has = record { enough = enough; reads = reads }; count = none.0; none = none.1 }
no_file_so path image params entries (fault.IsDirectory m) enough reads (count, entry, there, directory) =
    record { params = params; entries = entries; has = record { enough = enough; reads = reads }; count = count; entry = entry; there = there; directory = directory }
no_file_so path image params entries e enough reads none = absurd none

-- where the image is modelled
pub files_found : (path : List ℕ) (told : Option Image) (params : Params) (entries : List Entry) (r : Result Entry LookFault) → IfModelled told (λ image. HasEntries image params entries)
    → IfOk r (λ e. map.get (replay entries) path ≡ Some e) → IfOk r (λ e. e.kind ≡ kind.File) → IfOk r (λ e. IfModelled told (λ image. HasFile path image e))
files_found path told params entries (Ok e) has there file = λ image is. record { params = params; entries = entries; has = has image is; there = there; file = file }
files_found path told params entries (Err f) has there file = tt

-- what stands at a path, where no entry is told
pub no_files : (path : List ℕ) (told : Option Image) (params : Params) (entries : List Entry) (r : Result Entry LookFault) → IfModelled told (λ image. HasEntries image params entries)
    → IfErr r (IsNoFile entries path) → IfErr r (λ f. IfModelled told (λ image. IsSo path image f))
no_files path told params entries (Ok e) has none = tt
no_files path told params entries (Err f) has none = λ image is. let h = has image is in no_file_so path image params entries f h.enough h.reads none

-- where no file stands there, nothing has failed
no_file_counted : (entries : List Entry) (path : List ℕ) (before now : ℕ) (f : LookFault) → IsNoFile entries path f → now ≡ before → IsLookCounted before now f
no_file_counted entries path before now (fault.NotFound m) none quiet = quiet
no_file_counted entries path before now (fault.IsDirectory m) none quiet = quiet
no_file_counted entries path before now e none quiet = absurd none

-- where no entry is told
pub no_files_counted : (entries : List Entry) (path : List ℕ) (exact : Bool) (before now : ℕ) (r : Result Entry LookFault) → IfErr r (IsNoFile entries path) → (exact ≡ true → now ≡ before)
    → IfErr r (λ f. exact ≡ true → IsLookCounted before now f)
no_files_counted entries path exact before now (Ok e) none quiet = tt
no_files_counted entries path exact before now (Err f) none quiet = λ is. no_file_counted entries path before now f none (quiet is)

-- The box.

-- a fault of a box is counted as one of the look, behind calls that went well
pub box_counted : (before then now : ℕ) (f : BoxFault) → then ≡ before → IsBoxCounted then now f → IsLookCounted before now (box_look f)
box_counted before then now (check.Wrong (wrong.BadBox gate capacity)) quiet counted = counted ∙ quiet
box_counted before then now (check.Wrong (wrong.BadRecord i)) quiet counted = counted ∙ quiet
box_counted before then now (check.MediaFault line) quiet counted = counted ∙ ap one_more quiet

-- a fault of a box is so of the image
pub box_so : (path : List ℕ) (image : Image) (told : Option Image) (entry : Entry) (f : BoxFault) → told ≡ Some image → HasFile path image entry → 128 ≤ entry.size
    → IfWrong f (λ w. IfModelled told (λ i. box_of (file_line entry) (capacity_of entry.size) (line_at i) ≡ Err w))
    → IfFailed f (λ line. IsReadLine (file_line entry) (capacity_of entry.size) told line.0) → IsSo path image (box_look f)
box_so path image told entry (check.Wrong (wrong.BadBox gate capacity)) is file room none read = record { entry = entry; file = file; room = room; wrong_is = none image is }
box_so path image told entry (check.Wrong (wrong.BadRecord i)) is file room none read = record { entry = entry; file = file; room = room; wrong_is = none image is }
box_so path image told entry (check.MediaFault line) is file room none read =
    inr (record { entry = entry; file = file; room = room; line_is = subst (λ (i : Option Image). IsReadLine (file_line entry) (capacity_of entry.size) i line.0) is read })

-- a line that is read is the media's
read_within : (place : ℕ → ℕ) (capacity line lines : ℕ) (told : Option Image) → ((j : ℕ) → j ≤ capacity → place j < lines) → IsReadLine place capacity told line → line < lines
read_within place capacity line lines told within (inl gate) = let below = within 0 (omega arith) in omega (arith, gate, below)
read_within place capacity line lines told within (inr r) =
    let a = r.below in
    let b = r.room in
    let below = within (1 + r.number) (omega (arith, a, b)) in
    let is = r.line_is in
    omega (arith, is, below)

-- and has its cause
pub box_caused : (lines : ℕ) (media : MediaChange) (before : ℕ) (place : ℕ → ℕ) (capacity : ℕ) (told : Option Image) (f : BoxFault) → media.old.faults ≤ before
    → ((j : ℕ) → j ≤ capacity → place j < lines)
    → IfFailed f (λ line. Rose before media.new.faults) → IfFailed f (λ line. IsReadLine place capacity told line.0) → IsLookCaused lines media (box_look f)
box_caused lines media before place capacity told (check.Wrong (wrong.BadBox gate most)) later within rose read = tt
box_caused lines media before place capacity told (check.Wrong (wrong.BadRecord i)) later within rose read = tt
box_caused lines media before place capacity told (check.MediaFault line) later within rose read =
    (rose_later media.old.faults before media.new.faults later rose, read_within place capacity line.0 lines told within read)
