-- Names of hosts in a line, which are such.
use Rattle.std.specs.Prelude.{ℕ, ⊤, IsTrue, List}
use Rattle.fam_base.specs.HostNames.{is_host_name}
use Rattle.fam_history.specs.declared.note.LineNote.{LineNote}
use Rattle.fam_history.specs.declared.note.LineNote.TheVariants as told
use Rattle.fam_history.specs.declared.note.ToldLine.{ToldLine}
use Rattle.fam_history.specs.declared.refusal.ToldRefusal.{ToldRefusal}
use Rattle.fam_history.specs.declared.refusal.ToldRefusal.TheVariants as refusal

-- bytes are the name of a host
abbrev pub IsName : List ℕ → Type 0
IsName name = IsTrue (is_host_name name)

-- another host that a refusal tells has a name
abbrev pub NamesOtherSeen : ToldRefusal → Type 0
NamesOtherSeen refusal.NoHost = ⊤
NamesOtherSeen (refusal.SameHost name) = IsName name
NamesOtherSeen refusal.TooManyHosts = ⊤
NamesOtherSeen (refusal.BadGeometry unit log) = ⊤
NamesOtherSeen (refusal.TooSmall need have) = ⊤
NamesOtherSeen (refusal.ImageSmall lines) = ⊤
NamesOtherSeen (refusal.Busy name) = IsName name
NamesOtherSeen (refusal.Dirty name) = IsName name
NamesOtherSeen (refusal.HasSuper uuid) = ⊤
NamesOtherSeen refusal.Idle = ⊤
NamesOtherSeen refusal.Mounted = ⊤
NamesOtherSeen refusal.NotMounted = ⊤
NamesOtherSeen (refusal.NoLine at lines) = ⊤
NamesOtherSeen (refusal.NoFile name) = ⊤
NamesOtherSeen (refusal.CopyLimit sum) = ⊤
NamesOtherSeen (refusal.BadListing at) = ⊤
NamesOtherSeen (refusal.MediaFault at) = ⊤

-- so it is of what a line tells
abbrev pub NamesOthers : LineNote → Type 0
NamesOthers (told.Host uuid) = ⊤
NamesOthers (told.Made p) = ⊤
NamesOthers (told.Cut k) = ⊤
NamesOthers (told.Start cmd) = ⊤
NamesOthers told.Mark = ⊤
NamesOthers (told.Found n) = ⊤
NamesOthers (told.Writes seq entry) = ⊤
NamesOthers (told.Answered answer) = ⊤
NamesOthers told.Stop = ⊤
NamesOthers told.Halt = ⊤
NamesOthers told.Umount = ⊤
NamesOthers (told.Refused why) = NamesOtherSeen why

-- and of the line
pub record NamesHosts (t : ToldLine) : Type 0 where
  pub own : IsName t.name
  pub others : NamesOthers t.note
