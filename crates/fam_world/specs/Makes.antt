-- How making a file system ends, as a note and an answer.
use Rattle.std.specs.Prelude.{ℕ, ⊤, ◌≡◌, Bool, List, Option, Result, Ok, Err}
use Rattle.std.specs.FinMap as map
use Rattle.fam_base.specs.Image.{Image}
use Rattle.fam_base.specs.declared.entry.Params.{Params}
use Rattle.fam_cache.specs.Runs.{CacheOver, over}
use Rattle.fam_machine.specs.Caches.{Cache}
use Rattle.fam_mkfs.specs.Ends.{MkfsEnds}
use Rattle.fam_mkfs.specs.declared.make.MkfsEnd.{MkfsEnd}
use Rattle.fam_mkfs.specs.declared.make.MkfsEnd.TheVariants as ended
use Rattle.fam_journal.specs.declared.refusal.Refusal.TheVariants as why
use Rattle.fam_journal.specs.Notes.{Note, Made, Cut, Refused}
use Rattle.fam_world.specs.declared.fault.WorldFault.{WorldFault}
use Rattle.fam_world.specs.declared.fault.WorldFault.TheVariants as fault

-- the numbers were no hindrance
abbrev pub IsLateEnd : MkfsEnd → Type 0
IsLateEnd (ended.Made params) = ⊤
IsLateEnd (ended.BadGeometry unit log) = ⊥
IsLateEnd (ended.TooSmall need have) = ⊥
IsLateEnd (ended.HasSuper uuid) = ⊤
IsLateEnd (ended.Failed line) = ⊤
IsLateEnd (ended.Halted k) = ⊤

-- what is noted of the host of this number and name
abbrev pub end_note : ℕ → List ℕ → MkfsEnd → Note
end_note h name (ended.Made params) = Made h params
end_note h name (ended.BadGeometry unit log) = Refused name (why.BadGeometry unit log)
end_note h name (ended.TooSmall need have) = Refused name (why.TooSmall need have)
end_note h name (ended.HasSuper uuid) = Refused name (why.HasSuper uuid)
end_note h name (ended.Failed line) = Refused name (why.MediaFault line)
end_note h name (ended.Halted k) = Cut h k

-- what is answered
abbrev pub end_result : MkfsEnd → Result (Unit {0}) WorldFault
end_result (ended.Made params) = Ok tt
end_result (ended.BadGeometry unit log) = Err (fault.Refused (why.BadGeometry unit log))
end_result (ended.TooSmall need have) = Err (fault.Refused (why.TooSmall need have))
end_result (ended.HasSuper uuid) = Err (fault.Refused (why.HasSuper uuid))
end_result (ended.Failed line) = Err (fault.Refused (why.MediaFault line))
end_result (ended.Halted k) = Ok tt

-- the maker's cache behind an end, by what the operations left of it: one that halts loses it
abbrev pub cache_behind : MkfsEnd → Cache → Cache
cache_behind (ended.Made params) ran = ran
cache_behind (ended.BadGeometry unit log) ran = ran
cache_behind (ended.TooSmall need have) ran = ran
cache_behind (ended.HasSuper uuid) ran = ran
cache_behind (ended.Failed line) ran = ran
cache_behind (ended.Halted k) ran = map.empty

-- the operations left a cache so that the end says what it says of it, and the maker has what stays of it behind that end
pub record MakerEnds (p : Params) (force : Bool) (halt : Option ℕ) (lines : ℕ) (before : CacheOver) (now : Option Image) (cache : Cache) (faults faults_now : ℕ) (end : MkfsEnd) : Type 0 where
  pub ran : Cache
  pub ends : MkfsEnds p force halt lines before (over now ran) faults faults_now end
  pub left : cache ≡ cache_behind end ran
