-- Classes of refusals. Where refusals of a class are alike a table speaks of the class, so a new refusal chooses its class
-- here, once, and has no rows of its own but where it differs.
use Rattle.fam_base.specs.declared.line.LineNo.{LineNo}
use Rattle.fam_journal.specs.declared.host_id.HostId.{HostId}
use Rattle.fam_journal.specs.declared.refusal.Refusal.{Refusal}
use Rattle.fam_journal.specs.declared.refusal.Refusal.TheVariants as why

-- what tells a refusal
pub data RefusalClass : Type 0 where
  -- the world and the numbers of the call
  AtOnce : RefusalClass
  -- another host, or an earlier one
  ByHost : (host : HostId) → RefusalClass
  -- the image, once some of it is read
  ByImage : RefusalClass
  -- a file outside the image
  BySource : RefusalClass
  -- the media failed at a line
  ByFault : (at : LineNo) → RefusalClass

-- the class of a refusal
abbrev pub refusal_class : Refusal → RefusalClass
refusal_class why.NoHost = AtOnce
refusal_class (why.SameHost host) = ByHost host
refusal_class why.TooManyHosts = AtOnce
refusal_class (why.BadGeometry unit log) = AtOnce
refusal_class (why.TooSmall need have) = AtOnce
refusal_class (why.ImageSmall lines) = AtOnce
refusal_class (why.Busy host) = ByHost host
refusal_class (why.Dirty host) = ByHost host
refusal_class (why.HasSuper uuid) = ByImage
refusal_class why.Idle = AtOnce
refusal_class why.Mounted = AtOnce
refusal_class why.NotMounted = AtOnce
refusal_class (why.NoLine at lines) = AtOnce
refusal_class (why.NoFile name) = BySource
refusal_class (why.CopyLimit sum) = BySource
refusal_class (why.BadListing at) = BySource
refusal_class (why.MediaFault at) = ByFault at
