-- What a journal's text tells of a refusal: all of it, where a host is named. `names` are those of the hosts declared so far.
use Rattle.std.specs.Prelude.{ℕ, ⊤, ◌^◌, ◌<◌, IsTrue, List}
use Rattle.fam_base.specs.Escapes.{AreBytes}
use Rattle.fam_base.specs.HostNames.{is_host_name}
use Rattle.fam_format.specs.Params.{IsUuid}
use Rattle.fam_journal.specs.declared.refusal.Refusal.{Refusal}
use Rattle.fam_journal.specs.declared.refusal.Refusal.TheVariants as why
use Rattle.fam_grammar.specs.Spellings.{is_file_name}
use Rattle.fam_outcomes.specs.Texts.{host_name}
use Rattle.fam_history.specs.declared.refusal.ToldRefusal.{ToldRefusal}
use Rattle.fam_history.specs.declared.refusal.ToldRefusal.TheVariants as told

-- what is told of a refusal
abbrev pub told_of_refusal : List (List ℕ) → Refusal → ToldRefusal
told_of_refusal names why.NoHost = told.NoHost
told_of_refusal names (why.SameHost host) = told.SameHost (host_name names host.0)
told_of_refusal names why.TooManyHosts = told.TooManyHosts
told_of_refusal names (why.BadGeometry unit log) = told.BadGeometry unit log
told_of_refusal names (why.TooSmall need have) = told.TooSmall need have
told_of_refusal names (why.ImageSmall lines) = told.ImageSmall lines
told_of_refusal names (why.Busy host) = told.Busy (host_name names host.0)
told_of_refusal names (why.Dirty host) = told.Dirty (host_name names host.0)
told_of_refusal names (why.HasSuper uuid) = told.HasSuper uuid
told_of_refusal names why.Idle = told.Idle
told_of_refusal names why.Mounted = told.Mounted
told_of_refusal names why.NotMounted = told.NotMounted
told_of_refusal names (why.NoLine at lines) = told.NoLine at lines
told_of_refusal names (why.NoFile name) = told.NoFile name
told_of_refusal names (why.CopyLimit sum) = told.CopyLimit sum
told_of_refusal names (why.BadListing at) = told.BadListing at
told_of_refusal names (why.MediaFault at) = told.MediaFault at.0

-- a file's name in bytes
pub record IsTellingName (name : List ℕ) : Type 0 where
  pub file : IsTrue (is_file_name name)
  pub bytes : AreBytes name

-- a refusal whose numbers are those of the code's types, and whose names and UUID are such
abbrev pub IsTellingRefusal : List (List ℕ) → Refusal → Type 0
IsTellingRefusal names why.NoHost = ⊤
IsTellingRefusal names (why.SameHost host) = IsTrue (is_host_name (host_name names host.0))
IsTellingRefusal names why.TooManyHosts = ⊤
IsTellingRefusal names (why.BadGeometry unit log) = (unit < 2 ^ 64) × (log < 2 ^ 64)
IsTellingRefusal names (why.TooSmall need have) = (need < 2 ^ 64) × (have < 2 ^ 64)
IsTellingRefusal names (why.ImageSmall lines) = lines < 2 ^ 64
IsTellingRefusal names (why.Busy host) = IsTrue (is_host_name (host_name names host.0))
IsTellingRefusal names (why.Dirty host) = IsTrue (is_host_name (host_name names host.0))
IsTellingRefusal names (why.HasSuper uuid) = IsUuid uuid
IsTellingRefusal names why.Idle = ⊤
IsTellingRefusal names why.Mounted = ⊤
IsTellingRefusal names why.NotMounted = ⊤
IsTellingRefusal names (why.NoLine at lines) = (at < 2 ^ 64) × (lines < 2 ^ 64)
IsTellingRefusal names (why.NoFile name) = IsTellingName name
IsTellingRefusal names (why.CopyLimit sum) = sum < 2 ^ 64
IsTellingRefusal names (why.BadListing at) = at < 2 ^ 64
IsTellingRefusal names (why.MediaFault at) = at.0 < 2 ^ 64
