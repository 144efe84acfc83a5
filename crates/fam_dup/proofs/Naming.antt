-- The line that a fault names, where one image or none was asked.
use Rattle.std.proofs.Common.{◌≡◌, ℕ, ◌+◌, ◌<◌, ◌≤◌, List, ap, refl, arith}
use Rattle.fam_base.specs.declared.entry.Entry.{Entry}
use Rattle.fam_format.specs.Reading.{Reading}
use Rattle.fam_replay.specs.Sources.{FailsAt, IsCounted, IsReadCaused, Tells}
use Rattle.fam_replay.specs.declared.fault.ReadFault.{ReadFault}
use Rattle.fam_replay.specs.declared.fault.ReadFault.TheVariants as read
use Rattle.fam_rules.specs.Written.{file_line}
use Rattle.fam_dup.specs.declared.fault.DupFault.{DupFault}
use Rattle.fam_dup.specs.declared.fault.DupFault.TheVariants as fault
use Rattle.fam_dup.specs.declared.files.TheConstants.{RUN_LINES}
use Rattle.fam_dup.specs.Ends.{FailsFromAt, IsCausedByFrom, IsFileStep, IsOwn, NamesLine, from_counted, of_read}
use Rattle.fam_dup.specs.Findings.{FailsFrom, Finding, Names, WantsMemory, fault_class, from_or}
use Rattle.fam_dup.specs.Runs.{AreBelow}

-- FROM alone was asked
pub from_names : (from to : ℕ) (f : DupFault) → NamesLine from 0 f → NamesLine from to f
from_names from to (fault.ImageSmall lines) names = tt
from_names from to (fault.NoSuper word) names = tt
from_names from to (fault.BadSuper field found wanted) names = tt
from_names from to (fault.BadLog field found wanted) names = tt
from_names from to (fault.BadEntry seq reason) names = tt
from_names from to (fault.TooSmall needed have) names = tt
from_names from to (fault.HasSuper fs) names = tt
from_names from to (fault.Stopped seq refusal) names = tt
from_names from to (fault.FromFault line) names = names
from_names from to (fault.ToFault line) names = absurd (omega (arith, names))
from_names from to fault.OutOfMemory names = tt

-- TO alone
pub to_names : (from to : ℕ) (f : DupFault) → NamesLine 0 to f → NamesLine from to f
to_names from to (fault.ImageSmall lines) names = tt
to_names from to (fault.NoSuper word) names = tt
to_names from to (fault.BadSuper field found wanted) names = tt
to_names from to (fault.BadLog field found wanted) names = tt
to_names from to (fault.BadEntry seq reason) names = tt
to_names from to (fault.TooSmall needed have) names = tt
to_names from to (fault.HasSuper fs) names = tt
to_names from to (fault.Stopped seq refusal) names = tt
to_names from to (fault.FromFault line) names = absurd (omega (arith, names))
to_names from to (fault.ToFault line) names = names
to_names from to fault.OutOfMemory names = tt

-- none was
pub own_names : (from to : ℕ) (f : DupFault) → IsOwn (fault_class f) → NamesLine from to f
own_names from to (fault.ImageSmall lines) names = tt
own_names from to (fault.NoSuper word) names = tt
own_names from to (fault.BadSuper field found wanted) names = tt
own_names from to (fault.BadLog field found wanted) names = tt
own_names from to (fault.BadEntry seq reason) names = tt
own_names from to (fault.TooSmall needed have) names = tt
own_names from to (fault.HasSuper fs) names = tt
own_names from to (fault.Stopped seq refusal) names = tt
own_names from to (fault.FromFault line) names = absurd names
own_names from to (fault.ToFault line) names = absurd names
own_names from to fault.OutOfMemory names = tt

-- nor for want of memory
pub memory_names : (from to : ℕ) (f : DupFault) → fault_class f ≡ WantsMemory → NamesLine from to f
memory_names from to (fault.ImageSmall lines) names = tt
memory_names from to (fault.NoSuper word) names = tt
memory_names from to (fault.BadSuper field found wanted) names = tt
memory_names from to (fault.BadLog field found wanted) names = tt
memory_names from to (fault.BadEntry seq reason) names = tt
memory_names from to (fault.TooSmall needed have) names = tt
memory_names from to (fault.HasSuper fs) names = tt
memory_names from to (fault.Stopped seq refusal) names = tt
memory_names from to (fault.FromFault line) names = absurd (cc)
memory_names from to (fault.ToFault line) names = absurd (cc)
memory_names from to fault.OutOfMemory names = tt

-- The line at which a media failed is one of more.

pub from_among : (P Q : ℕ → Type 0) → ((at : ℕ) → P at → Q at) → (f : DupFault) → FailsFromAt P f → FailsFromAt Q f
from_among P Q more (fault.ImageSmall lines) fails = tt
from_among P Q more (fault.NoSuper word) fails = tt
from_among P Q more (fault.BadSuper field found wanted) fails = tt
from_among P Q more (fault.BadLog field found wanted) fails = tt
from_among P Q more (fault.BadEntry seq reason) fails = tt
from_among P Q more (fault.TooSmall needed have) fails = tt
from_among P Q more (fault.HasSuper fs) fails = tt
from_among P Q more (fault.Stopped seq refusal) fails = tt
from_among P Q more (fault.FromFault line) fails = more line.0 fails
from_among P Q more (fault.ToFault line) fails = tt
from_among P Q more fault.OutOfMemory fails = tt

pub read_among : (P Q : ℕ → Type 0) → ((at : ℕ) → P at → Q at) → (f : ReadFault) → FailsAt P f → FailsFromAt Q (of_read f)
read_among P Q more (read.NoSuper word) fails = tt
read_among P Q more (read.BadSuper field found wanted) fails = tt
read_among P Q more (read.BadLog field found wanted) fails = tt
read_among P Q more (read.BadEntry seq reason) fails = tt
read_among P Q more (read.MediaFault line) fails = more line.0 fails
read_among P Q more read.OutOfMemory fails = tt

-- Of an entry's file, where lines are read from one on, and nothing of them was put.

pub file_step : (e c : Entry) (words : List ℕ) (j n : ℕ) → AreBelow e j n → n ≤ RUN_LINES → (f : DupFault) → fault_class f ≡ FailsFrom
    → FailsFromAt (λ at. (ahead : ℕ) × (ahead < n) × (at ≡ file_line e (j + ahead))) f → IsFileStep e c f (file_line c j, words)
file_step e c words j n below few (fault.ImageSmall lines) is fails = absurd (cc)
file_step e c words j n below few (fault.NoSuper word) is fails = absurd (cc)
file_step e c words j n below few (fault.BadSuper field found wanted) is fails = absurd (cc)
file_step e c words j n below few (fault.BadLog field found wanted) is fails = absurd (cc)
file_step e c words j n below few (fault.BadEntry seq reason) is fails = absurd (cc)
file_step e c words j n below few (fault.TooSmall needed have) is fails = absurd (cc)
file_step e c words j n below few (fault.HasSuper fs) is fails = absurd (cc)
file_step e c words j n below few (fault.Stopped seq refusal) is fails = absurd (cc)
file_step e c words j n below few (fault.FromFault line) is fails =
    record { next = j; ahead = fails.0; puts = refl; reads = fails.2; within = below fails.0 fails.1; few = omega (arith, fails.1, few) }
file_step e c words j n below few (fault.ToFault line) is fails = absurd (cc)
file_step e c words j n below few fault.OutOfMemory is fails = absurd (cc)

-- A fault of FROM's log.

pub read_names : (f : ReadFault) (r : Reading) (rest : List Entry → Finding) → Tells f r → Names (fault_class (of_read f)) (from_or r rest)
read_names (read.NoSuper word) r rest tells = ap (λ (q : Reading). from_or q rest) tells
read_names (read.BadSuper field found wanted) r rest tells = ap (λ (q : Reading). from_or q rest) tells
read_names (read.BadLog field found wanted) r rest tells = ap (λ (q : Reading). from_or q rest) tells
read_names (read.BadEntry seq reason) r rest tells = ap (λ (q : Reading). from_or q rest) tells
read_names (read.MediaFault line) r rest tells = tt
read_names read.OutOfMemory r rest tells = tt

pub read_caused : (before now : ℕ) (f : ReadFault) → IsReadCaused before now f → IsCausedByFrom before now (fault_class (of_read f))
read_caused before now (read.NoSuper word) cause = tt
read_caused before now (read.BadSuper field found wanted) cause = tt
read_caused before now (read.BadLog field found wanted) cause = tt
read_caused before now (read.BadEntry seq reason) cause = tt
read_caused before now (read.MediaFault line) cause = cause
read_caused before now read.OutOfMemory cause = tt

pub read_counts : (before now : ℕ) (f : ReadFault) → IsCounted before now f → now ≡ from_counted (fault_class (of_read f)) before
read_counts before now (read.NoSuper word) count = count
read_counts before now (read.BadSuper field found wanted) count = count
read_counts before now (read.BadLog field found wanted) count = count
read_counts before now (read.BadEntry seq reason) count = count
read_counts before now (read.MediaFault line) count = count
read_counts before now read.OutOfMemory count = count

pub read_within : (lines : ℕ) (f : ReadFault) → FailsAt (λ at. at < lines) f → NamesLine lines 0 (of_read f)
read_within lines (read.NoSuper word) within = tt
read_within lines (read.BadSuper field found wanted) within = tt
read_within lines (read.BadLog field found wanted) within = tt
read_within lines (read.BadEntry seq reason) within = tt
read_within lines (read.MediaFault line) within = within
read_within lines read.OutOfMemory within = tt
