-- How a call of the judge ends: what it puts, and its status.
use Rattle.std.specs.Prelude.{ℕ, ◌≡◌, ◌⊎◌, ◌<◌, List, Option, Some, None, Ok, Err, option_map}
use Rattle.fam_media.specs.Causes.{Rose}
use Rattle.fam_media.specs.Outside.{IfModelled, IsPartlyPut, with_piece}
use Rattle.fam_media.specs.States.{MediaChange, ShelfChange, SinkChange}
use Rattle.fam_outcomes.specs.declared.status.Status.{Status}
use Rattle.fam_outcomes.specs.declared.status.Status.TheVariants as status
use Rattle.fam_outcomes.specs.Programs.{memory_line}
use Rattle.fam_outcomes.specs.Runs.{Outside}
use Rattle.fam_sources.specs.declared.whole.WholeFault.{WholeFault}
use Rattle.fam_sources.specs.declared.whole.WholeFault.TheVariants as fault
use Rattle.fam_sources.specs.Whole.{Wanted, WholeSays}
use Rattle.fam_verdict.specs.Blank.{blank_image, lines_enough}
use Rattle.fam_verdict.specs.declared.verdict.Verdict.{Verdict}
use Rattle.fam_verdict.specs.Verdicts.{Says}
use Rattle.fam_words.specs.declared.wanted.JudgeCall.{JudgeCall}
use Rattle.fam_judge_call.specs.Texts.{judge_usage, media_text, unread_status, unread_text, verdict_status, verdict_text}

-- what media, shelf and sink tell before and behind a call, of a media of so many lines
abbrev pub around : ℕ → MediaChange → ShelfChange → SinkChange → Outside
around lines media shelf sink = record { lines = lines; media = media; shelf = shelf; sink = sink }

-- Puts.

-- a text is put behind what was put before
abbrev pub PutsWhole : List ℕ → SinkChange → Type 0
PutsWhole text s = s.new.bytes ≡ option_map (with_piece text) s.old.bytes

-- or the sink failed, and a part of it is
pub record PutsPart (text : List ℕ) (s : SinkChange) : Type 0 where
  pub part : IsPartlyPut s.old.bytes s.new.bytes text
  pub rose : Rose s.old.faults s.new.faults

-- with its own status, or with that of a sink that failed
abbrev pub Puts : Status → List ℕ → SinkChange → Status → Type 0
Puts own text s given = ((given ≡ own) × PutsWhole text s) ⊎ ((given ≡ status.SinkFault) × PutsPart text s)

-- or that no memory is left for it
abbrev pub PutsMade : Status → List ℕ → SinkChange → Status → Type 0
PutsMade own text s given = Puts own text s given ⊎ Puts status.OutOfMemory memory_line s given

-- Histories.

-- the most bytes of a history
abbrev pub history_limit : ℕ
history_limit = 1099511627776

-- the history of a name, and no source before it
abbrev pub wanted_history : List ℕ → Wanted
wanted_history name = record { name = name; copied = 0; limit = history_limit }

-- the history was read and judged, on a blank image with lines enough; or it could not be read; or no memory was left
pub data HistoryEnds (name : List ℕ) (shelf : ShelfChange) (out : SinkChange) (given : Status) : Type 0 where
  judged : (text : List ℕ) (verdict : Verdict) → WholeSays shelf (wanted_history name) (Ok text) → Says (blank_image (lines_enough text)) text verdict
      → PutsMade (verdict_status verdict) (verdict_text verdict) out given → HistoryEnds name shelf out given
  unread : (fault : WholeFault) → WholeSays shelf (wanted_history name) (Err fault) → PutsMade (unread_status fault) (unread_text name fault) out given
      → HistoryEnds name shelf out given
  no_memory : Puts status.OutOfMemory memory_line out given → HistoryEnds name shelf out given

-- The history was read and judged on the image that was given; or it could not be read; or the image has no lines, as one that can't be
-- opened; or its media failed at one of its lines; or no memory was left.
pub data OnImageEnds (name image_name : List ℕ) (out : Outside) (given : Status) : Type 0 where
  judged_on : (text : List ℕ) (verdict : Verdict) → WholeSays out.shelf (wanted_history name) (Ok text) → IfModelled out.media.old.image (λ image. Says image text verdict)
      → PutsMade (verdict_status verdict) (verdict_text verdict) out.sink given → OnImageEnds name image_name out given
  unread_on : (fault : WholeFault) → WholeSays out.shelf (wanted_history name) (Err fault) → PutsMade (unread_status fault) (unread_text name fault) out.sink given
      → OnImageEnds name image_name out given
  no_image : out.lines ≡ 0 → PutsMade status.Refused (unread_text image_name fault.NoFile) out.sink given → OnImageEnds name image_name out given
  media_fault : (line : ℕ) → line < out.lines → Rose out.media.old.faults out.media.new.faults → PutsMade status.MediaFault (media_text line) out.sink given
      → OnImageEnds name image_name out given
  out_of_memory_on : Puts status.OutOfMemory memory_line out.sink given → OnImageEnds name image_name out given

-- on the image that the words name, or on a blank one
abbrev pub ImageEnds : List ℕ → Option (List ℕ) → Outside → Status → Type 0
ImageEnds name None out given = HistoryEnds name out.shelf out.sink given
ImageEnds name (Some image) out given = OnImageEnds name image out given

-- what the words ask for, if anything
abbrev pub CallEnds : Option JudgeCall → Outside → Status → Type 0
CallEnds None out given = Puts status.Usage judge_usage out.sink given
CallEnds (Some call) out given = ImageEnds call.history call.image out given

-- or no memory was left for the words. The image is as it was
pub record JudgeEnds (call : Option JudgeCall) (out : Outside) (given : Status) : Type 0 where
  pub ends : CallEnds call out given ⊎ Puts status.OutOfMemory memory_line out.sink given
  pub same : out.media.new.image ≡ out.media.old.image
