-- What a command answers on an image and what it leaves, where nothing else touches the image. docs/MODEL.md, "One
-- command alone".
use Rattle.std.specs.Prelude.{ℕ, ◌*◌, ◌/◌, ◌%◌, List, length, map, Option, Some, None, Result, Ok, Err, unwrap_or}
use Rattle.std.specs.List.{range_with_len}
use Rattle.fam_base.specs.declared.cmd.Cmd.{Cmd}
use Rattle.fam_base.specs.declared.cmd.Cmd.TheVariants.{Logplay, Mount, Mkdir, Creat, Cp, Verify, Read, Check, Fsck}
use Rattle.fam_base.specs.declared.cmd.Content.{Content}
use Rattle.fam_base.specs.declared.cmd.Content.TheVariants as content
use Rattle.fam_base.specs.declared.entry.Params.{Params}
use Rattle.fam_base.specs.declared.entry.Entry.{Entry}
use Rattle.fam_base.specs.Image.{Image, line_at}
use Rattle.fam_format.specs.declared.faults.SuperFault.{SuperFault}
use Rattle.fam_format.specs.Reading.{Lines, Reading, NoSuperblock, BadHeader, BadSlot, Sound, super_in, reading_of}
use Rattle.fam_rules.specs.declared.answers.Refused.{Refused}
use Rattle.fam_rules.specs.Asks.{File, ask}
use Rattle.fam_rules.specs.Content.{byte_in, fill}
use Rattle.fam_rules.specs.Decide.{Wish, wish_of, early_refusal, decide}
use Rattle.fam_rules.specs.Place.{line_bytes, place}
use Rattle.fam_rules.specs.Reply as reply
use Rattle.fam_rules.specs.Reply.{Reply}
use Rattle.fam_rules.specs.Reports.{report_of}
use Rattle.fam_rules.specs.Written.{written}

-- an entry with the bytes that memory has at their places
abbrev pub held_file : Lines → Entry → File
held_file memory e =
    record { entry = e; bytes = map (λ o. byte_in (memory (place e o / line_bytes)) (place e o % line_bytes)) (range_with_len 0 e.size) }

-- the content that a command puts into its new file
abbrev pub content_of : Cmd → Content
content_of (Creat path size attr stripe fill) = fill
content_of (Cp path attr stripe bytes) = content.Bytes bytes
content_of Logplay = content.Zero
content_of Mount = content.Zero
content_of (Mkdir path attr) = content.Zero
content_of (Verify path against) = content.Zero
content_of (Read path offset count) = content.Zero
content_of (Check listing) = content.Zero
content_of Fsck = content.Zero

-- a command that appends, of another host than the one that the superblock names, or of a path that is too long
abbrev pub head_refusal : Option Wish → Result Params SuperFault → List ℕ → Option Refused
head_refusal None super me = None
head_refusal (Some w) (Err fault) me = None
head_refusal (Some w) (Ok p) me = early_refusal p me w.path

-- an entry is appended, or none
abbrev pub appended : ℕ → Result Entry Refused → Reply
appended seq (Ok e) = reply.Appended seq
appended seq (Err refused) = reply.NotAppended refused

-- on the entries of a sound image: a command that appends by its decision, another one by its question
abbrev pub sound_reply : Lines → ℕ → List Entry → Cmd → Option (Result Entry Refused) → Reply
sound_reply memory have entries cmd (Some decision) = appended (length entries) decision
sound_reply memory have entries cmd None = unwrap_or (ask (map (held_file memory) entries) cmd) (reply.Reports (report_of memory have))

-- by what the image says
abbrev pub reading_reply : Lines → ℕ → List ℕ → Cmd → Reading → Reply
reading_reply memory have me cmd (NoSuperblock fault) = reply.NoSuperblock fault
reading_reply memory have me cmd (BadHeader fault) = reply.BadHeader fault
reading_reply memory have me cmd (BadSlot i reason) = reply.BadSlot i reason
reading_reply memory have me cmd (Sound p entries) = sound_reply memory have entries cmd (decide p me entries cmd)

-- what is refused is refused when the superblock is read; nothing behind it is looked at
abbrev pub reply_unless : Option Refused → Reply → Reply
reply_unless (Some refused) other = reply.NotAppended refused
reply_unless None other = other

-- of a command other than a check of the whole file system
abbrev pub reply_to : Lines → ℕ → List ℕ → Cmd → Reply
reply_to memory have me cmd = reply_unless (head_refusal (wish_of cmd) (super_in memory have) me) (reading_reply memory have me cmd (reading_of memory have))

-- a check of the whole file system reports, whatever the image says
abbrev pub reply_in : Lines → ℕ → List ℕ → Cmd → Reply
reply_in memory have me Fsck = reply.Reports (report_of memory have)
reply_in memory have me Logplay = reply_to memory have me Logplay
reply_in memory have me Mount = reply_to memory have me Mount
reply_in memory have me (Mkdir path attr) = reply_to memory have me (Mkdir path attr)
reply_in memory have me (Creat path size attr stripe fill) = reply_to memory have me (Creat path size attr stripe fill)
reply_in memory have me (Cp path attr stripe bytes) = reply_to memory have me (Cp path attr stripe bytes)
reply_in memory have me (Verify path against) = reply_to memory have me (Verify path against)
reply_in memory have me (Read path offset count) = reply_to memory have me (Read path offset count)
reply_in memory have me (Check listing) = reply_to memory have me (Check listing)

-- what the command answers on an image
unfoldable pub solo_reply : Image → List ℕ → Cmd → Reply
solo_reply image me cmd = reply_in (line_at image) (line_bytes * length image) me cmd

-- what it leaves: an entry appended, or the image
abbrev pub decision_image : Image → Params → List Entry → Cmd → Option (Result Entry Refused) → Image
decision_image image p entries cmd (Some (Ok e)) = written image p (length entries) e (fill (content_of cmd) e.size)
decision_image image p entries cmd (Some (Err refused)) = image
decision_image image p entries cmd None = image

-- by what the image reads as: a damaged one stays
abbrev pub reading_image : Image → List ℕ → Cmd → Reading → Image
reading_image image me cmd (Sound p entries) = decision_image image p entries cmd (decide p me entries cmd)
reading_image image me cmd (NoSuperblock fault) = image
reading_image image me cmd (BadHeader fault) = image
reading_image image me cmd (BadSlot i reason) = image

-- the image of such a refusal is as before: the decision is a refusal too
unfoldable pub solo_image : Image → List ℕ → Cmd → Image
solo_image image me cmd = reading_image image me cmd (reading_of (line_at image) (line_bytes * length image))
