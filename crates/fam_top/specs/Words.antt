-- What the words of a call ask for. docs/MANUAL.md.
use Rattle.std.specs.Prelude.{ℕ, List, Option, Some, None, option_map}
use Rattle.fam_machine.specs.declared.request.MkfsRequest.{MkfsRequest}
use Rattle.fam_machine.specs.MkfsRequest.{mkfs_request}
use Rattle.fam_program.specs.Dups.{CopyAsked, copy_asked}
use Rattle.fam_words.specs.declared.wanted.Call.{Call}
use Rattle.fam_words.specs.declared.wanted.DupCall.{DupCall}
use Rattle.fam_words.specs.declared.wanted.Invocation.{Invocation}
use Rattle.fam_words.specs.declared.wanted.MailCall.{MailCall}
use Rattle.fam_words.specs.declared.wanted.ShadowCall.{ShadowCall}
use Rattle.fam_words.specs.Calls.{call_of}
use Rattle.fam_words.specs.Dups.{dup_call}
use Rattle.fam_words.specs.Mails.{mail_call}
use Rattle.fam_words.specs.Shadows.{shadow_call}
use Rattle.fam_top.specs.Calls.{fs_or, host_or}

-- the command, and `None` where the words are none
unfoldable pub invocation_named : List (List ℕ) → Option Invocation
invocation_named words = option_map (λ (call : Call). call.invocation) (call_of words)

-- the image that holds the mailbox of a script, and `None` where the words ask for no such script
unfoldable pub mail_named : List (List ℕ) → Option (List ℕ)
mail_named words = option_map (λ (call : MailCall). call.image) (mail_call words)

-- the image of a command, or else of a script over a mailbox
abbrev pub image_or : Option Call → Option (List ℕ) → Option (List ℕ)
image_or None mail = mail
image_or (Some call) mail = Some call.image

-- the image that the words name: of a command, or of a script over a mailbox
unfoldable pub image_named : List (List ℕ) → Option (List ℕ)
image_named words = image_or (call_of words) (mail_named words)

-- the image and the folder of a shadow, and `None` where the words ask for none
unfoldable pub shadow_named : List (List ℕ) → Option (List ℕ × List ℕ)
shadow_named words = option_map (λ (call : ShadowCall). (call.image, call.folder)) (shadow_call words)

-- the UUID of the host that looks for the tree: that of the words, or this host's
abbrev pub shadow_host : List ℕ → List (List ℕ) → Option (List ℕ)
shadow_host me words = option_map (λ (call : ShadowCall). host_or me call.system) (shadow_call words)

-- FROM and TO of a copy, and `None` where the words ask for none
unfoldable pub dup_named : List (List ℕ) → Option (List ℕ × List ℕ)
dup_named words = option_map (λ (call : DupCall). (call.from, call.to)) (dup_call words)

-- what a mkfs with the options of a copy asks for: its UUID is that of the words, or one of the random bytes
abbrev pub dup_request : List ℕ → DupCall → MkfsRequest
dup_request random call = mkfs_request (fs_or random call.fs) call.unit call.log call.format call.force None

-- the copy that a call asks for: on the host that it names, or this one
abbrev pub asked_copy : List ℕ → List ℕ → DupCall → CopyAsked
asked_copy me random call = copy_asked (host_or me call.system) (dup_request random call)

-- that of the words, and `None` where they ask for none
abbrev pub copy_named : List ℕ → List ℕ → List (List ℕ) → Option CopyAsked
copy_named me random words = option_map (asked_copy me random) (dup_call words)
