-- The laws of a command that runs alone.
use Rattle.std.proofs.Common.{ℕ, ◌≡◌, ◌*◌, ◌≤◌, List, length, map, Option, Some, None, refl, subst}
use Rattle.fam_base.specs.declared.cmd.Cmd.{Cmd}
use Rattle.fam_base.specs.declared.cmd.Cmd.TheVariants.{Fsck}
use Rattle.fam_base.specs.Image.{Image, eight, line_at}
use Rattle.fam_format.specs.Layout.{device_limit, least_lines}
use Rattle.fam_format.specs.Reading.{Reading, NoSuperblock, BadHeader, BadSlot, Sound, reading_of}
use Rattle.fam_machine.specs.Caches.{Cache, IsClean}
use Rattle.fam_machine.specs.Operations.{Breaking, Failure, Machine, failed, operated, IsInImage}
use Rattle.fam_commands.specs.Kept.{IsKept, Kept}
use Rattle.fam_commands.specs.Solo.{SoloRun, turn_on}
use Rattle.fam_commands.specs.Task.{Task, op_of}
use Rattle.fam_commands.specs.Turns.{Ends}
use Rattle.fam_rules.specs.Decide.{wish_of}
use Rattle.fam_rules.specs.Place.{line_bytes}
use Rattle.fam_rules.specs.Reply.{Reply, Reports}
use Rattle.fam_rules.specs.Reports.{report_of}
use Rattle.fam_solo.specs.Solo.{settles_up_to}
use Rattle.fam_protocol.specs.Steps.{turn_settles}
use Rattle.fam_protocol.specs.Tasks.{IsCommand}
use Rattle.fam_protocol.specs.Invariant.{KeepsFront, settled_at_first}
use Rattle.fam_solo.proofs.Damaged.{bad_ends}
use Rattle.fam_solo.proofs.Fsck.{fsck_reports}
use Rattle.fam_solo.proofs.Machine.{ran_failed, ran_looks, reader_before}
use Rattle.fam_solo.proofs.Replies.{Answers}
use Rattle.fam_solo.proofs.Sound.{sound_ends}

module _ (kept : Option Kept) (joined : IsKept kept) (image : Image) (me : List ℕ) (cmd : Cmd) (cache : Cache) (t : Task) (words : List ℕ) (made : ℕ) (m : Machine) where
  -- the answer of a check of the whole file system
  reports : map eight image ≡ image → IsClean cache → SoloRun kept cmd me image cache t words made m → (reply : Reply) → turn_on t m ≡ Ends reply
      → cmd ≡ Fsck → reply ≡ Reports (report_of (line_at image) (line_bytes * length image))
  reports normal clean ran reply is fsck = fsck_reports kept me image cache normal clean joined t words made m reply (subst (λ (c : Cmd). SoloRun kept c me image cache t words made m) fsck ran) is

  -- the answer and what is left are those of the rules, the cache has nothing to send, and
  -- what is settled is what the image says
  pub solo : (reply : Reply) → least_lines ≤ length image → line_bytes * length image ≤ device_limit → map eight image ≡ image → IsClean cache
      → IsCommand cmd → KeepsFront (settled_at_first image) kept → (ran : SoloRun kept cmd me image cache t words made m) → IsInImage (op_of t) m
      → turn_on t m ≡ Ends reply
      → Answers image me cmd reply (operated (op_of t) m).image × IsClean (operated (op_of t) m).cache
      × (turn_settles (Ends reply) (settles_up_to kept cmd me image cache t words made m ran (settled_at_first image))
      ≡ settled_at_first (operated (op_of t) m).image)
  solo reply enough limit normal clean command front ran inside is = by_reading (reading_of (line_at image) (line_bytes * length image)) refl
    where
      by_reading : (r : Reading) → reading_of (line_at image) (line_bytes * length image) ≡ r
          → Answers image me cmd reply (operated (op_of t) m).image × IsClean (operated (op_of t) m).cache
          × (turn_settles (Ends reply) (settles_up_to kept cmd me image cache t words made m ran (settled_at_first image))
          ≡ settled_at_first (operated (op_of t) m).image)
      by_reading (NoSuperblock fault) named = bad_ends kept cmd me image cache enough limit normal clean command joined front (λ p entries sound. cc) t words made m reply ran inside is
      by_reading (BadHeader fault) named = bad_ends kept cmd me image cache enough limit normal clean command joined front (λ p entries sound. cc) t words made m reply ran inside is
      by_reading (BadSlot i reason) named = bad_ends kept cmd me image cache enough limit normal clean command joined front (λ p entries sound. cc) t words made m reply ran inside is
      by_reading (Sound p entries) named = sound_ends kept cmd me image cache enough limit normal clean command joined front p entries named t words
          made m reply ran inside is (λ fsck. reports normal clean ran reply is fsck)

  -- a command that appends nothing changes nothing
  pub reader_image : map eight image ≡ image → IsClean cache → wish_of cmd ≡ None → SoloRun kept cmd me image cache t words made m → m.image ≡ image
  reader_image normal clean none ran = (ran_looks kept cmd me image cache normal clean t words made m ran (reader_before kept cmd me image cache joined none t words made m ran)).image_is

  pub reader_failed : map eight image ≡ image → IsClean cache → wish_of cmd ≡ None → SoloRun kept cmd me image cache t words made m
      → (through : Breaking) (failure : Failure) → failed through (op_of t) m ≡ Some failure → failure.left.image ≡ image
  reader_failed normal clean none ran through failure is = ran_failed kept cmd me image cache normal clean t words made m ran
      (reader_before kept cmd me image cache joined none t words made m ran) through failure is
