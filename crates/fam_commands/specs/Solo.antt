-- A command that runs alone: one host, with its cache, and one memory, that nobody else touches meanwhile.
use Rattle.std.specs.Prelude.{ℕ, zero, suc, ◌≡◌, ◌+◌, List, [], ◌∷◌, ◌++◌, length, slice_index, Option, Some, None, option_map}
use Rattle.fam_base.specs.declared.cmd.Cmd.{Cmd}
use Rattle.fam_base.specs.Image.{Image, line_at}
use Rattle.fam_machine.specs.declared.op.Op.{Op}
use Rattle.fam_machine.specs.declared.op.Op.TheVariants.{Load, Store, WriteBack, Fence, Invalidate, Digest}
use Rattle.fam_machine.specs.Caches.{Cache}
use Rattle.fam_machine.specs.Operations.{Machine, given, operated, IsInImage}
use Rattle.fam_commands.specs.Kept.{Kept}
use Rattle.fam_commands.specs.Stands.{note_of, task_after, with_given}
use Rattle.fam_commands.specs.Table.{RowNote, Quiet, Mark, Found, Writing, Answer}
use Rattle.fam_commands.specs.Task.{Task, mounted, op_of}
use Rattle.fam_commands.specs.Turns.{Turn, turn_of}

-- what comes of a task's operation on this machine
abbrev pub turn_on : Task → Machine → Turn
turn_on t m = turn_of t (given (op_of t) m)

-- from an image and a cache, on a host that kept this, after so many operations the task stands here, its loads gave these words, and this is
-- left of memory and cache
pub data SoloRun (kept : Option Kept) (cmd : Cmd) (me : List ℕ) (image : Image) (cache : Cache) : Task → List ℕ → ℕ → Machine → Type 0 where
  starts : SoloRun kept cmd me image cache (mounted kept cmd me (length image)) [] 0 (record { image = image; cache = cache })
  goes : {t next : Task} {words : List ℕ} {made : ℕ} {m : Machine} → SoloRun kept cmd me image cache t words made m → IsInImage (op_of t) m → task_after (turn_on t m) ≡ Some next → SoloRun kept cmd me image cache next (with_given words (given (op_of t) m)) (made + 1) (operated (op_of t) m)

-- What is noted, by the operations and by the image alone.

-- a note that is made, or none
abbrev pub noted : RowNote → List RowNote
noted Quiet = []
noted Mark = Mark ∷ []
noted (Found n) = (Found n) ∷ []
noted (Writing seq e) = (Writing seq e) ∷ []
noted (Answer given) = (Answer given) ∷ []

-- the notes of a command up to where it has come
abbrev pub notes_up_to : (kept : Option Kept) (cmd : Cmd) (me : List ℕ) (image : Image) (cache : Cache) (t : Task) (words : List ℕ) (made : ℕ) (m : Machine) → SoloRun kept cmd me image cache t words made m → List RowNote
notes_up_to kept cmd me image cache t words made m starts = []
notes_up_to kept cmd me image cache next _ _ _ (goes {t = t} {words = words} {made = made} {m = m} before inside is) = notes_up_to kept cmd me image cache t words made m before ++ noted (note_of (turn_on t m))

-- the word that an operation gives where no copy that it reads is stale: a load gives the image's
abbrev pub image_word : Image → Op → Option ℕ
image_word image (Load line k) = Some (slice_index (line_at image line.0) k)
image_word image (Store line k value) = None
image_word image (WriteBack line) = None
image_word image Fence = None
image_word image (Invalidate line) = None
image_word image Digest = None

-- where a command stands, with the words and the notes up to here
pub record Stand : Type 0 where
  pub task : Task
  pub words : List ℕ
  pub notes : List RowNote

-- what comes of its next operation on this image
abbrev pub image_turn : Image → Stand → Turn
image_turn image s = turn_of s.task (image_word image (op_of s.task))

-- after one operation more, where the task goes on
abbrev pub stand_next : Image → Option Stand → Option Stand
stand_next image None = None
stand_next image (Some s) =
    option_map (λ t. record { task = t; words = with_given s.words (image_word image (op_of s.task)); notes = s.notes ++ noted (note_of (image_turn image s)) }) (task_after (image_turn image s))

-- after so many operations: by the image alone, with no cache
abbrev pub stand_after : Option Kept → Cmd → List ℕ → Image → ℕ → Option Stand
stand_after kept cmd me image zero = Some (record { task = mounted kept cmd me (length image); words = []; notes = [] })
stand_after kept cmd me image (suc n) = stand_next image (stand_after kept cmd me image n)
