-- Which told answers fit a check of which so much is told as how many entries its listing has.
use Rattle.std.specs.Prelude.{ℕ, ◌≡◌, List}
use Rattle.fam_format.specs.Tree.{replay}
use Rattle.fam_history.specs.declared.answer.ToldAnswer.{ToldAnswer}
use Rattle.fam_history.specs.declared.answer.ToldAnswer.TheVariants as told
use Rattle.fam_rules.specs.Asks.{File, entries_of}
use Rattle.fam_judge.specs.Counting.{CountsFit}

-- a check of the first m entries says that it is of these, and its numbers fit their tree and the length of the listing
abbrev pub CheckTold : ℕ → List File → ℕ → ToldAnswer → Type 0
CheckTold m files count (told.Checked n counts) = (n ≡ m) × CountsFit (replay (entries_of files)) count counts
CheckTold m files count (told.Ok seq) = ⊥
CheckTold m files count (told.NotAppended why) = ⊥
CheckTold m files count (told.Played n) = ⊥
CheckTold m files count (told.Mounted n) = ⊥
CheckTold m files count (told.Same n) = ⊥
CheckTold m files count (told.Differs n at found wanted) = ⊥
CheckTold m files count (told.Length n size wanted) = ⊥
CheckTold m files count (told.Bytes n given) = ⊥
CheckTold m files count (told.NotFound n) = ⊥
CheckTold m files count (told.IsDirectory n) = ⊥
CheckTold m files count (told.Report sound) = ⊥
CheckTold m files count (told.NoSuperblock fault) = ⊥
CheckTold m files count (told.BadHeader fault) = ⊥
CheckTold m files count (told.BadSlot seq why) = ⊥
CheckTold m files count (told.MediaFault line) = ⊥
