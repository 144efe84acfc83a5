-- What a plan decides. It doesn't look at the length of a path: whoever asks it has tested that first.
use Rattle.std.specs.Prelude.{ℕ, List, Option, Result}
use Rattle.std.specs.FinMap as finmap
use Rattle.std.specs.Option.{option_map}
use Rattle.fam_base.specs.declared.cmd.Cmd.{Cmd}
use Rattle.fam_base.specs.declared.entry.Entry.{Entry}
use Rattle.fam_base.specs.declared.entry.Params.{Params}
use Rattle.fam_base.specs.Paths.{parent_of}
use Rattle.fam_format.specs.Params.{second_number}
use Rattle.fam_format.specs.Stop.{stop}
use Rattle.fam_format.specs.Tree.{replay}
use Rattle.fam_rules.specs.declared.answers.Refused.{Refused}
use Rattle.fam_rules.specs.Decide.{Wish, entry_or, exists_refusal, full_refusal, master_refusal, parent_refusal, room_for, stripe_refusal, wish_of}

-- the first refusal in this order, or the entry: another host, a bad stripe, something at the path, its parent, a full log,
-- want of room
unfoldable pub plan_decide_wish : Params → List ℕ → List Entry → Wish → Result Entry Refused
plan_decide_wish p me list w =
    stop (master_refusal p me) (stop (stripe_refusal p w.stripe) (stop (exists_refusal (finmap.get (replay list) w.path)) (stop (parent_refusal (replay list) (parent_of w.path)) (stop (full_refusal p list) (entry_or w (room_for p list w))))))

-- what a host's command appends behind the entries of a list, or why nothing. None: the command doesn't append
abbrev pub plan_decide : Params → List ℕ → List Entry → Cmd → Option (Result Entry Refused)
plan_decide p me list cmd = option_map (plan_decide_wish p me list) (wish_of cmd)

-- the same parameters of the format whose slots have room for every path
abbrev pub roomy : Params → Params
roomy p = record p { format = second_number }
