-- What the crate's own types stand for among the definitions of what a command appends.
use Rattle.std.specs.Prelude.{◌≡◌, Result, Ok, Err}
use Rattle.fam_rules.specs.declared.answers.Refused.{Refused}
use Rattle.fam_rules.specs.Decide.{Wish, Room}
use Rattle.fam_plan.specs.declared.wish.Wish as own_wish
use Rattle.fam_plan.specs.declared.room.Room as own_room

-- a wish, field by field
abbrev pub wish_in : own_wish.Wish → Wish
wish_in w = record { kind = w.kind; path = w.path; size = w.size; attr = w.attr; stripe = w.stripe }

-- room, field by field
abbrev pub room_in : own_room.Room → Room
room_in r = record { map = r.map; extents = r.extents }

-- the room that is given is the one of the rule, or the refusal is
abbrev pub GivesRoom : Result own_room.Room Refused → Result Room Refused → Type 0
GivesRoom (Ok r) rule = rule ≡ Ok (room_in r)
GivesRoom (Err refused) rule = rule ≡ Err refused
