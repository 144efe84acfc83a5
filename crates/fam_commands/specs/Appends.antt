-- Commands that append, and the phases before the first store.
use Rattle.std.specs.Prelude.{⊤, ◌≡◌, Some}
use Rattle.fam_base.specs.declared.cmd.Cmd.{Cmd}
use Rattle.fam_rules.specs.Decide.{Wish, wish_of}
use Rattle.fam_commands.specs.declared.phase.Phase.{Phase}
use Rattle.fam_commands.specs.declared.phase.Phase.TheVariants as at

-- nothing of an append is stored or sent there
abbrev pub IsBeforeWrites : Phase → Type 0
IsBeforeWrites at.DropMagic = ⊤
IsBeforeWrites at.Magic = ⊤
IsBeforeWrites (at.Drop part j) = ⊤
IsBeforeWrites (at.Word part j k) = ⊤
IsBeforeWrites at.DropGate = ⊤
IsBeforeWrites at.Gate = ⊤
IsBeforeWrites (at.Check i) = ⊤
IsBeforeWrites at.Decide = ⊤
IsBeforeWrites (at.StoreData j k) = ⊥
IsBeforeWrites (at.SendData j) = ⊥
IsBeforeWrites (at.StoreSlot j k) = ⊥
IsBeforeWrites (at.SendSlot j) = ⊥
IsBeforeWrites at.StoreGate = ⊥
IsBeforeWrites at.FenceSlot = ⊥
IsBeforeWrites at.SendGate = ⊥
IsBeforeWrites at.FenceGate = ⊥

-- the command appends
abbrev pub HasWish : Cmd → Type 0
HasWish cmd = (w : Wish) × (wish_of cmd ≡ Some w)
