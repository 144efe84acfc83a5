-- Worlds before and after calls, such as a body makes them: host m steps a logplay that has just begun; and makes a file
-- system.
use Rattle.std.specs.Prelude.{true, ℕ, ◌++◌, List, [], ◌∷◌, codes, length, Option, Some, None}
use Rattle.std.specs.FinMap as map_of_lines
use Rattle.fam_base.specs.declared.cmd.Cmd.TheVariants.{Logplay}
use Rattle.fam_machine.specs.MkfsRequest.{mkfs_request}
use Rattle.fam_machine.specs.declared.cell.Cell.TheVariants.{Absent}
use Rattle.fam_commands.specs.declared.phase.Phase.TheVariants as at
use Rattle.fam_machine.specs.Caches.{Cache, with_cell}
use Rattle.fam_commands.specs.Task.{Task, starting}
use Rattle.fam_base.specs.declared.entry.Params.{Params}
use Rattle.fam_base.specs.Image.{Image}
use Rattle.fam_machine.specs.Operations.{Machine, operated_all}
use Rattle.fam_journal.specs.declared.refusal.Refusal.TheVariants as why
use Rattle.fam_machine.specs.Mkfs.{asked, mkfs_ops}
use Rattle.fam_journal.specs.Notes.{Note, Made, Refused}
use Rattle.fam_journal.specs.View.{HostView, WorldView}

-- host m with a cache and a task
abbrev pub world_host : List ℕ → Cache → Option Task → HostView
world_host me cache task = record { name = codes "m"; uuid = me; cache = cache; task = task; kept = None }

-- it alone is declared
abbrev pub world_m : List ℕ → Cache → Option Task → List Note → WorldView
world_m me cache task journal = record { hosts = world_host me cache task ∷ []; journal = journal }

-- a logplay has begun, with an empty cache
abbrev pub before_step : List ℕ → ℕ → List Note → WorldView
before_step me lines journal = world_m me map_of_lines.empty (Some (starting Logplay me lines)) journal

-- line 0 was dropped, and its magic is to be loaded. Nothing is noted
abbrev pub after_step : List ℕ → ℕ → List Note → WorldView
after_step me lines journal =
    world_m me (with_cell 0 Absent map_of_lines.empty) (Some (record (starting Logplay me lines) { phase = at.Magic })) journal

-- the file system that host m makes, over whatever stands there, and the machine behind it
abbrev pub params_m : List ℕ → List ℕ → Image → Params
params_m me fs image = asked (mkfs_request fs 4096 65536 1 true None) me (length image)

-- memory and cache behind a mkfs that was forced, with no cache before
abbrev pub made_machine : List ℕ → List ℕ → Image → Machine
made_machine me fs image = operated_all (mkfs_ops (params_m me fs image)) (record { image = image; cache = map_of_lines.empty })

-- host m is declared, with an empty cache; then it has made the file system
abbrev pub before_mkfs : List ℕ → List Note → WorldView
before_mkfs me journal = world_m me map_of_lines.empty None journal

-- the world behind that mkfs, with its note
abbrev pub after_mkfs : List ℕ → List ℕ → Image → List Note → WorldView
after_mkfs me fs image journal = world_m me (made_machine me fs image).cache None (journal ++ Made 0 (params_m me fs image) ∷ [])

-- or memory cut it at its very first operation that asks memory for something: the load of line 0. Nothing was changed
abbrev pub after_cut : List ℕ → List Note → WorldView
after_cut me journal =
    world_m me (with_cell 0 Absent map_of_lines.empty) None (journal ++ Refused (codes "m") (why.MediaFault (record { 0 = 0 })) ∷ [])
