-- What is seen of hosts, in the words of the table of notes that may stand.
use Rattle.std.specs.Prelude.{ℕ, List, map}
use Rattle.fam_judge.specs.Standing.{Face}
use Rattle.fam_lines.specs.declared.host.SeenHost.{SeenHost}

-- a host as it is seen
abbrev pub face_of : SeenHost → Face
face_of h = record { name = h.name; uuid = h.uuid; runs = h.runs; keeps = h.keeps }

-- so of all hosts
abbrev pub faces_of : List SeenHost → List Face
faces_of hosts = map face_of hosts

-- their names
abbrev pub seen_names : List SeenHost → List (List ℕ)
seen_names hosts = map (λ h. h.name) hosts
