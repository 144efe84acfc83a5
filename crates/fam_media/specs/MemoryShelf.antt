-- A shelf in memory, and what each call makes of it.
use Rattle.std.specs.Prelude.{ℕ, ◌-◌, ◌==◌, ◌&&◌, min, nat_lt, Bool, not, List, [], length, take, Option, Some, None, refl}
use Rattle.std.specs.FinMap as map
use Rattle.std.specs.Coded.{Coded, code_by, coded×, coded_ℕ, coded_list}
use Rattle.fam_media.specs.Files.{Files, name_cmp, bytes_of}
use Rattle.fam_media.specs.Plans.{one_more, is_planned, count_if}

-- where the bytes of a name end for reads
abbrev pub CutNames : Type 0
CutNames = map.FinMap name_cmp ℕ

-- the files, where reads of them end, how many calls were made, which ones are to fail, and the counts of
-- faults and of shorts
pub record MemShelfState : Type 0 where
  pub files : Files
  pub cuts : CutNames
  pub calls : ℕ
  pub plan : List ℕ
  pub faults : ℕ
  pub shorts : ℕ

-- a shelf's state as a tuple
abbrev pub Parts : Type 0
Parts = (Files × CutNames) × ((ℕ × List ℕ) × (ℕ × ℕ))

-- the code of that tuple
abbrev pub parts_code : Coded Parts
parts_code =
    coded× (coded× (map.code (coded_list coded_ℕ) (coded_list coded_ℕ)) (map.code (coded_list coded_ℕ) coded_ℕ))
    (coded× (coded× coded_ℕ (coded_list coded_ℕ)) (coded× coded_ℕ coded_ℕ))

-- a state's parts
abbrev pub parts_of : MemShelfState → Parts
parts_of s = ((s.files, s.cuts), ((s.calls, s.plan), (s.faults, s.shorts)))

-- the state of such parts
abbrev pub state_of : Parts → MemShelfState
state_of p = record {
  files = p.0.0;
  cuts = p.0.1;
  calls = p.1.0.0;
  plan = p.1.0.1;
  faults = p.1.1.0;
  shorts = p.1.1.1;
}

-- the code of a state, so that contracts can see it
abbrev pub state_code : Coded MemShelfState
state_code = code_by Parts parts_code parts_of state_of (λ _. refl)

-- no file, and no call is to fail
abbrev pub empty_shelf : MemShelfState
empty_shelf = record { files = map.empty; cuts = map.empty; calls = 0; plan = []; faults = 0; shorts = 0 }

-- is the next call to fail
abbrev pub is_failing : MemShelfState → Bool
is_failing s = is_planned s.plan s.calls

-- the bytes before a cut
abbrev pub before_cut : Option ℕ → List ℕ → List ℕ
before_cut None bytes = bytes
before_cut (Some at) bytes = take at bytes

-- the bytes of a name that reads give
abbrev pub readable : MemShelfState → List ℕ → List ℕ
readable s name = before_cut (map.get s.cuts name) (bytes_of s.files name)

-- how many bytes a read from an offset on gives into so much room
abbrev pub given : MemShelfState → List ℕ → ℕ → ℕ → ℕ
given s name offset room = min room (length (readable s name) - offset)

-- does a read from an offset on give nothing, though the file has a byte there
abbrev pub is_cut : MemShelfState → List ℕ → ℕ → ℕ → Bool
is_cut s name offset room = given s name offset room == 0 && nat_lt offset (length (bytes_of s.files name))

-- after a call: it was counted, and where it failed a fault
abbrev pub after_call : MemShelfState → MemShelfState
after_call s = record s { calls = one_more s.calls; faults = count_if (is_failing s) s.faults }

-- after a read, which is a short one where it doesn't fail and is cut
abbrev pub after_read : List ℕ → ℕ → ℕ → MemShelfState → MemShelfState
after_read name offset room s =
    record (after_call s) { shorts = count_if (not (is_failing s) && is_cut s name offset room) s.shorts }
