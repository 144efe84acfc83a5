-- Names of hosts: short words of letters, digits and underscores.
use Rattle.std.specs.Prelude.{ℕ, ◌≡◌, ◌-◌, Bool, false, ◌&&◌, ◌||◌, ◌==◌, nat_le, if◌then◌else◌, IsTrue, List, ◌++◌, length, replicate, take}
use Rattle.std.specs.List.{list_all}

-- the most bytes of a host's name
abbrev pub name_limit : ℕ
name_limit = 16

-- A to Z, a to z, 0 to 9, or an underscore
abbrev pub is_name_byte : ℕ → Bool
is_name_byte b = (nat_le 65 b && nat_le b 90) || (nat_le 97 b && nat_le b 122) || (nat_le 48 b && nat_le b 57) || (b == 95)

-- 1 to 16 such bytes
unfoldable pub is_host_name : List ℕ → Bool
is_host_name bytes =
    if length bytes == 0 then false
    else if nat_le (length bytes) name_limit then list_all is_name_byte bytes
    else false

-- a name in its field of 16 bytes, with zeros behind
abbrev pub name_field : List ℕ → List ℕ
name_field bytes = bytes ++ replicate (name_limit - length bytes) 0

-- how a name lies in its field
pub record IsNameField (bytes : List ℕ) (len : ℕ) : Type 0 where
  pub name : IsTrue (is_host_name (take len bytes))
  pub count : length (take len bytes) ≡ len
  pub zeros : bytes ≡ name_field (take len bytes)
