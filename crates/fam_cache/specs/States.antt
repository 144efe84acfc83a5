-- What a contract sees of a host's cache: the lines that it holds, and the room for more of them.
use Rattle.std.specs.Prelude.{ℕ, refl}
use Rattle.std.specs.Coded.{Coded, code_by, coded×, coded_ℕ}
use Rattle.fam_machine.specs.Caches.{Cache, cache_code}

-- the lines that are held, and how many more fit with no allocation
pub record CacheState : Type 0 where
  pub lines : Cache
  pub spare : ℕ

-- a cache's state has a code, so that it can be what contracts see
abbrev pub state_code : Coded CacheState
state_code = code_by (Cache × ℕ) (coded× cache_code coded_ℕ) (λ s. (s.lines, s.spare)) (λ p. record { lines = p.0; spare = p.1 }) (λ _. refl)
