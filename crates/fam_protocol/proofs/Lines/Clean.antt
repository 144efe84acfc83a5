-- Lines that no cache holds otherwise than memory: superblock, header, and all that is published.
use Rattle.std.proofs.Common.{ℕ, ◌+◌, ◌-◌, ◌*◌, ◌≤◌, ◌<◌, ◌≡◌, ◌⊎◌, inl, inr, List, length, refl, sym, subst, arith, cond, Bool, true, false}
use Rattle.std.specs.Prelude.{nat_le, slice_get, get_or, Option, Some, None}
use Rattle.std.specs.Int.{div_ceil}
use Rattle.std.proofs.lemmas.Option.{slice_get_cases}
use Rattle.fam_base.specs.declared.cmd.Cmd.{Cmd}
use Rattle.fam_base.specs.declared.cmd.Cmd.TheVariants.{Logplay}
use Rattle.fam_base.specs.declared.entry.Entry.{Entry}
use Rattle.fam_format.specs.Layout.{log_line, slot_line, geometry}
use Rattle.fam_machine.specs.OneLine.{IsDirty}
use Rattle.fam_commands.specs.Task.{first_line, line_of, wanted_end, wanted_lines, wanted_start}
use Rattle.fam_rules.specs.Asks.{File}
use Rattle.fam_rules.specs.Place.{line_bytes}
use Rattle.fam_rules.specs.Written.{lines_of}
use Rattle.fam_protocol.specs.SharedState.{SharedState}
use Rattle.fam_protocol.specs.Core.{System, Core, top_of}

-- nobody has a dirty copy of the line
abbrev pub NobodyDirty : SharedState → ℕ → Type 0
NobodyDirty s l = (h : ℕ) → IsDirty (s.copy h l) → ⊥

-- a line of a file that is counted holds a byte of it
pub counted_line : (size j : ℕ) → j < div_ceil size 64 → 64 * j < size
counted_line size j lt = omega (arith, lt)

-- the wanted bytes end within the file
pub wanted_within : (cmd : Cmd) (size : ℕ) → wanted_end cmd size ≤ size
wanted_within Logplay size = omega arith
wanted_within e size = omega arith

-- a wanted line of a file holds a byte of it
pub wanted_line : (cmd : Cmd) (size j : ℕ) → j < wanted_lines cmd size → line_bytes * (first_line cmd + j) < size
wanted_line cmd size j lt = go (nat_le (wanted_end cmd size) (wanted_start cmd)) lt
  where
    go : (b : Bool) → j < cond b 0 (lines_of (wanted_end cmd size) - first_line cmd) → line_bytes * (first_line cmd + j) < size
    go true lt = absurd (omega (arith, lt))
    go false lt =
        let in_lines : first_line cmd + j < div_ceil (wanted_end cmd size) 64 = omega (arith, lt) in
        let below = counted_line (wanted_end cmd size) (first_line cmd + j) in_lines in
        omega (arith, below, wanted_within cmd size)

module _ (sys : System) (s : SharedState) (all : List File) (settled : ℕ) (core : Core sys s all settled) where
  -- lines 1 and 2 of the superblock, and the header
  pub super_quiet : (j : ℕ) → j ≤ 2 → NobodyDirty s j
  super_quiet j le h = core.head.clean h j (inl le)

  -- nobody has the header's line dirty
  pub header_quiet : NobodyDirty s log_line
  header_quiet h = core.head.clean h log_line (inr refl)

  -- below the top there is an entry
  pub published_entry : (i : ℕ) → i < top_of sys s → (f : File) × (slice_get all i ≡ Some f)
  published_entry i lt = go (slice_get_cases all i).1
    where
      go : ((f : File) × (i < length all) × (slice_get all i ≡ Some f) × (get_or all i f ≡ f)) ⊎ ((length all ≤ i) × (slice_get all i ≡ None)) → (f : File) × (slice_get all i ≡ Some f)
      go (inl e) = (e.0, e.2)
      go (inr e) = absurd (omega (arith, e.0, lt, core.high))

  -- a line of a slot below the top
  pub slot_quiet : (i j : ℕ) → i < top_of sys s → j < (geometry sys.params).lines → NobodyDirty s (slot_line sys.params i j)
  slot_quiet i j lt small h = let e = published_entry i lt in core.clean i e.0 h _ e.1 lt (inl (j, small, refl))

  -- a wanted line of a file whose entry is below the top
  pub file_quiet : (cmd : Cmd) (entry : Option Entry) (i : ℕ) (f : File) (j : ℕ) → slice_get all i ≡ Some f → i < top_of sys s → entry ≡ Some f.entry
      → line_bytes * j < f.entry.size → NobodyDirty s (line_of entry j)
  file_quiet cmd entry i f j is lt named small h =
      subst (λ (o : Option Entry). IsDirty (s.copy h (line_of o j)) → ⊥) (sym named) (core.clean i f h _ is lt (inr (j, small, refl)))
