-- How many lines of a file a command reads or writes, and how many operations that takes.
use Rattle.std.proofs.Common.{ℕ, ◌≡◌, ◌<◌, ◌+◌, ◌*◌, ◌/◌, List, Option, Some, None, Ok, Err, sym, ◌∙◌, ap, arith}
use Rattle.std.specs.Prelude.{find, option_map}
use Rattle.std.specs.FinMap as finmap
use Rattle.fam_base.specs.declared.cmd.Cmd.{Cmd}
use Rattle.fam_base.specs.declared.cmd.Cmd.TheVariants.{Verify, Read}
use Rattle.fam_base.specs.declared.cmd.Content.{Content}
use Rattle.fam_base.specs.declared.entry.Params.{Params}
use Rattle.fam_base.specs.declared.entry.Entry.{Entry}
use Rattle.fam_base.specs.PathOrder.{path_eq}
use Rattle.fam_format.specs.Tree.{replay}
use Rattle.fam_rules.specs.declared.answers.Refused.{Refused}
use Rattle.fam_rules.specs.Decide.{Wish, wish_of, decide_wish, decide}
use Rattle.fam_rules.specs.Reports.{Survey}
use Rattle.fam_rules.specs.Written.{lines_of}
use Rattle.fam_commands.specs.Kept.{Kept, used}
use Rattle.fam_commands.specs.Counts.{used_told}
use Rattle.fam_commands.proofs.Steps.UsedTold.{used_told_is}
use Rattle.fam_commands.specs.Task.{no_params, size_of, wanted_lines}
use Rattle.fam_commands.specs.Turns.{host_refusal}
use Rattle.fam_commands.specs.Table.{fed_gate, fed_slots, entries_read, params_or}
use Rattle.fam_commands.specs.Counts.{decided_steps, line_steps, refused_steps, wish_lines, file_lines, told_entries, append_steps}
use Rattle.fam_commands.proofs.Counted.Ends.{refused_late, decided_size}
use Rattle.fam_commands.proofs.Rows.Slots.{ReadsLog, read_of}
use Rattle.fam_commands.proofs.Steps.Ties.{HasSlots, decided_and}
use Rattle.fam_format.specs.Layout.{Geometry, geometry}

-- the decision, by the gate
pub decided_at : (p : Params) (s : Geometry) (g f n gate made : ℕ) → s ≡ geometry p → g ≡ f → n ≡ gate → made ≡ decided_and p f gate 0 → made ≡ decided_steps s g n
decided_at p s g f n gate made same from is at_made = rw (same, from, is) (omega arith)

-- no line of a file
pub without_lines : (s : Geometry) (g n d k made : ℕ) → made ≡ decided_steps s g n → d ≡ k → k ≡ 0 → made ≡ decided_steps s g n + line_steps * d
without_lines s g n d k made at_made is none = omega arith

-- all lines of a file
pub with_lines : (p : Params) (s : Geometry) (g f n gate d k made : ℕ) → s ≡ geometry p → g ≡ f → n ≡ gate → d ≡ k → made ≡ decided_and p f gate 0 + 9 * k → made ≡ decided_steps s g n + line_steps * d
with_lines p s g f n gate d k made same from at_gate is at_made = rw (same, from, at_gate, is) (omega arith)

-- up to the line that holds a byte
pub up_to_line : (p : Params) (s : Geometry) (g f n gate j b made : ℕ) → s ≡ geometry p → g ≡ f → n ≡ gate → b < 64
    → made ≡ decided_and p f gate 0 + (9 * j + 9) → made ≡ decided_steps s g n + line_steps * ((64 * j + b) / 64 + 1)
up_to_line p s g f n gate j b made same from at_gate inside at_made = rw (same, from, at_gate) (omega arith)

-- the whole append
pub appended_at : (p : Params) (s : Geometry) (g f n gate d k made : ℕ) → s ≡ geometry p → g ≡ f → n ≡ gate → d ≡ k
    → made ≡ decided_and p f gate (line_steps * (geometry p).lines + 3) + 9 * k → made + 1 ≡ decided_steps s g n + append_steps s d
appended_at p s g f n gate d k made same from at_gate is at_made = rw (same, from, at_gate, is) (omega arith)

-- The entries that the words tell.

-- the words tell the task's entries
pub told_are : (kept : Option Kept) (cmd : Cmd) (me : List ℕ) (lines : ℕ) (p : Params) (gate : ℕ) (entries : List Entry) (survey : Survey)
    (words : List ℕ) → ReadsLog cmd → HasSlots kept cmd me lines p gate entries survey words gate
    → told_entries (used_told kept cmd words lines) words lines ≡ entries
told_are kept cmd me lines p gate entries survey words reads h =
    ap (λ (list : List Entry). told_entries list words lines) (used_told_is kept cmd me lines p gate words h.gated)
    ∙ ap (λ (q : Params). entries_read (fed_slots words q (used kept cmd p gate) (fed_gate words))) (ap (params_or no_params) h.gated.log.head.super)
    ∙ ap (λ (n : ℕ). entries_read (fed_slots words p (used kept cmd p gate) n)) h.gated.gate_is
    ∙ ap entries_read (read_of kept cmd p gate entries survey words gate reads h.known).sound

-- the entry at a path
found_size : (entries told : List Entry) (path : List ℕ) (e : Entry) → told ≡ entries
    → ((q : List ℕ) → finmap.get (replay entries) q ≡ find (λ x. path_eq x.path q) entries) → find (λ x. path_eq x.path path) entries ≡ Some e
    → size_of (finmap.get (replay told) path) ≡ e.size
found_size entries told path e is lookups found = ap (λ (l : List Entry). size_of (finmap.get (replay l) path)) is ∙ ap size_of (lookups path ∙ found)

-- the lines of a file that is compared
pub verify_file_lines : (path : List ℕ) (against : Content) (entries told : List Entry) (e : Entry) → told ≡ entries
    → ((q : List ℕ) → finmap.get (replay entries) q ≡ find (λ x. path_eq x.path q) entries) → find (λ x. path_eq x.path path) entries ≡ Some e
    → file_lines (Verify path against) told ≡ wanted_lines (Verify path against) e.size
verify_file_lines path against entries told e is lookups found = ap (wanted_lines (Verify path against)) (found_size entries told path e is lookups found)

-- those of a file that is read
pub read_file_lines : (path : List ℕ) (offset count : ℕ) (entries told : List Entry) (e : Entry) → told ≡ entries
    → ((q : List ℕ) → finmap.get (replay entries) q ≡ find (λ x. path_eq x.path q) entries) → find (λ x. path_eq x.path path) entries ≡ Some e
    → file_lines (Read path offset count) told ≡ wanted_lines (Read path offset count) e.size
read_file_lines path offset count entries told e is lookups found = ap (wanted_lines (Read path offset count)) (found_size entries told path e is lookups found)

-- What is decided.

module _ (p : Params) (me : List ℕ) (list : List Entry) where
  refused_by : (s : Geometry) (g n : ℕ) (r : Refused) (o : Option Wish) → host_refusal o p me ≡ None → option_map (decide_wish p me list) o ≡ Some (Err r) → refused_steps s g n r ≡ decided_steps s g n
  refused_by s g n r None host is = absurd cc
  refused_by s g n r (Some w) host is = refused_late p me list w s g n host r cc

  -- a refusal that isn't the host's comes with the decision
  pub refused_at : (s : Geometry) (g n : ℕ) (r : Refused) (cmd : Cmd) → host_refusal (wish_of cmd) p me ≡ None → decide p me list cmd ≡ Some (Err r) → refused_steps s g n r ≡ decided_steps s g n
  refused_at s g n r cmd host is = refused_by s g n r (wish_of cmd) host is

  lines_by_wish : (e : Entry) (o : Option Wish) → option_map (decide_wish p me list) o ≡ Some (Ok e) → wish_lines o ≡ lines_of e.size
  lines_by_wish e None is = absurd cc
  lines_by_wish e (Some w) is = ap lines_of (sym (decided_size p me list w e cc))

  -- the lines of a file that is appended
  pub appended_lines : (e : Entry) (cmd : Cmd) (told : List Entry) → decide p me list cmd ≡ Some (Ok e) → file_lines cmd told ≡ lines_of e.size
  appended_lines e (Verify path against) told is = absurd cc
  appended_lines e (Read path offset count) told is = absurd cc
  appended_lines e cmd told is = lines_by_wish e (wish_of cmd) is
