-- The settled log while entries are added to it.
use Rattle.std.proofs.Common.{◌≡◌, ℕ, ◌+◌, ◌*◌, ◌<◌, ◌≤◌, List, [], ◌∷◌, ◌++◌, length, map, take, Option, Some, None, refl, sym, ap, ap₂, subst, ◌∙◌, arith}
use Rattle.std.specs.Prelude.{slice_get}
use Rattle.std.proofs.Math.Seq.{take-length}
use Rattle.std.proofs.lemmas.List.{length-take-le, map_push, take_more}
use Rattle.std.proofs.lemmas.List.FromFn.{length-map-range_with_len}
use Rattle.std.proofs.lemmas.Option.{get_or_from_slice_get, slice_get_within}
use Rattle.fam_base.specs.declared.cmd.Content.TheVariants as content
use Rattle.fam_base.specs.declared.entry.Entry.{Entry}
use Rattle.fam_base.specs.declared.entry.Params.{Params}
use Rattle.fam_format.specs.Reading.{Lines}
use Rattle.fam_plan.specs.State.{IsHistory, MayBeAdded, PlanState}
use Rattle.fam_rules.specs.Asks.{File, entries_of}
use Rattle.fam_rules.specs.Content.{fill}
use Rattle.fam_rules.specs.Solo.{held_file}
use Rattle.fam_journal.specs.Past.{Sound}
use Rattle.fam_settled.specs.declared.bytes.Filed.{Filed}
use Rattle.fam_settled.specs.Settled.{SettledLog, filed, plan_of, settled_files, settled_log_state}
use Rattle.fam_settled.proofs.Files.{entries_of-files_of}
use Rattle.fam_settled.proofs.Fills.{given_fill}
use Rattle.fam_opening.specs.Files.{IsFileOn, byte_held}

-- a prefix with one more
pub prefix_more : (l : List Entry) (i : ℕ) (e : Entry) → slice_get l i ≡ Some e → take (i + 1) l ≡ take i l ++ e ∷ []
prefix_more l i e is =
    take_more l i e (slice_get_within l i e is) ∙ ap (λ (x : Entry). take i l ++ x ∷ []) (get_or_from_slice_get l i e e is)

-- the next entry of a plan may be added to a log of those before it, and its file lies on the device
module _ (s : SettledLog) (plan : PlanState) (seq : ℕ) (e : Entry) (history : IsHistory plan) (at : slice_get plan.entries seq ≡ Some e) where
  pub next_may : s.params ≡ plan.params → s.entries ≡ take seq plan.entries → MayBeAdded (plan_of s) e
  next_may params entries =
      let below : seq < length plan.entries = slice_get_within plan.entries seq e at in
      let count : length s.entries ≡ seq = ap (λ (es : List Entry). length es) entries ∙ length-take-le seq plan.entries (omega (arith, below)) in
      let few : seq < plan.params.slots = omega (arith, below, history.few) in
      let same : plan_of s ≡ record { params = plan.params; entries = take seq plan.entries } =
      ap₂ (λ (p : Params) (es : List Entry). let t : PlanState = record { params = p; entries = es } in t) params entries in
      subst (λ (t : PlanState). MayBeAdded t e) (sym same)
      (record { left = omega (arith, few, length-take-le seq plan.entries (omega (arith, below))); added = history.added seq e at })

  pub next_file : (lines : ℕ) → plan.params.device ≤ 64 * lines → IsFileOn e lines
  next_file lines device = record { params = plan.params; sound = history.params; proper = (history.added seq e at).proper; device = device }

-- the history of a sound state
files_in : (s : SettledLog) (p : Params) (files : List File) → settled_log_state s ≡ Sound p files None → settled_files s ≡ files
files_in s p files is = cc

module _ (memory : Lines) (e : Entry) (bytes : List ℕ) (are : bytes ≡ (held_file memory e).bytes) where
  fill_is : fill (content.Bytes bytes) e.size ≡ (held_file memory e).bytes
  fill_is = given_fill bytes e.size (ap (λ (bs : List ℕ). length bs) are ∙ length-map-range_with_len (byte_held memory e) 0 e.size) ∙ are

  -- with the next file
  pub files_more : (s t : SettledLog) (p : Params) (list : List Entry) (seq : ℕ) → slice_get list seq ≡ Some e
      → settled_log_state t ≡ Sound p (settled_files s ++ record { entry = e; bytes = fill (content.Bytes bytes) e.size } ∷ []) None
      → settled_files s ≡ map (held_file memory) (take seq list) → settled_files t ≡ map (held_file memory) (take (seq + 1) list)
  files_more s t p list seq at held before =
      let file : File = record { entry = e; bytes = fill (content.Bytes bytes) e.size } in
      files_in t p (settled_files s ++ file ∷ []) held
      ∙ ap₂ (λ (fs : List File) (bs : List ℕ). fs ++ (let f : File = record { entry = e; bytes = bs } in f) ∷ []) before fill_is
      ∙ sym (ap (map (held_file memory)) (prefix_more list seq e at) ∙ map_push (held_file memory) (take seq list) e)

-- before the first entry
pub none_filed : (o : Option Filed) → filed o ≡ None → o ≡ None
none_filed None is = refl
none_filed (Some f) is = absurd cc

module _ (s : SettledLog) (p : Params) (new : settled_log_state s ≡ Sound p [] None) where
  pub new_params : s.params ≡ p
  new_params = cc

  pub new_files : settled_files s ≡ []
  new_files = cc

  pub new_none : s.pending ≡ None
  new_none = none_filed s.pending cc

  pub new_entries : s.entries ≡ []
  new_entries = sym (entries_of-files_of s.entries s.bytes) ∙ ap entries_of new_files

-- behind the last one
pub all_held : (s : SettledLog) (p : Params) (memory : Lines) (list : List Entry) (seq : ℕ) → length list ≤ seq → seq ≤ length list → s.params ≡ p → s.pending ≡ None
    → settled_files s ≡ map (held_file memory) (take seq list) → settled_log_state s ≡ Sound p (map (held_file memory) list) None
all_held s p memory list seq past within params none files =
    let count : seq ≡ length list = omega arith in
    let all : settled_files s ≡ map (held_file memory) list =
    files ∙ ap (λ (n : ℕ). map (held_file memory) (take n list)) count ∙ ap (map (held_file memory)) (take-length list) in
    let told : Sound s.params (settled_files s) (filed s.pending) ≡ Sound p (map (held_file memory) list) None = cc in
    told
