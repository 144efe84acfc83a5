-- The entry that a command names.
use Rattle.std.proofs.Common.{◌≡◌, ℕ, false, List, length, Option, Some, None, Result, Ok, refl, sym, ap, ap₂, subst, ◌∙◌}
use Rattle.std.specs.Prelude.{is_some, option_map}
use Rattle.std.proofs.lemmas.Bool.{true≢false}
use Rattle.std.proofs.lemmas.Option.{same_Some}
use Rattle.fam_base.specs.declared.cmd.Cmd.{Cmd}
use Rattle.fam_base.specs.declared.entry.Entry.{Entry}
use Rattle.fam_base.specs.declared.entry.Params.{Params}
use Rattle.fam_format.specs.Params.{SoundParams}
use Rattle.fam_history.specs.declared.command.ToldCommand.{ToldCommand}
use Rattle.fam_journal.specs.Legal.{WritesAllowed}
use Rattle.fam_journal.specs.Past.{HostPast, State, filled_bytes, pends}
use Rattle.fam_journal.specs.Shapes.{EntryShape}
use Rattle.fam_lines.specs.Lines.{untold_of}
use Rattle.fam_rules.specs.Asks.{entries_of}
use Rattle.fam_rules.specs.Decide.{Wish, decide, decide_wish, wish_of}
use Rattle.fam_rules.specs.DecideLaws.{IsAsWished}
use Rattle.fam_rules.specs.declared.answers.Refused.{Refused}
use Rattle.fam_rules.proofs.DecideProofs.{as_wished}
use Rattle.fam_settled.specs.declared.bytes.Bytes.{Bytes}
use Rattle.fam_settled.specs.declared.bytes.Filed.{Filed}
use Rattle.fam_settled.specs.Bytes.{file_bytes_told, file_with}
use Rattle.fam_settled.specs.Settled.{IsSettledLog, SettledLog, filed, settled_files, settled_log_state}
use Rattle.fam_settled.specs.Told.{bare_cmd}
use Rattle.fam_settled.proofs.Files.{length-files_of}
use Rattle.fam_judging.specs.Told.{IsToldCommand, NamesIn}

-- what is decided was wished for
pub record Wished (c : ToldCommand) (e : Entry) : Type 0 where
  pub wish : Wish
  pub wished : wish_of (bare_cmd c) ≡ Some wish
  pub is : IsAsWished wish e

-- by the wish
wished_by : (p : Params) (me : List ℕ) (list : List Entry) (c : ToldCommand) (e : Entry) (o : Option Wish) → SoundParams p → IsToldCommand c
    → wish_of (bare_cmd c) ≡ o → option_map (decide_wish p me list) o ≡ Some (Ok e) → Wished c e
wished_by p me list c e None sound told wished is = absurd cc
wished_by p me list c e (Some w) sound told wished is =
    let decided : decide_wish p me list w ≡ Ok e = cc in
    record { wish = w; wished = wished; is = as_wished p me list w e sound (told.sound w wished) decided }

-- so it is of an entry that is decided
pub decided_wished : (p : Params) (me : List ℕ) (list : List Entry) (c : ToldCommand) (e : Entry) → SoundParams p → IsToldCommand c
    → decide p me list (bare_cmd c) ≡ Some (Ok e) → Wished c e
decided_wished p me list c e sound told is = wished_by p me list c e (wish_of (bare_cmd c)) sound told refl is

-- its shape
pub wished_shape : (c : ToldCommand) (e : Entry) → IsToldCommand c → Wished c e → EntryShape (untold_of c) e
wished_shape c e told w = (
  w.wish,
  ap wish_of (sym told.same) ∙ w.wished,
  record { kind = w.is.kind; path = w.is.path; size = w.is.size; mode = w.is.mode; uid = w.is.uid; gid = w.is.gid },
)

-- its bytes
pub wished_bytes : (c : ToldCommand) (e : Entry) (b : Bytes) → Wished c e
    → ((w : Wish) → wish_of (bare_cmd c) ≡ Some w → filled_bytes (Some (bare_cmd c)) w.size ≡ file_bytes_told b w.size) → filled_bytes (Some (bare_cmd c)) e.size ≡ file_bytes_told b e.size
wished_bytes c e b w told = subst (λ (n : ℕ). filled_bytes (Some (bare_cmd c)) n ≡ file_bytes_told b n) (sym w.is.size) (told w.wish w.wished)

-- nothing pends
pub not_some : (o : Option Filed) → false ≡ is_some o → filed o ≡ None
not_some None is = refl
not_some (Some f) is = absurd (true≢false (sym is))

module _ (n : ℕ) (me : List ℕ) (c : ToldCommand) (told : IsToldCommand c) (host : HostPast) (cmd_is : host.cmd ≡ Some (untold_of c)) (me_is : host.uuid ≡ me) (s : SettledLog) where
  -- what the rules decide
  abbrev pub decision : Option (Result Entry Refused)
  decision = decide s.params me (entries_of (settled_files s)) (bare_cmd c)

  -- what a log allows is decided
  pub allowed_decided : (e : Entry) → WritesAllowed n e host (settled_log_state s) → (n ≡ length s.entries) × (filed s.pending ≡ None) × (decision ≡ Some (Ok e))
  allowed_decided e w =
      let d = w.1 in
      let same : d.cmd ≡ bare_cmd c = same_Some d.cmd (bare_cmd c) (sym d.told ∙ cmd_is ∙ ap Some (sym told.same)) in (
        w.0 ∙ length-files_of s.entries s.bytes,
        d.none,
        ap₂ (λ (u : List ℕ) (k : Cmd). decide s.params u (entries_of (settled_files s)) k) (sym me_is) (sym same) ∙ d.is,
      )

  -- and the other way about
  pub decided_allowed : (e : Entry) → n ≡ length s.entries → filed s.pending ≡ None → decision ≡ Some (Ok e) → WritesAllowed n e host (settled_log_state s)
  decided_allowed e count none is = (
    count ∙ sym (length-files_of s.entries s.bytes),
    record {
      cmd = bare_cmd c;
      told = cmd_is ∙ ap Some (sym told.same);
      none = none;
      is = ap (λ (u : List ℕ). decide s.params u (entries_of (settled_files s)) (bare_cmd c)) me_is ∙ is;
    },
  )

  -- none is named
  pub names_none : (t : State) → ((e : Entry) → WritesAllowed n e host (settled_log_state s) → ⊥) → NamesIn n host c (settled_log_state s) t None
  names_none t never = record {
    allowed = λ e is. absurd cc;
    shape = λ e is. absurd cc;
    state = λ e is. absurd cc;
    complete = λ e w. absurd (never e w);
  }

  -- this one is named
  pub names_one : (t : State) (e : Entry) (b : Bytes) → IsSettledLog s → n ≡ length s.entries → filed s.pending ≡ None → decision ≡ Some (Ok e)
      → ((w : Wish) → wish_of (bare_cmd c) ≡ Some w → filled_bytes (Some (bare_cmd c)) w.size ≡ file_bytes_told b w.size) → t ≡ pends (file_with e b) (settled_log_state s)
      → NamesIn n host c (settled_log_state s) t (Some e)
  names_one t e b settled count none is bytes pending =
      let w = decided_wished s.params me (entries_of (settled_files s)) c e settled.history.params told is in
      let allowed = decided_allowed e count none is in
      let state = pending ∙ ap (λ (bs : List ℕ). pends (record { entry = e; bytes = bs }) (settled_log_state s))
      (sym (wished_bytes c e b w bytes) ∙ ap (λ (o : Option Cmd). filled_bytes o e.size) (ap Some told.same ∙ sym cmd_is)) in
      record {
        allowed = λ k same. subst (λ (z : Entry). WritesAllowed n z host (settled_log_state s)) (same_Some e k same) allowed;
        shape = λ k same. subst (λ (z : Entry). EntryShape (untold_of c) z) (same_Some e k same) (wished_shape c e told w);
        state = λ k same. subst (λ (z : Entry). t ≡ pends (record { entry = z; bytes = filled_bytes host.cmd z.size }) (settled_log_state s)) (same_Some e k same) state;
        complete = λ k allows. let d = (allowed_decided k allows).2 in let same : Some (Ok e) ≡ Some (Ok k) = sym is ∙ d in cc;
      }
