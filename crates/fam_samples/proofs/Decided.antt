-- Decisions on small histories.
use Rattle.std.proofs.Common.{◌≡◌, ℕ, List, [], ◌∷◌, Some, None, Result, Ok, Err, refl, sym, ap, subst, ◌∙◌, arith}
use Rattle.std.specs.FinMap as finmap
use Rattle.std.proofs.lemmas.Cmp.{nat_list_cmp_total}
use Rattle.std.proofs.lemmas.Option.{same_Some}
use Rattle.fam_base.specs.declared.cmd.Cmd.{Cmd}
use Rattle.fam_base.specs.declared.entry.Entry.{Entry}
use Rattle.fam_base.specs.declared.entry.Kind.TheVariants as kind
use Rattle.fam_base.specs.declared.entry.Params.{Params}
use Rattle.fam_base.specs.PathOrder.{path_cmp}
use Rattle.fam_format.specs.Layout.{shape_of}
use Rattle.fam_rules.specs.declared.answers.Refused.{Refused}
use Rattle.fam_rules.specs.declared.answers.Refused.TheVariants as cause
use Rattle.fam_rules.specs.Asks.{File, entries_of}
use Rattle.fam_rules.specs.Decide.{decide, decide_wish, room_for}
use Rattle.fam_journal.specs.Legal.{IsDecided}
use Rattle.fam_journal.specs.Past.{HostPast}
use Rattle.fam_samples.specs.Scene.{client_uuid, folder, master, mkdir, params, x, y}

-- what is decided is that of the host's own command
pub decides : (p : Params) (host : HostPast) (history : List File) (decision : Result Entry Refused) (cmd : Cmd) → host.cmd ≡ Some cmd
    → IsDecided p host history None decision → decide p host.uuid (entries_of history) cmd ≡ Some decision
decides p host history decision cmd told d =
    subst (λ (c : Cmd). decide p host.uuid (entries_of history) c ≡ Some decision) (same_Some d.cmd cmd (sym d.told ∙ told)) d.is

-- a directory on no entries, and where it stands already
pub first : decide params master [] (mkdir x) ≡ Some (Ok (folder x))
unfolding decide_wish room_for shape_of
first = rw (finmap.get-empty {X = Entry} path_cmp x) refl

pub again : decide params master (folder x ∷ []) (mkdir x) ≡ Some (Err (cause.Exists kind.Directory))
unfolding decide_wish room_for shape_of
again = rw (finmap.get-insert nat_list_cmp_total (finmap.empty {X = Entry}) x (folder x) x) refl

pub of_client : decide params client_uuid [] (mkdir x) ≡ Some (Err (cause.NotMaster client_uuid master))
unfolding decide_wish
of_client = refl

-- two names
first_byte : List ℕ → ℕ
first_byte [] = 0
first_byte (b ∷ bytes) = b

pub other_name : x ≡ y → ⊥
unfolding first_byte
other_name e = let b : 120 ≡ 121 = ap first_byte e in absurd (omega (arith, b))
