-- Answers that fit what is told: some bytes and a listing are chosen so that they are allowed.
use Rattle.std.proofs.Common.{◌≡◌, ◌≤◌, ℕ, List, length, take, Option, Some, None, refl, ap, ap₂, sym, ◌∙◌, subst}
use Rattle.std.specs.Prelude.{⊤, replicate}
use Rattle.std.proofs.lemmas.List.{length-replicate}
use Rattle.fam_base.specs.declared.cmd.Cmd.{Cmd}
use Rattle.fam_base.specs.declared.cmd.Cmd.TheVariants as cmd
use Rattle.fam_base.specs.declared.cmd.Content.{Content}
use Rattle.fam_base.specs.declared.entry.Entry.{Entry}
use Rattle.fam_format.specs.Tree.{replay}
use Rattle.fam_rules.specs.Asks.{File, ask, entries_of, file_at, file_bytes_from, of_file, verified}
use Rattle.fam_rules.specs.Checks.{checked}
use Rattle.fam_rules.specs.Reply as reply
use Rattle.fam_rules.specs.Reply.{Reply}
use Rattle.fam_journal.specs.Legal.{AskAllowed, OfHost}
use Rattle.fam_journal.specs.Past.{Bad, HostPast, Sound, State, with_pending}
use Rattle.fam_judge.specs.Fitting.{AskFits, QuestionFits, ReadFits, VerifiedFits}
use Rattle.fam_judge.specs.Untold.{untold_cmd, untold_content, untold_entry}
use Rattle.fam_judge.proofs.Choosing.{ChosenCmd, ChosenFile, ChosenFiles, ChosenHost, ChosenState, Choice, IsChosen, IsChosenContent, StandsChosen, any}
use Rattle.fam_judge.proofs.Filling.{filled_all, filled_entries, filled_length}
use Rattle.fam_judge.proofs.Fitted.{at_path}
use Rattle.fam_judge.proofs.Pairs.{Pairs, pairs_take}
use Rattle.fam_judge.proofs.Picking.{Picks, file_pick, read_pick, verify_pick}

-- the command is of the same kind as what is told of it
abbrev IsOf : Cmd → Cmd → Type 0
IsOf cmd.Logplay own = own ≡ cmd.Logplay
IsOf cmd.Mount own = own ≡ cmd.Mount
IsOf (cmd.Verify path against) own = (wanted : Content) × (own ≡ cmd.Verify path wanted) × (against ≡ untold_content wanted)
IsOf (cmd.Read path offset count) own = own ≡ cmd.Read path offset count
IsOf (cmd.Check told) own = (listing : List Entry) × (own ≡ cmd.Check listing) × (told ≡ replicate (length listing) untold_entry)
IsOf told own = ⊤

own_of : (own : Cmd) → IsOf (untold_cmd own) own
own_of cmd.Logplay = refl
own_of cmd.Mount = refl
own_of (cmd.Verify path against) = (against, refl, refl)
own_of (cmd.Read path offset count) = refl
own_of (cmd.Check listing) = (listing, refl, refl)
own_of own = tt

is_of : (told own : Cmd) → told ≡ untold_cmd own → IsOf told own
is_of told own same = subst (λ (c : Cmd). IsOf c own) (sym same) (own_of own)

-- Questions.

-- what is chosen gives this reply, for whatever files and command are told so
abbrev GivesAsked : List File → Cmd → Reply → Choice → Type 0
GivesAsked told c given ch = (files : List File) (own : Cmd) → ChosenFiles ch told files
    → c ≡ untold_cmd own → IsChosen ch own → ask files own ≡ Some given

module _ (told : List File) (given : Reply) where
  count : (ch : Choice) (files : List File) → ChosenFiles ch told files → length files ≡ length told
  count ch files fill = sym (filled_length (StandsChosen ch) told files fill)

  entries : (ch : Choice) (files : List File) → ChosenFiles ch told files → entries_of files ≡ entries_of told
  entries ch files fill = sym (filled_entries (StandsChosen ch) told files fill)

  play_pick : ask told cmd.Logplay ≡ Some given → Picks (GivesAsked told cmd.Logplay given)
  play_pick fits = record {
    choice = any;
    holds = λ files own fill same chosen.
        ap (ask files) (is_of cmd.Logplay own same)
        ∙ ap₂ (λ (n : ℕ) (l : List Entry). Some (reply.Played n (replay l))) (count any files fill) (entries any files fill) ∙ fits;
  }

  mount_pick : ask told cmd.Mount ≡ Some given → Picks (GivesAsked told cmd.Mount given)
  mount_pick fits = record {
    choice = any;
    holds = λ files own fill same chosen.
        ap (ask files) (is_of cmd.Mount own same) ∙ ap (λ (n : ℕ). Some (reply.Mounted n)) (count any files fill) ∙ fits;
  }

  path_pick : (path : List ℕ) (against : Content) → AskFits told (cmd.Verify path against) given
      → Picks (GivesAsked told (cmd.Verify path against) given)
  path_pick path against fits =
      let pick = file_pick (λ ch (wanted : Content). (against ≡ untold_content wanted) × IsChosenContent ch.wanted wanted)
      (λ wanted bytes. verified (length told) bytes wanted) (length told) given
      (λ bytes. VerifiedFits (length told) bytes against given)
      (λ bytes is. let one = verify_pick (length told) bytes against given is in
      record { choice = one.choice; holds = λ wanted own good fill. one.holds own wanted fill good.0 good.1 })
      (file_at told path) fits in record {
        choice = pick.choice;
        holds = λ files own fill same chosen.
            let of = is_of (cmd.Verify path against) own same in
            let wants : IsChosen pick.choice (cmd.Verify path of.0) = subst (IsChosen pick.choice) of.1 chosen in
            ap (ask files) of.1
            ∙ ap (λ (n : ℕ). Some (of_file n (file_at files path) (λ bytes. verified n bytes of.0))) (count pick.choice files fill)
            ∙ ap Some (pick.holds of.0 (file_at files path) (of.2, wants) (at_path (StandsChosen pick.choice) told files path fill));
      }

  bytes_pick : (path : List ℕ) (offset most : ℕ) → AskFits told (cmd.Read path offset most) given
      → Picks (GivesAsked told (cmd.Read path offset most) given)
  bytes_pick path offset most fits =
      let pick = file_pick {D = ⊤} (λ ch d. ⊤) (λ d bytes. reply.Bytes (length told) (file_bytes_from offset most bytes)) (length told) given
      (λ bytes. ReadFits (length told) bytes offset most given)
      (λ bytes is. let one = read_pick (length told) bytes offset most given is in
      record { choice = one.choice; holds = λ d own good fill. one.holds own fill })
      (file_at told path) fits in record {
        choice = pick.choice;
        holds = λ files own fill same chosen.
            ap (ask files) (is_of (cmd.Read path offset most) own same)
            ∙ ap (λ (n : ℕ). Some (of_file n (file_at files path) (λ bytes. reply.Bytes n (file_bytes_from offset most bytes))))
            (count pick.choice files fill)
            ∙ ap Some (pick.holds tt (file_at files path) tt (at_path (StandsChosen pick.choice) told files path fill));
      }

  check_length : (listing own : List Entry)
      → cmd.Check (replicate (length own) untold_entry) ≡ cmd.Check (replicate (length listing) untold_entry) → length listing ≡ length own
  check_length listing own same =
      let lists : replicate (length own) untold_entry ≡ replicate (length listing) untold_entry = cc in
      sym (length-replicate (length listing) untold_entry) ∙ sym (ap length lists) ∙ length-replicate (length own) untold_entry

  listing_pick : (listing : List Entry) → AskFits told (cmd.Check listing) given → Picks (GivesAsked told (cmd.Check listing) given)
  listing_pick listing fits =
      let ch : Choice = record any { listing = fits.2.listing; sound = fits.2.sound } in record {
        choice = ch;
        holds = λ files own fill same chosen.
            let of = is_of (cmd.Check listing) own same in
            let have : IsChosen ch (cmd.Check of.0) = subst (IsChosen ch) of.1 chosen in
            let long : length of.0 ≡ length fits.2.listing = check_length of.0 fits.2.listing (fits.2.alike ∙ ap cmd.Check of.2) in
            ap (ask files) of.1
            ∙ ap₂ (λ (n : ℕ) (l : List Entry). Some (reply.Checks n (checked (replay l) of.0))) (count ch files fill) (entries ch files fill)
            ∙ ap (λ (l : List Entry). Some (reply.Checks (length told) (checked (replay (entries_of told)) l))) (have long)
            ∙ ap (λ c. Some (reply.Checks (length told) c)) (sym fits.2.is) ∙ ap Some (sym fits.1);
      }

  -- a question's answer is given by some bytes and listing where it fits
  ask_pick : (c : Cmd) → AskFits told c given → Picks (GivesAsked told c given)
  ask_pick cmd.Logplay fits = play_pick fits
  ask_pick cmd.Mount fits = mount_pick fits
  ask_pick (cmd.Verify path against) fits = path_pick path against fits
  ask_pick (cmd.Read path offset most) fits = bytes_pick path offset most fits
  ask_pick (cmd.Check listing) fits = listing_pick listing fits
  ask_pick c fits = absurd fits

-- Pasts.

-- a host's own command
record OwnCmd (ch : Choice) (told : Cmd) (y : HostPast) : Type 0 where
  own : Cmd
  is : y.cmd ≡ Some own
  same : told ≡ untold_cmd own
  chosen : IsChosen ch own

own_cmd : (ch : Choice) (x y : HostPast) → Pairs (ChosenCmd ch) x.cmd y.cmd → (c : Cmd) → x.cmd ≡ Some c
    → OwnCmd ch c y
own_cmd ch x y both c told = by y.cmd refl (subst (λ (o : Option Cmd). Pairs (ChosenCmd ch) o y.cmd) told both)
  where
    by : (o : Option Cmd) → y.cmd ≡ o → Pairs (ChosenCmd ch) (Some c) o → OwnCmd ch c y
    by None e is = absurd is
    by (Some own) e is = record { own = own; is = e; same = is.is; chosen = is.suits.chosen }

-- what is chosen allows the answer, in whatever past is told so
abbrev pub AllowsAnswer : ℕ → Reply → Option HostPast → State → Choice → Type 0
AllowsAnswer m given o s ch = (k : Option HostPast) (t : State) → Pairs (ChosenHost ch) o k → ChosenState ch s t
    → OfHost k (λ host. AskAllowed m given host t)

answer_of : (m : ℕ) (given : Reply) (x : HostPast) (s : State) (is : QuestionFits m given x s) → Picks (λ ch. (y : HostPast) (t : State)
    → ChosenHost ch x y → ChosenState ch s t → AskAllowed m given y t)
answer_of m given x (Bad origin damage gate) is = absurd is
answer_of m given x (Sound p a f) is =
    let pick = ask_pick (take m (with_pending a f)) given is.cmd is.fits in record { choice = pick.choice; holds = by pick.choice pick.holds }
  where
    by : (ch : Choice) → GivesAsked (take m (with_pending a f)) is.cmd given ch → (y : HostPast) (t : State)
        → ChosenHost ch x y → ChosenState ch (Sound p a f) t → AskAllowed m given y t
    by ch holds y (Bad from why gate) host state = absurd state
    by ch holds y (Sound q b g) host state =
        let all = filled_all (StandsChosen ch) a b f g state.1 state.2 in
        let cmd = own_cmd ch x y host.cmd is.cmd is.told in record {
          bounds = record {
            floor = is.bounds.floor;
            marked = sym host.floor ∙ is.bounds.marked;
            low = is.bounds.low;
            high = subst (λ (n : ℕ). m ≤ n) (filled_length (StandsChosen ch) (with_pending a f) (with_pending b g) all) is.bounds.high;
          };
          cmd = cmd.own;
          told = cmd.is;
          is = holds (take m (with_pending b g)) cmd.own
              (pairs_take (ChosenFile ch) m (with_pending a f) (with_pending b g) all) cmd.same cmd.chosen;
        }

-- an answer to a question is allowed by some bytes and listing where it fits
pub answer_pick : (m : ℕ) (given : Reply) (o : Option HostPast) (s : State) → OfHost o (λ host. QuestionFits m given host s)
    → Picks (AllowsAnswer m given o s)
answer_pick m given None s fits = absurd fits
answer_pick m given (Some x) s fits = let pick = answer_of m given x s fits in record { choice = pick.choice; holds = by pick.choice pick.holds }
  where
    by : (ch : Choice)
        → ((y : HostPast) (t : State) → ChosenHost ch x y → ChosenState ch s t → AskAllowed m given y t)
        → AllowsAnswer m given (Some x) s ch
    by ch holds None t host state = absurd host
    by ch holds (Some y) t host state = holds y t host state
