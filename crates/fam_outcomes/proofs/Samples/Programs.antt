-- Samples: what commands put, and their statuses.
use Rattle.std.specs.FinMap as finmap
use Rattle.std.specs.Prelude.{Ok, length, ◌≤◌}
use Rattle.std.proofs.lemmas.List.{append-nil}
use Rattle.std.proofs.Common.{◌++◌, ap, sym, subst, ◌∙◌, inr, inl, arith, Some, None, ◌≡◌, ℕ, List, [], ◌∷◌, refl}
use Rattle.std.specs.Prelude.{codes}
use Rattle.std.specs.Fmt.{digits}
use Rattle.fam_crc.specs.Crc.{crc32}
use Rattle.fam_base.specs.declared.cmd.Attr.{Attr}
use Rattle.fam_base.specs.declared.cmd.Cmd.{Cmd}
use Rattle.fam_base.specs.declared.cmd.Cmd.TheVariants as cmd
use Rattle.fam_base.specs.declared.entry.Kind.TheVariants.{File, Directory}
use Rattle.fam_rules.specs.declared.answers.Refused.TheVariants as cause
use Rattle.fam_rules.specs.Reply as reply
use Rattle.fam_journal.specs.declared.event.Ask.TheVariants as ask
use Rattle.fam_journal.specs.declared.event.Event.TheVariants as event
use Rattle.fam_journal.specs.declared.refusal.Refusal.TheVariants as why
use Rattle.fam_outcomes.specs.declared.status.Status.TheVariants as status
use Rattle.fam_journal.specs.Ends.{AllDone}
use Rattle.fam_journal.specs.Follows.{Short}
use Rattle.fam_journal.specs.Notes.{Note, Answered, Host, Refused, Replied, Start}
use Rattle.std.proofs.lemmas.Option.{same_Some}
use Rattle.fam_outcomes.specs.Programs.{HasPut, PutsTold, Grammar, Script, Storms, TopEnds, script_limit, BadLine, IsWholeRun, LongScript, MakesParents, Runs, ShotText, early_text, path_prefixes, script_status, shot_status, source_line, storm_line}
use Rattle.fam_base.specs.Image.{Image}
use Rattle.fam_media.specs.Files.{Files}
use Rattle.fam_media.specs.Outside.{IfModelled}
use Rattle.fam_media.specs.Modelled.{modelled}
use Rattle.fam_journal.specs.declared.event.Event.{Event}
use Rattle.fam_journal.specs.Calls.{refusal_of}
use Rattle.fam_journal.specs.EventShapes.{FollowsShape}
use Rattle.fam_journal.specs.Events.{Session}
use Rattle.fam_outcomes.specs.Runs.{Outside, RunsOn}
use Rattle.fam_outcomes.specs.Texts.{render, shown}

abbrev attr : Attr
attr = record { mode = 493; uid = 0; gid = 0 }

abbrev dir : List ℕ → Cmd
dir path = cmd.Mkdir path attr

prefixes : path_prefixes (codes "a/bc/d") ≡ codes "a" ∷ codes "a/bc" ∷ codes "a/bc/d" ∷ []
prefixes = refl

-- `mkdir -p a/b` where a is there: b is made too
made : List Note
made =
    Host (codes "m") [] ∷ Start 0 (dir (codes "a")) ∷ Answered 0 (Replied (reply.NotAppended (cause.Exists Directory))) ∷ Start 0 (dir (codes "a/b")) ∷ Answered 0 (Replied (reply.Appended 1)) ∷ []

both : IsWholeRun [] (MakesParents (codes "a/b") attr)
    (event.Host (codes "m") [] ∷ event.Run (codes "m") (ask.Plain (dir (codes "a"))) ∷ event.Run (codes "m") (ask.Plain (dir (codes "a/b"))) ∷ [])
    made
unfolding made
both = record { name = codes "m"; count = 2; events_are = refl; goes_on = refl; all = λ goes. refl }

-- where a is a file nothing comes behind it, and its status is Refused
stopped : List Note
stopped = Host (codes "m") [] ∷ Start 0 (dir (codes "a")) ∷ Answered 0 (Replied (reply.NotAppended (cause.Exists File))) ∷ []

first : IsWholeRun [] (MakesParents (codes "a/b") attr) (event.Host (codes "m") [] ∷ event.Run (codes "m") (ask.Plain (dir (codes "a"))) ∷ []) stopped
unfolding stopped
first = record { name = codes "m"; count = 1; events_are = refl; goes_on = refl; all = λ goes. absurd cc }

stopped_text : ShotText (MakesParents (codes "a/b") attr) AllDone stopped (codes "exists file\n")
unfolding stopped shown
stopped_text = (refl, refl)

stopped_status : shot_status (MakesParents (codes "a/b") attr) AllDone stopped ≡ status.Refused
unfolding stopped
stopped_status = refl

-- a directory that is there already is Done for `mkdir -p`, and Refused for `mkdir`
there : List Note
there = Host (codes "m") [] ∷ Start 0 (dir (codes "a")) ∷ Answered 0 (Replied (reply.NotAppended (cause.Exists Directory))) ∷ []

there_done : shot_status (MakesParents (codes "a") attr) AllDone there ≡ status.Done
unfolding there
there_done = refl

there_refused : shot_status (Runs (ask.Plain (dir (codes "a")))) AllDone there ≡ status.Refused
unfolding there
there_refused = refl

-- an image that is too small is Damaged alone, and Refused in a script
small : shot_status (Runs (ask.Plain (dir (codes "a")))) AllDone (Host (codes "m") [] ∷ Refused (codes "m") (why.ImageSmall 3) ∷ []) ≡ status.Damaged
small = refl

small_script : script_status AllDone (Host (codes "m") [] ∷ Refused (codes "m") (why.ImageSmall 3) ∷ []) ≡ status.Refused
small_script = refl

short : source_line (Short 10 4) ≡ codes "short source 10 4\n"
unfolding digits
short = refl

bad : early_text (BadLine 3 17) ≡ codes "bad line 3 17\n"
unfolding digits
bad = refl

long : early_text (LongScript 16777217) ≡ codes "script too long 16777217\n"
unfolding digits
long = refl

-- a storm without notes
storm : storm_line 0 1 [] [] ≡ codes "storm 0 1 events 0 answers 0 refused 0 settled 0 crc 0\n"
unfolding digits render crc32
storm = refl

-- A whole call: a script of two events on an image of no lines. Its finish is refused, so its status is Refused.

abbrev id : List ℕ
id = 0 ∷ 0 ∷ 0 ∷ 0 ∷ 0 ∷ 0 ∷ 0 ∷ 0 ∷ 0 ∷ 0 ∷ 0 ∷ 0 ∷ 0 ∷ 0 ∷ 0 ∷ 1 ∷ []

abbrev two : List Event
two = event.Host (codes "m") id ∷ event.Finish (codes "m") ∷ []

abbrev grammar : Grammar
grammar bytes = Ok two

abbrev storms : Storms
storms seed size = []

abbrev notes : List Note
notes = Host (codes "m") id ∷ Refused (codes "m") why.Idle ∷ []

abbrev with_m : Session
with_m = record { machines = record { memory = []; hosts = record { name = codes "m"; uuid = id; cache = finmap.empty; task = None; kept = None } ∷ [] }; copied = 0 }

module _ (script : List ℕ) (within : length script ≤ script_limit) (files : Files) (has : finmap.get files (codes "f") ≡ Some script) where
  abbrev out : Outside
  out = record {
    lines = 0;
    media = record { old = record { image = Some []; faults = 0 }; new = record { image = Some []; faults = 0 } };
    shelf = record { old = record { files = Some files; faults = 0; shorts = 0 }; new = record { files = Some files; faults = 0; shorts = 0 } };
    sink = record { old = record { bytes = Some []; faults = 0 }; new = record { bytes = Some (render notes); faults = 0 } };
  }

  ran : RunsOn AllDone files two [] (Some []) notes
  unfolding refusal_of
  ran = record {
    last = with_m;
    legal = (tt, (tt, tt));
    follows = (
      with_m,
      Host (codes "m") id ∷ [],
      Refused (codes "m") why.Idle ∷ [],
      ((refl, refl), refl),
      (with_m, Refused (codes "m") why.Idle ∷ [], [], ((refl, refl), refl), (refl, refl), refl),
      refl,
    );
    left = refl;
    reads = refl;
  }

  has_form : FollowsShape 0 two [] notes
  unfolding refusal_of
  has_form = (Host (codes "m") id ∷ [], Refused (codes "m") why.Idle ∷ [], refl, (Refused (codes "m") why.Idle ∷ [], [], refl, refl, refl), refl)

  put : HasPut out (render notes)
  put old is now now_is = (
    [],
    sym (same_Some (render notes) now now_is) ∙ sym (append-nil (render notes)) ∙ ap (λ (z : List ℕ). z ++ render notes ++ []) (same_Some [] old is),
  )

  each : PutsTold AllDone two notes out
  each start is files_told told_is = subst (λ (i : List (List ℕ)). (run : RunsOn AllDone files_told two i (Some []) notes) × HasPut out (render notes)) (same_Some [] start is)
      (subst (λ (z : Files). (run : RunsOn AllDone z two [] (Some []) notes) × HasPut out (render notes)) (same_Some files files_told told_is) (ran, put))

  whole_call : TopEnds grammar storms (Some (Script (codes "f"))) out status.Refused
  whole_call = record {
    text = render notes;
    own = status.Refused;
    shows = inr record {
      ending = AllDone;
      events = two;
      bytes = script;
      holds = modelled files (λ (z : Files). finmap.get z (codes "f") ≡ Some script) has;
      within = within;
      reads = refl;
      run = record {
        journal = notes;
        named = (tt, (tt, tt));
        shape = has_form;
        counted = omega arith;
        caused = tt;
        text_is = refl;
        status_is = refl;
        told = modelled [] (λ (start : Image). IfModelled out.shelf.old.files (λ (z : Files). RunsOn AllDone z two start out.media.new.image notes))
            (modelled files (λ (z : Files). RunsOn AllDone z two [] out.media.new.image notes) ran);
      };
      whole = λ e. refl;
      each = each;
    };
    later = record { media = omega arith; shelf = omega arith; shorts = omega arith; sink = omega arith };
    put = record { outcome = inl (refl, refl); rose = λ e. absurd cc };
  }
