-- A mkfs of its own: the file system that was asked for is made, or it is refused and nothing changes.
use Rattle.std.proofs.Common.{◌≡◌, ℕ, ◌*◌, inl, inr, Bool, true, false, List, [], ◌∷◌, ◌++◌, codes, length, Option, Some, None, Result, refl, ap, sym, ◌∙◌, subst}
use Rattle.std.specs.Prelude.{Ok, Err, option_map}
use Rattle.std.specs.FinMap as finmap
use Rattle.fam_base.specs.declared.entry.Params.{Params}
use Rattle.fam_base.specs.Image.{Image, line_at}
use Rattle.fam_machine.specs.declared.request.MkfsRequest.{MkfsRequest}
use Rattle.fam_format.specs.declared.faults.SuperFault.{SuperFault}
use Rattle.fam_format.specs.Params.{IsUuid}
use Rattle.fam_format.specs.Reading.{super_in}
use Rattle.fam_format.specs.Stop.{or_else}
use Rattle.fam_machine.specs.Mkfs as early
use Rattle.fam_machine.specs.Mkfs.{EarlyRefusal, asked, early_refusal, goes_on, superblock_found}
use Rattle.fam_machine.proofs.CleanCaches.{clean_empty}
use Rattle.fam_machine.proofs.MkfsOps.{clean_formats, read_image}
use Rattle.fam_media.specs.Files.{Files}
use Rattle.fam_rules.specs.Place.{line_bytes}
use Rattle.fam_rules.specs.Written.{formatted}
use Rattle.fam_journal.specs.declared.event.Event.TheVariants as event
use Rattle.fam_journal.specs.declared.refusal.Refusal.{Refusal}
use Rattle.fam_journal.specs.declared.refusal.Refusal.TheVariants as why
use Rattle.fam_outcomes.specs.declared.status.Status.{Status}
use Rattle.fam_outcomes.specs.declared.status.Status.TheVariants as status
use Rattle.fam_journal.specs.Calls as call
use Rattle.fam_journal.specs.Calls.{Acts, ActsAt, ByRefusal, Does, MakesFileSystem, Meets, cause_of, MakesOrHalts}
use Rattle.fam_journal.specs.Laws.{IsImage}
use Rattle.fam_journal.specs.Machines.{HostState, Machines, machine_of}
use Rattle.fam_journal.specs.Notes.{Host, Made, Note, Refused}
use Rattle.fam_outcomes.specs.Programs.{Makes, ends_shot}
use Rattle.fam_outcomes.specs.Runs.{Outside}
use Rattle.fam_outcomes.specs.Statuses.{last_status}
use Rattle.fam_outcomes.specs.Texts.{line, made_text, refusal_text, shown}
use Rattle.fam_journal.proofs.Calls.Cases.{by_host}
use Rattle.fam_whole.specs.Alone.{EndsUnless, FormatsImage, mkfs_refusal, standing_refusal}
use Rattle.fam_whole.specs.Whole.{EndsAs}
use Rattle.fam_whole.proofs.Declared.{Two, declared, ends_same, host_is, make_refusal, one_event, only}
use Rattle.fam_whole.proofs.Shots.{ShotRun}

-- these refusals name no host
early_text : (names : List (List ℕ)) (e : EarlyRefusal) → refusal_text names (cause_of e) ≡ refusal_text [] (cause_of e)
early_text names (early.BadGeometry unit log) = refl
early_text names (early.TooSmall needed have) = refl

-- nothing stands in the way where it goes on
standing_none : (force : Bool) (found : Result Params SuperFault) → goes_on force found ≡ true → standing_refusal force found ≡ None
standing_none true found is = refl
standing_none false (Ok other) is = absurd cc
standing_none false (Err fault) is = refl

module _ (start : Image) (me : List ℕ) (request : MkfsRequest) (files : Files) (out : Outside) (given : Status) (image : IsImage start)
    (me_sound : IsUuid me) (whole : request.halt ≡ None) (x : ShotRun files start me (Makes request) out given) where
  abbrev name : List ℕ
  name = x.steps.name

  abbrev journal : List Note
  journal = x.run.journal

  abbrev left : Machines
  left = x.run.last.machines

  abbrev old : Machines
  old = declared start name me

  abbrev have : ℕ
  have = line_bytes * length start

  abbrev p : Params
  p = asked request me (length start)

  two : Two start name me files image me_sound (event.Mkfs name request) journal x.run.last
  two =
      one_event start name me files image me_sound (event.Mkfs name request)
      (ends_shot (Makes request)) refl journal x.run.last x.steps.count x.events x.steps.events_are x.run.follows x.ended

  does : Does (call.Makes name request) old two.notes left
  does = subst (λ (m : Machines). Does (call.Makes name request) m two.notes left) two.mid_is two.does.0

  -- what is read of the image, and what is left behind the reading and behind all operations
  found : superblock_found p (machine_of old (only start name me)) ≡ super_in (line_at start) have
  found = ap (λ (i : Image). super_in (line_at i) have) (read_image start finmap.empty image.normal clean_empty)

  ends : Note → Type 0
  ends note = journal ≡ Host name me ∷ note ∷ []

  ends_in : (note : Note) → two.notes ≡ note ∷ [] → journal ≡ Host name me ∷ note ∷ []
  ends_in note is = two.journal_is ∙ ap (λ (z : List Note). Host name me ∷ z) is

  unless : (o : Option Refusal) → mkfs_refusal start request.unit request.log request.force ≡ o
      → EndsUnless o start out given (EndsAs out given (line (made_text p)) (formatted start p) status.Done) → FormatsImage start me request out given
  unless o is ends = subst (λ (z : Option Refusal). EndsUnless z start out given (EndsAs out given (line (made_text p)) (formatted start p) status.Done)) (sym is) ends

  refused : (cause : Refusal) → mkfs_refusal start request.unit request.log request.force ≡ Some cause
      → refusal_text (name ∷ []) cause ≡ refusal_text [] cause → two.notes ≡ Refused name cause ∷ [] → left.memory ≡ start
      → FormatsImage start me request out given
  unfolding shown
  refused cause is nameless notes same =
      unless (Some cause) is (ends_same x.ends
      (ap shown (ends_in (Refused name cause) notes) ∙ ap (λ (t : List ℕ). line (codes "refused " ++ t)) nameless) same
      (ap last_status (ends_in (Refused name cause) notes)))

  module _ (free : early_refusal request.unit request.log have ≡ None) where
    refusal_is : (o : Option Refusal) → standing_refusal request.force (super_in (line_at start) have) ≡ o → mkfs_refusal start request.unit request.log request.force ≡ o
    refusal_is o is = ap (λ (z : Option EarlyRefusal). or_else (option_map cause_of z) (standing_refusal request.force (super_in (line_at start) have))) free ∙ is

    made : (h : ℕ) → MakesFileSystem h p request.force (only start name me) old two.notes left → FormatsImage start me request out given
    unfolding shown
    made h m =
        unless None (refusal_is None (standing_none request.force (super_in (line_at start) have) (ap (goes_on request.force) (sym found) ∙ m.free)))
        (ends_same x.ends (ap shown (ends_in (Made h p) m.notes_are))
        (ap (λ (z : Machines). z.memory) m.left ∙ clean_formats start finmap.empty image.normal clean_empty p)
        (ap last_status (ends_in (Made h p) m.notes_are)))

    meets : (h : ℕ) → Meets h p request.force name (only start name me) old two.notes left → FormatsImage start me request out given
    meets h m =
        refused (why.HasSuper m.other.fs)
        (refusal_is (Some (why.HasSuper m.other.fs))
        (ap (λ (t : Bool). standing_refusal t (super_in (line_at start) have)) m.unforced ∙ ap (standing_refusal false) (sym found ∙ m.stands)))
        refl m.notes_are
        (ap (λ (z : Machines). z.memory) m.left ∙ read_image start finmap.empty image.normal clean_empty)

    acts : Acts (call.Makes name request) old two.notes left → FormatsImage start me request out given
    acts a = by_host (call.Makes name request) old left two.notes a
        (λ h host number is at. elim (subst (λ (z : HostState). ActsAt (call.Makes name request) h z old two.notes left)
        (host_is start name me h host is) at) [
          | inl m ↦ made h (subst (λ (o : Option ℕ). MakesOrHalts o h p request.force (only start name me) old two.notes left) whole m)
          | inr m ↦
              meets h m
        ])

  by_early : (o : Option EarlyRefusal) → early_refusal request.unit request.log have ≡ o
      → ByRefusal name (option_map cause_of o) two.notes old left (Acts (call.Makes name request) old two.notes left)
      → FormatsImage start me request out given
  by_early (Some e) is d =
      refused (cause_of e) (ap (λ (z : Option EarlyRefusal).
      or_else (option_map cause_of z) (standing_refusal request.force (super_in (line_at start) have))) is) (early_text (name ∷ []) e) d.0
      (ap (λ (z : Machines). z.memory) d.1)
  by_early None is a = acts is a

  pub mkfs_ends : FormatsImage start me request out given
  mkfs_ends = by_early (early_refusal request.unit request.log have) refl
      (subst (λ (o : Option Refusal). ByRefusal name o two.notes old left (Acts (call.Makes name request) old two.notes left)) (make_refusal start name me request) does)
