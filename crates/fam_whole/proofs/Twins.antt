-- Two runs of whole events with the same commands: what caches do by themselves between them is of no account.
use Prim.Native.Nat.{zero, suc}
use Rattle.std.proofs.Common.{◌≡◌, ℕ, ◌*◌, ◌≤◌, inl, inr, Bool, true, false, List, [], ◌∷◌, ◌++◌, length, map, Option, Some, None, refl, ap, ap₂, sym, ◌∙◌, subst}
use Rattle.std.specs.Prelude.{⊤, ◌⊎◌, slice_get, Result, Ok}
use Rattle.std.specs.FinMap as finmap
use Rattle.std.proofs.lemmas.Option.{same_Some}
use Rattle.fam_base.specs.declared.cmd.Cmd.{Cmd}
use Rattle.fam_base.specs.declared.entry.Params.{Params}
use Rattle.fam_base.specs.Image.{Image, line_at}
use Rattle.fam_machine.specs.declared.request.MkfsRequest.{MkfsRequest}
use Rattle.fam_format.specs.declared.faults.SuperFault.{SuperFault}
use Rattle.fam_format.specs.Layout.{device_limit}
use Rattle.fam_format.specs.Reading.{super_in}
use Rattle.fam_machine.specs.Caches.{Cache, IsClean, cell_at, dirty_count}
use Rattle.fam_machine.specs.Operations.{machine, operated, operated_all}
use Rattle.fam_commands.specs.Keeping.{kept_by, read_by}
use Rattle.fam_commands.specs.Kept.{Kept}
use Rattle.fam_commands.specs.Solo.{Stand, notes_up_to, stand_after}
use Rattle.fam_commands.specs.Task.{op_of}
use Rattle.fam_commands.specs.Turns.{Ends}
use Rattle.fam_machine.proofs.CleanCaches.{not_dirty}
use Rattle.fam_machine.proofs.DirtyLemmas.{no_dirty_count}
use Rattle.fam_media.specs.Files.{Files}
use Rattle.fam_protocol.specs.Tasks.{IsCommand}
use Rattle.fam_solo.proofs.Loads.{ran_told, same_stand, turn_told}
use Rattle.fam_rules.specs.Solo.{solo_image}
use Rattle.fam_rules.specs.Place.{line_bytes}
use Rattle.fam_rules.specs.Reply.{Reply}
use Rattle.fam_rules.specs.Written.{formatted}
use Rattle.fam_journal.specs.declared.event.Ask.{Ask}
use Rattle.fam_journal.specs.declared.event.Event.{Event}
use Rattle.fam_journal.specs.declared.event.Event.TheVariants as event
use Rattle.fam_journal.specs.declared.refusal.Refusal.{Refusal}
use Rattle.fam_journal.specs.declared.refusal.Refusal.TheVariants as why
use Rattle.fam_journal.specs.Calls as call
use Rattle.fam_journal.specs.Calls.{Acts, ActsAt, ByRefusal, Call, Completes, Does, may_begin, asked_name, number_of, refusal_of, HaltsMaking, MakesFileSystem, MakesOrHalts}
use Rattle.fam_journal.specs.Ends.{IsFaultless as AreFaultless}
use Rattle.fam_journal.specs.Events.{DoesEvent, Continues, HasNoSource, RefusesEvent, Ready, Session, SourceSays, Unfit, mounts}
use Rattle.fam_machine.specs.HostMoves.{Evict, Fetch, Leak, Move}
use Rattle.fam_journal.specs.Machines.{HostState, Machines, machine_of, with_kept, with_machine}
use Rattle.fam_journal.specs.Members.{changed_at}
use Rattle.fam_machine.specs.Mkfs as here
use Rattle.fam_journal.specs.Notes.{Answered, Cut, Made, Note, Refused, Replied, Start, Umount}
use Rattle.fam_journal.specs.Past.{Past}
use Rattle.fam_journal.proofs.Calls.Cases.{by_host, by_refusal}
use Rattle.fam_journal.proofs.Settled.Journals.{past_both}
use Rattle.fam_journal.proofs.Runs.Listings.{one_listing}
use Rattle.fam_journal.proofs.Faces.{dirt, face, number_same, refusal_same}
use Rattle.fam_journal.proofs.Runs.Unique.{met_or_made, not_clean, one_source, goes_free}
use Rattle.fam_whole.specs.Whole.{AreRefusals, IsStateOf, is_move}
use Rattle.fam_whole.proofs.Exact.{Between, Through, front_of, halted_clean, joined_of, moved_image, through}
use Rattle.fam_machine.proofs.MkfsOps.{clean_formats, read_image}
use Rattle.fam_whole.proofs.Finish.{left_is}
use Rattle.fam_whole.proofs.Folds.{all_noted}
use Rattle.fam_whole.proofs.Rests.{HostRests, rest_state}

-- the same hosts, whatever their caches hold
pub record Named (a b : HostState) : Type 0 where
  pub name : a.name ≡ b.name
  pub uuid : a.uuid ≡ b.uuid
  pub kept : a.kept ≡ b.kept

abbrev pub SameHosts : List HostState → List HostState → Type 0
SameHosts [] [] = ⊤
SameHosts [] (b ∷ bs) = ⊥
SameHosts (a ∷ xs) [] = ⊥
SameHosts (a ∷ xs) (b ∷ bs) = Named a b × SameHosts xs bs

pub same_self : (xs : List HostState) → SameHosts xs xs
same_self [] = tt
same_self (a ∷ xs) = (record { name = refl; uuid = refl; kept = refl }, same_self xs)

pub same_on : (xs ys zs : List HostState) → SameHosts xs ys → SameHosts ys zs → SameHosts xs zs
same_on [] [] [] p q = tt
same_on [] [] (c ∷ zs) p q = absurd q
same_on [] (b ∷ ys) zs p q = absurd p
same_on (a ∷ xs) [] zs p q = absurd p
same_on (a ∷ xs) (b ∷ ys) [] p q = absurd q
same_on (a ∷ xs) (b ∷ ys) (c ∷ zs) p q =
    (record { name = p.0.name ∙ q.0.name; uuid = p.0.uuid ∙ q.0.uuid; kept = p.0.kept ∙ q.0.kept }, same_on xs ys zs p.1 q.1)

pub same_back : (xs ys : List HostState) → SameHosts xs ys → SameHosts ys xs
same_back [] [] p = tt
same_back [] (b ∷ ys) p = absurd p
same_back (a ∷ xs) [] p = absurd p
same_back (a ∷ xs) (b ∷ ys) p = (record { name = sym p.0.name; uuid = sym p.0.uuid; kept = sym p.0.kept }, same_back xs ys p.1)

pub same_changed : (h : ℕ) (g : HostState → HostState) → ((z : HostState) → Named (g z) z) → (xs : List HostState) → SameHosts (changed_at h g xs) xs
same_changed h g keeps [] = tt
same_changed zero g keeps (a ∷ xs) = (keeps a, same_self xs)
same_changed (suc h) g keeps (a ∷ xs) = (record { name = refl; uuid = refl; kept = refl }, same_changed h g keeps xs)

-- both change there
same_both : (h : ℕ) (g f : HostState → HostState) → ((a b : HostState) → Named a b → Named (g a) (f b)) → (xs ys : List HostState) → SameHosts xs ys → SameHosts (changed_at h g xs) (changed_at h f ys)
same_both h g f each [] [] p = tt
same_both h g f each [] (b ∷ ys) p = absurd p
same_both h g f each (a ∷ xs) [] p = absurd p
same_both zero g f each (a ∷ xs) (b ∷ ys) p = (each a b p.0, p.1)
same_both (suc h) g f each (a ∷ xs) (b ∷ ys) p = (p.0, same_both h g f each xs ys p.1)

same_more : (xs ys : List HostState) (a b : HostState) → SameHosts xs ys → Named a b → SameHosts (xs ++ a ∷ []) (ys ++ b ∷ [])
same_more [] [] a b p q = (q, tt)
same_more [] (c ∷ ys) a b p q = absurd p
same_more (c ∷ xs) [] a b p q = absurd p
same_more (c ∷ xs) (d ∷ ys) a b p q = (p.0, same_more xs ys a b p.1 q)

pub same_member : (xs ys : List HostState) (h : ℕ) (a b : HostState) → SameHosts xs ys → slice_get xs h ≡ Some a → slice_get ys h ≡ Some b → Named a b
same_member [] ys h a b p is is' = absurd cc
same_member (c ∷ xs) [] h a b p is is' = absurd p
same_member (c ∷ xs) (d ∷ ys) zero a b p is is' =
    subst (λ (z : HostState). Named z b) (same_Some c a is) (subst (Named c) (same_Some d b is') p.0)
same_member (c ∷ xs) (d ∷ ys) (suc h) a b p is is' = same_member xs ys h a b p.1 is is'

none_dirty : (cache : Cache) → IsClean cache → dirty_count cache ≡ 0
none_dirty cache clean = no_dirty_count cache (λ line. not_dirty (cell_at cache line) (clean line))

face_alike : (a b : HostState) → Named a b → HostRests a → HostRests b → face a ≡ face b
face_alike a b named here there =
    let name = named.name in let uuid = named.uuid in let kept = named.kept in let idle = here.idle in let idle' = there.idle in cc

dirt_alike : (a b : HostState) → Named a b → HostRests a → HostRests b → dirt a ≡ dirt b
dirt_alike a b named here there = none_dirty a.cache here.clean ∙ sym (none_dirty b.cache there.clean)

-- hosts that rest and are named alike show the same
alike : {A : Type 0} (look : HostState → A) → ((a b : HostState) → Named a b → HostRests a → HostRests b → look a ≡ look b) → (xs ys : List HostState) → SameHosts xs ys
    → ((k : ℕ) (host : HostState) → slice_get xs k ≡ Some host → HostRests host) → ((k : ℕ) (host : HostState) → slice_get ys k ≡ Some host → HostRests host) → map look xs ≡ map look ys
alike look each [] [] p rx ry = refl
alike look each [] (b ∷ ys) p rx ry = absurd p
alike look each (a ∷ xs) [] p rx ry = absurd p
alike look each (a ∷ xs) (b ∷ ys) p rx ry =
    ap₂ (λ x zs. x ∷ zs) (each a b p.0 (rx 0 a refl) (ry 0 b refl)) (alike look each xs ys p.1 (λ k host is. rx (suc k) host is) (λ k host is. ry (suc k) host is))

-- two machines that differ in their caches alone
pub record Twins (s t : Machines) : Type 0 where
  pub memory : s.memory ≡ t.memory
  pub hosts : SameHosts s.hosts t.hosts

pub twins_on : (a b c : Machines) → Twins a b → Twins b c → Twins a c
twins_on a b c p q = record { memory = p.memory ∙ q.memory; hosts = same_on a.hosts b.hosts c.hosts p.hosts q.hosts }

pub twins_back : (a b : Machines) → Twins a b → Twins b a
twins_back a b p = record { memory = sym p.memory; hosts = same_back a.hosts b.hosts p.hosts }

pub twins_as : (a b : Machines) → a ≡ b → Twins a b
twins_as a b e = record { memory = ap (λ (m : Machines). m.memory) e; hosts = subst (λ (m : Machines). SameHosts a.hosts m.hosts) e (same_self a.hosts) }

pub record TwinSessions (s t : Session) : Type 0 where
  pub machines : Twins s.machines t.machines
  pub copied : s.copied ≡ t.copied

-- A cache's own move leaves a twin.

module _ (start : Image) (files : Files) where
  moves_twin : (name : List ℕ) (line : ℕ) (move : Move) (s new : Machines) (journal notes : List Note) → Between start s journal → AreFaultless notes
      → Does (call.Moves name line move) s notes new → Twins new s
  moves_twin name line move s new journal notes between clean does =
      by_refusal (call.Moves name line move) s new notes does (λ cause e f. twins_as new s f)
      (λ free acts. by_host (call.Moves name line move) s new notes acts (λ h host number is at. at_host h host is at))
    where
      at_host : (h : ℕ) (host : HostState) → slice_get s.hosts h ≡ Some host → ActsAt (call.Moves name line move) h host s notes new → Twins new s
      at_host h host is (inl x) =
          subst (λ (z : Machines). Twins z s) (sym x.left)
          record {
            memory = moved_image s.memory host.cache between.kept.held.normal (between.rests h host is).clean move line;
            hosts = same_changed h _ (λ z. record { name = refl; uuid = refl; kept = refl }) s.hosts;
          }
      at_host h host is (inr x) = absurd (not_clean _ notes x.notes_are refl clean)

  pub move_twin : (e : Event) → is_move e ≡ true → (s new : Session) (journal notes : List Note) → Between start s.machines journal
      → AreFaultless notes → DoesEvent files e s notes new → TwinSessions new s
  move_twin (event.Evict name line) is s new journal notes between clean does =
      record { machines = moves_twin name line.0 Evict s.machines new.machines journal notes between clean does.0; copied = does.1 }
  move_twin (event.Leak name line mask) is s new journal notes between clean does =
      record { machines = moves_twin name line.0 (Leak mask.0) s.machines new.machines journal notes between clean does.0; copied = does.1 }
  move_twin (event.Fetch name line mask) is s new journal notes between clean does =
      record { machines = moves_twin name line.0 (Fetch mask.0) s.machines new.machines journal notes between clean does.0; copied = does.1 }
  move_twin e is s new journal notes between clean does = absurd cc

  -- A command of twins has the same notes and leaves twins.

  pub record Same (a b : List Note) (m n : Machines) : Type 0 where
    pub notes : a ≡ b
    pub machines : Twins m n

  module _ (s t : Machines) (j k : List Note) (bs : Between start s j) (bt : Between start t k) (twins : Twins s t) (a b : List Note) (m n : Machines) where
    faces : map face s.hosts ≡ map face t.hosts
    faces = alike face face_alike s.hosts t.hosts twins.hosts bs.rests bt.rests

    dirts : map dirt s.hosts ≡ map dirt t.hosts
    dirts = alike dirt dirt_alike s.hosts t.hosts twins.hosts bs.rests bt.rests

    pub refusals : (c : Call) → refusal_of c s ≡ refusal_of c t
    refusals c = refusal_same s t faces (ap length twins.memory) dirts c

    pub numbers : (name : List ℕ) → number_of name s ≡ number_of name t
    numbers name = number_same s t faces name

    pub both_same : (name : List ℕ) (cause : Refusal) → a ≡ Refused name cause ∷ [] → b ≡ Refused name cause ∷ [] → m ≡ s → n ≡ t → Same a b m n
    both_same name cause e f g i = record { notes = e ∙ sym f; machines = twins_on m s n (twins_as m s g) (twins_on s t n twins (twins_as t n (sym i))) }

    -- both are refused, by the same cause, or both act
    pub by_both : (c : Call) → Does c s a m → Does c t b n → (Acts c s a m → Acts c t b n → Same a b m n) → Same a b m n
    by_both c x y act = go (refusal_of c s) (refusal_of c t) (refusals c) x y
      where
        go : (o p : Option Refusal) → o ≡ p → ByRefusal (asked_name c) o a s m (Acts c s a m) → ByRefusal (asked_name c) p b t n (Acts c t b n) → Same a b m n
        go None None e x y = act x y
        go None (Some q) e x y = absurd cc
        go (Some q) None e x y = absurd cc
        go (Some q) (Some r) e x y = both_same (asked_name c) q x.0 (y.0 ∙ ap (λ (z : Refusal). Refused (asked_name c) z ∷ []) (sym (same_Some q r e))) x.1 y.1

    pub host_same : (name uuid : List ℕ) → Acts (call.Declares name uuid) s a m → Acts (call.Declares name uuid) t b n → Same a b m n
    host_same name uuid x y = record {
      notes = x.0 ∙ sym y.0;
      machines = subst (λ (z : Machines). Twins z n) (sym x.1)
          (subst (λ (z : Machines). Twins
          (record s { hosts = s.hosts ++ record { name = name; uuid = uuid; cache = finmap.empty; task = None; kept = None } ∷ [] }) z) (sym y.1)
          record { memory = twins.memory; hosts = same_more s.hosts t.hosts _ _ twins.hosts (record { name = refl; uuid = refl; kept = refl }) });
    }

    -- both make a file system, halt in making it, or meet the same one
    module _ (name : List ℕ) (request : MkfsRequest) (h i : ℕ) (host other : HostState) (number : number_of name s ≡ Some h)
        (number' : number_of name t ≡ Some i) (is : slice_get s.hosts h ≡ Some host) (is' : slice_get t.hosts i ≡ Some other) where
      phases : h ≡ i
      phases = same_Some h i (sym number ∙ numbers name ∙ number')

      named : Named host other
      named = same_member s.hosts t.hosts i host other twins.hosts (subst (λ (n : ℕ). slice_get s.hosts n ≡ Some host) phases is) is'

      abbrev p : Params
      p = here.asked request host.uuid (length s.memory)

      abbrev q : Params
      q = here.asked request other.uuid (length t.memory)

      params : p ≡ q
      params = ap₂ (λ (u : List ℕ) (n : ℕ). here.asked request u n) named.uuid (ap length twins.memory)

      found_same : here.superblock_found p (machine_of s host) ≡ here.superblock_found q (machine_of t other)
      found_same =
          ap (λ (image : Image). super_in (line_at image) p.device) (read_image s.memory host.cache bs.kept.held.normal (bs.rests h host is).clean ∙ twins.memory)
          ∙ ap (λ (z : Params). super_in (line_at t.memory) z.device) params
          ∙ sym (ap (λ (image : Image). super_in (line_at image) q.device) (read_image t.memory other.cache bt.kept.held.normal (bt.rests i other is').clean))

      one_made : MakesFileSystem h p request.force host s a m → MakesFileSystem i q request.force other t b n → Same a b m n
      one_made x y = record {
        notes = x.notes_are ∙ ap₂ (λ (k : ℕ) (z : Params). Made k z ∷ []) phases params ∙ sym y.notes_are;
        machines = subst (λ (z : Machines). Twins z n) (sym x.left) (subst (λ (z : Machines). Twins (with_machine h (operated_all (here.mkfs_ops p) (machine_of s host)) host.task s) z) (sym y.left)
            record {
              memory =
                  clean_formats s.memory host.cache bs.kept.held.normal (bs.rests h host is).clean p ∙ ap₂ formatted twins.memory params
                  ∙ sym (clean_formats t.memory other.cache bt.kept.held.normal (bt.rests i other is').clean q);
              hosts = same_on _ s.hosts _ (same_changed h _ (λ z. record { name = refl; uuid = refl; kept = refl }) s.hosts)
                  (same_on s.hosts t.hosts _ twins.hosts
                  (same_back _ t.hosts (same_changed i _ (λ z. record { name = refl; uuid = refl; kept = refl }) t.hosts)));
            });
      }

      -- so it is where the maker halts
      one_cut : (k : ℕ) → HaltsMaking h p request.force k host s a m → HaltsMaking i q request.force k other t b n → Same a b m n
      one_cut k x y = record {
        notes = x.notes_are ∙ ap (λ (j : ℕ). Cut j k ∷ []) phases ∙ sym y.notes_are;
        machines = subst (λ (z : Machines). Twins z n) (sym x.left)
            (subst (λ (z : Machines). Twins
            (with_machine h (machine (operated_all (here.halted_ops k p) (machine_of s host)).image finmap.empty) host.task s) z) (sym y.left)
            record {
              memory =
                  halted_clean s.memory host.cache bs.kept.held.normal (bs.rests h host is).clean k p ∙ ap₂ (λ (z : Params) (image : Image). here.halted_image k z image) params twins.memory
                  ∙ sym (halted_clean t.memory other.cache bt.kept.held.normal (bt.rests i other is').clean k q);
              hosts = same_on _ s.hosts _ (same_changed h _ (λ z. record { name = refl; uuid = refl; kept = refl }) s.hosts)
                  (same_on s.hosts t.hosts _ twins.hosts
                  (same_back _ t.hosts (same_changed i _ (λ z. record { name = refl; uuid = refl; kept = refl }) t.hosts)));
            });
      }

      goes_same : (halt : Option ℕ) → MakesOrHalts halt h p request.force host s a m → MakesOrHalts halt i q request.force other t b n → Same a b m n
      goes_same None x y = one_made x y
      goes_same (Some k) x y = one_cut k x y

      made_same : ActsAt (call.Makes name request) h host s a m → ActsAt (call.Makes name request) i other t b n → Same a b m n
      made_same (inl x) (inl y) = goes_same request.halt x y
      made_same (inl x) (inr y) = absurd
          (met_or_made request.force (here.superblock_found p (machine_of s host)) y.other (goes_free s m a request.halt h p request.force host x)
          y.unforced (found_same ∙ y.stands))
      made_same (inr x) (inl y) = absurd
          (met_or_made request.force (here.superblock_found q (machine_of t other)) x.other (goes_free t n b request.halt i q request.force other y)
          x.unforced (sym found_same ∙ x.stands))
      made_same (inr x) (inr y) =
          let oks : ◌≡◌ {A = Result Params SuperFault} (Ok x.other) (Ok y.other) = sym x.stands ∙ found_same ∙ y.stands in
          let others : x.other ≡ y.other = cc in
          record {
            notes = x.notes_are ∙ ap (λ (z : Params). Refused name (why.HasSuper z.fs) ∷ []) others ∙ sym y.notes_are;
            machines = subst (λ (z : Machines). Twins z n) (sym x.left) (subst (λ (z : Machines). Twins (with_machine h (operated_all here.read_ops (machine_of s host)) host.task s) z) (sym y.left)
                record {
                  memory = read_image s.memory host.cache bs.kept.held.normal (bs.rests h host is).clean ∙ twins.memory
                      ∙ sym (read_image t.memory other.cache bt.kept.held.normal (bt.rests i other is').clean);
                  hosts = same_on _ s.hosts _ (same_changed h _ (λ z. record { name = refl; uuid = refl; kept = refl }) s.hosts)
                      (same_on s.hosts t.hosts _ twins.hosts
                      (same_back _ t.hosts (same_changed i _ (λ z. record { name = refl; uuid = refl; kept = refl }) t.hosts)));
                });
          }

    pub makes_same : (name : List ℕ) (request : MkfsRequest) → Acts (call.Makes name request) s a m → Acts (call.Makes name request) t b n → Same a b m n
    makes_same name request x y =
        by_host (call.Makes name request) s m a x (λ h host number is at.
        by_host (call.Makes name request) t n b y (λ i other number' is' at'.
        made_same name request h i host other number number' is is' at at'))

    -- both hosts forget what they keep
    pub umounts_same : (name : List ℕ) → Acts (call.Umounts name) s a m → Acts (call.Umounts name) t b n → Same a b m n
    umounts_same name x y =
        by_host (call.Umounts name) s m a x (λ h host number is at.
        by_host (call.Umounts name) t n b y (λ i other number' is' at'.
        let phases : h ≡ i = same_Some h i (sym number ∙ numbers name ∙ number') in
        record {
          notes = at.0 ∙ ap (λ (k : ℕ). Umount k ∷ []) phases ∙ sym at'.0;
          machines = subst (λ (z : Machines). Twins z n) (sym (at.1 ∙ ap (λ (k : ℕ). with_kept k None s) phases)) (subst (λ (z : Machines). Twins (with_kept i None s) z) (sym at'.1)
              record {
                memory = twins.memory;
                hosts = same_both i (λ z. record z { kept = None }) (λ z. record z { kept = None })
                    (λ a b same. record { name = same.name; uuid = same.uuid; kept = refl }) s.hosts t.hosts twins.hosts;
              });
        }))

    pub may_same : (name : List ℕ) (mount : Bool) → may_begin name mount s ≡ may_begin name mount t
    unfolding refusal_of
    may_same name true = refusals (call.Begins name Rattle.fam_base.specs.declared.cmd.Cmd.TheVariants.Mount)
    may_same name false = refusals (call.Begins name Rattle.fam_base.specs.declared.cmd.Cmd.TheVariants.Logplay)

-- Commands.

-- where a command ended, by the image alone, and what is noted of it
pub record Stood (kept : Option Kept) (cmd : Cmd) (me : List ℕ) (image : Image) (h : ℕ) (rest : List Note) (left : Option Kept) : Type 0 where
  made : ℕ
  stand : Stand
  reply : Reply
  stands : stand_after kept cmd me image made ≡ Some stand
  ends : Rattle.fam_commands.specs.Solo.image_turn image stand ≡ Ends reply
  rest_is : rest ≡ all_noted h stand.notes ++ Answered h (Replied reply) ∷ []
  left_is : left ≡ kept_by reply (read_by stand.task) kept

one_stood : (kept : Option Kept) (cmd : Cmd) (me : List ℕ) (image : Image) (h : ℕ) (a b : List Note) (k l : Option Kept)
    → Stood kept cmd me image h a k → Stood kept cmd me image h b l → (a ≡ b) × (k ≡ l)
one_stood kept cmd me image h a b k l x y =
    let same : x.stand ≡ y.stand = same_stand kept cmd me image x.made y.made x.stand y.stand x.reply y.reply x.stands x.ends y.stands y.ends in
    let turns : Ends x.reply ≡ Ends y.reply = sym x.ends ∙ ap (Rattle.fam_commands.specs.Solo.image_turn image) same ∙ y.ends in
    let replies : x.reply ≡ y.reply = cc in (
      x.rest_is ∙ ap₂ (λ (z : Stand) (r : Reply). all_noted h z.notes ++ Answered h (Replied r) ∷ []) same replies ∙ sym y.rest_is,
      x.left_is ∙ ap₂ (λ (z : Stand) (r : Reply). kept_by r (read_by z.task) kept) same replies ∙ sym y.left_is,
    )

module _ (start : Image) (files : Files) (name : List ℕ) (what : Ask) where
  -- one run
  module _ (s new : Session) (j notes : List Note) (between : Between start s.machines j) (clean : AreFaultless notes) (run : Continues Completes files name what s notes new) where
    abbrev go : Through start files s.machines j between.kept between.rests between.sure name what s new refl notes clean run
    go = through start files s.machines j between.kept between.rests between.sure name what s new refl notes clean run

    abbrev journal : List Note
    journal = j ++ Start go.h run.begun.cmd ∷ []

    command : IsCommand run.begun.cmd
    command = run.begun.fits

    -- what the host keeps then
    abbrev kept_then : Option Kept
    kept_then = kept_by go.ended.reply (read_by go.ended.t) go.host.kept

    stood : Stood go.host.kept run.begun.cmd go.host.uuid s.machines.memory go.h go.rest kept_then
    stood =
        let e = go.ended in
        let clean_cache : IsClean go.host.cache = (between.rests go.h go.host go.is).clean in
        record {
          made = e.made;
          stand = record { task = e.t; words = e.words; notes = notes_up_to go.host.kept run.begun.cmd go.host.uuid s.machines.memory go.host.cache e.t e.words e.made e.m e.ran };
          reply = e.reply;
          stands = ran_told go.host.kept run.begun.cmd go.host.uuid s.machines.memory go.host.cache between.kept.held.normal clean_cache e.t e.words e.made e.m e.ran;
          ends = turn_told go.host.kept run.begun.cmd go.host.uuid s.machines.memory go.host.cache between.kept.held.normal clean_cache e.t e.words e.made e.m e.ran ∙ e.ends;
          rest_is = e.notes_are ∙ ap (λ (z : List Note). z ++ Answered go.h (Replied e.reply) ∷ []) e.before_is;
          left_is = refl;
        }

    memory_then : new.machines.memory ≡ solo_image s.machines.memory go.host.uuid run.begun.cmd
    memory_then =
        left_is (event.Run name what) start go.h s.machines go.host go.is
        (joined_of start files s.machines j between.kept between.rests between.sure go.h go.host go.is) run.begun.cmd journal go.sure_then
        (subst (λ (w : Past). IsStateOf w.state s.machines.memory)
        (sym (past_both (Rattle.fam_journal.specs.Past.first_past start) j (Start go.h run.begun.cmd ∷ [])))
        (rest_state start s.machines j between.kept between.rests between.sure))
        go.enough (subst (λ (n : ℕ). line_bytes * n ≤ device_limit) (sym between.kept.held.lines) between.kept.held.limit) between.kept.held.normal
        (between.rests go.h go.host go.is).clean command
        (front_of start files s.machines j between.kept between.rests between.sure go.h go.host go.is) new.machines go.rest go.ended

    hosts_then : new.machines.hosts ≡ changed_at go.h (λ z. record z { cache = (operated (op_of go.ended.t) go.ended.m).cache; task = None; kept = kept_then }) s.machines.hosts
    hosts_then = ap (λ (z : Machines). z.hosts) go.ended.state_is

    copied_then : new.copied ≡ run.begun.copied
    copied_then = run.copied ∙ run.begun.copied_is

  -- two runs
  module _ (s t m n : Session) (j k a b : List Note) (bs : Between start s.machines j) (bt : Between start t.machines k) (twins : TwinSessions s t)
      (clean_a : AreFaultless a) (clean_b : AreFaultless b) where
    pub record Both : Type 0 where
      pub notes : a ≡ b
      pub sessions : TwinSessions m n

    runs_same : Continues Completes files name what s a m → Continues Completes files name what t b n → Both
    runs_same x y =
        let sources : Ready x.begun.cmd x.begun.copied ≡ Ready y.begun.cmd y.begun.copied =
        one_source one_listing files t.copied what (Ready x.begun.cmd x.begun.copied) (Ready y.begun.cmd y.begun.copied)
        (subst (λ (c : ℕ). SourceSays files c what (Ready x.begun.cmd x.begun.copied)) twins.copied x.begun.says) y.begun.says in
        let cmds : x.begun.cmd ≡ y.begun.cmd = cc in
        let counts : x.begun.copied ≡ y.begun.copied = cc in
        let gx = go s m j a bs clean_a x in
        let gy = go t n k b bt clean_b y in
        let phases : gx.h ≡ gy.h = same_Some gx.h gy.h (sym gx.number ∙ numbers start files s.machines t.machines j k bs bt twins.machines a b m.machines n.machines name ∙ gy.number) in
        let named : Named gx.host gy.host = same_member s.machines.hosts t.machines.hosts gy.h gx.host gy.host twins.machines.hosts
        (subst (λ (i : ℕ). slice_get s.machines.hosts i ≡ Some gx.host) phases gx.is) gy.is in
        let stood_x : Stood gy.host.kept y.begun.cmd gy.host.uuid t.machines.memory gy.h gx.rest (kept_then s m j a bs clean_a x) =
        subst (λ (k : Option Kept). Stood k y.begun.cmd gy.host.uuid t.machines.memory gy.h gx.rest (kept_then s m j a bs clean_a x)) named.kept
        (subst (λ (c : Cmd). Stood gx.host.kept c gy.host.uuid t.machines.memory gy.h gx.rest (kept_then s m j a bs clean_a x)) cmds
        (subst (λ (u : List ℕ). Stood gx.host.kept x.begun.cmd u t.machines.memory gy.h gx.rest (kept_then s m j a bs clean_a x)) named.uuid
        (subst (λ (i : Image). Stood gx.host.kept x.begun.cmd gx.host.uuid i gy.h gx.rest (kept_then s m j a bs clean_a x)) twins.machines.memory
        (subst (λ (i : ℕ). Stood gx.host.kept x.begun.cmd gx.host.uuid s.machines.memory i gx.rest (kept_then s m j a bs clean_a x)) phases (stood s m j a bs clean_a x))))) in
        let same = one_stood gy.host.kept y.begun.cmd gy.host.uuid t.machines.memory gy.h gx.rest gy.rest (kept_then s m j a bs clean_a x)
        (kept_then t n k b bt clean_b y) stood_x (stood t n k b bt clean_b y) in
        let rests : gx.rest ≡ gy.rest = same.0 in
        record {
          notes = gx.joined ∙ ap₂ (λ (i : ℕ) (c : Cmd). Start i c ∷ gx.rest) phases cmds ∙ ap (λ (z : List Note). Start gy.h y.begun.cmd ∷ z) rests ∙ sym gy.joined;
          sessions = record {
            machines = record {
              memory =
                  memory_then s m j a bs clean_a x
                  ∙ ap₂ (λ (i : Image) (u : List ℕ). solo_image i u x.begun.cmd) twins.machines.memory named.uuid
                  ∙ ap (solo_image t.machines.memory gy.host.uuid) cmds
                  ∙ sym (memory_then t n k b bt clean_b y);
              hosts = subst (λ (z : List HostState). SameHosts z n.machines.hosts)
                  (sym (hosts_then s m j a bs clean_a x
                  ∙ ap (λ (i : ℕ). changed_at i (λ z.
                  record z { cache = (operated (op_of gx.ended.t) gx.ended.m).cache; task = None; kept = kept_then s m j a bs clean_a x })
                  s.machines.hosts) phases))
                  (subst (λ (z : List HostState).
                  SameHosts (changed_at gy.h (λ z.
                  record z { cache = (operated (op_of gx.ended.t) gx.ended.m).cache; task = None; kept = kept_then s m j a bs clean_a x })
                  s.machines.hosts) z) (sym (hosts_then t n k b bt clean_b y))
                  (same_both gy.h _ _ (λ c d near. record { name = near.name; uuid = near.uuid; kept = same.1 }) s.machines.hosts t.machines.hosts twins.machines.hosts));
            };
            copied = copied_then s m j a bs clean_a x ∙ counts ∙ sym (copied_then t n k b bt clean_b y);
          };
        }

    may_be_same : may_begin name (mounts what) s.machines ≡ may_begin name (mounts what) t.machines
    may_be_same = may_same start files s.machines t.machines j k bs bt twins.machines a b m.machines n.machines name (mounts what)

    refused_both : (cause : Refusal) → a ≡ Refused name cause ∷ [] → b ≡ Refused name cause ∷ [] → m.machines ≡ s.machines → n.machines ≡ t.machines → m.copied ≡ n.copied → Both
    refused_both cause e f g i copied =
        let both = both_same start files s.machines t.machines j k bs bt twins.machines a b m.machines n.machines name cause e f g i in
        record { notes = both.notes; sessions = record { machines = both.machines; copied = copied } }

    -- what a refusal by its source leaves
    source_refused : (z o : Session) (c : List Note) → (x : HasNoSource files name what z c o) → (c ≡ Refused name x.cause ∷ []) × (o.machines ≡ z.machines)
    unfolding refusal_of
    source_refused z o c x = (x.does.0, x.does.1)

    pub ask_same : (Continues Completes files name what s a m) ⊎ (RefusesEvent files name what s a m) → (Continues Completes files name what t b n) ⊎ (RefusesEvent files name what t b n) → Both
    ask_same (inl x) (inl y) = runs_same x y
    ask_same (inl x) (inr (inl y)) = absurd (let e : None ≡ Some y.cause = sym x.begun.free ∙ may_be_same ∙ y.first in cc)
    ask_same (inl x) (inr (inr y)) =
        absurd (let e : Ready x.begun.cmd x.begun.copied ≡ Unfit y.cause y.copied = one_source one_listing files t.copied what
        (Ready x.begun.cmd x.begun.copied) (Unfit y.cause y.copied)
        (subst (λ (c : ℕ). SourceSays files c what (Ready x.begun.cmd x.begun.copied)) twins.copied x.begun.says) y.says in cc)
    ask_same (inr (inl x)) (inl y) = absurd (let e : Some x.cause ≡ None = sym x.first ∙ may_be_same ∙ y.begun.free in cc)
    ask_same (inr (inr x)) (inl y) =
        absurd (let e : Unfit x.cause x.copied ≡ Ready y.begun.cmd y.begun.copied = one_source one_listing files t.copied what
        (Unfit x.cause x.copied) (Ready y.begun.cmd y.begun.copied)
        (subst (λ (c : ℕ). SourceSays files c what (Unfit x.cause x.copied)) twins.copied x.says) y.begun.says in cc)
    ask_same (inr (inl x)) (inr (inl y)) =
        let causes : x.cause ≡ y.cause = same_Some x.cause y.cause (sym x.first ∙ may_be_same ∙ y.first) in
        refused_both x.cause x.notes_are (y.notes_are ∙ ap (λ (c : Refusal). Refused name c ∷ []) (sym causes)) (ap (λ (z : Session). z.machines) x.same) (ap (λ (z : Session). z.machines) y.same)
        (ap (λ (z : Session). z.copied) x.same ∙ twins.copied ∙ sym (ap (λ (z : Session). z.copied) y.same))
    ask_same (inr (inl x)) (inr (inr y)) = absurd (let e : Some x.cause ≡ None = sym x.first ∙ may_be_same ∙ y.free in cc)
    ask_same (inr (inr x)) (inr (inl y)) = absurd (let e : None ≡ Some y.cause = sym x.free ∙ may_be_same ∙ y.first in cc)
    ask_same (inr (inr x)) (inr (inr y)) =
        let unfits : Unfit x.cause x.copied ≡ Unfit y.cause y.copied = one_source one_listing files t.copied what (Unfit x.cause x.copied)
        (Unfit y.cause y.copied) (subst (λ (c : ℕ). SourceSays files c what (Unfit x.cause x.copied)) twins.copied x.says) y.says in
        let causes : x.cause ≡ y.cause = cc in
        let counts : x.copied ≡ y.copied = cc in
        let left = source_refused s m a x in
        let right = source_refused t n b y in
        refused_both x.cause left.0 (right.0 ∙ ap (λ (c : Refusal). Refused name c ∷ []) (sym causes)) left.1 right.1 (x.copied_is ∙ counts ∙ sym y.copied_is)

-- A cache's own move notes nothing, or that it was refused.
move_notes : (name : List ℕ) (line : ℕ) (move : Move) (s new : Machines) (notes : List Note) → Does (call.Moves name line move) s notes new → AreRefusals notes
move_notes name line move s new notes does =
    by_refusal (call.Moves name line move) s new notes does (λ cause e f. subst AreRefusals (sym e) (tt, tt))
    (λ free acts. by_host (call.Moves name line move) s new notes acts (λ h host number is at. at_host h host at))
  where
    at_host : (h : ℕ) (host : HostState) → ActsAt (call.Moves name line move) h host s notes new → AreRefusals notes
    at_host h host (inl x) = subst AreRefusals (sym x.notes_are) tt
    at_host h host (inr x) = subst AreRefusals (sym x.notes_are) (tt, tt)

pub moves_note : (files : Files) (e : Event) → is_move e ≡ true → (s new : Session) (notes : List Note) → DoesEvent files e s notes new → AreRefusals notes
moves_note files (event.Evict name line) is s new notes does = move_notes name line.0 Evict s.machines new.machines notes does.0
moves_note files (event.Leak name line mask) is s new notes does = move_notes name line.0 (Leak mask.0) s.machines new.machines notes does.0
moves_note files (event.Fetch name line mask) is s new notes does = move_notes name line.0 (Fetch mask.0) s.machines new.machines notes does.0
moves_note files e is s new notes does = absurd cc
