-- A refusal that stands in the table some event adds.
use Rattle.std.proofs.Common.{◌≡◌, ◌≢◌, ◌*◌, ◌<◌, ◌≤◌, inl, inr, ℕ, Bool, true, false, List, [], ◌∷◌, length, Option, Some, None, refl, ap, ap₂, sym, ◌∙◌, subst, arith}
use Rattle.std.specs.Prelude.{⊤, ◌&&◌, ◌||◌, not, nat_le, option_map, slice_get}
use Rattle.std.proofs.lemmas.List.{length-map}
use Rattle.std.proofs.lemmas.Option.{slice_get_cases}
use Rattle.fam_base.specs.declared.cmd.Cmd.TheVariants.{Fsck, Mount}
use Rattle.fam_base.specs.PathOrder.{path_eq}
use Rattle.fam_base.specs.Units.{least_unit}
use Rattle.fam_base.specs.declared.line.LineNo.{LineNo}
use Rattle.fam_format.specs.Layout.{least_lines}
use Rattle.fam_format.specs.Stop.{or_else}
use Rattle.fam_machine.specs.Mkfs.{EarlyRefusal, early_refusal, is_geometry}
use Rattle.fam_rules.specs.Place.{line_bytes}
use Rattle.fam_journal.specs.declared.event.Ask.{Ask}
use Rattle.fam_journal.specs.declared.event.Ask.TheVariants as ask
use Rattle.fam_journal.specs.declared.event.Event.TheVariants as event
use Rattle.fam_journal.specs.declared.refusal.Refusal.{Refusal}
use Rattle.fam_journal.specs.declared.refusal.Refusal.TheVariants as why
use Rattle.fam_journal.specs.Calls as call
use Rattle.fam_journal.specs.Calls.{begins_refusal, busy_refusal, cause_of, host_limit, idle_refusal, line_refusal, number_of, on_host, refusal_of, same_refusal, umounts_refusal, when}
use Rattle.fam_journal.specs.Events.{mounts}
use Rattle.fam_journal.specs.EventShapes.{UnfitShape}
use Rattle.fam_journal.specs.Notes.{Refused}
use Rattle.fam_journal.specs.Shapes.{AtShape, FreeShape, HostShape, makes_told, refusal_told, shown_shapes}
use Rattle.fam_journal.proofs.Calls.Declares.{none_passes}
use Rattle.fam_judge.specs.Formed.{IsFormedNote}
use Rattle.fam_judge.specs.Standing.{AreDistinctHosts, Face, IsNotBefore, MayAsk, MayMake, MayRefuseCall, engaged_in, faces, host_number_in, same_in}
use Rattle.fam_judge.proofs.Standing.Asking.{at_shape, begins_is, begins_small, found_number, idle_is, le_fails, le_passes, line_is, makes_is, on_passes, on_refused, refused_by, refused_shape, shape_of, umounts_is}
use Rattle.fam_judge.proofs.Standing.Faces.{IsNamed, count_faced, index_found, index_is, index_none, named_of, number_faced, other_text, same_faced, text_same}
use Rattle.fam_judge.proofs.Standing.Fresh.{fresh_uuid}
use Rattle.fam_judge.proofs.Standing.Making.{makes_passes, request_of, request_sound}
use Rattle.fam_judge.proofs.Standing.Sizes.{Needs, Numbers, bad, least_passes, needs_of, numbers, pass, small}

either_true : (a b : Bool) → b ≡ true → (a || b) ≡ true
either_true true b e = refl
either_true false b e = e

either_false : (a b : Bool) → a ≡ false → b ≡ false → (a || b) ≡ false
either_false true b first next = absurd cc
either_false false b first next = next

-- the member of a place
has_member : (xs : List Face) (i : ℕ) → i < length xs → (x : Face) × (slice_get xs i ≡ Some x)
has_member xs i low = elim (slice_get_cases xs i).1 [ inl is ↦ (is.0, is.2) | inr past ↦ absurd (let high = past.0 in omega (arith, high, low)) ]

module _ (lines : ℕ) (hosts : List HostShape) (name : List ℕ) where
  -- the note has the form of the tables
  abbrev Formed : Refusal → Type 0
  Formed w = IsFormedNote lines hosts (Refused name w)

  -- None of the name.

  no_host : host_number_in name (faces hosts) ≡ None → Formed why.NoHost
  unfolding refusal_of
  no_host none =
      refused_by lines hosts name why.NoHost (event.Halt name) tt
      (refused_shape name (refusal_told (call.Halts name) lines hosts) why.NoHost (FreeShape (call.Halts name) lines hosts _)
      (ap (λ (o : Option ℕ). on_host o (λ k. None)) (number_faced lines hosts name ∙ none)))

  -- Declaring a host.

  abbrev test : List ℕ → Face → Bool
  test uuid f = path_eq f.name name || path_eq f.uuid uuid

  -- no host before h has the name
  before_h : (h : ℕ) (o : Option ℕ) → host_number_in name (faces hosts) ≡ o → IsNotBefore h o → (l : ℕ) (f : Face) → l < h → slice_get (faces hosts) l ≡ Some f
      → path_eq f.name name ≡ false
  before_h h None e is l f low at = none_passes (λ (g : Face). path_eq g.name name) (faces hosts) 0 e l f at
  before_h h (Some k) e is l f low at = (index_found (λ (g : Face). path_eq g.name name) (faces hosts) k e).first l f (omega (arith, is, low)) at

  module _ (distinct : AreDistinctHosts (faces hosts)) where
    -- host h's own UUID is declared again
    same_host : (h : ℕ) (f : Face) → slice_get (faces hosts) h ≡ Some f → IsNotBefore h (host_number_in name (faces hosts)) → Formed (why.SameHost (record { 0 = h }))
    unfolding refusal_of
    same_host h f is before =
        refused_by lines hosts name (why.SameHost (record { 0 = h })) (event.Host name f.uuid) (distinct.uuids h f is)
        (refused_shape name (refusal_told (call.Declares name f.uuid) lines hosts) (why.SameHost (record { 0 = h })) _
        (ap (λ (o : Option ℕ). or_else (same_refusal o) (when (nat_le host_limit (length (shown_shapes lines hosts).hosts)) why.TooManyHosts)) (same_faced lines hosts name f.uuid ∙ first)))
      where
        first : same_in name f.uuid (faces hosts) ≡ Some h
        first = index_is (test f.uuid) (faces hosts) h (record {
          member = f;
          is = is;
          passes = either_true (path_eq f.name name) (path_eq f.uuid f.uuid) (text_same f.uuid f.uuid refl);
          first = λ l g low at.
              either_false (path_eq g.name name) (path_eq g.uuid f.uuid) (before_h h (host_number_in name (faces hosts)) refl before l g low at)
              (other_text g.uuid f.uuid (λ e. absurd (let same : l ≡ h = distinct.apart l h g f at is e in omega (arith, same, low))));
        })

    -- a new one, where there are as many as may be
    too_many : host_number_in name (faces hosts) ≡ None → host_limit ≤ length (faces hosts) → Formed why.TooManyHosts
    unfolding refusal_of
    too_many none many =
        let new = fresh_uuid (faces hosts) distinct.few in
        let first : same_in name new.uuid (faces hosts) ≡ None =
        index_none (test new.uuid) (faces hosts) 0
        (λ k f at. either_false (path_eq f.name name) (path_eq f.uuid new.uuid) (none_passes (λ (g : Face). path_eq g.name name) (faces hosts) 0 none k f at)
        (other_text f.uuid new.uuid (new.other k f at))) in
        refused_by lines hosts name why.TooManyHosts (event.Host name new.uuid) new.valid
        (refused_shape name (refusal_told (call.Declares name new.uuid) lines hosts) why.TooManyHosts _
        (ap₂ (λ (o : Option ℕ) (b : Bool). or_else (same_refusal o) (when b why.TooManyHosts)) (same_faced lines hosts name new.uuid ∙ first)
        (ap (λ (n : ℕ). nat_le host_limit n) (count_faced lines hosts) ∙ le_passes host_limit (length (faces hosts)) many)))

  -- Making a file system.

  module _ (P : ℕ → Face → Type 0) (at : IsNamed name (faces hosts) P) where
    number : number_of name (shown_shapes lines hosts) ≡ Some at.number
    number = found_number lines hosts name at.number at.named

    -- a mkfs that is refused
    mkfs_refused : (unit log : ℕ) (w : Refusal) → makes_told unit log (shown_shapes lines hosts) ≡ Some w → Formed w
    mkfs_refused unit log w e =
        refused_by lines hosts name w (event.Mkfs name (request_of unit log None)) (request_sound unit log None)
        (on_refused lines hosts name at.number (λ k. makes_told unit log (shown_shapes lines hosts)) w _ number e)

    -- numbers that are
    early_refused : (unit log : ℕ) (early : EarlyRefusal) → early_refusal unit log (line_bytes * lines) ≡ Some early → Formed (cause_of early)
    early_refused unit log early e =
        mkfs_refused unit log (cause_of early)
        (makes_is lines hosts unit log ∙ ap (λ (o : Option EarlyRefusal). or_else (option_map cause_of o) (busy_refusal (engaged_in (faces hosts)))) e)

    bad_geometry : (unit log : ℕ) → is_geometry unit log ≡ false → Formed (why.BadGeometry unit log)
    bad_geometry unit log odd = by (numbers unit log (line_bytes * lines))
      where
        by : Numbers unit log (line_bytes * lines) → Formed (why.BadGeometry unit log)
        by (bad no_geometry e) = early_refused unit log _ e
        by (small shaped low e) = absurd cc
        by (pass shaped room e) = absurd cc

    too_small : (bytes have : ℕ) → Needs bytes → have ≡ line_bytes * lines → have < bytes → Formed (why.TooSmall bytes have)
    too_small bytes have needs have_is low = by (numbers needs.unit needs.log (line_bytes * lines))
      where
        by : Numbers needs.unit needs.log (line_bytes * lines) → Formed (why.TooSmall bytes have)
        by (bad odd e) = absurd (let shaped = needs.geometry in cc)
        by (small shaped few e) = subst Formed (ap₂ (λ (a b : ℕ). why.TooSmall a b) needs.is (sym have_is)) (early_refused needs.unit needs.log _ e)
        by (pass shaped room e) = absurd (let is = needs.is in omega (arith, room, have_is, low, is))

    busy_other : (h : ℕ) → early_refusal least_unit least_unit (line_bytes * lines) ≡ None → engaged_in (faces hosts) ≡ Some h → Formed (why.Busy (record { 0 = h }))
    busy_other h early first =
        mkfs_refused least_unit least_unit (why.Busy (record { 0 = h }))
        (makes_is lines hosts least_unit least_unit ∙ ap₂ (λ (o : Option EarlyRefusal) (q : Option ℕ). or_else (option_map cause_of o) (busy_refusal q)) early first)

    -- a mkfs that isn't, but is refused then
    mkfs_free : (w : Refusal) → makes_told least_unit least_unit (shown_shapes lines hosts) ≡ None
        → FreeShape (call.Makes name (request_of least_unit least_unit None)) lines hosts (Refused name w ∷ []) → Formed w
    mkfs_free w e free =
        refused_by lines hosts name w (event.Mkfs name (request_of least_unit least_unit None)) (request_sound least_unit least_unit None)
        (on_passes lines hosts name at.number (λ k. makes_told least_unit least_unit (shown_shapes lines hosts)) (Refused name w ∷ []) _ number e free)

    dirty_other : (d : ℕ) → makes_told least_unit least_unit (shown_shapes lines hosts) ≡ None → d < length (faces hosts) → d ≢ at.number
        → Formed (why.Dirty (record { 0 = d }))
    dirty_other d e low other =
        mkfs_free (why.Dirty (record { 0 = d })) e
        (inr (record { maker = at.number; number = number; dirty = d; declared = subst (λ (n : ℕ). d < n) (length-map hosts _) low; other = other; notes_are = refl }))

    -- the host's shape acts
    acts : (R : ℕ → HostShape → Type 0) → ((host : HostShape) → R at.number host) → AtShape (number_of name (shown_shapes lines hosts)) hosts R
    acts R each =
        let shape = shape_of hosts at.number at.host at.is in
        at_shape lines hosts name at.number shape.host R number shape.is (each shape.host)

    has_super : (fs : List ℕ) → makes_told least_unit least_unit (shown_shapes lines hosts) ≡ None → Formed (why.HasSuper fs)
    has_super fs e =
        mkfs_free (why.HasSuper fs) e
        (inl (acts _ (λ host. inr (record { unforced = refl; fs = fs; notes_are = refl }))))

    -- Commands.

    -- a command that may not begin
    begin_refused : (what : Ask) (w : Refusal) → begins_refusal at.number (mounts what) (shown_shapes lines hosts) ≡ Some w → Formed w
    begin_refused what w e =
        refused_by lines hosts name w (event.Begin name what) tt (on_refused lines hosts name at.number (λ k. begins_refusal k (mounts what) (shown_shapes lines hosts)) w _ number e)

    image_small : lines < least_lines → Formed (why.ImageSmall lines)
    image_small few = begin_refused (ask.Plain Fsck) (why.ImageSmall lines) (begins_small lines hosts at.number at.host at.is false few)

    mounted : least_lines ≤ lines → at.host.runs ≡ false → at.host.keeps ≡ true → Formed why.Mounted
    mounted fits idle keeps =
        begin_refused (ask.Plain Mount) why.Mounted
        (begins_is lines hosts at.number at.host at.is true fits
        ∙ ap₂ (λ (b c : Bool). or_else (when b (why.Busy (record { 0 = at.number }))) (when c why.Mounted)) idle keeps)

    -- the source doesn't fit
    unfit_source : (what : Ask) (w : Refusal) → mounts what ≡ false → UnfitShape what w → least_lines ≤ lines → at.host.runs ≡ false → Formed w
    unfit_source what w plain unfit fits idle =
        refused_by lines hosts name w (event.Begin name what) tt
        (on_passes lines hosts name at.number (λ k. begins_refusal k (mounts what) (shown_shapes lines hosts)) (Refused name w ∷ []) _ number
        (begins_is lines hosts at.number at.host at.is (mounts what) fits
        ∙ ap₂ (λ (b c : Bool). or_else (when b (why.Busy (record { 0 = at.number }))) (when (c && at.host.keeps) why.Mounted)) idle plain)
        (inl (record { why = w; unfit = unfit; notes_are = refl })))

    idle_host : at.host.runs ≡ false → Formed why.Idle
    unfolding refusal_of
    idle_host idle =
        refused_by lines hosts name why.Idle (event.Stop name) tt
        (on_refused lines hosts name at.number (λ k. idle_refusal k (shown_shapes lines hosts)) why.Idle _ number
        (idle_is lines hosts at.number at.host at.is ∙ ap (λ (b : Bool). when (not b) why.Idle) idle))

    -- an umount that is refused
    umount_refused : (w : Refusal) → umounts_refusal at.number (shown_shapes lines hosts) ≡ Some w → Formed w
    unfolding refusal_of
    umount_refused w e =
        refused_by lines hosts name w (event.Umount name) tt (on_refused lines hosts name at.number (λ k. umounts_refusal k (shown_shapes lines hosts)) w _ number e)

    busy_self : at.host.runs ≡ true → Formed (why.Busy (record { 0 = at.number }))
    busy_self runs =
        umount_refused (why.Busy (record { 0 = at.number }))
        (umounts_is lines hosts at.number at.host at.is ∙ ap (λ (b : Bool). or_else (when b (why.Busy (record { 0 = at.number }))) (when (not at.host.keeps) why.NotMounted)) runs)

    not_mounted : at.host.runs ≡ false → at.host.keeps ≡ false → Formed why.NotMounted
    not_mounted idle keeps =
        umount_refused why.NotMounted
        (umounts_is lines hosts at.number at.host at.is
        ∙ ap₂ (λ (b c : Bool). or_else (when b (why.Busy (record { 0 = at.number }))) (when (not c) why.NotMounted)) idle keeps)

    -- Caches.

    no_line : (line : LineNo) → lines ≤ line.0 → Formed (why.NoLine line.0 lines)
    unfolding refusal_of
    no_line line high =
        refused_by lines hosts name (why.NoLine line.0 lines) (event.Evict name line) tt
        (on_refused lines hosts name at.number (λ k. line_refusal line.0 (shown_shapes lines hosts)) (why.NoLine line.0 lines) _ number
        (line_is lines hosts line.0 ∙ ap (λ (b : Bool). when b (why.NoLine line.0 lines)) (le_passes lines line.0 high)))

    media_fault : (line : LineNo) → line.0 < lines → Formed (why.MediaFault line)
    unfolding refusal_of
    media_fault line low =
        refused_by lines hosts name (why.MediaFault line) (event.Evict name line) tt
        (on_passes lines hosts name at.number (λ k. line_refusal line.0 (shown_shapes lines hosts)) (Refused name (why.MediaFault line) ∷ []) _ number
        (line_is lines hosts line.0 ∙ ap (λ (b : Bool). when b (why.NoLine line.0 lines)) (le_fails lines line.0 low))
        (acts _ (λ host. inr refl)))

  -- By the cause.

  module _ (distinct : AreDistinctHosts (faces hosts)) where
    least_free : MayMake lines (faces hosts) → makes_told least_unit least_unit (shown_shapes lines hosts) ≡ None
    least_free may = makes_passes lines hosts least_unit least_unit (least_passes lines may.0) may.1

    -- a source that is asked for
    asks : (what : Ask) (w : Refusal) → mounts what ≡ false → UnfitShape what w → MayAsk lines (faces hosts) name → Formed w
    asks what w plain unfit may = let at = named_of name (faces hosts) _ may.1 in unfit_source _ at what w plain unfit may.0 at.holds

    -- whatever the cause is
    pub refused_formed : (w : Refusal) → MayRefuseCall lines (faces hosts) name w → Formed w
    refused_formed why.NoHost is = no_host is
    refused_formed (why.SameHost host) is =
        let f = has_member (faces hosts) host.0 is.0 in same_host distinct host.0 f.0 f.1 is.1
    refused_formed why.TooManyHosts is = too_many distinct is.0 is.1
    refused_formed (why.BadGeometry unit log) is = bad_geometry _ (named_of name (faces hosts) (λ k f. ⊤) is.0) unit log is.1
    refused_formed (why.TooSmall bytes have) is = too_small _ (named_of name (faces hosts) (λ k f. ⊤) is.0) bytes have (needs_of bytes is.1) is.2 is.3
    refused_formed (why.ImageSmall count) is =
        subst (λ (n : ℕ). Formed (why.ImageSmall n)) (sym is.1) (image_small _ (named_of name (faces hosts) (λ k f. ⊤) is.0) is.2)
    refused_formed (why.Busy host) (inl is) =
        let at = named_of name (faces hosts) _ is in
        subst (λ (n : ℕ). Formed (why.Busy (record { 0 = n }))) at.holds.0 (busy_self _ at at.holds.1)
    refused_formed (why.Busy host) (inr is) = busy_other _ (named_of name (faces hosts) (λ k f. ⊤) is.0) host.0 (least_passes lines is.1) is.2
    refused_formed (why.Dirty host) is = let at = named_of name (faces hosts) _ is.2 in dirty_other _ at host.0 (least_free is.0) is.1 at.holds
    refused_formed (why.HasSuper fs) is = has_super _ (named_of name (faces hosts) (λ k f. ⊤) is.1) fs (least_free is.0)
    refused_formed why.Idle is = let at = named_of name (faces hosts) _ is in idle_host _ at at.holds
    refused_formed why.Mounted is = let at = named_of name (faces hosts) _ is.1 in mounted _ at is.0 at.holds.0 at.holds.1
    refused_formed why.NotMounted is = let at = named_of name (faces hosts) _ is in not_mounted _ at at.holds.0 at.holds.1
    refused_formed (why.NoLine line count) is =
        subst (λ (n : ℕ). Formed (why.NoLine line n)) (sym is.1) (no_line _ (named_of name (faces hosts) (λ k f. ⊤) is.0) (record { 0 = line }) is.2)
    refused_formed (why.NoFile source) is = asks (ask.Check source) (why.NoFile source) refl refl is
    refused_formed (why.CopyLimit sum) is = asks (ask.Check []) (why.CopyLimit sum) refl ([], refl) is
    refused_formed (why.BadListing line) is = asks (ask.Check []) (why.BadListing line) refl tt is
    refused_formed (why.MediaFault line) is = media_fault _ (named_of name (faces hosts) (λ k f. ⊤) is.0) line is.1
