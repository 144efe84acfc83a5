-- What a call is refused for stands in the table.
use Rattle.std.proofs.Common.{◌≡◌, ◌*◌, ◌<◌, ◌≤◌, inl, inr, ℕ, Bool, true, false, List, length, Option, Some, None, refl, ap, sym, ◌∙◌, subst, arith}
use Rattle.std.specs.Prelude.{⊤, ◌&&◌, ◌||◌, not, nat_le, nat_lt, option_map, slice_get}
use Rattle.std.proofs.lemmas.Bool.{cases_lt}
use Rattle.std.proofs.lemmas.Bool.Decides.{nat_tests}
use Rattle.std.proofs.lemmas.Option.{same_Some, slice_get_within}
use Rattle.fam_base.specs.PathOrder.{path_eq}
use Rattle.fam_format.specs.Layout.{least_lines}
use Rattle.fam_format.specs.Params.{need}
use Rattle.fam_format.specs.Stop.{or_else}
use Rattle.fam_machine.specs.Mkfs.{EarlyRefusal, early_refusal, is_geometry}
use Rattle.fam_rules.specs.Place.{line_bytes}
use Rattle.fam_journal.specs.declared.refusal.Refusal.{Refusal}
use Rattle.fam_journal.specs.declared.refusal.Refusal.TheVariants as why
use Rattle.fam_journal.specs.Calls as call
use Rattle.fam_journal.specs.Calls.{begins_refusal, busy_at, busy_refusal, cause_of, host_limit, idle_refusal, is_engaged, is_same, keeps_at, line_refusal, number_of, on_host, refusal_of, same_refusal, umounts_refusal, when}
use Rattle.fam_journal.specs.Machines.{Machines}
use Rattle.fam_journal.specs.Members.{index_of}
use Rattle.fam_journal.specs.Shapes.{HostShape, makes_told, refusal_told, shown_shapes}
use Rattle.fam_journal.proofs.Calls.Declares.{none_passes}
use Rattle.fam_journal.proofs.Calls.Tests.{at_most, below_of, no_busy, no_cause, no_same, no_when, or_first, or_next}
use Rattle.fam_judge.specs.Standing.{AtNamed, Face, HasSystemRoom, IsDeclaredName, IsNotBefore, MayMake, MayRefuseCall, engaged_in, faces, host_number_in, same_in}
use Rattle.fam_judge.proofs.Standing.Faces.{IsFirst, at_named, count_faced, either_left, engaged_faced, index_found, keeps_face, keeps_faced, lines_faced, number_faced, runs_face, runs_faced, same_faced}
use Rattle.fam_judge.proofs.Standing.Sizes.{Numbers, bad, need_found, numbers, pass, room_of, small}

-- Tests.

passes_lt : (a b : ℕ) → nat_lt a b ≡ true → a < b
passes_lt a b e = grind (arith, nat_tests)

passes_le : (a b : ℕ) → nat_le a b ≡ true → a ≤ b
passes_le a b e = grind (arith, nat_tests)

not_true : (b : Bool) → not b ≡ true → b ≡ false
not_true true e = absurd cc
not_true false e = refl

-- the negation is false
pub not_false : (b : Bool) → not b ≡ false → b ≡ true
not_false true e = refl
not_false false e = absurd cc

when_some : (b : Bool) (cause w : Refusal) → when b cause ≡ Some w → (b ≡ true) × (cause ≡ w)
when_some true cause w e = (refl, same_Some cause w e)
when_some false cause w e = absurd cc

both_true : (a b : Bool) → (a && b) ≡ true → (a ≡ true) × (b ≡ true)
both_true true true e = (refl, refl)
both_true true false e = absurd cc
both_true false b e = absurd cc

-- Of two causes the first, or none before the second.
or_cause : {A : Type 0} (a b : Option Refusal) (w : Refusal) → or_else a b ≡ Some w → (a ≡ Some w → A) → (a ≡ None → b ≡ Some w → A) → A
or_cause (Some x) b w e first next = first e
or_cause None b w e first next = next refl e

module _ (lines : ℕ) (hosts : List HostShape) where
  -- the machine, as refusals see it
  abbrev pub m : Machines
  m = shown_shapes lines hosts

  -- what is seen of the hosts
  abbrev pub all : List Face
  all = faces hosts

  -- the row of a cause
  row : (name : List ℕ) (cause w : Refusal) → cause ≡ w → MayRefuseCall lines all name cause → MayRefuseCall lines all name w
  row name cause w e is = subst (MayRefuseCall lines all name) e is

  -- The host that was asked.

  -- it is declared
  pub record Asked (name : List ℕ) (k : ℕ) : Type 0 where
    pub host : Face
    pub named : host_number_in name all ≡ Some k
    pub is : slice_get all k ≡ Some host

  -- it has a face
  pub asked : (name : List ℕ) (k : ℕ) → number_of name m ≡ Some k → Asked name k
  asked name k e =
      let named = sym (number_faced lines hosts name) ∙ e in
      let found = index_found (λ (f : Face). path_eq f.name name) all k named in
      record { host = found.member; named = named; is = found.is }

  module _ (name : List ℕ) (k : ℕ) (at : Asked name k) where
    -- this holds of it
    pub of_asked : (P : ℕ → Face → Type 0) → P k at.host → AtNamed name all P
    of_asked P holds = at_named name all P k at.host at.named at.is holds

    -- it is declared
    pub declared : IsDeclaredName name all
    declared = of_asked (λ n f. ⊤) tt

    -- it runs a command, or none
    pub runs_asked : (b : Bool) → busy_at k m ≡ b → at.host.runs ≡ b
    runs_asked b e = ap runs_face (sym at.is) ∙ sym (runs_faced lines hosts k) ∙ e

    -- it keeps something, or nothing
    pub keeps_asked : (b : Bool) → keeps_at k m ≡ b → at.host.keeps ≡ b
    keeps_asked b e = ap keeps_face (sym at.is) ∙ sym (keeps_faced lines hosts k) ∙ e

    -- Causes of calls for it.

    -- a command that begins
    pub begins_row : (mount : Bool) (w : Refusal) → begins_refusal k mount m ≡ Some w → MayRefuseCall lines all name w
    begins_row mount w e = or_cause _ _ w e few next
      where
        few : when (nat_lt (length m.memory) least_lines) (why.ImageSmall (length m.memory)) ≡ Some w → MayRefuseCall lines all name w
        few e =
            let is = when_some _ _ w e in
            row name (why.ImageSmall (length m.memory)) w is.1
            (declared, lines_faced lines hosts, subst (λ (n : ℕ). n < least_lines) (lines_faced lines hosts) (passes_lt _ _ is.0))

        next : when (nat_lt (length m.memory) least_lines) (why.ImageSmall (length m.memory)) ≡ None
            → or_else (when (busy_at k m) (why.Busy (record { 0 = k }))) (when (mount && keeps_at k m) why.Mounted) ≡ Some w → MayRefuseCall lines all name w
        next none e = or_cause _ _ w e busy kept
          where
            busy : when (busy_at k m) (why.Busy (record { 0 = k })) ≡ Some w → MayRefuseCall lines all name w
            busy e = let is = when_some _ _ w e in row name (why.Busy (record { 0 = k })) w is.1 (inl (of_asked _ (refl, runs_asked true is.0)))

            kept : when (busy_at k m) (why.Busy (record { 0 = k })) ≡ None → when (mount && keeps_at k m) why.Mounted ≡ Some w → MayRefuseCall lines all name w
            kept idle e =
                let is = when_some _ _ w e in
                row name why.Mounted w is.1 (
                  subst (λ (n : ℕ). least_lines ≤ n) (lines_faced lines hosts) (at_most _ _ (no_when _ _ none)),
                  of_asked _ (runs_asked false (no_when _ _ idle), keeps_asked true (both_true mount _ is.0).1),
                )

    -- it may begin
    pub begins_free : (mount : Bool) → begins_refusal k mount m ≡ None → (least_lines ≤ lines) × (at.host.runs ≡ false) × ((mount && at.host.keeps) ≡ false)
    begins_free mount e =
        let few = no_when (nat_lt (length m.memory) least_lines) (why.ImageSmall (length m.memory)) (or_first _ _ e) in
        let rest = or_next (when (nat_lt (length m.memory) least_lines) (why.ImageSmall (length m.memory))) _ e in
        let idle = no_when (busy_at k m) (why.Busy (record { 0 = k })) (or_first _ _ rest) in
        let kept = no_when (mount && keeps_at k m) why.Mounted (or_next (when (busy_at k m) (why.Busy (record { 0 = k }))) _ rest) in (
          subst (λ (n : ℕ). least_lines ≤ n) (lines_faced lines hosts) (at_most _ _ few),
          runs_asked false idle,
          ap (λ (b : Bool). mount && b) (keeps_asked (keeps_at k m) refl) ∙ kept,
        )

    -- operations, and a stop
    pub idle_row : (w : Refusal) → idle_refusal k m ≡ Some w → MayRefuseCall lines all name w
    idle_row w e = let is = when_some _ _ w e in row name why.Idle w is.1 (of_asked _ (runs_asked false (not_true _ is.0)))

    -- an umount
    pub umounts_row : (w : Refusal) → umounts_refusal k m ≡ Some w → MayRefuseCall lines all name w
    umounts_row w e = or_cause _ _ w e busy kept
      where
        busy : when (busy_at k m) (why.Busy (record { 0 = k })) ≡ Some w → MayRefuseCall lines all name w
        busy e = let is = when_some _ _ w e in row name (why.Busy (record { 0 = k })) w is.1 (inl (of_asked _ (refl, runs_asked true is.0)))

        kept : when (busy_at k m) (why.Busy (record { 0 = k })) ≡ None → when (not (keeps_at k m)) why.NotMounted ≡ Some w → MayRefuseCall lines all name w
        kept idle e =
            let is = when_some _ _ w e in
            row name why.NotMounted w is.1 (of_asked _ (runs_asked false (no_when _ _ idle), keeps_asked false (not_true _ is.0)))

    -- it has something to forget
    pub umounts_free : umounts_refusal k m ≡ None → (at.host.runs ≡ false) × (at.host.keeps ≡ true)
    umounts_free e = (
      runs_asked false (no_when _ _ (or_first _ _ e)),
      keeps_asked true (not_false _ (no_when (not (keeps_at k m)) why.NotMounted (or_next (when (busy_at k m) (why.Busy (record { 0 = k }))) _ e))),
    )

    -- a cache's move
    pub line_row : (line : ℕ) (w : Refusal) → line_refusal line m ≡ Some w → MayRefuseCall lines all name w
    line_row line w e =
        let is = when_some _ _ w e in
        row name (why.NoLine line (length m.memory)) w is.1
        (declared, lines_faced lines hosts, subst (λ (n : ℕ). n ≤ line) (lines_faced lines hosts) (passes_le _ _ is.0))

    -- the media has the line
    pub line_free : (line : ℕ) → line_refusal line m ≡ None → line < lines
    line_free line e = subst (λ (n : ℕ). line < n) (lines_faced lines hosts) (below_of _ _ (no_when _ _ e))

    -- a file system that is made
    pub makes_row : (unit log : ℕ) (w : Refusal) → makes_told unit log m ≡ Some w → MayRefuseCall lines all name w
    makes_row unit log w e = by (numbers unit log (line_bytes * length m.memory))
      where
        rest : Option EarlyRefusal → Option Refusal
        rest o = or_else (option_map cause_of o) (busy_refusal (index_of is_engaged m.hosts))

        busy : HasSystemRoom lines → (o : Option ℕ) → engaged_in all ≡ o → busy_refusal o ≡ Some w → MayRefuseCall lines all name w
        busy room None first e = absurd cc
        busy room (Some h) first e = row name (why.Busy (record { 0 = h })) w (same_Some _ w e) (inr (declared, room, first))

        by : Numbers unit log (line_bytes * length m.memory) → MayRefuseCall lines all name w
        by (bad odd is) = row name (why.BadGeometry unit log) w (same_Some (why.BadGeometry unit log) w (sym (ap rest is) ∙ e)) (declared, odd)
        by (small shaped low is) =
            row name (why.TooSmall (need log unit) (line_bytes * length m.memory)) w (same_Some _ w (sym (ap rest is) ∙ e))
            (declared, need_found unit log shaped, ap (λ (n : ℕ). line_bytes * n) (lines_faced lines hosts), low)
        by (pass shaped fits is) =
            busy (room_of unit log lines shaped (subst (λ (n : ℕ). need log unit ≤ line_bytes * n) (lines_faced lines hosts) fits)) (engaged_in all) refl
            (sym (ap busy_refusal (engaged_faced lines hosts)) ∙ (sym (ap rest is) ∙ e))

  -- Making a file system.

  -- the numbers pass, and nobody is busy
  pub record MakesFree (unit log : ℕ) : Type 0 where
    pub geometry : is_geometry unit log ≡ true
    pub fits : need log unit ≤ line_bytes * lines
    pub may : MayMake lines all

  -- where nothing is refused that notes tell
  pub makes_free : (unit log : ℕ) → makes_told unit log m ≡ None → MakesFree unit log
  makes_free unit log e = by (numbers unit log (line_bytes * length m.memory))
    where
      none : early_refusal unit log (line_bytes * length m.memory) ≡ None
      none = no_cause _ (or_first _ _ e)

      idle : engaged_in all ≡ None
      idle = sym (engaged_faced lines hosts) ∙ no_busy _ (or_next (option_map cause_of (early_refusal unit log (line_bytes * length m.memory))) _ e)

      by : Numbers unit log (line_bytes * length m.memory) → MakesFree unit log
      by (bad odd is) = absurd cc
      by (small shaped low is) = absurd cc
      by (pass shaped fits is) =
          let room = subst (λ (n : ℕ). need log unit ≤ line_bytes * n) (lines_faced lines hosts) fits in
          record { geometry = shaped; fits = room; may = (room_of unit log lines shaped room, idle) }

  -- By a name.

  -- none is declared, or the host that is asked refuses
  pub on_row : (name : List ℕ) (P : ℕ → Option Refusal) → ((k : ℕ) → Asked name k → (w : Refusal) → P k ≡ Some w → MayRefuseCall lines all name w)
      → (w : Refusal) → on_host (number_of name m) P ≡ Some w → MayRefuseCall lines all name w
  on_row name P each w e = by (number_of name m) refl e
    where
      by : (o : Option ℕ) → number_of name m ≡ o → on_host o P ≡ Some w → MayRefuseCall lines all name w
      by None number e = row name why.NoHost w (same_Some why.NoHost w e) (sym (number_faced lines hosts name) ∙ number)
      by (Some k) number e = each k (asked name k number) w e

  -- nothing is refused there
  pub record NoneAt (name : List ℕ) (P : ℕ → Option Refusal) : Type 0 where
    pub number : ℕ
    pub is : number_of name m ≡ Some number
    pub at : Asked name number
    pub free : P number ≡ None

  -- where the host that is asked refuses nothing
  pub on_free : (name : List ℕ) (P : ℕ → Option Refusal) → on_host (number_of name m) P ≡ None → NoneAt name P
  on_free name P e = by (number_of name m) refl e
    where
      by : (o : Option ℕ) → number_of name m ≡ o → on_host o P ≡ None → NoneAt name P
      by None number e = absurd cc
      by (Some k) number e = record { number = k; is = number; at = asked name k number; free = e }

  -- Declaring a host.

  module _ (name uuid : List ℕ) where
    abbrev test : Face → Bool
    test f = path_eq f.name name || path_eq f.uuid uuid

    -- a host of the name is one of the name or the UUID
    pub not_named : same_in name uuid all ≡ None → host_number_in name all ≡ None
    not_named none = by (host_number_in name all) refl
      where
        by : (o : Option ℕ) → host_number_in name all ≡ o → host_number_in name all ≡ None
        by None e = e
        by (Some k) e =
            let found = index_found (λ (f : Face). path_eq f.name name) all k e in
            let other : path_eq found.member.name name ≡ false = either_left _ _ (none_passes test all 0 none k found.member found.is) in
            let passes = found.passes in absurd cc

    not_before : (h : ℕ) → IsFirst test all h → (o : Option ℕ) → host_number_in name all ≡ o → IsNotBefore h o
    not_before h first None e = tt
    not_before h first (Some k) e = elim (cases_lt k h) [
      | inl low ↦
          let found = index_found (λ (f : Face). path_eq f.name name) all k e in
          let other : path_eq found.member.name name ≡ false = either_left _ _ (first.first k found.member low found.is) in
          let passes = found.passes in absurd cc
      | inr high ↦ high
    ]

    -- a host that is declared
    pub declares_row : (w : Refusal) → refusal_told (call.Declares name uuid) lines hosts ≡ Some w → MayRefuseCall lines all name w
    unfolding refusal_of
    declares_row w e =
        or_cause _ _ w e (λ e. same (same_in name uuid all) refl (sym (ap same_refusal (same_faced lines hosts name uuid)) ∙ e))
        (λ none e.
        let is = when_some _ _ w e in
        row name why.TooManyHosts w is.1 (
          not_named (sym (same_faced lines hosts name uuid) ∙ no_same _ none),
          subst (λ (n : ℕ). host_limit ≤ n) (count_faced lines hosts) (passes_le _ _ is.0),
        ))
      where
        same : (o : Option ℕ) → same_in name uuid all ≡ o → same_refusal o ≡ Some w → MayRefuseCall lines all name w
        same None first e = absurd cc
        same (Some h) first e =
            let found = index_found test all h first in
            row name (why.SameHost (record { 0 = h })) w (same_Some _ w e) (slice_get_within all h found.member found.is, not_before h found (host_number_in name all) refl)

    -- it is new, and there is room for it
    pub declares_free : refusal_told (call.Declares name uuid) lines hosts ≡ None → (same_in name uuid all ≡ None) × (length all < host_limit)
    unfolding refusal_of
    declares_free e = (
      sym (same_faced lines hosts name uuid) ∙ no_same _ (or_first _ _ e),
      subst (λ (n : ℕ). n < host_limit) (count_faced lines hosts)
          (below_of _ _ (no_when (nat_le host_limit (length m.hosts)) why.TooManyHosts (or_next (same_refusal (index_of (is_same name uuid) m.hosts)) _ e))),
    )
