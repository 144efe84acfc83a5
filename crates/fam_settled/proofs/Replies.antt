-- What a journal's answer tells, and which one fits.
use Rattle.std.proofs.Common.{◌≡◌, ◌↔◌, ℕ, List, [], length, Option, Some, None, refl, sym, ap, subst, ◌∙◌}
use Rattle.fam_base.specs.declared.cmd.Cmd.{Cmd}
use Rattle.fam_base.specs.declared.cmd.Cmd.TheVariants.{Logplay, Mount, Verify, Read, Check}
use Rattle.fam_base.specs.declared.cmd.Content.{Content}
use Rattle.fam_base.specs.declared.entry.Entry.{Entry}
use Rattle.fam_base.specs.declared.entry.Kind.{Kind}
use Rattle.fam_base.specs.declared.entry.Kind.TheVariants as kind
use Rattle.fam_format.specs.Tree.{replay}
use Rattle.fam_history.specs.declared.answer.ToldAnswer.{ToldAnswer}
use Rattle.fam_history.specs.declared.answer.ToldAnswer.TheVariants as told
use Rattle.fam_history.specs.ToldAnswers.{reply_told}
use Rattle.fam_rules.specs.Asks.{File, entries_of, file_at}
use Rattle.fam_rules.specs.Reply as reply
use Rattle.fam_rules.specs.Reply.{Reply}
use Rattle.fam_judge.specs.Fitting.{AskFits, FileFits, KindFits, ReadFits, VerifiedFits}
use Rattle.fam_settled.specs.Fits.{FileTold, IsPlayed, KindTold, PlainTold, ReadTold, VerifiedTold}
use Rattle.fam_settled.specs.Told.{IsNoCheck, IsToldFit, listed_of}

-- some reply of one line tells this, and this holds of it
record Tells (answer : ToldAnswer) (P : Reply → Type 0) : Type 0 where
  given : Reply
  told : reply_told given ≡ answer
  lines : listed_of given ≡ []
  holds : P given

-- Verifies and reads.

verified_so : (m : ℕ) (bytes : List ℕ) (against : Content) (answer : ToldAnswer) → VerifiedTold m bytes against answer → Tells answer (VerifiedFits m bytes against)
verified_so m bytes against (told.Same n) is = record { given = reply.Same n; told = refl; lines = refl; holds = (is.0, is.1.long, is.1.same) }
verified_so m bytes against (told.Differs n offset found wanted) is =
    record { given = reply.Differs n offset found wanted; told = refl; lines = refl; holds = (is.0, is.1.long, is.1.differ) }
verified_so m bytes against (told.Length n size wanted) is = record { given = reply.Length n size wanted; told = refl; lines = refl; holds = is }
verified_so m bytes against answer is = absurd is

verified_in : (m : ℕ) (bytes : List ℕ) (against : Content) (given : Reply) → VerifiedFits m bytes against given → VerifiedTold m bytes against (reply_told given) × (listed_of given ≡ [])
verified_in m bytes against (reply.Same n) is = ((is.0, record { long = is.1; same = is.2 }), refl)
verified_in m bytes against (reply.Differs n offset found wanted) is = ((is.0, record { long = is.1; differ = is.2 }), refl)
verified_in m bytes against (reply.Length n size wanted) is = (is, refl)
verified_in m bytes against given is = absurd is

read_so : (m : ℕ) (bytes : List ℕ) (offset count : ℕ) (answer : ToldAnswer) → ReadTold m bytes offset count answer → Tells answer (ReadFits m bytes offset count)
read_so m bytes offset count (told.Bytes n found) is =
    record { given = reply.Bytes n found; told = refl; lines = refl; holds = (found, ap (λ (k : ℕ). reply.Bytes k found) is.0, is.1) }
read_so m bytes offset count answer is = absurd is

read_in : (m : ℕ) (bytes : List ℕ) (offset count : ℕ) (given : Reply) → ReadFits m bytes offset count given → ReadTold m bytes offset count (reply_told given) × (listed_of given ≡ [])
read_in m bytes offset count given (found, is, fits) =
    let P : Reply → Type 0 = λ g. ReadTold m bytes offset count (reply_told g) × (listed_of g ≡ []) in
    subst P (sym is) ((refl, fits), refl)

-- Questions about files.

module _ (m : ℕ) (answer : ToldAnswer) (Told : List ℕ → ToldAnswer → Type 0) (Fits : List ℕ → Reply → Type 0) where
  kind_so : (bytes : List ℕ) (k : Kind) → (Told bytes answer → Tells answer (Fits bytes)) → KindTold m k answer (Told bytes answer)
      → Tells answer (λ given. KindFits m k given (Fits bytes given))
  kind_so bytes kind.Directory so is = record { given = reply.IsDirectory m; told = sym is; lines = refl; holds = refl }
  kind_so bytes kind.File so is = let t = so is in record { given = t.given; told = t.told; lines = t.lines; holds = t.holds }

  file_so : (o : Option File) → ((bytes : List ℕ) → Told bytes answer → Tells answer (Fits bytes)) → FileTold m o answer (λ bytes. Told bytes answer)
      → Tells answer (λ given. FileFits m o given (λ bytes. Fits bytes given))
  file_so None so is = record { given = reply.NotFound m; told = sym is; lines = refl; holds = refl }
  file_so (Some f) so is = let t = kind_so f.bytes f.entry.kind (so f.bytes) is in record { given = t.given; told = t.told; lines = t.lines; holds = t.holds }

module _ (m : ℕ) (given : Reply) (Told : List ℕ → ToldAnswer → Type 0) (Fits : List ℕ → Reply → Type 0)
    (each : (bytes : List ℕ) → Fits bytes given → Told bytes (reply_told given) × (listed_of given ≡ [])) where
  kind_in : (bytes : List ℕ) (k : Kind) → KindFits m k given (Fits bytes given) → KindTold m k (reply_told given) (Told bytes (reply_told given)) × (listed_of given ≡ [])
  kind_in bytes kind.Directory is = (ap reply_told is, ap listed_of is)
  kind_in bytes kind.File is = each bytes is

  file_in : (o : Option File) → FileFits m o given (λ bytes. Fits bytes given)
      → FileTold m o (reply_told given) (λ bytes. Told bytes (reply_told given)) × (listed_of given ≡ [])
  file_in None is = (ap reply_told is, ap listed_of is)
  file_in (Some f) is = kind_in f.bytes f.entry.kind is

-- Questions.

module _ (files : List File) where
  -- a listing
  pub played_so : (answer : ToldAnswer) (listed : List Entry) → IsPlayed (length files) files answer listed → IsToldFit files Logplay answer listed
  played_so answer listed is = record { given = reply.Played (length files) (replay (entries_of files)); told = sym is.told; lines = is.lines; fits = refl }

  tree_in : Option Reply → Reply
  tree_in None = reply.Mounted 0
  tree_in (Some r) = r

  pub played_in : (answer : ToldAnswer) (listed : List Entry) → IsToldFit files Logplay answer listed → IsPlayed (length files) files answer listed
  unfolding tree_in
  played_in answer listed is =
      let same : reply.Played (length files) (replay (entries_of files)) ≡ is.given = ap tree_in is.fits in
      record { told = sym is.told ∙ sym (ap reply_told same); lines = ap listed_of same ∙ is.lines }

  -- an answer of one line
  pub plain_so : (c : Cmd) (answer : ToldAnswer) → PlainTold (length files) files c answer → IsToldFit files c answer []
  plain_so Mount answer is = record { given = reply.Mounted (length files); told = sym is; lines = refl; fits = refl }
  plain_so (Verify path against) answer is =
      let t = file_so (length files) answer (λ bytes. VerifiedTold (length files) bytes against) (λ bytes. VerifiedFits (length files) bytes against) (file_at files path)
      (λ bytes. verified_so (length files) bytes against answer) is in
      record { given = t.given; told = t.told; lines = t.lines; fits = t.holds }
  plain_so (Read path offset count) answer is =
      let t = file_so (length files) answer (λ bytes. ReadTold (length files) bytes offset count) (λ bytes. ReadFits (length files) bytes offset count) (file_at files path)
      (λ bytes. read_so (length files) bytes offset count answer) is in
      record { given = t.given; told = t.told; lines = t.lines; fits = t.holds }
  plain_so c answer is = absurd is

  reply_in : (c : Cmd) (given : Reply) → (c ≡ Logplay → ⊥) → IsNoCheck c → AskFits files c given → PlainTold (length files) files c (reply_told given) × (listed_of given ≡ [])
  unfolding tree_in
  reply_in Logplay given other no_check fits = absurd (other refl)
  reply_in Mount given other no_check fits =
      let same : reply.Mounted (length files) ≡ given = ap tree_in fits in
      (sym (ap reply_told same), sym (ap listed_of same))
  reply_in (Verify path against) given other no_check fits =
      file_in (length files) given (λ bytes. VerifiedTold (length files) bytes against) (λ bytes. VerifiedFits (length files) bytes against)
      (λ bytes. verified_in (length files) bytes against given) (file_at files path) fits
  reply_in (Read path offset count) given other no_check fits =
      file_in (length files) given (λ bytes. ReadTold (length files) bytes offset count) (λ bytes. ReadFits (length files) bytes offset count)
      (λ bytes. read_in (length files) bytes offset count given) (file_at files path) fits
  reply_in (Check listing) given other no_check fits = absurd no_check
  reply_in c given other no_check fits = absurd fits

  pub plain_in : (c : Cmd) (answer : ToldAnswer) (listed : List Entry) → (c ≡ Logplay → ⊥) → IsNoCheck c → IsToldFit files c answer listed
      → PlainTold (length files) files c answer × (listed ≡ [])
  plain_in c answer listed other no_check is =
      let t = reply_in c is.given other no_check is.fits in
      (subst (PlainTold (length files) files c) is.told t.0, sym is.lines ∙ t.1)

  -- no lines follow the first one, but of a listing
  pub fit_alone : (c : Cmd) (answer : ToldAnswer) (listed : List Entry) → (c ≡ Logplay → ⊥) → IsToldFit files c answer listed → listed ≡ []
  fit_alone (Check listing) answer listed other is = sym is.lines ∙ ap listed_of is.fits.1
  fit_alone Logplay answer listed other is = absurd (other refl)
  fit_alone c answer listed other is = (plain_in c answer listed other tt is).1

-- A listing, and what fits.
pub listing_told : (files : List File) (m : ℕ) (c : Cmd) (answer : ToldAnswer) (listed : List Entry) → m ≡ length files → c ≡ Logplay
    → IsPlayed m files answer listed ↔ IsToldFit files c answer listed
listing_told files m c answer listed same is =
    let P : ℕ → Type 0 = λ n. IsPlayed n files answer listed in
    let Q : Cmd → Type 0 = λ x. IsToldFit files x answer listed in
    (λ played. subst Q (sym is) (played_so files answer listed (subst P same played)), λ fit. subst P (sym same) (played_in files answer listed (subst Q is fit)))

-- an answer of one line, and what fits
pub line_told : (files : List File) (m : ℕ) (c : Cmd) (answer : ToldAnswer) (listed : List Entry) → m ≡ length files → (c ≡ Logplay → ⊥) → IsNoCheck c → listed ≡ []
    → PlainTold m files c answer ↔ IsToldFit files c answer listed
line_told files m c answer listed same other no_check none =
    let P : ℕ → Type 0 = λ n. PlainTold n files c answer in
    (λ is. subst (IsToldFit files c answer) (sym none) (plain_so files c answer (subst P same is)), λ fit. subst P (sym same) (plain_in files c answer listed other no_check fit).0)
