-- A note that stands and fits is whole.
use Rattle.std.proofs.Common.{◌≡◌, ℕ, suc, Bool, true, false, List, [], ◌∷◌, ◌++◌, length, Option, Some, None, refl, ap, sym, subst, ◌∙◌, arith}
use Rattle.std.specs.Prelude.{◌&&◌, ◌==◌, fold, is_some, not, slice_get}
use Rattle.std.proofs.lemmas.Bool.Decides.{nat_tests}
use Rattle.fam_base.specs.declared.cmd.Cmd.{Cmd}
use Rattle.fam_base.specs.declared.cmd.Cmd.TheVariants as cmd
use Rattle.fam_base.specs.declared.entry.Entry.{Entry}
use Rattle.fam_base.specs.declared.entry.Kind.{Kind}
use Rattle.fam_base.specs.declared.entry.Kind.TheVariants as kind
use Rattle.fam_base.specs.declared.entry.Params.{Params}
use Rattle.fam_base.specs.PathOrder.{path_cmp}
use Rattle.fam_format.specs.Tree.{Tree, replay}
use Rattle.fam_rules.specs.Asks.{File, entries_of, file_at}
use Rattle.fam_rules.specs.Checks.{checked, extra_in, changed_in, least_path, lesser, lesser_by, missing_from}
use Rattle.fam_rules.specs.declared.answers.Checked.{Checked}
use Rattle.fam_rules.specs.Reply as reply
use Rattle.fam_rules.specs.Reply.{Reply}
use Rattle.fam_journal.specs.Legal.{OfHost}
use Rattle.fam_journal.specs.Notes as note
use Rattle.fam_journal.specs.Notes.{Answer, Note}
use Rattle.fam_journal.specs.Past.{HostPast, Past, State, Bad, Sound}
use Rattle.fam_journal.specs.Shapes.{HostShape}
use Rattle.fam_history.specs.Answers.{none_differs}
use Rattle.fam_judge.specs.Fitting.{AnswerFits, AskFits, FileFits, FitsNext, KindFits, QuestionFits}
use Rattle.fam_judge.specs.Standing.{Face, IsMadeBy, MayStand, OfFace, faces}
use Rattle.fam_lines.specs.declared.host.SeenHost.{SeenHost}
use Rattle.fam_lines.specs.Behind.{IsTreeOfEntries, IsEntireAnswer, IsWholeMade, IsEntireNote, NamesFirst}
use Rattle.fam_lines.specs.Hosts.{faces_of}

-- How trees differ.

some_least : (path : List ℕ) (entries : List Entry) → is_some (fold lesser (Some path) entries) ≡ true
some_least path [] = refl
some_least path (e ∷ entries) = some_least (lesser_by (path_cmp path e.path) path e.path) entries

some_count : (n : ℕ) → (suc n == 0) ≡ false
some_count n = grind (arith, nat_tests)

named : (a b c : List Entry) → is_some (least_path (a ++ b ++ c)) ≡ not (none_differs (length a) (length b) (length c))
named [] [] [] = refl
named (e ∷ a) b c = some_least e.path (a ++ b ++ c) ∙ sym (ap (λ (t : Bool). not (t && (length b == 0) && (length c == 0))) (some_count (length a)))
named [] (e ∷ b) c = some_least e.path (b ++ c) ∙ sym (ap (λ (t : Bool). not (t && (length c == 0))) (some_count (length b)))
named [] [] (e ∷ c) = some_least e.path c ∙ sym (ap (λ (t : Bool). not t) (some_count (length c)))

-- a first path is named just where some path differs
checked_named : (tree : Tree) (listing : List Entry) → NamesFirst (checked tree listing)
unfolding checked
checked_named tree listing = named (missing_from tree listing) (extra_in tree listing) (changed_in tree listing)

-- Replies.

-- by what stands at a path a reply is no other one
by_kind : (m : ℕ) (k : Kind) (r : Reply) (P Q : Type 0) → (r ≡ reply.IsDirectory m → Q) → (P → Q) → KindFits m k r P → Q
by_kind m kind.Directory r P Q none file fits = none fits
by_kind m kind.File r P Q none file fits = file fits

by_file : (m : ℕ) (o : Option File) (r : Reply) (P : List ℕ → Type 0) (Q : Type 0) → (r ≡ reply.NotFound m → Q) → (r ≡ reply.IsDirectory m → Q)
    → ((bytes : List ℕ) → P bytes → Q) → FileFits m o r P → Q
by_file m None r P Q none directory file fits = none fits
by_file m (Some f) r P Q none directory file fits = by_kind m f.entry.kind r (P f.bytes) Q directory (file f.bytes) fits

played : (files : List File) (c : Cmd) (m : ℕ) (tree : Tree) → AskFits files c (reply.Played m tree) → IsTreeOfEntries tree
played files cmd.Logplay m tree fits = record { entries = entries_of files; is = cc }
played files cmd.Mount m tree fits = absurd cc
played files (cmd.Mkdir path attr) m tree fits = absurd fits
played files (cmd.Creat path size attr stripe fill) m tree fits = absurd fits
played files (cmd.Cp path attr stripe bytes) m tree fits = absurd fits
played files (cmd.Verify path against) m tree fits =
    by_file (length files) (file_at files path) (reply.Played m tree) _ (IsTreeOfEntries tree) (λ e. absurd cc) (λ e. absurd cc) (λ bytes none. absurd none) fits
played files (cmd.Read path offset count) m tree fits =
    by_file (length files) (file_at files path) (reply.Played m tree) _ (IsTreeOfEntries tree) (λ e. absurd cc) (λ e. absurd cc) (λ bytes none. let e = none.1 in absurd cc) fits
played files (cmd.Check listing) m tree fits = let e = fits.1 in absurd cc
played files cmd.Fsck m tree fits = absurd fits

-- of a check that fits a first path is named just where some path differs
pub counts_named : (files : List File) (c : Cmd) (m : ℕ) (counts : Checked) → AskFits files c (reply.Checks m counts) → NamesFirst counts
counts_named files cmd.Logplay m counts fits = absurd cc
counts_named files cmd.Mount m counts fits = absurd cc
counts_named files (cmd.Mkdir path attr) m counts fits = absurd fits
counts_named files (cmd.Creat path size attr stripe fill) m counts fits = absurd fits
counts_named files (cmd.Cp path attr stripe bytes) m counts fits = absurd fits
counts_named files (cmd.Verify path against) m counts fits =
    by_file (length files) (file_at files path) (reply.Checks m counts) _ (NamesFirst counts) (λ e. absurd cc) (λ e. absurd cc) (λ bytes none. absurd none) fits
counts_named files (cmd.Read path offset count) m counts fits =
    by_file (length files) (file_at files path) (reply.Checks m counts) _ (NamesFirst counts) (λ e. absurd cc) (λ e. absurd cc) (λ bytes none. let e = none.1 in absurd cc) fits
counts_named files (cmd.Check listing) m counts fits =
    let e = fits.1 in
    let same : fits.0 ≡ counts = cc in
    let is : counts ≡ checked (replay (entries_of files)) fits.2.listing = sym same ∙ fits.2.is in
    subst NamesFirst (sym is) (checked_named (replay (entries_of files)) fits.2.listing)
counts_named files cmd.Fsck m counts fits = absurd fits

whole_question : (m : ℕ) (r : Reply) (host : HostPast) (state : State) (Q : Type 0) → ((files : List File) (c : Cmd) → AskFits files c r → Q) → QuestionFits m r host state → Q
whole_question m r host (Sound p history pending) Q each fits = each _ fits.cmd fits.fits
whole_question m r host (Bad origin damage gate) Q each fits = absurd fits

whole_answer : (a : Answer) (host : HostPast) (state : State) → AnswerFits a host state → IsEntireAnswer a
whole_answer (note.MediaFault at) host state fits = tt
whole_answer (note.Replied (reply.Played m tree)) host state fits = whole_question m (reply.Played m tree) host state (IsTreeOfEntries tree) (λ files c. played files c m tree) fits
whole_answer (note.Replied (reply.Checks m counts)) host state fits = whole_question m (reply.Checks m counts) host state (NamesFirst counts) (λ files c. counts_named files c m counts) fits
whole_answer (note.Replied r) host state fits = tt

-- Notes.

of_host : (o : Option HostPast) (P : HostPast → Type 0) (Q : Type 0) → ((host : HostPast) → P host → Q) → OfHost o P → Q
of_host None P Q each is = absurd is
of_host (Some host) P Q each is = each host is

made : (o : Option Face) (lines : ℕ) (p : Params) → OfFace o (λ f. IsMadeBy f.uuid lines p) → OfFace o (λ f. IsWholeMade f.uuid p)
made None lines p is = absurd is
made (Some f) lines p is = record { slots = is.slots; master = is.master }

-- of a note that stands and fits
pub whole_note : (lines : ℕ) (hosts : List SeenHost) (shapes : List HostShape) (past : Past) (n : Note) → faces shapes ≡ faces_of hosts → MayStand lines shapes n → FitsNext past n
    → IsEntireNote hosts n
whole_note lines hosts shapes past (note.Made h p) seen stands fits =
    subst (λ (all : List Face). OfFace (slice_get all h) (λ f. IsWholeMade f.uuid p)) seen (made (slice_get (faces shapes) h) lines p stands.1)
whole_note lines hosts shapes past (note.Answered h a) seen stands fits =
    of_host (slice_get past.hosts h) (λ host. AnswerFits a host past.state) (IsEntireAnswer a) (λ host is. whole_answer a host past.state is) fits
whole_note lines hosts shapes past n seen stands fits = tt
