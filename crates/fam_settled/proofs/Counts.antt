-- What a sound report counts.
use Rattle.std.proofs.Common.{◌≡◌, ◌↔◌, ℕ, ◌+◌, ◌-◌, ◌<◌, ◌≤◌, Bool, true, false, cond, IfOk, IsTrue, List, [], ◌∷◌}
use Rattle.std.proofs.Common.{count_by, length, nat_eq, take, Result, Ok, Err, Some, refl, sym, ap, subst, ◌∙◌, arith}
use Rattle.std.specs.List.{slice_get}
use Rattle.std.proofs.lemmas.Bool.Decides.{nat_tests}
use Rattle.std.proofs.lemmas.List.{length-map, length-take-le}
use Rattle.std.proofs.lemmas.List.Sums.{sum_by-append}
use Rattle.fam_base.specs.declared.entry.Entry.{Entry}
use Rattle.fam_base.specs.declared.entry.Kind.{Kind}
use Rattle.fam_base.specs.declared.entry.Kind.TheVariants.{File, Directory}
use Rattle.fam_base.specs.declared.entry.Params.{Params}
use Rattle.fam_base.specs.declared.line.OutOfMemory.{OutOfMemory}
use Rattle.fam_journal.specs.Legal.{IsReportOf}
use Rattle.fam_journal.specs.Past.{HostPast}
use Rattle.fam_plan.specs.State.{PlanState}
use Rattle.fam_plan.proofs.Prefixes.{first_more}
use Rattle.fam_rules.specs.Asks.{File as Files, entries_of}
use Rattle.fam_rules.specs.declared.answers.LogState.TheVariants as log
use Rattle.fam_rules.specs.declared.answers.Report.{Report}
use Rattle.fam_rules.specs.ReportLaws.{IsSoundReport}
use Rattle.fam_rules.specs.Reports.{is_directory, is_file}
use Rattle.fam_settled.specs.Reported.{HasKinds}

-- files among entries
abbrev pub files_among : List Entry → ℕ
files_among list = count_by (λ e. is_file e.kind) list

-- directories
abbrev pub directories_among : List Entry → ℕ
directories_among list = count_by (λ e. is_directory e.kind) list

-- one entry more
more : (list : List Entry) (i : ℕ) (e : Entry) → i < length list → slice_get list i ≡ Some e → files_among (take (i + 1) list) ≡ files_among (take i list) + (0 + cond (is_file e.kind) 1 0)
more list i e below at =
    ap files_among (first_more list i e below at) ∙ sum_by-append (λ (x : Entry). cond (is_file x.kind) 1 0) (take i list) (e ∷ [])

-- a file
pub file_more : (list : List Entry) (i : ℕ) (e : Entry) → i < length list → slice_get list i ≡ Some e → is_file e.kind ≡ true → files_among (take (i + 1) list) ≡ files_among (take i list) + 1
file_more list i e below at is = more list i e below at ∙ ap (λ (b : Bool). files_among (take i list) + (0 + cond b 1 0)) is

-- another entry
pub other_more : (list : List Entry) (i : ℕ) (e : Entry) → i < length list → slice_get list i ≡ Some e → is_file e.kind ≡ false → files_among (take (i + 1) list) ≡ files_among (take i list)
other_more list i e below at is =
    more list i e below at ∙ ap (λ (b : Bool). files_among (take i list) + (0 + cond b 1 0)) is ∙ (let none : files_among (take i list) + (0 + 0) ≡ files_among (take i list) = omega arith in none)

-- an entry is a file or a directory
one_kind : (k : Kind) → cond (is_file k) 1 0 + cond (is_directory k) 1 0 ≡ 1
one_kind File = refl
one_kind Directory = refl

pub both_kinds : (list : List Entry) → files_among list + directories_among list ≡ length list
both_kinds [] = refl
both_kinds (e ∷ list) =
    let files : files_among (e ∷ list) ≡ 0 + cond (is_file e.kind) 1 0 + files_among list = sum_by-append (λ (x : Entry). cond (is_file x.kind) 1 0) (e ∷ []) list in
    let others : directories_among (e ∷ list) ≡ 0 + cond (is_directory e.kind) 1 0 + directories_among list =
    sum_by-append (λ (x : Entry). cond (is_directory x.kind) 1 0) (e ∷ []) list in
    omega (arith, one_kind e.kind, both_kinds list, files, others)

-- the counts of a report
pub kinds_told : (list : List Entry) (report : Report) (wanted : ℕ) → report.files ≡ files_among list → wanted ≡ length list - files_among list
    → IsTrue (nat_eq report.directories wanted) ↔ HasKinds list report
kinds_told list report wanted files is =
    let many = both_kinds list in (
      λ h.
          let same : report.directories ≡ wanted = grind (arith, nat_tests, h) in
          record { files = files; directories = (let d : report.directories ≡ directories_among list = omega (arith, same, is, many) in d) },
      λ k. let same : report.directories ≡ wanted = omega (arith, k.directories, is, many) in grind (arith, nat_tests, same),
    )

-- Reports of the first entries.

module _ (p : Params) (all : List Files) (m floor : ℕ) (report : Report) (plan : PlanState) (params : plan.params ≡ p) (entries : plan.entries ≡ entries_of (take m all))
    (low : floor ≤ m) (high : m ≤ length all) (counted : (e s : ℕ) → report.log ≡ log.Sound e s → e ≡ m) where
  -- so many were read
  read_count : (k : ℕ) → k ≤ length all → length (entries_of (take k all)) ≡ k
  read_count k few = length-map (take k all) (λ f. f.entry) ∙ length-take-le k all few

  sound_told : (host : HostPast) → host.floor ≡ Some floor → IsSoundReport plan.params plan.entries report ↔ IsReportOf p host all report
  sound_told host marked = (
    λ is. record {
      m = m;
      bounds = record { floor = floor; marked = marked; low = low; high = high };
      is = subst (λ (q : Params). IsSoundReport q (entries_of (take m all)) report) params (subst (λ (l : List Entry). IsSoundReport plan.params l report) entries is);
    },
    λ r.
        let same : r.m ≡ m = sym (read_count r.m r.bounds.high) ∙ counted (length (entries_of (take r.m all))) p.slots r.is.log in
        subst (λ (l : List Entry). IsSoundReport plan.params l report) (ap (λ (k : ℕ). entries_of (take k all)) same ∙ sym entries)
        (subst (λ (q : Params). IsSoundReport q (entries_of (take r.m all)) report) (sym params) r.is),
  )

  pub report_told : (r : Result Bool OutOfMemory) → IfOk r (λ b. IsTrue b ↔ IsSoundReport plan.params plan.entries report)
      → IfOk r (λ b. (host : HostPast) → host.floor ≡ Some floor → IsTrue b ↔ IsReportOf p host all report)
  report_told (Err e) test = tt
  report_told (Ok b) test = λ host marked. (λ h. (sound_told host marked).0 (test.0 h), λ r. test.1 ((sound_told host marked).1 r))
