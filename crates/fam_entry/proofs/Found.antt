-- What is read is spelled, and what is spelled is read.
use Rattle.std.proofs.Common.{◌≡◌, ℕ, List, length, None, Result, Ok, Err, refl, sym, ap, ◌∙◌}
use Rattle.std.specs.Result.{IfOk, OnOk, IsOk, MatchResult}
use Rattle.fam_base.specs.declared.entry.Params.{Params}
use Rattle.fam_base.specs.declared.entry.Entry.{Entry}
use Rattle.fam_format.specs.declared.faults.Reason.{Reason}
use Rattle.fam_format.specs.declared.faults.LogFault.{LogFault}
use Rattle.fam_format.specs.Layout.{geometry}
use Rattle.fam_format.specs.Slot.{Proper, spelling, entry_of, fields_of}
use Rattle.fam_format.specs.SuperLaws.{IsWords}
use Rattle.fam_format.specs.Log.{log_fault, log_words}
use Rattle.fam_format.proofs.LogLawsProofs.{header_passes, header_spelled}
use Rattle.fam_entry.specs.Tests.{NamesFault, read_as}
use Rattle.fam_format.proofs.EntryLawsProofs.{read_proper, read_spelled, spelling_read}

-- an answer that is the reading of a slot's words
module _ (p : Params) (words : List ℕ) (seq : ℕ) (answer : Result Entry Reason) (is : answer ≡ entry_of p words seq) where
  -- names a proper entry of that spelling where it is Ok
  pub entry_found : IsWords (geometry p).words words → IfOk answer (λ e. Proper p e × (words ≡ spelling (geometry p) e seq))
  entry_found w = elim answer as (λ a. a ≡ entry_of p words seq → IfOk a (λ e. Proper p e × (words ≡ spelling (geometry p) e seq))) [
    | Ok e ↦ λ read. (read_proper p words seq e (sym read), read_spelled p words seq e w.count w.fits (sym read))
    | Err reason ↦ λ read. tt
  ] is

  -- and is Ok where there is one
  pub entry_only : (e : Entry) → Proper p e → words ≡ spelling (geometry p) e seq → answer ≡ Ok e
  entry_only e proper same = is ∙ ap (λ (w : List ℕ). entry_of p w seq) same ∙ spelling_read p e seq proper

-- a test of a slot's words, which says how they read
module _ (p : Params) (words : List ℕ) (seq : ℕ) (test : Result (Unit {0}) Reason)
    (says : MatchResult test (λ _. entry_of p words seq ≡ Ok (fields_of words)) (λ reason. entry_of p words seq ≡ Err reason)) where
  -- is their reading
  pub test_reads : read_as words test ≡ entry_of p words seq
  test_reads = elim test as (λ t. MatchResult t (λ _. entry_of p words seq ≡ Ok (fields_of words)) (λ reason. entry_of p words seq ≡ Err reason) → read_as words t ≡ entry_of p words seq) [
    | Ok u ↦ λ read. sym read
    | Err reason ↦ λ read. sym read
  ] says

  -- and passes for a proper entry
  pub test_proper : OnOk test (Proper p (fields_of words))
  test_proper = elim test as (λ t. MatchResult t (λ _. entry_of p words seq ≡ Ok (fields_of words)) (λ reason. entry_of p words seq ≡ Err reason) → OnOk t (Proper p (fields_of words))) [
    | Ok u ↦ λ read. read_proper p words seq (fields_of words) read
    | Err reason ↦ λ read. tt
  ] says

-- an answer that names the first fault of a header line
module _ (p : Params) (line : List ℕ) (answer : Result (Unit {0}) LogFault) (tells : NamesFault answer (log_fault line p)) where
  -- says that the line is the header where it is Ok
  pub header_found : length line ≡ 8 → OnOk answer (line ≡ log_words p)
  header_found count = elim answer as (λ a. NamesFault a (log_fault line p) → OnOk a (line ≡ log_words p)) [
    | Ok u ↦ λ none. header_spelled p line count none
    | Err fault ↦ λ some. tt
  ] tells

  -- and is Ok where it is
  pub header_only : line ≡ log_words p → IsOk answer
  header_only same =
      let none : log_fault line p ≡ None = ap (λ (w : List ℕ). log_fault w p) same ∙ header_passes p in
      elim answer as (λ a. NamesFault a (log_fault line p) → IsOk a) [
        | Ok u ↦ λ t. refl
        | Err fault ↦ λ some. cc (some, none)
      ] tells
