-- What was put, piece by piece, as one text.
use Rattle.std.proofs.Common.{◌≡◌, ℕ, ◌+◌, ◌≤◌, inl, inr, List, [], ◌++◌, length, take, Option, Some, None, option_map, refl, ap, sym, ◌∙◌, subst, arith}
use Rattle.std.proofs.lemmas.List.{append-nil, append_assoc, length-append, take-append-le, take_all}
use Rattle.std.proofs.lemmas.Option.{same_Some}
use Rattle.fam_media.specs.Causes.{Rose}
use Rattle.fam_media.specs.Outside.{IsPartlyPut, with_piece}
use Rattle.fam_media.specs.States.{SinkState, SinkChange}
use Rattle.fam_outcomes.specs.declared.status.Status.{Status}
use Rattle.fam_outcomes.specs.declared.status.Status.TheVariants as status
use Rattle.fam_journal.specs.Notes.{Note}
use Rattle.fam_outcomes.specs.Programs.{HasPut, memory_line}
use Rattle.fam_outcomes.specs.Runs.{HasRisen, IsPut, Outside}
use Rattle.fam_outcomes.specs.Texts.{render_behind}
use Rattle.fam_program.specs.Puts.{Put, PutPart, PutShort, PutSome, PutWhole}
use Rattle.fam_program.proofs.Runs.EventTold.{rose_more}

-- a piece behind another
pub pieces : (a b : List ℕ) (o : Option (List ℕ)) → option_map (with_piece b) (option_map (with_piece a) o) ≡ option_map (with_piece (a ++ b)) o
pieces a b None = refl
pieces a b (Some old) = ap Some (append_assoc old a b)

take_behind : (a b : List ℕ) (k : ℕ) → take (length a + k) (a ++ b) ≡ a ++ take k b
take_behind a b k = Rattle.std.proofs.Math.Seq.take-append-add a b k

pub part_behind : (a b : List ℕ) (bytes mid now : Option (List ℕ)) → mid ≡ option_map (with_piece a) bytes → IsPartlyPut mid now b → IsPartlyPut bytes now (a ++ b)
part_behind a b bytes mid now whole p = record {
  kept = length a + p.kept;
  fits = let sum = length-append a b in let fits = p.fits in omega (arith, sum, fits);
  put =
      p.put
      ∙ ap (option_map (with_piece (take p.kept b))) whole
      ∙ pieces a (take p.kept b) bytes
      ∙ ap (λ (t : List ℕ). option_map (with_piece t) bytes) (sym (take_behind a b p.kept));
}

-- nothing was put
pub nothing_put : (o : Option (List ℕ)) → o ≡ option_map (with_piece []) o
nothing_put None = refl
nothing_put (Some bytes) = ap Some (sym (append-nil bytes))

-- a part of a text is one of a longer text
pub part_longer : (a more : List ℕ) (s : SinkChange) → PutPart a s → PutPart (a ++ more) s
part_longer a more s x = record {
  part = record {
    kept = x.part.kept;
    fits = let sum = length-append a more in let fits = x.part.fits in omega (arith, sum, fits);
    put = x.part.put ∙ ap (λ (t : List ℕ). option_map (with_piece t) s.old.bytes) (sym (take-append-le x.part.kept a more x.part.fits));
  };
  rose = x.rose;
}

-- Two pieces that were put, or tried, one behind the other.
module _ (a b : List ℕ) (old mid new : SinkState) (later : old.faults ≤ mid.faults) where
  abbrev first : SinkChange
  first = record { old = old; new = mid }

  abbrev second : SinkChange
  second = record { old = mid; new = new }

  abbrev both : SinkChange
  both = record { old = old; new = new }

  pub whole_both : PutWhole a first → PutWhole b second → PutWhole (a ++ b) both
  whole_both x y = y ∙ ap (option_map (with_piece b)) x ∙ pieces a b old.bytes

  pub part_both : PutWhole a first → PutPart b second → PutPart (a ++ b) both
  part_both x y = record { part = part_behind a b old.bytes mid.bytes new.bytes x y.part; rose = rose_more old.faults mid.faults new.faults later y.rose }

  pub put_second : (own given : Status) → PutWhole a first → Put own b second given → Put own (a ++ b) both given
  put_second own given x (inl y) = inl (y.0, whole_both x y.1)
  put_second own given x (inr y) = inr (y.0, part_both x y.1)

-- Where no memory is left, a line says so behind some first notes.

module _ (names : List (List ℕ)) (notes : List Note) (s : SinkChange) where
  -- all notes were put before it
  short_text : render_behind names notes ++ memory_line ≡ render_behind names (take (length notes) notes) ++ memory_line
  short_text = ap (λ (ns : List Note). render_behind names ns ++ memory_line) (sym (take_all (length notes) notes (omega arith)))

  pub short_whole : (given : Status) → Put status.OutOfMemory (render_behind names notes ++ memory_line) s given → PutShort names notes s given
  short_whole given put = (length notes, subst (λ (t : List ℕ). Put status.OutOfMemory t s given) short_text put)

  -- the sink failed in one of them
  pub short_part : PutPart (render_behind names notes) s → PutShort names notes s status.SinkFault
  short_part x = short_whole status.SinkFault (inr (refl, part_longer (render_behind names notes) memory_line s x))

-- no memory was left for the text of the next one
pub short_some : (names : List (List ℕ)) (notes : List Note) (old mid new : SinkState) → old.faults ≤ mid.faults → (given : Status) → PutSome names notes (record { old = old; new = mid })
    → Put status.OutOfMemory memory_line (record { old = mid; new = new }) given → PutShort names notes (record { old = old; new = new }) given
short_some names notes old mid new later given some put =
    (some.0, put_second (render_behind names (take some.0 notes)) memory_line old mid new later status.OutOfMemory given some.1 put)

-- no sink fault is a run's own status
abbrev pub IsOwn : Status → Type 0
IsOwn own = own ≡ status.SinkFault → ⊥

module _ (out : Outside) (a b : List ℕ) (s : SinkChange) (now_is : out.sink.new.bytes ≡ s.new.bytes) (sink_now : out.sink.new.faults ≡ s.new.faults)
    (sink : out.sink.old.faults ≤ s.old.faults) (mid : s.old.bytes ≡ option_map (with_piece a) out.sink.old.bytes) where
  rose_out : Rose s.old.faults s.new.faults → HasRisen out.sink.old.faults out.sink.new.faults
  rose_out (inl less) = omega (arith, less, sink, sink_now)
  rose_out (inr full) = omega (arith, full, sink_now)

  -- a last text behind the others
  pub put_both : (own given : Status) → IsOwn own → Put own b s given → IsPut own given (a ++ b) out
  put_both own given other (inl x) = record {
    outcome = inl (x.0, now_is ∙ x.1 ∙ ap (option_map (with_piece b)) mid ∙ pieces a b out.sink.old.bytes);
    rose = λ e. absurd (other (sym x.0 ∙ e));
  }
  put_both own given other (inr x) = record {
    outcome = inr (x.0, subst (λ (now : Option (List ℕ)). IsPartlyPut out.sink.old.bytes now (a ++ b)) (sym now_is) (part_behind a b out.sink.old.bytes s.old.bytes s.new.bytes mid x.1.part));
    rose = λ e. rose_out x.1.rose;
  }

  -- a sink that failed in it
  pub put_failed : PutPart b s → IsPut status.SinkFault status.SinkFault (a ++ b) out
  put_failed x = record {
    outcome = inr (refl, subst (λ (now : Option (List ℕ)). IsPartlyPut out.sink.old.bytes now (a ++ b)) (sym now_is) (part_behind a b out.sink.old.bytes s.old.bytes s.new.bytes mid x.part));
    rose = λ e. rose_out x.rose;
  }

  -- what stands before it was put in each case
  piece_put : (more : List ℕ) → s.new.bytes ≡ option_map (with_piece more) s.old.bytes → HasPut out a
  piece_put more is old old_is now now_told = (
    more,
    same_Some now (old ++ a ++ more)
        (sym now_told
        ∙ now_is
        ∙ is
        ∙ ap (option_map (with_piece more)) (mid ∙ ap (option_map (with_piece a)) old_is)),
  )

  pub part_has_put : PutPart b s → HasPut out a
  part_has_put x = piece_put (take x.part.kept b) x.part.put

  pub has_put : (own given : Status) → Put own b s given → HasPut out a
  has_put own given (inl x) = piece_put b x.1
  has_put own given (inr x) = part_has_put x.1

-- nothing more was put
pub all_put : (out : Outside) (a : List ℕ) → out.sink.new.bytes ≡ option_map (with_piece a) out.sink.old.bytes → HasPut out a
all_put out a is old old_is now now_told =
    ([], same_Some now (old ++ a ++ []) (sym now_told ∙ is ∙ ap (option_map (with_piece a)) old_is ∙ ap Some (sym (append-nil (old ++ a)))))

-- a text that was put has its front put
pub front_put : (out : Outside) (a b : List ℕ) → HasPut out (a ++ b) → HasPut out a
front_put out a b put old old_is now now_told =
    let x = put old old_is now now_told in (b ++ x.0, x.1 ∙ ap (λ (t : List ℕ). t ++ x.0) (sym (append_assoc old a b)) ∙ append_assoc (old ++ a) b x.0)
