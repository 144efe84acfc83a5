use Rattle.std.proofs.Common.{◌≡◌, ℕ, ◌<◌, ◌++◌, ◌∷◌, [], List, Some, Ok, Result, length, get_or, arith, rules, tests, refl, ap, subst, sym, ◌∙◌}
use Rattle.std.proofs.lemmas.Iterator.Consumers.{YieldsList-at, YieldsList-end, YieldsList-turn}
use Rattle.std.proofs.lemmas.Iterator.Splits.{YieldsList-from_slice_split}
use Rattle.std.proofs.lemmas.List.{drop_all, length_push}
use Rattle.fam_journal.specs.declared.event.Event.{Event}
use Rattle.fam_grammar.specs.Scripts.{IsBadScript, is_line_feed, line_reads, lines_of}
use Rattle.fam_program.specs.Far.{AreSoundEvents}
use Rattle.fam_grammar.proofs.LinesRead.{HasRead, lines_few, none_read, read_all, read_bad, read_none, read_one}
use Rattle.fam_program.proofs.Scripts.Lines.{script_is, sound_more}
use Rattle.fam_program.proofs.read.read_script.Goals as goal

pub loop-line-init : goal.loop-line-init
loop-line-init c = record {
  number = refl;
  read = subst (λ (es : List Event). HasRead line_reads c.args.bytes.now 0 es) (sym c.new-events.ensures.items) (none_read line_reads c.args.bytes.now);
  sound = subst AreSoundEvents (sym c.new-events.ensures.items) tt;
}

pub overflow_add-number : goal.overflow_add-number
overflow_add-number c =
    let t = YieldsList-turn (YieldsList-at c.into_iter-line-iterator.ensures.into_iter_gives
    (YieldsList-from_slice_split _ is_line_feed c.args.bytes.now c.split-line-items.ensures.rest c.split-line-items.ensures.done
    c.split-line-items.ensures.closure (λ x b q k. search (rules, tests)))) c.loop-line.yielded _ c.loop-line.yielded_by _ _ c.in-Some.line
    c.in-Some.is c.next.ensures.steps in
    let here : (c.loop-line.number < length (lines_of c.args.bytes.now)) × (c.in-Some.line.now ≡ get_or (lines_of c.args.bytes.now) c.loop-line.number c.in-Some.line.now) =
    subst (λ (k : ℕ). (k < length (lines_of c.args.bytes.now)) × (c.in-Some.line.now ≡ get_or (lines_of c.args.bytes.now) k c.in-Some.line.now)) (sym c.loop-line.invariant.number) t in
    let few = lines_few c.args.bytes.now in
    let fits = c.type_inv.bytes in
    omega (arith, here.0, few, fits)

pub loop-line-preserved-in-Ok-None : goal.loop-line-preserved-in-Ok-None
loop-line-preserved-in-Ok-None c =
    let t = YieldsList-turn (YieldsList-at c.into_iter-line-iterator.ensures.into_iter_gives
    (YieldsList-from_slice_split _ is_line_feed c.args.bytes.now c.split-line-items.ensures.rest c.split-line-items.ensures.done
    c.split-line-items.ensures.closure (λ x b q k. search (rules, tests)))) c.loop-line.yielded _ c.loop-line.yielded_by _ _ c.in-Some.line
    c.in-Some.is c.next.ensures.steps in
    let here : (c.loop-line.number < length (lines_of c.args.bytes.now)) × (c.in-Some.line.now ≡ get_or (lines_of c.args.bytes.now) c.loop-line.number c.in-Some.line.now) =
    subst (λ (k : ℕ). (k < length (lines_of c.args.bytes.now)) × (c.in-Some.line.now ≡ get_or (lines_of c.args.bytes.now) k c.in-Some.line.now)) (sym c.loop-line.invariant.number) t in
    record {
      number = let n = length_push c.loop-line.yielded c.in-Some.line in let m = c.loop-line.invariant.number in omega (arith, n, m);
      read = read_none line_reads c.args.bytes.now c.loop-line.number c.loop-line.events.items c.loop-line.invariant.read c.in-Some.line.now here.0
          here.1 (c.in-Ok-None.ensures.value ∙ ap Ok c.in-Ok-None.field-0-is);
      sound = c.loop-line.invariant.sound;
    }

pub loop-line-preserved : goal.loop-line-preserved
loop-line-preserved c =
    let t = YieldsList-turn (YieldsList-at c.into_iter-line-iterator.ensures.into_iter_gives
    (YieldsList-from_slice_split _ is_line_feed c.args.bytes.now c.split-line-items.ensures.rest c.split-line-items.ensures.done
    c.split-line-items.ensures.closure (λ x b q k. search (rules, tests)))) c.loop-line.yielded _ c.loop-line.yielded_by _ _ c.in-Some.line
    c.in-Some.is c.next.ensures.steps in
    let here : (c.loop-line.number < length (lines_of c.args.bytes.now)) × (c.in-Some.line.now ≡ get_or (lines_of c.args.bytes.now) c.loop-line.number c.in-Some.line.now) =
    subst (λ (k : ℕ). (k < length (lines_of c.args.bytes.now)) × (c.in-Some.line.now ≡ get_or (lines_of c.args.bytes.now) k c.in-Some.line.now)) (sym c.loop-line.invariant.number) t in
    let says = c.in-Ok-Some.ensures.value ∙ ap Ok c.in-Ok-Some.field-0-is in
    let pushed : c.push.new.self.items ≡ c.loop-line.events.items ++ c.in-Ok-Some.event ∷ [] = search rules in
    record {
      number = let n = length_push c.loop-line.yielded c.in-Some.line in let m = c.loop-line.invariant.number in omega (arith, n, m);
      read = read_one line_reads c.args.bytes.now c.loop-line.number c.loop-line.events.items c.loop-line.invariant.read c.in-Some.line.now here.0
          here.1 c.in-Ok-Some.event c.push.new.self.items says pushed;
      sound = subst AreSoundEvents (sym pushed)
          (sound_more c.loop-line.events.items c.in-Ok-Some.event c.loop-line.invariant.sound
          (c.what_reads_is_sound.ensures c.in-Some.line.now (Some c.in-Ok-Some.event) says));
    }

pub returns-in-Err-clause-bad : goal.returns-in-Err-clause-bad
returns-in-Err-clause-bad c =
    let t = YieldsList-turn (YieldsList-at c.into_iter-line-iterator.ensures.into_iter_gives
    (YieldsList-from_slice_split _ is_line_feed c.args.bytes.now c.split-line-items.ensures.rest c.split-line-items.ensures.done
    c.split-line-items.ensures.closure (λ x b q k. search (rules, tests)))) c.loop-line.yielded _ c.loop-line.yielded_by _ _ c.in-Some.line
    c.in-Some.is c.next.ensures.steps in
    let here : (c.loop-line.number < length (lines_of c.args.bytes.now)) × (c.in-Some.line.now ≡ get_or (lines_of c.args.bytes.now) c.loop-line.number c.in-Some.line.now) =
    subst (λ (k : ℕ). (k < length (lines_of c.args.bytes.now)) × (c.in-Some.line.now ≡ get_or (lines_of c.args.bytes.now) k c.in-Some.line.now)) (sym c.loop-line.invariant.number) t in
    subst (λ (said : Result (List Event) (ℕ × ℕ)). IsBadScript said c.in-Err.fault) (sym (script_is c.args.bytes.now))
    (read_bad line_reads c.args.bytes.now c.loop-line.number c.loop-line.events.items c.loop-line.invariant.read c.in-Some.line.now here.0 here.1 c.in-Err.fault c.in-Err.ensures.bad)

pub returns-clause-read : goal.returns-clause-read
returns-clause-read c =
    let all = YieldsList-end (YieldsList-at c.into_iter-line-iterator.ensures.into_iter_gives
    (YieldsList-from_slice_split _ is_line_feed c.args.bytes.now c.split-line-items.ensures.rest c.split-line-items.ensures.done
    c.split-line-items.ensures.closure (λ x b q k. search (rules, tests)))) c.loop-line.yielded _ c.loop-line.yielded_by _ _ c.in-None.is
    c.next.ensures.steps in
    script_is c.args.bytes.now ∙ read_all line_reads c.args.bytes.now c.loop-line.number c.loop-line.events.items c.loop-line.invariant.read
    (drop_all c.loop-line.number (lines_of c.args.bytes.now) (let n = c.loop-line.invariant.number in let m = all.1 in omega (arith, n, m)))
