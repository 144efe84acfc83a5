use Rattle.std.proofs.Common.{arith}
use Rattle.std.proofs.lemmas.Result.{err_from_is_err_and}
use Rattle.fam_format.specs.Layout.{geometry}
use Rattle.fam_format.proofs.Formats.{slot_long}
use Rattle.fam_entry.proofs.Refusals.{by_crc, by_number, by_kind, by_attributes, words_of_slot}
use Rattle.fam_entry.proofs.reading.check_front.Goals as goal

pub check_crc-requires : goal.check_crc-requires
check_crc-requires c = omega (arith, slot_long c.args.params.now, c.requires)

pub check_seq-requires : goal.check_seq-requires
check_seq-requires c = omega (arith, slot_long c.args.params.now, c.requires)

pub check_kind-requires : goal.check_kind-requires
check_kind-requires c = omega (arith, slot_long c.args.params.now, c.requires)

pub check_attributes-requires : goal.check_attributes-requires
check_attributes-requires c = omega (arith, slot_long c.args.params.now, c.requires)

pub returns-in_err-seen-clause-fault : goal.returns-in_err-seen-clause-fault
returns-in_err-seen-clause-fault c =
    let p = err_from_is_err_and c.from_residual.result c.from_residual.ensures.1 in
    rw (p.1, p.2) (by_crc c.args.params.now c.args.words.now c.args.seq c.in_err-seen.field-0.0 (c.in_err-seen.ensures.first (geometry c.args.params.now) c.requires))

pub returns-in_err-seen-clause-words : goal.returns-in_err-seen-clause-words
returns-in_err-seen-clause-words c = words_of_slot c.args.words.now (geometry c.args.params.now).words c.requires c.check_crc.ensures.words

pub returns-in_err-check_seq-clause-fault : goal.returns-in_err-check_seq-clause-fault
returns-in_err-check_seq-clause-fault c =
    let p = err_from_is_err_and c.from_residual-in_err-check_seq.result c.from_residual-in_err-check_seq.ensures.1 in
    rw (p.1, p.2) (by_number c.args.params.now c.args.words.now c.args.seq c.in_err-check_seq.field-0.0 (c.in_ok-seen.ensures.first (geometry c.args.params.now) c.requires) c.in_err-check_seq.ensures)

pub returns-in_err-check_seq-clause-words : goal.returns-in_err-check_seq-clause-words
returns-in_err-check_seq-clause-words c = words_of_slot c.args.words.now (geometry c.args.params.now).words c.requires c.check_crc.ensures.words

pub returns-in_err-check_kind-clause-fault : goal.returns-in_err-check_kind-clause-fault
returns-in_err-check_kind-clause-fault c =
    let p = err_from_is_err_and c.from_residual-in_err-check_kind.result c.from_residual-in_err-check_kind.ensures.1 in
    rw (p.1, p.2) (by_kind c.args.params.now c.args.words.now c.args.seq c.in_err-check_kind.field-0.0
    (c.in_ok-seen.ensures.first (geometry c.args.params.now) c.requires) c.in_ok-check_seq.ensures c.in_err-check_kind.ensures)

pub returns-in_err-check_kind-clause-words : goal.returns-in_err-check_kind-clause-words
returns-in_err-check_kind-clause-words c = words_of_slot c.args.words.now (geometry c.args.params.now).words c.requires c.check_crc.ensures.words

pub returns-in_err-check_attributes-clause-fault : goal.returns-in_err-check_attributes-clause-fault
returns-in_err-check_attributes-clause-fault c =
    let p = err_from_is_err_and c.from_residual-in_err-check_attributes.result c.from_residual-in_err-check_attributes.ensures.1 in
    rw (p.1, p.2) (by_attributes c.args.params.now c.args.words.now c.args.seq c.in_err-check_attributes.field-0.0
    (c.in_ok-seen.ensures.first (geometry c.args.params.now) c.requires) c.in_ok-check_seq.ensures c.in_ok-check_kind.ensures
    c.in_err-check_attributes.ensures.first)

pub returns-in_err-check_attributes-clause-words : goal.returns-in_err-check_attributes-clause-words
returns-in_err-check_attributes-clause-words c = words_of_slot c.args.words.now (geometry c.args.params.now).words c.requires c.check_crc.ensures.words

pub returns-clause-passed : goal.returns-clause-passed
returns-clause-passed c =
    record {
      crc = c.in_ok-seen.ensures.first (geometry c.args.params.now) c.requires;
      number = c.in_ok-check_seq.ensures;
      kind = c.in_ok-check_kind.ensures;
      attributes = c.in_ok-check_attributes.ensures.first;
      mode = c.in_ok-check_attributes.ensures.mode;
      uid = c.in_ok-check_attributes.ensures.uid;
      gid = c.in_ok-check_attributes.ensures.gid;
    }

pub returns-clause-words : goal.returns-clause-words
returns-clause-words c = words_of_slot c.args.words.now (geometry c.args.params.now).words c.requires c.check_crc.ensures.words
