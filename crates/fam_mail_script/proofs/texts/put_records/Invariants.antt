use Rattle.std.proofs.Common.{◌≡◌, ◌++◌, take}
use Rattle.fam_mail_script.specs.Texts.{records_text}
use Rattle.fam_mail_script.proofs.texts.put_records.Given as goal

abbrev pub invariant-loop-record : goal.invariant-loop-record
invariant-loop-record l = l.into.items ≡ l.initial.into.items ++ records_text (take l.record-index l.records)
