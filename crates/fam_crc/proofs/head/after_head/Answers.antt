use Rattle.std.proofs.Common.{◌∙◌, ℕ, ap, fold}
use Rattle.fam_crc.specs.Crc.{after_byte, bytes_of_words}
use Rattle.fam_crc.proofs.Heads.{behind_head}
use Rattle.fam_crc.proofs.SeenZeros.{behind_gap, gap_at}
use Rattle.fam_crc.proofs.head.after_head.Goals as goal

pub returns-clause-after : goal.returns-clause-after
returns-clause-after c =
    ap (λ (x : ℕ). fold after_byte x (bytes_of_words c.in_ok-behind.behind.now)) c.head_register.ensures
    ∙ behind_head _ _ _ _ _ _ c.args.words.now c.in_ok-head.head.more.now c.in_ok-behind.behind.now (c.are_small.ensures c.if-not-are_small.false) c.in_ok-head.ensures c.in_ok-behind.ensures

pub returns-clause-gap : goal.returns-clause-gap
returns-clause-gap c = λ k from below. gap_at _ _ _ _ _ _ c.args.words.now c.in_ok-head.head.more.now c.in_ok-behind.behind.now k c.in_ok-head.ensures c.in_ok-behind.ensures from below

pub returns-clause-rest : goal.returns-clause-rest
returns-clause-rest c = behind_gap _ _ _ _ _ _ c.args.words.now c.in_ok-head.head.more.now c.in_ok-behind.behind.now c.in_ok-head.ensures c.in_ok-behind.ensures
