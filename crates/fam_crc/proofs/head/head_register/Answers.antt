use Rattle.fam_crc.proofs.Heads.{head_split}
use Rattle.fam_crc.proofs.head.head_register.Goals as goal

pub returns : goal.returns
returns c = head_split _ _ _ _ _ _ _ _ _ _ _ _ _ _ _ _ _ c.after_2688.ensures c.after_2680.ensures c.after_2672.ensures c.after_2624.ensures
    c.after_2496.ensures c.after_2488.ensures c.after_2432.ensures c.after_2424.ensures c.after_2368.ensures c.after_2360.ensures c.after_2304.ensures
