-- The iterator over a tree.
use Rattle.std.specs.Prelude.{List, ◌++◌}
use Rattle.fam_base.specs.declared.entry.Entry.{Entry}
use Rattle.fam_tree.specs.Runs.{listed, run_of}
use Rattle.fam_tree.specs.declared.tree_iter.TreeIter.{TreeIter}

-- the entries that it has yet to give, in order: those of a run, and those of the runs behind it
abbrev pub tree_iter_rest : TreeIter → List Entry
tree_iter_rest it = run_of it.entries.now it.run.now ++ listed it.entries.now it.runs.now
