use Rattle.std.proofs.Common.{length, ◌≤◌, ◌*◌, ◌+◌}
use Rattle.famfs_cases.proofs.runner.Runner.+block.Given as goal

-- a block calls a statement with fewer lines, and a statement a loop, its rows and their body with no more
abbrev pub decreases-run_block : goal.decreases-run_block
decreases-run_block l = 5 * length l.lines.now

abbrev pub decreases-run_statement : goal.decreases-run_statement
decreases-run_statement l = 5 * length l.behind.now + 4

abbrev pub decreases-run_loop : goal.decreases-run_loop
decreases-run_loop l = 5 * length l.behind.now + 3

abbrev pub decreases-run_outermost : goal.decreases-run_outermost
decreases-run_outermost l = 5 * length l.body.now + 2

abbrev pub decreases-run_rows : goal.decreases-run_rows
decreases-run_rows l = 5 * length l.body.now + 1

abbrev pub invariant-run_block-loop-rest : goal.invariant-run_block-loop-rest
invariant-run_block-loop-rest l = length l.rest ≤ length l.lines

abbrev pub decreases-run_block-loop-rest : goal.decreases-run_block-loop-rest
decreases-run_block-loop-rest l = length l.rest
