use Rattle.std.proofs.Common.{◌≡◌, take}
use Rattle.scfs_schedule.specs.Text.{agents_text}
use Rattle.scfs_schedule.proofs.heading.agent_lines.Given as goal

abbrev pub invariant-loop-number : goal.invariant-loop-number
invariant-loop-number l = l.lines ≡ agents_text 0 (take l.number l.agents)
