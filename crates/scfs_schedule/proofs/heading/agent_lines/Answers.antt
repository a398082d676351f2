use Rattle.std.proofs.Common.{◌∙◌, ap, sym, ◌++◌, take, [], arith, List, ℕ}
use Rattle.scfs_schedule.specs.declared.types.Mode.{Mode}
use Rattle.scfs_schedule.specs.declared.types.Mode.TheVariants as modes
use Rattle.scfs_schedule.specs.Text.{agents_text}
use Rattle.scfs_schedule.proofs.HeadingLemmas.{agents_taken}
use Rattle.scfs_schedule.proofs.heading.agent_lines.Goals as goal

pub loop-number-preserved : goal.loop-number-preserved
loop-number-preserved c =
    let agents = c.args.agents.now in
    let i = c.loop-number.number in
    let none : Mode × List ℕ = (modes.Blocking, []) in
    c.in_ok-extend.ensures.ok
    ∙ ap (λ t. t ++ c.as_bytes.result.now) c.loop-number.invariant
    ∙ ap (λ t. agents_text 0 (take i agents) ++ t) (c.as_bytes.ensures.value ∙ c.in_ok-line.ensures.ok)
    ∙ sym (agents_taken i agents none (omega arith))
