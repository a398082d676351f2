use Rattle.std.proofs.Common.{◌∙◌, ap, ◌++◌}
use Rattle.std.specs.Prelude.{codes, string_bytes}
use Rattle.std.specs.Fmt.{decimal}
use Rattle.scfs_schedule.specs.Text.{agents_text}
use Rattle.scfs_schedule.proofs.HeadingLemmas.{header_joined}
use Rattle.scfs_schedule.proofs.heading.header_lines.Goals as goal

pub returns : goal.returns
returns c =
    let header = c.args.header.now in
    let numbers = string_bytes c.in_ok-numbers.numbers in
    c.in_ok-extend-2.ensures.ok
    ∙ ap (λ t. t ++ codes "begin\n") (
    c.in_ok-extend.ensures.ok
    ∙ ap (λ t. t ++ c.as_slice-2.result.now) (c.in_ok-lines.ensures ∙ c.as_bytes.ensures.value)
    ∙ ap (λ t. numbers ++ t) (c.as_slice-2.ensures ∙ c.in_ok-agent_lines.ensures ∙ ap (agents_text 0) c.as_slice.ensures)
    ∙ ap (λ t. t ++ agents_text 0 header.agents) c.in_ok-numbers.ensures.ok)
    ∙ header_joined (decimal header.f) (decimal header.lease) (decimal header.stale) (agents_text 0 header.agents)
