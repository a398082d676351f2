use Rattle.std.proofs.Common.{rules, sym, ◌∙◌, string_bytes}
use Rattle.scfs_words.proofs.ReadLemmas.{reads_none, reads_not_one, reads_one}
use Rattle.scfs_words.proofs.command_of.Goals as goal

pub returns-in-Ok : goal.returns-in-Ok
returns-in-Ok c = c.chosen.ensures ∙ reads_one string_bytes _ c.in_ok-program.ensures c.args.words.now c.in-Ok.matches (search rules) c.in-Ok.ensures.matches

pub returns-in-Ok-2 : goal.returns-in-Ok-2
returns-in-Ok-2 c = sym (reads_not_one string_bytes _ c.in_ok-program.ensures c.args.words.now (search rules))

pub returns : goal.returns
returns c = sym (reads_none string_bytes _ c.in_ok-program.ensures c.args.words.now (λ took.
    c.in_default.not-OutOfMemory (c.kind.ensures ∙ c.in-Err.ensures.passes took)))
