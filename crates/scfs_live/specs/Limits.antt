use Rattle.std.specs.Prelude.{ℕ}

-- what is read of an old journal, in bytes
abbrev pub journal_limit : ℕ
journal_limit = 536870912

-- the most turns that driving gives one call
abbrev pub driven_turns : ℕ
driven_turns = 8
