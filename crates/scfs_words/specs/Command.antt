-- The words that the program knows.
use Rattle.std.specs.Prelude.{ℕ, List, [], ◌∷◌, codes, Option, Some, None, if◌then◌else◌}
use Rattle.std.specs.Str.{bytes_eq}
use Rattle.scfs_words.specs.declared.Command.{Command}
use Rattle.scfs_words.specs.declared.Command.TheVariants as commands

-- the command of a name
abbrev pub named : List ℕ → Option Command
named word =
    if bytes_eq word (codes "replay") then Some commands.Replay
    else (if bytes_eq word (codes "dump") then Some commands.Dump
    else (if bytes_eq word (codes "run") then Some commands.Run else None))

-- the command that words are: one word alone, which is its name
abbrev pub command_of : List (List ℕ) → Option Command
command_of [] = None
command_of (word ∷ []) = named word
command_of (word ∷ next ∷ rest) = None
