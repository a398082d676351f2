-- The limits of the system, each once, as a number.
use Rattle.std.specs.Prelude.{ℕ}

-- what requests to clouds and their answers carry in one run, in bytes
abbrev pub carried_limit : ℕ
carried_limit = 536870912

-- what a request weighs beside the contents that it puts, in bytes
abbrev pub request_weight : ℕ
request_weight = 64

-- what is read of an input, in bytes
abbrev pub input_limit : ℕ
input_limit = 67108864

-- the longest line, in bytes, its end not counted
abbrev pub line_limit : ℕ
line_limit = 1048576

-- how many events one run plays
abbrev pub events_limit : ℕ
events_limit = 1000000

-- the longest contents of a file, in bytes
abbrev pub contents_limit : ℕ
contents_limit = 65536

-- the longest contents of a unit, in bytes
abbrev pub unit_limit : ℕ
unit_limit = 1048576

-- how many sessions of an agent are open, or closed and not completed, at once
abbrev pub handles_limit : ℕ
handles_limit = 64

-- how many turns an upload or a fetch takes before it is given up
abbrev pub turns_limit : ℕ
turns_limit = 8

-- how many names a cloud gives in one answer
abbrev pub names_limit : ℕ
names_limit = 16
