-- How much a script may have.
use Rattle.std.specs.Prelude.{ℕ}

abbrev pub most_bytes : ℕ
most_bytes = 1048576

-- how many bytes an identifier may have
abbrev pub most_identifier_bytes : ℕ
most_identifier_bytes = 32

abbrev pub most_variables : ℕ
most_variables = 1024

abbrev pub most_threads : ℕ
most_threads = 32

-- how many statements each thread may begin, in a script that says none
abbrev pub usual_budget : ℕ
usual_budget = 10000

-- and at most, in one that says a budget
abbrev pub most_budget : ℕ
most_budget = 100000
