-- Document 01's number and column for each case of an outcome ("Numbers answered"): 0 and 0 where a line was read or written.
use Rattle.std.specs.Prelude.{ℕ, Ok, Err}
use Rattle.columns.specs.Answer.{number_of}
use Rattle.columns.specs.Table.{Outcome}

abbrev pub outcome_number : Outcome → ℕ
outcome_number (Ok x) = 0
outcome_number (Err e) = number_of e.reason

abbrev pub outcome_column : Outcome → ℕ
outcome_column (Ok x) = 0
outcome_column (Err e) = e.column
