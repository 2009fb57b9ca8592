-- A refused line of a block or a run: a refusal adds its line's number from 1, or 0 where it is no line's. Document 01, "Numbers answered".
use Rattle.std.specs.Prelude.{ℕ, Result, Err}
use Rattle.columns.specs.declared.Reason.{Reason}
use Rattle.formats.specs.declared.LineRefusal.{LineRefusal}

abbrev pub refused_line : Reason → ℕ → ℕ → LineRefusal
refused_line n k line = record { reason = n; column = k; line = line }

abbrev pub refused_at : {A : Type 0} → Reason → ℕ → ℕ → Result A LineRefusal
refused_at n k line = Err (refused_line n k line)
