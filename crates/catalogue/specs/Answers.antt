-- What the catalogue answers for a line, and the number of each answer. Document 01, "Numbers answered".
use Rattle.std.specs.Prelude.{ℕ, Result, Ok, Err, ⊤}
use Rattle.columns.specs.Answer.{number_of, refusal_at}
use Rattle.columns.specs.declared.Reason.{Reason}
use Rattle.columns.specs.declared.Reason.TheVariants as Why
use Rattle.columns.specs.declared.Refusal.{Refusal}
use Rattle.catalogue.specs.declared.Effect.{Effect}
use Rattle.catalogue.specs.declared.Effect.TheVariants.{Stored, Replaced, Repeated, Outdated, Removed, Noted, NothingHeld}
use Rattle.catalogue.specs.declared.decide.Deed.{Deed as DeedOf}
use Rattle.catalogue.specs.declared.decide.Deed.TheVariants.{Leave, Hold, Note, Wipe, Link}

-- refusals: a new pair while 512 are named; a catalogue that is not in order
abbrev pub full : Reason
full = Why.Full

abbrev pub not_in_order : Reason
not_in_order = Why.Disorder

-- a new link while there are 64 (document 02, "Take the links")
abbrev pub links_full : Reason
links_full = Why.LinksFull

-- what is answered for a line: what was done with it, or its refusal
abbrev pub Call : Type 0
Call = Result Effect Refusal

-- a refusal of no column
abbrev pub declined_as : {E : Type 0} → Reason → Result E Refusal
declined_as n = Err (refusal_at n 0)

-- the number of what was done
abbrev pub effect_number : Effect → ℕ
effect_number Stored = 20
effect_number Replaced = 21
effect_number Repeated = 22
effect_number Outdated = 23
effect_number Removed = 24
effect_number Noted = 25
effect_number NothingHeld = 26

-- looked up
abbrev pub is_held : ℕ
is_held = 27

abbrev pub not_held : ℕ
not_held = 28

-- the number and the column of an answer
abbrev pub call_number : Call → ℕ
call_number (Ok e) = effect_number e
call_number (Err r) = number_of r.reason

abbrev pub call_column : Call → ℕ
call_column (Ok e) = 0
call_column (Err r) = r.column

-- the number of a judged room: 0 where it is in order
abbrev pub order_number : Result ⊤ Reason → ℕ
order_number (Ok x) = 0
order_number (Err n) = number_of n

-- what is decided of a line
abbrev pub Deed : Type 0
Deed = DeedOf Effect

-- the answer for what was decided of a line: a deletion noted 25, a held line removed 24
abbrev pub answered : Deed → Call
answered (Leave x) = x
answered (Hold e) = Ok e
answered (Note v) = Ok Noted
answered (Wipe v) = Ok Removed
answered (Link e) = Ok e
