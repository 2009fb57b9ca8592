-- Where the sections of a room stand, by the counts that its bytes say. Document 01, "The catalogue"; document 02,
-- "Take the links".
use Rattle.std.specs.Prelude.{ℕ, ◌+◌, ◌*◌, Bool, true, false, List}
use Rattle.catalogue.specs.Keys.{two}
use Rattle.catalogue.specs.declared.section.Section.{Section}

-- where the next section's count stands
abbrev pub end_of : Section → ℕ
end_of of = of.at + 2 + of.size * of.count

-- held E lines, source in columns 11 and 12, identifier in columns 3 to 10
abbrev pub held_in : List ℕ → Section
held_in r = record { at = 0; count = two r 0; size = 80; source = 10; identifier = 2; typed = false }

-- the section behind another
abbrev pub section_after : List ℕ → Section → ℕ → ℕ → ℕ → Bool → Section
section_after r of size source identifier typed =
    record { at = end_of of; count = two r (end_of of); size = size; source = source; identifier = identifier; typed = typed }

-- deletions: source, identifier, version
abbrev pub deletions_in : List ℕ → Section
deletions_in r = section_after r (held_in r) 11 0 2 false

-- links: the length of the line, then the line
abbrev pub links_in : List ℕ → Section
links_in r = section_after r (deletions_in r) 256 11 3 true
