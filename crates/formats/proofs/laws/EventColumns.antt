-- The E line's written-out list of columns, tested here and nowhere else.
use Rattle.columns.specs.Table.{Sound}
use Rattle.columns.proofs.laws.Table.{sound_of}
use Rattle.formats.specs.Cube.{event_columns}

-- its columns stand after its type, and brackets are barred in columns 3 to 13
pub event_sound : Sound event_columns 2 3 13
event_sound = sound_of event_columns 2 3 13 tt
