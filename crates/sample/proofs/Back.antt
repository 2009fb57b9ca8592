-- What holds of every table holds of this one: a written record reads back, and a record that was read is written.
use mathlib.Core.Path.{◌≡◌, sym, ◌∙◌}
use mathlib.Core.List.{List, []}
use native.Mathlib.Nat.{le_of_eq}
use Prim.Native.Nat.{ℕ}
use lib.ListN.{length}
use Rattle.columns.specs.Answer.{ok}
use Rattle.columns.specs.Bytes.{barred}
use Rattle.columns.specs.Column.{Slot, Rec, widths}
use Rattle.columns.specs.Reading.{read_columns}
use Rattle.columns.specs.Writing.{write_columns}
use Rattle.columns.specs.Table.{Sound}
use Rattle.columns.proofs.laws.Table.{sound_of}
use Rattle.columns.proofs.laws.Columns.{Line, columns_back}
use Rattle.columns.proofs.laws.Accepted.{Writes, columns_accepted}
use Rattle.columns.proofs.laws.Stretch.{line_clean}
use Rattle.sample.specs.Format.{sample}

-- brackets are barred in columns 19 to 21
pub sample_sound : Sound sample 0 19 21
sample_sound = sound_of sample 0 19 21 tt

pub sample_back : (ns : List Slot) (t ys : List ℕ) → length ns ≡ 6 → length t ≡ 10 → write_columns sample [] 0 ns t ≡ ok ys → Line sample [] 0 ns t ys
sample_back ns t ys a b e =
    columns_back sample [] 0 ns t ys sample_sound.fine (a ∙ sym sample_sound.numbers) (b ∙ sym sample_sound.chars) e

pub sample_accepted : (line : List ℕ) (r : Rec) → length line ≡ 36 → barred 19 21 1 line ≡ 0 → read_columns sample [] 0 line ≡ ok r → Writes sample [] 0 r
sample_accepted line r l p e =
    let w : length line ≡ widths sample = l ∙ sym sample_sound.wide in
    columns_accepted sample [] 0 line r sample_sound.fine (le_of_eq (sym w)) (line_clean 19 21 sample 0 line sample_sound.brackets w p) e
