use mathlib.Core.Path.{◌≡◌, refl}
use native.Mathlib.Omega.{arith}
use Prim.Native.Nat.{◌+◌, ◌-◌, ◌≤◌}
use lib.ListN.{take, drop}
use Rattle.columns.specs.Table.{columns_in, columns_of}
use Rattle.formats.proofs.laws.Format.{line_ready, line_wrote}
use Rattle.formats.specs.declared.table.TheConstants.{ROWS, LETTERS}
use Rattle.formats.specs.declared.ranges.TheConstants.{RANGES}
use Rattle.formats.proofs.table.write_cells.Goals as goal

pub overflow_add-f : goal.overflow_add-f
overflow_add-f c =
    let h : c.format_of-f.result.first + c.format_of-f.result.rows ≤ 202 = (line_ready ROWS RANGES LETTERS c.format_of-f.ensures _ _ _ c.requires.0 c.requires.1.0 c.requires.1.1 refl).0 in omega arith

pub part-layout-requires : goal.part-layout-requires
part-layout-requires c =
    let p = c.requires in
    (omega arith, (line_ready ROWS RANGES LETTERS c.format_of-f.ensures _ _ _ p.0 p.1.0 p.1.1 refl).0)

pub write_row-requires : goal.write_row-requires
write_row-requires c =
    let f = c.format_of-f.result in
    let p = c.part-layout.ensures in
    let n : f.first + f.rows - f.first ≡ f.rows = omega arith in
    let e : columns_in c.part-layout.result ≡ columns_of (take f.rows (drop f.first ROWS)) RANGES LETTERS = rw (p.0, p.1, p.2, n) in
    let q = c.requires in
    rw e (line_ready ROWS RANGES LETTERS c.format_of-f.ensures _ _ _ q.0 q.1.0 q.1.1 refl).1

pub returns : goal.returns
returns c =
    let f = c.format_of-f.result in
    let p = c.part-layout.ensures in
    let n : f.first + f.rows - f.first ≡ f.rows = omega arith in
    let e : columns_in c.part-layout.result ≡ columns_of (take f.rows (drop f.first ROWS)) RANGES LETTERS = rw (p.0, p.1, p.2, n) in
    line_wrote ROWS RANGES LETTERS c.format_of-f.ensures _ _ _ _ (rw e at c.write_row.ensures) refl
