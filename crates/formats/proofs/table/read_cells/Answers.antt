use mathlib.Core.Path.{◌≡◌, refl}
use native.Mathlib.Omega.{arith}
use Prim.Native.Nat.{◌+◌, ◌-◌, ◌≤◌}
use lib.ListN.{length, take, drop}
use Rattle.columns.specs.Table.{columns_in, columns_of}
use Rattle.formats.proofs.laws.Format.{cells_ready, cells_read}
use Rattle.formats.specs.declared.table.TheConstants.{ROWS, LETTERS}
use Rattle.formats.specs.declared.ranges.TheConstants.{RANGES}
use Rattle.formats.proofs.table.read_cells.Goals as goal

pub overflow_add-f : goal.overflow_add-f
overflow_add-f c =
    let h : c.format_of-f.result.first + c.format_of-f.result.rows ≤ 202 = (cells_ready ROWS RANGES LETTERS c.format_of-f.ensures _ c.requires refl).0 in omega arith

pub part-layout-requires : goal.part-layout-requires
part-layout-requires c =
    (omega arith, (cells_ready ROWS RANGES LETTERS c.format_of-f.ensures _ c.requires refl).0)

pub read_columns-requires : goal.read_columns-requires
read_columns-requires c =
    let f = c.format_of-f.result in
    let p = c.part-layout.ensures in
    let n : f.first + f.rows - f.first ≡ f.rows = omega arith in
    let e : columns_in c.part-layout.result ≡ columns_of (take f.rows (drop f.first ROWS)) RANGES LETTERS = rw (p.0, p.1, p.2, n) in
    let g : length c.args.flags.now ≡ 40 = omega arith in
    let h : length c.args.values.now ≡ 40 = omega arith in
    let i : length c.args.text.now ≡ 160 = omega arith in
    rw (e, g, h, i) (cells_ready ROWS RANGES LETTERS c.format_of-f.ensures _ c.requires refl).1

pub returns : goal.returns
returns c =
    let f = c.format_of-f.result in
    let p = c.part-layout.ensures in
    let n : f.first + f.rows - f.first ≡ f.rows = omega arith in
    let e : columns_in c.part-layout.result ≡ columns_of (take f.rows (drop f.first ROWS)) RANGES LETTERS = rw (p.0, p.1, p.2, n) in
    cells_read ROWS RANGES LETTERS c.format_of-f.ensures _ (rw e at c.read_columns.ensures) refl
