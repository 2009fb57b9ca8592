use mathlib.Core.Path.{ap, ◌∙◌}
use Prim.Native.Nat.{◌+◌}
use lib.ListN.{take}
use lib.Seq.{slice}
use Rattle.columns.specs.Number.{form_width}
use Rattle.columns.specs.Reading.{read_cell}
use Rattle.columns.specs.Column.{group_width}
use Rattle.columns.specs.Table.{slots_of, group_at}
use Rattle.columns.proofs.cursor.Cursor.cell_within.Goals as goal

pub returns-in-Number : goal.returns-in-Number
unfolding read_cell
returns-in-Number c =
    let f = slice c.args.self.at (c.args.self.at + form_width c.in-Number.form) c.args.line.now in
    rw c.in-Number.is
    (record { answer = rw c.with.ensures.0 (rw c.number-read.ensures.0 at (c.judged.ensures f)); next = ap (λ x. x.at) c.with.ensures.1 ∙ c.number-read.ensures.1 })

pub returns-in-Text : goal.returns-in-Text
returns-in-Text c = rw c.in-Text.is (c.ruled.ensures (take c.args.k (slots_of c.args.flags.now c.args.values.now)))

pub returns-in-Letter : goal.returns-in-Letter
returns-in-Letter c =
    rw c.in-Letter.is (rw c.set-set.ensures at (c.letter.ensures (take c.args.k (slots_of c.args.flags.now c.args.values.now))))

pub returns-in-Group : goal.returns-in-Group
unfolding read_cell
returns-in-Group c =
    let seen = take c.args.k (slots_of c.args.flags.now c.args.values.now) in
    let g = group_at c.in-Group.number in
    let f = slice c.args.self.at (c.args.self.at + group_width g) c.args.line.now in
    let e = c.group_at-g.ensures in
    let r = rw e at c.group-read.ensures in
    rw c.in-Group.is
    (record { answer = rw c.with-in-Group.ensures.0 (rw (e, r.0) at (c.grouped.ensures seen f)); next = ap (λ x. x.at) c.with-in-Group.ensures.1 ∙ r.1 })

pub returns-in-Printed : goal.returns-in-Printed
returns-in-Printed c = rw c.in-Printed.is (c.printed.ensures (take c.args.k (slots_of c.args.flags.now c.args.values.now)))
