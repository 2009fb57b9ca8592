use borrow.Author.Rules.{rules}
use native.Mathlib.Omega.{arith}
use mathlib.Core.Path.{sym, ap, ◌∙◌}
use Prim.Native.Nat.{ℕ, ◌-◌}
use lib.IntN.{pos}
use mir.Syntax.{w64}
use mir.ValLaws.{to_z-of_z}
use Rattle.columns.specs.Column.{within}
use Rattle.columns.specs.Table.{slots_of}
use Rattle.columns.proofs.laws.Calendar.{after_few, after_taken}
use Rattle.columns.proofs.laws.Table.{slot_at, slots_length}
use Rattle.columns.proofs.column.day_after.Goals as goal

pub returns-then-n-lt2 : goal.returns-then-n-lt2
returns-then-n-lt2 c =
    let a = c.args in
    let p = c.requires in
    let z = to_z-of_z w64 a.v (search rules) in
    let S = slots_of a.flags.now a.values.now in
    rw z at c.in_range.ensures
    ∙ ap (λ (d : ℕ). within (pos 1) (pos d) a.v) (sym (after_few S a.n (rw (slots_length a.flags.now a.values.now p.0) p.1) c.if-n-lt2.true))

pub returns : goal.returns
returns c =
    let a = c.args in
    let p = c.requires in
    let h = c.if-n-lt2.false in
    let z = to_z-of_z w64 a.v (search rules) in
    let S = slots_of a.flags.now a.values.now in
    let y = slot_at a.flags.now a.values.now (a.n - 2) p.0 (omega (arith, h)) in
    let m = slot_at a.flags.now a.values.now (a.n - 1) p.0 (omega (arith, h)) in
    let t = after_taken S a.n (rw (slots_length a.flags.now a.values.now p.0) p.1) (omega (arith, h)) in
    rw (z, c.number_at.ensures, c.number_at-2.ensures) at c.is_day.ensures
    ∙ ap (λ (d : ℕ). within (pos 1) (pos d) a.v) (sym (t ∙ rw (y, m)))
