use borrow.Author.Rules.{rules}
use native.Mathlib.Omega.{arith}
use mathlib.Core.Path.{◌≡◌, ap}
use lib.Dec.{eqb}
use lib.ListN.{length, get_or, take}
use Rattle.columns.specs.Bytes.{found}
use Rattle.columns.proofs.laws.Bytes.{found_there, found_none}
use Rattle.formats.specs.Cube.{lowest_barred}
use Rattle.formats.proofs.laws.Judge.{judged_length, judged_first, judged_second, judged_barred, judged_check, judged_columns}
use Rattle.formats.proofs.laws.EventColumns.{event_sound}
use Rattle.formats.proofs.judge.is_event.Goals.{then-line-ne80-via-then-line-ne80, then-line-ne80-via-else-line-ne80+then-line-ne69, then-line-ne80-via-else-line-ne80+else-line-ne69+then-line-ne32}
use Rattle.formats.proofs.judge.is_event.Goals as goal

pub returns-then-line-ne80 : goal.returns-then-line-ne80
returns-then-line-ne80 c =
    elim c.then-line-ne80.branch [
      | then-line-ne80-via-then-line-ne80 w ↦ judged_length c.args.line.now w.if-line-ne80.true
      | then-line-ne80-via-else-line-ne80+then-line-ne69 w ↦ judged_first c.args.line.now w.if-line-ne69.true
      | then-line-ne80-via-else-line-ne80+else-line-ne69+then-line-ne32 w ↦ judged_second c.args.line.now w.if-line-ne32.true
    ]

pub returns-then-is_some : goal.returns-then-is_some
returns-then-is_some c =
    let l = c.args.line.now in
    let e : c.first_barred.result ≡ found (lowest_barred (take 79 l)) = c.first_barred.ensures in
    judged_barred l (omega arith) (omega arith) (omega arith) (found_there _ (rw (c.is_some.ensures, e) at c.if-is_some.true))

pub judge_sealed-requires : goal.judge_sealed-requires
judge_sealed-requires c =
    let l : length c.args.line.now ≡ 80 = omega arith in
    (record { fine = event_sound.fine; plain = tt; inside = omega (arith, l, event_sound.wide) }, search rules)

pub returns-in-None : goal.returns-in-None
returns-in-None c =
    let l = c.args.line.now in
    let e : c.first_barred.result ≡ found (lowest_barred (take 79 l)) = c.first_barred.ensures in
    judged_columns l (omega arith) (omega arith) (omega arith) (found_none _ (rw (c.is_some.ensures, e) at c.if-is_some.false)) c.in-None.ensures

pub returns-in-Some : goal.returns-in-Some
returns-in-Some c =
    let l = c.args.line.now in
    let e : c.first_barred.result ≡ found (lowest_barred (take 79 l)) = c.first_barred.ensures in
    judged_check l (omega arith) (omega arith) (omega arith) (found_none _ (rw (c.is_some.ensures, e) at c.if-is_some.false)) c.in-Some.ensures.0 _ (ap (eqb (get_or l 79 0)) c.check_from.ensures)
