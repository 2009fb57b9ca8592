use native.Mathlib.Omega.{arith}
use Rattle.std.proofs.lemmas.Result.{err_from_is_err_and}
use Rattle.formats.proofs.laws.Run.{empty_tally, run_short, run_long, run_refused, run_read}
use Rattle.formats.proofs.run.read_run.Goals as goal

pub returns-then-counts-kinds : goal.returns-then-counts-kinds
returns-then-counts-kinds c =
    rw (c.on_line.ensures, c.at.ensures) (run_short _ _ _ (omega arith))

pub returns-then-run-gt65536 : goal.returns-then-run-gt65536
returns-then-run-gt65536 c =
    rw (c.on_line-then-run-gt65536.ensures, c.at-then-run-gt65536.ensures) (run_long _ _ _ (omega arith) c.if-run-gt65536.true)

pub judge_lines-requires : goal.judge_lines-requires
judge_lines-requires c =
    (c.if-run-gt65536.false, empty_tally)

pub returns-in_err-judge_lines : goal.returns-in_err-judge_lines
returns-in_err-judge_lines c =
    let p = err_from_is_err_and c.from_residual.result c.from_residual.ensures.1 in
    rw (p.1, p.2) (run_refused _ _ _ (omega arith) c.if-run-gt65536.false c.judge_lines.ensures _ c.in_err-judge_lines.was)

pub returns : goal.returns
returns c =
    run_read _ _ _ (omega arith) c.if-run-gt65536.false c.judge_lines.ensures _ c.in_ok-judge_lines.was (omega arith) c.put_counts.ensures.letters c.put_counts.ensures.counts
