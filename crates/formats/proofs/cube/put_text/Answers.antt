use mathlib.Core.Path.{refl, sym, ◌∙◌}
use borrow.Author.Tests.{le-ltb, lt-ltb}
use Rattle.columns.proofs.laws.Answers.{wrote_whole, differs_not, differs_is}
use Rattle.columns.proofs.laws.Bytes.{found_is, found_zero}
use Rattle.formats.specs.Cube.{put_text}
use Rattle.formats.proofs.laws.CubeWriting.{put_text_lem}
use Rattle.formats.proofs.cube.put_text.Goals.{then-len-low-via-then-len-low, then-len-low-via-else-len-low+then-high-len}
use Rattle.formats.proofs.cube.put_text.Goals as goal

pub returns-then-len-low : goal.returns-then-len-low
unfolding put_text
returns-then-len-low c =
    rw c.at.ensures
    (elim c.then-len-low.branch [
      | then-len-low-via-then-len-low w ↦ rw (lt-ltb _ _ w.if-len-low.true) (record { answer = refl; bytes = refl })
      | then-len-low-via-else-len-low+then-high-len w ↦ rw (le-ltb _ _ w.if-len-low.false, lt-ltb _ _ w.if-high-len.true) (record { answer = refl; bytes = refl })
    ])

pub returns-then-out-len : goal.returns-then-out-len
unfolding put_text
returns-then-out-len c =
    rw (c.at-then-out-len.ensures, le-ltb _ _ c.if-len-low.false, le-ltb _ _ c.if-high-len.false, lt-ltb _ _ c.if-out-len.true) (record { answer = refl; bytes = refl })

pub returns-in-Some : goal.returns-in-Some
unfolding put_text
returns-in-Some c =
    let q = found_is _ _ (sym c.first_barred.ensures ∙ c.in-Some.is) in
    rw (c.at-in-Some.ensures, ← q.1, le-ltb _ _ c.if-len-low.false, le-ltb _ _ c.if-high-len.false, le-ltb _ _ c.if-out-len.false, differs_is _ 0 q.0) (record { answer = refl; bytes = refl })

pub returns-then-not-formed : goal.returns-then-not-formed
unfolding put_text
returns-then-not-formed c =
    rw (c.at-then-not-formed.ensures, le-ltb _ _ c.if-len-low.false, le-ltb _ _ c.if-high-len.false, le-ltb _ _ c.if-out-len.false, differs_not _ 0 (found_zero _ (sym c.first_barred.ensures ∙ c.in_default.is)), c.if-not-formed.true) (record { answer = refl; bytes = refl })

pub returns : goal.returns
returns c =
    wrote_whole (put_text_lem _ _ _ _ _ _ c.if-len-low.false c.if-high-len.false c.if-out-len.false (found_zero _ (sym c.first_barred.ensures ∙ c.in_default.is)) c.if-not-formed.false) c.copy.ensures
