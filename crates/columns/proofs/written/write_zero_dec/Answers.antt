use native.Mathlib.Omega.{arith}
use mathlib.Core.Path.{◌≡◌, sym, ◌∙◌}
use Prim.Native.Nat.{◌-◌, ◌+◌}
use lib.ListN.{length, set, length-append}
use lib.Seq.{length-take-le}
use Rattle.columns.proofs.laws.Written.{power_pos, dec_put_length, dec_drop, dec_mid}
use Rattle.columns.specs.Number.{digits_of}
use borrow.Rule.Slice.PartMut.{put_mid}
use Rattle.columns.proofs.written.write_zero_dec.Goals as goal

pub nonzero_div-whole : goal.nonzero_div-whole
nonzero_div-whole c =
    omega (arith, c.power.ensures, power_pos c.args.decimals)

pub slice_bounds-write_digits-end-2 : goal.slice_bounds-write_digits-end-2
slice_bounds-write_digits-end-2 c =
    let a = c.args in
    let l = a.out.now in
    let h : length l - (a.decimals + 1) + (a.decimals + 1) ≡ length l = omega arith in
    omega (arith, dec_put_length l c.write_digits.new.out (length l - (a.decimals + 1)) a.decimals h c.write_digits.auto.out)

pub slice_bounds-write_digits-end-3 : goal.slice_bounds-write_digits-end-3
slice_bounds-write_digits-end-3 c =
    let a = c.args in
    let l = a.out.now in
    let h : length l - (a.decimals + 1) + (a.decimals + 1) ≡ length l = omega arith in
    sym (length-take-le _ _ (omega (arith, dec_put_length l c.write_digits.new.out (length l - (a.decimals + 1)) a.decimals h c.write_digits.auto.out)))

pub shape_of-out : goal.shape_of-out
shape_of-out c =
    let a = c.args in
    let l = a.out.now in
    let h : length l - (a.decimals + 1) + (a.decimals + 1) ≡ length l = omega arith in
    let ys = c.write_digits.new.out in
    let k = c.write_digits.auto.out in
    length-append c.write_digits-2.new.out _
    ∙ rw (dec_drop l ys (length l - (a.decimals + 1)) a.decimals h k)
    (omega
    (arith, k, dec_mid l ys (length l - (a.decimals + 1)) a.decimals h, c.write_digits-2.auto.out, length-take-le (length l - (a.decimals + 1)) (set (put_mid (length l - (a.decimals + 1) + 1) (length l - (length l - (a.decimals + 1) + 1)) l ys) (length l - (a.decimals + 1)) 46) (omega (arith, dec_put_length l ys (length l - (a.decimals + 1)) a.decimals h k))))

pub returns : goal.returns
returns c =
    let a = c.args in
    let l = a.out.now in
    let h : length l - (a.decimals + 1) + (a.decimals + 1) ≡ length l = omega arith in
    let ys = c.write_digits.new.out in
    let k = c.write_digits.auto.out in
    let n = length-take-le (length l - (a.decimals + 1)) (set (put_mid (length l - (a.decimals + 1) + 1) (length l - (length l - (a.decimals + 1) + 1)) l ys) (length l - (a.decimals + 1)) 46) (omega (arith, dec_put_length l ys (length l - (a.decimals + 1)) a.decimals h k)) in
    let f : ys ≡ digits_of a.decimals a.n = rw (dec_mid l ys (length l - (a.decimals + 1)) a.decimals h) at c.write_digits.ensures in
    rw (dec_drop l ys (length l - (a.decimals + 1)) a.decimals h k, rw n at c.write_digits-2.ensures, f, c.power.ensures)
