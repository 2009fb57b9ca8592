use borrow.Author.Rules.{rules}
use native.Mathlib.Omega.{arith}
use lib.Seq.{length-take-le}
use lib.ListN.{length-append, length, set}
use borrow.Rule.Slice.PartMut.{put_mid}
use mathlib.Core.Path.{sym, ◌∙◌, ap, ◌≡◌}
use lib.IntN.{nat_abs}
use mir.ValLaws.{to_z-of_z}
use mir.Syntax.{w64}
use Prim.Native.Nat.{◌+◌, ◌-◌}
use Rattle.columns.proofs.laws.Written.{power_pos, dec_put_length, dec_mid, dec_drop}
use Rattle.columns.proofs.laws.NumberBack.{dec_is}
use Rattle.columns.specs.Number.{digits_of}
use Rattle.columns.proofs.written.write_dec.Goals as goal

pub nonzero_div-whole : goal.nonzero_div-whole
nonzero_div-whole c =
    omega (arith, c.power.ensures, power_pos c.args.decimals)

pub slice_bounds-write_back-end : goal.slice_bounds-write_back-end
slice_bounds-write_back-end c =
    let a = c.args in
    let l = a.out.now in
    let h : length l - (a.decimals + 1) + (a.decimals + 1) ≡ length l = omega arith in
    omega (arith, dec_put_length l c.write_digits.new.out (length l - (a.decimals + 1)) a.decimals h c.write_digits.auto.out)

pub slice_bounds-write_back-end-2 : goal.slice_bounds-write_back-end-2
slice_bounds-write_back-end-2 c =
    let a = c.args in
    let l = a.out.now in
    let h : length l - (a.decimals + 1) + (a.decimals + 1) ≡ length l = omega arith in
    sym (length-take-le _ _ (omega (arith, dec_put_length l c.write_digits.new.out (length l - (a.decimals + 1)) a.decimals h c.write_digits.auto.out)))

pub shape_of-out : goal.shape_of-out
shape_of-out c =
    let a = c.args in
    let l = a.out.now in
    let p = length a.out.now - (a.decimals + 1) in
    let h : length l - (a.decimals + 1) + (a.decimals + 1) ≡ length l = omega arith in
    let ys = c.write_digits.new.out in
    let k = c.write_digits.auto.out in
    length-append c.write_back.new.out _
    ∙ rw (dec_drop l ys (length l - (a.decimals + 1)) a.decimals h k)
    (omega
    (arith, k, dec_mid l ys (length l - (a.decimals + 1)) a.decimals h, c.write_back.auto.out, length-take-le (length l - (a.decimals + 1)) (set (put_mid (length l - (a.decimals + 1) + 1) (length l - (length l - (a.decimals + 1) + 1)) l ys) (length l - (a.decimals + 1)) 46) (omega (arith, dec_put_length l ys (length l - (a.decimals + 1)) a.decimals h k))))

pub returns : goal.returns
returns c =
    let a = c.args in
    let l = a.out.now in
    let h : length l - (a.decimals + 1) + (a.decimals + 1) ≡ length l = omega arith in
    let ys = c.write_digits.new.out in
    let k = c.write_digits.auto.out in
    let z = to_z-of_z w64 a.v (search rules) in
    let m : c.magnitude_of-n.result ≡ nat_abs a.v = c.magnitude_of-n.ensures ∙ ap nat_abs z in
    let n = length-take-le (length l - (a.decimals + 1)) (set (put_mid (length l - (a.decimals + 1) + 1) (length l - (length l - (a.decimals + 1) + 1)) l ys) (length l - (a.decimals + 1)) 46) (omega (arith, dec_put_length l ys (length l - (a.decimals + 1)) a.decimals h k)) in
    let f : ys ≡ digits_of a.decimals c.magnitude_of-n.result = rw (dec_mid l ys (length l - (a.decimals + 1)) a.decimals h) at c.write_digits.ensures in
    rw (dec_drop l ys (length l - (a.decimals + 1)) a.decimals h k, rw n at c.write_back.ensures, f, m, c.power.ensures, z)
    (dec_is (length l) a.decimals a.v (search rules) c.requires.1.1)
