use native.Mathlib.Omega.{arith}
use mathlib.Core.Path.{◌≡◌, sym, ap, ◌∙◌}
use Prim.Native.Nat.{ℕ, ◌+◌, ◌-◌}
use lib.ListN.{length, take, drop, length-drop}
use lib.Seq.{take_all}
use Rattle.columns.specs.Number.{value}
use Rattle.columns.proofs.laws.Number.{dec_room, dec_below, dec_parts}
use Rattle.columns.proofs.number.read_dec.Goals as goal

pub scan_fraction-requires : goal.scan_fraction-requires
scan_fraction-requires c =
    let f = c.args.s.now in
    let d = c.args.decimals in
    let p : ℕ = length f - (d + 1) in
    let t : take (length f - p) (drop p f) ≡ drop p f = take_all (length f - p) (drop p f) (omega (arith, length-drop p f)) in
    rw (t, c.scan_whole.ensures) (omega (arith, length-drop p f, c.requires.0), dec_room f d c.requires.0 c.requires.1)

pub field_of-requires : goal.field_of-requires
field_of-requires c =
    let f = c.args.s.now in
    let d = c.args.decimals in
    let p : ℕ = length f - (d + 1) in
    let t : take (length f - p) (drop p f) ≡ drop p f = take_all (length f - p) (drop p f) (omega (arith, length-drop p f)) in
    rw (c.scan_fraction.ensures, t, c.scan_whole.ensures) (dec_below f d c.requires.0 c.requires.1)

pub returns : goal.returns
returns c =
    let f = c.args.s.now in
    let d = c.args.decimals in
    let p : ℕ = length f - (d + 1) in
    let t : take (length f - p) (drop p f) ≡ drop p f = take_all (length f - p) (drop p f) (omega (arith, length-drop p f)) in
    c.field_of.ensures ∙ ap value c.scan_fraction.ensures ∙ rw (t, c.scan_whole.ensures) (sym (dec_parts f d c.requires.0))
