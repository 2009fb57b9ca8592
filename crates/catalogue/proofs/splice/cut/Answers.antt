use native.Mathlib.Omega.{arith}
use mathlib.Core.Path.{◌≡◌, sym, ◌∙◌, ap}
use mathlib.Core.List.{List}
use Prim.Native.Nat.{ℕ, ◌+◌, ◌-◌}
use lib.ListN.{drop, replicate, length-replicate, length-drop}
use Rattle.std.proofs.Math.Seq.{paste, length-take-le}
use Rattle.std.proofs.lemmas.Slice.{put_mid-paste}
use Rattle.catalogue.specs.Splice.{cut_out}
use Rattle.catalogue.proofs.splice.cut.Goals as goal

pub returns : goal.returns
unfolding cut_out
returns c =
    let a = c.args in
    let k : a.used - (a.used - a.w) ≡ a.w = omega arith in
    let m : a.used - (a.at + a.w) ≡ a.used - a.w - a.at = omega arith in
    let g : c.copy_within.new.self ≡ paste a.room.now a.at (drop (a.at + a.w) a.room.now) (a.used - a.w - a.at) =
    c.copy_within.ensures.after ∙ ap (paste a.room.now a.at (drop (a.at + a.w) a.room.now)) m in
    let f : c.fill.new.self ≡ replicate a.w 0 = c.fill.ensures.after (λ y e. e)
    ∙ ap (λ (n : ℕ). replicate n 0) (length-take-le (a.used - (a.used - a.w)) (drop (a.used - a.w) c.copy_within.new.self) (simp length-drop (omega (arith, c.copy_within.ensures.len))) ∙ k) in
    put_mid-paste (a.used - a.w) (a.used - (a.used - a.w)) c.copy_within.new.self c.fill.new.self (replicate a.w 0) a.w f (sym k) (sym (length-replicate a.w 0))
    ∙ ap (λ (xs : List ℕ). paste xs (a.used - a.w) (replicate a.w 0) a.w) g
