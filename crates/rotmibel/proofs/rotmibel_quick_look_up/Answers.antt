use native.Mathlib.Omega.{arith}
use mathlib.Core.Path.{sym, ap, ◌∙◌}
use Rattle.catalogue.proofs.laws.room.QuickLookUp.{quick_low}
use Rattle.catalogue.specs.LookUp.{look_place}
use Prim.Native.Nat.{ℕ}
use Rattle.std.specs.Prelude.{◌≡◌, Option, Result, Ok}
use Rattle.columns.specs.declared.Reason.{Reason}
use Rattle.catalogue.specs.declared.Searched.{Searched}
use Rattle.catalogue.specs.QuickLookUp.{quick_look_up, place_in, examined_in}
use Rattle.rotmibel.specs.Answers.{searched_number}
use Rattle.rotmibel.proofs.rotmibel_quick_look_up.Goals as goal

-- the number by the place found
of_place : {x : Result Searched Reason} {y : Searched} {o : Option ℕ} → x ≡ Ok y → y.place ≡ o → searched_number x ≡ searched_number (Ok (record { place = o; examined = y.examined }))
of_place {x} {y} e p = ap searched_number e ∙ ap (λ (o : Option ℕ). searched_number (Ok (record { place = o; examined = y.examined }))) p

pub parts_of-requires : goal.parts_of-requires
parts_of-requires c =
    let a = c.args in
    let q = c.quick_look_up.ensures in
    let p : look_place (place_in (quick_look_up a.room.now a.source.now a.identifier.now)) ≡ c.in-Some.place =
    ap (λ (x : Result Searched Reason). look_place (place_in x)) (sym q.0 ∙ c.in-Ok.is) ∙ ap (λ (o : Option ℕ). look_place (Ok o)) c.in-Some.is in
    (omega (arith, ap examined_in c.in-Ok.is, q.1), omega (arith, p, quick_low a.room.now a.source.now a.identifier.now))

pub parts_of-requires-in-None : goal.parts_of-requires-in-None
parts_of-requires-in-None c =
    (omega (arith, ap examined_in c.in-Ok.is, c.quick_look_up.ensures.1), omega arith)

pub returns-in-Some : goal.returns-in-Some
returns-in-Some c =
    c.parts_of.ensures ∙ sym (of_place (sym c.quick_look_up.ensures.0 ∙ c.in-Ok.is) c.in-Some.is)

pub returns-in-None : goal.returns-in-None
returns-in-None c =
    c.parts_of-in-None.ensures ∙ sym (of_place (sym c.quick_look_up.ensures.0 ∙ c.in-Ok.is) c.in-None.is)

pub returns-in-Err : goal.returns-in-Err
returns-in-Err c =
    rw c.from.ensures at c.parts_of-in-Err.ensures ∙ ap searched_number (sym c.in-Err.is ∙ c.quick_look_up.ensures.0)
