use mathlib.Core.Path.{refl}
use Rattle.formats.specs.Format.{phase_format, arrival_format, card_i, card_l, card_e, card_m, card_p, card_a, card_r, place_at}
use Rattle.formats.proofs.laws.Format.{formed, phase_place, place_is, no_formats, not_this}
use Rattle.formats.proofs.format.format_of.Goals as goal

pub returns-in-5 : goal.returns-in-5
returns-in-5 c =
    formed _ arrival_format 64 (place_is _ 5 (place_at arrival_format 64) c.in-5.is refl) _ c.row_format.ensures

pub returns-in-6 : goal.returns-in-6
returns-in-6 c =
    formed _ card_i 118 (place_is _ 6 (place_at card_i 118) c.in-6.is refl) _ c.row_format-in-6.ensures

pub returns-in-7 : goal.returns-in-7
returns-in-7 c =
    formed _ card_l 137 (place_is _ 7 (place_at card_l 137) c.in-7.is refl) _ c.row_format-in-7.ensures

pub returns-in-8 : goal.returns-in-8
returns-in-8 c =
    formed _ card_e 150 (place_is _ 8 (place_at card_e 150) c.in-8.is refl) _ c.row_format-in-8.ensures

pub returns-in-9 : goal.returns-in-9
returns-in-9 c =
    formed _ card_m 169 (place_is _ 9 (place_at card_m 169) c.in-9.is refl) _ c.row_format-in-9.ensures

pub returns-in-10 : goal.returns-in-10
returns-in-10 c =
    formed _ card_p 177 (place_is _ 10 (place_at card_p 177) c.in-10.is refl) _ c.row_format-in-10.ensures

pub returns-in-11 : goal.returns-in-11
returns-in-11 c =
    formed _ card_a 188 (place_is _ 11 (place_at card_a 188) c.in-11.is refl) _ c.row_format-in-11.ensures

pub returns-in-12 : goal.returns-in-12
returns-in-12 c =
    formed _ card_r 199 (place_is _ 12 (place_at card_r 199) c.in-12.is refl) _ c.row_format-in-12.ensures

pub returns-in_default : goal.returns-in_default
returns-in_default c =
    let r = c.in_default.in_default-own.rest in
    formed _ phase_format 0 (phase_place _ (not_this r.0.0.0.0.0.0.0.1 (not_this r.0.0.0.0.0.0.1 (not_this r.0.0.0.0.0.1 (not_this r.0.0.0.0.1 (not_this r.0.0.0.1 (not_this r.0.0.1 (not_this r.0.1 (not_this r.1 no_formats))))))))) _ c.row_format-in_default.ensures
