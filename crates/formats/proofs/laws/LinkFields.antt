-- What an acceptable LI line has.
use mathlib.Core.Path.{◌≡◌}
use mathlib.Core.Bool.{false}
use mathlib.Core.List.{List}
use Prim.Native.Nat.{ℕ, ◌+◌, ◌≤◌}
use native.Mathlib.Omega.{arith}
use lib.ListN.{length, get_or}
use lib.Dec.{eqb}
use borrow.Author.Tests.{eqb-true}
use Rattle.columns.specs.Answer.{ok}
use Rattle.columns.proofs.laws.Clear.{Clear, barred_text}
use Rattle.columns.proofs.laws.Tests.{both_true}
use Rattle.formats.specs.Link.{type_of, address_of, text_of}
use Rattle.formats.specs.Cube.{link, read_line, write_message}
use Rattle.formats.proofs.laws.Link.{formed_of}
use Rattle.formats.proofs.laws.CubeThere.{link_there}
use Rattle.formats.proofs.laws.LinkBack.{parts_inside, link_accepted}

pub record LinkFields (l : List ℕ) : Type 0 where
  pub long : 20 ≤ length l
  pub short : length l ≤ 255
  pub clear : Clear false l
  pub type_fits : length (type_of l) ≤ 16
  -- the type is ended by a blank inside the line
  pub type_ends : 17 + length (type_of l) ≤ length l

module _ (l names ty ad tx : List ℕ) (e : read_line l ≡ ok (link names ty ad tx)) where
  pub link_fields : LinkFields l
  link_fields =
      let w = (link_there l names ty ad tx e).1 in
      record {
        long = w.long;
        short = w.short;
        clear = barred_text 3 14 1 l (omega arith) w.clear;
        type_fits = (formed_of (type_of l) (address_of l) (text_of l) w.parts).type_fits;
        type_ends = omega (arith, parts_inside l w);
      }

  -- what was read is written as it was
  pub link_written : (room : ℕ) → length l ≤ room → write_message (link names ty ad tx) room ≡ ok l
  link_written room h =
      let w = link_there l names ty ad tx e in
      let p = both_true (eqb (get_or l 0 0) 76) (eqb (get_or l 1 0) 73) w.0 in
      link_accepted l w.1 (eqb-true (get_or l 0 0) 76 p.0) (eqb-true (get_or l 1 0) 73 p.1) room h
