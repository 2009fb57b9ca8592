-- Laws of a link's record as bytes: what the code takes out of it, and that the record of a line is written as that line.
use Rattle.std.specs.Prelude.{Err}
use Rattle.columns.specs.Answer.{refusal_at}
use mathlib.Core.Path.{◌≡◌, refl, sym, ap, ◌∙◌}
use mathlib.Core.Bool.{Bool, true, false}
use mathlib.Core.List.{List, ◌∷◌, ◌++◌, append_assoc}
use Prim.Native.Nat.{ℕ, ◌+◌, ◌-◌, ◌≤◌, ◌<◌}
use native.Mathlib.Omega.{arith}
use lib.ListN.{length, take, drop, get_or, replicate, length-drop, length-take}
use lib.Seq.{take_at, drop_at, take-add, drop-drop, length-take-le}
use Rattle.columns.specs.Table.{Outcome}
use Rattle.columns.specs.Answer.{ok, bad_form}
use Rattle.columns.specs.Table.{Wrote}
use Rattle.formats.specs.Cube.{link, link_kind, read_line, write_message}
use Rattle.columns.specs.Bytes.{same_bytes}
use Rattle.formats.specs.Record.{Replied}
use Rattle.formats.specs.CubeRecord.{filled, record_of, message_in, write_from}
use Rattle.columns.proofs.laws.Bytes.{same_is, same_self}
use Rattle.formats.proofs.laws.LinkBack.{link_back_size}
use Rattle.formats.proofs.laws.CubeBack.{Sized, line_accepted}
use Rattle.formats.proofs.laws.CubeRecord.{no_record, record_reply, replied, from_same, record_size_lem, link_named}
use Rattle.formats.proofs.laws.LinkFields.{link_written}

-- what the code took out of a link's record
module _ (r : List ℕ) (n : length r ≡ 268) (k : get_or r 0 0 ≡ link_kind) (t d x : ℕ) (i : get_or r 1 0 ≡ t) (j : get_or r 2 0 ≡ d) (p : get_or r 3 0 ≡ x) (out : List ℕ) where
  abbrev link_names : List ℕ
  link_names = take 12 (drop 4 r)

  abbrev kind : List ℕ
  kind = take t (drop 16 r)

  abbrev address : List ℕ
  address = take d (drop (16 + t) r)

  abbrev words : List ℕ
  words = take x (drop (16 + t + d) r)

  link_is_in : message_in r ≡ link link_names kind address words
  link_is_in = link_named r k ∙ rw (i, j, p)

  -- lengths that run past the bytes are not those of what is named
  past : 268 < 16 + t + d + x → (b : Bool) → same_bytes (record_of (link link_names kind address words)) r ≡ b → b ≡ false
  past h true s =
      let e : record_of (link link_names kind address words) ≡ r = same_is _ r s in
      let a : length kind ≡ t = ap (λ (y : List ℕ). get_or y 1 0) e ∙ i in
      let b : length address ≡ d = ap (λ (y : List ℕ). get_or y 2 0) e ∙ j in
      let c : length words ≡ x = ap (λ (y : List ℕ). get_or y 3 0) e ∙ p in
      let y : ⊥ = omega (arith, a, b, c, length-take t (drop 16 r), length-take d (drop (16 + t) r), length-take x (drop (16 + t + d) r), length-drop 16 r, length-drop (16 + t) r, length-drop (16 + t + d) r) in
      absurd y
  past h false s = refl

  pub link_past : 268 < 16 + t + d + x → Replied (write_from r (length out)) (Err (refusal_at bad_form 0)) out out
  link_past h = no_record r n (link link_names kind address words) link_is_in out refl (past h _ refl)

  module _ (h : 16 + t + d + x ≤ 268) where
    kind_length : length kind ≡ t
    kind_length = length-take-le t (drop 16 r) (omega (arith, length-drop 16 r))

    address_length_lem : length address ≡ d
    address_length_lem = length-take-le d (drop (16 + t) r) (omega (arith, length-drop (16 + t) r))

    words_length : length words ≡ x
    words_length = length-take-le x (drop (16 + t + d) r) (omega (arith, length-drop (16 + t + d) r))

    link_names_length : length link_names ≡ 12
    link_names_length = length-take-le 12 (drop 4 r) (omega (arith, length-drop 4 r))

    link_took : filled (link_kind ∷ t ∷ d ∷ x ∷ take (16 + t + d + x - 4) (drop 4 r)) ≡ record_of (link link_names kind address words)
    link_took =
        let z : 16 + t + d + x - 4 ≡ 12 + (t + (d + x)) = omega arith in
        rw (z, take-add 12 (t + (d + x)) (drop 4 r), drop-drop 12 4 r, take-add t (d + x) (drop 16 r), drop-drop t 16 r, take-add d x (drop (16 + t) r), drop-drop d (16 + t) r, kind_length, address_length_lem, words_length)

    module _ {same : Bool} (s : same ≡ same_bytes (filled (link_kind ∷ t ∷ d ∷ x ∷ take (16 + t + d + x - 4) (drop 4 r))) r) where
      link_bytes_same : same ≡ same_bytes (record_of (link link_names kind address words)) r
      link_bytes_same = s ∙ ap (λ (x : List ℕ). same_bytes x r) link_took

      pub no_link : same ≡ false → Replied (write_from r (length out)) (Err (refusal_at bad_form 0)) out out
      no_link = no_record r n (link link_names kind address words) link_is_in out link_bytes_same

      pub link_reply : same ≡ true → (o : Outcome) (to : List ℕ)
          → Wrote (write_message (link link_names (take (16 + t - 16) (drop 16 r)) (take (16 + t + d - (16 + t)) (drop (16 + t) r)) (take (16 + t + d + x - (16 + t + d)) (drop (16 + t + d) r))) (length out)) o out to
          → Replied (write_from r (length out)) (replied o (16 + t + d + x + 1)) out to
      link_reply q o to =
          let u : 16 + t - 16 ≡ t = omega arith in
          let v : 16 + t + d - (16 + t) ≡ d = omega arith in
          let z : 16 + t + d + x - (16 + t + d) ≡ x = omega arith in
          record_reply r n (link link_names kind address words) link_is_in out link_bytes_same q (rw (u, v, z)) (16 + t + d + x + 1)
          (λ ys m. link_back_size link_names kind address words ys (length out) link_names_length m ∙ omega (arith, kind_length, address_length_lem, words_length))

-- ---- the record of a line

after_part : (a b s : List ℕ) (k m : ℕ) → drop k s ≡ a ++ b → m ≡ k + length a → drop m s ≡ b
after_part a b s k m e z = rw z (sym (drop-drop (length a) k s) ∙ ap (drop (length a)) e ∙ drop_at a b (length a) refl)

link_same : {n m t u d e x y : List ℕ} → n ≡ m → t ≡ u → d ≡ e → x ≡ y → link n t d x ≡ link m u e y
link_same p q r s = rw (p, q, r, s)

module _ (names ty ad tx : List ℕ) (s : Sized (link names ty ad tx)) where
  abbrev bytes : List ℕ
  bytes = record_of (link names ty ad tx)

  abbrev rest : List ℕ
  rest = drop (length (link_kind ∷ length ty ∷ length ad ∷ length tx ∷ (names ++ (ty ++ (ad ++ tx))))) (replicate 268 0)

  record_length : length bytes ≡ 268
  record_length = record_size_lem (link names ty ad tx) s

  from_names : drop 4 bytes ≡ names ++ (ty ++ (ad ++ (tx ++ rest)))
  from_names = simp append_assoc

  from_type : drop 16 bytes ≡ ty ++ (ad ++ (tx ++ rest))
  from_type = after_part names (ty ++ (ad ++ (tx ++ rest))) bytes 4 16 from_names (omega (arith, s.0))

  from_address : drop (16 + length ty) bytes ≡ ad ++ (tx ++ rest)
  from_address = after_part ty (ad ++ (tx ++ rest)) bytes 16 (16 + length ty) from_type refl

  from_text : drop (16 + length ty + length ad) bytes ≡ tx ++ rest
  from_text = after_part ad (tx ++ rest) bytes (16 + length ty) (16 + length ty + length ad) from_address refl

  record_names : message_in bytes ≡ link names ty ad tx
  record_names =
      link_same (ap (take 12) from_names ∙ take_at names (ty ++ (ad ++ (tx ++ rest))) 12 s.0) (ap (take (length ty)) from_type ∙ take_at ty (ad ++ (tx ++ rest)) (length ty) refl)
      (ap (take (length ad)) from_address ∙ take_at ad (tx ++ rest) (length ad) refl)
      (ap (take (length tx)) from_text ∙ take_at tx rest (length tx) refl)

  pub link_from : (room : ℕ) → write_from (record_of (link names ty ad tx)) room ≡ write_message (link names ty ad tx) room
  link_from room = from_same bytes room record_length (link names ty ad tx) record_names (same_self bytes)

-- the record of an LI line that is read is written as that line
pub link_line_back : (l names ty ad tx : List ℕ) → read_line l ≡ ok (link names ty ad tx) → (room : ℕ) → length l ≤ room → write_from (record_of (link names ty ad tx)) room ≡ ok l
link_line_back l names ty ad tx e room h = link_from names ty ad tx (line_accepted l (link names ty ad tx) e).sized room ∙ link_written l names ty ad tx e room h
