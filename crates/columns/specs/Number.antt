-- Number fields iW and fW.D, over the bytes in their columns. Document 01, "Numbers in columns".
use Rattle.std.specs.Prelude.{◌≡◌, ℕ, zero, suc, ◌+◌, ◌-◌, ◌*◌, ◌/◌, ◌%◌, ◌^◌, ◌<◌, List, [], ◌∷◌, ◌++◌, Bool, true, false, ◌&&◌, ℤ, pos, negsuc, neg_ℤ, nat_abs, leb, ltb, eqb, length, take, drop, replicate, Option, Some, None}
use Rattle.std.specs.Int.Signed.{lt_z}
use Rattle.columns.specs.Answer.{pick}
use Rattle.columns.specs.Bytes.{is_digit, trim, all_blank}
use Rattle.columns.specs.declared.number.Scan.{Scan}
use Rattle.columns.specs.declared.number.Scan.TheVariants as S
use Rattle.columns.specs.declared.number.Field.{Field}
use Rattle.columns.specs.declared.number.Field.TheVariants as F
use Rattle.columns.specs.declared.number.Plain.{Plain}
use Rattle.columns.specs.declared.number.Plain.TheVariants as P
use Rattle.columns.specs.declared.number.Form.{Form}
use Rattle.columns.specs.declared.number.Form.TheVariants as N
use Rattle.columns.specs.declared.written.Pen.{Pen}

-- ---- read

-- n followed by the digits of s, and nothing but digits
unfoldable pub digits : ℕ → List ℕ → Option ℕ
digits n [] = Some n
digits n (b ∷ s) = pick (is_digit b) (digits (n * 10 + (b - 48)) s) None

-- one or more digits
unfoldable pub number : List ℕ → Option ℕ
number [] = None
number (b ∷ s) = digits 0 (b ∷ s)

abbrev pub with_sign : Bool → Option ℕ → Scan
with_sign minus (Some n) = S.Number minus n
with_sign minus None = S.Malformed

-- an optional minus, then digits
unfoldable pub signed_number : List ℕ → Scan
signed_number [] = S.Blank
signed_number (b ∷ s) = pick (eqb b 45) (with_sign true (number s)) (with_sign false (number (b ∷ s)))

-- blanks, an optional minus, then digits to the last column
unfoldable pub scan : List ℕ → Scan
scan f = signed_number (trim f)

-- after a whole part a point and digits to the last column, after blanks nothing but blanks
unfoldable pub fraction : Scan → List ℕ → Scan
fraction S.Blank s = pick (all_blank s) S.Blank S.Malformed
fraction S.Malformed s = S.Malformed
fraction (S.Number minus n) [] = S.Malformed
fraction (S.Number minus n) (b ∷ s) = pick (eqb b 46) (with_sign minus (digits n s)) S.Malformed

abbrev pub magnitude : Scan → ℕ
magnitude S.Blank = 0
magnitude S.Malformed = 0
magnitude (S.Number minus n) = n

-- the sign is applied last, so that -0.5 keeps its minus; minus zero is zero
abbrev pub signed : Bool → ℕ → ℤ
signed true n = neg_ℤ (pos n)
signed false n = pos n

abbrev pub value : Scan → Field
value S.Blank = F.Missing
value S.Malformed = F.Bad
value (S.Number minus n) = F.Value (signed minus n)

-- integer field iW: all blank is missing; else blanks, an optional minus, one or more digits to the last column
unfoldable pub int_field : List ℕ → Field
int_field f = value (scan f)

-- decimal field fW.D: the same up to a point before the last D columns, and D digits in them
unfoldable pub dec_field : ℕ → List ℕ → Field
dec_field d f =
    value (fraction (scan (take (length f - (d + 1)) f)) (drop (length f - (d + 1)) f))

-- ---- written

-- iW holds -(10^(W-1) - 1) to 10^W - 1
unfoldable pub holds_int : ℕ → ℤ → Bool
holds_int w (pos n) = ltb n (10 ^ w)
holds_int w (negsuc n) = ltb (n + 1) (10 ^ (w - 1))

-- fW.D holds -(10^(W-2) - 1) to 10^(W-1) - 1
unfoldable pub holds_dec : ℕ → ℤ → Bool
holds_dec w (pos n) = ltb n (10 ^ (w - 1))
holds_dec w (negsuc n) = ltb (n + 1) (10 ^ (w - 2))

-- the last w decimal digits of n
unfoldable pub digits_of : ℕ → ℕ → List ℕ
digits_of zero n = []
digits_of (suc w) n = digits_of w (n / 10) ++ (48 + n % 10) ∷ []

-- the digits of n with no spare zero, in w places
unfoldable pub plain_digits : ℕ → ℕ → List ℕ
plain_digits zero n = []
plain_digits (suc w) n =
    pick (leb 10 n) (plain_digits w (n / 10) ++ (48 + n % 10) ∷ []) ((48 + n % 10) ∷ [])

abbrev pub is_neg : ℤ → Bool
is_neg v = lt_z v (pos 0)

abbrev pub minus_of : Bool → List ℕ
minus_of true = 45 ∷ []
minus_of false = []

abbrev pub right_aligned : ℕ → List ℕ → List ℕ
right_aligned w s = replicate (w - length s) 32 ++ s

-- an integer is filled with zeros at the left, minus first
unfoldable pub int_bytes : ℕ → ℤ → List ℕ
int_bytes w (pos n) = digits_of w n
int_bytes w (negsuc n) = 45 ∷ digits_of (w - 1) (n + 1)

-- a decimal is right-aligned with blanks and has no spare leading zero
unfoldable pub dec_bytes : ℕ → ℕ → ℤ → List ℕ
dec_bytes w d v =
    right_aligned (w - (d + 1)) (minus_of (is_neg v) ++ plain_digits (w - (d + 1)) (nat_abs v / 10 ^ d))
    ++ 46 ∷ digits_of d (nat_abs v)

-- ---- blanks and then digits, in one walk: what most integer fields are

-- after digits that make n, or after blanks only
unfoldable pub plain_scan : Bool → ℕ → List ℕ → Plain
plain_scan any n [] = pick any (P.Number n) P.Blank
plain_scan any n (b ∷ s) =
    pick (is_digit b) (plain_scan true (n * 10 + (b - 48)) s)
    (pick any P.Other (pick (eqb b 32) (plain_scan any n s) P.Other))

-- what such a walk says of an integer field, if it says anything
abbrev pub Quick : Plain → List ℕ → Type 0
Quick P.Blank f = int_field f ≡ F.Missing
Quick (P.Number n) f = (int_field f ≡ F.Value (pos n)) × (n < 10 ^ 18)
Quick P.Other f = Unit {0}

-- ---- the two forms of a number, as one

abbrev pub form_width : Form → ℕ
form_width (N.Integer w) = w
form_width (N.Decimal w d) = w

-- iW of 1 to 18 columns; fW.D of at most 18, with places for a minus, a digit and the point
abbrev pub good_form : Form → Bool
good_form (N.Integer w) = leb 1 w && leb w 18
good_form (N.Decimal w d) = leb (d + 3) w && leb w 18

unfoldable pub field_of : Form → List ℕ → Field
field_of (N.Integer w) f = int_field f
field_of (N.Decimal w d) f = dec_field d f

unfoldable pub holds : Form → ℤ → Bool
holds (N.Integer w) v = holds_int w v
holds (N.Decimal w d) v = holds_dec w v

unfoldable pub field_bytes : Form → ℤ → List ℕ
field_bytes (N.Integer w) v = int_bytes w v
field_bytes (N.Decimal w d) v = dec_bytes w d v

-- a number with no sign, filled with zeros at the left
unfoldable pub zero_filled : Form → ℕ → List ℕ
zero_filled (N.Integer w) n = digits_of w n
zero_filled (N.Decimal w d) n = digits_of (w - (d + 1)) (n / 10 ^ d) ++ 46 ∷ digits_of d n

-- ---- a whole part, written from the right

-- what is still to be written to the left: digits of a number, then its minus, then blanks
abbrev pub byte_of : Pen → ℕ
byte_of p = pick p.more (48 + p.left % 10) (pick p.minus 45 32)

abbrev pub next_pen : Pen → Pen
next_pen p =
    record {
      more = p.more && leb 10 p.left;
      minus = p.more && p.minus;
      left = p.left / 10;
    }

-- w places, from the right
unfoldable pub back : ℕ → Pen → List ℕ
back zero p = []
back (suc w) p = back w (next_pen p) ++ byte_of p ∷ []
