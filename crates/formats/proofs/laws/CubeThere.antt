-- What a line's outcome and its message say of it: the parts that are there, or the refusal.
use Rattle.std.specs.Prelude.{Ok, Err}
use Rattle.columns.specs.declared.Refusal.{Refusal}
use mathlib.Core.Path.{◌≡◌, refl}
use mathlib.Core.Bool.{true}
use mathlib.Core.List.{List}
use Prim.Native.Nat.{ℕ}
use native.Mathlib.Omega.{arith}
use Rattle.columns.specs.Answer.{refusal_at, Answer, ok, refusal}
use Rattle.columns.specs.Column.{Slot}
use Rattle.formats.specs.Cube.{Message, event, delete, link, delete_parts, is_type, read_delete, read_line, line_read}
use Rattle.formats.proofs.laws.Cube.{TextRead, text_read, EventRead, event_read_lem, Came, by_event, by_delete, by_link, came}
use Rattle.formats.proofs.laws.LinkBack.{ReadLink, link_read}
use Rattle.formats.specs.declared.cube.Parts.{Parts}

-- ---- by the outcome

pub record WasThere (a : Answer Message) (p : Parts) : Type 0 where
  pub message : Message
  pub is : a ≡ ok message
  pub says : line_read (ok message) ≡ Ok p

pub was_there : (a : Answer Message) (p : Parts) → line_read a ≡ Ok p → WasThere a p
was_there (ok m) p e = record { message = m; is = refl; says = e }
was_there (refusal m j) p e = let z : ◌≡◌ {A = ℕ} 0 1 = cc in let y : ⊥ = omega arith in absurd y

pub was_refused : (a : Answer Message) (r : Refusal) → line_read a ≡ Err r → a ≡ refusal r.reason r.column
was_refused (ok (event ns t)) r e = let z : ◌≡◌ {A = ℕ} 0 1 = cc in let y : ⊥ = omega arith in absurd y
was_refused (ok (delete names t)) r e = let z : ◌≡◌ {A = ℕ} 0 1 = cc in let y : ⊥ = omega arith in absurd y
was_refused (ok (link names ty ad tx)) r e = let z : ◌≡◌ {A = ℕ} 0 1 = cc in let y : ⊥ = omega arith in absurd y
was_refused (refusal m j) r e = let z : refusal_at m j ≡ r = cc in rw (← z)

-- ---- by the message

event_came : (l : List ℕ) (ns : List Slot) (s : List ℕ) → Came l (event ns s) → (is_type 69 32 l ≡ true) × EventRead l (event ns s)
unfolding read_delete
event_came l ns s (by_event t e) = (t, event_read_lem l _ e)
event_came l ns s (by_delete e) = let r = (text_read 13 80 13 delete_parts l _ e).rest in let z : ◌≡◌ {A = ℕ} 0 1 = cc in absurd (omega arith)
event_came l ns s (by_link t e) = let r = (link_read l _ e).is in let z : ◌≡◌ {A = ℕ} 0 1 = cc in absurd (omega arith)

pub event_there : (l : List ℕ) (ns : List Slot) (s : List ℕ) → read_line l ≡ ok (event ns s) → (is_type 69 32 l ≡ true) × EventRead l (event ns s)
event_there l ns s e = event_came l ns s (came l (event ns s) e)

delete_came : (l names s : List ℕ) → Came l (delete names s) → TextRead 13 80 13 delete_parts l (delete names s)
unfolding read_delete
delete_came l names s (by_event t e) = let r = (event_read_lem l _ e).is in let z : ◌≡◌ {A = ℕ} 0 1 = cc in absurd (omega arith)
delete_came l names s (by_delete e) = text_read 13 80 13 delete_parts l _ e
delete_came l names s (by_link t e) = let r = (link_read l _ e).is in let z : ◌≡◌ {A = ℕ} 0 1 = cc in absurd (omega arith)

pub delete_there : (l names s : List ℕ) → read_line l ≡ ok (delete names s) → TextRead 13 80 13 delete_parts l (delete names s)
delete_there l names s e = delete_came l names s (came l (delete names s) e)

link_came : (l names ty ad tx : List ℕ) → Came l (link names ty ad tx) → (is_type 76 73 l ≡ true) × ReadLink l (link names ty ad tx)
unfolding read_delete
link_came l names ty ad tx (by_event t e) = let r = (event_read_lem l _ e).is in let z : ◌≡◌ {A = ℕ} 0 1 = cc in absurd (omega arith)
link_came l names ty ad tx (by_delete e) = let r = (text_read 13 80 13 delete_parts l _ e).rest in let z : ◌≡◌ {A = ℕ} 0 1 = cc in absurd (omega arith)
link_came l names ty ad tx (by_link t e) = (t, link_read l _ e)

pub link_there : (l names ty ad tx : List ℕ) → read_line l ≡ ok (link names ty ad tx) → (is_type 76 73 l ≡ true) × ReadLink l (link names ty ad tx)
link_there l names ty ad tx e = link_came l names ty ad tx (came l (link names ty ad tx) e)
