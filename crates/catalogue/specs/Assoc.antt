-- Lists of entries that ascend strictly by a number, their key: looking up, storing, removing. The order of every section of a room.
-- Document 01, "The catalogue".
use Rattle.columns.specs.Answer.{pick}
use Rattle.std.specs.Prelude.{ℕ, suc, ◌≤◌, List, [], ◌∷◌, ltb, eqb}
use Rattle.std.proofs.Math.Option.{Option, none, some}

module _ {E : Type 0} (key : E → ℕ) where
  -- the first entry whose key is k
  unfoldable pub find : ℕ → List E → Option E
  find k [] = none
  find k (x ∷ xs) = pick (eqb (key x) k) (some x) (find k xs)

  -- e in its place, instead of an entry with its key if there is one
  unfoldable pub put : E → List E → List E
  put e [] = e ∷ []
  put e (x ∷ xs) = pick (ltb (key e) (key x)) (e ∷ x ∷ xs) (pick (eqb (key e) (key x)) (e ∷ xs) (x ∷ put e xs))

  -- the list without entries of key k
  unfoldable pub remove : ℕ → List E → List E
  remove k [] = []
  remove k (x ∷ xs) = pick (eqb (key x) k) (remove k xs) (x ∷ remove k xs)

  -- the keys ascend strictly, and none is below the bound
  abbrev pub AscFrom : ℕ → List E → Type 0
  AscFrom b [] = Unit {0}
  AscFrom b (x ∷ xs) = (b ≤ key x) × AscFrom (suc (key x)) xs

  -- how many entries at the front have a key below k
  unfoldable pub below : ℕ → List E → ℕ
  below k [] = 0
  below k (x ∷ xs) = pick (ltb (key x) k) (suc (below k xs)) 0
