use native.Mathlib.Omega.{arith}
use mathlib.Core.Path.{◌≡◌, sym, ◌∙◌}
use Prim.Native.Nat.{ℕ}
use mathlib.Core.Bool.{true, false}
use borrow.Author.Tests.{eqb-true, eq-eqb}
use Rattle.catalogue.proofs.laws.section.Rows.{entries_length}
use Rattle.catalogue.proofs.section.Entries.met.Goals as goal
use Rattle.catalogue.proofs.section.Entries.met.Goals.{else-i-self-via-then-i-self+else-equal, else-i-self-via-else-i-self}

-- No entry is there, or the one that is has the key or another.
pub returns-then-equal : goal.returns-then-equal
returns-then-equal c = (
  c.requires,
  omega (arith, entries_length c.args.self.now.of c.args.self.now.bytes.now, c.if-i-self.true),
  sym c.key_of.ensures ∙ eqb-true _ _ (sym c.equal.ensures ∙ c.if-equal.true),
)

pub returns-else-i-self : goal.returns-else-i-self
returns-else-i-self c = (
  c.requires,
  elim c.else-i-self.branch [
    | else-i-self-via-then-i-self+else-equal w ↦ λ h q.
        let e : true ≡ false = sym (eq-eqb _ _ (w.key_of.ensures ∙ q)) ∙ sym w.equal.ensures ∙ w.if-equal.false in
        let z : ◌≡◌ {A = ℕ} 0 1 = cc in omega arith
    | else-i-self-via-else-i-self w ↦ λ h q. omega (arith, entries_length c.args.self.now.of c.args.self.now.bytes.now, w.if-i-self.false)
  ],
)
