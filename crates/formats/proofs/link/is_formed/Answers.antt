use mathlib.Core.Path.{◌≡◌, ◌∙◌}
use mathlib.Core.Bool.{◌&&◌}
use borrow.Author.Tests.{le-leb, lt-leb}
use lib.Dec.{leb}
use lib.ListN.{length}
use Rattle.formats.specs.Link.{is_whole_word}
use Rattle.formats.proofs.laws.Link.{formed_yes, formed_no}
use Rattle.formats.proofs.link.is_formed.Goals as goal
use Rattle.formats.proofs.link.is_formed.Goals.{then-kind-le16, else-kind-le16, then-is_word, else-is_word}

pub returns-then-is_word-2 : goal.returns-then-is_word-2
returns-then-is_word-2 c =
    let a = c.args in
    let k = c.if-kind-le16 in
    let v : k.value ≡ leb (length a.kind.now) 16 && is_whole_word a.kind.now =
    elim k.branch [
      | then-kind-le16 w ↦ rw (le-leb _ 16 w.if-kind-le16.true) (w.value-is ∙ w.is_word.ensures)
      | else-kind-le16 w ↦ w.value-is ∙ rw (lt-leb _ 16 w.if-kind-le16.false)
    ] in
    let u : c.if-is_word.value ≡ k.value && is_whole_word a.address.now =
    elim c.if-is_word.branch [
      | then-is_word w ↦ rw w.if-is_word.true (w.value-is ∙ w.is_word-then-is_word.ensures)
      | else-is_word w ↦ w.value-is ∙ rw w.if-is_word.false
    ] in
    formed_yes a.kind.now a.address.now a.text.now v u c.if-is_word-2.true c.is_begun.ensures

pub returns-else-is_word-2 : goal.returns-else-is_word-2
returns-else-is_word-2 c =
    let a = c.args in
    let k = c.if-kind-le16 in
    let v : k.value ≡ leb (length a.kind.now) 16 && is_whole_word a.kind.now =
    elim k.branch [
      | then-kind-le16 w ↦ rw (le-leb _ 16 w.if-kind-le16.true) (w.value-is ∙ w.is_word.ensures)
      | else-kind-le16 w ↦ w.value-is ∙ rw (lt-leb _ 16 w.if-kind-le16.false)
    ] in
    let u : c.if-is_word.value ≡ k.value && is_whole_word a.address.now =
    elim c.if-is_word.branch [
      | then-is_word w ↦ rw w.if-is_word.true (w.value-is ∙ w.is_word-then-is_word.ensures)
      | else-is_word w ↦ w.value-is ∙ rw w.if-is_word.false
    ] in
    formed_no a.kind.now a.address.now a.text.now v u c.if-is_word-2.false
