-- The catalogue of a set of lines: S x says that x is in the set. Nothing here knows an order of arrival. Document 01, "From a set"; document
-- 02, "Take the links".
use Rattle.std.specs.Prelude.{ℕ, ◌≤◌, ◌<◌, ◌≡◌, List}
use Rattle.std.proofs.Math.Option.{Option, none, some}
use Rattle.catalogue.specs.Line.{Kind, event, delete, link, kind, version, key, key_by, deletion, deletion_key, wide_version, link_entry, link_key}
use Rattle.catalogue.specs.Assoc.{find, AscFrom}
use Rattle.catalogue.specs.Catalogue.{Catalogue}

-- x is a line of the set, of kind t and key k
pub record Of (S : List ℕ → Type 0) (t : Kind) (k : ℕ) (x : List ℕ) : Type 0 where
  pub inside : S x
  pub is_kind : kind x ≡ t
  pub is_key : key_by t x ≡ k

-- the deletion that stands for key k: of the DE line with the highest version, or none if there is no DE line
abbrev pub DeletionIs : (List ℕ → Type 0) → ℕ → Option (List ℕ) → Type 0
DeletionIs S k none = (x : List ℕ) → Of S delete k x → ⊥
DeletionIs S k (some d) =
    (l : List ℕ) × Of S delete k l × (d ≡ deletion l (version l)) × ((x : List ℕ) → Of S delete k x → version x ≤ version l)

-- the held line for key k: the E line with the highest version, where every DE line is below it; or none where each E line
-- has a DE line at or above it
abbrev pub HeldIs : (List ℕ → Type 0) → ℕ → Option (List ℕ) → Type 0
HeldIs S k none = (x : List ℕ) → Of S event k x → (d : List ℕ) × Of S delete k d × (version x ≤ version d)
HeldIs S k (some e) =
    Of S event k e × ((x : List ℕ) → Of S event k x → version x ≤ version e) × ((x : List ℕ) → Of S delete k x → version x < version e)

-- the link that stands for key k, a triple's: the LI line with the highest version, or none if there is no LI line
abbrev pub LinkIs : (List ℕ → Type 0) → ℕ → Option (List ℕ) → Type 0
LinkIs S k none = (x : List ℕ) → Of S link k x → ⊥
LinkIs S k (some e) = (l : List ℕ) × Of S link k l × (e ≡ link_entry l) × ((x : List ℕ) → Of S link k x → wide_version x ≤ wide_version l)

pub record IsCatalogueOf (S : List ℕ → Type 0) (c : Catalogue) : Type 0 where
  pub held_ascends : AscFrom key 0 c.held
  pub deletion_ascends : AscFrom deletion_key 0 c.deletions
  pub link_ascends : AscFrom link_key 0 c.links
  pub held_is : (k : ℕ) → HeldIs S k (find key k c.held)
  pub deletion_is : (k : ℕ) → DeletionIs S k (find deletion_key k c.deletions)
  pub link_is : (k : ℕ) → LinkIs S k (find link_key k c.links)
