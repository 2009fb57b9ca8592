-- A room after a list of lines: it follows the catalogue, line by line.
use Prim.Native.Nat.{ℕ}
use mathlib.Core.Path.{◌≡◌, refl, sym, ◌∙◌, ap}
use mathlib.Core.List.{List, [], ◌∷◌, ◌++◌}
use Rattle.catalogue.specs.Line.{event, delete, link}
use Rattle.catalogue.specs.Catalogue.{Catalogue, empty}
use Rattle.catalogue.specs.Taking.{step, run}
use Rattle.catalogue.specs.Lists.{Bounded}
use Rattle.catalogue.specs.Last.{last_highest, deletion_for, last_catalogue}
use Rattle.catalogue.specs.Room.{encode, room_after, feed}
use Rattle.catalogue.specs.Ordered.{Ordered}
use Rattle.catalogue.specs.Demand.{zeroed}
use Rattle.catalogue.proofs.laws.step.Good.{Good, empty_good}
use Rattle.catalogue.proofs.laws.step.Keep.{step_good}
use Rattle.catalogue.proofs.laws.room.Encode.{zeroed_empty}
use Rattle.catalogue.proofs.laws.room.View.{room_step}
use Rattle.catalogue.proofs.laws.room.Untouched.{room_idle}
use Rattle.catalogue.proofs.laws.demand.Follows.{run_last, last_agree}

-- no line, and one line more
pub feed_none : (room : List ℕ) → feed room [] ≡ room
unfolding feed
feed_none room = refl

pub feed_more : (room l : List ℕ) (ls : List (List ℕ)) → feed room (l ∷ ls) ≡ feed (room_after room l) ls
unfolding feed
feed_more room l ls = refl

-- the room of a good catalogue, and what stands past it
pub feed_run : (ls : List (List ℕ)) (c : Catalogue) → Good c → (z : List ℕ) → feed (encode c ++ z) ls ≡ encode (run c ls) ++ z
unfolding feed run
feed_run [] c g z = refl
feed_run (l ∷ ls) c g z = ap (λ (r : List ℕ). feed r ls) (room_step c z l g) ∙ feed_run ls (step c l).after (step_good c g l) z

-- a zeroed room
pub feed_zeroed : (ls : List (List ℕ)) (z : List ℕ) → feed (zeroed z) ls ≡ encode (run empty ls) ++ z
feed_zeroed ls z = ap (λ (r : List ℕ). feed (r ++ z) ls) zeroed_empty ∙ feed_run ls empty empty_good z

-- a room too short or not in order
pub feed_idle : (room : List ℕ) → (Ordered room → ⊥) → (ls : List (List ℕ)) → feed room ls ≡ room
unfolding feed
feed_idle room out [] = refl
feed_idle room out (l ∷ ls) = ap (λ (r : List ℕ). feed r ls) (room_idle room out l) ∙ feed_idle room out ls

-- ---- lists of which nothing is asked but room and versions: E and LI lines may share all but their text and yet differ

-- the last received counts
pub feed_last : (ls : List (List ℕ)) → Bounded ls → (z : List ℕ) → feed (zeroed z) ls ≡ encode (last_catalogue ls) ++ z
feed_last ls s z = feed_zeroed ls z ∙ ap (λ (c : Catalogue). encode c ++ z) (run_last ls s)

pub feed_agree : (ls ms : List (List ℕ)) → Bounded ls → Bounded ms → ((k : ℕ) → last_highest event k ls ≡ last_highest event k ms)
    → ((k : ℕ) → deletion_for (last_highest delete k ls) ≡ deletion_for (last_highest delete k ms)) → ((k : ℕ) → last_highest link k ls ≡ last_highest link k ms)
    → (z : List ℕ) → feed (zeroed z) ls ≡ feed (zeroed z) ms
feed_agree ls ms s t f g h z = feed_zeroed ls z ∙ ap (λ (c : Catalogue). encode c ++ z) (last_agree ls ms f g h s t) ∙ sym (feed_zeroed ms z)
