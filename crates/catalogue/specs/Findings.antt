-- What the code finds of a line's pair before it decides, and what it answers after.
use Rattle.std.specs.Prelude.{ℕ, suc, ◌≤◌, ◌≡◌, ◌⊎◌, List, length, Result, Ok, Err}
use Rattle.catalogue.specs.Answers.{Deed}
use Rattle.catalogue.specs.declared.decide.Deed.TheVariants.{Leave, Hold, Note, Wipe, Link}
use Rattle.catalogue.specs.declared.decide.Notice.{Notice}
use Rattle.catalogue.specs.declared.decide.Notice.TheVariants.{Event, Delete, Blank}
use Rattle.catalogue.specs.declared.decide.Findings.{Findings}
use Rattle.catalogue.specs.declared.take.Receipt.{Receipt}
use Rattle.catalogue.specs.Assoc.{put}
use Rattle.catalogue.specs.Line.{Kind, event, delete, blank, kind, key, deletion, deletion_key}
use Rattle.catalogue.specs.Catalogue.{named}
use Rattle.catalogue.specs.Room.{contents, call_of, room_after}
use Rattle.catalogue.specs.Ordered.{Ordered}
use Rattle.catalogue.specs.Entries.{Inside, Sought, IsPlaceOf}
use Rattle.catalogue.specs.Places.{held_in, deletions_in}

-- the kind of line that a notice is
abbrev pub notice_kind : Notice → Kind
notice_kind Event = event
notice_kind Delete = delete
notice_kind Blank = blank

-- the pair is in the section
abbrev pub IsFound : Result ℕ ℕ → Type 0
IsFound (Ok i) = Unit {0}
IsFound (Err i) = ⊥

-- held lines and deletions lie in the room's bytes, and both places in their sections
pub record Placed (r : List ℕ) (f : Findings) : Type 0 where
  pub held_inside : Inside f.held r
  pub deletions_inside : Inside f.deletions r
  pub held_size : f.held.size ≡ 80
  pub deletion_size : f.deletions.size ≡ 11
  pub held_place : IsPlaceOf f.in_held f.held.count
  pub deletion_place : IsPlaceOf f.in_deletions f.deletions.count

-- held lines and deletions of the room, and where the line's pair stands in each; for an event whose pair is held, the deletions were not searched
pub record Known (r l : List ℕ) (f : Findings) : Type 0 where
  pub held_is : f.held ≡ held_in r
  pub deletions_are : f.deletions ≡ deletions_in r
  pub in_held : Sought key (key l) (contents r).held f.in_held
  pub in_deletions : Sought deletion_key (key l) (contents r).deletions f.in_deletions ⊎ ((kind l ≡ event) × IsFound f.in_held × (f.in_deletions ≡ Err 0))

-- a deletion of the line's pair can be put at its place among the deletions
pub record Notable (r l : List ℕ) (v : ℕ) (s : Result ℕ ℕ) : Type 0 where
  pub long : 13 ≤ length l
  pub place : Sought deletion_key (key l) (contents r).deletions s
  pub few : length (put deletion_key (deletion l v) (contents r).deletions) ≤ 512

-- how many pairs are named after it
abbrev pub one_more_named : Result ℕ ℕ → Result ℕ ℕ → ℕ → ℕ
one_more_named (Ok i) d n = n
one_more_named (Err i) (Ok j) n = n
one_more_named (Err i) (Err j) n = suc n

abbrev pub named_after : Deed → Result ℕ ℕ → Result ℕ ℕ → ℕ → ℕ
named_after (Leave m) h d n = n
named_after (Hold m) h d n = one_more_named h d n
named_after (Note v) h d n = one_more_named h d n
named_after (Wipe v) h d n = one_more_named h d n
named_after (Link m) h d n = n

-- a line was taken into a room in order: the call's answer, the room after it, which stays in order, and the pairs named then
pub record Took (r l after : List ℕ) (t : Receipt) : Type 0 where
  pub call_is : t.call ≡ call_of r l
  pub room_is : after ≡ room_after r l
  pub ordered : Ordered after
  pub named_are : t.named ≡ named (contents after)
