-- The walk from the entry to all that stays.

use Rattle.std.specs.Prelude.{◌≡◌, ◌≤◌, ℕ, true, List, [], ◌∷◌, ◌++◌, length, take, Option}
use Rattle.rv_map_laws.specs.declared.map.SectionId.{SectionId}
use Rattle.rv_object_laws.specs.Object.{Object}
use Rattle.rv_link_laws.specs.Collects.{graph_of, entry_place, lies_in, refers}
use Rattle.rv_link_laws.specs.Names.{Place}
use Rattle.rv_object_types.specs.declared.place.FileIndex.{FileIndex}
use Rattle.rv_object_types.specs.declared.place.SectionIndex.{SectionIndex}
use Rattle.rv_collect.specs.declared.walk.Walk.{Walk}
use Rattle.rv_collect.specs.Drops.{id_at}
use Rattle.rv_collect.specs.Marks.{AreLike, is_marked}
use Rattle.rv_collect_laws.specs.Graph.{Graph, Has, Marking, is_one_of}

-- the sections of a queue, the last one first, and behind them others
abbrev pub done_of : List SectionId → List (FileIndex × SectionIndex) → List SectionId
done_of done [] = done
done_of done (q ∷ qs) = done_of (id_at q.0.0 q.1.0 ∷ done) qs

abbrev pub queued : Walk → List SectionId
queued w = done_of [] w.queue.items

-- the marked sections are those of the queue, and each of them stays
pub record IsWalk (os : List Object) (w : Walk) : Type 0 where
  pub marking : Marking (graph_of os) (queued w)
  pub same : (s : SectionId) → is_marked w.marks s ≡ is_one_of (queued w) s
  pub like : AreLike os w.marks
  pub has : (s : SectionId) → is_marked w.marks s ≡ true → Has (graph_of os) s
  pub few : length w.queue.items ≤ length (Graph.sections (graph_of os))

-- a section stays where these are marked: it is the entry's, or a marked one refers to it
pub data IsReached (os : List Object) (w : Walk) (t : SectionId) : Type 0 where
  Entered : lies_in t (entry_place os) ≡ true → IsReached os w t
  Referred : (s : SectionId) → is_marked w.marks s ≡ true → refers os s t ≡ true →
      IsReached os w t

-- what was marked stays so, and the queue grows at its end
pub record Grows (before after : Walk) : Type 0 where
  pub more : List (FileIndex × SectionIndex)
  pub queue : after.queue.items ≡ before.queue.items ++ more
  pub marks : (s : SectionId) → is_marked before.marks s ≡ true → is_marked after.marks s ≡ true

-- a section is marked, if it has an address
abbrev pub IsMarked : List Object → Walk → SectionId → Type 0
IsMarked os w t = Has (graph_of os) t → is_marked w.marks t ≡ true

-- the section of a place is
abbrev pub IsPlaceMarked : List Object → Walk → Option Place → Type 0
IsPlaceMarked os w p = (t : SectionId) → lies_in t p ≡ true → IsMarked os w t

-- all to which a section refers are
abbrev pub AreFollowed : List Object → Walk → SectionId → Type 0
AreFollowed os w s = (t : SectionId) → refers os s t ≡ true → IsMarked os w t

-- all to which the first so many sections of the queue refer are
abbrev pub AreFollowedTo : List Object → Walk → ℕ → Type 0
AreFollowedTo os w next =
    (s : SectionId) → is_one_of (done_of [] (take next w.queue.items)) s ≡ true →
    AreFollowed os w s

-- a walk that has come to its end: no section is left to mark
pub record IsEnded (os : List Object) (w : Walk) : Type 0 where
  pub walk : IsWalk os w
  pub begun : IsPlaceMarked os w (entry_place os)
  pub followed : (s : SectionId) → is_marked w.marks s ≡ true → AreFollowed os w s
