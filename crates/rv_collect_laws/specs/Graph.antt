-- Which sections stay: the least set that holds those with which it begins and, with each section,
-- those to which it refers (GNU ld, "--gc-sections"). It is said as a set, and not as a walk: any
-- order of marking finds it, so how the code queues is its own affair. Nothing here knows what a
-- section holds, or why one refers to another.

use Rattle.std.specs.Prelude.{◌≡◌, ℕ, suc, Bool, true, false, not, ◌&&◌, ◌==◌, List, [], ◌∷◌, filter}
use Rattle.std.specs.List.{list_any}
use Rattle.rv_map_laws.specs.declared.map.SectionId.{SectionId}

-- the same section of the same file
abbrev pub is_same : SectionId → SectionId → Bool
is_same a b = (a.file == b.file) && (a.section == b.section)

-- a section is in a list
abbrev pub is_one_of : List SectionId → SectionId → Bool
is_one_of sections s = list_any (is_same s) sections

-- sections, with which of them a set begins, and which of them refers to which
pub record Graph : Type 0 where
  pub sections : List SectionId
  pub begins : SectionId → Bool
  pub refers : SectionId → SectionId → Bool

-- a set of sections
abbrev pub Marks : Type 0
Marks = SectionId → Bool

-- a section is one of the graph
abbrev pub Has : Graph → SectionId → Type 0
Has g s = is_one_of g.sections s ≡ true

-- a set with all beginnings, from which nothing leads out to another section of the graph
pub record IsClosed (g : Graph) (marks : Marks) : Type 0 where
  pub first : (s : SectionId) → Has g s → g.begins s ≡ true → marks s ≡ true
  pub further : (s t : SectionId) → marks s ≡ true → Has g t → g.refers s t ≡ true →
      marks t ≡ true

-- the closed set that lies in every other
pub record IsLeastClosed (g : Graph) (marks : Marks) : Type 0 where
  pub closed : IsClosed g marks
  pub least : (others : Marks) → IsClosed g others → (s : SectionId) → marks s ≡ true →
      others s ≡ true

-- sections marked one after the other, in any order, the last one first: each is new, and begins or
-- follows from one that is marked
pub data Marking (g : Graph) : List SectionId → Type 0 where
  Unmarked : Marking g []
  Begins : (done : List SectionId) (t : SectionId) → Marking g done → Has g t →
      is_one_of done t ≡ false → g.begins t ≡ true → Marking g (t ∷ done)
  Follows : (done : List SectionId) (s t : SectionId) → Marking g done → is_one_of done s ≡ true →
      Has g t → is_one_of done t ≡ false → g.refers s t ≡ true → Marking g (t ∷ done)

-- the sections outside a set, in their order
abbrev pub outside : Marks → List SectionId → List SectionId
outside marks sections = filter (λ s. not (marks s)) sections

-- what collection drops: where it is on, the sections outside the least closed set
abbrev pub AreDrops : (gc : Bool) → Graph → List SectionId → Type 0
AreDrops false g drops = drops ≡ []
AreDrops true g drops =
    (marks : Marks) × IsLeastClosed g marks × (drops ≡ outside marks g.sections)

-- the sections of a graph that stay beside what is dropped
abbrev pub staying : Graph → List SectionId → Marks
staying g drops s = is_one_of g.sections s && not (is_one_of drops s)

-- a section is dropped, by its file from 1 and its index there from 0
abbrev pub is_dropped : List SectionId → (file index : ℕ) → Bool
is_dropped drops file index = is_one_of drops (record { file = file; section = suc index })

-- two graphs with the same sections that begin and refer alike; what refers to itself is no matter
pub record AreAlike (g h : Graph) : Type 0 where
  pub sections : g.sections ≡ h.sections
  pub begins : (s : SectionId) → Has g s → g.begins s ≡ h.begins s
  pub refers : (s t : SectionId) → Has g s → Has g t → is_same s t ≡ false →
      g.refers s t ≡ h.refers s t
