-- What stays of a statement whose section collection dropped: all but the address of its section.

use Rattle.std.proofs.Common.{◌≡◌, ℕ, Bool, true, false, List, [], ◌∷◌, map, refl, Some}
use Rattle.std.specs.Prelude.{slice_get}
use Rattle.std.specs.List.{AllByRecursion}
use Rattle.rv_map_laws.specs.declared.map.SectionId.{SectionId}
use Rattle.rv_collect_laws.specs.Graph.{is_dropped}
use Rattle.rv_statement_laws.specs.Statement.{StatementKind, Label, Numbered, Instruction, Directs, Values, Strings, Zeros}
use Rattle.rv_unit_laws.specs.Contributions.{Contribution, Bytes, contribution}
use Rattle.rv_unit_laws.specs.Sections.{Section, goes_to_text}
use Rattle.rv_source_laws.specs.Located.{Located, without_address, left_of}
use Rattle.rv_source_laws.proofs.HeldLemmas.{ContributionHeld, IsHeld, Held}
use Rattle.rv_source_laws.proofs.HomesLemmas.{IsHomeIn}

-- what each statement says of what is left of it
pub all_left : (P Q : Located → Type 0) (drops : List SectionId) (ss : List Located) → ((s : Located) → P s → Q (left_of drops s)) → AllByRecursion P ss → AllByRecursion Q (map (left_of drops) ss)
all_left P Q drops [] f h = tt
all_left P Q drops (s ∷ ss) f (p, ps) = (f s p, all_left P Q drops ss f ps)

-- ---- a section without its address can hold the same

contribution_left : (dropped : Bool) (home : Section) (c : Contribution) → ContributionHeld home c → ContributionHeld (without_address dropped home) c
contribution_left false home c h = h
contribution_left true home (Bytes (Values width values)) h = h
contribution_left true home (Bytes (Strings ended strings)) h = h
contribution_left true home (Bytes (Zeros count)) h = h
contribution_left true home _ h = tt

pub is_held_left : (dropped : Bool) (home : Section) (says : StatementKind) → IsHeld home says → IsHeld (without_address dropped home) says
is_held_left false home says h = h
is_held_left true home (Label name) h = tt
is_held_left true home (Numbered number) h = tt
is_held_left true home (Instruction mnemonic operands) h = h
is_held_left true home (Directs directive) h = contribution_left true home (contribution directive) h

pub held_left : (drops : List SectionId) (s : Located) → Held s → Held (left_of drops s)
held_left drops s h = is_held_left (is_dropped drops s.file s.section) s.home s.kind h

-- what of it goes to the text went there before
pub text_left : (dropped : Bool) (home : Section) → goes_to_text (without_address dropped home) ≡ true → goes_to_text home ≡ true
text_left false home e = e
text_left true home e = absurd (cc)

-- ---- where it stands

-- a statement stands in a section of its file, which has no address where it is dropped
abbrev pub IsLeftIn : List SectionId → (ℕ → List Section) → Located → Type 0
IsLeftIn drops sections t =
    (x : Section) × (slice_get (sections t.file) t.section ≡ Some x) × (t.home ≡ without_address (is_dropped drops t.file t.section) x)

pub home_left : (drops : List SectionId) (sections : ℕ → List Section) (s : Located) → IsHomeIn sections s → IsLeftIn drops sections (left_of drops s)
home_left drops sections s h = (s.home, h, refl)
