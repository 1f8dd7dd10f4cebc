-- Collection drops nothing of the worked program.

use Rattle.std.proofs.Common.{◌≡◌, Bool, true, false, [], ◌∷◌, refl, ap, ◌∙◌, inl, inr}
use Rattle.std.proofs.lemmas.Bool.{and_parts, or_cases, eqb-true}
use Rattle.std.specs.Prelude.{◌&&◌, ◌==◌}
use Rattle.rv_map_laws.specs.declared.map.SectionId.{SectionId}
use Rattle.rv_collect_laws.specs.Graph.{is_one_of, Graph, Marks, IsClosed, AreDrops}
use Rattle.rv_source_laws.specs.Collected.{graph_of}
use Rattle.rv_examples.specs.Exit7.{exit7}

-- its one section with an address is the text, where the run begins
abbrev its : Graph
its = graph_of (exit7 ∷ [])

-- a set with what begins has all of them
all_in : (others : Marks) → IsClosed its others → (s : SectionId) → is_one_of its.sections s ≡ true → others s ≡ true
all_in others closed s has = closed.first s has begins
  where
    same : ((s.file == 1) && (s.section == 1)) ≡ true
    same = elim (or_cases ((s.file == 1) && (s.section == 1)) false has) [ inl it ↦ it | inr none ↦ absurd (let e : false ≡ true = none in cc) ]

    begins : its.begins s ≡ true
    begins =
        let parts = and_parts (s.file == 1) (s.section == 1) same in
        ap (λ n. (1 == n) && (1 == s.section)) (eqb-true s.file 1 parts.0) ∙ ap (λ n. (1 == 1) && (1 == n)) (eqb-true s.section 1 parts.1)

pub collected : (gc : Bool) → AreDrops gc its []
collected false = refl
collected true = (
  is_one_of its.sections,
  record {
    closed = record { first = λ s has begins. has; further = λ s t marked has refers. has };
    least = λ others closed s marked. all_in others closed s marked;
  },
  refl,
)
