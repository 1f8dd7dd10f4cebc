-- What names mean does not depend on where definitions stand, nor on which sections are dropped.

use Rattle.std.proofs.Common.{◌≡◌, ℕ, suc, List, [], ◌∷◌, map, refl, subst, sym, ap, ◌∙◌}
use Rattle.rv_map_laws.specs.Globals.{AreDistinct}
use Rattle.rv_map_laws.specs.declared.map.SectionId.{SectionId}
use Rattle.rv_object_laws.specs.Object.{Object}
use Rattle.rv_object_laws.specs.Bindings.{is_global}
use Rattle.rv_link_laws.specs.Names.{global_names}
use Rattle.rv_link_laws.specs.Without.{without, without_from}
use Rattle.rv_names.specs.declared.names.Names.{Names}
use Rattle.rv_names.specs.Chosen.{seen, seen_of, definers_from, definers_of, names_in}
use Rattle.rv_names.specs.Names.{AnswersFirst, outside, IsNames}
use Rattle.rv_names.proofs.ChosenLemmas.{global_names_are}

pub same_names : (os left : List Object) → seen_of left ≡ seen_of os → global_names left ≡ global_names os
same_names os left same = sym (global_names_are left) ∙ ap (λ q. names_in (definers_from is_global 0 q)) same ∙ global_names_are os

pub still_names : (os left : List Object) (names : Names) → seen_of left ≡ seen_of os → IsNames os names → IsNames left names
still_names os left names same h = record {
  answers = subst (λ q. AnswersFirst (definers_of q) names.definitions) (sym same) h.answers;
  distinct = subst AreDistinct (sym (same_names os left same)) h.distinct;
  meanings = h.meanings ∙ ap (λ q. map (map (outside (definers_of q))) q) (sym same);
}

-- ---- objects without sections that are dropped

seen_left_from : (drops : List SectionId) (file : ℕ) (os : List Object) → seen_of (without_from drops file os) ≡ seen_of os
seen_left_from drops file [] = refl
seen_left_from drops file (o ∷ os) = ap (λ l. map seen o.symbols ∷ l) (seen_left_from drops (suc file) os)

pub seen_left : (drops : List SectionId) (os : List Object) → seen_of (without drops os) ≡ seen_of os
seen_left drops os = seen_left_from drops 1 os

pub names_left : (drops : List SectionId) (os : List Object) (names : Names) → IsNames os names → IsNames (without drops os) names
names_left drops os names h = still_names os (without drops os) names (seen_left drops os) h
