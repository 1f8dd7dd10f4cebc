-- Records of relocations, one after the other.

use Rattle.std.proofs.Common.{◌≡◌, List, [], ◌∷◌, ◌++◌, map, Some, None, ap, sym, ◌∙◌}
use Rattle.std.specs.List.{cons_option}
use Rattle.std.proofs.lemmas.List.{append_assoc, map-append}
use Rattle.rv_elf_laws.specs.declared.rela.Rela.{Rela}
use Rattle.rv_object_types.specs.declared.relocation.Relocation.{Relocation as DeclaredRelocation}
use Rattle.rv_object_laws.specs.Object.{Relocation}
use Rattle.rv_object_types.specs.Parts.{relocation_of}
use Rattle.rv_object_file_laws.specs.Parts.{relocation_in, relocations_in}

-- one record further, whose relocation is added
pub relas_some : (whole : List Relocation) (made new : List DeclaredRelocation) (r : Rela) (x : DeclaredRelocation) (left rest : List Rela) →
    map relocation_of made ++ relocations_in left ≡ whole → left ≡ r ∷ rest → Some (relocation_of x) ≡ relocation_in r → new ≡ made ++ x ∷ [] →
    map relocation_of new ++ relocations_in rest ≡ whole
relas_some whole made new r x left rest was cut is more =
    ap (λ ys. map relocation_of ys ++ relocations_in rest) more
    ∙ ap (λ ys. ys ++ relocations_in rest) (map-append relocation_of made (x ∷ []))
    ∙ append_assoc (map relocation_of made) (relocation_of x ∷ []) (relocations_in rest)
    ∙ ap (λ o. map relocation_of made ++ cons_option o (relocations_in rest)) is
    ∙ ap (λ rs. map relocation_of made ++ relocations_in rs) (sym cut) ∙ was

-- one that has none
pub relas_none : (whole : List Relocation) (made : List DeclaredRelocation) (r : Rela) (left rest : List Rela) →
    map relocation_of made ++ relocations_in left ≡ whole → left ≡ r ∷ rest → None ≡ relocation_in r →
    map relocation_of made ++ relocations_in rest ≡ whole
relas_none whole made r left rest was cut is =
    ap (λ o. map relocation_of made ++ cons_option o (relocations_in rest)) is
    ∙ ap (λ rs. map relocation_of made ++ relocations_in rs) (sym cut) ∙ was
