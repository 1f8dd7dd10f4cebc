-- What follows from the definitions of IsObjectOf, for all who cite them.

use Rattle.rv_unit_laws.specs.declared.section_type.SectionType.TheVariants as types
use Rattle.std.proofs.Common.{◌≡◌, ℕ, ◌+◌, List, [], ◌∷◌, ◌++◌, length, length-append, refl, sym, ap, ◌∙◌, arith, map}
use Rattle.std.specs.Prelude.{flat_map}
use Rattle.rv_unit_laws.specs.declared.section_type.SectionType.{SectionType}
use Rattle.rv_object_laws.specs.Object.{Relocation, size_of}
use Rattle.rv_assemble_laws.specs.Templates.{template_fields}
use Rattle.rv_assemble_laws.specs.LaidStatements.{LaidPart, part_bytes}
use Rattle.rv_assemble_laws.specs.IsObjectOf.{Numbering, relocation_at, relocations_from, contents_of}

pub relocations_join : (number : Numbering) (offset : ℕ) (xs ys : List LaidPart)
    → relocations_from number offset (xs ++ ys) ≡ relocations_from number offset xs ++ relocations_from number (offset + length (flat_map part_bytes xs)) ys
relocations_join number offset [] ys = ap (λ n. relocations_from number n ys) (let e : offset ≡ offset + 0 = omega arith in e)
relocations_join number offset (q ∷ xs) ys =
    let next = offset + length (part_bytes q) in
    let fs = map (relocation_at number offset) (template_fields q.ordinal q.template) in
    let long : length (part_bytes q ++ flat_map part_bytes xs) ≡ length (part_bytes q) + length (flat_map part_bytes xs) = length-append (part_bytes q) (flat_map part_bytes xs) in
    ap (λ l. fs ++ l) (relocations_join number next xs ys)
    ∙ ap (λ n. fs ++ (relocations_from number next xs ++ relocations_from number n ys))
    (let e : next + length (flat_map part_bytes xs) ≡ offset + length (part_bytes q ++ flat_map part_bytes xs) = omega (arith, long) in e)
    ∙ sym (assoc fs (relocations_from number next xs) (relocations_from number (offset + length (flat_map part_bytes (q ∷ xs))) ys))
  where
    assoc : (as' bs cs : List Relocation) → (as' ++ bs) ++ cs ≡ as' ++ (bs ++ cs)
    assoc [] bs cs = refl
    assoc (r ∷ as') bs cs = ap (λ l. r ∷ l) (assoc as' bs cs)

pub stored_size : (kind : SectionType) (count : ℕ) (bytes : List ℕ) → count ≡ length bytes → size_of (contents_of kind count bytes) ≡ count
stored_size types.Progbits count bytes e = sym e
stored_size types.Note count bytes e = sym e
stored_size types.Nobits count bytes e = refl
