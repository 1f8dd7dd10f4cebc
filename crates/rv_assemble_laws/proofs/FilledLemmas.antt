-- The statements of a section end where its bytes end.

use Rattle.std.proofs.Common.{◌≡◌, ℕ, ◌+◌, List, [], ◌∷◌, ◌++◌, length, refl, sym, ap, ◌∙◌, arith, length-append}
use Rattle.std.specs.Prelude.{flat_map}
use Rattle.rv_unit_laws.specs.Tables.{Tables}
use Rattle.rv_assemble_laws.specs.LaidStatements.{LaidStatement, LaidPart, Tile, end_of, part_bytes, parts, parts_of}

pub bytes_append : (xs ys : List LaidPart) → flat_map part_bytes (xs ++ ys) ≡ flat_map part_bytes xs ++ flat_map part_bytes ys
bytes_append [] ys = refl
bytes_append (x ∷ xs) ys = ap (λ l. part_bytes x ++ l) (bytes_append xs ys) ∙ sym (append_assoc (part_bytes x) (flat_map part_bytes xs) (flat_map part_bytes ys))
  where
    append_assoc : (xs bs cs : List ℕ) → (xs ++ bs) ++ cs ≡ xs ++ (bs ++ cs)
    append_assoc [] bs cs = refl
    append_assoc (a ∷ xs) bs cs = ap (λ l. a ∷ l) (append_assoc xs bs cs)

pub filled : (t : Tables) (offset : ℕ) (laid : List LaidStatement) → Tile t offset laid → end_of offset laid ≡ offset + length (flat_map part_bytes (parts t laid))
filled t offset [] h = omega arith
filled t offset (s ∷ ss) (at, bytes, h) =
    let own = flat_map part_bytes (parts_of t s) in
    let rest = flat_map part_bytes (parts t ss) in
    let joined : length (flat_map part_bytes (parts t (s ∷ ss))) ≡ length own + length rest =
    ap length (bytes_append (parts_of t s) (parts t ss)) ∙ length-append own rest in
    let ih = filled t (offset + s.bytes) ss h in omega (arith, joined, bytes, ih)
