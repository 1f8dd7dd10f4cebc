-- One value more of the open fields so far.

use Rattle.std.proofs.Common.{append_assoc, append-nil, ◌≡◌, ℕ, ◌+◌, ◌*◌, ◌≤◌, Bool, true, false, List, [], ◌∷◌, ◌++◌, length, map, drop, refl, sym, ap, ◌∙◌, arith}
use Rattle.std.proofs.lemmas.List.{at_drop_all, length-replicate}
use Rattle.std.specs.Prelude.{flat_map, if◌then◌else◌}
use Rattle.rv_isa_laws.proofs.BytesLemmas.{little_long}
use Rattle.rv_expression_laws.specs.Values.{Value, Constant, Symbolic, Difference, Faulty}
use Rattle.rv_statement_laws.specs.Statement.{Expression}
use Rattle.rv_assemble_laws.specs.Templates.{Datum, value_bytes, value_fields}
use Rattle.rv_assemble_laws.specs.LaidStatements.{LaidPart, laid_part, part_bytes}
use Rattle.rv_assemble_laws.specs.Fields.{Field, field_at, fields_from}
use Rattle.rv_draft.specs.DataParts.{fields_said}

-- a value has the bytes of its width
pub value_long : (width : ℕ) (v : Value) → length (value_bytes width v) ≡ width
value_long width (Constant n) = little_long width n
value_long width (Symbolic q at k) = length-replicate {A = ℕ} width 0
value_long width (Difference q r k) = length-replicate {A = ℕ} width 0
value_long width (Faulty code) = length-replicate {A = ℕ} width 0

module _ (section ordinal width : ℕ) (v : Expression → Value) where
  abbrev Parts : List Expression → List LaidPart
  Parts es = map (λ e. laid_part ordinal (Datum width (v e))) es

  abbrev Own : Bool → ℕ → Expression → List Field
  Own loaded place e = if loaded then map (field_at section place) (value_fields ordinal width (v e)) else []

  joined : (loaded : Bool) (place behind : ℕ) (e : Expression) (rest : List Expression) (old : List Field) → behind ≡ place + width
      → (old ++ Own loaded place e) ++ fields_said loaded section behind (Parts rest) ≡ old ++ fields_said loaded section place (Parts (e ∷ rest))
  joined true place behind e rest old next =
      append_assoc old (map (field_at section place) (value_fields ordinal width (v e))) (fields_from section behind (Parts rest))
      ∙ ap (λ n. old ++ (map (field_at section place) (value_fields ordinal width (v e)) ++ fields_from section n (Parts rest)))
      (next ∙ ap (λ n. place + n) (sym (value_long width (v e))))
  joined false place behind e rest old next = append-nil (old ++ [])

  pub fields_more : (loaded : Bool) (place behind : ℕ) (e : Expression) (left rest : List Expression) (old new all : List Field) → left ≡ e ∷ rest → behind ≡ place + width
      → new ≡ old ++ Own loaded place e → old ++ fields_said loaded section place (Parts left) ≡ all → new ++ fields_said loaded section behind (Parts rest) ≡ all
  fields_more loaded place behind e left rest old new all here next more h =
      ap (λ l. l ++ fields_said loaded section behind (Parts rest)) more ∙ joined loaded place behind e rest old next
      ∙ ap (λ l. old ++ fields_said loaded section place (Parts l)) (sym here) ∙ h

  none_left : (loaded : Bool) (place : ℕ) (old : List Field) → old ++ fields_said loaded section place [] ≡ old
  none_left true place old = append-nil old
  none_left false place old = append-nil old

  pub fields_done : (loaded : Bool) (place i : ℕ) (es : List Expression) (old all : List Field) → length es ≤ i → old ++ fields_said loaded section place (Parts (drop i es)) ≡ all → old ≡ all
  fields_done loaded place i es old all past h =
      sym (none_left loaded place old) ∙ ap (λ l. old ++ fields_said loaded section place (Parts l)) (sym (at_drop_all (λ l. l) es i past)) ∙ h

  pub one_field : (loaded : Bool) (place : ℕ) (e : Expression) (old : List Field) → old ++ Own loaded place e ≡ old ++ fields_said loaded section place (Parts (e ∷ []))
  one_field loaded place e old =
      sym (none_left loaded (place + width) (old ++ Own loaded place e)) ∙ joined loaded place (place + width) e [] old refl

-- the templates of values
pub bytes_as : (ordinal width : ℕ) (v : Expression → Value) (es : List Expression) → flat_map (λ e. value_bytes width (v e)) es ≡ flat_map part_bytes (map (laid_part ordinal) (map (λ e. Datum width (v e)) es))
bytes_as ordinal width v [] = refl
bytes_as ordinal width v (e ∷ es) = ap (λ l. value_bytes width (v e) ++ l) (bytes_as ordinal width v es)

pub parts_as : (ordinal width : ℕ) (v : Expression → Value) (es : List Expression) → map (λ e. laid_part ordinal (Datum width (v e))) es ≡ map (laid_part ordinal) (map (λ e. Datum width (v e)) es)
parts_as ordinal width v [] = refl
parts_as ordinal width v (e ∷ es) = ap (λ l. laid_part ordinal (Datum width (v e)) ∷ l) (parts_as ordinal width v es)

-- the places of values
pub place_more : (offset width i place next : ℕ) → place ≡ offset + width * i → next ≡ place + width → next ≡ offset + width * (i + 1)
place_more offset width i place next here more =
    let all : (i + 1) * width ≡ i * width + width = omega arith in
    omega (arith, here, more, all)
